use Rattle.std.proofs.Common.{◌≡◌, ℕ, refl, subst}
use Rattle.std.specs.Prelude.{Contains}
use Rattle.std.proofs.lemmas.List.Elements.{All-weaker}
use Rattle.fp_field.specs.declared.prime.Prime.{Prime}
use Rattle.fp_field.specs.Field.{number}
use Rattle.values.specs.Asks.{Ask}
use Rattle.values.specs.BaseLaws.{IsSimple, NeedsAreBelow}
use Rattle.values.specs.Outcomes.{outcome, made_with, usual_limits}
use Rattle.values.specs.Ranks.{IsValid, space_of}
use Rattle.values.specs.Values.{needs}
use Rattle.values.proofs.BasesDepth.{each-asked}
use Rattle.values.proofs.BasesRows.{simple-less, simple-outcome_back, all-outcomes}
use Rattle.values.proofs.Readings.{EachAsk, each_ask}
use Rattle.oracle_iface.specs.declared.keys.Key.{Key}
use Rattle.oracle_iface.specs.Keys.{question_of, key_of, IsValidKey}
use Rattle.core_board.specs.Interleavings.{IsGivenBack, AllMadeIsRight}
use Rattle.core_board.proofs.MadeOver.{all-right}
use Rattle.core_board.proofs.laws.interleavings.Goals as goal

-- the question of a key of a kind
abbrev Asked : (Key → Type 0) → ℕ → Ask → Type 0
Asked Kind p q = (k : Key) × Kind k × (number k.prime ≡ p) × (question_of k ≡ q)

of_kind : (Kind : Key → Type 0)
    → ((k : Key) (q : Ask) → Kind k → Contains (needs (number k.prime) (question_of k)) q → Asked Kind (number k.prime) q)
    → ((k : Key) → Kind k → IsGivenBack k) → AllMadeIsRight Kind
of_kind Kind closed back keys events given all =
    all-right (Asked Kind) closed_at back_at keys events given (All-weaker Kind (λ k. Asked Kind (number k.prime) (question_of k)) (λ k t. (k, t, refl, refl)) keys all)
  where
    closed_at : (p : ℕ) (q : Ask) → Asked Kind p q → EachAsk (Asked Kind p) (needs p q)
    closed_at p q a =
        subst (λ n. EachAsk (Asked Kind n) (needs n q)) a.2
        (subst (λ r. EachAsk (Asked Kind (number a.0.prime)) (needs (number a.0.prime) r)) a.3
        (each-asked (Asked Kind (number a.0.prime)) (needs (number a.0.prime) (question_of a.0)) (λ j c. closed a.0 j a.1 c)))

    back_at : (p : ℕ) (q : Ask) → Asked Kind p q → outcome usual_limits p q ≡ made_with usual_limits p (outcome usual_limits p) q
    back_at p q a =
        subst (λ n. outcome usual_limits n q ≡ made_with usual_limits n (outcome usual_limits n) q) a.2
        (subst (λ r. outcome usual_limits (number a.0.prime) r ≡ made_with usual_limits (number a.0.prime) (outcome usual_limits (number a.0.prime)) r) a.3 (back a.0 a.1))

pub returns-clause-treated : goal.returns-clause-treated
returns-clause-treated g c back =
    of_kind (g.R.RuleSet.treats c.args.rules.now)
    (λ k q t n. (key_of k.prime q, (g.R.RuleSet.lower c.args.rules.now k q t n).0, refl, g.R.RuleSet.back c.args.rules.now k q t n)) back

-- the valid questions over a prime
abbrev IsValidAt : ℕ → Ask → Type 0
IsValidAt p q = (r : Prime) × (number r ≡ p) × IsValid p q

pub returns-clause-valid : goal.returns-clause-valid
returns-clause-valid g c u keys events given all =
    all-right IsValidAt
    (λ p q v. each-asked (IsValidAt p) (needs p q) (λ j n. (v.0, v.1, (below p v.0 v.1 q v.2 j n).0)))
    (λ p q v. all-outcomes p usual_limits (below p v.0 v.1) q v.2)
    keys events given (All-weaker IsValidKey (λ k. IsValidAt (number k.prime) (question_of k)) (λ k v. (k.prime, refl, v.question)) keys all)
  where
    below : (p : ℕ) (r : Prime) → number r ≡ p → (q : Ask) → IsValid p q → NeedsAreBelow p q
    below p r is = subst (λ n. (q : Ask) → IsValid n q → NeedsAreBelow n q) is (u r)

pub returns-clause-simple : goal.returns-clause-simple
returns-clause-simple g c keys events given all =
    all-right (λ p q. IsSimple (space_of q)) (λ p q s. each_ask (needs p q) (λ j e. e.0) (simple-less p q s)) (λ p q s. simple-outcome_back usual_limits p q s) keys events given all
