-- The keys that a rule asks for: of lower rank, and all that are needed where the outcome is a value.
use Rattle.std.proofs.Common.{◌≡◌, ◌<◌, sym, ◌∙◌, ap, subst, refl, Option, Some, None, Result, Ok}
use Rattle.std.specs.Prelude.{All, Contains, List, IfOk}
use Rattle.std.specs.declared.alloc.AllocError.{AllocError}
use Rattle.fp_field.specs.declared.prime.Prime.{Prime}
use Rattle.fp_field.specs.Field.{number}
use Rattle.values.specs.Asks.{Ask, Answer}
use Rattle.values.specs.Outcomes.{usual_limits, outcome, is_value, is_over, Outcome as OutcomeOf}
use Rattle.values.specs.Ranks.{IsValid, IsLower}
use Rattle.oracle_iface.specs.Forcing.{CoversAtValue}
use Rattle.oracle_iface.specs.KeyLaws.{IsReadBack}
use Rattle.oracle_iface.specs.KeyRanks.{rank_of}
use Rattle.oracle_iface.specs.Keys.{question_of, key_of, needs_of, IsValidKey, quote_body}
use Rattle.oracle_iface.specs.Stands.{IsOutcome, quote_outcome, refusal_in}
use Rattle.oracle_iface.specs.declared.bodies.Body.{Body}
use Rattle.oracle_iface.specs.declared.bodies.Outcome.{Outcome}
use Rattle.oracle_iface.specs.declared.bodies.Outcome.TheVariants.{Value}
use Rattle.oracle_iface.specs.declared.bodies.Over.{Over}
use Rattle.oracle_iface.specs.declared.keys.Key.{Key}
use Rattle.oracle_iface.proofs.KeyRanks.{lower-rank}
use Rattle.force_engine.specs.Fronts.{key_rank}
use Rattle.force_engine.specs.Ways.{HasValue}

-- the key of a valid question of lower rank has a lower rank
pub lower_key : (p : Prime) (q : Ask) (k : Key) → IsValidKey (key_of p q) → IsLower (number p) q (question_of k) → IsReadBack p q
    → key_rank (key_of p q) < key_rank k
lower_key p q k valid low back =
    subst (λ j. rank_of j < rank_of (question_of k)) (sym back) (lower-rank (number p) q (question_of k) (subst (λ j. IsValid (number p) j) back valid.question) low)

abbrev is_some_over : Option Over → Type 0
is_some_over (Some e) = Unit {0}
is_some_over None = ⊥

-- an outcome that meets no refusal is a value
value_is : (p : Prime) (q : Ask) (w : OutcomeOf (Answer q)) → refusal_in p w ≡ None → (b : Body) × (quote_outcome p q w ≡ Value b)
value_is p q (is_value v) e = (quote_body p q v, refl)
value_is p q (is_over x) e = absurd (subst is_some_over e tt)

pub covered : (key : Key) (r : Result Outcome AllocError) (o : Outcome) → r ≡ Ok o → (asks : List Ask) → IfOk r (λ z. IsOutcome key z) → CoversAtValue r asks (needs_of key) → HasValue key
    → All (Contains asks) (needs_of key)
covered key r o is asks out whole has =
    let this : IsOutcome key o = subst (λ (z : Result Outcome AllocError). IfOk z (λ x. IsOutcome key x)) is out in
    let v = value_is key.prime (question_of key) (outcome usual_limits (number key.prime) (question_of key)) has in
    subst (λ (z : Result Outcome AllocError). CoversAtValue z asks (needs_of key)) (is ∙ ap Ok (this ∙ v.1)) whole
