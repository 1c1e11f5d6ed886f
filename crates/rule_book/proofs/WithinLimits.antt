-- The outcomes of keys that are at a place within the limits, and those of keys about tables and spheres, which are answered at once.
use Rattle.std.proofs.Common.{◌≡◌, ℕ, true, false, [], Option, Some, None, refl, sym, ◌∙◌, ap, subst}
use Rattle.fp_field.specs.Field.{number}
use Rattle.spaces.specs.Tables.{Table}
use Rattle.spaces.specs.Spaces.{Space, table, sphere, product, suspension, kz1, bundle, loops, paths, kzm1, cyclic_bundle, Plain}
use Rattle.spaces.specs.SmallCells.{Small}
use Rattle.term_lang.specs.SpaceOf.{space_of}
use Rattle.values.specs.Asks.{Ask, Answer, basis, small_d, f as f_at, g as g_at, h as h_at, cycles}
use Rattle.values.specs.BaseLaws.{HasNoParts}
use Rattle.values.specs.Sizes.{place_size}
use Rattle.values.specs.Outcomes.{usual_limits, first_past, outcome, outcome_with, limited, is_value, is_over, Over as OverOf, Outcome as OutcomeOf}
use Rattle.values.specs.Ranks.{is_cycles, space_of as space_asked}
use Rattle.values.specs.Values.{value, right_side}
use Rattle.values.proofs.BasesRows.{no_parts-no_needs}
use Rattle.oracle_iface.specs.declared.keys.Key.{Key}
use Rattle.oracle_iface.specs.declared.keys.Op.TheVariants.{SmallD, F, G, H, Cycles}
use Rattle.oracle_iface.specs.declared.bodies.Body.{Body}
use Rattle.oracle_iface.specs.declared.bodies.Over.{Over}
use Rattle.oracle_iface.specs.declared.bodies.Outcome.{Outcome}
use Rattle.oracle_iface.specs.declared.bodies.Outcome.TheVariants.{Value, Over as IsOver}
use Rattle.oracle_iface.specs.Keys.{question_of, needs_of, op_of, quote_body, IsValidKey}
use Rattle.oracle_iface.specs.Limits.{limited_body}
use Rattle.oracle_iface.specs.Stands.{quote_outcome, IsRead, IsOutcome}
use Rattle.oracle_iface.proofs.CyclesNeeds.{key-space, key-op}
use Rattle.oracle_iface.proofs.LimitsAgree.{limits-agree}
use Rattle.susp_rules.specs.Suspendable.{IsOutcomeBack}
use Rattle.susp_rules.specs.Treated.{IsTreated}
use Rattle.normal_forms.specs.Built.{IsBuilt}
use Rattle.rule_book.specs.Lower.{asked_built}
use Rattle.twist_laws.proofs.LooplessValues.{loopless-outcome_back}
use Rattle.twist_rules.proofs.PartNames.{assembled-loopless}
use Rattle.rule_book.specs.Needed.{built_assembled}
use Rattle.rule_book.specs.Places.{IsWithin}
use Rattle.rule_book.specs.RowSpaces.{HasRows, IsRowKey}
use Rattle.rule_book.specs.Values.{HasValue}

-- ---- spaces that are given by rows

row_spaces : (P : Space → Type 0) → ((t : Table) → P (table t)) → ((m : ℕ) → P (sphere m)) → (a : Space) → HasRows a → P a
row_spaces P t s (table rows) u = t rows
row_spaces P t s (sphere m) u = s m
row_spaces P t s (product a b) u = absurd u
row_spaces P t s (suspension a) u = absurd u
row_spaces P t s kz1 u = absurd u
row_spaces P t s (bundle r c) u = absurd u
row_spaces P t s (loops a) u = absurd u
row_spaces P t s (paths a) u = absurd u
row_spaces P t s (kzm1 m) u = absurd u
row_spaces P t s (cyclic_bundle r m c) u = absurd u

pub row-treated : (k : Key) → IsRowKey k → IsTreated k
row-treated k is = (is.0, row_spaces IsBuilt (λ t. tt) (λ m. tt) (space_of k.term) is.1)

asked_rows : (k : Key) → IsRowKey k → HasRows (space_asked (question_of k))
asked_rows k is = subst HasRows (sym (key-space k)) is.1

-- ---- outcomes

-- the outcome of a key is what its rule gives back
pub outcome-back : (k : Key) → IsTreated k → IsOutcomeBack k
outcome-back k is =
    let a = space_asked (question_of k) in
    loopless-outcome_back (number k.prime) usual_limits (question_of k) (assembled-loopless a (built_assembled a (asked_built k is)))

-- ---- the limits on what a key is at

abbrev IsNotPast : Ask → Type 0
IsNotPast q = first_past usual_limits q (place_size q) ≡ None

-- rows are past no limit
rows_within : (q : Ask) → HasRows (space_asked q) → IsNotPast q
rows_within (basis a n) u = refl
rows_within (small_d a y) u = row_spaces (λ b. (z : Small b) → IsNotPast (small_d b z)) (λ t z. refl) (λ m z. refl) a u y
rows_within (f_at a n x) u = row_spaces (λ b. (z : Plain b) → IsNotPast (f_at b n z)) (λ t z. refl) (λ m z. refl) a u x
rows_within (g_at a y) u = row_spaces (λ b. (z : Small b) → IsNotPast (g_at b z)) (λ t z. refl) (λ m z. refl) a u y
rows_within (h_at a n x) u = row_spaces (λ b. (z : Plain b) → IsNotPast (h_at b n z)) (λ t z. refl) (λ m z. refl) a u x
rows_within (cycles a n) u = refl

pub row-within : (k : Key) → IsRowKey k → IsWithin k
row-within k is = rows_within (question_of k) (asked_rows k is)

-- a degree is past no limit
degrees_within : (q : Ask) → op_of q ≡ Cycles → IsNotPast q
degrees_within (basis a n) e = refl
degrees_within (small_d a y) e = absurd (let z : SmallD ≡ Cycles = e in cc)
degrees_within (f_at a n x) e = absurd (let z : F ≡ Cycles = e in cc)
degrees_within (g_at a y) e = absurd (let z : G ≡ Cycles = e in cc)
degrees_within (h_at a n x) e = absurd (let z : H ≡ Cycles = e in cc)
degrees_within (cycles a n) e = refl

pub cycles-within : (k : Key) → IsTreated k → k.op ≡ Cycles → IsWithin k
cycles-within k is e = degrees_within (question_of k) (key-op k is.0 ∙ e)

-- ---- answers at once

-- a question but for cycles is answered at once
at_once : (p : ℕ) (q : Ask) → HasRows (space_asked q) → is_cycles q ≡ false → outcome_with (outcome usual_limits p) (right_side p q) ≡ is_value (value p q)
at_once p (basis a n) u e =
    row_spaces (λ b. outcome_with (outcome usual_limits p) (right_side p (basis b n)) ≡ is_value (value p (basis b n))) (λ t. refl) (λ m. refl) a u
at_once p (small_d a y) u e =
    row_spaces (λ b. (z : Small b) → outcome_with (outcome usual_limits p) (right_side p (small_d b z)) ≡ is_value (value p (small_d b z))) (λ t z. refl) (λ m z. refl) a u y
at_once p (f_at a n x) u e =
    row_spaces (λ b. (z : Plain b) → outcome_with (outcome usual_limits p) (right_side p (f_at b n z)) ≡ is_value (value p (f_at b n z))) (λ t z. refl) (λ m z. refl) a u x
at_once p (g_at a y) u e =
    row_spaces (λ b. (z : Small b) → outcome_with (outcome usual_limits p) (right_side p (g_at b z)) ≡ is_value (value p (g_at b z))) (λ t z. refl) (λ m z. refl) a u y
at_once p (h_at a n x) u e =
    row_spaces (λ b. (z : Plain b) → outcome_with (outcome usual_limits p) (right_side p (h_at b n z)) ≡ is_value (value p (h_at b n z))) (λ t z. refl) (λ m z. refl) a u x
at_once p (cycles a n) u e = absurd (let z : true ≡ false = e in cc)

not_cycles : (q : Ask) → (op_of q ≡ Cycles → ⊥) → is_cycles q ≡ false
not_cycles (basis a n) h = refl
not_cycles (small_d a y) h = refl
not_cycles (f_at a n x) h = refl
not_cycles (g_at a y) h = refl
not_cycles (h_at a n x) h = refl
not_cycles (cycles a n) h = absurd (h refl)

asks_none : (k : Key) → IsValidKey k → (k.op ≡ Cycles → ⊥) → is_cycles (question_of k) ≡ false
asks_none k is not = not_cycles (question_of k) (λ e. not (sym (key-op k is) ∙ e))

-- ---- the limits on values

abbrev body_in : Body → Outcome → Body
body_in b (Value c) = c
body_in b (IsOver w) = b

value_told : (b c : Body) → Value b ≡ Value c → b ≡ c
value_told b c e = ap (body_in b) e

module _ (k : Key) (is : IsTreated k) (within : IsWithin k) where
  abbrev made : OutcomeOf (Answer (question_of k))
  made = outcome_with (outcome usual_limits (number k.prime)) (right_side (number k.prime) (question_of k))

  abbrev unless : Option OverOf → OutcomeOf (Answer (question_of k))
  unless past = elim past [ Some e ↦ is_over e | None ↦ limited usual_limits (question_of k) made ]

  -- the outcome is what reading the rule gives, under the limits on values
  outcome_is : outcome usual_limits (number k.prime) (question_of k) ≡ limited usual_limits (question_of k) made
  outcome_is = outcome-back k is ∙ ap unless within

  limit_by : (e : OutcomeOf (Answer (question_of k))) (b : Body) → Value b ≡ quote_outcome k.prime (question_of k) e
      → limited_body k b ≡ quote_outcome k.prime (question_of k) (limited usual_limits (question_of k) e)
  limit_by (is_value v) b h =
      (λ i. limited_body (is.0.key_is i) (value_told b (quote_body k.prime (question_of k) v) h i))
      ∙ limits-agree k.prime (question_of k) v is.0.question.0.0
  limit_by (is_over o) b h = absurd (cc)

  pub limit_value : (b : Body) (o : Outcome) → IsRead k (Value b) → o ≡ limited_body k b → IsOutcome k o
  limit_value b o h e = e ∙ limit_by made b h ∙ ap (quote_outcome k.prime (question_of k)) (sym outcome_is)

  over_by : (e : OutcomeOf (Answer (question_of k))) (w : Over) → IsOver w ≡ quote_outcome k.prime (question_of k) e
      → IsOver w ≡ quote_outcome k.prime (question_of k) (limited usual_limits (question_of k) e)
  over_by (is_value v) w h = absurd (cc)
  over_by (is_over o) w h = h

  pub limit_over : (w : Over) → IsRead k (IsOver w) → IsOutcome k (IsOver w)
  limit_over w h = over_by made w h ∙ ap (quote_outcome k.prime (question_of k)) (sym outcome_is)

-- ---- what is read and needed

pub read_at_once : (k : Key) → IsRowKey k → (k.op ≡ Cycles → ⊥) → (b : Body) → HasValue k b → IsRead k (Value b)
read_at_once k is not b h =
    ap Value h ∙ ap (quote_outcome k.prime (question_of k)) (sym (at_once (number k.prime) (question_of k) (asked_rows k is) (asks_none k is.0 not)))

pub none_needed : (k : Key) → IsTreated k → HasNoParts (space_of k.term) → (k.op ≡ Cycles → ⊥) → needs_of k ≡ []
none_needed k is none not =
    no_parts-no_needs (number k.prime) (question_of k) (subst HasNoParts (sym (key-space k)) none) (asks_none k is.0 not)

pub rows-none_needed : (k : Key) → IsRowKey k → (k.op ≡ Cycles → ⊥) → needs_of k ≡ []
rows-none_needed k is not = none_needed k (row-treated k is) (row_spaces HasNoParts (λ t. tt) (λ m. tt) (space_of k.term) is.1) not
