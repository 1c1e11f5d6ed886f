-- Valid keys about K(Z,1): what is at their places, their values, and their outcomes.
use Rattle.std.proofs.Common.{◌≡◌, ◌⊎◌, inl, inr, ℕ, zero, suc, ◌+◌, ◌<◌, ◌≤◌, max, Bool, true, false, List, [], ◌∷◌, length, Result, Ok, Err, refl, sym, ◌∙◌, ap, subst, arith}
use Rattle.std.specs.Prelude.{nat_abs, Option, Some, None}
use Rattle.std.proofs.Math.IntN.{ℤ, pos, negsuc}
use Rattle.std.proofs.lemmas.Bool.{lt-ltb, le-ltb}
use Rattle.std.proofs.lemmas.List.Elements.{All-from_recursion}
use Rattle.std.specs.declared.alloc.AllocError.{AllocError}
use Rattle.fp_field.specs.declared.prime.Prime.{Prime}
use Rattle.fp_field.specs.Field.{number}
use Rattle.fp_field.proofs.FieldLaws.{is_field}
use Rattle.fp_field.specs.Chains.{Terms}
use Rattle.fp_field.specs.Normal.{normal}
use Rattle.chain_core.specs.Formal.{Formal}
use Rattle.spaces.specs.Spaces.{Space, kz1, Plain}
use Rattle.spaces.specs.SmallCells.{Small, small_cmp}
use Rattle.spaces.specs.Orders.{ordered, by_degree}
use Rattle.cells.specs.declared.cells.Cell.{Cell}
use Rattle.cells.specs.declared.cells.Cell.TheVariants.{Ints}
use Rattle.cells.specs.declared.cells.SmallCell.{SmallCell, out-SmallCell, out-roll-SmallCell, fold-roll-SmallCell, roll-SmallCell, map-SmallCell}
use Rattle.cells.specs.declared.cells.SmallCell.TheOpen.{SmallCell-F}
use Rattle.cells.specs.declared.cells.SmallCell.TheVariants.{One, rolls-One}
use Rattle.cells.specs.Dim.{dim_of}
use Rattle.term_lang.specs.Forms.{cell_form}
use Rattle.term_lang.specs.SpaceOf.{space_of}
use Rattle.term_lang.proofs.CellForms.{form-Ints}
use Rattle.values.specs.Asks.{Ask, Answer, basis, small_d, f as f_at, g as g_at, h as h_at, cycles}
use Rattle.values.specs.BaseLaws.{IsSimple, HasNoParts}
use Rattle.values.specs.Integers.{integers_f, integers_h}
use Rattle.values.specs.Sizes.{Size, greatest, place_size}
use Rattle.values.specs.Outcomes.{usual_limits, first_past, outcome, outcome_with, limited, unless_past, is_value, is_over, of_integer, of_terms, Over as OverOf, Outcome as OutcomeOf}
use Rattle.values.specs.Ranks.{IsCell, is_cycles, space_of as space_asked}
use Rattle.values.specs.Values.{value, right_side}
use Rattle.values.proofs.BasesRows.{simple-outcome_back, no_parts-no_needs}
use Rattle.oracle_iface.specs.Forcing.{Calls, AsksNeeds, CoversAtValue, nothing_asked}
use Rattle.oracle_iface.specs.Keys.{question_at, question_of, op_of, place_of, needs_of, quote_body, quote_basis, quote_small_chain, quote_chain, formal, IsValidKey}
use Rattle.oracle_iface.specs.Limits.{limited_body}
use Rattle.oracle_iface.specs.SmallForms.{SmallForm, small_form, small_step}
use Rattle.oracle_iface.specs.Stands.{quote_outcome, IsOutcome}
use Rattle.oracle_iface.specs.declared.keys.Key.{Key}
use Rattle.oracle_iface.specs.declared.keys.Op.{Op}
use Rattle.oracle_iface.specs.declared.keys.Op.TheVariants.{Basis, SmallD, F, G, H, Cycles}
use Rattle.oracle_iface.specs.declared.keys.Place.{Place}
use Rattle.oracle_iface.specs.declared.keys.Place.TheVariants.{Degree, Small as SmallPlace, Big as BigPlace}
use Rattle.oracle_iface.specs.declared.bodies.Body.{Body}
use Rattle.oracle_iface.specs.declared.bodies.Body.TheVariants.{Cells as CellsBody, Small as SmallBody, Big as BigBody}
use Rattle.oracle_iface.specs.declared.bodies.Kind.TheVariants.{Integer as IntegerKind, Terms as TermsKind}
use Rattle.oracle_iface.specs.declared.bodies.Outcome.{Outcome}
use Rattle.oracle_iface.specs.declared.bodies.Outcome.TheVariants.{Value, Over as IsOver}
use Rattle.oracle_iface.proofs.CyclesNeeds.{key-space, key-op}
use Rattle.oracle_iface.proofs.LimitsAgree.{limits-agree}
use Rattle.oracle_iface.proofs.SizesAgree.{cell_integer_agree, small_integer_agree}
use Rattle.oracle_iface.proofs.ValidPlaces.{IsAt, key-at_of}
use Rattle.homology_laws.proofs.IntegersFaces.{degenerate-zero}
use Rattle.kz1_rules.specs.Lists.{IsFree, integer_at, homotopy_count}
use Rattle.kz1_rules.proofs.FreeLists.{has-free}
use Rattle.kz1_rules.proofs.Beyond.{h-length, h-integers}

-- ---- what is at a place

-- at a cell: a list without a 0, of length at most 24
pub record AtList (place : Place) : Type 0 where
  pub list : List ℤ
  pub is : place ≡ BigPlace (Ints list)
  pub free : IsFree list
  pub low : length list ≤ 24

list-at_cell : (place : Place) (x : Cell) → place ≡ BigPlace (Ints (cell_form x kz1)) → IsCell kz1 (dim_of x) (cell_form x kz1) → dim_of x + 0 ≤ 24 → AtList place
list-at_cell place x e is l = record {
  list = cell_form x kz1;
  is = e;
  free = has-free (cell_form x kz1) (sym (degenerate-zero (dim_of x) (cell_form x kz1) is.0.0) ∙ is.1);
  low = omega (arith, is.0.0, l);
}

f-list : (p : ℕ) (place : Place) → IsAt p F place kz1 → AtList place
f-list p (BigPlace x) at = list-at_cell (BigPlace x) x at.place_is at.question.1 at.question.2
f-list p (Degree n) at = absurd (let e : F ≡ Basis = at.op_is in cc)
f-list p (SmallPlace y) at = absurd (let e : F ≡ Basis = at.op_is in cc)

h-list : (p : ℕ) (place : Place) → IsAt p H place kz1 → AtList place
h-list p (BigPlace x) at = list-at_cell (BigPlace x) x at.place_is at.question.1 at.question.2
h-list p (Degree n) at = absurd (let e : H ≡ Basis = at.op_is in cc)
h-list p (SmallPlace y) at = absurd (let e : H ≡ Basis = at.op_is in cc)

g-list : (p : ℕ) (place : Place) → IsAt p G place kz1 → (x : List ℤ) × (place ≡ SmallPlace (One (Ints x)))
g-list p (SmallPlace y) at = (small_form y kz1, at.place_is)
g-list p (Degree n) at = absurd (let e : G ≡ Basis = at.op_is in cc)
g-list p (BigPlace x) at = absurd (let e : G ≡ Basis = at.op_is in cc)

d-list : (p : ℕ) (place : Place) → IsAt p SmallD place kz1 → (x : List ℤ) × (place ≡ SmallPlace (One (Ints x)))
d-list p (SmallPlace y) at = (small_form y kz1, at.place_is)
d-list p (Degree n) at = absurd (let e : SmallD ≡ Basis = at.op_is in cc)
d-list p (BigPlace x) at = absurd (let e : SmallD ≡ Basis = at.op_is in cc)

b-degree : (p : ℕ) (place : Place) → IsAt p Basis place kz1 → (n : ℕ) × (place ≡ Degree n)
b-degree p (Degree n) at = (n, refl)
b-degree p (SmallPlace y) at = absurd (let e : SmallPlace y ≡ Degree 0 = at.place_is in cc)
b-degree p (BigPlace x) at = absurd (let e : BigPlace x ≡ Degree 0 = at.place_is in cc)

-- ---- a list at a place, told

rolled : (x : SmallCell-F SmallCell) → small_form (roll-SmallCell x) ≡ small_step (map-SmallCell SmallCell SmallForm small_form x)
unfolding small_form
rolled x = fold-roll-SmallCell SmallForm small_step x

small_form-ints : (x : List ℤ) → small_form (One (Ints x)) kz1 ≡ x
small_form-ints x = ap (λ g. g kz1) (ap small_form (sym (rolls-One (Ints x))) ∙ rolled (SmallCell-F.One (Ints x))) ∙ ap (λ g. g kz1) (form-Ints x)

form-ints : (x : List ℤ) → cell_form (Ints x) kz1 ≡ x
form-ints x = ap (λ g. g kz1) (form-Ints x)

abbrev cell_in : SmallCell-F SmallCell → Cell
cell_in (SmallCell-F.One x) = x
cell_in y = Ints []

opened : (x : Cell) → out-SmallCell (One x) ≡ SmallCell-F.One x
opened x = ap out-SmallCell (sym (rolls-One x)) ∙ out-roll-SmallCell (SmallCell-F.One x)

one_told : (x y : Cell) → One x ≡ One y → x ≡ y
one_told x y e = ap cell_in (sym (opened x) ∙ ap out-SmallCell e ∙ opened y)

abbrev small_in : Place → SmallCell
small_in (SmallPlace y) = y
small_in o = One (Ints [])

abbrev big_in : Place → Cell
big_in (BigPlace x) = x
big_in o = Ints []

ints_told : (x y : List ℤ) → Ints x ≡ Ints y → x ≡ y
ints_told x y e = sym (form-ints x) ∙ ap (λ c. cell_form c kz1) e ∙ form-ints y

-- ---- values

abbrev body_at : Prime → Op → Place → Space → Body
body_at p o place a = quote_body p (question_at o place a) (value (number p) (question_at o place a))

abbrev pub ValueOf : Key → Body
ValueOf k = quote_body k.prime (question_of k) (value (number k.prime) (question_of k))

module _ (k : Key) (valid : IsValidKey k) (space : space_of k.term ≡ kz1) where
  at : IsAt (number k.prime) k.op k.place kz1
  at = key-at_of k kz1 valid space

  at-op : (o : Op) → k.op ≡ o → IsAt (number k.prime) o k.place kz1
  at-op o e = subst (λ z. IsAt (number k.prime) z k.place kz1) e at

  body-is : (o : Op) (place : Place) → k.op ≡ o → k.place ≡ place → ValueOf k ≡ body_at k.prime o place kz1
  body-is o place e g = λ i. body_at k.prime (e i) (g i) (space i)

  pub degree-place : k.op ≡ Basis → (n : ℕ) × (k.place ≡ Degree n)
  degree-place e = b-degree (number k.prime) k.place (at-op Basis e)

  pub list-place : (k.op ≡ F) ⊎ (k.op ≡ H) → AtList k.place
  list-place (inl e) = f-list (number k.prime) k.place (at-op F e)
  list-place (inr e) = h-list (number k.prime) k.place (at-op H e)

  pub small-place : (k.op ≡ G) ⊎ (k.op ≡ SmallD) → (x : List ℤ) × (k.place ≡ SmallPlace (One (Ints x)))
  small-place (inl e) = g-list (number k.prime) k.place (at-op G e)
  small-place (inr e) = d-list (number k.prime) k.place (at-op SmallD e)

  -- the list that is at the place
  pub list-free : (x : List ℤ) → (k.op ≡ F) ⊎ (k.op ≡ H) → k.place ≡ BigPlace (Ints x) → IsFree x
  list-free x o e = let l = list-place o in subst IsFree (ints_told l.list x (ap big_in (sym l.is ∙ e))) l.free

  pub basis-value : (n : ℕ) (ys : List SmallCell) → k.op ≡ Basis → k.place ≡ Degree n → ((p : ℕ) → ys ≡ quote_basis kz1 (value p (basis kz1 n))) → CellsBody ys ≡ ValueOf k
  basis-value n ys o d h = ap CellsBody (h (number k.prime)) ∙ sym (body-is Basis (Degree n) o d)

  pub d-value : (c : Formal SmallCell) → k.op ≡ SmallD → c.prime ≡ k.prime → c.terms ≡ [] → SmallBody c ≡ ValueOf k
  d-value c o s h = let l = small-place (inr o) in (λ i. SmallBody (record { prime = s i; terms = h i })) ∙ sym (body-is SmallD (SmallPlace (One (Ints l.0))) o l.1)

  pub f-value : (x : List ℤ) (c : Formal SmallCell) → k.op ≡ F → k.place ≡ BigPlace (Ints x)
      → c ≡ formal k.prime (quote_small_chain kz1 (normal (small_cmp kz1) (number k.prime) (integers_f (number k.prime) x))) → SmallBody c ≡ ValueOf k
  f-value x c o d h =
      ap SmallBody h
      ∙ ap (λ y. SmallBody (formal k.prime (quote_small_chain kz1 (normal (small_cmp kz1) (number k.prime) (integers_f (number k.prime) y))))) (sym (form-ints x))
      ∙ sym (body-is F (BigPlace (Ints x)) o d)

  pub g-value : (x : Cell) (c : Formal Cell) → k.op ≡ G → k.place ≡ SmallPlace (One x) → c ≡ formal k.prime ((x, 1) ∷ []) → BigBody c ≡ ValueOf k
  g-value x c o d h =
      let l = small-place (inl o) in
      let e : Ints l.0 ≡ x = one_told (Ints l.0) x (ap small_in (sym l.1 ∙ d)) in
      ap BigBody h ∙ ap (λ y. BigBody (formal k.prime ((y, 1) ∷ []))) (sym e)
      ∙ ap (λ y. BigBody (formal k.prime ((Ints y, 1) ∷ []))) (sym (small_form-ints l.0))
      ∙ sym (body-is G (SmallPlace (One (Ints l.0))) o l.1)

  pub h-value : (x : List ℤ) (c : Formal Cell) → k.op ≡ H → k.place ≡ BigPlace (Ints x)
      → c ≡ formal k.prime (quote_chain kz1 (normal (by_degree (ordered kz1).cmp) (number k.prime) (integers_h (number k.prime) x))) → BigBody c ≡ ValueOf k
  h-value x c o d h =
      ap BigBody h
      ∙ ap (λ y. BigBody (formal k.prime (quote_chain kz1 (normal (by_degree (ordered kz1).cmp) (number k.prime) (integers_h (number k.prime) y))))) (sym (form-ints x))
      ∙ sym (body-is H (BigPlace (Ints x)) o d)

-- ---- questions are answered at once

not_cycles : (q : Ask) → (op_of q ≡ Cycles → ⊥) → is_cycles q ≡ false
not_cycles (basis a n) h = refl
not_cycles (small_d a y) h = refl
not_cycles (f_at a n x) h = refl
not_cycles (g_at a y) h = refl
not_cycles (h_at a n x) h = refl
not_cycles (cycles a n) h = absurd (h refl)

basis-at_once : (p n : ℕ) → outcome_with (outcome usual_limits p) (right_side p (basis kz1 n)) ≡ is_value (value p (basis kz1 n))
basis-at_once p zero = refl
basis-at_once p (suc zero) = refl
basis-at_once p (suc (suc n)) = refl

at-once : (p : ℕ) (q : Ask) → kz1 ≡ space_asked q → is_cycles q ≡ false → outcome_with (outcome usual_limits p) (right_side p q) ≡ is_value (value p q)
at-once p (basis a n) u e = subst (λ b. outcome_with (outcome usual_limits p) (right_side p (basis b n)) ≡ is_value (value p (basis b n))) u (basis-at_once p n)
at-once p (small_d a y) u e =
    subst (λ b. (z : Small b) → outcome_with (outcome usual_limits p) (right_side p (small_d b z)) ≡ is_value (value p (small_d b z))) u (λ z. refl) y
at-once p (f_at a n x) u e =
    subst (λ b. (z : Plain b) → outcome_with (outcome usual_limits p) (right_side p (f_at b n z)) ≡ is_value (value p (f_at b n z))) u (λ z. refl) x
at-once p (g_at a y) u e =
    subst (λ b. (z : Small b) → outcome_with (outcome usual_limits p) (right_side p (g_at b z)) ≡ is_value (value p (g_at b z))) u (λ z. refl) y
at-once p (h_at a n x) u e =
    subst (λ b. (z : Plain b) → outcome_with (outcome usual_limits p) (right_side p (h_at b n z)) ≡ is_value (value p (h_at b n z))) u (λ z. refl) x
at-once p (cycles a n) u e = absurd (let z : true ≡ false = e in cc)

-- ---- the size of what a question is about

abbrev sized : ℕ → Size
sized i = record { letters = 0; integer = i; terms = 0 }

-- the integers at the place of a question about K(Z,1) are those of its size, and there is nothing else
place-size : (q : Ask) → kz1 ≡ space_asked q → place_size q ≡ sized (integer_at (place_of q))
place-size (basis a n) u = refl
place-size (small_d a y) u = subst (λ b. (z : Small b) → place_size (small_d b z) ≡ sized (integer_at (place_of (small_d b z)))) u (λ z. ap sized (sym (small_integer_agree kz1 z))) y
place-size (f_at a n x) u = subst (λ b. (z : Plain b) → place_size (f_at b n z) ≡ sized (integer_at (place_of (f_at b n z)))) u (λ z. ap sized (sym (cell_integer_agree kz1 tt n z))) x
place-size (g_at a y) u = subst (λ b. (z : Small b) → place_size (g_at b z) ≡ sized (integer_at (place_of (g_at b z)))) u (λ z. ap sized (sym (small_integer_agree kz1 z))) y
place-size (h_at a n x) u = subst (λ b. (z : Plain b) → place_size (h_at b n z) ≡ sized (integer_at (place_of (h_at b n z)))) u (λ z. ap sized (sym (cell_integer_agree kz1 tt n z))) x
place-size (cycles a n) u = refl

module _ (k : Key) (valid : IsValidKey k) (space : space_of k.term ≡ kz1) (not : k.op ≡ Cycles → ⊥) where
  p : ℕ
  p = number k.prime

  asked : kz1 ≡ space_asked (question_of k)
  asked = sym (key-space k ∙ space)

  none : is_cycles (question_of k) ≡ false
  none = not_cycles (question_of k) (λ e. not (sym (key-op k valid) ∙ e))

  place : k.place ≡ place_of (question_of k)
  place = ap (λ (z : Key). z.place) valid.key_is

  abbrev answer : OutcomeOf (Answer (question_of k))
  answer = is_value (value (number k.prime) (question_of k))

  outcome-is : outcome usual_limits (number k.prime) (question_of k) ≡ unless_past usual_limits (question_of k) (limited usual_limits (question_of k) answer)
  outcome-is =
      simple-outcome_back usual_limits (number k.prime) (question_of k) (subst IsSimple asked tt)
      ∙ ap (λ o. unless_past usual_limits (question_of k) (limited usual_limits (question_of k) o)) (at-once (number k.prime) (question_of k) asked none)

  size-is : place_size (question_of k) ≡ sized (integer_at k.place)
  size-is = place-size (question_of k) asked ∙ ap (λ o. sized (integer_at o)) (sym place)

  past-is : first_past usual_limits (question_of k) (place_size (question_of k)) ≡ first_past usual_limits (question_of k) (sized (integer_at k.place))
  past-is = ap (first_past usual_limits (question_of k)) size-is

  abbrev by_limit : Option OverOf → OutcomeOf (Answer (question_of k))
  by_limit past = elim past [ Some e ↦ is_over e | None ↦ limited usual_limits (question_of k) answer ]

  abbrev by_test : Bool → Option OverOf
  by_test b = elim b [ true ↦ Some (record { question = question_of k; kind = of_integer; size = integer_at k.place }) | false ↦ None ]

  within : integer_at k.place ≤ 100000 → outcome usual_limits (number k.prime) (question_of k) ≡ limited usual_limits (question_of k) answer
  within l = outcome-is ∙ ap by_limit (past-is ∙ ap by_test (le-ltb 100000 (integer_at k.place) l))

  beyond : 100000 < integer_at k.place
      → outcome usual_limits (number k.prime) (question_of k) ≡ is_over (record { question = question_of k; kind = of_integer; size = integer_at k.place })
  beyond l = outcome-is ∙ ap by_limit (past-is ∙ ap by_test (lt-ltb 100000 (integer_at k.place) l))

  -- the key's own list is past the limit on integers
  pub integer-refused : (i : ℕ) → i ≡ integer_at k.place → 100000 < i → IsOutcome k (IsOver (record { key = k; kind = IntegerKind; size = i }))
  integer-refused i e l =
      (λ j. IsOver (record { key = valid.key_is j; kind = IntegerKind; size = e j }))
      ∙ ap (quote_outcome k.prime (question_of k)) (sym (beyond (subst (λ n. 100000 < n) e l)))

  -- the value under the limits on values
  pub value-limited : integer_at k.place ≤ 100000 → (b : Body) → b ≡ ValueOf k → (o : Outcome) → o ≡ limited_body k b → IsOutcome k o
  value-limited l b e o h =
      h ∙ (λ j. limited_body (valid.key_is j) (e j)) ∙ limits-agree k.prime (question_of k) (value (number k.prime) (question_of k)) valid.question.0.0
      ∙ ap (quote_outcome k.prime (question_of k)) (sym (within l))

  -- ---- nothing is needed

  nothing-needed : needs_of k ≡ []
  nothing-needed = no_parts-no_needs (number k.prime) (question_of k) (subst HasNoParts asked tt) none

  covers-none : (r : Result Outcome AllocError) → CoversAtValue r [] []
  covers-none (Ok (Value b)) = All-from_recursion _ [] tt
  covers-none (Ok (IsOver w)) = tt
  covers-none (Err e) = tt

  pub asks-nothing : {T : Type 0} (calls : Calls T) (s : T) (r : Result Outcome AllocError) → AsksNeeds calls k s s r
  asks-nothing calls s r = record {
    asks = [];
    begins = nothing_asked [] (needs_of k);
    whole = subst (CoversAtValue r []) (sym nothing-needed) (covers-none r);
    asked = refl;
  }

-- ---- H has too many terms

module _ (p : ℕ) (two : 1 < p) (n : ℕ) (x : List ℤ) (free : IsFree x) where
  abbrev question : Ask
  question = h_at kz1 n x

  abbrev terms : Terms (ℕ × List ℤ)
  terms = normal (by_degree (ordered kz1).cmp) p (integers_h p x)

  abbrev integers : ℕ
  integers = greatest (λ (t : (ℕ × List ℤ) × ℕ). greatest nat_abs t.0.1) terms

  no-letters : {K : Type 0} (c : Terms K) → greatest (λ (t : K × ℕ). 0) c ≡ 0
  no-letters [] = refl
  no-letters (t ∷ c) = omega (arith, no-letters c)

  abbrev refused : Option OverOf → OutcomeOf (Answer question)
  refused past = elim past [ Some o ↦ is_over o | None ↦ is_value terms ]

  abbrev past_of : Size → OutcomeOf (Answer question)
  past_of s = refused (first_past usual_limits question s)

  abbrev past_by : Bool → Bool → OutcomeOf (Answer question)
  past_by b c = refused (elim b [
    | true ↦ Some (record { question = question; kind = of_integer; size = integers })
    | false ↦ elim c [ true ↦ Some (record { question = question; kind = of_terms; size = homotopy_count x }) | false ↦ None ]
  ])

  limited-terms : integers ≤ 100000 → 50000 < homotopy_count x
      → limited usual_limits question (is_value (value p question)) ≡ is_over (record { question = question; kind = of_terms; size = homotopy_count x })
  limited-terms l m =
      ap past_of (λ i. record { letters = no-letters terms i; integer = integers; terms = h-length p two x free i })
      ∙ (λ i. past_by (le-ltb 100000 integers l i) (lt-ltb 50000 (homotopy_count x) m i))

  at_question : (q : Ask) → question ≡ q → integers ≤ 100000 → 50000 < homotopy_count x
      → limited usual_limits q (is_value (value p q)) ≡ is_over (record { question = q; kind = of_terms; size = homotopy_count x })
  at_question q e l m =
      subst (λ z. limited usual_limits z (is_value (value p z)) ≡ is_over (record { question = z; kind = of_terms; size = homotopy_count x })) e (limited-terms l m)

one_below : (p : Prime) → 1 < number p
one_below p = (is_field p).one_is_not_zero

module _ (k : Key) (valid : IsValidKey k) (space : space_of k.term ≡ kz1) (x : List ℤ) (op : k.op ≡ H) (at_x : k.place ≡ BigPlace (Ints x)) where
  h-question : h_at kz1 (dim_of (Ints x)) x ≡ question_of k
  h-question = ap (h_at kz1 (dim_of (Ints x))) (sym (form-ints x)) ∙ (λ i. question_at (sym op i) (sym at_x i) (sym space i))

  no_cycles : k.op ≡ Cycles → ⊥
  no_cycles e = let z : H ≡ Cycles = sym op ∙ e in cc

  list-integers : integer_at k.place ≡ greatest nat_abs x
  list-integers = ap integer_at at_x ∙ cell_integer_agree kz1 tt 0 x

  -- H of the list has more terms than the limit
  pub terms-refused : (i : ℕ) → i ≡ homotopy_count x → 50000 < i → integer_at k.place ≤ 100000 → IsOutcome k (IsOver (record { key = k; kind = TermsKind; size = i }))
  terms-refused i e l m =
      let free : IsFree x = list-free k valid space x (inr op) at_x in
      (λ j. IsOver (record { key = valid.key_is j; kind = TermsKind; size = e j }))
      ∙ ap (quote_outcome k.prime (question_of k))
      (sym (within k valid space no_cycles m
      ∙ at_question (number k.prime) (one_below k.prime) (dim_of (Ints x)) x free (question_of k) h-question
      (h-integers (number k.prime) (one_below k.prime) x 100000 (omega arith) (subst (λ g. g ≤ 100000) list-integers m)) (subst (λ g. 50000 < g) e l)))

  -- H is asked for within the limit on integers
  pub count-within : integer_at k.place ≤ 100000 → homotopy_count x ≤ 100000
  count-within m = counted x (subst (λ g. g ≤ 100000) list-integers m)
    where
      counted : (x : List ℤ) → greatest nat_abs x ≤ 100000 → homotopy_count x ≤ 100000
      counted [] h = omega arith
      counted (pos a ∷ w) h = let g : max a (greatest nat_abs w) ≤ 100000 = h in omega (arith, g)
      counted (negsuc a ∷ w) h = let g : max (suc a) (greatest nat_abs w) ≤ 100000 = h in omega (arith, g)
