-- The cycles of a degree that the code computes over keys are those of the definitions.
use Rattle.std.proofs.Common.{◌≡◌, ℕ, suc, ◌+◌, ◌≤◌, List, [], ◌∷◌, ◌++◌, map, refl, sym, ◌∙◌, ap, subst, arith}
use Rattle.std.specs.Prelude.{None, Contains}
use Rattle.std.specs.List.{AllByRecursion as Every}
use Rattle.std.proofs.lemmas.List.Elements.{recursion_from_All, All-contains_itself}
use Rattle.fp_field.specs.Field.{number}
use Rattle.fp_field.specs.Chains.{Terms, Each, extend}
use Rattle.fp_field.specs.Normal.{normal}
use Rattle.echelons.specs.Echelon.{Vector}
use Rattle.spaces.specs.Spaces.{Space}
use Rattle.spaces.specs.Allowed.{IsAllowed}
use Rattle.spaces.specs.Orders.{ordered, by_degree}
use Rattle.spaces.specs.SmallCells.{Small, small_degree}
use Rattle.values.specs.Asks.{basis, small_d, g, cycles, ask, value_with}
use Rattle.values.specs.BaseLaws.{vectors_of_cycles, carried_cycles, IsSimple}
use Rattle.values.specs.Cycles.{cycle_vectors, terms_of, carried, rule_cycles}
use Rattle.values.specs.Ranks.{IsValid, loopings}
use Rattle.values.specs.Values.{value}
use Rattle.values.proofs.BasesCells.{basis-degree}
use Rattle.values.proofs.BasesCycles.{cycles-value}
use Rattle.values.proofs.BasesRows.{simple-given_back}
use Rattle.values.proofs.Chains.{value_with-on_chain}
use Rattle.term_lang.specs.SpaceOf.{space_of}
use Rattle.cells.specs.Order.{cell_cmp}
use Rattle.cells.specs.Small.{small_cmp as code_cmp}
use Rattle.oracle_iface.specs.declared.keys.Key.{Key}
use Rattle.oracle_iface.specs.declared.keys.Op.TheVariants.{Cycles, SmallD, G}
use Rattle.oracle_iface.specs.declared.keys.Place.TheVariants.{Degree}
use Rattle.oracle_iface.specs.Keys.{IsValidKey, question_at, quote_basis, quote_chain, quote_small_chain, formal}
use Rattle.oracle_iface.specs.KeyLaws.{IsProper, IsShown}
use Rattle.oracle_iface.specs.SmallForms.{quote_small}
use Rattle.oracle_iface.proofs.ProperBases.{every, every_map, listed-proper}
use Rattle.homology_rules.specs.Asking.{outcome_of, first_refusal}
use Rattle.homology_rules.specs.CycleVectors.{cycle_vectors_over}
use Rattle.homology_rules.specs.Degrees.{degree_key_of, cells_at, chains_at, vectors_at, keys_of_degree, keys_of_cycles, chains_of_cycles}
use Rattle.homology_rules.specs.Held.{big_in}
use Rattle.homology_rules.specs.Shown.{IsSmallShown, HasShownValues}
use Rattle.homology_rules.specs.SmallKeys.{small_key_of}
use Rattle.homology_rules.specs.Vectors.{keys_of_vector, keys_of_vectors, carried_of}
use Rattle.homology_rules.proofs.Answered.{none-split}
use Rattle.homology_rules.proofs.QuotedSums.{big-sum}
use Rattle.homology_rules.proofs.QuotedVectors.{vectors-quoted, terms-quoted, each-terms}
use Rattle.homology_rules.proofs.TypedKeys.{none-append, cells-told, differentials-told, images-told}

-- ---- the small cells of a degree of a space

module _ (p : ℕ) (a : Space) (n : ℕ) (allowed : IsAllowed a) (low : n + loopings a ≤ 24) where
  abbrev listed : List (Small a)
  listed = value p (basis a n)

  itself : Every (Contains listed) listed
  itself = recursion_from_All (Contains listed) listed (All-contains_itself listed)

  listed-degree : (y : Small a) → Contains listed y → small_degree a y ≡ n
  listed-degree y is = basis-degree p a n y is

  listed-shown : (y : Small a) → Contains listed y → IsSmallShown a y
  listed-shown y is = (listed-proper p a n y allowed.0 is, (let d : small_degree a y ≡ n = listed-degree y is in omega (arith, d)))

  listed-place : (y : Small a) → Contains listed y → Contains (value p (basis a (small_degree a y))) y
  listed-place y is = subst (λ m. Contains (value p (basis a m)) y) (sym (listed-degree y is)) is

  listed-low : (y : Small a) → Contains listed y → small_degree a y + loopings a ≤ 24
  listed-low y is = let d : small_degree a y ≡ n = listed-degree y is in omega (arith, d)

  pub listed-d : (y : Small a) → Contains listed y → IsValid p (small_d a y)
  listed-d y is = (allowed, listed-place y is, listed-low y is)

  pub listed-g : (y : Small a) → Contains listed y → IsValid p (g a y)
  listed-g y is = (allowed, listed-place y is, listed-low y is)

  pub all-shown : Every (IsSmallShown a) listed
  all-shown = every (Contains listed) (IsSmallShown a) listed listed-shown itself

  pub all-proper : Every (IsProper a) listed
  all-proper = every (Contains listed) (IsProper a) listed (λ y is. (listed-shown y is).0) itself

  module _ (shown : HasShownValues p a) where
    pub d-shown : Every (Each (IsSmallShown a)) (map (λ y. value p (small_d a y)) listed)
    d-shown = every_map (Contains listed) (Each (IsSmallShown a)) (λ y. value p (small_d a y)) listed (λ y is. shown.in_small_d y (listed-d y is)) itself

    pub g-shown : Every (λ y. Each (IsShown a) (value p (g a y))) listed
    g-shown = every (Contains listed) (λ y. Each (IsShown a) (value p (g a y))) listed (λ y is. shown.in_g y (listed-g y is)) itself

-- ---- over keys

-- the question of a valid key of cycles
pub cycles-valid : (k : Key) (n : ℕ) → IsValidKey k → k.op ≡ Cycles → k.place ≡ Degree n → IsValid (number k.prime) (cycles (space_of k.term) n)
cycles-valid k n valid o d = subst (IsValid (number k.prime)) (λ i. question_at (o i) (d i) (space_of k.term)) valid.question

module _ (k : Key) (a : Space) (of : space_of k.term ≡ a) where
  abbrev q : ℕ
  q = number k.prime

  abbrev d_of : Small a → Terms (Small a)
  d_of y = value q (small_d a y)

  -- the small cells of a degree and their small differentials
  pub degree-told : (n : ℕ) → IsAllowed a → n + loopings a ≤ 24 → first_refusal (keys_of_degree k n) ≡ None
      → (cells_at k n ≡ quote_basis a (value q (basis a n))) × (chains_at k (cells_at k n) ≡ map (quote_small_chain a) (map d_of (value q (basis a n))))
  degree-told n allowed low none =
      let s = none-split (degree_key_of k n) (map (λ y. small_key_of k SmallD y) (cells_at k n)) none in
      let cells : cells_at k n ≡ quote_basis a (value q (basis a n)) = cells-told k a of n s.0 in (
        cells,
        ap (chains_at k) cells
            ∙ differentials-told k a of (value q (basis a n)) (all-proper q a n allowed low)
            (sym (ap (λ ys. first_refusal (map (λ y. small_key_of k SmallD y) ys)) cells) ∙ s.1),
      )

  -- G of a vector
  pub carried-told : HasShownValues q a → (ys : List (Small a)) (v : Vector) → Every (IsProper a) ys → Every (λ y. Each (IsShown a) (value q (g a y))) ys
      → first_refusal (keys_of_vector k (quote_basis a ys) v) ≡ None
      → carried_of k (quote_basis a ys) v
      ≡ formal k.prime (quote_chain a (normal (by_degree (ordered a).cmp) q (extend (λ y. value q (g a y)) (terms_of q a ys v))))
  carried-told shown ys v proper images none =
      ap (λ c. formal k.prime c)
      (ap (λ c. normal cell_cmp q (extend (λ y. (big_in (outcome_of (small_key_of k G y))).terms) c)) (terms-quoted a q ys v)
      ∙ big-sum a q (quote_small a) (terms_of q a ys v) (λ y. (big_in (outcome_of (small_key_of k G y))).terms) (λ y. value q (g a y)) shown.cells
      (images-told k a of (terms_of q a ys v) (each-terms a q (IsProper a) ys v proper)
      (sym (ap (λ c. first_refusal (map (λ t. small_key_of k G t.0) c)) (terms-quoted a q ys v)) ∙ none))
      (each-terms a q (λ y. Each (IsShown a) (value q (g a y))) ys v images))

  -- G of a vector over the small cells of a degree, as its right side says
  pub vector-told : (n : ℕ) (v : Vector) → IsAllowed a → n + loopings a ≤ 24 → HasShownValues q a
      → first_refusal (keys_of_vector k (quote_basis a (value q (basis a n))) v) ≡ None
      → carried_of k (quote_basis a (value q (basis a n))) v ≡ formal k.prime (quote_chain a (value_with (value q) (carried q a (value q (basis a n)) v)))
  vector-told n v allowed low shown none =
      carried-told shown (value q (basis a n)) v (all-proper q a n allowed low) (g-shown q a n allowed low shown) none
      ∙ ap (λ c. formal k.prime (quote_chain a c))
      (sym (value_with-on_chain (value q) (λ y. ask (g a y)) (by_degree (ordered a).cmp) q (terms_of q a (value q (basis a n)) v)))

  -- G of vectors
  pub all-carried : HasShownValues q a → (ys : List (Small a)) (vs : List Vector) → Every (IsProper a) ys → Every (λ y. Each (IsShown a) (value q (g a y))) ys
      → first_refusal (keys_of_vectors k (quote_basis a ys) vs) ≡ None
      → map (λ v. carried_of k (quote_basis a ys) v) vs
      ≡ map (λ c. formal k.prime (quote_chain a c)) (map (λ v. normal (by_degree (ordered a).cmp) q (extend (λ y. value q (g a y)) (terms_of q a ys v))) vs)
  all-carried shown ys [] proper images none = refl
  all-carried shown ys (v ∷ vs) proper images none =
      let s = none-append (keys_of_vector k (quote_basis a ys) v) (keys_of_vectors k (quote_basis a ys) vs) none in
      λ i. carried-told shown ys v proper images s.0 i ∷ all-carried shown ys vs proper images s.1 i

  module _ (n : ℕ) (shown : HasShownValues q a) (valid : IsValid q (cycles a n)) (none : first_refusal (keys_of_cycles k n) ≡ None) where
    low_here : n + loopings a ≤ 24
    low_here = let l : suc n + loopings a ≤ 24 = valid.2 in omega (arith, l)

    low_above : n + 1 + loopings a ≤ 24
    low_above = let l : suc n + loopings a ≤ 24 = valid.2 in omega (arith, l)

    first_part : (first_refusal (keys_of_degree k n) ≡ None) × (first_refusal (keys_of_degree k (n + 1) ++ keys_of_vectors k (cells_at k n) (vectors_at k n)) ≡ None)
    first_part = none-append (keys_of_degree k n) (keys_of_degree k (n + 1) ++ keys_of_vectors k (cells_at k n) (vectors_at k n)) none

    last_part : (first_refusal (keys_of_degree k (n + 1)) ≡ None) × (first_refusal (keys_of_vectors k (cells_at k n) (vectors_at k n)) ≡ None)
    last_part = none-append (keys_of_degree k (n + 1)) (keys_of_vectors k (cells_at k n) (vectors_at k n)) first_part.1

    abbrev here : List (Small a)
    here = value q (basis a n)

    abbrev differentials_in : ℕ → List (Terms (Small a))
    differentials_in m = map d_of (value q (basis a m))

    cells_here : cells_at k n ≡ quote_basis a here
    cells_here = (degree-told n valid.0 low_here first_part.0).0

    chains_here : chains_at k (cells_at k n) ≡ map (quote_small_chain a) (differentials_in n)
    chains_here = (degree-told n valid.0 low_here first_part.0).1

    chains_above : chains_at k (cells_at k (n + 1)) ≡ map (quote_small_chain a) (differentials_in (n + 1))
    chains_above = (degree-told (n + 1) valid.0 low_above last_part.0).1

    pub vectors-told : vectors_at k n ≡ vectors_of_cycles q a n
    vectors-told =
        (λ i. cycle_vectors_over code_cmp q (cells_here i) (chains_here i) (chains_above i))
        ∙ vectors-quoted a q here (differentials_in n) (differentials_in (n + 1)) (all-shown q a n valid.0 low_here)
        (d-shown q a n valid.0 low_here shown) (d-shown q a (n + 1) valid.0 low_above shown)
        ∙ ap (λ m. cycle_vectors q a here (differentials_in n) (differentials_in m)) (let e : n + 1 ≡ suc n = omega arith in e)

    pub chains-carried : chains_of_cycles k n ≡ map (λ c. formal k.prime (quote_chain a c)) (carried_cycles q a n)
    chains-carried =
        (λ i. map (λ v. carried_of k (cells_here i) v) (vectors-told i))
        ∙ all-carried shown here (vectors_of_cycles q a n) (all-proper q a n valid.0 low_here) (g-shown q a n valid.0 low_here shown)
        (sym (λ i. first_refusal (keys_of_vectors k (cells_here i) (vectors-told i))) ∙ last_part.1)

    pub chains-read : chains_of_cycles k n ≡ map (λ c. formal k.prime (quote_chain a c)) (value_with (value q) (rule_cycles q a n))
    chains-read = chains-carried ∙ ap (map (λ c. formal k.prime (quote_chain a c))) (sym (cycles-value q a n))

    pub chains-told : value q (cycles a n) ≡ value_with (value q) (rule_cycles q a n)
        → chains_of_cycles k n ≡ map (λ c. formal k.prime (quote_chain a c)) (value q (cycles a n))
    chains-told back = chains-read ∙ ap (map (λ c. formal k.prime (quote_chain a c))) (sym back)

    pub chains-simple : IsSimple a → chains_of_cycles k n ≡ map (λ c. formal k.prime (quote_chain a c)) (value q (cycles a n))
    chains-simple simple = chains-told (simple-given_back q (cycles a n) simple)
