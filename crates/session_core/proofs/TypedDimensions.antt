-- The dimensions that are counted over keys are those of the definitions, and their keys those that these ask for.
use Rattle.std.proofs.Common.{◌≡◌, ℕ, zero, suc, ◌+◌, ◌-◌, ◌≤◌, List, [], ◌∷◌, ◌++◌, map, length, None, refl, sym, ◌∙◌, ap, arith}
use Rattle.std.proofs.lemmas.List.{length-map, map-append}
use Rattle.std.specs.List.{AllByRecursion as Every}
use Rattle.fp_field.specs.declared.prime.Prime.{Prime}
use Rattle.fp_field.specs.Field.{number}
use Rattle.fp_field.specs.Chains.{Terms, Each}
use Rattle.echelons.specs.Echelon.{in_span, reduced_basis}
use Rattle.spaces.specs.Spaces.{Space}
use Rattle.spaces.specs.SmallCells.{Small}
use Rattle.spaces.specs.Allowed.{IsAllowed}
use Rattle.values.specs.Asks.{Ask, basis, small_d}
use Rattle.values.specs.Ranks.{loopings}
use Rattle.values.specs.Values.{value}
use Rattle.cells.specs.Small.{small_cmp as code_cmp}
use Rattle.term_lang.specs.declared.terms.Term.{Term}
use Rattle.term_lang.specs.SpaceOf.{space_of}
use Rattle.oracle_iface.specs.declared.keys.Key.{Key}
use Rattle.oracle_iface.specs.Keys.{key_of, quote_basis, quote_small_chain}
use Rattle.oracle_iface.specs.SmallForms.{quote_small}
use Rattle.oracle_iface.specs.KeyLaws.{IsProper, IsReadBack}
use Rattle.oracle_iface.proofs.KeysBack.{basis-back, small_d-back}
use Rattle.homology_rules.specs.Asking.{first_refusal}
use Rattle.homology_rules.specs.Shown.{IsSmallShown, HasShownValues}
use Rattle.homology_rules.specs.Degrees.{keys_of_degree}
use Rattle.homology_rules.proofs.Alike.{Alike, alike-same, alike-then, alike-append}
use Rattle.homology_rules.proofs.CycleKeys.{degree-alike, above-alike}
use Rattle.homology_rules.proofs.QuotedVectors.{all-coordinates, cycle-quoted}
use Rattle.homology_rules.proofs.TypedKeys.{none-append, named-is}
use Rattle.homology_rules.proofs.TypedCycles.{all-shown, all-proper, d-shown, degree-told}
use Rattle.session_core.specs.Questions.{dimension}
use Rattle.session_core.specs.Dimensions.{dimension_over, key_about, keys_of_dimension, dimension_at, keys_of_dimensions, dimensions_at}
use Rattle.session_core.proofs.Sides.{here, differentials_in, degree_asks, degrees_asks, dimensions_from}

pub dimension-quoted : (a : Space) (p : ℕ) (ys : List (Small a)) (ds es : List (Terms (Small a))) → Every (IsSmallShown a) ys → Every (Each (IsSmallShown a)) ds → Every (Each (IsSmallShown a)) es
    → dimension_over code_cmp p (quote_basis a ys) (map (quote_small_chain a) ds) (map (quote_small_chain a) es) ≡ dimension p a ys ds es
dimension-quoted a p ys ds es u h l =
    λ i. length (reduced_basis p (length-map ys (quote_small a) i) (λ v. cycle-quoted a p ds v h i))
    - length (reduced_basis p (length-map ys (quote_small a) i) (in_span p (length-map ys (quote_small a) i) (all-coordinates a p ys es u l i)))

pub every-append : {A : Type 0} (P : A → Type 0) (xs ys : List A) → Every P xs → Every P ys → Every P (xs ++ ys)
every-append P [] ys h g = g
every-append P (x ∷ xs) ys h g = (h.0, every-append P xs ys h.1 g)

module _ (p : Prime) (t : Term) (allowed : IsAllowed (space_of t)) where
  abbrev a : Space
  a = space_of t

  abbrev q : ℕ
  q = number p

  abbrev k : Key
  k = key_about t p 0

  abbrev asks_in : ℕ → List Ask
  asks_in n = degree_asks (value q) q a n

  abbrev key : Ask → Key
  key x = key_of p x

  -- ---- keys

  pub dimension-keys : (n : ℕ) → Alike (keys_of_dimension k n) (map key (asks_in n ++ asks_in (suc n)))
  dimension-keys n =
      alike-then (keys_of_dimension k n) (map key (asks_in n) ++ map key (asks_in (suc n))) (map key (asks_in n ++ asks_in (suc n)))
      (alike-append (keys_of_degree k n) (map key (asks_in n)) (keys_of_degree k (n + 1)) (map key (asks_in (suc n))) (degree-alike k a refl n) (λ e. above-alike k a refl n))
      (sym (map-append key (asks_in n) (asks_in (suc n))))

  pub dimensions-keys : (n m : ℕ) → Alike (keys_of_dimensions k n m) (map key (degrees_asks (value q) q a n m))
  dimensions-keys n zero = alike-same [] [] refl
  dimensions-keys n (suc m) =
      alike-then (keys_of_dimension k n ++ keys_of_dimensions k (suc n) m) (map key (asks_in n ++ asks_in (suc n)) ++ map key (degrees_asks (value q) q a (suc n) m))
      (map key (degrees_asks (value q) q a n (suc m)))
      (alike-append (keys_of_dimension k n) (map key (asks_in n ++ asks_in (suc n))) (keys_of_dimensions k (suc n) m) (map key (degrees_asks (value q) q a (suc n) m)) (dimension-keys n)
      (λ e. dimensions-keys (suc n) m))
      (sym (map-append key (asks_in n ++ asks_in (suc n)) (degrees_asks (value q) q a (suc n) m)))

  -- each of them is read back
  small_ds-back : (ys : List (Small a)) → Every (IsProper a) ys → Every (IsReadBack p) (map (λ y. small_d a y) ys)
  small_ds-back [] h = tt
  small_ds-back (y ∷ ys) h = (small_d-back p a (named-is k a refl) y h.0, small_ds-back ys h.1)

  pub degree-back : (n : ℕ) → n + loopings a ≤ 24 → Every (IsReadBack p) (asks_in n)
  degree-back n low = (basis-back p a (named-is k a refl) n, small_ds-back (value q (basis a n)) (all-proper q a n allowed low))

  pub degrees-back : (n m : ℕ) → n + m + loopings a ≤ 24 → Every (IsReadBack p) (degrees_asks (value q) q a n m)
  degrees-back n zero low = tt
  degrees-back n (suc m) low =
      every-append (IsReadBack p) (asks_in n ++ asks_in (suc n)) (degrees_asks (value q) q a (suc n) m)
      (every-append (IsReadBack p) (asks_in n) (asks_in (suc n)) (degree-back n (omega (arith, low))) (degree-back (suc n) (omega (arith, low))))
      (degrees-back (suc n) m (omega (arith, low)))

  -- ---- values

  module _ (shown : HasShownValues q a) where
    dimension-told : (n : ℕ) → n + 1 + loopings a ≤ 24 → first_refusal (keys_of_dimension k n) ≡ None
        → dimension_at k n ≡ dimension q a (here (value q) q a n) (differentials_in (value q) q a n) (differentials_in (value q) q a (suc n))
    dimension-told n low e =
        let before : n + loopings a ≤ 24 = omega (arith, low) in
        let parts = none-append (keys_of_degree k n) (keys_of_degree k (n + 1)) e in
        let first = degree-told k a refl n allowed before parts.0 in
        let second = degree-told k a refl (n + 1) allowed low parts.1 in
        (λ i. dimension_over code_cmp q (first.0 i) (first.1 i) (second.1 i))
        ∙ dimension-quoted a q (here (value q) q a n) (differentials_in (value q) q a n) (differentials_in (value q) q a (n + 1)) (all-shown q a n allowed before)
        (d-shown q a n allowed before shown) (d-shown q a (n + 1) allowed low shown)
        ∙ ap (λ m. dimension q a (here (value q) q a n) (differentials_in (value q) q a n) (differentials_in (value q) q a m)) (let s : n + 1 ≡ suc n = omega arith in s)

    pub dimensions-told : (n m : ℕ) → n + m + loopings a ≤ 24 → first_refusal (keys_of_dimensions k n m) ≡ None → dimensions_at k n m ≡ dimensions_from (value q) q a n m
    dimensions-told n zero low e = refl
    dimensions-told n (suc m) low e =
        let s = none-append (keys_of_dimension k n) (keys_of_dimensions k (suc n) m) e in
        λ i. dimension-told n (omega (arith, low)) s.0 i ∷ dimensions-told (suc n) m (omega (arith, low)) s.1 i
