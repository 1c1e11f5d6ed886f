-- Vectors over small cells, and over their quotes.
use Rattle.std.proofs.Common.{◌≡◌, ℕ, zero, suc, ◌+◌, ◌*◌, ◌%◌, cond, List, [], ◌∷◌, map, refl, ◌∙◌, ap}
use Rattle.std.specs.List.{AllByRecursion as Every}
use Rattle.std.specs.Ordering.{is_eq, eq_by_cmp}
use Rattle.std.proofs.lemmas.List.{length-map}
use Rattle.fp_field.specs.Chains.{Terms, Each, coeff, combination}
use Rattle.fp_field.specs.Normal.{normal}
use Rattle.echelons.specs.Echelon.{Vector, complement, in_span}
use Rattle.spaces.specs.Spaces.{Space}
use Rattle.spaces.specs.SmallCells.{Small, small_cmp}
use Rattle.values.specs.Cycles.{is_empty, coordinates, is_small_cycle, cycle_vectors, terms_of}
use Rattle.cells.specs.Small.{small_cmp as code_cmp}
use Rattle.oracle_iface.specs.Keys.{quote_basis, quote_small_chain}
use Rattle.oracle_iface.specs.SmallForms.{quote_small}
use Rattle.oracle_iface.proofs.SmallOrders.{order-small}
use Rattle.oracle_iface.proofs.CarriedChains.{carried-normal}
use Rattle.homology_rules.specs.CycleVectors.{coordinates_over, is_cycle_over, cycle_vectors_over}
use Rattle.homology_rules.specs.Vectors.{terms_over}
use Rattle.homology_rules.specs.Shown.{IsSmallShown}
use Rattle.homology_rules.proofs.Quoted.{carried-combination, each-combination}

module _ (a : Space) (p : ℕ) where
  abbrev Is : Small a → Type 0
  Is y = IsSmallShown a y

  -- ---- small chains

  pub small-chain : (c : Terms (Small a)) → Each Is c → normal code_cmp p (quote_small_chain a c) ≡ quote_small_chain a (normal (small_cmp a) p c)
  small-chain c h = carried-normal (quote_small a) (small_cmp a) code_cmp p Is (λ x y u v. order-small a x y u.0 v.0 u.1 v.1) c h

  coeff-quoted : (y : Small a) (c : Terms (Small a)) → Is y → Each Is c
      → coeff (eq_by_cmp code_cmp) (quote_small_chain a c) (quote_small a y) ≡ coeff (λ u v. is_eq (small_cmp a u v)) c y
  coeff-quoted y [] u h = refl
  coeff-quoted y (t ∷ c) u h =
      λ i. t.1 * cond (is_eq (order-small a t.0 y h.0.0 u.0 h.0.1 u.1 i)) 1 0 + coeff-quoted y c u h.1 i

  -- ---- coordinates

  pub coordinates-quoted : (ys : List (Small a)) (c : Terms (Small a)) → Every Is ys → Each Is c
      → coordinates_over code_cmp p (quote_basis a ys) (quote_small_chain a c) ≡ coordinates p a ys c
  coordinates-quoted [] c u h = refl
  coordinates-quoted (y ∷ ys) c u h = λ i. coeff-quoted y c u.0 h i % p ∷ coordinates-quoted ys c u.1 h i

  pub all-coordinates : (ys : List (Small a)) (es : List (Terms (Small a))) → Every Is ys → Every (Each Is) es
      → map (coordinates_over code_cmp p (quote_basis a ys)) (map (quote_small_chain a) es) ≡ map (coordinates p a ys) es
  all-coordinates ys [] u h = refl
  all-coordinates ys (e ∷ es) u h = λ i. coordinates-quoted ys e u h.0 i ∷ all-coordinates ys es u h.1 i

  -- ---- cycles

  empty-quoted : (c : Terms (Small a)) → is_empty (quote_small_chain a c) ≡ is_empty c
  empty-quoted [] = refl
  empty-quoted (t ∷ c) = refl

  pub cycle-quoted : (ds : List (Terms (Small a))) (v : Vector) → Every (Each Is) ds
      → is_cycle_over code_cmp p (map (quote_small_chain a) ds) v ≡ is_small_cycle p a ds v
  cycle-quoted ds v h =
      ap (λ c. is_empty (normal code_cmp p c)) (carried-combination (quote_small a) v ds)
      ∙ ap is_empty (small-chain (combination v ds) (each-combination Is v ds h)) ∙ empty-quoted (normal (small_cmp a) p (combination v ds))

  pub vectors-quoted : (ys : List (Small a)) (ds es : List (Terms (Small a))) → Every Is ys → Every (Each Is) ds → Every (Each Is) es
      → cycle_vectors_over code_cmp p (quote_basis a ys) (map (quote_small_chain a) ds) (map (quote_small_chain a) es) ≡ cycle_vectors p a ys ds es
  vectors-quoted ys ds es u h l =
      λ i. complement p (length-map ys (quote_small a) i) (λ v. cycle-quoted ds v h i) (in_span p (length-map ys (quote_small a) i) (all-coordinates ys es u l i))

  -- ---- terms

  pub terms-quoted : (ys : List (Small a)) (v : Vector) → terms_over (quote_basis a ys) v ≡ quote_small_chain a (terms_of p a ys v)
  terms-quoted [] v = refl
  terms-quoted (y ∷ ys) [] = refl
  terms-quoted (y ∷ ys) (zero ∷ v) = terms-quoted ys v
  terms-quoted (y ∷ ys) (suc b ∷ v) = ap (λ c. (quote_small a y, suc b) ∷ c) (terms-quoted ys v)

  -- the small cells of a vector are among all
  pub each-terms : (P : Small a → Type 0) (ys : List (Small a)) (v : Vector) → Every P ys → Each P (terms_of p a ys v)
  each-terms P [] v u = tt
  each-terms P (y ∷ ys) [] u = tt
  each-terms P (y ∷ ys) (zero ∷ v) u = each-terms P ys v u.1
  each-terms P (y ∷ ys) (suc b ∷ v) u = (u.0, each-terms P ys v u.1)
