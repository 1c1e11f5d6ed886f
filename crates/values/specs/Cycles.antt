-- The cycles that stand for the homology of a space in a degree, as a right side.
--
-- Over the small cells of degree n: the complement, in the vectors whose small differential is 0, of the span of the small
-- differentials of the small cells of degree n + 1; each of its vectors is carried into the space by G.
use Rattle.std.specs.Prelude.{ℕ, zero, suc, ◌%◌, Bool, true, false, List, [], ◌∷◌, map, length}
use Rattle.std.specs.Ordering.{is_eq}
use Rattle.fp_field.specs.Chains.{Terms, coeff, combination}
use Rattle.fp_field.specs.Normal.{normal}
use Rattle.echelons.specs.Echelon.{Vector, complement, in_span}
use Rattle.spaces.specs.Spaces.{Space}
use Rattle.spaces.specs.Orders.{ordered, by_degree}
use Rattle.spaces.specs.SmallCells.{Small, small_cmp}
use Rattle.values.specs.Asks.{basis, small_d, g, Cell, Right, ask, each, ◌>>=◌, on_chain}

abbrev pub is_empty : {A : Type 0} → List A → Bool
is_empty [] = true
is_empty (x ∷ xs) = false

module _ (p : ℕ) (a : Space) where
  -- the coefficients of a chain at small cells
  abbrev pub coordinates : List (Small a) → Terms (Small a) → Vector
  coordinates ys c = map (λ y. coeff (λ u v. is_eq (small_cmp a u v)) c y % p) ys

  -- the vectors over small cells with the small differentials ds whose own is 0
  abbrev pub is_small_cycle : List (Terms (Small a)) → Vector → Bool
  is_small_cycle ds v = is_empty (normal (small_cmp a) p (combination v ds))

  abbrev pub cycle_vectors : List (Small a) → List (Terms (Small a)) → List (Terms (Small a)) → List Vector
  cycle_vectors ys ds es = complement p (length ys) (is_small_cycle ds) (in_span p (length ys) (map (coordinates ys) es))

  -- the terms of a vector, without those that are 0, each with its coefficient
  abbrev pub terms_of : List (Small a) → Vector → Terms (Small a)
  terms_of [] v = []
  terms_of (y ∷ ys) [] = []
  terms_of (y ∷ ys) (zero ∷ v) = terms_of ys v
  terms_of (y ∷ ys) (suc b ∷ v) = (y, suc b) ∷ terms_of ys v

  abbrev pub carried : List (Small a) → Vector → Right (Terms (Cell a))
  carried ys v = on_chain (by_degree (ordered a).cmp) p (λ y. ask (g a y)) (terms_of ys v)

  abbrev pub rule_cycles : ℕ → Right (List (Terms (Cell a)))
  rule_cycles n = do
    ys ← ask (basis a n)
    ds ← each (λ y. ask (small_d a y)) ys
    zs ← ask (basis a (suc n))
    es ← each (λ z. ask (small_d a z)) zs
    each (carried ys) (cycle_vectors ys ds es)
