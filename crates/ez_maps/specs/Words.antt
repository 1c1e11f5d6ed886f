-- Shuffles that are read up to a place, on masks.
--
--   at place 1, after a step of the right part alone, the left mask is 1 and the right mask is 0
use Rattle.std.specs.Prelude.{◌≡◌, ℕ, zero, suc, ◌+◌, ◌≤◌, false, ◌&&◌, List, [], ◌∷◌, map}
use Rattle.fp_field.specs.Field.{sign}
use Rattle.simp_ops.specs.Bits.{bit}
use Rattle.simp_ops.specs.PathWords.{Step, left, right, pairs, shuffles, is_left, is_right}
use Rattle.spaces.specs.Orders.{Ordered}
use Rattle.spaces.specs.EilenbergZilber.{Linear, Pair, spread}

-- two masks with places below j alone, and none in common
pub record AreApart (j left right : ℕ) : Type 0 where
  pub left_low : (k : ℕ) → j ≤ k → bit left k ≡ false
  pub right_low : (k : ℕ) → j ≤ k → bit right k ≡ false
  pub apart : (k : ℕ) → (bit left k && bit right k) ≡ false

-- the pair of degree n of a word that is read from place j on, with its sign
abbrev pub shuffled_from : {K J : Type 0} → ℕ → Linear K → Ordered J → ℕ → ℕ → K → J → List Step → Pair K J × ℕ
shuffled_from p L R n j x y w = ((n, spread p L R L.degeneracy is_right j w x, spread p L R R.set.degeneracy is_left j w y), sign p (pairs w))

-- the words with l steps of the left part alone and r of the right part alone that begin with one of the left, and of the right
abbrev pub left_first : ℕ → ℕ → List (List Step)
left_first zero r = []
left_first (suc l) r = map (λ w. left ∷ w) (shuffles (l + r) l)

abbrev pub right_first : ℕ → ℕ → List (List Step)
right_first l zero = []
right_first l (suc r) = map (λ w. right ∷ w) (shuffles (l + r) l)
