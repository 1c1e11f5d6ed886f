-- Combinations of vectors that use no vector that is a combination of earlier ones (linear algebra, any text).
--
--   of (1,0), (2,0), (0,1) the second is a combination of the first, so (2,1) is 2 times the first plus the third and in no other way
use Rattle.std.specs.Prelude.{◌≡◌, ℕ, ◌<◌, true, List, [], take, length, get_or}
use Rattle.echelons.specs.Echelon.{Vector, IsVector, at_place, combined, in_span}

-- 0 at each place whose vector is a combination of those before it
abbrev pub IsThrifty : ℕ → ℕ → List Vector → Vector → Type 0
IsThrifty p w vs b = (i : ℕ) → i < length vs → in_span p w (take i vs) (get_or vs i []) ≡ true → at_place b i ≡ 0

-- t as such a combination
pub record IsThriftySum (p w : ℕ) (vs : List Vector) (t b : Vector) : Type 0 where
  pub numbers_in : IsVector p (length vs) b
  pub thrifty : IsThrifty p w vs b
  pub sum_is : combined p w b vs ≡ t
