-- Groups by their operations, and the inverse of a word of letters (May, Simplicial Objects, chapter VI, 26).
--
--   the word [x, y^-1] has the inverse [y, x^-1]
use Rattle.std.specs.Prelude.{◌≡◌, not, List, [], ◌∷◌, ◌++◌}
use Rattle.spaces.specs.Simplicial.{Simplicial}
use Rattle.spaces.specs.LoopGroups.{Letter}

-- a group on what Is holds of
pub record IsGroup {J : Type 0} (Is : J → Type 0) (times : J → J → J) (unit : J) (inverse : J → J) : Type 0 where
  pub times_in : (x y : J) → Is x → Is y → Is (times x y)
  pub unit_in : Is unit
  pub inverse_in : (x : J) → Is x → Is (inverse x)
  pub associates : (x y z : J) → Is x → Is y → Is z → times (times x y) z ≡ times x (times y z)
  pub unit_left : (x : J) → Is x → times unit x ≡ x
  pub unit_right : (x : J) → Is x → times x unit ≡ x
  pub inverse_left : (x : J) → Is x → times (inverse x) x ≡ unit
  pub inverse_right : (x : J) → Is x → times x (inverse x) ≡ unit

module _ {K : Type 0} (A : Simplicial K) where
  -- a word turned around, with the inverse of each letter in its place
  abbrev pub inverse_word : List (Letter A) → List (Letter A)
  inverse_word [] = []
  inverse_word (l ∷ w) = inverse_word w ++ ((not l.0, l.1) ∷ [])
