-- Lists of integers at the places of keys about K(Z,1), and the terms of the homotopy of a list.
--
-- A cell of K(Z,1) is a list of integers none of which is 0 (Kenzo documentation, 1999, on K(Z,1)). H of a list has a term for each integer
-- from 1 to a - 1, where its first integer a is positive, and for each from a to -1, where a is negative.
--
--   H of |5| has the four terms |1|4|, |1|3|, |1|2| and |1|1|, and H of |-2| has |1|-2| and |1|-1|
use Rattle.std.specs.Prelude.{◌≡◌, ℕ, suc, ◌-◌, Bool, cond, List, [], ◌∷◌, map, ℤ, pos, negsuc}
use Rattle.std.specs.List.{AllByRecursion}
use Rattle.fp_field.specs.Chains.{Terms}
use Rattle.values.specs.Integers.{ones_up, ones_down}
use Rattle.cells.specs.declared.cells.Cell.{Cell}
use Rattle.cells.specs.declared.cells.Cell.TheVariants.{Ints}
use Rattle.oracle_iface.specs.CodeSizes.{cell_integer, small_cell_integer}
use Rattle.oracle_iface.specs.declared.keys.Place.{Place}
use Rattle.oracle_iface.specs.declared.keys.Place.TheVariants.{Degree, Small as SmallPlace, Big as BigPlace}

-- no integer is 0
abbrev pub IsFree : List ℤ → Type 0
IsFree x = AllByRecursion (λ a. a ≡ pos 0 → ⊥) x

-- the greatest magnitude of an integer at a place
abbrev pub integer_at : Place → ℕ
integer_at (Degree n) = 0
integer_at (SmallPlace y) = small_cell_integer y
integer_at (BigPlace x) = cell_integer x

-- the number of terms of H
abbrev pub homotopy_count : List ℤ → ℕ
homotopy_count [] = 0
homotopy_count (pos a ∷ w) = a - 1
homotopy_count (negsuc a ∷ w) = suc a

-- from minus the count to -1, or from the count down to 1
abbrev pub ones : Bool → ℕ → List ℤ
ones is_negative count = cond is_negative (ones_down count) (ones_up count)

-- the terms |1|n|w| with one coefficient
abbrev pub terms_beyond : List ℤ → ℕ → List ℤ → Terms Cell
terms_beyond w a ns = map (λ n. (Ints (pos 1 ∷ (n ∷ w)), a)) ns
