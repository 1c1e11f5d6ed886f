-- Rows of trees of integers, in their lexicographic order: by the first number, then what hangs below it, then the rest; of two of
-- which one begins the other the shorter is less.
--
-- Cells are nested lists of numbers, so this one order serves for all of them (Kenzo compares nested lists in the same way: Kenzo
-- documentation, 1999, the comparison functions of chain complexes). For example the row 1, 5 is less than the row 1, 7, and a row
-- whose first number 1 has 4 below it is less than one whose first number 1 has 6 below it.
use Rattle.std.specs.Prelude.{ℤ}
use Rattle.std.specs.Ordering.{int_cmp, ordering_then}
use Rattle.std.specs.declared.cmp.Ordering.{Ordering}
use Rattle.std.specs.declared.cmp.Ordering.TheVariants.{Less, Equal, Greater}

pub data Forest : Type 0 where
  end : Forest
  item : ℤ → Forest → Forest → Forest

abbrev pub forest_cmp : Forest → Forest → Ordering
forest_cmp end end = Equal
forest_cmp end (item y d s) = Less
forest_cmp (item x c r) end = Greater
forest_cmp (item x c r) (item y d s) = ordering_then (int_cmp x y) (ordering_then (forest_cmp c d) (forest_cmp r s))
