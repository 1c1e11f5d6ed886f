-- How the numbers of a forest compare. That forests which compare as equal are equal is a law of their order.
use Rattle.std.proofs.Common.{◌≡◌, ℕ, pos, arith}
use Rattle.std.proofs.lemmas.Bool.Decides.{nat_tests}
use Rattle.std.specs.Ordering.{int_cmp, nat_cmp}
pub use Rattle.cells.specs.ForestLaws.{forest_is}

pub positive : (a b : ℕ) → int_cmp (pos a) (pos b) ≡ nat_cmp a b
positive a b = grind (arith, nat_tests)
