-- The chain of one cell with the coefficient 1 is in normal form.
use Rattle.std.proofs.Common.{◌≡◌, [], ap}
use Rattle.std.proofs.Math.Nat.{mod-eq_of_lt}
use Rattle.fp_field.specs.declared.prime.Prime.{Prime}
use Rattle.fp_field.specs.Field.{number}
use Rattle.fp_field.specs.Normal.{normal, put}
use Rattle.fp_field.specs.Reduction.{one}
use Rattle.fp_field.proofs.Primes.{number_above_one}
use Rattle.cells.specs.Order.{cell_cmp}
use Rattle.cells.specs.declared.cells.Cell.{Cell}

pub one-normal : (p : Prime) (x : Cell) → normal cell_cmp (number p) (one x) ≡ one x
one-normal p x = ap (λ n. put cell_cmp (number p) x n []) (mod-eq_of_lt (number_above_one p))
