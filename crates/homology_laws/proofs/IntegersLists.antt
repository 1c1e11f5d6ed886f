-- K(Z,1): its maps are a reduction, and its cycles are homology lists.
use Rattle.std.proofs.Common.{ℕ, suc, ◌<◌, sym, ◌∙◌, arith}
use Rattle.fp_field.specs.Field.{IsField}
use Rattle.fp_field.specs.Reduction.{IsReduction}
use Rattle.spaces.specs.Spaces.{kz1}
use Rattle.values.specs.Values.{value, value_at}
use Rattle.values.specs.Laws.{maps_of, ListsHomology}
use Rattle.values.proofs.BasesCells.{basis-degree, basis-rising}
use Rattle.homology_laws.specs.Kernel.{BasisRises, CyclesAreGiven, IsListable}
use Rattle.homology_laws.proofs.Kernel.{read-cycles, listed-homology}
use Rattle.homology_laws.proofs.IntegersMaps.{integers-reduction}

module _ (p : ℕ) (field : IsField p) where
  positive : 0 < p
  positive = let l : 1 < p = field.one_is_not_zero in omega arith

  pub circle-reduction : IsReduction p (maps_of p kz1)
  circle-reduction = integers-reduction p positive

  rises : (n : ℕ) → BasisRises p kz1 n
  rises n = record { degrees = basis-degree p kz1 n; rises = basis-rising p kz1 n }

  given : (n : ℕ) → CyclesAreGiven p kz1 n
  given n = read-cycles p kz1 n (value_at p 1) ∙ sym (read-cycles p kz1 n (value p))

  pub integers-listable : (n : ℕ) → IsListable p kz1 n
  integers-listable n = record {
    allowed = (tt, omega arith);
    reduction = circle-reduction (suc n);
    here = rises n;
    above = rises (suc n);
    given = given n;
  }

  pub integers-lists : (n : ℕ) → ListsHomology p kz1 n
  integers-lists n is = listed-homology p field kz1 n (integers-listable n)
