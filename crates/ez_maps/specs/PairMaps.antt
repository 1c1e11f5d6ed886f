-- Pairs and tensors of cells of the code as a reduction: the maps on pairs and tensors of plain simplices, read on the cells of the code.
--
-- The generators are the pairs and tensors of degree at most a bound. The flow is read below the bound; at the bound nothing is asked
-- of it, and it counts as 0.
--
--   on the torus over F_3, with a bound above 2, f(<S1,S1>) = * (x) S1 + S1 (x) * and h(<S1,S1>) = 2 <0:S1,1:S1>
use Rattle.std.specs.Prelude.{ℕ, ◌≤◌, cond, nat_lt, []}
use Rattle.std.specs.Ordering.{eq_by_cmp}
use Rattle.fp_field.specs.Chains.{Terms}
use Rattle.fp_field.specs.Reduction.{Maps}
use Rattle.spaces.specs.Orders.{Ordered}
use Rattle.spaces.specs.EilenbergZilber.{Linear, Pair, pair_d, aw, eml, flow}
use Rattle.cells.specs.Order.{cell_cmp}
use Rattle.cells.specs.declared.cells.Cell.{Cell}
use Rattle.cells.specs.declared.cells.Simplex.{Simplex}
use Rattle.reduct_laws.specs.Lists.{Lists}
use Rattle.ez_laws.specs.Complexes.{tensor_d}
use Rattle.ez_flow.specs.Parts.{IsPairOf}
use Rattle.ez_flow.specs.CodeMaps.{cell_for, on_cells}
use Rattle.ez_maps.specs.Tensors.{tensor_cmp, IsTensorOf, tensor_for, on_tensors}
use Rattle.tensor_red.specs.declared.tensors.Tensor.{Tensor}

-- the flow below a degree
abbrev pub flow_below : {K J : Type 0} → ℕ → ℕ → Linear K → Ordered J → Pair K J → Terms (Pair K J)
flow_below bound p L R s = cond (nat_lt s.0 bound) (flow p L R s) []

module _ {K J : Type 0} (p bound : ℕ) (L : Linear K) (In : ℕ → K → Type 0) (R : Ordered J)
    (left : ℕ → Simplex → Type 0) (left_form : Simplex → K) (left_simplex : ℕ → K → Simplex)
    (right : ℕ → Simplex → Type 0) (right_form : Simplex → J) (right_simplex : ℕ → J → Simplex) (degree : Cell → ℕ) where
  abbrev pub pair_maps : Maps Cell (Tensor Cell Cell)
  pair_maps = record {
    big = record {
      generator = λ n c. IsPairOf left right n c × (n ≤ bound);
      same = eq_by_cmp cell_cmp;
      d = on_cells degree left_form right_form (cell_for left_simplex right_simplex) (pair_d p L R);
    };
    small = record {
      generator = λ n t. IsTensorOf left right degree n t × (n ≤ bound);
      same = eq_by_cmp tensor_cmp;
      d = on_tensors degree left_form right_form (tensor_for left_simplex right_simplex) (tensor_d p L In R);
    };
    f = on_cells degree left_form right_form (tensor_for left_simplex right_simplex) (aw p L R);
    g = on_tensors degree left_form right_form (cell_for left_simplex right_simplex) (eml p L R);
    h = on_cells degree left_form right_form (cell_for left_simplex right_simplex) (flow_below bound p L R);
  }

-- maps that ask nothing
abbrev pub no_lists : {B S A : Type 0} → Lists B S A
no_lists = record { big_d = λ x. []; small_d = λ y. []; f = λ x. []; g = λ y. []; h = λ x. [] }
