-- How tensors of cells of the code stand for tensors of plain simplices.
--
-- A cell stands for the simplex without degeneracies; a tensor of a left cell and a right cell of degrees i and j for the tensor of
-- their forms, of degree i + j.
--
--   on the torus the tensor S1 (x) S1 of the code stands for the tensor of the two cells, of degree 2
use Rattle.std.specs.Prelude.{◌≡◌, ℕ, ◌+◌}
use Rattle.std.specs.Ordering.{ordering_then}
use Rattle.std.specs.declared.cmp.Ordering.{Ordering}
use Rattle.std.proofs.Common.{lit<}
use Rattle.fp_field.specs.Chains.{Terms}
use Rattle.spaces.specs.EilenbergZilber.{Tensor as Plain}
use Rattle.cells.specs.declared.cells.Cell.{Cell}
use Rattle.cells.specs.declared.cells.Simplex.{Simplex}
use Rattle.cells.specs.Dim.{dim_of}
use Rattle.cells.specs.Order.{cell_cmp}
use Rattle.ez_laws.specs.Sides.{on_keys}
use Rattle.tensor_red.specs.declared.tensors.Tensor.{Tensor}

-- the simplex of a cell, without degeneracies
abbrev pub bare : Cell → Simplex
bare c = record { degens = record { mask = 0; below_32 = lit< tt }; cell = c }

-- the order of tensors: by the left cell and then the right cell
abbrev pub tensor_cmp : Tensor Cell Cell → Tensor Cell Cell → Ordering
tensor_cmp s t = ordering_then (cell_cmp s.left t.left) (cell_cmp s.right t.right)

module _ (left right : ℕ → Simplex → Type 0) (degree : Cell → ℕ) where
  -- a tensor of a left and a right cell whose degrees add up to n
  abbrev pub IsTensorOf : ℕ → Tensor Cell Cell → Type 0
  IsTensorOf n t = left (degree t.left) (bare t.left) × right (dim_of t.right) (bare t.right) × (degree t.left + dim_of t.right ≡ n)

module _ {K J : Type 0} (degree : Cell → ℕ) (left_form : Simplex → K) (right_form : Simplex → J) where
  -- the tensor that a tensor of cells stands for
  abbrev pub tensor_form : Tensor Cell Cell → Plain K J
  tensor_form t = (degree t.left, left_form (bare t.left), dim_of t.right, right_form (bare t.right))

  -- a map on tensors of plain simplices, read on tensors of cells, with the keys of the code that `key` gives
  abbrev pub on_tensors : {A B : Type 0} → (A → B) → (Plain K J → Terms A) → Tensor Cell Cell → Terms B
  on_tensors key f t = on_keys key (f (tensor_form t))

-- the tensor of the code for a tensor of plain simplices
abbrev pub tensor_for : {K J : Type 0} → (ℕ → K → Simplex) → (ℕ → J → Simplex) → Plain K J → Tensor Cell Cell
tensor_for left_simplex right_simplex z = record { left = (left_simplex z.0 z.1).cell; right = (right_simplex z.2 z.3).cell }
