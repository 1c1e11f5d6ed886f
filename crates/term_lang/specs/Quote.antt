-- The cell and the simplex of the code for a plain simplex of a space: the mask of its degeneracies, and the cell that is left when these
-- are taken off (Eilenberg and Zilber; May, Simplicial Objects in Algebraic Topology, chapter I, on the normal form).
--
-- Values of the code are stated by these, so that a definition on plain simplices fixes each value of the code. A mask of the code has
-- bits below 32 alone, which are all where the degree is at most 32.
--
--   (2 ∷ 0 ∷ [], 1) of degree 4 of the sphere of dimension 2 is quoted as the mask 5 before Top(2)
use Rattle.std.specs.Prelude.{ℕ, zero, suc, ◌-◌, ◌%◌, ◌^◌, ◌<◌, Bool, List, map, pos, Option, Some, None}
use Rattle.std.proofs.Common.{lit<}
use Rattle.std.proofs.Math.Nat.{mod-lt}
use Rattle.simp_ops.specs.declared.degens.Degens.{Degens}
use Rattle.spaces.specs.Simplicial.{Simplicial}
use Rattle.spaces.specs.Tables.{RowSimplex, table_set}
use Rattle.spaces.specs.Nerves.{integers, integers_modulo, nerve_set}
use Rattle.spaces.specs.Orders.{mask, cell_of, dim_of}
use Rattle.spaces.specs.Spaces.{Space, table, sphere, product, suspension, kz1, bundle, loops, paths, kzm1, cyclic_bundle, Plain, set_of}
use Rattle.cells.specs.declared.cells.Letter.{Letter}
use Rattle.cells.specs.declared.cells.Simplex.{Simplex}
use Rattle.cells.specs.declared.cells.Cell.{Cell}
use Rattle.cells.specs.declared.cells.Cell.TheVariants.{Row, Base, Top, Pair, Up, Ints, Word}

pub below : (m : ℕ) → m % 2 ^ 32 < 2 ^ 32
below m = mod-lt m (lit< tt)

-- the places below 32 of a mask
abbrev pub degens_of : ℕ → Degens
degens_of m = record { mask = m % 2 ^ 32; below_32 = below m }

module _ {K : Type 0} (A : Simplicial K) (quote_cells : ℕ → K → Cell) where
  -- a simplex of degree n, by what quotes cells of each dimension
  abbrev pub quote_simplex : ℕ → K → Simplex
  quote_simplex n x = record { degens = degens_of (mask A n x); cell = quote_cells (dim_of A n x) (cell_of A n x) }

  -- letters whose simplices have degree n
  abbrev pub quote_letters : ℕ → List (Bool × K) → List Letter
  quote_letters n w = map (λ l. record { inverse = l.0; simplex = quote_simplex n l.1 }) w

abbrev pub row_cell : ℕ → RowSimplex → Cell
row_cell n x = Row n x.1

abbrev pub sphere_cell : ℕ → RowSimplex → Cell
sphere_cell zero x = Base
sphere_cell (suc n) x = Top (suc n)

abbrev pub suspended_cell : {K : Type 0} → (ℕ → K → Cell) → ℕ → Option (ℕ × K) → Cell
suspended_cell quote_cells n None = Base
suspended_cell quote_cells n (Some s) = Up (quote_cells (n - 1) s.1)

abbrev pub residues_cell : ℕ → List ℕ → Cell
residues_cell n list = Ints (map (λ k. pos k) list)

-- the cell of a non-degenerate simplex of degree n
abbrev pub quote_cell : (X : Space) → ℕ → Plain X → Cell
quote_cell (table t) n x = row_cell n x
quote_cell (sphere m) n x = sphere_cell n x
quote_cell (product a b) n x = Pair (quote_simplex (set_of a) (quote_cell a) n x.0) (quote_simplex (set_of b) (quote_cell b) n x.1)
quote_cell (suspension a) n x = suspended_cell (quote_cell a) n x
quote_cell kz1 n x = Ints x
quote_cell (bundle t c) n x = Pair (quote_simplex (table_set t) row_cell n x.0) (quote_simplex (nerve_set integers) (λ m y. Ints y) n x.1)
quote_cell (loops a) n w = Word (quote_letters (set_of a) (quote_cell a) (suc n) w)
quote_cell (paths a) n x =
    Pair (quote_simplex (set_of a) (quote_cell a) n x.0)
    (quote_simplex (set_of (loops a)) (λ m w. Word (quote_letters (set_of a) (quote_cell a) (suc m) w)) n x.1)
quote_cell (kzm1 m) n x = residues_cell n x
quote_cell (cyclic_bundle t m c) n x =
    Pair (quote_simplex (table_set t) row_cell n x.0) (quote_simplex (nerve_set (integers_modulo m)) residues_cell n x.1)

-- the simplex of a simplex of degree n
abbrev pub quote : (X : Space) → ℕ → Plain X → Simplex
quote X n x = quote_simplex (set_of X) (quote_cell X) n x
