-- The cell of the 2-sphere as a simplex of its table.
use Rattle.std.proofs.Common.{◌≡◌, ℕ, ◌+◌, ◌<◌, List, [], ◌∷◌, map, length, refl, sym, ◌∙◌, ap, subst, arith, lit≤}
use Rattle.std.proofs.lemmas.List.{length-map}
use Rattle.simp_ops.specs.Bits.{mask_word}
use Rattle.simp_ops.proofs.MaskWords.{places-none}
use Rattle.spaces.specs.Allowed.{IsTable}
use Rattle.spaces.specs.Tables.{Table, InTable, row_at}
use Rattle.spaces.specs.Spaces.{table}
use Rattle.cells.specs.declared.cells.Cell.TheVariants.{Row}
use Rattle.cells.specs.declared.cells.Simplex.{Simplex}
use Rattle.cells.specs.Dim.{degree_of}
use Rattle.term_lang.specs.Belongs.{IsSimplex}
use Rattle.term_lang.proofs.RowFaces.{simplex_so}
use Rattle.finite_sets.specs.Spheres.{unnamed}
use Rattle.spaces.specs.Tables.{sphere_rows}
use Rattle.twist_maps.proofs.Triangles.{degree-is}

dim_at : (t : Table) → (row_at (map unnamed t) 1).dim ≡ (row_at t 1).dim
dim_at [] = refl
dim_at (x ∷ []) = refl
dim_at (x ∷ (y ∷ t)) = refl

module _ (t : Table) (is : IsTable t) (rows_are : map unnamed t ≡ sphere_rows 2) (x : Simplex) (mask : x.degens.mask ≡ 0) (cell : x.cell ≡ Row 2 1) where
  two : (row_at t 1).dim ≡ 2
  two = sym (dim_at t) ∙ ap (λ l. (row_at l 1).dim) rows_are

  pub cell_simplex : IsSimplex (table t) 2 x
  cell_simplex =
      simplex_so t is 2 x 1 (cell ∙ ap (λ d. Row d 1) (sym two))
      (subst (λ w. InTable t 2 (w, 1)) (sym (ap mask_word mask ∙ places-none 32)) (record {
        row = (let e : length t ≡ 2 = sym (length-map t unnamed) ∙ ap length rows_are in omega (arith, e));
        degree = (let e : (row_at t 1).dim + 0 ≡ 2 = omega (arith, two) in e);
        word = tt;
      }))

  pub cell_degree : degree_of x ≡ 2
  cell_degree = degree-is t is 2 (lit≤ tt) x cell_simplex

  pub cell_at_degree : IsSimplex (table t) (degree_of x) x
  cell_at_degree = subst (λ k. IsSimplex (table t) k x) (sym cell_degree) cell_simplex
