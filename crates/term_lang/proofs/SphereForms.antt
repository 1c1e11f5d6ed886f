-- Normal forms of spheres.
use Rattle.std.proofs.Common.{◌≡◌, ℕ, zero, suc, ◌<◌, ◌≤◌, Bool, true, ◌==◌, ◌&&◌, [], refl, sym, ◌∙◌, ap, subst, arith, true≢false}
use Rattle.std.proofs.lemmas.Cmp.{tied_itself, nat_cmp_total}
use Rattle.std.specs.Ordering.{nat_cmp}
use Rattle.simp_ops.proofs.PlacesOf.{is_eq}
use Rattle.simp_ops.proofs.Squeezed.{and_left, and_right}
use Rattle.spaces.specs.Tables.{Table, RowSimplex, row_at, table_set, sphere_rows}
use Rattle.spaces.specs.Spaces.{sphere}
use Rattle.spaces.specs.Simplicial.{IsSimplicial}
use Rattle.spaces.proofs.TableLaws.{table_set_laws}
use Rattle.spaces.proofs.SphereTable.{sphere_faces}
use Rattle.cells.specs.declared.cells.Cell.{Cell, roll-Cell, out-Cell, roll-out-Cell}
use Rattle.cells.specs.declared.cells.Cell.TheVariants.{Top, rolls-Base, rolls-Top}
use Rattle.cells.specs.declared.cells.Cell.TheOpen.{Cell-F}
use Rattle.cells.specs.declared.cells.Letter.{Letter}
use Rattle.cells.specs.declared.cells.Simplex.{Simplex}
use Rattle.cells.specs.Dim.{dim_of}
use Rattle.cells.proofs.Dimensions.{dim-Base, dim-Top}
use Rattle.cells.specs.Order.{cell_cmp}
use Rattle.term_lang.specs.Forms.{cell_form}
use Rattle.term_lang.specs.Belongs.{is_cell}
use Rattle.term_lang.specs.Quote.{sphere_cell}
use Rattle.term_lang.specs.NormalForms.{HasMaskedForms, HasNormalForms, HasNormalCells}
use Rattle.term_lang.proofs.CellForms.{tested, is_cell-roll, is_cell-Base, is_cell-Top, form-Base, form-Top}
use Rattle.term_lang.proofs.MaskedForms.{masked_forms}
use Rattle.term_lang.proofs.NormalCells.{normal_cells}
use Rattle.term_lang.proofs.RowCells.{eq_is, cell_cmp-same}
use Rattle.term_lang.proofs.CodeForms.{Stands, StandForRows, degree, simplex, once, onto, degenerate, quoted, formed, in_order}

module _ (m : ℕ) where
  abbrev pub rows : Table
  rows = sphere_rows m

  abbrev pub plain : Cell → RowSimplex
  plain c = cell_form c (sphere m)

  abbrev pub test : Cell → ℕ → Bool
  test c n = is_cell c (sphere m) n

  module _ (positive : 0 < m) where
    top_is : (n : ℕ) → n ≡ m → (x : RowSimplex) → sphere_cell n x ≡ Top n
    top_is zero e x = absurd (omega arith)
    top_is (suc n) e x = refl

    in_layer : (n : ℕ) (y : Cell-F Cell Letter Simplex) → tested y (sphere m) n ≡ true → Stands rows plain test sphere_cell n (roll-Cell y)
    unfolding tested
    in_layer n Cell-F.Base h =
        let e : n ≡ 0 = eq_is n 0 h in
        subst (Stands rows plain test sphere_cell n) (sym rolls-Base)
        (record {
          row = 0;
          within = omega arith;
          dim = sym e;
          plain_is = ap (λ c. c (sphere m)) form-Base;
          quoted = ap (λ k. sphere_cell k ([], 0)) e;
        })
    in_layer n (Cell-F.Top k) h =
        let e : k ≡ m = eq_is k m (and_left (k == m) (n == m) h) in
        let f : n ≡ m = eq_is n m (and_right (k == m) (n == m) h) in
        subst (Stands rows plain test sphere_cell n) (sym (rolls-Top k))
        (record {
          row = 1;
          within = omega arith;
          dim = sym f;
          plain_is = ap (λ c. c (sphere m)) (form-Top k);
          quoted = top_is n f ([], 1) ∙ ap Top (f ∙ sym e);
        })
    in_layer n y h = absurd (true≢false (sym h))

    tested_row : (r : ℕ) → r < 2 → test (sphere_cell (row_at rows r).dim ([], r)) (row_at rows r).dim ≡ true
    tested_row zero h = ap (λ f. f (sphere m) 0) is_cell-Base
    tested_row (suc zero) h =
        ap (λ c. test c m) (top_is m refl ([], 1)) ∙ ap (λ f. f (sphere m) m) (is_cell-Top m) ∙ (λ i. is_eq m m refl i && is_eq m m refl i)
    tested_row (suc (suc r)) h = absurd (omega arith)

    formed_row : (r : ℕ) → r < 2 → plain (sphere_cell (row_at rows r).dim ([], r)) ≡ ([], r)
    formed_row zero h = ap (λ c. c (sphere m)) form-Base
    formed_row (suc zero) h = ap plain (top_is m refl ([], 1)) ∙ ap (λ c. c (sphere m)) (form-Top m)
    formed_row (suc (suc r)) h = absurd (omega arith)

    -- the two rows have different dimensions
    same_row : (r s : ℕ) → r < 2 → s < 2 → (row_at rows r).dim ≡ (row_at rows s).dim → r ≡ s
    same_row zero zero h l e = refl
    same_row zero (suc zero) h l e = absurd (omega (arith, e))
    same_row (suc zero) zero h l e = absurd (omega (arith, e))
    same_row (suc zero) (suc zero) h l e = refl
    same_row (suc (suc r)) s h l e = absurd (omega arith)
    same_row r (suc (suc s)) h l e = absurd (omega arith)

    rows_in_order : (n r s : ℕ) → r < 2 → s < 2 → (row_at rows r).dim ≡ n → (row_at rows s).dim ≡ n
        → cell_cmp (sphere_cell n ([], r)) (sphere_cell n ([], s)) ≡ nat_cmp r s
    rows_in_order n r s h l e f =
        let g : r ≡ s = same_row r s h l (e ∙ sym f) in
        ap (λ k. cell_cmp (sphere_cell n ([], k)) (sphere_cell n ([], s))) g ∙ cell_cmp-same (sphere_cell n ([], s))
        ∙ sym (ap (λ k. nat_cmp k s) g ∙ tied_itself nat_cmp_total s)

    dims_of_rows : (n r : ℕ) → r < 2 → (row_at rows r).dim ≡ n → dim_of (sphere_cell n ([], r)) ≡ n
    dims_of_rows n zero h e = ap (λ k. dim_of (sphere_cell k ([], 0))) (sym e) ∙ dim-Base ∙ e
    dims_of_rows n (suc zero) h e = ap dim_of (top_is n (sym e) ([], 1)) ∙ dim-Top n
    dims_of_rows n (suc (suc r)) h e = absurd (omega arith)

    pub stand_for_rows : StandForRows rows plain test sphere_cell
    stand_for_rows = record {
      stands = λ n c h.
          subst (Stands rows plain test sphere_cell n) (roll-out-Cell c)
          (in_layer n (out-Cell c) (ap (λ f. f (sphere m) n) (sym (is_cell-roll (out-Cell c))) ∙ ap (λ d. is_cell d (sphere m) n) (roll-out-Cell c) ∙ h));
      tested = tested_row;
      formed = formed_row;
      dims = dims_of_rows;
      in_order = rows_in_order;
    }

    laws : IsSimplicial (table_set rows)
    laws = table_set_laws rows (sphere_faces m positive)

    pub masked_sphere : (n : ℕ) → HasMaskedForms rows n
    masked_sphere n = masked_forms rows laws n

    pub sphere_forms : (n : ℕ) → n ≤ 32 → HasNormalForms (sphere m) n
    sphere_forms n h = record {
      degree = λ x is. degree rows plain test sphere_cell laws stand_for_rows n x h is;
      simplex = simplex rows plain test sphere_cell laws stand_for_rows n;
      once = once rows plain test sphere_cell laws stand_for_rows n;
      onto = λ y is. onto rows plain test sphere_cell laws stand_for_rows n y h is;
      degenerate = degenerate rows plain test sphere_cell laws stand_for_rows n;
      quoted = quoted rows plain test sphere_cell laws stand_for_rows n;
      formed = λ y is. formed rows plain test sphere_cell laws stand_for_rows n y h is;
      in_order = in_order rows plain test sphere_cell laws stand_for_rows n;
    }

    pub sphere_cells : (n : ℕ) → n ≤ 32 → HasNormalCells (sphere m) n
    sphere_cells n h = normal_cells (sphere m) n h (sphere_forms n h)
