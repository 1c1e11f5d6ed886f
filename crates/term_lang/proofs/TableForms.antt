-- Normal forms of tables.
use Rattle.std.proofs.Common.{◌≡◌, ℕ, ◌≤◌, Bool, true, nat_lt, ◌==◌, ◌&&◌, length, refl, sym, ◌∙◌, ap, subst, true≢false}
use Rattle.simp_ops.proofs.PlacesOf.{is_eq, is_lt}
use Rattle.simp_ops.proofs.Squeezed.{and_left, and_right}
use Rattle.spaces.specs.Tables.{Table, RowSimplex, row_at, table_set}
use Rattle.spaces.specs.Allowed.{IsTable}
use Rattle.spaces.specs.Spaces.{table}
use Rattle.spaces.specs.Simplicial.{IsSimplicial}
use Rattle.spaces.proofs.TableLaws.{table_set_laws}
use Rattle.cells.specs.declared.cells.Cell.{Cell, roll-Cell, out-Cell, roll-out-Cell}
use Rattle.cells.specs.declared.cells.Cell.TheVariants.{Row, rolls-Row}
use Rattle.cells.specs.declared.cells.Cell.TheOpen.{Cell-F}
use Rattle.cells.specs.declared.cells.Letter.{Letter}
use Rattle.cells.specs.declared.cells.Simplex.{Simplex}
use Rattle.cells.proofs.Dimensions.{dim-Row}
use Rattle.term_lang.specs.Forms.{cell_form}
use Rattle.term_lang.specs.Belongs.{is_cell}
use Rattle.term_lang.specs.Quote.{row_cell}
use Rattle.term_lang.specs.NormalForms.{HasMaskedForms, HasNormalForms, HasNormalCells}
use Rattle.term_lang.proofs.CellForms.{tested, is_cell-roll, is_cell-Row, form-Row}
use Rattle.term_lang.proofs.MaskedForms.{masked_forms}
use Rattle.term_lang.proofs.NormalCells.{normal_cells}
use Rattle.term_lang.proofs.RowCells.{eq_is, rows_cmp}
use Rattle.term_lang.proofs.CodeForms.{Stands, StandForRows, lt_is, degree, simplex, once, onto, degenerate, quoted, formed, in_order}

module _ (t : Table) where
  abbrev pub plain : Cell → RowSimplex
  plain c = cell_form c (table t)

  abbrev pub test : Cell → ℕ → Bool
  test c n = is_cell c (table t) n

  in_layer : (n : ℕ) (y : Cell-F Cell Letter Simplex) → tested y (table t) n ≡ true → Stands t plain test row_cell n (roll-Cell y)
  unfolding tested
  in_layer n (Cell-F.Row d r) h =
      let a = and_left (nat_lt r (length t) && (d == (row_at t r).dim)) (n == d) h in
      let e : n ≡ d = eq_is n d (and_right (nat_lt r (length t) && (d == (row_at t r).dim)) (n == d) h) in
      let f : d ≡ (row_at t r).dim = eq_is d (row_at t r).dim (and_right (nat_lt r (length t)) (d == (row_at t r).dim) a) in
      subst (Stands t plain test row_cell n) (sym (rolls-Row d r))
      (record {
        row = r;
        within = lt_is r (length t) (and_left (nat_lt r (length t)) (d == (row_at t r).dim) a);
        dim = sym f ∙ sym e;
        plain_is = ap (λ c. c (table t)) (form-Row d r);
        quoted = ap (λ k. Row k r) e;
      })
  in_layer n y h = absurd (true≢false (sym h))

  pub stand_for_rows : StandForRows t plain test row_cell
  stand_for_rows = record {
    stands = λ n c h.
        subst (Stands t plain test row_cell n) (roll-out-Cell c)
        (in_layer n (out-Cell c) (ap (λ f. f (table t) n) (sym (is_cell-roll (out-Cell c))) ∙ ap (λ d. is_cell d (table t) n) (roll-out-Cell c) ∙ h));
    tested = λ r h.
        ap (λ f. f (table t) (row_at t r).dim) (is_cell-Row (row_at t r).dim r)
        ∙ (λ i. is_lt r (length t) h i && is_eq (row_at t r).dim (row_at t r).dim refl i && is_eq (row_at t r).dim (row_at t r).dim refl i);
    formed = λ r h. ap (λ c. c (table t)) (form-Row (row_at t r).dim r);
    dims = λ n r h e. dim-Row n r;
    in_order = λ n r s h l e f. rows_cmp n r s;
  }

pub masked_table : (t : Table) → IsTable t → (n : ℕ) → HasMaskedForms t n
masked_table t is n = masked_forms t (table_set_laws t is.faces) n

pub table_forms : (t : Table) → IsTable t → (n : ℕ) → n ≤ 32 → HasNormalForms (table t) n
table_forms t is n h =
    let laws : IsSimplicial (table_set t) = table_set_laws t is.faces in
    let rows = stand_for_rows t in
    record {
      degree = λ x is. degree t (plain t) (test t) row_cell laws rows n x h is;
      simplex = simplex t (plain t) (test t) row_cell laws rows n;
      once = once t (plain t) (test t) row_cell laws rows n;
      onto = λ y is. onto t (plain t) (test t) row_cell laws rows n y h is;
      degenerate = degenerate t (plain t) (test t) row_cell laws rows n;
      quoted = quoted t (plain t) (test t) row_cell laws rows n;
      formed = λ y is. formed t (plain t) (test t) row_cell laws rows n y h is;
      in_order = in_order t (plain t) (test t) row_cell laws rows n;
    }

pub table_cells : (t : Table) → IsTable t → (n : ℕ) → n ≤ 32 → HasNormalCells (table t) n
table_cells t is n h = normal_cells (table t) n h (table_forms t is n h)
