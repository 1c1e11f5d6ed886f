-- A simplex of a table, its face, and what the code makes of it.
use Rattle.std.proofs.Common.{◌≡◌, ℕ, suc, ◌+◌, ◌-◌, ◌^◌, ◌<◌, ◌≤◌, ◌&&◌, List, length, refl, sym, ◌∙◌, ap, subst, arith}
use Rattle.simp_ops.specs.Words.{IsWord, IsPassed, face_word, through, compose_words}
use Rattle.simp_ops.specs.Bits.{mask_word}
use Rattle.simp_ops.proofs.PlacesOf.{word_below, is_eq, is_lt}
use Rattle.simp_ops.proofs.OperatorLaws.{face_in}
use Rattle.spaces.specs.Simplicial.{IsSimplicial}
use Rattle.spaces.specs.Tables.{Table, InTable, row_at, listed_face, on_row, row_face, table_set}
use Rattle.spaces.specs.Allowed.{IsTable, face_count}
use Rattle.spaces.specs.Spaces.{table}
use Rattle.spaces.proofs.TableLaws.{table_set_laws}
use Rattle.spaces.proofs.WordLaws.{word_length}
use Rattle.cells.specs.declared.cells.Cell.{Cell, out-Cell, out-roll-Cell}
use Rattle.cells.specs.declared.cells.Cell.TheVariants.{Row, rolls-Row}
use Rattle.cells.specs.declared.cells.Cell.TheOpen.{Cell-F}
use Rattle.cells.specs.declared.cells.Letter.{Letter}
use Rattle.cells.specs.declared.cells.Simplex.{Simplex}
use Rattle.term_lang.specs.Degenerated.{degenerated}
use Rattle.term_lang.specs.Forms.{cell_form, form}
use Rattle.term_lang.specs.Belongs.{is_cell, IsSimplex}
use Rattle.term_lang.specs.Quote.{row_cell}
use Rattle.term_lang.proofs.CellForms.{form-Row, is_cell-Row}
use Rattle.term_lang.proofs.TablePlaces.{degenerated-row}
use Rattle.term_lang.proofs.CodeForms.{Known, known, mask_of_word}
use Rattle.term_lang.proofs.TableForms.{plain, test, stand_for_rows}

opened : (d r : ℕ) → out-Cell (Row d r) ≡ Cell-F.Row d r
opened d r = ap out-Cell (sym (rolls-Row d r)) ∙ out-roll-Cell (Cell-F.Row d r)

row_in : Cell-F Cell Letter Simplex → ℕ
row_in (Cell-F.Row d r) = r
row_in y = 0

-- a row is told by its cell
pub row_told : (d e r s : ℕ) → Row d r ≡ Row e s → r ≡ s
unfolding row_in
row_told d e r s p = ap row_in (sym (opened d r) ∙ ap out-Cell p ∙ opened e s)

module _ (t : Table) (is : IsTable t) where
  laws : IsSimplicial (table_set t)
  laws = table_set_laws t is.faces

  pub record At (n : ℕ) (x : Simplex) (r : ℕ) : Type 0 where
    pub plain_is : form x (table t) ≡ (mask_word x.degens.mask, r)
    pub simplex : InTable t n (mask_word x.degens.mask, r)
    pub cell : x.cell ≡ Row (row_at t r).dim r

  -- a simplex is on some row
  pub some_row : (n : ℕ) (x : Simplex) → IsSimplex (table t) n x → (r : ℕ) × At n x r
  some_row n x h =
      let k : Known t (plain t) (test t) row_cell n x = known t (plain t) (test t) row_cell laws (stand_for_rows t) n x h in
      (k.row, record { plain_is = k.plain_is; simplex = k.simplex; cell = sym k.cell ∙ ap (λ d. Row d k.row) (sym k.dim) })

  -- it is on the row of its cell
  pub at_row : (n : ℕ) (x : Simplex) (d r : ℕ) → IsSimplex (table t) n x → x.cell ≡ Row d r → At n x r
  at_row n x d r h e =
      let k = some_row n x h in
      subst (At n x) (row_told (row_at t k.0).dim d k.0 r (sym k.1.cell ∙ e)) k.1

  pub form_so : (n : ℕ) (x : Simplex) (d r : ℕ) → x.cell ≡ Row d r → IsWord n (mask_word x.degens.mask) → form x (table t) ≡ (mask_word x.degens.mask, r)
  form_so n x d r e word =
      ap (λ c. degenerated (table_set t) (mask_word x.degens.mask) (cell_form c (table t))) e
      ∙ ap (λ f. degenerated (table_set t) (mask_word x.degens.mask) (f (table t))) (form-Row d r) ∙ degenerated-row t n (mask_word x.degens.mask) r word

  pub simplex_so : (n : ℕ) (x : Simplex) (r : ℕ) → x.cell ≡ Row (row_at t r).dim r → InTable t n (mask_word x.degens.mask, r) → IsSimplex (table t) n x
  simplex_so n x r e s =
      let w = mask_word x.degens.mask in
      let d : (row_at t r).dim + length w ≡ n = s.degree in
      let m : x.degens.mask < 2 ^ n = mask_of_word n x.degens.mask x.degens.below_32 s.word in
      let f : n - length w ≡ (row_at t r).dim = omega (arith, d) in
      (λ i. is_lt x.degens.mask (2 ^ n) m i && is_cell (e i) (table t) (f i)) ∙ ap (λ g. g (table t) (row_at t r).dim) (is_cell-Row (row_at t r).dim r)
      ∙ (λ i. is_lt r (length t) s.row i && is_eq (row_at t r).dim (row_at t r).dim refl i && is_eq (row_at t r).dim (row_at t r).dim refl i)

  -- the face of a simplex of positive degree
  pub face_simplex : (n i r : ℕ) (w : List ℕ) → InTable t n (w, r) → 1 ≤ n → i ≤ n → InTable t (n - 1) (on_row t r (face_word i w))
  face_simplex n i r w s h l =
      let e : n ≡ suc (n - 1) = omega arith in
      laws.face_in (n - 1) i (w, r) (subst (λ k. InTable t k (w, r)) e s) (omega arith)

  -- what the code makes of the face
  pub record Made (n i : ℕ) (x y : Simplex) : Type 0 where
    pub plain_is : form y (table t) ≡ row_face t i (form x (table t))
    pub simplex : IsSimplex (table t) (n - 1) y

  pub made : (n i r s : ℕ) (x y : Simplex) → At n x r → 1 ≤ n → i ≤ n → y.cell ≡ Row (row_at t s).dim s
      → (mask_word y.degens.mask, s) ≡ on_row t r (face_word i (mask_word x.degens.mask)) → Made n i x y
  made n i r s x y a h l e f =
      let g : InTable t (n - 1) (mask_word y.degens.mask, s) = subst (InTable t (n - 1)) (sym f) (face_simplex n i r (mask_word x.degens.mask) a.simplex h l) in
      record {
        plain_is = form_so (n - 1) y (row_at t s).dim s e g.word ∙ f ∙ ap (row_face t i) (sym a.plain_is);
        simplex = simplex_so (n - 1) y s e g;
      }

  -- a face that comes through is in range on the row, and its word stays below the degree
  pub record Through (n j r : ℕ) (v : List ℕ) : Type 0 where
    pub face : j < length (row_at t r).faces
    pub fits : IsWord 32 (compose_words v (listed_face t j r).0)

  pub comes_through : (n i j r : ℕ) (w v : List ℕ) → InTable t n (w, r) → 1 ≤ n → n ≤ 32 → i ≤ n → face_word i w ≡ through j v → Through n j r v
  comes_through n i j r w v s h m l e =
      let f : n ≡ suc (n - 1) = omega arith in
      let d : (row_at t r).dim + length w ≡ n = s.degree in
      let p : IsPassed (n - 1) w (through j v) = subst (IsPassed (n - 1) w) e (face_in (n - 1) i w (subst (λ k. IsWord k w) f s.word) (omega arith)) in
      let b : length v ≤ n - 1 = word_length (n - 1) v p.0 in
      let q : length v ≡ length w = p.1 in
      let k : j + length w ≤ suc (n - 1) = p.2 in
      let above : (row_at t r).dim ≡ suc ((row_at t r).dim - 1) = omega arith in
      let count : length (row_at t r).faces ≡ suc (suc ((row_at t r).dim - 1)) = is.counted r s.row ∙ ap face_count above in
      let g : InTable t (n - 1) (on_row t r (through j v)) = subst (λ o. InTable t (n - 1) (on_row t r o)) e (face_simplex n i r w s h l) in
      record { face = omega (arith, count); fits = word_below (n - 1) 32 (compose_words v (listed_face t j r).0) (omega arith) g.word }
