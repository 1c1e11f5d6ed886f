-- A simplex of a sphere, its face, and what the code makes of it.
use Rattle.std.proofs.Common.{◌≡◌, ℕ, zero, suc, ◌+◌, ◌-◌, ◌*◌, ◌%◌, ◌^◌, ◌<◌, ◌≤◌, Bool, true, ◌==◌, ◌&&◌, List, [], ◌∷◌, length, refl, sym, ◌∙◌, ap, subst, arith, ◌⊎◌, inl, inr}
use Rattle.std.proofs.lemmas.Bool.{cases_lt}
use Rattle.std.proofs.lemmas.Nat.{pow_pos, pow_below}
use Rattle.std.proofs.Math.Nat.{mod-eq_of_lt}
use Rattle.simp_ops.specs.Words.{IsWord, through, face_word, compose_words}
use Rattle.simp_ops.specs.Bits.{mask_word, places}
use Rattle.simp_ops.proofs.PlacesOf.{is_lt}
use Rattle.simp_ops.proofs.Squeezed.{and_left, and_right}
use Rattle.term_lang.proofs.RowCells.{eq_is}
use Rattle.spaces.specs.Simplicial.{IsSimplicial}
use Rattle.spaces.specs.Tables.{RowSimplex, InTable, entry, copies, row_at, listed_face, on_row, row_face, table_set, sphere_rows, all_degeneracies}
use Rattle.spaces.specs.Spaces.{sphere}
use Rattle.spaces.proofs.TableLaws.{table_set_laws}
use Rattle.spaces.proofs.SphereTable.{sphere_faces}
use Rattle.spaces.proofs.WordLaws.{word_length}
use Rattle.cells.specs.declared.cells.Cell.TheVariants.{Base}
use Rattle.cells.specs.declared.cells.Simplex.{Simplex}
use Rattle.term_lang.specs.Degenerated.{degenerated}
use Rattle.term_lang.specs.Forms.{cell_form, form}
use Rattle.term_lang.specs.Belongs.{is_cell, IsSimplex}
use Rattle.term_lang.specs.Quote.{sphere_cell}
use Rattle.term_lang.proofs.CellForms.{form-Base, is_cell-Base}
use Rattle.term_lang.proofs.TablePlaces.{degenerated-row}
use Rattle.term_lang.proofs.CodeForms.{Known, known, mask_of_word, word_of_mask}
use Rattle.term_lang.proofs.SphereForms.{rows, plain, test, stand_for_rows}

-- the only word below n of n places
full_word : (n : ℕ) (w : List ℕ) → IsWord n w → length w ≡ n → w ≡ all_degeneracies n
full_word zero [] is e = refl
full_word zero (j ∷ w) is e = absurd (let h : j < 0 = is.0 in omega arith)
full_word (suc n) [] is e = absurd (omega (arith, e))
full_word (suc n) (j ∷ w) is e =
    let h : j < suc n = is.0 in
    let q : j ≡ n = omega (arith, e, word_length j w is.1) in
    λ i. q i ∷ full_word n w (subst (λ k. IsWord k w) q is.1) (let f : length w ≡ n = omega (arith, e) in f) i

-- ---- the mask with all bits below n

counts : ℕ → Bool
counts n = length (mask_word (2 ^ n - 1)) == n

counts_below : ℕ → Bool
counts_below zero = true
counts_below (suc n) = counts_below n && counts n

entry_row : (w : List ℕ) (n i : ℕ) → (entry {A = RowSimplex} ([], 0) (copies n (w, 0)) i).1 ≡ 0
entry_row w zero i = refl
entry_row w (suc n) zero = refl
entry_row w (suc n) (suc i) = entry_row w n i

module _ (m : ℕ) where
  listed_vertex : (j r : ℕ) → r < 2 → (listed_face (sphere_rows m) j r).1 ≡ 0
  listed_vertex j zero h = refl
  listed_vertex j (suc zero) h = entry_row (all_degeneracies (m - 1)) (suc m) j
  listed_vertex j (suc (suc r)) h = absurd (omega arith)

  module _ (positive : 0 < m) where
    laws : IsSimplicial (table_set (sphere_rows m))
    laws = table_set_laws (sphere_rows m) (sphere_faces m positive)

    -- a simplex, on its row
    pub record On (n : ℕ) (x : Simplex) : Type 0 where
      pub row : ℕ
      pub plain_is : form x (sphere m) ≡ (mask_word x.degens.mask, row)
      pub simplex : InTable (sphere_rows m) n (mask_word x.degens.mask, row)
      pub cell : cell_form x.cell (sphere m) ≡ ([], row)
      pub test : is_cell x.cell (sphere m) (row_at (sphere_rows m) row).dim ≡ true

    pub on_row_of : (n : ℕ) (x : Simplex) → IsSimplex (sphere m) n x → On n x
    on_row_of n x h =
        let k : Known (rows m) (plain m) (test m) sphere_cell n x = known (rows m) (plain m) (test m) sphere_cell laws (stand_for_rows m positive) n x h in
        record {
          row = k.row;
          plain_is = k.plain_is;
          simplex = k.simplex;
          cell = ap (plain m) (sym k.cell ∙ ap (λ d. sphere_cell d ([], k.row)) (sym k.dim)) ∙ (stand_for_rows m positive).formed k.row k.simplex.row;
          test =
              ap (λ c. is_cell c (sphere m) (row_at (sphere_rows m) k.row).dim) (sym k.cell ∙ ap (λ d. sphere_cell d ([], k.row)) (sym k.dim))
              ∙ (stand_for_rows m positive).tested k.row k.simplex.row;
        }

    -- what the code makes of the face
    pub record Made (n i : ℕ) (x y : Simplex) : Type 0 where
      pub plain_is : form y (sphere m) ≡ row_face (sphere_rows m) i (form x (sphere m))
      pub simplex : IsSimplex (sphere m) (n - 1) y

    face_simplex : (n i r : ℕ) (w : List ℕ) → InTable (sphere_rows m) n (w, r) → 1 ≤ n → i ≤ n → InTable (sphere_rows m) (n - 1) (on_row (sphere_rows m) r (face_word i w))
    face_simplex n i r w s h l =
        let e : n ≡ suc (n - 1) = omega arith in
        laws.face_in (n - 1) i (w, r) (subst (λ k. InTable (sphere_rows m) k (w, r)) e s) (omega arith)

    pub made : (n i s : ℕ) (x y : Simplex) (a : On n x) → 1 ≤ n → i ≤ n
        → cell_form y.cell (sphere m) ≡ ([], s) → is_cell y.cell (sphere m) (row_at (sphere_rows m) s).dim ≡ true
        → (mask_word y.degens.mask, s) ≡ on_row (sphere_rows m) a.row (face_word i (mask_word x.degens.mask)) → Made n i x y
    made n i s x y a h l f t e =
        let w = mask_word y.degens.mask in
        let g : InTable (sphere_rows m) (n - 1) (w, s) = subst (InTable (sphere_rows m) (n - 1)) (sym e) (face_simplex n i a.row (mask_word x.degens.mask) a.simplex h l) in
        let d : (row_at (sphere_rows m) s).dim + length w ≡ n - 1 = g.degree in
        let k : n - 1 - length w ≡ (row_at (sphere_rows m) s).dim = omega (arith, d) in
        let b : y.degens.mask < 2 ^ (n - 1) = mask_of_word (n - 1) y.degens.mask y.degens.below_32 g.word in
        record {
          plain_is =
              ap (degenerated (table_set (sphere_rows m)) w) f ∙ degenerated-row (sphere_rows m) (n - 1) w s g.word ∙ e
              ∙ ap (row_face (sphere_rows m) i) (sym a.plain_is);
          simplex = (λ j. is_lt y.degens.mask (2 ^ (n - 1)) b j && is_cell y.cell (sphere m) (k j)) ∙ t;
        }

    -- a face that comes through is the degeneracy of the vertex
    pub comes_through : (n i j r : ℕ) (w v : List ℕ) → InTable (sphere_rows m) n (w, r) → 1 ≤ n → i ≤ n → face_word i w ≡ through j v
        → (all_degeneracies (n - 1), 0) ≡ on_row (sphere_rows m) r (face_word i w)
    comes_through n i j r w v s h l e =
        let rows = sphere_rows m in
        let g : InTable rows (n - 1) (on_row rows r (through j v)) = subst (λ o. InTable rows (n - 1) (on_row rows r o)) e (face_simplex n i r w s h l) in
        let z : (listed_face rows j r).1 ≡ 0 = listed_vertex j r s.row in
        let u = compose_words v (listed_face rows j r).0 in
        let d : (row_at rows (listed_face rows j r).1).dim + length u ≡ n - 1 = g.degree in
        let q : 0 + length u ≡ n - 1 = ap (λ k. (row_at rows k).dim + length u) (sym z) ∙ d in
        (λ k. (sym (full_word (n - 1) u g.word (omega (arith, q))) k, sym z k)) ∙ sym (ap (on_row rows r) e)

pub vertex_form : (m : ℕ) → cell_form Base (sphere m) ≡ ([], 0)
vertex_form m = ap (λ f. f (sphere m)) form-Base

pub vertex_test : (m : ℕ) → is_cell Base (sphere m) 0 ≡ true
vertex_test m = ap (λ f. f (sphere m) 0) is_cell-Base

-- ---- the mask with all bits below n

counted : (n k : ℕ) → k < n → counts_below n ≡ true → length (mask_word (2 ^ k - 1)) ≡ k
unfolding counts_below counts
counted zero k h e = absurd (omega arith)
counted (suc n) k h e = by (cases_lt k n) (λ l. counted n k l (and_left (counts_below n) (counts n) e))
  where
    by : (k < n) ⊎ (n ≤ k) → (k < n → length (mask_word (2 ^ k - 1)) ≡ k) → length (mask_word (2 ^ k - 1)) ≡ k
    by (inl l) r = r l
    by (inr l) r =
        let q : k ≡ n = omega arith in
        subst (λ j. length (mask_word (2 ^ j - 1)) ≡ j) (sym q) (eq_is (length (mask_word (2 ^ n - 1))) n (and_right (counts_below n) (counts n) e))

all_counted : counts_below 32 ≡ true
unfolding counts_below counts places
all_counted = refl

full_mask : (n : ℕ) → n < 32 → mask_word (2 ^ n - 1) ≡ all_degeneracies n
full_mask n h =
    let below : 2 ^ n - 1 < 2 ^ n = omega (arith, pow_pos n) in
    full_word n (mask_word (2 ^ n - 1)) (word_of_mask n (2 ^ n - 1) below) (counted 32 n h all_counted)

-- the mask as the code makes it
pub all_bits : (n : ℕ) → n < 32 → mask_word (1 * 2 ^ n % 2 ^ 64 - 1) ≡ all_degeneracies n
all_bits n h =
    let high : 2 ^ n < 2 ^ 64 = pow_below n 64 (omega arith) in
    let e : 1 * 2 ^ n % 2 ^ 64 ≡ 2 ^ n = mod-eq_of_lt (let l : 1 * 2 ^ n < 2 ^ 64 = omega (arith, high) in l) ∙ (let q : 1 * 2 ^ n ≡ 2 ^ n = omega arith in q) in
    ap (λ k. mask_word (k - 1)) e ∙ full_mask n h
