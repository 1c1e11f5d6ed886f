-- What holds of faces in one table holds in another with the same dimensions and faces; names do not count.
use Rattle.std.proofs.Common.{◌≡◌, ℕ, zero, suc, ◌+◌, ◌<◌, [], ◌∷◌, length, map, refl, sym, ◌∙◌, ap, subst, arith}
use Rattle.simp_ops.specs.Words.{Passed, absorbed, through, face_word}
use Rattle.spaces.specs.Tables.{Table, RowSimplex, entry, row_at, before_row, on_row, row_face, InTable}
use Rattle.spaces.specs.Allowed.{HasFaces, face_count}
use Rattle.finite_sets.specs.Spheres.{unnamed, name_in}

pub row-unnamed : (t : Table) (r : ℕ) → row_at (map unnamed t) r ≡ unnamed (row_at t r)
row-unnamed [] r = refl
row-unnamed (x ∷ t) zero = refl
row-unnamed (x ∷ t) (suc r) = row-unnamed t r

pub name-row : (t : Table) (r : ℕ) → (row_at t r).name ≡ entry [] (map name_in t) r
name-row [] r = refl
name-row (x ∷ t) zero = refl
name-row (x ∷ t) (suc r) = name-row t r

module _ (t u : Table) (long : length t ≡ length u) (dims : (r : ℕ) → (row_at t r).dim ≡ (row_at u r).dim) (faces : (r : ℕ) → (row_at t r).faces ≡ (row_at u r).faces) where
  on_row-same : (r : ℕ) (p : Passed) → on_row t r p ≡ on_row u r p
  on_row-same r (absorbed v) = refl
  on_row-same r (through j v) = ap (λ l. before_row v (entry ([], 0) l j)) (faces r)

  face-same : (i : ℕ) (x : RowSimplex) → row_face t i x ≡ row_face u i x
  face-same i x = on_row-same x.1 (face_word i x.0)

  in_same : (n : ℕ) (x : RowSimplex) → InTable u n x → InTable t n x
  in_same n x is = record {
    row = let b : x.1 < length u = is.row in omega (arith, long, b);
    degree = ap (λ d. d + length x.0) (dims x.1) ∙ is.degree;
    word = is.word;
  }

  pub faces_same : HasFaces u → HasFaces t
  faces_same has = record {
    counted = λ r h. ap length (faces r) ∙ has.counted r (omega (arith, long)) ∙ ap face_count (sym (dims r));
    faces_in = λ r n i h d l. subst (InTable t n) (sym (face-same i ([], r))) (in_same n (row_face u i ([], r)) (has.faces_in r n i (omega (arith, long)) (sym (dims r) ∙ d) l));
    face_law = λ r n i j h d l k.
        face-same j (row_face t (suc i) ([], r)) ∙ ap (row_face u j) (face-same (suc i) ([], r))
        ∙ has.face_law r n i j (omega (arith, long)) (sym (dims r) ∙ d) l k
        ∙ sym (face-same i (row_face t j ([], r)) ∙ ap (row_face u i) (face-same j ([], r)));
  }
