-- The table of a sphere: each face of the cell is the degeneracy of the vertex.
use Rattle.std.proofs.Common.{◌≡◌, ℕ, zero, suc, ◌-◌, ◌<◌, ◌≤◌, ◌⊎◌, inl, inr, [], ◌∷◌, length, refl, sym, ◌∙◌, ap, subst, arith}
use Rattle.std.proofs.lemmas.Bool.{cases_lt}
use Rattle.simp_ops.specs.Words.{IsWord, face_word, absorbed, behind}
use Rattle.simp_ops.proofs.PlacesOf.{face-at}
use Rattle.spaces.specs.Tables.{entry, row_at, on_row, row_face, InTable, all_degeneracies, copies, sphere_rows}
use Rattle.spaces.specs.Allowed.{HasFaces, face_count}
use Rattle.simp_ops.proofs.WordLaws.{face-lower}

length-copies : {A : Type 0} (n : ℕ) (x : A) → length (copies n x) ≡ n
length-copies zero x = refl
length-copies (suc n) x = ap suc (length-copies n x)

entry-copies : {A : Type 0} (d x : A) (n i : ℕ) → i < n → entry d (copies n x) i ≡ x
entry-copies d x zero i h = absurd (omega arith)
entry-copies d x (suc n) zero h = refl
entry-copies d x (suc n) (suc i) h = entry-copies d x n i (omega arith)

pub length-all_degeneracies : (n : ℕ) → length (all_degeneracies n) ≡ n
length-all_degeneracies zero = refl
length-all_degeneracies (suc n) = ap suc (length-all_degeneracies n)

pub word-all_degeneracies : (n : ℕ) → IsWord n (all_degeneracies n)
word-all_degeneracies zero = tt
word-all_degeneracies (suc n) = (omega arith, word-all_degeneracies n)

-- a face of s_n .. s_0 is s_{n-1} .. s_0
pub face-all_degeneracies : (n i : ℕ) → i ≤ suc n → face_word i (all_degeneracies (suc n)) ≡ absorbed (all_degeneracies n)
face-all_degeneracies zero i h = face-at i 0 [] (omega arith) h
face-all_degeneracies (suc n) i h = by (cases_lt i (suc n)) (face-all_degeneracies n i)
  where
    by : (i < suc n) ⊎ (suc n ≤ i) → (i ≤ suc n → face_word i (all_degeneracies (suc n)) ≡ absorbed (all_degeneracies n))
        → face_word i (suc n ∷ all_degeneracies (suc n)) ≡ absorbed (all_degeneracies (suc n))
    by (inl g) r =
        let e : suc n - 1 ≡ n = omega arith in
        face-lower i (suc n) (all_degeneracies (suc n)) g ∙ ap (behind (suc n - 1)) (r (omega arith)) ∙ ap (λ k. absorbed (k ∷ all_degeneracies n)) e
    by (inr g) r = face-at i (suc n) (all_degeneracies (suc n)) g h

-- the face of the cell of dimension n + 1
cell_face : (n i : ℕ) → i ≤ suc n → row_face (sphere_rows (suc n)) i ([], 1) ≡ (all_degeneracies n, 0)
cell_face n i h =
    let e : suc n - 1 ≡ n = omega arith in
    entry-copies ([], 0) (all_degeneracies (suc n - 1), 0) (suc (suc n)) i (omega arith) ∙ ap (λ k. (all_degeneracies k, 0)) e

cell_face_in : (n i : ℕ) → i ≤ suc n → InTable (sphere_rows (suc n)) n (row_face (sphere_rows (suc n)) i ([], 1))
cell_face_in n i h =
    subst (InTable (sphere_rows (suc n)) n) (sym (cell_face n i h))
    (record { row = omega arith; degree = omega (arith, length-all_degeneracies n); word = word-all_degeneracies n })

two_faces : (n i j : ℕ) → i ≤ suc (suc n) → j ≤ suc n
    → row_face (sphere_rows (suc (suc n))) j (row_face (sphere_rows (suc (suc n))) i ([], 1)) ≡ (all_degeneracies n, 0)
two_faces n i j h l =
    ap (row_face (sphere_rows (suc (suc n))) j) (cell_face (suc n) i h) ∙ ap (on_row (sphere_rows (suc (suc n))) 0) (face-all_degeneracies n j l)

counted : (m r : ℕ) → 0 < m → r < 2 → length (row_at (sphere_rows m) r).faces ≡ face_count (row_at (sphere_rows m) r).dim
counted zero r p h = absurd (omega arith)
counted (suc n) zero p h = refl
counted (suc n) (suc zero) p h = length-copies (suc (suc n)) _
counted (suc n) (suc (suc r)) p h = absurd (omega arith)

faces_in : (m r n i : ℕ) → r < 2 → (row_at (sphere_rows m) r).dim ≡ suc n → i ≤ suc n → InTable (sphere_rows m) n (row_face (sphere_rows m) i ([], r))
faces_in m zero n i h e l = absurd (omega (arith, e))
faces_in m (suc zero) n i h e l = subst (λ k. InTable (sphere_rows k) n (row_face (sphere_rows k) i ([], 1))) (sym e) (cell_face_in n i l)
faces_in m (suc (suc r)) n i h e l = absurd (omega arith)

face_law : (m r n i j : ℕ) → r < 2 → (row_at (sphere_rows m) r).dim ≡ suc (suc n) → j ≤ i → i ≤ suc n
    → row_face (sphere_rows m) j (row_face (sphere_rows m) (suc i) ([], r)) ≡ row_face (sphere_rows m) i (row_face (sphere_rows m) j ([], r))
face_law m zero n i j h e l k = absurd (omega (arith, e))
face_law m (suc zero) n i j h e l k =
    subst (λ m. row_face (sphere_rows m) j (row_face (sphere_rows m) (suc i) ([], 1)) ≡ row_face (sphere_rows m) i (row_face (sphere_rows m) j ([], 1))) (sym e)
    (two_faces n (suc i) j (omega arith) (omega arith) ∙ sym (two_faces n j i (omega arith) k))
face_law m (suc (suc r)) n i j h e l k = absurd (omega arith)

pub sphere_faces : (m : ℕ) → 0 < m → HasFaces (sphere_rows m)
sphere_faces m p = record { counted = λ r h. counted m r p h; faces_in = faces_in m; face_law = face_law m }
