-- The small differential of a sphere is 0: the faces of its cell are degenerate, or for the circle the vertex twice, with opposite signs.
use Rattle.std.proofs.Common.{◌≡◌, ℕ, zero, suc, ◌-◌, ◌<◌, ◌≤◌, false, cond, [], ◌∷◌, length, ◌==◌, refl, ◌∙◌, ap, arith}
use Rattle.std.proofs.lemmas.Bool.Decides.{nat_tests}
use Rattle.fp_field.specs.declared.prime.Prime.{Prime}
use Rattle.fp_field.specs.declared.prime.Prime.TheVariants.{Two, Three, Five, Seven, Eleven, Thirteen, Seventeen, Nineteen}
use Rattle.fp_field.specs.Field.{number, sign}
use Rattle.fp_field.specs.Chains.{Terms, faces_sum, keep}
use Rattle.fp_field.specs.Normal.{normal}
use Rattle.spaces.specs.Spaces.{sphere}
use Rattle.spaces.specs.Tables.{RowSimplex, entry, row_face, copies, all_degeneracies, sphere_rows}
use Rattle.spaces.specs.SmallCells.{small_cmp}
use Rattle.values.specs.Rules.{named, is_row, row_d}

entry-copies : {A : Type 0} (d x : A) (n i : ℕ) → i < n → entry d (copies n x) i ≡ x
entry-copies d x zero i h = absurd (omega arith)
entry-copies d x (suc n) zero h = refl
entry-copies d x (suc n) (suc i) h = entry-copies d x n i (omega arith)

face_at : (m i : ℕ) → i < suc m → row_face (sphere_rows m) i ([], 1) ≡ (all_degeneracies (m - 1), 0)
face_at m i h = entry-copies ([], 0) (all_degeneracies (m - 1), 0) (suc m) i h

degenerate_face : (k i : ℕ) → i < suc (suc (suc k)) → row_face (sphere_rows (suc (suc k))) i ([], 1) ≡ (k ∷ all_degeneracies k, 0)
degenerate_face k i h =
    face_at (suc (suc k)) i h ∙ ap (λ n. (all_degeneracies n, 0)) (let e : suc (suc k) - 1 ≡ suc k = omega arith in e)

not_empty : (n : ℕ) → (suc n == 0) ≡ false
not_empty n = grind (arith, nat_tests)

dropped : (p k n : ℕ) → n ≤ suc (suc (suc k)) → keep (is_row p) (faces_sum p (row_face (sphere_rows (suc (suc k)))) n ([], 1)) ≡ []
dropped p k zero h = refl
dropped p k (suc n) h =
    ap (λ x. cond (is_row p x) ((x, sign p n) ∷ rest) rest) (degenerate_face k n (omega arith))
    ∙ ap (λ b. cond b (((k ∷ all_degeneracies k, 0), sign p n) ∷ rest) rest) (not_empty (length (all_degeneracies k)))
    ∙ dropped p k n (omega arith)
  where
    rest : Terms RowSimplex
    rest = keep (is_row p) (faces_sum p (row_face (sphere_rows (suc (suc k)))) n ([], 1))

circle : (p : Prime) → normal (small_cmp (sphere 1)) (number p) (row_d (number p) (sphere_rows 1) 1) ≡ []
circle Two = refl
circle Three = refl
circle Five = refl
circle Seven = refl
circle Eleven = refl
circle Thirteen = refl
circle Seventeen = refl
circle Nineteen = refl

pub sphere-d : (p : Prime) (m r : ℕ) → 0 < m → r < 2 → normal (small_cmp (sphere m)) (number p) (row_d (number p) (sphere_rows m) r) ≡ []
sphere-d p m zero h l = refl
sphere-d p zero (suc zero) h l = absurd (omega arith)
sphere-d p (suc zero) (suc zero) h l = circle p
sphere-d p (suc (suc k)) (suc zero) h l =
    ap (λ c. normal (small_cmp (sphere (suc (suc k)))) (number p) (named (λ (x : RowSimplex). x.1) c)) (dropped (number p) k (suc (suc (suc k))) (omega arith))
sphere-d p m (suc (suc r)) h l = absurd (omega arith)
