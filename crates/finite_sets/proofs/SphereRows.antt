-- The rows of the table of a sphere.
use Rattle.std.proofs.Common.{◌≡◌, ℕ, zero, suc, ◌+◌, ◌-◌, ◌^◌, ◌<◌, ◌≤◌, true, ◌==◌, List, [], ◌∷◌, ◌++◌, length, map, refl, sym, ◌∙◌, ap, subst, arith}
use Rattle.std.proofs.lemmas.List.{length-map}
use Rattle.std.proofs.lemmas.Nat.{pow_pos}
use Rattle.std.proofs.lemmas.Nat.Bits.{bit_at_ones}
use Rattle.simp_ops.specs.Bits.{bit, places, mask_word}
use Rattle.simp_ops.proofs.PlacesOf.{places-true, places-zero, places_same}
use Rattle.simp_ops.proofs.MaskWords.{places-more}
use Rattle.spaces.specs.Tables.{Table, RowSimplex, entry, row_at, copies, all_degeneracies, sphere_rows}
use Rattle.spaces.specs.Allowed.{IsTable}
use Rattle.spaces.proofs.SphereTable.{sphere_faces}
use Rattle.finite_sets.specs.Spheres.{unnamed, name_in, sphere_names}
use Rattle.finite_sets.proofs.Unnamed.{row-unnamed, name-row, faces_same}

pub copies-push : {A : Type 0} (n : ℕ) (x : A) → copies n x ++ x ∷ [] ≡ copies (suc n) x
copies-push zero x = refl
copies-push (suc n) x = ap (λ l. x ∷ l) (copies-push n x)

entry-copies : {A : Type 0} (d x : A) (n i : ℕ) → i < length (copies n x) → entry d (copies n x) i ≡ x
entry-copies d x zero i h = absurd (omega arith)
entry-copies d x (suc n) zero h = refl
entry-copies d x (suc n) (suc i) h = entry-copies d x n i (omega arith)

-- ---- the mask of s_{n-1} .. s_0

all_places : (n : ℕ) → places n (λ k. true) ≡ all_degeneracies n
all_places zero = places-zero (λ k. true)
all_places (suc n) = places-true n (λ k. true) refl ∙ ap (λ w. n ∷ w) (all_places n)

pub word-ones : (n : ℕ) → n ≤ 32 → mask_word (2 ^ n - 1) ≡ all_degeneracies n
word-ones n h =
    let e : n + (32 - n) ≡ 32 = omega arith in
    let l : 2 ^ n - 1 < 2 ^ n = omega (arith, pow_pos n) in
    ap (λ k. places k (bit (2 ^ n - 1))) (sym e) ∙ places-more n (32 - n) (2 ^ n - 1) l
    ∙ places_same n (bit (2 ^ n - 1)) (λ k. true) (λ k g. ap (λ b. b == 1) (bit_at_ones n k g)) ∙ all_places n

-- ---- the table

module _ (n : ℕ) (low : 1 ≤ n) (high : n ≤ 16) (t : Table) (named : map name_in t ≡ sphere_names n) (rows : map unnamed t ≡ sphere_rows n) where
  two : length t ≡ 2
  two = sym (length-map t unnamed) ∙ ap length rows

  dims : (r : ℕ) → (row_at t r).dim ≡ (row_at (sphere_rows n) r).dim
  dims r = ap (λ x. x.dim) (sym (row-unnamed t r) ∙ ap (λ u. row_at u r) rows)

  faces : (r : ℕ) → (row_at t r).faces ≡ (row_at (sphere_rows n) r).faces
  faces r = ap (λ x. x.faces) (sym (row-unnamed t r) ∙ ap (λ u. row_at u r) rows)

  names : (r : ℕ) → (row_at t r).name ≡ entry [] (sphere_names n) r
  names r = name-row t r ∙ ap (λ l. entry [] l r) named

  low_rows : (r : ℕ) → r < 2 → (row_at (sphere_rows n) r).dim ≤ 16
  low_rows zero h = omega arith
  low_rows (suc zero) h = high
  low_rows (suc (suc r)) h = absurd (omega arith)

  apart : (r s : ℕ) → r < 2 → s < 2 → entry [] (sphere_names n) r ≡ entry [] (sphere_names n) s → r ≡ s
  apart zero zero h l e = refl
  apart zero (suc zero) h l e = let f : 42 ≡ 83 = ap (λ w. entry 0 w 0) e in absurd (omega (arith, f))
  apart (suc zero) zero h l e = let f : 83 ≡ 42 = ap (λ w. entry 0 w 0) e in absurd (omega (arith, f))
  apart (suc zero) (suc zero) h l e = refl
  apart (suc (suc r)) s h l e = absurd (omega arith)
  apart zero (suc (suc s)) h l e = absurd (omega arith)
  apart (suc zero) (suc (suc s)) h l e = absurd (omega arith)

  before : (r i : ℕ) → r < 2 → i < length (row_at (sphere_rows n) r).faces → (entry ([], 0) (row_at (sphere_rows n) r).faces i).1 < r
  before zero i h l = absurd (omega arith)
  before (suc zero) i h l = let e = entry-copies ([], 0) (all_degeneracies (n - 1), 0) (suc n) i l in subst (λ (x : RowSimplex). x.1 < 1) (sym e) (omega arith)
  before (suc (suc r)) i h l = absurd (omega arith)

  pub sphere_is_table : IsTable t
  sphere_is_table = record {
    some_row = omega (arith, two);
    at_most = omega (arith, two);
    low = λ r h. let l = low_rows r (omega (arith, two)) in omega (arith, dims r, l);
    names_differ = λ r s h l e. apart r s (omega (arith, two)) (omega (arith, two)) (sym (names r) ∙ e ∙ names s);
    earlier = λ r i h l.
        subst (λ (f : List RowSimplex). (entry ([], 0) f i).1 < r) (sym (faces r))
        (before r i (omega (arith, two)) (subst (λ (f : List RowSimplex). i < length f) (faces r) l));
    faces = faces_same t (sphere_rows n) two dims faces (sphere_faces n low);
  }
