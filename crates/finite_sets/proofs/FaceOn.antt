-- A face that comes through the word of a simplex is a listed face of its row, and the word before it has room.
use Rattle.std.proofs.Common.{◌≡◌, ℕ, suc, ◌+◌, ◌-◌, ◌<◌, ◌≤◌, List, length, sym, ◌∙◌, ap, subst, arith}
use Rattle.simp_ops.specs.Words.{IsWord, IsPassed, compose_words, face_word, through}
use Rattle.simp_ops.proofs.PlacesOf.{word_below}
use Rattle.simp_ops.proofs.OperatorLaws.{face_in, compose_in}
use Rattle.spaces.specs.Tables.{Table, RowSimplex, row_at, listed_face, row_degree}
use Rattle.spaces.specs.Allowed.{face_count}
use Rattle.spaces.proofs.WordLaws.{word_length}
use Rattle.finite_sets.specs.Progress.{HasSimplices, HasFace}

pub record ComesThrough (t : Table) (x : RowSimplex) (j : ℕ) (v : List ℕ) : Type 0 where
  pub listed : j < length (row_at t x.1).faces
  pub room : IsWord 32 (compose_words v (listed_face t j x.1).0)

pub comes_through : (t : Table) (i : ℕ) (x : RowSimplex) (j : ℕ) (v : List ℕ) → HasSimplices t → HasFace t i x → face_word i x.0 ≡ through j v → ComesThrough t x j v
comes_through t i x j v has face e =
    let n = row_degree t x in
    let d = (row_at t x.1).dim in
    let m : suc (n - 1) ≡ n = omega (arith, face.positive) in
    let degree : d + length x.0 ≡ n = face.simplex.degree in
    let p = subst (IsPassed (n - 1) x.0) e (face_in (n - 1) i x.0 (subst (λ k. IsWord k x.0) (sym m) face.simplex.word) (omega (arith, m, face.index))) in
    let same : length v ≡ length x.0 = p.1 in
    let up : j + length x.0 ≤ suc (n - 1) = p.2 in
    let short : length v ≤ n - 1 = word_length (n - 1) v p.0 in
    let above : d ≡ suc (d - 1) = omega (arith, short, same, degree, m) in
    let count : length (row_at t x.1).faces ≡ suc (suc (d - 1)) = has.counted x.1 face.simplex.row ∙ ap face_count above in
    let f = has.faces_in x.1 (d - 1) j face.simplex.row above (omega (arith, up, degree, m, above)) in
    let below : d - 1 ≡ n - 1 - length v = omega (arith, same, degree) in
    let low : n ≤ 16 = face.low in
    record {
      listed = omega (arith, count, up, degree, m, above);
      room = word_below (n - 1) 32 (compose_words v (listed_face t j x.1).0) (omega (arith, low))
          (compose_in (n - 1) v (listed_face t j x.1).0 p.0 (subst (λ k. IsWord k (listed_face t j x.1).0) below f.word));
    }
