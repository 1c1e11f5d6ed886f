-- The simplices on the rows of dimension 0 of a table.
use Rattle.std.proofs.Common.{◌≡◌, ℕ, zero, suc, ◌+◌, ◌<◌, Bool, true, ◌==◌, List, [], ◌∷◌, length, refl, sym, ◌∙◌, ap, subst, arith}
use Rattle.std.proofs.lemmas.Bool.Decides.{Decides-eqb}
use Rattle.simp_ops.specs.Words.{IsPassed, IsWord, degeneracy_word, face_word, Passed, absorbed, through}
use Rattle.simp_ops.proofs.WordLaws.{passes}
use Rattle.simp_ops.proofs.OperatorLaws.{face_in}
use Rattle.spaces.specs.Tables.{Table, RowSimplex, row_at, on_row, row_face, row_degeneracy, InTable, all_degeneracies, table_set}
use Rattle.spaces.proofs.WordLaws.{word_length}
use Rattle.spaces.proofs.SphereTable.{face-all_degeneracies}
use Rattle.spaces.proofs.BaseTests.{IsBaseTest}

-- a word below n of n places has each of them
whole_word : (n : ℕ) (w : List ℕ) → IsWord n w → length w ≡ n → w ≡ all_degeneracies n
whole_word zero [] is e = refl
whole_word zero (j ∷ w) is e = absurd (omega (arith, e))
whole_word (suc n) [] is e = absurd (omega (arith, e))
whole_word (suc n) (j ∷ w) is e =
    let b : j < suc n = is.0 in
    let l : suc (length w) ≡ suc n = e in
    let f : j ≡ n = omega (arith, word_length j w is.1, b, l) in
    let r = whole_word n w (subst (λ k. IsWord k w) f is.1) (omega (arith, l)) in
    λ i. f i ∷ r i

first-all_degeneracies : (n : ℕ) → degeneracy_word 0 (all_degeneracies n) ≡ all_degeneracies (suc n)
first-all_degeneracies zero = refl
first-all_degeneracies (suc n) = passes 0 n (all_degeneracies n) (omega arith) ∙ ap (λ w. suc n ∷ w) (first-all_degeneracies n)

module _ (t : Table) where
  abbrev pub on_vertex : RowSimplex → Bool
  on_vertex x = (row_at t x.1).dim == 0

  pub on_vertex_is : (x : RowSimplex) → on_vertex x ≡ true → (row_at t x.1).dim ≡ 0
  on_vertex_is x h = (Decides-eqb (row_at t x.1).dim 0).0 h

  pub on_vertex_so : (x : RowSimplex) → (row_at t x.1).dim ≡ 0 → on_vertex x ≡ true
  on_vertex_so x h = (Decides-eqb (row_at t x.1).dim 0).1 h

  places : (n : ℕ) (x : RowSimplex) → InTable t n x → on_vertex x ≡ true → length x.0 ≡ n
  places n x is h = let d : (row_at t x.1).dim + length x.0 ≡ n = is.degree in omega (arith, d, on_vertex_is x h)

  -- each face of such a simplex is absorbed
  face_kept : (n r : ℕ) (w : List ℕ) (p : Passed) → IsPassed n w p → length w ≡ suc n → on_vertex (w, r) ≡ true → on_vertex (on_row t r p) ≡ true
  face_kept n r w (absorbed v) is e h = h
  face_kept n r w (through k v) is e h = let same : length v ≡ length w = is.1 in absurd (omega (arith, word_length n v is.0, same, e))

  first : (n : ℕ) (x : RowSimplex) → InTable t (suc n) x → on_vertex x ≡ true → x ≡ row_degeneracy 0 (row_face t 0 x)
  first n x is h =
      let e : x.0 ≡ all_degeneracies (suc n) = whole_word (suc n) x.0 is.word (places (suc n) x is h) in
      let f : row_face t 0 x ≡ (all_degeneracies n, x.1) = ap (λ w. on_row t x.1 (face_word 0 w)) e ∙ ap (on_row t x.1) (face-all_degeneracies n 0 (omega arith)) in
      ap (λ w. (w, x.1)) (e ∙ sym (first-all_degeneracies n)) ∙ ap (row_degeneracy 0) (sym f)

  pub table_base : IsBaseTest (table_set t) on_vertex
  table_base = record {
    vertex = λ x is. let d : (row_at t x.1).dim + length x.0 ≡ 0 = is.degree in on_vertex_so x (omega (arith, d));
    face_base = λ n i x is h b. face_kept n x.1 x.0 (face_word i x.0) (face_in n i x.0 is.word h) (places (suc n) x is b) b;
    degeneracy_base = λ n i x is h. refl;
    first = first;
  }
