-- The set of a table whose rows satisfy the law between two faces is a simplicial set.
--
-- The laws between faces and degeneracies are those of words. The law between two faces holds at a row, and passes from a simplex to its
-- degeneracies.
use Rattle.std.proofs.Common.{◌≡◌, ℕ, zero, suc, ◌+◌, ◌-◌, ◌<◌, ◌≤◌, List, [], ◌∷◌, length, ◌==◌, refl, ◌∙◌, ap, subst, arith}
use Rattle.std.specs.Cmp.{on_equiv, and_equiv}
use Rattle.std.specs.Cmp.Lexicographic.{pointwise}
use Rattle.std.specs.Prelude.{nat_eq}
use Rattle.std.proofs.lemmas.Cmp.{nat_eq_equiv, nat_list_eq_equiv}
use Rattle.std.proofs.lemmas.Bool.Decides.{Decides-eqb, Decides-and}
use Rattle.std.proofs.lemmas.Slice.Eq.{bytes_eq-Decides}
use Rattle.simp_ops.specs.Words.{IsPassed, face_word, Passed, absorbed, through}
use Rattle.simp_ops.proofs.PlacesOf.{word_below, degeneracy-before}
use Rattle.simp_ops.proofs.WordLaws.{before_passed, degeneracy-degeneracy, face-degeneracy, face-next, face-below, face-above}
use Rattle.simp_ops.proofs.OperatorLaws.{degeneracy_in, compose_in, face_in, degeneracy-compose}
use Rattle.spaces.specs.Simplicial.{IsSimplicial}
use Rattle.spaces.specs.Tables.{Table, RowSimplex, row_at, listed_face, row_degeneracy, on_row, row_face, InTable, table_set}
use Rattle.spaces.specs.Allowed.{HasFaces}
use Rattle.spaces.proofs.WordLaws.{length-degeneracy, length-compose, word_length}
use Rattle.spaces.proofs.Degeneracies.{MeetsFaces, FacesSwap, swap_after}

module _ (t : Table) where
  -- s_j before what a face leaves
  degeneracy-on_row : (r j : ℕ) (p : Passed) → on_row t r (before_passed j p) ≡ row_degeneracy j (on_row t r p)
  degeneracy-on_row r j (absorbed v) = refl
  degeneracy-on_row r j (through k v) = λ i. (degeneracy-compose j v (listed_face t k r).0 i, (listed_face t k r).1)

  row_degeneracy_in : (n j : ℕ) (x : RowSimplex) → InTable t n x → j ≤ n → InTable t (suc n) (row_degeneracy j x)
  row_degeneracy_in n j x is h = record {
    row = is.row;
    degree = let d : (row_at t x.1).dim + length x.0 ≡ n = is.degree in omega (arith, length-degeneracy j x.0, d);
    word = degeneracy_in n j x.0 is.word h;
  }

  module _ (has : HasFaces t) where
    on_row_in : (n r : ℕ) (w : List ℕ) (p : Passed) → r < length t → (row_at t r).dim + length w ≡ suc n → IsPassed n w p → InTable t n (on_row t r p)
    on_row_in n r w (absorbed v) b d is = record { row = b; degree = omega (arith, is.1); word = is.0 }
    on_row_in n r w (through k v) b d is =
        let l : length v ≤ n = word_length n v is.0 in
        let same : length v ≡ length w = is.1 in
        let m : (row_at t r).dim ≡ suc (n - length v) = omega arith in
        let f = has.faces_in r (n - length v) k b m (omega (arith, is.2)) in
        let g : (row_at t (listed_face t k r).1).dim + length (listed_face t k r).0 ≡ n - length v = f.degree in
        record {
          row = f.row;
          degree = omega (arith, length-compose v (listed_face t k r).0, g);
          word = compose_in n v (listed_face t k r).0 is.0 f.word;
        }

    meets : MeetsFaces (table_set t)
    meets = record {
      face_in = λ n i x is h. on_row_in n x.1 x.0 (face_word i x.0) is.row is.degree (face_in n i x.0 is.word h);
      face_here = λ n j x is h. ap (on_row t x.1) (face-degeneracy j x.0);
      face_next = λ n j x is h. ap (on_row t x.1) (face-next n j x.0 is.word);
      face_below = λ n i j x is h l. ap (on_row t x.1) (face-below n i j x.0 is.word h) ∙ degeneracy-on_row x.1 j (face_word i x.0);
      face_above = λ n i j x is h l. ap (on_row t x.1) (face-above n i j x.0 is.word h) ∙ degeneracy-on_row x.1 j (face_word i x.0);
    }

    -- a simplex with the word k ∷ w is s_k of the one with the word w
    below_first : (n k r : ℕ) (w : List ℕ) → InTable t (suc n) (k ∷ w, r) → InTable t n (w, r)
    below_first n k r w is =
        let d : (row_at t r).dim + suc (length w) ≡ suc n = is.degree in
        let b : k < suc n = is.word.0 in
        record { row = is.row; degree = omega (arith, d); word = word_below k n w (omega (arith, b)) is.word.1 }

    swap_below : (r : ℕ) (w : List ℕ)
        → ((n i j : ℕ) → InTable t (suc (suc n)) (w, r) → j ≤ i → i ≤ suc n → row_face t j (row_face t (suc i) (w, r)) ≡ row_face t i (row_face t j (w, r)))
        → (n : ℕ) → InTable t (suc n) (w, r) → FacesSwap (table_set t) meets n (w, r)
    swap_below r w swap zero is = λ i j h l p. absurd (omega arith)
    swap_below r w swap (suc n) is = λ i j h l p. swap n i j is h l

    face-face : (r : ℕ) (w : List ℕ) (n i j : ℕ) → InTable t (suc (suc n)) (w, r) → j ≤ i → i ≤ suc n
        → row_face t j (row_face t (suc i) (w, r)) ≡ row_face t i (row_face t j (w, r))
    face-face r [] n i j is h l = let d : (row_at t r).dim + 0 ≡ suc (suc n) = is.degree in has.face_law r n i j is.row (omega (arith, d)) h l
    face-face r (k ∷ w) n i j is h l =
        let b : k < suc (suc n) = is.word.0 in
        let y : InTable t (suc n) (w, r) = below_first (suc n) k r w is in
        subst (λ v. row_face t j (row_face t (suc i) (v, r)) ≡ row_face t i (row_face t j (v, r))) (degeneracy-before k w is.word.1)
        (swap_after (table_set t) meets n i j k (w, r) y (omega (arith, b)) h l (swap_below r w (face-face r w) n y))

    pub table_set_laws : IsSimplicial (table_set t)
    table_set_laws = record {
      face_in = meets.face_in;
      degeneracy_in = row_degeneracy_in;
      face_face = λ n i j x is h l. face-face x.1 x.0 n i j is h l;
      face_here = meets.face_here;
      face_next = meets.face_next;
      face_below = meets.face_below;
      face_above = meets.face_above;
      degeneracy_degeneracy = λ n i j x is h l. ap (λ w. (w, x.1)) (degeneracy-degeneracy i j x.0 h);
      same_is = λ x y h k.
          let both = (Decides-and (pointwise nat_eq x.0 y.0) (x.1 == y.1) (bytes_eq-Decides x.0 y.0) (Decides-eqb x.1 y.1)).0 h in
          (both.0 k, both.1 k);
      same_equivalence = and_equiv (on_equiv (λ x. x.0) nat_list_eq_equiv) (on_equiv (λ x. x.1) nat_eq_equiv);
    }
