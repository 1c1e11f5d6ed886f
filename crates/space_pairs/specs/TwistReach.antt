-- The reach of lists of integers and of simplices of a bundle under faces and degeneracies (May, Simplicial Objects in Algebraic Topology,
-- chapter IV, 18 and 21).
--
-- A face of a list adds two neighbours, so the sum of the magnitudes does not grow. In a bundle d_0 adds what the cocycle twists by: nothing
-- where the simplex of the table is an s_0, and else the row behind it has a lower dimension.
--
--   the face d_1 of |2|-3|, which is |-1|, has the sum 1 of magnitudes, and |2|-3| has the sum 5
use Rattle.std.proofs.Common.{◌≡◌, ℕ, zero, suc, ◌+◌, ◌-◌, ◌*◌, ◌<◌, ◌≤◌, ◌⊎◌, inl, inr, List, [], ◌∷◌, length, refl, sym, ◌∙◌, ap, subst, arith, ℤ, pos, ◌+ℤ◌}
use Rattle.std.specs.Prelude.{nat_abs, neg_ℤ}
use Rattle.std.proofs.lemmas.Int.{ints}
use Rattle.simp_ops.specs.Words.{IsWord, IsPassed, Passed, absorbed, through, behind, face_word, degeneracy_word}
use Rattle.simp_ops.proofs.PlacesOf.{face-behind}
use Rattle.simp_ops.proofs.WordLaws.{passes, face-degeneracy}
use Rattle.simp_ops.proofs.OperatorLaws.{face_in}
use Rattle.spaces.specs.Simplicial.{IsSimplicial}
use Rattle.spaces.specs.Tables.{Table, RowSimplex, InTable, row_at, entry, row_degree, row_face, listed_face, on_row, table_set}
use Rattle.spaces.specs.Nerves.{integers, nerve_face, nerve_degeneracy, nerve_times}
use Rattle.spaces.specs.Cocycles.{cocycle, face_times, first_vertices, at_vertex, differences, cocycle_twisting}
use Rattle.spaces.specs.Spaces.{Space, table, kz1, bundle, Plain, set_of}
use Rattle.spaces.specs.Allowed.{Admits, HasFaces}
use Rattle.spaces.proofs.WordLaws.{word_length}
use Rattle.spaces.proofs.Integers.{integers_abelian}
use Rattle.spaces.proofs.CocycleTwist.{cocycle_is_twisting}
use Rattle.spaces.proofs.SpaceLaws.{space_set_laws}
use Rattle.values.specs.Sizes.{greatest}
use Rattle.space_pairs.specs.Reach.{total, most_twisted, reach}

-- ---- lists of integers

sum_abs : (a b : ℤ) → nat_abs (a +ℤ b) ≤ nat_abs a + nat_abs b
sum_abs a b = omega (arith, ints)

difference_abs : (a b : ℤ) → nat_abs a ≤ 100000 → nat_abs b ≤ 100000 → nat_abs (a +ℤ neg_ℤ b) ≤ 200000
difference_abs a b h k = omega (arith, ints)

pub total-face : (i : ℕ) (x : List ℤ) → total (nerve_face integers i x) ≤ total x
total-face zero [] = omega arith
total-face (suc zero) [] = omega arith
total-face (suc (suc i)) [] = omega arith
total-face zero (a ∷ x) = omega arith
total-face (suc zero) (a ∷ []) = omega arith
total-face (suc zero) (a ∷ (b ∷ x)) = omega (arith, sum_abs a b)
total-face (suc (suc i)) (a ∷ x) = omega (arith, total-face (suc i) x)

pub total-degeneracy : (i : ℕ) (x : List ℤ) → total (nerve_degeneracy integers i x) ≡ total x
total-degeneracy zero x = omega arith
total-degeneracy (suc i) [] = refl
total-degeneracy (suc i) (a ∷ x) = ap (λ k. nat_abs a + k) (total-degeneracy i x)

pub total-times : (x y : List ℤ) → total (nerve_times integers x y) ≤ total x + total y
total-times [] y = omega arith
total-times (a ∷ x) [] = omega arith
total-times (a ∷ x) (b ∷ y) = omega (arith, sum_abs a b, total-times x y)

pub greatest-total : (x : List ℤ) → greatest nat_abs x ≤ total x
greatest-total [] = omega arith
greatest-total (a ∷ x) = omega (arith, greatest-total x)

-- ---- what a cocycle twists by

module _ (t : Table) (c : List ℤ) (small : (r : ℕ) → nat_abs (entry (pos 0) c r) ≤ 100000) where
  value_small : (b : RowSimplex) → nat_abs (cocycle integers t c b) ≤ 100000
  value_small ([], r) = small r
  value_small (j ∷ w, r) = omega arith

  vertex_small : (n j : ℕ) (b : RowSimplex) → nat_abs (at_vertex integers t c n j b) ≤ 100000
  vertex_small n zero b = omega arith
  vertex_small n (suc zero) b = omega arith
  vertex_small n (suc (suc j)) b = value_small (face_times integers t c j 2 (first_vertices integers t c (suc (suc j)) (n - suc (suc j)) b))

  total-differences : (n j k : ℕ) (b : RowSimplex) → total (differences integers t c n j k b) ≤ 200000 * k
  total-differences n j zero b = omega arith
  total-differences n j (suc k) b =
      omega (arith, difference_abs (at_vertex integers t c n (suc j) b) (at_vertex integers t c n j b) (vertex_small n (suc j) b) (vertex_small n j b), total-differences n (suc j) k b)

  pub total-twisting : (b : RowSimplex) → row_degree t b ≤ 32 → total (cocycle_twisting integers t c b) ≤ most_twisted
  total-twisting b h = omega (arith, total-differences (row_degree t b) 1 (row_degree t b - 1) b)

-- ---- rows under faces

module _ (t : Table) (has : HasFaces t) where
  -- a face that reaches the row has a row of lower dimension
  lower : (n k r : ℕ) (w v : List ℕ) → r < length t → (row_at t r).dim + length w ≡ suc n → IsPassed n w (through k v)
      → (row_at t (listed_face t k r).1).dim < (row_at t r).dim
  lower n k r w v b d is =
      let l : length v ≤ n = word_length n v is.0 in
      let same : length v ≡ length w = is.1 in
      let m : (row_at t r).dim ≡ suc (n - length v) = omega arith in
      let g : (row_at t (listed_face t k r).1).dim + length (listed_face t k r).0 ≡ n - length v = (has.faces_in r (n - length v) k b m (omega (arith, is.2))).degree in
      omega arith

  pub no_higher : (n i : ℕ) (b : RowSimplex) → InTable t (suc n) b → i ≤ suc n → (row_at t (row_face t i b).1).dim ≤ (row_at t b.1).dim
  no_higher n i b is h = by (face_word i b.0) (face_in n i b.0 is.word h)
    where
      by : (p : Passed) → IsPassed n b.0 p → (row_at t (on_row t b.1 p).1).dim ≤ (row_at t b.1).dim
      by (absorbed v) q = omega arith
      by (through k v) q = omega (arith, lower n k b.1 b.0 v is.row is.degree q)

-- d_0 takes off s_0 or reaches the row
pub record Undone (w : List ℕ) : Type 0 where
  pub rest : List ℕ
  pub word_is : degeneracy_word 0 rest ≡ w

abbrev FirstOf : List ℕ → Type 0
FirstOf w = Undone w ⊎ ((v : List ℕ) × (face_word 0 w ≡ through 0 v))

first_of_word : (n : ℕ) (w : List ℕ) → IsWord n w → FirstOf w
first_of_word n [] is = inr ([], refl)
first_of_word n (zero ∷ []) is = inl (record { rest = []; word_is = refl })
first_of_word n (zero ∷ (k ∷ w)) is = absurd (omega (arith, is.1.0))
first_of_word n (suc j ∷ w) is = by (first_of_word (suc j) w is.1)
  where
    by : FirstOf w → FirstOf (suc j ∷ w)
    by (inl u) = inl (record { rest = j ∷ u.rest; word_is = passes 0 j u.rest (omega arith) ∙ ap (λ v. suc j ∷ v) u.word_is })
    by (inr q) = inr (j ∷ q.0, face-behind 0 j w (omega arith) ∙ ap (behind j) q.1)

-- ---- bundles

module _ (t : Table) (c : List ℤ) (is : Admits (bundle t c)) where
  base : IsSimplicial (table_set t)
  base = space_set_laws (table t) is.0

  abbrev X : Space
  X = bundle t c

  abbrev dim : RowSimplex → ℕ
  dim b = (row_at t b.1).dim

  abbrev twist : RowSimplex → List ℤ
  twist = cocycle_twisting integers t c

  -- what is s_0 is twisted by 0
  flat_face : (n : ℕ) (v : List ℕ) (r : ℕ) (f : List ℤ) → InTable t (suc n) (degeneracy_word 0 v, r) → (set_of kz1).In (suc n) f
      → reach X ((set_of X).face 0 ((degeneracy_word 0 v, r), f)) ≤ reach X ((degeneracy_word 0 v, r), f)
  flat_face n v r f i j =
      let b : RowSimplex = (degeneracy_word 0 v, r) in
      let under : InTable t n (v, r) = subst (λ p. InTable t n (on_row t r p)) (face-degeneracy 0 v) (base.face_in n 0 b i (omega arith)) in
      let rest : (set_of kz1).In n (nerve_face integers 0 f) = (space_set_laws kz1 tt).face_in n 0 f j (omega arith) in
      let unit = (cocycle_is_twisting integers t c base integers_abelian is.1).unit n (v, r) (nerve_face integers 0 f) under rest in
      let same : total (nerve_times integers (twist b) (nerve_face integers 0 f)) ≡ total (nerve_face integers 0 f) = ap total unit in
      omega (arith, same, total-face 0 f, no_higher t is.0.faces n 0 b i (omega arith))

  -- what is no s_0 loses a dimension
  turned_face : (n : ℕ) (w v : List ℕ) (r : ℕ) (f : List ℤ) → n < 32 → InTable t (suc n) (w, r) → face_word 0 w ≡ through 0 v
      → reach X ((set_of X).face 0 ((w, r), f)) ≤ reach X ((w, r), f)
  turned_face n w v r f most i e =
      let b : RowSimplex = (w, r) in
      let degree : row_degree t b ≡ suc n = i.degree in
      let passed : IsPassed n w (through 0 v) = subst (IsPassed n w) e (face_in n 0 w i.word (omega arith)) in
      let lowered : dim (row_face t 0 b) < dim b = subst (λ p. dim (on_row t r p) < dim b) (sym e) (lower t is.0.faces n 0 r w v i.row i.degree passed) in
      omega (arith, lowered, total-times (twist b) (nerve_face integers 0 f), total-face 0 f, total-twisting t c is.2 b (omega (arith, degree, most)))

  pub bundle_face : (n i : ℕ) (x : Plain X) → n < 32 → (set_of X).In (suc n) x → i ≤ suc n → reach X ((set_of X).face i x) ≤ reach X x
  bundle_face n zero ((w, r), f) most j h = by (first_of_word (suc n) w j.0.word)
    where
      by : FirstOf w → reach X ((set_of X).face 0 ((w, r), f)) ≤ reach X ((w, r), f)
      by (inl u) =
          subst (λ w. InTable t (suc n) (w, r) → reach X ((set_of X).face 0 ((w, r), f)) ≤ reach X ((w, r), f)) u.word_is
          (λ k. flat_face n u.rest r f k j.1) j.0
      by (inr q) = turned_face n w q.0 r f most j.0 q.1
  bundle_face n (suc i) x most j h = omega (arith, total-face (suc i) x.1, no_higher t is.0.faces n (suc i) x.0 j.0 h)
