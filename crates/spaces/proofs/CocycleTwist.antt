-- The formula of a 2-cocycle is a twisting operator from a table to the nerve of the group.
--
-- The entry of t(b) at place j is c(0,1,j+1) - c(0,1,j). The identity of the first face is the law of the cocycle on the vertices 0, 1, 2
-- and j; that of a later face adds two entries; a degeneracy repeats a vertex, which gives an entry 0.
use Rattle.std.proofs.Common.{◌≡◌, ℕ, zero, suc, ◌+◌, ◌-◌, ◌<◌, ◌≤◌, Bool, true, false, cond, nat_le, ◌⊎◌, inl, inr, List, [], ◌∷◌, length, refl, sym, ◌∙◌, ap, subst, arith}
use Rattle.std.proofs.lemmas.Bool.{cases_lt}
use Rattle.simp_ops.specs.Words.{degeneracy_word}
use Rattle.simp_ops.proofs.PlacesOf.{word_below, degeneracy-before}
use Rattle.spaces.specs.Simplicial.{IsSimplicial}
use Rattle.spaces.specs.Tables.{Table, RowSimplex, row_at, row_face, row_degree, row_degeneracy, table_set, InTable, copies}
use Rattle.spaces.specs.Nerves.{Abelian, nerve_face, nerve_degeneracy, nerve_set, nerve_times}
use Rattle.spaces.specs.Groups.{IsAbelian}
use Rattle.spaces.specs.Products.{IsTwisting, twisted_set}
use Rattle.spaces.specs.Cocycles.{cocycle, face_times, first_vertices, at_vertex, differences, cocycle_twisting}
use Rattle.spaces.specs.Allowed.{IsCocycle}
use Rattle.spaces.proofs.Nerves.{nerve_set_laws}
use Rattle.spaces.proofs.NerveGroup.{nerve_group}
use Rattle.spaces.proofs.Twisted.{twisted_laws}
use Rattle.spaces.proofs.Differences.{minus, gaps, length-gaps, gaps-rest, balance, gaps_each, gaps-none, times-gaps, face-gaps, degeneracy-gaps}
use Rattle.spaces.proofs.FirstFaces.{first_in, first-drop, first-face, first-degeneracy, first-first, faces_in, faces-more, faces-face, faces-degeneracy, first-faces}

module _ {G : Type 0} (group : Abelian G) (t : Table) (values : List G) where
  abbrev c : RowSimplex → G
  c = cocycle group t values

  abbrev at : ℕ → ℕ → RowSimplex → G
  at = at_vertex group t values

  abbrev face : ℕ → RowSimplex → RowSimplex
  face = row_face t

  differences-gaps : (n j k : ℕ) (b : RowSimplex) → differences group t values n j k b ≡ gaps group (λ i. at n i b) j k
  differences-gaps n j zero b = refl
  differences-gaps n j (suc k) b = ap (λ x. minus group (at n (suc j) b) (at n j b) ∷ x) (differences-gaps n (suc j) k b)

  twist-gaps : (n : ℕ) (b : RowSimplex) → InTable t (suc n) b → cocycle_twisting group t values b ≡ gaps group (λ i. at (suc n) i b) 1 n
  twist-gaps n b is =
      let e : row_degree t b ≡ suc n = is.degree in
      let d : row_degree t b - 1 ≡ n = omega (arith, e) in
      (λ i. differences group t values (e i) 1 (d i) b) ∙ differences-gaps (suc n) 1 n b

  -- a degenerate simplex has the value 0
  cocycle-degenerate : (j : ℕ) (b : RowSimplex) → c (row_degeneracy j b) ≡ group.none
  cocycle-degenerate j ([], r) = refl
  cocycle-degenerate j (k ∷ w, r) = by (nat_le j k)
    where
      by : (b : Bool) → c (cond b (suc k ∷ degeneracy_word j w) (j ∷ (k ∷ w)), r) ≡ group.none
      by true = refl
      by false = refl

  module _ (base : IsSimplicial (table_set t)) (laws : IsAbelian group) (closed : IsCocycle group t values) where
    value_in : (b : RowSimplex) → InTable t 2 b → group.Is (c b)
    value_in ([], r) is = closed.is_in r is.row
    value_in (j ∷ w, r) is = laws.none_in

    -- ---- the law of the cocycle, on each simplex of degree 3

    abbrev Closed : RowSimplex → Type 0
    Closed u = group.plus (c (face 0 u)) (c (face 2 u)) ≡ group.plus (c (face 1 u)) (c (face 3 u))

    closed_of : (u : RowSimplex) → InTable t 3 u
        → group.plus (minus group (c (face 0 u)) (c (face 1 u))) (minus group (c (face 2 u)) (c (face 3 u))) ≡ group.none → Closed u
    closed_of u is e =
        let at_face : (i : ℕ) → i ≤ 3 → group.Is (c (face i u)) = λ i h. value_in (face i u) (base.face_in 2 i u is h) in
        balance group laws (c (face 0 u)) (c (face 1 u)) (c (face 2 u)) (c (face 3 u)) (at_face 0 (omega arith)) (at_face 1 (omega arith)) (at_face 2 (omega arith))
        (at_face 3 (omega arith)) e

    -- the values at two degeneracies, and at two equal simplices
    both_none : (i j : ℕ) (x y : RowSimplex) (a b : RowSimplex) → a ≡ row_degeneracy i x → b ≡ row_degeneracy j y → c a ≡ c b
    both_none i j x y a b e f = ap c e ∙ cocycle-degenerate i x ∙ sym (ap c f ∙ cocycle-degenerate j y)

    two_of : (u : RowSimplex) → c (face 0 u) ≡ c (face 1 u) → c (face 2 u) ≡ c (face 3 u) → Closed u
    two_of u e f = λ i. group.plus (e i) (f i)

    closed_degeneracy : (k : ℕ) (b : RowSimplex) → InTable t 2 b → k ≤ 2 → Closed (row_degeneracy k b)
    closed_degeneracy zero b is h =
        two_of (row_degeneracy 0 b) (ap c (base.face_here 2 0 b is (omega arith) ∙ sym (base.face_next 2 0 b is (omega arith))))
        (both_none 0 0 (face 1 b) (face 2 b) _ _ (base.face_above 2 1 0 b is (omega arith) (omega arith)) (base.face_above 2 2 0 b is (omega arith) (omega arith)))
    closed_degeneracy (suc zero) b is h =
        let z : c (face 0 (row_degeneracy 1 b)) ≡ c (face 3 (row_degeneracy 1 b)) =
        both_none 0 1 (face 0 b) (face 2 b) _ _ (base.face_below 2 0 0 b is (omega arith) (omega arith)) (base.face_above 2 2 1 b is (omega arith) (omega arith)) in
        let s : c (face 2 (row_degeneracy 1 b)) ≡ c (face 1 (row_degeneracy 1 b)) = ap c (base.face_next 2 1 b is (omega arith) ∙ sym (base.face_here 2 1 b is (omega arith))) in
        let u : RowSimplex = row_degeneracy 1 b in
        let raised = base.degeneracy_in 2 1 b is (omega arith) in
        (λ i. group.plus (z i) (s i))
        ∙ laws.commutes (c (face 3 u)) (c (face 1 u)) (value_in _ (base.face_in 2 3 u raised (omega arith))) (value_in _ (base.face_in 2 1 u raised (omega arith)))
    closed_degeneracy (suc (suc zero)) b is h =
        two_of (row_degeneracy 2 b)
        (both_none 1 1 (face 0 b) (face 1 b) _ _ (base.face_below 2 0 1 b is (omega arith) (omega arith)) (base.face_below 2 1 1 b is (omega arith) (omega arith)))
        (ap c (base.face_here 2 2 b is (omega arith) ∙ sym (base.face_next 2 2 b is (omega arith))))
    closed_degeneracy (suc (suc (suc k))) b is h = absurd (omega arith)

    closed_at : (u : RowSimplex) → InTable t 3 u → Closed u
    closed_at ([], r) is = let d : (row_at t r).dim + 0 ≡ 3 = is.degree in closed_of ([], r) is (closed.closed r is.row (omega (arith, d)))
    closed_at (k ∷ w, r) is =
        let d : (row_at t r).dim + suc (length w) ≡ 3 = is.degree in
        let b : k < 3 = is.word.0 in
        let below : InTable t 2 (w, r) = record { row = is.row; degree = omega (arith, d); word = word_below k 2 w (omega (arith, b)) is.word.1 } in
        subst (λ v. Closed (v, r)) (degeneracy-before k w is.word.1) (closed_degeneracy k (w, r) below (omega (arith, b)))

    -- ---- c(0,1,j) under faces and degeneracies

    -- the faces on the vertices 0 to j
    start_in : (n j : ℕ) (b : RowSimplex) → InTable t n b → j ≤ n → InTable t j (first_vertices group t values j (n - j) b)
    start_in n j b is h = first_in group t values base j (n - j) n b is (omega arith)

    at_in : (n j : ℕ) (b : RowSimplex) → InTable t n b → j ≤ n → group.Is (at n j b)
    at_in n zero b is h = laws.none_in
    at_in n (suc zero) b is h = laws.none_in
    at_in n (suc (suc j)) b is h =
        value_in _ (faces_in group t values base j 2 (suc (suc j)) 2 _ (start_in n (suc (suc j)) b is h) (omega arith) (omega arith) (omega arith))

    at-below : (n j m : ℕ) (b : RowSimplex) → InTable t (suc n) b → j < m → m ≤ suc n → at n j (face m b) ≡ at (suc n) j b
    at-below n zero m b is h l = refl
    at-below n (suc zero) m b is h l = refl
    at-below n (suc (suc j)) m b is h l =
        let e : suc (n - suc (suc j)) ≡ suc n - suc (suc j) = omega arith in
        ap (λ x. c (face_times group t values j 2 x))
        (first-drop group t values base (suc (suc j)) (n - suc (suc j)) (suc n) m b is (omega arith) h l (omega arith)
        ∙ ap (λ k. first_vertices group t values (suc (suc j)) k b) e)

    -- the value at the vertex after j, by the simplex that ends there
    at-next : (n j : ℕ) (b : RowSimplex) → suc (suc j) ≤ n
        → at (suc n) (suc (suc (suc j))) b
        ≡ c (face_times group t values j 2 (face 2 (first_vertices group t values (suc (suc (suc j))) (n - suc (suc j)) b)))
    at-next n j b h =
        let e : suc n - suc (suc (suc j)) ≡ n - suc (suc j) = omega arith in
        ap (λ k. c (face_times group t values j 2 (face 2 (first_vertices group t values (suc (suc (suc j))) k b)))) e

    next_in : (n j : ℕ) (b : RowSimplex) → InTable t (suc n) b → suc (suc j) ≤ n
        → InTable t (suc (suc (suc j))) (first_vertices group t values (suc (suc (suc j))) (n - suc (suc j)) b)
    next_in n j b is h = first_in group t values base (suc (suc (suc j))) (n - suc (suc j)) (suc n) b is (omega arith)

    at-above : (n j m : ℕ) (b : RowSimplex) → InTable t (suc n) b → 2 ≤ m → m ≤ j → j ≤ n → at n j (face m b) ≡ at (suc n) (suc j) b
    at-above n zero m b is p h l = absurd (omega arith)
    at-above n (suc zero) m b is p h l = absurd (omega arith)
    at-above n (suc (suc j)) m b is p h l =
        ap (λ x. c (face_times group t values j 2 x))
        (first-face group t values base (suc (suc j)) (n - suc (suc j)) (suc n) m b is (omega arith) h (omega arith))
        ∙ ap c (faces-more group t values base j 2 (suc (suc (suc j))) m _ (next_in n j b is l) (omega arith) p (omega arith) (omega arith))
        ∙ sym (at-next n j b l)

    at-first : (n j : ℕ) (b : RowSimplex) → InTable t n b → j ≤ suc n → at (suc n) j (row_degeneracy 0 b) ≡ group.none
    at-first n zero b is h = refl
    at-first n (suc zero) b is h = refl
    at-first n (suc (suc j)) b is h =
        ap (λ x. c (face_times group t values j 2 x))
        (first-degeneracy group t values base (suc j) (suc n - suc (suc j)) n 0 b is (omega arith) (omega arith))
        ∙ ap c
        (faces-degeneracy group t values base j 1 (suc j) 0 _ (first_in group t values base (suc j) (suc n - suc (suc j)) n b is (omega arith)) (omega arith)
        (omega arith))
        ∙ cocycle-degenerate 0 (face_times group t values j 1 (first_vertices group t values (suc j) (suc n - suc (suc j)) b))

    at-repeated_below : (n j m : ℕ) (b : RowSimplex) → InTable t n b → m ≤ n → j ≤ m → at (suc n) j (row_degeneracy m b) ≡ at n j b
    at-repeated_below n j m b is h l =
        sym (at-below n j (suc m) (row_degeneracy m b) (base.degeneracy_in n m b is h) (omega arith) (omega arith)) ∙ ap (at n j) (base.face_next n m b is h)

    at-repeated_above : (n j m : ℕ) (b : RowSimplex) → InTable t n b → 1 ≤ m → m ≤ j → j ≤ n → at (suc n) (suc j) (row_degeneracy m b) ≡ at n j b
    at-repeated_above n zero m b is p h l = absurd (omega arith)
    at-repeated_above n (suc zero) m b is p h l =
        let e : m ≡ 1 = omega arith in
        ap (λ i. c (first_vertices group t values 2 (suc n - 2) (row_degeneracy i b))) e
        ∙ ap c (first-degeneracy group t values base 1 (suc n - 2) n 1 b is (omega arith) (omega arith)) ∙ cocycle-degenerate 1 (first_vertices group t values 1 (suc n - 2) b)
    at-repeated_above n (suc (suc j)) m b is p h l = by (cases_lt 1 m)
      where
        raised : InTable t (suc n) (row_degeneracy m b)
        raised = base.degeneracy_in n m b is (omega arith)

        by : (1 < m) ⊎ (m ≤ 1) → at (suc n) (suc (suc (suc j))) (row_degeneracy m b) ≡ at n (suc (suc j)) b
        by (inl g) = sym (at-above n (suc (suc j)) m (row_degeneracy m b) raised (omega arith) h l) ∙ ap (at n (suc (suc j))) (base.face_here n m b is (omega arith))
        by (inr g) =
            sym (at-above n (suc (suc j)) (suc m) (row_degeneracy m b) raised (omega arith) (omega arith) l)
            ∙ ap (at n (suc (suc j))) (base.face_next n m b is (omega arith))

    -- c(1,2,j+1) + c(0,1,j+1) is c(0,2,j+1) + c(0,1,2)
    at-closed : (n j : ℕ) (b : RowSimplex) → InTable t (suc n) b → 1 ≤ j → j ≤ n
        → group.plus (at n j (face 0 b)) (at (suc n) (suc j) b) ≡ group.plus (at n j (face 1 b)) (at (suc n) 2 b)
    at-closed n zero b is p h = absurd (omega arith)
    at-closed n (suc zero) b is p h = refl
    at-closed n (suc (suc j)) b is p h =
        (λ i. group.plus (side 0 (omega arith) i) (third i)) ∙ closed_at u (faces_in group t values base j 3 (suc (suc (suc j))) 3 y y_in (omega arith) (omega arith) (omega arith))
        ∙ sym (λ i. group.plus (side 1 (omega arith) i) (last i))
      where
        k : ℕ
        k = n - suc (suc j)

        y : RowSimplex
        y = first_vertices group t values (suc (suc (suc j))) (n - suc (suc j)) b

        y_in : InTable t (suc (suc (suc j))) y
        y_in = next_in n j b is h

        -- the face on the vertices 0, 1, 2 and j + 3
        u : RowSimplex
        u = face_times group t values j 3 y

        side : (m : ℕ) → m ≤ 1 → at n (suc (suc j)) (face m b) ≡ c (face m u)
        side m l =
            ap (λ x. c (face_times group t values j 2 x)) (first-face group t values base (suc (suc j)) (n - suc (suc j)) (suc n) m b is (omega arith) (omega arith) (omega arith))
            ∙ ap c (faces-face group t values base j 2 (suc (suc (suc j))) m y y_in (omega arith) (omega arith) (omega arith))

        third : at (suc n) (suc (suc (suc j))) b ≡ c (face 2 u)
        third = at-next n j b h ∙ ap c (faces-face group t values base j 2 (suc (suc (suc j))) 2 y y_in (omega arith) (omega arith) (omega arith))

        last : at (suc n) 2 b ≡ c (face 3 u)
        last =
            let e : 2 + suc j ≡ suc (suc (suc j)) = omega arith in
            let f : 1 + j ≡ suc j = omega arith in
            let g : suc n - 2 ≡ suc j + (n - suc (suc j)) = omega arith in
            ap c
            (ap (λ l. first_vertices group t values 2 l b) g ∙ sym (first-first group t values base 0 j (n - suc (suc j)) (suc n) b is (omega arith))
            ∙ ap (λ s. first_vertices group t values 2 (suc j) (first_vertices group t values s (n - suc (suc j)) b)) e ∙ ap (λ s. first_vertices group t values 2 s y) (sym f)
            ∙ sym (first-faces group t values base j 2 0 (suc (suc (suc j))) y y_in (omega arith) (omega arith)))

    -- ---- the twisting operator

    twist_in : (n : ℕ) (b : RowSimplex) → InTable t (suc n) b → (nerve_set group).In n (cocycle_twisting group t values b)
    twist_in n b is =
        subst ((nerve_set group).In n) (sym (twist-gaps n b is))
        (length-gaps group (λ i. at (suc n) i b) 1 n, gaps_each group laws (λ i. at (suc n) i b) 1 n (λ i h. at_in (suc n) i b is (omega arith)))

    twist-first : (n : ℕ) (b : RowSimplex) → InTable t (suc (suc n)) b
        → nerve_times group (cocycle_twisting group t values (face 0 b)) (nerve_face group 0 (cocycle_twisting group t values b))
        ≡ cocycle_twisting group t values (face 1 b)
    twist-first n b is =
        let first_face = base.face_in (suc n) 0 b is (omega arith) in
        let second_face = base.face_in (suc n) 1 b is (omega arith) in
        let x : ℕ → G = λ i. at (suc n) i (face 0 b) in
        let y : ℕ → G = λ i. at (suc n) i (face 1 b) in
        let z : ℕ → G = λ i. at (suc (suc n)) (suc i) b in
        (λ s. nerve_times group (twist-gaps n (face 0 b) first_face s) (nerve_face group 0 (twist-gaps (suc n) b is s)))
        ∙ ap (nerve_times group (gaps group x 1 n)) (sym (gaps-rest group (λ i. at (suc (suc n)) i b) 1 n))
        ∙ times-gaps group laws x y z (at (suc (suc n)) 2 b) 1 n (at_in (suc (suc n)) 2 b is (omega arith))
        (λ i h. (
          at_in (suc n) i (face 0 b) first_face (omega arith),
          at_in (suc n) i (face 1 b) second_face (omega arith),
          at_in (suc (suc n)) (suc i) b is (omega arith),
        ))
        (λ i h l. at-closed (suc n) i b is h (omega arith))
        ∙ sym (twist-gaps n (face 1 b) second_face)

    twist-later : (n i : ℕ) (b : RowSimplex) → InTable t (suc (suc n)) b → i ≤ n
        → nerve_face group (suc i) (cocycle_twisting group t values b) ≡ cocycle_twisting group t values (face (suc (suc i)) b)
    twist-later n i b is h =
        ap (nerve_face group (suc i)) (twist-gaps (suc n) b is)
        ∙ face-gaps group laws (λ l. at (suc n) l (face (suc (suc i)) b)) (λ l. at (suc (suc n)) l b) i 1 n h (λ l a. at_in (suc (suc n)) l b is (omega arith))
        (λ l a. at-below (suc n) l (suc (suc i)) b is (omega arith) (omega arith))
        (λ l a e. at-above (suc n) l (suc (suc i)) b is (omega arith) (omega arith) (omega arith))
        ∙ sym (twist-gaps n (face (suc (suc i)) b) (base.face_in (suc n) (suc (suc i)) b is (omega arith)))

    twist-unit : (n : ℕ) (b : RowSimplex) → InTable t n b → cocycle_twisting group t values (row_degeneracy 0 b) ≡ copies n group.none
    twist-unit n b is =
        twist-gaps n (row_degeneracy 0 b) (base.degeneracy_in n 0 b is (omega arith))
        ∙ gaps-none group laws (λ l. at (suc n) l (row_degeneracy 0 b)) 1 n (λ l h. at-first n l b is (omega arith))

    twist-raised : (n i : ℕ) (b : RowSimplex) → InTable t (suc n) b → i ≤ n
        → cocycle_twisting group t values (row_degeneracy (suc i) b) ≡ nerve_degeneracy group i (cocycle_twisting group t values b)
    twist-raised n i b is h =
        twist-gaps (suc n) (row_degeneracy (suc i) b) (base.degeneracy_in (suc n) (suc i) b is (omega arith))
        ∙ degeneracy-gaps group laws (λ l. at (suc (suc n)) l (row_degeneracy (suc i) b)) (λ l. at (suc n) l b) i 1 n h (λ l a. at_in (suc n) l b is (omega arith))
        (λ l a. at-repeated_below (suc n) l (suc i) b is (omega arith) (omega arith))
        (λ l a e. at-repeated_above (suc n) l (suc i) b is (omega arith) (omega arith) (omega arith))
        ∙ sym (ap (nerve_degeneracy group i) (twist-gaps n b is))

    pub cocycle_is_twisting : IsTwisting (table_set t) (nerve_set group) (cocycle_twisting group t values) (nerve_times group)
    cocycle_is_twisting =
        let times = nerve_group group laws in
        record {
          t_in = twist_in;
          times_in = times.times_in;
          associates = times.associates;
          face_times = times.face_times;
          degeneracy_times = times.degeneracy_times;
          first = twist-first;
          later = twist-later;
          unit = λ n b x is ix. ap (λ v. nerve_times group v x) (twist-unit n b is) ∙ times.unit_left n x ix;
          raised = twist-raised;
        }

    pub bundle_laws : IsSimplicial (twisted_set (table_set t) (nerve_set group) (cocycle_twisting group t values) (nerve_times group))
    bundle_laws = twisted_laws (table_set t) (nerve_set group) base (nerve_set_laws group laws) (cocycle_twisting group t values) (nerve_times group) cocycle_is_twisting
