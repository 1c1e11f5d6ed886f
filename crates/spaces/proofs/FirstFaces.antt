-- The faces of a simplex on the vertices 0, 1, j: what becomes of them under faces and degeneracies.
use Rattle.std.proofs.Common.{◌≡◌, ℕ, zero, suc, ◌+◌, ◌-◌, ◌<◌, ◌≤◌, ◌⊎◌, inl, inr, List, refl, sym, ◌∙◌, ap, subst, arith}
use Rattle.std.proofs.lemmas.Bool.{cases_lt}
use Rattle.spaces.specs.Simplicial.{IsSimplicial}
use Rattle.spaces.specs.Tables.{Table, RowSimplex, row_face, row_degeneracy, table_set, InTable}
use Rattle.spaces.specs.Nerves.{Abelian}
use Rattle.spaces.specs.Cocycles.{face_times, first_vertices}

module _ {G : Type 0} (group : Abelian G) (t : Table) (values : List G) (laws : IsSimplicial (table_set t)) where
  abbrev faces : ℕ → ℕ → RowSimplex → RowSimplex
  faces = face_times group t values

  abbrev first : ℕ → ℕ → RowSimplex → RowSimplex
  first = first_vertices group t values

  abbrev face : ℕ → RowSimplex → RowSimplex
  face = row_face t

  pub in_degree : (m n : ℕ) (b : RowSimplex) → m ≡ n → InTable t m b → InTable t n b
  in_degree m n b e is = subst (λ k. InTable t k b) e is

  pub face_in : (n m i : ℕ) (b : RowSimplex) → InTable t n b → n ≡ suc m → i ≤ n → InTable t m (face i b)
  face_in n m i b is e h = laws.face_in m i b (in_degree n (suc m) b e is) (omega arith)

  -- d_a d_i is d_i d_(a+1) for i ≤ a
  swap : (n a c i : ℕ) (b : RowSimplex) → InTable t n b → 2 ≤ n → c ≡ suc a → i ≤ a → c ≤ n → face a (face i b) ≡ face i (face c b)
  swap n a c i b is p e h l =
      sym (ap (λ s. face i (face s b)) e ∙ laws.face_face (n - 2) a i b (in_degree n (suc (suc (n - 2))) b (omega arith) is) h (omega arith))

  -- ---- the first vertices

  pub first_in : (j k n : ℕ) (b : RowSimplex) → InTable t n b → n ≡ j + k → InTable t j (first j k b)
  first_in j zero n b is e = in_degree n j b (omega arith) is
  first_in j (suc k) n b is e = first_in j k (j + k) (face (j + suc k) b) (face_in n (j + k) (j + suc k) b is (omega arith) (omega arith)) refl

  -- a face above the vertex j
  pub first-drop : (j k n m : ℕ) (b : RowSimplex) → InTable t n b → n ≡ j + suc k → j < m → m ≤ n → 1 ≤ j → first j k (face m b) ≡ first j (suc k) b
  first-drop j zero n m b is e h l p = let s : m ≡ j + 1 = omega arith in ap (λ i. face i b) s
  first-drop j (suc k) n m b is e h l p =
      by (cases_lt m n)
      (λ g. first-drop j k (j + suc k) m (face (j + suc (suc k)) b) (face_in n (j + suc k) (j + suc (suc k)) b is (omega arith) (omega arith)) refl h (omega arith) p)
    where
      by : (m < n) ⊎ (n ≤ m) → (m < n → first j k (face m (face (j + suc (suc k)) b)) ≡ first j (suc k) (face (j + suc (suc k)) b))
          → first j (suc k) (face m b) ≡ first j (suc (suc k)) b
      by (inl g) r = ap (first j k) (swap n (j + suc k) (j + suc (suc k)) m b is (omega arith) (omega arith) (omega arith) (omega arith)) ∙ r g
      by (inr g) r = let s : m ≡ j + suc (suc k) = omega arith in ap (λ i. first j (suc k) (face i b)) s

  -- a face at or below the vertex j
  pub first-face : (j k n m : ℕ) (b : RowSimplex) → InTable t n b → n ≡ suc j + k → m ≤ j → 1 ≤ j → first j k (face m b) ≡ face m (first (suc j) k b)
  first-face j zero n m b is e h p = refl
  first-face j (suc k) n m b is e h p =
      let s : j + suc (suc k) ≡ suc j + suc k = omega arith in
      ap (first j k) (swap n (j + suc k) (suc j + suc k) m b is (omega arith) (omega arith) (omega arith) (omega arith))
      ∙ first-face j k (suc j + k) m (face (suc j + suc k) b) (face_in n (suc j + k) (suc j + suc k) b is (omega arith) (omega arith)) refl h p

  -- a degeneracy at or below the vertex j
  pub first-degeneracy : (j k n m : ℕ) (b : RowSimplex) → InTable t n b → n ≡ j + k → m ≤ j → first (suc j) k (row_degeneracy m b) ≡ row_degeneracy m (first j k b)
  first-degeneracy j zero n m b is e h = refl
  first-degeneracy j (suc k) n m b is e h =
      let s : suc j + suc k ≡ suc (j + suc k) = omega arith in
      ap (λ i. first (suc j) k (face i (row_degeneracy m b))) s ∙ ap (first (suc j) k) (laws.face_above n (j + suc k) m b is (omega arith) (omega arith))
      ∙ first-degeneracy j k (j + k) m (face (j + suc k) b) (face_in n (j + k) (j + suc k) b is (omega arith) (omega arith)) refl h

  -- first vertices of first vertices
  pub first-first : (i j k n : ℕ) (b : RowSimplex) → InTable t n b → n ≡ suc (suc i) + suc j + k → first (suc (suc i)) (suc j) (first (suc (suc i) + suc j) k b) ≡ first (suc (suc i)) (suc j + k) b
  first-first i j zero n b is e = let s : suc j + 0 ≡ suc j = omega arith in sym (ap (λ l. first (suc (suc i)) l b) s)
  first-first i j (suc k) n b is e =
      let s : suc j + suc k ≡ suc (suc j + k) = omega arith in
      let u : suc (suc i) + suc j + suc k ≡ suc (suc i) + suc (suc j + k) = omega arith in
      let b' : RowSimplex = face (suc (suc i) + suc j + suc k) b in
      first-first i j k (suc (suc i) + suc j + k) b' (face_in n (suc (suc i) + suc j + k) (suc (suc i) + suc j + suc k) b is (omega arith) (omega arith)) refl
      ∙ ap (λ l. first (suc (suc i)) (suc j + k) (face l b)) u ∙ sym (ap (λ l. first (suc (suc i)) l b) s)

  -- ---- the same face, taken several times

  pub faces_in : (k i n m : ℕ) (b : RowSimplex) → InTable t n b → n ≡ m + k → i ≤ m → 1 ≤ m → InTable t m (faces k i b)
  faces_in zero i n m b is e h p = in_degree n m b (omega arith) is
  faces_in (suc k) i n m b is e h p = faces_in k i (m + k) m (face i b) (face_in n (m + k) i b is (omega arith) (omega arith)) refl h p

  -- one of the vertices from i on is left out first
  pub faces-more : (k i n m : ℕ) (b : RowSimplex) → InTable t n b → n ≡ suc k + i → i ≤ m → m ≤ k + i → 1 ≤ i → faces k i (face m b) ≡ faces (suc k) i b
  faces-more zero i n m b is e h l p = let s : m ≡ i = omega arith in ap (λ a. face a b) s
  faces-more (suc k) i n m b is e h l p =
      by (cases_lt i m)
      (λ g. faces-more k i (suc k + i) (m - 1) (face i b) (face_in n (suc k + i) i b is (omega arith) (omega arith)) refl (omega arith) (omega arith) p)
    where
      by : (i < m) ⊎ (m ≤ i) → (i < m → faces k i (face (m - 1) (face i b)) ≡ faces (suc k) i (face i b)) → faces (suc k) i (face m b) ≡ faces (suc (suc k)) i b
      by (inl g) r = ap (faces k i) (sym (swap n (m - 1) m i b is (omega arith) (omega arith) (omega arith) (omega arith))) ∙ r g
      by (inr g) r = let s : m ≡ i = omega arith in ap (λ a. faces (suc k) i (face a b)) s

  -- a face at or below i moves before them
  pub faces-face : (k i n m : ℕ) (b : RowSimplex) → InTable t n b → n ≡ suc i + k → m ≤ i → 1 ≤ i → faces k i (face m b) ≡ face m (faces k (suc i) b)
  faces-face zero i n m b is e h p = refl
  faces-face (suc k) i n m b is e h p =
      ap (faces k i) (swap n i (suc i) m b is (omega arith) refl h (omega arith))
      ∙ faces-face k i (suc i + k) m (face (suc i) b) (face_in n (suc i + k) (suc i) b is (omega arith) (omega arith)) refl h p

  -- so does a degeneracy below i
  pub faces-degeneracy : (k i n m : ℕ) (b : RowSimplex) → InTable t n b → n ≡ i + k → m < i → faces k (suc i) (row_degeneracy m b) ≡ row_degeneracy m (faces k i b)
  faces-degeneracy zero i n m b is e h = refl
  faces-degeneracy (suc k) i n m b is e h =
      ap (faces k (suc i)) (laws.face_above n i m b is h (omega arith))
      ∙ faces-degeneracy k i (i + k) m (face i b) (face_in n (i + k) i b is (omega arith) (omega arith)) refl h

  -- the vertices 0 to i stay where vertices above them are left out
  pub first-faces : (k i j n : ℕ) (b : RowSimplex) → InTable t n b → n ≡ suc i + j + k → 1 ≤ i → first i (suc j) (faces k (suc i) b) ≡ first i (suc j + k) b
  first-faces zero i j n b is e p = let s : suc j + 0 ≡ suc j = omega arith in sym (ap (λ l. first i l b) s)
  first-faces (suc k) i j n b is e p =
      let s : suc j + suc k ≡ suc (suc j + k) = omega arith in
      first-faces k i j (suc i + j + k) (face (suc i) b) (face_in n (suc i + j + k) (suc i) b is (omega arith) (omega arith)) refl p
      ∙ first-drop i (suc j + k) n (suc i) b is (omega arith) (omega arith) (omega arith) p ∙ sym (ap (λ l. first i l b) s)
