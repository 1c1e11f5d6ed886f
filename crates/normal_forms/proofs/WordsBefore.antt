-- A word before a simplex that is not degenerate: its degeneracies are the places of the word, its cell is the simplex, and each simplex
-- is in this way (Eilenberg and Zilber; May, Simplicial Objects in Algebraic Topology, chapter I).
use Rattle.std.proofs.Common.{◌≡◌, ℕ, zero, suc, ◌+◌, ◌*◌, ◌/◌, ◌%◌, ◌^◌, ◌<◌, ◌≤◌, Bool, true, false, cond, ◌==◌, ◌||◌, ◌⊎◌, inl, inr, List, [], ◌∷◌, length, refl, sym, ◌∙◌, ap, subst, arith, true≢false}
use Rattle.std.proofs.lemmas.Bool.{cases_eq, cases_lt, cases_order}
use Rattle.std.proofs.lemmas.Nat.{mod-pow-add}
use Rattle.std.proofs.lemmas.Nat.Bits.{bit_at-lt}
use Rattle.std.proofs.Math.Nat.{mod-eq_of_lt}
use Rattle.simp_ops.specs.Words.{IsWord, has}
use Rattle.simp_ops.specs.Bits.{bit, count_below}
use Rattle.simp_ops.proofs.PlacesOf.{word_below, cases_bool, is_eq, not_eq}
use Rattle.simp_ops.proofs.Masks.{places_has, has_far}
use Rattle.simp_ops.proofs.MaskWords.{mask_of, mask_of-lt, bit-mask_of, length-places}
use Rattle.spaces.specs.Simplicial.{Simplicial, IsSimplicial, has_degeneracy, is_degenerate}
use Rattle.spaces.specs.Orders.{mask, cell_of, dim_of}
use Rattle.spaces.proofs.Degenerate.{degenerate_so}
use Rattle.term_lang.specs.Degenerated.{degenerated}
use Rattle.term_lang.proofs.WordsAct.{degenerated_in}
use Rattle.normal_forms.proofs.Degeneracies.{none_below, all_fail, has_is, has_here, has_lower, has_higher}

-- one bit more of a number
one_bit : (b p q : ℕ) → b < 2 → b * p + q ≡ q + cond (b == 1) p 0
one_bit zero p q h = omega arith
one_bit (suc zero) p q h = omega arith
one_bit (suc (suc b)) p q h = absurd (omega (arith, h))

bit-sum : (m k : ℕ) → m % 2 ^ suc k ≡ m % 2 ^ k + cond (bit m k) (2 ^ k) 0
bit-sum m k =
    let e : suc k ≡ 1 + k = omega arith in
    ap (λ j. m % 2 ^ j) e ∙ mod-pow-add m 1 k ∙ one_bit (m / 2 ^ k % 2) (2 ^ k) (m % 2 ^ k) (bit_at-lt m k)

module _ {K : Type 0} (X : Simplicial K) (laws : IsSimplicial X) where
  -- a word below the degree before a simplex of degree m that is not degenerate
  pub record Before (m : ℕ) (w : List ℕ) (c : K) : Type 0 where
    pub is_in : X.In m c
    pub bare : is_degenerate X m c ≡ false
    pub word : IsWord (m + length w) w

  rest : (m j : ℕ) (w : List ℕ) (c : K) → Before m (j ∷ w) c → Before m w c
  rest m j w c b = record {
    is_in = b.is_in;
    bare = b.bare;
    word = let h : j < m + suc (length w) = b.word.0 in word_below j (m + length w) w (omega (arith, h)) b.word.1;
  }

  pub before_in : (m : ℕ) (w : List ℕ) (c : K) → Before m w c → X.In (m + length w) (degenerated X w c)
  before_in m w c b = degenerated_in X laws m w c b.is_in b.word

  -- its degeneracies are the places of the word
  pub has_word : (m i : ℕ) (w : List ℕ) (c : K) → Before m w c → i < m + length w → has_degeneracy X i (degenerated X w c) ≡ has w i
  has_word m i [] c b l = none_below m (λ j. has_degeneracy X j c) b.bare i (omega (arith, l))
  has_word m i (j ∷ w) c b l = by (cases_order i j) (λ k g. has_word m k w c (rest m j w c b) g)
    where
      low : j ≤ m + length w
      low = let h : j < m + suc (length w) = b.word.0 in omega (arith, h)

      y : K
      y = degenerated X w c

      is : X.In (m + length w) y
      is = before_in m w c (rest m j w c b)

      by : (i ≡ j) ⊎ ((i < j) ⊎ (j < i)) → ((k : ℕ) → k < m + length w → has_degeneracy X k y ≡ has w k) → has_degeneracy X i (X.degeneracy j y) ≡ (i == j) || has w i
      by (inl e) r = ap (λ k. has_degeneracy X k (X.degeneracy j y)) e ∙ has_here X laws (m + length w) j y is low ∙ sym (ap (λ t. t || has w i) (is_eq i j e))
      by (inr (inl h)) r =
          has_lower X laws (m + length w) i j y is h low ∙ r i (omega (arith, h, low)) ∙ sym (ap (λ t. t || has w i) (not_eq i j (λ e. omega (arith, h, e))))
      by (inr (inr h)) r = above i h l
        where
          above : (k : ℕ) → j < k → k < m + suc (length w) → has_degeneracy X k (X.degeneracy j y) ≡ (k == j) || has w k
          above zero g q = absurd (omega (arith, g))
          above (suc k) g q =
              has_higher X laws (m + length w) k j y is (omega (arith, g)) (omega (arith, q)) ∙ r k (omega (arith, q)) ∙ has_far j k w b.word.1 (omega (arith, g))
              ∙ sym (ap (λ t. t || has w (suc k)) (not_eq (suc k) j (λ e. omega (arith, g, e))) ∙ has_far j (suc k) w b.word.1 (omega (arith, g)))

  mask-bits : (m k : ℕ) (w : List ℕ) (c : K) → Before m w c → k ≤ m + length w → mask X k (degenerated X w c) ≡ mask_of w % 2 ^ k
  mask-bits m zero w c b l = let e : 0 ≡ mask_of w % 1 = omega arith in e
  mask-bits m (suc k) w c b l =
      (λ i. mask-bits m k w c b (omega (arith, l)) i + cond ((has_word m k w c b l ∙ sym (bit-mask_of (m + length w) w b.word k)) i) (2 ^ k) 0) ∙ sym (bit-sum (mask_of w) k)

  pub mask-before : (m : ℕ) (w : List ℕ) (c : K) → Before m w c → mask X (m + length w) (degenerated X w c) ≡ mask_of w
  mask-before m w c b = mask-bits m (m + length w) w c b (omega arith) ∙ mod-eq_of_lt (mask_of-lt (m + length w) w b.word)

  dim-count : (m k : ℕ) (w : List ℕ) (c : K) → Before m w c → k ≤ m + length w → dim_of X k (degenerated X w c) + count_below k (has w) ≡ k
  dim-count m zero w c b l = refl
  dim-count m (suc k) w c b l = by (has w k) (has_word m k w c b l) (dim-count m k w c b (omega (arith, l)))
    where
      by : (t : Bool) → has_degeneracy X k (degenerated X w c) ≡ t → dim_of X k (degenerated X w c) + count_below k (has w) ≡ k
          → dim_of X k (degenerated X w c) + cond (has_degeneracy X k (degenerated X w c)) 0 1 + (count_below k (has w) + cond t 1 0) ≡ suc k
      by true q e = (λ i. dim_of X k (degenerated X w c) + cond (q i) 0 1 + (count_below k (has w) + 1)) ∙ omega (arith, e)
      by false q e = (λ i. dim_of X k (degenerated X w c) + cond (q i) 0 1 + (count_below k (has w) + 0)) ∙ omega (arith, e)

  pub dim-before : (m : ℕ) (w : List ℕ) (c : K) → Before m w c → dim_of X (m + length w) (degenerated X w c) ≡ m
  dim-before m w c b =
      let places : length w ≡ count_below (m + length w) (has w) = sym (ap length (places_has (m + length w) w b.word)) ∙ length-places (m + length w) (has w) in
      let all : dim_of X (m + length w) (degenerated X w c) + count_below (m + length w) (has w) ≡ m + length w = dim-count m (m + length w) w c b (omega arith) in
      omega (arith, places, all)

  -- the cell is what stands behind the word
  cell-steps : (m k : ℕ) (w : List ℕ) (c : K) → Before m w c → IsWord k w → k ≤ m + length w → cell_of X k (degenerated X w c) ≡ c
  cell-steps m zero [] c b is l = refl
  cell-steps m zero (j ∷ w) c b is l = absurd (omega (arith, is.0))
  cell-steps m (suc k) [] c b is l =
      ap (λ t. cell_of X k (cond t (X.face k c) c)) (has_word m k [] c b l) ∙ cell-steps m k [] c b tt (omega (arith, l))
  cell-steps m (suc k) (j ∷ w) c b is l = by (cases_eq k j) (λ v d js g. cell-steps m k v c d js g)
    where
      low : j ≤ m + length w
      low = let h : j < m + suc (length w) = b.word.0 in omega (arith, h)

      y : K
      y = degenerated X w c

      x : K
      x = X.degeneracy j y

      by : (k ≡ j) ⊎ (k ≡ j → ⊥) → ((v : List ℕ) → Before m v c → IsWord k v → k ≤ m + length v → cell_of X k (degenerated X v c) ≡ c)
          → cell_of X k (cond (has_degeneracy X k x) (X.face k x) x) ≡ c
      by (inl e) r =
          let h : has_degeneracy X k x ≡ true = has_word m k (j ∷ w) c b l ∙ ap (λ t. t || has w k) (is_eq k j e) in
          let f : X.face k x ≡ y = ap (λ i. X.face i x) e ∙ laws.face_here (m + length w) j y (before_in m w c (rest m j w c b)) low in
          (λ i. cell_of X k (cond (h i) (f i) x)) ∙ r w (rest m j w c b) (word_below j k w (omega (arith, e)) is.1) (omega (arith, l))
      by (inr d) r =
          let less : j < k = (let g : j < suc k = is.0 in omega (arith, g, d)) in
          let h : has_degeneracy X k x ≡ false = has_word m k (j ∷ w) c b l ∙ has_far k k (j ∷ w) (less, is.1) (omega arith) in
          ap (λ t. cell_of X k (cond t (X.face k x) x)) h ∙ r (j ∷ w) b (less, is.1) (omega (arith, l))

  pub cell-before : (m : ℕ) (w : List ℕ) (c : K) → Before m w c → cell_of X (m + length w) (degenerated X w c) ≡ c
  cell-before m w c b = cell-steps m (m + length w) w c b b.word (omega arith)

  -- it is degenerate where the word has a place
  pub word-degenerate : (m : ℕ) (w : List ℕ) (c : K) → Before m w c → (w ≡ [] → ⊥) → is_degenerate X (m + length w) (degenerated X w c) ≡ true
  word-degenerate m [] c b h = absurd (h refl)
  word-degenerate m (j ∷ w) c b h =
      let low : j ≤ m + length w = (let g : j < m + suc (length w) = b.word.0 in omega (arith, g)) in
      let e : suc (m + length w) ≡ m + suc (length w) = omega arith in
      subst (λ k. is_degenerate X k (X.degeneracy j (degenerated X w c)) ≡ true) e
      (degenerate_so X laws (m + length w) j (degenerated X w c) (before_in m w c (rest m j w c b)) low)

  -- ---- each simplex has such a form

  pub record Formed (n : ℕ) (x : K) : Type 0 where
    pub dim : ℕ
    pub word : List ℕ
    pub cell : K
    pub degree : n ≡ dim + length word
    pub before : Before dim word cell
    pub is : x ≡ degenerated X word cell

  -- the highest place of a test
  record Highest (n : ℕ) (t : ℕ → Bool) : Type 0 where
    place : ℕ
    within : place < n
    passes : t place ≡ true
    above : (i : ℕ) → place < i → i < n → t i ≡ false

  search_highest : (n : ℕ) (t : ℕ → Bool) → Highest n t ⊎ ((i : ℕ) → i < n → t i ≡ false)
  search_highest zero t = inr (λ i l. absurd (omega (arith, l)))
  search_highest (suc n) t = by (cases_bool (t n)) (search_highest n t)
    where
      by : (t n ≡ true) ⊎ (t n ≡ false) → Highest n t ⊎ ((i : ℕ) → i < n → t i ≡ false) → Highest (suc n) t ⊎ ((i : ℕ) → i < suc n → t i ≡ false)
      by (inl h) r = inl (record { place = n; within = omega arith; passes = h; above = λ i l g. absurd (omega (arith, l, g)) })
      by (inr h) (inl r) = inl (record { place = r.place; within = (let l : r.place < n = r.within in omega (arith, l)); passes = r.passes; above = λ i l g. at i l g (cases_lt i n) })
        where
          at : (i : ℕ) → r.place < i → i < suc n → (i < n) ⊎ (n ≤ i) → t i ≡ false
          at i l g (inl q) = r.above i l q
          at i l g (inr q) = let e : i ≡ n = omega (arith, g, q) in ap t e ∙ h
      by (inr h) (inr r) = inr (λ i g. at i g (cases_lt i n))
        where
          at : (i : ℕ) → i < suc n → (i < n) ⊎ (n ≤ i) → t i ≡ false
          at i g (inl q) = r i q
          at i g (inr q) = let e : i ≡ n = omega (arith, g, q) in ap t e ∙ h

  bare_formed : (n : ℕ) (x : K) → X.In n x → is_degenerate X n x ≡ false → Formed n x
  bare_formed n x is h = record {
    dim = n;
    word = [];
    cell = x;
    degree = omega arith;
    before = record { is_in = is; bare = h; word = tt };
    is = refl;
  }

  pub formed : (n : ℕ) (x : K) → X.In n x → Formed n x
  formed zero x is = bare_formed zero x is refl
  formed (suc n) x is = by (search_highest (suc n) (λ j. has_degeneracy X j x)) (λ y iy. formed n y iy)
    where
      by : Highest (suc n) (λ j. has_degeneracy X j x) ⊎ ((i : ℕ) → i < suc n → has_degeneracy X i x ≡ false) → ((y : K) → X.In n y → Formed n y) → Formed (suc n) x
      by (inr none) r = bare_formed (suc n) x is (all_fail (suc n) (λ j. has_degeneracy X j x) none)
      by (inl top) r = record {
        dim = f.dim;
        word = j ∷ f.word;
        cell = f.cell;
        degree = more;
        before = record {
          is_in = f.before.is_in;
          bare = f.before.bare;
          word = (subst (λ k. j < k) more top.within, below f.word f.before f.is f.degree);
        };
        is = x_is ∙ ap (X.degeneracy j) f.is;
      }
        where
          j : ℕ
          j = top.place

          low : j ≤ n
          low = let l : j < suc n = top.within in omega (arith, l)

          y : K
          y = X.face j x

          iy : X.In n y
          iy = laws.face_in n j x is (omega (arith, low))

          f : Formed n y
          f = r y iy

          x_is : x ≡ X.degeneracy j y
          x_is = has_is X laws j x top.passes

          more : suc n ≡ f.dim + suc (length f.word)
          more = let d : n ≡ f.dim + length f.word = f.degree in omega (arith, d)

          -- a place of the face from j on would be one of x above j
          below : (w : List ℕ) → Before f.dim w f.cell → y ≡ degenerated X w f.cell → n ≡ f.dim + length w → IsWord j w
          below [] b e d = tt
          below (i ∷ w) b e d = (at (cases_lt i j), b.word.1)
            where
              less : i < n
              less = let l : i < f.dim + suc (length w) = b.word.0 in omega (arith, l, d)

              has_i : has_degeneracy X i y ≡ true
              has_i = ap (has_degeneracy X i) e ∙ has_word f.dim i (i ∷ w) f.cell b b.word.0 ∙ ap (λ t. t || has w i) (is_eq i i refl)

              at : (i < j) ⊎ (j ≤ i) → i < j
              at (inl g) = g
              at (inr g) =
                  absurd (true≢false (sym (ap (has_degeneracy X (suc i)) x_is ∙ has_higher X laws n i j y iy g less ∙ has_i)
                  ∙ top.above (suc i) (omega (arith, g)) (omega (arith, less))))
