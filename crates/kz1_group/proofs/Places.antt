-- Which degeneracies a simplex of any simplicial set has: those of s_j y are those of y with the place j put in. So each simplex is in
-- one way a word of degeneracies before one that has none (Eilenberg and Zilber).
use Rattle.std.proofs.Common.{◌≡◌, ℕ, zero, suc, ◌+◌, ◌-◌, ◌*◌, ◌/◌, ◌%◌, ◌^◌, ◌<◌, ◌≤◌, Bool, true, false, cond, ◌==◌, ◌||◌, List, [], ◌∷◌, length, refl, sym, ◌∙◌, ap, subst, arith, ◌⊎◌, inl, inr, true≢false}
use Rattle.std.proofs.lemmas.Bool.{cases_eq, cases_lt}
use Rattle.std.proofs.lemmas.Nat.{mod-pow-add}
use Rattle.std.proofs.lemmas.Nat.Bits.{bit_at-lt}
use Rattle.std.proofs.Math.Nat.{mod-eq_of_lt}
use Rattle.simp_ops.specs.Words.{IsWord, has, degeneracy_word}
use Rattle.simp_ops.specs.Bits.{bit, places, inserted}
use Rattle.simp_ops.proofs.PlacesOf.{places-true, places-false, places-zero, places_same, places_word, word_below, cases_bool, degeneracy-before, degeneracy-places, inserted-below, inserted-here, inserted-above}
use Rattle.simp_ops.proofs.Masks.{has_far}
use Rattle.simp_ops.proofs.MaskWords.{has-places, mask_of, mask_of-lt, bit-mask_of}
use Rattle.spaces.specs.Simplicial.{Simplicial, IsSimplicial, has_degeneracy, some_below}
use Rattle.spaces.specs.Orders.{mask, cell_of, dim_of}
use Rattle.term_lang.specs.Degenerated.{degenerated}
use Rattle.term_lang.proofs.WordsAct.{degenerated_in}

same_bool : (a b : Bool) → (a ≡ true → b ≡ true) → (b ≡ true → a ≡ true) → a ≡ b
same_bool true b f g = sym (f refl)
same_bool false true f g = absurd (true≢false (sym (g refl)))
same_bool false false f g = refl

not_true : (b : Bool) → (b ≡ true → ⊥) → b ≡ false
not_true true h = absurd (h refl)
not_true false h = refl

-- one bit more of a number
one_bit : (b p q : ℕ) → b < 2 → b * p + q ≡ q + cond (b == 1) p 0
one_bit zero p q h = omega arith
one_bit (suc zero) p q h = omega arith
one_bit (suc (suc b)) p q h = absurd (omega arith)

bit-sum : (m k : ℕ) → m % 2 ^ suc k ≡ m % 2 ^ k + cond (bit m k) (2 ^ k) 0
bit-sum m k =
    let e : suc k ≡ 1 + k = omega arith in
    ap (λ j. m % 2 ^ j) e ∙ mod-pow-add m 1 k ∙ one_bit (m / 2 ^ k % 2) (2 ^ k) (m % 2 ^ k) (bit_at-lt m k)

-- ---- places of a test

-- no place passes
pub none_of : (n : ℕ) (t : ℕ → Bool) → ((k : ℕ) → k < n → t k ≡ false) → places n t ≡ []
none_of zero t h = places-zero t
none_of (suc n) t h = places-false n t (h n (omega arith)) ∙ none_of n t (λ k l. h k (omega arith))

pub none_at : (n k : ℕ) (t : ℕ → Bool) → places n t ≡ [] → k < n → t k ≡ false
none_at n k t e h = sym (has-places n k t h) ∙ ap (λ w. has w k) e

pub some_none : (n : ℕ) (t : ℕ → Bool) → some_below n t ≡ true → places n t ≡ [] → ⊥
some_none zero t h e = true≢false (sym h)
some_none (suc n) t h e = by (cases_bool (t n)) (λ g. some_none n t g)
  where
    by : (t n ≡ true) ⊎ (t n ≡ false) → (some_below n t ≡ true → places n t ≡ [] → ⊥) → ⊥
    by (inl q) r = let f : (n ∷ places n t) ≡ [] = sym (places-true n t q) ∙ e in absurd (cc)
    by (inr q) r = r (no_last (some_below n t) (t n) q h) (sym (places-false n t q) ∙ e)
      where
        no_last : (a b : Bool) → b ≡ false → a || b ≡ true → a ≡ true
        no_last true b f g = refl
        no_last false b f g = absurd (true≢false (sym g ∙ f))

pub some_so : (n : ℕ) (t : ℕ → Bool) → (places n t ≡ [] → ⊥) → some_below n t ≡ true
some_so zero t h = absurd (h (places-zero t))
some_so (suc n) t h = by (cases_bool (t n)) (some_so n t)
  where
    last : (a b : Bool) → b ≡ true → a || b ≡ true
    last true b e = refl
    last false b e = e

    first : (a b : Bool) → a ≡ true → a || b ≡ true
    first true b e = refl
    first false b e = absurd (true≢false (sym e))

    by : (t n ≡ true) ⊎ (t n ≡ false) → ((places n t ≡ [] → ⊥) → some_below n t ≡ true) → some_below n t || t n ≡ true
    by (inl q) r = last (some_below n t) (t n) q
    by (inr q) r = first (some_below n t) (t n) (r (λ e. h (places-false n t q ∙ e)))

module _ {K : Type 0} (A : Simplicial K) where
  abbrev pub degeneracies : K → ℕ → Bool
  degeneracies x k = has_degeneracy A k x

  -- the word of the degeneracies that a simplex of degree n has
  abbrev pub word : ℕ → K → List ℕ
  word n x = places n (degeneracies x)

  mask-below : (n k : ℕ) (x : K) → k ≤ n → mask A k x ≡ mask_of (word n x) % 2 ^ k
  mask-below n zero x h = let e : 0 ≡ mask_of (word n x) % 1 = omega arith in e
  mask-below n (suc k) x h =
      let w = word n x in
      let e : degeneracies x k ≡ bit (mask_of w) k = sym (has-places n k (degeneracies x) h) ∙ sym (bit-mask_of n w (places_word n (degeneracies x)) k) in
      (λ i. mask-below n k x (omega arith) i + cond (e i) (2 ^ k) 0) ∙ sym (bit-sum (mask_of w) k)

  pub mask-word : (n : ℕ) (x : K) → mask A n x ≡ mask_of (word n x)
  mask-word n x = mask-below n n x (omega arith) ∙ mod-eq_of_lt (mask_of-lt n (word n x) (places_word n (degeneracies x)))

  pub dim-word : (n : ℕ) (x : K) → dim_of A n x + length (word n x) ≡ n
  unfolding places
  dim-word zero x = refl
  dim-word (suc n) x = by (degeneracies x n) (dim-word n x)
    where
      by : (b : Bool) → dim_of A n x + length (word n x) ≡ n → dim_of A n x + cond b 0 1 + length (cond b (n ∷ word n x) (word n x)) ≡ suc n
      by true r = omega (arith, r)
      by false r = omega (arith, r)

  -- a simplex of degree m that has no degeneracy
  pub record Bare (m : ℕ) (c : K) : Type 0 where
    pub is_in : A.In m c
    pub none : word m c ≡ []

  module _ (laws : IsSimplicial A) where
    is_so : (k : ℕ) (x : K) → has_degeneracy A k x ≡ true → x ≡ A.degeneracy k (A.face k x)
    is_so k x h = laws.same_is x (A.degeneracy k (A.face k x)) h

    so_is : (k : ℕ) (x : K) → x ≡ A.degeneracy k (A.face k x) → has_degeneracy A k x ≡ true
    so_is k x e = ap (A.same x) (sym e) ∙ laws.same_equivalence.refl x

    once : (n j : ℕ) (x y : K) → A.In n x → A.In n y → j ≤ n → A.degeneracy j x ≡ A.degeneracy j y → x ≡ y
    once n j x y ix iy l e = sym (laws.face_here n j x ix l) ∙ ap (A.face j) e ∙ laws.face_here n j y iy l

    -- a degeneracy of y that moves through s_j
    moved : (n j k i : ℕ) (y : K) → A.In n y → A.In n (A.degeneracy i (A.face i y)) → j ≤ n
        → A.degeneracy k (A.face k (A.degeneracy j y)) ≡ A.degeneracy j (A.degeneracy i (A.face i y))
        → has_degeneracy A k (A.degeneracy j y) ≡ has_degeneracy A i y
    moved n j k i y is js l e =
        same_bool (has_degeneracy A k (A.degeneracy j y)) (has_degeneracy A i y)
        (λ h. so_is i y (once n j y (A.degeneracy i (A.face i y)) is js l (is_so k (A.degeneracy j y) h ∙ e)))
        (λ h. so_is k (A.degeneracy j y) (ap (A.degeneracy j) (is_so i y h) ∙ sym e))

    here : (n j : ℕ) (y : K) → A.In n y → j ≤ n → has_degeneracy A j (A.degeneracy j y) ≡ true
    here n j y is l = so_is j (A.degeneracy j y) (sym (ap (A.degeneracy j) (laws.face_here n j y is l)))

    below : (n k i : ℕ) (y : K) → A.In (suc n) y → k ≤ i → i ≤ n → has_degeneracy A k (A.degeneracy (suc i) y) ≡ has_degeneracy A k y
    below n k i y is l m =
        let f : A.In n (A.face k y) = laws.face_in n k y is (omega arith) in
        moved (suc n) (suc i) k k y is (laws.degeneracy_in n k (A.face k y) f (omega arith)) (omega arith)
        (ap (A.degeneracy k) (laws.face_below (suc n) k i y is l (omega arith)) ∙ laws.degeneracy_degeneracy n k i (A.face k y) f l m)

    next : (n j : ℕ) (y : K) → A.In (suc n) y → j ≤ n → has_degeneracy A (suc j) (A.degeneracy j y) ≡ has_degeneracy A j y
    next n j y is l =
        let e : A.degeneracy (suc j) (A.face (suc j) (A.degeneracy j y)) ≡ A.degeneracy (suc j) y = ap (A.degeneracy (suc j)) (laws.face_next (suc n) j y is (omega arith)) in
        let f : A.In n (A.face j y) = laws.face_in n j y is (omega arith) in
        same_bool (has_degeneracy A (suc j) (A.degeneracy j y)) (has_degeneracy A j y)
        (λ h. so_is j y
        (sym (laws.face_here (suc n) j y is (omega arith)) ∙ ap (A.face j) (is_so (suc j) (A.degeneracy j y) h ∙ e)
        ∙ laws.face_below (suc n) j j y is (omega arith) (omega arith)))
        (λ h. so_is (suc j) (A.degeneracy j y)
        (ap (A.degeneracy j) (is_so j y h) ∙ laws.degeneracy_degeneracy n j j (A.face j y) f (omega arith) l ∙ ap (A.degeneracy (suc j)) (sym (is_so j y h)) ∙ sym e))

    above : (n i j : ℕ) (y : K) → A.In (suc n) y → j < i → i ≤ n → has_degeneracy A (suc i) (A.degeneracy j y) ≡ has_degeneracy A i y
    above n i j y is l m =
        let f : A.In n (A.face i y) = laws.face_in n i y is (omega arith) in
        moved (suc n) j (suc i) i y is (laws.degeneracy_in n i (A.face i y) f m) (omega arith)
        (ap (A.degeneracy (suc i)) (laws.face_above (suc n) i j y is l (omega arith)) ∙ sym (laws.degeneracy_degeneracy n j i (A.face i y) f (omega arith) m))

    -- the degeneracies of s_j y
    pub put_in : (n j k : ℕ) (y : K) → A.In n y → j ≤ n → k ≤ n → degeneracies (A.degeneracy j y) k ≡ inserted j (degeneracies y) k
    put_in n j k y is l m = by (cases_lt k j) (cases_eq k j) (cases_eq k (suc j))
      where
        at : (n i : ℕ) → A.In n y → i ≤ n → i < n → A.In (suc (n - 1)) y
        at n i is l h = let e : n ≡ suc (n - 1) = omega arith in subst (λ m. A.In m y) e is

        by : (k < j) ⊎ (j ≤ k) → (k ≡ j) ⊎ (k ≡ j → ⊥) → (k ≡ suc j) ⊎ (k ≡ suc j → ⊥) → degeneracies (A.degeneracy j y) k ≡ inserted j (degeneracies y) k
        by (inl h) c d =
            let e : j ≡ suc (j - 1) = omega arith in
            ap (λ i. degeneracies (A.degeneracy i y) k) e ∙ below (n - 1) k (j - 1) y (at n k is (omega arith) (omega arith)) (omega arith) (omega arith)
            ∙ sym (inserted-below j k (degeneracies y) h)
        by (inr h) (inl e) d =
            ap (degeneracies (A.degeneracy j y)) e ∙ here n j y is l ∙ sym (inserted-here j (degeneracies y)) ∙ ap (inserted j (degeneracies y)) (sym e)
        by (inr h) (inr c) (inl e) =
            ap (degeneracies (A.degeneracy j y)) e ∙ next (n - 1) j y (at n j is l (omega arith)) (omega arith)
            ∙ sym (inserted-above j j (degeneracies y) (omega arith)) ∙ ap (inserted j (degeneracies y)) (sym e)
        by (inr h) (inr c) (inr d) =
            let e : k ≡ suc (k - 1) = omega arith in
            ap (degeneracies (A.degeneracy j y)) e
            ∙ above (n - 1) (k - 1) j y (at n (k - 1) is (omega arith) (omega arith)) (omega arith) (omega arith)
            ∙ sym (inserted-above j (k - 1) (degeneracies y) (omega arith)) ∙ ap (inserted j (degeneracies y)) (sym e)

    word-degeneracy : (n j : ℕ) (y : K) → A.In n y → j ≤ n → word (suc n) (A.degeneracy j y) ≡ degeneracy_word j (word n y)
    word-degeneracy n j y is l =
        places_same (suc n) (degeneracies (A.degeneracy j y)) (inserted j (degeneracies y)) (λ k m. put_in n j k y is l (omega arith))
        ∙ sym (degeneracy-places n j (degeneracies y) l)

    -- a word before a simplex that has no degeneracy is the word of what it makes
    pub word-degenerated : (m : ℕ) (w : List ℕ) (c : K) → A.In m c → word m c ≡ [] → IsWord (m + length w) w → word (m + length w) (degenerated A w c) ≡ w
    word-degenerated m [] c is bare ws = let e : m + 0 ≡ m = omega arith in ap (λ n. word n c) e ∙ bare
    word-degenerated m (j ∷ w) c is bare ws =
        let b : j ≤ m + length w = omega (arith, ws.0) in
        let inner : IsWord (m + length w) w = word_below j (m + length w) w b ws.1 in
        let e : m + suc (length w) ≡ suc (m + length w) = omega arith in
        ap (λ n. word n (degenerated A (j ∷ w) c)) e
        ∙ word-degeneracy (m + length w) j (degenerated A w c) (degenerated_in A laws m w c is inner) b
        ∙ ap (degeneracy_word j) (word-degenerated m w c is bare inner) ∙ degeneracy-before j w ws.1

    pub cell-degenerated : (j m : ℕ) (w : List ℕ) (c : K) → A.In m c → word m c ≡ [] → j ≤ m + length w → IsWord j w → cell_of A j (degenerated A w c) ≡ c
    cell-degenerated zero m [] c is bare l ws = refl
    cell-degenerated zero m (i ∷ w) c is bare l ws = absurd (let h : i < 0 = ws.0 in omega arith)
    cell-degenerated (suc j) m [] c is bare l ws =
        ap (λ b. cell_of A j (cond b (A.face j c) c)) (none_at m j (degeneracies c) bare (omega arith))
        ∙ cell-degenerated j m [] c is bare (omega arith) tt
    cell-degenerated (suc j) m (i ∷ w) c is bare l ws = by (cases_eq i j) (cell-degenerated j m w c is bare) (cell-degenerated j m (i ∷ w) c is bare)
      where
        x : K
        x = degenerated A (i ∷ w) c

        high : i < suc j
        high = ws.0

        wide : IsWord (m + length (i ∷ w)) (i ∷ w)
        wide = word_below (suc j) (m + length (i ∷ w)) (i ∷ w) l ws

        inner : IsWord (m + length w) w
        inner = word_below i (m + length w) w (omega (arith, l, high)) ws.1

        by : (i ≡ j) ⊎ (i ≡ j → ⊥) → (j ≤ m + length w → IsWord j w → cell_of A j (degenerated A w c) ≡ c)
            → (j ≤ m + length (i ∷ w) → IsWord j (i ∷ w) → cell_of A j x ≡ c) → cell_of A j (cond (has_degeneracy A j x) (A.face j x) x) ≡ c
        by (inl e) r s =
            let y = degenerated A w c in
            let iy : A.In (m + length w) y = degenerated_in A laws m w c is inner in
            let b : i ≤ m + length w = omega (arith, l, e) in
            ap (λ b. cell_of A j (cond b (A.face j x) x)) (ap (λ k. has_degeneracy A k x) (sym e) ∙ here (m + length w) i y iy b)
            ∙ ap (cell_of A j) (ap (λ k. A.face k x) (sym e) ∙ laws.face_here (m + length w) i y iy b)
            ∙ r (omega (arith, l)) (subst (λ k. IsWord k w) e ws.1)
        by (inr d) r s =
            let lower : IsWord j (i ∷ w) = (omega (arith, high), ws.1) in
            let n = m + length (i ∷ w) in
            let q : has_degeneracy A j x ≡ false =
            sym (has-places n j (degeneracies x) (omega (arith, l))) ∙ ap (λ v. has v j) (word-degenerated m (i ∷ w) c is bare wide) ∙ has_far j j (i ∷ w) lower (omega arith) in
            ap (λ b. cell_of A j (cond b (A.face j x) x)) q ∙ s (omega (arith, l)) lower

    -- ---- each simplex is the word of its degeneracies before its cell

    -- s_j y and y have the same degeneracies below j
    same_below : (n j : ℕ) (x : K) → A.In (suc n) x → j ≤ n → has_degeneracy A j x ≡ true → places j (degeneracies x) ≡ places j (degeneracies (A.face j x))
    same_below n j x is l h =
        places_same j (degeneracies x) (degeneracies (A.face j x))
        (λ k g. ap (has_degeneracy A k) (is_so j x h) ∙ put_in n j k (A.face j x) (laws.face_in n j x is (omega arith)) l (omega arith)
        ∙ inserted-below j k (degeneracies (A.face j x)) g)

    lowered : (n j : ℕ) (x : K) → A.In n x → suc j ≤ n → A.In (suc (n - 1)) x
    lowered n j x is l = let e : n ≡ suc (n - 1) = omega arith in subst (λ m. A.In m x) e is

    pub rebuilt : (j n : ℕ) (x : K) → A.In n x → j ≤ n → degenerated A (places j (degeneracies x)) (cell_of A j x) ≡ x
    rebuilt zero n x is l = ap (λ w. degenerated A w x) (places-zero (degeneracies x))
    rebuilt (suc j) n x is l =
        by (cases_bool (has_degeneracy A j x)) (rebuilt j (n - 1) (A.face j x) (laws.face_in (n - 1) j x (lowered n j x is l) (omega arith)) (omega arith)) (rebuilt j n x is (omega arith))
      where
        by : (has_degeneracy A j x ≡ true) ⊎ (has_degeneracy A j x ≡ false)
            → degenerated A (places j (degeneracies (A.face j x))) (cell_of A j (A.face j x)) ≡ A.face j x
            → degenerated A (places j (degeneracies x)) (cell_of A j x) ≡ x
            → degenerated A (places (suc j) (degeneracies x)) (cell_of A j (cond (has_degeneracy A j x) (A.face j x) x)) ≡ x
        by (inl h) r s =
            (λ i. degenerated A (places-true j (degeneracies x) h i) (cell_of A j (cond (h i) (A.face j x) x)))
            ∙ ap (λ w. A.degeneracy j (degenerated A w (cell_of A j (A.face j x)))) (same_below (n - 1) j x (lowered n j x is l) (omega arith) h)
            ∙ ap (A.degeneracy j) r ∙ sym (is_so j x h)
        by (inr h) r s = (λ i. degenerated A (places-false j (degeneracies x) h i) (cell_of A j (cond (h i) (A.face j x) x))) ∙ s

    -- what is left has no degeneracy
    pub left_over : (j m n : ℕ) (x : K) → A.In n x → m + length (places j (degeneracies x)) ≡ n → j ≤ n
        → ((k : ℕ) → j ≤ k → k < n → has_degeneracy A k x ≡ false) → Bare m (cell_of A j x)
    left_over zero m n x is e l h =
        let f : m ≡ n = omega (arith, e, ap length (places-zero (degeneracies x))) in
        record { is_in = subst (λ k. A.In k x) (sym f) is; none = none_of m (degeneracies x) (λ k g. h k (omega arith) (omega arith)) }
    left_over (suc j) m n x is e l h =
        by (cases_bool (has_degeneracy A j x)) (left_over j m (n - 1) (A.face j x) y) (left_over j m n x is)
      where
        y : A.In (n - 1) (A.face j x)
        y = laws.face_in (n - 1) j x (lowered n j x is l) (omega arith)

        by : (has_degeneracy A j x ≡ true) ⊎ (has_degeneracy A j x ≡ false)
            → (m + length (places j (degeneracies (A.face j x))) ≡ n - 1 → j ≤ n - 1
            → ((k : ℕ) → j ≤ k → k < n - 1 → has_degeneracy A k (A.face j x) ≡ false) → Bare m (cell_of A j (A.face j x)))
            → (m + length (places j (degeneracies x)) ≡ n → j ≤ n → ((k : ℕ) → j ≤ k → k < n → has_degeneracy A k x ≡ false) → Bare m (cell_of A j x))
            → Bare m (cell_of A j (cond (has_degeneracy A j x) (A.face j x) x))
        by (inl q) r s =
            let w : length (places (suc j) (degeneracies x)) ≡ suc (length (places j (degeneracies (A.face j x)))) =
            ap length (places-true j (degeneracies x) q) ∙ ap (λ v. suc (length v)) (same_below (n - 1) j x (lowered n j x is l) (omega arith) q) in
            subst (λ b. Bare m (cell_of A j (cond b (A.face j x) x))) (sym q)
            (r (omega (arith, e, w)) (omega arith)
            (λ k g u. sym (inserted-above j k (degeneracies (A.face j x)) g) ∙ sym (put_in (n - 1) j (suc k) (A.face j x) y (omega arith) (omega arith))
            ∙ ap (has_degeneracy A (suc k)) (sym (is_so j x q)) ∙ h (suc k) (omega arith) (omega arith)))
        by (inr q) r s =
            subst (λ b. Bare m (cell_of A j (cond b (A.face j x) x))) (sym q)
            (s (omega (arith, e, ap length (places-false j (degeneracies x) q))) (omega arith) (λ k g u. at k (cases_eq k j) g u))
          where
            at : (k : ℕ) → (k ≡ j) ⊎ (k ≡ j → ⊥) → j ≤ k → k < n → has_degeneracy A k x ≡ false
            at k (inl f) g u = ap (λ i. has_degeneracy A i x) f ∙ q
            at k (inr f) g u = h k (omega arith) u

    pub bare_cell : (n : ℕ) (x : K) → A.In n x → Bare (dim_of A n x) (cell_of A n x)
    bare_cell n x is = left_over n (dim_of A n x) n x is (dim-word n x) (omega arith) (λ k g u. absurd (omega arith))
