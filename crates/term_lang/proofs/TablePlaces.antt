-- The mask, the cell and the dimension of a simplex of a table, read off its word.
use Rattle.std.proofs.Common.{◌≡◌, ℕ, zero, suc, ◌+◌, ◌-◌, ◌*◌, ◌/◌, ◌%◌, ◌^◌, ◌<◌, ◌≤◌, true, false, cond, ◌==◌, ◌||◌, ◌&&◌, List, [], ◌∷◌, length, refl, sym, ◌∙◌, ap, subst, arith, ◌⊎◌, inl, inr, true≢false}
use Rattle.std.proofs.lemmas.Bool.{cases_eq, cases_lt}
use Rattle.std.specs.Cmp.Lexicographic.{pointwise}
use Rattle.std.specs.Prelude.{nat_eq}
use Rattle.std.proofs.lemmas.Cmp.{nat_eq_equiv, nat_list_eq_equiv}
use Rattle.std.proofs.lemmas.Nat.{mod-pow-add}
use Rattle.std.proofs.lemmas.Nat.Bits.{bit_at-lt}
use Rattle.std.proofs.Math.Nat.{mod-eq_of_lt}
use Rattle.std.proofs.lemmas.Bool.Decides.{Decides-eqb, Decides-and}
use Rattle.std.proofs.lemmas.Slice.Eq.{bytes_eq-Decides}
use Rattle.simp_ops.specs.Words.{IsWord, degeneracy_word, has}
use Rattle.simp_ops.specs.Bits.{bit, count_below}
use Rattle.simp_ops.proofs.PlacesOf.{word_below, degeneracy-before, cases_bool, is_eq, not_eq, face-at}
use Rattle.simp_ops.proofs.Masks.{places_has, has_far}
use Rattle.simp_ops.proofs.MaskWords.{mask_of, mask_of-lt, bit-mask_of, length-places}
use Rattle.simp_ops.proofs.WordLaws.{passes, stays, face-degeneracy}
use Rattle.spaces.specs.Simplicial.{has_degeneracy}
use Rattle.spaces.specs.Tables.{Table, RowSimplex, row_face, row_degeneracy, on_row, table_set}
use Rattle.spaces.specs.Orders.{mask, cell_of, dim_of}
use Rattle.term_lang.specs.Degenerated.{degenerated}

-- one bit more of a number
one_bit : (b p q : ℕ) → b < 2 → b * p + q ≡ q + cond (b == 1) p 0
one_bit zero p q h = omega arith
one_bit (suc zero) p q h = omega arith
one_bit (suc (suc b)) p q h = absurd (omega arith)

bit-sum : (m k : ℕ) → m % 2 ^ suc k ≡ m % 2 ^ k + cond (bit m k) (2 ^ k) 0
bit-sum m k =
    let e : suc k ≡ 1 + k = omega arith in
    ap (λ j. m % 2 ^ j) e ∙ mod-pow-add m 1 k ∙ one_bit (m / 2 ^ k % 2) (2 ^ k) (m % 2 ^ k) (bit_at-lt m k)

-- s_j before a word has the place j, and each word with the place j is s_j before a word
has-degeneracy_word : (j : ℕ) (w : List ℕ) → has (degeneracy_word j w) j ≡ true
has-degeneracy_word j [] = ap (λ b. b || false) (is_eq j j refl)
has-degeneracy_word j (k ∷ w) = by (cases_lt k j) (has-degeneracy_word j w)
  where
    by : (k < j) ⊎ (j ≤ k) → has (degeneracy_word j w) j ≡ true → has (degeneracy_word j (k ∷ w)) j ≡ true
    by (inl h) r = ap (λ v. has v j) (stays j k w h) ∙ ap (λ b. b || has (k ∷ w) j) (is_eq j j refl)
    by (inr h) r = ap (λ v. has v j) (passes j k w h) ∙ ap (λ b. b || has (degeneracy_word j w) j) (not_eq j (suc k) (λ e. omega arith)) ∙ r

taken : (n j : ℕ) (w : List ℕ) → IsWord n w → has w j ≡ true → (v : List ℕ) × (degeneracy_word j v ≡ w)
taken n j [] is q = absurd (true≢false (sym q))
taken n j (k ∷ w) is q = by (cases_eq j k) (taken k j w is.1)
  where
    by : (j ≡ k) ⊎ (j ≡ k → ⊥) → (has w j ≡ true → (v : List ℕ) × (degeneracy_word j v ≡ w)) → (v : List ℕ) × (degeneracy_word j v ≡ (k ∷ w))
    by (inl e) r = (w, degeneracy-before j w (subst (λ m. IsWord m w) (sym e) is.1) ∙ ap (λ m. m ∷ w) e)
    by (inr d) r =
        let p : has w j ≡ true = sym (ap (λ b. b || has w j) (not_eq j k d)) ∙ q in
        let s = r p in
        let below : j < k = lower (cases_lt j k) p in
        let e : suc (k - 1) ≡ k = omega arith in
        ((k - 1) ∷ s.0, passes j (k - 1) s.0 (omega arith) ∙ (λ i. e i ∷ s.1 i))
      where
        lower : (j < k) ⊎ (k ≤ j) → has w j ≡ true → j < k
        lower (inl h) p = h
        lower (inr h) p = absurd (true≢false (sym p ∙ has_far k j w is.1 h))

module _ (t : Table) where
  same_is : (x y : RowSimplex) → (table_set t).same x y ≡ true → x ≡ y
  same_is x y h =
      let both = (Decides-and (pointwise nat_eq x.0 y.0) (x.1 == y.1) (bytes_eq-Decides x.0 y.0) (Decides-eqb x.1 y.1)).0 h in
      λ k. (both.0 k, both.1 k)

  same_so : (x : RowSimplex) → (table_set t).same x x ≡ true
  same_so x = (λ i. nat_list_eq_equiv.refl x.0 i && (x.1 == x.1)) ∙ nat_eq_equiv.refl x.1

  -- the degeneracies of a simplex are the places of its word
  pub has_degeneracy-table : (n j : ℕ) (w : List ℕ) (r : ℕ) → IsWord n w → has_degeneracy (table_set t) j (w, r) ≡ has w j
  has_degeneracy-table n j w r is = by (cases_bool (has w j)) (cases_bool (has_degeneracy (table_set t) j (w, r)))
    where
      at : (v : List ℕ) → has_degeneracy (table_set t) j (degeneracy_word j v, r) ≡ true
      at v =
          ap (λ p. (table_set t).same (degeneracy_word j v, r) (row_degeneracy j (on_row t r p))) (face-degeneracy j v)
          ∙ same_so (degeneracy_word j v, r)

      by : (has w j ≡ true) ⊎ (has w j ≡ false) → (has_degeneracy (table_set t) j (w, r) ≡ true) ⊎ (has_degeneracy (table_set t) j (w, r) ≡ false)
          → has_degeneracy (table_set t) j (w, r) ≡ has w j
      by (inl q) c = let s = taken n j w is q in subst (λ v. has_degeneracy (table_set t) j (v, r) ≡ true) s.1 (at s.0) ∙ sym q
      by (inr q) (inr h) = h ∙ sym q
      by (inr q) (inl h) =
          let y = row_face t j (w, r) in
          let e : w ≡ degeneracy_word j y.0 = ap (λ (x : RowSimplex). x.0) (same_is (w, r) (row_degeneracy j y) h) in
          absurd (true≢false (sym (has-degeneracy_word j y.0) ∙ ap (λ v. has v j) (sym e) ∙ q))

  mask-bits : (n k : ℕ) (w : List ℕ) (r : ℕ) → IsWord n w → mask (table_set t) k (w, r) ≡ mask_of w % 2 ^ k
  mask-bits n zero w r is = let e : 0 ≡ mask_of w % 1 = omega arith in e
  mask-bits n (suc k) w r is =
      (λ i. mask-bits n k w r is i + cond ((has_degeneracy-table n k w r is ∙ sym (bit-mask_of n w is k)) i) (2 ^ k) 0) ∙ sym (bit-sum (mask_of w) k)

  -- the mask has the places of the word
  pub mask-table : (n : ℕ) (w : List ℕ) (r : ℕ) → IsWord n w → mask (table_set t) n (w, r) ≡ mask_of w
  mask-table n w r is = mask-bits n n w r is ∙ mod-eq_of_lt (mask_of-lt n w is)

  dim-count : (n k : ℕ) (w : List ℕ) (r : ℕ) → IsWord n w → dim_of (table_set t) k (w, r) + count_below k (has w) ≡ k
  dim-count n zero w r is = refl
  dim-count n (suc k) w r is = by (cases_bool (has w k)) (dim-count n k w r is)
    where
      by : (has w k ≡ true) ⊎ (has w k ≡ false) → dim_of (table_set t) k (w, r) + count_below k (has w) ≡ k
          → dim_of (table_set t) k (w, r) + cond (has_degeneracy (table_set t) k (w, r)) 0 1 + (count_below k (has w) + cond (has w k) 1 0) ≡ suc k
      by (inl q) e =
          (λ i. dim_of (table_set t) k (w, r) + cond ((has_degeneracy-table n k w r is ∙ q) i) 0 1 + (count_below k (has w) + cond (q i) 1 0)) ∙ omega arith
      by (inr q) e =
          (λ i. dim_of (table_set t) k (w, r) + cond ((has_degeneracy-table n k w r is ∙ q) i) 0 1 + (count_below k (has w) + cond (q i) 1 0)) ∙ omega arith

  -- the dimension and the places of the word make the degree
  pub dim-table : (n : ℕ) (w : List ℕ) (r : ℕ) → IsWord n w → dim_of (table_set t) n (w, r) + length w ≡ n
  dim-table n w r is =
      ap (λ k. dim_of (table_set t) n (w, r) + k) (sym (ap length (places_has n w is)) ∙ length-places n (has w)) ∙ dim-count n n w r is

  -- the cell is the row
  pub cell-table : (n : ℕ) (w : List ℕ) (r : ℕ) → IsWord n w → cell_of (table_set t) n (w, r) ≡ ([], r)
  cell-table zero [] r is = refl
  cell-table zero (j ∷ w) r is = absurd (omega (arith, is.0))
  cell-table (suc n) [] r is =
      ap (λ b. cell_of (table_set t) n (cond b (row_face t n ([], r)) ([], r))) (has_degeneracy-table (suc n) n [] r is) ∙ cell-table n [] r tt
  cell-table (suc n) (j ∷ w) r is = by (cases_eq n j) (λ v js. cell-table n v r js)
    where
      by : (n ≡ j) ⊎ (n ≡ j → ⊥) → ((v : List ℕ) → IsWord n v → cell_of (table_set t) n (v, r) ≡ ([], r))
          → cell_of (table_set t) n (cond (has_degeneracy (table_set t) n (j ∷ w, r)) (row_face t n (j ∷ w, r)) (j ∷ w, r)) ≡ ([], r)
      by (inl e) more =
          let h : has_degeneracy (table_set t) n (j ∷ w, r) ≡ true = has_degeneracy-table (suc n) n (j ∷ w) r is ∙ ap (λ b. b || has w n) (is_eq n j e) in
          let f : row_face t n (j ∷ w, r) ≡ (w, r) = ap (on_row t r) (face-at n j w (omega arith) (omega arith)) in
          (λ i. cell_of (table_set t) n (cond (h i) (f i) (j ∷ w, r))) ∙ more w (word_below j n w (omega arith) is.1)
      by (inr d) more =
          let b : j < n = omega (arith, is.0) in
          let h : has_degeneracy (table_set t) n (j ∷ w, r) ≡ false = has_degeneracy-table (suc n) n (j ∷ w) r is ∙ has_far n n (j ∷ w) (b, is.1) (omega arith) in
          (λ i. cell_of (table_set t) n (cond (h i) (row_face t n (j ∷ w, r)) (j ∷ w, r))) ∙ more (j ∷ w) (b, is.1)

  -- a word before a row
  pub degenerated-row : (n : ℕ) (w : List ℕ) (r : ℕ) → IsWord n w → degenerated (table_set t) w ([], r) ≡ (w, r)
  degenerated-row n [] r is = refl
  degenerated-row n (j ∷ w) r is = ap (row_degeneracy j) (degenerated-row j w r is.1) ∙ (λ i. (degeneracy-before j w is.1 i, r))
