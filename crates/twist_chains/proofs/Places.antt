-- The places of the mask of a simplex of the code are its degeneracies, and its degree.
use Rattle.std.proofs.Common.{◌≡◌, ℕ, zero, suc, ◌+◌, ◌-◌, ◌*◌, ◌%◌, ◌^◌, ◌<◌, ◌≤◌, ◌==◌, nat_lt, Bool, true, false, cond, ◌⊎◌, inl, inr, sym, ◌∙◌, ap, subst, arith}
use Rattle.std.specs.Prelude.{count_ones, length}
use Rattle.std.proofs.Math.Nat.{mod-eq_of_lt}
use Rattle.std.proofs.lemmas.Bool.{cases_lt}
use Rattle.std.proofs.lemmas.Nat.{pow-add}
use Rattle.std.proofs.lemmas.Nat.Bits.{bit_at_cat_low, bit_at_cat_high, bit_at_above}
use Rattle.simp_ops.specs.Bits.{bit, mask_word}
use Rattle.simp_ops.proofs.Squeezed.{and_left}
use Rattle.spaces.specs.Simplicial.{Simplicial, has_degeneracy}
use Rattle.spaces.specs.Spaces.{Space, Plain, set_of}
use Rattle.spaces.specs.Orders.{mask}
use Rattle.cells.specs.declared.cells.Simplex.{Simplex}
use Rattle.cells.specs.Dim.{dim_of, degree_of, capped}
use Rattle.term_lang.specs.Forms.{form}
use Rattle.term_lang.specs.Belongs.{is_cell, IsSimplex}
use Rattle.term_lang.specs.NormalForms.{HasNormalForms}
use Rattle.term_lang.proofs.CodeForms.{lt_is}

pow-next : (n : ℕ) → 2 ^ suc n ≡ 2 ^ n * 2
pow-next n = let e : suc n ≡ n + 1 = omega arith in ap (λ k. 2 ^ k) e ∙ pow-add 2 n 1

pow_mono : (n k : ℕ) → n ≤ k → 2 ^ n ≤ 2 ^ k
pow_mono n zero l = let e : n ≡ 0 = omega (arith, l) in subst (λ m. 2 ^ m ≤ 2 ^ 0) (sym e) (omega arith)
pow_mono n (suc k) l = by (cases_lt k n) (λ m. pow_mono n k m)
  where
    by : (k < n) ⊎ (n ≤ k) → (n ≤ k → 2 ^ n ≤ 2 ^ k) → 2 ^ n ≤ 2 ^ suc k
    by (inl m) f = let e : n ≡ suc k = omega (arith, l, m) in subst (λ j. 2 ^ n ≤ 2 ^ j) e (omega arith)
    by (inr m) f = omega (arith, f m, pow-next k)

-- a test kept as the bits of a number
module _ {K : Type 0} (A : Simplicial K) (y : K) where
  mask-lt : (n : ℕ) → mask A n y < 2 ^ n
  mask-lt zero = omega arith
  mask-lt (suc n) = by (has_degeneracy A n y) (mask-lt n)
    where
      by : (b : Bool) → mask A n y < 2 ^ n → mask A n y + cond b (2 ^ n) 0 < 2 ^ suc n
      by true h = omega (arith, h, pow-next n)
      by false h = omega (arith, h, pow-next n)

  top-bit : (n : ℕ) (b : Bool) → bit (mask A n y + cond b (2 ^ n) 0) n ≡ b
  top-bit n true =
      let e : mask A n y + 2 ^ n ≡ 1 * 2 ^ n + mask A n y = omega arith in
      let z : n - n ≡ 0 = omega arith in
      ap (λ m. bit m n) e ∙ ap (λ k. k == 1) (bit_at_cat_high 1 n (mask A n y) n (mask-lt n) (omega arith)) ∙ ap (bit 1) z
  top-bit n false =
      let e : mask A n y + 0 ≡ mask A n y = omega arith in
      ap (λ m. bit m n) e ∙ ap (λ k. k == 1) (bit_at_above (mask A n y) n n (mask-lt n) (omega arith))

  low-bit : (n j : ℕ) (b : Bool) → j < n → bit (mask A n y + cond b (2 ^ n) 0) j ≡ bit (mask A n y) j
  low-bit n j true l =
      let e : mask A n y + 2 ^ n ≡ 1 * 2 ^ n + mask A n y = omega arith in
      ap (λ m. bit m j) e ∙ ap (λ k. k == 1) (bit_at_cat_low 1 n (mask A n y) j l)
  low-bit n j false l = let e : mask A n y + 0 ≡ mask A n y = omega arith in ap (λ m. bit m j) e

  mask-bit : (n j : ℕ) → j < n → bit (mask A n y) j ≡ has_degeneracy A j y
  mask-bit zero j l = absurd (omega (arith, l))
  mask-bit (suc n) j l = by (cases_lt j n) (λ m. mask-bit n j m)
    where
      by : (j < n) ⊎ (n ≤ j) → (j < n → bit (mask A n y) j ≡ has_degeneracy A j y) → bit (mask A (suc n) y) j ≡ has_degeneracy A j y
      by (inl m) f = low-bit n j (has_degeneracy A n y) m ∙ f m
      by (inr m) f =
          let e : j ≡ n = omega (arith, l, m) in
          ap (bit (mask A (suc n) y)) e ∙ top-bit n (has_degeneracy A n y) ∙ ap (λ k. has_degeneracy A k y) (sym e)

module _ (X : Space) (n : ℕ) (most : n ≤ 32) (forms : HasNormalForms X n) (s : Simplex) (h : IsSimplex X n s) where
  pub low_mask : s.degens.mask < 2 ^ n
  low_mask = lt_is s.degens.mask (2 ^ n) (and_left (nat_lt s.degens.mask (2 ^ n)) (is_cell s.cell X (n - length (mask_word s.degens.mask))) h)

  pub low_places : (j : ℕ) → j < n → has_degeneracy (set_of X) j (form s X) ≡ bit s.degens.mask j
  low_places j l =
      let y : Plain X = form s X in
      let m : ℕ = mask (set_of X) n y in
      let low : m < 2 ^ 32 = below_pow m n 32 (mask-lt (set_of X) y n) most in
      let e : m % 2 ^ 32 ≡ s.degens.mask = ap (λ (t : Simplex). t.degens.mask) (forms.quoted s h) in
      sym (mask-bit (set_of X) y n j l) ∙ ap (λ k. bit k j) (sym (mod-eq_of_lt low) ∙ e)
    where
      below_pow : (m n k : ℕ) → m < 2 ^ n → n ≤ k → m < 2 ^ k
      below_pow m n k h l = let q = pow_mono n k l in omega (arith, h, q)

  pub low_degree : count_ones s.degens.mask + dim_of s.cell ≡ n
  low_degree = let e : capped (count_ones s.degens.mask + dim_of s.cell) ≡ n = forms.degree s h in omega (arith, e, most)

-- a simplex of some degree is one of its own
pub own_degree : (X : Space) (n : ℕ) (s : Simplex) → HasNormalForms X n → IsSimplex X n s → degree_of s ≡ n
own_degree X n s forms h = forms.degree s h
