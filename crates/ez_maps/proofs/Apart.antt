-- A place that is put into one of two masks that are apart, above their places.
use Rattle.std.proofs.Common.{◌≡◌, ℕ, suc, ◌-◌, ◌^◌, ◌<◌, ◌≤◌, Bool, true, false, cond, ◌&&◌, ◌==◌, refl, ◌∙◌, ap, arith, bit_and, ◌⊎◌, inl, inr}
use Rattle.std.proofs.lemmas.Bool.{cases_lt}
use Rattle.simp_ops.specs.Bits.{bit, inserted}
use Rattle.simp_ops.proofs.PlacesOf.{is_lt, not_lt, not_eq}
use Rattle.simp_ops.proofs.MaskWords.{bit-zero}
use Rattle.ez_flow.proofs.Bits.{no-common}
use Rattle.ez_maps.specs.Words.{AreApart}

inserted-below : (j k : ℕ) (t : ℕ → Bool) → k < j → inserted j t k ≡ t k
inserted-below j k t l = ap (λ b. cond b (t k) (cond (k == j) true (t (k - 1)))) (is_lt k j l)

inserted-above : (j k : ℕ) (t : ℕ → Bool) → j < k → inserted j t k ≡ t (k - 1)
inserted-above j k t l =
    ap (λ b. cond b (t k) (cond (k == j) true (t (k - 1)))) (not_lt k j (omega (arith, l)))
    ∙ ap (λ b. cond b true (t (k - 1))) (not_eq k j (λ e. absurd (omega (arith, e, l))))

and_false : (b : Bool) → (b && false) ≡ false
and_false true = refl
and_false false = refl

false_and : (a b : Bool) → a ≡ false → (a && b) ≡ false
false_and a b e = ap (λ t. t && b) e

module _ (j left right : ℕ) (h : AreApart j left right) where
  -- a place put into the right mask
  pub right-put : (r : ℕ) → ((k : ℕ) → bit r k ≡ inserted j (bit right) k) → AreApart (suc j) left r
  right-put r e = record {
    left_low = λ k l. h.left_low k (omega (arith, l));
    right_low = λ k l. e k ∙ inserted-above j k (bit right) (omega (arith, l)) ∙ h.right_low (k - 1) (omega (arith, l));
    apart = λ k. by k (cases_lt k j);
  }
    where
      by : (k : ℕ) → (k < j) ⊎ (j ≤ k) → (bit left k && bit r k) ≡ false
      by k (inl l) = ap (λ t. bit left k && t) (e k ∙ inserted-below j k (bit right) l) ∙ h.apart k
      by k (inr l) = false_and (bit left k) (bit r k) (h.left_low k l)

  -- and into the left one
  pub left-put : (r : ℕ) → ((k : ℕ) → bit r k ≡ inserted j (bit left) k) → AreApart (suc j) r right
  left-put r e = record {
    left_low = λ k l. e k ∙ inserted-above j k (bit left) (omega (arith, l)) ∙ h.left_low (k - 1) (omega (arith, l));
    right_low = λ k l. h.right_low k (omega (arith, l));
    apart = λ k. by k (cases_lt k j);
  }
    where
      by : (k : ℕ) → (k < j) ⊎ (j ≤ k) → (bit r k && bit right k) ≡ false
      by k (inl l) = ap (λ t. t && bit right k) (e k ∙ inserted-below j k (bit left) l) ∙ h.apart k
      by k (inr l) = ap (λ t. bit r k && t) (h.right_low k l) ∙ and_false (bit r k)

  pub none-common : left < 2 ^ j → bit_and left right ≡ 0
  none-common l = no-common j left right l (λ k m. h.apart k)

  pub no-left-top : j ≤ 31 → bit left 31 ≡ false
  no-left-top l = h.left_low 31 l

  pub no-right-top : j ≤ 31 → bit right 31 ≡ false
  no-right-top l = h.right_low 31 l

pub none-apart : AreApart 0 0 0
none-apart = record { left_low = λ k l. bit-zero k; right_low = λ k l. bit-zero k; apart = λ k. false_and (bit 0 k) (bit 0 k) (bit-zero k) }
