-- Numbers modulo p that are read from integers: sums, negatives and multiples.
use Rattle.std.proofs.Common.{◌≡◌, ℕ, zero, suc, ◌+◌, ◌*◌, ◌-◌, ◌%◌, ◌<◌, refl, sym, ◌∙◌, ap, arith}
use Rattle.std.proofs.Math.IntN.{ℤ, pos, negsuc, ◌+ℤ◌, neg_ℤ}
use Rattle.std.proofs.lemmas.Int.{ints}
use borrow.Author.Differences.{up, down}
use Rattle.fp_field.specs.Field.{SameMod, sign}
use Rattle.fp_field.proofs.Mod.{same-plus, same-by, pred-times}
use Rattle.values.specs.Integers.{modulo}
use Rattle.homology_laws.proofs.IntegersSums.{copies, times}

module _ (p : ℕ) where
  -- n and z are one number of F_p
  pub record Reads (n : ℕ) (z : ℤ) : Type 0 where
    pub same : SameMod p (n + down z) (up z)

  pub reads-by : (n m : ℕ) (z : ℤ) → SameMod p n m → Reads m z → Reads n z
  reads-by n m z e r = record { same = same-plus p n m (down z) (down z) e refl ∙ r.same }

  pub reads-natural : (n : ℕ) → Reads n (pos n)
  reads-natural n = record { same = ap (λ k. k % p) (let q : n + 0 ≡ n = omega arith in q) }

  module _ (positive : 0 < p) where
    cancel : (a x y : ℕ) → SameMod p (a + x) (a + y) → SameMod p x y
    cancel a x y e =
        same-by p x ((p - 1) * a + (a + x)) a 0 (omega (arith, pred-times p a positive))
        ∙ same-plus p ((p - 1) * a) ((p - 1) * a) (a + x) (a + y) refl e
        ∙ same-by p ((p - 1) * a + (a + y)) y 0 a (omega (arith, pred-times p a positive))

    pub reads-same : (n m : ℕ) (z : ℤ) → Reads n z → Reads m z → SameMod p n m
    reads-same n m z r s =
        cancel (down z) n m (ap (λ k. k % p) (let q : down z + n ≡ n + down z = omega arith in q) ∙ r.same ∙ sym s.same ∙ ap (λ k. k % p) (let q : m + down z ≡ down z + m = omega arith in q))

    pub reads-plus : (n m : ℕ) (x y : ℤ) → Reads n x → Reads m y → Reads (n + m) (x +ℤ y)
    reads-plus n m x y r s =
        let d : up (x +ℤ y) + (down x + down y) ≡ down (x +ℤ y) + (up x + up y) = omega (arith, ints) in
        record {
          same = cancel (up x + up y) (n + m + down (x +ℤ y)) (up (x +ℤ y))
              (ap (λ k. k % p) (let q : up x + up y + (n + m + down (x +ℤ y)) ≡ (n + down x) + (m + down y) + up (x +ℤ y) = omega (arith, d) in q)
              ∙ same-plus p ((n + down x) + (m + down y)) (up x + up y) (up (x +ℤ y)) (up (x +ℤ y)) (same-plus p (n + down x) (up x) (m + down y) (up y) r.same s.same) refl);
        }

    pub reads-neg : (n : ℕ) (z : ℤ) → Reads n z → Reads ((p - 1) * n) (neg_ℤ z)
    reads-neg n z r =
        let d : up (neg_ℤ z) + up z ≡ down (neg_ℤ z) + down z = omega (arith, ints) in
        record {
          same = cancel (n + down z) ((p - 1) * n + down (neg_ℤ z)) (up (neg_ℤ z))
              (same-by p (n + down z + ((p - 1) * n + down (neg_ℤ z))) (up z + up (neg_ℤ z)) 0 n (omega (arith, d, pred-times p n positive))
              ∙ sym (same-plus p (n + down z) (up z) (up (neg_ℤ z)) (up (neg_ℤ z)) r.same refl));
        }

    pub reads-copies : (k n : ℕ) (z : ℤ) → Reads n z → Reads (k * n) (copies k z)
    reads-copies zero n z r = record { same = ap (λ m. m % p) (let q : 0 * n + 0 ≡ 0 = omega arith in q) }
    reads-copies (suc k) n z r = reads-by (suc k * n) (n + k * n) (copies (suc k) z) (ap (λ m. m % p) (omega arith)) (reads-plus n (k * n) z (copies k z) r (reads-copies k n z r))

    pub reads-times : (a : ℤ) (n : ℕ) (z : ℤ) → Reads n z → Reads (modulo p a * n) (times a z)
    reads-times (pos k) n z r = reads-copies k n z r
    reads-times (negsuc k) n z r =
        reads-by (((p - 1) * suc k) * n) ((p - 1) * (suc k * n)) (times (negsuc k) z) (ap (λ m. m % p) (omega arith)) (reads-neg (suc k * n) (copies (suc k) z) (reads-copies (suc k) n z r))

    -- (-1) to the power k
    abbrev pub signed : ℕ → ℤ → ℤ
    signed zero z = z
    signed (suc k) z = neg_ℤ (signed k z)

    pub reads-sign : (k n : ℕ) (z : ℤ) → Reads n z → Reads (sign p k * n) (signed k z)
    reads-sign zero n z r = reads-by (1 * n) n z (ap (λ m. m % p) (omega arith)) r
    reads-sign (suc k) n z r =
        reads-by (((p - 1) * sign p k) * n) ((p - 1) * (sign p k * n)) (signed (suc k) z) (ap (λ m. m % p) (omega arith)) (reads-neg (sign p k * n) (signed k z) (reads-sign k n z r))
