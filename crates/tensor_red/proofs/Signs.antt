-- The sign of the left degree before a sum, over a chain whose degrees are one, one less or one more.
use Rattle.std.proofs.Common.{◌≡◌, ℕ, zero, suc, ◌+◌, ◌*◌, ◌-◌, ◌%◌, ◌<◌, refl, sym, ◌∙◌, ap, subst, arith}
use Rattle.fp_field.specs.Field.{SameMod, sign}
use Rattle.fp_field.specs.Chains.{Terms, weigh, Each}
use Rattle.fp_field.proofs.Mod.{same-by, same-times, pred-times}
use Rattle.fp_field.proofs.Weights.{weigh-along, weigh-mod, weigh-plus}
use Rattle.tensor_red.proofs.Doubles.{weigh-none, weigh-times}

module _ (p : ℕ) (pos : 0 < p) where
  -- a sign and the next one cancel
  pub next_sign : (k v : ℕ) → SameMod p (sign p (suc k) * v + sign p k * v) 0
  next_sign k v = same-by p (sign p (suc k) * v + sign p k * v) 0 0 (sign p k * v) (let e : (p - 1) * sign p k * v ≡ (p - 1) * (sign p k * v) = omega arith in omega (arith, e, pred-times p (sign p k * v) pos))

  -- (p - 1) (p - 1) is 1
  pub minus_twice : (a : ℕ) → SameMod p ((p - 1) * ((p - 1) * a)) a
  minus_twice a = same-by p ((p - 1) * ((p - 1) * a)) a a ((p - 1) * a) (omega (arith, pred-times p ((p - 1) * a) pos, pred-times p a pos))

  pub sign_twice : (k a : ℕ) → SameMod p (sign p k * (sign p k * a)) a
  sign_twice zero a = ap (λ r. r % p) (let e : 1 * (1 * a) ≡ a = omega arith in e)
  sign_twice (suc k) a =
      let e : sign p (suc k) * (sign p (suc k) * a) ≡ (p - 1) * ((p - 1) * (sign p k * (sign p k * a))) = omega arith in
      ap (λ r. r % p) e ∙ minus_twice (sign p k * (sign p k * a)) ∙ sign_twice k a

  module _ {X : Type 0} (degree : X → ℕ) (V : X → ℕ) where
    pub sign_out : (k : ℕ) (c : Terms X) → Each (λ x. degree x ≡ k) c → weigh (λ x. sign p (degree x) * V x) c ≡ sign p k * weigh V c
    sign_out k c e =
        weigh-along (λ x. degree x ≡ k) (λ x. sign p (degree x) * V x) (λ x. sign p k * V x) (λ x q. ap (λ n. sign p n * V x) q) c e ∙ weigh-times (sign p k) V c

    both_signs : (k : ℕ) (Q : X → Type 0) → ((x : X) → Q x → SameMod p (sign p (degree x) * V x + sign p k * V x) 0)
        → (c : Terms X) → Each Q c → SameMod p (weigh (λ x. sign p (degree x) * V x) c + sign p k * weigh V c) 0
    both_signs k Q h c e =
        ap (λ r. r % p) (ap (λ r. weigh (λ x. sign p (degree x) * V x) c + r) (sym (weigh-times (sign p k) V c)) ∙ sym (weigh-plus (λ x. sign p (degree x) * V x) (λ x. sign p k * V x) c))
        ∙ weigh-mod Q p (λ x. sign p (degree x) * V x + sign p k * V x) (λ x. 0) h c e ∙ ap (λ r. r % p) (weigh-none c)

    pub sign_below : (k : ℕ) (c : Terms X) → Each (λ x. suc (degree x) ≡ k) c → SameMod p (weigh (λ x. sign p (degree x) * V x) c + sign p k * weigh V c) 0
    sign_below k c e = both_signs k (λ x. suc (degree x) ≡ k) (λ x q.
        subst (λ n. SameMod p (sign p (degree x) * V x + sign p n * V x) 0) q
        (ap (λ r. r % p) (let t : sign p (degree x) * V x + sign p (suc (degree x)) * V x ≡ sign p (suc (degree x)) * V x + sign p (degree x) * V x = omega arith in t) ∙ next_sign (degree x) (V x))) c e

    pub sign_above : (k : ℕ) (c : Terms X) → Each (λ x. degree x ≡ suc k) c → SameMod p (weigh (λ x. sign p (degree x) * V x) c + sign p k * weigh V c) 0
    sign_above k c e = both_signs k (λ x. degree x ≡ suc k) (λ x q.
        subst (λ n. SameMod p (sign p n * V x + sign p k * V x) 0) (sym q) (next_sign k (V x))) c e

  -- the sign of an even and of an odd degree
  pub parity : (k : ℕ) → (k % 2 ≡ 0 → SameMod p 1 (sign p k)) × (k % 2 ≡ 1 → SameMod p (p - 1) (sign p k))
  parity zero = (λ e. refl, λ e. absurd (omega (arith, e)))
  parity (suc k) =
      let r = parity k in (
        (λ e. let f : k % 2 ≡ 1 = omega (arith, e) in
            sym (minus_twice 1) ∙ ap (λ n. (p - 1) * n % p) (let q : (p - 1) * 1 ≡ p - 1 = omega arith in q) ∙ same-times p (p - 1) (p - 1) (sign p k) (r.1 f)),
        (λ e. let f : k % 2 ≡ 0 = omega (arith, e) in
            ap (λ n. n % p) (let q : p - 1 ≡ (p - 1) * 1 = omega arith in q) ∙ same-times p (p - 1) 1 (sign p k) (r.0 f)),
      )
