-- The sign of a face, by the remainder of its place by 2.
use Rattle.std.proofs.Common.{◌≡◌, ℕ, zero, suc, ◌-◌, ◌*◌, ◌%◌, ◌<◌, refl, sym, ◌∙◌, ap, subst, arith}
use Rattle.fp_field.specs.Field.{sign, SameMod}
use Rattle.fp_field.proofs.Mod.{same-by, same-times}

square : (q : ℕ) → SameMod (suc q) (q * q) 1
square q = same-by (suc q) (q * q) 1 1 q (omega arith)

squared : (p : ℕ) → 0 < p → SameMod p ((p - 1) * (p - 1)) 1
squared p h = let e : p ≡ suc (p - 1) = omega arith in subst (λ n. SameMod n ((p - 1) * (p - 1)) 1) (sym e) (square (p - 1))

module _ (p : ℕ) (h : 0 < p) where
  pub signs : (i : ℕ) → (i % 2 ≡ 0 → SameMod p 1 (sign p i)) × (i % 2 ≡ 1 → SameMod p (p - 1) (sign p i))
  signs zero = (λ e. refl, λ e. absurd (omega (arith, e)))
  signs (suc i) =
      let before = signs i in (
        λ e. sym (squared p h) ∙ same-times p (p - 1) (p - 1) (sign p i) (before.1 (omega (arith, e))),
        λ e. ap (λ n. n % p) (let q : p - 1 ≡ (p - 1) * 1 = omega arith in q) ∙ same-times p (p - 1) 1 (sign p i) (before.0 (omega (arith, e))),
      )
