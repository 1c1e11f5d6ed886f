-- Sums modulo p.
use Rattle.std.proofs.Common.{ℕ, ◌+◌, ◌*◌, ◌-◌, ◌<◌, refl, ◌∙◌, arith}
use Rattle.fp_field.specs.Field.{SameMod}
use Rattle.fp_field.proofs.Mod.{same-plus, same-by, pred-times}

module _ (p : ℕ) (pos : 0 < p) where
  pub cancel : (a x y : ℕ) → SameMod p (a + x) (a + y) → SameMod p x y
  cancel a x y e =
      same-by p x ((p - 1) * a + (a + x)) a 0 (omega (arith, pred-times p a pos))
      ∙ same-plus p ((p - 1) * a) ((p - 1) * a) (a + x) (a + y) refl e
      ∙ same-by p ((p - 1) * a + (a + y)) y 0 a (omega (arith, pred-times p a pos))
