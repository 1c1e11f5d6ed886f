-- Facts of two generators of a sum, by their sides.
use Rattle.std.proofs.Common.{◌≡◌, sym, ap, true≢false}
use Rattle.std.specs.declared.cmp.Ordering.TheVariants.{Less, Equal, Greater}
use Rattle.std.specs.Ordering.{is_eq}
use Rattle.reduct_laws.specs.declared.sides.Side.{Side}
use Rattle.reduct_laws.specs.declared.sides.Side.TheVariants.{Left, Right}

module _ {X Y : Type 0} where
  pub one_side : (P : Side X Y → Type 0) → ((x : X) → P (Left x)) → ((y : Y) → P (Right y)) → (s : Side X Y) → P s
  one_side P l r (Left x) = l x
  one_side P l r (Right y) = r y

  pub two_sides : (P : Side X Y → Side X Y → Type 0) → ((x x' : X) → P (Left x) (Left x')) → ((x : X) (y : Y) → P (Left x) (Right y))
      → ((y : Y) (x : X) → P (Right y) (Left x)) → ((y y' : Y) → P (Right y) (Right y')) → (s t : Side X Y) → P s t
  two_sides P a b c d (Left x) (Left x') = a x x'
  two_sides P a b c d (Left x) (Right y) = b x y
  two_sides P a b c d (Right y) (Left x) = c y x
  two_sides P a b c d (Right y) (Right y') = d y y'

-- keys of different sides do not compare equal
pub not_less : {A : Type 0} → Less ≡ Equal → A
not_less e = absurd (true≢false (sym (ap is_eq e)))

pub not_greater : {A : Type 0} → Greater ≡ Equal → A
not_greater e = absurd (true≢false (sym (ap is_eq e)))
