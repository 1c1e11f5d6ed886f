-- The order of the generators of a sum is a total order.
use Rattle.std.proofs.Common.{◌≡◌, sym, ◌∙◌, ap, true≢false}
use Rattle.std.specs.declared.cmp.Ordering.{Ordering}
use Rattle.std.specs.declared.cmp.Ordering.TheVariants.{Less, Equal, Greater}
use Rattle.std.specs.Ordering.{is_lt, ordering_reverse}
use Rattle.std.specs.Cmp.{IsTotalOrder}
use Rattle.reduct_laws.specs.declared.sides.Side.{Side}
use Rattle.reduct_laws.specs.declared.sides.Side.TheVariants.{Left, Right}
use Rattle.reduct_laws.specs.SideCases.{not_less, not_greater}

not_less_greater : {A : Type 0} → Greater ≡ Less → A
not_less_greater e = absurd (true≢false (sym (ap is_lt e)))

module _ {X Y : Type 0} (cmp : Side X Y → Side X Y → Ordering) (cx : X → X → Ordering) (cy : Y → Y → Ordering)
    (ll : (x x' : X) → cmp (Left x) (Left x') ≡ cx x x') (lr : (x : X) (y : Y) → cmp (Left x) (Right y) ≡ Less)
    (rl : (y : Y) (x : X) → cmp (Right y) (Left x) ≡ Greater) (rr : (y y' : Y) → cmp (Right y) (Right y') ≡ cy y y')
    (tx : IsTotalOrder cx) (ty : IsTotalOrder cy) where
  reversed : (s t : Side X Y) → cmp s t ≡ ordering_reverse (cmp t s)
  reversed (Left x) (Left x') = ll x x' ∙ tx.antisymm x x' ∙ ap ordering_reverse (sym (ll x' x))
  reversed (Left x) (Right y) = lr x y ∙ ap ordering_reverse (sym (rl y x))
  reversed (Right y) (Left x) = rl y x ∙ ap ordering_reverse (sym (lr x y))
  reversed (Right y) (Right y') = rr y y' ∙ ty.antisymm y y' ∙ ap ordering_reverse (sym (rr y' y))

  transitive : (s t u : Side X Y) → cmp s t ≡ Less → cmp t u ≡ Less → cmp s u ≡ Less
  transitive (Left x) (Left x') (Left x'') e f = ll x x'' ∙ tx.trans x x' x'' (sym (ll x x') ∙ e) (sym (ll x' x'') ∙ f)
  transitive (Left x) (Left x') (Right y) e f = lr x y
  transitive (Left x) (Right y) (Left x') e f = not_less_greater (sym (rl y x') ∙ f)
  transitive (Left x) (Right y) (Right y') e f = lr x y'
  transitive (Right y) (Left x) u e f = not_less_greater (sym (rl y x) ∙ e)
  transitive (Right y) (Right y') (Left x) e f = not_less_greater (sym (rl y' x) ∙ f)
  transitive (Right y) (Right y') (Right y'') e f = rr y y'' ∙ ty.trans y y' y'' (sym (rr y y') ∙ e) (sym (rr y' y'') ∙ f)

  alike : (s t u : Side X Y) → cmp s t ≡ Equal → cmp s u ≡ cmp t u
  alike (Left x) (Left x') (Left x'') e = ll x x'' ∙ tx.congr x x' x'' (sym (ll x x') ∙ e) ∙ sym (ll x' x'')
  alike (Left x) (Left x') (Right y) e = lr x y ∙ sym (lr x' y)
  alike (Left x) (Right y) u e = not_less (sym (lr x y) ∙ e)
  alike (Right y) (Left x) u e = not_greater (sym (rl y x) ∙ e)
  alike (Right y) (Right y') (Left x) e = rl y x ∙ sym (rl y' x)
  alike (Right y) (Right y') (Right y'') e = rr y y'' ∙ ty.congr y y' y'' (sym (rr y y') ∙ e) ∙ sym (rr y' y'')

  pub sides_total : IsTotalOrder cmp
  sides_total = record { antisymm = reversed; trans = transitive; congr = alike }

  pub sides_one_key : ((x y : X) → cx x y ≡ Equal → x ≡ y) → ((x y : Y) → cy x y ≡ Equal → x ≡ y) → (s t : Side X Y) → cmp s t ≡ Equal → s ≡ t
  sides_one_key ox oy (Left x) (Left x') e = ap Left (ox x x' (sym (ll x x') ∙ e))
  sides_one_key ox oy (Left x) (Right y) e = not_less (sym (lr x y) ∙ e)
  sides_one_key ox oy (Right y) (Left x) e = not_greater (sym (rl y x) ∙ e)
  sides_one_key ox oy (Right y) (Right y') e = ap Right (oy y y' (sym (rr y y') ∙ e))
