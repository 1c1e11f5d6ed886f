-- G and the small differential at the name of a small cell.
use Rattle.std.proofs.Common.{◌≡◌, ℕ, ◌≤◌, sym, ◌∙◌, ap}
use Rattle.std.specs.declared.cmp.Ordering.{Ordering}
use Rattle.fp_field.specs.Reduction.{Maps}
use Rattle.reduct_laws.specs.Lists.{Lists}
use Rattle.twice_perturbed.specs.Firsts.{First}
use Rattle.twice_perturbed.specs.Twice.{twice_g, twice_d, twice_g_asks, twice_d_asks}
use Rattle.fibred_maps.specs.Fibred.{Fibred, NamesSmall, g_value, g_keys, d_value, d_keys}
use Rattle.fibred_maps.specs.Joined.{IsJoined}
use Rattle.fibred_maps.proofs.NamedChains.{Tells}
use Rattle.fibred_maps.proofs.SmallNamed.{g-value, g-keys, d-value, d-keys}

module _ {B M N A : Type 0} (by_big : B → B → Ordering) (ob : Tells by_big) (by_middle : M → M → Ordering) (om : Tells by_middle) (by_small : N → N → Ordering) (os : Tells by_small)
    (s : Fibred B M N A) (a : First B M) (m : Maps M N) (l : Lists M N A) (j : IsJoined by_big by_middle by_small s a m l)
    (n : ℕ) (w : n ≤ s.top) (y : N) (e : NamesSmall s a.prime n y) where
  pub g-value-is : twice_g by_big by_middle a m n y ≡ g_value s a.prime n y
  g-value-is =
      ap (twice_g by_big by_middle a m n) (sym e.1) ∙ g-value by_big ob by_middle om by_small os s a m l j n w (s.small_of y) e.0

  pub g-keys-are : twice_g_asks by_big by_middle a m n l y ≡ g_keys s a.prime n y
  g-keys-are =
      ap (twice_g_asks by_big by_middle a m n l) (sym e.1) ∙ g-keys by_big ob by_middle om by_small os s a m l j n w (s.small_of y) e.0

  pub d-value-is : twice_d by_big by_middle a m n by_small y ≡ d_value s a.prime n y
  d-value-is =
      ap (twice_d by_big by_middle a m n by_small) (sym e.1) ∙ d-value by_big ob by_middle om by_small os s a m l j n w (s.small_of y) e.0

  pub d-keys-are : twice_d_asks by_big by_middle a m n l y ≡ d_keys s a.prime n y
  d-keys-are =
      ap (twice_d_asks by_big by_middle a m n l) (sym e.1) ∙ d-keys by_big ob by_middle om by_small os s a m l j n w (s.small_of y) e.0
