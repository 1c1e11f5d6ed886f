-- The first terms of a series whose step is a map on whole chains: as the map on generators has them.
use Rattle.std.proofs.Common.{◌≡◌, ℕ, zero, suc, ◌-◌}
use Rattle.std.specs.declared.cmp.Ordering.{Ordering}
use Rattle.std.specs.declared.cmp.Ordering.TheVariants.{Equal}
use Rattle.fp_field.specs.Chains.{Terms, scale, extend, Each}
use Rattle.fp_field.specs.Normal.{normal}
use Rattle.fp_field.specs.Series.{terms_of_series, series}
use Rattle.fp_field.proofs.Weights.{Each-append, Each-scale, Each-extend}
use Rattle.fp_field.proofs.FlowLaws.{Each-normal}
use Rattle.values.proofs.Chains.{steps_of}
use Rattle.twist_laws.proofs.Alike.{Alike, itself, back, chain, alike-append, alike-scale, alike-extend, alike-normal}

module _ (p : ℕ) {K : Type 0} (cmp : K → K → Ordering) (apart : (x y : K) → cmp x y ≡ Equal → x ≡ y) (G : K → Type 0) where
  abbrev next : Terms K → Terms K
  next c = normal cmp p (scale (p - 1) c)

  next-alike : (c d : Terms K) → Alike p c d → Alike p (next c) (next d)
  next-alike c d e = chain (alike-normal cmp apart (scale (p - 1) c)) (chain (alike-scale (p - 1) e) (back (alike-normal cmp apart (scale (p - 1) d))))

  next-keeps : (c : Terms K) → Each G c → Each G (next c)
  next-keeps c h = Each-normal G cmp p (scale (p - 1) c) (Each-scale G (p - 1) c h)

  module _ (u : K → Terms K) (keeps : (x : K) → G x → Each G (u x)) where
    pub terms-keep : (n : ℕ) (c : Terms K) → Each G c → Each G (terms_of_series cmp p n u c)
    terms-keep zero c h = tt
    terms-keep (suc n) c h =
        Each-append G c (terms_of_series cmp p n u (next (extend u c))) h (terms-keep n (next (extend u c)) (next-keeps (extend u c) (Each-extend G G u keeps c h)))

    pub series-keep : (n : ℕ) (c : Terms K) → Each G c → Each G (series cmp p n u c)
    series-keep n c h = Each-normal G cmp p (terms_of_series cmp p n u c) (terms-keep n c h)

    module _ (step : Terms K → Terms K) (is : (c : Terms K) → Each G c → Alike p (step c) (extend u c)) (stays : (c : Terms K) → Each G c → Each G (step c)) where
      steps-alike : (n : ℕ) (c d : Terms K) → Each G c → Each G d → Alike p c d → Alike p (steps_of cmp p n step c) (terms_of_series cmp p n u d)
      steps-alike zero c d g h e = itself
      steps-alike (suc n) c d g h e =
          alike-append e
          (steps-alike n (next (step c)) (next (extend u d)) (next-keeps (step c) (stays c g)) (next-keeps (extend u d) (Each-extend G G u keeps d h))
          (next-alike (step c) (extend u d) (chain (is c g) (alike-extend u e))))

      steps-stay : (n : ℕ) (c : Terms K) → Each G c → Each G (steps_of cmp p n step c)
      steps-stay zero c h = tt
      steps-stay (suc n) c h = Each-append G c (steps_of cmp p n step (next (step c))) h (steps-stay n (next (step c)) (next-keeps (step c) (stays c h)))

      pub sum-alike : (n : ℕ) (c : Terms K) → Each G c → Alike p (normal cmp p (steps_of cmp p n step c)) (series cmp p n u c)
      sum-alike n c h =
          chain (alike-normal cmp apart (steps_of cmp p n step c))
          (chain (steps-alike n c c h h itself) (back (alike-normal cmp apart (terms_of_series cmp p n u c))))

      pub sum-stays : (n : ℕ) (c : Terms K) → Each G c → Each G (normal cmp p (steps_of cmp p n step c))
      sum-stays n c h = Each-normal G cmp p (steps_of cmp p n step c) (steps-stay n c h)
