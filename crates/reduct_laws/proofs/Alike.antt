-- The test for equal keys of a total order, and maps of keys that are one where they compare equal.
use Rattle.std.proofs.Common.{◌≡◌, ℕ, true, refl, ap, subst}
use Rattle.std.specs.Cmp.{Equal-is}
use Rattle.std.specs.declared.cmp.Ordering.{Ordering}
use Rattle.std.specs.declared.cmp.Ordering.TheVariants.{Equal}
use Rattle.std.specs.Ordering.{eq_by_cmp}
use Rattle.fp_field.specs.Chains.{Terms}
use Rattle.fp_field.specs.Reduction.{SameTerms}

module _ {K : Type 0} (cmp : K → K → Ordering) (one_key : (x y : K) → cmp x y ≡ Equal → x ≡ y) where
  pub one : (x y : K) → eq_by_cmp cmp x y ≡ true → x ≡ y
  one x y e = one_key x y ((Equal-is (cmp x y)).0 e)

  pub images_alike : {J : Type 0} (p : ℕ) (same : J → J → _) (f : K → Terms J) (x y : K) → eq_by_cmp cmp x y ≡ true → SameTerms p same (f x) (f y)
  images_alike p same f x y e = subst (λ z. SameTerms p same (f x) (f z)) (one x y e) (λ k. refl)

  pub degrees_alike : (degree : K → ℕ) (x y : K) → eq_by_cmp cmp x y ≡ true → degree x ≡ degree y
  degrees_alike degree x y e = ap degree (one x y e)
