-- The difference of a whole chain is the sum of those of its keys.
use Rattle.std.proofs.Common.{◌≡◌, ℕ, zero, suc, ◌-◌, ◌<◌, [], ◌++◌, sym, ◌∙◌, ap, arith}
use Rattle.std.specs.declared.cmp.Ordering.{Ordering}
use Rattle.std.specs.declared.cmp.Ordering.TheVariants.{Equal}
use Rattle.std.specs.Cmp.{IsTotalOrder}
use Rattle.fp_field.specs.Field.{number}
use Rattle.fp_field.specs.Chains.{Terms, weigh, scale, extend}
use Rattle.fp_field.specs.Normal.{normal, apply}
use Rattle.fp_field.specs.Reduction.{after}
use Rattle.fp_field.specs.Series.{terms_of_series, series}
use Rattle.fp_field.proofs.Primes.{number_pos}
use Rattle.fp_field.proofs.Weights.{weigh-extend, Each-any}
use Rattle.fp_field.proofs.Normals.{normal-extend}
use Rattle.chain_core.proofs.ChainLemmas.{append-nil}
use Rattle.perturb.specs.Perturbation.{series_by}
use Rattle.perturb.proofs.SeriesValues.{series-linear}
use Rattle.perturb.proofs.SeriesSteps.{no_terms}
use Rattle.perturb.proofs.PerturbedMeets.{extend-none}
use Rattle.twice_perturbed.specs.Firsts.{First, lowered, lifted, difference, difference_along}
use Rattle.twice_perturbed.proofs.FirstSeries.{alike}

-- a map after another, on a chain
pub weigh-twice : {K J I : Type 0} (f : J → Terms I) (g : K → Terms J) (c : Terms K) (w : I → ℕ) → weigh w (extend f (extend g c)) ≡ weigh w (extend (after f g) c)
weigh-twice f g c w =
    weigh-extend w f (extend g c) ∙ weigh-extend (λ y. weigh w (f y)) g c ∙ ap (λ v. weigh v c) (λ i x. sym (weigh-extend w f (g x)) i) ∙ sym (weigh-extend w (after f g) c)

module _ {B M : Type 0} (by_big : B → B → Ordering) (big_key : (x y : B) → by_big x y ≡ Equal → x ≡ y) (big_total : IsTotalOrder by_big)
    (by_middle : M → M → Ordering) (middle_key : (x y : M) → by_middle x y ≡ Equal → x ≡ y) (middle_total : IsTotalOrder by_middle) (a : First B M) (n : ℕ) where
  abbrev p : ℕ
  p = number a.prime

  abbrev P : B → Terms B
  P = series_by by_big p (λ z. n) (after a.maps.h a.twist)

  lifted-is : (c : Terms M) → lifted by_big by_middle a n c ≡ normal by_big p (extend P (extend a.maps.g c))
  lifted-is c = series-linear p (number_pos a.prime) by_big big_key big_total (after a.maps.h a.twist) n (extend a.maps.g c)

  twisted-is : (c : Terms M) → apply by_big p a.twist (lifted by_big by_middle a n c) ≡ normal by_big p (extend a.twist (extend P (extend a.maps.g c)))
  twisted-is c = ap (apply by_big p a.twist) (lifted-is c) ∙ normal-extend by_big big_key by_big big_key big_total p (number_pos a.prime) a.twist (extend P (extend a.maps.g c))

  flat : (c : Terms M) (w : M → ℕ) → weigh w (extend a.maps.f (extend a.twist (extend P (extend a.maps.g c)))) ≡ weigh w (extend (difference by_big by_middle a n) c)
  flat c w =
      weigh-extend w a.maps.f (extend a.twist (extend P (extend a.maps.g c)))
      ∙ weigh-extend (λ y. weigh w (a.maps.f y)) a.twist (extend P (extend a.maps.g c))
      ∙ weigh-twice P a.maps.g c (λ x. weigh (λ y. weigh w (a.maps.f y)) (a.twist x))
      ∙ sym (weigh-extend (λ y. weigh w (a.maps.f y)) a.twist (extend (after P a.maps.g) c))
      ∙ weigh-twice a.twist (after P a.maps.g) c (λ y. weigh w (a.maps.f y))
      ∙ sym (weigh-extend w a.maps.f (extend (after a.twist (after P a.maps.g)) c))
      ∙ weigh-twice a.maps.f (after a.twist (after P a.maps.g)) c w

  pub difference-is : (c : Terms M) → difference_along by_big by_middle a n c ≡ apply by_middle p (difference by_big by_middle a n) c
  difference-is c =
      ap (apply by_middle p a.maps.f) (twisted-is c)
      ∙ normal-extend by_big big_key by_middle middle_key middle_total p (number_pos a.prime) a.maps.f (extend a.twist (extend P (extend a.maps.g c)))
      ∙ alike by_middle middle_key middle_total a.prime (extend a.maps.f (extend a.twist (extend P (extend a.maps.g c)))) (extend (difference by_big by_middle a n) c) (flat c)

  -- where there is no twist
  module _ (none : (x : B) → a.twist x ≡ []) where
    any-none : (c : Terms B) → extend a.twist c ≡ []
    any-none c = extend-none (λ z. Unit {0}) a.twist (λ k u. none k) c (Each-any c)

    pub difference-none : (c : Terms M) → difference_along by_big by_middle a n c ≡ []
    difference-none c = ap (λ d. apply by_middle p a.maps.f (normal by_big p d)) (any-none (lifted by_big by_middle a n c))

    after-none : (c : Terms B) → extend (after a.twist a.maps.h) c ≡ []
    after-none c = extend-none (λ z. Unit {0}) (after a.twist a.maps.h) (λ k u. any-none (a.maps.h k)) c (Each-any c)

    series-none : (k : ℕ) (c : Terms B) → 0 < k → series by_big p k (after a.twist a.maps.h) c ≡ normal by_big p c
    series-none zero c l = absurd (omega (arith, l))
    series-none (suc k) c l =
        ap (λ d. normal by_big p (c ++ terms_of_series by_big p k (after a.twist a.maps.h) (normal by_big p (scale (p - 1) d)))) (after-none c)
        ∙ ap (λ d. normal by_big p (c ++ d)) (no_terms by_big p a.maps.h a.twist k) ∙ ap (normal by_big p) (append-nil c)

    pub lowered-none : (c : Terms B) → 0 < n → apply by_middle p a.maps.f c ≡ lowered by_big by_middle a n c
    lowered-none c l =
        sym (ap (apply by_middle p a.maps.f) (series-none n c l) ∙ normal-extend by_big big_key by_middle middle_key middle_total p (number_pos a.prime) a.maps.f c)
