-- Chains that are the same have the same weights, and the other way round.
use Rattle.std.proofs.Common.{◌≡◌, ℕ, ◌%◌, ◌<◌, Bool, true, false, cond, sym, ap, true≢false}
use Rattle.std.specs.Cmp.{IsEquivalence}
use Rattle.fp_field.specs.Field.{SameMod}
use Rattle.fp_field.specs.Chains.{Terms, weigh}
use Rattle.fp_field.specs.Reduction.{SameTerms, Complex, Respects}
use Rattle.fp_field.proofs.Weights.{Each-any}
use Rattle.fp_field.proofs.Support.{weigh-same, counts_alike}

module _ (p : ℕ) (pos : 0 < p) where
  -- a weight that does not tell equal keys apart
  abbrev pub Fair : {K : Type 0} → (K → K → Bool) → (K → ℕ) → Type 0
  Fair {K} same w = (x y : K) → same x y ≡ true → SameMod p (w x) (w y)

  pub under : {K : Type 0} (same : K → K → Bool) → IsEquivalence same → (w : K → ℕ) → Fair same w → (c d : Terms K) → SameTerms p same c d → SameMod p (weigh w c) (weigh w d)
  under same eq w fair c d h =
      weigh-same same eq p (λ x. false) (λ x. Unit {0}) w fair (λ x g e. absurd (true≢false (sym e))) pos c d (Each-any c) (Each-any d) (λ k g. h k)

  pub from_weights : {K : Type 0} (same : K → K → Bool) → IsEquivalence same → (c d : Terms K)
      → ((w : K → ℕ) → Fair same w → SameMod p (weigh w c) (weigh w d)) → SameTerms p same c d
  from_weights same eq c d h k = h (λ x. cond (same x k) 1 0) (λ x y e. ap (λ n. n % p) (counts_alike same eq k x y e))

  -- the weight of an image, as a weight
  abbrev pub pull : {K J : Type 0} → (K → Terms J) → (J → ℕ) → K → ℕ
  pull f w k = weigh w (f k)

  pub pull-fair : {K J : Type 0} (C : Complex K) (D : Complex J) → IsEquivalence D.same → (f : K → Terms J) → Respects p C D f → (w : J → ℕ) → Fair D.same w → Fair C.same (pull f w)
  pull-fair C D eq f r w fair x y e = under D.same eq w fair (f x) (f y) (r x y e)
