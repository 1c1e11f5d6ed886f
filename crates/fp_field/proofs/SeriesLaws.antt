-- The series undoes 1 + t.
use Rattle.std.proofs.Common.{◌≡◌, ℕ, zero, suc, ◌+◌, ◌*◌, ◌-◌, ◌%◌, ◌<◌, [], ◌++◌, Bool, refl, sym, ◌∙◌, ap, arith}
use Rattle.std.specs.Cmp.{IsEquivalence}
use Rattle.fp_field.specs.Field.{SameMod}
use Rattle.fp_field.specs.Chains.{Terms, weigh, scale, extend}
use Rattle.std.specs.declared.cmp.Ordering.{Ordering}
use Rattle.std.specs.declared.cmp.Ordering.TheVariants.{Equal}
use Rattle.fp_field.specs.Normal.{normal}
use Rattle.fp_field.specs.Reduction.{SameTerms}
use Rattle.fp_field.proofs.Normals.{weigh-normal}
use Rattle.fp_field.specs.Series.{IsSeries, ends, more, terms_of_series, series_term}
use Rattle.fp_field.proofs.Mod.{same-plus, same-by, pred-times}
use Rattle.fp_field.proofs.Weights.{weigh-append, weigh-scale, weigh-extend}
use Rattle.fp_field.proofs.Fair.{Fair, under, from_weights}

module _ {K : Type 0} (p : ℕ) (pos : 0 < p) (same : K → K → Bool) (eq : IsEquivalence same) (t : K → Terms K) (w : K → ℕ) (fair : Fair p pos same w) where
  -- s + t s = x
  pub series_undoes : (x s : Terms K) → IsSeries p same t x s → SameMod p (weigh w s + weigh w (extend t s)) (weigh w x)
  series_undoes x s (ends x' zero') = sym (under p pos same eq w fair x' [] zero')
  series_undoes x s (more x' y s' e rest) =
      ap (λ n. n % p) (let q : weigh w (x' ++ s') + weigh w (extend t (x' ++ s')) ≡ weigh w x' + weigh (λ k. weigh w (t k)) x' + (weigh w s' + weigh w (extend t s')) =
      omega (arith, weigh-append w x' s', weigh-extend w t (x' ++ s'), weigh-append (λ k. weigh w (t k)) x' s', weigh-extend w t s') in q)
      ∙ same-plus p (weigh w x' + weigh (λ k. weigh w (t k)) x') _ _ _ refl (series_undoes y s' rest ∙ under p pos same eq w fair y (scale (p - 1) (extend t x')) e)
      ∙ ap (λ n. n % p) (let q : weigh w x' + weigh (λ k. weigh w (t k)) x' + weigh w (scale (p - 1) (extend t x')) ≡ weigh w x' + p * weigh (λ k. weigh w (t k)) x' =
      omega (arith, weigh-scale w (p - 1) (extend t x') ∙ ap (λ n. (p - 1) * n) (weigh-extend w t x'), pred-times p (weigh (λ k. weigh w (t k)) x') pos) in q)
      ∙ same-by p (weigh w x' + p * weigh (λ k. weigh w (t k)) x') (weigh w x') 0 (weigh (λ k. weigh w (t k)) x') (omega arith)

-- the sum of the first n terms is the series, where the term after n steps is 0
module _ {K : Type 0} (p : ℕ) (pos : 0 < p) (same : K → K → Bool) (eq : IsEquivalence same)
    (cmp : K → K → Ordering) (one_key : (x y : K) → cmp x y ≡ Equal → x ≡ y) (t : K → Terms K) where
  normal-SameTerms : (c : Terms K) → SameTerms p same (normal cmp p c) c
  normal-SameTerms c = from_weights p pos same eq (normal cmp p c) c (λ w fair. weigh-normal cmp p one_key w c)

  pub terms_of_series-IsSeries : (n : ℕ) (x : Terms K) → SameTerms p same (series_term cmp p n t x) [] → IsSeries p same t x (terms_of_series cmp p n t x)
  terms_of_series-IsSeries zero x h = ends x h
  terms_of_series-IsSeries (suc n) x h =
      more x (normal cmp p (scale (p - 1) (extend t x))) (terms_of_series cmp p n t (normal cmp p (scale (p - 1) (extend t x))))
      (normal-SameTerms (scale (p - 1) (extend t x)))
      (terms_of_series-IsSeries n (normal cmp p (scale (p - 1) (extend t x))) h)
