-- A series whose steps ask: what is left of it after some steps.
use Rattle.std.proofs.Common.{◌≡◌, ℕ, zero, suc, ◌-◌, ◌++◌, sym, ◌∙◌, ap, append_assoc}
use Rattle.std.proofs.lemmas.List.{append-nil}
use Rattle.std.specs.declared.cmp.Ordering.{Ordering}
use Rattle.fp_field.specs.Chains.{Terms, scale}
use Rattle.fp_field.specs.Normal.{normal}
use Rattle.values.specs.Asks.{Right, gives, ◌>>=◌}
use Rattle.values.specs.Perturbed.{asked_terms}
use Rattle.part_asks.proofs.RightStages.{bind-assoc}

module _ {K : Type 0} (cmp : K → K → Ordering) (p : ℕ) (step : Terms K → Right (Terms K)) where
  -- the sum of the terms, in normal form
  abbrev pub summed : ℕ → Terms K → Right (Terms K)
  summed n c = asked_terms cmp p n step c >>= λ s. gives (normal cmp p s)

  -- of it, where the terms of `done` are there, k terms are left and c is the next of them
  abbrev pub series_left : Terms K → ℕ → Terms K → Right (Terms K)
  series_left done k c = asked_terms cmp p k step c >>= λ s. gives (normal cmp p (done ++ s))

  -- the term after this one
  abbrev pub next_of : Terms K → Terms K
  next_of y = normal cmp p (scale (p - 1) y)

  pub series-step : (done : Terms K) (k n : ℕ) (c : Terms K) → n ≡ suc k
      → series_left done n c ≡ step c >>= λ y. series_left (done ++ c) k (next_of y)
  series-step done k n c e = ap (λ m. series_left done m c) e ∙ bind-assoc (step c) (λ y. asked_terms cmp p k step (next_of y) >>= λ s. gives (c ++ s)) (λ s. gives (normal cmp p (done ++ s)))
      ∙ (λ i. step c >>= λ y. (bind-assoc (asked_terms cmp p k step (next_of y)) (λ s. gives (c ++ s)) (λ s. gives (normal cmp p (done ++ s))) ∙ regroup (asked_terms cmp p k step (next_of y))) i)
    where
      regroup : (m : Right (Terms K)) → m >>= (λ s. gives (normal cmp p (done ++ (c ++ s)))) ≡ m >>= λ s. gives (normal cmp p ((done ++ c) ++ s))
      regroup m = λ i. m >>= λ s. gives (normal cmp p (sym (append_assoc done c s) i))

  pub series-end : (done c : Terms K) → series_left done zero c ≡ gives (normal cmp p done)
  series-end done c = ap (λ s. gives (normal cmp p s)) (append-nil done)
