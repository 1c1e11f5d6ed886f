-- Sums of differences in an abelian group of functionals.
use Rattle.std.proofs.Common.{◌≡◌, ℕ, sym, ◌∙◌, ap}
use Rattle.ez_laws.proofs.Functionals.{Coefficients, Ch}
use Rattle.ez_laws.proofs.ChainLaws.{add, neg, tot, sg, assoc, comm, unit, unit-l, inverse, neg-add, neg-neg, tot-add, sg-tot}

module _ (S : Coefficients) {K : Type 0} where
  -- (a - b) + (b - c) = a - c
  pub telescope : (a b c : Ch S K) → add S (add S a (neg S b)) (add S b (neg S c)) ≡ add S a (neg S c)
  telescope a b c =
      assoc S a (neg S b) (add S b (neg S c))
      ∙ ap (add S a)
      (sym (assoc S (neg S b) b (neg S c)) ∙ ap (λ v. add S v (neg S c)) (comm S (neg S b) b ∙ inverse S b) ∙ unit-l S (neg S c))

  -- -(a - b) = b - a
  pub neg-less : (a b : Ch S K) → neg S (add S a (neg S b)) ≡ add S b (neg S a)
  neg-less a b = neg-add S a (neg S b) ∙ ap (add S (neg S a)) (neg-neg S b) ∙ comm S (neg S a) b

  -- (a - b) - (a - c) = c - b
  pub less-less : (a b c : Ch S K) → add S (add S a (neg S b)) (neg S (add S a (neg S c))) ≡ add S c (neg S b)
  less-less a b c =
      ap (add S (add S a (neg S b))) (neg-less a c)
      ∙ comm S (add S a (neg S b)) (add S c (neg S a))
      ∙ telescope c a b

  -- a + (-a + b) = b
  pub plus-less : (a b : Ch S K) → add S a (add S (neg S a) b) ≡ b
  plus-less a b = sym (assoc S a (neg S a) b) ∙ ap (λ v. add S v b) (inverse S a) ∙ unit-l S b

  -- (a + b) - b = a
  pub less-plus : (a b : Ch S K) → add S (add S a b) (neg S b) ≡ a
  less-plus a b = assoc S a b (neg S b) ∙ ap (add S a) (inverse S b) ∙ unit S a

  -- the difference of two sums
  pub tot-less : (n : ℕ) (f g : ℕ → Ch S K) → add S (tot S n f) (neg S (tot S n g)) ≡ tot S n (λ i. add S (f i) (neg S (g i)))
  unfolding sg
  tot-less n f g = ap (add S (tot S n f)) (sg-tot S 1 n g) ∙ sym (tot-add S n f (λ i. neg S (g i)))
