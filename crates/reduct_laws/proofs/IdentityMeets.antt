-- The identity is a reduction.
use Rattle.std.proofs.Common.{◌≡◌, ℕ, ◌+◌, ◌%◌, ◌<◌, refl, sym, ◌∙◌, ap, arith}
use Rattle.fp_field.specs.Chains.{weigh}
use Rattle.fp_field.specs.Reduction.{one, Complex, IsComplex, HasDegrees, IsReductionTo}
use Rattle.fp_field.proofs.Fair.{from_weights, pull}
use Rattle.reduct_laws.specs.Combinators.{identity}
use Rattle.reduct_laws.proofs.Fairly.{weigh-nothing}
use Rattle.reduct_laws.proofs.SixLaws.{Laws}
use Rattle.reduct_laws.proofs.Equations.{weigh-one, is_reduction}

module _ (p : ℕ) (pos : 0 < p) {K : Type 0} (X : Complex K) (is : IsComplex p X) where
  abbrev degrees : HasDegrees p (identity X)
  degrees = record {
    big = is;
    small = is.graded;
    f = record {
      keeps = λ n x g. (g, tt);
      respects = λ x y e. from_weights p pos X.same is.graded.equivalence (one x) (one y) (λ w fair.
          ap (λ r. r % p) (weigh-one w x) ∙ fair x y e ∙ ap (λ r. r % p) (sym (weigh-one w y)));
    };
    g = record {
      keeps = λ n x g. (g, tt);
      respects = λ x y e. from_weights p pos X.same is.graded.equivalence (one x) (one y) (λ w fair.
          ap (λ r. r % p) (weigh-one w x) ∙ fair x y e ∙ ap (λ r. r % p) (sym (weigh-one w y)));
    };
    h = record { raises = λ n x g. tt; respects = λ x y e k. refl };
  }

  -- a weight goes through the identity
  through : (w : K → ℕ) → pull p pos one w ≡ w
  through w = λ i x. weigh-one w x i

  laws : (N : ℕ) → Laws p pos (identity X) degrees N
  laws N = record {
    small = λ w. record { at = λ n x l g. ap (λ r. r % p) (sym (weigh-one (λ z. weigh (pull p pos one w.at) (X.d z)) x ∙ ap (λ v. weigh v (X.d x)) (through w.at))) };
    fg = λ w. record { at = λ n x l g. ap (λ r. r % p) (weigh-one (pull p pos one w.at) x ∙ weigh-one w.at x) };
    homotopy = λ w. record {
      at = λ n x l g. ap (λ r. r % p)
          (let e : 0 + (weigh (λ z. 0) (X.d x) + weigh (pull p pos one w.at) (one x)) ≡ w.at x = omega (arith, weigh-nothing (X.d x), weigh-one (pull p pos one w.at) x, weigh-one w.at x) in e);
    };
    fh = λ w. record { at = λ n x l g. refl };
    hg = λ w. record { at = λ n x l g. ap (λ r. r % p) (weigh-nothing (one x)) };
    hh = λ w. record { at = λ n x l g. refl };
  }

  pub identity_meets : (N : ℕ) → IsReductionTo p N (identity X)
  identity_meets N = is_reduction p pos (identity X) degrees N (laws N)
