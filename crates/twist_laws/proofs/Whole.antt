-- A reduction perturbed, a second one of its small complex perturbed by the difference, and the composition of the two.
use Rattle.std.proofs.Common.{◌≡◌, ℕ, suc, ◌<◌, ◌≤◌, true, [], ◌∷◌, ◌++◌, refl, sym, ◌∙◌, ap, subst, arith}
use Rattle.fp_field.specs.Chains.{Terms, extend, Each}
use Rattle.fp_field.specs.Reduction.{SameTerms, Complex, Maps, IsReduction, IsReductionTo, IsSameComplex}
use Rattle.reduct_laws.specs.Combinators.{composed}
use Rattle.reduct_laws.proofs.ComposedMeets.{composed_meets}
use Rattle.perturb.specs.Perturbation.{IsPerturbation, AreSeries, perturbed}
use Rattle.perturb.proofs.PerturbedMeets.{perturbed_meets}

tail-each : {K : Type 0} (P : K → Type 0) (c d : Terms K) → Each P (c ++ d) → Each P d
tail-each P [] d h = h
tail-each P (t ∷ c) d h = tail-each P c d h.1

module _ (p : ℕ) (pos : 0 < p) {B M S : Type 0} (ez : Maps B M) (D : Complex S) (f2 : M → Terms S) (g2 : S → Terms M) (h2 : M → Terms M)
    (q P1 S1 : B → Terms B) where
  abbrev pub two : Maps M S
  two = record { big = ez.small; small = D; f = f2; g = g2; h = h2 }

  -- f q P g
  abbrev pub difference : M → Terms M
  difference z = extend ez.f (extend q (extend P1 (ez.g z)))

  abbrev pub m1 : Maps B M
  m1 = perturbed ez q P1 S1

  module _ (P2 S2 : M → Terms M) where
    abbrev pub m2 : Maps M S
    m2 = perturbed two difference P2 S2

    abbrev pub whole : Maps B S
    whole = composed m1 m2

    module _ (first : IsReduction p ez) (is1 : IsPerturbation p ez q) (series1 : AreSeries p ez q P1 S1) (apart : (x y : M) → ez.small.same x y ≡ true → x ≡ y) where
      red1 : IsReduction p m1
      red1 N = perturbed_meets p N pos ez q P1 S1 (first N) is1 series1

      pub is2 : IsPerturbation p two difference
      is2 = record {
        lowers = λ n x h. tail-each (ez.small.generator n) (ez.small.d x) (difference x) ((red1 0).degrees.small.lowers n x h);
        ends = λ x h. ap (λ c. c ++ difference x) (sym ((first 0).degrees.small.ends x h)) ∙ (red1 0).degrees.small.ends x h;
        respects = λ x y e. subst (λ z. SameTerms p ez.small.same (difference x) (difference z)) (apart x y e) (λ k. refl);
        twice = λ n x h. (red1 n).equations.twice n x (let l : n ≤ n = omega arith in l) h;
      }

      same : IsSameComplex p m1.small m2.big
      same = record { there = λ n x h. h; back = λ n x h. h; same = λ x y. refl; d = λ n x h k. refl }

      pub whole_meets : AreSeries p two difference P2 S2 → (N : ℕ) → IsReductionTo p N two → IsReductionTo p N whole
      whole_meets series2 N second = composed_meets p pos m1 m2 same N (red1 (suc N)) (perturbed_meets p N pos two difference P2 S2 second is2 series2)
