-- A reduction of a complex is one of each complex that is the same.
use Rattle.std.proofs.Common.{ℕ, suc, ◌%◌, ◌<◌, [], ◌∷◌, Bool, refl, sym, ◌∙◌, ap, subst, arith}
use Rattle.fp_field.specs.Chains.{Terms, Each}
use Rattle.fp_field.specs.Reduction.{after, Complex, Maps, IsGraded, IsDifferential, HasDegrees, IsReductionTo, IsSameComplex}
use Rattle.fp_field.proofs.Mod.{same-plus}
use Rattle.fp_field.proofs.Weights.{weigh-extend}
use Rattle.fp_field.proofs.Fair.{under, from_weights}
use Rattle.reduct_laws.proofs.Fairly.{Weight, along, Agree, chain, back, kept, raised, lowered}
use Rattle.reduct_laws.proofs.SixLaws.{D, F, G, H, Laws, twice}
use Rattle.reduct_laws.proofs.Equations.{to_laws}

pub Each-so : {K : Type 0} {P Q : K → Type 0} (c : Terms K) → ((k : K) → P k → Q k) → Each P c → Each Q c
Each-so [] f h = tt
Each-so (t ∷ c) f h = (f t.0 h.0, Each-so c f h.1)

module _ {K S : Type 0} where
  -- the maps on another complex with the same keys
  abbrev pub rebased : Complex K → Maps K S → Maps K S
  rebased C n = record { big = C; small = n.small; f = n.f; g = n.g; h = n.h }

  abbrev pub retested : (K → K → Bool) → Maps K S → Maps K S
  retested same n = rebased (record { generator = n.big.generator; same = same; d = n.big.d }) n

module _ (p : ℕ) (pos : 0 < p) {K S : Type 0} (C : Complex K) (is : IsGraded p C) (n : Maps K S) (e : IsSameComplex p C n.big) where
  with_test : (N : ℕ) → IsReductionTo p N n → IsReductionTo p N (retested C.same n)
  with_test N two = subst (λ s. IsReductionTo p N (retested s n)) (λ i x y. sym (e.same x y) i) two

  module _ (deg : HasDegrees p (retested C.same n)) where
    abbrev n1 : Maps K S
    n1 = retested C.same n

    abbrev d_of : Weight p pos C.same → Weight p pos C.same
    d_of w = along p pos C C is.equivalence C.d is.respects w

    -- the two differentials agree
    agrees : (N : ℕ) (w : Weight p pos C.same) → Agree p pos n1.big N (d_of w) (D p pos n1 deg w)
    agrees N w = record { at = λ k x l g. under p pos C.same is.equivalence w.at w.fair (C.d x) (n.big.d x) (e.d k x (e.back k x g)) }

    pub twice_again : IsDifferential p C
    twice_again k x g = from_weights p pos C.same is.equivalence (after C.d C.d x) [] (λ w fair.
        ap (λ r. r % p) (weigh-extend w C.d (C.d x))
        ∙ (chain p pos (agrees k (d_of (record { at = w; fair = fair })))
        (chain p pos (lowered p pos deg.big.graded (agrees k (record { at = w; fair = fair }))) (twice p pos n1 deg k (record { at = w; fair = fair })))).at k x (omega arith) (e.there k x g))

    abbrev pub degrees : HasDegrees p (rebased C n)
    degrees = record {
      big = record { graded = is; twice = twice_again };
      small = deg.small;
      f = record { keeps = λ k x g. deg.f.keeps k x (e.there k x g); respects = deg.f.respects };
      g = record { keeps = λ k y g. Each-so (n.g y) (e.back k) (deg.g.keeps k y g); respects = deg.g.respects };
      h = record { raises = λ k x g. Each-so (n.h x) (e.back (suc k)) (deg.h.raises k x (e.there k x g)); respects = deg.h.respects };
    }

    pub laws_again : (N : ℕ) → Laws p pos n1 deg N → Laws p pos (rebased C n) degrees N
    laws_again N laws = record {
      small = λ w. record { at = λ k y l g. (laws.small w).at k y l g ∙ (kept p pos deg.big.graded.equivalence n.g deg.g (back p pos (agrees N (F p pos n1 deg w)))).at k y l g };
      fg = λ w. record { at = (laws.fg w).at };
      homotopy = λ w. record {
        at = λ k x l g.
            same-plus p _ _ _ _ ((raised p pos deg.big.graded.equivalence n.h deg.h (agrees (suc N) w)).at k x l (e.there k x g))
            (same-plus p _ _ ((F p pos n1 deg (G p pos n1 deg w)).at x) _ ((agrees N (H p pos n1 deg w)).at k x l (e.there k x g)) refl)
            ∙ (laws.homotopy w).at k x l (e.there k x g);
      };
      fh = λ w. record { at = λ k x l g. (laws.fh w).at k x l (e.there k x g) };
      hg = λ w. record { at = (laws.hg w).at };
      hh = λ w. record { at = λ k x l g. (laws.hh w).at k x l (e.there k x g) };
    }

  pub rebased_degrees : (N : ℕ) → IsReductionTo p N n → HasDegrees p (rebased C n)
  rebased_degrees N two = degrees (with_test N two).degrees

  pub rebased_laws : (N : ℕ) (two : IsReductionTo p N n) → Laws p pos (rebased C n) (rebased_degrees N two) N
  unfolding rebased_degrees
  rebased_laws N two = laws_again (with_test N two).degrees N (to_laws p pos (retested C.same n) (with_test N two).degrees N (with_test N two).equations)
