-- The six equations in weights are the equations of a reduction.
use Rattle.std.proofs.Common.{◌≡◌, ℕ, ◌+◌, ◌%◌, ◌<◌, ◌≤◌, [], ◌++◌, sym, ◌∙◌, ap, arith}
use Rattle.std.specs.Cmp.{IsEquivalence}
use Rattle.fp_field.specs.Chains.{weigh, extend}
use Rattle.fp_field.specs.Reduction.{SameTerms, after, one, Maps, HasDegrees, HasEquations, IsReductionTo}
use Rattle.fp_field.proofs.Weights.{weigh-append, weigh-extend, weigh-mod}
use Rattle.fp_field.proofs.Fair.{under, from_weights, pull, pull-fair}
use Rattle.reduct_laws.proofs.SixLaws.{Laws, g_turned, f_turned, small_twice}

pub weigh-one : {K : Type 0} (w : K → ℕ) (x : K) → weigh w (one x) ≡ w x
weigh-one w x = omega arith

-- The equations from which the others follow: the small d is f d g, f g = 1, d h + h d + g f = 1, f h = 0, h g = 0 and h h = 0.
pub record SixEquations {B S : Type 0} (p N : ℕ) (m : Maps B S) : Type 0 where
  pub small_d : (n : ℕ) (y : S) → n ≤ N → m.small.generator n y → SameTerms p m.small.same (m.small.d y) (extend m.f (after m.big.d m.g y))
  pub fg : (n : ℕ) (y : S) → n ≤ N → m.small.generator n y → SameTerms p m.small.same (after m.f m.g y) (one y)
  pub homotopy : (n : ℕ) (x : B) → n ≤ N → m.big.generator n x
      → SameTerms p m.big.same (after m.big.d m.h x ++ (after m.h m.big.d x ++ after m.g m.f x)) (one x)
  pub fh : (n : ℕ) (x : B) → n ≤ N → m.big.generator n x → SameTerms p m.small.same (after m.f m.h x) []
  pub hg : (n : ℕ) (y : S) → n ≤ N → m.small.generator n y → SameTerms p m.big.same (after m.h m.g y) []
  pub hh : (n : ℕ) (x : B) → n ≤ N → m.big.generator n x → SameTerms p m.big.same (after m.h m.h x) []

module _ (p : ℕ) (pos : 0 < p) {B S : Type 0} (m : Maps B S) (deg : HasDegrees p m) where
  big_eq : IsEquivalence m.big.same
  big_eq = deg.big.graded.equivalence

  small_eq : IsEquivalence m.small.same
  small_eq = deg.small.equivalence

  three : (w : B → ℕ) (x : B) → weigh w (after m.big.d m.h x ++ (after m.h m.big.d x ++ after m.g m.f x))
      ≡ weigh (pull p pos m.big.d w) (m.h x) + (weigh (pull p pos m.h w) (m.big.d x) + weigh (pull p pos m.g w) (m.f x))
  three w x = omega (
    arith,
    weigh-append w (after m.big.d m.h x) (after m.h m.big.d x ++ after m.g m.f x),
    weigh-append w (after m.h m.big.d x) (after m.g m.f x),
    weigh-extend w m.big.d (m.h x),
    weigh-extend w m.h (m.big.d x),
    weigh-extend w m.g (m.f x),
  )

  module _ (N : ℕ) where
    pub from_laws : Laws p pos m deg N → HasEquations p N m
    from_laws laws = record {
      f_commutes = λ n x l g. from_weights p pos m.small.same small_eq (after m.small.d m.f x) (after m.f m.big.d x) (λ w fair.
          ap (λ r. r % p) (weigh-extend w m.small.d (m.f x)) ∙ (f_turned p pos m deg N laws (record { at = w; fair = fair })).at n x l g ∙ ap (λ r. r % p) (sym (weigh-extend w m.f (m.big.d x))));
      g_commutes = λ n y l g. from_weights p pos m.big.same big_eq (after m.big.d m.g y) (after m.g m.small.d y) (λ w fair.
          ap (λ r. r % p) (weigh-extend w m.big.d (m.g y)) ∙ (g_turned p pos m deg N laws (record { at = w; fair = fair })).at n y l g ∙ ap (λ r. r % p) (sym (weigh-extend w m.g (m.small.d y))));
      twice = λ n y l g. from_weights p pos m.small.same small_eq (after m.small.d m.small.d y) [] (λ w fair.
          ap (λ r. r % p) (weigh-extend w m.small.d (m.small.d y)) ∙ (small_twice p pos m deg N laws (record { at = w; fair = fair })).at n y l g);
      fg = λ n y l g. from_weights p pos m.small.same small_eq (after m.f m.g y) (one y) (λ w fair.
          ap (λ r. r % p) (weigh-extend w m.f (m.g y)) ∙ (laws.fg (record { at = w; fair = fair })).at n y l g ∙ ap (λ r. r % p) (sym (weigh-one w y)));
      homotopy = λ n x l g. from_weights p pos m.big.same big_eq (after m.big.d m.h x ++ (after m.h m.big.d x ++ after m.g m.f x)) (one x) (λ w fair.
          ap (λ r. r % p) (three w x) ∙ (laws.homotopy (record { at = w; fair = fair })).at n x l g ∙ ap (λ r. r % p) (sym (weigh-one w x)));
      fh = λ n x l g. from_weights p pos m.small.same small_eq (after m.f m.h x) [] (λ w fair.
          ap (λ r. r % p) (weigh-extend w m.f (m.h x)) ∙ (laws.fh (record { at = w; fair = fair })).at n x l g);
      hg = λ n y l g. from_weights p pos m.big.same big_eq (after m.h m.g y) [] (λ w fair.
          ap (λ r. r % p) (weigh-extend w m.h (m.g y)) ∙ (laws.hg (record { at = w; fair = fair })).at n y l g);
      hh = λ n x l g. from_weights p pos m.big.same big_eq (after m.h m.h x) [] (λ w fair.
          ap (λ r. r % p) (weigh-extend w m.h (m.h x)) ∙ (laws.hh (record { at = w; fair = fair })).at n x l g);
    }

    pub six_laws : SixEquations p N m → Laws p pos m deg N
    six_laws six = record {
      small = λ w. record {
        at = λ n y l g.
            under p pos m.small.same small_eq w.at w.fair (m.small.d y) (extend m.f (after m.big.d m.g y)) (six.small_d n y l g)
            ∙ ap (λ r. r % p) (weigh-extend w.at m.f (after m.big.d m.g y) ∙ weigh-extend (pull p pos m.f w.at) m.big.d (m.g y));
      };
      fg = λ w. record {
        at = λ n y l g.
            ap (λ r. r % p) (sym (weigh-extend w.at m.f (m.g y))) ∙ under p pos m.small.same small_eq w.at w.fair (after m.f m.g y) (one y) (six.fg n y l g)
            ∙ ap (λ r. r % p) (weigh-one w.at y);
      };
      homotopy = λ w. record {
        at = λ n x l g.
            ap (λ r. r % p) (sym (three w.at x)) ∙ under p pos m.big.same big_eq w.at w.fair (after m.big.d m.h x ++ (after m.h m.big.d x ++ after m.g m.f x)) (one x) (six.homotopy n x l g)
            ∙ ap (λ r. r % p) (weigh-one w.at x);
      };
      fh = λ w. record {
        at = λ n x l g.
            ap (λ r. r % p) (sym (weigh-extend w.at m.f (m.h x))) ∙ under p pos m.small.same small_eq w.at w.fair (after m.f m.h x) [] (six.fh n x l g);
      };
      hg = λ w. record {
        at = λ n y l g.
            ap (λ r. r % p) (sym (weigh-extend w.at m.h (m.g y))) ∙ under p pos m.big.same big_eq w.at w.fair (after m.h m.g y) [] (six.hg n y l g);
      };
      hh = λ w. record {
        at = λ n x l g.
            ap (λ r. r % p) (sym (weigh-extend w.at m.h (m.h x))) ∙ under p pos m.big.same big_eq w.at w.fair (after m.h m.h x) [] (six.hh n x l g);
      };
    }

    -- the six are among the equations: f d g = d' f g = d'
    pub six_of : HasEquations p N m → SixEquations p N m
    six_of eqs = record { small_d = small_d; fg = eqs.fg; homotopy = eqs.homotopy; fh = eqs.fh; hg = eqs.hg; hh = eqs.hh }
      where
        small_d : (n : ℕ) (y : S) → n ≤ N → m.small.generator n y → SameTerms p m.small.same (m.small.d y) (extend m.f (after m.big.d m.g y))
        small_d n y l g = from_weights p pos m.small.same small_eq (m.small.d y) (extend m.f (after m.big.d m.g y)) (λ w fair.
            sym (under p pos m.small.same small_eq (pull p pos m.small.d w) (pull-fair p pos m.small m.small small_eq m.small.d deg.small.respects w fair) (after m.f m.g y) (one y) (eqs.fg n y l g)
            ∙ ap (λ r. r % p) (weigh-one (pull p pos m.small.d w) y))
            ∙ ap (λ r. r % p) (weigh-extend (pull p pos m.small.d w) m.f (m.g y))
            ∙ weigh-mod (m.big.generator n) p (pull p pos m.f (pull p pos m.small.d w)) (pull p pos m.big.d (pull p pos m.f w)) (λ x q.
            ap (λ r. r % p) (sym (weigh-extend w m.small.d (m.f x))) ∙ under p pos m.small.same small_eq w fair (after m.small.d m.f x) (after m.f m.big.d x) (eqs.f_commutes n x l q)
            ∙ ap (λ r. r % p) (weigh-extend w m.f (m.big.d x))) (m.g y) (deg.g.keeps n y g)
            ∙ ap (λ r. r % p) (sym (weigh-extend w m.f (after m.big.d m.g y) ∙ weigh-extend (pull p pos m.f w) m.big.d (m.g y))))

    pub to_laws : HasEquations p N m → Laws p pos m deg N
    to_laws eqs = six_laws (six_of eqs)

  pub is_reduction : (N : ℕ) → Laws p pos m deg N → IsReductionTo p N m
  is_reduction N laws = record { degrees = deg; equations = from_laws N laws }

  -- the other equations follow from the six
  pub others_follow : (N : ℕ) → SixEquations p N m → IsReductionTo p N m
  others_follow N six = is_reduction N (six_laws N six)
