-- Weights that do not tell equal keys apart, what maps of generators do to them, and where two of them agree.
use Rattle.std.proofs.Common.{◌≡◌, ℕ, zero, suc, ◌+◌, ◌%◌, ◌<◌, ◌≤◌, [], ◌∷◌, Bool, refl, sym, ◌∙◌, ap, subst, arith}
use Rattle.std.specs.Cmp.{IsEquivalence}
use Rattle.fp_field.specs.Field.{SameMod}
use Rattle.fp_field.specs.Chains.{Terms, weigh}
use Rattle.fp_field.specs.Reduction.{Complex, Respects, IsGraded, KeepsDegrees, RaisesDegrees}
use Rattle.fp_field.proofs.Mod.{same-plus}
use Rattle.fp_field.proofs.Weights.{weigh-mod, weigh-plus}
use Rattle.fp_field.proofs.Fair.{Fair, pull, pull-fair}
use Rattle.reduct_laws.proofs.Modular.{cancel}

pub weigh-nothing : {K : Type 0} (c : Terms K) → weigh (λ x. 0) c ≡ 0
weigh-nothing [] = refl
weigh-nothing (t ∷ c) = omega (arith, weigh-nothing c)

module _ (p : ℕ) (pos : 0 < p) where
  pub record Weight {K : Type 0} (same : K → K → Bool) : Type 0 where
    pub at : K → ℕ
    pub fair : Fair p pos same at

  module _ {K : Type 0} {same : K → K → Bool} where
    abbrev pub plus : Weight same → Weight same → Weight same
    plus v w = record { at = λ x. v.at x + w.at x; fair = λ x y e. same-plus p (v.at x) (v.at y) (w.at x) (w.at y) (v.fair x y e) (w.fair x y e) }

    abbrev pub nothing : Weight same
    nothing = record { at = λ x. 0; fair = λ x y e. refl }

  -- the weight of an image, as a weight
  abbrev pub along : {K J : Type 0} (C : Complex K) (D : Complex J) → IsEquivalence D.same → (f : K → Terms J) → Respects p C D f → Weight D.same → Weight C.same
  along C D eq f r w = record { at = pull p pos f w.at; fair = pull-fair p pos C D eq f r w.at w.fair }

  -- the same numbers, in F_p, at the generators of degree at most N
  pub record Agree {K : Type 0} (C : Complex K) (N : ℕ) (v w : Weight C.same) : Type 0 where
    pub at : (n : ℕ) (x : K) → n ≤ N → C.generator n x → SameMod p (v.at x) (w.at x)

  module _ {K : Type 0} {C : Complex K} {N : ℕ} where
    pub itself : {v : Weight C.same} → Agree C N v v
    itself = record { at = λ n x l g. refl }

    pub chain : {u v w : Weight C.same} → Agree C N u v → Agree C N v w → Agree C N u w
    chain a b = record { at = λ n x l g. a.at n x l g ∙ b.at n x l g }

    pub back : {v w : Weight C.same} → Agree C N v w → Agree C N w v
    back a = record { at = λ n x l g. sym (a.at n x l g) }

    pub both : {t u v w : Weight C.same} → Agree C N t u → Agree C N v w → Agree C N (plus t v) (plus u w)
    both {t = t} {u = u} {v = v} {w = w} a b = record { at = λ n x l g. same-plus p (t.at x) (u.at x) (v.at x) (w.at x) (a.at n x l g) (b.at n x l g) }

    pub exact : (v w : Weight C.same) → ((x : K) → v.at x ≡ w.at x) → Agree C N v w
    exact v w e = record { at = λ n x l g. ap (λ m. m % p) (e x) }

    pub less : {v w : Weight C.same} → Agree C (suc N) v w → Agree C N v w
    less a = record { at = λ n x l g. a.at n x (omega (arith, l)) g }

    pub cancelled : (u v w : Weight C.same) → Agree C N (plus u v) (plus u w) → Agree C N v w
    cancelled u v w a = record { at = λ n x l g. cancel p pos (u.at x) (v.at x) (w.at x) (a.at n x l g) }

    pub none_left : (v : Weight C.same) → Agree C N (plus nothing v) v
    none_left v = exact (plus nothing v) v (λ x. let e : 0 + v.at x ≡ v.at x = omega arith in e)

    pub swapped : (v w : Weight C.same) → Agree C N (plus v w) (plus w v)
    swapped v w = exact (plus v w) (plus w v) (λ x. let e : v.at x + w.at x ≡ w.at x + v.at x = omega arith in e)

  -- sums go through maps
  module _ {K J : Type 0} (C : Complex K) (D : Complex J) (eq : IsEquivalence D.same) (f : K → Terms J) (r : Respects p C D f) {N : ℕ} where
    pub along-plus : (v w : Weight D.same) → Agree C N (along C D eq f r (plus v w)) (plus (along C D eq f r v) (along C D eq f r w))
    along-plus v w = exact (along C D eq f r (plus v w)) (plus (along C D eq f r v) (along C D eq f r w)) (λ x. weigh-plus v.at w.at (f x))

    pub along-nothing : Agree C N (along C D eq f r nothing) nothing
    along-nothing = exact (along C D eq f r nothing) nothing (λ x. weigh-nothing (f x))

  pub kept : {K J : Type 0} {C : Complex K} {D : Complex J} (eq : IsEquivalence D.same) (f : K → Terms J) (is : KeepsDegrees p C D f) {N : ℕ} {v w : Weight D.same}
      → Agree D N v w → Agree C N (along C D eq f is.respects v) (along C D eq f is.respects w)
  kept {D = D} eq f is {v = v} {w = w} a = record { at = λ n x l g. weigh-mod (D.generator n) p v.at w.at (λ j q. a.at n j l q) (f x) (is.keeps n x g) }

  pub raised : {K : Type 0} {C : Complex K} (eq : IsEquivalence C.same) (h : K → Terms K) (is : RaisesDegrees p C h) {N : ℕ} {v w : Weight C.same}
      → Agree C (suc N) v w → Agree C N (along C C eq h is.respects v) (along C C eq h is.respects w)
  raised {C = C} eq h is {v = v} {w = w} a = record { at = λ n x l g. weigh-mod (C.generator (suc n)) p v.at w.at (λ j q. a.at (suc n) j (omega (arith, l)) q) (h x) (is.raises n x g) }

  pub lowered : {K : Type 0} {C : Complex K} (is : IsGraded p C) {N : ℕ} {v w : Weight C.same}
      → Agree C N v w → Agree C N (along C C is.equivalence C.d is.respects v) (along C C is.equivalence C.d is.respects w)
  lowered {C = C} is {N = N} {v = v} {w = w} a = record { at = at_degree }
    where
      at_degree : (n : ℕ) (x : _) → n ≤ N → C.generator n x → SameMod p (weigh v.at (C.d x)) (weigh w.at (C.d x))
      at_degree zero x l g = subst (λ c. SameMod p (weigh v.at c) (weigh w.at c)) (sym (is.ends x g)) refl
      at_degree (suc n) x l g = weigh-mod (C.generator n) p v.at w.at (λ j q. a.at n j (omega (arith, l)) q) (C.d x) (is.lowers n x g)
