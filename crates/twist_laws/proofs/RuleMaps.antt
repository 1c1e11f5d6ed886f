-- Maps that are given by the rule of a twisted product are a reduction.
use Rattle.std.proofs.Common.{◌≡◌, ℕ, zero, suc, ◌%◌, ◌<◌, true, [], ◌∷◌, ◌++◌, refl, sym, ◌∙◌, ap, subst, ◌+◌, ◌*◌}
use Rattle.std.specs.Cmp.{IsEquivalence}
use Rattle.std.specs.declared.cmp.Ordering.{Ordering}
use Rattle.fp_field.specs.Chains.{Terms, weigh, extend, Each}
use Rattle.fp_field.specs.Normal.{normal}
use Rattle.fp_field.proofs.Weights.{Each-append}
use Rattle.fp_field.proofs.FlowLaws.{Each-normal}
use Rattle.fp_field.specs.Reduction.{SameTerms, one, after, Complex, Maps, IsComplex, HasDegrees, IsReduction, IsReductionTo, Respects}
use Rattle.ez_laws.specs.Sides.{on_keys}
use Rattle.perturb.specs.Perturbation.{IsPerturbation, AreSeries}
use Rattle.twist_laws.proofs.Alike.{Alike, Below, itself, chain, exactly, alike-append, alike-after, alike-extend, alike-normal}
use Rattle.twist_laws.proofs.Carried.{Carries, IsCarried, carried}
use Rattle.twist_laws.proofs.Totals.{Apart, SumsTo, IsTwist, f_at, g_at, h_at, d_at, f-alike, g-alike, h-alike, d-alike, f-stays, g-stays, h-stays, d-stays}
use Rattle.twist_laws.proofs.Whole.{two, difference, whole, whole_meets}

weigh-on_keys : {K J : Type 0} (w : J → ℕ) (b : K → J) (c : Terms K) → weigh w (on_keys b c) ≡ weigh (λ x. w (b x)) c
weigh-on_keys w b [] = refl
weigh-on_keys w b (t ∷ c) = ap (λ n. t.1 * w (b t.0) + n) (weigh-on_keys w b c)

each-on_keys : {K J : Type 0} (P : K → Type 0) (Q : J → Type 0) (b : K → J) → ((x : K) → P x → Q (b x)) → (c : Terms K) → Each P c → Each Q (on_keys b c)
each-on_keys P Q b e [] h = tt
each-on_keys P Q b e (t ∷ c) h = (e t.0 h.0, each-on_keys P Q b e c h.1)

none : {K : Type 0} (c : Terms K) → Each (λ x. ⊥) c → c ≡ []
none [] h = refl
none (t ∷ c) h = absurd h.0

module _ (p : ℕ) (pos : 0 < p) {B B' M S : Type 0} (ez : Maps B M) (D : Complex S) (f2 : M → Terms S) (g2 : S → Terms M) (h2 : M → Terms M)
    (q P1 S1 : B → Terms B) (P2 S2 : M → Terms M) (by_b : B → B → Ordering) (by_m : M → M → Ordering) (by_s : S → S → Ordering)
    (X : Maps B' S) (b : B → B') where
  -- X has the maps of the rule, on generators: those of the first reduction under other names, and those of the tensor product
  pub record IsByRule : Type 0 where
    pub big_to : (n : ℕ) (x : B) → ez.big.generator n x → X.big.generator n (b x)
    pub big_from : (n : ℕ) (x : B') → X.big.generator n x → (y : B) × ez.big.generator n y × (x ≡ b y)
    pub small_to : (n : ℕ) (y : S) → D.generator n y → X.small.generator n y
    pub small_from : (n : ℕ) (y : S) → X.small.generator n y → D.generator n y
    pub big_apart : (x y : B') → X.big.same x y ≡ true → x ≡ y
    pub small_apart : (x y : S) → X.small.same x y ≡ true → x ≡ y
    pub small_equivalence : IsEquivalence X.small.same
    pub complex : IsComplex p X.big
    pub big_d : (n : ℕ) → Carries p (ez.big.generator n) b b (λ x. ez.big.d x ++ q x) X.big.d
    pub f : (n : ℕ) (x : B) → ez.big.generator n x → X.f (b x) ≡ f_at p ez D f2 g2 h2 q by_b by_m by_s n (one x)
    pub g : (n : ℕ) (y : S) → D.generator n y → X.g y ≡ on_keys b (g_at p ez D f2 g2 h2 q by_b by_m by_s n y)
    pub h : (n : ℕ) (x : B) → ez.big.generator n x → X.h (b x) ≡ on_keys b (h_at p ez D f2 g2 h2 q by_b by_m by_s n (one x))
    pub small_d : (n : ℕ) (y : S) → D.generator n y → X.small.d y ≡ normal by_s p (D.d y ++ d_at p ez D f2 g2 h2 q by_b by_m by_s n y)

  module _ (apart_b : Apart by_b) (apart_m : Apart by_m) (apart_s : Apart by_s)
      (same_b : (x y : B) → ez.big.same x y ≡ true → x ≡ y) (same_m : (x y : M) → ez.small.same x y ≡ true → x ≡ y) (same_s : (x y : S) → D.same x y ≡ true → x ≡ y)
      (first : IsReduction p ez) (is1 : IsPerturbation p ez q) (series1 : AreSeries p ez q P1 S1)
      (is_p1 : SumsTo p ez.big by_b (after ez.h q) P1) (is_s1 : SumsTo p ez.big by_b (after q ez.h) S1)
      (series2 : AreSeries p (two p pos ez D f2 g2 h2 q P1 S1) (difference p pos ez D f2 g2 h2 q P1 S1) P2 S2)
      (deg2 : HasDegrees p (two p pos ez D f2 g2 h2 q P1 S1))
      (is_p2 : SumsTo p ez.small by_m (after h2 (difference p pos ez D f2 g2 h2 q P1 S1)) P2)
      (is_s2 : SumsTo p ez.small by_m (after (difference p pos ez D f2 g2 h2 q P1 S1) h2) S2)
      (is : IsByRule) where
    abbrev W : Maps B S
    W = whole p pos ez D f2 g2 h2 q P1 S1 P2 S2

    deg1 : HasDegrees p ez
    deg1 = (first 0).degrees

    twist : IsTwist p ez D f2 g2 h2 q by_b by_m by_s
    twist zero x h = subst (Each (Below ez.big zero)) (sym (is1.ends x h)) tt
    twist (suc n) x h = is1.lowers n x h

    -- ---- the maps, under each weight

    on_f : (n : ℕ) (x : B) → ez.big.generator n x → Alike p (X.f (b x)) (W.f x)
    on_f n x h =
        chain (exactly (is.f n x h))
        (chain (f-alike p ez D f2 g2 h2 q by_b by_m by_s apart_b apart_m apart_s deg1 deg2 twist P1 S1 is_p1 is_s1 P2 S2 is_p2 is_s2 n x h)
        (alike-after f2 S2 (extend ez.f (S1 x))))

    on_g : (n : ℕ) (y : S) → D.generator n y → Alike p (g_at p ez D f2 g2 h2 q by_b by_m by_s n y) (W.g y)
    on_g n y h =
        chain (g-alike p ez D f2 g2 h2 q by_b by_m by_s apart_b apart_m apart_s deg1 deg2 twist P1 S1 is_p1 is_s1 P2 S2 is_p2 is_s2 n y h)
        (alike-after P1 ez.g (extend P2 (g2 y)))

    on_h : (n : ℕ) (x : B) → ez.big.generator n x → Alike p (h_at p ez D f2 g2 h2 q by_b by_m by_s n (one x)) (W.h x)
    on_h n x h =
        chain (h-alike p ez D f2 g2 h2 q by_b by_m by_s apart_b apart_m apart_s deg1 deg2 twist P1 S1 is_p1 is_s1 P2 S2 is_p2 is_s2 n x h)
        (alike-append itself
        (chain (alike-after P1 ez.g (extend P2 (extend h2 (extend ez.f (S1 x)))))
        (alike-extend (after P1 ez.g) (alike-after P2 h2 (extend ez.f (S1 x))))))

    on_d : (n : ℕ) (y : S) → D.generator n y → Alike p (X.small.d y) (W.small.d y)
    on_d n y h =
        chain (exactly (is.small_d n y h))
        (chain (alike-normal by_s apart_s (D.d y ++ d_at p ez D f2 g2 h2 q by_b by_m by_s n y))
        (alike-append itself (d-alike p ez D f2 g2 h2 q by_b by_m by_s apart_b apart_m apart_s deg1 deg2 twist P1 S1 is_p1 is_s1 P2 S2 is_p2 is_s2 n y h)))

    small_below : (n : ℕ) (y : S) → D.generator n y → Each (Below D n) (X.small.d y)
    small_below n y h =
        subst (Each (Below D n)) (sym (is.small_d n y h))
        (Each-normal (Below D n) by_s p (D.d y ++ d_at p ez D f2 g2 h2 q by_b by_m by_s n y)
        (Each-append (Below D n) (D.d y) (d_at p ez D f2 g2 h2 q by_b by_m by_s n y) (first_below n h)
        (d-stays p ez D f2 g2 h2 q by_b by_m by_s apart_b apart_m apart_s deg1 deg2 twist P1 S1 is_p1 is_s1 P2 S2 is_p2 is_s2 n y h)))
      where
        first_below : (n : ℕ) → D.generator n y → Each (Below D n) (D.d y)
        first_below zero g = subst (Each (Below D zero)) (sym (deg2.small.ends y g)) tt
        first_below (suc n) g = deg2.small.lowers n y g

    renamed : {c : Terms B'} {e : Terms B} (f : Terms B) → c ≡ on_keys b f → Alike p f e → (w : B' → ℕ) → Rattle.fp_field.specs.Field.SameMod p (weigh w c) (weigh (λ z. w (b z)) e)
    renamed f r a w = ap (λ c. weigh w c % p) r ∙ ap (λ n. n % p) (weigh-on_keys w b f) ∙ a.at (λ z. w (b z))

    is_carried : IsCarried p pos W X b (λ y. y)
    is_carried = record {
      big_apart = same_b;
      small_apart = same_s;
      big_from = is.big_from;
      small_from = λ n y h. (y, is.small_from n y h, refl);
      d = is.big_d;
      small_d = λ n. record { at = λ y h. (on_d n y h).at };
      f = λ n. record { at = λ x h. (on_f n x h).at };
      g = λ n. record { at = λ y h. renamed (g_at p ez D f2 g2 h2 q by_b by_m by_s n y) (is.g n y h) (on_g n y h) };
      h = λ n. record { at = λ x h. renamed (h_at p ez D f2 g2 h2 q by_b by_m by_s n (one x)) (is.h n x h) (on_h n x h) };
    }

    -- ---- degrees

    one_map : {K J : Type 0} (C : Complex K) (E : Complex J) (f : K → Terms J) → ((x y : K) → C.same x y ≡ true → x ≡ y) → Respects p C E f
    one_map C E f apart x y e = subst (λ z. SameTerms p E.same (f x) (f z)) (apart x y e) (λ k. refl)

    each-so : {P Q : S → Type 0} (c : Terms S) → ((x : S) → P x → Q x) → Each P c → Each Q c
    each-so [] e h = tt
    each-so (t ∷ c) e h = (e t.0 h.0, each-so c e h.1)

    has_degrees : HasDegrees p X
    has_degrees = record {
      big = is.complex;
      small = record {
        equivalence = is.small_equivalence;
        lowers = λ n y h. each-so (X.small.d y) (is.small_to n) (small_below (suc n) y (is.small_from (suc n) y h));
        ends = λ y h. none (X.small.d y) (small_below zero y (is.small_from zero y h));
        respects = one_map X.small X.small X.small.d is.small_apart;
      };
      f = record {
        keeps = λ n x h. let o = is.big_from n x h in
            subst (λ z. Each (X.small.generator n) (X.f z)) (sym o.2) (subst (Each (X.small.generator n)) (sym (is.f n o.0 o.1))
            (each-so (f_at p ez D f2 g2 h2 q by_b by_m by_s n (one o.0)) (is.small_to n)
            (f-stays p ez D f2 g2 h2 q by_b by_m by_s apart_b apart_m apart_s deg1 deg2 twist P1 S1 is_p1 is_s1 P2 S2 is_p2 is_s2 n o.0 o.1)));
        respects = one_map X.big X.small X.f is.big_apart;
      };
      g = record {
        keeps = λ n y h. let i = is.small_from n y h in
            subst (Each (X.big.generator n)) (sym (is.g n y i))
            (each-on_keys (ez.big.generator n) (X.big.generator n) b (is.big_to n) (g_at p ez D f2 g2 h2 q by_b by_m by_s n y)
            (g-stays p ez D f2 g2 h2 q by_b by_m by_s apart_b apart_m apart_s deg1 deg2 twist P1 S1 is_p1 is_s1 P2 S2 is_p2 is_s2 n y i));
        respects = one_map X.small X.big X.g is.small_apart;
      };
      h = record {
        raises = λ n x h. let o = is.big_from n x h in
            subst (λ z. Each (X.big.generator (suc n)) (X.h z)) (sym o.2) (subst (Each (X.big.generator (suc n))) (sym (is.h n o.0 o.1))
            (each-on_keys (ez.big.generator (suc n)) (X.big.generator (suc n)) b (is.big_to (suc n)) (h_at p ez D f2 g2 h2 q by_b by_m by_s n (one o.0))
            (h-stays p ez D f2 g2 h2 q by_b by_m by_s apart_b apart_m apart_s deg1 deg2 twist P1 S1 is_p1 is_s1 P2 S2 is_p2 is_s2 n o.0 o.1)));
        respects = one_map X.big X.big X.h is.big_apart;
      };
    }

    pub by_rule : (N : ℕ) → IsReductionTo p N (two p pos ez D f2 g2 h2 q P1 S1) → IsReductionTo p N X
    by_rule N second =
        carried p pos W X b (λ y. y) is_carried N
        (whole_meets p pos ez D f2 g2 h2 q P1 S1 P2 S2 first is1 series1 same_m series2 N second) has_degrees
