-- The maps of the rule of a twisted product are those of the composition of the two perturbed reductions, on each generator.
use Rattle.std.proofs.Common.{◌≡◌, ℕ, zero, suc, ◌++◌}
use Rattle.std.specs.declared.cmp.Ordering.{Ordering}
use Rattle.std.specs.declared.cmp.Ordering.TheVariants.{Equal}
use Rattle.fp_field.specs.Chains.{Terms, extend, Each}
use Rattle.fp_field.specs.Normal.{normal, apply}
use Rattle.fp_field.specs.Reduction.{one, after, Complex, Maps, HasDegrees}
use Rattle.fp_field.specs.Series.{series}
use Rattle.fp_field.proofs.Weights.{Each-append, Each-extend}
use Rattle.fp_field.proofs.FlowLaws.{Each-normal}
use Rattle.values.proofs.Chains.{steps_of}
use Rattle.twist_laws.proofs.Alike.{Alike, Below, chain, alike-append, alike-extend, alike-normal, alike-after, alike-one}
use Rattle.twist_laws.proofs.Steps.{series-keep, sum-alike, sum-stays}

-- the sum of the first n + 1 terms on chains of degree n is the map P
pub record SumsTo {K : Type 0} (p : ℕ) (C : Complex K) (cmp : K → K → Ordering) (u P : K → Terms K) : Type 0 where
  pub keeps : (n : ℕ) (x : K) → C.generator n x → Each (C.generator n) (P x)
  pub sums : (n : ℕ) (c : Terms K) → Each (C.generator n) c → Alike p (series cmp p (suc n) u c) (extend P c)

abbrev pub Apart : {K : Type 0} → (K → K → Ordering) → Type 0
Apart {K} cmp = (x y : K) → cmp x y ≡ Equal → x ≡ y

module _ (p : ℕ) {B M S : Type 0} (ez : Maps B M) (D : Complex S) (f2 : M → Terms S) (g2 : S → Terms M) (h2 : M → Terms M) (q : B → Terms B)
    (by_b : B → B → Ordering) (by_m : M → M → Ordering) (by_s : S → S → Ordering) where
  abbrev pub second : Maps M S
  second = record { big = ez.small; small = D; f = f2; g = g2; h = h2 }

  -- ---- the rule, on chains

  abbrev pub p1_at : ℕ → Terms B → Terms B
  p1_at n c = series by_b p (suc n) (after ez.h q) c

  abbrev pub s1_at : ℕ → Terms B → Terms B
  s1_at n c = series by_b p (suc n) (after q ez.h) c

  abbrev pub r_at : ℕ → Terms M → Terms M
  r_at n c = apply by_m p ez.f (apply by_b p q (p1_at n (apply by_b p ez.g c)))

  abbrev pub p2_at : ℕ → Terms M → Terms M
  p2_at n c = normal by_m p (steps_of by_m p (suc n) (λ e. apply by_m p h2 (r_at n e)) c)

  abbrev pub s2_at : ℕ → Terms M → Terms M
  s2_at n c = normal by_m p (steps_of by_m p (suc n) (λ e. r_at (suc n) (apply by_m p h2 e)) c)

  abbrev pub f_at : ℕ → Terms B → Terms S
  f_at n c = apply by_s p f2 (s2_at n (apply by_m p ez.f (s1_at n c)))

  abbrev pub g_at : ℕ → S → Terms B
  g_at n y = p1_at n (apply by_b p ez.g (p2_at n (g2 y)))

  abbrev pub h_at : ℕ → Terms B → Terms B
  h_at n c = normal by_b p (p1_at (suc n) (apply by_b p ez.h c) ++ p1_at (suc n) (apply by_b p ez.g (p2_at (suc n) (apply by_m p h2 (apply by_m p ez.f (s1_at n c))))))

  abbrev pub d_at : ℕ → S → Terms S
  d_at n y = apply by_s p f2 (r_at n (p2_at n (g2 y)))

  -- q has degree -1
  abbrev pub IsTwist : Type 0
  IsTwist = (n : ℕ) (x : B) → ez.big.generator n x → Each (Below ez.big n) (q x)

  module _ (apart_b : Apart by_b) (apart_m : Apart by_m) (apart_s : Apart by_s) (deg1 : HasDegrees p ez) (deg2 : HasDegrees p second) (twist : IsTwist) (P1 S1 : B → Terms B)
      (is_p1 : SumsTo p ez.big by_b (after ez.h q) P1) (is_s1 : SumsTo p ez.big by_b (after q ez.h) S1) where
    abbrev GB : ℕ → B → Type 0
    GB = ez.big.generator

    abbrev GM : ℕ → M → Type 0
    GM = ez.small.generator

    abbrev GS : ℕ → S → Type 0
    GS = D.generator

    -- ---- degrees of the maps of the first reduction

    f1-below : (n : ℕ) (x : B) → Below ez.big n x → Each (Below ez.small n) (ez.f x)
    f1-below zero x e = absurd e
    f1-below (suc n) x e = deg1.f.keeps n x e

    h1-over : (n : ℕ) (x : B) → Below ez.big n x → Each (GB n) (ez.h x)
    h1-over zero x e = absurd e
    h1-over (suc n) x e = deg1.h.raises n x e

    h2-over : (n : ℕ) (z : M) → Below ez.small n z → Each (GM n) (h2 z)
    h2-over zero x e = absurd e
    h2-over (suc n) x e = deg2.h.raises n x e

    -- k q and q k keep degrees
    hq-keeps : (n : ℕ) (x : B) → GB n x → Each (GB n) (after ez.h q x)
    hq-keeps n x h = Each-extend (GB n) (Below ez.big n) ez.h (h1-over n) (q x) (twist n x h)

    qh-keeps : (n : ℕ) (x : B) → GB n x → Each (GB n) (after q ez.h x)
    qh-keeps n x h = Each-extend (GB n) (GB (suc n)) q (twist (suc n)) (ez.h x) (deg1.h.raises n x h)

    p1-keeps : (n : ℕ) (c : Terms B) → Each (GB n) c → Each (GB n) (p1_at n c)
    p1-keeps n c h = series-keep p by_b apart_b (GB n) (after ez.h q) (hq-keeps n) (suc n) c h

    s1-keeps : (n : ℕ) (c : Terms B) → Each (GB n) c → Each (GB n) (s1_at n c)
    s1-keeps n c h = series-keep p by_b apart_b (GB n) (after q ez.h) (qh-keeps n) (suc n) c h

    -- maps on whole chains
    applied : {K J : Type 0} (by : J → J → Ordering) (P : J → Type 0) (Q : K → Type 0) (u : K → Terms J) → ((x : K) → Q x → Each P (u x)) → (c : Terms K) → Each Q c
        → Each P (apply by p u c)
    applied by P Q u e c h = Each-normal P by p (extend u c) (Each-extend P Q u e c h)

    applied-alike : {K J : Type 0} (by : J → J → Ordering) → Apart by → (u : K → Terms J) (c d : Terms K) → Alike p c d → Alike p (apply by p u c) (extend u d)
    applied-alike by apart u c d e = chain (alike-normal by apart (extend u c)) (alike-extend u e)

    -- ---- the transferred difference

    abbrev pub r_of : M → Terms M
    r_of z = extend ez.f (extend q (extend P1 (ez.g z)))

    g1-applied : (n : ℕ) (c : Terms M) → Each (GM n) c → Each (GB n) (apply by_b p ez.g c)
    g1-applied n c h = applied by_b (GB n) (GM n) ez.g (deg1.g.keeps n) c h

    pub r-below : (n : ℕ) (c : Terms M) → Each (GM n) c → Each (Below ez.small n) (r_at n c)
    r-below n c h =
        applied by_m (Below ez.small n) (Below ez.big n) ez.f (f1-below n) (apply by_b p q (p1_at n (apply by_b p ez.g c)))
        (applied by_b (Below ez.big n) (GB n) q (twist n) (p1_at n (apply by_b p ez.g c)) (p1-keeps n (apply by_b p ez.g c) (g1-applied n c h)))

    pub r_of-below : (n : ℕ) (z : M) → GM n z → Each (Below ez.small n) (r_of z)
    r_of-below n z h =
        Each-extend (Below ez.small n) (Below ez.big n) ez.f (f1-below n) (extend q (extend P1 (ez.g z)))
        (Each-extend (Below ez.big n) (GB n) q (twist n) (extend P1 (ez.g z)) (Each-extend (GB n) (GB n) P1 (is_p1.keeps n) (ez.g z) (deg1.g.keeps n z h)))

    r-together : (c : Terms M) → Alike p (extend ez.f (extend q (extend P1 (extend ez.g c)))) (extend r_of c)
    r-together c =
        chain (alike-extend ez.f (chain (alike-extend q (alike-after P1 ez.g c)) (alike-after q (after P1 ez.g) c))) (alike-after ez.f (after q (after P1 ez.g)) c)

    r-alike : (n : ℕ) (c : Terms M) → Each (GM n) c → Alike p (r_at n c) (extend r_of c)
    r-alike n c h =
        chain (applied-alike by_m apart_m ez.f _ _ (applied-alike by_b apart_b q _ _
        (chain (is_p1.sums n (apply by_b p ez.g c) (g1-applied n c h)) (alike-extend P1 (alike-normal by_b apart_b (extend ez.g c)))))) (r-together c)

    -- ---- the second series

    module _ (P2 S2 : M → Terms M) (is_p2 : SumsTo p ez.small by_m (after h2 r_of) P2) (is_s2 : SumsTo p ez.small by_m (after r_of h2) S2) where
      pub h2-applied : (n : ℕ) (c : Terms M) → Each (GM n) c → Each (GM (suc n)) (apply by_m p h2 c)
      h2-applied n c h = applied by_m (GM (suc n)) (GM n) h2 (deg2.h.raises n) c h

      hr-keeps : (n : ℕ) (z : M) → GM n z → Each (GM n) (after h2 r_of z)
      hr-keeps n z h = Each-extend (GM n) (Below ez.small n) h2 (h2-over n) (r_of z) (r_of-below n z h)

      rh-keeps : (n : ℕ) (z : M) → GM n z → Each (GM n) (after r_of h2 z)
      rh-keeps n z h = Each-extend (GM n) (GM (suc n)) r_of (r_of-below (suc n)) (h2 z) (deg2.h.raises n z h)

      hr-alike : (n : ℕ) (c : Terms M) → Each (GM n) c → Alike p (apply by_m p h2 (r_at n c)) (extend (after h2 r_of) c)
      hr-alike n c h = chain (applied-alike by_m apart_m h2 _ _ (r-alike n c h)) (alike-after h2 r_of c)

      pub hr-stays : (n : ℕ) (c : Terms M) → Each (GM n) c → Each (GM n) (apply by_m p h2 (r_at n c))
      hr-stays n c h = applied by_m (GM n) (Below ez.small n) h2 (h2-over n) (r_at n c) (r-below n c h)

      rh-alike : (n : ℕ) (c : Terms M) → Each (GM n) c → Alike p (r_at (suc n) (apply by_m p h2 c)) (extend (after r_of h2) c)
      rh-alike n c h =
          chain (r-alike (suc n) (apply by_m p h2 c) (h2-applied n c h)) (chain (alike-extend r_of (alike-normal by_m apart_m (extend h2 c))) (alike-after r_of h2 c))

      pub rh-stays : (n : ℕ) (c : Terms M) → Each (GM n) c → Each (GM n) (r_at (suc n) (apply by_m p h2 c))
      rh-stays n c h = r-below (suc n) (apply by_m p h2 c) (h2-applied n c h)

      p2-alike : (n : ℕ) (c : Terms M) → Each (GM n) c → Alike p (p2_at n c) (extend P2 c)
      p2-alike n c h =
          chain (sum-alike p by_m apart_m (GM n) (after h2 r_of) (hr-keeps n) (λ e. apply by_m p h2 (r_at n e)) (hr-alike n) (hr-stays n) (suc n) c h) (is_p2.sums n c h)

      pub p2-stays : (n : ℕ) (c : Terms M) → Each (GM n) c → Each (GM n) (p2_at n c)
      p2-stays n c h = sum-stays p by_m apart_m (GM n) (after h2 r_of) (hr-keeps n) (λ e. apply by_m p h2 (r_at n e)) (hr-alike n) (hr-stays n) (suc n) c h

      s2-alike : (n : ℕ) (c : Terms M) → Each (GM n) c → Alike p (s2_at n c) (extend S2 c)
      s2-alike n c h =
          chain (sum-alike p by_m apart_m (GM n) (after r_of h2) (rh-keeps n) (λ e. r_at (suc n) (apply by_m p h2 e)) (rh-alike n) (rh-stays n) (suc n) c h) (is_s2.sums n c h)

      pub s2-stays : (n : ℕ) (c : Terms M) → Each (GM n) c → Each (GM n) (s2_at n c)
      s2-stays n c h = sum-stays p by_m apart_m (GM n) (after r_of h2) (rh-keeps n) (λ e. r_at (suc n) (apply by_m p h2 e)) (rh-alike n) (rh-stays n) (suc n) c h

      -- ---- the four maps on generators

      module _ (n : ℕ) (x : B) (is : GB n x) where
        abbrev first : Terms M
        first = apply by_m p ez.f (s1_at n (one x))

        pub first-stays : Each (GM n) first
        first-stays = applied by_m (GM n) (GB n) ez.f (deg1.f.keeps n) (s1_at n (one x)) (s1-keeps n (one x) (is, tt))

        first-alike : Alike p first (extend ez.f (S1 x))
        first-alike = applied-alike by_m apart_m ez.f _ _ (chain (is_s1.sums n (one x) (is, tt)) (alike-one S1 x))

        pub f-alike : Alike p (f_at n (one x)) (extend f2 (extend S2 (extend ez.f (S1 x))))
        f-alike = applied-alike by_s apart_s f2 _ _ (chain (s2-alike n first first-stays) (alike-extend S2 first-alike))

        pub f-stays : Each (GS n) (f_at n (one x))
        f-stays = applied by_s (GS n) (GM n) f2 (deg2.f.keeps n) (s2_at n first) (s2-stays n first first-stays)

        abbrev second_h : Terms M
        second_h = apply by_m p h2 first

        second_h-stays : Each (GM (suc n)) second_h
        second_h-stays = h2-applied n first first-stays

        moved_k : Each (GB (suc n)) (apply by_b p ez.h (one x))
        moved_k = applied by_b (GB (suc n)) (GB n) ez.h (deg1.h.raises n) (one x) (is, tt)

        abbrev last : Terms B
        last = apply by_b p ez.g (p2_at (suc n) second_h)

        last-stays : Each (GB (suc n)) last
        last-stays = g1-applied (suc n) (p2_at (suc n) second_h) (p2-stays (suc n) second_h second_h-stays)

        last-alike : Alike p last (extend ez.g (extend P2 (extend h2 (extend ez.f (S1 x)))))
        last-alike = applied-alike by_b apart_b ez.g _ _ (chain (p2-alike (suc n) second_h second_h-stays) (alike-extend P2 (applied-alike by_m apart_m h2 _ _ first-alike)))

        pub h-alike : Alike p (h_at n (one x)) (extend P1 (ez.h x) ++ extend P1 (extend ez.g (extend P2 (extend h2 (extend ez.f (S1 x))))))
        h-alike =
            chain (alike-normal by_b apart_b _)
            (alike-append
            (chain (is_p1.sums (suc n) _ moved_k) (alike-extend P1 (chain (alike-normal by_b apart_b _) (alike-one ez.h x))))
            (chain (is_p1.sums (suc n) last last-stays) (alike-extend P1 last-alike)))

        pub h-stays : Each (GB (suc n)) (h_at n (one x))
        h-stays =
            Each-normal (GB (suc n)) by_b p _
            (Each-append (GB (suc n)) (p1_at (suc n) (apply by_b p ez.h (one x))) (p1_at (suc n) last) (p1-keeps (suc n) _ moved_k) (p1-keeps (suc n) last last-stays))

      module _ (n : ℕ) (y : S) (is : GS n y) where
        abbrev middle : Terms M
        middle = p2_at n (g2 y)

        middle-stays : Each (GM n) middle
        middle-stays = p2-stays n (g2 y) (deg2.g.keeps n y is)

        middle-alike : Alike p middle (extend P2 (g2 y))
        middle-alike = p2-alike n (g2 y) (deg2.g.keeps n y is)

        pub g-alike : Alike p (g_at n y) (extend P1 (extend ez.g (extend P2 (g2 y))))
        g-alike = chain (is_p1.sums n _ (g1-applied n middle middle-stays)) (alike-extend P1 (applied-alike by_b apart_b ez.g _ _ middle-alike))

        pub g-stays : Each (GB n) (g_at n y)
        g-stays = p1-keeps n _ (g1-applied n middle middle-stays)

        pub d-alike : Alike p (d_at n y) (extend f2 (extend r_of (extend P2 (g2 y))))
        d-alike = applied-alike by_s apart_s f2 _ _ (chain (r-alike n middle middle-stays) (alike-extend r_of middle-alike))

        pub d-stays : Each (Below D n) (d_at n y)
        d-stays = applied by_s (Below D n) (Below ez.small n) f2 (f2-below n) (r_at n middle) (r-below n middle middle-stays)
          where
            f2-below : (n : ℕ) (z : M) → Below ez.small n z → Each (Below D n) (f2 z)
            f2-below zero z e = absurd e
            f2-below (suc n) z e = deg2.f.keeps n z e
