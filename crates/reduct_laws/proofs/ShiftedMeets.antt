-- A reduction shifted up is a reduction, and one shifted down is where h d is 0 on the big generators of degree 1.
use Rattle.std.proofs.Common.{◌≡◌, ℕ, zero, suc, ◌+◌, ◌*◌, ◌-◌, ◌%◌, ◌<◌, ◌≤◌, [], ◌∷◌, Bool, true, false, cond, refl, sym, ◌∙◌, ap, subst, arith}
use Rattle.std.specs.Cmp.{IsEquivalence}
use Rattle.fp_field.specs.Field.{SameMod}
use Rattle.fp_field.specs.Chains.{Terms, weigh, scale, Each, extend}
use Rattle.fp_field.specs.Reduction.{SameTerms, after, Complex, Maps, Respects, IsGraded, IsComplex, IsDifferential, HasDegrees, IsReductionTo}
use Rattle.fp_field.proofs.Mod.{same-plus, same-times, same-by, pred-times}
use Rattle.fp_field.proofs.Weights.{weigh-extend, weigh-scale, weigh-along, Each-scale}
use Rattle.fp_field.proofs.Fair.{under, from_weights, pull}
use Rattle.reduct_laws.specs.Shifts.{shifted_generator, is_last, shifted_complex, shifted}
use Rattle.reduct_laws.proofs.Fairly.{Weight, weigh-nothing}
use Rattle.reduct_laws.proofs.SixLaws.{Laws}
use Rattle.reduct_laws.proofs.Equations.{to_laws, is_reduction}

weigh-times : {K : Type 0} (a : ℕ) (v : K → ℕ) (c : Terms K) → weigh (λ k. a * v k) c ≡ a * weigh v c
weigh-times a v [] = omega arith
weigh-times a v (t ∷ c) = omega (arith, weigh-times a v c, swapped t.1 a (v t.0))
  where
    swapped : (x y z : ℕ) → x * (y * z) ≡ y * (x * z)
    swapped x y z = omega arith

module _ (p : ℕ) (pos : 0 < p) where
  -- minus minus
  minus_minus : (x : ℕ) → SameMod p ((p - 1) * ((p - 1) * x)) x
  minus_minus x = same-by p ((p - 1) * ((p - 1) * x)) x x ((p - 1) * x) (omega (arith, pred-times p x pos, pred-times p ((p - 1) * x) pos))

  module _ {J : Type 0} (same : J → J → Bool) (eq : IsEquivalence same) where
    -- minus a chain that is the same
    minus_same : (c d : Terms J) → SameTerms p same c d → SameTerms p same (scale (p - 1) c) (scale (p - 1) d)
    minus_same c d h = from_weights p pos same eq (scale (p - 1) c) (scale (p - 1) d) (λ w fair.
        ap (λ m. m % p) (weigh-scale w (p - 1) c) ∙ same-times p (p - 1) _ _ (under p pos same eq w fair c d h) ∙ ap (λ m. m % p) (sym (weigh-scale w (p - 1) d)))

  -- minus d, as a weight that is pulled back, on a chain
  minus_along : {K J : Type 0} (d : K → Terms J) (v : J → ℕ) (c : Terms K) → weigh (λ k. weigh v (scale (p - 1) (d k))) c ≡ (p - 1) * weigh (pull p pos d v) c
  minus_along d v c = ap (λ u. weigh u c) (λ i k. weigh-scale v (p - 1) (d k) i) ∙ weigh-times (p - 1) (pull p pos d v) c

  -- the three parts of the homotopy equation, with two signs each
  signs : (a b c goal : ℕ) → SameMod p (a + (b + c)) goal → SameMod p ((p - 1) * ((p - 1) * a) + ((p - 1) * ((p - 1) * b) + c)) goal
  signs a b c goal e = same-plus p _ a _ (b + c) (minus_minus a) (same-plus p _ b c c (minus_minus b) refl) ∙ e

  module _ {K : Type 0} (degree : K → ℕ) (C : Complex K) where
    abbrev U : Complex K
    U = shifted_complex p true degree C

    up_graded : IsGraded p C → IsGraded p U
    up_graded is = record {
      equivalence = is.equivalence;
      lowers = lowers;
      ends = λ x g. absurd g;
      respects = λ x y e. minus_same C.same is.equivalence (C.d x) (C.d y) (is.respects x y e);
    }
      where
        lowers : (n : ℕ) (x : K) → C.generator n x → Each (shifted_generator true C.generator n) (scale (p - 1) (C.d x))
        lowers zero x g = subst (λ c. Each (shifted_generator true C.generator zero) (scale (p - 1) c)) (sym (is.ends x g)) tt
        lowers (suc n) x g = Each-scale (C.generator n) (p - 1) (C.d x) (is.lowers n x g)

    up_complex : IsComplex p C → IsComplex p U
    up_complex is = record { graded = up_graded is.graded; twice = twice }
      where
        twice : IsDifferential p U
        twice zero x g = absurd g
        twice (suc n) x g = from_weights p pos C.same is.graded.equivalence (after U.d U.d x) [] (λ w fair.
            ap (λ m. m % p) (weigh-extend w U.d (scale (p - 1) (C.d x)) ∙ weigh-scale (pull p pos U.d w) (p - 1) (C.d x) ∙ ap (λ r. (p - 1) * r) (minus_along C.d w (C.d x)))
            ∙ minus_minus (weigh (pull p pos C.d w) (C.d x))
            ∙ ap (λ m. m % p) (sym (weigh-extend w C.d (C.d x)))
            ∙ under p pos C.same is.graded.equivalence w fair (after C.d C.d x) [] (is.twice n x g))

  module _ {B S : Type 0} (bd : B → ℕ) (sd : S → ℕ) (m : Maps B S) (dm : HasDegrees p m) where
    abbrev M : Maps B S
    M = shifted p true bd sd m

    f_keeps : (n : ℕ) (x : B) → M.big.generator n x → Each (M.small.generator n) (m.f x)
    f_keeps zero x g = absurd g
    f_keeps (suc n) x g = dm.f.keeps n x g

    g_keeps : (n : ℕ) (y : S) → M.small.generator n y → Each (M.big.generator n) (m.g y)
    g_keeps zero y g = absurd g
    g_keeps (suc n) y g = dm.g.keeps n y g

    h_raises : (n : ℕ) (x : B) → M.big.generator n x → Each (M.big.generator (suc n)) (scale (p - 1) (m.h x))
    h_raises zero x g = absurd g
    h_raises (suc n) x g = Each-scale (m.big.generator (suc n)) (p - 1) (m.h x) (dm.h.raises n x g)

    abbrev up_degrees : HasDegrees p M
    up_degrees = record {
      big = up_complex bd m.big dm.big;
      small = up_graded sd m.small dm.small;
      f = record { keeps = f_keeps; respects = dm.f.respects };
      g = record { keeps = g_keeps; respects = dm.g.respects };
      h = record { raises = h_raises; respects = λ x y e. minus_same m.big.same dm.big.graded.equivalence (m.h x) (m.h y) (dm.h.respects x y e) };
    }

    module _ (N : ℕ) (laws : Laws p pos m dm N) where
      small_at : (w : Weight p pos m.small.same) (n : ℕ) (y : S) → n ≤ suc N → M.small.generator n y
          → SameMod p (weigh w.at (M.small.d y)) (weigh (pull p pos M.big.d (pull p pos m.f w.at)) (m.g y))
      small_at w zero y l g = absurd g
      small_at w (suc n) y l g =
          ap (λ r. r % p) (weigh-scale w.at (p - 1) (m.small.d y)) ∙ same-times p (p - 1) _ _ ((laws.small w).at n y (omega (arith, l)) g)
          ∙ ap (λ r. r % p) (sym (minus_along m.big.d (pull p pos m.f w.at) (m.g y)))

      fg_at : (w : Weight p pos m.small.same) (n : ℕ) (y : S) → n ≤ suc N → M.small.generator n y → SameMod p (weigh (pull p pos m.f w.at) (m.g y)) (w.at y)
      fg_at w zero y l g = absurd g
      fg_at w (suc n) y l g = (laws.fg w).at n y (omega (arith, l)) g

      homotopy_at : (w : Weight p pos m.big.same) (n : ℕ) (x : B) → n ≤ suc N → M.big.generator n x
          → SameMod p (weigh (pull p pos M.big.d w.at) (M.h x) + (weigh (pull p pos M.h w.at) (M.big.d x) + weigh (pull p pos m.g w.at) (m.f x))) (w.at x)
      homotopy_at w zero x l g = absurd g
      homotopy_at w (suc n) x l g =
          ap (λ r. r % p) (λ i. a i + (b i + weigh (pull p pos m.g w.at) (m.f x)))
          ∙ signs (weigh (pull p pos m.big.d w.at) (m.h x)) (weigh (pull p pos m.h w.at) (m.big.d x)) (weigh (pull p pos m.g w.at) (m.f x)) (w.at x) ((laws.homotopy w).at n x (omega (arith, l)) g)
        where
          a : weigh (pull p pos M.big.d w.at) (M.h x) ≡ (p - 1) * ((p - 1) * weigh (pull p pos m.big.d w.at) (m.h x))
          a = weigh-scale (pull p pos M.big.d w.at) (p - 1) (m.h x) ∙ ap (λ r. (p - 1) * r) (minus_along m.big.d w.at (m.h x))

          b : weigh (pull p pos M.h w.at) (M.big.d x) ≡ (p - 1) * ((p - 1) * weigh (pull p pos m.h w.at) (m.big.d x))
          b = weigh-scale (pull p pos M.h w.at) (p - 1) (m.big.d x) ∙ ap (λ r. (p - 1) * r) (minus_along m.h w.at (m.big.d x))

      fh_at : (w : Weight p pos m.small.same) (n : ℕ) (x : B) → n ≤ suc N → M.big.generator n x → SameMod p (weigh (pull p pos m.f w.at) (M.h x)) 0
      fh_at w zero x l g = absurd g
      fh_at w (suc n) x l g =
          ap (λ r. r % p) (weigh-scale (pull p pos m.f w.at) (p - 1) (m.h x)) ∙ same-times p (p - 1) _ 0 ((laws.fh w).at n x (omega (arith, l)) g)
          ∙ ap (λ r. r % p) (let e : (p - 1) * 0 ≡ 0 = omega arith in e)

      hg_at : (w : Weight p pos m.big.same) (n : ℕ) (y : S) → n ≤ suc N → M.small.generator n y → SameMod p (weigh (pull p pos M.h w.at) (m.g y)) 0
      hg_at w zero y l g = absurd g
      hg_at w (suc n) y l g =
          ap (λ r. r % p) (minus_along m.h w.at (m.g y)) ∙ same-times p (p - 1) _ 0 ((laws.hg w).at n y (omega (arith, l)) g)
          ∙ ap (λ r. r % p) (let e : (p - 1) * 0 ≡ 0 = omega arith in e)

      hh_at : (w : Weight p pos m.big.same) (n : ℕ) (x : B) → n ≤ suc N → M.big.generator n x → SameMod p (weigh (pull p pos M.h w.at) (M.h x)) 0
      hh_at w zero x l g = absurd g
      hh_at w (suc n) x l g =
          ap (λ r. r % p) (weigh-scale (pull p pos M.h w.at) (p - 1) (m.h x) ∙ ap (λ r. (p - 1) * r) (minus_along m.h w.at (m.h x)))
          ∙ minus_minus (weigh (pull p pos m.h w.at) (m.h x)) ∙ (laws.hh w).at n x (omega (arith, l)) g

      up_laws : Laws p pos M up_degrees (suc N)
      up_laws = record {
        small = λ w. record { at = small_at w };
        fg = λ w. record { at = fg_at w };
        homotopy = λ w. record { at = homotopy_at w };
        fh = λ w. record { at = fh_at w };
        hg = λ w. record { at = hg_at w };
        hh = λ w. record { at = hh_at w };
      }

  pub shifted_up_meets : {B S : Type 0} (bd : B → ℕ) (sd : S → ℕ) (m : Maps B S) (N : ℕ) → IsReductionTo p N m → IsReductionTo p (suc N) (shifted p true bd sd m)
  shifted_up_meets bd sd m N one' =
      is_reduction p pos (shifted p true bd sd m) (up_degrees bd sd m one'.degrees) (suc N) (up_laws bd sd m one'.degrees N (to_laws p pos m one'.degrees N one'.equations))

  -- down
  module _ {K : Type 0} (degree : K → ℕ) (C : Complex K) (graded : (n : ℕ) (x : K) → C.generator n x → degree x ≡ n) (alike : (x y : K) → C.same x y ≡ true → degree x ≡ degree y) where
    abbrev V : Complex K
    V = shifted_complex p false degree C

    d_last : (x : K) → C.generator 1 x → V.d x ≡ []
    d_last x g = ap (λ n. cond (is_last false n) [] (scale (p - 1) (C.d x))) (graded 1 x g)

    d_rest : (n : ℕ) (x : K) → C.generator (suc (suc n)) x → V.d x ≡ scale (p - 1) (C.d x)
    d_rest n x g = ap (λ n. cond (is_last false n) [] (scale (p - 1) (C.d x))) (graded (suc (suc n)) x g)

    -- the differential on chains of one degree
    along_last : (v : K → ℕ) (c : Terms K) → Each (C.generator 1) c → weigh (λ k. weigh v (V.d k)) c ≡ 0
    along_last v c is = weigh-along (C.generator 1) (λ k. weigh v (V.d k)) (λ k. 0) (λ k g. ap (weigh v) (d_last k g)) c is ∙ weigh-nothing c

    along_rest : (n : ℕ) (v : K → ℕ) (c : Terms K) → Each (C.generator (suc (suc n))) c → weigh (λ k. weigh v (V.d k)) c ≡ (p - 1) * weigh (pull p pos C.d v) c
    along_rest n v c is =
        weigh-along (C.generator (suc (suc n))) (λ k. weigh v (V.d k)) (λ k. weigh v (scale (p - 1) (C.d k))) (λ k g. ap (weigh v) (d_rest n k g)) c is ∙ minus_along C.d v c

    down_respects : IsEquivalence C.same → Respects p C C C.d → Respects p V V V.d
    down_respects eq r x y e = by (is_last false (degree x)) (is_last false (degree y)) (ap (is_last false) (alike x y e))
      where
        by : (a b : Bool) → a ≡ b → SameTerms p C.same (cond a [] (scale (p - 1) (C.d x))) (cond b [] (scale (p - 1) (C.d y)))
        by a b q = subst (λ z. SameTerms p C.same (cond a [] (scale (p - 1) (C.d x))) (cond z [] (scale (p - 1) (C.d y)))) q (here a)
          where
            here : (z : Bool) → SameTerms p C.same (cond z [] (scale (p - 1) (C.d x))) (cond z [] (scale (p - 1) (C.d y)))
            here true = λ k. refl
            here false = minus_same C.same eq (C.d x) (C.d y) (r x y e)

    down_graded : IsGraded p C → IsGraded p V
    down_graded is = record {
      equivalence = is.equivalence;
      lowers = λ n x g. subst (Each (C.generator (suc n))) (sym (d_rest n x g)) (Each-scale (C.generator (suc n)) (p - 1) (C.d x) (is.lowers (suc n) x g));
      ends = d_last;
      respects = down_respects is.equivalence is.respects;
    }

    down_complex : IsComplex p C → IsComplex p V
    down_complex is = record { graded = down_graded is.graded; twice = twice }
      where
        twice : IsDifferential p V
        twice zero x g = subst (λ c. SameTerms p C.same (extend V.d c) []) (sym (d_last x g)) (λ k. refl)
        twice (suc zero) x g = from_weights p pos C.same is.graded.equivalence (after V.d V.d x) [] (λ w fair.
            ap (λ m. m % p) (weigh-extend w V.d (V.d x) ∙ along_last w (V.d x) ((down_graded is.graded).lowers zero x g)))
        twice (suc (suc n)) x g = from_weights p pos C.same is.graded.equivalence (after V.d V.d x) [] (λ w fair.
            ap (λ m. m % p) (weigh-extend w V.d (V.d x) ∙ along_rest n w (V.d x) ((down_graded is.graded).lowers (suc n) x g)
            ∙ ap (λ c. (p - 1) * weigh (pull p pos C.d w) c) (d_rest (suc n) x g) ∙ ap (λ r. (p - 1) * r) (weigh-scale (pull p pos C.d w) (p - 1) (C.d x)))
            ∙ minus_minus (weigh (pull p pos C.d w) (C.d x))
            ∙ ap (λ m. m % p) (sym (weigh-extend w C.d (C.d x)))
            ∙ under p pos C.same is.graded.equivalence w fair (after C.d C.d x) [] (is.twice (suc (suc (suc n))) x g))

  module _ {B S : Type 0} (bd : B → ℕ) (sd : S → ℕ) (m : Maps B S) (dm : HasDegrees p m)
      (b_graded : (n : ℕ) (x : B) → m.big.generator n x → bd x ≡ n) (b_alike : (x y : B) → m.big.same x y ≡ true → bd x ≡ bd y)
      (s_graded : (n : ℕ) (y : S) → m.small.generator n y → sd y ≡ n) (s_alike : (x y : S) → m.small.same x y ≡ true → sd x ≡ sd y) where
    abbrev W : Maps B S
    W = shifted p false bd sd m

    abbrev down_degrees : HasDegrees p W
    down_degrees = record {
      big = down_complex bd m.big b_graded b_alike dm.big;
      small = down_graded sd m.small s_graded s_alike dm.small;
      f = record { keeps = λ n x g. dm.f.keeps (suc n) x g; respects = dm.f.respects };
      g = record { keeps = λ n y g. dm.g.keeps (suc n) y g; respects = dm.g.respects };
      h = record {
        raises = λ n x g. Each-scale (m.big.generator (suc (suc n))) (p - 1) (m.h x) (dm.h.raises (suc n) x g);
        respects = λ x y e. minus_same m.big.same dm.big.graded.equivalence (m.h x) (m.h y) (dm.h.respects x y e);
      };
    }

    module _ (N : ℕ) (laws : Laws p pos m dm (suc N)) (hd : (x : B) → m.big.generator 1 x → SameTerms p m.big.same (after m.h m.big.d x) []) where
      small_down : (w : Weight p pos m.small.same) (n : ℕ) (y : S) → n ≤ N → W.small.generator n y
          → SameMod p (weigh w.at (W.small.d y)) (weigh (pull p pos W.big.d (pull p pos m.f w.at)) (m.g y))
      small_down w zero y l g =
          ap (λ r. r % p) (ap (weigh w.at) (d_last sd m.small s_graded s_alike y g)
          ∙ sym (along_last bd m.big b_graded b_alike (pull p pos m.f w.at) (m.g y) (dm.g.keeps 1 y g)))
      small_down w (suc n) y l g =
          ap (λ r. r % p) (ap (weigh w.at) (d_rest sd m.small s_graded s_alike n y g) ∙ weigh-scale w.at (p - 1) (m.small.d y))
          ∙ same-times p (p - 1) _ _ ((laws.small w).at (suc (suc n)) y (omega (arith, l)) g)
          ∙ ap (λ r. r % p) (sym (along_rest bd m.big b_graded b_alike n (pull p pos m.f w.at) (m.g y) (dm.g.keeps (suc (suc n)) y g)))

      d_after_h : (w : Weight p pos m.big.same) (n : ℕ) (x : B) → W.big.generator n x
          → weigh (pull p pos W.big.d w.at) (W.h x) ≡ (p - 1) * ((p - 1) * weigh (pull p pos m.big.d w.at) (m.h x))
      d_after_h w n x g =
          weigh-scale (pull p pos W.big.d w.at) (p - 1) (m.h x) ∙ ap (λ r. (p - 1) * r) (along_rest bd m.big b_graded b_alike n w.at (m.h x) (dm.h.raises (suc n) x g))

      homotopy_down : (w : Weight p pos m.big.same) (n : ℕ) (x : B) → n ≤ N → W.big.generator n x
          → SameMod p (weigh (pull p pos W.big.d w.at) (W.h x) + (weigh (pull p pos W.h w.at) (W.big.d x) + weigh (pull p pos m.g w.at) (m.f x))) (w.at x)
      homotopy_down w zero x l g =
          same-plus p _ (weigh (pull p pos m.big.d w.at) (m.h x)) _ _ (ap (λ r. r % p) (d_after_h w zero x g) ∙ minus_minus _)
          (same-plus p _ (weigh (pull p pos m.h w.at) (m.big.d x)) (weigh (pull p pos m.g w.at) (m.f x)) _
          (ap (λ r. r % p) (ap (weigh (pull p pos W.h w.at)) (d_last bd m.big b_graded b_alike x g))
          ∙ sym (under p pos m.big.same dm.big.graded.equivalence w.at w.fair (after m.h m.big.d x) [] (hd x g)) ∙ ap (λ r. r % p) (weigh-extend w.at m.h (m.big.d x))) refl)
          ∙ (laws.homotopy w).at 1 x (omega (arith, l)) g
      homotopy_down w (suc n) x l g =
          ap (λ r. r % p) (λ i. d_after_h w (suc n) x g i + (b i + weigh (pull p pos m.g w.at) (m.f x)))
          ∙ signs (weigh (pull p pos m.big.d w.at) (m.h x)) (weigh (pull p pos m.h w.at) (m.big.d x)) (weigh (pull p pos m.g w.at) (m.f x)) (w.at x)
          ((laws.homotopy w).at (suc (suc n)) x (omega (arith, l)) g)
        where
          b : weigh (pull p pos W.h w.at) (W.big.d x) ≡ (p - 1) * ((p - 1) * weigh (pull p pos m.h w.at) (m.big.d x))
          b = ap (weigh (pull p pos W.h w.at)) (d_rest bd m.big b_graded b_alike n x g) ∙ weigh-scale (pull p pos W.h w.at) (p - 1) (m.big.d x)
              ∙ ap (λ r. (p - 1) * r) (minus_along m.h w.at (m.big.d x))

      down_laws : Laws p pos W down_degrees N
      down_laws = record {
        small = λ w. record { at = small_down w };
        fg = λ w. record { at = λ n y l g. (laws.fg w).at (suc n) y (omega (arith, l)) g };
        homotopy = λ w. record { at = homotopy_down w };
        fh = λ w. record {
          at = λ n x l g.
              ap (λ r. r % p) (weigh-scale (pull p pos m.f w.at) (p - 1) (m.h x)) ∙ same-times p (p - 1) _ 0 ((laws.fh w).at (suc n) x (omega (arith, l)) g)
              ∙ ap (λ r. r % p) (let e : (p - 1) * 0 ≡ 0 = omega arith in e);
        };
        hg = λ w. record {
          at = λ n y l g.
              ap (λ r. r % p) (minus_along m.h w.at (m.g y)) ∙ same-times p (p - 1) _ 0 ((laws.hg w).at (suc n) y (omega (arith, l)) g)
              ∙ ap (λ r. r % p) (let e : (p - 1) * 0 ≡ 0 = omega arith in e);
        };
        hh = λ w. record {
          at = λ n x l g.
              ap (λ r. r % p) (weigh-scale (pull p pos W.h w.at) (p - 1) (m.h x) ∙ ap (λ r. (p - 1) * r) (minus_along m.h w.at (m.h x)))
              ∙ minus_minus (weigh (pull p pos m.h w.at) (m.h x)) ∙ (laws.hh w).at (suc n) x (omega (arith, l)) g;
        };
      }

    pub shifted_down_meets : (N : ℕ) → IsReductionTo p (suc N) m → ((x : B) → m.big.generator 1 x → SameTerms p m.big.same (after m.h m.big.d x) []) → IsReductionTo p N W
    shifted_down_meets N one' hd = is_reduction p pos W down_degrees N (down_laws N (to_laws p pos m dm (suc N) one'.equations) hd)
