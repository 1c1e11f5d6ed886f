-- The maps of a suspension are those of its part one degree below, and a reduction where these are one.
use Rattle.std.proofs.Common.{◌≡◌, ℕ, zero, suc, ◌+◌, ◌*◌, ◌-◌, ◌%◌, ◌<◌, ◌≤◌, Bool, true, false, Option, Some, None, [], ◌∷◌, refl, sym, ◌∙◌, ap, subst, arith}
use Rattle.std.specs.Prelude.{Contains}
use Rattle.std.specs.Cmp.{Equal-is, eq_by_cmp_equiv}
use Rattle.std.specs.Ordering.{is_eq}
use Rattle.fp_field.specs.Field.{SameMod, IsField}
use Rattle.fp_field.specs.Chains.{Terms, weigh, coeff, scale, Each}
use Rattle.fp_field.specs.Normal.{normal}
use Rattle.fp_field.specs.Reduction.{one, Maps, HasDegrees, IsReductionTo}
use Rattle.fp_field.proofs.Mod.{same-times}
use Rattle.fp_field.proofs.Weights.{weigh-scale, Each-scale}
use Rattle.fp_field.proofs.Normals.{weigh-normal, normal-same}
use Rattle.fp_field.proofs.FlowLaws.{Each-normal}
use Rattle.spaces.specs.Spaces.{Space, suspension, Plain, is_base, set_of}
use Rattle.spaces.specs.SmallCells.{Small, small_degree, small_cmp}
use Rattle.spaces.specs.Orders.{ordered, by_degree}
use Rattle.spaces.specs.Allowed.{IsAllowed}
use Rattle.spaces.proofs.BaseTests.{IsBaseTest}
use Rattle.spaces.proofs.Bases.{space_base}
use Rattle.spaces.proofs.Orders.{Apart, ordered-apart, small-apart}
use Rattle.spaces.proofs.SpaceLaws.{space_set_laws}
use Rattle.spaces.specs.Simplicial.{IsSimplicial}
use Rattle.values.specs.Asks.{Cell, basis, small_d, f as f_at, g as g_at, h as h_at}
use Rattle.values.specs.Rules.{named, lifted}
use Rattle.values.specs.Values.{value}
use Rattle.values.specs.Laws.{maps_of}
use Rattle.values.specs.Ranks.{IsCell}
use Rattle.values.specs.BaseLaws.{IsSmall}
use Rattle.values.proofs.BasesCells.{basis-members}
use Rattle.homology_laws.specs.Suspended.{IsGivenBack}
use Rattle.homology_laws.proofs.CellChains.{cells_of, cells-complex, cells-same}
use Rattle.homology_laws.proofs.Kernel.{degree-apart}
use Rattle.homology_laws.proofs.SmallOrder.{small-total}
use Rattle.homology_laws.proofs.SuspendedCells.{up, up-cell, no-edge, is-up, edge-closed, d-up}
use Rattle.homology_laws.proofs.Moved.{IsRaised, small-edge, raised-equations}

weigh-named : {K J : Type 0} (w : J → ℕ) (f : K → J) (c : Terms K) → weigh w (named f c) ≡ weigh (λ x. w (f x)) c
weigh-named w f [] = refl
weigh-named w f (u ∷ c) = ap (λ n. u.1 * w (f u.0) + n) (weigh-named w f c)

Each-named : {K J : Type 0} (P : K → Type 0) (Q : J → Type 0) (f : K → J) → ((x : K) → P x → Q (f x)) → (c : Terms K) → Each P c → Each Q (named f c)
Each-named P Q f e [] h = tt
Each-named P Q f e (u ∷ c) h = (e u.0 h.0, Each-named P Q f e c h.1)

once : (n : ℕ) → n ≡ 1 * n
once n = omega arith

back : (n : ℕ) → suc n - 1 ≡ n
back n = omega arith

module _ (p : ℕ) (field : IsField p) (a : Space) (is : IsAllowed (suspension a)) (given : IsGivenBack p (suspension a)) where
  pos : 0 < p
  pos = let l : 1 < p = field.one_is_not_zero in omega arith

  abbrev m : Maps (Cell a) (Small a)
  m = maps_of p a

  abbrev M : Maps (Cell (suspension a)) (Small (suspension a))
  M = maps_of p (suspension a)

  laws : IsSimplicial (set_of a)
  laws = space_set_laws a is.0.0

  whole : IsSimplicial (set_of (suspension a))
  whole = space_set_laws (suspension a) is.0

  test : IsBaseTest (set_of a) (is_base a)
  test = space_base a is.0.0

  abbrev name : Small a → Small (suspension a)
  name y = Some y

  abbrev base : Cell (suspension a)
  base = (0, None)

  -- ---- generators

  up-generator : (n : ℕ) (x : Cell a) → m.big.generator (suc n) x → M.big.generator (suc (suc n)) (up x)
  up-generator n x h = (ap suc h.0, up-cell (set_of a) (is_base a) laws test whole n x.1 h.1)

  big-first : (x : Cell (suspension a)) → M.big.generator zero x → x ≡ base
  big-first (n, None) h = λ i. (h.0 i, None)
  big-first (n, Some s) h = absurd (let l : s.0 < 0 = h.1.0.0 in omega arith)

  big-others : (n : ℕ) (x : Cell (suspension a)) → M.big.generator (suc (suc n)) x → (y : Cell a) × m.big.generator (suc n) y × (x ≡ up y)
  big-others n x h =
      let u = is-up (set_of a) (is_base a) laws test whole n x.1 h.1 in
      ((suc n, u.0), (refl, u.1), λ i. (h.0 i, u.2 i))

  base-generator : M.big.generator zero base
  base-generator = (refl, (tt, refl))

  name-generator : (n : ℕ) (y : Small a) → m.small.generator (suc n) y → M.small.generator (suc (suc n)) (name y)
  name-generator n y h =
      let e = (basis-members p a (suc n) y).0 h.1 in
      let d : small_degree a y ≡ suc n = e.0 in
      (ap suc h.0, (basis-members p (suspension a) (suc (suc n)) (name y)).1 (ap suc h.0, (e.1, omega (arith, d))))

  small-first : (y : Small (suspension a)) → M.small.generator zero y → y ≡ None
  small-first None h = refl
  small-first (Some z) h = absurd (let e : suc (small_degree a z) ≡ 0 = h.0 in omega (arith, e))

  small-second : (y : Small (suspension a)) → M.small.generator 1 y → ⊥
  small-second None h = let e : 0 ≡ 1 = h.0 in omega (arith, e)
  small-second (Some z) h =
      let l : 0 < small_degree a z = ((basis-members p (suspension a) 1 (name z)).0 h.1).1.1 in
      let e : suc (small_degree a z) ≡ 1 = h.0 in omega (arith, l, e)

  small-others : (n : ℕ) (y : Small (suspension a)) → M.small.generator (suc (suc n)) y → (z : Small a) × m.small.generator (suc n) z × (y ≡ name z)
  small-others n None h = absurd (let e : 0 ≡ suc (suc n) = h.0 in omega (arith, e))
  small-others n (Some z) h =
      let e : suc (small_degree a z) ≡ suc (suc n) = h.0 in
      let d : small_degree a z ≡ suc n = omega (arith, e) in
      (z, (d, (basis-members p a (suc n) z).1 (d, ((basis-members p (suspension a) (suc (suc n)) (name z)).0 h.1).1.0)), refl)

  first-generator : M.small.generator zero None
  first-generator = (refl, (basis-members p (suspension a) 0 None).1 (refl, tt))

  -- ---- the maps

  -- Up x is a cell in its degree
  up-place : (n : ℕ) (x : Cell a) → m.big.generator (suc n) x → IsCell (suspension a) (suc x.0) (Some (0, x.1))
  up-place n x h = subst (λ j. IsCell (suspension a) (suc j) (Some (0, x.1))) (sym h.0) (up-cell (set_of a) (is_base a) laws test whole n x.1 h.1)

  -- and Up y a small cell in its one
  name-place : (n : ℕ) (y : Small a) → m.small.generator (suc n) y → Contains (value p (basis (suspension a) (suc (small_degree a y)))) (name y)
  name-place n y h = subst (λ j. Contains (value p (basis (suspension a) (suc j))) (name y)) (sym h.0) (name-generator n y h).1

  f-is : (n : ℕ) (x : Cell a) → m.big.generator (suc n) x → M.f (up x) ≡ named name (m.f x)
  f-is n x h = given (f_at (suspension a) (suc x.0) (Some (0, x.1))) refl refl (up-place n x h) ∙ ap (λ j. named name (value p (f_at a j x.1))) (back x.0)

  g-is : (n : ℕ) (y : Small a) → m.small.generator (suc n) y → M.g (name y) ≡ named up (m.g y)
  g-is n y h = given (g_at (suspension a) (name y)) refl refl (name-place n y h)

  h-is : (n : ℕ) (x : Cell a) → m.big.generator (suc n) x → M.h (up x) ≡ normal (by_degree (ordered (suspension a)).cmp) p (scale (p - 1) (named up (m.h x)))
  h-is n x h =
      given (h_at (suspension a) (suc x.0) (Some (0, x.1))) refl refl (up-place n x h)
      ∙ ap (λ j. normal (by_degree (ordered (suspension a)).cmp) p (scale (p - 1) (named up (value p (h_at a j x.1))))) (back x.0)

  small_d-is : (n : ℕ) (y : Small a) → m.small.generator (suc n) y → M.small.d (name y) ≡ normal (small_cmp (suspension a)) p (scale (p - 1) (named name (m.small.d y)))
  small_d-is n y h = given (small_d (suspension a) (name y)) refl refl (name-place n y h)

  f-base : M.f base ≡ one None
  f-base = given (f_at (suspension a) 0 None) refl refl base-generator.1

  g-first : M.g None ≡ one base
  g-first = given (g_at (suspension a) None) refl refl first-generator.1

  h-base : M.h base ≡ []
  h-base = given (h_at (suspension a) 0 None) refl refl base-generator.1

  small_d-first : M.small.d None ≡ []
  small_d-first = given (small_d (suspension a) None) refl refl first-generator.1

  big-apart : Apart (by_degree (ordered (suspension a)).cmp)
  big-apart = degree-apart (ordered (suspension a)).cmp (ordered-apart (suspension a))

  weigh-minus : {K J : Type 0} (w : J → ℕ) (f : K → J) (c : Terms K) → weigh w (scale (p - 1) (named f c)) ≡ (p - 1) * weigh (λ x. w (f x)) c
  weigh-minus w f c = weigh-scale w (p - 1) (named f c) ∙ ap (λ n. (p - 1) * n) (weigh-named w f c)

  raised : IsRaised p pos m M up name base None
  raised = record {
    big_first = big-first;
    big_second = λ x h. no-edge (set_of a) (is_base a) laws test whole x.1 h.1;
    big_others = big-others;
    small_first = small-first;
    small_second = small-second;
    small_others = small-others;
    d_edge = λ x h w. edge-closed (set_of a) (is_base a) laws test whole p pos is.0.1 x h w;
    d_base = refl;
    small_d_first = small_d-first;
    f_base = f-base;
    g_first = g-first;
    h_base = h-base;
    d = λ x h w. d-up (set_of a) (is_base a) laws test whole p pos is.0.1 h.0 x h.1 w;
    small_d = λ y h w. ap (λ c. weigh w c % p) (small_d-is h.0 y h.1) ∙ weigh-normal (small_cmp (suspension a)) p (small-apart (suspension a)) w (scale (p - 1) (named name (m.small.d y)))
        ∙ ap (λ n. n % p) (weigh-minus w name (m.small.d y));
    f = λ x h w. ap (λ n. n % p) (ap (weigh w) (f-is h.0 x h.1) ∙ weigh-named w name (m.f x) ∙ once (weigh (λ y. w (name y)) (m.f x)));
    g = λ y h w. ap (λ n. n % p) (ap (weigh w) (g-is h.0 y h.1) ∙ weigh-named w up (m.g y) ∙ once (weigh (λ x. w (up x)) (m.g y)));
    h = λ x h w. ap (λ c. weigh w c % p) (h-is h.0 x h.1) ∙ weigh-normal (by_degree (ordered (suspension a)).cmp) p big-apart w (scale (p - 1) (named up (m.h x)))
        ∙ ap (λ n. n % p) (weigh-minus w up (m.h x));
  }

  -- ---- degrees

  small-same : (x y : Small (suspension a)) → M.small.same x y ≡ true → x ≡ y
  small-same x y h = small-apart (suspension a) x y ((Equal-is (small_cmp (suspension a) x y)).0 h)

  part-same : (x y : Small a) → m.small.same x y ≡ true → x ≡ y
  part-same x y h = small-apart a x y ((Equal-is (small_cmp a x y)).0 h)

  big-same : (x y : Cell (suspension a)) → M.big.same x y ≡ true → x ≡ y
  big-same x y h = cells-same (set_of (suspension a)) whole p pos x y h

  module _ (N : ℕ) (r : IsReductionTo p (suc N) m) where
    edge-closed-small : (y : Small a) → m.small.generator 1 y → (w : Small a → ℕ) → SameMod p (weigh w (m.small.d y)) 0
    edge-closed-small = small-edge p pos m M up name base None raised N r (λ x y h. cells-same (set_of a) laws p pos x y h) part-same

    -- the differential of a small cell of degree 2 is empty
    second-ends : (y : Small a) → m.small.generator 1 y → M.small.d (name y) ≡ []
    second-ends y h =
        small_d-is 0 y h
        ∙ normal-same (small_cmp (suspension a)) p (small-apart (suspension a)) (small-total (suspension a)) pos (scale (p - 1) (named name (m.small.d y))) []
        (λ w. ap (λ n. n % p) (weigh-minus w name (m.small.d y)) ∙ same-times p (p - 1) _ 0 (edge-closed-small y h (λ z. w (name z))) ∙ ap (λ n. n % p) (none (p - 1)))
      where
        none : (q : ℕ) → q * 0 ≡ 0
        none q = omega arith

    lowers : (n : ℕ) (y : Small (suspension a)) → M.small.generator (suc n) y → Each (M.small.generator n) (M.small.d y)
    lowers zero y h = absurd (small-second y h)
    lowers (suc zero) y h = let o = small-others 0 y h in subst (Each (M.small.generator 1)) (sym (ap M.small.d o.2 ∙ second-ends o.0 o.1)) tt
    lowers (suc (suc n)) y h =
        let o = small-others (suc n) y h in
        subst (Each (M.small.generator (suc (suc n)))) (sym (ap M.small.d o.2 ∙ small_d-is (suc n) o.0 o.1))
        (Each-normal (M.small.generator (suc (suc n))) (small_cmp (suspension a)) p (scale (p - 1) (named name (m.small.d o.0)))
        (Each-scale (M.small.generator (suc (suc n))) (p - 1) (named name (m.small.d o.0))
        (Each-named (m.small.generator (suc n)) (M.small.generator (suc (suc n))) name (name-generator n) (m.small.d o.0) (r.degrees.small.lowers (suc n) o.0 o.1))))

    ends : (y : Small (suspension a)) → M.small.generator zero y → M.small.d y ≡ []
    ends y h = ap M.small.d (small-first y h) ∙ small_d-first

    f-keeps : (n : ℕ) (x : Cell (suspension a)) → M.big.generator n x → Each (M.small.generator n) (M.f x)
    f-keeps zero x h = subst (Each (M.small.generator zero)) (sym (ap M.f (big-first x h) ∙ f-base)) (first-generator, tt)
    f-keeps (suc zero) x h = absurd (no-edge (set_of a) (is_base a) laws test whole x.1 h.1)
    f-keeps (suc (suc n)) x h =
        let o = big-others n x h in
        subst (Each (M.small.generator (suc (suc n)))) (sym (ap M.f o.2 ∙ f-is n o.0 o.1))
        (Each-named (m.small.generator (suc n)) (M.small.generator (suc (suc n))) name (name-generator n) (m.f o.0) (r.degrees.f.keeps (suc n) o.0 o.1))

    g-keeps : (n : ℕ) (y : Small (suspension a)) → M.small.generator n y → Each (M.big.generator n) (M.g y)
    g-keeps zero y h = subst (Each (M.big.generator zero)) (sym (ap M.g (small-first y h) ∙ g-first)) (base-generator, tt)
    g-keeps (suc zero) y h = absurd (small-second y h)
    g-keeps (suc (suc n)) y h =
        let o = small-others n y h in
        subst (Each (M.big.generator (suc (suc n)))) (sym (ap M.g o.2 ∙ g-is n o.0 o.1))
        (Each-named (m.big.generator (suc n)) (M.big.generator (suc (suc n))) up (up-generator n) (m.g o.0) (r.degrees.g.keeps (suc n) o.0 o.1))

    h-raises : (n : ℕ) (x : Cell (suspension a)) → M.big.generator n x → Each (M.big.generator (suc n)) (M.h x)
    h-raises zero x h = subst (Each (M.big.generator 1)) (sym (ap M.h (big-first x h) ∙ h-base)) tt
    h-raises (suc zero) x h = absurd (no-edge (set_of a) (is_base a) laws test whole x.1 h.1)
    h-raises (suc (suc n)) x h =
        let o = big-others n x h in
        subst (Each (M.big.generator (suc (suc (suc n))))) (sym (ap M.h o.2 ∙ h-is n o.0 o.1))
        (Each-normal (M.big.generator (suc (suc (suc n)))) (by_degree (ordered (suspension a)).cmp) p (scale (p - 1) (named up (m.h o.0)))
        (Each-scale (M.big.generator (suc (suc (suc n)))) (p - 1) (named up (m.h o.0))
        (Each-named (m.big.generator (suc (suc n))) (M.big.generator (suc (suc (suc n)))) up (up-generator (suc n)) (m.h o.0) (r.degrees.h.raises (suc n) o.0 o.1))))

    degrees : HasDegrees p M
    degrees = record {
      big = cells-complex (set_of (suspension a)) whole p pos;
      small = record {
        equivalence = eq_by_cmp_equiv (small-total (suspension a));
        lowers = lowers;
        ends = ends;
        respects = λ x y h k. ap (λ z. coeff M.small.same (M.small.d z) k % p) (small-same x y h);
      };
      f = record { keeps = f-keeps; respects = λ x y h k. ap (λ z. coeff M.small.same (M.f z) k % p) (big-same x y h) };
      g = record { keeps = g-keeps; respects = λ x y h k. ap (λ z. coeff M.big.same (M.g z) k % p) (small-same x y h) };
      h = record { raises = h-raises; respects = λ x y h k. ap (λ z. coeff M.big.same (M.h z) k % p) (big-same x y h) };
    }

    pub suspension-reduction_to : IsReductionTo p (suc (suc N)) M
    suspension-reduction_to = record {
      degrees = degrees;
      equations = raised-equations p pos m M up name base None raised N r (λ x y h. cells-same (set_of a) laws p pos x y h) part-same;
    }
