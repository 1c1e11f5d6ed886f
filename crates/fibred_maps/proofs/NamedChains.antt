-- Maps that agree in the names of the code agree on chains, after one another, and along a series.
use Rattle.std.proofs.Common.{◌≡◌, ℕ, zero, suc, ◌-◌, ◌*◌, [], ◌∷◌, ◌++◌, refl, sym, ◌∙◌, ap}
use Rattle.std.specs.declared.cmp.Ordering.{Ordering}
use Rattle.std.specs.declared.cmp.Ordering.TheVariants.{Equal}
use Rattle.std.specs.Cmp.{IsTotalOrder}
use Rattle.fp_field.specs.declared.prime.Prime.{Prime}
use Rattle.fp_field.specs.Field.{number}
use Rattle.fp_field.specs.Chains.{Terms, Each, scale, extend}
use Rattle.fp_field.specs.Normal.{normal, apply}
use Rattle.fp_field.specs.Reduction.{after}
use Rattle.fp_field.specs.Series.{terms_of_series, series}
use Rattle.fp_field.proofs.Primes.{number_pos}
use Rattle.fp_field.proofs.Weights.{Each-append, Each-scale, Each-extend}
use Rattle.fp_field.proofs.Normals.{normal-extend}
use Rattle.fp_field.proofs.FlowLaws.{Each-normal}
use Rattle.values.specs.Rules.{named}
use Rattle.oracle_iface.proofs.CarriedChains.{carried-normal}
use Rattle.reduct_laws.proofs.NormalSteps.{normal-append, normal-scale}
use Rattle.fibred_maps.specs.Joined.{Keeps, Carries}

-- an order of keys in which equal keys are one
pub record Tells {K : Type 0} (cmp : K → K → Ordering) : Type 0 where
  pub one_key : (x y : K) → cmp x y ≡ Equal → x ≡ y
  pub total : IsTotalOrder cmp

module _ {A B : Type 0} (q : A → B) where
  pub named-append : (c d : Terms A) → named q (c ++ d) ≡ named q c ++ named q d
  named-append [] d = refl
  named-append (t ∷ c) d = ap (λ e. (q t.0, t.1) ∷ e) (named-append c d)

  pub named-scale : (n : ℕ) (c : Terms A) → scale n (named q c) ≡ named q (scale n c)
  named-scale n [] = refl
  named-scale n (t ∷ c) = ap (λ e. (q t.0, n * t.1) ∷ e) (named-scale n c)

-- a map on chains of one normal form
pub extend-alike : {C D : Type 0} (v : Prime) (by : C → C → Ordering) (ob : Tells by) (cmp : D → D → Ordering) (oc : Tells cmp) (g : C → Terms D)
    (c d : Terms C) → normal by (number v) c ≡ normal by (number v) d → normal cmp (number v) (extend g c) ≡ normal cmp (number v) (extend g d)
extend-alike v by ob cmp oc g c d e =
    sym (normal-extend by ob.one_key cmp oc.one_key oc.total (number v) (number_pos v) g c)
    ∙ ap (λ z. normal cmp (number v) (extend g z)) e
    ∙ normal-extend by ob.one_key cmp oc.one_key oc.total (number v) (number_pos v) g d

module _ {A B C D : Type 0} (v : Prime) (cmp : D → D → Ordering) (oc : Tells cmp) (P : A → Type 0) (Q : C → Type 0) (q : A → B) (r : C → D)
    (f : A → Terms C) (g : B → Terms D) (h : Carries (number v) cmp P Q q r f g) where
  abbrev p : ℕ
  p = number v

  term-read : (n : ℕ) (x : A) → P x → normal cmp p (scale n (g (q x))) ≡ normal cmp p (named r (scale n (f x)))
  term-read n x u =
      sym (normal-scale cmp oc.one_key oc.total v n (g (q x)))
      ∙ ap (λ d. normal cmp p (scale n d)) (h.read x u)
      ∙ normal-scale cmp oc.one_key oc.total v n (named r (f x))
      ∙ ap (normal cmp p) (named-scale r n (f x))

  pub extend-read : (c : Terms A) → Each P c → normal cmp p (extend g (named q c)) ≡ normal cmp p (named r (extend f c))
  extend-read [] e = refl
  extend-read (t ∷ c) e =
      sym (normal-append cmp oc.one_key oc.total v (scale t.1 (g (q t.0))) (extend g (named q c)))
      ∙ (λ i. normal cmp p (term-read t.1 t.0 e.0 i ++ extend-read c e.1 i))
      ∙ normal-append cmp oc.one_key oc.total v (named r (scale t.1 (f t.0))) (named r (extend f c))
      ∙ ap (normal cmp p) (sym (named-append r (scale t.1 (f t.0)) (extend f c)))

  pub extend-each : (c : Terms A) → Each P c → Each Q (extend f c)
  extend-each c e = Each-extend Q P f h.has c e

  module _ (by : C → C → Ordering) where
    pub apply-each : (c : Terms A) → Each P c → Each Q (apply by p f c)
    apply-each c e = Each-normal Q by p (extend f c) (extend-each c e)

    pub apply-carried : Keeps r by cmp Q → (c : Terms A) → Each P c → apply cmp p g (named q c) ≡ named r (apply by p f c)
    apply-carried keeps c e = extend-read c e ∙ carried-normal r by cmp p Q keeps (extend f c) (extend-each c e)

-- one map after another
pub after-carried : {A B C D E F : Type 0} (v : Prime) (by : D → D → Ordering) (ob : Tells by) (cmp : F → F → Ordering) (oc : Tells cmp)
    (P : A → Type 0) (Q : C → Type 0) (R : E → Type 0) (q : A → B) (r : C → D) (s : E → F)
    (f : A → Terms C) (g : B → Terms D) (f' : C → Terms E) (g' : D → Terms F)
    → Carries (number v) by P Q q r f g → Carries (number v) cmp Q R r s f' g' → Carries (number v) cmp P R q s (after f' f) (after g' g)
after-carried v by ob cmp oc P Q R q r s f g f' g' h k = record {
  read = λ x u. extend-alike v by ob cmp oc g' (g (q x)) (named r (f x)) (h.read x u) ∙ extend-read v cmp oc Q R r s f' g' k (f x) (h.has x u);
  has = λ x u. extend-each v cmp oc Q R r s f' g' k (f x) (h.has x u);
}

module _ {A B : Type 0} (v : Prime) (by : A → A → Ordering) (cmp : B → B → Ordering) (oc : Tells cmp) (P : A → Type 0) (q : A → B) (keeps : Keeps q by cmp P) where
  abbrev u : ℕ
  u = number v

  named-minus : (c : Terms A) → Each P c → normal cmp u (scale (u - 1) (named q c)) ≡ named q (normal by u (scale (u - 1) c))
  named-minus c e =
      ap (normal cmp u) (named-scale q (u - 1) c) ∙ carried-normal q by cmp u P keeps (scale (u - 1) c) (Each-scale P (u - 1) c e)

  -- minus a chain whose normal form has this name
  pub minus-carried : (c : Terms A) (d : Terms B) → Each P c → normal cmp u d ≡ named q c → normal cmp u (scale (u - 1) d) ≡ named q (normal by u (scale (u - 1) c))
  minus-carried c d e h =
      sym (normal-scale cmp oc.one_key oc.total v (u - 1) d) ∙ ap (λ z. normal cmp u (scale (u - 1) z)) h ∙ named-minus c e

  minus-alike : (c : Terms A) (d : Terms B) → Each P c → normal cmp u d ≡ normal cmp u (named q c) → normal cmp u (scale (u - 1) d) ≡ named q (normal by u (scale (u - 1) c))
  minus-alike c d e h =
      sym (normal-scale cmp oc.one_key oc.total v (u - 1) d) ∙ ap (λ z. normal cmp u (scale (u - 1) z)) h
      ∙ normal-scale cmp oc.one_key oc.total v (u - 1) (named q c) ∙ named-minus c e

  pub minus-each : (c : Terms A) → Each P c → Each P (normal by u (scale (u - 1) c))
  minus-each c e = Each-normal P by u (scale (u - 1) c) (Each-scale P (u - 1) c e)

  -- the series of a map
  module _ (t : A → Terms A) (t' : B → Terms B) (h : Carries u cmp P P q q t t') where
    abbrev next : Terms A → Terms A
    next c = normal by u (scale (u - 1) (extend t c))

    next-each : (c : Terms A) → Each P c → Each P (next c)
    next-each c e = minus-each (extend t c) (extend-each v cmp oc P P q q t t' h c e)

    next-carried : (c : Terms A) → Each P c → normal cmp u (scale (u - 1) (extend t' (named q c))) ≡ named q (next c)
    next-carried c e =
        minus-alike (extend t c) (extend t' (named q c)) (extend-each v cmp oc P P q q t t' h c e) (extend-read v cmp oc P P q q t t' h c e)

    terms-each : (n : ℕ) (c : Terms A) → Each P c → Each P (terms_of_series by u n t c)
    terms-each zero c e = tt
    terms-each (suc n) c e = Each-append P c (terms_of_series by u n t (next c)) e (terms-each n (next c) (next-each c e))

    terms-carried : (n : ℕ) (c : Terms A) → Each P c → terms_of_series cmp u n t' (named q c) ≡ named q (terms_of_series by u n t c)
    terms-carried zero c e = refl
    terms-carried (suc n) c e =
        ap (λ d. named q c ++ terms_of_series cmp u n t' d) (next-carried c e)
        ∙ ap (λ d. named q c ++ d) (terms-carried n (next c) (next-each c e))
        ∙ sym (named-append q c (terms_of_series by u n t (next c)))

    pub series-each : (n : ℕ) (c : Terms A) → Each P c → Each P (series by u n t c)
    series-each n c e = Each-normal P by u (terms_of_series by u n t c) (terms-each n c e)

    pub series-carried : (n : ℕ) (c : Terms A) → Each P c → series cmp u n t' (named q c) ≡ named q (series by u n t c)
    series-carried n c e =
        ap (normal cmp u) (terms-carried n c e) ∙ carried-normal q by cmp u P keeps (terms_of_series by u n t c) (terms-each n c e)
