-- A map of keys that keeps their order carries the image of a chain under a map, its normal form, and the series of a map.
use Rattle.std.proofs.Common.{◌≡◌, ℕ, zero, suc, ◌-◌, ◌*◌, List, [], ◌∷◌, ◌++◌, Option, refl, sym, ◌∙◌, ap, subst}
use Rattle.std.specs.declared.cmp.Ordering.{Ordering}
use Rattle.fp_field.specs.Chains.{Terms, Each, scale, extend}
use Rattle.fp_field.specs.Normal.{normal, apply}
use Rattle.fp_field.specs.Reduction.{after}
use Rattle.fp_field.specs.Series.{terms_of_series, series}
use Rattle.fp_field.proofs.Weights.{Each-append, Each-scale, Each-extend}
use Rattle.fp_field.proofs.FlowLaws.{Each-normal}
use Rattle.perturb.specs.PerturbedLists.{series_may_ask}
use Rattle.ez_laws.specs.Sides.{on_keys}
use Rattle.ez_laws.proofs.Eaches.{each-so, each-keys}
use Rattle.oracle_iface.proofs.CarriedChains.{carried-normal}

module _ {A B : Type 0} (q : A → B) where
  keys-append : (c d : Terms A) → on_keys q (c ++ d) ≡ on_keys q c ++ on_keys q d
  keys-append [] d = refl
  keys-append (t ∷ c) d = ap (λ e. (q t.0, t.1) ∷ e) (keys-append c d)

  keys-scale : (n : ℕ) (c : Terms A) → scale n (on_keys q c) ≡ on_keys q (scale n c)
  keys-scale n [] = refl
  keys-scale n (t ∷ c) = ap (λ e. (q t.0, n * t.1) ∷ e) (keys-scale n c)

-- the order of the keys with this fact is kept
abbrev pub Keeps : {A B : Type 0} → (A → B) → (A → A → Ordering) → (B → B → Ordering) → (A → Type 0) → Type 0
Keeps {A} {B} q cmp cmp' P = (x y : A) → P x → P y → cmp' (q x) (q y) ≡ cmp x y

-- g is f on keys with the fact P, read by q and r, and the keys of f have the fact Q
pub record Carries {A B C D : Type 0} (P : A → Type 0) (Q : C → Type 0) (q : A → B) (r : C → D) (f : A → Terms C) (g : B → Terms D) : Type 0 where
  pub read : (x : A) → P x → g (q x) ≡ on_keys r (f x)
  pub has : (x : A) → P x → Each Q (f x)

module _ {A B C D : Type 0} (P : A → Type 0) (Q : C → Type 0) (q : A → B) (r : C → D) (f : A → Terms C) (g : B → Terms D) (h : Carries P Q q r f g) where
  pub extend-carried : (c : Terms A) → Each P c → extend g (on_keys q c) ≡ on_keys r (extend f c)
  extend-carried [] e = refl
  extend-carried (t ∷ c) e =
      (λ i. scale t.1 (h.read t.0 e.0 i) ++ extend-carried c e.1 i)
      ∙ ap (λ d. d ++ on_keys r (extend f c)) (keys-scale r t.1 (f t.0))
      ∙ sym (keys-append r (scale t.1 (f t.0)) (extend f c))

  pub extend-each : (c : Terms A) → Each P c → Each Q (extend f c)
  extend-each c e = Each-extend Q P f h.has c e

  module _ (p : ℕ) (cmp : C → C → Ordering) (cmp' : D → D → Ordering) where
    pub apply-carried : Keeps r cmp cmp' Q → (c : Terms A) → Each P c → apply cmp' p g (on_keys q c) ≡ on_keys r (apply cmp p f c)
    apply-carried keeps c e = ap (normal cmp' p) (extend-carried c e) ∙ carried-normal r cmp cmp' p Q keeps (extend f c) (extend-each c e)

    pub apply-each : (c : Terms A) → Each P c → Each Q (apply cmp p f c)
    apply-each c e = Each-normal Q cmp p (extend f c) (extend-each c e)

-- one map after another
pub after-carried : {A B C D E F : Type 0} (P : A → Type 0) (Q : C → Type 0) (S : E → Type 0) (q : A → B) (r : C → D) (s : E → F)
    (f : A → Terms C) (g : B → Terms D) (f' : C → Terms E) (g' : D → Terms F) → Carries P Q q r f g → Carries Q S r s f' g'
    → Carries P S q s (after f' f) (after g' g)
after-carried P Q S q r s f g f' g' h k = record {
  read = λ x i. ap (extend g') (h.read x i) ∙ extend-carried Q S r s f' g' k (f x) (h.has x i);
  has = λ x i. extend-each Q S r s f' g' k (f x) (h.has x i);
}

-- The series of a map that takes keys of each stage to keys of the stage below it.
module _ {A B : Type 0} (q : A → B) (cmp : A → A → Ordering) (cmp' : B → B → Ordering) (p : ℕ) (P : ℕ → A → Type 0)
    (weaker : (j : ℕ) (x : A) → P (suc j) x → P j x) (keeps : Keeps q cmp cmp' (P 0))
    (t : A → Terms A) (t' : B → Terms B) (steps : (j : ℕ) → Carries (P (suc j)) (P j) q q t t') where
  pub lowest : (j : ℕ) (x : A) → P j x → P 0 x
  lowest zero x h = h
  lowest (suc j) x h = lowest j x (weaker j x h)

  keeps-at : (j : ℕ) → Keeps q cmp cmp' (P j)
  keeps-at j x y h k = keeps x y (lowest j x h) (lowest j y k)

  abbrev pub next : Terms A → Terms A
  next c = normal cmp p (scale (p - 1) (extend t c))

  pub next-each : (j : ℕ) (c : Terms A) → Each (P (suc j)) c → Each (P j) (next c)
  next-each j c e =
      Each-normal (P j) cmp p (scale (p - 1) (extend t c)) (Each-scale (P j) (p - 1) (extend t c) (extend-each (P (suc j)) (P j) q q t t' (steps j) c e))

  pub next-carried : (j : ℕ) (c : Terms A) → Each (P (suc j)) c → normal cmp' p (scale (p - 1) (extend t' (on_keys q c))) ≡ on_keys q (next c)
  next-carried j c e =
      ap (λ d. normal cmp' p (scale (p - 1) d)) (extend-carried (P (suc j)) (P j) q q t t' (steps j) c e)
      ∙ ap (normal cmp' p) (keys-scale q (p - 1) (extend t c))
      ∙ carried-normal q cmp cmp' p (P j) (keeps-at j) (scale (p - 1) (extend t c))
      (Each-scale (P j) (p - 1) (extend t c) (extend-each (P (suc j)) (P j) q q t t' (steps j) c e))

  terms-each : (n : ℕ) (c : Terms A) → Each (P n) c → Each (P 0) (terms_of_series cmp p n t c)
  terms-each zero c e = tt
  terms-each (suc n) c e =
      Each-append (P 0) c (terms_of_series cmp p n t (next c)) (each-so c (lowest (suc n)) e) (terms-each n (next c) (next-each n c e))

  terms-carried : (n : ℕ) (c : Terms A) → Each (P n) c → terms_of_series cmp' p n t' (on_keys q c) ≡ on_keys q (terms_of_series cmp p n t c)
  terms-carried zero c e = refl
  terms-carried (suc n) c e =
      ap (λ d. on_keys q c ++ terms_of_series cmp' p n t' d) (next-carried n c e)
      ∙ ap (λ d. on_keys q c ++ d) (terms-carried n (next c) (next-each n c e))
      ∙ sym (keys-append q c (terms_of_series cmp p n t (next c)))

  pub series-each : (n : ℕ) (c : Terms A) → Each (P n) c → Each (P 0) (series cmp p n t c)
  series-each n c e = Each-normal (P 0) cmp p (terms_of_series cmp p n t c) (terms-each n c e)

  pub series-carried : (n : ℕ) (c : Terms A) → Each (P n) c → series cmp' p n t' (on_keys q c) ≡ on_keys q (series cmp p n t c)
  series-carried n c e =
      ap (normal cmp' p) (terms-carried n c e) ∙ carried-normal q cmp cmp' p (P 0) keeps (terms_of_series cmp p n t c) (terms-each n c e)

-- The series of one map after another asks each of them on keys of the stages alone, those between two steps having the fact M.
module _ {A B : Type 0} (q : A → B) (cmp : A → A → Ordering) (cmp' : B → B → Ordering) (p : ℕ) (P : ℕ → A → Type 0)
    (weaker : (j : ℕ) (x : A) → P (suc j) x → P j x) (keeps : Keeps q cmp cmp' (P 0))
    (f : A → Terms A) (f' : B → Terms B) (g : A → Terms A) (g' : B → Terms B) (M : ℕ → A → Type 0)
    (first : (j : ℕ) → Carries (P (suc j)) (M (suc j)) q q f f') (second : (j : ℕ) → Carries (M (suc j)) (P j) q q g g')
    (between : (j : ℕ) → Keeps q cmp cmp' (M (suc j)))
    (may_first may_second : B → Type 0) (first_may : (j : ℕ) (x : A) → P j x → may_first (q x)) (second_may : (j : ℕ) (x : A) → M j x → may_second (q x)) where
  steps : (j : ℕ) → Carries (P (suc j)) (P j) q q (after g f) (after g' f')
  steps j = after-carried (P (suc j)) (M (suc j)) (P j) q q q f f' g g' (first j) (second j)

  pub series-asked : {I R : Type 0} (refusal : I → Option R) (asks asks' : B → List I) (n : ℕ) (c : Terms A) → Each (P n) c → series_may_ask cmp' p f' g' refusal asks asks' may_first may_second n (on_keys q c)
  series-asked refusal asks asks' zero c e = tt
  series-asked refusal asks asks' (suc n) c e =
      let d : Terms A = normal cmp p (scale (p - 1) (extend (after g f) c)) in (
        each-keys may_first q c (each-so c (first_may (suc n)) e),
        (
          λ granted. subst (Each may_second) (sym (apply-carried (P (suc n)) (M (suc n)) q q f f' (first n) p cmp cmp' (between n) c e))
              (each-keys may_second q (apply cmp p f c)
              (each-so (apply cmp p f c) (second_may (suc n)) (apply-each (P (suc n)) (M (suc n)) q q f f' (first n) p cmp cmp' c e))),
          λ granted. subst (series_may_ask cmp' p f' g' refusal asks asks' may_first may_second n) (sym (next-carried q cmp cmp' p P weaker keeps (after g f) (after g' f') steps n c e))
              (series-asked refusal asks asks' n d (next-each q cmp cmp' p P weaker keeps (after g f) (after g' f') steps n c e)),
        ),
      )
