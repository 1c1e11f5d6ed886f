-- What right sides come to and ask, in the names of the code, and the series of a step that asks.
use Rattle.std.proofs.Common.{◌≡◌, ℕ, zero, suc, ◌-◌, List, [], ◌∷◌, ◌++◌, map, refl, sym, ◌∙◌, ap, subst}
use Rattle.std.proofs.lemmas.List.{map-append, append-nil}
use Rattle.std.specs.declared.cmp.Ordering.{Ordering}
use Rattle.fp_field.specs.declared.prime.Prime.{Prime}
use Rattle.fp_field.specs.Field.{number}
use Rattle.fp_field.specs.Chains.{Terms, Each, scale}
use Rattle.fp_field.specs.Normal.{normal, apply}
use Rattle.fp_field.specs.Reduction.{after}
use Rattle.fp_field.specs.Series.{terms_of_series, series}
use Rattle.fp_field.proofs.Weights.{Each-append}
use Rattle.fp_field.proofs.FlowLaws.{Each-normal}
use Rattle.chain_core.specs.Asks.{asks_along}
use Rattle.values.specs.Asks.{Right, gives, ◌>>=◌, on_chain, asked_with}
use Rattle.values.specs.Values.{value}
use Rattle.values.specs.Perturbed.{asked_terms}
use Rattle.values.specs.Rules.{named}
use Rattle.values.proofs.Readings.{value_with-bind, asked_with-bind}
use Rattle.values.proofs.Chains.{along, value_with-on_chain, asked_with-on_chain}
use Rattle.oracle_iface.proofs.CarriedChains.{carried-normal}
use Rattle.perturb.specs.PerturbedLists.{next_term, step_asks, series_asks}
use Rattle.fibred_maps.specs.Fibred.{Fibred, keys_of, value_of}
use Rattle.fibred_maps.specs.Joined.{Keeps}
use Rattle.fibred_maps.proofs.NamedChains.{named-append}

module _ {B M N A : Type 0} (s : Fibred B M N A) (v : Prime) where
  abbrev p : ℕ
  p = number v

  pub keys-bind : {X Y : Type 0} (m : Right X) (next : X → Right Y) → keys_of s v (m >>= next) ≡ keys_of s v m ++ keys_of s v (next (value_of s v m))
  keys-bind m next = ap (map s.key) (asked_with-bind (value p) m next) ∙ map-append s.key _ _

  pub value-bind : {X Y : Type 0} (m : Right X) (next : X → Right Y) → value_of s v (m >>= next) ≡ value_of s v (next (value_of s v m))
  value-bind m next = value_with-bind (value p) m next

  pub keys-then : {X Y : Type 0} (m : Right X) (f : X → Y) → keys_of s v (m >>= λ x. gives (f x)) ≡ keys_of s v m
  keys-then m f = keys-bind m (λ x. gives (f x)) ∙ append-nil (keys_of s v m)

  -- ---- a map that asks, along a chain

  module _ {X Z : Type 0} (t : X → Right (Terms Z)) where
    pub value-on : (by : Z → Z → Ordering) (c : Terms X) → value_of s v (on_chain by p t c) ≡ apply by p (λ z. value_of s v (t z)) c
    value-on by c = value_with-on_chain (value p) t by p c

    keys-along : (c : Terms X) → map s.key (along (λ z. asked_with (value p) (t z)) c) ≡ asks_along (λ z. keys_of s v (t z)) c
    keys-along [] = refl
    keys-along (x ∷ c) =
        map-append s.key (asked_with (value p) (t x.0)) (along (λ z. asked_with (value p) (t z)) c) ∙ ap (λ ks. keys_of s v (t x.0) ++ ks) (keys-along c)

    keys-on : (by : Z → Z → Ordering) (c : Terms X) → keys_of s v (on_chain by p t c) ≡ asks_along (λ z. keys_of s v (t z)) c
    keys-on by c = ap (map s.key) (asked_with-on_chain (value p) t by p c) ∙ keys-along c

    module _ {Y : Type 0} (q : X → Y) (P : X → Type 0) (a : Y → List A) (same : (x : X) → P x → a (q x) ≡ keys_of s v (t x)) where
      along-named : (c : Terms X) → Each P c → asks_along a (named q c) ≡ asks_along (λ z. keys_of s v (t z)) c
      along-named [] e = refl
      along-named (x ∷ c) e = λ i. same x.0 e.0 i ++ along-named c e.1 i

      pub on-named : (by : Z → Z → Ordering) (c : Terms X) → Each P c → asks_along a (named q c) ≡ keys_of s v (on_chain by p t c)
      on-named by c e = along-named c e ∙ sym (keys-on by c)

  -- ---- the series of a step that asks: in the names of the code it is two maps, one after the other

  module _ {X Y : Type 0} (by : X → X → Ordering) (cmp : Y → Y → Ordering) (P : X → Type 0) (q : X → Y) (step : Terms X → Right (Terms X))
      (first second : Y → Terms Y) (a b : Y → List A) where
    pub record IsStep : Type 0 where
      pub keys : (c : Terms X) → Each P c → step_asks cmp p first second a b (named q c) ≡ keys_of s v (step c)
      pub next : (c : Terms X) → Each P c → next_term cmp p first second (named q c) ≡ named q (normal by p (scale (p - 1) (value_of s v (step c))))
      pub kept : (c : Terms X) → Each P c → Each P (value_of s v (step c))

    module _ (is : IsStep) where
      abbrev next_of : Terms X → Terms X
      next_of c = normal by p (scale (p - 1) (value_of s v (step c)))

      abbrev more : ℕ → Terms X → Terms X → Right (Terms X)
      more i c y = asked_terms by p i step (normal by p (scale (p - 1) y)) >>= λ u. gives (c ++ u)

      next-each : (c : Terms X) → Each P c → Each P (next_of c)
      next-each c e = minus-each-of (value_of s v (step c)) (is.kept c e)
        where
          minus-each-of : (d : Terms X) → Each P d → Each P (normal by p (scale (p - 1) d))
          minus-each-of d g = Each-normal P by p (scale (p - 1) d) (scaled d g)
            where
              scaled : (d : Terms X) → Each P d → Each P (scale (p - 1) d)
              scaled [] g = tt
              scaled (t ∷ d) g = (g.0, scaled d g.1)

      asked-step : (i : ℕ) (c : Terms X) → value_of s v (asked_terms by p (suc i) step c) ≡ c ++ value_of s v (asked_terms by p i step (next_of c))
      asked-step i c = value-bind (step c) (more i c) ∙ value-bind (asked_terms by p i step (next_of c)) (λ u. gives (c ++ u))

      pub asked-keys : (i : ℕ) (c : Terms X) → Each P c → series_asks cmp p first second a b i (named q c) ≡ keys_of s v (asked_terms by p i step c)
      asked-keys zero c e = refl
      asked-keys (suc i) c e =
          (λ j. is.keys c e j ++ series_asks cmp p first second a b i (is.next c e j))
          ∙ ap (λ ks. keys_of s v (step c) ++ ks) (asked-keys i (next_of c) (next-each c e) ∙ sym (keys-then (asked_terms by p i step (next_of c)) (λ u. c ++ u)))
          ∙ sym (keys-bind (step c) (more i c))

      asked-terms : (i : ℕ) (c : Terms X) → Each P c → terms_of_series cmp p i (after second first) (named q c) ≡ named q (value_of s v (asked_terms by p i step c))
      asked-terms zero c e = refl
      asked-terms (suc i) c e =
          ap (λ d. named q c ++ terms_of_series cmp p i (after second first) d) (is.next c e)
          ∙ ap (λ d. named q c ++ d) (asked-terms i (next_of c) (next-each c e))
          ∙ sym (named-append q c (value_of s v (asked_terms by p i step (next_of c))))
          ∙ ap (named q) (sym (asked-step i c))

      asked-each : (i : ℕ) (c : Terms X) → Each P c → Each P (value_of s v (asked_terms by p i step c))
      asked-each zero c e = tt
      asked-each (suc i) c e =
          subst (Each P) (sym (asked-step i c)) (Each-append P c _ e (asked-each i (next_of c) (next-each c e)))

      -- the sum of the terms, in normal form
      abbrev pub summed : ℕ → Terms X → Right (Terms X)
      summed i c = asked_terms by p i step c >>= λ u. gives (normal by p u)

      pub sum-keys : (i : ℕ) (c : Terms X) → Each P c → series_asks cmp p first second a b i (named q c) ≡ keys_of s v (summed i c)
      sum-keys i c e = asked-keys i c e ∙ sym (keys-then (asked_terms by p i step c) (λ u. normal by p u))

      pub sum-value : Keeps q by cmp P → (i : ℕ) (c : Terms X) → Each P c → series cmp p i (after second first) (named q c) ≡ named q (value_of s v (summed i c))
      sum-value keeps i c e =
          ap (normal cmp p) (asked-terms i c e)
          ∙ carried-normal q by cmp p P keeps (value_of s v (asked_terms by p i step c)) (asked-each i c e)
          ∙ ap (named q) (sym (value-bind (asked_terms by p i step c) (λ u. gives (normal by p u))))

      pub sum-each : (i : ℕ) (c : Terms X) → Each P c → Each P (value_of s v (summed i c))
      sum-each i c e =
          subst (Each P) (sym (value-bind (asked_terms by p i step c) (λ u. gives (normal by p u))))
          (Each-normal P by p (value_of s v (asked_terms by p i step c)) (asked-each i c e))
