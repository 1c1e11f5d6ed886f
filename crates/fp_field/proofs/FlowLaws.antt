-- The sum by rounds meets the equations of the flow, where one more round changes nothing.
use Rattle.std.proofs.Common.{◌≡◌, ℕ, zero, suc, ◌+◌, ◌*◌, ◌%◌, ◌<◌, [], ◌∷◌, ◌++◌, Bool, true, false, cond, refl, sym, ◌∙◌, ap, subst, arith}
use Rattle.std.specs.Cmp.{IsEquivalence}
use Rattle.std.specs.declared.cmp.Ordering.{Ordering}
use Rattle.std.specs.declared.cmp.Ordering.TheVariants.{Less, Equal, Greater}
use Rattle.fp_field.specs.Field.{SameMod}
use Rattle.fp_field.specs.Chains.{Terms, weigh, extend, keep, Each}
use Rattle.fp_field.specs.Normal.{normal, put, add_term, by_order}
use Rattle.fp_field.specs.Reduction.{SameTerms, one}
use Rattle.fp_field.specs.Flows.{IsFlowOf, flow_in, flow_by}
use Rattle.fp_field.proofs.Mod.{same-plus}
use Rattle.fp_field.proofs.Weights.{weigh-append, weigh-extend, weigh-plus, weigh-mod, Each-extend}
use Rattle.fp_field.proofs.Normals.{weigh-normal}
use Rattle.fp_field.proofs.Fair.{Fair, under, from_weights}

pub weigh-keep : {K : Type 0} (w : K → ℕ) (test : K → Bool) (c : Terms K) → weigh w (keep test c) ≡ weigh (λ k. cond (test k) (w k) 0) c
weigh-keep w test [] = refl
weigh-keep w test (t ∷ c) = by (test t.0) (weigh-keep w test c)
  where
    by : (b : Bool) → weigh w (keep test c) ≡ weigh (λ k. cond (test k) (w k) 0) c
        → weigh w (cond b (t ∷ keep test c) (keep test c)) ≡ t.1 * cond b (w t.0) 0 + weigh (λ k. cond (test k) (w k) 0) c
    by true h = omega (arith, h)
    by false h = omega (arith, h)

no_weight : {K : Type 0} (c : Terms K) → weigh (λ x. 0) c ≡ 0
no_weight [] = refl
no_weight (t ∷ c) = omega (arith, no_weight c)

module _ {K : Type 0} (p : ℕ) (pos : 0 < p) (is_source : K → Bool) (moved left_over : K → Terms K)
    (same : K → K → Bool) (eq : IsEquivalence same) (cmp : K → K → Ordering) (one_key : (x y : K) → cmp x y ≡ Equal → x ≡ y) where
  -- the weight of a key's sum by rounds
  abbrev pulled : ℕ → (K → ℕ) → K → ℕ
  pulled zero w s = 0
  pulled (suc n) w s = weigh w (moved s) + weigh (λ t. cond (is_source t) (pulled n w t) 0) (left_over s)

  weigh-flow_in : (w : K → ℕ) (n : ℕ) (c : Terms K) → SameMod p (weigh w (flow_in p is_source moved left_over cmp n c)) (weigh (pulled n w) c)
  weigh-flow_in w zero c = ap (λ m. m % p) (sym (no_weight c))
  weigh-flow_in w (suc n) [] = refl
  weigh-flow_in w (suc n) (t ∷ c) =
      let e : Terms K = t ∷ c in
      let x : Terms K = keep is_source (extend left_over e) in
      let v : K → ℕ = λ s. cond (is_source s) (pulled n w s) 0 in
      ap (λ m. m % p) (weigh-append w (extend moved e) (flow_in p is_source moved left_over cmp n (normal cmp p x)))
      ∙ same-plus p (weigh w (extend moved e)) (weigh (λ s. weigh w (moved s)) e) (weigh w (flow_in p is_source moved left_over cmp n (normal cmp p x)))
      (weigh (λ s. weigh v (left_over s)) e) (ap (λ m. m % p) (weigh-extend w moved e))
      (weigh-flow_in w n (normal cmp p x) ∙ weigh-normal cmp p one_key (pulled n w) x
      ∙ ap (λ m. m % p) (weigh-keep (pulled n w) is_source (extend left_over e) ∙ weigh-extend v left_over e))
      ∙ ap (λ m. m % p) (sym (weigh-plus (λ s. weigh w (moved s)) (λ s. weigh v (left_over s)) e))

  module _ (rounds : K → ℕ)
      (settled : (s : K) → is_source s ≡ true
      → SameTerms p same (flow_in p is_source moved left_over cmp (rounds s) (one s)) (flow_in p is_source moved left_over cmp (suc (rounds s)) (one s)))
      (alike : (s : K) → is_source s ≡ true → Each (λ t. rounds t ≡ rounds s) (left_over s)) where
    abbrev flow : K → Terms K
    flow = flow_by p is_source moved left_over cmp rounds

    at_one : (w : K → ℕ) (n : ℕ) (s : K) → SameMod p (weigh w (flow_in p is_source moved left_over cmp n (one s))) (pulled n w s)
    at_one w n s = weigh-flow_in w n (one s) ∙ ap (λ m. m % p) (let q : 1 * pulled n w s + 0 ≡ pulled n w s = omega arith in q)

    weigh-flow : (w : K → ℕ) (s : K) → SameMod p (weigh w (flow s)) (cond (is_source s) (pulled (rounds s) w s) 0)
    weigh-flow w s = by (is_source s)
      where
        by : (b : Bool) → SameMod p (weigh w (cond b (normal cmp p (flow_in p is_source moved left_over cmp (rounds s) (one s))) [])) (cond b (pulled (rounds s) w s) 0)
        by true = weigh-normal cmp p one_key w (flow_in p is_source moved left_over cmp (rounds s) (one s)) ∙ at_one w (rounds s) s
        by false = refl

    source_at : (w : K → ℕ) (n : ℕ) (t : K) → rounds t ≡ n → SameMod p (weigh w (flow t)) (cond (is_source t) (pulled n w t) 0)
    source_at w n t h = subst (λ m. SameMod p (weigh w (flow t)) (cond (is_source t) (pulled m w t) 0)) h (weigh-flow w t)

    on_source : (s : K) → is_source s ≡ true → SameTerms p same (flow s) (moved s ++ extend flow (left_over s))
    on_source s h = from_weights p pos same eq (flow s) (moved s ++ extend flow (left_over s)) (λ w fair. here w fair)
      where
        here : (w : K → ℕ) → Fair p pos same w → SameMod p (weigh w (flow s)) (weigh w (moved s ++ extend flow (left_over s)))
        here w fair =
            weigh-flow w s
            ∙ ap (λ b. cond {A = ℕ} b (pulled (rounds s) w s) 0 % p) h
            ∙ sym (at_one w (rounds s) s)
            ∙ under p pos same eq w fair _ _ (settled s h)
            ∙ at_one w (suc (rounds s)) s
            ∙ sym (ap (λ m. m % p) (weigh-append w (moved s) (extend flow (left_over s)))
            ∙ same-plus p (weigh w (moved s)) (weigh w (moved s)) (weigh w (extend flow (left_over s)))
            (weigh (λ t. cond (is_source t) (pulled (rounds s) w t) 0) (left_over s)) refl
            (ap (λ m. m % p) (weigh-extend w flow (left_over s))
            ∙ weigh-mod (λ t. rounds t ≡ rounds s) p (λ t. weigh w (flow t)) (λ t. cond (is_source t) (pulled (rounds s) w t) 0)
            (λ t e. source_at w (rounds s) t e) (left_over s) (alike s h)))

    elsewhere : (s : K) → is_source s ≡ false → SameTerms p same (flow s) []
    elsewhere s h = subst (λ b. SameTerms p same (cond b (normal cmp p (flow_in p is_source moved left_over cmp (rounds s) (one s))) []) []) (sym h) (λ k. refl)

    pub flow_by-IsFlowOf : IsFlowOf p is_source moved left_over same flow
    flow_by-IsFlowOf = record { elsewhere = elsewhere; on_source = on_source }

-- Two flows agree, where the sources in what is left over of a source have lower rank.
module _ {K : Type 0} (p : ℕ) (pos : 0 < p) (is_source : K → Bool) (moved left_over : K → Terms K)
    (same : K → K → Bool) (eq : IsEquivalence same) (cmp : K → K → Ordering) (one_key : (x y : K) → cmp x y ≡ Equal → x ≡ y) (rank : K → ℕ)
    (lower : (s : K) → is_source s ≡ true → Each (λ t. is_source t ≡ true → rank t < rank s) (normal cmp p (left_over s)))
    (k l : K → Terms K) (a : IsFlowOf p is_source moved left_over same k) (b : IsFlowOf p is_source moved left_over same l) where
  module _ (w : K → ℕ) (fair : Fair p pos same w) where
    off : (s : K) → is_source s ≡ false → SameMod p (weigh w (k s)) (weigh w (l s))
    off s h = under p pos same eq w fair (k s) [] (a.elsewhere s h) ∙ sym (under p pos same eq w fair (l s) [] (b.elsewhere s h))

    -- the value on a source, by the normal form of what is left over
    opened : (f : K → Terms K) → IsFlowOf p is_source moved left_over same f → (s : K) → is_source s ≡ true
        → SameMod p (weigh w (f s)) (weigh w (moved s) + weigh (λ t. weigh w (f t)) (normal cmp p (left_over s)))
    opened f e s h =
        under p pos same eq w fair (f s) (moved s ++ extend f (left_over s)) (e.on_source s h)
        ∙ ap (λ m. m % p) (weigh-append w (moved s) (extend f (left_over s)))
        ∙ same-plus p (weigh w (moved s)) (weigh w (moved s)) _ _ refl
        (ap (λ m. m % p) (weigh-extend w f (left_over s)) ∙ sym (weigh-normal cmp p one_key (λ t. weigh w (f t)) (left_over s)))

    agree : (n : ℕ) (s : K) → (is_source s ≡ true → rank s < n) → SameMod p (weigh w (k s)) (weigh w (l s))
    agree zero s h = by (is_source s) refl
      where
        by : (c : Bool) → is_source s ≡ c → SameMod p (weigh w (k s)) (weigh w (l s))
        by true e = let r : rank s < 0 = h e in absurd (omega arith)
        by false e = off s e
    agree (suc n) s h = by (is_source s) refl (λ t g. agree n t g)
      where
        by : (c : Bool) → is_source s ≡ c → ((t : K) → (is_source t ≡ true → rank t < n) → SameMod p (weigh w (k t)) (weigh w (l t)))
            → SameMod p (weigh w (k s)) (weigh w (l s))
        by true e ih =
            let r : rank s < suc n = h e in
            opened k a s e
            ∙ same-plus p (weigh w (moved s)) (weigh w (moved s)) _ _ refl
            (weigh-mod (λ t. is_source t ≡ true → rank t < rank s) p (λ t. weigh w (k t)) (λ t. weigh w (l t))
            (λ t g. ih t (λ q. let u : rank t < rank s = g q in omega arith)) (normal cmp p (left_over s)) (lower s e))
            ∙ sym (opened l b s e)
        by false e ih = off s e

  pub flow-determined : (s : K) → SameTerms p same (k s) (l s)
  flow-determined s = from_weights p pos same eq (k s) (l s) (λ w fair. agree w fair (suc (rank s)) s (λ e. let r : rank s < suc (rank s) = omega arith in r))

-- ---- a bound on the rounds

module _ {K : Type 0} (P : K → Type 0) where
  Each-put : (cmp : K → K → Ordering) (p : ℕ) (k : K) (n : ℕ) (c : Terms K) → P k → Each P c → Each P (put cmp p k n c)
  Each-put cmp p k zero c g h = h
  Each-put cmp p k (suc n) c g h = (g, h)

  Each-add_term : (cmp : K → K → Ordering) (p : ℕ) (k : K) (a : ℕ) (c : Terms K) → P k → Each P c → Each P (add_term cmp p k a c)
  Each-add_term cmp p k a [] g h = Each-put cmp p k (a % p) [] g tt
  Each-add_term cmp p k a (t ∷ c) g h = by (cmp k t.0) (Each-add_term cmp p k a c g h.1)
    where
      by : (o : Ordering) → Each P (add_term cmp p k a c)
          → Each P (by_order o (put cmp p k (a % p) (t ∷ c)) (put cmp p t.0 ((a + t.1) % p) c) (t ∷ add_term cmp p k a c))
      by Less r = Each-put cmp p k (a % p) (t ∷ c) g h
      by Equal r = Each-put cmp p t.0 ((a + t.1) % p) c h.0 h.1
      by Greater r = (h.0, r)

  pub Each-normal : (cmp : K → K → Ordering) (p : ℕ) (c : Terms K) → Each P c → Each P (normal cmp p c)
  Each-normal cmp p [] h = tt
  Each-normal cmp p (t ∷ c) h = Each-add_term cmp p t.0 t.1 (normal cmp p c) h.0 (Each-normal cmp p c h.1)

pub Each-keep : {K : Type 0} (P : K → Type 0) (test : K → Bool) (c : Terms K) → Each P c → Each (λ k. P k × (test k ≡ true)) (keep test c)
Each-keep P test [] h = tt
Each-keep P test (t ∷ c) h = by (test t.0) refl (Each-keep P test c h.1)
  where
    by : (b : Bool) → test t.0 ≡ b → Each (λ k. P k × (test k ≡ true)) (keep test c) → Each (λ k. P k × (test k ≡ true)) (cond b (t ∷ keep test c) (keep test c))
    by true e r = ((h.0, e), r)
    by false e r = r

each_so : {K : Type 0} {P Q : K → Type 0} (c : Terms K) → ((k : K) → P k → Q k) → Each P c → Each Q c
each_so [] f h = tt
each_so (t ∷ c) f h = (f t.0 h.0, each_so c f h.1)

module _ {K : Type 0} (p : ℕ) (is_source : K → Bool) (moved left_over : K → Terms K) (cmp : K → K → Ordering) (rank : K → ℕ)
    (lower : (s : K) → is_source s ≡ true → Each (λ t. is_source t ≡ true → rank t < rank s) (left_over s)) where
  -- after n rounds on sources of rank below n nothing is left over
  pub settles : (n : ℕ) (c : Terms K) → Each (λ t. (rank t < n) × (is_source t ≡ true)) c
      → flow_in p is_source moved left_over cmp n c ≡ flow_in p is_source moved left_over cmp (suc n) c
  settles zero [] h = refl
  settles zero (t ∷ c) h = let r : rank t.0 < 0 = h.0.0 in absurd (omega arith)
  settles (suc n) [] h = refl
  settles (suc n) (t ∷ c) h =
      ap (λ d. extend moved (t ∷ c) ++ d)
      (settles n (normal cmp p (keep is_source (extend left_over (t ∷ c))))
      (Each-normal (λ u. (rank u < n) × (is_source u ≡ true)) cmp p (keep is_source (extend left_over (t ∷ c)))
      (each_so (keep is_source (extend left_over (t ∷ c))) (λ u g. (g.0 g.1, g.1))
      (Each-keep (λ u. is_source u ≡ true → rank u < n) is_source (extend left_over (t ∷ c))
      (Each-extend (λ u. is_source u ≡ true → rank u < n) (λ u. (rank u < suc n) × (is_source u ≡ true)) left_over
      (λ j g. each_so (left_over j) (λ u q e. let r : rank u < rank j = q e in let l : rank j < suc n = g.0 in let m : rank u < n = omega arith in m) (lower j g.1))
      (t ∷ c) h)))))
