-- A map of keys that keeps their order carries normal forms to normal forms.
use Rattle.std.proofs.Common.{◌≡◌, ℕ, zero, suc, ◌+◌, ◌%◌, [], ◌∷◌, map, refl, ◌∙◌, ap}
use Rattle.std.specs.declared.cmp.Ordering.{Ordering}
use Rattle.std.specs.declared.cmp.Ordering.TheVariants.{Less, Equal, Greater}
use Rattle.fp_field.specs.Chains.{Terms, Each}
use Rattle.fp_field.specs.Normal.{by_order, put, add_term, normal}

module _ {K J : Type 0} (q : K → J) where
  abbrev pub carried_terms : Terms K → Terms J
  carried_terms c = map (λ t. (q t.0, t.1)) c

  carried-put : (cmpK : K → K → Ordering) (cmpJ : J → J → Ordering) (p : ℕ) (k : K) (n : ℕ) (c : Terms K)
      → put cmpJ p (q k) n (carried_terms c) ≡ carried_terms (put cmpK p k n c)
  carried-put cmpK cmpJ p k zero c = refl
  carried-put cmpK cmpJ p k (suc n) c = refl

module _ {K : Type 0} (cmp : K → K → Ordering) (p : ℕ) (P : K → Type 0) where
  each-put : (k : K) (n : ℕ) (c : Terms K) → P k → Each P c → Each P (put cmp p k n c)
  each-put k zero c h e = e
  each-put k (suc n) c h e = (h, e)

  each-add : (k : K) (a : ℕ) (c : Terms K) → P k → Each P c → Each P (add_term cmp p k a c)
  each-add k a [] h e = each-put k (a % p) [] h e
  each-add k a (t ∷ c) h e = by (cmp k t.0) (each-add k a c h e.1)
    where
      by : (o : Ordering) → Each P (add_term cmp p k a c)
          → Each P (by_order o (put cmp p k (a % p) (t ∷ c)) (put cmp p t.0 ((a + t.1) % p) c) (t ∷ add_term cmp p k a c))
      by Less r = each-put k (a % p) (t ∷ c) h e
      by Equal r = each-put t.0 ((a + t.1) % p) c e.0 e.1
      by Greater r = (e.0, r)

  pub each-normal : (c : Terms K) → Each P c → Each P (normal cmp p c)
  each-normal [] e = tt
  each-normal (t ∷ c) e = each-add t.0 t.1 (normal cmp p c) e.0 (each-normal c e.1)

module _ {K J : Type 0} (q : K → J) (cmpK : K → K → Ordering) (cmpJ : J → J → Ordering) (p : ℕ) (P : K → Type 0)
    (same : (x y : K) → P x → P y → cmpJ (q x) (q y) ≡ cmpK x y) where
  carried-add : (k : K) (a : ℕ) (c : Terms K) → P k → Each P c
      → add_term cmpJ p (q k) a (carried_terms q c) ≡ carried_terms q (add_term cmpK p k a c)
  carried-add k a [] h e = carried-put q cmpK cmpJ p k (a % p) []
  carried-add k a (t ∷ c) h e = ap at (same k t.0 h e.0) ∙ by (cmpK k t.0) (carried-add k a c h e.1)
    where
      at : Ordering → Terms J
      at o =
          by_order o (put cmpJ p (q k) (a % p) (carried_terms q (t ∷ c))) (put cmpJ p (q t.0) ((a + t.1) % p) (carried_terms q c))
          ((q t.0, t.1) ∷ add_term cmpJ p (q k) a (carried_terms q c))

      by : (o : Ordering) → add_term cmpJ p (q k) a (carried_terms q c) ≡ carried_terms q (add_term cmpK p k a c)
          → at o ≡ carried_terms q (by_order o (put cmpK p k (a % p) (t ∷ c)) (put cmpK p t.0 ((a + t.1) % p) c) (t ∷ add_term cmpK p k a c))
      by Less r = carried-put q cmpK cmpJ p k (a % p) (t ∷ c)
      by Equal r = carried-put q cmpK cmpJ p t.0 ((a + t.1) % p) c
      by Greater r = ap (λ d. (q t.0, t.1) ∷ d) r

  pub carried-normal : (c : Terms K) → Each P c → normal cmpJ p (carried_terms q c) ≡ carried_terms q (normal cmpK p c)
  carried-normal [] e = refl
  carried-normal (t ∷ c) e =
      ap (add_term cmpJ p (q t.0) t.1) (carried-normal c e.1) ∙ carried-add t.0 t.1 (normal cmpK p c) e.0 (each-normal cmpK p P c e.1)
