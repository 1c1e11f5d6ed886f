-- Facts of each key of a chain.
use Rattle.std.proofs.Common.{◌≡◌, [], ◌∷◌, Bool, true, false, cond, refl}
use Rattle.fp_field.specs.Chains.{Terms, keep, Each}
use Rattle.ez_laws.specs.Sides.{on_keys}

pub each-so : {K : Type 0} {P Q : K → Type 0} (c : Terms K) → ((k : K) → P k → Q k) → Each P c → Each Q c
each-so [] f h = tt
each-so (t ∷ c) f h = (f t.0 h.0, each-so c f h.1)

pub each-and : {K : Type 0} (P Q : K → Type 0) (c : Terms K) → Each P c → Each Q c → Each (λ k. P k × Q k) c
each-and P Q [] h g = tt
each-and P Q (t ∷ c) h g = ((h.0, g.0), each-and P Q c h.1 g.1)

pub each-for-all : {K A : Type 0} (P : A → K → Type 0) (c : Terms K) → ((a : A) → Each (P a) c) → Each (λ k. (a : A) → P a k) c
each-for-all P [] h = tt
each-for-all P (t ∷ c) h = (λ a. (h a).0, each-for-all P c (λ a. (h a).1))

pub each-keys : {K J : Type 0} (P : J → Type 0) (g : K → J) (c : Terms K) → Each (λ k. P (g k)) c → Each P (on_keys g c)
each-keys P g [] h = tt
each-keys P g (t ∷ c) h = (h.0, each-keys P g c h.1)

pub each-keep : {K : Type 0} (P : K → Type 0) (test : K → Bool) (c : Terms K) → Each P c → Each (λ k. P k × (test k ≡ true)) (keep test c)
each-keep P test [] h = tt
each-keep P test (t ∷ c) h = by (test t.0) refl (each-keep P test c h.1)
  where
    by : (b : Bool) → test t.0 ≡ b → Each (λ k. P k × (test k ≡ true)) (keep test c) → Each (λ k. P k × (test k ≡ true)) (cond b (t ∷ keep test c) (keep test c))
    by true e r = ((h.0, e), r)
    by false e r = r
