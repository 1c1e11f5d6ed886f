-- Terms that are taken from one list and pushed on another, where they pass a test.
use Rattle.std.proofs.Common.{◌≡◌, ℕ, ◌+◌, ◌*◌, ◌%◌, ◌<◌, List, [], ◌∷◌, ◌++◌, Bool, true, false, cond, All, length, refl, sym, ◌∙◌, ap, subst, arith, true≢false}
use Rattle.std.proofs.lemmas.Nat.{mul-mod_first}
use Rattle.std.proofs.lemmas.List.Elements.{All-push}
use Rattle.fp_field.specs.declared.element.Fp.{Fp}
use Rattle.fp_field.specs.Field.{SameMod}
use Rattle.fp_field.specs.Chains.{Terms, weigh, Each}
use Rattle.fp_field.proofs.Mod.{same-plus, same-times}
use Rattle.fp_field.proofs.Weights.{weigh-append, Each-append}
use Rattle.chain_core.specs.Formal.{numbers}
use Rattle.ez_laws.specs.Weights.{SameWeights}
use Rattle.ez_laws.specs.Sides.{on_keys}
use Rattle.chain_core.proofs.SumLemmas.{numbers-append}

-- the facts of a list and of the term behind it
each_parts : {K : Type 0} (P : K → Type 0) (c : Terms K) (k : K) (a : ℕ) → Each P (c ++ (k, a) ∷ []) → Each P c × P k
each_parts P [] k a h = (tt, h.0)
each_parts P (t ∷ c) k a h = let r = each_parts P c k a h.1 in ((h.0, r.0), r.1)

pub each-pop : {K : Type 0} (P : K → Type 0) (old rest : List (K × Fp)) (k : K) (a : Fp) → old ≡ rest ++ (k, a) ∷ [] → Each P (numbers old) → Each P (numbers rest) × P k
each-pop P old rest k a e h = each_parts P (numbers rest) k a.value (subst (Each P) (ap numbers e ∙ numbers-append rest ((k, a) ∷ [])) h)

pub each-push : {K : Type 0} (P : K → Type 0) (b : Bool) (old new : List (K × Fp)) (k : K) (a : Fp) → new ≡ cond b (old ++ (k, a) ∷ []) old → (b ≡ true → P k)
    → Each P (numbers old) → Each P (numbers new)
each-push P true old new k a e f h = subst (λ l. Each P (numbers l)) (sym e) (subst (Each P) (sym (numbers-append old ((k, a) ∷ []))) (Each-append P (numbers old) ((k, a.value) ∷ []) h (f refl, tt)))
each-push P false old new k a e f h = subst (λ l. Each P (numbers l)) (sym e) h

pub all-push : {K : Type 0} (P : K × Fp → Type 0) (b : Bool) (old new : List (K × Fp)) (t : K × Fp) → new ≡ cond b (old ++ t ∷ []) old → P t → All P old → All P new
all-push P true old new t e f h = subst (All P) (sym e) (All-push P old t h f)
all-push P false old new t e f h = subst (All P) (sym e) h

pub weigh-push : {K : Type 0} (w : K → ℕ) (b : Bool) (old new : List (K × Fp)) (k : K) (a : Fp) → new ≡ cond b (old ++ (k, a) ∷ []) old
    → weigh w (numbers new) ≡ weigh w (numbers old) + a.value * cond b (w k) 0
weigh-push w true old new k a e =
    let s : weigh w (numbers new) ≡ weigh w (numbers old ++ (k, a.value) ∷ []) = ap (weigh w) (ap numbers e ∙ numbers-append old ((k, a) ∷ [])) in
    omega (arith, s, weigh-append w (numbers old) ((k, a.value) ∷ []))
weigh-push w false old new k a e = ap (λ l. weigh w (numbers l)) e ∙ (let s : weigh w (numbers old) ≡ weigh w (numbers old) + a.value * 0 = omega arith in s)

pub weigh-pop : {K : Type 0} (w : K → ℕ) (old rest : List (K × Fp)) (k : K) (a : Fp) → old ≡ rest ++ (k, a) ∷ [] → weigh w (numbers old) ≡ weigh w (numbers rest) + a.value * w k
weigh-pop w old rest k a e = weigh-push w true rest old k a e

-- a term goes from what is left to what is pushed, n times, where it passes
pub moved : {K M : Type 0} (p n : ℕ) (v : M → ℕ) (w : K → ℕ) (b : Bool) (old new : List (K × Fp)) (left rest : List (M × Fp)) (m : M) (k : K) (a c : Fp) (goal : ℕ)
    → left ≡ rest ++ (m, a) ∷ [] → new ≡ cond b (old ++ (k, c) ∷ []) old → c.value ≡ n * a.value % p → v m ≡ cond b (w k) 0
    → SameMod p (weigh w (numbers old) + n * weigh v (numbers left)) goal → SameMod p (weigh w (numbers new) + n * weigh v (numbers rest)) goal
moved p n v w b old new left rest m k a c goal popped pushed e f h =
    let x : ℕ = cond b (w k) 0 in
    ap (λ q. q % p)
    (let s : weigh w (numbers new) + n * weigh v (numbers rest) ≡ weigh w (numbers old) + n * weigh v (numbers rest) + c.value * x = omega (arith, weigh-push w b old new k c pushed) in s)
    ∙ same-plus p (weigh w (numbers old) + n * weigh v (numbers rest)) (weigh w (numbers old) + n * weigh v (numbers rest)) (c.value * x) (n * a.value * x) refl
    (ap (λ t. t * x % p) e ∙ mul-mod_first (n * a.value) x p)
    ∙ ap (λ q. q % p)
    (let s : weigh w (numbers old) + n * weigh v (numbers rest) + n * a.value * x ≡ weigh w (numbers old) + n * weigh v (numbers left) =
    (let q : n * (weigh v (numbers rest) + a.value * x) ≡ n * weigh v (numbers rest) + n * a.value * x = omega arith in
    omega (arith, q, ap (λ t. n * t) (weigh-pop v left rest m a popped ∙ ap (λ t. weigh v (numbers rest) + a.value * t) f))) in s)
    ∙ h

pub weigh-on-keys : {K J : Type 0} (w : J → ℕ) (g : K → J) (c : Terms K) → weigh w (on_keys g c) ≡ weigh (λ k. w (g k)) c
weigh-on-keys w g [] = refl
weigh-on-keys w g (t ∷ c) = ap (λ m. t.1 * w (g t.0) + m) (weigh-on-keys w g c)

pub none-left : {A : Type 0} (xs : List A) → (0 < length xs → false ≡ true) → xs ≡ []
none-left [] h = refl
none-left (x ∷ xs) h = absurd (true≢false (sym (h (omega arith))))

-- at the end of the faces: v, by the key y, is the same as by z, and the terms are those of the faces
pub all-moved : {K J M : Type 0} (p n : ℕ) (w : K → ℕ) (v v' : J → ℕ) (g : M → J) (old new : List (K × Fp)) (left end : List (M × Fp)) (terms : Terms M) (faces : Terms J)
    → end ≡ [] → numbers left ≡ terms → SameWeights p (on_keys g terms) faces → ((j : J) → v j ≡ v' j)
    → SameMod p (weigh w (numbers new) + n * weigh (λ m. v (g m)) (numbers end)) (weigh w (numbers old) + n * weigh (λ m. v (g m)) (numbers left))
    → SameMod p (weigh w (numbers new)) (weigh w (numbers old) + n * weigh v' faces)
all-moved p n w v v' g old new left end terms faces e f s q h =
    ap (λ m. m % p) (let r : weigh w (numbers new) ≡ weigh w (numbers new) + n * weigh (λ m. v (g m)) (numbers end) = omega (arith, ap (λ l. n * weigh (λ m. v (g m)) (numbers l)) e) in r)
    ∙ h
    ∙ same-plus p (weigh w (numbers old)) (weigh w (numbers old)) (n * weigh (λ m. v (g m)) (numbers left)) (n * weigh v' faces) refl
    (same-times p n (weigh (λ m. v (g m)) (numbers left)) (weigh v' faces)
    (ap (λ m. m % p) (ap (weigh (λ m. v (g m))) f ∙ sym (weigh-on-keys v g terms)) ∙ s v ∙ ap (λ (u : _ → ℕ). weigh u faces % p) (λ i j. q j i)))

-- a term that was taken and whose share was added
pub taken : {M : Type 0} (p : ℕ) (v : M → ℕ) (work rest : List (M × Fp)) (m : M) (k : Fp) (old new goal : ℕ) → work ≡ rest ++ (m, k) ∷ []
    → SameMod p new (old + k.value * v m) → SameMod p (old + weigh v (numbers work)) goal → SameMod p (new + weigh v (numbers rest)) goal
taken p v work rest m k old new goal popped e h =
    same-plus p new (old + k.value * v m) (weigh v (numbers rest)) (weigh v (numbers rest)) e refl
    ∙ ap (λ t. t % p) (let q : old + k.value * v m + weigh v (numbers rest) ≡ old + weigh v (numbers work) = omega (arith, weigh-pop v work rest m k popped) in q)
    ∙ h

-- all are taken
pub all-taken : {K M : Type 0} (p : ℕ) (w : K → ℕ) (v : M → ℕ) (first next : List (K × Fp)) (work end : List (M × Fp)) → first ≡ [] → end ≡ []
    → SameMod p (weigh w (numbers next) + weigh v (numbers end)) (weigh w (numbers first) + weigh v (numbers work)) → SameMod p (weigh w (numbers next)) (weigh v (numbers work))
all-taken p w v first next work end f e h =
    ap (λ t. t % p) (let q : weigh w (numbers next) ≡ weigh w (numbers next) + weigh v (numbers end) = omega (arith, ap (λ l. weigh v (numbers l)) e) in q)
    ∙ h
    ∙ ap (λ t. t % p) (let q : weigh w (numbers first) + weigh v (numbers work) ≡ weigh v (numbers work) = omega (arith, ap (λ l. weigh w (numbers l)) f) in q)
