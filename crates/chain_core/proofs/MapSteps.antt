-- One term of a chain after those before it.
use Rattle.std.proofs.Common.{◌≡◌, ℕ, zero, suc, ◌+◌, ◌*◌, ◌<◌, ◌≤◌, ◌%◌, List, [], ◌∷◌, ◌++◌, length, take, drop, get_or, Option, refl, sym, ◌∙◌, ap, subst, arith, append_assoc}
use Rattle.std.specs.Prelude.{Some, None, slice_get}
use Rattle.std.specs.declared.cmp.Ordering.{Ordering}
use Rattle.std.specs.declared.cmp.Ordering.TheVariants.{Equal}
use Rattle.std.specs.Cmp.{IsTotalOrder}
use Rattle.fp_field.specs.declared.prime.Prime.{Prime}
use Rattle.fp_field.specs.declared.element.Fp.{Fp}
use Rattle.fp_field.specs.Field.{number, SameMod}
use Rattle.fp_field.proofs.Primes.{number_pos}
use Rattle.chain_core.specs.Formal.{numbers}
use Rattle.chain_core.proofs.ChainLemmas.{append-nil}
use Rattle.fp_field.specs.Chains.{Terms, weigh, scale, extend, Each}
use Rattle.fp_field.specs.Normal.{normal}
use Rattle.fp_field.proofs.Mod.{same-plus, same-times}
use Rattle.fp_field.proofs.Weights.{weigh-append, weigh-scale}
use Rattle.fp_field.proofs.Normals.{weigh-normal, normal-same}
use Rattle.chain_core.specs.Asks.{asks_along}

some_or : {X : Type 0} → X → Option X → X
some_or d (Some x) = x
some_or d None = d

-- the term at a place of the code's list
pub at_place : {K : Type 0} (xs : List (K × Fp)) (i : ℕ) (x : K × Fp) → i < length xs → x ≡ get_or xs i x → slice_get (numbers xs) i ≡ Some (x.0, x.1.value)
at_place [] i x l e = absurd (omega arith)
at_place (y ∷ xs) zero x l e = ap (λ (z : _ × Fp). Some (z.0, z.1.value)) (sym e)
at_place (y ∷ xs) (suc i) x l e = at_place xs i x (omega arith) e

pub places : {X : Type 0} (xs : List X) (i : ℕ) (t : X) → slice_get xs i ≡ Some t → (take i xs ++ t ∷ drop (suc i) xs ≡ xs) × (take (suc i) xs ≡ take i xs ++ t ∷ [])
unfolding some_or
places [] i t e = absurd (cc)
places (x ∷ xs) zero t e = let q : x ≡ t = ap (some_or t) e in (λ i. sym q i ∷ xs, λ i. q i ∷ [])
places (x ∷ xs) (suc i) t e = let r = places xs i t e in (λ j. x ∷ r.0 j, λ j. x ∷ r.1 j)

pub Each-at : {K : Type 0} (P : K → Type 0) (c : Terms K) (i : ℕ) (t : K × ℕ) → slice_get c i ≡ Some t → Each P c → P t.0
unfolding some_or
Each-at P [] i t e h = absurd (cc)
Each-at P (x ∷ c) zero t e h = subst (λ s. P s.0) (ap (some_or t) e) h.0
Each-at P (x ∷ c) (suc i) t e h = Each-at P c i t e h.1

module _ {K A : Type 0} (asks : K → List A) where
  pub asks_along-append : (c d : Terms K) → asks_along asks (c ++ d) ≡ asks_along asks c ++ asks_along asks d
  asks_along-append [] d = refl
  asks_along-append (t ∷ c) d = ap (λ l. asks t.0 ++ l) (asks_along-append c d) ∙ sym (append_assoc (asks t.0) (asks_along asks c) (asks_along asks d))

  -- the list of a chain, round its term at i
  pub round : (c : Terms K) (i : ℕ) (t : K × ℕ) → slice_get c i ≡ Some t
      → asks_along asks c ≡ asks_along asks (take i c) ++ (asks t.0 ++ asks_along asks (drop (suc i) c))
  round c i t e = ap (asks_along asks) (sym (places c i t e).0) ∙ asks_along-append (take i c) (t ∷ drop (suc i) c)

  pub round_with : (c : Terms K) (i : ℕ) (t : K × ℕ) → slice_get c i ≡ Some t
      → asks_along asks c ≡ (asks_along asks (take i c) ++ asks t.0) ++ asks_along asks (drop (suc i) c)
  round_with c i t e = round c i t e ∙ sym (append_assoc (asks_along asks (take i c)) (asks t.0) (asks_along asks (drop (suc i) c)))

  -- up to and with its term at i
  pub so_far : (c : Terms K) (i : ℕ) (t : K × ℕ) → slice_get c i ≡ Some t → asks_along asks (take (suc i) c) ≡ asks_along asks (take i c) ++ asks t.0
  so_far c i t e = ap (asks_along asks) (places c i t e).1 ∙ asks_along-append (take i c) (t ∷ []) ∙ ap (λ l. asks_along asks (take i c) ++ l) (append-nil (asks t.0))

extend-append : {K J : Type 0} (f : K → Terms J) (c d : Terms K) → extend f (c ++ d) ≡ extend f c ++ extend f d
extend-append f [] d = refl
extend-append f (t ∷ c) d = ap (λ l. scale t.1 (f t.0) ++ l) (extend-append f c d) ∙ sym (append_assoc (scale t.1 (f t.0)) (extend f c) (extend f d))

-- the whole of a front
pub whole : {K : Type 0} (xs : List (K × Fp)) (i : ℕ) → length xs ≤ i → take i (numbers xs) ≡ numbers xs
whole [] zero l = refl
whole [] (suc i) l = refl
whole (x ∷ xs) zero l = absurd (omega arith)
whole (x ∷ xs) (suc i) l = ap (λ c. (x.0, x.1.value) ∷ c) (whole xs i (omega arith))

module _ {K J : Type 0} (cmp : J → J → Ordering) (total : IsTotalOrder cmp) (one_key : (x y : J) → cmp x y ≡ Equal → x ≡ y) (q : Prime) (f : K → Terms J) where
  -- the weight of the images of a front, and of one more
  image_more : (w : J → ℕ) (c : Terms K) (i : ℕ) (t : K × ℕ) → slice_get c i ≡ Some t
      → weigh w (extend f (take (suc i) c)) ≡ weigh w (extend f (take i c)) + t.1 * weigh w (f t.0)
  image_more w c i t e =
      let here : weigh w (extend f (take (suc i) c)) ≡ weigh w (extend f (take i c) ++ (scale t.1 (f t.0) ++ [])) =
      ap (weigh w) (ap (extend f) (places c i t e).1 ∙ extend-append f (take i c) (t ∷ [])) in
      omega (arith, here, weigh-append w (extend f (take i c)) (scale t.1 (f t.0) ++ []), weigh-append w (scale t.1 (f t.0)) [], weigh-scale w t.1 (f t.0))

  -- one more image, times its coefficient
  pub image_pushed : (c : Terms K) (i : ℕ) (t : K × ℕ) (old new image : Terms J) → slice_get c i ≡ Some t → image ≡ normal cmp (number q) (f t.0)
      → ((w : J → ℕ) → SameMod (number q) (weigh w old) (weigh w (extend f (take i c))))
      → ((w : J → ℕ) → SameMod (number q) (weigh w new) (weigh w old + t.1 * weigh w image))
      → (w : J → ℕ) → SameMod (number q) (weigh w new) (weigh w (extend f (take (suc i) c)))
  image_pushed c i t old new image e s h g w =
      g w ∙ same-plus (number q) _ _ _ _ (h w) (same-times (number q) t.1 _ _ (ap (λ d. weigh w d % number q) s ∙ weigh-normal cmp (number q) one_key w (f t.0)))
      ∙ ap (λ n. n % number q) (sym (image_more w c i t e))

  -- at the end
  pub images_summed : (c : Terms K) (terms : Terms J) → ((w : J → ℕ) → SameMod (number q) (weigh w terms) (weigh w (extend f c))) → normal cmp (number q) terms ≡ normal cmp (number q) (extend f c)
  images_summed c terms h = normal-same cmp (number q) one_key total (number_pos q) terms (extend f c) h
