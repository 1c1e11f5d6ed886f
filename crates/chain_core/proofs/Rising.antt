-- Normal forms are the lists whose keys rise and whose numbers run from 1 to p - 1.
use Rattle.std.proofs.Common.{◌≡◌, ℕ, zero, suc, ◌+◌, ◌%◌, ◌<◌, List, [], ◌∷◌, ◌++◌, All, refl, ◌∙◌, ap, subst, arith}
use Rattle.std.proofs.Math.Nat.{mod-lt, mod-eq_of_lt}
use Rattle.std.specs.declared.cmp.Ordering.{Ordering}
use Rattle.std.specs.declared.cmp.Ordering.TheVariants.{Less, Equal, Greater}
use Rattle.std.specs.Ordering.{ordering_reverse}
use Rattle.std.specs.Cmp.{IsTotalOrder}
use Rattle.fp_field.specs.Chains.{Terms, Each}
use Rattle.fp_field.specs.declared.element.Fp.{Fp}
use Rattle.fp_field.specs.declared.prime.Prime.{Prime}
use Rattle.fp_field.specs.Field.{number}
use Rattle.fp_field.specs.Normal.{by_order, put, add_term, normal, IsNormal}
use Rattle.fp_field.proofs.Primes.{number_pos}
use Rattle.chain_core.specs.Formal.{numbers}
use Rattle.chain_core.specs.Places.{Ascends}

module _ {K : Type 0} (cmp : K → K → Ordering) (p : ℕ) where
  abbrev pub Rises : Terms K → Type 0
  Rises [] = Unit {0}
  Rises (t ∷ c) = (0 < t.1) × (t.1 < p) × Each (λ x. cmp t.0 x ≡ Less) c × Rises c

  -- a term with a number that is not 0 is put in front
  pub put-positive : (k : K) (n : ℕ) (c : Terms K) → 0 < n → put cmp p k n c ≡ (k, n) ∷ c
  put-positive k zero c h = absurd (omega arith)
  put-positive k (suc n) c h = refl

  -- a key passes by those below it
  pub add_term-above : (k : K) (n : ℕ) (a b : Terms K) → Each (λ x. cmp k x ≡ Greater) a → add_term cmp p k n (a ++ b) ≡ a ++ add_term cmp p k n b
  add_term-above k n [] b h = refl
  add_term-above k n (t ∷ a) b h = rw h.0 (ap (λ c. t ∷ c) (add_term-above k n a b h.1))

  -- a key below all others comes first
  pub add_term-below : (k : K) (n : ℕ) (c : Terms K) → Each (λ x. cmp k x ≡ Less) c → add_term cmp p k n c ≡ put cmp p k (n % p) c
  add_term-below k n [] h = refl
  add_term-below k n (t ∷ c) h = rw h.0 refl

  -- a key that is there gets the sum
  pub add_term-equal : (k : K) (n : ℕ) (t : K × ℕ) (c : Terms K) → cmp k t.0 ≡ Equal → add_term cmp p k n (t ∷ c) ≡ put cmp p t.0 ((n + t.1) % p) c
  add_term-equal k n t c h = rw h refl

  pub normal-Rises : (c : Terms K) → Rises c → normal cmp p c ≡ c
  normal-Rises [] r = refl
  normal-Rises (t ∷ c) r =
      ap (add_term cmp p t.0 t.1) (normal-Rises c r.3) ∙ add_term-below t.0 t.1 c r.2
      ∙ ap (λ n. put cmp p t.0 n c) (mod-eq_of_lt r.1) ∙ put-positive t.0 t.1 c r.0

  module _ (total : IsTotalOrder cmp) (pos : 0 < p) where
    pub flipped : (x y : K) (o : Ordering) → cmp x y ≡ o → cmp y x ≡ ordering_reverse o
    flipped x y o e = total.antisymm y x ∙ ap ordering_reverse e

    pub above_all : (k l : K) (c : Terms K) → cmp k l ≡ Less → Each (λ x. cmp l x ≡ Less) c → Each (λ x. cmp k x ≡ Less) c
    above_all k l [] e h = h
    above_all k l (t ∷ c) e h = (total.trans k l t.0 e h.0, above_all k l c e h.1)

    put-Rises : (k : K) (n : ℕ) (c : Terms K) → n < p → Each (λ x. cmp k x ≡ Less) c → Rises c → Rises (put cmp p k n c)
    put-Rises k zero c l h r = r
    put-Rises k (suc n) c l h r = (omega arith, l, h, r)

    put-Above : (l k : K) (n : ℕ) (c : Terms K) → cmp l k ≡ Less → Each (λ x. cmp l x ≡ Less) c → Each (λ x. cmp l x ≡ Less) (put cmp p k n c)
    put-Above l k zero c e h = h
    put-Above l k (suc n) c e h = (e, h)

    add-Above : (l k : K) (a : ℕ) (c : Terms K) → cmp l k ≡ Less → Each (λ x. cmp l x ≡ Less) c → Each (λ x. cmp l x ≡ Less) (add_term cmp p k a c)
    add-Above l k a [] e h = put-Above l k (a % p) [] e h
    add-Above l k a (t ∷ c) e h = by (cmp k t.0) (add-Above l k a c e h.1)
      where
        by : (o : Ordering) → Each (λ x. cmp l x ≡ Less) (add_term cmp p k a c)
            → Each (λ x. cmp l x ≡ Less) (by_order o (put cmp p k (a % p) (t ∷ c)) (put cmp p t.0 ((a + t.1) % p) c) (t ∷ add_term cmp p k a c))
        by Less r = put-Above l k (a % p) (t ∷ c) e h
        by Equal r = put-Above l t.0 ((a + t.1) % p) c h.0 h.1
        by Greater r = (h.0, r)

    pub add-Rises : (k : K) (a : ℕ) (c : Terms K) → Rises c → Rises (add_term cmp p k a c)
    add-Rises k a [] r = put-Rises k (a % p) [] (mod-lt a pos) tt tt
    add-Rises k a (t ∷ c) r = by (cmp k t.0) refl (add-Rises k a c r.3)
      where
        by : (o : Ordering) → cmp k t.0 ≡ o → Rises (add_term cmp p k a c)
            → Rises (by_order o (put cmp p k (a % p) (t ∷ c)) (put cmp p t.0 ((a + t.1) % p) c) (t ∷ add_term cmp p k a c))
        by Less e s = put-Rises k (a % p) (t ∷ c) (mod-lt a pos) (e, above_all k t.0 c e r.2) r
        by Equal e s = put-Rises t.0 ((a + t.1) % p) c (mod-lt (a + t.1) pos) r.2 r.3
        by Greater e s = (r.0, r.1, add-Above t.0 k a c (flipped k t.0 Greater e) r.2, s)

    pub Rises-normal : (c : Terms K) → Rises (normal cmp p c)
    Rises-normal [] = tt
    Rises-normal (t ∷ c) = add-Rises t.0 t.1 (normal cmp p c) (Rises-normal c)

    pub Rises-is : (c : Terms K) → normal cmp p c ≡ c → Rises c
    Rises-is c e = subst Rises e (Rises-normal c)

    pub normal-normal : (c : Terms K) → normal cmp p (normal cmp p c) ≡ normal cmp p c
    normal-normal c = normal-Rises (normal cmp p c) (Rises-normal c)

  -- a part of such a list
  Each-first : (P : K → Type 0) (a b : Terms K) → Each P (a ++ b) → Each P a
  Each-first P [] b h = tt
  Each-first P (t ∷ a) b h = (h.0, Each-first P a b h.1)

  pub Rises-first : (a b : Terms K) → Rises (a ++ b) → Rises a
  Rises-first [] b r = tt
  Rises-first (t ∷ a) b r = (r.0, r.1, Each-first (λ x. cmp t.0 x ≡ Less) a b r.2, Rises-first a b r.3)

  pub Rises-second : (a b : Terms K) → Rises (a ++ b) → Rises b
  Rises-second [] b r = r
  Rises-second (t ∷ a) b r = Rises-second a b r.3

  pub Rises-Ascends : (c : Terms K) → Rises c → Ascends cmp c
  Rises-Ascends [] r = tt
  Rises-Ascends (t ∷ c) r = (r.2, Rises-Ascends c r.3)

  pub elements : (xs : List (K × Fp)) → Rises (numbers xs) → All (λ t. t.1.value < p) xs
  elements [] r k d h = absurd (omega arith)
  elements (t ∷ xs) r zero d h = r.1
  elements (t ∷ xs) r (suc k) d h = elements xs r.3 k d (omega arith)

  pub nonzeros : (xs : List (K × Fp)) → Rises (numbers xs) → All (λ t. 0 < t.1.value) xs
  nonzeros [] r k d h = absurd (omega arith)
  nonzeros (t ∷ xs) r zero d h = r.0
  nonzeros (t ∷ xs) r (suc k) d h = nonzeros xs r.3 k d (omega arith)

module _ {K : Type 0} (cmp : K → K → Ordering) (total : IsTotalOrder cmp) (q : Prime) where
  pub rises : (c : Terms K) → IsNormal cmp (number q) c → Rises cmp (number q) c
  rises c e = Rises-is cmp (number q) total (number_pos q) c e

  pub ascends : (c : Terms K) → IsNormal cmp (number q) c → Ascends cmp c
  ascends c e = Rises-Ascends cmp (number q) c (rises c e)

  pub all_elements : (xs : List (K × Fp)) → IsNormal cmp (number q) (numbers xs) → All (λ t. t.1.value < number q) xs
  all_elements xs e = elements cmp (number q) xs (rises (numbers xs) e)

  pub all_nonzero : (xs : List (K × Fp)) → IsNormal cmp (number q) (numbers xs) → All (λ t. 0 < t.1.value) xs
  all_nonzero xs e = nonzeros cmp (number q) xs (rises (numbers xs) e)

  pub added-normal : (k : K) (n : ℕ) (c : Terms K) → IsNormal cmp (number q) c → IsNormal cmp (number q) (add_term cmp (number q) k n c)
  added-normal k n c e = normal-Rises cmp (number q) _ (add-Rises cmp (number q) total (number_pos q) k n c (rises c e))

  pub first-normal : (a b : Terms K) → IsNormal cmp (number q) (a ++ b) → IsNormal cmp (number q) a
  first-normal a b e = normal-Rises cmp (number q) a (Rises-first cmp (number q) a b (rises (a ++ b) e))
