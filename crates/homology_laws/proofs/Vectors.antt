-- Chains and their vectors over a base: each determines the other, up to equal keys and modulo p.
use Rattle.std.proofs.Common.{◌≡◌, ℕ, zero, suc, ◌+◌, ◌*◌, ◌%◌, ◌<◌, Bool, true, false, ◌||◌, cond, List, [], ◌∷◌, ◌++◌, map, length, refl, sym, ◌∙◌, ap, subst, arith, true≢false}
use Rattle.std.proofs.Math.Nat.{mod-lt, mod-eq_of_lt, zero-mod, add-mod}
use Rattle.std.proofs.Math.ListN.{length-map}
use Rattle.std.proofs.lemmas.Nat.{mul-mod_first, mul-mod_second}
use Rattle.std.proofs.lemmas.List.Elements.{All-map, All-head, All-tail, recursion_from_All}
use Rattle.std.specs.Cmp.{IsEquivalence}
use Rattle.std.specs.List.{AllPairs, list_any, AllByRecursion as EachOf}
use Rattle.fp_field.specs.Field.{SameMod}
use Rattle.fp_field.specs.Chains.{Terms, weigh, coeff, scale, extend, combination, Each}
use Rattle.fp_field.specs.Reduction.{SameTerms}
use Rattle.fp_field.proofs.Mod.{same-plus, same-times}
use Rattle.fp_field.proofs.Weights.{weigh-append, weigh-scale}
use Rattle.fp_field.proofs.Fair.{Fair}
use Rattle.echelons.specs.Echelon.{Vector, IsVector, zeros, vector_plus, multiple, combined}
use Rattle.echelons.proofs.Vectors.{Wide, length-multiple, length-combined}
use Rattle.homology_laws.specs.Lists.{chain_on, numbers_at}
use Rattle.homology_laws.proofs.Sums.{weigh-combination}

-- ---- linear in the vector

-- a map on a chain that is given by a vector
pub extend-chain_on : {K J : Type 0} (f : K → Terms J) (ys : List K) (v : Vector) → extend f (chain_on ys v) ≡ combination v (map f ys)
extend-chain_on f [] [] = refl
extend-chain_on f [] (a ∷ v) = refl
extend-chain_on f (y ∷ ys) [] = refl
extend-chain_on f (y ∷ ys) (a ∷ v) = ap (λ c. scale a (f y) ++ c) (extend-chain_on f ys v)

pub Each-chain_on : {K : Type 0} (P : K → Type 0) (ys : List K) (v : Vector) → EachOf P ys → Each P (chain_on ys v)
Each-chain_on P [] v h = tt
Each-chain_on P (y ∷ ys) [] h = tt
Each-chain_on P (y ∷ ys) (a ∷ v) h = (h.0, Each-chain_on P ys v h.1)

module _ {K : Type 0} (p : ℕ) (w : K → ℕ) where
  pub weigh-zeros : (ys : List K) (n : ℕ) → weigh w (chain_on ys (zeros n)) ≡ 0
  weigh-zeros [] n = refl
  weigh-zeros (y ∷ ys) zero = refl
  weigh-zeros (y ∷ ys) (suc n) = omega (arith, weigh-zeros ys n)

  pub weigh-vector_plus : (ys : List K) (u v : Vector) → length u ≡ length v
      → SameMod p (weigh w (chain_on ys (vector_plus p u v))) (weigh w (chain_on ys u) + weigh w (chain_on ys v))
  weigh-vector_plus [] u v e = refl
  weigh-vector_plus (y ∷ ys) [] [] e = refl
  weigh-vector_plus (y ∷ ys) [] (b ∷ v) e = absurd (omega arith)
  weigh-vector_plus (y ∷ ys) (a ∷ u) [] e = absurd (omega arith)
  weigh-vector_plus (y ∷ ys) (a ∷ u) (b ∷ v) e =
      same-plus p ((a + b) % p * w y) ((a + b) * w y) (weigh w (chain_on ys (vector_plus p u v))) (weigh w (chain_on ys u) + weigh w (chain_on ys v))
      (mul-mod_first (a + b) (w y) p) (weigh-vector_plus ys u v (omega arith))
      ∙ ap (λ n. n % p)
      (let q : (a + b) * w y + (weigh w (chain_on ys u) + weigh w (chain_on ys v)) ≡ (a * w y + weigh w (chain_on ys u)) + (b * w y + weigh w (chain_on ys v)) = omega arith in q)

  pub weigh-multiple : (ys : List K) (a : ℕ) (v : Vector) → SameMod p (weigh w (chain_on ys (multiple p a v))) (a * weigh w (chain_on ys v))
  weigh-multiple [] a v = ap (λ n. n % p) (let q : 0 ≡ a * 0 = omega arith in q)
  weigh-multiple (y ∷ ys) a [] = ap (λ n. n % p) (let q : 0 ≡ a * 0 = omega arith in q)
  weigh-multiple (y ∷ ys) a (b ∷ v) =
      same-plus p ((a * b) % p * w y) ((a * b) * w y) (weigh w (chain_on ys (multiple p a v))) (a * weigh w (chain_on ys v))
      (mul-mod_first (a * b) (w y) p) (weigh-multiple ys a v)
      ∙ ap (λ n. n % p) (let q : (a * b) * w y + a * weigh w (chain_on ys v) ≡ a * (b * w y + weigh w (chain_on ys v)) = omega arith in q)

  pub weigh-combined : (ys : List K) (n : ℕ) (cs : List ℕ) (vs : List Vector) → Wide n vs
      → SameMod p (weigh w (chain_on ys (combined p n cs vs))) (weigh w (combination cs (map (chain_on ys) vs)))
  weigh-combined ys n [] vs h = ap (λ m. m % p) (weigh-zeros ys n)
  weigh-combined ys n (c ∷ cs) [] h = ap (λ m. m % p) (weigh-zeros ys n)
  weigh-combined ys n (c ∷ cs) (v ∷ vs) h =
      weigh-vector_plus ys (multiple p c v) (combined p n cs vs) (length-multiple p n c v h.0 ∙ sym (length-combined p n cs vs h.1))
      ∙ same-plus p _ _ _ _ (weigh-multiple ys c v) (weigh-combined ys n cs vs h.1)
      ∙ ap (λ m. m % p) (sym (weigh-combination w c cs (chain_on ys v) (map (chain_on ys) vs)))

-- ---- linear in the chain

module _ {K : Type 0} (p : ℕ) (same : K → K → Bool) where
  pub numbers-same : (ys : List K) (c d : Terms K) → SameTerms p same c d → numbers_at p same ys c ≡ numbers_at p same ys d
  numbers-same [] c d h = refl
  numbers-same (y ∷ ys) c d h = λ i. h y i ∷ numbers-same ys c d h i

  pub numbers-append : (ys : List K) (c d : Terms K) → numbers_at p same ys (c ++ d) ≡ vector_plus p (numbers_at p same ys c) (numbers_at p same ys d)
  numbers-append [] c d = refl
  numbers-append (y ∷ ys) c d = λ i. first i ∷ numbers-append ys c d i
    where
      first : coeff same (c ++ d) y % p ≡ (coeff same c y % p + coeff same d y % p) % p
      first = ap (λ n. n % p) (weigh-append (λ x. cond (same x y) 1 0) c d) ∙ add-mod (coeff same c y) (coeff same d y) p

  pub numbers-scale : (ys : List K) (a : ℕ) (c : Terms K) → numbers_at p same ys (scale a c) ≡ multiple p a (numbers_at p same ys c)
  numbers-scale [] a c = refl
  numbers-scale (y ∷ ys) a c = λ i. first i ∷ numbers-scale ys a c i
    where
      first : coeff same (scale a c) y % p ≡ (a * (coeff same c y % p)) % p
      first = ap (λ n. n % p) (weigh-scale (λ x. cond (same x y) 1 0) a c) ∙ sym (mul-mod_second a (coeff same c y) p)

  pub numbers-none : (ys : List K) → numbers_at p same ys [] ≡ zeros (length ys)
  numbers-none [] = refl
  numbers-none (y ∷ ys) = λ i. zero-mod p i ∷ numbers-none ys i

  pub numbers-combination : (ys : List K) (cs : List ℕ) (zs : List (Terms K))
      → numbers_at p same ys (combination cs zs) ≡ combined p (length ys) cs (map (numbers_at p same ys) zs)
  numbers-combination ys [] zs = numbers-none ys
  numbers-combination ys (c ∷ cs) [] = numbers-none ys
  numbers-combination ys (c ∷ cs) (z ∷ zs) =
      numbers-append ys (scale c z) (combination cs zs)
      ∙ λ i. vector_plus p (numbers-scale ys c z i) (numbers-combination ys cs zs i)

  pub numbers-vector : 0 < p → (ys : List K) (c : Terms K) → IsVector p (length ys) (numbers_at p same ys c)
  numbers-vector pos ys c = record {
    wide = length-map ys (λ y. coeff same c y % p);
    below = All-map (λ a. a < p) (λ y. coeff same c y % p) ys (λ k d l. mod-lt _ pos);
  }

-- ---- bases

-- no two of a list are equal
abbrev pub Apart : {K : Type 0} → (K → K → Bool) → List K → Type 0
Apart same [] = Unit {0}
Apart same (y ∷ ys) = EachOf (λ x. same y x ≡ false) ys × Apart same ys

pub Apart-from : {K : Type 0} (same : K → K → Bool) (ys : List K) → AllPairs (λ x y. same x y ≡ false) ys → Apart same ys
Apart-from same [] h = tt
Apart-from same (y ∷ ys) h = (
  recursion_from_All (λ x. same y x ≡ false) ys (λ k d l. h 0 (suc k) d (omega arith) (omega arith)),
  Apart-from same ys (λ i j d l m. h (suc i) (suc j) d (omega arith) (omega arith)),
)

module _ {K : Type 0} (p : ℕ) (pos : 0 < p) (same : K → K → Bool) (eq : IsEquivalence same) where
  -- the numbers of a chain at a list of which none is its key
  none-there : (ys : List K) (k : K) → EachOf (λ y. same k y ≡ false) ys → (w : K → ℕ) → weigh w (chain_on ys (map (λ y. cond (same k y) 1 0) ys)) ≡ 0
  none-there [] k h w = refl
  none-there (y ∷ ys) k h w = rw h.0 (omega (arith, none-there ys k h.1 w))

  moved : (ys : List K) (k y : K) → same k y ≡ true → EachOf (λ x. same y x ≡ false) ys → EachOf (λ x. same k x ≡ false) ys
  moved [] k y e h = tt
  moved (x ∷ ys) k y e h = (eq.congr k y x e ∙ h.0, moved ys k y e h.1)

  or-second : (a b : Bool) → a ≡ false → a || b ≡ true → b ≡ true
  or-second a b e h = subst (λ c. c || b ≡ true) e h

  -- and at one of which one is
  one-there : (ys : List K) (k : K) → Apart same ys → list_any (same k) ys ≡ true → (w : K → ℕ) → Fair p pos same w
      → SameMod p (weigh w (chain_on ys (map (λ y. cond (same k y) 1 0) ys))) (w k)
  one-there [] k o h w fair = absurd (true≢false (sym h))
  one-there (y ∷ ys) k o h w fair = by (same k y) refl (λ g. one-there ys k o.1 g w fair)
    where
      by : (b : Bool) → same k y ≡ b → (list_any (same k) ys ≡ true → SameMod p (weigh w (chain_on ys (map (λ y. cond (same k y) 1 0) ys))) (w k))
          → SameMod p (cond b 1 0 * w y + weigh w (chain_on ys (map (λ y. cond (same k y) 1 0) ys))) (w k)
      by true e f =
          ap (λ n. n % p) (let q : 1 * w y + weigh w (chain_on ys (map (λ y. cond (same k y) 1 0) ys)) ≡ w y = omega (arith, none-there ys k (moved ys k y e o.0) w) in q)
          ∙ sym (fair k y e)
      by false e f =
          ap (λ n. n % p) (let q : 0 * w y + weigh w (chain_on ys (map (λ y. cond (same k y) 1 0) ys)) ≡ weigh w (chain_on ys (map (λ y. cond (same k y) 1 0) ys)) = omega arith in q)
          ∙ f (or-second (same k y) (list_any (same k) ys) e h)

  -- a number more at each place
  line : (ys : List K) (w : K → ℕ) (a : ℕ) (q r : K → ℕ)
      → SameMod p (weigh w (chain_on ys (map (λ y. (a * q y + r y) % p) ys))) (a * weigh w (chain_on ys (map q ys)) + weigh w (chain_on ys (map (λ y. r y % p) ys)))
  line [] w a q r = ap (λ n. n % p) (let e : 0 ≡ a * 0 + 0 = omega arith in e)
  line (y ∷ ys) w a q r =
      same-plus p ((a * q y + r y) % p * w y) ((a * q y) * w y + r y % p * w y) _ _
      (mul-mod_first (a * q y + r y) (w y) p ∙ ap (λ n. n % p) (let e : (a * q y + r y) * w y ≡ (a * q y) * w y + r y * w y = omega arith in e)
      ∙ same-plus p ((a * q y) * w y) ((a * q y) * w y) (r y * w y) (r y % p * w y) refl (sym (mul-mod_first (r y) (w y) p)))
      (line ys w a q r)
      ∙ ap (λ n. n % p)
      (let e : ((a * q y) * w y + r y % p * w y) + (a * weigh w (chain_on ys (map q ys)) + weigh w (chain_on ys (map (λ y. r y % p) ys)))
      ≡ a * (q y * w y + weigh w (chain_on ys (map q ys))) + (r y % p * w y + weigh w (chain_on ys (map (λ y. r y % p) ys))) = omega arith in e)

  module _ (ys : List K) (apart : Apart same ys) where
    none-at-all : (w : K → ℕ) (ys : List K) → weigh w (chain_on ys (map (λ y. 0 % p) ys)) ≡ 0
    none-at-all w [] = refl
    none-at-all w (y ∷ ys) = rw (zero-mod p) (omega (arith, none-at-all w ys))

    -- a chain of keys that the list has, from its numbers
    pub weigh-numbers : (c : Terms K) → Each (λ k. list_any (same k) ys ≡ true) c → (w : K → ℕ) → Fair p pos same w
        → SameMod p (weigh w (chain_on ys (numbers_at p same ys c))) (weigh w c)
    weigh-numbers [] h w fair = ap (λ n. n % p) (none-at-all w ys)
    weigh-numbers (t ∷ c) h w fair =
        line ys w t.1 (λ y. cond (same t.0 y) 1 0) (λ y. coeff same c y)
        ∙ same-plus p _ _ _ _ (same-times p t.1 _ _ (one-there ys t.0 apart h.0 w fair)) (weigh-numbers c h.1 w fair)

  -- ---- the numbers of a vector's chain

  others : (k : K) (ys : List K) (v : Vector) → EachOf (λ y. same k y ≡ false) ys → coeff same (chain_on ys v) k ≡ 0
  others k [] v h = refl
  others k (y ∷ ys) [] h = refl
  others k (y ∷ ys) (a ∷ v) h = rw (eq.symm y k ∙ h.0) (omega (arith, others k ys v h.1))

  later : (y : K) (a : ℕ) (c : Terms K) (xs : List K) → EachOf (λ x. same y x ≡ false) xs
      → map (λ x. (a * cond (same y x) 1 0 + coeff same c x) % p) xs ≡ numbers_at p same xs c
  later y a c [] h = refl
  later y a c (x ∷ xs) h = λ i. first i ∷ later y a c xs h.1 i
    where
      first : (a * cond (same y x) 1 0 + coeff same c x) % p ≡ coeff same c x % p
      first = rw h.0 (ap (λ n. n % p) (let q : a * 0 + coeff same c x ≡ coeff same c x = omega arith in q))

  pub numbers-chain_on : (ys : List K) (v : Vector) → Apart same ys → IsVector p (length ys) v → numbers_at p same ys (chain_on ys v) ≡ v
  numbers-chain_on [] [] o h = refl
  numbers-chain_on [] (a ∷ v) o h = absurd (let e : suc (length v) ≡ 0 = h.wide in omega (arith, e))
  numbers-chain_on (y ∷ ys) [] o h = absurd (let e : 0 ≡ suc (length ys) = h.wide in omega (arith, e))
  numbers-chain_on (y ∷ ys) (a ∷ v) o h =
      let e : suc (length v) ≡ suc (length ys) = h.wide in
      let rest = later y a (chain_on ys v) ys o.0 ∙ numbers-chain_on ys v o.1 (record { wide = omega (arith, e); below = All-tail (λ b. b < p) a v h.below }) in
      λ i. first i ∷ rest i
    where
      first : (a * cond (same y y) 1 0 + coeff same (chain_on ys v) y) % p ≡ a
      first =
          rw (eq.refl y) (ap (λ n. n % p) (let q : a * 1 + coeff same (chain_on ys v) y ≡ a = omega (arith, others y ys v o.0) in q) ∙ mod-eq_of_lt (All-head (λ b. b < p) a v h.below))
