-- Weights of chains under maps, of sums of maps and of combinations.
use Rattle.std.proofs.Common.{◌≡◌, ℕ, ◌+◌, ◌*◌, ◌-◌, ◌%◌, ◌<◌, Bool, List, [], ◌∷◌, ◌++◌, map, refl, sym, ◌∙◌, ap, arith}
use Rattle.std.specs.Cmp.{IsEquivalence}
use Rattle.std.specs.List.{AllByRecursion as EachOf}
use Rattle.fp_field.specs.Field.{SameMod}
use Rattle.fp_field.specs.Chains.{Terms, weigh, scale, extend, combination, Each}
use Rattle.fp_field.specs.Reduction.{SameTerms, one, after}
use Rattle.fp_field.proofs.Mod.{same-plus, same-times, same-by, pred-times}
use Rattle.fp_field.proofs.Weights.{weigh-append, weigh-scale, weigh-extend, weigh-mod, Each-append, Each-scale}
use Rattle.fp_field.proofs.Fair.{Fair, under}

-- ---- lists

-- a fact of each key that follows from another one
pub Each-weaker : {K : Type 0} (P Q : K → Type 0) → ((k : K) → P k → Q k) → (c : Terms K) → Each P c → Each Q c
Each-weaker P Q f [] h = tt
Each-weaker P Q f (t ∷ c) h = (f t.0 h.0, Each-weaker P Q f c h.1)

pub map-map : {A B C : Type 0} (f : B → C) (g : A → B) (xs : List A) → map f (map g xs) ≡ map (λ x. f (g x)) xs
map-map f g [] = refl
map-map f g (x ∷ xs) = ap (λ ys. f (g x) ∷ ys) (map-map f g xs)

-- ---- exact weights

pub weigh-one : {K : Type 0} (w : K → ℕ) (c : Terms K) → weigh w (extend one c) ≡ weigh w c
weigh-one w [] = refl
weigh-one w (t ∷ c) = omega (arith, weigh-one w c)

module _ {K J : Type 0} (w : J → ℕ) where
  pub weigh-both : (f g : K → Terms J) (c : Terms K) → weigh w (extend (λ k. f k ++ g k) c) ≡ weigh w (extend f c) + weigh w (extend g c)
  weigh-both f g [] = omega arith
  weigh-both f g (t ∷ c) =
      omega (
        arith,
        weigh-append w (scale t.1 (f t.0 ++ g t.0)) (extend (λ k. f k ++ g k) c),
        weigh-scale w t.1 (f t.0 ++ g t.0),
        ap (λ n. t.1 * n) (weigh-append w (f t.0) (g t.0)),
        weigh-append w (scale t.1 (f t.0)) (extend f c),
        weigh-scale w t.1 (f t.0),
        weigh-append w (scale t.1 (g t.0)) (extend g c),
        weigh-scale w t.1 (g t.0),
        weigh-both f g c,
      )

  -- one map after another
  pub weigh-after : {I : Type 0} (f : K → Terms J) (g : I → Terms K) (c : Terms I) → weigh w (extend f (extend g c)) ≡ weigh w (extend (after f g) c)
  weigh-after {I = I} f g c = weigh-extend w f (extend g c) ∙ along c
    where
      along : (c : Terms I) → weigh (λ k. weigh w (f k)) (extend g c) ≡ weigh w (extend (after f g) c)
      along [] = refl
      along (t ∷ c) =
          omega (
            arith,
            weigh-append (λ k. weigh w (f k)) (scale t.1 (g t.0)) (extend g c),
            weigh-scale (λ k. weigh w (f k)) t.1 (g t.0),
            weigh-append w (scale t.1 (extend f (g t.0))) (extend (after f g) c),
            weigh-scale w t.1 (extend f (g t.0)),
            ap (λ n. t.1 * n) (weigh-extend w f (g t.0)),
            along c,
          )

  pub weigh-extend_append : (f : K → Terms J) (c d : Terms K) → weigh w (extend f (c ++ d)) ≡ weigh w (extend f c) + weigh w (extend f d)
  weigh-extend_append f c d =
      omega (arith, weigh-extend w f (c ++ d), weigh-append (λ k. weigh w (f k)) c d, weigh-extend w f c, weigh-extend w f d)

pub weigh-combination : {K : Type 0} (w : K → ℕ) (a : ℕ) (as' : List ℕ) (z : Terms K) (zs : List (Terms K))
    → weigh w (combination (a ∷ as') (z ∷ zs)) ≡ a * weigh w z + weigh w (combination as' zs)
weigh-combination w a as' z zs = omega (arith, weigh-append w (scale a z) (combination as' zs), weigh-scale w a z)

pub Each-combination : {K A : Type 0} (P : K → Type 0) (Q : A → Type 0) (f : A → Terms K) → ((x : A) → Q x → Each P (f x))
    → (cs : List ℕ) (xs : List A) → EachOf Q xs → Each P (combination cs (map f xs))
Each-combination P Q f e [] xs h = tt
Each-combination P Q f e (c ∷ cs) [] h = tt
Each-combination P Q f e (c ∷ cs) (x ∷ xs) h =
    Each-append P (scale c (f x)) (combination cs (map f xs)) (Each-scale P c (f x) (e x h.0)) (Each-combination P Q f e cs xs h.1)

-- ---- weights modulo p

module _ (p : ℕ) where
  -- combinations of chains with the same weights
  pub combination-weights : {A K J : Type 0} (v : K → ℕ) (w : J → ℕ) (f : A → Terms K) (g : A → Terms J) (P : A → Type 0)
      → ((x : A) → P x → SameMod p (weigh v (f x)) (weigh w (g x)))
      → (cs : List ℕ) (xs : List A) → EachOf P xs → SameMod p (weigh v (combination cs (map f xs))) (weigh w (combination cs (map g xs)))
  combination-weights v w f g P e [] xs h = refl
  combination-weights v w f g P e (c ∷ cs) [] h = refl
  combination-weights v w f g P e (c ∷ cs) (x ∷ xs) h =
      ap (λ n. n % p) (weigh-combination v c cs (f x) (map f xs))
      ∙ same-plus p _ _ _ _ (same-times p c _ _ (e x h.0)) (combination-weights v w f g P e cs xs h.1)
      ∙ ap (λ n. n % p) (sym (weigh-combination w c cs (g x) (map g xs)))

  module _ (pos : 0 < p) {J : Type 0} (same : J → J → Bool) (eq : IsEquivalence same) where
    -- maps that agree at the keys of a chain
    pub agree : {K : Type 0} (P : K → Type 0) (f g : K → Terms J) → ((k : K) → P k → SameTerms p same (f k) (g k))
        → (c : Terms K) → Each P c → (w : J → ℕ) → Fair p pos same w → SameMod p (weigh w (extend f c)) (weigh w (extend g c))
    agree P f g e c is w fair =
        ap (λ n. n % p) (weigh-extend w f c)
        ∙ weigh-mod P p (λ k. weigh w (f k)) (λ k. weigh w (g k)) (λ k h. under p pos same eq w fair (f k) (g k) (e k h)) c is
        ∙ ap (λ n. n % p) (sym (weigh-extend w g c))

    -- two ways through a square that agree at the keys of a chain
    pub square : {K L M : Type 0} (P : K → Type 0) (f : L → Terms J) (g : K → Terms L) (f' : M → Terms J) (g' : K → Terms M)
        → ((k : K) → P k → SameTerms p same (after f g k) (after f' g' k))
        → (c : Terms K) → Each P c → (w : J → ℕ) → Fair p pos same w → SameMod p (weigh w (extend f (extend g c))) (weigh w (extend f' (extend g' c)))
    square P f g f' g' e c is w fair =
        ap (λ n. n % p) (weigh-after w f g c) ∙ agree P (after f g) (after f' g') e c is w fair ∙ ap (λ n. n % p) (sym (weigh-after w f' g' c))

  -- ---- numbers

  pub from-homotopy : 0 < p → (z dh hd gf c g : ℕ) → SameMod p (dh + (hd + gf)) z → SameMod p hd 0 → SameMod p gf (c + g) → SameMod p (z + (p - 1) * c) (dh + g)
  from-homotopy pos z dh hd gf c g e f h =
      same-plus p z (dh + (hd + gf)) ((p - 1) * c) ((p - 1) * c) (sym e) refl
      ∙ same-plus p (dh + (hd + gf)) (dh + (0 + (c + g))) ((p - 1) * c) ((p - 1) * c) (same-plus p dh dh (hd + gf) (0 + (c + g)) refl (same-plus p hd 0 gf (c + g) f h)) refl
      ∙ same-by p (dh + (0 + (c + g)) + (p - 1) * c) (dh + g) 0 c (omega (arith, pred-times p c pos))

  pub to-sum : 0 < p → (z c r : ℕ) → SameMod p (z + (p - 1) * c) r → SameMod p (c + r) z
  to-sum pos z c r e =
      same-plus p c c r (z + (p - 1) * c) refl (sym e) ∙ same-by p (c + (z + (p - 1) * c)) z 0 c (omega (arith, pred-times p c pos))
