-- Vectors over F_p by their places: sums, multiples and combinations, and that the entries determine a vector.
use Rattle.std.proofs.Common.{◌≡◌, ℕ, zero, suc, ◌+◌, ◌*◌, ◌%◌, ◌<◌, ◌≤◌, List, [], ◌∷◌, length, refl, sym, ◌∙◌, ap, subst, arith}
use Rattle.std.proofs.Common.{ext_get_or, inl, inr, ◌⊎◌}
use Rattle.std.proofs.Math.Nat.{mod-lt, mod-eq_of_lt, mod-mod, zero-mod, add-mod}
use Rattle.std.proofs.lemmas.Nat.{mul-mod_first}
use Rattle.std.proofs.lemmas.Bool.{cases_lt}
use Rattle.std.proofs.lemmas.List.Elements.{All-get_or, All-from_get_or}
use Rattle.std.proofs.Math.ListN.{get_or-eq_default, length-map}
use Rattle.std.specs.List.{AllByRecursion as Each}
use Rattle.fp_field.specs.Field.{SameMod}
use Rattle.echelons.specs.Echelon.{Vector, IsVector, at_place, zeros, vector_plus, multiple, combined}
use Rattle.fp_field.proofs.Mod.{same-plus}

-- ---- lists that hold a fact of each element

module _ {A : Type 0} where
  pub Each-any : (P : A → Type 0) → ((x : A) → P x) → (xs : List A) → Each P xs
  Each-any P f [] = tt
  Each-any P f (x ∷ xs) = (f x, Each-any P f xs)

  pub Each-weaker : (P Q : A → Type 0) → ((x : A) → P x → Q x) → (xs : List A) → Each P xs → Each Q xs
  Each-weaker P Q f [] h = tt
  Each-weaker P Q f (x ∷ xs) h = (f x h.0, Each-weaker P Q f xs h.1)

  pub Each-both : (P Q R : A → Type 0) → ((x : A) → P x → Q x → R x) → (xs : List A) → Each P xs → Each Q xs → Each R xs
  Each-both P Q R f [] h g = tt
  Each-both P Q R f (x ∷ xs) h g = (f x h.0 g.0, Each-both P Q R f xs h.1 g.1)

-- ---- widths

pub length-zeros : (w : ℕ) → length (zeros w) ≡ w
length-zeros zero = refl
length-zeros (suc w) = ap suc (length-zeros w)

pub place-zeros : (w j : ℕ) → at_place (zeros w) j ≡ 0
place-zeros zero j = refl
place-zeros (suc w) zero = refl
place-zeros (suc w) (suc j) = place-zeros w j

-- the number at a place of a combination, before it is taken modulo p
abbrev pub weight : List ℕ → List Vector → ℕ → ℕ
weight [] vs j = 0
weight (a ∷ as') [] j = 0
weight (a ∷ as') (v ∷ vs) j = a * at_place v j + weight as' vs j

abbrev pub Wide : ℕ → List Vector → Type 0
Wide w vs = Each (λ v. length v ≡ w) vs

pub vectors-wide : (p w : ℕ) (vs : List Vector) → Each (IsVector p w) vs → Wide w vs
vectors-wide p w vs h = Each-weaker (IsVector p w) (λ v. length v ≡ w) (λ v g. g.wide) vs h

module _ (p : ℕ) where
  pub length-plus : (w : ℕ) (u v : Vector) → length u ≡ w → length v ≡ w → length (vector_plus p u v) ≡ w
  length-plus w [] v e f = e
  length-plus w (a ∷ u) [] e f = f
  length-plus zero (a ∷ u) (b ∷ v) e f = absurd (omega arith)
  length-plus (suc w) (a ∷ u) (b ∷ v) e f = ap suc (length-plus w u v (omega arith) (omega arith))

  pub length-multiple : (w a : ℕ) (v : Vector) → length v ≡ w → length (multiple p a v) ≡ w
  length-multiple w a v e = length-map v (λ b. (a * b) % p) ∙ e

  pub length-combined : (w : ℕ) (cs : List ℕ) (vs : List Vector) → Wide w vs → length (combined p w cs vs) ≡ w
  length-combined w [] vs h = length-zeros w
  length-combined w (c ∷ cs) [] h = length-zeros w
  length-combined w (c ∷ cs) (v ∷ vs) h = length-plus w (multiple p c v) (combined p w cs vs) (length-multiple w c v h.0) (length-combined w cs vs h.1)

  pub plus-zeros : (w : ℕ) → vector_plus p (zeros w) (zeros w) ≡ zeros w
  plus-zeros zero = refl
  plus-zeros (suc w) = λ i. zero-mod p i ∷ plus-zeros w i

  pub multiple-zeros : (c w : ℕ) → multiple p c (zeros w) ≡ zeros w
  multiple-zeros c zero = refl
  multiple-zeros c (suc w) = λ i. none i ∷ multiple-zeros c w i
    where
      none : (c * 0) % p ≡ 0
      none = ap (λ n. n % p) (let q : c * 0 ≡ 0 = omega arith in q) ∙ zero-mod p

  -- ---- places

  pub at-plus : (u v : Vector) (j : ℕ) → length u ≡ length v → at_place (vector_plus p u v) j ≡ (at_place u j + at_place v j) % p
  at-plus [] [] j e = sym (zero-mod p)
  at-plus [] (b ∷ v) j e = absurd (omega arith)
  at-plus (a ∷ u) [] j e = absurd (omega arith)
  at-plus (a ∷ u) (b ∷ v) zero e = refl
  at-plus (a ∷ u) (b ∷ v) (suc j) e = at-plus u v j (omega arith)

  pub at-multiple : (a : ℕ) (v : Vector) (j : ℕ) → at_place (multiple p a v) j ≡ (a * at_place v j) % p
  at-multiple a [] j = sym (zero-mod p) ∙ ap (λ n. n % p) (let e : 0 ≡ a * 0 = omega arith in e)
  at-multiple a (b ∷ v) zero = refl
  at-multiple a (b ∷ v) (suc j) = at-multiple a v j

  pub at-combined : (w : ℕ) (cs : List ℕ) (vs : List Vector) (j : ℕ) → Wide w vs → at_place (combined p w cs vs) j ≡ weight cs vs j % p
  at-combined w [] vs j h = place-zeros w j ∙ sym (zero-mod p)
  at-combined w (c ∷ cs) [] j h = place-zeros w j ∙ sym (zero-mod p)
  at-combined w (c ∷ cs) (v ∷ vs) j h =
      at-plus (multiple p c v) (combined p w cs vs) j (length-multiple w c v h.0 ∙ sym (length-combined w cs vs h.1))
      ∙ ap (λ n. (n + at_place (combined p w cs vs) j) % p) (at-multiple c v j)
      ∙ ap (λ n. ((c * at_place v j) % p + n) % p) (at-combined w cs vs j h.1)
      ∙ sym (add-mod (c * at_place v j) (weight cs vs j) p)

  -- the same modulo p
  pub place-plus : (u v : Vector) (j : ℕ) → length u ≡ length v → SameMod p (at_place (vector_plus p u v) j) (at_place u j + at_place v j)
  place-plus u v j e = ap (λ n. n % p) (at-plus u v j e) ∙ mod-mod (at_place u j + at_place v j) p

  pub place-multiple : (a : ℕ) (v : Vector) (j : ℕ) → SameMod p (at_place (multiple p a v) j) (a * at_place v j)
  place-multiple a v j = ap (λ n. n % p) (at-multiple a v j) ∙ mod-mod (a * at_place v j) p

  pub place-combined : (w : ℕ) (cs : List ℕ) (vs : List Vector) (j : ℕ) → Wide w vs → SameMod p (at_place (combined p w cs vs) j) (weight cs vs j)
  place-combined w cs vs j h = ap (λ n. n % p) (at-combined w cs vs j h) ∙ mod-mod (weight cs vs j) p

  -- ---- the vectors of a width

  module _ (pos : 0 < p) where
    pub below-at : (w : ℕ) (v : Vector) → IsVector p w v → (j : ℕ) → at_place v j < p
    below-at w v h j = by (cases_lt j (length v))
      where
        by : (j < length v) ⊎ (length v ≤ j) → at_place v j < p
        by (inl l) = All-get_or (λ a. a < p) v j 0 l h.below
        by (inr l) = subst (λ n. n < p) (sym (get_or-eq_default v 0 l)) pos

    pub vector-from : (w : ℕ) (v : Vector) → length v ≡ w → ((j : ℕ) → at_place v j < p) → IsVector p w v
    vector-from w v e h = record { wide = e; below = All-from_get_or (λ a. a < p) v 0 (λ j l. h j) }

    pub zeros-vector : (w : ℕ) → IsVector p w (zeros w)
    zeros-vector w = vector-from w (zeros w) (length-zeros w) (λ j. subst (λ n. n < p) (sym (place-zeros w j)) pos)

    pub plus-vector : (w : ℕ) (u v : Vector) → length u ≡ w → length v ≡ w → IsVector p w (vector_plus p u v)
    plus-vector w u v e f =
        vector-from w (vector_plus p u v) (length-plus w u v e f)
        (λ j. subst (λ n. n < p) (sym (at-plus u v j (e ∙ sym f))) (mod-lt (at_place u j + at_place v j) pos))

    pub multiple-vector : (w a : ℕ) (v : Vector) → length v ≡ w → IsVector p w (multiple p a v)
    multiple-vector w a v e =
        vector-from w (multiple p a v) (length-multiple w a v e)
        (λ j. subst (λ n. n < p) (sym (at-multiple a v j)) (mod-lt (a * at_place v j) pos))

    pub combined-vector : (w : ℕ) (cs : List ℕ) (vs : List Vector) → Wide w vs → IsVector p w (combined p w cs vs)
    combined-vector w cs vs h =
        vector-from w (combined p w cs vs) (length-combined w cs vs h)
        (λ j. subst (λ n. n < p) (sym (at-combined w cs vs j h)) (mod-lt (weight cs vs j) pos))

    -- two vectors with the same entries modulo p are equal
    pub same-vector : (w : ℕ) (u v : Vector) → IsVector p w u → IsVector p w v → ((j : ℕ) → SameMod p (at_place u j) (at_place v j)) → u ≡ v
    same-vector w u v g h e =
        ext_get_or 0 u v (g.wide ∙ sym h.wide) (λ j l. sym (mod-eq_of_lt (below-at w u g j)) ∙ e j ∙ mod-eq_of_lt (below-at w v h j))

  -- ---- how the number at a place goes with the coefficients

  pub weight-zeros : (n : ℕ) (vs : List Vector) (j : ℕ) → weight (zeros n) vs j ≡ 0
  weight-zeros zero vs j = refl
  weight-zeros (suc n) [] j = refl
  weight-zeros (suc n) (v ∷ vs) j = omega (arith, weight-zeros n vs j)

  pub weight-plus : (cs ds : List ℕ) (vs : List Vector) (j : ℕ) → length cs ≡ length ds → SameMod p (weight (vector_plus p cs ds) vs j) (weight cs vs j + weight ds vs j)
  weight-plus [] [] vs j e = refl
  weight-plus [] (d ∷ ds) vs j e = absurd (omega arith)
  weight-plus (c ∷ cs) [] vs j e = absurd (omega arith)
  weight-plus (c ∷ cs) (d ∷ ds) [] j e = refl
  weight-plus (c ∷ cs) (d ∷ ds) (v ∷ vs) j e =
      same-plus p ((c + d) % p * at_place v j) ((c + d) * at_place v j) (weight (vector_plus p cs ds) vs j) (weight cs vs j + weight ds vs j)
      (mul-mod_first (c + d) (at_place v j) p) (weight-plus cs ds vs j (omega arith))
      ∙ ap (λ n. n % p)
      (let q : (c + d) * at_place v j + (weight cs vs j + weight ds vs j) ≡ (c * at_place v j + weight cs vs j) + (d * at_place v j + weight ds vs j) = omega arith in q)

  pub weight-multiple : (a : ℕ) (cs : List ℕ) (vs : List Vector) (j : ℕ) → SameMod p (weight (multiple p a cs) vs j) (a * weight cs vs j)
  weight-multiple a [] vs j = ap (λ n. n % p) (let e : 0 ≡ a * 0 = omega arith in e)
  weight-multiple a (c ∷ cs) [] j = ap (λ n. n % p) (let e : 0 ≡ a * 0 = omega arith in e)
  weight-multiple a (c ∷ cs) (v ∷ vs) j =
      same-plus p ((a * c) % p * at_place v j) ((a * c) * at_place v j) (weight (multiple p a cs) vs j) (a * weight cs vs j)
      (mul-mod_first (a * c) (at_place v j) p) (weight-multiple a cs vs j)
      ∙ ap (λ n. n % p) (let q : (a * c) * at_place v j + a * weight cs vs j ≡ a * (c * at_place v j + weight cs vs j) = omega arith in q)

  -- where each vector is 0 at a place, so is each combination
  pub weight-clear : (cs : List ℕ) (vs : List Vector) (j : ℕ) → Each (λ v. at_place v j ≡ 0) vs → weight cs vs j ≡ 0
  weight-clear [] vs j h = refl
  weight-clear (c ∷ cs) [] j h = refl
  weight-clear (c ∷ cs) (v ∷ vs) j h = rw h.0 (omega (arith, weight-clear cs vs j h.1))
