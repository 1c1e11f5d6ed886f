-- The homotopy of K(Z,1) on integer lists, as sums of a function with values in the integers (Eilenberg and Mac Lane, On the groups
-- H(Pi,n), I).
--
-- A chain map is read by what it does to functions: (d U)(x) is the alternating sum of U over the faces of x, (hom U)(x) that of U over
-- H(x). Where U is 0 on lists that begin with 0 or with 1, 0, the homotopy changes by U(|1|a|w|) from one first integer a to the next,
-- so d H + H d = 1 - G F is shown by induction up and down from 0, without cases on the sign.
use Rattle.std.proofs.Common.{◌≡◌, ℕ, zero, suc, List, [], ◌∷◌, refl, sym, ◌∙◌, ap, arith}
use Rattle.std.proofs.Math.IntN.{ℤ, pos, negsuc, ◌+ℤ◌, ◌-ℤ◌, neg_ℤ, suc_ℤ, +ℤ_idl}
use Rattle.std.proofs.lemmas.Int.{ints}

-- ---- the integers

next-is : (a : ℤ) → suc_ℤ a ≡ pos 1 +ℤ a
next-is (pos n) = omega (arith, ints)
next-is (negsuc zero) = refl
next-is (negsuc (suc n)) = omega (arith, ints)

pub one-plus : (a : ℤ) → pos 1 +ℤ a ≡ suc_ℤ a
one-plus a = sym (next-is a)

next-plus : (a b : ℤ) → suc_ℤ a +ℤ b ≡ suc_ℤ (a +ℤ b)
next-plus a b = omega (arith, ints, next-is a, next-is (a +ℤ b))

pub up_and_down : (P : ℤ → Type 0) → P (pos 0) → ((a : ℤ) → P a → P (suc_ℤ a)) → ((a : ℤ) → P (suc_ℤ a) → P a) → (a : ℤ) → P a
up_and_down P z u d (pos zero) = z
up_and_down P z u d (pos (suc n)) = u (pos n) (up_and_down P z u d (pos n))
up_and_down P z u d (negsuc zero) = d (negsuc zero) z
up_and_down P z u d (negsuc (suc n)) = d (negsuc (suc n)) (up_and_down P z u d (negsuc n))

-- a times u
abbrev pub copies : ℕ → ℤ → ℤ
copies zero u = pos 0
copies (suc n) u = u +ℤ copies n u

abbrev pub times : ℤ → ℤ → ℤ
times (pos n) u = copies n u
times (negsuc n) u = neg_ℤ (copies (suc n) u)

times-next : (a u : ℤ) → times (suc_ℤ a) u ≡ u +ℤ times a u
times-next (pos n) u = refl
times-next (negsuc zero) u = omega (arith, ints)
times-next (negsuc (suc n)) u = omega (arith, ints)

pub times-plus : (a b u : ℤ) → times (a +ℤ b) u ≡ times a u +ℤ times b u
times-plus a b u = up_and_down (λ c. times (c +ℤ b) u ≡ times c u +ℤ times b u) (ap (λ c. times c u) (+ℤ_idl b) ∙ sym (+ℤ_idl (times b u))) above below a
  where
    at : (c : ℤ) → times (suc_ℤ c +ℤ b) u ≡ u +ℤ times (c +ℤ b) u
    at c = ap (λ e. times e u) (next-plus c b) ∙ times-next (c +ℤ b) u

    above : (c : ℤ) → times (c +ℤ b) u ≡ times c u +ℤ times b u → times (suc_ℤ c +ℤ b) u ≡ times (suc_ℤ c) u +ℤ times b u
    above c e = let f : times (suc_ℤ c +ℤ b) u ≡ u +ℤ times (c +ℤ b) u = at c in let g : times (suc_ℤ c) u ≡ u +ℤ times c u = times-next c u in omega (arith, ints, e, f, g)

    below : (c : ℤ) → times (suc_ℤ c +ℤ b) u ≡ times (suc_ℤ c) u +ℤ times b u → times (c +ℤ b) u ≡ times c u +ℤ times b u
    below c e = let f : times (suc_ℤ c +ℤ b) u ≡ u +ℤ times (c +ℤ b) u = at c in let g : times (suc_ℤ c) u ≡ u +ℤ times c u = times-next c u in omega (arith, ints, e, f, g)

-- ---- the maps

abbrev pub Function : Type 0
Function = List ℤ → ℤ

-- over the faces from face 1 on, face 1 with the sign +
abbrev pub later : Function → Function
later U [] = pos 0
later U (a ∷ []) = U []
later U (a ∷ (b ∷ x)) = U ((a +ℤ b) ∷ x) -ℤ later (λ y. U (a ∷ y)) (b ∷ x)

abbrev pub diff : Function → Function
diff U [] = pos 0
diff U (a ∷ x) = U x -ℤ later U (a ∷ x)

-- over the lists |1|c|w| for c from 1 to a, and for c from -a to -1
abbrev pub rising : Function → List ℤ → ℕ → ℤ
rising U w zero = pos 0
rising U w (suc a) = U (pos 1 ∷ (pos (suc a) ∷ w)) +ℤ rising U w a

abbrev pub falling : Function → List ℤ → ℕ → ℤ
falling U w zero = pos 0
falling U w (suc a) = U (pos 1 ∷ (negsuc a ∷ w)) +ℤ falling U w a

abbrev pub hom : Function → Function
hom U [] = pos 0
hom U (pos zero ∷ w) = pos 0
hom U (pos (suc a) ∷ w) = neg_ℤ (rising U w a)
hom U (negsuc a ∷ w) = falling U w (suc a)

abbrev pub circle : Function → Function
circle U [] = U []
circle U (a ∷ []) = times a (U (pos 1 ∷ []))
circle U (a ∷ (b ∷ x)) = pos 0

-- ---- the alternating sum is linear

later-minus : (U T : Function) (x : List ℤ) → later (λ y. U y -ℤ T y) x ≡ later U x -ℤ later T x
later-minus U T [] = refl
later-minus U T (a ∷ []) = refl
later-minus U T (a ∷ (b ∷ x)) = omega (arith, ints, later-minus (λ y. U (a ∷ y)) (λ y. T (a ∷ y)) (b ∷ x))

later-same : (U T : Function) → ((y : List ℤ) → U y ≡ T y) → (x : List ℤ) → later U x ≡ later T x
later-same U T e x = λ i. later (λ y. e y i) x

later-nothing : (x : List ℤ) → later (λ y. pos 0) x ≡ pos 0
later-nothing [] = refl
later-nothing (a ∷ []) = refl
later-nothing (a ∷ (b ∷ x)) = omega (arith, ints, later-nothing (b ∷ x))

-- ---- f is a chain map to a complex without a differential

pub circle-closed : (U : Function) (x : List ℤ) → diff (circle U) x ≡ pos 0
circle-closed U [] = refl
circle-closed U (a ∷ []) = omega (arith, ints)
circle-closed U (a ∷ (b ∷ [])) = omega (arith, ints, times-plus a b (U (pos 1 ∷ [])))
circle-closed U (a ∷ (b ∷ (c ∷ x))) = omega (arith, ints, later-nothing (c ∷ x))

-- ---- the homotopy

-- 0 where the list begins with 0, or with 1 and 0
pub record IsReducedOn (U : Function) : Type 0 where
  pub first : (w : List ℤ) → U (pos 0 ∷ w) ≡ pos 0
  pub second : (w : List ℤ) → U (pos 1 ∷ (pos 0 ∷ w)) ≡ pos 0

-- from one first integer to the next
hom-next : (U : Function) → ((w : List ℤ) → U (pos 1 ∷ (pos 0 ∷ w)) ≡ pos 0) → (a : ℤ) (w : List ℤ) → hom U (suc_ℤ a ∷ w) ≡ hom U (a ∷ w) -ℤ U (pos 1 ∷ (a ∷ w))
hom-next U z (pos zero) w = omega (arith, ints, z w)
hom-next U z (pos (suc n)) w = omega (arith, ints)
hom-next U z (negsuc zero) w = omega (arith, ints)
hom-next U z (negsuc (suc n)) w = omega (arith, ints)

module _ (U : Function) (is : IsReducedOn U) where
  diff-one : (a : ℤ) → diff U (pos 1 ∷ (a ∷ [])) ≡ U (a ∷ []) -ℤ U (suc_ℤ a ∷ []) +ℤ U (pos 1 ∷ [])
  diff-one a = let e : U ((pos 1 +ℤ a) ∷ []) ≡ U (suc_ℤ a ∷ []) = ap (λ c. U (c ∷ [])) (one-plus a) in omega (arith, ints, e)

  diff-more : (a b : ℤ) (x : List ℤ)
      → diff U (pos 1 ∷ (a ∷ (b ∷ x))) ≡ U (a ∷ (b ∷ x)) -ℤ U (suc_ℤ a ∷ (b ∷ x)) +ℤ U (pos 1 ∷ ((a +ℤ b) ∷ x)) -ℤ later (λ y. U (pos 1 ∷ (a ∷ y))) (b ∷ x)
  diff-more a b x = let e : U ((pos 1 +ℤ a) ∷ (b ∷ x)) ≡ U (suc_ℤ a ∷ (b ∷ x)) = ap (λ c. U (c ∷ (b ∷ x))) (one-plus a) in omega (arith, ints, e)

  diff-reduced : (w : List ℤ) → diff U (pos 1 ∷ (pos 0 ∷ w)) ≡ pos 0
  diff-reduced [] = omega (arith, ints, diff-one (pos 0), is.first [])
  diff-reduced (b ∷ x) =
      let e : U (pos 1 ∷ ((pos 0 +ℤ b) ∷ x)) ≡ U (pos 1 ∷ (b ∷ x)) = ap (λ c. U (pos 1 ∷ (c ∷ x))) (+ℤ_idl b) in
      let f : later (λ y. U (pos 1 ∷ (pos 0 ∷ y))) (b ∷ x) ≡ pos 0 = later-same (λ y. U (pos 1 ∷ (pos 0 ∷ y))) (λ y. pos 0) is.second (b ∷ x) ∙ later-nothing (b ∷ x) in
      omega (arith, ints, diff-more (pos 0) b x, is.first (b ∷ x), e, f)

  -- d H + H d
  abbrev both : List ℤ → ℤ
  both x = hom (diff U) x +ℤ diff (hom U) x

  both-one_next : (a : ℤ) → both (suc_ℤ a ∷ []) +ℤ U (a ∷ []) +ℤ U (pos 1 ∷ []) ≡ both (a ∷ []) +ℤ U (suc_ℤ a ∷ [])
  both-one_next a = omega (arith, ints, hom-next (diff U) diff-reduced a [], diff-one a)

  both-next : (a b : ℤ) (x : List ℤ) → both (suc_ℤ a ∷ (b ∷ x)) +ℤ U (a ∷ (b ∷ x)) ≡ both (a ∷ (b ∷ x)) +ℤ U (suc_ℤ a ∷ (b ∷ x))
  both-next a b x =
      let e : later (λ y. hom U (suc_ℤ a ∷ y)) (b ∷ x) ≡ later (λ y. hom U (a ∷ y)) (b ∷ x) -ℤ later (λ y. U (pos 1 ∷ (a ∷ y))) (b ∷ x)
      = later-same (λ y. hom U (suc_ℤ a ∷ y)) (λ y. hom U (a ∷ y) -ℤ U (pos 1 ∷ (a ∷ y))) (hom-next U is.second a) (b ∷ x)
      ∙ later-minus (λ y. hom U (a ∷ y)) (λ y. U (pos 1 ∷ (a ∷ y))) (b ∷ x) in
      let f : hom U ((suc_ℤ a +ℤ b) ∷ x) ≡ hom U ((a +ℤ b) ∷ x) -ℤ U (pos 1 ∷ ((a +ℤ b) ∷ x))
      = ap (λ c. hom U (c ∷ x)) (next-plus a b) ∙ hom-next U is.second (a +ℤ b) x in
      let g : hom (diff U) (suc_ℤ a ∷ (b ∷ x)) ≡ hom (diff U) (a ∷ (b ∷ x)) -ℤ diff U (pos 1 ∷ (a ∷ (b ∷ x))) = hom-next (diff U) diff-reduced a (b ∷ x) in
      omega (arith, ints, e, f, g, diff-more a b x)

  both-one : (a : ℤ) → both (a ∷ []) +ℤ times a (U (pos 1 ∷ [])) ≡ U (a ∷ [])
  both-one a = up_and_down (λ c. both (c ∷ []) +ℤ times c (U (pos 1 ∷ [])) ≡ U (c ∷ [])) (omega (arith, ints, is.first [])) above below a
    where
      above : (c : ℤ) → both (c ∷ []) +ℤ times c (U (pos 1 ∷ [])) ≡ U (c ∷ []) → both (suc_ℤ c ∷ []) +ℤ times (suc_ℤ c) (U (pos 1 ∷ [])) ≡ U (suc_ℤ c ∷ [])
      above c e = omega (arith, ints, e, both-one_next c, times-next c (U (pos 1 ∷ [])))

      below : (c : ℤ) → both (suc_ℤ c ∷ []) +ℤ times (suc_ℤ c) (U (pos 1 ∷ [])) ≡ U (suc_ℤ c ∷ []) → both (c ∷ []) +ℤ times c (U (pos 1 ∷ [])) ≡ U (c ∷ [])
      below c e = omega (arith, ints, e, both-one_next c, times-next c (U (pos 1 ∷ [])))

  both-nothing : (b : ℤ) (x : List ℤ) → both (pos 0 ∷ (b ∷ x)) ≡ pos 0
  both-nothing b x =
      let e : hom U ((pos 0 +ℤ b) ∷ x) ≡ hom U (b ∷ x) = ap (λ c. hom U (c ∷ x)) (+ℤ_idl b) in
      omega (arith, ints, e, later-nothing (b ∷ x))

  both-more : (a b : ℤ) (x : List ℤ) → both (a ∷ (b ∷ x)) ≡ U (a ∷ (b ∷ x))
  both-more a b x = up_and_down (λ c. both (c ∷ (b ∷ x)) ≡ U (c ∷ (b ∷ x))) (both-nothing b x ∙ sym (is.first (b ∷ x))) above below a
    where
      above : (c : ℤ) → both (c ∷ (b ∷ x)) ≡ U (c ∷ (b ∷ x)) → both (suc_ℤ c ∷ (b ∷ x)) ≡ U (suc_ℤ c ∷ (b ∷ x))
      above c e = omega (arith, ints, e, both-next c b x)

      below : (c : ℤ) → both (suc_ℤ c ∷ (b ∷ x)) ≡ U (suc_ℤ c ∷ (b ∷ x)) → both (c ∷ (b ∷ x)) ≡ U (c ∷ (b ∷ x))
      below c e = omega (arith, ints, e, both-next c b x)

  -- d H + H d + G F = 1
  pub homotopy-sum : (x : List ℤ) → hom (diff U) x +ℤ diff (hom U) x +ℤ circle U x ≡ U x
  homotopy-sum [] = omega (arith, ints)
  homotopy-sum (a ∷ []) = both-one a
  homotopy-sum (a ∷ (b ∷ x)) = omega (arith, ints, both-more a b x)
