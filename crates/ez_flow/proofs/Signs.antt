-- Powers of minus one, and the faces of a pair one by one.
use Rattle.std.proofs.Common.{◌≡◌, ℕ, zero, suc, ◌+◌, ◌*◌, ◌-◌, ◌%◌, ◌<◌, [], ◌∷◌, map, sym, ◌∙◌, ap, arith}
use Rattle.std.proofs.Math.Nat.{mod-mod}
use Rattle.fp_field.specs.Field.{SameMod, sign}
use Rattle.fp_field.specs.Chains.{Terms, weigh}
use Rattle.fp_field.proofs.Mod.{same-plus, same-times, same-by, pred-times}
use Rattle.fp_field.proofs.Weights.{weigh-append}
use Rattle.spaces.specs.Orders.{Ordered}
use Rattle.spaces.specs.EilenbergZilber.{Linear, Pair, first_faces}

module _ (p : ℕ) (pos : 0 < p) where
  twice_minus : (k : ℕ) → SameMod p ((p - 1) * ((p - 1) * k)) k
  twice_minus k = same-by p ((p - 1) * ((p - 1) * k)) k k ((p - 1) * k) (omega (arith, pred-times p ((p - 1) * k) pos, pred-times p k pos))

  step_sign : (i k : ℕ) → sign p (suc i) * k ≡ (p - 1) * (sign p i * k)
  step_sign i k = let q : (p - 1) * sign p i * k ≡ (p - 1) * (sign p i * k) = omega arith in q

  pub signs : (i k : ℕ) → (i % 2 ≡ 0 → SameMod p (sign p i * k) k) × (i % 2 ≡ 1 → SameMod p (sign p i * k) ((p - 1) * k))
  signs zero k = ((λ e. ap (λ m. m % p) (let q : 1 * k ≡ k = omega arith in q)), (λ e. absurd (omega (arith, e))))
  signs (suc i) k =
      let r = signs i k in (
        (λ e. let f : i % 2 ≡ 1 = omega (arith, e) in ap (λ m. m % p) (step_sign i k) ∙ (same-times p (p - 1) (sign p i * k) ((p - 1) * k) (r.1 f) ∙ twice_minus k)),
        (λ e. let f : i % 2 ≡ 0 = omega (arith, e) in ap (λ m. m % p) (step_sign i k) ∙ same-times p (p - 1) (sign p i * k) k (r.0 f)),
      )

  pub minus_is : (k : ℕ) → k < p → SameMod p ((p - k) % p) ((p - 1) * k)
  minus_is k l = mod-mod (p - k) p ∙ same-by p (p - k) ((p - 1) * k) k 1 (omega (arith, pred-times p k pos, l))

weigh-signed : {K J : Type 0} (w : J → ℕ) (g : K → J) (a : ℕ) (c : Terms K) → weigh w (map (λ t. (g t.0, a * t.1)) c) ≡ a * weigh (λ k. w (g k)) c
weigh-signed w g a [] = omega arith
weigh-signed w g a (t ∷ c) =
    let q : a * t.1 * w (g t.0) + a * weigh (λ k. w (g k)) c ≡ a * (t.1 * w (g t.0) + weigh (λ k. w (g k)) c) = omega arith in
    ap (λ m. a * t.1 * w (g t.0) + m) (weigh-signed w g a c) ∙ q

module _ {K J : Type 0} (p : ℕ) (L : Linear K) (R : Ordered J) where
  -- one face more
  pub weigh-face : (w : Pair K J → ℕ) (i n : ℕ) (x : K) (y : J)
      → weigh w (first_faces p L R (suc i) (suc n, x, y)) ≡ sign p i * weigh (λ t. w (n, t, R.set.face i y)) (L.faces (suc n) i x) + weigh w (first_faces p L R i (suc n, x, y))
  weigh-face w i n x y =
      let q : suc n - 1 ≡ n = omega arith in
      weigh-append w (map (λ t. ((suc n - 1, t.0, R.set.face i y), sign p i * t.1)) (L.faces (suc n) i x)) (first_faces p L R i (suc n, x, y))
      ∙ ap (λ m. m + weigh w (first_faces p L R i (suc n, x, y)))
      (weigh-signed w (λ t. (suc n - 1, t, R.set.face i y)) (sign p i) (L.faces (suc n) i x)
      ∙ ap (λ d. sign p i * weigh (λ t. w (d, t, R.set.face i y)) (L.faces (suc n) i x)) q)

  -- a face that was added with the coefficient a, the sign times k
  pub face-added : (w : Pair K J → ℕ) (i n k a new mid old : ℕ) (x : K) (y : J) → SameMod p a (sign p i * k)
      → SameMod p new (mid + a * weigh (λ t. w (n, t, R.set.face i y)) (L.faces (suc n) i x))
      → SameMod p mid (old + k * weigh w (first_faces p L R i (suc n, x, y)))
      → SameMod p new (old + k * weigh w (first_faces p L R (suc i) (suc n, x, y)))
  face-added w i n k a new mid old x y e f h =
      let v : ℕ = weigh (λ t. w (n, t, R.set.face i y)) (L.faces (suc n) i x) in
      let c : ℕ = weigh w (first_faces p L R i (suc n, x, y)) in
      f
      ∙ same-plus p mid (old + k * c) (a * v) (sign p i * k * v) h
      (ap (λ m. m % p) (let q : a * v ≡ v * a = omega arith in q) ∙ same-times p v a (sign p i * k) e ∙ ap (λ m. m % p) (let q : v * (sign p i * k) ≡ sign p i * k * v = omega arith in q))
      ∙ ap (λ m. m % p)
      (let r : old + k * c + sign p i * k * v ≡ old + k * (sign p i * v + c) = omega arith in
      r ∙ ap (λ m. old + k * m) (sym (weigh-face w i n x y)))
