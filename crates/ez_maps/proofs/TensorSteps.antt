-- The faces of a tensor that are pushed, one by one.
use Rattle.std.proofs.Common.{◌≡◌, ℕ, zero, suc, ◌+◌, ◌-◌, ◌*◌, ◌%◌, [], ◌∷◌, ◌++◌, map, refl, sym, ◌∙◌, ap, arith}
use Rattle.fp_field.specs.Field.{SameMod, sign}
use Rattle.fp_field.specs.Chains.{Terms, weigh, scale}
use Rattle.fp_field.proofs.Mod.{same-plus, same-times}
use Rattle.fp_field.proofs.Weights.{weigh-append, weigh-scale}
use Rattle.fp_field.proofs.FlowLaws.{weigh-keep}
use Rattle.spaces.specs.Orders.{Ordered}
use Rattle.spaces.specs.EilenbergZilber.{Linear, Tensor, is_tensor_cell}
use Rattle.ez_laws.specs.Complexes.{left_faces, right_faces, left_d, right_d, tensor_d}
use Rattle.ez_maps.proofs.CutSteps.{kept}

weigh-signed : {K J : Type 0} (w : J → ℕ) (g : K → J) (a : ℕ) (c : Terms K) → weigh w (map (λ t. (g t.0, a * t.1)) c) ≡ a * weigh (λ k. w (g k)) c
weigh-signed w g a [] = omega arith
weigh-signed w g a (t ∷ c) =
    let q : a * t.1 * w (g t.0) + a * weigh (λ k. w (g k)) c ≡ a * (t.1 * w (g t.0) + weigh (λ k. w (g k)) c) = omega arith in
    ap (λ m. a * t.1 * w (g t.0) + m) (weigh-signed w g a c) ∙ q

-- a number that is the same modulo p, times another
times-same : (p a b m : ℕ) → SameMod p a b → SameMod p (a * m) (b * m)
times-same p a b m e =
    ap (λ t. t % p) (let q : a * m ≡ m * a = omega arith in q) ∙ same-times p m a b e ∙ ap (λ t. t % p) (let q : m * b ≡ b * m = omega arith in q)

pub positive : (m : ℕ) → (m ≡ 0 → ⊥) → suc (m - 1) ≡ m
positive zero h = absurd (h refl)
positive (suc m) h = omega arith

module _ {K J : Type 0} (p : ℕ) (L : Linear K) (In : ℕ → K → Type 0) (R : Ordered J) (w : Tensor K J → ℕ) where
  left-weight : (j i k : ℕ) (x : K) (y : J)
      → weigh w (left_faces p L In R (suc j) (suc i, x, k, y)) ≡ sign p j * weigh (λ t. w (i, t, k, y)) (L.faces (suc i) j x) + weigh w (left_faces p L In R j (suc i, x, k, y))
  left-weight j i k x y =
      let q : suc i - 1 ≡ i = omega arith in
      weigh-append w (map (λ t. ((suc i - 1, t.0, k, y), sign p j * t.1)) (L.faces (suc i) j x)) (left_faces p L In R j (suc i, x, k, y))
      ∙ ap (λ m. m + weigh w (left_faces p L In R j (suc i, x, k, y)))
      (weigh-signed w (λ t. (suc i - 1, t, k, y)) (sign p j) (L.faces (suc i) j x) ∙ ap (λ d. sign p j * weigh (λ t. w (d, t, k, y)) (L.faces (suc i) j x)) q)

  -- a left face more
  pub left-added : (j i k a old mid new : ℕ) (x : K) (y : J) → SameMod p a (sign p j * 1)
      → SameMod p new (mid + a * weigh (λ t. w (i, t, k, y)) (L.faces (suc i) j x))
      → SameMod p mid (old + weigh w (left_faces p L In R j (suc i, x, k, y)))
      → SameMod p new (old + weigh w (left_faces p L In R (suc j) (suc i, x, k, y)))
  left-added j i k a old mid new x y e f h =
      let v : ℕ = weigh (λ t. w (i, t, k, y)) (L.faces (suc i) j x) in
      let c : ℕ = weigh w (left_faces p L In R j (suc i, x, k, y)) in
      f ∙ same-plus p mid (old + c) (a * v) (sign p j * 1 * v) h (times-same p a (sign p j * 1) v e)
      ∙ ap (λ m. m % p)
      ((let r : old + c + sign p j * 1 * v ≡ old + (sign p j * v + c) = omega arith in r) ∙ ap (λ m. old + m) (sym (left-weight j i k x y)))

  -- a right face more
  pub right-added : (j i k a b old mid new : ℕ) (x : K) (y : J) → SameMod p b (sign p j * a)
      → SameMod p new (mid + b * w (i, x, k, R.set.face j y))
      → SameMod p mid (old + a * weigh w (right_faces p L In R j (i, x, suc k, y)))
      → SameMod p new (old + a * weigh w (right_faces p L In R (suc j) (i, x, suc k, y)))
  right-added j i k a b old mid new x y e f h =
      let v : ℕ = w (i, x, k, R.set.face j y) in
      let c : ℕ = weigh w (right_faces p L In R j (i, x, suc k, y)) in
      let q : k ≡ suc k - 1 = omega arith in
      f ∙ same-plus p mid (old + a * c) (b * v) (sign p j * a * v) h (times-same p b (sign p j * a) v e)
      ∙ ap (λ m. m % p)
      ((let r : old + a * c + sign p j * a * v ≡ old + a * (sign p j * v + c) = join (sign p j) old a c v in r)
      ∙ ap (λ m. old + a * (sign p j * w (i, x, m, R.set.face j y) + c)) q)
    where
      join : (s old a c v : ℕ) → old + a * c + s * a * v ≡ old + a * (s * v + c)
      join s old a c v = omega arith

  pub no-left : (i k : ℕ) (x : K) (y : J) (old : ℕ) → i ≡ 0 → SameMod p old (old + weigh w (left_d p L In R (i, x, k, y)))
  no-left i k x y old e = ap (λ t. t % p) ((let q : old ≡ old + 0 = omega arith in q) ∙ ap (λ m. old + weigh w (left_d p L In R (m, x, k, y))) (sym e))

  pub no-right : (i k a : ℕ) (x : K) (y : J) (old : ℕ) → k ≡ 0 → SameMod p old (old + a * weigh w (right_d p L In R (i, x, k, y)))
  no-right i k a x y old e = ap (λ t. t % p) ((let q : old ≡ old + a * 0 = omega arith in q) ∙ ap (λ m. old + a * weigh w (right_d p L In R (i, x, m, y))) (sym e))

-- both parts
pub d-sum : {K J : Type 0} (p : ℕ) (L : Linear K) (In : ℕ → K → Type 0) (R : Ordered J) (w : Tensor K J → ℕ) (z y : Tensor K J) (s old mid new : ℕ) → z ≡ y → old ≡ 0 → SameMod p s (sign p z.0 * 1)
    → SameMod p mid (old + weigh (kept p L R w) (left_d p L In R z)) → SameMod p new (mid + s * weigh (kept p L R w) (right_d p L In R z))
    → SameMod p new (weigh w (tensor_d p L In R y))
d-sum p L In R w z y s old mid new e eo es f h =
    let u : Tensor _ _ → ℕ = kept p L R w in
    let a : ℕ = weigh u (left_d p L In R z) in
    let b : ℕ = weigh u (right_d p L In R z) in
    h ∙ same-plus p mid (old + a) (s * b) (sign p z.0 * 1 * b) f (times-same p s (sign p z.0 * 1) b es)
    ∙ ap (λ m. m % p)
    (ap (λ m. m + a + sign p z.0 * 1 * b) eo
    ∙ (let q : 0 + a + sign p z.0 * 1 * b ≡ a + sign p z.0 * b = omega arith in q)
    ∙ ap (λ m. a + m) (sym (weigh-scale u (sign p z.0) (right_d p L In R z)))
    ∙ sym (weigh-append u (left_d p L In R z) (scale (sign p z.0) (right_d p L In R z)))
    ∙ sym (weigh-keep w (is_tensor_cell p L R) (left_d p L In R z ++ scale (sign p z.0) (right_d p L In R z)))
    ∙ ap (λ v. weigh w (tensor_d p L In R v)) e)
