-- Fronts, backs and cuts one by one.
use Rattle.std.proofs.Common.{◌≡◌, ℕ, zero, suc, ◌+◌, ◌-◌, ◌*◌, ◌%◌, ◌<◌, List, [], ◌∷◌, ◌++◌, take, Bool, true, false, cond, Some, refl, sym, ◌∙◌, ap, arith}
use Rattle.std.specs.Prelude.{slice_get}
use Rattle.fp_field.specs.Field.{SameMod}
use Rattle.fp_field.specs.Chains.{Terms, weigh, extend}
use Rattle.fp_field.specs.Reduction.{one}
use Rattle.fp_field.proofs.Mod.{same-plus}
use Rattle.fp_field.proofs.Weights.{weigh-append, weigh-extend}
use Rattle.spaces.specs.Orders.{Ordered}
use Rattle.spaces.specs.EilenbergZilber.{Linear, Tensor, is_tensor_cell, front, back, cuts}
use Rattle.chain_core.proofs.MapSteps.{places}
use Rattle.chain_core.proofs.ChainLemmas.{append-nil}
use Rattle.ez_laws.specs.Sides.{on_keys}
use Rattle.ez_flow.proofs.Pushes.{weigh-on-keys}

-- a term that is pushed where it passes
pub pushed-if : {A : Type 0} (b : Bool) (old new : List A) (t : A) → new ≡ old ++ cond b (t ∷ []) [] → new ≡ cond b (old ++ t ∷ []) old
pushed-if true old new t e = e
pushed-if false old new t e = e ∙ append-nil old

-- one term more of a front of a list
pub taken-more : {K : Type 0} (w : K → ℕ) (c : Terms K) (i : ℕ) (t : K × ℕ) (old new start : ℕ) → slice_get c i ≡ Some t
    → old ≡ start + weigh w (take i c) → new ≡ old + t.1 * w t.0 → new ≡ start + weigh w (take (suc i) c)
taken-more w c i t old new start e h g =
    let q : weigh w (take (suc i) c) ≡ weigh w (take i c ++ t ∷ []) = ap (weigh w) (places c i t e).1 in
    omega (arith, h, g, q, weigh-append w (take i c) (t ∷ []))

pub no-weights : {K : Type 0} (w : K → ℕ) → ((k : K) → w k ≡ 0) → (c : Terms K) → weigh w c ≡ 0
no-weights w h [] = refl
no-weights w h (t ∷ c) = ap (λ m. t.1 * m + weigh w c) (h t.0) ∙ (let q : t.1 * 0 + weigh w c ≡ weigh w c = omega arith in q) ∙ no-weights w h c

module _ {K J : Type 0} (p : ℕ) (L : Linear K) (R : Ordered J) where
  weigh-one : (v : K → ℕ) (x : K) → weigh v (one x) ≡ v x
  weigh-one v x = let q : 1 * v x + 0 ≡ v x = omega arith in q

  -- the front of one degree less is a last face of the front
  pub front-step : (v : K → ℕ) (i k : ℕ) (x : K) → weigh v (front p L R i (suc k) x) ≡ weigh (λ z. weigh v (L.faces (suc i) (suc i) z)) (front p L R (suc i) k x)
  front-step v i zero x =
      let e : i + 1 ≡ suc i = omega arith in
      weigh-extend v (front p L R i zero) (L.faces (i + 1) (i + 1) x)
      ∙ ap (λ (u : K → ℕ). weigh u (L.faces (i + 1) (i + 1) x)) (λ j z. weigh-one v z j)
      ∙ ap (λ m. weigh v (L.faces m m x)) e
      ∙ (let q : weigh v (L.faces (suc i) (suc i) x) ≡ 1 * weigh v (L.faces (suc i) (suc i) x) + 0 = omega arith in q)
  front-step v i (suc k) x =
      let g : K → ℕ = λ z. weigh v (L.faces (suc i) (suc i) z) in
      let m : ℕ = i + suc (suc k) in
      let e : m ≡ suc i + suc k = omega arith in
      weigh-extend v (front p L R i (suc k)) (L.faces m m x)
      ∙ ap (λ (u : K → ℕ). weigh u (L.faces m m x)) (λ j z. front-step v i k z j)
      ∙ sym (weigh-extend g (front p L R (suc i) k) (L.faces m m x))
      ∙ ap (λ n. weigh g (extend (front p L R (suc i) k) (L.faces n n x))) e

  pub back-step : (i : ℕ) (y : J) → R.set.face 0 (back p L R i y) ≡ back p L R (suc i) y
  back-step zero y = refl
  back-step (suc i) y = back-step i (R.set.face 0 y)

  -- the weight of a tensor that is not degenerate
  abbrev pub kept : (Tensor K J → ℕ) → Tensor K J → ℕ
  kept w z = cond (is_tensor_cell p L R z) (w z) 0

  cuts-weight : (u : Tensor K J → ℕ) (i n : ℕ) (x : K) (y : J)
      → weigh u (cuts p L R (suc i) (n, x, y)) ≡ weigh (λ z. u (i, z, n - i, back p L R i y)) (front p L R i (n - i) x) + weigh u (cuts p L R i (n, x, y))
  cuts-weight u i n x y =
      weigh-append u (on_keys (λ z. (i, z, n - i, back p L R i y)) (front p L R i (n - i) x)) (cuts p L R i (n, x, y))
      ∙ ap (λ m. m + weigh u (cuts p L R i (n, x, y))) (weigh-on-keys u (λ z. (i, z, n - i, back p L R i y)) (front p L R i (n - i) x))

  -- one cut more: `chain` gives the weights of the front at place i
  pub cut-step : (w : Tensor K J → ℕ) (chain : (K → ℕ) → ℕ) (i n : ℕ) (x : K) (y b : J) (mid new goal : ℕ)
      → ((v : K → ℕ) → SameMod p (chain v) (weigh v (front p L R i (n - i) x)))
      → new ≡ mid + chain (λ z. kept w (i, z, n - i, b)) → b ≡ back p L R i y
      → SameMod p (mid + weigh (kept w) (cuts p L R (suc i) (n, x, y))) goal
      → SameMod p (new + weigh (kept w) (cuts p L R i (n, x, y))) goal
  cut-step w chain i n x y b mid new goal fronts pushed e rest =
      let u : Tensor K J → ℕ = kept w in
      let c : ℕ = weigh u (cuts p L R i (n, x, y)) in
      let f : ℕ = weigh (λ z. u (i, z, n - i, back p L R i y)) (front p L R i (n - i) x) in
      ap (λ m. (m + c) % p) pushed
      ∙ ap (λ t. (mid + chain (λ z. u (i, z, n - i, t)) + c) % p) e
      ∙ same-plus p (mid + chain (λ z. u (i, z, n - i, back p L R i y))) (mid + f) c c
      (same-plus p mid mid (chain (λ z. u (i, z, n - i, back p L R i y))) f refl (fronts (λ z. u (i, z, n - i, back p L R i y)))) refl
      ∙ ap (λ m. m % p) ((let q : mid + f + c ≡ mid + (f + c) = omega arith in q) ∙ ap (λ m. mid + m) (sym (cuts-weight u i n x y)))
      ∙ rest

  -- the chain of one simplex is the front at the last place
  pub whole-front : (v : K → ℕ) (i n : ℕ) (x : K) → i ≡ n → 1 * v x + 0 ≡ weigh v (front p L R i (n - i) x)
  whole-front v i n x e = let q : 0 ≡ n - i = omega (arith, e) in ap (λ k. weigh v (front p L R i k x)) q

  -- the last faces of the front
  pub lower-front : (v : K → ℕ) (upper : (K → ℕ) → ℕ) (i n low : ℕ) (x : K) → i < n
      → SameMod p low (upper (λ z. weigh v (L.faces (suc i) (suc i) z)))
      → ((u : K → ℕ) → SameMod p (upper u) (weigh u (front p L R (suc i) (n - suc i) x)))
      → SameMod p low (weigh v (front p L R i (n - i) x))
  lower-front v upper i n low x l h fronts =
      let g : K → ℕ = λ z. weigh v (L.faces (suc i) (suc i) z) in
      let q : suc (n - suc i) ≡ n - i = omega (arith, l) in
      h ∙ fronts g ∙ ap (λ m. m % p) (sym (front-step v i (n - suc i) x) ∙ ap (λ k. weigh v (front p L R i k x)) q)
