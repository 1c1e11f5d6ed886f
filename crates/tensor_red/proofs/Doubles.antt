-- Sums over a product of two chains are double sums, and may be taken in either order.
use Rattle.std.proofs.Common.{◌≡◌, ℕ, ◌+◌, ◌*◌, [], ◌∷◌, map, refl, sym, ◌∙◌, ap, arith}
use Rattle.fp_field.specs.Chains.{Terms, weigh, Each}
use Rattle.fp_field.specs.Reduction.{one}
use Rattle.fp_field.proofs.Weights.{weigh-append, weigh-plus, Each-append}
use Rattle.tensor_red.specs.Products.{Pairs, product_in}

pub weigh-none : {K : Type 0} (c : Terms K) → weigh (λ x. 0) c ≡ 0
weigh-none [] = refl
weigh-none (t ∷ c) = omega (arith, weigh-none c)

-- a number before a sum
pub weigh-times : {K : Type 0} (a : ℕ) (w : K → ℕ) (c : Terms K) → weigh (λ x. a * w x) c ≡ a * weigh w c
weigh-times a w [] = omega arith
weigh-times a w (t ∷ c) = let e : t.1 * (a * w t.0) ≡ a * (t.1 * w t.0) = omega arith in omega (arith, e, weigh-times a w c)

pub each_weaker : {K : Type 0} (Q R : K → Type 0) → ((x : K) → Q x → R x) → (c : Terms K) → Each Q c → Each R c
each_weaker Q R h [] q = tt
each_weaker Q R h (t ∷ c) q = (h t.0 q.0, each_weaker Q R h c q.1)

pub weigh-single : {K : Type 0} (w : K → ℕ) (x : K) → weigh w (one x) ≡ w x
weigh-single w x = omega arith

module _ {X Y : Type 0} (w : X → Y → ℕ) where
  -- the two orders of a double sum
  pub turn : (c : Terms X) (e : Terms Y) → weigh (λ x. weigh (λ y. w x y) e) c ≡ weigh (λ y. weigh (λ x. w x y) c) e
  turn [] e = sym (weigh-none e)
  turn (t ∷ c) e =
      ap (λ r. t.1 * weigh (λ y. w t.0 y) e + r) (turn c e)
      ∙ ap (λ r. r + weigh (λ y. weigh (λ x. w x y) c) e) (sym (weigh-times t.1 (w t.0) e))
      ∙ sym (weigh-plus (λ y. t.1 * w t.0 y) (λ y. weigh (λ x. w x y) c) e)

module _ {X Y T : Type 0} (P : Pairs X Y T) where
  weigh-row : (w : T → ℕ) (x : X) (a : ℕ) (e : Terms Y) → weigh w (map (λ u. (P.pair x u.0, a * u.1)) e) ≡ a * weigh (λ y. w (P.pair x y)) e
  weigh-row w x a [] = omega arith
  weigh-row w x a (u ∷ e) = omega (arith, weigh-row w x a e)

  pub weigh-product : (w : T → ℕ) (c : Terms X) (e : Terms Y) → weigh w (product_in P c e) ≡ weigh (λ x. weigh (λ y. w (P.pair x y)) e) c
  weigh-product w [] e = refl
  weigh-product w (t ∷ c) e =
      weigh-append w (map (λ u. (P.pair t.0 u.0, t.1 * u.1)) e) (product_in P c e)
      ∙ ap (λ r. r + weigh w (product_in P c e)) (weigh-row w t.0 t.1 e) ∙ ap (λ r. t.1 * weigh (λ y. w (P.pair t.0 y)) e + r) (weigh-product w c e)

  module _ (Q : X → Type 0) (R : Y → Type 0) (G : T → Type 0) (holds : (x : X) (y : Y) → Q x → R y → G (P.pair x y)) where
    each-row : (x : X) (a : ℕ) → Q x → (e : Terms Y) → Each R e → Each G (map (λ u. (P.pair x u.0, a * u.1)) e)
    each-row x a q [] r = tt
    each-row x a q (u ∷ e) r = (holds x u.0 q r.0, each-row x a q e r.1)

    pub each-product : (c : Terms X) (e : Terms Y) → Each Q c → Each R e → Each G (product_in P c e)
    each-product [] e q r = tt
    each-product (t ∷ c) e q r = Each-append G (map (λ u. (P.pair t.0 u.0, t.1 * u.1)) e) (product_in P c e) (each-row t.0 t.1 q.0 e r) (each-product c e q.1 r)
