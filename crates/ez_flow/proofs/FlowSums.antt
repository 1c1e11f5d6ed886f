-- The flow by the weights of its rounds.
use Rattle.std.proofs.Common.{◌≡◌, ℕ, zero, suc, ◌+◌, ◌*◌, ◌%◌, [], ◌∷◌, true, false, cond, refl, sym, ◌∙◌, ap, arith}
use Rattle.std.specs.declared.cmp.Ordering.{Ordering}
use Rattle.fp_field.specs.Field.{SameMod}
use Rattle.fp_field.specs.Chains.{Terms, weigh, extend, keep}
use Rattle.fp_field.specs.Normal.{normal}
use Rattle.fp_field.specs.Reduction.{one}
use Rattle.fp_field.specs.Flows.{flow_in}
use Rattle.fp_field.proofs.Mod.{same-plus}
use Rattle.fp_field.proofs.Weights.{weigh-append, weigh-extend, weigh-plus}
use Rattle.fp_field.proofs.Normals.{weigh-normal}
use Rattle.fp_field.proofs.FlowLaws.{weigh-keep}
use Rattle.spaces.specs.Orders.{Ordered}
use Rattle.spaces.specs.EilenbergZilber.{Linear, Pair, pair_order, moved, left_over, is_source, enough_rounds, flow}
use Rattle.ez_laws.specs.Sides.{IsLeft, IsRight}
use Rattle.ez_laws.proofs.PairOrders.{pairs-apart}

no-weight : {K : Type 0} (c : Terms K) → weigh (λ x. 0) c ≡ 0
no-weight [] = refl
no-weight (t ∷ c) = omega (arith, no-weight c)

-- the weight of what m rounds on a source move
abbrev pub pulled : {K J : Type 0} → ℕ → Linear K → Ordered J → ℕ → (Pair K J → ℕ) → Pair K J → ℕ
pulled p L R zero w s = 0
pulled p L R (suc m) w s = weigh w (moved p L R s) + weigh (λ t. cond (is_source p L R t) (pulled p L R m w t) 0) (left_over p L R s)

module _ {K J : Type 0} (p : ℕ) (L : Linear K) (In : ℕ → K → Type 0) (R : Ordered J) (left : IsLeft p L In) (right : IsRight R) where
  abbrev cmp : Pair K J → Pair K J → Ordering
  cmp s t = pair_order p L R s t

  abbrev rounds : ℕ → Terms (Pair K J) → Terms (Pair K J)
  rounds n c = flow_in p (is_source p L R) (moved p L R) (left_over p L R) cmp n c

  weigh-rounds : (w : Pair K J → ℕ) (n : ℕ) (c : Terms (Pair K J)) → SameMod p (weigh w (rounds n c)) (weigh (pulled p L R n w) c)
  weigh-rounds w zero c = ap (λ m. m % p) (sym (no-weight c))
  weigh-rounds w (suc n) [] = refl
  weigh-rounds w (suc n) (t ∷ c) =
      let e : Terms (Pair K J) = t ∷ c in
      let x : Terms (Pair K J) = keep (is_source p L R) (extend (left_over p L R) e) in
      let v : Pair K J → ℕ = λ s. cond (is_source p L R s) (pulled p L R n w s) 0 in
      ap (λ m. m % p) (weigh-append w (extend (moved p L R) e) (rounds n (normal cmp p x)))
      ∙ same-plus p (weigh w (extend (moved p L R) e)) (weigh (λ s. weigh w (moved p L R s)) e) (weigh w (rounds n (normal cmp p x)))
      (weigh (λ s. weigh v (left_over p L R s)) e) (ap (λ m. m % p) (weigh-extend w (moved p L R) e))
      (weigh-rounds w n (normal cmp p x) ∙ weigh-normal cmp p (pairs-apart p L In R left right).apart (pulled p L R n w) x
      ∙ ap (λ m. m % p) (weigh-keep (pulled p L R n w) (is_source p L R) (extend (left_over p L R) e) ∙ weigh-extend v (left_over p L R) e))
      ∙ ap (λ m. m % p) (sym (weigh-plus (λ s. weigh w (moved p L R s)) (λ s. weigh v (left_over p L R s)) e))

  pub flow-pulled : (w : Pair K J → ℕ) (s : Pair K J) → is_source p L R s ≡ true → SameMod p (weigh w (flow p L R s)) (pulled p L R (enough_rounds p L R s.0) w s)
  flow-pulled w s h =
      let n : ℕ = enough_rounds p L R s.0 in
      ap (λ b. weigh w (cond b (normal cmp p (rounds n (one s))) []) % p) h
      ∙ weigh-normal cmp p (pairs-apart p L In R left right).apart w (rounds n (one s))
      ∙ weigh-rounds w n (one s)
      ∙ ap (λ m. m % p) (let q : 1 * pulled p L R n w s + 0 ≡ pulled p L R n w s = omega arith in q)

  pub flow-none : (w : Pair K J → ℕ) (s : Pair K J) → is_source p L R s ≡ false → weigh w (flow p L R s) ≡ 0
  flow-none w s h = ap (λ b. weigh w (cond b (normal cmp p (rounds (enough_rounds p L R s.0) (one s))) [])) h
