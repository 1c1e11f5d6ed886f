-- The products of two chains that are pushed one by one, the highest tensor first.
use Rattle.std.proofs.Common.{◌≡◌, ℕ, zero, suc, ◌+◌, ◌*◌, ◌-◌, ◌%◌, ◌<◌, List, [], ◌∷◌, ◌++◌, length, take, refl, sym, ◌∙◌, ap, subst, arith}
use Rattle.std.specs.Prelude.{Some, slice_get}
use Rattle.std.proofs.lemmas.Nat.{mul-mod_first}
use Rattle.fp_field.specs.declared.element.Fp.{Fp}
use Rattle.fp_field.specs.Field.{SameMod}
use Rattle.fp_field.specs.Chains.{Terms, weigh}
use Rattle.fp_field.proofs.Mod.{same-plus}
use Rattle.fp_field.proofs.Weights.{weigh-append}
use Rattle.chain_core.specs.Formal.{numbers}
use Rattle.chain_core.proofs.MapSteps.{places}
use Rattle.chain_core.proofs.SumLemmas.{numbers-append}
use Rattle.tensor_red.specs.Products.{Pairs, product_in}
use Rattle.tensor_red.proofs.Doubles.{weigh-product}

pub take_all : {X : Type 0} (xs : List X) → take (length xs) xs ≡ xs
take_all [] = refl
take_all (x ∷ xs) = ap (λ l. x ∷ l) (take_all xs)

weigh-end : {K : Type 0} (w : K → ℕ) (c : Terms K) (t : K × ℕ) → weigh w (c ++ t ∷ []) ≡ weigh w c + t.1 * w t.0
weigh-end w c t = omega (arith, weigh-append w c (t ∷ []))

weigh-pushed : {K : Type 0} (w : K → ℕ) (new old : List (K × Fp)) (t : K × Fp) → new ≡ old ++ t ∷ [] → weigh w (numbers new) ≡ weigh w (numbers old) + t.1.value * w t.0
weigh-pushed w new old t e = ap (λ l. weigh w (numbers l)) e ∙ ap (weigh w) (numbers-append old (t ∷ [])) ∙ weigh-end w (numbers old) (t.0, t.1.value)

module _ {X Y T : Type 0} (P : Pairs X Y T) (p : ℕ) (w : T → ℕ) where
  -- one more tensor of a row
  pub row_step : (x : X) (factor i : ℕ) (old new : List (T × Fp)) (z : T) (a : Fp) (c : Terms Y) (t : Y × ℕ) (goal : ℕ)
      → 0 < i → new ≡ old ++ (z, a) ∷ [] → slice_get c (i - 1) ≡ Some t → z ≡ P.pair x t.0 → a.value ≡ factor * t.1 % p
      → SameMod p (weigh w (numbers old) + factor * weigh (λ y. w (P.pair x y)) (take i c)) goal
      → SameMod p (weigh w (numbers new) + factor * weigh (λ y. w (P.pair x y)) (take (i - 1) c)) goal
  row_step x factor zero old new z a c t goal pos pushed at same product h = absurd (omega (arith, pos))
  row_step x factor (suc i) old new z a c t goal pos pushed at same product h =
      ap (λ n. n % p) before
      ∙ same-plus p (weigh w (numbers old) + factor * weigh V (take i c)) (weigh w (numbers old) + factor * weigh V (take i c)) (a.value * w z) (factor * t.1 * V t.0) refl
      (ap (λ n. n * w z % p) product ∙ mul-mod_first (factor * t.1) (w z) p ∙ ap (λ u. factor * t.1 * w u % p) same)
      ∙ ap (λ n. n % p) after ∙ h
    where
      V : Y → ℕ
      V y = w (P.pair x y)

      less : suc i - 1 ≡ i
      less = omega arith

      here : slice_get c i ≡ Some t
      here = subst (λ j. slice_get c j ≡ Some t) less at

      before : weigh w (numbers new) + factor * weigh V (take (suc i - 1) c) ≡ weigh w (numbers old) + factor * weigh V (take i c) + a.value * w z
      before = ap (λ j. weigh w (numbers new) + factor * weigh V (take j c)) less ∙ omega (arith, weigh-pushed w new old (z, a) pushed)

      after : weigh w (numbers old) + factor * weigh V (take i c) + factor * t.1 * V t.0 ≡ weigh w (numbers old) + factor * weigh V (take (suc i) c)
      after =
          (let q : weigh w (numbers old) + factor * weigh V (take i c) + factor * t.1 * V t.0 ≡ weigh w (numbers old) + factor * (weigh V (take i c) + t.1 * V t.0) = omega arith in q)
          ∙ ap (λ n. weigh w (numbers old) + factor * n) (sym (ap (weigh V) (places c i t here).1 ∙ weigh-end V (take i c) t))

  -- a whole row
  pub row_done : (x : X) (factor i : ℕ) (old new : List (T × Fp)) (c : Terms Y) (n : ℕ) → i ≡ 0 → n ≡ length c
      → SameMod p (weigh w (numbers new) + factor * weigh (λ y. w (P.pair x y)) (take i c)) (weigh w (numbers old) + factor * weigh (λ y. w (P.pair x y)) (take n c))
      → SameMod p (weigh w (numbers new)) (weigh w (numbers old) + factor * weigh (λ y. w (P.pair x y)) c)
  row_done x factor i old new c n none all h =
      ap (λ m. m % p) (let q : weigh w (numbers new) ≡ weigh w (numbers new) + factor * weigh (λ y. w (P.pair x y)) (take 0 c) = omega arith in q)
      ∙ ap (λ j. (weigh w (numbers new) + factor * weigh (λ y. w (P.pair x y)) (take j c)) % p) (sym none)
      ∙ h ∙ ap (λ l. (weigh w (numbers old) + factor * weigh (λ y. w (P.pair x y)) l) % p) (ap (λ j. take j c) all ∙ take_all c)

  weigh-last : (c : Terms X) (t : X × ℕ) (e : Terms Y) → weigh w (product_in P (c ++ t ∷ []) e) ≡ weigh w (product_in P c e) + t.1 * weigh (λ y. w (P.pair t.0 y)) e
  weigh-last c t e =
      weigh-product P w (c ++ t ∷ []) e ∙ weigh-end (λ x. weigh (λ y. w (P.pair x y)) e) c t
      ∙ ap (λ n. n + t.1 * weigh (λ y. w (P.pair t.0 y)) e) (sym (weigh-product P w c e))

  -- one more row
  pub rows_step : (left rest : List (X × Fp)) (t : X × Fp) (e : Terms Y) (old new goal : ℕ) → left ≡ rest ++ t ∷ []
      → SameMod p new (old + t.1.value * weigh (λ y. w (P.pair t.0 y)) e)
      → SameMod p (old + weigh w (product_in P (numbers left) e)) goal → SameMod p (new + weigh w (product_in P (numbers rest) e)) goal
  rows_step left rest t e old new goal popped pushed h =
      same-plus p new (old + t.1.value * weigh (λ y. w (P.pair t.0 y)) e) (weigh w (product_in P (numbers rest) e)) (weigh w (product_in P (numbers rest) e)) pushed refl
      ∙ ap (λ n. n % p) (let s : weigh w (product_in P (numbers left) e) ≡ weigh w (product_in P (numbers rest) e) + t.1.value * weigh (λ y. w (P.pair t.0 y)) e =
      ap (λ l. weigh w (product_in P l e)) (ap numbers popped ∙ numbers-append rest (t ∷ [])) ∙ weigh-last (numbers rest) (t.0, t.1.value) e in
      let q : old + t.1.value * weigh (λ y. w (P.pair t.0 y)) e + weigh w (product_in P (numbers rest) e) ≡ old + weigh w (product_in P (numbers left) e) = omega (arith, s) in q)
      ∙ h

  -- all rows
  pub rows_done : (rest : List (X × Fp)) (c : Terms X) (e : Terms Y) (new : ℕ) → length rest ≡ 0
      → SameMod p (new + weigh w (product_in P (numbers rest) e)) (0 + weigh w (product_in P c e)) → SameMod p new (weigh w (product_in P c e))
  rows_done [] c e new none h = ap (λ n. n % p) (let q : new ≡ new + 0 = omega arith in q) ∙ h ∙ ap (λ n. n % p) (let q : 0 + weigh w (product_in P c e) ≡ weigh w (product_in P c e) = omega arith in q)
  rows_done (t ∷ rest) c e new none h = absurd (omega (arith, none))
