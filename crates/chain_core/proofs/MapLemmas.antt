-- Terms that are pushed, each times a number.
use Rattle.std.proofs.Common.{◌≡◌, ℕ, ◌+◌, ◌*◌, ◌%◌, List, [], ◌∷◌, ◌++◌, refl, ◌∙◌, ap, arith}
use Rattle.std.proofs.lemmas.Nat.{mul-mod_first}
use Rattle.fp_field.specs.declared.element.Fp.{Fp}
use Rattle.fp_field.specs.Field.{SameMod}
use Rattle.fp_field.specs.Chains.{weigh}
use Rattle.fp_field.proofs.Mod.{same-plus}
use Rattle.fp_field.proofs.Weights.{weigh-append}
use Rattle.chain_core.specs.Formal.{numbers}
use Rattle.chain_core.proofs.SumLemmas.{numbers-append}

module _ {K : Type 0} (p n : ℕ) (w : K → ℕ) where
  weigh-push : (xs ys : List (K × Fp)) (t : K × Fp) → xs ≡ ys ++ t ∷ [] → weigh w (numbers xs) ≡ weigh w (numbers ys) + t.1.value * w t.0
  weigh-push xs ys t e =
      let s : weigh w (numbers xs) ≡ weigh w (numbers ys ++ (t.0, t.1.value) ∷ []) = ap (weigh w) (ap numbers e ∙ numbers-append ys (t ∷ [])) in
      omega (arith, s, weigh-append w (numbers ys) ((t.0, t.1.value) ∷ []))

  -- a term goes from what is left to what is pushed
  pub moved : (old new left rest : List (K × Fp)) (k : K) (a b : Fp) (goal : ℕ) → left ≡ rest ++ (k, a) ∷ [] → new ≡ old ++ (k, b) ∷ [] → b.value ≡ n * a.value % p
      → SameMod p (weigh w (numbers old) + n * weigh w (numbers left)) goal → SameMod p (weigh w (numbers new) + n * weigh w (numbers rest)) goal
  moved old new left rest k a b goal popped pushed e h =
      ap (λ m. m % p)
      (let s : weigh w (numbers new) + n * weigh w (numbers rest) ≡ weigh w (numbers old) + n * weigh w (numbers rest) + b.value * w k = omega (arith, weigh-push new old (k, b) pushed) in s)
      ∙ same-plus p (weigh w (numbers old) + n * weigh w (numbers rest)) (weigh w (numbers old) + n * weigh w (numbers rest)) (b.value * w k) (n * a.value * w k) refl
      (ap (λ v. v * w k % p) e ∙ mul-mod_first (n * a.value) (w k) p)
      ∙ ap (λ m. m % p)
      (let s : weigh w (numbers old) + n * weigh w (numbers rest) + n * a.value * w k ≡ weigh w (numbers old) + n * weigh w (numbers left) =
      (let q : n * (weigh w (numbers rest) + a.value * w k) ≡ n * weigh w (numbers rest) + n * a.value * w k = omega arith in
      omega (arith, q, ap (λ v. n * v) (weigh-push left rest (k, a) popped))) in s)
      ∙ h
