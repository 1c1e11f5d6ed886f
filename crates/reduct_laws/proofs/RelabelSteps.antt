-- A chain whose terms are pushed one by one under other names of their keys.
use Rattle.std.proofs.Common.{◌≡◌, ℕ, ◌+◌, ◌*◌, ◌%◌, List, [], ◌∷◌, ◌++◌, length, sym, ◌∙◌, ap, arith}
use Rattle.std.specs.declared.cmp.Ordering.{Ordering}
use Rattle.std.specs.declared.cmp.Ordering.TheVariants.{Equal}
use Rattle.std.specs.Cmp.{IsTotalOrder}
use Rattle.fp_field.specs.declared.prime.Prime.{Prime}
use Rattle.fp_field.specs.declared.element.Fp.{Fp}
use Rattle.fp_field.specs.Field.{number}
use Rattle.fp_field.specs.Chains.{Terms, weigh}
use Rattle.fp_field.specs.Normal.{normal}
use Rattle.fp_field.proofs.Primes.{number_pos}
use Rattle.fp_field.proofs.Normals.{weigh-normal, normal-same}
use Rattle.chain_core.specs.Formal.{numbers}
use Rattle.reduct_laws.specs.Sides.{relabel}
use Rattle.reduct_laws.proofs.SummedMeets.{weigh-relabel}

-- one more term at the end
weigh-last : {K : Type 0} (w : K → ℕ) (ys : List (K × Fp)) (t : K × Fp) → weigh w (numbers (ys ++ t ∷ [])) ≡ weigh w (numbers ys) + t.1.value * w t.0
weigh-last w [] t = omega arith
weigh-last w (y ∷ ys) t = omega (arith, weigh-last w ys t)

weigh-push : {K : Type 0} (w : K → ℕ) (xs ys : List (K × Fp)) (t : K × Fp) → xs ≡ ys ++ t ∷ [] → weigh w (numbers xs) ≡ weigh w (numbers ys) + t.1.value * w t.0
weigh-push w xs ys t e = ap (λ l. weigh w (numbers l)) e ∙ weigh-last w ys t

module _ {K J : Type 0} (i : K → J) where
  -- a term goes from what is left to what is pushed
  pub moved : (w : J → ℕ) (old new : List (J × Fp)) (left rest : List (K × Fp)) (k : K) (a : Fp) (goal : ℕ)
      → left ≡ rest ++ (k, a) ∷ [] → new ≡ old ++ (i k, a) ∷ []
      → weigh w (numbers old) + weigh w (relabel i (numbers left)) ≡ goal → weigh w (numbers new) + weigh w (relabel i (numbers rest)) ≡ goal
  moved w old new left rest k a goal popped pushed e = omega (
    arith,
    e,
    weigh-push w new old (i k, a) pushed,
    weigh-push (λ x. w (i x)) left rest (k, a) popped,
    weigh-relabel w i (numbers left),
    weigh-relabel w i (numbers rest),
  )

  module _ (cmp : J → J → Ordering) (one_key : (x y : J) → cmp x y ≡ Equal → x ≡ y) (total : IsTotalOrder cmp) (q : Prime) where
    -- at the end
    pub relabelled : (s : Terms J) (terms : List (J × Fp)) (rest : List (K × Fp)) (c : Terms K) (r : Prime) → s ≡ normal cmp (number r) (numbers terms) → r ≡ q → length rest ≡ 0
        → ((w : J → ℕ) → weigh w (numbers terms) + weigh w (relabel i (numbers rest)) ≡ weigh w (relabel i c)) → s ≡ normal cmp (number q) (relabel i c)
    relabelled s terms [] c r e f l h =
        e ∙ ap (λ z. normal cmp (number z) (numbers terms)) f
        ∙ normal-same cmp (number q) one_key total (number_pos q) (numbers terms) (relabel i c) (λ w. ap (λ n. n % number q) (let g : weigh w (numbers terms) ≡ weigh w (relabel i c) = omega (arith, h w) in g))
    relabelled s terms (t ∷ rest) c r e f l h = absurd (omega arith)

    -- of a chain in normal form
    pub relabel-is : (cmp' : K → K → Ordering) → ((x y : K) → cmp' x y ≡ Equal → x ≡ y) → (s : Terms J) (a c : Terms K) (r : Prime)
        → s ≡ normal cmp (number r) (relabel i a) → r ≡ q → a ≡ normal cmp' (number q) c → s ≡ normal cmp (number q) (relabel i c)
    relabel-is cmp' one_key' s a c r e f g =
        e ∙ (λ j. normal cmp (number (f j)) (relabel i (g j)))
        ∙ normal-same cmp (number q) one_key total (number_pos q) (relabel i (normal cmp' (number q) c)) (relabel i c) (λ w.
        ap (λ n. n % number q) (weigh-relabel w i (normal cmp' (number q) c)) ∙ weigh-normal cmp' (number q) one_key' (λ k. w (i k)) c ∙ ap (λ n. n % number q) (sym (weigh-relabel w i c)))
