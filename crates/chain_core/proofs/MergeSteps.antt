-- The steps of a merge, on the lists of the code.
use Rattle.std.proofs.Common.{◌≡◌, ℕ, zero, suc, ◌+◌, ◌*◌, ◌-◌, ◌%◌, ◌<◌, ◌≤◌, List, [], ◌∷◌, ◌++◌, length, take, drop, get_or, reverse, refl, sym, ◌∙◌, ap, subst, arith}
use Rattle.std.proofs.lemmas.List.{reverse-append}
use Rattle.std.proofs.Math.Nat.{add-mod, mod-mod}
use Rattle.std.specs.declared.cmp.Ordering.{Ordering}
use Rattle.std.specs.declared.cmp.Ordering.TheVariants.{Less, Equal, Greater}
use Rattle.std.specs.Cmp.{IsTotalOrder}
use Rattle.fp_field.specs.declared.prime.Prime.{Prime}
use Rattle.fp_field.specs.declared.element.Fp.{Fp}
use Rattle.fp_field.specs.Field.{number}
use Rattle.fp_field.specs.Chains.{Terms, Each, scale}
use Rattle.fp_field.specs.Normal.{put, normal, IsNormal}
use Rattle.fp_field.proofs.Primes.{number_pos}
use Rattle.chain_core.specs.Formal.{numbers}
use Rattle.chain_core.specs.Places.{Ascends}
use Rattle.chain_core.proofs.Rising.{Rises, Rises-Ascends, Rises-first, Rises-second, rises, normal-Rises}
use Rattle.chain_core.proofs.PlaceLemmas.{flipped, lower_before}
use Rattle.chain_core.proofs.SumLemmas.{parts, numbers-append}
use Rattle.chain_core.proofs.Merging.{Merges, starts, own_first, other_first, both_first}

none : {K : Type 0} (P : K → Type 0) (xs : List (K × Fp)) → length xs ≡ 0 → Each P (numbers xs)
none P [] l = tt
none P (x ∷ xs) l = absurd (omega arith)

pub both_nil : {X : Type 0} (xs ys : List X) → length xs ≡ 0 → length ys ≡ 0 → xs ≡ ys
both_nil [] [] k l = refl
both_nil [] (y ∷ ys) k l = absurd (omega arith)
both_nil (x ∷ xs) ys k l = absurd (omega arith)

-- the front up to and with the term at i
taken : {K : Type 0} (xs : List (K × Fp)) (i : ℕ) (y : K × Fp) → i < length xs → y ≡ get_or xs i y
    → take (suc i) (numbers xs) ≡ take i (numbers xs) ++ (y.0, y.1.value) ∷ []
taken [] i y l e = absurd (omega arith)
taken (x ∷ xs) zero y l e = ap (λ z. (z.0, z.1.value) ∷ []) (sym e)
taken (x ∷ xs) (suc i) y l e = ap (λ c. (x.0, x.1.value) ∷ c) (taken xs i y (omega arith) e)

pub last_taken : {K : Type 0} (xs : List (K × Fp)) (left : ℕ) (y : K × Fp) → 0 < left → left ≤ length xs → y ≡ get_or xs (left - 1) y
    → take left (numbers xs) ≡ take (left - 1) (numbers xs) ++ (y.0, y.1.value) ∷ []
last_taken xs left y h l e =
    ap (λ n. take n (numbers xs)) (let q : left ≡ suc (left - 1) = omega arith in q) ∙ taken xs (left - 1) y (omega arith) e

module _ {K : Type 0} (cmp : K → K → Ordering) (total : IsTotalOrder cmp) (q : Prime) where
  -- where the lists are the others up to a place, and the terms from the last one down
  part_ascends : (others : List (K × Fp)) (left : ℕ) → IsNormal cmp (number q) (numbers others) → Ascends cmp (take left (numbers others))
  part_ascends others left e = Rises-Ascends cmp (number q) _
      (Rises-first cmp (number q) _ (drop left (numbers others)) (subst (Rises cmp (number q)) (parts left (numbers others)) (rises cmp total q (numbers others) e)))

  module _ (n left : ℕ) (own others ends ends' : List (K × Fp)) (sum : Terms K) (y : K × Fp) (normal : IsNormal cmp (number q) (numbers others)) (more : 0 < left)
      (within : left ≤ length others) (at : y ≡ get_or others (left - 1) y)
      (m : Merges cmp (number q) n (numbers own) (take left (numbers others)) (numbers (reverse ends)) sum) where
    last : take left (numbers others) ≡ take (left - 1) (numbers others) ++ (y.0, y.1.value) ∷ []
    last = last_taken others left y more within at

    up : Ascends cmp (take (left - 1) (numbers others) ++ (y.0, y.1.value) ∷ [])
    up = subst (Ascends cmp) last (part_ascends others left normal)

    split : Merges cmp (number q) n (numbers own) (take (left - 1) (numbers others) ++ (y.0, y.1.value) ∷ []) (numbers (reverse ends)) sum
    split = subst (λ os. Merges cmp (number q) n (numbers own) os (numbers (reverse ends)) sum) last m

    other_step : (own' : List (K × Fp)) (key : K) (product : ℕ) → own' ≡ own → Each (λ x. cmp y.0 x ≡ Greater) (numbers own) → key ≡ y.0
        → product ≡ n * y.1.value % number q → numbers (reverse ends') ≡ put cmp (number q) key product (numbers (reverse ends))
        → Merges cmp (number q) n (numbers own') (take (left - 1) (numbers others)) (numbers (reverse ends')) sum
    other_step own' key product o low k e pushed =
        subst (λ d. Merges cmp (number q) n (numbers own') (take (left - 1) (numbers others)) d sum) (sym (pushed ∙ (λ i. put cmp (number q) (k i) (e i) (numbers (reverse ends)))))
        (subst (λ o. Merges cmp (number q) n (numbers o) (take (left - 1) (numbers others)) (put cmp (number q) y.0 (n * y.1.value % number q) (numbers (reverse ends))) sum) (sym o)
        (other_first cmp (number q) total (number_pos q) n (numbers own) (take (left - 1) (numbers others)) (numbers (reverse ends)) sum (y.0, y.1.value) split up low))

    -- no term is left
    pub none_step : (own' : List (K × Fp)) (key : K) (product : ℕ) → length own ≡ 0 → length own' ≡ 0 → key ≡ y.0
        → product ≡ n * y.1.value % number q → numbers (reverse ends') ≡ put cmp (number q) key product (numbers (reverse ends))
        → Merges cmp (number q) n (numbers own') (take (left - 1) (numbers others)) (numbers (reverse ends')) sum
    none_step own' key product z z' = other_step own' key product (both_nil own' own z' z) (none (λ x. cmp y.0 x ≡ Greater) own z)

    module _ (rest : List (K × Fp)) (t : K × Fp) (popped : own ≡ rest ++ t ∷ []) where
      pop : numbers own ≡ numbers rest ++ (t.0, t.1.value) ∷ []
      pop = ap numbers popped ∙ numbers-append rest (t ∷ [])

      both : Merges cmp (number q) n (numbers rest ++ (t.0, t.1.value) ∷ []) (take (left - 1) (numbers others) ++ (y.0, y.1.value) ∷ []) (numbers (reverse ends)) sum
      both = subst (λ o. Merges cmp (number q) n o (take (left - 1) (numbers others) ++ (y.0, y.1.value) ∷ []) (numbers (reverse ends)) sum) pop split

      own_rises : Rises cmp (number q) (numbers rest ++ (t.0, t.1.value) ∷ [])
      own_rises = Rises-first cmp (number q) _ (numbers (reverse ends)) both.rises

      pub rest_normal : IsNormal cmp (number q) (numbers rest)
      rest_normal = normal-Rises cmp (number q) _ (Rises-first cmp (number q) (numbers rest) _ own_rises)

      pub own_normal : (own' : List (K × Fp)) → own' ≡ rest ++ t ∷ [] → IsNormal cmp (number q) (numbers own')
      own_normal own' e = subst (λ o. IsNormal cmp (number q) (numbers o)) (popped ∙ sym e) (normal-Rises cmp (number q) (numbers own) (Rises-first cmp (number q) _ (numbers (reverse ends)) m.rises))

      pub own_element : t.1.value < number q
      own_element = (Rises-second cmp (number q) (numbers rest) ((t.0, t.1.value) ∷ []) own_rises).1

      above : (c : Terms K) → cmp t.0 y.0 ≡ Less → Each (λ x. cmp t.0 x ≡ Greater) c → Each (λ x. cmp y.0 x ≡ Greater) (c ++ (t.0, t.1.value) ∷ [])
      above [] e h = (flipped cmp total t.0 y.0 Less e, tt)
      above (u ∷ c) e h = (flipped cmp total u.0 y.0 Less (total.trans u.0 t.0 y.0 (flipped cmp total t.0 u.0 Greater h.0) e), above c e h.1)

      -- the last term is lower
      pub less_step : (own' : List (K × Fp)) (key : K) (product : ℕ) → own' ≡ rest ++ t ∷ [] → cmp t.0 y.0 ≡ Less → key ≡ y.0
          → product ≡ n * y.1.value % number q → numbers (reverse ends') ≡ put cmp (number q) key product (numbers (reverse ends))
          → Merges cmp (number q) n (numbers own') (take (left - 1) (numbers others)) (numbers (reverse ends')) sum
      less_step own' key product o e =
          other_step own' key product (o ∙ sym popped)
          (subst (Each (λ x. cmp y.0 x ≡ Greater)) (sym pop) (above (numbers rest) e (lower_before cmp total (numbers rest) [] (t.0, t.1.value) (Rises-Ascends cmp (number q) _ own_rises))))

      -- the keys are equal
      pub equal_step : (product total' : ℕ) → cmp t.0 y.0 ≡ Equal → product ≡ n * y.1.value % number q → total' ≡ (product + t.1.value) % number q
          → numbers (reverse ends') ≡ put cmp (number q) t.0 total' (numbers (reverse ends))
          → Merges cmp (number q) n (numbers rest) (take (left - 1) (numbers others)) (numbers (reverse ends')) sum
      equal_step product total' e f s pushed =
          subst (λ d. Merges cmp (number q) n (numbers rest) (take (left - 1) (numbers others)) d sum)
          (sym (pushed ∙ ap (λ v. put cmp (number q) t.0 v (numbers (reverse ends))) (s ∙ ap (λ v. (v + t.1.value) % number q) f ∙ reduced (n * y.1.value) t.1.value (number q))))
          (both_first cmp (number q) total (number_pos q) n (numbers rest) (take (left - 1) (numbers others)) (numbers (reverse ends)) sum (t.0, t.1.value) (y.0, y.1.value) both up e)
        where
          reduced : (a b p : ℕ) → (a % p + b) % p ≡ (a + b) % p
          reduced a b p = add-mod (a % p) b p ∙ ap (λ v. (v + b % p) % p) (mod-mod a p) ∙ sym (add-mod a b p)

      -- the last term is higher
      pub greater_step : cmp t.0 y.0 ≡ Greater → ends' ≡ ends ++ t ∷ []
          → Merges cmp (number q) n (numbers rest) (take left (numbers others)) (numbers (reverse ends')) sum
      greater_step e pushed =
          subst (λ d. Merges cmp (number q) n (numbers rest) (take left (numbers others)) d sum) (sym (ap (λ l. numbers (reverse l)) pushed ∙ ap numbers (reverse-append ends (t ∷ []))))
          (subst (λ os. Merges cmp (number q) n (numbers rest) os ((t.0, t.1.value) ∷ numbers (reverse ends)) sum) (sym last)
          (own_first cmp (number q) total (number_pos q) n (numbers rest) (take (left - 1) (numbers others)) (numbers (reverse ends)) sum (t.0, t.1.value) (y.0, y.1.value) both up e))

  -- the start
  pub first_step : (n left : ℕ) (own others ends : List (K × Fp)) → IsNormal cmp (number q) (numbers own) → left ≡ length others → ends ≡ []
      → Merges cmp (number q) n (numbers own) (take left (numbers others)) (numbers (reverse ends)) (normal cmp (number q) (scale n (numbers others) ++ numbers own))
  first_step n left own others ends e l z =
      subst (λ d. Merges cmp (number q) n (numbers own) (take left (numbers others)) (numbers (reverse d)) (normal cmp (number q) (scale n (numbers others) ++ numbers own))) (sym z)
      (subst (λ os. Merges cmp (number q) n (numbers own) os [] (normal cmp (number q) (scale n (numbers others) ++ numbers own))) (sym (ap (λ i. take i (numbers others)) l ∙ whole others))
      (starts cmp (number q) total (number_pos q) n (numbers own) (numbers others) (rises cmp total q (numbers own) e)))
    where
      whole : (xs : List (K × Fp)) → take (length xs) (numbers xs) ≡ numbers xs
      whole [] = refl
      whole (x ∷ xs) = ap (λ c. (x.0, x.1.value) ∷ c) (whole xs)

  pub terms_normal : (n left : ℕ) (own others ends : List (K × Fp)) (sum : Terms K)
      → Merges cmp (number q) n (numbers own) (take left (numbers others)) (numbers (reverse ends)) sum → IsNormal cmp (number q) (numbers own)
  terms_normal n left own others ends sum m = normal-Rises cmp (number q) (numbers own) (Rises-first cmp (number q) (numbers own) (numbers (reverse ends)) m.rises)
