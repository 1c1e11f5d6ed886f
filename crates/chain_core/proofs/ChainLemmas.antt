-- What the calls on chains owe: the sum, and that it is in normal form again.
use Rattle.std.proofs.Common.{◌≡◌, ℕ, zero, suc, ◌+◌, ◌*◌, ◌%◌, ◌<◌, Bool, true, false, List, [], ◌∷◌, ◌++◌, length, take, drop, get_or, cond, Result, Ok, Err, OnOk, OnErr, refl, sym, ◌∙◌, ap, subst, arith}
use Rattle.std.specs.List.{sum_by}
use Rattle.std.specs.List.Sorted.{IsPermutation}
use Rattle.std.proofs.lemmas.List.Sums.{sum_by-cons}
use Rattle.std.proofs.lemmas.List.Sorted.{sum_by-IsPermutation}
use Rattle.std.proofs.Math.Nat.{zero-mod, mod-eq_of_lt}
use Rattle.std.specs.declared.cmp.Ordering.{Ordering}
use Rattle.std.specs.declared.cmp.Ordering.TheVariants.{Less, Equal, Greater}
use Rattle.std.specs.Ordering.{eq_by_cmp, is_eq}
use Rattle.std.specs.Cmp.{IsTotalOrder}
use Rattle.std.proofs.lemmas.Cmp.{eq_by_cmp_equiv}
use Rattle.fp_field.specs.declared.prime.Prime.{Prime}
use Rattle.fp_field.specs.declared.element.Fp.{Fp}
use Rattle.fp_field.specs.Field.{number}
use Rattle.fp_field.specs.Chains.{Terms, weigh, coeff, scale}
use Rattle.fp_field.specs.Normal.{by_order, put, add_term, normal, IsNormal}
use Rattle.fp_field.proofs.Primes.{number_pos}
use Rattle.fp_field.proofs.Weights.{Each-any}
use Rattle.fp_field.proofs.Normals.{normal-same}
use Rattle.fp_field.proofs.Support.{weigh-same}
use Rattle.chain_core.specs.Formal.{numbers}
use Rattle.chain_core.proofs.Rising.{Rises, Rises-first, Rises-Ascends, rises, normal-Rises, Rises-normal, put-positive, added-normal, add_term-above}
use Rattle.chain_core.proofs.PlaceLemmas.{lower_before}
use Rattle.chain_core.proofs.SumLemmas.{parts, numbers-append}
use Rattle.chain_core.proofs.Merging.{merged, normal-merged}

pub append-nil : {X : Type 0} (xs : List X) → xs ++ [] ≡ xs
append-nil [] = refl
append-nil (x ∷ xs) = ap (λ l. x ∷ l) (append-nil xs)

-- the weight of a list of terms is a sum over it, so it does not change with the order
weigh-numbers : {K : Type 0} (w : K → ℕ) (xs : List (K × Fp)) → weigh w (numbers xs) ≡ sum_by (λ t. t.1.value * w t.0) xs
weigh-numbers w [] = refl
weigh-numbers w (t ∷ xs) = omega (arith, weigh-numbers w xs, sum_by-cons (λ t. t.1.value * w t.0) t xs)

module _ {K : Type 0} (cmp : K → K → Ordering) (total : IsTotalOrder cmp) (q : Prime) where
  pub kept : {E : Type 0} (r : Result (Unit {0}) E) (old new : List (K × Fp)) (k : K) (n : ℕ) → OnOk r (numbers new ≡ add_term cmp (number q) k n (numbers old)) → OnErr r (new ≡ old)
      → IsNormal cmp (number q) (numbers old) → IsNormal cmp (number q) (numbers new)
  kept (Ok u) old new k n ok err e = subst (IsNormal cmp (number q)) (sym ok) (added-normal cmp total q k n (numbers old) e)
  kept (Err u) old new k n ok err e = subst (λ xs. IsNormal cmp (number q) (numbers xs)) (sym err) e

  pub appended : (b : Bool) (new own ends : List (K × Fp)) (c : Terms K) → new ≡ cond b (own ++ ends) own → numbers own ++ numbers ends ≡ normal cmp (number q) c
      → IsNormal cmp (number q) (numbers own) → IsNormal cmp (number q) (numbers new)
  appended true new own ends c e s h =
      subst (IsNormal cmp (number q)) (sym (ap numbers e ∙ numbers-append own ends ∙ s)) (normal-Rises cmp (number q) _ (Rises-normal cmp (number q) total (number_pos q) c))
  appended false new own ends c e s h = subst (λ xs. IsNormal cmp (number q) (numbers xs)) (sym e) h

  add_nothing : (k : K) (c : Terms K) → Rises cmp (number q) c → add_term cmp (number q) k 0 c ≡ c
  add_nothing k [] r = ap (λ n. put cmp (number q) k n []) (zero-mod (number q))
  add_nothing k (t ∷ c) r = by (cmp k t.0) (add_nothing k c r.3)
    where
      by : (o : Ordering) → add_term cmp (number q) k 0 c ≡ c
          → by_order o (put cmp (number q) k (0 % number q) (t ∷ c)) (put cmp (number q) t.0 ((0 + t.1) % number q) c) (t ∷ add_term cmp (number q) k 0 c) ≡ t ∷ c
      by Less e = ap (λ n. put cmp (number q) k n (t ∷ c)) (zero-mod (number q))
      by Equal e =
          ap (λ n. put cmp (number q) t.0 n c) (ap (λ n. n % number q) (let z : 0 + t.1 ≡ t.1 = omega arith in z) ∙ mod-eq_of_lt r.1) ∙ put-positive cmp (number q) t.0 t.1 c r.0
      by Greater e = ap (λ d. t ∷ d) e

  -- nothing is added
  pub scaled_by_zero : (n : ℕ) (os c : Terms K) → n ≡ 0 → IsNormal cmp (number q) c → normal cmp (number q) (scale n os ++ c) ≡ c
  scaled_by_zero n [] c z e = e
  scaled_by_zero n (t ∷ os) c z e =
      ap (add_term cmp (number q) t.0 (n * t.1)) (scaled_by_zero n os c z e)
      ∙ ap (λ m. add_term cmp (number q) t.0 m c) (ap (λ m. m * t.1) z ∙ (let y : 0 * t.1 ≡ 0 = omega arith in y)) ∙ add_nothing t.0 c (rises cmp total q c e)

  pub nothing_scaled : (n : ℕ) (os c : Terms K) → os ≡ [] → IsNormal cmp (number q) c → normal cmp (number q) (scale n os ++ c) ≡ c
  nothing_scaled n os c z e = ap (λ d. normal cmp (number q) (scale n d ++ c)) z ∙ e

  -- a copy gets the next term
  pub next_copied : (xs : List (K × Fp)) (i : ℕ) (x : K × Fp) (c : Terms K) → IsNormal cmp (number q) (numbers xs) → i < length xs → x ≡ get_or xs i x → c ≡ take i (numbers xs)
      → normal cmp (number q) ((x.0, x.1.value) ∷ c) ≡ take (i + 1) (numbers xs)
  next_copied xs i x c e l at same =
      let r = rises cmp total q (numbers xs) e in
      let here : take (suc i) (numbers xs) ≡ take i (numbers xs) ++ (x.0, x.1.value) ∷ [] = taken xs i x l at in
      let front : Rises cmp (number q) (take i (numbers xs) ++ (x.0, x.1.value) ∷ []) =
      subst (Rises cmp (number q)) here (Rises-first cmp (number q) (take (suc i) (numbers xs)) (drop (suc i) (numbers xs)) (subst (Rises cmp (number q)) (parts (suc i) (numbers xs)) r)) in
      let before : Rises cmp (number q) (take i (numbers xs)) = Rises-first cmp (number q) (take i (numbers xs)) _ front in
      ap (add_term cmp (number q) x.0 x.1.value) (ap (normal cmp (number q)) same ∙ normal-Rises cmp (number q) _ before ∙ sym (append-nil (take i (numbers xs))))
      ∙ add_term-above cmp (number q) x.0 x.1.value (take i (numbers xs)) [] (lower_before cmp total (take i (numbers xs)) [] (x.0, x.1.value) (Rises-Ascends cmp (number q) _ front))
      ∙ ap (λ d. take i (numbers xs) ++ d) (ap (λ n. put cmp (number q) x.0 n []) (mod-eq_of_lt (last_element (take i (numbers xs)) front)) ∙ put-positive cmp (number q) x.0 x.1.value [] (last_positive (take i (numbers xs)) front))
      ∙ sym here ∙ ap (λ j. take j (numbers xs)) (let n : suc i ≡ i + 1 = omega arith in n)
    where
      taken : (xs : List (K × Fp)) (i : ℕ) (y : K × Fp) → i < length xs → y ≡ get_or xs i y
          → take (suc i) (numbers xs) ≡ take i (numbers xs) ++ (y.0, y.1.value) ∷ []
      taken [] i y l e = absurd (omega arith)
      taken (x ∷ xs) zero y l e = ap (λ (z : K × Fp). (z.0, z.1.value) ∷ []) (sym e)
      taken (x ∷ xs) (suc i) y l e = ap (λ c. (x.0, x.1.value) ∷ c) (taken xs i y (omega arith) e)

      last_element : (a : Terms K) → Rises cmp (number q) (a ++ (x.0, x.1.value) ∷ []) → x.1.value < number q
      last_element [] r = r.1
      last_element (t ∷ a) r = last_element a r.3

      last_positive : (a : Terms K) → Rises cmp (number q) (a ++ (x.0, x.1.value) ∷ []) → 0 < x.1.value
      last_positive [] r = r.0
      last_positive (t ∷ a) r = last_positive a r.3

  -- terms are added to a chain one after the other
  pub all_added : (os c : Terms K) → IsNormal cmp (number q) c → merged cmp (number q) os c ≡ normal cmp (number q) (os ++ c)
  all_added os c e = sym (normal-merged cmp (number q) os c ∙ ap (merged cmp (number q) os) e)

  merged-push : (os : Terms K) (t : K × ℕ) (c : Terms K) → merged cmp (number q) (os ++ t ∷ []) c ≡ merged cmp (number q) os (add_term cmp (number q) t.0 t.1 c)
  merged-push [] t c = refl
  merged-push (u ∷ os) t c = ap (add_term cmp (number q) u.0 u.1) (merged-push os t c)

  pub added_next : (xs rest : List (K × Fp)) (t : K × Fp) (old new goal : Terms K) → xs ≡ rest ++ t ∷ [] → IsNormal cmp (number q) old
      → new ≡ normal cmp (number q) ((t.0, t.1.value) ∷ old) → merged cmp (number q) (numbers xs) old ≡ goal → merged cmp (number q) (numbers rest) new ≡ goal
  added_next xs rest t old new goal popped e s h =
      ap (merged cmp (number q) (numbers rest)) (s ∙ ap (add_term cmp (number q) t.0 t.1.value) e) ∙ sym (merged-push (numbers rest) (t.0, t.1.value) old)
      ∙ ap (λ os. merged cmp (number q) os old) (sym (ap numbers popped ∙ numbers-append rest (t ∷ []))) ∙ h

  pub normal_again : (c d : Terms K) → c ≡ normal cmp (number q) d → IsNormal cmp (number q) c
  normal_again c d e = subst (IsNormal cmp (number q)) (sym e) (normal-Rises cmp (number q) _ (Rises-normal cmp (number q) total (number_pos q) d))

  pub permuted : ((x y : K) → cmp x y ≡ Equal → x ≡ y) → (xs ys : List (K × Fp)) → IsPermutation xs ys → normal cmp (number q) (numbers ys) ≡ normal cmp (number q) (numbers xs)
  permuted one_key xs ys h = normal-same cmp (number q) one_key total (number_pos q) (numbers ys) (numbers xs) (λ w.
      ap (λ n. n % number q) (weigh-numbers w ys ∙ sum_by-IsPermutation (λ t. t.1.value * w t.0) xs ys h ∙ sym (weigh-numbers w xs)))

  -- chains with the same coefficients are the same
  pub determined : ((x y : K) → cmp x y ≡ Equal → x ≡ y) → (c d : Terms K) → IsNormal cmp (number q) c → IsNormal cmp (number q) d
      → ((k : K) → coeff (eq_by_cmp cmp) c k ≡ coeff (eq_by_cmp cmp) d k) → c ≡ d
  determined one_key c d e f h =
      sym e
      ∙ normal-same cmp (number q) one_key total (number_pos q) c d (λ w.
      weigh-same (eq_by_cmp cmp) (eq_by_cmp_equiv total) (number q) (λ k. false) (λ k. Unit {0}) w (λ x y same. ap (λ k. w k % number q) (one_key x y (tied (cmp x y) same))) (λ x g s. absurd (cc))
      (number_pos q) c d (Each-any c) (Each-any d) (λ k g. ap (λ n. n % number q) (h k)))
      ∙ f
    where
      tied : (o : Ordering) → is_eq o ≡ true → o ≡ Equal
      tied Less e = absurd (cc)
      tied Equal e = refl
      tied Greater e = absurd (cc)
