-- What a binary search says of a list of terms whose keys rise.
use Rattle.std.proofs.Common.{◌≡◌, ℕ, zero, suc, ◌-◌, ◌<◌, ◌≤◌, false, List, [], ◌∷◌, ◌++◌, length, take, drop, get_or, Result, Ok, Err, add-one, refl, sym, ◌∙◌, ap, subst, arith}
use Rattle.std.specs.declared.cmp.Ordering.{Ordering}
use Rattle.std.specs.declared.cmp.Ordering.TheVariants.{Less, Equal, Greater}
use Rattle.std.specs.Ordering.{is_lt, ordering_reverse}
use Rattle.std.specs.Cmp.{IsTotalOrder}
use Rattle.std.specs.List.{AllWithin}
use Rattle.std.specs.List.Sorted.{IsSortedBy, IsBinarySearchResult, IsSearchInRange}
use Rattle.std.proofs.lemmas.List.Sorted.{searchable_from_sorted}
use Rattle.fp_field.specs.declared.element.Fp.{Fp}
use Rattle.fp_field.specs.Chains.{Terms, Each}
use Rattle.chain_core.specs.Formal.{numbers}
use Rattle.chain_core.specs.Places.{Ascends, IsAt, IsBetween, IsPlace}

module _ {K : Type 0} (cmp : K → K → Ordering) (total : IsTotalOrder cmp) where
  pub flipped : (x y : K) (o : Ordering) → cmp x y ≡ o → cmp y x ≡ ordering_reverse o
  flipped x y o e = total.antisymm y x ∙ ap ordering_reverse e

  sorted_pairs : (xs : List (K × Fp)) → Ascends cmp (numbers xs) → (k : ℕ) (d : K × Fp) → suc k < length xs
      → is_lt (cmp (get_or xs (suc k) d).0 (get_or xs k d).0) ≡ false
  sorted_pairs [] h k d l = absurd (omega arith)
  sorted_pairs (t ∷ []) h k d l = absurd (omega arith)
  sorted_pairs (t ∷ (u ∷ xs)) h zero d l = ap is_lt (flipped t.0 u.0 Less h.0.0)
  sorted_pairs (t ∷ (u ∷ xs)) h (suc k) d l = sorted_pairs (u ∷ xs) h.1 k d (omega arith)

  pub sorted : (xs : List (K × Fp)) → Ascends cmp (numbers xs) → IsSortedBy (λ a b. is_lt (cmp a.0 b.0)) xs
  sorted xs h k d _ l = rw add-one (sorted_pairs xs h k d (omega (arith, l)))

  -- the keys before a term are below it
  pub lower_before : (a b : Terms K) (t : K × ℕ) → Ascends cmp (a ++ t ∷ b) → Each (λ x. cmp t.0 x ≡ Greater) a
  lower_before [] b t r = tt
  lower_before (u ∷ a) b t r = (flipped u.0 t.0 Less (at a r.0), lower_before a b t r.1)
    where
      at : (a : Terms K) → Each (λ x. cmp u.0 x ≡ Less) (a ++ t ∷ b) → cmp u.0 t.0 ≡ Less
      at [] h = h.0
      at (v ∷ a) h = at a h.1

  -- a term is below those after it
  pub higher_after : (a b : Terms K) (t : K × ℕ) → Ascends cmp (a ++ t ∷ b) → Each (λ x. cmp t.0 x ≡ Less) b
  higher_after [] b t r = r.0
  higher_after (u ∷ a) b t r = higher_after a b t r.1

  -- a fact of each term before, and of each term after, a place
  each_below : (P : K → Type 0) (xs : List (K × Fp)) (i : ℕ) → ((k : ℕ) (d : K × Fp) → k < i → P (get_or xs k d).0) → Each P (take i (numbers xs))
  each_below P xs zero h = tt
  each_below P [] (suc i) h = tt
  each_below P (t ∷ xs) (suc i) h = (h zero t (omega arith), each_below P xs i (λ k d l. h (suc k) d (omega arith)))

  each_above : (P : K → Type 0) (xs : List (K × Fp)) (i : ℕ) → ((k : ℕ) (d : K × Fp) → i ≤ k → k < length xs → P (get_or xs k d).0) → Each P (drop i (numbers xs))
  each_above P [] zero h = tt
  each_above P [] (suc i) h = tt
  each_above P (t ∷ xs) zero h = (h zero t (omega arith) (omega arith), each_above P xs zero (λ k d l g. h (suc k) d (omega arith) (omega arith)))
  each_above P (t ∷ xs) (suc i) h = each_above P xs i (λ k d l g. h (suc k) d (omega arith) (omega arith))

  pub between : (xs : List (K × Fp)) (k : K) (i : ℕ) → i ≤ length xs → AllWithin (λ y. cmp y.0 k ≡ Less) xs 0 i → AllWithin (λ y. cmp y.0 k ≡ Greater) xs i (length xs)
      → IsBetween cmp (numbers xs) k i
  between xs k i l low high = record {
    within = same_length xs i l;
    lower = each_below (λ x. cmp k x ≡ Greater) xs i (λ j d h. flipped _ k Less (low j d (omega arith) h));
    higher = each_above (λ x. cmp k x ≡ Less) xs i (λ j d h g. flipped _ k Greater (high j d h g));
  }
    where
      same_length : (xs : List (K × Fp)) (i : ℕ) → i ≤ length xs → i ≤ length (numbers xs)
      same_length [] i l = l
      same_length (t ∷ xs) zero l = omega arith
      same_length (t ∷ xs) (suc i) l = let r = same_length xs i (omega arith) in omega arith

  -- the list round its term at a place
  round : (xs : List (K × Fp)) (i : ℕ) (d : K × Fp) → i < length xs
      → numbers xs ≡ take i (numbers xs) ++ ((get_or xs i d).0, (get_or xs i d).1.value) ∷ drop (suc i) (numbers xs)
  round [] i d l = absurd (omega arith)
  round (t ∷ xs) zero d l = refl
  round (t ∷ xs) (suc i) d l = ap (λ c. (t.0, t.1.value) ∷ c) (round xs i d (omega arith))

  pub Each-map : (P Q : K → Type 0) → ((x : K) → P x → Q x) → (c : Terms K) → Each P c → Each Q c
  Each-map P Q f [] h = tt
  Each-map P Q f (t ∷ c) h = (f t.0 h.0, Each-map P Q f c h.1)

  pub at_place : (xs : List (K × Fp)) (k : K) (i : ℕ) (d : K × Fp) → i < length xs → Ascends cmp (numbers xs) → cmp (get_or xs i d).0 k ≡ Equal
      → IsAt cmp (numbers xs) k i
  at_place xs k i d l r e =
      let t : K × ℕ = ((get_or xs i d).0, (get_or xs i d).1.value) in
      let q = round xs i d l in
      let s : Ascends cmp (take i (numbers xs) ++ t ∷ drop (suc i) (numbers xs)) = subst (Ascends cmp) q r in
      record {
        term = t;
        order = q;
        lower = Each-map (λ x. cmp t.0 x ≡ Greater) (λ x. cmp k x ≡ Greater) (λ x h. sym (total.congr t.0 k x e) ∙ h) (take i (numbers xs)) (lower_before (take i (numbers xs)) (drop (suc i) (numbers xs)) t s);
        equal = flipped t.0 k Equal e;
        higher = Each-map (λ x. cmp t.0 x ≡ Less) (λ x. cmp k x ≡ Less) (λ x h. sym (total.congr t.0 k x e) ∙ h) (drop (suc i) (numbers xs)) (higher_after (take i (numbers xs)) (drop (suc i) (numbers xs)) t s);
      }

  all_lower : (xs : List (K × Fp)) (k : K) (i : ℕ) (d : K × Fp) → suc i ≡ length xs → Ascends cmp (numbers xs) → cmp k (get_or xs i d).0 ≡ Greater
      → Each (λ x. cmp k x ≡ Greater) (numbers xs)
  all_lower [] k i d l r e = tt
  all_lower (t ∷ []) k zero d l r e = (e, tt)
  all_lower (t ∷ []) k (suc i) d l r e = absurd (omega arith)
  all_lower (t ∷ (u ∷ xs)) k zero d l r e = absurd (omega arith)
  all_lower (t ∷ (u ∷ xs)) k (suc i) d l r e =
      let h = all_lower (u ∷ xs) k i d (omega arith) r.1 e in (flipped t.0 k Less (total.trans t.0 u.0 k r.0.0 (flipped k u.0 Greater h.0)), h)

  each_take : (P : K → Type 0) (c : Terms K) (i : ℕ) → Each P c → Each P (take i c)
  each_take P c zero h = tt
  each_take P [] (suc i) h = tt
  each_take P (t ∷ c) (suc i) h = (h.0, each_take P c i h.1)

  none_after : (P : K → Type 0) (xs : List (K × Fp)) → Each P (drop (length xs) (numbers xs))
  none_after P [] = tt
  none_after P (t ∷ xs) = none_after P xs

  pub length-numbers : (xs : List (K × Fp)) → length xs ≡ length (numbers xs)
  length-numbers [] = refl
  length-numbers (t ∷ xs) = ap suc (length-numbers xs)

  -- a key above the last one
  pub past_last : (xs : List (K × Fp)) (k : K) (d : K × Fp) → 0 < length xs → Ascends cmp (numbers xs) → cmp k (get_or xs (length xs - 1) d).0 ≡ Greater
      → IsBetween cmp (numbers xs) k (length xs)
  past_last xs k d l r e = record {
    within = omega (arith, length-numbers xs);
    lower = each_take (λ x. cmp k x ≡ Greater) (numbers xs) (length xs) (all_lower xs k (length xs - 1) d (omega arith) r e);
    higher = none_after (λ x. cmp k x ≡ Less) xs;
  }

  pub searched : (xs : List (K × Fp)) (k : K) (r : Result ℕ ℕ) → Ascends cmp (numbers xs) → IsSearchInRange r (length xs)
      → IsBinarySearchResult (λ y. cmp y.0 k) xs r → IsPlace cmp (numbers xs) k r
  searched [] k (Ok i) h l q = absurd (omega arith)
  searched (t ∷ xs) k (Ok i) h l q = at_place (t ∷ xs) k i t l h (q t)
  searched xs k (Err i) h l q = let s = q (searchable_from_sorted total (λ y. y.0) xs k (sorted xs h)) in between xs k i l s.0 s.1
