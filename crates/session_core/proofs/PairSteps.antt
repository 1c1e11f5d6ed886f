-- Loops over lists: what is left at a place, and the first fault of several.
use Rattle.std.proofs.Common.{◌≡◌, ℕ, zero, suc, ◌+◌, ◌<◌, ◌≤◌, ◌⊎◌, inl, inr, Bool, true, false, List, [], ◌∷◌, length, Some, None, drop, get_or, refl, sym, ◌∙◌, ap, arith}
use Rattle.std.specs.Option.{option_or}
use Rattle.std.proofs.Math.Seq.{drop-cons}
use Rattle.std.proofs.lemmas.List.{drop_all}
use Rattle.std.proofs.lemmas.Bool.{cases_lt}
use Rattle.reply_text.specs.declared.refusals.Refusal.{Refusal}
use Rattle.session_core.specs.Bundles.{Fault, fault_if, first_fault}

-- the item at a place, and those behind it
pub drop_here : {A : Type 0} (xs : List A) (i : ℕ) (x : A) → i < length xs → x ≡ get_or xs i x → drop i xs ≡ x ∷ drop (i + 1) xs
drop_here xs i x l e =
    let q : suc i ≡ i + 1 = omega arith in
    drop-cons xs i x l ∙ (λ j. sym e j ∷ drop (q j) xs)

-- a value of a list that is also that of what is left of it
module _ {A Z : Type 0} (g : List A → Z) (xs : List A) where
  module _ (i : ℕ) (x : A) (l : i < length xs) (e : x ≡ get_or xs i x) (so_far : g (drop i xs) ≡ g xs) where
    pub passed_by : g (x ∷ drop (i + 1) xs) ≡ g (drop (i + 1) xs) → g (drop (i + 1) xs) ≡ g xs
    passed_by same = sym same ∙ sym (ap g (drop_here xs i x l e)) ∙ so_far

    pub found_here : (z : Z) → g (x ∷ drop (i + 1) xs) ≡ z → z ≡ g xs
    found_here z is = sym is ∙ sym (ap g (drop_here xs i x l e)) ∙ so_far

  pub at_the_end : (i : ℕ) → length xs ≤ i → g (drop i xs) ≡ g xs → g [] ≡ g xs
  at_the_end i l so_far = ap g (sym (drop_all i xs l)) ∙ so_far

-- ---- faults

pub or_none : (a b : Fault) → option_or a b ≡ None → (a ≡ None) × (b ≡ None)
or_none None b e = (refl, e)
or_none (Some r) b e = absurd (cc)

pub if_none : (b : Bool) (r : Refusal) → fault_if b r ≡ None → b ≡ false
if_none true r e = absurd (cc)
if_none false r e = refl

module _ (f : ℕ → Fault) where
  pub none_so_far : (n : ℕ) → first_fault f n ≡ None → f n ≡ None → first_fault f (n + 1) ≡ None
  none_so_far n e h = let q : n + 1 ≡ suc n = omega arith in ap (first_fault f) q ∙ (λ i. option_or (e i) (h i))

  pub first_is : (r : Refusal) (k n : ℕ) → k < n → first_fault f k ≡ None → f k ≡ Some r → first_fault f n ≡ Some r
  first_is r k zero l e h = absurd (omega arith)
  first_is r k (suc n) l e h = by (λ m. first_is r k n m e h) (cases_lt k n)
    where
      by : (k < n → first_fault f n ≡ Some r) → (k < n) ⊎ (n ≤ k) → first_fault f (suc n) ≡ Some r
      by q (inl m) = ap (λ o. option_or o (f n)) (q m)
      by q (inr m) =
          let s : n ≡ k = omega arith in
          ap (λ o. option_or o (f n)) (ap (first_fault f) s ∙ e) ∙ ap f s ∙ h

  pub none_at : (n : ℕ) → first_fault f n ≡ None → (k : ℕ) → k < n → f k ≡ None
  none_at zero e k l = absurd (omega arith)
  none_at (suc n) e k l = let both = or_none (first_fault f n) (f n) e in by (none_at n both.0) both.1 (cases_lt k n)
    where
      by : ((j : ℕ) → j < n → f j ≡ None) → f n ≡ None → (k < n) ⊎ (n ≤ k) → f k ≡ None
      by q h (inl m) = q k m
      by q h (inr m) = let s : k ≡ n = omega arith in ap f s ∙ h
