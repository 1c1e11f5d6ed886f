-- What stands at the places of a list.
use Rattle.std.proofs.Common.{◌≡◌, ◌≢◌, ◌⊎◌, inl, inr, ⊎_elim, ℕ, zero, suc, ◌<◌, arith, refl, ap, List, [], ◌∷◌, ◌++◌, length, set, get_or, slice_get, sym, Some}
use Rattle.std.specs.Prelude.{unwrap_or}

pub some_same : {A : Type 0} (x y : A) → Some x ≡ Some y → x ≡ y
some_same x y e = ap (λ o. unwrap_or o x) e

-- at a place that was set, and at the others
pub got_set : {A : Type 0} (l : List A) (i j : ℕ) (x s : A) → slice_get (set l i x) j ≡ Some s → ((j ≡ i) × (x ≡ s)) ⊎ ((j ≢ i) × (slice_get l j ≡ Some s))
got_set [] i j x s e = inr ((λ h. cc e), e)
got_set (y ∷ l) zero zero x s e = inl (refl, some_same x s e)
got_set (y ∷ l) zero (suc j) x s e = inr ((λ h. omega arith), e)
got_set (y ∷ l) (suc i) zero x s e = inr ((λ h. omega arith), e)
got_set (y ∷ l) (suc i) (suc j) x s e =
    ⊎_elim (λ (p : (j ≡ i) × (x ≡ s)). inl (ap suc p.0, p.1)) (λ (p : (j ≢ i) × (slice_get l j ≡ Some s)). inr ((λ h. p.0 (omega arith)), p.1))
    (got_set l i j x s e)

-- in a list with one more at its end
pub got_push : {A : Type 0} (l : List A) (x s : A) (i : ℕ) → slice_get (l ++ x ∷ []) i ≡ Some s
    → ((i ≡ length l) × (x ≡ s)) ⊎ ((i < length l) × (slice_get l i ≡ Some s))
got_push [] x s zero e = inl (refl, some_same x s e)
got_push [] x s (suc i) e = absurd (cc e)
got_push (y ∷ l) x s zero e = inr ((let n : ℕ = length l in let goal : 0 < suc n = omega arith in goal), e)
got_push (y ∷ l) x s (suc i) e =
    ⊎_elim (λ (p : (i ≡ length l) × (x ≡ s)). inl (ap suc p.0, p.1))
    (λ (p : (i < length l) × (slice_get l i ≡ Some s)). inr ((let n : ℕ = length l in let h : i < n = p.0 in let goal : suc i < suc n = omega arith in goal), p.1))
    (got_push l x s i e)

-- something stands at each place within
pub got : {A : Type 0} (l : List A) (i : ℕ) → i < length l → (x : A) × (slice_get l i ≡ Some x)
got [] i h = absurd (omega arith)
got (x ∷ l) zero h = (x, refl)
got (x ∷ l) (suc i) h = got l i (omega arith)

pub got_left : {A : Type 0} (k l : List A) (i : ℕ) → i < length k → slice_get (k ++ l) i ≡ slice_get k i
got_left [] l i h = absurd (omega arith)
got_left (x ∷ k) l zero h = refl
got_left (x ∷ k) l (suc i) h = got_left k l i (omega arith)

pub got_end : {A : Type 0} (k l : List A) (x : A) → slice_get (k ++ x ∷ l) (length k) ≡ Some x
got_end [] l x = refl
got_end (y ∷ k) l x = got_end k l x

-- what indexing finds
pub there : {A : Type 0} (l : List A) (i : ℕ) (d s : A) → i < length l → s ≡ get_or l i d → slice_get l i ≡ Some s
there [] i d s lt e = absurd (omega arith)
there (x ∷ l) zero d s lt e = ap Some (sym e)
there (x ∷ l) (suc i) d s lt e = there l i d s (let m : ℕ = length l in let h : suc i < suc m = lt in let goal : i < m = omega arith in goal) e
