-- Lists read side by side: what holds at each place of two of them, and of three while one is made from the others.
use Rattle.std.proofs.Common.{◌≡◌, ◌≢◌, ⊎_elim, ℕ, zero, suc, ◌+◌, ◌<◌, ◌≤◌, arith, refl, ap, List, [], ◌∷◌, ◌++◌, length, set, length-set, length-append, get_or, slice_get, sym, ◌∙◌, subst, Some}
use Rattle.std.proofs.lemmas.Bool.{cases_eq}
use Rattle.memo_book.proofs.Lists.{some_same, got_push, got_left, got_end, there}
use Rattle.memo_shared.specs.Shared.{AtEach}

pub got_here : {A : Type 0} (l : List A) (i : ℕ) (x : A) → i < length l → slice_get (set l i x) i ≡ Some x
got_here [] i x h = absurd (omega arith)
got_here (y ∷ l) zero x h = refl
got_here (y ∷ l) (suc i) x h = got_here l i x (omega arith)

pub got_apart : {A : Type 0} (l : List A) (i j : ℕ) (x : A) → j ≢ i → slice_get (set l i x) j ≡ slice_get l j
got_apart [] i j x ne = refl
got_apart (y ∷ l) zero zero x ne = absurd (ne refl)
got_apart (y ∷ l) zero (suc j) x ne = refl
got_apart (y ∷ l) (suc i) zero x ne = refl
got_apart (y ∷ l) (suc i) (suc j) x ne = got_apart l i j x (λ e. ne (ap suc e))

-- two lists with the same at each place
pub same_at_each : {A : Type 0} (xs ys : List A) → ((k : ℕ) → slice_get xs k ≡ slice_get ys k) → xs ≡ ys
same_at_each [] [] f = refl
same_at_each [] (y ∷ ys) f = absurd (cc (f zero))
same_at_each (x ∷ xs) [] f = absurd (cc (f zero))
same_at_each (x ∷ xs) (y ∷ ys) f = (λ i. some_same x y (f zero) i ∷ same_at_each xs ys (λ k. f (suc k)) i)

module _ {X Y : Type 0} (R : X → Y → Type 0) where
  pub at_none : AtEach R [] []
  at_none k x y e e' = absurd (cc e)

  pub at_push : (xs : List X) (ys : List Y) (x : X) (y : Y) → length xs ≡ length ys → AtEach R xs ys → R x y → AtEach R (xs ++ x ∷ []) (ys ++ y ∷ [])
  at_push xs ys x y long f r k x' y' e e' = ⊎_elim
      (λ (p : (k ≡ length xs) × (x ≡ x')). ⊎_elim
      (λ (q : (k ≡ length ys) × (y ≡ y')). subst (λ z. R z y') p.1 (subst (R x) q.1 r))
      (λ (q : (k < length ys) × (slice_get ys k ≡ Some y')). absurd (apart (p.0 ∙ long) q.0))
      (got_push ys y y' k e'))
      (λ (p : (k < length xs) × (slice_get xs k ≡ Some x')). ⊎_elim
      (λ (q : (k ≡ length ys) × (y ≡ y')). absurd (apart (q.0 ∙ sym long) p.0))
      (λ (q : (k < length ys) × (slice_get ys k ≡ Some y')). f k x' y' p.1 q.1)
      (got_push ys y y' k e'))
      (got_push xs x x' k e)
    where
      apart : {m : ℕ} → k ≡ m → k < m → ⊥
      apart {m} e lt = let i : k ≡ m = e in let l : k < m = lt in omega arith

  pub at_pushed : (xs xs' : List X) (ys ys' : List Y) (x : X) (y : Y) → xs' ≡ xs ++ x ∷ [] → ys' ≡ ys ++ y ∷ [] → length xs ≡ length ys → AtEach R xs ys → R x y → AtEach R xs' ys'
  at_pushed xs xs' ys ys' x y e e' long f r = subst (λ z. AtEach R z ys') (sym e) (subst (AtEach R (xs ++ x ∷ [])) (sym e') (at_push xs ys x y long f r))

  -- where one of the second list was put in another's place
  pub at_set : (xs : List X) (ys : List Y) (i : ℕ) (x : X) (y : Y) → slice_get xs i ≡ Some x → i < length ys → AtEach R xs ys → R x y → AtEach R xs (set ys i y)
  at_set xs ys i x y here inside f r k x' y' e e' = ⊎_elim
      (λ (is : k ≡ i). subst (λ z. R z y') (some_same x x' (sym here ∙ (ap (slice_get xs) (sym is) ∙ e)))
      (subst (R x) (some_same y y' (sym (got_here ys i y inside) ∙ (ap (slice_get (set ys i y)) (sym is) ∙ e'))) r))
      (λ (ne : k ≢ i). f k x' y' e (sym (got_apart ys i k y ne) ∙ e'))
      (cases_eq k i)

-- of `ts` and `olds`, the first i places were treated, which made `news` of `olds`, and `parts`
module _ {T Q : Type 0} (R : T → Q → Q → Q → Type 0) where
  pub record Treated (ts : List T) (olds news parts : List Q) (i : ℕ) : Type 0 where
    pub kept : length news ≡ length olds
    pub counted : length parts ≡ i
    pub done : (k : ℕ) (t : T) (q : Q) → k < i → slice_get ts k ≡ Some t → slice_get olds k ≡ Some q
        → (first : Q) × (new : Q) × (slice_get news k ≡ Some first) × (slice_get parts k ≡ Some new) × R t q first new
    pub rest : (k : ℕ) → i ≤ k → slice_get news k ≡ slice_get olds k

  pub none_treated : (ts : List T) (olds : List Q) → Treated ts olds olds [] 0
  none_treated ts olds = record { kept = refl; counted = refl; done = λ k t q lt. absurd (omega arith); rest = λ k le. refl }

  pub one_treated : (ts : List T) (olds news parts : List Q) (i : ℕ) (t : T) (q first new : Q) → i < length news → slice_get ts i ≡ Some t → slice_get news i ≡ Some q → R t q first new
      → Treated ts olds news parts i → Treated ts olds (set news i first) (parts ++ new ∷ []) (i + 1)
  one_treated ts olds news parts i t q first new inside at_t at_q r d = record {
    kept = length-set news i first ∙ d.kept;
    counted = length-append parts (new ∷ []) ∙ ap (λ n. n + 1) d.counted;
    done = λ k t' q' lt e e'. ⊎_elim
        (λ (is : k ≡ i). (
          first,
          new,
          ap (slice_get (set news i first)) is ∙ got_here news i first inside,
          ap (slice_get (parts ++ new ∷ [])) (is ∙ sym d.counted) ∙ got_end parts [] new,
          subst (λ z. R z q' first new) (some_same t t' (sym at_t ∙ (ap (slice_get ts) (sym is) ∙ e)))
              (subst (λ z. R t z first new) (some_same q q' (sym at_q ∙ (d.rest i (omega arith) ∙ (ap (slice_get olds) (sym is) ∙ e')))) r),
        ))
        (λ (ne : k ≢ i). (let below : k < i = omega arith in let m : ℕ = length parts in let m_is : m ≡ i = d.counted in let before = d.done k t' q' below e e' in (
          before.0,
          before.1,
          got_apart news i k first ne ∙ before.2,
          got_left parts (new ∷ []) k (let goal : k < m = omega arith in goal) ∙ before.3,
          before.4,
        )))
        (cases_eq k i);
    rest = λ k le. (let ne : k ≢ i = λ e. omega arith in let past : i ≤ k = omega arith in got_apart news i k first ne ∙ d.rest k past);
  }

  -- in the words of a loop, which reads both lists at the place and puts the part at the end
  pub treats : (ts : List T) (olds news parts parts' : List Q) (i : ℕ) (t : T) (q first new : Q) → i < length ts → i < length news → t ≡ get_or ts i t → q ≡ get_or news i q
      → parts' ≡ parts ++ new ∷ [] → R t q first new → Treated ts olds news parts i → Treated ts olds (set news i first) parts' (i + 1)
  treats ts olds news parts parts' i t q first new inside inside' t_is q_is e r d =
      subst (λ z. Treated ts olds (set news i first) z (i + 1)) (sym e)
      (one_treated ts olds news parts i t q first new inside' (there ts i t t inside t_is) (there news i q q inside' q_is) r d)
