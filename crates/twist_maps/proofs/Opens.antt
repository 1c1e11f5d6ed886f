-- The first row of dimension 3 at which values are not closed.
use Rattle.std.proofs.Common.{◌≡◌, ℕ, zero, suc, ◌+◌, ◌<◌, ◌≤◌, Bool, true, false, cond, ◌==◌, ◌⊎◌, inl, inr, List, length, Option, Some, None, ℤ, pos, refl, sym, ◌∙◌, ap, subst, arith, true≢false}
use Rattle.std.specs.Prelude.{not, ◌&&◌}
use Rattle.std.specs.Option.{option_map, option_or}
use Rattle.std.specs.Ordering.{int_eq}
use Rattle.std.proofs.lemmas.Bool.{cases_lt, cases_eq}
use Rattle.std.proofs.lemmas.Bool.Decides.{Decides-eqb, Decides-int_eq}
use Rattle.spaces.specs.Tables.{Table, entry, row_at}
use Rattle.spaces.specs.Nerves.{integers}
use Rattle.spaces.specs.Allowed.{IsCocycle}
use Rattle.term_lang.specs.TermFaults.{face_sum, first_place}
use Rattle.twist_maps.specs.Values.{is_open, open_at, first_open}

-- ---- the first place that passes a test

pub none_below : (p : ℕ → Bool) (n : ℕ) → ((k : ℕ) → k < n → p k ≡ false) → first_place p n ≡ None
unfolding first_place
none_below p zero h = refl
none_below p (suc n) h = λ i. option_or (none_below p n (λ k l. h k (omega (arith, l))) i) (cond (h n (omega arith) i) (Some n) None)

pub first_is : (p : ℕ → Bool) (r n : ℕ) → r < n → p r ≡ true → ((k : ℕ) → k < r → p k ≡ false) → first_place p n ≡ Some r
unfolding first_place
first_is p r zero l e h = absurd (omega (arith, l))
first_is p r (suc n) l e h = by (λ m. first_is p r n m e h) (cases_lt r n)
  where
    by : (r < n → first_place p n ≡ Some r) → (r < n) ⊎ (n ≤ r) → first_place p (suc n) ≡ Some r
    by q (inl m) = ap (λ o. option_or o (cond (p n) (Some n) None)) (q m)
    by q (inr m) =
        let f : r ≡ n = omega (arith, l, m) in
        (λ i. option_or (none_below p n (λ k g. h k (omega (arith, f, g))) i) (cond ((ap p (sym f) ∙ e) i) (Some n) None)) ∙ ap Some (sym f)

-- where there is none, the test fails everywhere
pub fails_below : (p : ℕ → Bool) (n : ℕ) → first_place p n ≡ None → (k : ℕ) → k < n → p k ≡ false
unfolding first_place
fails_below p zero e k l = absurd (omega (arith, l))
fails_below p (suc n) e k l = by (fails_below p n) (first_place p n) refl (p n) refl e
  where
    by : (first_place p n ≡ None → (j : ℕ) → j < n → p j ≡ false) → (o : Option ℕ) → first_place p n ≡ o → (b : Bool) → p n ≡ b
        → option_or o (cond b (Some n) None) ≡ None → p k ≡ false
    by r (Some m) f b g q = absurd (cc)
    by r None f true g q = absurd (cc)
    by r None f false g q = at (cases_lt k n)
      where
        at : (k < n) ⊎ (n ≤ k) → p k ≡ false
        at (inl m) = r f k m
        at (inr m) = let s : k ≡ n = omega arith in ap p s ∙ g

-- ---- rows

false_of : {P : Type 0} (b : Bool) → (b ≡ true → P) → (P → ⊥) → b ≡ false
false_of true h k = absurd (k (h refl))
false_of false h k = refl

module _ (t : Table) (c : List ℤ) (r : ℕ) where
  abbrev sum : ℤ
  sum = face_sum t c r

  pub no_dimension : ((row_at t r).dim ≡ 3 → ⊥) → is_open t c r ≡ false
  no_dimension h = ap (λ b. b && not (int_eq sum (pos 0))) (false_of ((row_at t r).dim == 3) (Decides-eqb (row_at t r).dim 3).0 h)

  pub with_dimension : (row_at t r).dim ≡ 3 → is_open t c r ≡ not (int_eq sum (pos 0))
  with_dimension h = ap (λ b. b && not (int_eq sum (pos 0))) ((Decides-eqb (row_at t r).dim 3).1 h)

  pub no_sum : sum ≡ pos 0 → not (int_eq sum (pos 0)) ≡ false
  no_sum e = ap not ((Decides-int_eq sum (pos 0)).1 e)

  pub with_sum : (sum ≡ pos 0 → ⊥) → not (int_eq sum (pos 0)) ≡ true
  with_sum h = ap not (false_of (int_eq sum (pos 0)) (Decides-int_eq sum (pos 0)).0 h)

  sum_is : is_open t c r ≡ false → (row_at t r).dim ≡ 3 → sum ≡ pos 0
  sum_is h d = by (int_eq sum (pos 0)) refl
    where
      by : (b : Bool) → int_eq sum (pos 0) ≡ b → sum ≡ pos 0
      by true e = (Decides-int_eq sum (pos 0)).0 e
      by false e = absurd (true≢false (sym (with_dimension d ∙ ap not e) ∙ h))

module _ (t : Table) (c : List ℤ) where
  -- the first open row, as the code finds it
  pub open-found : (r : ℕ) → r < length t → (row_at t r).dim ≡ 3 → (face_sum t c r ≡ pos 0 → ⊥) → ((k : ℕ) → k < r → is_open t c k ≡ false)
      → Some (open_at t c r) ≡ first_open t c
  unfolding first_open
  open-found r l d h below = sym (ap (option_map (open_at t c)) (first_is (is_open t c) r (length t) l (with_dimension t c r d ∙ with_sum t c r h) below))

  pub none-open : ((k : ℕ) → k < length t → is_open t c k ≡ false) → None ≡ first_open t c
  unfolding first_open
  none-open below = sym (ap (option_map (open_at t c)) (none_below (is_open t c) (length t) below))

  none_found : first_open t c ≡ None → first_place (is_open t c) (length t) ≡ None
  unfolding first_open
  none_found e = by (first_place (is_open t c) (length t)) refl e
    where
      by : (o : Option ℕ) → first_place (is_open t c) (length t) ≡ o → option_map (open_at t c) o ≡ None → first_place (is_open t c) (length t) ≡ None
      by None f q = f
      by (Some r) f q = absurd (cc)

  pub closed-values : length c ≡ length t → ((r : ℕ) → ((row_at t r).dim ≡ 2 → ⊥) → entry (pos 0) c r ≡ pos 0) → first_open t c ≡ None → IsCocycle integers t c
  closed-values long elsewhere e = record {
    as_long = long;
    is_in = λ r l. tt;
    elsewhere = λ r l h. elsewhere r h;
    closed = λ r l d. sum_is t c r (fails_below (is_open t c) (length t) (none_found e) r l) d;
  }

  pub cocycle-closed : IsCocycle integers t c → first_open t c ≡ None
  cocycle-closed is = sym (none-open (λ k l. at k l (cases_eq (row_at t k).dim 3)))
    where
      at : (k : ℕ) → k < length t → ((row_at t k).dim ≡ 3) ⊎ ((row_at t k).dim ≡ 3 → ⊥) → is_open t c k ≡ false
      at k l (inl d) = with_dimension t c k d ∙ no_sum t c k (is.closed k l d)
      at k l (inr h) = no_dimension t c k h

-- one row more is seen
pub seen-next : (p : ℕ → Bool) (r : ℕ) → ((k : ℕ) → k < r → p k ≡ false) → p r ≡ false → (k : ℕ) → k < r + 1 → p k ≡ false
seen-next p r h e k l = by (cases_lt k r)
  where
    by : (k < r) ⊎ (r ≤ k) → p k ≡ false
    by (inl m) = h k m
    by (inr m) = let f : k ≡ r = omega (arith, l, m) in ap p f ∙ e
