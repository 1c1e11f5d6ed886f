-- The list of passes, taken apart from its end.
use Rattle.std.proofs.Common.{◌≡◌, ℕ, zero, suc, ◌+◌, ◌-◌, ◌<◌, ◌≤◌, ◌⊎◌, inl, inr, ⊎_elim, List, [], ◌∷◌, ◌++◌, length, map, get_or, refl, ap, sym, ◌∙◌, subst, arith, append_assoc, length-append}
use Rattle.std.specs.Prelude.{All, Any, Option, remove}
use Rattle.std.proofs.lemmas.List.{map-append, get_or_append_left, get_or_default}
use Rattle.std.proofs.lemmas.List.Edits.{length-remove, get_or-remove_below, get_or-remove_above}
use Rattle.std.proofs.lemmas.Bool.{cases_lt}
use Rattle.std.proofs.Math.Nat.{eq-or-lt_of_le}
use Rattle.atomic_table.specs.Table.{Me}
use Rattle.turnstile.specs.declared.counted.Counted.{Ghosts}
use Rattle.turnstile.specs.declared.rule.View.{View}
use Rattle.turnstile.specs.declared.rule.Kept.{Kept}
use Rattle.turnstile.specs.declared.pass.Pass.{Pass}
use Rattle.turnstile.specs.declared.pass.Turnstile.{Turnstile}
use Rattle.turnstile.specs.Turns.{Fits}
use Rattle.turnstile.specs.Steps.{keeper}
use Rattle.turnstile.specs.Passes.{front, number, made, note, AllKept, IsWhole}

module _ {X Y : Type 0} (f : X → Y) where
  pub mapped : (all old new : List X) (x : X) (kept : List Y) → map f all ≡ map f old ++ kept → old ≡ new ++ x ∷ [] → map f all ≡ map f new ++ f x ∷ kept
  mapped all old new x kept e is = e ∙ (ap (λ (l : List X). map f l ++ kept) is ∙ (ap (λ (l : List Y). l ++ kept) (map-append f new (x ∷ [])) ∙ append_assoc (map f new) (f x ∷ []) kept))

  length-mapped : (xs : List X) → length (map f xs) ≡ length xs
  length-mapped [] = refl
  length-mapped (x ∷ xs) = ap suc (length-mapped xs)

  pub at_mapped : (xs : List X) (k : ℕ) (d : X) (e : Y) → k < length xs → get_or (map f xs) k e ≡ f (get_or xs k d)
  at_mapped [] k d e h = absurd (omega arith)
  at_mapped (x ∷ xs) zero d e h = refl
  at_mapped (x ∷ xs) (suc k) d e h = at_mapped xs k d e (omega arith)

  pub any_mapped : (P : Y → Type 0) (xs : List X) → Any (λ x. P (f x)) xs → Any P (map f xs)
  any_mapped P xs a = (a.0, f a.1, subst (λ (n : ℕ). a.0 < n) (sym (length-mapped xs)) a.2, at_mapped xs a.0 a.1 (f a.1) a.2 ∙ ap f a.3, a.4)

  pub all_unmapped : (P : Y → Type 0) (xs : List X) → All P (map f xs) → All (λ x. P (f x)) xs
  all_unmapped P xs a k d h = subst P (at_mapped xs k d (f d) h) (a k (f d) (subst (λ (n : ℕ). k < n) (sym (length-mapped xs)) h))

pub all_front : {X : Type 0} (P : X → Type 0) (old new : List X) (x : X) → All P old → old ≡ new ++ x ∷ [] → All P new
all_front P old new x a is k d h =
    subst P (ap (λ l. get_or l k d) is ∙ get_or_append_left new (x ∷ []) d k h)
    (a k d (subst (λ l. k < length l) (sym is) (let n : ℕ = length new in let m : ℕ = length (new ++ x ∷ []) in let e : m ≡ n + 1 = length-append new (x ∷ []) in let h' : k < n = h in let goal : k < m = omega arith in goal)))

module _ {B E : Type 0} where
  -- one more is kept
  pub kept_one : (m0 m m' : Me (Option B) (View E)) (w : View E) (kept : List (Kept E)) → m ≡ (record m0.0 { kept = kept }, []) → m' ≡ (keeper m.0 w, m.1)
      → m' ≡ (record m0.0 { kept = record { number = w.number; front = w.front } ∷ kept }, [])
  kept_one m0 m m' w kept e e' = e' ∙ ap (λ (z : Me (Option B) (View E)). (keeper z.0 w, z.1)) e

module _ {X : Type 0} (P : X → Type 0) (xs : List X) (i : ℕ) (inside : i < length xs) where
  rest_long : length (remove xs i) + 1 ≡ length xs
  rest_long = length-remove xs i inside

  -- what holds of all holds of those left
  pub all_left : All P xs → All P (remove xs i)
  all_left a k d h = let m : ℕ = length (remove xs i) in let n : ℕ = length xs in let long : m + 1 ≡ n = rest_long in let h' : k < m = h in ⊎_elim
      (λ (lt : k < i). subst P (sym (get_or-remove_below xs i d k lt inside)) (a k d (let goal : k < n = omega arith in goal)))
      (λ (le : i ≤ k). subst P (sym (get_or-remove_above xs i d k le inside)) (a (k + 1) d (let goal : k + 1 < n = omega arith in goal)))
      (cases_lt k i)

  -- where an element is after the i-th is gone, by where it was
  abbrev Left : ℕ → X → Type 0
  Left k d = (j : ℕ) × (j < length (remove xs i)) × (get_or (remove xs i) j d ≡ get_or xs k d)

  stays : (k : ℕ) (d : X) → k < length xs → (k ≡ i) ⊎ Left k d
  stays k d h = let m : ℕ = length (remove xs i) in let n : ℕ = length xs in let long : m + 1 ≡ n = rest_long in let h' : k < n = h in let i' : i < n = inside in ⊎_elim
      (λ (lt : k < i). inr (k, (let goal : k < m = omega arith in goal), get_or-remove_below xs i d k lt inside))
      (λ (le : i ≤ k). ⊎_elim (λ (e : i ≡ k). inl (sym e))
      (λ (lt : i < k). let j : ℕ = k - 1 in inr (j, (let goal : j < m = omega arith in goal), get_or-remove_above xs i d j (omega arith) inside ∙ ap (λ (z : ℕ). get_or xs z d) (let goal : j + 1 ≡ k = omega arith in goal)))
      (eq-or-lt_of_le le))
      (cases_lt k i)

  -- what holds of the i-th and of those left holds of all
  pub all_back : ((d : X) → P (get_or xs i d)) → All P (remove xs i) → All P xs
  all_back here a k d h = ⊎_elim
      (λ (e : k ≡ i). subst (λ (z : ℕ). P (get_or xs z d)) (sym e) (here d))
      (λ (l : Left k d). subst P l.2 (a l.0 d l.1))
      (stays k d h)

  -- what holds of some, but not of the i-th, holds of one left
  pub any_left : ((d : X) → ¬ P (get_or xs i d)) → Any P xs → Any P (remove xs i)
  any_left miss a = ⊎_elim
      (λ (e : a.0 ≡ i). absurd (miss a.1 (subst P (sym (ap (λ (z : ℕ). get_or xs z a.1) (sym e) ∙ a.3)) a.4)))
      (λ (l : Left a.0 a.1). (l.0, a.1, l.1, l.2 ∙ a.3, a.4))
      (stays a.0 a.1 a.2)

module _ {B E : Type 0} {g : Ghosts B E} (t : Turnstile B E) (ps : List (Pass B E g)) (whole : IsWhole t ps) (i : ℕ) (inside : i < length ps) (first : Pass B E g) (is : first ≡ get_or ps i first) (zeroth : number first ≡ 0) where
  at_place : (d : Pass B E g) → get_or ps i d ≡ first
  at_place d = get_or_default ps i d first inside ∙ sym is

  every : (k : ℕ) → k < made first → Any (λ p. number p ≡ k) ps
  every k lt = whole.every i first inside (ap number (sym is) ∙ zeroth) k (subst (λ (p : Pass B E g). k < made p) is lt)

  module _ (rest : List (Pass B E g)) (left : rest ≡ remove ps i) (m : Me (Option B) (View E)) (kept_rest : m ≡ (record first.seat.me.0 { kept = map note rest }, [])) where
    kept : m ≡ (record first.seat.me.0 { kept = map note (remove ps i) }, [])
    kept = subst (λ (l : List (Pass B E g)). m ≡ (record first.seat.me.0 { kept = map note l }, [])) left kept_rest

    pub kept_all : AllKept m.0.made m.0.kept
    kept_all k pos below =
        let below' : k < made first = subst (λ (n : ℕ). k < n) (ap (λ (z : Me (Option B) (View E)). z.0.made) kept) below in
        let miss : (d : Pass B E g) → ¬ (number (get_or ps i d) ≡ k) = λ d e. (let n : ℕ = number first in let e' : n ≡ k = ap number (sym (at_place d)) ∙ e in let z : n ≡ 0 = zeroth in absurd (omega arith)) in
        subst (Any (λ (q : Kept E). q.number ≡ k)) (sym (ap (λ (z : Me (Option B) (View E)). z.0.kept) kept))
        (any_mapped note (λ (q : Kept E). q.number ≡ k) (remove ps i) (any_left (λ (p : Pass B E g). number p ≡ k) ps i inside miss (every k below')))

    pub fit_all : (o : E → ℕ) (log : List E) → Fits o log 0 m.0.front → All (λ q. Fits o log q.number q.front) m.0.kept → All (λ p. Fits o log (number p) (front p)) ps
    fit_all o log f a =
        let mine : Fits o log (number first) (front first) =
        subst (λ (n : ℕ). Fits o log n (front first)) (sym zeroth) (subst (λ (l : List E). Fits o log 0 l) (ap (λ (z : Me (Option B) (View E)). z.0.front) kept) f) in
        let others : All (λ (p : Pass B E g). Fits o log (number p) (front p)) (remove ps i) =
        all_unmapped note (λ (q : Kept E). Fits o log q.number q.front) (remove ps i) (subst (All (λ (q : Kept E). Fits o log q.number q.front)) (ap (λ (z : Me (Option B) (View E)). z.0.kept) kept) a) in
        all_back (λ (p : Pass B E g). Fits o log (number p) (front p)) ps i inside (λ d. subst (λ (p : Pass B E g). Fits o log (number p) (front p)) (sym (at_place d)) mine) others

    pub owned_all : (o : E → ℕ) (log : List E) → All (λ e. o e < m.0.made) log → All (λ e. Any (λ p. number p ≡ o e) ps) log
    owned_all o log a k d h = every (o (get_or log k d)) (subst (λ (n : ℕ). o (get_or log k d) < n) (ap (λ (z : Me (Option B) (View E)). z.0.made) kept) (a k d h))
