-- Beginnings of a history, and the entries that a pass owns.
use Rattle.std.proofs.Common.{◌≡◌, ◌≢◌, ℕ, zero, suc, ◌<◌, ◌≤◌, ⊎_elim, length, Bool, true, false, cond, eqb, T, ne_eqb, List, [], ◌∷◌, ◌++◌, refl, ap, sym, ◌∙◌, subst, arith, append_assoc}
use Rattle.std.specs.Prelude.{All, slice_index_or}
use Rattle.std.proofs.lemmas.Bool.{cases_lt}
use Rattle.std.proofs.lemmas.List.{append-nil}
use Rattle.std.proofs.lemmas.List.Elements.{filter-append}
use Rattle.std.proofs.Math.Dec.{eqb_refl}
use mathlib.Core.List.{IsPrefix}
use Rattle.turnstile.specs.Turns.{owned, Fits}

module _ {E : Type 0} where
  pub prefix_self : (xs : List E) → IsPrefix xs xs
  prefix_self xs = ([], append-nil xs)

  pub prefix_more : (xs ys zs : List E) → IsPrefix xs ys → IsPrefix xs (ys ++ zs)
  prefix_more xs ys zs p = (p.0 ++ zs, sym (append_assoc xs p.0 zs) ∙ ap (λ (w : List E). w ++ zs) p.1)

  module _ (o : E → ℕ) where
    -- no entry of another owner is owned by k
    pub others_own : (k j : ℕ) (xs : List E) → k ≢ j → All (λ e. o e ≡ j) xs → owned o k xs ≡ []
    others_own k j [] n a = refl
    others_own k j (x ∷ xs) n a =
        let miss : eqb (o x) k ≡ false = ne_eqb (o x) k (λ e. n (sym e ∙ a 0 x (omega arith))) in
        subst (λ (b : Bool). cond b (x ∷ owned o k xs) (owned o k xs) ≡ []) (sym miss) (others_own k j xs n (λ i d le. a (suc i) d (omega arith)))

    pub fits_self : (k : ℕ) (log : List E) → Fits o log k log
    fits_self k log = (prefix_self log, refl)

    -- entries of another owner leave what a pass knows as it was
    pub fits_more : (k j : ℕ) (log added front : List E) → k ≢ j → All (λ e. o e ≡ j) added → Fits o log k front → Fits o (log ++ added) k front
    fits_more k j log added front n a f = (
      prefix_more front log added f.0,
      filter-append _ log added ∙ (ap (λ (w : List E). owned o k log ++ w) (others_own k j added n a) ∙ (append-nil (owned o k log) ∙ f.1)),
    )

    nil_left : (xs ys : List E) → xs ++ ys ≡ [] → xs ≡ []
    nil_left [] ys e = refl
    nil_left (x ∷ xs) ys e = absurd (cc e)

    -- what has no entry of an owner has none in a beginning of it
    pub none_before : (k : ℕ) (log front : List E) → IsPrefix front log → owned o k log ≡ [] → owned o k front ≡ []
    none_before k log front p e = nil_left (owned o k front) (owned o k p.0) (sym (filter-append _ front p.0) ∙ (ap (owned o k) p.1 ∙ e))

    dropped : (b : Bool) (x : E) (xs : List E) → cond b (x ∷ xs) xs ≡ [] → xs ≡ []
    dropped true x xs e = absurd (cc e)
    dropped false x xs e = e

    -- an entry of a history is one of those that its owner owns
    owner_owns : (log : List E) (i : ℕ) (d : E) → i < length log → owned o (o (slice_index_or log i d)) log ≢ []
    owner_owns [] i d h e = absurd (omega arith)
    owner_owns (x ∷ xs) zero d h e = cc (sym (ap (λ (b : Bool). cond b (x ∷ owned o (o x) xs) (owned o (o x) xs)) (of_test (eqb (o x) (o x)) (eqb_refl (o x)))) ∙ e) where
      of_test : (b : Bool) → T b → b ≡ true
      of_test true t = refl
      of_test false t = absurd t
    owner_owns (x ∷ xs) (suc i) d h e = let k : ℕ = o (slice_index_or xs i d) in owner_owns xs i d (omega arith) (dropped (eqb (o x) k) x (owned o k xs) e)

    -- where the numbers from n on own no entry, each owner is below n
    pub owners_below : (n : ℕ) (log : List E) → ((k : ℕ) → n ≤ k → owned o k log ≡ []) → All (λ e. o e < n) log
    owners_below n log none i d h = let k : ℕ = o (slice_index_or log i d) in ⊎_elim (λ (lt : k < n). lt) (λ (le : n ≤ k). absurd (owner_owns log i d h (none k le))) (cases_lt k n)
