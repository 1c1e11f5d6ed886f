-- From a book's own step to the front of the pass that made it: the history begins with the front, and what follows the front
-- there is of others.
use Rattle.std.proofs.Common.{◌≡◌, ◌≢◌, ℕ, Bool, true, false, cond, eqb, List, [], ◌∷◌, ◌++◌, refl, ap, sym, ◌∙◌, subst}
use Rattle.std.specs.Prelude.{All, Some}
use Rattle.std.proofs.lemmas.Bool.{eqb-false}
use Rattle.std.proofs.lemmas.List.Elements.{All-nil, All-cons, filter-append}
use Rattle.oracle_iface.specs.Board.{unclaimed}
use Rattle.oracle_iface.specs.Histories.{IsLegal, IsHeld, slot_of}
use Rattle.oracle_iface.specs.Memos.{Grows, Steps}
use Rattle.oracle_iface.specs.declared.entries.Entry.{Entry}
use Rattle.oracle_iface.specs.declared.keys.Key.{Key}
use Rattle.oracle_iface.proofs.Fronts.{slot_append, legal_rest, others_keep}
use Rattle.memo_book.specs.Books.{BookView}
use Rattle.memo_book.specs.Histories.{history}
use Rattle.turnstile.specs.Turns.{Fits, owned}
use Rattle.turnstile.specs.Steps as steps
use Rattle.memo_shared.proofs.Told.{by, Grown}
use Rattle.memo_shared.proofs.Answered.{AreOf}

abbrev tail : {A : Type 0} → List A → List A
tail [] = []
tail (z ∷ zs) = zs

cancel : {A : Type 0} (xs ys : List A) → xs ++ ys ≡ xs → ys ≡ []
cancel [] ys e = e
cancel (x ∷ xs) ys e = cancel xs ys (ap tail e)

-- where a seat owns none of the entries, all are of others
apart_all : (seat : ℕ) (es : List Entry) → owned by seat es ≡ [] → All (λ (e : Entry). e.seat ≢ seat) es
apart_all seat [] none = All-nil (λ (e : Entry). e.seat ≢ seat)
apart_all seat (x ∷ xs) none = one (eqb x.seat seat) refl none (apart_all seat xs)
  where
    one : (t : Bool) → eqb x.seat seat ≡ t → cond t (x ∷ owned by seat xs) (owned by seat xs) ≡ [] → (owned by seat xs ≡ [] → All (λ (e : Entry). e.seat ≢ seat) xs)
        → All (λ (e : Entry). e.seat ≢ seat) (x ∷ xs)
    one true is n f = absurd (cc n)
    one false is n f = All-cons (λ (e : Entry). e.seat ≢ seat) x xs (eqb-false x.seat seat is) (f n)

module _ (seat : ℕ) (front log : List Entry) (f : Fits by log seat front) where
  -- what the seat has not seen yet
  abbrev pub others : List Entry
  others = f.0.0

  pub begun : log ≡ front ++ others
  begun = sym f.0.1

  pub apart : All (λ (e : Entry). e.seat ≢ seat) others
  apart = apart_all seat others (cancel (owned by seat front) (owned by seat others) (sym (filter-append _ front others) ∙ (ap (owned by seat) f.0.1 ∙ f.1)))

  -- what the seat holds in its front, it holds
  pub held_still : (key : Key) → IsLegal log → IsHeld front key seat → IsHeld log key seat
  held_still key legal h =
      ap (λ es. slot_of es key) begun
      ∙ (slot_append unclaimed front others key
      ∙ others_keep seat (slot_of front key) others key apart (legal_rest unclaimed front others key (subst IsLegal begun legal key)) h)

module _ (seat : ℕ) (front : List Entry) (b new : BookView) (f : Fits by (history b) seat front) where
  -- from the front on, the history has grown by entries of others and then by the call's own
  pub grows_from : (front' : List Entry) → front' ≡ history new → (shows : List Entry → Type 0) (own : List Entry) → Grown b new shows own → Grows seat front front' shows own
  grows_from front' is shows own g = record {
    others = others seat front (history b) f;
    apart = apart seat front (history b) f;
    shown = subst shows (begun seat front (history b) f) g.shown;
    grown = is ∙ (g.grown ∙ ap (λ z. z ++ own) (begun seat front (history b) f));
    legal = subst IsLegal (sym is) g.legal;
  }

-- the pass alone has added to what it saw inside
pub adds_own : (seat k : ℕ) (seen : List Entry) (b new : BookView) → k ≡ seat → seen ≡ history b → (shows : List Entry → Type 0) (own : List Entry) → AreOf seat own
    → Grown b new shows own → steps.Grows by k seen (history new)
adds_own seat k seen b new k_is is shows own mine g = record {
  added = own;
  grown = g.grown ∙ ap (λ z. z ++ own) (sym is);
  own = subst (λ n. All (λ (e : Entry). e.seat ≡ n) own) (sym k_is) mine;
}

-- a call on one shard is a step of all fronts
pub steps_of : (seat shard : ℕ) (old new : ℕ → List Entry) (h h' : List Entry) → old shard ≡ h → new shard ≡ h' → ((other : ℕ) → other ≢ shard → new other ≡ old other)
    → (shows : List Entry → Type 0) (own : List Entry) → Grows seat h h' shows own → Steps seat shard (Some old) (Some new) shows own
steps_of seat shard old new h h' e e' others shows own g = (subst (λ z. Grows seat z (new shard) shows own) (sym e) (subst (λ z. Grows seat h z shows own) (sym e') g), others)
