-- Histories that are extended, and what stays settled.
use Rattle.std.proofs.Common.{◌≡◌, ℕ, ◌<◌, true, List, [], ◌++◌, sym, ◌∙◌, ap, subst, refl, arith, inl, inr}
use Rattle.std.proofs.lemmas.List.{append-nil, append_assoc}
use Rattle.std.proofs.lemmas.List.Elements.{Contains-append_cases, Contains-append_left}
use Rattle.std.specs.Prelude.{Contains, ◌⊎◌}
use Rattle.oracle_iface.specs.Board.{Slot, unclaimed}
use Rattle.oracle_iface.specs.Histories.{slot_of, legal_from}
use Rattle.oracle_iface.specs.Memos.{Grows}
use Rattle.oracle_iface.specs.declared.entries.Act.TheVariants.{Publishes}
use Rattle.oracle_iface.specs.declared.entries.Entry.{Entry}
use Rattle.oracle_iface.specs.declared.keys.Key.{Key}
use Rattle.force_engine.specs.Settled.{doing, IsOnTheWay, WasHeld, WasFull, IsSettled, is_there, was_held, was_full, WasBegun, by_claim, by_holder, by_full}
use Rattle.force_engine.specs.Ways.{HasValue, Extends}
use Rattle.force_engine.proofs.Boards.{slot_append, stays_published, legal_both}
use Rattle.force_engine.proofs.Histories.{all_grown, all_legal, is_own}

pub nothing_in : {A : Type 0} (x : A) → Contains [] x → ⊥
nothing_in x c = let i : ℕ = c.0 in let h : i < 0 = c.1 in omega arith

-- ---- longer ways

longer : (h pre n post at : List Entry) → IsOnTheWay (h ++ pre) n at → IsOnTheWay h (n ++ post) at
longer h pre n post at w = record {
  before = pre ++ w.before;
  after = w.after ++ post;
  begun = w.begun ∙ append_assoc h pre w.before;
  ended = ap (λ (z : List Entry). z ++ post) w.ended ∙ append_assoc at w.after post;
}

longer_held : (seat : ℕ) (key : Key) (h pre n post : List Entry) → WasHeld seat key (h ++ pre) n → WasHeld seat key h (n ++ post)
longer_held seat key h pre n post w =
    record { at = w.at; on_the_way = longer h pre n post w.at w.on_the_way; holder = w.holder; another = w.another; shown = w.shown }

longer_full : (key : Key) (h pre n post : List Entry) → WasFull key (h ++ pre) n → WasFull key h (n ++ post)
longer_full key h pre n post w = record { at = w.at; on_the_way = longer h pre n post w.at w.on_the_way; shown = w.shown }

longer_settled : (seat : ℕ) (key : Key) (h pre n post : List Entry) → legal_from (slot_of n key) post key ≡ true → IsSettled seat key (h ++ pre) n
    → IsSettled seat key h (n ++ post)
longer_settled seat key h pre n post l (is_there e) = is_there (slot_append unclaimed n post key ∙ stays_published (slot_of n key) post key l e)
longer_settled seat key h pre n post l (was_held w) = was_held (longer_held seat key h pre n post w)
longer_settled seat key h pre n post l (was_full w) = was_full (longer_full key h pre n post w)

module _ (seat : ℕ) (B : Key → Type 0) where
  pub settled_left : (key : Key) (a b c : List Entry) → Extends seat B a b → IsSettled seat key b c → IsSettled seat key a c
  settled_left key a b c w s =
      subst (λ (z : List Entry). IsSettled seat key a z) (append-nil c)
      (longer_settled seat key a w.added c [] refl (subst (λ (z : List Entry). IsSettled seat key z c) w.grown s))

  pub settled_right : (key : Key) (a b c : List Entry) → IsSettled seat key a b → Extends seat B b c → IsSettled seat key a c
  settled_right key a b c s w =
      subst (λ (z : List Entry). IsSettled seat key a z) (sym w.grown)
      (longer_settled seat key a [] b w.added (w.legal key) (subst (λ (z : List Entry). IsSettled seat key z b) (sym (append-nil a)) s))

  pub begun_right : (key : Key) (a b c : List Entry) → WasBegun seat key a b → Extends seat B b c → WasBegun seat key a c
  begun_right key a b c (by_claim added e there) w =
      by_claim (added ++ w.added) (w.grown ∙ ap (λ (z : List Entry). z ++ w.added) e ∙ append_assoc a added w.added) (Contains-append_left added w.added _ there)
  begun_right key a b c (by_holder x) w =
      by_holder (subst (λ (z : List Entry). WasHeld seat key a z) (sym w.grown)
      (longer_held seat key a [] b w.added (subst (λ (z : List Entry). WasHeld seat key z b) (sym (append-nil a)) x)))
  begun_right key a b c (by_full x) w =
      by_full (subst (λ (z : List Entry). WasFull key a z) (sym w.grown)
      (longer_full key a [] b w.added (subst (λ (z : List Entry). WasFull key z b) (sym (append-nil a)) x)))

  pub extends_self : (h : List Entry) → Extends seat B h h
  extends_self h = record { added = []; grown = sym (append-nil h); legal = λ k. refl; backed = λ k c v. absurd (nothing_in _ c) }

  pub at_itself : (h n : List Entry) → Extends seat B h n → IsOnTheWay h n n
  at_itself h n w = record { before = w.added; after = []; begun = w.grown; ended = sym (append-nil n) }

  -- a step of a memo
  pub extends_by : (h n : List Entry) (shows : List Entry → Type 0) (own : List Entry) → ((k : Key) → Contains own (doing Publishes seat k) → HasValue k → B k)
      → Grows seat h n shows own → Extends seat B h n
  extends_by h n shows own each g = record {
    added = g.others ++ own;
    grown = all_grown seat h n shows own g;
    legal = all_legal seat h n shows own g;
    backed = λ k there. each k (is_own seat h n shows own g (doing Publishes seat k) refl there);
  }

pub extends_both : (seat : ℕ) (A B C : Key → Type 0) (a b c : List Entry) → ((k : Key) → A k → C k) → ((k : Key) → B k → C k)
    → Extends seat A a b → Extends seat B b c → Extends seat C a c
extends_both seat A B C a b c f g v w = record {
  added = v.added ++ w.added;
  grown = w.grown ∙ ap (λ (z : List Entry). z ++ w.added) v.grown ∙ append_assoc a v.added w.added;
  legal = λ k. legal_both (slot_of a k) v.added w.added k (v.legal k)
      (subst (λ (x : Slot). legal_from x w.added k ≡ true) (ap (λ (z : List Entry). slot_of z k) v.grown ∙ slot_append unclaimed a v.added k) (w.legal k));
  backed = λ k there has. by_side k has (Contains-append_cases v.added w.added _ there);
}
  where
    by_side : (k : Key) → HasValue k → Contains v.added (doing Publishes seat k) ⊎ Contains w.added (doing Publishes seat k) → C k
    by_side k has (inl x) = f k (v.backed k x has)
    by_side k has (inr x) = g k (w.backed k x has)
