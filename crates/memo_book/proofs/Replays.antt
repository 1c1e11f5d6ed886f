-- One event more keeps a book.
use Rattle.std.proofs.Common.{◌≡◌, ◌≢◌, ⊎_elim, ℕ, ◌+◌, ◌<◌, true, List, [], ◌∷◌, ◌++◌, length, set, refl, ap, sym, ◌∙◌, subst, arith, Some, slice_get}
use Rattle.std.proofs.lemmas.List.{length-set, length-append, map-append}
use Rattle.std.proofs.lemmas.Option.{slice_get_within}
use Rattle.oracle_iface.specs.Board.{Slot, unclaimed, Board, Event as BoardEvent, empty_board, can_act, after_act, is_legal, after_event, after_events}
use Rattle.oracle_iface.specs.declared.cell_values.CellValue.{CellValue}
use Rattle.oracle_iface.specs.declared.keys.Key.{Key}
use Rattle.core_board.specs.Boards.{event_of}
use Rattle.core_board.specs.declared.events.Event.{Event}
use Rattle.core_board.specs.declared.events.Event.TheVariants.{Claim}
use Rattle.core_board.proofs.Legal.{after_here, after_apart}
use Rattle.memo_book.specs.Books.{IsBook, slot_of, events_of, IsNew}
use Rattle.memo_book.specs.declared.book.State.{State}
use Rattle.memo_book.specs.declared.book.State.TheVariants.{Unclaimed, Held, Published}
use Rattle.memo_book.proofs.Lists.{got_set, got_push}
use Rattle.memo_book.proofs.Journals.{legal_push, after_push, AreBelow, untouched, named_old, named_new, are_below}

pub events_push : (journal : List Event) (e : Event) → events_of (journal ++ e ∷ []) ≡ events_of journal ++ event_of e ∷ []
events_push journal e = map-append event_of journal (e ∷ [])

-- how the journal leaves each number with one event more
replay_push : (journal : List Event) (e : Event) (n : ℕ) → after_events empty_board (events_of (journal ++ e ∷ [])) n ≡ after_event (after_events empty_board (events_of journal)) (event_of e) n
replay_push journal e n = ap (λ es. after_events empty_board es n) (events_push journal e) ∙ ap (λ (b : Board). b n) (after_push empty_board (events_of journal) (event_of e))

-- a key of the book is put from one state into another
pub book_step : (keys : List Key) (states : List State) (journal journal' : List Event) (i : ℕ) (old new : State) (e : Event)
    → IsBook keys states journal → slice_get states i ≡ Some old → (event_of e).key ≡ i
    → can_act (slot_of old) (event_of e).act (event_of e).seat ≡ true → slot_of new ≡ after_act (event_of e).act (event_of e).seat
    → ((k : Key) → slice_get keys i ≡ Some k → (v : CellValue) → new ≡ Published v → v.key ≡ k)
    → journal' ≡ journal ++ e ∷ [] → IsBook keys (set states i new) journal'
book_step keys states journal journal' i old new e r at is may shown value j_is = subst (IsBook keys (set states i new)) (sym j_is) record {
  sized = length-set states i new ∙ r.sized;
  legal = ap (λ es. Rattle.oracle_iface.specs.Board.are_legal empty_board es) (events_push journal e)
      ∙ legal_push empty_board (events_of journal) (event_of e) r.legal
      (ap (λ n. can_act (after_events empty_board (events_of journal) n) (event_of e).act (event_of e).seat) is
      ∙ (ap (λ x. can_act x (event_of e).act (event_of e).seat) (r.replayed i old at) ∙ may));
  replayed = λ j s g. replay_push journal e j ∙ ⊎_elim
      (λ (p : (j ≡ i) × (new ≡ s)). after_here (after_events empty_board (events_of journal)) (event_of e) j (is ∙ sym p.0) ∙ (sym shown ∙ ap slot_of p.1))
      (λ (p : (j ≢ i) × (slice_get states j ≡ Some s)).
      after_apart (after_events empty_board (events_of journal)) (event_of e) j (λ h. p.0 (sym h ∙ is)) ∙ r.replayed j s p.1)
      (got_set states i j new s g);
  in_order = ap (λ es. Rattle.memo_book.specs.Books.named 0 es) (events_push journal e)
      ∙ named_old 0 (length keys) (events_of journal) (event_of e) r.in_order
      (subst (λ n. n < length keys) (sym is) (subst (λ n. i < n) r.sized (slice_get_within states i old at)));
  right = λ j s k g gk. ⊎_elim
      (λ (p : (j ≡ i) × (new ≡ s)). λ v ev. value k (subst (λ n. slice_get keys n ≡ Some k) p.0 gk) v (p.1 ∙ ev))
      (λ (p : (j ≢ i) × (slice_get states j ≡ Some s)). r.right j s k p.1 gk)
      (got_set states i j new s g);
  distinct = r.distinct;
}

-- a key is added, which the seat holds
pub book_more : (keys : List Key) (states : List State) (journal : List Event) (key : Key) (seat : ℕ) → IsBook keys states journal
    → ((i : ℕ) → slice_get keys i ≡ Some key → ⊥)
    → IsBook (keys ++ key ∷ []) (states ++ Held seat ∷ []) (journal ++ Claim seat (length keys) ∷ [])
book_more keys states journal key seat r fresh = record {
  sized = length-append states (Held seat ∷ []) ∙ (ap (λ z. z + 1) r.sized ∙ sym (length-append keys (key ∷ [])));
  legal = ap (λ es. Rattle.oracle_iface.specs.Board.are_legal empty_board es) (events_push journal new)
      ∙ legal_push empty_board (events_of journal) (event_of new) r.legal
      (ap (λ x. can_act x (event_of new).act seat) (untouched empty_board n (events_of journal) inside));
  replayed = λ j s g. replay_push journal new j ∙ ⊎_elim
      (λ (p : (j ≡ length states) × (Held seat ≡ s)).
      after_here (after_events empty_board (events_of journal)) (event_of new) j (sym (p.0 ∙ r.sized)) ∙ ap slot_of p.1)
      (λ (p : (j < length states) × (slice_get states j ≡ Some s)).
      after_apart (after_events empty_board (events_of journal)) (event_of new) j (apart j p.0) ∙ r.replayed j s p.1)
      (got_push states (Held seat) s j g);
  in_order = ap (λ es. Rattle.memo_book.specs.Books.named 0 es) (events_push journal new)
      ∙ (named_new 0 n (events_of journal) (event_of new) r.in_order refl ∙ ap Some (sym (length-append keys (key ∷ []))));
  right = λ j s k g gk. ⊎_elim
      (λ (p : (j ≡ length states) × (Held seat ≡ s)). λ v ev. absurd (not_published seat v (p.1 ∙ ev)))
      (λ (p : (j < length states) × (slice_get states j ≡ Some s)). ⊎_elim
      (λ (q : (j ≡ length keys) × (key ≡ k)). absurd (apart j p.0 (sym q.0)))
      (λ (q : (j < length keys) × (slice_get keys j ≡ Some k)). r.right j s k p.1 q.1)
      (got_push keys key k j gk))
      (got_push states (Held seat) s j g);
  distinct = λ i j k gi gj. ⊎_elim
      (λ (p : (i ≡ length keys) × (key ≡ k)). ⊎_elim
      (λ (q : (j ≡ length keys) × (key ≡ k)). p.0 ∙ sym q.0)
      (λ (q : (j < length keys) × (slice_get keys j ≡ Some k)). absurd (fresh j (q.1 ∙ ap Some (sym p.1))))
      (got_push keys key k j gj))
      (λ (p : (i < length keys) × (slice_get keys i ≡ Some k)). ⊎_elim
      (λ (q : (j ≡ length keys) × (key ≡ k)). absurd (fresh i (p.1 ∙ ap Some (sym q.1))))
      (λ (q : (j < length keys) × (slice_get keys j ≡ Some k)). r.distinct i j k p.1 q.1)
      (got_push keys key k j gj))
      (got_push keys key k i gi);
} where
  n : ℕ
  n = length keys

  new : Event
  new = Claim seat n

  inside : AreBelow n (events_of journal)
  inside = are_below 0 n (events_of journal) r.in_order

  apart : (j : ℕ) → j < length states → n ≡ j → ⊥
  apart j lt e = let m : ℕ = length states in let a : j < m = lt in let b : m ≡ n = r.sized in omega arith

  not_published : (s : ℕ) (v : CellValue) → Held s ≡ Published v → ⊥
  not_published s v e = cc e

-- the cell of a state
abbrev pub cell_of : CellValue → State → CellValue
cell_of otherwise Unclaimed = otherwise
cell_of otherwise (Held seat) = otherwise
cell_of otherwise (Published v) = v
