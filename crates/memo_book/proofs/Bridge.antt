-- The journal of a book, number by number, and its history, key by key.
use Rattle.std.proofs.Common.{◌≡◌, ◌⊎◌, inl, inr, ⊎_elim, ℕ, zero, suc, ◌<◌, Bool, true, false, eqb, List, [], ◌∷◌, ◌++◌, length, map, refl, ap, sym, ◌∙◌, Some, slice_get}
use Rattle.std.specs.Prelude.{◌&&◌, if◌then◌else◌, unwrap_or}
use Rattle.std.proofs.lemmas.Bool.{eqb-true, eqb-false}
use Rattle.std.proofs.lemmas.List.{map-append}
use Rattle.oracle_iface.specs.Board.{Slot, unclaimed, Board, empty_board, can_act, after_act, is_legal, after_event, are_legal, after_events}
use Rattle.oracle_iface.specs.Histories as histories
use Rattle.oracle_iface.specs.Histories.{board_act, slot_after, is_legal_at, slot_from, legal_from, IsLegal}
use Rattle.oracle_iface.specs.KeyOrder.{same_key}
use Rattle.oracle_iface.specs.declared.entries.Act.TheVariants.{Claims, Publishes, Releases}
use Rattle.oracle_iface.specs.declared.keys.Key.{Key}
use Rattle.oracle_iface.proofs.OneKey.{same_is, same_self}
use Rattle.core_board.specs.Boards.{event_of}
use Rattle.core_board.specs.declared.events.Event.{Event}
use Rattle.core_board.specs.declared.events.Event.TheVariants.{Claim, Publish, Release}
use Rattle.core_board.proofs.Legal.{after_here, after_apart, and_left, and_right}
use Rattle.memo_book.specs.Books.{BookView, IsBook, IsNew, slot_of, events_of}
use Rattle.memo_book.specs.Histories.{key_at, entry_of, any_key, history}
use Rattle.memo_book.specs.declared.book.State.{State}
use Rattle.memo_book.proofs.Lists.{some_same, got, got_left}
use Rattle.memo_book.proofs.Journals.{AreBelow, are_below}

-- ---- an event, and the entry that it is read as

pub key_read : (keys : List Key) (d : Event) → (entry_of keys d).key ≡ key_at keys (event_of d).key
key_read keys (Claim seat n) = refl
key_read keys (Publish seat n) = refl
key_read keys (Release seat n) = refl

legal_read : (keys : List Key) (x : Slot) (d : Event) → is_legal_at x (entry_of keys d) ≡ can_act x (event_of d).act (event_of d).seat
legal_read keys x (Claim seat n) = refl
legal_read keys x (Publish seat n) = refl
legal_read keys x (Release seat n) = refl

slot_read : (keys : List Key) (d : Event) → slot_after (entry_of keys d) ≡ after_act (event_of d).act (event_of d).seat
slot_read keys (Claim seat n) = refl
slot_read keys (Publish seat n) = refl
slot_read keys (Release seat n) = refl

-- where another list of keys has the same key at its number
entry_same : (k l : List Key) (d : Event) → key_at k (event_of d).key ≡ key_at l (event_of d).key → entry_of k d ≡ entry_of l d
entry_same k l (Claim seat n) e = λ i. record { act = Claims; seat = seat; key = e i }
entry_same k l (Publish seat n) e = λ i. record { act = Publishes; seat = seat; key = e i }
entry_same k l (Release seat n) e = λ i. record { act = Releases; seat = seat; key = e i }

pub at : (keys : List Key) (i : ℕ) (k : Key) → slice_get keys i ≡ Some k → key_at keys i ≡ k
at keys i k e = ap (λ o. unwrap_or o any_key) e

-- a test that is false where the keys differ
not_same : (a b : Key) → (a ≡ b → ⊥) → same_key a b ≡ false
not_same a b ne = by (same_key a b) refl
  where
    by : (t : Bool) → same_key a b ≡ t → t ≡ false
    by true e = absurd (ne (same_is a b e))
    by false e = refl

-- whether an entry is of the key at place i: whether its number is i
matches : (keys : List Key) (distinct : (i j : ℕ) (k : Key) → slice_get keys i ≡ Some k → slice_get keys j ≡ Some k → i ≡ j) (d : Event) (i : ℕ) (k : Key)
    → (event_of d).key < length keys → slice_get keys i ≡ Some k → same_key (entry_of keys d).key k ≡ eqb (event_of d).key i
matches keys distinct d i k lt e =
    ap (λ z. same_key z k) (key_read keys d ∙ at keys (event_of d).key g.0 g.1) ∙ by (eqb (event_of d).key i) refl
  where
    g : (x : Key) × (slice_get keys (event_of d).key ≡ Some x)
    g = got keys (event_of d).key lt

    by : (t : Bool) → eqb (event_of d).key i ≡ t → same_key g.0 k ≡ t
    by true is = ap (λ z. same_key z k) (some_same g.0 k (sym g.1 ∙ (ap (slice_get keys) (eqb-true (event_of d).key i is) ∙ e))) ∙ same_self k
    by false is = not_same g.0 k (λ h. eqb-false (event_of d).key i is (distinct (event_of d).key i k (g.1 ∙ ap Some h) e))

-- an entry is of no key that the list has not
misses : (keys : List Key) (d : Event) (k : Key) → (event_of d).key < length keys → ((i : ℕ) → slice_get keys i ≡ Some k → ⊥)
    → same_key (entry_of keys d).key k ≡ false
misses keys d k lt none =
    let g = got keys (event_of d).key lt in
    ap (λ z. same_key z k) (key_read keys d ∙ at keys (event_of d).key g.0 g.1) ∙ not_same g.0 k (λ h. none (event_of d).key (g.1 ∙ ap Some h))

module _ (keys : List Key) (distinct : (i j : ℕ) (k : Key) → slice_get keys i ≡ Some k → slice_get keys j ≡ Some k → i ≡ j) where
  legal_at : (b : Board) (es : List Event) (i : ℕ) (k : Key) → AreBelow (length keys) (events_of es) → slice_get keys i ≡ Some k
      → are_legal b (events_of es) ≡ true → legal_from (b i) (map (entry_of keys) es) k ≡ true
  legal_at b [] i k u e l = refl
  legal_at b (d ∷ es) i k u e l =
      ap (λ t. if t then is_legal_at (b i) (entry_of keys d) && legal_from (slot_after (entry_of keys d)) (map (entry_of keys) es) k else legal_from (b i) (map (entry_of keys) es) k)
      (matches keys distinct d i k u.0 e)
      ∙ by (eqb (event_of d).key i) refl (legal_at (after_event b (event_of d)) es i k u.1 e (and_right (is_legal b (event_of d)) _ l))
    where
      by : (t : Bool) → eqb (event_of d).key i ≡ t → legal_from (after_event b (event_of d) i) (map (entry_of keys) es) k ≡ true
          → (if t then is_legal_at (b i) (entry_of keys d) && legal_from (slot_after (entry_of keys d)) (map (entry_of keys) es) k else legal_from (b i) (map (entry_of keys) es) k) ≡ true
      by true is ih =
          let here : (event_of d).key ≡ i = eqb-true (event_of d).key i is in
          let may : is_legal_at (b i) (entry_of keys d) ≡ true =
          legal_read keys (b i) d ∙ (ap (λ n. can_act (b n) (event_of d).act (event_of d).seat) (sym here) ∙ and_left _ _ l) in
          let rest : legal_from (slot_after (entry_of keys d)) (map (entry_of keys) es) k ≡ true =
          ap (λ x. legal_from x (map (entry_of keys) es) k) (slot_read keys d ∙ sym (after_here b (event_of d) i here)) ∙ ih in
          ap (λ t. t && legal_from (slot_after (entry_of keys d)) (map (entry_of keys) es) k) may ∙ rest
      by false is ih = ap (λ x. legal_from x (map (entry_of keys) es) k) (sym (after_apart b (event_of d) i (eqb-false (event_of d).key i is))) ∙ ih

  slot_at : (b : Board) (es : List Event) (i : ℕ) (k : Key) → AreBelow (length keys) (events_of es) → slice_get keys i ≡ Some k
      → slot_from (b i) (map (entry_of keys) es) k ≡ after_events b (events_of es) i
  slot_at b [] i k u e = refl
  slot_at b (d ∷ es) i k u e =
      ap (λ t. slot_from (if t then slot_after (entry_of keys d) else b i) (map (entry_of keys) es) k) (matches keys distinct d i k u.0 e)
      ∙ (ap (λ x. slot_from x (map (entry_of keys) es) k) (by (eqb (event_of d).key i) refl) ∙ slot_at (after_event b (event_of d)) es i k u.1 e)
    where
      by : (t : Bool) → eqb (event_of d).key i ≡ t → (if t then slot_after (entry_of keys d) else b i) ≡ after_event b (event_of d) i
      by true is = slot_read keys d ∙ sym (after_here b (event_of d) i (eqb-true (event_of d).key i is))
      by false is = sym (after_apart b (event_of d) i (eqb-false (event_of d).key i is))

legal_none : (keys : List Key) (x : Slot) (es : List Event) (k : Key) → AreBelow (length keys) (events_of es) → ((i : ℕ) → slice_get keys i ≡ Some k → ⊥)
    → legal_from x (map (entry_of keys) es) k ≡ true
legal_none keys x [] k u n = refl
legal_none keys x (d ∷ es) k u n =
    ap (λ t. if t then is_legal_at x (entry_of keys d) && legal_from (slot_after (entry_of keys d)) (map (entry_of keys) es) k else legal_from x (map (entry_of keys) es) k)
    (misses keys d k u.0 n)
    ∙ legal_none keys x es k u.1 n

slot_none : (keys : List Key) (x : Slot) (es : List Event) (k : Key) → AreBelow (length keys) (events_of es) → ((i : ℕ) → slice_get keys i ≡ Some k → ⊥)
    → slot_from x (map (entry_of keys) es) k ≡ x
slot_none keys x [] k u n = refl
slot_none keys x (d ∷ es) k u n =
    ap (λ t. slot_from (if t then slot_after (entry_of keys d) else x) (map (entry_of keys) es) k) (misses keys d k u.0 n) ∙ slot_none keys x es k u.1 n

-- ---- books

pub look_for : (keys : List Key) (k : Key) → ((i : ℕ) × (slice_get keys i ≡ Some k)) ⊎ ((i : ℕ) → slice_get keys i ≡ Some k → ⊥)
look_for [] k = inr (λ i e. cc e)
look_for (y ∷ keys) k = one (same_key y k) refl (look_for keys k)
  where
    none : same_key y k ≡ false → ((i : ℕ) → slice_get keys i ≡ Some k → ⊥) → (i : ℕ) → slice_get (y ∷ keys) i ≡ Some k → ⊥
    none e p zero h = cc (sym e ∙ (ap (λ z. same_key z k) (some_same y k h) ∙ same_self k))
    none e p (suc i) h = p i h

    one : (b : Bool) → same_key y k ≡ b → ((i : ℕ) × (slice_get keys i ≡ Some k)) ⊎ ((i : ℕ) → slice_get keys i ≡ Some k → ⊥)
        → ((i : ℕ) × (slice_get (y ∷ keys) i ≡ Some k)) ⊎ ((i : ℕ) → slice_get (y ∷ keys) i ≡ Some k → ⊥)
    one true e r = inl (zero, ap Some (same_is y k e))
    one false e (inl p) = inl (suc p.0, p.1)
    one false e (inr p) = inr (none e p)

pub inside_of : (b : BookView) → IsBook b.keys b.states b.journal → AreBelow (length b.keys) (events_of b.journal)
inside_of b r = are_below 0 (length b.keys) (events_of b.journal) r.in_order

-- the history of a book is legal
pub legal_history : (b : BookView) → IsBook b.keys b.states b.journal → IsLegal (history b)
legal_history b r k =
    ⊎_elim (λ (p : (i : ℕ) × (slice_get b.keys i ≡ Some k)). legal_at b.keys r.distinct empty_board b.journal p.0 k (inside_of b r) p.1 r.legal)
    (λ (p : (i : ℕ) → slice_get b.keys i ≡ Some k → ⊥). legal_none b.keys unclaimed b.journal k (inside_of b r) p) (look_for b.keys k)

-- how a key stands in the history: as its state says, or unclaimed where the book has it not
pub slot_there : (b : BookView) (i : ℕ) (k : Key) (s : State) → IsBook b.keys b.states b.journal → slice_get b.keys i ≡ Some k → slice_get b.states i ≡ Some s
    → histories.slot_of (history b) k ≡ slot_of s
slot_there b i k s r e is = slot_at b.keys r.distinct empty_board b.journal i k (inside_of b r) e ∙ r.replayed i s is

pub slot_absent : (b : BookView) (k : Key) → IsBook b.keys b.states b.journal → IsNew b k → histories.slot_of (history b) k ≡ unclaimed
slot_absent b k r none = slot_none b.keys unclaimed b.journal k (inside_of b r) none

-- a key more changes no entry
pub read_more : (keys l : List Key) (es : List Event) → AreBelow (length keys) (events_of es) → map (entry_of (keys ++ l)) es ≡ map (entry_of keys) es
read_more keys l [] u = refl
read_more keys l (d ∷ es) u =
    ap (λ z. z ∷ map (entry_of (keys ++ l)) es) (entry_same (keys ++ l) keys d (ap (λ o. unwrap_or o any_key) (got_left keys l (event_of d).key u.0)))
    ∙ ap (λ z. entry_of keys d ∷ z) (read_more keys l es u.1)

pub history_push : (keys : List Key) (es : List Event) (e : Event) → map (entry_of keys) (es ++ e ∷ []) ≡ map (entry_of keys) es ++ entry_of keys e ∷ []
history_push keys es e = map-append (entry_of keys) es (e ∷ [])
