-- What a book is: its keys, a state for each, and a journal whose replay the states are; and what its calls do.
--
-- The number of a key in the journal is its place among the keys, which stand in order of first claim.
--
--   keys k; state Held(1); journal claim 0 by seat 0, release 0 by seat 0, claim 0 by seat 1
use Rattle.std.specs.Prelude.{◌≡◌, ℕ, ◌+◌, ◌<◌, ◌==◌, true, List, [], ◌∷◌, ◌++◌, ◌⊎◌, Result, Ok, Err, map, slice_set, slice_get, length, Option, Some, None, if◌then◌else◌, nat_lt}
use Rattle.std.specs.declared.alloc.AllocError.{AllocError}
use Rattle.oracle_iface.specs.Board.{Slot, unclaimed, held, published, Event as BoardEvent, empty_board, are_legal, after_events}
use Rattle.oracle_iface.specs.declared.cell_values.CellValue.{CellValue}
use Rattle.oracle_iface.specs.declared.keys.Key.{Key}
use Rattle.oracle_iface.specs.declared.memo.Claim.{Claim as Answer}
use Rattle.oracle_iface.specs.declared.memo.Claim.TheVariants.{Granted, Present, Busy, Full}
use Rattle.core_board.specs.Boards.{event_of}
use Rattle.core_board.specs.declared.events.Event.{Event}
use Rattle.core_board.specs.declared.events.Event.TheVariants.{Claim}
use Rattle.memo_book.specs.declared.book.State.{State}
use Rattle.memo_book.specs.declared.book.State.TheVariants.{Unclaimed, Held, Published}

pub record BookView : Type 0 where
  pub keys : List Key
  pub states : List State
  pub journal : List Event

-- the slot of the board
abbrev pub slot_of : State → Slot
slot_of Unclaimed = unclaimed
slot_of (Held seat) = held seat
slot_of (Published v) = published

abbrev pub events_of : List Event → List BoardEvent
events_of journal = map event_of journal

-- how many keys are named where `known` were, each new one having the next number; None where a number is skipped
abbrev pub named : ℕ → List BoardEvent → Option ℕ
named known [] = Some known
named known (e ∷ es) = if nat_lt e.key known then named known es else (if e.key == known then named (known + 1) es else None)

pub record IsBook (keys : List Key) (states : List State) (journal : List Event) : Type 0 where
  -- a state for each key
  pub sized : length states ≡ length keys
  -- the journal is legal, and the states are its replay
  pub legal : are_legal empty_board (events_of journal) ≡ true
  pub replayed : (i : ℕ) (s : State) → slice_get states i ≡ Some s → after_events empty_board (events_of journal) i ≡ slot_of s
  -- the numbers are those of the keys, in order of first claim
  pub in_order : named 0 (events_of journal) ≡ Some (length keys)
  -- a cell that is published is of its key
  pub right : (i : ℕ) (s : State) (k : Key) → slice_get states i ≡ Some s → slice_get keys i ≡ Some k → (v : CellValue) → s ≡ Published v → v.key ≡ k
  -- no key stands twice
  pub distinct : (i j : ℕ) (k : Key) → slice_get keys i ≡ Some k → slice_get keys j ≡ Some k → i ≡ j

-- ---- the calls

-- the key stands at this place, in this state
abbrev pub Stands : BookView → Key → ℕ → State → Type 0
Stands b key i s = (slice_get b.keys i ≡ Some key) × (slice_get b.states i ≡ Some s)

-- the book has not the key
abbrev pub IsNew : BookView → Key → Type 0
IsNew b key = (i : ℕ) → slice_get b.keys i ≡ Some key → ⊥

-- the book with another state at a place, by an event
abbrev pub changed : BookView → ℕ → State → Event → BookView
changed b i s e = record { keys = b.keys; states = slice_set b.states i s; journal = b.journal ++ e ∷ [] }

-- the book with one key more, which the seat holds
abbrev pub extended : BookView → Key → ℕ → BookView
extended b key seat = record { keys = b.keys ++ key ∷ []; states = b.states ++ Held seat ∷ []; journal = b.journal ++ Claim seat (length b.keys) ∷ [] }

-- a key that is unclaimed is held by the seat now
abbrev pub TakesOld : BookView → BookView → Key → ℕ → Type 0
TakesOld old new key seat = (i : ℕ) × Stands old key i Unclaimed × (new ≡ changed old i (Held seat) (Claim seat i))

-- a key that the book has not is held by the seat now
abbrev pub TakesNew : BookView → BookView → Key → ℕ → Type 0
TakesNew old new key seat = IsNew old key × (length old.keys < 65536) × (new ≡ extended old key seat)

module _ (old new : BookView) (key : Key) (seat : ℕ) where
  abbrev pub Claims : Result Answer AllocError → Type 0
  Claims (Ok (Granted t)) = (t.key ≡ key) × (t.seat ≡ seat) × (TakesOld old new key seat ⊎ TakesNew old new key seat)
  Claims (Ok (Present v)) = ((i : ℕ) × Stands old key i (Published v)) × (new ≡ old)
  Claims (Ok (Busy holder)) = ((i : ℕ) × Stands old key i (Held holder)) × (new ≡ old)
  Claims (Ok (Full n)) = (n ≡ 65536) × (length old.keys ≡ 65536) × IsNew old key × (new ≡ old)
  Claims (Err e) = new ≡ old

-- how a ticket ends: where its seat holds the key, this takes its state, by an event; else nothing changes
abbrev pub Ends : BookView → BookView → Key → ℕ → State → (ℕ → Event) → Type 0
Ends old new key seat s event =
    ((i : ℕ) × Stands old key i (Held seat) × (new ≡ changed old i s (event i))) ⊎ (((i : ℕ) → Stands old key i (Held seat) → ⊥) × (new ≡ old))

abbrev pub Looks : BookView → Key → Result (Option CellValue) AllocError → Type 0
Looks b key (Ok (Some v)) = (i : ℕ) × Stands b key i (Published v)
Looks b key (Ok None) = (i : ℕ) (v : CellValue) → Stands b key i (Published v) → ⊥
Looks b key (Err e) = Unit {0}
