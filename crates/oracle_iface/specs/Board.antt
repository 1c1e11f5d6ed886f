-- The board of a table of results: who holds which key, and which lists of events are legal.
--
-- A key is a number here. It is unclaimed, held by a seat, or published. A claim of an unclaimed key makes it held by the seat that
-- claims it; a publication of a key by the seat that holds it makes it published, and a release by that seat unclaimed. No other event is
-- legal. A list of events is legal where each event is legal after those before it, and its replay is the board that it leaves.
--
--   claim of key 0 by seat 0 and publication by seat 0 is legal, and leaves key 0 published; publication by seat 1 there is not legal
use Rattle.std.specs.Prelude.{ℕ, ◌==◌, ◌&&◌, Bool, true, false, List, [], ◌∷◌, Option, Some, None, if◌then◌else◌}

pub data Slot : Type 0 where
  unclaimed : Slot
  held : ℕ → Slot
  published : Slot

pub data Act : Type 0 where
  claims : Act
  publishes : Act
  releases : Act

pub record Event : Type 0 where
  pub act : Act
  pub seat : ℕ
  pub key : ℕ

-- whether a seat may do this where the key stands so
abbrev pub can_act : Slot → Act → ℕ → Bool
can_act unclaimed claims seat = true
can_act (held holder) publishes seat = holder == seat
can_act (held holder) releases seat = holder == seat
can_act slot act seat = false

abbrev pub after_act : Act → ℕ → Slot
after_act claims seat = held seat
after_act publishes seat = published
after_act releases seat = unclaimed

-- how each key stands
abbrev pub Board : Type 0
Board = ℕ → Slot

abbrev pub empty_board : Board
empty_board key = unclaimed

abbrev pub is_legal : Board → Event → Bool
is_legal board e = can_act (board e.key) e.act e.seat

abbrev pub after_event : Board → Event → Board
after_event board e key = if key == e.key then after_act e.act e.seat else board key

-- legal, one event after the other
abbrev pub are_legal : Board → List Event → Bool
are_legal board [] = true
are_legal board (e ∷ events) = is_legal board e && are_legal (after_event board e) events

abbrev pub after_events : Board → List Event → Board
after_events board [] = board
after_events board (e ∷ events) = after_events (after_event board e) events

-- the board that a legal list leaves
abbrev pub replay : List Event → Option Board
replay events = if are_legal empty_board events then Some (after_events empty_board events) else None
