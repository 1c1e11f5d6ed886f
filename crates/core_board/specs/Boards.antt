-- Boards and events of the code as the board's rules have them.
--
-- A board is a finite map from the numbers of the keys that are held or published to their states; a key without a state is unclaimed.
--
--   the map of 3 to Held(1) and 5 to Published is the board on which seat 1 holds key 3, key 5 is published and all others are unclaimed
use Rattle.std.specs.Prelude.{◌≡◌, ℕ, true, false, Option, Some, None}
use Rattle.std.specs.Ordering.{nat_cmp}
use Rattle.std.specs.FinMap.{FinMap, get}
use Rattle.oracle_iface.specs.Board.{Slot, unclaimed, held, published, claims, publishes, releases, is_legal, after_event, Board, Event as BoardEvent}
use Rattle.core_board.specs.declared.board.State.{State}
use Rattle.core_board.specs.declared.board.State.TheVariants.{Held, Published}
use Rattle.core_board.specs.declared.events.Event.{Event}
use Rattle.core_board.specs.declared.events.Event.TheVariants.{Claim, Publish, Release}
use Rattle.core_board.specs.declared.calls.Stepped.{Stepped}
use Rattle.core_board.specs.declared.calls.Stepped.TheVariants.{Done, Illegal}

abbrev pub slot_of : Option State → Slot
slot_of None = unclaimed
slot_of (Some (Held seat)) = held seat
slot_of (Some Published) = published

-- the states that are held or published
abbrev pub States : Type 0
States = FinMap nat_cmp State

abbrev pub board_of : States → Board
board_of states key = slot_of (get states key)

abbrev pub key_of : Event → ℕ
key_of (Claim seat key) = key
key_of (Publish seat key) = key
key_of (Release seat key) = key

abbrev pub event_of : Event → BoardEvent
event_of (Claim seat key) = record { act = claims; seat = seat; key = key }
event_of (Publish seat key) = record { act = publishes; seat = seat; key = key }
event_of (Release seat key) = record { act = releases; seat = seat; key = key }

-- how the key of an event stands after it
abbrev pub state_after : Event → Option State
state_after (Claim seat key) = Some (Held seat)
state_after (Publish seat key) = Some Published
state_after (Release seat key) = None

-- what a step says of the boards before and after it
abbrev pub StepIs : States → States → Event → Stepped → Type 0
StepIs old new e Done = (is_legal (board_of old) (event_of e) ≡ true) × (board_of new ≡ after_event (board_of old) (event_of e))
StepIs old new e Illegal = (is_legal (board_of old) (event_of e) ≡ false) × (new ≡ old)
