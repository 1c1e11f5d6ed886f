-- Replays from a board on.
use Rattle.std.proofs.Common.{◌≡◌, ap, true, false, Bool, List, ◌∷◌, Option, Some, None}
use Rattle.std.specs.Prelude.{if◌then◌else◌, ◌&&◌}
use Rattle.oracle_iface.specs.Board.{Board, Event, is_legal, after_event, are_legal, after_events}

abbrev pub replay_from : Board → List Event → Option Board
replay_from board events = if are_legal board events then Some (after_events board events) else None

pub replay_legal : (board : Board) (e : Event) (events : List Event) → is_legal board e ≡ true → replay_from board (e ∷ events) ≡ replay_from (after_event board e) events
replay_legal board e events legal = ap (λ (b : Bool). if b && are_legal (after_event board e) events then Some (after_events (after_event board e) events) else None) legal

pub replay_illegal : (board : Board) (e : Event) (events : List Event) → is_legal board e ≡ false → replay_from board (e ∷ events) ≡ None
replay_illegal board e events illegal = ap (λ (b : Bool). if b && are_legal (after_event board e) events then Some (after_events (after_event board e) events) else None) illegal
