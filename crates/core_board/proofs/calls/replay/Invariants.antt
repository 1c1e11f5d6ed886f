use Rattle.std.proofs.Common.{◌≡◌, map, drop}
use Rattle.oracle_iface.specs.Board.{replay}
use Rattle.core_board.specs.Boards.{board_of, event_of}
use Rattle.core_board.proofs.Replays.{replay_from}
use Rattle.core_board.proofs.calls.replay.Given as goal

abbrev pub invariant-loop-event : goal.invariant-loop-event
invariant-loop-event l = replay (map event_of l.events) ≡ replay_from (board_of l.board) (map event_of (drop l.event-index l.event-items))
