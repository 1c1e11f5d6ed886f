use Rattle.std.proofs.Common.{sym, ap, ◌∙◌, map}
use Rattle.core_board.specs.Boards.{board_of, event_of}
use Rattle.core_board.proofs.Maps.{empty_states}
use Rattle.core_board.proofs.Replays.{replay_from}
use Rattle.core_board.proofs.calls.replay.Goals as goal

pub loop-event-init : goal.loop-event-init
loop-event-init c =
    ap (λ b. replay_from b (map event_of c.args.events.now)) (sym empty_states ∙ ap board_of (sym c.new-board.ensures))
    ∙ ap (λ es. replay_from (board_of c.new-board.result) (map event_of es)) (sym c.as_slice-event-items.ensures)
