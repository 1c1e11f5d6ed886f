use Rattle.std.proofs.Common.{sym, ap, ◌∙◌}
use Rattle.std.specs.FinMap.{get}
use Rattle.core_board.proofs.Maps.{get_of}
use Rattle.core_board.proofs.board.Board.state.Goals as goal

pub returns : goal.returns
returns c = c.copied.ensures ∙ (c.get.ensures.value ∙ (sym (get_of c.self.inside.states c.args.key) ∙ ap (λ m. get m c.args.key) c.self.view_is))
