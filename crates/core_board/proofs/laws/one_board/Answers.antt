use Rattle.core_board.proofs.Maps.{same_states}
use Rattle.core_board.proofs.laws.one_board.Goals as goal

pub returns : goal.returns
returns c = same_states
