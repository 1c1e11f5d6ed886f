use Rattle.oracle_iface.specs.Board.{empty_board}
use Rattle.core_board.proofs.Legal.{each_key, all_keys, only_publication}
use Rattle.core_board.proofs.laws.legal_lists.Goals as goal

pub returns : goal.returns
returns c = record {
  by_keys = λ events. (each_key empty_board events, all_keys empty_board events);
  published_once = λ before after e. only_publication before e after;
}
