use Rattle.loop_words.proofs.CellWords.{base_is}
use Rattle.loop_words.proofs.laws.loop_base_is_the_empty_word.Goals as goal

pub returns : goal.returns
returns c = base_is
