use Rattle.loop_words.proofs.CodeGroup.{words_group}
use Rattle.loop_words.proofs.laws.words_are_a_group.Goals as goal

pub returns : goal.returns
returns c = words_group
