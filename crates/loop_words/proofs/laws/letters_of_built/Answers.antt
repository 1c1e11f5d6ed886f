use Rattle.loop_words.proofs.InSpaces.{built_letters}
use Rattle.loop_words.proofs.laws.letters_of_built.Goals as goal

pub returns : goal.returns
returns c = built_letters
