use Rattle.loop_words.proofs.ApartLetters.{reduced_apart, apart_reduced}
use Rattle.loop_words.proofs.laws.reduced_words_are_apart.Goals as goal

pub returns : goal.returns
returns c = λ w. (reduced_apart w, apart_reduced w)
