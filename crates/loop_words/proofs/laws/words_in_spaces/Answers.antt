use Rattle.loop_words.proofs.InSpaces.{reduced-form, times-form, inverse-form, reduced_in, times_in, inverse_in}
use Rattle.loop_words.proofs.laws.words_in_spaces.Goals as goal

pub returns : goal.returns
returns c = record {
  reduced = λ a n has w h. (reduced_in a n w h, reduced-form a n has w h);
  times = λ a n has u v h g. (times_in a n u v h g, times-form a n has u v h g);
  inverse = λ a n w h. (inverse_in a n w h, inverse-form a w);
}
