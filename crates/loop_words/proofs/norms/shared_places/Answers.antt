use Rattle.loop_words.proofs.StripSteps.{all_bits}
use Rattle.loop_words.proofs.norms.shared_places.Goals as goal

pub loop-letter-init : goal.loop-letter-init
loop-letter-init c = λ k h. all_bits c.all_places-shared.result.mask k c.all_places-shared.ensures h
