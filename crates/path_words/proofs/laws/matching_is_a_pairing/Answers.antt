use Rattle.path_words.proofs.Steps.{event-matched, matched-matched}
use Rattle.path_words.proofs.laws.matching_is_a_pairing.Goals as goal

pub returns : goal.returns
returns c = λ w. record { event = event-matched w; back = matched-matched w }
