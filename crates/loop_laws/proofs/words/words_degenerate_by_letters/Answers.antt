use Rattle.spaces.specs.Spaces.{set_of, loops}
use Rattle.spaces.proofs.SpaceLaws.{space_set_laws}
use Rattle.loop_laws.proofs.WordDegeneracies.{word-degeneracy}
use Rattle.loop_laws.proofs.words.words_degenerate_by_letters.Goals as goal

pub returns : goal.returns
returns c = λ a n j w ad i b. word-degeneracy (set_of a) (space_set_laws a ad.0.0) (space_set_laws (loops a) ad.0) n j w i b
