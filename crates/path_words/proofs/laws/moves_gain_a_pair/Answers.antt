use Rattle.path_words.proofs.FaceMoves.{face_moves}
use Rattle.path_words.proofs.Steps.{move-own, move-gains}
use Rattle.path_words.proofs.laws.moves_gain_a_pair.Goals as goal

pub returns-clause-steps : goal.returns-clause-steps
returns-clause-steps c = λ u r. record { own = move-own u r; gains = move-gains u r }

pub returns-clause-faces : goal.returns-clause-faces
returns-clause-faces c = λ n i u v u' v'. record { move = face_moves n i u v u' v' }
