use Rattle.spaces.specs.Spaces.{is_base, set_of}
use Rattle.spaces.proofs.Bases.{space_base}
use Rattle.spaces.proofs.Suspensions.{suspension_set_laws}
use Rattle.spaces.proofs.laws.suspension_laws.Goals as goal

pub returns : goal.returns
returns c = λ a ad laws. suspension_set_laws (set_of a) (is_base a) laws (space_base a ad)
