use Rattle.std.proofs.Common.{ap}
use Rattle.cells.specs.declared.cells.Cell.TheVariants.{Up}
use Rattle.space_faces.proofs.MovedUp.{mask-moved}
use Rattle.space_faces.proofs.suspensions.raised.Goals as goal

pub returns-clause-up : goal.returns-clause-up
returns-clause-up c = λ some. (mask-moved c.args.x.degens.mask c.requires.room, ap Up c.in_ok-new.ensures)
