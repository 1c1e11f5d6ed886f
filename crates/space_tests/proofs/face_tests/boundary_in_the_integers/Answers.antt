use Rattle.space_tests.proofs.IntegerCells.{integers-allowed, integers-built, two-low}
use Rattle.space_tests.proofs.face_tests.boundary_in_the_integers.Goals as goal

pub boundary_of_cell-requires-clause-allowed : goal.boundary_of_cell-requires-clause-allowed
boundary_of_cell-requires-clause-allowed c = integers-allowed

pub boundary_of_cell-requires-clause-built : goal.boundary_of_cell-requires-clause-built
boundary_of_cell-requires-clause-built c = integers-built

pub boundary_of_cell-requires-clause-cell : goal.boundary_of_cell-requires-clause-cell
boundary_of_cell-requires-clause-cell c = two-low c.in_ok-cell.cell c.in_ok-cell.ensures
