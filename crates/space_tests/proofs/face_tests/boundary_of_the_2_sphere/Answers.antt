use Rattle.std.proofs.Common.{refl, arith}
use Rattle.space_tests.proofs.SphereCells.{sphere-built, sphere-allowed, top-low}
use Rattle.space_tests.proofs.face_tests.boundary_of_the_2_sphere.Goals as goal

pub boundary_of_cell-requires-clause-allowed : goal.boundary_of_cell-requires-clause-allowed
boundary_of_cell-requires-clause-allowed c = sphere-allowed 2 (omega arith) (omega arith)

pub boundary_of_cell-requires-clause-built : goal.boundary_of_cell-requires-clause-built
boundary_of_cell-requires-clause-built c = sphere-built 2

pub boundary_of_cell-requires-clause-cell : goal.boundary_of_cell-requires-clause-cell
boundary_of_cell-requires-clause-cell c = top-low 1 (omega arith) refl
