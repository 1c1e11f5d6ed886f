use Rattle.std.proofs.Common.{sym, subst, arith}
use Rattle.spaces.specs.Allowed.{IsAllowed}
use Rattle.term_lang.specs.SpaceOf.{space_of}
use Rattle.normal_forms.specs.Built.{IsBuilt}
use Rattle.space_tests.proofs.SphereCells.{sphere-built, sphere-allowed}
use Rattle.space_tests.proofs.IntegerCells.{integers-allowed, integers-built}
use Rattle.space_tests.proofs.integer_pair_tests.sphere_and_integers.Goals as goal

pub faces_of-requires-clause-allowed : goal.faces_of-requires-clause-allowed
faces_of-requires-clause-allowed c = subst (λ t. IsAllowed (space_of t)) (sym c.requires.sphere) (sphere-allowed 2 (omega arith) (omega arith))

pub faces_of-requires-clause-built : goal.faces_of-requires-clause-built
faces_of-requires-clause-built c = subst (λ t. IsBuilt (space_of t)) (sym c.requires.sphere) (sphere-built 2)

pub faces_of-requires-2-clause-allowed : goal.faces_of-requires-2-clause-allowed
faces_of-requires-2-clause-allowed c = subst (λ t. IsAllowed (space_of t)) (sym c.requires.integers) integers-allowed

pub faces_of-requires-2-clause-built : goal.faces_of-requires-2-clause-built
faces_of-requires-2-clause-built c = subst (λ t. IsBuilt (space_of t)) (sym c.requires.integers) integers-built
