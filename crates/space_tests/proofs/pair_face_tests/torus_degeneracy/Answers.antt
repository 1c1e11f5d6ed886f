use Rattle.std.proofs.Common.{◌∙◌, arith}
use Rattle.space_tests.proofs.WorkedPairs.{torus-allowed, torus-built, torus_one}
use Rattle.space_tests.proofs.pair_face_tests.torus_degeneracy.Goals as goal

pub faces_of-requires-clause-allowed : goal.faces_of-requires-clause-allowed
faces_of-requires-clause-allowed c = torus-allowed c.in_ok-term.term c.in_ok-term.ensures

pub faces_of-requires-clause-built : goal.faces_of-requires-clause-built
faces_of-requires-clause-built c = torus-built c.in_ok-term.term c.in_ok-term.ensures

pub degeneracy-requires-clause-simplex : goal.degeneracy-requires-clause-simplex
degeneracy-requires-clause-simplex c =
    (torus_one c.faces_of.result.term.now c.circle.result c.circle-2.result c.in_ok-x.x (c.faces_of.ensures ∙ c.in_ok-term.ensures) c.circle.ensures.mask c.circle.ensures.cell c.circle-2.ensures.mask c.circle-2.ensures.cell c.in_ok-x.ensures).simplex

pub degeneracy-requires-clause-index : goal.degeneracy-requires-clause-index
degeneracy-requires-clause-index c =
    let s = torus_one c.faces_of.result.term.now c.circle.result c.circle-2.result c.in_ok-x.x (c.faces_of.ensures ∙ c.in_ok-term.ensures) c.circle.ensures.mask c.circle.ensures.cell c.circle-2.ensures.mask c.circle-2.ensures.cell c.in_ok-x.ensures in
    omega (arith, s.degree)

pub degeneracy-requires-clause-within : goal.degeneracy-requires-clause-within
degeneracy-requires-clause-within c =
    let s = torus_one c.faces_of.result.term.now c.circle.result c.circle-2.result c.in_ok-x.x (c.faces_of.ensures ∙ c.in_ok-term.ensures) c.circle.ensures.mask c.circle.ensures.cell c.circle-2.ensures.mask c.circle-2.ensures.cell c.in_ok-x.ensures in
    omega (arith, s.degree)
