use Rattle.std.proofs.Common.{◌∙◌, arith}
use Rattle.space_tests.proofs.WorkedPairs.{torus-allowed, torus-built, torus_two}
use Rattle.space_tests.proofs.pair_face_tests.torus_face.Goals as goal

pub faces_of-requires-clause-allowed : goal.faces_of-requires-clause-allowed
faces_of-requires-clause-allowed c = torus-allowed c.in_ok-term.term c.in_ok-term.ensures

pub faces_of-requires-clause-built : goal.faces_of-requires-clause-built
faces_of-requires-clause-built c = torus-built c.in_ok-term.term c.in_ok-term.ensures

pub face-requires-clause-simplex : goal.face-requires-clause-simplex
face-requires-clause-simplex c =
    (torus_two c.faces_of.result.term.now c.circle.result c.circle-2.result c.in_ok-x.x (c.faces_of.ensures ∙ c.in_ok-term.ensures) c.circle.ensures.mask c.circle.ensures.cell c.circle-2.ensures.mask c.circle-2.ensures.cell c.in_ok-x.ensures).simplex

pub face-requires-clause-index : goal.face-requires-clause-index
face-requires-clause-index c =
    let s = torus_two c.faces_of.result.term.now c.circle.result c.circle-2.result c.in_ok-x.x (c.faces_of.ensures ∙ c.in_ok-term.ensures) c.circle.ensures.mask c.circle.ensures.cell c.circle-2.ensures.mask c.circle-2.ensures.cell c.in_ok-x.ensures in
    omega (arith, s.degree, c.requires)

pub face-requires-clause-positive : goal.face-requires-clause-positive
face-requires-clause-positive c =
    let s = torus_two c.faces_of.result.term.now c.circle.result c.circle-2.result c.in_ok-x.x (c.faces_of.ensures ∙ c.in_ok-term.ensures) c.circle.ensures.mask c.circle.ensures.cell c.circle-2.ensures.mask c.circle-2.ensures.cell c.in_ok-x.ensures in
    omega (arith, s.degree)

pub face-requires-clause-within : goal.face-requires-clause-within
face-requires-clause-within c =
    let s = torus_two c.faces_of.result.term.now c.circle.result c.circle-2.result c.in_ok-x.x (c.faces_of.ensures ∙ c.in_ok-term.ensures) c.circle.ensures.mask c.circle.ensures.cell c.circle-2.ensures.mask c.circle-2.ensures.cell c.in_ok-x.ensures in
    (omega (arith, s.degree), s.integers)
