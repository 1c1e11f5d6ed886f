use Rattle.std.proofs.Common.{◌∙◌, sym, subst, arith}
use Rattle.spaces.specs.Allowed.{IsAllowed}
use Rattle.term_lang.specs.SpaceOf.{space_of}
use Rattle.space_tests.proofs.WorkedPairs.{one-built, bundle_two}
use Rattle.space_tests.proofs.pair_face_tests.face_of_five.Goals as goal

pub faces_of-requires-clause-built : goal.faces_of-requires-clause-built
faces_of-requires-clause-built c = one-built c.args.t.now c.requires.bundle.0 c.requires.bundle.1

pub face-requires-clause-simplex : goal.face-requires-clause-simplex
face-requires-clause-simplex c =
    (bundle_two c.faces_of.result.term.now c.requires.bundle.0 c.cell_of_the_sphere.result c.in_ok-fibre.fibre c.in_ok-x.x (subst (λ t. IsAllowed (space_of t)) (sym c.faces_of.ensures) c.requires.allowed) (c.faces_of.ensures ∙ c.requires.bundle.1) c.requires.bundle.2 c.requires.bundle.3 c.cell_of_the_sphere.ensures.mask c.cell_of_the_sphere.ensures.cell c.in_ok-fibre.ensures.mask c.in_ok-fibre.ensures.cell c.in_ok-x.ensures).simplex

pub face-requires-clause-index : goal.face-requires-clause-index
face-requires-clause-index c =
    let s = bundle_two c.faces_of.result.term.now c.requires.bundle.0 c.cell_of_the_sphere.result c.in_ok-fibre.fibre c.in_ok-x.x (subst (λ t. IsAllowed (space_of t)) (sym c.faces_of.ensures) c.requires.allowed) (c.faces_of.ensures ∙ c.requires.bundle.1) c.requires.bundle.2 c.requires.bundle.3 c.cell_of_the_sphere.ensures.mask c.cell_of_the_sphere.ensures.cell c.in_ok-fibre.ensures.mask c.in_ok-fibre.ensures.cell c.in_ok-x.ensures in
    omega (arith, s.degree, c.requires.index)

pub face-requires-clause-positive : goal.face-requires-clause-positive
face-requires-clause-positive c =
    let s = bundle_two c.faces_of.result.term.now c.requires.bundle.0 c.cell_of_the_sphere.result c.in_ok-fibre.fibre c.in_ok-x.x (subst (λ t. IsAllowed (space_of t)) (sym c.faces_of.ensures) c.requires.allowed) (c.faces_of.ensures ∙ c.requires.bundle.1) c.requires.bundle.2 c.requires.bundle.3 c.cell_of_the_sphere.ensures.mask c.cell_of_the_sphere.ensures.cell c.in_ok-fibre.ensures.mask c.in_ok-fibre.ensures.cell c.in_ok-x.ensures in
    omega (arith, s.degree)

pub face-requires-clause-within : goal.face-requires-clause-within
face-requires-clause-within c =
    let s = bundle_two c.faces_of.result.term.now c.requires.bundle.0 c.cell_of_the_sphere.result c.in_ok-fibre.fibre c.in_ok-x.x (subst (λ t. IsAllowed (space_of t)) (sym c.faces_of.ensures) c.requires.allowed) (c.faces_of.ensures ∙ c.requires.bundle.1) c.requires.bundle.2 c.requires.bundle.3 c.cell_of_the_sphere.ensures.mask c.cell_of_the_sphere.ensures.cell c.in_ok-fibre.ensures.mask c.in_ok-fibre.ensures.cell c.in_ok-x.ensures in
    (omega (arith, s.degree), s.integers)
