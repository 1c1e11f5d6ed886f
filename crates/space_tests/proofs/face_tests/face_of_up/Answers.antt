use Rattle.std.proofs.Common.{refl, ◌∙◌, arith}
use Rattle.cells.specs.declared.cells.Cell.TheVariants.{Up}
use Rattle.term_lang.specs.Quote.{degens_of}
use Rattle.space_tests.proofs.IntegerCells.{up-allowed, up-built, suspended}
use Rattle.space_tests.proofs.face_tests.face_of_up.Goals as goal

pub faces_of-requires-clause-allowed : goal.faces_of-requires-clause-allowed
faces_of-requires-clause-allowed c =
    up-allowed c.in_ok-new.field-0 c.in_ok-new.ensures

pub faces_of-requires-clause-built : goal.faces_of-requires-clause-built
faces_of-requires-clause-built c =
    up-built c.in_ok-new.field-0 c.in_ok-new.ensures

pub face-requires-clause-simplex : goal.face-requires-clause-simplex
face-requires-clause-simplex c =
    (suspended c.faces_of.result.term.now c.in_ok-new.field-0 (record { degens = degens_of 0; cell = Up c.in_ok-new-2.field-0 }) c.faces_of.ensures c.in_ok-new.ensures refl
    c.in_ok-new-2.field-0 refl (c.in_ok-new-2.ensures ∙ c.in_ok-two_and_three.ensures)).simplex

pub face-requires-clause-positive : goal.face-requires-clause-positive
face-requires-clause-positive c =
    let s =
    suspended c.faces_of.result.term.now c.in_ok-new.field-0 (record { degens = degens_of 0; cell = Up c.in_ok-new-2.field-0 }) c.faces_of.ensures c.in_ok-new.ensures refl
    c.in_ok-new-2.field-0 refl (c.in_ok-new-2.ensures ∙ c.in_ok-two_and_three.ensures) in
    omega (arith, s.degree)

pub face-requires-clause-index : goal.face-requires-clause-index
face-requires-clause-index c =
    let s =
    suspended c.faces_of.result.term.now c.in_ok-new.field-0 (record { degens = degens_of 0; cell = Up c.in_ok-new-2.field-0 }) c.faces_of.ensures c.in_ok-new.ensures refl
    c.in_ok-new-2.field-0 refl (c.in_ok-new-2.ensures ∙ c.in_ok-two_and_three.ensures) in
    omega (arith, s.degree, c.requires)

pub face-requires-clause-within : goal.face-requires-clause-within
face-requires-clause-within c =
    let s =
    suspended c.faces_of.result.term.now c.in_ok-new.field-0 (record { degens = degens_of 0; cell = Up c.in_ok-new-2.field-0 }) c.faces_of.ensures c.in_ok-new.ensures refl
    c.in_ok-new-2.field-0 refl (c.in_ok-new-2.ensures ∙ c.in_ok-two_and_three.ensures) in
    (omega (arith, s.degree), omega (arith, s.integers))
