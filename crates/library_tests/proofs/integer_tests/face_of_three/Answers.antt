use Rattle.std.proofs.Common.{arith, rules, ◌≡◌, length, sym, subst}
use Rattle.spaces.specs.Spaces.{kz1}
use Rattle.cells.specs.Dim.{degree_of}
use Rattle.term_lang.specs.Belongs.{IsSimplex}
use Rattle.library_tests.proofs.integer_tests.face_of_three.Goals as goal

pub ints_simplex_face-requires-clause-simplex : goal.ints_simplex_face-requires-clause-simplex
ints_simplex_face-requires-clause-simplex c =
    let n : length c.in_ok-list.field-0 ≡ 3 = search rules in
    let is = subst (λ m. IsSimplex kz1 m c.in_ok-x.x) n c.in_ok-x.ensures.simplex in
    subst (λ m. IsSimplex kz1 m c.in_ok-x.x) (sym ((c.integers_normal_forms.ensures.simplices 3 (omega arith)).degree c.in_ok-x.x is)) is

pub ints_simplex_face-requires-clause-positive : goal.ints_simplex_face-requires-clause-positive
ints_simplex_face-requires-clause-positive c =
    let n : length c.in_ok-list.field-0 ≡ 3 = search rules in
    let d : degree_of c.in_ok-x.x ≡ 3 =
    (c.integers_normal_forms.ensures.simplices 3 (omega arith)).degree c.in_ok-x.x (subst (λ m. IsSimplex kz1 m c.in_ok-x.x) n c.in_ok-x.ensures.simplex) in
    omega (arith, d)

pub ints_simplex_face-requires-clause-most : goal.ints_simplex_face-requires-clause-most
ints_simplex_face-requires-clause-most c =
    let n : length c.in_ok-list.field-0 ≡ 3 = search rules in
    let d : degree_of c.in_ok-x.x ≡ 3 =
    (c.integers_normal_forms.ensures.simplices 3 (omega arith)).degree c.in_ok-x.x (subst (λ m. IsSimplex kz1 m c.in_ok-x.x) n c.in_ok-x.ensures.simplex) in
    omega (arith, d)

pub ints_simplex_face-requires-clause-index : goal.ints_simplex_face-requires-clause-index
ints_simplex_face-requires-clause-index c =
    let n : length c.in_ok-list.field-0 ≡ 3 = search rules in
    let d : degree_of c.in_ok-x.x ≡ 3 =
    (c.integers_normal_forms.ensures.simplices 3 (omega arith)).degree c.in_ok-x.x (subst (λ m. IsSimplex kz1 m c.in_ok-x.x) n c.in_ok-x.ensures.simplex) in
    omega (arith, d, c.requires.index)
