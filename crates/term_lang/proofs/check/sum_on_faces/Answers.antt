use Rattle.std.proofs.Common.{◌∙◌, ◌<◌, sym, subst, lit<}
use Rattle.std.specs.Prelude.{◌+ℤ◌, neg_ℤ}
use Rattle.spaces.specs.Allowed.{face_count}
use Rattle.term_lang.proofs.CocycleRows.{four_fit, four_sum}
use Rattle.term_lang.proofs.check.sum_on_faces.Goals as goal

pub value_on_face-requires-clause-face_in : goal.value_on_face-requires-clause-face_in
value_on_face-requires-clause-face_in c = subst (λ d. 0 < face_count d) (sym c.requires.dimension) (lit< tt)

pub value_on_face-requires-2-clause-face_in : goal.value_on_face-requires-2-clause-face_in
value_on_face-requires-2-clause-face_in c = subst (λ d. 1 < face_count d) (sym c.requires.dimension) (lit< tt)

pub value_on_face-requires-3-clause-face_in : goal.value_on_face-requires-3-clause-face_in
value_on_face-requires-3-clause-face_in c = subst (λ d. 2 < face_count d) (sym c.requires.dimension) (lit< tt)

pub value_on_face-requires-4-clause-face_in : goal.value_on_face-requires-4-clause-face_in
value_on_face-requires-4-clause-face_in c = subst (λ d. 3 < face_count d) (sym c.requires.dimension) (lit< tt)

pub overflow_add-result : goal.overflow_add-result
overflow_add-result c =
    four_fit c.value_on_face.result c.value_on_face-2.result c.value_on_face-3.result c.value_on_face-4.result c.value_on_face.ensures.small c.value_on_face-2.ensures.small
    c.value_on_face-3.ensures.small c.value_on_face-4.ensures.small

pub returns : goal.returns
returns c =
    four_sum c.value_on_face.result c.value_on_face-2.result c.value_on_face-3.result c.value_on_face-4.result c.value_on_face.ensures.small c.value_on_face-2.ensures.small
    c.value_on_face-3.ensures.small c.value_on_face-4.ensures.small
    ∙ (λ i. (c.value_on_face.ensures.value i +ℤ neg_ℤ (c.value_on_face-2.ensures.value i)) +ℤ (c.value_on_face-3.ensures.value i +ℤ neg_ℤ (c.value_on_face-4.ensures.value i)))
