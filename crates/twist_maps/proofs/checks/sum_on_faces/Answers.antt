use Rattle.std.specs.Prelude.{◌+ℤ◌, neg_ℤ}
use Rattle.std.proofs.Common.{◌∙◌}
use Rattle.term_lang.proofs.CocycleRows.{four_fit, four_sum}
use Rattle.twist_maps.proofs.checks.sum_on_faces.Goals as goal

pub overflow_add-result : goal.overflow_add-result
overflow_add-result c =
    four_fit c.value_on_face.result c.value_on_face-2.result c.value_on_face-3.result c.value_on_face-4.result c.value_on_face.ensures.small c.value_on_face-2.ensures.small
    c.value_on_face-3.ensures.small c.value_on_face-4.ensures.small

pub returns : goal.returns
returns c =
    four_sum c.value_on_face.result c.value_on_face-2.result c.value_on_face-3.result c.value_on_face-4.result c.value_on_face.ensures.small c.value_on_face-2.ensures.small
    c.value_on_face-3.ensures.small c.value_on_face-4.ensures.small
    ∙ (λ i. (c.value_on_face.ensures.value i +ℤ neg_ℤ (c.value_on_face-2.ensures.value i)) +ℤ (c.value_on_face-3.ensures.value i +ℤ neg_ℤ (c.value_on_face-4.ensures.value i)))
