use Rattle.std.proofs.Common.{◌≡◌, ◌∙◌, ap}
use Rattle.fp_field.specs.Field.{number}
use Rattle.echelons.specs.Echelon.{in_span, reduced_basis}
use Rattle.elim_fp.specs.Rows.{vectors_of}
use Rattle.elim_fp.proofs.bases.echelon.Goals as goal

pub returns-clause-rows : goal.returns-clause-rows
returns-clause-rows c =
    let rows : vectors_of c.as_slice.result.now ≡ c.args.m.now.rows = ap vectors_of c.as_slice.ensures ∙ c.rows.ensures.rows in
    c.basis_of.ensures.rows ∙ ap vectors_of c.from_rows.ensures ∙ c.in_ok-rows.ensures.basis
    ∙ (λ i. reduced_basis (number (c.prime.ensures i)) (c.width.ensures.width i) (in_span (number (c.prime.ensures i)) (c.width.ensures.width i) (rows i)))
