use Rattle.std.proofs.Common.{◌≡◌, length, sym, ◌∙◌, ap}
use Rattle.fp_field.specs.Field.{number}
use Rattle.echelons.specs.Echelon.{in_kernel, reduced_basis}
use Rattle.elim_fp.specs.Rows.{vectors_of}
use Rattle.elim_fp.proofs.Left.{length-vectors}
use Rattle.elim_fp.proofs.kernels.relations.Goals as goal

pub returns-clause-rows : goal.returns-clause-rows
returns-clause-rows c =
    let rows : vectors_of c.as_slice-rows.result.now ≡ c.args.m.now.rows = ap vectors_of c.as_slice-rows.ensures ∙ c.rows.ensures.rows in
    let many : length c.as_slice-rows.result.now ≡ length c.args.m.now.rows = sym (length-vectors c.as_slice-rows.result.now) ∙ ap length rows in
    c.basis_of.ensures.rows ∙ ap vectors_of c.from_rows.ensures ∙ c.in_ok-basis.ensures.basis
    ∙ (λ i. reduced_basis (number (c.prime.ensures i)) (many i) (in_kernel (number (c.prime.ensures i)) (c.width.ensures.width i) (rows i)))
