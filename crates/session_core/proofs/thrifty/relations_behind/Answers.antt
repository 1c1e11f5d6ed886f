use Rattle.std.proofs.Common.{◌≡◌, ◌+◌, ◌∷◌, length, reverse, ◌∙◌, ap}
use Rattle.std.proofs.lemmas.Result.{IfOk-weaker}
use Rattle.fp_field.specs.Field.{number}
use Rattle.echelons.specs.Echelon.{in_kernel, reduced_basis}
use Rattle.elim_fp.specs.Rows.{vectors_of}
use Rattle.session_core.proofs.RowLists.{reversed-vectors, reversed-count}
use Rattle.session_core.proofs.thrifty.relations_behind.Goals as goal

pub returns-clause-rows : goal.returns-clause-rows
returns-clause-rows c =
    let rows : c.matrix_of.result.rows ≡ c.args.row.values ∷ reverse (vectors_of c.args.rows.items) =
    c.matrix_of.ensures.rows ∙ ap vectors_of (c.from_rows.ensures ∙ c.reverse.ensures.items ∙ ap reverse c.in_ok-push.ensures.items) ∙ reversed-vectors c.args.rows.items c.args.row in
    IfOk-weaker c.relations-2.result
    (λ e. e.rows ≡ reduced_basis (number c.matrix_of.result.prime) (length c.matrix_of.result.rows) (in_kernel (number c.matrix_of.result.prime) c.matrix_of.result.width c.matrix_of.result.rows))
    (λ e. e.rows ≡ reduced_basis (number c.args.p) (length c.args.rows.items + 1) (in_kernel (number c.args.p) (length c.args.row.values) (c.args.row.values ∷ reverse (vectors_of c.args.rows.items))))
    (λ e h.
    h
    ∙ (λ i. reduced_basis (number (c.matrix_of.ensures.prime i)) ((ap length rows ∙ reversed-count c.args.rows.items c.args.row) i)
    (in_kernel (number (c.matrix_of.ensures.prime i)) ((c.matrix_of.ensures.width ∙ c.width-width.ensures.width) i) (rows i))))
    c.relations-2.ensures.rows
