use Rattle.std.proofs.Common.{◌-◌, ◌≤◌, ℤ, sym, ◌∙◌, ap, subst, refl, lit≤, length, ◌<◌, rules, SFits, w64}
use Rattle.std.proofs.lemmas.Int.{to_z-of_z}
use Rattle.std.proofs.lemmas.List.{length-map}
use Rattle.spaces.specs.Tables.{row_face}
use Rattle.spaces.specs.Nerves.{integers}
use Rattle.spaces.specs.Cocycles.{cocycle}
use Rattle.spaces.specs.Spaces.{table}
use Rattle.term_lang.specs.Belongs.{IsSimplex}
use Rattle.term_lang.specs.Rows.{row_of, rows_of}
use Rattle.twist_maps.proofs.Triangles.{row_form, row_degree-is, at_row_degree}
use Rattle.twist_maps.proofs.checks.value_on_face.Goals as goal

pub table_face-requires-clause-simplex : goal.table_face-requires-clause-simplex
table_face-requires-clause-simplex c =
    at_row_degree (rows_of c.args.base.now) c.rows.ensures.form c.args.row (subst (λ n. c.args.row < n) (sym (length-map c.args.base.now row_of)) c.requires.row) c.requires.dimension c.solid.result c.solid.ensures.mask c.solid.ensures.cell

pub table_face-requires-clause-positive : goal.table_face-requires-clause-positive
table_face-requires-clause-positive c =
    subst (λ n. 1 ≤ n) (sym (row_degree-is (rows_of c.args.base.now) c.rows.ensures.form c.args.row (subst (λ n. c.args.row < n) (sym (length-map c.args.base.now row_of)) c.requires.row) c.requires.dimension c.solid.result c.solid.ensures.mask c.solid.ensures.cell)) (lit≤ tt)

pub table_face-requires-clause-most : goal.table_face-requires-clause-most
table_face-requires-clause-most c =
    subst (λ n. n ≤ 32) (sym (row_degree-is (rows_of c.args.base.now) c.rows.ensures.form c.args.row (subst (λ n. c.args.row < n) (sym (length-map c.args.base.now row_of)) c.requires.row) c.requires.dimension c.solid.result c.solid.ensures.mask c.solid.ensures.cell)) (lit≤ tt)

pub table_face-requires-clause-index : goal.table_face-requires-clause-index
table_face-requires-clause-index c =
    subst (λ n. c.args.i ≤ n) (sym (row_degree-is (rows_of c.args.base.now) c.rows.ensures.form c.args.row (subst (λ n. c.args.row < n) (sym (length-map c.args.base.now row_of)) c.requires.row) c.requires.dimension c.solid.result c.solid.ensures.mask c.solid.ensures.cell)) c.requires.face

pub value_on-requires-clause-simplex : goal.value_on-requires-clause-simplex
value_on-requires-clause-simplex c =
    subst (λ n. IsSimplex (table (rows_of c.args.base.now)) n c.table_face.result)
    (ap (λ n. n - 1) (row_degree-is (rows_of c.args.base.now) c.rows.ensures.form c.args.row (subst (λ n. c.args.row < n) (sym (length-map c.args.base.now row_of)) c.requires.row) c.requires.dimension c.solid.result c.solid.ensures.mask c.solid.ensures.cell))
    c.table_face.ensures.simplex

pub returns-clause-value : goal.returns-clause-value
returns-clause-value c =
    let f : SFits w64 c.value_on.result = search rules in
    to_z-of_z w64 c.value_on.result f ∙ c.value_on.ensures.value ∙ ap (cocycle integers (rows_of c.args.base.now) c.args.values.now) c.table_face.ensures.form
    ∙ ap (λ x. cocycle integers (rows_of c.args.base.now) c.args.values.now (row_face (rows_of c.args.base.now) c.args.i x))
    (row_form (rows_of c.args.base.now) c.rows.ensures.form c.args.row (subst (λ n. c.args.row < n) (sym (length-map c.args.base.now row_of)) c.requires.row) c.requires.dimension c.solid.result c.solid.ensures.mask c.solid.ensures.cell)
