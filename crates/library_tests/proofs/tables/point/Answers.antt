use Rattle.std.proofs.Common.{List, [], ◌∷◌, ◌++◌, sym, ◌∙◌, subst}
use Rattle.spaces.specs.Allowed.{IsTable}
use Rattle.term_lang.specs.declared.tables.TableFace.{TableFace}
use Rattle.term_lang.specs.declared.tables.Row.{Row}
use Rattle.term_lang.specs.Rows.{rows_of}
use Rattle.term_lang.proofs.OnePoint.{point_is}
use Rattle.library_tests.proofs.tables.point.Goals as goal

pub table_of-requires : goal.table_of-requires
table_of-requires c =
    let row : List TableFace → Row = λ f. record { name = c.args.name; dim = 0; faces = f } in
    subst (λ l. IsTable (rows_of l)) (sym (c.in_ok-push.ensures.ok ∙ (λ i. c.new-rows.ensures i ++ row (c.new_seq.ensures i) ∷ []))) (point_is c.args.name)
