use Rattle.std.proofs.Common.{◌∙◌}
use Rattle.term_lang.proofs.TermMeasures.{vertices_capped}
use Rattle.term_lang.proofs.measures.+count_vertices.Goals as goal

pub returns-in-Product : goal.returns-in-Product
returns-in-Product t c =
    c.min.ensures
    ∙ vertices_capped c.args.t.now _ _ _ _ c.in-Product.is c.get.ensures c.get-in-Product.ensures c.count_vertices.result c.count_vertices-in-Product.result c.count_vertices.ensures
    c.count_vertices-in-Product.ensures
