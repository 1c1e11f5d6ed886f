use Rattle.std.proofs.Common.{◌≡◌, ◌∙◌}
use Rattle.std.specs.Cmp.Lexicographic.{slice_cmp}
use Rattle.term_lang.proofs.TermForests.{row_by, rows_cmp}
use Rattle.term_lang.proofs.order.TableOrd.cmp.Goals as goal

pub returns : goal.returns
returns c =
    let e : c.cmp.result ≡ slice_cmp row_by c.as_slice.result.now c.as_slice-2.result.now = c.cmp.ensures in
    e ∙ (λ i. slice_cmp row_by ((c.as_slice.ensures ∙ c.rows.ensures.rows) i) ((c.as_slice-2.ensures ∙ c.rows-2.ensures.rows) i))
    ∙ rows_cmp c.args.self.now c.args.other.now
