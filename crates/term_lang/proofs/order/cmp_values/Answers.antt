use Rattle.std.proofs.Common.{◌∙◌}
use Rattle.term_lang.proofs.TermForests.{ints_cmp}
use Rattle.term_lang.proofs.order.cmp_values.Goals as goal

pub returns : goal.returns
returns c = c.cmp.ensures ∙ ints_cmp c.args.a.now c.args.b.now
