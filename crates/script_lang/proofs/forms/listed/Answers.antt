use Rattle.std.proofs.Common.{sym, ◌∙◌}
use Rattle.script_lang.proofs.ResolveMeanings.{ints_other}
use Rattle.script_lang.proofs.ResolveFound.{list_found, list_none}
use Rattle.script_lang.proofs.forms.listed.Goals as goal

pub returns-in_ok-ints_norm-in-Ints : goal.returns-in_ok-ints_norm-in-Ints
returns-in_ok-ints_norm-in-Ints c =
    list_found c.args.body.now c.args.n c.in-Ints.list c.in-Ints.is (sym c.len.ensures ∙ c.if-len-n.true) c.in_ok-ints_norm-in-Ints.field-0
    c.in_ok-ints_norm-in-Ints.ensures.form c.in_ok-ints_norm-in-Ints.ensures.simplex

pub returns-else-len-n : goal.returns-else-len-n
returns-else-len-n c = list_none c.args.body.now c.args.n c.in-Ints.list c.in-Ints.is (λ e. c.if-len-n.false (c.len.ensures ∙ e))

pub returns-in_default : goal.returns-in_default
returns-in_default c = ints_other c.args.n c.args.body.now c.in_default.not-Ints
