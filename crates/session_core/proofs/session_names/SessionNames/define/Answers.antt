use Rattle.std.proofs.Common.{sym, ◌∙◌, ap, subst}
use Rattle.session_core.specs.Answer.{defined}
use Rattle.session_core.specs.Whole.{AreReady}
use Rattle.session_core.proofs.MapNames.{insert_is}
use Rattle.session_core.proofs.ReadyNames.{ready-defined}
use Rattle.session_core.proofs.session_names.SessionNames.define.Goals as goal

pub invariant_of-self-2 : goal.invariant_of-self-2
invariant_of-self-2 c =
    let e = c.in_ok-insert.ensures.entries ∙ insert_is c.self.inside.terms.entries c.args.name c.args.term in
    subst AreReady (sym e) (ready-defined c.self.inside.terms.entries c.args.name c.args.term c.self.invariant c.requires)

pub returns-clause-defined : goal.returns-clause-defined
returns-clause-defined c =
    c.in_ok-insert.ensures.entries ∙ insert_is c.self.inside.terms.entries c.args.name c.args.term
    ∙ ap (λ names. defined names c.args.name c.args.term) c.self.view_is
