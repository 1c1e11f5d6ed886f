use Rattle.std.proofs.Common.{◌∙◌, ap}
use Rattle.session_core.specs.Answer.{lookup}
use Rattle.session_core.proofs.MapNames.{lookup_is, ready_found}
use Rattle.session_core.proofs.ReadyNames.{ready-lookup}
use Rattle.session_core.proofs.session_names.SessionNames.get.Goals as goal

pub returns-clause-value : goal.returns-clause-value
returns-clause-value c = c.get.ensures.value ∙ lookup_is c.self.inside.terms.entries c.args.name.now ∙ ap (λ names. lookup names c.args.name.now) c.self.view_is

pub returns-clause-ready : goal.returns-clause-ready
returns-clause-ready c =
    ready_found c.get.result (lookup c.self.inside.terms.entries c.args.name.now) (c.get.ensures.value ∙ lookup_is c.self.inside.terms.entries c.args.name.now)
    (ready-lookup c.self.inside.terms.entries c.args.name.now c.self.invariant)
