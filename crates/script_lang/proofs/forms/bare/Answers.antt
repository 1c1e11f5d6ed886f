use Rattle.std.proofs.Common.{refl}
use Rattle.script_lang.proofs.ResolveFound.{bare_same}
use Rattle.script_lang.proofs.forms.bare.Goals as goal

pub returns-in-Some : goal.returns-in-Some
returns-in-Some c = bare_same _ refl c.in-Some.cell c.args.cell c.in-Some.is
