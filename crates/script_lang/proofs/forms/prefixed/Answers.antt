use Rattle.std.proofs.Common.{Some, sym, subst, refl}
use Rattle.script_lang.specs.Resolved.{IsPrefixed}
use Rattle.script_lang.proofs.forms.prefixed.Goals as goal

pub returns-in-Some : goal.returns-in-Some
returns-in-Some c =
    subst (λ f. IsPrefixed c.args.degens f (Some (record { degens = c.compose.result; cell = c.in-Some.x.cell }))) (sym c.in-Some.is)
    (record { degens = c.compose.result; cell = c.in-Some.x.cell }, refl, c.compose.ensures, refl)
