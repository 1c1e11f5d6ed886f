use Rattle.std.proofs.Common.{Some, sym, subst, refl}
use Rattle.script_lang.specs.Resolved.{IsJoined}
use Rattle.script_lang.proofs.forms.joined.Goals as goal

pub returns-in_ok-paired-in-Some-Some : goal.returns-in_ok-paired-in-Some-Some
returns-in_ok-paired-in-Some-Some c =
    subst (λ s. IsJoined s c.args.y (Some c.in_ok-paired-in-Some-Some.field-0)) (sym c.in-Some-Some.is-0)
    (subst (λ s. IsJoined (Some c.in-Some-Some.x) s (Some c.in_ok-paired-in-Some-Some.field-0)) (sym c.in-Some-Some.is-1)
    (c.in_ok-paired-in-Some-Some.field-0, refl, c.in_ok-paired-in-Some-Some.ensures))
