use Rattle.std.proofs.Common.{sym, ◌∙◌, ap, arith}
use Rattle.std.specs.Option.{option_copied}
use Rattle.cells.proofs.ByParts.{begins}
use Rattle.cells.proofs.order.begin_alike.Goals as goal

pub returns-in-Some-Some : goal.returns-in-Some-Some
returns-in-Some-Some c =
    λ h. begins c.args.a.now c.args.b.now c.in-Some-Some.l.now c.in-Some-Some.m.now (omega arith)
    (sym c.get.ensures.value ∙ ap option_copied c.in-Some-Some.is-0) (sym c.get-2.ensures.value ∙ ap option_copied c.in-Some-Some.is-1)
    (c.alike.ensures.inverse h) (c.alike.ensures.mask h)
