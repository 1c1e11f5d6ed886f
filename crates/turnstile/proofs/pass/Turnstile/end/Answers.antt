use Rattle.turnstile.proofs.Joining.{ends, ends_at}
use Rattle.turnstile.proofs.pass.Turnstile.end.Goals as goal

pub unreachable-requires : goal.unreachable-requires
unreachable-requires g c =
    let e = ends _ _ _ c.args.seat.me.0 _ _ c.take.result c.close_with-closed.ensures.values.2 c.take.ensures.value c.requires.first.0 c.requires.first.1 c.requires.every in
    c.in_default.not-Some e.0 e.1

pub returns-clause-first : goal.returns-clause-first
returns-clause-first g c =
    (ends_at _ _ _ c.args.seat.me.0 _ _ c.take.result c.in-Some.state c.close_with-closed.ensures.values.2 c.take.ensures.value c.in-Some.is c.requires.first.0 c.requires.first.1 c.requires.every).0

pub returns-clause-others : goal.returns-clause-others
returns-clause-others g c =
    (ends_at _ _ _ c.args.seat.me.0 _ _ c.take.result c.in-Some.state c.close_with-closed.ensures.values.2 c.take.ensures.value c.in-Some.is c.requires.first.0 c.requires.first.1 c.requires.every).1

pub returns-clause-owners : goal.returns-clause-owners
returns-clause-owners g c =
    (ends_at _ _ _ c.args.seat.me.0 _ _ c.take.result c.in-Some.state c.close_with-closed.ensures.values.2 c.take.ensures.value c.in-Some.is c.requires.first.0 c.requires.first.1 c.requires.every).2
