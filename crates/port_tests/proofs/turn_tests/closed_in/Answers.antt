use Rattle.std.proofs.Common.{rules, ◌∷◌, [], ◌≡◌, sym, subst}
use Rattle.turnstile.specs.Passes.{IsWhole}
use Rattle.turnstile.specs.Passes.{passes as passes_of}
use Rattle.turnstile.proofs.Pair.{whole_of_two}
use Rattle.port_tests.proofs.turn_tests.closed_in.Goals as goal

pub close_in-log-requires-clause-whole : goal.close_in-log-requires-clause-whole
close_in-log-requires-clause-whole c =
    let list = passes_of c.in_ok-passes.passes in
    let is : list ≡ c.args.two ∷ c.args.one ∷ [] = search rules in
    subst (IsWhole c.args.turnstile) (sym is) (whole_of_two c.args.turnstile c.args.two c.args.one c.requires.two.2 c.requires.one.2 c.requires.one.3 (c.requires.two.0, c.requires.two.1) (c.requires.one.0, c.requires.one.1))
