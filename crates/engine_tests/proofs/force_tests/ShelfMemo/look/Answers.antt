use Rattle.std.proofs.Common.{rules, ◌≡◌, ◌∙◌, ap, Equal}
use Rattle.oracle_iface.specs.KeyOrder.{key_cmp}
use Rattle.oracle_iface.proofs.OneKey.{one_key}
use Rattle.engine_tests.proofs.force_tests.ShelfMemo.look.Goals as goal

pub returns-in_ok-clone-in-Equal-clause-answer : goal.returns-in_ok-clone-in-Equal-clause-answer
returns-in_ok-clone-in-Equal-clause-answer c =
    let same : key_cmp c.in-Some.cell.key c.args.key.now ≡ Equal = search rules in
    (ap (λ z. z.key) c.in_ok-clone-in-Equal.ensures.cases ∙ one_key c.in-Some.cell.key c.args.key.now same, tt)
