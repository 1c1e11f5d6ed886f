use Rattle.std.proofs.Common.{rules, ◌≡◌, ◌∙◌, sym, ap, Equal}
use Rattle.oracle_iface.specs.KeyOrder.{key_cmp}
use Rattle.oracle_iface.proofs.OneKey.{one_key}
use Rattle.rule_tests.proofs.published.PublishedMemo.look.Goals as goal

pub returns-in-Equal-clause-answer : goal.returns-in-Equal-clause-answer
returns-in-Equal-clause-answer c =
    let same : key_cmp c.get.result.now.key c.args.key.now ≡ Equal = search rules in
    (ap (λ z. z.key) (c.in_ok-clone-in-Equal.ensures.cases ∙ sym c.get.ensures) ∙ one_key c.get.result.now.key c.args.key.now same, tt)
