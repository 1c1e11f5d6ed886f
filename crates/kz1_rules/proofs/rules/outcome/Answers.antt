use Rattle.std.proofs.Common.{◌≤◌, refl}
use Rattle.kz1_rules.specs.Lists.{integer_at}
use Rattle.kz1_rules.proofs.Kept.{kept}
use Rattle.kz1_rules.proofs.IntegersKeys.{value-limited}
use Rattle.kz1_rules.proofs.rules.outcome.Goals as goal

pub returns-in_ok-body-in-None : goal.returns-in_ok-body-in-None
returns-in_ok-body-in-None c =
    let l : integer_at c.args.key.now.place ≤ 100000 = c.in-None.ensures.passed refl in
    kept c.limited.result _ _ (λ o e. value-limited c.args.key.now c.requires.valid c.requires.space c.requires.op l c.in_ok-body-in-None.body c.in_ok-body-in-None.ensures o e) c.limited.ensures
