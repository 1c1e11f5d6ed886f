use Rattle.std.proofs.Common.{◌++◌, ◌∙◌, ap}
use Rattle.std.proofs.lemmas.List.{take_all}
use Rattle.twist_rules.specs.PairBases.{cell_pairs}
use Rattle.twist_rules.proofs.PairSteps.{pairs-more}
use Rattle.twist_rules.proofs.small_pairs.push_pairs.Goals as goal

pub loop-x-preserved : goal.loop-x-preserved
loop-x-preserved c =
    pairs-more c.args.xs.now c.args.ys.now c.loop-x.x-index c.x-item.result c.args.pairs.now c.loop-x.pairs c.push_pairs_with.new.pairs c.loop-x-test.true c.x-item.is
    c.loop-x.invariant c.in_ok-push_pairs_with.ensures

pub returns : goal.returns
returns c = c.loop-x.invariant ∙ ap (λ z. c.args.pairs.now ++ cell_pairs z c.args.ys.now) (take_all c.loop-x.x-index c.args.xs.now c.loop-x-test.false)
