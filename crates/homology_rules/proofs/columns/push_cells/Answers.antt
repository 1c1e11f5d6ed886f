use Rattle.std.proofs.Common.{◌++◌, map, ◌∙◌, ap}
use Rattle.std.proofs.lemmas.List.{take_all}
use Rattle.homology_rules.proofs.ColumnSteps.{key_more, keys-numbers}
use Rattle.homology_rules.proofs.columns.push_cells.Goals as goal

pub loop-y-preserved : goal.loop-y-preserved
loop-y-preserved c =
    key_more c.reserve.new.self.items c.loop-y.cells.items c.push.new.self.items c.terms-y-items.result.now c.loop-y.y-index c.loop-y-item.result c.in_ok-copy_small.field-0 c.loop-y-test.true
    c.loop-y-item.is c.loop-y.invariant c.in_ok-copy_small.ensures c.in_ok-push.ensures.items

pub returns : goal.returns
returns c =
    c.loop-y.invariant
    ∙ (λ j. c.in_ok-reserve.ensures.items j ++ map (λ t. t.0) (take_all c.loop-y.y-index c.terms-y-items.result.now c.loop-y-test.false j))
    ∙ ap (λ z. c.args.cells.now.items ++ z) (keys-numbers c.terms-y-items.result.now ∙ ap (map (λ t. t.0)) c.terms-y-items.ensures.terms)
