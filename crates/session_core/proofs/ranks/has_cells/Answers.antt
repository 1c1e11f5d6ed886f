use Rattle.std.proofs.Common.{◌∙◌, ap, subst}
use Rattle.std.proofs.lemmas.List.{take_all}
use Rattle.std.specs.List.{Contains}
use Rattle.cells.specs.Small.{small_cmp}
use Rattle.cells.proofs.OneSmall.{one_small}
use Rattle.fp_field.specs.Chains.{Each}
use Rattle.chain_core.specs.Formal.{numbers}
use Rattle.session_core.proofs.CoverSteps.{found, term-more}
use Rattle.session_core.proofs.ranks.has_cells.Goals as goal

pub loop-y-preserved : goal.loop-y-preserved
loop-y-preserved c =
    term-more c.args.cells.now c.terms-y-items.result.now c.loop-y.y-index c.loop-y-item.result c.loop-y-test.true c.loop-y-item.is
    (found c.args.cells.now small_cmp one_small c.in-Ok.field-0 c.loop-y-item.result.0 c.in-Ok.ensures.bound (c.in-Ok.ensures.ok c.loop-y-item.result.0)) c.loop-y.invariant

pub returns : goal.returns
returns c = λ t. subst (Each (Contains c.args.cells.now)) (ap numbers (take_all c.loop-y.y-index c.terms-y-items.result.now c.loop-y-test.false) ∙ c.terms-y-items.ensures.terms) c.loop-y.invariant
