use Rattle.std.proofs.Common.{◌∙◌, ap}
use Rattle.oracle_iface.specs.declared.bodies.Body.TheVariants.{Small as SmallBody, Big as BigBody}
use Rattle.rule_book.proofs.DirectValues.{f-rows, g-rows, h-rows}
use Rattle.rule_book.proofs.direct.direct_value.Goals as goal

pub returns-in_ok-small_chain-in-F : goal.returns-in_ok-small_chain-in-F
returns-in_ok-small_chain-in-F c = ap SmallBody c.in_ok-small_chain-in-F.ensures ∙ f-rows c.args.key.now c.requires.key.0 c.cell_at.result.now c.requires.key.1 c.in-F.is c.cell_at.ensures

pub returns-in_ok-cell_chain-in-G : goal.returns-in_ok-cell_chain-in-G
returns-in_ok-cell_chain-in-G c = ap BigBody c.in_ok-cell_chain-in-G.ensures ∙ g-rows c.args.key.now c.requires.key.0 c.small_at.result.now c.requires.key.1 c.in-G.is c.small_at.ensures

pub returns-in-H : goal.returns-in-H
returns-in-H c = h-rows c.args.key.now c.requires.key.0 c.new.result c.requires.key.1 c.in-H.is c.new.ensures.prime c.new.ensures.zero
