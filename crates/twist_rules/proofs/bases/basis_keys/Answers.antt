use Rattle.twist_rules.proofs.BasisKeys.{keys-more, keys-all}
use Rattle.twist_rules.proofs.bases.basis_keys.Goals as goal

pub loop-i-preserved : goal.loop-i-preserved
loop-i-preserved c =
    keys-more c.args.p c.args.parts.now.base c.args.parts.now.fibre c.args.n c.loop-i.i c.loop-i.keys.items c.push.new.self.items c.push-in-loop-i.new.self.items
    c.in_ok-basis_key.field-0 c.in_ok-basis_key-2.field-0 c.loop-i-test.true c.loop-i.invariant c.in_ok-push.ensures.items c.in_ok-basis_key.ensures c.in_ok-push-2.ensures.items c.in_ok-basis_key-2.ensures

pub returns : goal.returns
returns c = keys-all c.args.p c.args.parts.now.base c.args.parts.now.fibre c.args.n c.loop-i.i c.loop-i.keys.items c.loop-i-test.false c.loop-i.invariant
