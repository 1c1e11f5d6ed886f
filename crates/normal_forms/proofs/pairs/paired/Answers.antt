use Rattle.normal_forms.proofs.PairedForms.{pair_made}
use Rattle.normal_forms.proofs.pairs.paired.Goals as goal

pub returns : goal.returns
returns c =
    pair_made c.args.x c.args.y c.in_ok-left.left c.in_ok-right.right c.common-both.result c.strip.result c.strip-2.result c.common-both.ensures.bits c.strip.ensures c.strip-2.ensures
    c.in_ok-left.ensures c.in_ok-right.ensures
