use Rattle.std.proofs.Common.{sym, ◌∙◌, arith}
use Rattle.oracle_iface.specs.CodeSizes.{cell_letters, cell_integer}
use Rattle.oracle_iface.proofs.SizeRules.{whole_greatest, greatest_numbers}
use Rattle.oracle_iface.proofs.sizes.chain_size.Goals as goal

pub returns-clause-letters : goal.returns-clause-letters
returns-clause-letters c =
    whole_greatest (λ t. cell_letters t.0) c.args.terms.now c.loop-x.x-index c.loop-x.letters c.loop-x.invariant.0 (omega arith)
    ∙ sym (greatest_numbers cell_letters c.args.terms.now)

pub returns-clause-integer : goal.returns-clause-integer
returns-clause-integer c =
    whole_greatest (λ t. cell_integer t.0) c.args.terms.now c.loop-x.x-index c.loop-x.integer c.loop-x.invariant.1 (omega arith)
    ∙ sym (greatest_numbers cell_integer c.args.terms.now)
