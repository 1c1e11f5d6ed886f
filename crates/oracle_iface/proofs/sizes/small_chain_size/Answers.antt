use Rattle.std.proofs.Common.{sym, ◌∙◌, arith}
use Rattle.oracle_iface.specs.CodeSizes.{small_cell_letters, small_cell_integer}
use Rattle.oracle_iface.proofs.SizeRules.{whole_greatest, greatest_numbers}
use Rattle.oracle_iface.proofs.sizes.small_chain_size.Goals as goal

pub returns-clause-letters : goal.returns-clause-letters
returns-clause-letters c =
    whole_greatest (λ t. small_cell_letters t.0) c.args.terms.now c.loop-y.y-index c.loop-y.letters c.loop-y.invariant.0 (omega arith)
    ∙ sym (greatest_numbers small_cell_letters c.args.terms.now)

pub returns-clause-integer : goal.returns-clause-integer
returns-clause-integer c =
    whole_greatest (λ t. small_cell_integer t.0) c.args.terms.now c.loop-y.y-index c.loop-y.integer c.loop-y.invariant.1 (omega arith)
    ∙ sym (greatest_numbers small_cell_integer c.args.terms.now)
