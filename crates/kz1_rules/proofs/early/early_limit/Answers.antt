use Rattle.std.proofs.Common.{arith}
use Rattle.kz1_rules.proofs.IntegersKeys.{integer-refused, terms-refused}
use Rattle.kz1_rules.proofs.early.early_limit.Goals as goal

pub returns-then-integer-gt-INTEGER-clause-refused : goal.returns-then-integer-gt-INTEGER-clause-refused
returns-then-integer-gt-INTEGER-clause-refused c =
    integer-refused c.args.key.now c.requires.valid c.requires.space c.requires.op c.place_integer-integer.result c.place_integer-integer.ensures (omega arith)

pub returns-then-terms-gt-TERMS-clause-refused : goal.returns-then-terms-gt-TERMS-clause-refused
returns-then-terms-gt-TERMS-clause-refused c =
    terms-refused c.args.key.now c.requires.valid c.requires.space c.list_at.result.now c.in-H.is c.list_at.ensures c.term_count-terms.result c.term_count-terms.ensures (omega arith) (omega (arith, c.place_integer-integer.ensures))
