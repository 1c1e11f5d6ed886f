use Rattle.std.proofs.Common.{arith}
use Rattle.script_lang.proofs.Values.{starts, goes_on_at, fits_at, is_whole, is_small}
use Rattle.script_lang.proofs.bytes.value.Goals as goal

pub loop-b-init : goal.loop-b-init
loop-b-init c = starts c.args.digits.now c.requires

pub loop-b-preserved : goal.loop-b-preserved
loop-b-preserved c = rw c.from.ensures (goes_on_at c.args.digits.now c.loop-b.n c.loop-b.b-index c.loop-b-test.true c.loop-b.invariant)

pub overflow_mul-n : goal.overflow_mul-n
overflow_mul-n c = let f = fits_at c.args.digits.now c.loop-b.n c.loop-b.b-index c.loop-b-test.true c.loop-b.invariant in omega arith

pub overflow_add-n : goal.overflow_add-n
overflow_add-n c = let f = fits_at c.args.digits.now c.loop-b.n c.loop-b.b-index c.loop-b-test.true c.loop-b.invariant in omega arith

pub returns-clause-value : goal.returns-clause-value
returns-clause-value c = is_whole c.args.digits.now c.loop-b.n c.loop-b.b-index c.loop-b-test.false c.loop-b.invariant

pub returns-clause-small : goal.returns-clause-small
returns-clause-small c = is_small c.args.digits.now c.loop-b.n c.loop-b.b-index c.loop-b.invariant
