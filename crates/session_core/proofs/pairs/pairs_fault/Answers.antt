use Rattle.std.proofs.Common.{length, sym}
use Rattle.term_lang.specs.Rows.{rows_of}
use Rattle.session_core.specs.Bundles.{pair_fault}
use Rattle.session_core.proofs.PairSteps.{first_is}
use Rattle.session_core.proofs.pairs.pairs_fault.Goals as goal

pub returns-in-Some : goal.returns-in-Some
returns-in-Some c =
    sym (first_is (pair_fault (rows_of c.args.rows.now) c.args.pairs.now) c.in-Some.fault c.loop-k.k (length c.args.pairs.now) c.loop-k-test.true c.loop-k.invariant
    (sym c.in-Some.ensures))
