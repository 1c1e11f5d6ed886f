use Rattle.force_engine.proofs.HighKey.{high-bare}
use Rattle.engine_tests.proofs.force_tests.force_high.Goals as goal

pub forced-requires-clause-treats : goal.forced-requires-clause-treats
forced-requires-clause-treats c = high-bare c.in_ok-key.key c.in_ok-key.ensures
