use Rattle.force_engine.proofs.HighKey.{high-bare}
use Rattle.memo_shared.specs.Shared.{fronts_of, seat_of}
use Rattle.memo_tests.proofs.Seats.{free}
use Rattle.memo_tests.proofs.desk_tests.force_high.Goals as goal

pub forced-requires-clause-treats : goal.forced-requires-clause-treats
forced-requires-clause-treats g c = high-bare c.in_ok-key.key c.in_ok-key.ensures

pub forced-requires-clause-free : goal.forced-requires-clause-free
forced-requires-clause-free g c = free (seat_of c.args.desk.now.pass.now) c.in_ok-key.key (fronts_of c.args.desk.now.pass.now) c.requires
