use denote.Param.Send.{sendable}
use Rattle.turnstile.proofs.Crossing.{pass_sync, list_sync}
use Rattle.port_tests.proofs.turn_tests.all_cross.Goals as goal

pub crosses-requires-2-sync-T : goal.crosses-requires-2-sync-T
crosses-requires-2-sync-T g c κs within = let send = c.type_bounds.send-B in search (sendable, list_sync)

pub crosses-requires-in-Some-sync-T : goal.crosses-requires-in-Some-sync-T
crosses-requires-in-Some-sync-T g c κs within = let send = c.type_bounds.send-B in search (sendable, pass_sync)
