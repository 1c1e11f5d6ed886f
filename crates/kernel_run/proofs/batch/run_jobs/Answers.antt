use denote.Param.Send.{sendable}
use Rattle.std.proofs.Crossing.{crosses}
use Rattle.kernel_run.proofs.Crossing.{Book-send}
use Rattle.kernel_run.proofs.batch.run_jobs.Goals as goal

pub for_each_mut-requires-sync-F : goal.for_each_mut-requires-sync-F
for_each_mut-requires-sync-F g c κs within = let rt = c.type_bounds.sync-R in search (Book-send, sendable, crosses) depth 40
