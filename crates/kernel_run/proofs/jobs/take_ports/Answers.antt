use Rattle.std.proofs.Common.{◌≡◌, length, rules}
use Rattle.kernel_run.proofs.Moving.{taken_ports, taken_jobs}
use Rattle.kernel_run.proofs.jobs.take_ports.Goals as goal

pub returns-clause-ports : goal.returns-clause-ports
returns-clause-ports g c =
    let two : length c.loop-ports.ports.items ≡ 2 = search rules in
    taken_ports _ _ c.loop-ports.jobs.items c.loop-ports.invariant.moved two

pub returns-clause-jobs : goal.returns-clause-jobs
returns-clause-jobs g c =
    let two : length c.loop-ports.ports.items ≡ 2 = search rules in
    rw c.reverse.ensures.items (taken_jobs _ c.loop-ports.ports.items c.loop-ports.jobs.items c.loop-ports.invariant.moved two)
