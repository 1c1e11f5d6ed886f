use Rattle.std.proofs.Common.{◌≡◌, ◌+◌, ◌++◌, ◌≤◌, reverse, vec_len, vec_capacity}
use Rattle.kernel_run.specs.Jobs.{ports_of}
use Rattle.kernel_run.proofs.jobs.give_ports.Given as goal

abbrev pub invariant-loop-port : goal.invariant-loop-port
invariant-loop-port g l = record {
  moved : l.fn.ports.items ++ ports_of l.fn.jobs.items ≡ l.ports.items ++ reverse (ports_of l.jobs.items);
  room : vec_len l.ports + vec_len l.jobs ≤ vec_capacity l.ports;
}

abbrev pub decreases-loop-port : goal.decreases-loop-port
decreases-loop-port g l = vec_len l.jobs
