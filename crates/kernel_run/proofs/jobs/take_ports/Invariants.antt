use Rattle.std.proofs.Common.{◌≡◌, ◌+◌, ◌++◌, ◌≤◌, reverse, vec_len, vec_capacity}
use Rattle.kernel_run.specs.Jobs.{ports_of}
use Rattle.kernel_run.proofs.jobs.take_ports.Given as goal

abbrev pub invariant-loop-ports : goal.invariant-loop-ports
invariant-loop-ports g l = record {
  moved : l.initial.ports.items ≡ l.ports.items ++ reverse (ports_of l.jobs.items);
  others : 2 ≤ vec_len l.ports;
  room : vec_len l.ports + vec_len l.jobs ≤ vec_capacity l.jobs;
  kept : vec_capacity l.ports ≡ vec_capacity l.initial.ports;
}

abbrev pub decreases-loop-ports : goal.decreases-loop-ports
decreases-loop-ports g l = vec_len l.ports
