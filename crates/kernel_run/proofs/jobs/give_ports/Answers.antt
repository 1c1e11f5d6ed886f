use Rattle.std.proofs.Common.{◌++◌, ap, sym, rules}
use Rattle.kernel_run.proofs.Moving.{ports_again}
use Rattle.kernel_run.proofs.jobs.give_ports.Goals as goal

pub loop-port-init : goal.loop-port-init
loop-port-init g c = record {
  moved = rw c.reverse.ensures.items (ap (λ l. c.args.ports.now.items ++ l) (sym (ports_again c.args.jobs.now.items)));
  room = search rules;
}
