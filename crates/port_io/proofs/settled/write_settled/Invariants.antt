-- An interrupted write appends nothing, and leaves the file's name.
use Rattle.std.proofs.Common.{◌≡◌}
use Rattle.std.specs.Io.KnownBytes.{Keeps}
use Rattle.port_io.proofs.settled.write_settled.Given as goal

abbrev pub invariant-loop : goal.invariant-loop
invariant-loop g l = Keeps (g.O.Sink.written l.initial.sink) (g.O.Sink.written l.sink) × (g.O.Sink.file l.sink ≡ g.O.Sink.file l.initial.sink)
