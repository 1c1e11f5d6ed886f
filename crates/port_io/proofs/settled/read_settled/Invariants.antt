-- An interrupted read takes nothing, and leaves the room and the file's name.
use Rattle.std.proofs.Common.{◌≡◌, length}
use Rattle.std.specs.Io.KnownBytes.{Keeps}
use Rattle.port_io.proofs.settled.read_settled.Given as goal

abbrev pub invariant-loop : goal.invariant-loop
invariant-loop g l = (length l.buf ≡ length l.initial.buf) × Keeps (g.I.Source.left l.initial.source) (g.I.Source.left l.source) × (g.I.Source.file l.source ≡ g.I.Source.file l.initial.source)
