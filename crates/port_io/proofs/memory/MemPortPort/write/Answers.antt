use Rattle.std.proofs.Common.{arith}
use Rattle.port_io.proofs.memory.MemPortPort.write.Goals as goal

pub returns-clause-some : goal.returns-clause-some
returns-clause-some c = λ some. omega (arith, some, c.self.invariant.1, c.if-self-eq0.false, c.min.ensures, c.min-count.ensures)
