use Rattle.oracle_iface.proofs.Named.{term-back, named-space, named-of}
use Rattle.oracle_iface.proofs.laws.term_laws.Goals as goal

pub returns : goal.returns
returns c = record { back = term-back c.args.t.now; named = named-space c.args.t.now; of_term = λ a e. named-of a c.args.t.now e }
