use Rattle.cells.proofs.OneKey.{one_cell, one_simplex, one_letter}
use Rattle.cells.proofs.OneSmall.{one_small}
use Rattle.cells.proofs.laws.one_key.Goals as goal

pub returns : goal.returns
returns c = record { cell = one_cell c.args.c.now; simplex = one_simplex c.args.x.now; letter = one_letter c.args.l.now; small = one_small c.args.s.now }
