use Rattle.cells.proofs.Compared.{cell_cmp-then, simplex_cmp-then, letter_cmp-then}
use Rattle.cells.proofs.SmallForms.{small_cmp-then}
use Rattle.cells.proofs.laws.order_in_words.Goals as goal

pub returns : goal.returns
returns c = record {
  cell = cell_cmp-then c.args.c.now;
  simplex = simplex_cmp-then c.args.x.now;
  letter = letter_cmp-then c.args.l.now;
  small = small_cmp-then c.args.s.now;
}
