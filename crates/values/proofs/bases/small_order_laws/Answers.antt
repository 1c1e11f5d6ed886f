use Rattle.values.proofs.bases.small_order_laws.Goals as goal
use Rattle.std.proofs.lemmas.Cmp.{tied_itself}
use Rattle.spaces.proofs.Orders.{small-apart}
use Rattle.values.proofs.BasesOrders.{small-total, small-equivalence, lower-first}

pub returns : goal.returns
returns c = record {
  total = small-total;
  itself = λ a x. tied_itself (small-total a) x;
  one_cell = small-apart;
  equivalence = small-equivalence;
  lower_first = lower-first;
}
