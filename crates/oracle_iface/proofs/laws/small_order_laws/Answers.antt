use Rattle.oracle_iface.proofs.SmallDegrees.{degree-small}
use Rattle.oracle_iface.proofs.SmallOrders.{order-small}
use Rattle.oracle_iface.proofs.CarriedChains.{carried-normal}
use Rattle.spaces.specs.SmallCells.{small_cmp}
use Rattle.cells.specs.Small.{small_cmp as code_cmp}
use Rattle.oracle_iface.specs.SmallForms.{quote_small}
use Rattle.oracle_iface.specs.KeyLaws.{IsProper, IsCounted}
use Rattle.oracle_iface.proofs.laws.small_order_laws.Goals as goal

pub returns : goal.returns
returns c = record {
  degree = degree-small;
  order = order-small;
  chain = λ a p e. carried-normal (quote_small a) (small_cmp a) code_cmp p (λ y. IsProper a y × IsCounted a y)
      (λ x y h l. order-small a x y h.0 l.0 h.1 l.1) e;
}
