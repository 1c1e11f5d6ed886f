use Rattle.term_lang.proofs.TableForms.{table_cells}
use Rattle.term_lang.proofs.SphereForms.{sphere_cells}
use Rattle.oracle_iface.proofs.CellOrders.{order-cells, chain-cells}
use Rattle.oracle_iface.proofs.laws.cell_laws.Goals as goal

pub returns : goal.returns
returns c = record { tables = table_cells; spheres = sphere_cells; order = λ a cells. order-cells a cells; chain = λ a p e cells. chain-cells a cells p e }
