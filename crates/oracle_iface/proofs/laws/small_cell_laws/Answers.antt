use Rattle.oracle_iface.proofs.SmallBack.{small-back}
use Rattle.oracle_iface.proofs.ProperBases.{listed-proper}
use Rattle.oracle_iface.proofs.laws.small_cell_laws.Goals as goal

pub returns : goal.returns
returns c = record { back = small-back; proper = listed-proper; listed = λ p a n y h is. small-back a y (listed-proper p a n y h is) }
