-- The keys of an operation at small cells of the space of a key, over its field.
use Rattle.cells.specs.declared.cells.SmallCell.{SmallCell}
use Rattle.oracle_iface.specs.declared.keys.Op.{Op}
use Rattle.oracle_iface.specs.declared.keys.Place.TheVariants.{Small}
use Rattle.oracle_iface.specs.declared.keys.Key.{Key}

abbrev pub small_key_of : Key → Op → SmallCell → Key
small_key_of k o y = record { op = o; prime = k.prime; place = Small y; term = k.term }
