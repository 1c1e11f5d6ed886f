-- The keys of an operation at cells of the space of a key, over its field.
--
--   of a key of Sphere(2) over F_3, the key of F at Top(2) is F over F_3, at Top(2), of Sphere(2)
use Rattle.cells.specs.declared.cells.Cell.{Cell}
use Rattle.oracle_iface.specs.declared.keys.Op.{Op}
use Rattle.oracle_iface.specs.declared.keys.Place.TheVariants.{Big}
use Rattle.oracle_iface.specs.declared.keys.Key.{Key}

abbrev pub cell_key_of : Key → Op → Cell → Key
cell_key_of k o x = record { op = o; prime = k.prime; place = Big x; term = k.term }
