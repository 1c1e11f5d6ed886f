-- The keys of worked values: the small cells of a degree of the sphere of dimension 2, over F_3.
--
--   in degree 5 there is none, so the key of degree 5 comes to the value that has no cells
use Rattle.std.specs.Prelude.{ℕ}
use Rattle.fp_field.specs.declared.prime.Prime.TheVariants.{Three}
use Rattle.term_lang.specs.declared.terms.Term.TheVariants.{Sphere}
use Rattle.oracle_iface.specs.declared.keys.Key.{Key}
use Rattle.oracle_iface.specs.declared.keys.Op.TheVariants.{Basis}
use Rattle.oracle_iface.specs.declared.keys.Place.TheVariants.{Degree}

abbrev pub sphere_key : ℕ → Key
sphere_key degree = record { op = Basis; prime = Three; place = Degree degree; term = Sphere 2 }
