-- Terms of the constructions that there is code for, by their parts.
use Rattle.std.proofs.Common.{◌≡◌, ℕ, ℤ, List, sym, subst}
use Rattle.term_lang.specs.declared.tables.Row.{Row}
use Rattle.term_lang.specs.declared.terms.Term.{Term}
use Rattle.term_lang.specs.declared.terms.Term.TheVariants.{Table, Sphere, Product, Suspension, KZ1, Bundle}
use Rattle.term_lang.specs.SpaceOf.{space_of}
use Rattle.term_lang.proofs.SpacesOfTerms.{space-Product, space-Suspension}
use Rattle.normal_forms.specs.Built.{IsBuilt}
use Rattle.script_lang.proofs.ResolveTerms.{sphere_built, table_built, integers_built, bundle_built}

pub sphere_is : (m : ℕ) → IsBuilt (space_of (Sphere m))
sphere_is m = sphere_built m

pub table_is : (rows : List Row) → IsBuilt (space_of (Table rows))
table_is rows = table_built rows

pub integers_are : IsBuilt (space_of KZ1)
integers_are = integers_built

pub suspension_is : (part : Term) → IsBuilt (space_of part) → IsBuilt (space_of (Suspension part))
suspension_is part b = subst IsBuilt (sym (space-Suspension part)) b

pub product_is : (left right : Term) → IsBuilt (space_of left) → IsBuilt (space_of right) → IsBuilt (space_of (Product left right))
product_is left right a b = subst IsBuilt (sym (space-Product left right)) (a, b)

pub bundle_is : (rows : List Row) (values : List ℤ) → IsBuilt (space_of (Bundle rows values))
bundle_is rows values = bundle_built rows values
