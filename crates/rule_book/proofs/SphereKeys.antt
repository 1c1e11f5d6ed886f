-- Valid keys about spheres.
use Rattle.std.proofs.Common.{ℕ, refl, sym, subst, arith}
use Rattle.std.specs.Prelude.{Contains}
use Rattle.fp_field.specs.declared.prime.Prime.{Prime}
use Rattle.fp_field.specs.Field.{number}
use Rattle.spaces.specs.Spaces.{sphere}
use Rattle.cells.specs.declared.cells.Cell.TheVariants.{Top}
use Rattle.cells.specs.declared.cells.SmallCell.TheVariants.{One}
use Rattle.term_lang.specs.declared.terms.Term.TheVariants.{Sphere}
use Rattle.term_lang.proofs.SpacesOfTerms.{space-Sphere}
use Rattle.values.specs.Asks.{basis, g}
use Rattle.values.specs.Ranks.{IsValid}
use Rattle.values.proofs.BasesCells.{sphere-cell}
use Rattle.oracle_iface.specs.declared.keys.Op.TheVariants.{Basis, G}
use Rattle.oracle_iface.specs.declared.keys.Place.TheVariants.{Degree, Small as SmallPlace}
use Rattle.oracle_iface.proofs.KeysBack.{sphere-valid-back, valid-key}
use Rattle.rule_book.specs.RowSpaces.{HasRows, IsRowKey}

rows : (m : ℕ) → HasRows (Rattle.term_lang.specs.SpaceOf.space_of (Sphere m))
rows m = subst HasRows (sym (space-Sphere m)) tt

pub basis-row_key : (p : Prime) → IsRowKey (record { op = Basis; prime = p; place = Degree 2; term = Sphere 2 })
basis-row_key p = (valid-key p (basis (sphere 2) 2) (sphere-valid-back p (basis (sphere 2) 2) 2 refl valid) valid, rows 2)
  where
    valid : IsValid (number p) (basis (sphere 2) 2)
    valid = (((omega arith, omega arith), omega arith), tt, omega arith)

pub g-row_key : (p : Prime) → IsRowKey (record { op = G; prime = p; place = SmallPlace (One (Top 2)); term = Sphere 2 })
g-row_key p = (valid-key p (g (sphere 2) 1) (sphere-valid-back p (g (sphere 2) 1) 2 refl valid) valid, rows 2)
  where
    valid : IsValid (number p) (g (sphere 2) 1)
    valid = (((omega arith, omega arith), omega arith), subst (λ ys. Contains ys 1) (sym (sphere-cell (number p) 2 (omega arith))) (0, omega arith, refl), omega arith)
