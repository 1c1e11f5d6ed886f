-- Worked values: a key that comes to no cells.
use Rattle.std.proofs.Common.{◌≡◌, refl, sym, ap, subst, []}
use Rattle.fp_field.specs.declared.prime.Prime.TheVariants.{Three}
use Rattle.spaces.specs.Spaces.{sphere}
use Rattle.term_lang.proofs.SpacesOfTerms.{space-Sphere}
use Rattle.values.specs.Asks.{basis}
use Rattle.values.specs.Outcomes.{outcome, usual_limits}
use Rattle.oracle_iface.specs.Keys.{question_of}
use Rattle.oracle_iface.specs.Stands.{IsOutcome, quote_outcome}
use Rattle.oracle_iface.specs.declared.bodies.Body.TheVariants.{Cells}
use Rattle.oracle_iface.specs.declared.bodies.Outcome.TheVariants.{Value}
use Rattle.memo_book.specs.Worked.{sphere_key}

none_in_five : Value (Cells []) ≡ quote_outcome Three (basis (sphere 2) 5) (outcome usual_limits 3 (basis (sphere 2) 5))
none_in_five = refl

asked : question_of (sphere_key 5) ≡ basis (sphere 2) 5
asked = ap (λ s. basis s 5) (space-Sphere 2)

pub no_cells : IsOutcome (sphere_key 5) (Value (Cells []))
no_cells = subst (λ q. Value (Cells []) ≡ quote_outcome Three q (outcome usual_limits 3 q)) (sym asked) none_in_five
