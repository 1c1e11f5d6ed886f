-- The cycles of degree 4 of the sphere of dimension 2 need the small cells of degrees 4 and 5, of which there are none.
use Rattle.std.proofs.Common.{◌≡◌, ℕ, ◌<◌, [], sym, ap, subst, arith}
use Rattle.std.specs.Prelude.{Contains}
use Rattle.fp_field.specs.declared.prime.Prime.TheVariants.{Three}
use Rattle.spaces.specs.Spaces.{sphere}
use Rattle.values.specs.Asks.{Ask, basis, cycles}
use Rattle.values.specs.Outcomes.{usual_limits, outcome}
use Rattle.values.specs.Ranks.{IsValid}
use Rattle.values.specs.Values.{value, needs}
use Rattle.values.proofs.BasesCells.{sphere-no_other}
use Rattle.term_lang.specs.SpaceOf.{space_of}
use Rattle.oracle_iface.specs.declared.keys.Key.{Key}
use Rattle.oracle_iface.specs.declared.bodies.Body.TheVariants.{Cells}
use Rattle.oracle_iface.specs.declared.bodies.Outcome.TheVariants.{Value}
use Rattle.oracle_iface.specs.Forcing.{Calls, MayForceNeeds}
use Rattle.oracle_iface.specs.KeyLaws.{CyclesNeed, cells_in, cells_above, differential_in, differential_above, carried}
use Rattle.oracle_iface.specs.Keys.{question_of, key_of, IsValidKey}
use Rattle.oracle_iface.specs.Stands.{quote_outcome, IsOutcome}
use Rattle.oracle_iface.proofs.CyclesNeeds.{cycles-need}
use Rattle.oracle_iface.proofs.KeysBack.{basis-back, cycles-back, valid-key}
use Rattle.oracle_iface.proofs.Named.{named-sphere}
use Rattle.homology_rules.specs.Shown.{HasShownValues}
use Rattle.homology_rules.proofs.ShownRows.{sphere-shown}

abbrev high : Key
high = key_of Three (cycles (sphere 2) 4)

cycles-valid : IsValid 3 (cycles (sphere 2) 4)
cycles-valid = (((omega arith, omega arith), omega arith), tt, omega arith)

pub high-valid : IsValidKey high
high-valid = valid-key Three (cycles (sphere 2) 4) (cycles-back Three (sphere 2) (named-sphere 2) 4) cycles-valid

pub high-shown : HasShownValues 3 (space_of high.term)
high-shown = subst (HasShownValues 3) (sym (named-sphere 2)) (sphere-shown 3 2 (omega arith) (omega arith))

high-asks : question_of high ≡ cycles (sphere 2) 4
high-asks = cycles-back Three (sphere 2) (named-sphere 2) 4

module _ (n : ℕ) (above : 2 < n) where
  nothing : value 3 (basis (sphere 2) n) ≡ []
  nothing = sphere-no_other 3 2 n (λ e. omega (arith, e)) (λ e. omega (arith, e))

  not_listed : (y : ℕ) → Contains (value 3 (basis (sphere 2) n)) y → ⊥
  not_listed y is = let h : Contains [] y = subst (λ ys. Contains ys y) nothing is in absurd (omega (arith, h.1))

four : IsOutcome (key_of Three (basis (sphere 2) 4)) (Value (Cells []))
four = sym (ap (λ q. quote_outcome Three q (outcome usual_limits 3 q)) (basis-back Three (sphere 2) (named-sphere 2) 4))

five : IsOutcome (key_of Three (basis (sphere 2) 5)) (Value (Cells []))
five = sym (ap (λ q. quote_outcome Three q (outcome usual_limits 3 q)) (basis-back Three (sphere 2) (named-sphere 2) 5))

abbrev IsEmpty : Key → Type 0
IsEmpty k = IsOutcome k (Value (Cells []))

need-empty : (q : Ask) → CyclesNeed 3 (sphere 2) 4 q → IsEmpty (key_of Three q)
need-empty q (cells_in e) = subst (λ j. IsEmpty (key_of Three j)) (sym e) four
need-empty q (cells_above e) = subst (λ j. IsEmpty (key_of Three j)) (sym e) five
need-empty q (differential_in y is e) = absurd (not_listed 4 (omega arith) y is)
need-empty q (differential_above y is e) = absurd (not_listed 5 (omega arith) y is)
need-empty q (carried y is e) = absurd (not_listed 4 (omega arith) y is)

pub high-may : (k : Key) → k ≡ high → {F : Type 0} (calls : Calls F) (s : F) → MayForceNeeds (λ t j. IsEmpty j) calls k s
high-may k e calls s = subst (λ j. MayForceNeeds (λ t i. IsEmpty i) calls j s) (sym e)
    (λ qs t q all asked is. need-empty q (cycles-need 3 (sphere 2) 4 q (subst (λ j. Contains (needs 3 j) q) high-asks is)))
