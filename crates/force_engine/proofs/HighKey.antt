-- The sphere of dimension 2 has no small cells of degree 4, and their key needs nothing.
use Rattle.std.proofs.Common.{◌≡◌, ◌<◌, [], sym, ap, subst, refl, arith}
use Rattle.std.specs.Prelude.{Contains, Result, Ok, Err}
use Rattle.std.specs.declared.alloc.AllocError.{AllocError}
use Rattle.std.proofs.lemmas.List.Elements.{All-contains_itself}
use Rattle.fp_field.specs.declared.prime.Prime.TheVariants.{Three}
use Rattle.spaces.specs.Spaces.{sphere}
use Rattle.values.specs.Asks.{Ask, basis}
use Rattle.values.specs.Outcomes.{usual_limits, outcome}
use Rattle.values.specs.Ranks.{IsValid}
use Rattle.values.specs.Values.{needs}
use Rattle.oracle_iface.specs.declared.keys.Key.{Key}
use Rattle.oracle_iface.specs.declared.bodies.Body.TheVariants.{Cells}
use Rattle.oracle_iface.specs.declared.bodies.Outcome.{Outcome}
use Rattle.oracle_iface.specs.declared.bodies.Outcome.TheVariants.{Value, Over as IsOver}
use Rattle.oracle_iface.specs.Forcing.{Calls, AsksNeeds, CoversAtValue, nothing_asked}
use Rattle.oracle_iface.specs.Keys.{question_of, key_of, needs_of, IsValidKey}
use Rattle.oracle_iface.specs.Stands.{quote_outcome, IsOutcome}
use Rattle.oracle_iface.proofs.KeysBack.{basis-back, valid-key}
use Rattle.oracle_iface.proofs.Named.{named-sphere}

abbrev high : Key
high = key_of Three (basis (sphere 2) 4)

asks : question_of high ≡ basis (sphere 2) 4
asks = basis-back Three (sphere 2) (named-sphere 2) 4

basis-valid : IsValid 3 (basis (sphere 2) 4)
basis-valid = (((omega arith, omega arith), omega arith), tt, omega arith)

nothing_needed : (q : Ask) → Contains (needs_of high) q → ⊥
nothing_needed q is = let c : Contains (needs 3 (basis (sphere 2) 4)) q = subst (λ j. Contains (needs 3 j) q) asks is in let l : c.0 < 0 = c.1 in omega (arith, l)

abbrev pub IsBare : Key → Type 0
IsBare k = IsValidKey k × (IsOutcome k (Value (Cells [])) × ((q : Ask) → Contains (needs_of k) q → ⊥))

pub high-bare : (k : Key) → k ≡ key_of Three (basis (sphere 2) 4) → IsBare k
high-bare k e = subst IsBare (sym e) (
  valid-key Three (basis (sphere 2) 4) asks basis-valid,
  (sym (ap (λ q. quote_outcome Three q (outcome usual_limits 3 q)) asks), nothing_needed),
)

-- a rule that asks for nothing, where nothing is needed
pub asks_none : {F : Type 0} (calls : Calls F) (k : Key) (s : F) (r : Result Outcome AllocError) → ((q : Ask) → Contains (needs_of k) q → ⊥) → AsksNeeds calls k s s r
asks_none calls k s r none = record { asks = []; begins = nothing_asked [] (needs_of k); whole = whole r; asked = refl }
  where
    whole : (r : Result Outcome AllocError) → CoversAtValue r [] (needs_of k)
    whole (Ok (Value b)) = λ i d lt. absurd (none _ (All-contains_itself (needs_of k) i d lt))
    whole (Ok (IsOver w)) = tt
    whole (Err e) = tt
