-- Keys that are asked for one after the other, up to the first refusal.
--
-- What a key comes to is determined by the key, so what a list of keys comes to is determined too: the first refusal along the list, or
-- else the values of all.
--
--   of the keys a, b, c, where b is past a limit, a and b are asked for, and the refusal is that of b
use Rattle.std.specs.Prelude.{◌≡◌, ℕ, List, [], ◌∷◌, map, take, Option, Some, None, Result, Ok}
use Rattle.std.specs.declared.alloc.AllocError.{AllocError}
use Rattle.fp_field.specs.Field.{number}
use Rattle.values.specs.Outcomes.{usual_limits, outcome}
use Rattle.oracle_iface.specs.declared.keys.Key.{Key}
use Rattle.oracle_iface.specs.declared.bodies.Over.{Over}
use Rattle.oracle_iface.specs.declared.bodies.Outcome.{Outcome}
use Rattle.oracle_iface.specs.declared.bodies.Outcome.TheVariants.{Value, Over as IsOver}
use Rattle.oracle_iface.specs.declared.cell_values.CellValue.{CellValue}
use Rattle.oracle_iface.specs.Keys.{question_of}
use Rattle.oracle_iface.specs.Stands.{quote_outcome}
use Rattle.oracle_iface.specs.Forcing.{Calls, Asked}
use Rattle.homology_rules.specs.declared.asking.Answers.{Answers}
use Rattle.homology_rules.specs.declared.asking.Answers.TheVariants.{Values, Over as Refused}

-- what a key comes to
unfoldable pub outcome_of : Key → Outcome
outcome_of k = quote_outcome k.prime (question_of k) (outcome usual_limits (number k.prime) (question_of k))

-- the refusal that an outcome is
abbrev pub refusal_in : Outcome → Option Over
refusal_in (Value b) = None
refusal_in (IsOver w) = Some w

-- the first refusal along some keys
abbrev pub first_refusal : List Key → Option Over
first_refusal [] = None
first_refusal (k ∷ ks) = elim (refusal_in (outcome_of k)) [ Some w ↦ Some w | None ↦ first_refusal ks ]

-- the keys up to the first that is refused, that one included
abbrev pub up_to_refusal : List Key → List Key
up_to_refusal [] = []
up_to_refusal (k ∷ ks) = k ∷ elim (refusal_in (outcome_of k)) [ Some w ↦ [] | None ↦ up_to_refusal ks ]

-- each key up to the first that is refused may be asked for, after calls on those before it
abbrev pub MayForceEach : {F : Type 0} → (F → Key → Type 0) → Calls F → F → List Key → Type 0
MayForceEach may calls s [] = Unit {0}
MayForceEach {F} may calls s (k ∷ ks) = may s k × ((r : Result CellValue AllocError) (t : F) → calls s k r t → refusal_in (outcome_of k) ≡ None → MayForceEach may calls t ks)

-- the first n of the keys up to a refusal were asked for
abbrev pub AskedFirst : {F : Type 0} → Calls F → List Key → F → F → Type 0
AskedFirst calls ks s t = (n : ℕ) × Asked calls s (take n (up_to_refusal ks)) t

-- t is reached from s by calls on these keys, one after the other, each answered by a cell
abbrev pub EachAnswered : {F : Type 0} → Calls F → F → List Key → F → Type 0
EachAnswered calls s [] t = s ≡ t
EachAnswered {F} calls s (k ∷ ks) t = (u : F) × (v : CellValue) × calls s k (Ok v) u × EachAnswered calls u ks t

-- all keys have values, and these are their cells
pub record AllAnswered {F : Type 0} (calls : Calls F) (ks : List Key) (s t : F) (cells : List CellValue) : Type 0 where
  pub none_refused : first_refusal ks ≡ None
  pub keys_are : map (λ v. v.key) cells ≡ ks
  pub asked : Asked calls s ks t

-- what keys come to
abbrev pub IsAnswered : {F : Type 0} → Calls F → List Key → F → F → Answers → Type 0
IsAnswered calls ks s t (Values cells) = AllAnswered calls ks s t cells.items
IsAnswered calls ks s t (Refused w) = first_refusal ks ≡ Some w
