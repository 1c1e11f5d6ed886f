-- Calls of a forcer on keys, one after the other, and which of its needs a rule asks for.
--
-- The needs of a key stand in the order of evaluation, with repeats. A rule may keep what it has asked for, so repeats are left out on
-- both sides: what it asks for is a beginning of the needs, and all of them where it gives a value.
--
--   of the needs a, b, a, c a rule that asks for a, then b, then a has asked for the first two of the three
use Rattle.std.specs.Prelude.{◌≡◌, List, [], ◌∷◌, ◌++◌, map, All, Contains, Result, Ok, Err}
use Rattle.std.proofs.Common.{sym, subst}
use Rattle.std.specs.declared.alloc.AllocError.{AllocError}
use Rattle.values.specs.Asks.{Ask}
use Rattle.oracle_iface.specs.declared.keys.Key.{Key}
use Rattle.oracle_iface.specs.declared.bodies.Outcome.{Outcome}
use Rattle.oracle_iface.specs.declared.bodies.Outcome.TheVariants.{Value, Over as IsOver}
use Rattle.oracle_iface.specs.declared.cell_values.CellValue.{CellValue}
use Rattle.oracle_iface.specs.Keys.{key_of, needs_of}

-- a call: the state, the key, the answer, the state after it
abbrev pub Calls : Type 0 → Type 1
Calls F = F → Key → Result CellValue AllocError → F → Type 0

-- t is reached from s by calls on these keys, one after the other, whatever the answers
abbrev pub Asked : {F : Type 0} → Calls F → F → List Key → F → Type 0
Asked calls s [] t = s ≡ t
Asked {F} calls s (k ∷ ks) t = (u : F) × (r : Result CellValue AllocError) × calls s k r u × Asked calls u ks t

pub asked-both : {F : Type 0} (calls : Calls F) (s t u : F) (a b : List Key) → Asked calls s a t → Asked calls t b u → Asked calls s (a ++ b) u
asked-both calls s t u [] b h g = subst (λ x. Asked calls x b u) (sym h) g
asked-both calls s t u (k ∷ a) b h g = (h.0, h.1, h.2, asked-both calls h.0 t u a b h.3 g)

-- each need of the key may be asked for now, and in every state in which calls on its needs can leave the forcer
abbrev pub MayForceNeeds : {F : Type 0} → (F → Key → Type 0) → Calls F → Key → F → Type 0
MayForceNeeds {F} may calls key s =
    (qs : List Ask) (t : F) (q : Ask) → All (Contains (needs_of key)) qs → Asked calls s (map (key_of key.prime) qs) t → Contains (needs_of key) q
    → may t (key_of key.prime q)

-- Both lists are read from the left, with what was seen so far: the questions, repeats left out, are those at the beginning of the
-- needs, repeats left out.
pub data Begins : List Ask → List Ask → List Ask → Type 0 where
  nothing_asked : (seen ns : List Ask) → Begins seen [] ns
  asked_before : (seen : List Ask) (q : Ask) (qs ns : List Ask) → Contains seen q → Begins seen qs ns → Begins seen (q ∷ qs) ns
  needed_before : (seen : List Ask) (n : Ask) (qs ns : List Ask) → Contains seen n → Begins seen qs ns → Begins seen qs (n ∷ ns)
  asked_now : (seen : List Ask) (q : Ask) (qs ns : List Ask) → Begins (q ∷ seen) qs ns → Begins seen (q ∷ qs) (q ∷ ns)

-- each need is among the questions, where the outcome is a value
abbrev pub CoversAtValue : Result Outcome AllocError → List Ask → List Ask → Type 0
CoversAtValue (Ok (Value b)) qs ns = All (Contains qs) ns
CoversAtValue (Ok (IsOver w)) qs ns = Unit {0}
CoversAtValue (Err e) qs ns = Unit {0}

-- what a rule asks for
pub record AsksNeeds {F : Type 0} (calls : Calls F) (key : Key) (s t : F) (r : Result Outcome AllocError) : Type 0 where
  pub asks : List Ask
  pub begins : Begins [] asks (needs_of key)
  pub whole : CoversAtValue r asks (needs_of key)
  pub asked : Asked calls s (map (key_of key.prime) asks) t
