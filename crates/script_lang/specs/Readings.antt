-- Reading from left to right, up to the first fault: what was read and the bytes behind it, or how many bytes are left at the fault, the
-- faulty one among them (recursive descent: Wirth, Compiler Construction, 1996).
--
--   reading one byte 40 from 40 ∷ 41 ∷ [] gives Ok (tt, 41 ∷ []), and from 41 ∷ [] it gives Err 1
use Rattle.std.specs.Prelude.{◌≡◌, ℕ, zero, suc, ◌+◌, ◌≤◌, List, [], ◌∷◌, length, Option, Some, None, Result, Ok, Err}
use Rattle.script_lang.specs.declared.faults.Stop.{Stop}
use Rattle.script_lang.specs.declared.faults.Stop.TheVariants as stops

abbrev pub Reading : Type 0 → Type 0
Reading A = Result (A × List ℕ) ℕ

infixl 10 ◌>>=◌
abbrev pub ◌>>=◌ : {A B : Type 0} → Reading A → (A × List ℕ → Reading B) → Reading B
(Ok x) >>= f = f x
(Err left) >>= f = Err left

-- what a run is taken for, or how many of its bytes are left at the fault
abbrev pub Judged : Type 0 → Type 0
Judged A = Result A ℕ

-- ---- what methods return

abbrev pub Fails : {Y : Type 0} → Stop → Reading Y → Type 0
Fails stops.Memory reading = Unit {0}
Fails (stops.Fault left) reading = reading ≡ Err left

-- What a method returned, with the bytes that it left, is what reading gives, unless memory ran out.
abbrev pub Gives : {X : Type 0} → List ℕ → Result X Stop → Reading X → Type 0
Gives rest (Ok x) reading = reading ≡ Ok (x, rest)
Gives rest (Err stop) reading = Fails stop reading

-- the same for a run, which is a part of the line
abbrev pub GivesRun : {X : Type 0} → (X → List ℕ) → List ℕ → Result X Stop → Reading (List ℕ) → Type 0
GivesRun view rest (Ok x) reading = reading ≡ Ok (view x, rest)
GivesRun view rest (Err stop) reading = Fails stop reading

-- What a function returned for a run is what the run is taken for, unless memory ran out.
abbrev pub Judges : {X : Type 0} → Result X Stop → Judged X → Type 0
Judges (Ok x) judged = judged ≡ Ok x
Judges (Err stops.Memory) judged = Unit {0}
Judges (Err (stops.Fault left)) judged = judged ≡ Err left

-- a fault lies within so many bytes
abbrev pub IsWithin : {X : Type 0} → ℕ → Result X Stop → Type 0
IsWithin len (Ok x) = Unit {0}
IsWithin len (Err stops.Memory) = Unit {0}
IsWithin len (Err (stops.Fault left)) = left ≤ len

-- ---- a run that is taken for something

-- the fault of a run, with what is left behind it
abbrev pub taken : {A : Type 0} → List ℕ → Judged A → Reading A
taken rest (Ok x) = Ok (x, rest)
taken rest (Err left) = Err (left + length rest)

-- what a function returned for a run that is taken so
abbrev pub TakenAs : {X : Type 0} → List ℕ → Result X Stop → Result X Stop → Type 0
TakenAs rest (Ok x) result = result ≡ Ok x
TakenAs rest (Err stops.Memory) result = result ≡ Err stops.Memory
TakenAs rest (Err (stops.Fault left)) result = result ≡ Err (stops.Fault (left + length rest))

-- whether nothing is left
abbrev pub ends_at : List ℕ → Result (Unit {0}) Stop
ends_at [] = Ok tt
ends_at (b ∷ bytes) = Err (stops.Fault (length (b ∷ bytes)))

-- the whole of a run
abbrev pub judged : {A : Type 0} → Reading A → Judged A
judged (Ok (x, [])) = Ok x
judged (Ok (x, b ∷ bytes)) = Err (length (b ∷ bytes))
judged (Err left) = Err left

abbrev pub whole : {A : Type 0} → (List ℕ → Reading A) → List ℕ → Judged A
whole read run = judged (read run)

-- ---- repeated parts

abbrev pub step_on : {A : Type 0} → (List ℕ → Reading (List A)) → Option A × List ℕ → Reading (List A)
step_on more (None, bytes) = Ok ([], bytes)
step_on more (Some x, bytes) = more bytes >>= λ xs. Ok (x ∷ xs.0, xs.1)

-- at most so many parts
unfoldable pub loop_at : {A : Type 0} → (List ℕ → Reading (Option A)) → ℕ → List ℕ → Reading (List A)
loop_at part zero bytes = Err (length bytes)
loop_at part (suc fuel) bytes = part bytes >>= step_on (loop_at part fuel)

-- Parts, up to what reads as nothing. Each takes a byte, so that there are no more than bytes.
unfoldable pub until_at : {A : Type 0} → (List ℕ → Reading (Option A)) → List ℕ → Reading (List A)
until_at part bytes = loop_at part (suc (length bytes)) bytes
