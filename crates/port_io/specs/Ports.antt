-- What a port means: the bytes on both of its sides, where it tells them, and its four counts.
--
-- A port is the kernel's only way to the world outside. A port over memory tells all of its bytes; one over a file or
-- a terminal tells none, and keeps the counts alone. The words are this project's own. They follow std's `Read` and
-- `Write`: a call moves some bytes from the front of what there is, and says how many.
--
-- Main definitions: `PortState`, `Rose`, and of a read or a write `Takes`, `Puts`, `EndsAt`, `CountsBytes`,
-- `CountsEmpty`, `CountsFaults`.
-- Worked value: a read that answers Ok(2) on the bytes "abc" leaves "c" and adds 2 to `bytes_read`.
use Rattle.std.specs.Prelude.{if◌then◌else◌, ◌==◌, ◌≡◌, ℕ, ◌+◌, ◌-◌, ◌^◌, ◌≤◌, min, max, List, take, Option, None, Result, Ok, Err}
use Rattle.std.specs.Io.KnownBytes.{prepend_known, append_known, IsAtEnd}

-- the last value of a count
abbrev pub last_count : ℕ
last_count = 2 ^ 64 - 1

-- a count that rises by n, and stands still at its last value
abbrev pub raised : ℕ → ℕ → ℕ
raised count n = max count (min (count + n) last_count)

-- a count rose, or stands at its last value
abbrev pub Rose : ℕ → ℕ → Type 0
Rose before after = raised before 1 ≤ after

pub record PortState : Type 0 where
  -- the input that is left, where it is told
  pub left : Option (List ℕ)
  -- the output so far, where it is told
  pub written : Option (List ℕ)
  pub read_faults : ℕ
  pub write_faults : ℕ
  -- how many bytes the reads gave
  pub bytes_read : ℕ
  -- how many reads answered Ok(0)
  pub empty_reads : ℕ

-- a new port that tells no bytes
abbrev pub untold : PortState
untold = record { left = None; written = None; read_faults = 0; write_faults = 0; bytes_read = 0; empty_reads = 0 }

-- an Ok(n) took the first n bytes that were left, and put them at the front of buf; an Err took nothing
abbrev pub Takes : {E : Type 0} → Option (List ℕ) → Option (List ℕ) → Result ℕ E → List ℕ → Type 0
Takes before after (Ok n) buf = before ≡ prepend_known (take n buf) after
Takes before after (Err e) buf = after ≡ before

-- an Ok(n) appended the first n bytes of the piece; an Err appended nothing
abbrev pub Puts : {E : Type 0} → Option (List ℕ) → Option (List ℕ) → Result ℕ E → List ℕ → Type 0
Puts before after (Ok n) piece = after ≡ append_known before (take n piece)
Puts before after (Err e) piece = after ≡ before

-- an Ok(0) comes only at the end of the input, where that is told
abbrev pub EndsAt : {E : Type 0} → Option (List ℕ) → Result ℕ E → Type 0
EndsAt before (Ok n) = n ≡ 0 → IsAtEnd before
EndsAt before (Err e) = Unit {0}

-- an Ok(n) raised the number of bytes read by n
abbrev pub CountsBytes : {E : Type 0} → ℕ → ℕ → Result ℕ E → Type 0
CountsBytes before after (Ok n) = after ≡ raised before n
CountsBytes before after (Err e) = after ≡ before

-- an Ok(0) raised the number of empty reads by 1
abbrev pub CountsEmpty : {E : Type 0} → ℕ → ℕ → Result ℕ E → Type 0
CountsEmpty before after (Ok n) = after ≡ (if n == 0 then raised before 1 else before)
CountsEmpty before after (Err e) = after ≡ before

-- an Err raised the count of faults; an Ok left it
abbrev pub CountsFaults : {E : Type 0} → ℕ → ℕ → Result ℕ E → Type 0
CountsFaults before after (Ok n) = after ≡ before
CountsFaults before after (Err e) = Rose before after
