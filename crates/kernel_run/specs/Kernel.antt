-- What the program does to its ports, and the status that it ends with.
--
-- This is the end of the thread: what `run_kernel` says of the ports that it uses, on the words of one session and on words of no form; what it
-- says on those of a batch stands in `Batch`. Below it stand `Words` (which words are a form), `Fresh` (what is written for a script) and
-- `Truth` (what the replies say of the spaces themselves), and in `session_core` what a line and a command come to (`Lines`, `Answer`).
--
-- Main definitions: `OneSession`, `ShowsUsage`, `unused`.
-- Worked value: one session whose console has "(names)\n" and no fault writes "names\n", with status 0.
use Rattle.std.specs.Prelude.{◌≡◌, ◌⊎◌, ℕ, ◌≤◌, ◌<◌, List, ◌∷◌, ◌++◌, take, drop, length, IfSome, if◌then◌else◌}
use Rattle.std.specs.Io.KnownBytes.{append_known, IsAtEnd}
use Rattle.port_io.specs.Ports.{PortState, Rose, raised}
use Rattle.kernel_run.specs.Fresh.{fresh}
use Rattle.kernel_run.specs.Outcome.{AnswersRead, ReadsTooMuch}
use Rattle.kernel_run.specs.Truth.{AreHomologyLists}
use Rattle.kernel_run.specs.Session.{ReadsNothing}
use Rattle.kernel_run.specs.Words.{usage, is_batch}

-- a count of faults of this port rose
abbrev pub HasFault : PortState → PortState → Type 0
HasFault before after = Rose before.read_faults after.read_faults ⊎ Rose before.write_faults after.write_faults

-- where all is told, what a fresh kernel writes for the input, whole at the statuses 0 and 4 and else a front of it, which is not all after a
-- write fault
pub record WritesFresh (input : List ℕ) (before after : PortState) (code : ℕ) : Type 0 where
  pub wrote : List ℕ
  pub written : after.written ≡ append_known before.written wrote
  pub not_written : List ℕ
  pub front : fresh input ≡ wrote ++ not_written
  pub whole : (code ≡ 0) ⊎ (code ≡ 4) → fresh input ≡ wrote
  pub less : code ≡ 3 → (Rose before.read_faults after.read_faults → ⊥) → 0 < length not_written
  pub long : code ≡ 4 → 16777216 < length input
  pub short : code ≡ 0 → length input ≤ 16777216

-- one session over the console
pub record OneSession (before after : PortState) (code : ℕ) : Type 0 where
  pub listed : (code ≡ 0) ⊎ (code ≡ 3) ⊎ (code ≡ 4) ⊎ (code ≡ 5)
  pub output : IfSome before.left (λ input. WritesFresh input before after code)
  pub homology : IfSome before.left AreHomologyLists
  pub fault : code ≡ 3 → HasFault before after
  -- after a read fault the replies to the lines whose line feed was read
  pub answered : code ≡ 3 → (Rose before.write_faults after.write_faults → ⊥) → AnswersRead before after
  pub no_fault : (code ≡ 0) ⊎ (code ≡ 4) → (after.read_faults ≡ before.read_faults) × (after.write_faults ≡ before.write_faults)
  pub long : code ≡ 4 → raised before.bytes_read 16777217 ≤ after.bytes_read
  pub too_much : code ≡ 4 → ReadsTooMuch before after
  pub short : code ≡ 0 → after.bytes_read ≤ raised before.bytes_read 16777216
  pub ended : code ≡ 0 → Rose before.empty_reads after.empty_reads
  pub at_end : code ≡ 0 → IsAtEnd after.left

-- the usage line, whole or up to a fault, and nothing is read
pub record ShowsUsage (before after : PortState) : Type 0 where
  pub reads : ReadsNothing before after
  pub count : ℕ
  pub written : after.written ≡ append_known before.written (take count usage)
  pub short : (length usage ≤ count) ⊎ Rose before.write_faults after.write_faults

-- a fact of the first port, before and after
abbrev pub AtConsole : (PortState → PortState → Type 0) → List PortState → List PortState → Type 0
AtConsole P (a ∷ olds) (b ∷ news) = P a b
AtConsole P olds news = ⊥

-- the ports that the words do not use: in a batch the one of the word `batch`, and else all but the console
abbrev pub unused : {P : Type 0} → List (List ℕ) → List P → List P
unused words ports = if is_batch words then take 1 (drop 1 ports) else drop 1 ports
