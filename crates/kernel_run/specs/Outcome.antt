-- What a session leaves behind.
--
-- Its output grew by what a fresh kernel writes for its script, or, where a fault or want of memory stopped it, by a front of that. After a
-- read fault this front is the text of the replies to exactly the lines whose line feed was read, and after a write fault it is not all.
-- The report counts the replies that stand in what was written.
--
-- Main definitions: `Outcome`, `AnswersRead`, `ReadsTooMuch`, `OverPort`.
-- Worked values: a session on "(names)\n(names)\n" that reads pieces of 8 bytes and whose second read fails wrote "names\n", and its report
-- counts one reply; where the first read fails it wrote nothing.
use Rattle.std.specs.Prelude.{◌≡◌, ◌≢◌, ℕ, ◌<◌, ◌≤◌, List, ◌++◌, length, Option, IfSome}
use Rattle.std.specs.Io.KnownBytes.{append_known, IsAtEnd}
use Rattle.port_io.specs.Ports.{PortState, Rose, raised}
use Rattle.session_core.specs.Lines.{first_state}
use Rattle.kernel_run.specs.Fresh.{fresh, texts_from, texts_to, joined}
use Rattle.kernel_run.specs.Lines.{ended_lines_of}
use Rattle.kernel_run.specs.Counts.{sum_whole, one_reply, one_error}
use Rattle.kernel_run.specs.Session.{ReadsBytes}
use Rattle.kernel_run.specs.declared.report.SessionReport.{SessionReport}
use Rattle.kernel_run.specs.declared.report.End.{End}
use Rattle.kernel_run.specs.declared.report.End.TheVariants.{Finished, Long, ReadFault, WriteFault, Memory}

-- the session came to the end of its script
abbrev pub IsComplete : End → Type 0
IsComplete Finished = Unit {0}
IsComplete Long = Unit {0}
IsComplete ReadFault = ⊥
IsComplete WriteFault = ⊥
IsComplete Memory = ⊥

-- the script is as long as this end says
abbrev pub HasLengthFor : End → List ℕ → Type 0
HasLengthFor Finished input = length input ≤ 16777216
HasLengthFor Long input = 16777216 < length input
HasLengthFor end input = Unit {0}

pub record Outcome (input : List ℕ) (before after : Option (List ℕ)) (report : SessionReport) : Type 0 where
  pub wrote : List ℕ
  pub written : after ≡ append_known before wrote
  pub not_written : List ℕ
  pub front : fresh input ≡ wrote ++ not_written
  pub whole : IsComplete report.end → fresh input ≡ wrote
  pub short : report.end ≡ WriteFault → 0 < length not_written
  pub replies : report.replies ≡ sum_whole one_reply (texts_to input) (length wrote)
  pub errors : report.errors ≡ sum_whole one_error (texts_to input) (length wrote)

-- the output grew by the replies to exactly the lines whose line feed was read
pub record AnswersRead (before after : PortState) : Type 0 where
  pub got : List ℕ
  pub reads : ReadsBytes before after got
  pub written : after.written ≡ append_known before.written (joined (texts_from first_state (ended_lines_of got)))

-- one byte more than a script may have was read, and no byte behind it
pub record ReadsTooMuch (before after : PortState) : Type 0 where
  pub got : List ℕ
  pub reads : ReadsBytes before after got
  pub size : length got ≡ 16777217

-- one session over its port, and its report
pub record OverPort (before after : PortState) (report : SessionReport) : Type 0 where
  pub output : IfSome before.left (λ input. Outcome input before.written after.written report)
  pub size : IfSome before.left (λ input. HasLengthFor report.end input)
  pub at_end : report.end ≡ Finished → IsAtEnd after.left
  pub answered : report.end ≡ ReadFault → AnswersRead before after
  pub too_much : report.end ≡ Long → ReadsTooMuch before after
  pub read_fault : report.end ≡ ReadFault → Rose before.read_faults after.read_faults
  pub no_read_fault : report.end ≢ ReadFault → after.read_faults ≡ before.read_faults
  pub write_fault : report.end ≡ WriteFault → Rose before.write_faults after.write_faults
  pub no_write_fault : report.end ≢ WriteFault → after.write_faults ≡ before.write_faults
  pub long : report.end ≡ Long → raised before.bytes_read 16777217 ≤ after.bytes_read
  pub finished : report.end ≡ Finished → after.bytes_read ≤ raised before.bytes_read 16777216
  pub ended : report.end ≡ Finished → Rose before.empty_reads after.empty_reads
