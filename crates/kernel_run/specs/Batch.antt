-- What a batch of sessions does to its ports, and the status that it ends with.
--
-- Each session reads the script of its own port and writes there what a fresh kernel writes for this script alone, whatever the other
-- sessions do at the same time: `Outcome` speaks of its own input and its own output. Then the console gets one line for each session, in
-- order of words. The status follows from how the sessions and the writing of these lines ended.
--
-- Main definitions: `SessionOver`, `EachSession`, `Batch`, `BatchOver`.
-- Worked value: a batch of the words a and b, whose ports have "(names)\n" and "(field 4)\n" and no fault, writes "names\n" and
-- "error field 4\n" to them and "a: 1 replies, 0 errors, ok\nb: 1 replies, 1 errors, ok\n" to the console, with status 0.
use Rattle.std.specs.Prelude.{◌≡◌, ◌≢◌, ◌⊎◌, ℕ, ◌≤◌, List, [], ◌∷◌, map, drop, IfSome}
use Rattle.std.specs.Io.KnownBytes.{append_known, IsAtEnd}
use Rattle.port_io.specs.Ports.{PortState, Rose, raised}
use Rattle.kernel_run.specs.Fresh.{fresh}
use Rattle.kernel_run.specs.Kernel.{HasFault}
use Rattle.kernel_run.specs.Outcome.{Outcome, HasLengthFor, AnswersRead, ReadsTooMuch}
use Rattle.kernel_run.specs.Progress.{WritesBy}
use Rattle.kernel_run.specs.Session.{ReadsNothing}
use Rattle.kernel_run.specs.Summary.{summary}
use Rattle.kernel_run.specs.Truth.{AreHomologyLists}
use Rattle.kernel_run.specs.Words.{code_of_all}
use Rattle.kernel_run.specs.declared.report.SessionReport.{SessionReport}
use Rattle.kernel_run.specs.declared.report.End.{End}
use Rattle.kernel_run.specs.declared.report.End.TheVariants.{Finished, Long, ReadFault, WriteFault, Memory}

-- one session over its port, and its report
pub record SessionOver (before after : PortState) (report : SessionReport) : Type 0 where
  -- what a fresh kernel writes for the input of this port, or a front of it, and the counts of what was written
  pub output : IfSome before.left (λ input. Outcome input before.written after.written report)
  -- all of it, where memory was not wanting and the port had no fault
  pub whole : report.end ≢ Memory → (HasFault before after → ⊥) → IfSome before.left (λ input. after.written ≡ append_known before.written (fresh input))
  pub homology : IfSome before.left AreHomologyLists
  pub size : IfSome before.left (λ input. HasLengthFor report.end input)
  pub at_end : report.end ≡ Finished → IsAtEnd after.left
  -- after a read fault the replies to the lines whose line feed was read, and of a script that is too long one byte more than it may have
  pub answered : report.end ≡ ReadFault → AnswersRead before after
  pub too_much : report.end ≡ Long → ReadsTooMuch before after
  pub read_fault : report.end ≡ ReadFault → Rose before.read_faults after.read_faults
  pub no_read_fault : report.end ≢ ReadFault → after.read_faults ≡ before.read_faults
  pub write_fault : report.end ≡ WriteFault → Rose before.write_faults after.write_faults
  pub no_write_fault : report.end ≢ WriteFault → after.write_faults ≡ before.write_faults
  pub long : report.end ≡ Long → raised before.bytes_read 16777217 ≤ after.bytes_read
  pub short : report.end ≡ Finished → after.bytes_read ≤ raised before.bytes_read 16777216
  pub ended : report.end ≡ Finished → Rose before.empty_reads after.empty_reads

-- one session over each port, and the reports in the same order
abbrev pub EachSession : List PortState → List PortState → List SessionReport → Type 0
EachSession [] [] [] = Unit {0}
EachSession (a ∷ olds) (b ∷ news) (report ∷ reports) = SessionOver a b report × EachSession olds news reports
EachSession olds news reports = ⊥

-- how sessions ended
abbrev pub ends_of : List SessionReport → List End
ends_of reports = map (λ report. report.end) reports

-- the sessions of scripts with these names, over their ports, and the console
pub record Batch (names : List (List ℕ)) (console console' : PortState) (olds news : List PortState) (code : ℕ) : Type 0 where
  pub reports : List SessionReport
  pub sessions : EachSession olds news reports
  -- how the writing of the lines ended: Finished with all of them, WriteFault with fewer and a fault, Memory with none
  pub shown : End
  pub lines : WritesBy shown console console' (summary names reports)
  pub reads : ReadsNothing console console'
  pub status : code ≡ code_of_all (shown ∷ ends_of reports)

-- no port was used, since memory was wanting
pub record NotBegun (console console' : PortState) (olds news : List PortState) (code : ℕ) : Type 0 where
  pub memory : code ≡ 5
  pub console_kept : console' ≡ console
  pub ports_kept : news ≡ olds

-- words of a batch over all ports: the console stands first, then the port of the word `batch`, which is not used, then those of the names
abbrev pub BatchOver : List (List ℕ) → List PortState → List PortState → ℕ → Type 0
BatchOver words (a ∷ _ ∷ olds) (b ∷ _ ∷ news) code = Batch (drop 1 words) a b olds news code ⊎ NotBegun a b olds news code
BatchOver words olds news code = ⊥
