-- One step of a session.
use Rattle.std.specs.Prelude.{◌≡◌, false, ℕ, ◌+◌, ◌<◌, List, [], ◌∷◌, ◌++◌, length, take}
use Rattle.std.specs.Io.KnownBytes.{append_known}
use Rattle.port_io.specs.Ports.{PortState, Rose}
use Rattle.session_core.specs.Sessions.{SessionView}
use Rattle.kernel_run.specs.Counts.{one_reply, one_error}
use Rattle.kernel_run.specs.Fresh.{state_after, state_from, joined, too_long}
use Rattle.kernel_run.specs.Session.{ReadsNothing, WritesOn, WritesPart, WritesNothing}
use Rattle.kernel_run.specs.declared.report.SessionReport.{SessionReport}
use Rattle.kernel_run.specs.declared.report.End.{End}
use Rattle.kernel_run.specs.declared.report.End.TheVariants.{Finished, Long, ReadFault, WriteFault, Memory}

-- the text of a reply was written, in part or not at all, by how the step ended
abbrev pub WritesBy : End → PortState → PortState → List ℕ → Type 0
WritesBy Finished before after text = WritesOn before after text
WritesBy WriteFault before after text = WritesPart before after text
WritesBy Memory before after text = WritesNothing before after
WritesBy Long before after text = ⊥
WritesBy ReadFault before after text = ⊥

-- a text that was written whole is counted
abbrev pub CountsBy : End → List ℕ → SessionReport → SessionReport → Type 0
CountsBy Finished text old new = (new.replies ≡ old.replies + one_reply text) × (new.errors ≡ old.errors + one_error text)
CountsBy end text old new = (new.replies ≡ old.replies) × (new.errors ≡ old.errors)

-- the session as a line that was answered leaves it
pub record IsAfter (old : SessionView) (line : List ℕ) (new : SessionView) : Type 0 where
  pub state : new.state ≡ state_after old.state line
  pub open_still : new.is_ended ≡ false

-- the session as lines that were answered leave it
pub record IsAfterLines (old : SessionView) (lines : List (List ℕ)) (new : SessionView) : Type 0 where
  pub state : new.state ≡ state_from old.state lines
  pub open_still : new.is_ended ≡ false

pub record Answered (before after : PortState) (text : List ℕ) (old new : SessionReport) : Type 0 where
  pub writes : WritesBy new.end before after text
  pub counts : CountsBy new.end text old new
  pub reads : ReadsNothing before after

-- ---- several texts

-- the sum over all texts
abbrev pub sum_texts : (List ℕ → ℕ) → List (List ℕ) → ℕ
sum_texts f [] = 0
sum_texts f (t ∷ ts) = f t + sum_texts f ts

-- all texts were written and counted
pub record AllWritten (before after : PortState) (texts : List (List ℕ)) (old new : SessionReport) : Type 0 where
  pub wrote : WritesOn before after (joined texts)
  pub replies : new.replies ≡ old.replies + sum_texts one_reply texts
  pub errors : new.errors ≡ old.errors + sum_texts one_error texts

-- how much of the first of these texts was written where a session stopped there: less than all after a write fault, and else nothing
abbrev pub IsShort : End → ℕ → List (List ℕ) → Type 0
IsShort WriteFault count (t ∷ ts) = count < length t
IsShort WriteFault count [] = ⊥
IsShort ReadFault count more = count ≡ 0
IsShort Memory count more = count ≡ 0
IsShort Finished count more = ⊥
IsShort Long count more = ⊥

-- the count of write faults rose, if the session ended on one, and else stands as before
abbrev pub WriteFaultsBy : End → ℕ → ℕ → Type 0
WriteFaultsBy WriteFault before after = Rose before after
WriteFaultsBy end before after = after ≡ before

-- the texts were written up to where the session stopped
pub record Stopped (before after : PortState) (texts : List (List ℕ)) (old new : SessionReport) : Type 0 where
  pub done : List (List ℕ)
  pub more : List (List ℕ)
  pub parts : texts ≡ done ++ more
  pub count : ℕ
  pub short : IsShort new.end count more
  pub written : after.written ≡ append_known before.written (joined done ++ take count (joined more))
  pub write_faults : WriteFaultsBy new.end before.write_faults after.write_faults
  pub replies : new.replies ≡ old.replies + sum_texts one_reply done
  pub errors : new.errors ≡ old.errors + sum_texts one_error done

-- texts were written, all of them or up to where the session stopped
abbrev pub AnswersBy : End → PortState → PortState → List (List ℕ) → SessionReport → SessionReport → Type 0
AnswersBy Finished before after texts old new = AllWritten before after texts old new
AnswersBy WriteFault before after texts old new = Stopped before after texts old new
AnswersBy Memory before after texts old new = Stopped before after texts old new
AnswersBy Long before after texts old new = ⊥
AnswersBy ReadFault before after texts old new = ⊥

-- the last text of a script that is too long
abbrev pub WritesLast : End → PortState → PortState → Type 0
WritesLast Long before after = WritesOn before after too_long
WritesLast WriteFault before after = WritesPart before after too_long
WritesLast end before after = ⊥

pub record EndedLong (before after : PortState) (old new : SessionReport) : Type 0 where
  pub writes : WritesLast new.end before after
  pub replies : new.replies ≡ old.replies
  pub errors : new.errors ≡ old.errors
  pub reads : ReadsNothing before after
