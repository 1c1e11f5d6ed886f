-- A session as contracts see it: names and field, and whether it has ended.
--
--   a new session has no names and the field of two elements, and has not ended
use Rattle.std.specs.Prelude.{Bool, false}
use Rattle.session_core.specs.Answer.{State}
use Rattle.session_core.specs.Lines.{first_state}

pub record SessionView : Type 0 where
  pub state : State
  pub is_ended : Bool

abbrev pub first_session : SessionView
first_session = record { state = first_state; is_ended = false }
