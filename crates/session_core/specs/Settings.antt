-- Names and field of a session as the code has them.
--
--   the settings without names over F_2 are the first state
use Rattle.reply_text.specs.declared.replies.Reply.{Reply}
use Rattle.session_core.specs.declared.settings.Settings.{Settings}
use Rattle.session_core.specs.Answer.{State, Told, told, Replied}

abbrev pub state_of : Settings → State
state_of s = record { names = s.names; prime = s.prime }

-- this reply, and this state after it
abbrev pub answered : Reply → State → Told Replied
answered r s = told (r, s)

abbrev pub pair : Reply → State → Replied
pair r s = (r, s)
