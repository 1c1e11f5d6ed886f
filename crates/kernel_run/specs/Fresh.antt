-- What a fresh kernel writes for a script.
--
-- It is the text of the replies to the lines, one after the other, where the first line finds no names and the field of two elements,
-- and each later one the names and the field that the line before it left. It knows no other session. A script of more than 16,777,216
-- bytes is answered for the lines whose line feed stands among that many, and ends with one refusal.
--
-- Main definitions: `replies_to`, `fresh`.
-- Worked value: `fresh` of "(names)\n\n(field 4)" is "names\nerror field 4\n".
use Rattle.std.specs.Prelude.{ℕ, List, [], ◌∷◌, ◌++◌, map, length, take, if◌then◌else◌, nat_lt, Bool, codes}
use Rattle.reply_text.specs.Text.{text}
use Rattle.reply_text.specs.declared.replies.Reply.{Reply}
use Rattle.session_core.specs.Answer.{State}
use Rattle.session_core.specs.Lines.{first_state, answer_bytes}
use Rattle.kernel_run.specs.Lines.{cut}

-- more bytes than a script may have
abbrev pub is_long : List ℕ → Bool
is_long script = nat_lt 16777216 (length script)

-- the part of a script whose lines are answered
abbrev pub answered_part : List ℕ → List ℕ
answered_part script = if is_long script then take 16777216 script else script

abbrev pub answered_lines : List ℕ → List (List ℕ)
answered_lines script = cut (is_long script) (answered_part script)

-- the reply to a line, and the names and the field after it
abbrev pub reply_to : State → List ℕ → Reply
reply_to s line = (answer_bytes s line).0

abbrev pub state_after : State → List ℕ → State
state_after s line = (answer_bytes s line).1

-- the names and the field after lines, the first of which finds this state
abbrev pub state_from : State → List (List ℕ) → State
state_from s [] = s
state_from s (line ∷ lines) = state_from (state_after s line) lines

-- the replies to lines, the first of which finds this state
abbrev pub replies_from : State → List (List ℕ) → List Reply
replies_from s [] = []
replies_from s (line ∷ lines) = reply_to s line ∷ replies_from (state_after s line) lines

-- the replies to a script
abbrev pub replies_to : List ℕ → List Reply
replies_to script = replies_from first_state (answered_lines script)

-- the text of the reply to a line
abbrev pub text_to : State → List ℕ → List ℕ
text_to s line = text (reply_to s line)

-- the texts of the replies to lines
abbrev pub texts_from : State → List (List ℕ) → List (List ℕ)
texts_from s lines = map text (replies_from s lines)

-- the texts of the replies to a script
abbrev pub texts_to : List ℕ → List (List ℕ)
texts_to script = map text (replies_to script)

abbrev pub joined : List (List ℕ) → List ℕ
joined [] = []
joined (t ∷ ts) = t ++ joined ts

abbrev pub too_long : List ℕ
too_long = codes "error over script 16777217\n"

abbrev pub last_text : Bool → List ℕ
last_text long = if long then too_long else []

-- all that is written
abbrev pub fresh : List ℕ → List ℕ
fresh script = joined (texts_to script) ++ last_text (is_long script)
