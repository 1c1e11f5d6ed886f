-- What the bytes of a line come to: the reply, and the names and field after it; and the keys of the question that a line asks.
--
-- Bytes are a command, a line without one, or no line of the grammar, as are more than 65,536 of them. The keys of a question stand in
-- the order of evaluation: those of its right side, read with true answers. A line with a fault before its values asks for none, as does
-- each line that is no question about values (the commands: Kenzo documentation, 1999).
--
--   from no names, `(names) ; all` is answered by the empty list of names, and `(names` by the refusal of syntax
use Rattle.std.specs.Prelude.{ℕ, nat_lt, cond, List, [], map, length, Option, Some, None, Ok, Err}
use Rattle.fp_field.specs.declared.prime.Prime.{Prime}
use Rattle.fp_field.specs.declared.prime.Prime.TheVariants.{Two}
use Rattle.fp_field.specs.Field.{number}
use Rattle.term_lang.specs.SpaceOf.{space_of}
use Rattle.values.specs.Asks.{Right, ask, cycles, asked_with}
use Rattle.values.specs.Values.{value}
use Rattle.oracle_iface.specs.declared.keys.Key.{Key}
use Rattle.oracle_iface.specs.Keys.{key_of}
use Rattle.script_lang.specs.declared.commands.Command.{Command}
use Rattle.script_lang.specs.declared.commands.Command.TheVariants as commands
use Rattle.script_lang.specs.Readings.{Reading}
use Rattle.script_lang.specs.Lines.{line_at}
use Rattle.reply_text.specs.declared.replies.Reply.TheVariants as replies
use Rattle.reply_text.specs.declared.refusals.Refusal.TheVariants as refusals
use Rattle.session_core.specs.Answer.{State, Replied, Told, told, refused, ◌>>◌, told_space, told_degree, told_chain, told_cycle, is_unbuilt_command, answer_line}
use Rattle.session_core.specs.Questions.{dimensions, expressed}

-- ---- bytes as lines

abbrev pub told_reading : Reading (Option Command) → Told (Option Command)
told_reading (Ok read) = told read.0
told_reading (Err left) = refused refusals.Syntax

-- the command of a line, or that there is none
unfoldable pub told_line : List ℕ → Told (Option Command)
told_line line = cond (nat_lt 65536 (length line)) (refused refusals.Syntax) (told_reading (line_at line))

-- the state of a new session: no names, the field of two elements
abbrev pub first_state : State
first_state = record { names = []; prime = Two }

abbrev pub answer_told : State → Told (Option Command) → Replied
answer_told s (told asked) = answer_line s asked
answer_told s (refused r) = (replies.Refused r, s)

-- the reply to a line, and names and field after it
unfoldable pub answer_bytes : State → List ℕ → Replied
answer_bytes s line = answer_told s (told_line line)

-- ---- the keys of a question

-- the questions that a right side asks, read with the values of these, as keys over a prime
abbrev pub keys_asked : {A : Type 0} → Prime → Right A → List Key
keys_asked p right = map (key_of p) (asked_with (value (number p)) right)

module _ (s : State) where
  -- the keys of the question, or the fault that comes before them
  abbrev pub told_keys : Command → Told (List Key)
  told_keys (commands.Field n) = told []
  told_keys (commands.Setf name e) = told []
  told_keys commands.Names = told []
  told_keys (commands.Betti e low high) =
      told_space s.names e >> λ t. told_degree low >> λ m. told_degree high >> λ n. told (keys_asked s.prime (dimensions (number s.prime) (space_of t) m n))
  told_keys (commands.Homology e n) = told_space s.names e >> λ t. told_degree n >> λ m. told (keys_asked s.prime (ask (cycles (space_of t) m)))
  told_keys (commands.Boundary e n c) = told []
  told_keys (commands.Express e n c) =
      told_space s.names e >> λ t. told_degree n >> λ m. told_chain s.prime t m c >> λ y. told_cycle s.prime t m y >> λ z.
      told (keys_asked s.prime (expressed (number s.prime) (space_of t) m z))

  abbrev pub keys_or_none : Told (List Key) → List Key
  keys_or_none (told ks) = ks
  keys_or_none (refused r) = []

  -- the keys of the question of a command, none where a fault comes before them
  abbrev pub command_keys : Command → List Key
  command_keys c = cond (is_unbuilt_command c) [] (keys_or_none (told_keys c))

  abbrev pub asked_keys : Told (Option Command) → List Key
  asked_keys (told None) = []
  asked_keys (told (Some c)) = command_keys c
  asked_keys (refused r) = []

  -- the keys of the question of a line
  unfoldable pub line_keys : List ℕ → List Key
  line_keys line = asked_keys (told_line line)
