-- What lines leave as it was.
--
--   after `(setf x (sphere 2))` and then `(setf x (sphere 17))`, which is refused, x stands for the sphere of dimension 2
use Rattle.std.specs.Prelude.{Bool, true, false}
use Rattle.script_lang.specs.declared.commands.Command.{Command}
use Rattle.script_lang.specs.declared.commands.Command.TheVariants as commands
use Rattle.reply_text.specs.declared.replies.Reply.{Reply}
use Rattle.reply_text.specs.declared.replies.Reply.TheVariants as replies

abbrev pub is_refused : Reply → Bool
is_refused replies.Empty = false
is_refused (replies.Field p) = false
is_refused (replies.Defined name) = false
is_refused (replies.Names names) = false
is_refused (replies.Betti ns) = false
is_refused (replies.Homology t zs) = false
is_refused (replies.Boundary t c) = false
is_refused (replies.Express t v c) = false
is_refused (replies.Refused r) = true

-- a command that asks for something
abbrev pub is_question : Command → Bool
is_question (commands.Field n) = false
is_question (commands.Setf name e) = false
is_question commands.Names = true
is_question (commands.Betti e low high) = true
is_question (commands.Homology e n) = true
is_question (commands.Boundary e n c) = true
is_question (commands.Express e n c) = true
