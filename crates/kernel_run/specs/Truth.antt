-- What the replies say of the spaces themselves.
--
-- Each line of a script is answered as the command that it is by the grammar, in the state that the lines before it left; a line without a
-- command has no reply, and a line that is neither is refused. Cycles are the reply to a command `homology` alone, and they stand for a
-- homology list of its degree of the normalised chains of its space over its field: each cycle of that degree is, with exactly one list of
-- coefficients, their combination plus a boundary.
--
-- Main definitions: `IsAnswered`, `AreHomologyLists`.
-- Worked value: the line "(homology (sphere 2) 1)" is answered by the empty list, which is a homology list of degree 1.
use Rattle.std.specs.Prelude.{◌≡◌, ℕ, List, [], ◌∷◌, Option, Some}
use Rattle.cells.specs.declared.cells.Cell.{Cell}
use Rattle.chain_core.specs.Formal.{Formal}
use Rattle.term_lang.specs.declared.terms.Term.{Term}
use Rattle.script_lang.specs.declared.commands.Command.{Command}
use Rattle.script_lang.specs.declared.commands.Command.TheVariants as commands
use Rattle.script_lang.specs.declared.exprs.Expr.{Expr}
use Rattle.script_lang.specs.Grammar.{IsLine}
use Rattle.reply_text.specs.declared.refusals.Refusal.TheVariants.{Syntax}
use Rattle.reply_text.specs.declared.replies.Reply.TheVariants.{Homology, Refused}
use Rattle.session_core.specs.Answer.{State, answer_line}
use Rattle.session_core.specs.Lines.{first_state, answer_bytes}
use Rattle.session_core.specs.Replies.{IsHomologyReply}
use Rattle.kernel_run.specs.Fresh.{answered_lines, reply_to, state_after}

-- the line asks for the homology of a space in a degree, and these cycles are a homology list
pub record ListsHomology (s : State) (line : List ℕ) (t : Term) (zs : List (Formal Cell)) : Type 0 where
  pub space : Expr
  pub degree : ℕ
  pub asked : IsLine line (Some (commands.Homology space degree))
  pub listed : IsHomologyReply s space degree t zs

-- a line that finds a state
pub record IsAnswered (s : State) (line : List ℕ) : Type 0 where
  pub command : (asked : Option Command) → IsLine line asked → answer_bytes s line ≡ answer_line s asked
  pub no_line : ((asked : Option Command) → ¬ IsLine line asked) → answer_bytes s line ≡ (Refused Syntax, s)
  pub homology : (t : Term) (zs : List (Formal Cell)) → reply_to s line ≡ Homology t zs → ListsHomology s line t zs

-- a fact of each line and of the state that it finds
abbrev pub EachLine : (State → List ℕ → Type 0) → State → List (List ℕ) → Type 0
EachLine P s [] = Unit {0}
EachLine P s (line ∷ lines) = P s line × EachLine P (state_after s line) lines

-- each line of the script is answered so
abbrev pub AreHomologyLists : List ℕ → Type 0
AreHomologyLists script = EachLine IsAnswered first_state (answered_lines script)
