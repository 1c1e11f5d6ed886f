-- Each line of a script is answered by what it asks.
use Rattle.std.proofs.Common.{◌≡◌, ℕ, List, [], ◌∷◌, Option, Some, None, IfSome}
use Rattle.cells.specs.declared.cells.Cell.{Cell}
use Rattle.chain_core.specs.Formal.{Formal}
use Rattle.term_lang.specs.declared.terms.Term.{Term}
use Rattle.script_lang.specs.declared.commands.Command.TheVariants as commands
use Rattle.reply_text.specs.declared.replies.Reply.TheVariants.{Homology}
use Rattle.session_core.specs.Answer.{State}
use Rattle.session_core.specs.Lines.{first_state}
use Rattle.session_core.specs.Whole.{IsWhole}
use Rattle.session_core.proofs.ReadyNames.{whole-after}
use Rattle.session_core.proofs.ReplyLines.{homology-line}
use Rattle.kernel_run.specs.Fresh.{answered_lines, reply_to, state_after}
use Rattle.kernel_run.specs.Truth.{ListsHomology, IsAnswered, EachLine, AreHomologyLists}
use Rattle.kernel_run.proofs.Commands.{line-answered, line-refused, told-line}

listed : (s : State) → IsWhole s → (line : List ℕ) (t : Term) (zs : List (Formal Cell)) → reply_to s line ≡ Homology t zs → ListsHomology s line t zs
listed s whole line t zs r =
    let a = homology-line s whole line t zs r in
    record { space = a.0; degree = a.1; asked = told-line line (Some (commands.Homology a.0 a.1)) a.2; listed = a.3 }

answered : (s : State) → IsWhole s → (line : List ℕ) → IsAnswered s line
answered s whole line = record { command = line-answered s line; no_line = line-refused s line; homology = listed s whole line }

-- each line of a script leaves a whole state to the next
each-answered : (lines : List (List ℕ)) (s : State) → IsWhole s → EachLine IsAnswered s lines
each-answered [] s whole = tt
each-answered (line ∷ lines) s whole = (answered s whole line, each-answered lines (state_after s line) (whole-after s whole line))

pub all_answered : (o : Option (List ℕ)) → IfSome o AreHomologyLists
all_answered None = tt
all_answered (Some script) = each-answered (answered_lines script) first_state tt
