use Rattle.std.proofs.Common.{◌≡◌, ℕ, List, Option, Some, None, Err, sym, subst}
use Rattle.script_lang.specs.declared.commands.Command.{Command}
use Rattle.script_lang.specs.declared.faults.LineRefused.{LineRefused}
use Rattle.script_lang.specs.declared.faults.LineRefused.TheVariants as refusals
use Rattle.script_lang.specs.declared.faults.SyntaxFault.{SyntaxFault}
use Rattle.script_lang.specs.Grammar.{IsLine, IsReadAs}
use Rattle.std.specs.Prelude.{is_ok}
use Rattle.session_core.specs.Answer.{answer as answer_by}
use Rattle.session_core.specs.Asked.{AsksKeys}
use Rattle.session_core.specs.Lines.{answer_bytes, line_keys}
use Rattle.session_core.specs.Settings.{state_of}
use Rattle.session_core.proofs.ToldLines.{replied_to, keys_of_command, no_command, no_command_keys, no_line, no_line_keys}
use Rattle.session_core.proofs.NothingAsked.{asks_none, asks_not_yet}
use Rattle.session_core.proofs.Replied.{replied_as}
use Rattle.session_core.proofs.replies.reply_to.Goals as goal

is_line : (line : List ℕ) (x y : Option Command) → x ≡ y → IsLine line x → IsLine line y
is_line line x y e h = subst (IsLine line) e h

no_line_is : (line : List ℕ) (f : LineRefused) (fault : SyntaxFault) → f ≡ refusals.Syntax fault → ((c : Option Command) → IsLine line c → IsReadAs c (Err f)) → (c : Option Command) → IsLine line c → ⊥
no_line_is line f fault e h c is = subst (λ x. IsReadAs c (Err x)) e (h c is)

pub returns-in-Ok-Some-clause-reply : goal.returns-in-Ok-Some-clause-reply
returns-in-Ok-Some-clause-reply g c =
    let s = state_of c.args.settings.now in
    let e : c.in-Ok-Some.field-0 ≡ Some c.in-Ok-Some.command = cc in
    replied_as (answer_bytes s c.args.line.now) (answer_by s c.in-Ok-Some.command) (state_of c.answer.new.settings) c.answer.result
    (replied_to s c.args.line.now c.in-Ok-Some.command (is_line c.args.line.now c.in-Ok-Some.field-0 (Some c.in-Ok-Some.command) e c.in-Ok-Some.ensures.found)) c.answer.ensures.reply

pub returns-in-Ok-Some-clause-asked : goal.returns-in-Ok-Some-clause-asked
returns-in-Ok-Some-clause-asked g c =
    let s = state_of c.args.settings.now in
    let e : c.in-Ok-Some.field-0 ≡ Some c.in-Ok-Some.command = cc in
    subst (λ ks. AsksKeys g.A.Answerer.answers ks c.args.answerer.now c.answer.new.answerer (is_ok c.answer.result))
    (sym (keys_of_command s c.args.line.now c.in-Ok-Some.command (is_line c.args.line.now c.in-Ok-Some.field-0 (Some c.in-Ok-Some.command) e c.in-Ok-Some.ensures.found))) c.answer.ensures.asked

pub returns-in-Ok-None-clause-reply : goal.returns-in-Ok-None-clause-reply
returns-in-Ok-None-clause-reply g c =
    let e : c.in-Ok-None.field-0 ≡ None = cc in
    no_command (state_of c.args.settings.now) c.args.line.now (is_line c.args.line.now c.in-Ok-None.field-0 None e c.in-Ok-None.ensures.found)

pub returns-in-Ok-None-clause-asked : goal.returns-in-Ok-None-clause-asked
returns-in-Ok-None-clause-asked g c =
    let s = state_of c.args.settings.now in
    let e : c.in-Ok-None.field-0 ≡ None = cc in
    asks_none g.A.Answerer.answers (line_keys s c.args.line.now) c.args.answerer.now _ (no_command_keys s c.args.line.now (is_line c.args.line.now c.in-Ok-None.field-0 None e c.in-Ok-None.ensures.found))

pub returns-in-Err-Syntax-clause-reply : goal.returns-in-Err-Syntax-clause-reply
returns-in-Err-Syntax-clause-reply g c =
    let e : c.in-Err-Syntax.field-0 ≡ refusals.Syntax c.in-Err-Syntax.field-0-0 = cc in
    no_line (state_of c.args.settings.now) c.args.line.now (no_line_is c.args.line.now c.in-Err-Syntax.field-0 c.in-Err-Syntax.field-0-0 e c.in-Err-Syntax.ensures.only)

pub returns-in-Err-Syntax-clause-asked : goal.returns-in-Err-Syntax-clause-asked
returns-in-Err-Syntax-clause-asked g c =
    let s = state_of c.args.settings.now in
    let e : c.in-Err-Syntax.field-0 ≡ refusals.Syntax c.in-Err-Syntax.field-0-0 = cc in
    asks_none g.A.Answerer.answers (line_keys s c.args.line.now) c.args.answerer.now _ (no_line_keys s c.args.line.now (no_line_is c.args.line.now c.in-Err-Syntax.field-0 c.in-Err-Syntax.field-0-0 e c.in-Err-Syntax.ensures.only))

pub returns-in-Err-Memory-clause-asked : goal.returns-in-Err-Memory-clause-asked
returns-in-Err-Memory-clause-asked g c = asks_not_yet g.A.Answerer.answers (line_keys (state_of c.args.settings.now) c.args.line.now) c.args.answerer.now
