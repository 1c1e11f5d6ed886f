-- The reply to a line that is a command.
use Rattle.std.proofs.Common.{◌≡◌, Result, Ok, Err, ◌∙◌}
use Rattle.std.specs.Prelude.{IfOk}
use Rattle.reply_text.specs.declared.replies.Reply.{Reply}
use Rattle.session_core.specs.declared.line_faults.LineFault.{LineFault}
use Rattle.session_core.specs.Answer.{State, Replied}
use Rattle.session_core.specs.Settings.{pair}

pub replied_as : (a b : Replied) (s : State) (r : Result Reply LineFault) → a ≡ b → IfOk r (λ x. b ≡ pair x s) → IfOk r (λ x. a ≡ pair x s)
replied_as a b s (Ok x) e h = e ∙ h
replied_as a b s (Err f) e h = tt
