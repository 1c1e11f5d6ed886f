use Rattle.std.proofs.Common.{rules, append_assoc}
use Rattle.std.proofs.lemmas.Result.{IfOk-equal}
use Rattle.std.proofs.lemmas.Fmt.{decimal_digit, decimal_step}
use Rattle.reply_text.proofs.pieces.+push_number.Goals as goal

pub returns : goal.returns
returns t c = search (rules, IfOk-equal, append_assoc, decimal_step)

pub returns-then-n-lt10 : goal.returns-then-n-lt10
returns-then-n-lt10 t c = search (rules, IfOk-equal, decimal_digit)
