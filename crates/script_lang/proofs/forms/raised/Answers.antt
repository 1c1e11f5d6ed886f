use Rattle.std.proofs.Common.{arith}
use Rattle.script_lang.proofs.ResolveShifts.{word_shifted}
use Rattle.script_lang.proofs.forms.raised.Goals as goal

pub returns-clause-up_word : goal.returns-clause-up_word
returns-clause-up_word c = λ _. word_shifted c.args.x.degens.mask _ c.requires (omega (arith, c.requires))
