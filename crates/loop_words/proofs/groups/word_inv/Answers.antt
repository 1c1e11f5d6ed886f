use Rattle.std.proofs.Common.{◌≡◌, sym, subst, rules}
use Rattle.loop_words.specs.LetterWords.{IsReduced, inverse}
use Rattle.loop_words.proofs.CodeGroup.{words_group}
use Rattle.loop_words.proofs.groups.word_inv.Goals as goal

pub returns-clause-reduced : goal.returns-clause-reduced
returns-clause-reduced c =
    let e : c.loop-left.turned ≡ inverse c.args.a.now = search rules in
    λ h. subst IsReduced (sym e) (words_group.inverse_in c.args.a.now h)
