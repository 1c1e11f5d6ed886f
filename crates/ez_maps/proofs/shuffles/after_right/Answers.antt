use Rattle.std.proofs.Common.{suc, ◌+◌, ◌≡◌, subst, arith}
use Rattle.ez_maps.specs.Words.{AreApart}
use Rattle.ez_maps.proofs.Apart.{left-put}
use Rattle.ez_maps.proofs.shuffles.after_right.Goals as goal

pub returns-clause-apart : goal.returns-clause-apart
returns-clause-apart c =
    subst (λ j. AreApart j c.with.result.mask c.args.word.right.mask) (let e : suc c.args.word.place ≡ c.args.word.place + 1 = omega arith in e)
    (left-put c.args.word.place c.args.word.left.mask c.args.word.right.mask c.requires.apart c.with.result.mask c.with.ensures)
