use Rattle.std.proofs.Common.{refl}
use Rattle.loop_words.proofs.StripSteps.{shared_within, stripped_next}
use Rattle.loop_words.proofs.norms.stripped.Goals as goal

pub strip-degens-requires : goal.strip-degens-requires
strip-degens-requires c =
    shared_within c.args.shared.mask c.args.letters.now c.loop-letter.letter-index c.letter-item.result c.args.shared.below_32 c.requires c.loop-letter-test.true
    c.letter-item.is

pub loop-letter-preserved : goal.loop-letter-preserved
loop-letter-preserved c =
    stripped_next c.args.shared.mask c.args.letters.now c.loop-letter.word c.push.new.self c.loop-letter.letter-index c.letter-item.result
    (record { inverse = c.letter-item.result.inverse; simplex = record { degens = c.strip-degens.result; cell = c.in_ok-cell.cell } })
    c.loop-letter-test.true c.letter-item.is c.loop-letter.invariant c.in_ok-push.ensures.ok
    (record { sign = refl; cell = c.in_ok-cell.ensures; word = c.strip-degens.ensures })
