use Rattle.std.proofs.Common.{◌≡◌, length, refl, sym, subst, arith}
use Rattle.finite_sets.proofs.WordTests.{Reading, reading_more, reading_fails, reading_word, reading_all}
use Rattle.finite_sets.proofs.faces.degens_below.Goals as goal

pub loop-j-preserved : goal.loop-j-preserved
loop-j-preserved c =
    reading_more c.args.bound c.args.word.now c.loop-j.mask c.loop-j.above c.loop-j.j-index _ (omega arith) refl (omega arith) c.loop-j.invariant

pub returns-then-j-above-clause-some : goal.returns-then-j-above-clause-some
returns-then-j-above-clause-some c =
    sym (reading_fails c.args.bound c.args.word.now c.loop-j.mask c.loop-j.above c.loop-j.j-index _ (omega arith) refl (omega arith) c.loop-j.invariant)

pub returns-clause-some : goal.returns-clause-some
returns-clause-some c =
    let e : c.loop-j.j-index ≡ length c.args.word.now = omega arith in
    sym (reading_word c.args.bound c.args.word.now c.loop-j.mask c.loop-j.above
    (subst (Reading c.args.bound c.args.word.now c.loop-j.mask c.loop-j.above) e c.loop-j.invariant))

pub returns-clause-word : goal.returns-clause-word
returns-clause-word c =
    let e : c.loop-j.j-index ≡ length c.args.word.now = omega arith in
    reading_all c.args.bound c.args.word.now c.loop-j.mask c.loop-j.above c.requires
    (subst (Reading c.args.bound c.args.word.now c.loop-j.mask c.loop-j.above) e c.loop-j.invariant)
