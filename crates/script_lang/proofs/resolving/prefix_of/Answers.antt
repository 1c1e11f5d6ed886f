use Rattle.std.proofs.Common.{◌≡◌, length, subst, arith, refl, sym, true≢false}
use Rattle.script_lang.proofs.ResolvePrefixes.{Reading, reading_more, reading_fails, reading_word, reading_all, prefix_of_word, length-word}
use Rattle.script_lang.proofs.resolving.prefix_of.Goals as goal

pub loop-j-preserved : goal.loop-j-preserved
loop-j-preserved c = reading_more c.args.n c.args.indices.now c.loop-j.mask c.loop-j.bound c.loop-j.j-index _ (omega arith) (omega arith) refl (omega arith) c.loop-j.invariant

pub returns-then-j-bound-clause-some : goal.returns-then-j-bound-clause-some
returns-then-j-bound-clause-some c = (
  λ e. absurd (true≢false (sym e)),
  λ p. absurd (reading_fails c.args.n c.args.indices.now c.loop-j.mask c.loop-j.bound c.loop-j.j-index _ (omega arith) refl (omega arith) c.loop-j.invariant p),
)

pub returns-clause-some : goal.returns-clause-some
returns-clause-some c =
    let e : c.loop-j.j-index ≡ length c.args.indices.now = omega arith in
    let r = subst (Reading c.args.n c.args.indices.now c.loop-j.mask c.loop-j.bound) e c.loop-j.invariant in
    (λ _. prefix_of_word c.args.n c.args.indices.now (reading_word c.args.n c.args.indices.now c.loop-j.mask c.loop-j.bound r), λ _. refl)

pub returns-clause-word : goal.returns-clause-word
returns-clause-word c =
    let e : c.loop-j.j-index ≡ length c.args.indices.now = omega arith in
    reading_all c.args.n c.args.indices.now c.loop-j.mask c.loop-j.bound (omega arith) (subst (Reading c.args.n c.args.indices.now c.loop-j.mask c.loop-j.bound) e c.loop-j.invariant)

pub returns-clause-short : goal.returns-clause-short
returns-clause-short c =
    let e : c.loop-j.j-index ≡ length c.args.indices.now = omega arith in
    let r = subst (Reading c.args.n c.args.indices.now c.loop-j.mask c.loop-j.bound) e c.loop-j.invariant in
    length-word c.args.n c.args.indices.now (reading_word c.args.n c.args.indices.now c.loop-j.mask c.loop-j.bound r)
