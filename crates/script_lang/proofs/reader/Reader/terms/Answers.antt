use Rattle.std.proofs.lemmas.Result.{err_from_is_err_and}
use Rattle.script_lang.specs.Readings.{until_at}
use Rattle.script_lang.specs.Lines.{part_at, term_at, terms_at}
use Rattle.script_lang.proofs.Loops.{keeps, ends, goes_wrong}
use Rattle.script_lang.proofs.Parts.{term_shorter, as_chain, chain_fails}
use Rattle.script_lang.proofs.reader.Reader.terms.Goals as goal

pub loop-terms-smaller : goal.loop-terms-smaller
loop-terms-smaller c =
    let e = rw c.in-Some.is at c.in_ok-term-2.ensures in
    term_shorter c.loop-terms.self.rest.now c.in-Some.term c.next_term.new.self.rest.now e

pub loop-terms-preserved : goal.loop-terms-preserved
loop-terms-preserved c =
    let e = rw c.in-Some.is at c.in_ok-term-2.ensures in
    keeps (part_at term_at) term_shorter c.loop-terms.terms c.push-in-Some.new.self c.loop-terms.self.rest.now c.in-Some.term c.next_term.new.self.rest.now _ e c.in_ok-push-2.ensures.ok c.loop-terms.invariant

pub returns : goal.returns
unfolding terms_at
returns c =
    let e = rw c.in_default.is at c.in_ok-term-2.ensures in
    let o = ends (part_at term_at) term_shorter c.loop-terms.terms c.loop-terms.self.rest.now c.next_term.new.self.rest.now _ e c.loop-terms.invariant in
    rw c.in_ok-term.ensures (as_chain (until_at (part_at term_at) c.term.new.self.rest.now) c.push.new.self c.in_ok-term.field-0 c.new-terms.result c.loop-terms.terms c.next_term.new.self.rest.now c.new-terms.ensures c.in_ok-push.ensures.ok o)

pub returns-in_err-term-2 : goal.returns-in_err-term-2
unfolding terms_at
returns-in_err-term-2 c =
    let p = err_from_is_err_and c.from_residual-in_err-term-2.result c.from_residual-in_err-term-2.ensures.1 in
    let w = goes_wrong (part_at term_at) term_shorter c.loop-terms.terms c.loop-terms.self.rest.now c.in_err-term-2.field-0.0 _ c.in_err-term-2.ensures c.loop-terms.invariant in
    rw (p.1, p.2) (rw c.in_ok-term.ensures (chain_fails c.in_err-term-2.field-0.0 (until_at (part_at term_at) c.term.new.self.rest.now) c.push.new.self c.in_ok-term.field-0 c.new-terms.result c.new-terms.ensures c.in_ok-push.ensures.ok w))
