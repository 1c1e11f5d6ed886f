use Rattle.std.proofs.Common.{◌∙◌, sym}
use Rattle.std.proofs.lemmas.Result.{err_from_is_err_and}
use Rattle.script_lang.specs.Readings.{until_at}
use Rattle.script_lang.specs.Scans.{more_letters_in, simplex_in, some_letters_in}
use Rattle.script_lang.proofs.Loops.{keeps, ends, goes_wrong, from_first, fails_as}
use Rattle.script_lang.proofs.Letters.{letters_shorter}
use Rattle.script_lang.proofs.scan.Scan.+simplices.Goals as goal

pub some_letters-loop-letters-smaller : goal.some_letters-loop-letters-smaller
some_letters-loop-letters-smaller t c =
    let e = rw c.in-Some.is at c.in_ok-letter-2.ensures in
    letters_shorter c.args.room c.loop-letters.self.rest.now c.in-Some.letter c.more_letters.new.self.rest.now e

pub some_letters-loop-letters-preserved : goal.some_letters-loop-letters-preserved
some_letters-loop-letters-preserved t c =
    let e = rw c.in-Some.is at c.in_ok-letter-2.ensures in
    keeps (more_letters_in (simplex_in c.args.room)) (letters_shorter c.args.room) c.loop-letters.letters c.push-in-Some.new.self c.loop-letters.self.rest.now c.in-Some.letter c.more_letters.new.self.rest.now _ e c.in_ok-push-2.ensures.ok c.loop-letters.invariant

pub some_letters-returns : goal.some_letters-returns
unfolding some_letters_in
some_letters-returns t c =
    let e = rw c.in_default.is at c.in_ok-letter-2.ensures in
    let n = c.in_ok-letter.ensures in
    rw n (sym (from_first (until_at (more_letters_in (simplex_in c.args.room)) c.letter.new.self.rest.now) c.push.new.self c.in_ok-letter.field-0 c.new_seq-letters.result c.new_seq-letters.ensures c.in_ok-push.ensures.ok)
    ∙ ends (more_letters_in (simplex_in c.args.room)) (letters_shorter c.args.room) c.loop-letters.letters c.loop-letters.self.rest.now c.more_letters.new.self.rest.now _ e c.loop-letters.invariant)

pub some_letters-returns-in_err-letter-2 : goal.some_letters-returns-in_err-letter-2
unfolding some_letters_in
some_letters-returns-in_err-letter-2 t c =
    let p = err_from_is_err_and c.from_residual-in_err-letter-2.result c.from_residual-in_err-letter-2.ensures.1 in
    let n = c.in_ok-letter.ensures in
    let first = from_first (until_at (more_letters_in (simplex_in c.args.room)) c.letter.new.self.rest.now) c.push.new.self c.in_ok-letter.field-0 c.new_seq-letters.result c.new_seq-letters.ensures c.in_ok-push.ensures.ok in
    rw (p.1, p.2) (rw n (fails_as c.in_err-letter-2.field-0.0 _ _ first (goes_wrong (more_letters_in (simplex_in c.args.room)) (letters_shorter c.args.room) c.loop-letters.letters c.loop-letters.self.rest.now c.in_err-letter-2.field-0.0 _ c.in_err-letter-2.ensures c.loop-letters.invariant)))
