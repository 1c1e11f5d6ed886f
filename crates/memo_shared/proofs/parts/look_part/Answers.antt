use Rattle.std.proofs.Common.{◌∙◌, ℕ, subst}
use Rattle.std.specs.Prelude.{[]}
use Rattle.oracle_iface.specs.Memos.{Grows}
use Rattle.turnstile.specs.Turns.{Fits}
use Rattle.turnstile.specs.Passes.{front}
use Rattle.memo_book.specs.Histories.{history}
use Rattle.memo_shared.proofs.Told.{by, Grown, told_look, grown_none}
use Rattle.memo_shared.proofs.Answered.{looked_as, none_of}
use Rattle.memo_shared.proofs.Begun.{grows_from, adds_own}
use Rattle.memo_shared.proofs.parts.look_part.Goals as goal

pub leave-requires-clause-grown : goal.leave-requires-clause-grown
leave-requires-clause-grown g c =
    let book = c.enter-found.result.book in
    let none = grown_none book c.kept.ensures in
    adds_own c.args.seat _ _ book book (c.enter-found.ensures.pass.0.1 ∙ c.requires.outside.1) c.enter-found.ensures.seen _ [] (none_of c.args.seat) none

pub returns-clause-answer : goal.returns-clause-answer
returns-clause-answer g c =
    let book = c.enter-found.result.book in
    looked_as c.args.seat c.args.key.now (Grown book book) (Grows c.args.seat (front c.args.part.now) (front c.leave.new.pass))
    (λ shows own mine. grows_from c.args.seat (front c.args.part.now) book book
    (subst (λ (k : ℕ). Fits by (history book) k (front c.args.part.now)) c.requires.outside.1 c.enter-found.ensures.grown) (front c.leave.new.pass) c.leave.ensures.seen shows own)
    c.look-answer.result
    (told_look book c.args.key.now c.kept.ensures c.look-answer.result c.look-answer.ensures)
