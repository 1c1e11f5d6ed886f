use Rattle.std.proofs.Common.{◌∙◌, ℕ, subst}
use Rattle.oracle_iface.specs.Memos.{Grows}
use Rattle.turnstile.specs.Turns.{Fits}
use Rattle.turnstile.specs.Passes.{front}
use Rattle.memo_book.specs.Histories.{history}
use Rattle.memo_shared.proofs.Told.{by, Grown, told_claim}
use Rattle.memo_shared.proofs.Answered.{claimed_as, claim_grew}
use Rattle.memo_shared.proofs.Begun.{grows_from, adds_own}
use Rattle.memo_shared.proofs.parts.claim_part.Goals as goal

pub leave-requires-clause-grown : goal.leave-requires-clause-grown
leave-requires-clause-grown g c =
    let old = c.enter-found.result.book in
    let new = c.claim-answer.new.self in
    claim_grew c.args.seat c.args.key.now (Grown old new)
    (adds_own c.args.seat _ _ old new (c.enter-found.ensures.pass.0.1 ∙ c.requires.outside.1) c.enter-found.ensures.seen) c.claim-answer.result
    (told_claim old new c.args.key.now c.kept.ensures c.kept-2.ensures c.args.seat c.claim-answer.result c.claim-answer.ensures)

pub returns-clause-answer : goal.returns-clause-answer
returns-clause-answer g c =
    let old = c.enter-found.result.book in
    let new = c.claim-answer.new.self in
    claimed_as c.args.seat c.args.key.now (Grown old new) (Grows c.args.seat (front c.args.part.now) (front c.leave.new.pass))
    (λ shows own mine. grows_from c.args.seat (front c.args.part.now) old new
    (subst (λ (k : ℕ). Fits by (history old) k (front c.args.part.now)) c.requires.outside.1 c.enter-found.ensures.grown) (front c.leave.new.pass) c.leave.ensures.seen shows own)
    c.claim-answer.result
    (told_claim old new c.args.key.now c.kept.ensures c.kept-2.ensures c.args.seat c.claim-answer.result c.claim-answer.ensures)
