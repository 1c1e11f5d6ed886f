use Rattle.std.proofs.Common.{◌∙◌, ℕ, refl, subst}
use Rattle.oracle_iface.specs.Histories.{IsHeld, entry}
use Rattle.oracle_iface.specs.declared.entries.Act.TheVariants.{Releases}
use Rattle.core_board.specs.declared.events.Event.TheVariants.{Release}
use Rattle.turnstile.specs.Turns.{Fits}
use Rattle.turnstile.specs.Passes.{front}
use Rattle.memo_book.specs.Histories.{history}
use Rattle.memo_book.specs.declared.book.State.TheVariants.{Unclaimed}
use Rattle.memo_book.proofs.Bridge.{legal_history}
use Rattle.memo_shared.proofs.Told.{by, told_end}
use Rattle.memo_shared.proofs.Answered.{one_of}
use Rattle.memo_shared.proofs.Begun.{grows_from, adds_own, held_still}
use Rattle.memo_shared.proofs.parts.release_part.Goals as goal

pub leave-requires-clause-grown : goal.leave-requires-clause-grown
leave-requires-clause-grown g c =
    let old = c.enter-found.result.book in
    let new = c.release.new.self in
    let key = c.args.ticket.key in
    let seat = c.args.ticket.seat in
    let fits : Fits by (history old) seat (front c.args.part.now) = subst (λ (k : ℕ). Fits by (history old) k (front c.args.part.now)) c.requires.outside.1 c.enter-found.ensures.grown in
    let held : IsHeld (history old) key seat = held_still seat (front c.args.part.now) (history old) fits key (legal_history old c.kept.ensures) c.requires.held in
    adds_own seat _ _ old new (c.enter-found.ensures.pass.0.1 ∙ c.requires.outside.1) c.enter-found.ensures.seen (λ h. IsHeld h key seat) (entry Releases seat key) (one_of Releases seat key)
    (told_end old new key c.kept.ensures c.kept-2.ensures (Unclaimed) Releases (λ n i. Release n i) (λ i n. refl) seat held c.release.ensures)

pub returns-clause-front : goal.returns-clause-front
returns-clause-front g c =
    let old = c.enter-found.result.book in
    let new = c.release.new.self in
    let key = c.args.ticket.key in
    let seat = c.args.ticket.seat in
    let fits : Fits by (history old) seat (front c.args.part.now) = subst (λ (k : ℕ). Fits by (history old) k (front c.args.part.now)) c.requires.outside.1 c.enter-found.ensures.grown in
    let held : IsHeld (history old) key seat = held_still seat (front c.args.part.now) (history old) fits key (legal_history old c.kept.ensures) c.requires.held in
    grows_from seat (front c.args.part.now) old new fits (front c.leave.new.pass) c.leave.ensures.seen (λ h. IsHeld h key seat) (entry Releases seat key)
    (told_end old new key c.kept.ensures c.kept-2.ensures (Unclaimed) Releases (λ n i. Release n i) (λ i n. refl) seat held c.release.ensures)
