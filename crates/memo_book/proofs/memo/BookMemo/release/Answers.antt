use Rattle.std.proofs.Common.{refl}
use Rattle.oracle_iface.specs.declared.entries.Act.TheVariants.{Releases}
use Rattle.core_board.specs.declared.events.Event.TheVariants.{Release}
use Rattle.memo_book.specs.declared.book.State.TheVariants.{Unclaimed}
use Rattle.memo_book.proofs.Told.{told_end}
use Rattle.memo_book.proofs.memo.BookMemo.release.Goals as goal

pub returns-clause-front : goal.returns-clause-front
returns-clause-front c =
    told_end _ _ c.args.ticket.key c.kept.ensures c.kept-2.ensures Unclaimed Releases (λ seat n. Release seat n) (λ i n. refl) c.args.ticket.seat
    c.requires.ticket.0 c.requires.ticket.1 c.release.ensures
