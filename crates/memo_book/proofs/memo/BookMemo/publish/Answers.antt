use Rattle.std.proofs.Common.{refl}
use Rattle.oracle_iface.specs.declared.entries.Act.TheVariants.{Publishes}
use Rattle.core_board.specs.declared.events.Event.TheVariants.{Publish}
use Rattle.memo_book.specs.declared.book.State.TheVariants.{Published}
use Rattle.memo_book.proofs.Told.{told_end}
use Rattle.memo_book.proofs.memo.BookMemo.publish.Goals as goal

pub returns-clause-front : goal.returns-clause-front
returns-clause-front c =
    told_end _ _ c.args.ticket.key c.kept.ensures c.kept-2.ensures (Published c.args.value) Publishes (λ seat n. Publish seat n) (λ i n. refl) c.args.ticket.seat
    c.requires.ticket.0 c.requires.ticket.1 c.publish.ensures
