use Rattle.memo_book.proofs.Told.{told_look}
use Rattle.memo_book.proofs.memo.BookMemo.look.Goals as goal

pub returns-clause-answer : goal.returns-clause-answer
returns-clause-answer c = told_look _ c.args.key.now c.kept.ensures c.look.result c.look.ensures
