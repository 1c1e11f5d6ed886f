use Rattle.memo_book.proofs.Told.{told_claim}
use Rattle.memo_book.proofs.memo.BookMemo.claim.Goals as goal

pub returns-clause-answer : goal.returns-clause-answer
returns-clause-answer c = told_claim _ _ c.args.key.now c.kept.ensures c.kept-2.ensures c.claim-answer.result c.claim-answer.ensures
