-- A list of passes that lends them in order.
--
-- What is left behind the reference is what the list then holds. A reference to a slice keeps the number of its items; so the list has the
-- items left there, cut or filled up to its own length, which changes nothing of a list of this length.
--
--   where seat 0 of the list of two passes has claimed a key through the reference, the list has its pass of then, and the other as it was
use Rattle.std.specs.Prelude.{List, ◌++◌, length, take, drop}
use Rattle.std.specs.Borrow.{Lends, MutBor, Fml, Array}
use Rattle.memo_shared.specs.contracts.lists.MemoPassList as list
use Rattle.memo_shared.specs.contracts.memo.MemoPass as pass
use Rattle.memo_shared.specs.declared.memo.MemoPass.{MemoPass}

abbrev pub given_back : List MemoPass → List MemoPass → List MemoPass
given_back old new = take (length old) (new ++ drop (length new) old)

abbrev pub LendsPasses : MutBor (List MemoPass) → MutBor (List MemoPass) → Fml
LendsPasses l r = Lends list.the_row (Array pass.the_row 0) l r (given_back l.now)
