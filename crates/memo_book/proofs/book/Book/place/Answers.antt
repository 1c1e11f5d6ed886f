use Rattle.std.proofs.Common.{◌≡◌, ℕ, subst, Some, slice_get}
use Rattle.std.specs.Prelude.{IfSome, IfNone}
use Rattle.std.specs.Map.{keys_of}
use Rattle.memo_book.proofs.Finding.{found}
use Rattle.memo_book.proofs.book.Book.place.Goals as goal

pub returns-clause-some : goal.returns-clause-some
returns-clause-some c =
    subst (λ v. IfSome c.get_index_of.result (λ i. slice_get v.keys i ≡ Some c.args.key.now)) c.self.view_is
    (found (keys_of c.self.inside.table.entries) c.args.key.now c.get_index_of.result c.get_index_of.ensures.index).0

pub returns-clause-none : goal.returns-clause-none
returns-clause-none c =
    subst (λ v. IfNone c.get_index_of.result ((j : ℕ) → slice_get v.keys j ≡ Some c.args.key.now → ⊥)) c.self.view_is
    (found (keys_of c.self.inside.table.entries) c.args.key.now c.get_index_of.result c.get_index_of.ensures.index).1
