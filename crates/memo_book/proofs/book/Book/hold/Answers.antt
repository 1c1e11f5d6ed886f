use Rattle.std.proofs.Common.{◌≡◌, ◌++◌, ◌∷◌, [], ◌∙◌, List, refl, arith, subst, sym, ap, Some, slice_get}
use Rattle.std.specs.Map.{values_of}
use Rattle.core_board.specs.declared.events.Event.{Event}
use Rattle.core_board.specs.declared.events.Event.TheVariants.{Claim}
use Rattle.memo_book.specs.Books.{changed}
use Rattle.memo_book.specs.declared.book.State.TheVariants.{Unclaimed, Held}
use Rattle.memo_book.proofs.Columns.{within_states, set_book, set_count, set_length, set_view}
use Rattle.memo_book.proofs.book.Book.hold.Goals as goal

pub index_mut-requires : goal.index_mut-requires
index_mut-requires c =
    within_states c.self.inside.table.entries c.args.i Unclaimed
    (subst (λ v. slice_get v.states c.args.i ≡ Some Unclaimed) (sym c.self.view_is) c.requires)

pub invariant_of-self-2 : goal.invariant_of-self-2
invariant_of-self-2 c =
    let s = c.self.inside in
    let at : slice_get (values_of s.table.entries) c.args.i ≡ Some Unclaimed = subst (λ v. slice_get v.states c.args.i ≡ Some Unclaimed) (sym c.self.view_is) c.requires in
    let count = set_count s.table.entries c.args.i Unclaimed (Held c.args.seat) at in
    let sized = set_length s.table.entries c.args.i (Held c.args.seat) in
    record {
      book = set_book s.table.entries s.journal.items c.push_reserved.new.self.items c.args.i Unclaimed (Held c.args.seat) (Claim c.args.seat c.args.i)
          c.self.invariant.book at refl refl refl (λ k ek v e. absurd (cc e))
          (c.push_reserved.ensures.items ∙ ap (λ (l : List Event). l ++ Claim c.args.seat c.args.i ∷ []) c.reserve.ensures.items);
      counted = omega (arith, count, c.self.invariant.counted);
      room = omega (arith, c.push_reserved.ensures.len, c.push_reserved.ensures.capacity, c.in_ok-reserve.ensures.ok);
      few = omega (arith, sized, c.self.invariant.few);
    }

pub returns-clause-ok : goal.returns-clause-ok
returns-clause-ok c =
    set_view c.self.inside.table.entries c.self.inside.journal.items c.push_reserved.new.self.items c.args.i (Held c.args.seat) (Claim c.args.seat c.args.i)
    (c.push_reserved.ensures.items ∙ ap (λ (l : List Event). l ++ Claim c.args.seat c.args.i ∷ []) c.reserve.ensures.items)
    ∙ ap (λ v. changed v c.args.i (Held c.args.seat) (Claim c.args.seat c.args.i)) c.self.view_is
