use Rattle.std.proofs.Common.{◌≡◌, ◌∙◌, refl, arith, subst, sym, ap, Some, slice_get, eq-eqb}
use Rattle.std.specs.Map.{values_of}
use Rattle.core_board.specs.declared.events.Event.TheVariants.{Release}
use Rattle.memo_book.specs.Books.{changed}
use Rattle.memo_book.specs.declared.book.State.TheVariants.{Unclaimed, Held}
use Rattle.memo_book.proofs.Columns.{within_states, set_book, set_count, set_length, set_view}
use Rattle.memo_book.proofs.book.Book.give_up.Goals as goal

pub index_mut-requires : goal.index_mut-requires
index_mut-requires c =
    within_states c.self.inside.table.entries c.args.i (Held c.args.seat)
    (subst (λ v. slice_get v.states c.args.i ≡ Some (Held c.args.seat)) (sym c.self.view_is) c.requires.held)

pub overflow_sub-self : goal.overflow_sub-self
overflow_sub-self c =
    let s = c.self.inside in
    let at : slice_get (values_of s.table.entries) c.args.i ≡ Some (Held c.args.seat) =
    subst (λ v. slice_get v.states c.args.i ≡ Some (Held c.args.seat)) (sym c.self.view_is) c.requires.held in
    let count = set_count s.table.entries c.args.i (Held c.args.seat) Unclaimed at in omega (arith, count, c.self.invariant.counted)

pub push_reserved-requires : goal.push_reserved-requires
push_reserved-requires c =
    let s = c.self.inside in
    let at : slice_get (values_of s.table.entries) c.args.i ≡ Some (Held c.args.seat) =
    subst (λ v. slice_get v.states c.args.i ≡ Some (Held c.args.seat)) (sym c.self.view_is) c.requires.held in
    let count = set_count s.table.entries c.args.i (Held c.args.seat) Unclaimed at in omega (arith, count, c.self.invariant.counted, c.self.invariant.room)

pub invariant_of-self : goal.invariant_of-self
invariant_of-self c =
    let s = c.self.inside in
    let at : slice_get (values_of s.table.entries) c.args.i ≡ Some (Held c.args.seat) =
    subst (λ v. slice_get v.states c.args.i ≡ Some (Held c.args.seat)) (sym c.self.view_is) c.requires.held in
    let count = set_count s.table.entries c.args.i (Held c.args.seat) Unclaimed at in
    let sized = set_length s.table.entries c.args.i Unclaimed in
    record {
      book = set_book s.table.entries s.journal.items c.push_reserved.new.self.items c.args.i (Held c.args.seat) Unclaimed (Release c.args.seat c.args.i)
          c.self.invariant.book at refl (eq-eqb c.args.seat c.args.seat refl) refl (λ k ek v e. absurd (cc e)) c.push_reserved.ensures.items;
      counted = omega (arith, count, c.self.invariant.counted);
      room = omega (arith, count, c.self.invariant.counted, c.self.invariant.room, c.push_reserved.ensures.len, c.push_reserved.ensures.capacity);
      few = omega (arith, sized, c.self.invariant.few);
    }

pub returns : goal.returns
returns c =
    set_view c.self.inside.table.entries c.self.inside.journal.items c.push_reserved.new.self.items c.args.i Unclaimed (Release c.args.seat c.args.i)
    c.push_reserved.ensures.items
    ∙ ap (λ v. changed v c.args.i Unclaimed (Release c.args.seat c.args.i)) c.self.view_is
