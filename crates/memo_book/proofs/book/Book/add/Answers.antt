use Rattle.std.proofs.Common.{◌≡◌, ◌<◌, ◌++◌, ◌∷◌, [], ◌∙◌, ℕ, List, arith, subst, sym, ap, Some, length, slice_get}
use Rattle.std.specs.Map.{keys_of}
use Rattle.std.proofs.lemmas.List.{length-map}
use Rattle.indexmap.specs.IndexMap.{insert_entry}
use Rattle.oracle_iface.specs.declared.keys.Key.{Key}
use Rattle.core_board.specs.declared.events.Event.{Event}
use Rattle.core_board.specs.declared.events.Event.TheVariants.{Claim}
use Rattle.memo_book.specs.Books.{extended}
use Rattle.memo_book.specs.declared.book.State.TheVariants.{Held}
use Rattle.memo_book.proofs.Finding.{equal_keys}
use Rattle.memo_book.proofs.Columns.{added_book, added_count, added_length, added_view}
use Rattle.memo_book.proofs.book.Book.add.Goals as goal

pub invariant_of-self-2 : goal.invariant_of-self-2
invariant_of-self-2 c =
    let s = c.self.inside in
    let fresh : (j : ℕ) → slice_get (keys_of s.table.entries) j ≡ Some c.args.key.now → ⊥ =
    subst (λ v. (j : ℕ) → slice_get v.keys j ≡ Some c.args.key.now → ⊥) (sym c.self.view_is) c.requires.new in
    let is = c.in_ok-insert.ensures.entries ∙ ap (λ (k : Key). insert_entry equal_keys s.table.entries k (Held c.args.seat)) c.in_ok-listed.ensures.cases in
    let j_is = c.push_reserved.ensures.items ∙ ap (λ (l : List Event). l ++ Claim c.args.seat c.len-i.result ∷ []) c.reserve.ensures.items in
    let room : length (keys_of s.table.entries) < 65536 = subst (λ v. length v.keys < 65536) (sym c.self.view_is) c.requires.room in
    let sized = length-map s.table.entries (λ e. e.0) in
    let more = added_length s.table.entries c.insert.new.self.entries s.journal.items c.push_reserved.new.self.items c.args.key.now c.args.seat c.len-i.result
    c.self.invariant.book fresh c.len-i.ensures.len is j_is in
    record {
      book = added_book s.table.entries c.insert.new.self.entries s.journal.items c.push_reserved.new.self.items c.args.key.now c.args.seat c.len-i.result
          c.self.invariant.book fresh c.len-i.ensures.len is j_is;
      counted = added_count s.table.entries c.insert.new.self.entries s.journal.items c.push_reserved.new.self.items c.args.key.now c.args.seat c.len-i.result
          c.self.invariant.book fresh c.len-i.ensures.len is j_is s.held c.self.invariant.counted;
      room = omega (arith, c.push_reserved.ensures.len, c.push_reserved.ensures.capacity, c.in_ok-reserve.ensures.ok);
      few = omega (arith, more, room, sized);
    }

pub returns-clause-ok : goal.returns-clause-ok
returns-clause-ok c =
    let s = c.self.inside in
    let fresh : (j : ℕ) → slice_get (keys_of s.table.entries) j ≡ Some c.args.key.now → ⊥ =
    subst (λ v. (j : ℕ) → slice_get v.keys j ≡ Some c.args.key.now → ⊥) (sym c.self.view_is) c.requires.new in
    let is = c.in_ok-insert.ensures.entries ∙ ap (λ (k : Key). insert_entry equal_keys s.table.entries k (Held c.args.seat)) c.in_ok-listed.ensures.cases in
    let j_is = c.push_reserved.ensures.items ∙ ap (λ (l : List Event). l ++ Claim c.args.seat c.len-i.result ∷ []) c.reserve.ensures.items in
    added_view s.table.entries c.insert.new.self.entries s.journal.items c.push_reserved.new.self.items c.args.key.now c.args.seat c.len-i.result
    c.self.invariant.book fresh c.len-i.ensures.len is j_is
    ∙ ap (λ v. extended v c.args.key.now c.args.seat) c.self.view_is
