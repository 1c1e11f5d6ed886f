use Rattle.std.proofs.Common.{◌∙◌, rules, refl, sym}
use Rattle.oracle_iface.specs.declared.entries.Act.TheVariants.{Releases}
use Rattle.memo_shared.specs.Shared.{IsPart}
use Rattle.memo_shared.proofs.Lifted.{lent, kept_parts, held_in, lifts_end}
use Rattle.memo_shared.proofs.memo.SharedMemo.release.Goals as goal

pub release_part-requires-clause-outside : goal.release_part-requires-clause-outside
release_part-requires-clause-outside g c =
    let part : IsPart c.args.pass.now.seat c.args.pass.now.made c.index.result.now c.index_mut.result.now =
    lent _ _ _ _ c.place_of-place.result _ _ (search rules) (search rules) c.index.ensures c.index_mut.ensures.value c.requires.pass.each in
    (part.outside, part.number_is ∙ sym c.requires.ticket.0)

pub release_part-requires-clause-held : goal.release_part-requires-clause-held
release_part-requires-clause-held g c =
    held_in c.args.pass.now.parts.items _ _ c.index_mut.result.now c.index_mut.result.now c.place_of-place.ensures.number (search rules) c.index_mut.ensures.value
    c.args.pass.now.seat c.args.ticket.seat c.args.ticket.key c.requires.ticket.0 c.requires.ticket.1

pub returns-clause-pass : goal.returns-clause-pass
returns-clause-pass g c = (
  record { each = kept_parts _ _ _ _ _ _ _ (search rules) (search rules) c.index.ensures c.index_mut.ensures.value c.requires.pass.each _ c.release_part.ensures.part },
  (refl, refl),
)

pub returns-clause-front : goal.returns-clause-front
returns-clause-front g c =
    lifts_end c.args.pass.now.parts.items _ _ c.index_mut.result.now c.release_part.new.part c.place_of-place.ensures.number (search rules) c.index_mut.ensures.value
    Releases c.args.pass.now.seat c.args.ticket.seat c.args.ticket.key c.requires.ticket.0 c.release_part.ensures.front
