use Rattle.std.proofs.Common.{◌∙◌, rules, refl, sym}
use Rattle.oracle_iface.specs.declared.entries.Act.TheVariants.{Publishes}
use Rattle.memo_shared.specs.Shared.{IsPart}
use Rattle.memo_shared.proofs.Lifted.{lent, kept_parts, held_in, lifts_end}
use Rattle.memo_shared.proofs.memo.SharedMemo.publish.Goals as goal

pub publish_part-requires-clause-outside : goal.publish_part-requires-clause-outside
publish_part-requires-clause-outside g c =
    let part : IsPart c.args.pass.now.seat c.args.pass.now.made c.index.result.now c.index_mut.result.now =
    lent _ _ _ _ c.place_of-place.result _ _ (search rules) (search rules) c.index.ensures c.index_mut.ensures.value c.requires.pass.each in
    (part.outside, part.number_is ∙ sym c.requires.ticket.0)

pub publish_part-requires-clause-held : goal.publish_part-requires-clause-held
publish_part-requires-clause-held g c =
    held_in c.args.pass.now.parts.items _ _ c.index_mut.result.now c.index_mut.result.now c.place_of-place.ensures.number (search rules) c.index_mut.ensures.value
    c.args.pass.now.seat c.args.ticket.seat c.args.ticket.key c.requires.ticket.0 c.requires.ticket.1

pub returns-clause-pass : goal.returns-clause-pass
returns-clause-pass g c = (
  record { each = kept_parts _ _ _ _ _ _ _ (search rules) (search rules) c.index.ensures c.index_mut.ensures.value c.requires.pass.each _ c.publish_part.ensures.part },
  (refl, refl),
)

pub returns-clause-front : goal.returns-clause-front
returns-clause-front g c =
    lifts_end c.args.pass.now.parts.items _ _ c.index_mut.result.now c.publish_part.new.part c.place_of-place.ensures.number (search rules) c.index_mut.ensures.value
    Publishes c.args.pass.now.seat c.args.ticket.seat c.args.ticket.key c.requires.ticket.0 c.publish_part.ensures.front
