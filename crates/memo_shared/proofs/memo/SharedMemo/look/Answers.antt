use Rattle.std.proofs.Common.{rules, refl}
use Rattle.memo_shared.proofs.Lifted.{kept_parts, lifts_look}
use Rattle.memo_shared.proofs.memo.SharedMemo.look.Goals as goal

pub returns-clause-pass : goal.returns-clause-pass
returns-clause-pass g c = (
  record { each = kept_parts _ _ _ _ _ _ _ (search rules) (search rules) c.index.ensures c.index_mut.ensures.value c.requires.pass.each _ c.look_part.ensures.part },
  (refl, refl),
)

pub returns-clause-answer : goal.returns-clause-answer
returns-clause-answer g c =
    lifts_look c.args.pass.now.parts.items _ _ c.index_mut.result.now c.look_part.new.part c.place_of-place.ensures.number (search rules) c.index_mut.ensures.value c.args.pass.now.seat
    c.args.key.now c.look_part.result c.look_part.ensures.answer
