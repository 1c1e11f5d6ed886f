use Rattle.std.proofs.Common.{rules}
use Rattle.memo_shared.proofs.Columns.{gives, all_given}
use Rattle.memo_shared.proofs.dealing.deal.Goals as goal

pub loop-part-preserved : goal.loop-part-preserved
loop-part-preserved c =
    let i = c.loop-part.invariant in (
      search rules,
      gives c.args.lists.now.items c.args.parts.items c.loop-part.lists.items c.loop-part.parts.items c.pop.new.self.items c.in-Some.part c.in-Some.ensures.items
          c.index_mut.result.now c.put_part.new.list c.len.result (search rules) (search rules) c.index_mut.ensures.value c.put_part.ensures i.1,
    )

pub returns : goal.returns
returns c = all_given c.args.lists.now.items c.args.parts.items c.loop-part.lists.items c.loop-part.parts.items (search rules) c.loop-part.invariant.1
