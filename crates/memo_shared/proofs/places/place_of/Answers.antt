use Rattle.std.proofs.Common.{◌∙◌, ap}
use Rattle.memo_shared.specs.Shards.{shard_number}
use Rattle.memo_shared.proofs.places.place_of.Goals as goal

pub returns-clause-number : goal.returns-clause-number
returns-clause-number c = c.shard_of.ensures.number ∙ ap shard_number c.get.ensures
