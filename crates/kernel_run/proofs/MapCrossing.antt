-- A map in order of insertion may be handed from thread to thread, where its keys and its values may.
use denote.RattleType.{RattleType}
use denote.Param.Send.{IsSend, sendable}
use Rattle.std.proofs.Crossing.{crosses, Vec-send}
use Rattle.std.specs.contracts.alloc.Global as heap
use Rattle.std.specs.contracts.impls.GlobalAllocator.TheImpl.{ghosts}
use Rattle.std.specs.declared.cmp.PartialEq as eq
use Rattle.std.specs.declared.hash.BuildHasher as builder
use Rattle.std.specs.declared.hash.Hash as hash
use Rattle.std.specs.declared.hash.Hasher as hasher
use Rattle.indexmap.specs.contracts.columns.Columns as columns
use Rattle.indexmap.specs.contracts.index_table.Bucket as bucket
use Rattle.indexmap.specs.contracts.index_table.IndexTable as index_table
use Rattle.indexmap.specs.contracts.index_table.group.Group as group
use Rattle.indexmap.specs.contracts.map.IndexMap as index_map

-- keys and values, in two lists
Columns-send : (K V : RattleType) → IsSend K → IsSend V → IsSend (columns.the_field K V heap.the_row ghosts).row
Columns-send K V sk sv = let keys = Vec-send K sk in let values = Vec-send V sv in search (sendable, crosses) depth 20

-- the places by hash
Table-send : IsSend (index_table.the_field heap.the_row ghosts).row
Table-send =
    let groups = Vec-send group.the_row (search sendable depth 20) in
    let buckets = Vec-send bucket.the_row (search sendable depth 20) in
    search (sendable, crosses) depth 20

module _ (K V S T : RattleType) (e : eq.Ghosts K.Denot) (h : hash.Ghosts K.Denot) (b : builder.Ghosts S.Denot T.Denot) (w : hasher.Ghosts T.Denot) where
  pub IndexMap-send : IsSend K → IsSend V → IsSend S → IsSend (index_map.the_field K V S heap.the_row T e h b w ghosts).row
  IndexMap-send sk sv ss = let columns = Columns-send K V sk sv in let table = Table-send in search sendable depth 20
