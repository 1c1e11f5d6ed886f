-- The answers of a book that tells no front.
use Rattle.std.proofs.Common.{ℕ, Option, Some, None, Result, Ok, Err, refl}
use Rattle.std.specs.declared.alloc.AllocError.{AllocError}
use Rattle.oracle_iface.specs.Memos.{IsClaimed, IsLooked}
use Rattle.oracle_iface.specs.declared.cell_values.CellValue.{CellValue}
use Rattle.oracle_iface.specs.declared.keys.Key.{Key}
use Rattle.oracle_iface.specs.declared.memo.Claim.{Claim}
use Rattle.oracle_iface.specs.declared.memo.Claim.TheVariants.{Granted, Present, Busy, Full}
use Rattle.memo_book.specs.Books.{BookView, IsBook, Claims, Looks}
use Rattle.memo_book.specs.declared.book.State.TheVariants.{Published}

pub untold_claim : (old new : BookView) (key : Key) (seat shard : ℕ) → IsBook old.keys old.states old.journal → (r : Result Claim AllocError) → Claims old new key seat r
    → IsClaimed seat shard key None None r
untold_claim old new key seat shard kept (Ok (Granted t)) c = (c.0, c.1, tt)
untold_claim old new key seat shard kept (Ok (Present v)) c = (kept.right c.0.0 (Published v) key c.0.1.1 c.0.1.0 v refl, tt)
untold_claim old new key seat shard kept (Ok (Busy holder)) c = tt
untold_claim old new key seat shard kept (Ok (Full n)) c = (c.0, tt)
untold_claim old new key seat shard kept (Err e) c = tt

pub untold_look : (b : BookView) (key : Key) (seat shard : ℕ) → IsBook b.keys b.states b.journal → (r : Result (Option CellValue) AllocError) → Looks b key r
    → IsLooked seat shard key None None r
untold_look b key seat shard kept (Ok (Some v)) c = (kept.right c.0 (Published v) key c.1.1 c.1.0 v refl, tt)
untold_look b key seat shard kept (Ok None) c = tt
untold_look b key seat shard kept (Err e) c = tt
