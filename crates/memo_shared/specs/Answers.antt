-- The answers of a table of results, in terms of how the history of the key's shard has grown.
--
-- A growth `grew shows own` says that the history grew, that `shows` held of it before the call's own entries, and that these are `own`.
--
--   a claim is Busy(1) where the history grew, showed the key held by seat 1, and the call added no entry
use Rattle.std.specs.Prelude.{◌≡◌, ℕ, true, false, List, [], Option, Some, None, Result, Ok, Err}
use Rattle.std.specs.declared.alloc.AllocError.{AllocError}
use Rattle.oracle_iface.specs.declared.cell_values.CellValue.{CellValue}
use Rattle.oracle_iface.specs.declared.entries.Act.TheVariants.{Claims}
use Rattle.oracle_iface.specs.declared.entries.Entry.{Entry}
use Rattle.oracle_iface.specs.declared.keys.Key.{Key}
use Rattle.oracle_iface.specs.declared.memo.Claim.{Claim}
use Rattle.oracle_iface.specs.declared.memo.Claim.TheVariants.{Granted, Present, Busy, Full}
use Rattle.oracle_iface.specs.Histories.{IsUnclaimed, IsHeld, IsPublished, is_full, entry}
use Rattle.oracle_iface.specs.Memos.{Anything}

module _ (seat : ℕ) (key : Key) (grew : (List Entry → Type 0) → List Entry → Type 0) where
  -- the answer to a claim
  abbrev pub IsClaimedBy : Result Claim AllocError → Type 0
  IsClaimedBy (Ok (Granted t)) = (t.key ≡ key) × (t.seat ≡ seat) × grew (λ h. IsUnclaimed h key × (is_full h key ≡ false)) (entry Claims seat key)
  IsClaimedBy (Ok (Present v)) = (v.key ≡ key) × grew (λ h. IsPublished h key) []
  IsClaimedBy (Ok (Busy holder)) = grew (λ h. IsHeld h key holder) []
  IsClaimedBy (Ok (Full n)) = (n ≡ 65536) × grew (λ h. IsUnclaimed h key × (is_full h key ≡ true)) []
  IsClaimedBy (Err e) = grew Anything []

module _ (key : Key) (grew : (List Entry → Type 0) → List Entry → Type 0) where
  -- the answer to a look-up
  abbrev pub IsLookedBy : Result (Option CellValue) AllocError → Type 0
  IsLookedBy (Ok (Some v)) = (v.key ≡ key) × grew (λ h. IsPublished h key) []
  IsLookedBy (Ok None) = grew (λ h. IsPublished h key → ⊥) []
  IsLookedBy (Err e) = grew Anything []
