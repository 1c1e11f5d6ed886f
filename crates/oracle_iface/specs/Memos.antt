-- What the calls of a memo say of its fronts, where it tells them.
--
-- A front of a shard is what the seat has seen of its history. At a call the front of the key's shard grows first by entries of other seats
-- and then by the call's own, of which there is one where the call was granted, published or released, and none else; it is legal. The fronts
-- of other shards stay. The answer is that of a table with the history that the front shows before the call's own entries.
--
--   where the front is claim k by seat 1 and seat 0 claims k, Busy(1) leaves it so; after seat 1 has released k, Granted adds that release and
--   the claim by seat 0
use Rattle.std.specs.Prelude.{◌≡◌, ◌≢◌, ℕ, true, false, List, [], ◌++◌, All, Option, Some, None, Result, Ok, Err}
use Rattle.std.specs.declared.alloc.AllocError.{AllocError}
use Rattle.oracle_iface.specs.declared.cell_values.CellValue.{CellValue}
use Rattle.oracle_iface.specs.declared.entries.Act.TheVariants.{Claims}
use Rattle.oracle_iface.specs.declared.entries.Entry.{Entry}
use Rattle.oracle_iface.specs.declared.keys.Key.{Key}
use Rattle.oracle_iface.specs.declared.memo.Claim.{Claim}
use Rattle.oracle_iface.specs.declared.memo.Claim.TheVariants.{Granted, Present, Busy, Full}
use Rattle.oracle_iface.specs.declared.memo.Ticket.{Ticket}
use Rattle.oracle_iface.specs.Histories.{IsLegal, IsUnclaimed, IsHeld, IsPublished, is_full, entry}

-- the front of each shard, or nothing
abbrev pub Fronts : Type 0
Fronts = Option (ℕ → List Entry)

-- the front h of a shard has become new: it has grown by entries of others, to a history of which `shows` holds, and by its own entries
pub record Grows (seat : ℕ) (h new : List Entry) (shows : List Entry → Type 0) (own : List Entry) : Type 0 where
  pub others : List Entry
  pub apart : All (λ e. e.seat ≢ seat) others
  pub shown : shows (h ++ others)
  pub grown : new ≡ (h ++ others) ++ own
  pub legal : IsLegal new

-- fronts that are told are told again: that of the shard has grown, the others are as they were
abbrev pub Steps : ℕ → ℕ → Fronts → Fronts → (List Entry → Type 0) → List Entry → Type 0
Steps seat shard (Some old) (Some new) shows own = Grows seat (old shard) (new shard) shows own × ((other : ℕ) → other ≢ shard → new other ≡ old other)
Steps seat shard (Some old) None shows own = ⊥
Steps seat shard None (Some new) shows own = ⊥
Steps seat shard None None shows own = Unit {0}

-- where fronts are told, the ticket is of the seat, which holds its key
abbrev pub IsOwn : ℕ → ℕ → Fronts → Ticket → Type 0
IsOwn seat shard (Some fronts) t = (t.seat ≡ seat) × IsHeld (fronts shard) t.key seat
IsOwn seat shard None t = Unit {0}

-- any history
abbrev pub Anything : List Entry → Type 0
Anything h = Unit {0}

module _ (seat shard : ℕ) (key : Key) (old new : Fronts) where
  -- the answer to a claim
  abbrev pub IsClaimed : Result Claim AllocError → Type 0
  IsClaimed (Ok (Granted t)) = (t.key ≡ key) × (t.seat ≡ seat) × Steps seat shard old new (λ h. IsUnclaimed h key × (is_full h key ≡ false)) (entry Claims seat key)
  IsClaimed (Ok (Present v)) = (v.key ≡ key) × Steps seat shard old new (λ h. IsPublished h key) []
  IsClaimed (Ok (Busy holder)) = Steps seat shard old new (λ h. IsHeld h key holder) []
  IsClaimed (Ok (Full n)) = (n ≡ 65536) × Steps seat shard old new (λ h. IsUnclaimed h key × (is_full h key ≡ true)) []
  IsClaimed (Err e) = Steps seat shard old new Anything []

  -- the answer to a look-up
  abbrev pub IsLooked : Result (Option CellValue) AllocError → Type 0
  IsLooked (Ok (Some v)) = (v.key ≡ key) × Steps seat shard old new (λ h. IsPublished h key) []
  IsLooked (Ok None) = Steps seat shard old new (λ h. IsPublished h key → ⊥) []
  IsLooked (Err e) = Steps seat shard old new Anything []
