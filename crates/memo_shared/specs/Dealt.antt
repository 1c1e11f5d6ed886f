-- How the parts of passes are dealt to a list for each shard, and what closing its turnstile then gives.
--
-- Passes are dealt from the last on. The list of a shard has the parts of this shard of those passes that are no longer left.
--
--   of two passes with the parts q, r of shard 3 the list of shard 3 gets r and then q
use Rattle.std.specs.Prelude.{◌≡◌, ◌⊎◌, ℕ, ◌+◌, ◌≤◌, List, [], ◌∷◌, ◌++◌, length, slice_get, Some, All, Any}
use Rattle.oracle_iface.specs.declared.entries.Entry.{Entry}
use Rattle.memo_book.specs.Books.{BookView}
use Rattle.memo_book.specs.Histories.{history}
use Rattle.turnstile.specs.declared.counted.Counted.{Ghosts}
use Rattle.turnstile.specs.declared.pass.Pass.{Pass}
use Rattle.turnstile.specs.declared.list.PassList.{PassList}
use Rattle.turnstile.specs.Turns.{Fits}
use Rattle.turnstile.specs.Passes.{front, number, passes, room_left}
use Rattle.memo_shared.specs.Shared.{Part, part_at}
use Rattle.memo_shared.specs.contracts.shard.ShardCounted.TheImpl as counted
use Rattle.memo_shared.specs.declared.shard.Shard.{Shard}
use Rattle.memo_shared.specs.declared.memo.MemoPass.{MemoPass}

-- x stands in the list
abbrev pub IsIn : {A : Type 0} → A → List A → Type 0
IsIn x xs = (k : ℕ) × (slice_get xs k ≡ Some x)

module _ {B E : Type 0} {g : Ghosts B E} where
  -- an empty list with room for so many
  abbrev pub HasRoom : ℕ → PassList B E g → Type 0
  HasRoom n l = (passes l ≡ []) × (n ≤ room_left l)

  -- the list got this part at its end
  abbrev pub Got : PassList B E g → Pass B E g → PassList B E g → Type 0
  Got old part new = (passes new ≡ passes old ++ part ∷ []) × (room_left old ≤ room_left new + 1)

  -- each list got the part at its place
  pub record EachGot (olds : List (PassList B E g)) (parts : List (Pass B E g)) (news : List (PassList B E g)) : Type 0 where
    pub as_many : length news ≡ length olds
    pub at : (place : ℕ) (old : PassList B E g) → slice_get olds place ≡ Some old
        → (part : Pass B E g) × (new : PassList B E g) × (slice_get parts place ≡ Some part) × (slice_get news place ≡ Some new) × Got old part new

-- those of the passes that are not left have their parts of the shard in the list, and it has no others
pub record IsDealt (shard : ℕ) (all left : List MemoPass) (parts : List Part) : Type 0 where
  pub given : (p : MemoPass) → IsIn p all → IsIn p left ⊎ ((q : Part) × (part_at p shard ≡ Some q) × IsIn q parts)
  pub taken : (q : Part) → IsIn q parts → (p : MemoPass) × IsIn p all × (part_at p shard ≡ Some q)

-- a list of parts of one shard
abbrev pub PartList : Type 0
PartList = PassList Shard Entry (counted.ghosts)

-- the list of each shard has the parts of all passes
abbrev pub AreDealt : List MemoPass → List PartList → Type 0
AreDealt all lists = (shard : ℕ) (l : PartList) → slice_get lists shard ≡ Some l → IsDealt shard all [] (passes l)

-- the history of the book goes on from the fronts of all parts, and each entry is of one of them
abbrev pub Closes : List Part → BookView → Type 0
Closes parts b =
    All (λ (q : Part). Fits (λ (e : Entry). e.seat) (history b) (number q) (front q)) parts × All (λ (e : Entry). Any (λ (q : Part). number q ≡ e.seat) parts) (history b)
