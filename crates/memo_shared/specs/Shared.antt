-- What clauses say of a table of sixteen shards and of its passes.
--
-- A pass has a part for each shard, with the pass's seat as its number. A table makes passes one by one from the first, and each
-- has as its seat how many were made before.
--
--   after one call of `seat` the first pass has seat 0 and made 2, and the other has seat 1 and the fronts that the first had
use Rattle.std.specs.Prelude.{◌≡◌, ℕ, ◌+◌, List, [], slice_get, Option, Some, None}
use Rattle.std.specs.Coded.{Coded-set}
use Rattle.std.proofs.Props.{props}
use Rattle.oracle_iface.specs.contracts.entries.Entry as entry
use Rattle.oracle_iface.specs.declared.entries.Entry.{Entry}
use Rattle.turnstile.specs.declared.counted.Counted.{Ghosts}
use Rattle.turnstile.specs.declared.pass.Pass.{Pass}
use Rattle.turnstile.specs.declared.pass.Turnstile.{Turnstile}
use Rattle.turnstile.specs.Passes.{front, number, made, IsOutside, IsPassOf}
use Rattle.memo_shared.specs.contracts.shard.Shard as shard
use Rattle.memo_shared.specs.contracts.shard.ShardCounted.TheImpl as counted
use Rattle.memo_shared.specs.declared.shard.Shard.{Shard}
use Rattle.memo_shared.specs.declared.memo.SharedMemo.{SharedMemo}
use Rattle.memo_shared.specs.declared.memo.MemoPass.{MemoPass}

module _ {B E : Type 0} {g : Ghosts B E} where
  -- a part is one of the turnstile, outside, with this number, and has made so many
  pub record IsPart (seat many : ℕ) (t : Turnstile B E) (q : Pass B E g) : Type 0 where
    pub of_this : IsPassOf t q
    pub outside : IsOutside q
    pub number_is : number q ≡ seat
    pub made_is : made q ≡ many

  -- the first part of a turnstile that was just made
  abbrev pub IsFresh : Turnstile B E → Pass B E g → Type 0
  IsFresh t q = IsPart 0 1 t q × (front q ≡ [])

  -- the first part `old` has become `first`, and `new` was split from it
  pub record IsSplit (t : Turnstile B E) (old first new : Pass B E g) : Type 0 where
    pub first_is : IsPart 0 (made old + 1) t first
    pub new_is : IsPart (made old) 0 t new
    pub first_front : front first ≡ front old
    pub new_front : front new ≡ front old

  abbrev pub front_or : Option (Pass B E g) → List E
  front_or (Some q) = front q
  front_or None = []

-- at each place where both lists have one
abbrev pub AtEach : {X Y : Type 0} → (X → Y → Type 0) → List X → List Y → Type 0
AtEach {X} {Y} R xs ys = (k : ℕ) (x : X) (y : Y) → slice_get xs k ≡ Some x → slice_get ys k ≡ Some y → R x y

abbrev pub seat_of : MemoPass → ℕ
seat_of p = p.seat

-- how many passes were made, as the first one counts them
abbrev pub made_of : MemoPass → ℕ
made_of p = p.made

-- a part of a pass, of one shard
abbrev pub Part : Type 0
Part = Pass Shard Entry (counted.ghosts)

abbrev pub part_at : MemoPass → ℕ → Option Part
part_at p shard = slice_get p.parts.items shard

-- all of each shard's history that the pass has seen
abbrev pub fronts_of : MemoPass → ℕ → List Entry
fronts_of p shard = front_or (part_at p shard)

-- the pass is one of the table, outside of each of its shards
pub record IsOf (m : SharedMemo) (p : MemoPass) : Type 0 where
  pub each : AtEach (IsPart p.seat p.made) m.shards.items p.parts.items

-- this is a fact, with no more than one proof
pub is_of_prop : (m : SharedMemo) (p : MemoPass) → IsProp (IsOf m p)
is_of_prop m p = hlevel (props, Coded-set (shard.the_row.coded), Coded-set (entry.the_row.coded))

-- the same seat, and as many passes made
abbrev pub IsSame : MemoPass → MemoPass → Type 0
IsSame old new = (seat_of new ≡ seat_of old) × (made_of new ≡ made_of old)
