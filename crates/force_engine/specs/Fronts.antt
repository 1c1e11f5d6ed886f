-- What a seat sees of the histories of the shards, at two points of its work.
--
-- A front of a shard is a beginning of its history: what the seat has seen of it. A memo may tell its fronts, one for each shard, or none. The
-- facts here speak of fronts that are told; of fronts that are not they say nothing, and fronts that are told stay told.
--
--   where the front of a shard is claim k by seat 0, publish k by seat 0, claim m by seat 0, the seat holds m and not k
use Rattle.std.specs.Prelude.{◌<◌, ◌↔◌, ℕ, List, Some, None}
use Rattle.oracle_iface.specs.Histories.{IsHeld, IsPublished}
use Rattle.oracle_iface.specs.KeyRanks.{rank_of}
use Rattle.oracle_iface.specs.Keys.{question_of}
use Rattle.oracle_iface.specs.Memos.{Fronts}
use Rattle.oracle_iface.specs.declared.entries.Entry.{Entry}
use Rattle.oracle_iface.specs.declared.keys.Key.{Key}

-- the front of each shard
abbrev pub Told : Type 0
Told = ℕ → List Entry

-- it holds of the fronts, if they are told
abbrev pub IfTold : (Told → Type 0) → Fronts → Type 0
IfTold P (Some h) = P h
IfTold P None = Unit {0}

-- they are told, and it holds of them
abbrev pub IsTold : (Told → Type 0) → Fronts → Type 0
IsTold P (Some h) = P h
IsTold P None = ⊥

-- it holds of earlier and of later fronts, if they are told, and both are told or none
abbrev pub Between : (Told → Told → Type 0) → Fronts → Fronts → Type 0
Between P (Some h) (Some n) = P h n
Between P (Some h) None = ⊥
Between P None (Some n) = ⊥
Between P None None = Unit {0}

-- the rank of a key, as a number
abbrev pub key_rank : Key → ℕ
key_rank k = rank_of (question_of k)

module _ (seat : ℕ) (shard : Key → ℕ) where
  -- the seat holds no key of a rank below the number
  abbrev pub IsFreeBelow : ℕ → Told → Type 0
  IsFreeBelow rank h = (k : Key) → key_rank k < rank → IsHeld (h (shard k)) k seat → ⊥

  -- the seat holds neither the key nor a key of a lower rank
  pub record IsFree (key : Key) (h : Told) : Type 0 where
    pub itself : IsHeld (h (shard key)) key seat → ⊥
    pub lower : IsFreeBelow (key_rank key) h

-- the key is published
abbrev pub IsThere : (Key → ℕ) → Key → Told → Type 0
IsThere shard key h = IsPublished (h (shard key)) key

-- the seat holds the same keys
abbrev pub HoldsTheSame : ℕ → List Entry → List Entry → Type 0
HoldsTheSame seat h n = (k : Key) → IsHeld h k seat ↔ IsHeld n k seat
