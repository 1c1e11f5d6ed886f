-- Which keys are settled between two fronts of a shard, and why a rule was begun.
--
-- A front on the way from one front to a later one is any between them. A key is settled where the later front shows it published, or some
-- front on the way shows it held by another seat, or some front on the way shows 65,536 keys without it: then nothing more can be asked of a
-- table that others use too.
--
--   from the empty front to claim k by seat 1, release k by seat 1 the key k is settled for seat 0, as the front between them shows it held by
--   seat 1; for seat 1 it is not
use Rattle.std.specs.Prelude.{◌≡◌, ◌≢◌, ℕ, true, List, ◌++◌, Contains}
use Rattle.oracle_iface.specs.Histories.{IsHeld, IsPublished, is_full}
use Rattle.oracle_iface.specs.declared.entries.Act.{Act}
use Rattle.oracle_iface.specs.declared.entries.Act.TheVariants.{Claims}
use Rattle.oracle_iface.specs.declared.entries.Entry.{Entry}
use Rattle.oracle_iface.specs.declared.keys.Key.{Key}

-- that the seat did this to the key
abbrev pub doing : Act → ℕ → Key → Entry
doing act seat key = record { act = act; seat = seat; key = key }

-- a front on the way from h to n
pub record IsOnTheWay (h n at : List Entry) : Type 0 where
  pub before : List Entry
  pub after : List Entry
  pub begun : at ≡ h ++ before
  pub ended : n ≡ at ++ after

-- some front on the way shows the key held by another seat
pub record WasHeld (seat : ℕ) (key : Key) (h n : List Entry) : Type 0 where
  pub at : List Entry
  pub on_the_way : IsOnTheWay h n at
  pub holder : ℕ
  pub another : holder ≢ seat
  pub shown : IsHeld at key holder

-- some front on the way shows 65,536 keys without it
pub record WasFull (key : Key) (h n : List Entry) : Type 0 where
  pub at : List Entry
  pub on_the_way : IsOnTheWay h n at
  pub shown : is_full at key ≡ true

-- the key is settled
pub data IsSettled (seat : ℕ) (key : Key) (h n : List Entry) : Type 0 where
  is_there : IsPublished n key → IsSettled seat key h n
  was_held : WasHeld seat key h n → IsSettled seat key h n
  was_full : WasFull key h n → IsSettled seat key h n

-- why the rule of the key was begun: the seat has claimed the key since, or another one held it, or there was no room for it
pub data WasBegun (seat : ℕ) (key : Key) (h n : List Entry) : Type 0 where
  by_claim : (added : List Entry) → n ≡ h ++ added → Contains added (doing Claims seat key) → WasBegun seat key h n
  by_holder : WasHeld seat key h n → WasBegun seat key h n
  by_full : WasFull key h n → WasBegun seat key h n
