-- What a call of the engine does to the fronts.
--
-- Each front grows, and what is added is legal. For each key that the seat published in it and whose outcome is a value, each key that is
-- needed is settled between the fronts before and after the call. The seat holds the keys that it held before, and no others.
--
--   forcing the cycles of degree 2 of the 2-sphere in an empty table adds their claim, then a claim and a publication of each of the four keys
--   that are needed, then their publication; all that is needed is published
use Rattle.std.specs.Prelude.{◌≡◌, ℕ, Bool, true, false, List, ◌++◌, All, Contains, None}
use Rattle.oracle_iface.specs.Histories.{IsHeld, slot_of, legal_from, entry}
use Rattle.oracle_iface.specs.Keys.{key_of, needs_of}
use Rattle.oracle_iface.specs.Memos.{Fronts, Steps}
use Rattle.oracle_iface.specs.Stands.{refusal_of}
use Rattle.oracle_iface.specs.declared.entries.Act.TheVariants.{Publishes, Releases}
use Rattle.oracle_iface.specs.declared.entries.Entry.{Entry}
use Rattle.oracle_iface.specs.declared.keys.Key.{Key}
use Rattle.force_engine.specs.Fronts.{Told, HoldsTheSame}
use Rattle.force_engine.specs.Settled.{doing, IsSettled, WasBegun}

-- the outcome of the key is a value
abbrev pub HasValue : Key → Type 0
HasValue k = refusal_of k ≡ None

-- n is h with entries that are legal there, and it holds of each key with a value that the seat published in them
pub record Extends (seat : ℕ) (is_backed : Key → Type 0) (h n : List Entry) : Type 0 where
  pub added : List Entry
  pub grown : n ≡ h ++ added
  pub legal : (k : Key) → legal_from (slot_of h k) added k ≡ true
  pub backed : (k : Key) → Contains added (doing Publishes seat k) → HasValue k → is_backed k

module _ (seat : ℕ) (shard : Key → ℕ) where
  -- the key is settled, in its shard
  abbrev pub IsSettledAt : Key → Told → Told → Type 0
  IsSettledAt key h n = IsSettled seat key (h (shard key)) (n (shard key))

  -- each key that is needed for it is settled
  abbrev pub NeedsSettled : Key → Told → Told → Type 0
  NeedsSettled key h n = All (λ q. IsSettledAt (key_of key.prime q) h n) (needs_of key)

  -- what a call of the engine does
  pub record Went (h n : Told) : Type 0 where
    pub extends : (i : ℕ) → Extends seat (λ k. NeedsSettled k h n) (h i) (n i)
    pub holds : (i : ℕ) → HoldsTheSame seat (h i) (n i)

  -- the rule of the key was begun, as its shard shows
  abbrev pub WasBegunAt : Key → Told → Told → Type 0
  WasBegunAt key h n = WasBegun seat key (h (shard key)) (n (shard key))

-- how a ticket ends: by a publication where the answer is the value, which was found, and else by a release
abbrev pub Ended : ℕ → ℕ → Key → Fronts → Fronts → Bool → Bool → Type 0
Ended seat shard key old new found true = (found ≡ true) × Steps seat shard old new (λ h. IsHeld h key seat) (entry Publishes seat key)
Ended seat shard key old new found false = Steps seat shard old new (λ h. IsHeld h key seat) (entry Releases seat key)
