-- The history of a shard: what was done to its keys, entry by entry, in the rules of the board.
--
-- A history tells how each key stands and which keys it has, those that its entries name. It is legal where, for each key, its entries of
-- that key are. It is full for a key where it has 65,536 keys, and this is none of them.
--
--   after a claim of k by seat 0, its release, and a claim by seat 1, k is held by seat 1, and the history has the one key k
use Rattle.std.specs.Prelude.{◌≡◌, ℕ, ◌==◌, ◌&&◌, ◌||◌, Bool, true, false, not, if◌then◌else◌, List, [], ◌∷◌, ◌++◌, length}
use Rattle.oracle_iface.specs.Board.{Slot, unclaimed, held, published, claims, publishes, releases, can_act, after_act, Act as BoardAct}
use Rattle.oracle_iface.specs.KeyOrder.{same_key}
use Rattle.oracle_iface.specs.declared.entries.Act.{Act}
use Rattle.oracle_iface.specs.declared.entries.Act.TheVariants.{Claims, Publishes, Releases}
use Rattle.oracle_iface.specs.declared.entries.Entry.{Entry}
use Rattle.oracle_iface.specs.declared.keys.Key.{Key}

abbrev pub entry : Act → ℕ → Key → List Entry
entry act seat key = record { act = act; seat = seat; key = key } ∷ []

abbrev pub board_act : Act → BoardAct
board_act Claims = claims
board_act Publishes = publishes
board_act Releases = releases

-- how the key of an entry stands after it
abbrev pub slot_after : Entry → Slot
slot_after e = after_act (board_act e.act) e.seat

-- whether the entry is legal where its key stands so
abbrev pub is_legal_at : Slot → Entry → Bool
is_legal_at x e = can_act x (board_act e.act) e.seat

-- how a key stands after the entries, if it stood so before
abbrev pub slot_from : Slot → List Entry → Key → Slot
slot_from x [] k = x
slot_from x (e ∷ es) k = slot_from (if same_key e.key k then slot_after e else x) es k

abbrev pub slot_of : List Entry → Key → Slot
slot_of es k = slot_from unclaimed es k

-- whether the entries of a key are legal, if it stood so before
abbrev pub legal_from : Slot → List Entry → Key → Bool
legal_from x [] k = true
legal_from x (e ∷ es) k = if same_key e.key k then is_legal_at x e && legal_from (slot_after e) es k else legal_from x es k

abbrev pub IsLegal : List Entry → Type 0
IsLegal es = (k : Key) → legal_from unclaimed es k ≡ true

abbrev pub IsUnclaimed : List Entry → Key → Type 0
IsUnclaimed h k = slot_of h k ≡ unclaimed

abbrev pub IsHeld : List Entry → Key → ℕ → Type 0
IsHeld h k seat = slot_of h k ≡ held seat

abbrev pub IsPublished : List Entry → Key → Type 0
IsPublished h k = slot_of h k ≡ published

-- ---- the keys of a history

abbrev pub has_key : List Key → Key → Bool
has_key [] k = false
has_key (x ∷ xs) k = same_key x k || has_key xs k

-- the keys, in order of first claim, after those that are known
abbrev pub keys_from : List Key → List Entry → List Key
keys_from ks [] = ks
keys_from ks (e ∷ es) = keys_from (if has_key ks e.key then ks else ks ++ e.key ∷ []) es

abbrev pub keys_of : List Entry → List Key
keys_of es = keys_from [] es

abbrev pub is_full : List Entry → Key → Bool
is_full h k = (length (keys_of h) == 65536) && not (has_key (keys_of h) k)
