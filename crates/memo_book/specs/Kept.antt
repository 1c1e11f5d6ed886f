-- What every book keeps, and the room in its journal.
--
--   one key, which is held: its journal has the event of its claim, and room for the event that ends this
use Rattle.std.specs.Prelude.{◌≡◌, ℕ, ◌+◌, ◌≤◌, Bool, true, false, List, Vec, vec_len, vec_capacity, count_by, length}
use Rattle.std.specs.declared.alloc.Global.{Global}
use Rattle.std.specs.Map.{keys_of, values_of}
use Rattle.oracle_iface.specs.declared.keys.Key.{Key}
use Rattle.core_board.specs.declared.events.Event.{Event}
use Rattle.memo_book.specs.Books.{IsBook}
use Rattle.memo_book.specs.declared.book.State.{State}
use Rattle.memo_book.specs.declared.book.State.TheVariants.{Unclaimed, Held, Published}

abbrev pub is_held : State → Bool
is_held Unclaimed = false
is_held (Held seat) = true
is_held (Published v) = false

-- how many keys are held
abbrev pub held_count : List State → ℕ
held_count states = count_by is_held states

-- the entries of a book, each a key with its state, with room in the journal for one event of each key that is held
pub record IsKept (entries : List (Key × State)) (journal : Vec Event Global) (held : ℕ) : Type 0 where
  pub book : IsBook (keys_of entries) (values_of entries) journal.items
  pub counted : held ≡ held_count (values_of entries)
  pub room : vec_len journal + held ≤ vec_capacity journal
  pub few : length entries ≤ 65536
