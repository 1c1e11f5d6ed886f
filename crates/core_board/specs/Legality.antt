-- The events of one key of a list, and what is true of each publication of a legal list.
--
--   of claim 0, claim 1, publish 0 the events of key 0 are claim 0, publish 0; the publication is the last of them
use Rattle.std.specs.Prelude.{◌≡◌, ◌≢◌, ℕ, ◌==◌, if◌then◌else◌, true, List, [], ◌∷◌, All}
use Rattle.oracle_iface.specs.Board.{held, publishes, Event, empty_board, are_legal, after_events}

-- the events of the key, in order
abbrev pub of_key : ℕ → List Event → List Event
of_key key [] = []
of_key key (e ∷ events) = if e.key == key then e ∷ of_key key events else of_key key events

abbrev pub IsLegal : List Event → Type 0
IsLegal events = are_legal empty_board events ≡ true

-- a publication of the seat that held the key, with none of the key before it and no event of the key after it
pub record IsOnlyPublication (before : List Event) (e : Event) (after : List Event) : Type 0 where
  pub by_holder : after_events empty_board before e.key ≡ held e.seat
  pub first : All (λ d. d.act ≡ publishes → d.key ≢ e.key) before
  pub last : All (λ d. d.key ≢ e.key) after
