-- What each kind of step tells the pass that takes it, and what it does to that pass's view alone.
-- The steps are those of a ticket lock (the source stands in `Turns`), and those that count the history of the value behind it. A seat is its view and the slots that are out with it.
-- A worked value: a pass with ticket 5 that finds 5 as the ticket served is inside, has the slot, and its view keeps the history of the value in it; one that finds 4 stays as it was.
use Rattle.std.specs.Prelude.{◌≡◌, ℕ, ◌+◌, ◌%◌, ◌^◌, List, [], ◌∷◌, ◌++◌, length, Option, Some, All}
use Rattle.atomic_table.specs.Table.{Me}
use Rattle.turnstile.specs.declared.rule.View.{View}
use Rattle.turnstile.specs.declared.rule.Stage.TheVariants.{Outside, Waiting, Inside, Put, Spent}
use Rattle.turnstile.specs.Turns.{Fits, first_view}

abbrev pub SeatOf : Type 0 → Type 0 → Type 0
SeatOf B E = Me (Option B) (View E)

-- the history of the value in the slot that is out
abbrev pub shown : {B E : Type 0} → (B → List E) → List (ℕ × Option B) → List E
shown history ((k, Some b) ∷ rest) = history b
shown history _ = []

module _ {B E : Type 0} where
  -- it has the ticket found
  abbrev pub Drew : SeatOf B E → ℕ → SeatOf B E → Type 0
  Drew m r m' = (m' ≡ (record m.0 { stage = Waiting; ticket = m'.0.ticket }, m.1)) × (r ≡ m'.0.ticket % 2 ^ 64)

  -- where the number found is that of its ticket, it is inside, with the value and its history
  abbrev pub Called : (B → List E) → (E → ℕ) → SeatOf B E → ℕ → SeatOf B E → Type 0
  Called history owner m r m' =
      (r ≡ m.0.ticket % 2 ^ 64 → (b : B) × (m' ≡ (record m.0 { stage = Inside; found = history b }, (0, Some b) ∷ m.1)) × Fits owner (history b) m.0.number m.0.front)
      × (¬ (r ≡ m.0.ticket % 2 ^ 64) → m' ≡ m)

  -- the length of the history was found, and all of it is seen
  abbrev pub Measured : SeatOf B E → ℕ → SeatOf B E → Type 0
  Measured m r m' = (r ≡ length m.0.found) × (m' ≡ (record m.0 { front = m.0.found }, m.1))

  -- the history is that of the value in the slot
  abbrev pub Counted : (B → List E) → SeatOf B E → SeatOf B E → Type 0
  Counted history m m' = m' ≡ (record m.0 { stage = Put; front = shown history m.1 }, m.1)

  -- it is outside, and the slot is at home
  abbrev pub Served : SeatOf B E → SeatOf B E → Type 0
  Served m m' = m' ≡ (record m.0 { stage = Outside }, [])

module _ {E : Type 0} where
  -- the first view once one more pass was made
  abbrev pub one_more : View E → View E
  one_more v = record v { made = v.made + 1 }

  -- the view of the pass that is made: its number is how many there were, and it has seen what the first one has
  abbrev pub newcomer : View E → View E
  newcomer v = record { stage = Outside; number = v.made; made = 0; ticket = 0; front = v.front; found = []; kept = [] }

  -- the first view once another was joined into it: beside its own front it keeps the number and the front of the other
  abbrev pub keeper : View E → View E → View E
  keeper v w = record v { kept = record { number = w.number; front = w.front } ∷ v.kept }

  -- what is left of a view that was joined into the first
  abbrev pub spent_view : View E
  spent_view = record first_view { stage = Spent }

  -- the history grew by entries of this owner alone
  pub record Grows (owner : E → ℕ) (k : ℕ) (old new : List E) : Type 0 where
    pub added : List E
    pub grown : new ≡ old ++ added
    pub own : All (λ e. owner e ≡ k) added
