-- What clauses say of a turnstile, of its passes and of lists of them.
-- The words are this project's own, over the ticket lock of `Turns`.
-- A worked value: after two calls of `split` the first pass has number 0 and made 3, and the others have the numbers 1 and 2 and the front that it had.
-- The list of all three, in any order and all outside, is whole; without the pass of number 2 it is not.
use Rattle.std.specs.Prelude.{◌≡◌, ℕ, ◌-◌, ◌<◌, List, [], ◌∷◌, None, All, Any, vec_len, vec_capacity}
use Rattle.turnstile.specs.declared.counted.Counted.{Ghosts}
use Rattle.turnstile.specs.declared.pass.Pass.{Pass}
use Rattle.turnstile.specs.declared.list.PassList.{PassList}
use Rattle.turnstile.specs.declared.pass.Turnstile.{Turnstile}
use Rattle.turnstile.specs.declared.rule.Kept.{Kept}
use Rattle.atomic_table.specs.Seated.{TableId}
use Rattle.turnstile.specs.declared.rule.Stage.TheVariants.{Outside, Inside}

-- each number that was made but the first is kept
abbrev pub AllKept : {E : Type 0} → ℕ → List (Kept E) → Type 0
AllKept made kept = (k : ℕ) → 0 < k → k < made → Any (λ q. q.number ≡ k) kept

module _ {B E : Type 0} {g : Ghosts B E} where
  -- all of the history that the pass has seen
  abbrev pub front : Pass B E g → List E
  front p = p.seat.me.0.front

  -- the first pass has number 0
  abbrev pub number : Pass B E g → ℕ
  number p = p.seat.me.0.number

  -- how many passes were made, as the first one counts them
  abbrev pub made : Pass B E g → ℕ
  made p = p.seat.me.0.made

  -- it has no ticket, and the value is not out with it
  abbrev pub IsOutside : Pass B E g → Type 0
  IsOutside p = (p.seat.me.0.stage ≡ Outside) × (p.seat.me.1 ≡ []) × (p.seat.me.0.kept ≡ [])

  -- the value is out with it, and it has seen all of the history
  abbrev pub IsInside : Pass B E g → Type 0
  IsInside p = (p.seat.me.0.stage ≡ Inside) × (p.seat.me.1 ≡ (0, None) ∷ []) × (p.seat.me.0.kept ≡ []) × (p.seat.me.0.found ≡ p.seat.me.0.front)

  abbrev pub IsPassOf : Turnstile B E → Pass B E g → Type 0
  IsPassOf t p = p.seat.table_id ≡ t.table.shared.table_id

  -- it is a pass of the same turnstile, with the same number, and has made as many
  abbrev pub IsSamePass : Pass B E g → Pass B E g → Type 0
  IsSamePass old new = (new.seat.table_id ≡ old.seat.table_id) × (number new ≡ number old) × (made new ≡ made old)

module _ {B E : Type 0} {g : Ghosts B E} where
  abbrev pub passes : PassList B E g → List (Pass B E g)
  passes l = l.items.items

  -- how many more calls of `push` take no memory
  abbrev pub room_left : PassList B E g → ℕ
  room_left l = vec_capacity l.items - vec_len l.items

  -- what the first pass keeps of another
  abbrev pub note : Pass B E g → Kept E
  note p = record { number = number p; front = front p }

  abbrev pub IsHere : TableId → Pass B E g → Type 0
  IsHere z p = (p.seat.table_id ≡ z) × IsOutside p

  -- the list holds the first pass and every pass that was split from it, in any order, and all are outside
  pub record IsWhole (t : Turnstile B E) (ps : List (Pass B E g)) : Type 0 where
    pub of_this : All (λ p. IsPassOf t p × IsOutside p) ps
    pub first : Any (λ p. number p ≡ 0) ps
    pub every : All (λ p. number p ≡ 0 → (k : ℕ) → k < made p → Any (λ q. number q ≡ k) ps) ps
