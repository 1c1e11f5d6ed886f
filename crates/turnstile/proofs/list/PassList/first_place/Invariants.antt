use Rattle.std.proofs.Common.{◌≡◌, ◌≤◌, ◌<◌, ◌-◌, ℕ, length}
use Rattle.std.specs.Prelude.{slice_index_or}
use Rattle.turnstile.specs.Passes.{number}
use Rattle.turnstile.proofs.list.PassList.first_place.Given as goal

-- the first pass stands at this place or later
abbrev pub invariant-loop-place : goal.invariant-loop-place
invariant-loop-place g l = (j : ℕ) × (p : _) × (l.place ≤ j) × (j < length l.self.items.items) × (slice_index_or l.self.items.items j p ≡ p) × (number p ≡ 0)

abbrev pub decreases-loop-place : goal.decreases-loop-place
decreases-loop-place g l = length l.self.items.items - l.place
