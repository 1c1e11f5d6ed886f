-- One step of reading what nests.
use Rattle.std.proofs.Common.{◌≡◌, ℕ, suc, zero, ◌-◌, ◌<◌, List, refl, arith}
use Rattle.script_lang.specs.Readings.{◌>>=◌}
use Rattle.script_lang.specs.Words.{start_of}
use Rattle.script_lang.specs.Scans.{simplex_over, simplex_in}
use Rattle.script_lang.specs.Lines.{word_at, started_at, space_at}

pub space_at_some : (room : ℕ) (bytes : List ℕ) → 0 < room → space_at room bytes ≡ (word_at start_of bytes >>= λ start. started_at (space_at (room - 1)) start.0 start.1)
unfolding space_at
space_at_some zero bytes lt = absurd (omega arith)
space_at_some (suc room) bytes lt = let e : suc room - 1 ≡ room = omega arith in rw e refl

pub simplex_in_some : (room : ℕ) (bytes : List ℕ) → 0 < room → simplex_in room bytes ≡ simplex_over (room - 1) (simplex_in (room - 1)) bytes
unfolding simplex_in
simplex_in_some zero bytes lt = absurd (omega arith)
simplex_in_some (suc room) bytes lt = let e : suc room - 1 ≡ room = omega arith in rw e refl
