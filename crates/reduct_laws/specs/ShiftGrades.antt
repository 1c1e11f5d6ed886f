-- Degrees after a shift.
use Rattle.std.proofs.Common.{◌≡◌, ℕ, zero, suc, Bool, true, false, ap}
use Rattle.reduct_laws.specs.Shifts.{shifted_generator, shifted_degree}

pub shift_graded : {K : Type 0} (up : Bool) (G : ℕ → K → Type 0) (degree : K → ℕ) → ((n : ℕ) (x : K) → G n x → degree x ≡ n)
    → (n : ℕ) (x : K) → shifted_generator up G n x → shifted_degree up (degree x) ≡ n
shift_graded true G degree e zero x g = absurd g
shift_graded true G degree e (suc n) x g = ap suc (e n x g)
shift_graded false G degree e n x g = ap (shifted_degree false) (e (suc n) x g)
