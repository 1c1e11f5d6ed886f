-- A reduction as far as degree N + 1 is one as far as degree N.
use Rattle.std.proofs.Common.{ℕ, suc, ◌≤◌, arith}
use Rattle.fp_field.specs.Reduction.{Maps, HasEquations, IsReductionTo}

module _ {B S : Type 0} (p : ℕ) (m : Maps B S) (N : ℕ) where
  step : (n : ℕ) → n ≤ N → n ≤ suc N
  step n l = omega (arith, l)

  equations : HasEquations p (suc N) m → HasEquations p N m
  equations e = record {
    f_commutes = λ n x l g. e.f_commutes n x (step n l) g;
    g_commutes = λ n y l g. e.g_commutes n y (step n l) g;
    twice = λ n y l g. e.twice n y (step n l) g;
    fg = λ n y l g. e.fg n y (step n l) g;
    homotopy = λ n x l g. e.homotopy n x (step n l) g;
    fh = λ n x l g. e.fh n x (step n l) g;
    hg = λ n y l g. e.hg n y (step n l) g;
    hh = λ n x l g. e.hh n x (step n l) g;
  }

  pub fewer : IsReductionTo p (suc N) m → IsReductionTo p N m
  fewer r = record { degrees = r.degrees; equations = equations r.equations }

pub at_each : {B S : Type 0} (p : ℕ) (m : Maps B S) → ((N : ℕ) → IsReductionTo p (suc N) m) → (N : ℕ) → IsReductionTo p N m
at_each p m r N = fewer p m N (r N)
