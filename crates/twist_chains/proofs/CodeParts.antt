-- How the simplices of the code of two parts stand for plain simplices, with their degrees and orders, up to degree 32.
use Rattle.std.proofs.Common.{◌≡◌, ℕ, ◌+◌}
use Rattle.std.specs.Prelude.{count_ones}
use Rattle.spaces.specs.Simplicial.{has_degeneracy}
use Rattle.spaces.specs.Orders.{Ordered}
use Rattle.spaces.specs.EilenbergZilber.{Linear, linear}
use Rattle.cells.specs.Dim.{dim_of}
use Rattle.cells.specs.Order.{simplex_cmp}
use Rattle.cells.specs.declared.cells.Simplex.{Simplex}
use Rattle.ez_laws.specs.Sides.{IsLeft, IsRight}
use Rattle.ez_flow.specs.Parts.{IsForm, AreRead}

pub record AreParts {K J : Type 0} (p : ℕ) (L : Linear K) (In : ℕ → K → Type 0) (R : Ordered J)
    (il : ℕ → Simplex → Type 0) (fl : Simplex → K) (sl : ℕ → K → Simplex) (ir : ℕ → Simplex → Type 0) (fr : Simplex → J) (sr : ℕ → J → Simplex) : Type 0 where
  pub lefts : IsForm 32 In L.degeneracy L.has_degeneracy il fl
  pub rights : IsForm 32 R.set.In R.set.degeneracy (has_degeneracy R.set) ir fr
  pub left_read : AreRead 32 L.faces il fl sl
  pub right_read : AreRead 32 (linear R).faces ir fr sr
  pub graded : (n : ℕ) (s : Simplex) → il n s → count_ones s.degens.mask + dim_of s.cell ≡ n
  pub right_graded : (n : ℕ) (s : Simplex) → ir n s → count_ones s.degens.mask + dim_of s.cell ≡ n
  pub left : IsLeft p L In
  pub right : IsRight R
  pub left_order : (n : ℕ) (s t : Simplex) → il n s → il n t → simplex_cmp s t ≡ L.cmp n (fl s) (fl t)
  pub right_order : (n : ℕ) (s t : Simplex) → ir n s → ir n t → simplex_cmp s t ≡ R.cmp n (fr s) (fr t)
