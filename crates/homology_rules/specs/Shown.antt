-- Spaces whose values have only cells that the code has.
--
-- The code has a small cell where it is proper and its degree is counted, and a cell of the space where it is shown. So chains of such
-- cells and their quotes have the same normal forms, and what is computed over the code's cells is what the definitions say.
--
--   of the sphere of dimension 2, G of its cell is the chain of the one cell Top(2), of degree 2, and the small differentials are 0
use Rattle.std.specs.Prelude.{ℕ}
use Rattle.fp_field.specs.Chains.{Each}
use Rattle.spaces.specs.Spaces.{Space, Plain}
use Rattle.spaces.specs.SmallCells.{Small}
use Rattle.values.specs.Asks.{small_d, f, g, h}
use Rattle.values.specs.Ranks.{IsValid}
use Rattle.values.specs.Values.{value}
use Rattle.oracle_iface.specs.KeyLaws.{IsProper, IsCounted, HasCells, IsShown}

-- a small cell that the code has
abbrev pub IsSmallShown : (a : Space) → Small a → Type 0
IsSmallShown a y = IsProper a y × IsCounted a y

-- the cells of the values of valid questions about a space
pub record HasShownValues (p : ℕ) (a : Space) : Type 0 where
  pub cells : HasCells a
  pub in_small_d : (y : Small a) → IsValid p (small_d a y) → Each (IsSmallShown a) (value p (small_d a y))
  pub in_f : (n : ℕ) (x : Plain a) → IsValid p (f a n x) → Each (IsSmallShown a) (value p (f a n x))
  pub in_g : (y : Small a) → IsValid p (g a y) → Each (IsShown a) (value p (g a y))
  pub in_h : (n : ℕ) (x : Plain a) → IsValid p (h a n x) → Each (IsShown a) (value p (h a n x))
