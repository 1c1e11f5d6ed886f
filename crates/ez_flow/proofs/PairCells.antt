-- The cell of two simplices.
use Rattle.std.proofs.Common.{◌≡◌, ℕ, sym, ◌∙◌, ap, subst}
use Rattle.cells.specs.declared.cells.Cell.{Cell, roll-Cell, out-Cell, roll-out-Cell, out-roll-Cell}
use Rattle.cells.specs.declared.cells.Cell.TheOpen.{Cell-F}
use Rattle.cells.specs.declared.cells.Cell.TheVariants.{Pair, rolls-Pair}
use Rattle.cells.specs.declared.cells.Letter.{Letter}
use Rattle.cells.specs.declared.cells.Simplex.{Simplex}
use Rattle.ez_flow.specs.Parts.{pair_in, weight_in, IsPairWith, pair_weight}

pub out-pair : (a b : Simplex) → out-Cell (Pair a b) ≡ Cell-F.Pair a b
out-pair a b = ap out-Cell (sym (rolls-Pair a b)) ∙ out-roll-Cell (Cell-F.Pair a b)

pub pair-with : (P : Simplex → Simplex → Type 0) (a b : Simplex) → P a b → IsPairWith P (Pair a b)
pair-with P a b h = subst (pair_in P) (sym (out-pair a b)) h

pub with-pair : (P : Simplex → Simplex → Type 0) (a b : Simplex) → IsPairWith P (Pair a b) → P a b
with-pair P a b h = subst (pair_in P) (out-pair a b) h

pub weight-pair : (w : Simplex → Simplex → ℕ) (a b : Simplex) → pair_weight w (Pair a b) ≡ w a b
weight-pair w a b = ap (weight_in w) (out-pair a b)

-- a cell that is a pair, as two simplices
pub split-pair : (P : Simplex → Simplex → Type 0) (c : Cell) → IsPairWith P c → (a : Simplex) × (b : Simplex) × (c ≡ Pair a b) × P a b
split-pair P c h = by (out-Cell c) (roll-out-Cell c) h
  where
    by : (d : Cell-F Cell Letter Simplex) → roll-Cell d ≡ c → pair_in P d → (a : Simplex) × (b : Simplex) × (c ≡ Pair a b) × P a b
    by (Cell-F.Pair a b) e h = (a, b, sym e ∙ rolls-Pair a b, h)
    by (Cell-F.Row d r) e h = absurd h
    by Cell-F.Base e h = absurd h
    by (Cell-F.Top n) e h = absurd h
    by (Cell-F.Up d) e h = absurd h
    by (Cell-F.Ints l) e h = absurd h
    by (Cell-F.Word l) e h = absurd h
