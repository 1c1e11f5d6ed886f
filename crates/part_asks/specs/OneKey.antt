-- What one key comes to that is asked for, as a chain of the small complex or of the space, and questions about a part at its cells and small
-- cells of the code (Rubio and Sergeraert, Constructive Homological Algebra and Applications, on effective homology).
--
--   F of the sphere of dimension 2 at the cell Top(2) is the question for its small cell 1, whose value is the chain of the one small cell
--   One(Top(2))
use Rattle.std.specs.Prelude.{◌≡◌, Some, None}
use Rattle.fp_field.specs.Chains.{Terms}
use Rattle.chain_core.specs.Formal.{Formal}
use Rattle.spaces.specs.Spaces.{Space}
use Rattle.spaces.specs.SmallCells.{Small}
use Rattle.values.specs.Asks.{Right, ask, small_d, f, g, h, Cell as GradedCell}
use Rattle.cells.specs.declared.cells.Cell.{Cell}
use Rattle.cells.specs.declared.cells.SmallCell.{SmallCell}
use Rattle.cells.specs.Dim.{dim_of}
use Rattle.term_lang.specs.Forms.{cell_form}
use Rattle.term_lang.specs.Quote.{quote_cell}
use Rattle.oracle_iface.specs.declared.keys.Key.{Key}
use Rattle.oracle_iface.specs.SmallForms.{small_form, quote_small}
use Rattle.homology_rules.specs.Asking.{outcome_of, refusal_in}
use Rattle.homology_rules.specs.Held.{big_in, small_in}
use Rattle.part_asks.specs.declared.found.Found.{Found}
use Rattle.part_asks.specs.declared.found.Found.TheVariants.{Value, Over}

-- the chain of the small complex that the key comes to, or the refusal
abbrev pub IsSmallAnswer : Key → Found (Formal SmallCell) → Type 0
IsSmallAnswer k (Value c) = (refusal_in (outcome_of k) ≡ None) × (c ≡ small_in (outcome_of k))
IsSmallAnswer k (Over w) = refusal_in (outcome_of k) ≡ Some w

-- the chain of the space that the key comes to, or the refusal
abbrev pub IsBigAnswer : Key → Found (Formal Cell) → Type 0
IsBigAnswer k (Value c) = (refusal_in (outcome_of k) ≡ None) × (c ≡ big_in (outcome_of k))
IsBigAnswer k (Over w) = refusal_in (outcome_of k) ≡ Some w

-- ---- questions at cells and small cells of the code

module _ (a : Space) where
  abbrev pub f_at : Cell → Right (Terms (Small a))
  f_at x = ask (f a (dim_of x) (cell_form x a))

  abbrev pub h_at : Cell → Right (Terms (GradedCell a))
  h_at x = ask (h a (dim_of x) (cell_form x a))

  abbrev pub g_at : SmallCell → Right (Terms (GradedCell a))
  g_at y = ask (g a (small_form y a))

  abbrev pub small_d_at : SmallCell → Right (Terms (Small a))
  small_d_at y = ask (small_d a (small_form y a))

  -- what a value of the code stands for in the space has that value
  abbrev pub IsOwnCell : Cell → Type 0
  IsOwnCell x = quote_cell a (dim_of x) (cell_form x a) ≡ x

  abbrev pub IsOwnSmall : SmallCell → Type 0
  IsOwnSmall y = quote_small a (small_form y a) ≡ y
