-- What the cells of the table of two degrees hold.
use Rattle.std.proofs.Common.{◌≡◌, ℕ, ◌+◌, All, List, length, ◌∙◌, ap}
use Rattle.std.proofs.lemmas.List.Elements.{All-same}
use Rattle.cells.specs.declared.cells.SmallCell.{SmallCell}
use Rattle.oracle_iface.specs.declared.keys.Key.{Key}
use Rattle.oracle_iface.specs.declared.cell_values.CellValue.{CellValue}
use Rattle.oracle_iface.specs.Forcing.{Calls}
use Rattle.homology_rules.specs.Held.{HasSmallOver}
use Rattle.homology_rules.specs.CycleVectors.{small_chains}
use Rattle.homology_rules.specs.Degrees.{HasCells, cells_held, cells_at, chains_at}
use Rattle.homology_rules.proofs.InDegrees.{all_small, chains_found, chains_count, cells_found, has_cells}
use Rattle.session_core.specs.declared.degrees.TwoDegrees.{TwoDegrees}
use Rattle.session_core.specs.Dimensions.{AreDegrees}

module _ (k : Key) (n : ℕ) {F : Type 0} (calls : Calls F) (d : TwoDegrees) (h : AreDegrees calls k n d) where
  pub low-has : (x : CellValue) → x ≡ d.cells → HasCells x.outcome
  low-has x e = has_cells k calls n h.first h.middle d.cells d.chains.items h.low x e

  pub high-has : (x : CellValue) → x ≡ d.next_cells → HasCells x.outcome
  high-has x e = has_cells k calls (n + 1) h.middle h.last d.next_cells d.next_chains.items h.high x e

  pub low-cells : (x : CellValue) (found lent : List SmallCell) → x ≡ d.cells → found ≡ cells_held x.outcome → lent ≡ found → lent ≡ cells_at k n
  low-cells x found lent e f l = cells_found k calls n h.first h.middle d.cells d.chains.items h.low x found lent e f l

  pub high-cells : (x : CellValue) (found lent : List SmallCell) → x ≡ d.next_cells → found ≡ cells_held x.outcome → lent ≡ found → lent ≡ cells_at k (n + 1)
  high-cells x found lent e f l = cells_found k calls (n + 1) h.middle h.last d.next_cells d.next_chains.items h.high x found lent e f l

  pub low-chains : (lent : List CellValue) → lent ≡ d.chains.items → small_chains lent ≡ chains_at k (cells_at k n)
  low-chains lent e = ap small_chains e ∙ chains_found k calls n h.first h.middle d.cells d.chains.items h.low

  pub high-chains : (lent : List CellValue) → lent ≡ d.next_chains.items → small_chains lent ≡ chains_at k (cells_at k (n + 1))
  high-chains lent e = ap small_chains e ∙ chains_found k calls (n + 1) h.middle h.last d.next_cells d.next_chains.items h.high

  pub low-count : (lent : List CellValue) → lent ≡ d.chains.items → length lent ≡ length (cells_at k n)
  low-count lent e = ap length e ∙ chains_count k calls n h.first h.middle d.cells d.chains.items h.low

  pub high-count : (lent : List CellValue) → lent ≡ d.next_chains.items → length lent ≡ length (cells_at k (n + 1))
  high-count lent e = ap length e ∙ chains_count k calls (n + 1) h.middle h.last d.next_cells d.next_chains.items h.high

  pub low-small : (lent : List CellValue) → lent ≡ d.chains.items → All (λ v. HasSmallOver k.prime v.outcome) lent
  low-small lent e = All-same (λ v. HasSmallOver k.prime v.outcome) lent d.chains.items e (all_small k calls n h.first h.middle d.cells d.chains.items h.low)

  pub high-small : (lent : List CellValue) → lent ≡ d.next_chains.items → All (λ v. HasSmallOver k.prime v.outcome) lent
  high-small lent e = All-same (λ v. HasSmallOver k.prime v.outcome) lent d.next_chains.items e (all_small k calls (n + 1) h.middle h.last d.next_cells d.next_chains.items h.high)
