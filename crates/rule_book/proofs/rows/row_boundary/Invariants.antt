use Rattle.std.proofs.Common.{◌≡◌, ◌<◌, ◌≤◌, ◌+◌, ℕ, length, All}
use Rattle.fp_field.specs.Field.{number, SameMod}
use Rattle.fp_field.specs.Chains.{weigh}
use Rattle.chain_core.specs.Formal.{numbers}
use Rattle.cells.specs.declared.cells.SmallCell.{SmallCell}
use Rattle.rule_book.proofs.RowFaces.{faces_below, quoted_weight}
use Rattle.rule_book.proofs.rows.row_boundary.Given as goal

abbrev pub invariant-loop-i : goal.invariant-loop-i
invariant-loop-i l =
    ((w : SmallCell → ℕ) → SameMod (number l.p)
    (weigh w (numbers l.terms.items) + weigh (quoted_weight l.t w) (faces_below (number l.p) l.t l.r l.i))
    (weigh (quoted_weight l.t w) (faces_below (number l.p) l.t l.r (length l.faces))))
    × All (λ t. t.1.value < number l.p) l.terms.items
    × (l.faces ≡ l.row.faces) × (l.i ≤ length l.faces)

abbrev pub decreases-loop-i : goal.decreases-loop-i
decreases-loop-i l = l.i
