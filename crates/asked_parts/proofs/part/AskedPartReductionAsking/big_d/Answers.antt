use Rattle.std.proofs.Common.{◌≡◌, subst}
use Rattle.fp_field.specs.Field.{number}
use Rattle.fp_field.specs.Chains.{Terms}
use Rattle.fp_field.specs.Normal.{normal}
use Rattle.cells.specs.Order.{cell_cmp}
use Rattle.cells.specs.declared.cells.Cell.{Cell}
use Rattle.asked_parts.specs.PartMaps.{cell_boundary}
use Rattle.asked_parts.proofs.part.AskedPartReductionAsking.big_d.Goals as goal

-- the term that is lent to the boundary is that of the part
pub returns-clause-value : goal.returns-clause-value
returns-clause-value g c =
    subst (λ t. ◌≡◌ {A = Terms Cell} c.in_ok-cell_boundary.field-0.terms (normal cell_cmp (number c.args.self.now.p) (cell_boundary c.args.self.now.p t c.args.x.now)))
    c.get.ensures c.in_ok-cell_boundary.ensures.terms
