use Rattle.std.proofs.Common.{sym, ◌∙◌, ap}
use Rattle.cells.specs.declared.cells.SmallCell.TheVariants.{One}
use Rattle.oracle_iface.specs.declared.keys.Place.TheVariants.{Small as SmallPlace}
use Rattle.rule_book.proofs.Kept.{kept_both}
use Rattle.rule_book.proofs.DirectValues.{row_within, d-table, d-sphere_key}
use Rattle.rule_book.proofs.direct.small_boundary.Goals as goal

pub row_boundary-requires : goal.row_boundary-requires
row_boundary-requires c = record {
  row = row_within c.args.key.now c.requires.key.0 c.in-Table.t c.row_of.ensures.0 c.row_of.result (sym c.get.ensures ∙ c.in-Table.is) c.requires.op
      (c.small_at.ensures ∙ ap (λ x. SmallPlace (One x)) c.row_of.ensures.1);
}

pub returns-in-Table : goal.returns-in-Table
returns-in-Table c =
    kept_both c.row_boundary.result _ _ _
    (λ z e f. d-table c.args.key.now c.requires.key.0 c.in-Table.t c.row_of.ensures.0 c.row_of.result z (sym c.get.ensures ∙ c.in-Table.is) c.requires.op
    (c.small_at.ensures ∙ ap (λ x. SmallPlace (One x)) c.row_of.ensures.1) e f)
    c.row_boundary.ensures.prime c.row_boundary.ensures.sum

pub returns-in-Sphere : goal.returns-in-Sphere
returns-in-Sphere c = d-sphere_key c.args.key.now c.requires.key.0 c.in-Sphere.field-0 c.new.result (sym c.get.ensures ∙ c.in-Sphere.is) c.requires.op c.new.ensures.prime c.new.ensures.zero
