use Rattle.fp_field.specs.Field.{number}
use Rattle.fp_field.proofs.FieldLaws.{is_field}
use Rattle.twist_laws.proofs.AssembledHomology.{bundle-whole, bundle-lists}
use Rattle.twist_laws.proofs.reductions.bundle_reduction.Goals as goal

pub returns : goal.returns
returns c = record { reduction = bundle-whole (number c.args.p) (is_field c.args.p); list = bundle-lists (number c.args.p) (is_field c.args.p) }
