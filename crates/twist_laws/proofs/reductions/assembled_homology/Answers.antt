use Rattle.fp_field.specs.Field.{number}
use Rattle.fp_field.proofs.FieldLaws.{is_field}
use Rattle.twist_laws.proofs.AssembledHomology.{assembled-reduction, assembled-lists, loopless-reduction, loopless-lists}
use Rattle.twist_laws.proofs.reductions.assembled_homology.Goals as goal

pub returns : goal.returns
returns c = record { reduction = assembled-reduction (number c.args.p) (is_field c.args.p); list = assembled-lists (number c.args.p) (is_field c.args.p); loopless = λ a is u cyclic. loopless-reduction (number c.args.p) (is_field c.args.p) cyclic a is u; loopless_list = λ a n u cyclic. loopless-lists (number c.args.p) (is_field c.args.p) cyclic a n u }
