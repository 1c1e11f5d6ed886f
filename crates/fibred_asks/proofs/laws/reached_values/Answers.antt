use Rattle.fp_field.specs.Field.{number}
use Rattle.fp_field.proofs.FieldLaws.{is_field}
use Rattle.twist_laws.proofs.AssembledHomology.{assembled-reduction}
use Rattle.fibred_asks.proofs.BuiltSpaces.{built-assembled}
use Rattle.fibred_asks.proofs.ReachedValues.{reached-values}
use Rattle.fibred_asks.proofs.laws.reached_values.Goals as goal

pub returns : goal.returns
returns c = λ a is built.
    let p = c.args.p in
    reached-values a is built p (assembled-reduction (number p) (is_field p) a is (built-assembled a built) 0).degrees
