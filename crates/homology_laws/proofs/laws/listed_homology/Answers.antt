use Rattle.fp_field.specs.Field.{number}
use Rattle.fp_field.proofs.FieldLaws.{is_field}
use Rattle.values.specs.Asks.{cycles}
use Rattle.homology_laws.proofs.Kernel as kernel
use Rattle.homology_laws.proofs.laws.listed_homology.Goals as goal

pub returns : goal.returns
returns c =
    record {
      lists = λ a n r here above given valid. kernel.listed-homology (number c.args.p) (is_field c.args.p) a n
          (record { allowed = valid.0; reduction = r; here = here; above = above; given = given (cycles a n) valid });
      list = λ a n is. kernel.listed-homology (number c.args.p) (is_field c.args.p) a n is;
    }
