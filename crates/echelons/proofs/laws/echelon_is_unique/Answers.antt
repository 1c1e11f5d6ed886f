use Rattle.fp_field.specs.Field.{number}
use Rattle.fp_field.proofs.Primes.{number_pos}
use Rattle.echelons.proofs.Unique.{basis-is, echelon-unique}
use Rattle.echelons.proofs.laws.echelon_is_unique.Goals as goal

pub returns : goal.returns
returns c =
    record {
      one = λ w rows others within. echelon-unique (number c.args.p) w (number_pos c.args.p) rows others within;
      basis = λ w rows within. basis-is (number c.args.p) w (number_pos c.args.p) rows within;
    }
