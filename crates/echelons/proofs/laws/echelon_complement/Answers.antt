use Rattle.fp_field.specs.Field.{number}
use Rattle.fp_field.proofs.Primes.{number_pos}
use Rattle.fp_field.proofs.FieldLaws.{is_field}
use Rattle.echelons.proofs.EchelonLaws.{clear-rows}
use Rattle.echelons.proofs.Complement.{clear-subspace, complement-echelon, complement-spans, splits-once}
use Rattle.echelons.proofs.laws.echelon_complement.Goals as goal

pub returns : goal.returns
returns c =
    record {
      clear = λ w rows part v h s. clear-rows (number c.args.p) w (number_pos c.args.p) rows h part s v;
      subspace = λ w whole part h. clear-subspace (number c.args.p) w whole part h;
      echelon = λ w whole part h. complement-echelon (number c.args.p) w (is_field c.args.p) whole part h;
      spans = λ w whole part h. complement-spans (number c.args.p) w (is_field c.args.p) whole part h;
      once = λ w whole part h i inside. splits-once (number c.args.p) w (is_field c.args.p) whole part h i inside;
    }
