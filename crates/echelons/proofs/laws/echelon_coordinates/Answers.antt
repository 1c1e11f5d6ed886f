use Rattle.fp_field.specs.Field.{number}
use Rattle.fp_field.proofs.Primes.{number_pos}
use Rattle.echelons.proofs.EchelonLaws.{coefficients-read, span-remainder, span-lead, remainder-add, remainder-leads}
use Rattle.echelons.proofs.laws.echelon_coordinates.Goals as goal

pub returns : goal.returns
returns c =
    record {
      coefficients = λ w rows cs h. coefficients-read (number c.args.p) w (number_pos c.args.p) rows h cs;
      span = λ w rows v h. span-remainder (number c.args.p) w (number_pos c.args.p) rows h v;
      place = λ w rows v h. span-lead (number c.args.p) w (number_pos c.args.p) rows h v;
      sum = λ w rows v h. remainder-add (number c.args.p) w (number_pos c.args.p) rows h v;
      clear = λ w rows v h. remainder-leads (number c.args.p) w (number_pos c.args.p) rows h v;
    }
