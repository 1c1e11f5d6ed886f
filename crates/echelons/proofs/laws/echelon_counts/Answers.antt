use Rattle.fp_field.specs.Field.{number}
use Rattle.fp_field.proofs.FieldLaws.{is_field}
use Rattle.echelons.proofs.EchelonLaws.{wide-from}
use Rattle.echelons.proofs.Counts.{split-length}
use Rattle.echelons.proofs.Rank.{rank-length}
use Rattle.echelons.proofs.Betti.{homology-length}
use Rattle.echelons.proofs.laws.echelon_counts.Goals as goal

pub returns : goal.returns
returns c =
    record {
      split = λ w whole part h i inside rows g e s. split-length (number c.args.p) w (is_field c.args.p) whole part h i inside rows g e s;
      rank = λ w vs h. rank-length (number c.args.p) w (is_field c.args.p) vs (wide-from (number c.args.p) w vs h);
      homology = λ w images boundaries g h k. homology-length (number c.args.p) w (is_field c.args.p) images boundaries g h k;
    }
