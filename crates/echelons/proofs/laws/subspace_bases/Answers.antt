use Rattle.fp_field.specs.Field.{number}
use Rattle.fp_field.proofs.Primes.{number_pos}
use Rattle.fp_field.proofs.FieldLaws.{is_field}
use Rattle.echelons.proofs.Basis.{basis-echelon, basis-spans}
use Rattle.echelons.proofs.Spans.{spans-span, spanned-subspace, kernel-subspace, null_space-subspace}
use Rattle.echelons.proofs.EchelonLaws.{wide-from}
use Rattle.echelons.proofs.laws.subspace_bases.Goals as goal

pub returns : goal.returns
returns c =
    record {
      echelon = λ w within h. basis-echelon (number c.args.p) w (is_field c.args.p) within h;
      spans = λ w within h. basis-spans (number c.args.p) w (is_field c.args.p) within h;
      vectors = λ w vs. spans-span (number c.args.p) w vs;
      spanned = λ w vs within h s. spanned-subspace (number c.args.p) w (number_pos c.args.p) vs (wide-from (number c.args.p) w vs h) within s;
      kernel = λ w vs h. kernel-subspace (number c.args.p) w (number_pos c.args.p) vs (wide-from (number c.args.p) w vs h);
      null_space = λ w rows. null_space-subspace (number c.args.p) (number_pos c.args.p) rows w;
    }
