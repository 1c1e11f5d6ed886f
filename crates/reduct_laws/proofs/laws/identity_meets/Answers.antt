use Rattle.std.proofs.lemmas.Cmp.{eq_by_cmp_equiv}
use Rattle.std.specs.Ordering.{eq_by_cmp}
use Rattle.fp_field.specs.Field.{number}
use Rattle.fp_field.proofs.Primes.{number_pos}
use Rattle.reduct_laws.proofs.Alike.{images_alike}
use Rattle.reduct_laws.proofs.IdentityMeets.{identity_meets}
use Rattle.reduct_laws.proofs.laws.identity_meets.Goals as goal

pub returns : goal.returns
returns g c =
    identity_meets (number c.args.whole.now.p) (number_pos _)
    (record { generator = g.M.Degrees.generator c.args.whole.now.d; same = eq_by_cmp g.M.Gen.Ord.cmp; d = g.M.LinearMap.image_of c.args.whole.now.d })
    (record {
      graded = record {
        equivalence = eq_by_cmp_equiv g.met.M.Gen.Ord.total;
        lowers = c.requires.lowers;
        ends = c.requires.ends;
        respects = images_alike g.M.Gen.Ord.cmp g.met.M.LinearMap.one_key (number c.args.whole.now.p) (eq_by_cmp g.M.Gen.Ord.cmp) (g.M.LinearMap.image_of c.args.whole.now.d);
      };
      twice = c.requires.twice;
    })
