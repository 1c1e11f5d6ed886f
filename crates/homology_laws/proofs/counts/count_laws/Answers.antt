use Rattle.fp_field.specs.Field.{number}
use Rattle.fp_field.proofs.FieldLaws.{is_field}
use Rattle.spaces.specs.Spaces.{set_of}
use Rattle.values.specs.Asks.{basis}
use Rattle.values.specs.Values.{value}
use Rattle.values.specs.Laws.{smalls}
use Rattle.std.specs.Prelude.{zero, suc}
use Rattle.homology_laws.proofs.Reduced.{base-keys, no-keys}
use Rattle.homology_laws.proofs.Lengths.{same-length}
use Rattle.homology_laws.proofs.Kernel.{rising-base, listed-count, every-count}
use Rattle.homology_laws.proofs.counts.count_laws.Goals as goal

pub returns : goal.returns
returns c =
    record {
      lengths = λ a n xs zs g h. same-length (set_of a) (number c.args.p) (is_field c.args.p) n xs zs g h;
      listed = λ a n is us has. listed-count (number c.args.p) (is_field c.args.p) a n is us has;
      each = λ a n is us has zs list. every-count (number c.args.p) (is_field c.args.p) a n is us has zs list;
      keys = λ a n graded here above. base-keys (number c.args.p) (smalls (number c.args.p) a) graded n
          (value (number c.args.p) (basis a n)) (value (number c.args.p) (basis a (suc n))) (rising-base (number c.args.p) a n here) (rising-base (number c.args.p) a (suc n) above);
      no_keys = λ a graded here. no-keys (number c.args.p) (smalls (number c.args.p) a) graded (value (number c.args.p) (basis a zero)) (rising-base (number c.args.p) a zero here);
    }
