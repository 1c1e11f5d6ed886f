use Rattle.fp_field.specs.Field.{number}
use Rattle.fp_field.proofs.FieldLaws.{is_field}
use Rattle.homology_laws.proofs.Kernel.{read-once, filled}
use Rattle.homology_laws.proofs.fillings.filling_laws.Goals as goal

pub returns : goal.returns
returns c =
    record {
      read = λ a n is z h. read-once (number c.args.p) (is_field c.args.p) a n is z h;
      filled = λ a n is z h cs b e. filled (number c.args.p) (is_field c.args.p) a n is z h cs b e;
    }
