use Rattle.fp_field.specs.Field.{number}
use Rattle.fp_field.proofs.FieldLaws.{is_field}
use Rattle.values.specs.Laws.{maps_of}
use Rattle.homology_laws.proofs.Reduced.{carried-homology}
use Rattle.homology_laws.proofs.laws.reduction_homology.Goals as goal

pub returns : goal.returns
returns c = λ a n r ys zs base above test tests. carried-homology (number c.args.p) (is_field c.args.p) (maps_of (number c.args.p) a) n r ys zs base above test tests
