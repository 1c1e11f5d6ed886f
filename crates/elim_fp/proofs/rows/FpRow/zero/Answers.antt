use Rattle.std.proofs.Common.{◌∙◌, ap}
use Rattle.fp_field.specs.Field.{number}
use Rattle.elim_fp.specs.Rows.{dense}
use Rattle.elim_fp.proofs.Entries.{dense-none}
use Rattle.elim_fp.proofs.rows.FpRow.zero.Goals as goal

pub returns-clause-values : goal.returns-clause-values
returns-clause-values c = ap (dense (number c.new.result.prime) c.args.width) c.new.ensures.zero ∙ dense-none (number c.new.result.prime) 0 c.args.width
