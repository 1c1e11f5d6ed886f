use Rattle.std.proofs.Common.{ap}
use Rattle.term_lang.specs.declared.terms.Term.TheVariants.{Bundle}
use Rattle.space_tests.proofs.pair_face_tests.bundle_of_one.Goals as goal

pub returns : goal.returns
returns c = (
  c.in_ok-base.base,
  ap (Bundle c.in_ok-base.base) c.in_ok-values.ensures,
  c.rows.ensures.form,
  c.in_ok-base.ensures,
)
