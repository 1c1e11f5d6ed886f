use Rattle.term_lang.specs.declared.terms.Term.TheVariants.{Product}
use Rattle.space_tests.proofs.pair_face_tests.torus.Goals as goal

pub returns : goal.returns
returns c = λ i. Product (c.in_ok-left.ensures i) (c.in_ok-right.ensures i)
