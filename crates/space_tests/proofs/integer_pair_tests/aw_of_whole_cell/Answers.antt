use Rattle.std.proofs.Common.{lit≤}
use Rattle.term_lang.specs.declared.terms.Term.TheVariants.{Sphere, KZ1}
use Rattle.space_tests.proofs.TorusCells.{placed-pair}
use Rattle.space_tests.proofs.integer_pair_tests.aw_of_whole_cell.Goals as goal

pub aw-requires : goal.aw-requires
aw-requires c =
    let x = c.sphere_and_integers-whole in
    (2, placed-pair x.result.left.term.now x.result.right.term.now (Sphere 2) KZ1 x.result.most 5 2 c.in_ok-cell.cell x.ensures.left x.ensures.right x.ensures.most c.in_ok-cell.ensures, lit≤ tt)
