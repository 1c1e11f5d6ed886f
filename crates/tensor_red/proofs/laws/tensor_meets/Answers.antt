use Rattle.std.proofs.Common.{subst}
use Rattle.fp_field.specs.Field.{number}
use Rattle.fp_field.specs.Reduction.{IsReductionTo, IsReduction}
use Rattle.fp_field.proofs.Primes.{number_pos}
use Rattle.tensor_red.proofs.TensorPairs.{one_degree, tensors_meet, tensors_meet_whole}
use Rattle.tensor_red.proofs.laws.tensor_meets.Goals as goal

pub returns-clause-to : goal.returns-clause-to
returns-clause-to g c = λ N M L within least small_least first second.
    tensors_meet (number (g.A.Reduction.prime_of c.args.whole.now.left)) (number_pos _) (g.A.Reduction.maps c.args.whole.now.left) (g.B.Reduction.maps c.args.whole.now.right)
    (g.A.Reduction.degree_of c.args.whole.now.left) (g.A.Reduction.small_degree_of c.args.whole.now.left)
    (one_degree g.A.Big.Ord.cmp g.met.A.Reduction.one_big (g.A.Reduction.maps c.args.whole.now.left).big.same (g.met.A.Reduction.same_big c.args.whole.now.left) (g.A.Reduction.degree_of c.args.whole.now.left))
    (one_degree g.A.Small.Ord.cmp g.met.A.Reduction.one_small (g.A.Reduction.maps c.args.whole.now.left).small.same (g.met.A.Reduction.same_small c.args.whole.now.left) (g.A.Reduction.small_degree_of c.args.whole.now.left))
    (g.met.A.Reduction.graded_big c.args.whole.now.left) (g.met.A.Reduction.graded_small c.args.whole.now.left)
    N M L within least small_least first (subst (λ q. IsReductionTo (number q) M (g.B.Reduction.maps c.args.whole.now.right)) c.requires.prime second)

pub returns-clause-whole : goal.returns-clause-whole
returns-clause-whole g c = λ first second.
    tensors_meet_whole (number (g.A.Reduction.prime_of c.args.whole.now.left)) (number_pos _) (g.A.Reduction.maps c.args.whole.now.left) (g.B.Reduction.maps c.args.whole.now.right)
    (g.A.Reduction.degree_of c.args.whole.now.left) (g.A.Reduction.small_degree_of c.args.whole.now.left)
    (one_degree g.A.Big.Ord.cmp g.met.A.Reduction.one_big (g.A.Reduction.maps c.args.whole.now.left).big.same (g.met.A.Reduction.same_big c.args.whole.now.left) (g.A.Reduction.degree_of c.args.whole.now.left))
    (one_degree g.A.Small.Ord.cmp g.met.A.Reduction.one_small (g.A.Reduction.maps c.args.whole.now.left).small.same (g.met.A.Reduction.same_small c.args.whole.now.left) (g.A.Reduction.small_degree_of c.args.whole.now.left))
    (g.met.A.Reduction.graded_big c.args.whole.now.left) (g.met.A.Reduction.graded_small c.args.whole.now.left)
    first (subst (λ q. IsReduction (number q) (g.B.Reduction.maps c.args.whole.now.right)) c.requires.prime second)
