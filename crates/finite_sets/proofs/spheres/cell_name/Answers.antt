use Rattle.std.proofs.Common.{◌≤◌, length, arith}
use Rattle.std.specs.Fmt.{decimal}
use Rattle.std.proofs.lemmas.Fmt.{length-decimal-le}
use Rattle.std.proofs.lemmas.Grind.{common_steps}
use Rattle.finite_sets.proofs.spheres.cell_name.Goals as goal

pub short_name-requires-clause-most : goal.short_name-requires-clause-most
short_name-requires-clause-most c =
    let short : length (decimal c.args.n) ≤ 2 = length-decimal-le 2 c.args.n (omega arith) (omega arith) (omega arith) in grind (arith, common_steps, short)
