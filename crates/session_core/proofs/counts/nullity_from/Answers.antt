use Rattle.std.proofs.Common.{◌≡◌, ◌-◌, length, refl, arith}
use Rattle.cells.specs.Small.{small_cmp}
use Rattle.fp_field.specs.Field.{number}
use Rattle.homology_rules.specs.CycleVectors.{small_chains}
use Rattle.session_core.specs.Dimensions.{nullity_over}
use Rattle.session_core.proofs.Nullities.{nullity-held}
use Rattle.session_core.proofs.counts.nullity_from.Goals as goal

pub returns-then-rank-chains : goal.returns-then-rank-chains
returns-then-rank-chains c =
    let e = nullity-held c.args.p c.args.cells.now c.args.chains.now c.args.rank (c.if-is_covered.ensures refl) c.requires.rank in
    let q : length c.args.chains.now - c.args.rank ≡ nullity_over small_cmp (number c.args.p) (length c.args.chains.now) (small_chains c.args.chains.now) = omega (arith, e) in q
