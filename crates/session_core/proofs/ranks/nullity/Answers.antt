use Rattle.std.proofs.Common.{◌≡◌, ◌-◌, length, sym, subst, arith}
use Rattle.cells.specs.Small.{small_cmp}
use Rattle.fp_field.specs.Field.{number}
use Rattle.homology_rules.specs.CycleVectors.{small_chains, AreCovered}
use Rattle.session_core.specs.Dimensions.{nullity_over}
use Rattle.session_core.proofs.Nullities.{nullity-held}
use Rattle.session_core.proofs.ranks.nullity.Goals as goal

pub overflow_sub-result : goal.overflow_sub-result
overflow_sub-result c =
    let e = nullity-held c.args.p c.deref.result.now c.args.chains.now c.in_ok-rank.rank
    (subst (λ l. AreCovered l (small_chains c.args.chains.now)) (sym c.deref.ensures.value) c.in_ok-cells.ensures.covered) c.in_ok-rank.ensures in
    omega (arith, e)

pub returns : goal.returns
returns c =
    let e = nullity-held c.args.p c.deref.result.now c.args.chains.now c.in_ok-rank.rank
    (subst (λ l. AreCovered l (small_chains c.args.chains.now)) (sym c.deref.ensures.value) c.in_ok-cells.ensures.covered) c.in_ok-rank.ensures in
    let q : length c.args.chains.now - c.in_ok-rank.rank ≡ nullity_over small_cmp (number c.args.p) (length c.args.chains.now) (small_chains c.args.chains.now) = omega (arith, e) in q
