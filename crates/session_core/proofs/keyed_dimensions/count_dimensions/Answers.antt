use Rattle.std.proofs.Common.{◌≡◌, ◌<◌, ◌+◌, ◌-◌, suc, length, subst, arith}
use Rattle.std.specs.Prelude.{IfSome}
use Rattle.fp_field.specs.Field.{number}
use Rattle.cells.specs.Small.{small_cmp}
use Rattle.homology_rules.specs.Degrees.{cells_at, chains_at}
use Rattle.homology_rules.proofs.GVectors.{asked_whole}
use Rattle.homology_rules.proofs.Through.{each-asked}
use Rattle.session_core.specs.Along.{ComesAlong}
use Rattle.session_core.specs.Dimensions.{nullity_over, keys_of_dimension, dimension_at, keys_of_dimensions}
use Rattle.session_core.proofs.DimensionSteps.{walked-may, walked-asked, walked-seam, walked-over, walked-more, numbers-more, walked-none, walked-all}
use Rattle.session_core.proofs.keyed_dimensions.count_dimensions.Goals as goal

pub count_dimension-requires-clause-forcer : goal.count_dimension-requires-clause-forcer
count_dimension-requires-clause-forcer g c = walked-may c.args.key.now c.args.low (suc c.args.high) c.loop-n.n (let q : c.loop-n.n < suc c.args.high = omega (arith, c.loop-n-test.true) in q) g.F.Forcer.may_force g.F.Forcer.forces c.args.forcer.now c.loop-n.forcer c.loop-n.forcer c.loop-n.invariant.walked

pub returns-in_err-over-clause-asked : goal.returns-in_err-over-clause-asked
returns-in_err-over-clause-asked g c = walked-asked c.args.key.now c.args.low (suc c.args.high) c.loop-n.n (let q : c.loop-n.n < suc c.args.high = omega (arith, c.loop-n-test.true) in q) g.F.Forcer.may_force g.F.Forcer.forces c.args.forcer.now c.loop-n.forcer c.count_dimension.new.forcer c.loop-n.invariant.walked c.in_err-over.ensures.asked

pub returns-in-Over-clause-asked : goal.returns-in-Over-clause-asked
returns-in-Over-clause-asked g c = walked-asked c.args.key.now c.args.low (suc c.args.high) c.loop-n.n (let q : c.loop-n.n < suc c.args.high = omega (arith, c.loop-n-test.true) in q) g.F.Forcer.may_force g.F.Forcer.forces c.args.forcer.now c.loop-n.forcer c.count_dimension.new.forcer c.loop-n.invariant.walked c.in_ok-over.ensures.asked

pub returns-in-Over-clause-answer : goal.returns-in-Over-clause-answer
returns-in-Over-clause-answer g c = walked-over c.args.key.now c.args.low (suc c.args.high) c.loop-n.n (let q : c.loop-n.n < suc c.args.high = omega (arith, c.loop-n-test.true) in q) g.F.Forcer.may_force g.F.Forcer.forces c.args.forcer.now c.loop-n.forcer c.count_dimension.new.forcer c.loop-n.invariant.walked c.in-Over.over
    (subst (λ x. ComesAlong g.F.Forcer.forces (keys_of_dimension c.args.key.now c.loop-n.n) (λ d. (d.dimension ≡ dimension_at c.args.key.now c.loop-n.n)
    × IfSome d.next (λ m. m ≡ nullity_over small_cmp (number c.args.key.now.prime) (length (cells_at c.args.key.now (c.loop-n.n + 1))) (chains_at c.args.key.now (cells_at c.args.key.now (c.loop-n.n + 1)))))
    c.loop-n.forcer c.count_dimension.new.forcer x) c.in-Over.is c.in_ok-over.ensures.answer)

pub returns-in_err-push-clause-asked : goal.returns-in_err-push-clause-asked
returns-in_err-push-clause-asked g c =
    let told = (subst (λ x. ComesAlong g.F.Forcer.forces (keys_of_dimension c.args.key.now c.loop-n.n) (λ d. (d.dimension ≡ dimension_at c.args.key.now c.loop-n.n)
    × IfSome d.next (λ m. m ≡ nullity_over small_cmp (number c.args.key.now.prime) (length (cells_at c.args.key.now (c.loop-n.n + 1))) (chains_at c.args.key.now (cells_at c.args.key.now (c.loop-n.n + 1)))))
    c.loop-n.forcer c.count_dimension.new.forcer x) c.in-Told.is c.in_ok-over.ensures.answer) in
    walked-seam c.args.key.now c.args.low (suc c.args.high) c.loop-n.n (let q : c.loop-n.n < suc c.args.high = omega (arith, c.loop-n-test.true) in q) g.F.Forcer.may_force g.F.Forcer.forces c.args.forcer.now c.loop-n.forcer c.count_dimension.new.forcer c.loop-n.invariant.walked told.0 told.2

pub loop-n-preserved : goal.loop-n-preserved
loop-n-preserved g c =
    let told = (subst (λ x. ComesAlong g.F.Forcer.forces (keys_of_dimension c.args.key.now c.loop-n.n) (λ d. (d.dimension ≡ dimension_at c.args.key.now c.loop-n.n)
    × IfSome d.next (λ m. m ≡ nullity_over small_cmp (number c.args.key.now.prime) (length (cells_at c.args.key.now (c.loop-n.n + 1))) (chains_at c.args.key.now (cells_at c.args.key.now (c.loop-n.n + 1)))))
    c.loop-n.forcer c.count_dimension.new.forcer x) c.in-Told.is c.in_ok-over.ensures.answer) in record {
      walked = walked-more c.args.key.now c.args.low (suc c.args.high) c.loop-n.n (let q : c.loop-n.n < suc c.args.high = omega (arith, c.loop-n-test.true) in q) g.F.Forcer.may_force g.F.Forcer.forces c.args.forcer.now c.loop-n.forcer c.count_dimension.new.forcer c.loop-n.invariant.walked told.0 told.2;
      numbers = numbers-more c.args.key.now c.args.low (suc c.args.high) c.loop-n.n (let q : c.loop-n.n < suc c.args.high = omega (arith, c.loop-n-test.true) in q) c.loop-n.numbers c.push.new.self c.in-Told.counted.dimension c.loop-n.invariant.numbers told.1.0 c.in_ok-push.ensures.ok;
      known = told.1.1;
    }

pub returns-clause-asked : goal.returns-clause-asked
returns-clause-asked g c =
    asked_whole g.F.Forcer.may_force g.F.Forcer.forces c.args.forcer.now c.loop-n.forcer (keys_of_dimensions c.args.key.now c.args.low (suc c.args.high - c.args.low))
    (walked-none g.F.Forcer.may_force g.F.Forcer.forces c.args.key.now c.args.low (suc c.args.high) c.args.forcer.now c.loop-n.forcer c.loop-n.n c.loop-n-test.false c.loop-n.invariant.walked)
    (each-asked g.F.Forcer.forces (keys_of_dimensions c.args.key.now c.args.low (suc c.args.high - c.args.low)) c.args.forcer.now c.loop-n.forcer
    (walked-all g.F.Forcer.may_force g.F.Forcer.forces c.args.key.now c.args.low (suc c.args.high) c.args.forcer.now c.loop-n.forcer c.loop-n.n c.loop-n-test.false c.loop-n.invariant.walked))
