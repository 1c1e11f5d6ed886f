use Rattle.std.proofs.Common.{◌<◌, ◌-◌, length, sym, ◌∙◌, ap, subst, arith}
use Rattle.echelons.specs.Echelon.{at_place}
use Rattle.elim_fp.proofs.Left.{row-wide, row-lead, left-start, left-next}
use Rattle.elim_fp.proofs.eliminate.left_of.Goals as goal

pub loop-left-init : goal.loop-left-init
loop-left-init c = let h = c.in_ok-rest.ensures.cases in record {
  within = omega arith;
  prime = ap (λ r. r.prime) h;
  wide = ap (λ r. length r.values) h;
  values = left-start c.args.v.now.prime (length c.args.v.now.values) c.args.basis.now c.requires.echelon c.args.v.now.values c.in_ok-rest.rest.values c.requires.vector (ap (λ r. r.values) h);
}

pub entry-requires : goal.entry-requires
entry-requires c = subst (λ n. n < length c.args.v.now.values) (sym c.lead.ensures)
    (row-lead c.args.v.now.prime (length c.args.v.now.values) c.args.basis.now c.requires.echelon (c.loop-left.left - 1) c.index-basis-left.result
    (omega (arith, c.loop-left-test.true, c.loop-left.invariant.within)) c.index-basis-left.is)

pub take_away-requires-clause-width : goal.take_away-requires-clause-width
take_away-requires-clause-width c =
    row-wide c.args.v.now.prime (length c.args.v.now.values) c.args.basis.now c.requires.echelon (c.loop-left.left - 1) c.index-basis-left.result
    (omega (arith, c.loop-left-test.true, c.loop-left.invariant.within)) c.index-basis-left.is
    ∙ sym c.loop-left.invariant.wide

pub loop-left-preserved : goal.loop-left-preserved
loop-left-preserved c = record {
  within = omega (arith, c.loop-left.invariant.within);
  prime = c.take_away.ensures.prime ∙ c.loop-left.invariant.prime;
  wide = c.take_away.ensures.width ∙ c.loop-left.invariant.wide;
  values = left-next c.args.v.now.prime (length c.args.v.now.values) c.args.basis.now c.requires.echelon c.loop-left.rest.prime (c.loop-left.left - 1) c.loop-left.left c.index-basis-left.result
      c.loop-left.rest.values c.args.v.now.values c.take_away.new.self.values c.entry.result.value
      (let t : 0 < c.loop-left.left = c.loop-left-test.true in omega arith) (omega (arith, c.loop-left-test.true, c.loop-left.invariant.within)) c.index-basis-left.is c.requires.vector
      c.loop-left.invariant.values c.loop-left.invariant.prime
      (c.entry.ensures.value ∙ ap (at_place c.args.v.now.values) c.lead.ensures) c.in_ok-take_away.ensures.difference;
}
