use Rattle.std.proofs.Common.{◌-◌, refl, sym, ◌∙◌, arith}
use Rattle.fp_field.specs.Field.{number}
use Rattle.chain_core.proofs.Rising.{all_elements}
use Rattle.chain_core.proofs.MergeSteps.{first_step, none_step, less_step, equal_step, greater_step, rest_normal, own_normal, own_element, terms_normal}
use Rattle.chain_core.proofs.sums.merge_ends.Goals as goal

pub loop-left-init : goal.loop-left-init
loop-left-init g c = record {
  within = omega arith;
  merges = first_step g.K.Ord.cmp g.met.K.Ord.total c.args.p c.args.c.value _ c.reserve.new.self.items c.args.others.now c.in_ok-ends.ends.items
      (rw c.in_ok-reserve.ensures.items c.requires.normal) refl c.in_ok-ends.ensures.items;
}

pub mul-product-requires-clause-b_in : goal.mul-product-requires-clause-b_in
mul-product-requires-clause-b_in g c =
    rw c.index-others-left.is
    (all_elements g.K.Ord.cmp g.met.K.Ord.total c.args.p c.args.others.now c.requires.others (c.loop-left.left - 1) _ (omega (arith, c.loop-left.invariant.within)))

pub loop-left-smaller-in_ok-push_nonzero-in-None : goal.loop-left-smaller-in_ok-push_nonzero-in-None
loop-left-smaller-in_ok-push_nonzero-in-None g c = omega (arith, c.in-None.ensures.cases.0, c.in-None.ensures.cases.1)

pub loop-left-preserved-in_ok-push_nonzero-in-None : goal.loop-left-preserved-in_ok-push_nonzero-in-None
loop-left-preserved-in_ok-push_nonzero-in-None g c = record {
  within = omega (arith, c.loop-left.invariant.within);
  merges =
      none_step g.K.Ord.cmp g.met.K.Ord.total c.args.p c.args.c.value c.loop-left.left c.loop-left.terms.items c.args.others.now c.loop-left.ends.items c.push_nonzero.new.terms.items _
      c.index-others-left.result c.requires.others c.loop-left-test.true c.loop-left.invariant.within c.index-others-left.is c.loop-left.invariant.merges
      c.pop.new.self.items _ _ (sym c.loop-left.terms.ok.0 ∙ c.in-None.ensures.cases.0) (sym c.pop.new.self.ok.0 ∙ c.in-None.ensures.cases.1)
      (c.requires.clones _ _ c.in_ok-clone-in-None.ensures.cases) c.mul-product.ensures (c.in_ok-push_nonzero-in-None.ensures (number c.args.p));
}

pub returns-in_err-clone-in-Less-clause-normal : goal.returns-in_err-clone-in-Less-clause-normal
returns-in_err-clone-in-Less-clause-normal g c =
    own_normal g.K.Ord.cmp g.met.K.Ord.total c.args.p c.args.c.value c.loop-left.left c.loop-left.terms.items c.args.others.now c.loop-left.ends.items c.loop-left.ends.items _
    c.index-others-left.result c.requires.others c.loop-left-test.true c.loop-left.invariant.within c.index-others-left.is c.loop-left.invariant.merges
    c.pop.new.self.items (c.in-Some.own, c.in-Some.number) c.in-Some.ensures.items c.push.new.self.items c.in_ok-push-in-Less.ensures.items

pub loop-left-smaller-in_ok-push_nonzero-in-Less : goal.loop-left-smaller-in_ok-push_nonzero-in-Less
loop-left-smaller-in_ok-push_nonzero-in-Less g c = omega (arith, c.in-Some.ensures.cases, c.in_ok-push-in-Less.ensures.len)

pub loop-left-preserved-in_ok-push_nonzero-in-Less : goal.loop-left-preserved-in_ok-push_nonzero-in-Less
loop-left-preserved-in_ok-push_nonzero-in-Less g c = record {
  within = omega (arith, c.loop-left.invariant.within);
  merges =
      less_step g.K.Ord.cmp g.met.K.Ord.total c.args.p c.args.c.value c.loop-left.left c.loop-left.terms.items c.args.others.now c.loop-left.ends.items c.push_nonzero-in-Less.new.terms.items _
      c.index-others-left.result c.requires.others c.loop-left-test.true c.loop-left.invariant.within c.index-others-left.is c.loop-left.invariant.merges
      c.pop.new.self.items (c.in-Some.own, c.in-Some.number) c.in-Some.ensures.items
      c.push.new.self.items _ _ c.in_ok-push-in-Less.ensures.items (sym c.in-Less.ensures)
      (c.requires.clones _ _ c.in_ok-clone-in-Less.ensures.cases) c.mul-product.ensures (c.in_ok-push_nonzero-in-Less.ensures (number c.args.p));
}

pub returns-in_err-push_nonzero-in-Less-clause-normal : goal.returns-in_err-push_nonzero-in-Less-clause-normal
returns-in_err-push_nonzero-in-Less-clause-normal g c =
    own_normal g.K.Ord.cmp g.met.K.Ord.total c.args.p c.args.c.value c.loop-left.left c.loop-left.terms.items c.args.others.now c.loop-left.ends.items c.loop-left.ends.items _
    c.index-others-left.result c.requires.others c.loop-left-test.true c.loop-left.invariant.within c.index-others-left.is c.loop-left.invariant.merges
    c.pop.new.self.items (c.in-Some.own, c.in-Some.number) c.in-Some.ensures.items c.push.new.self.items c.in_ok-push-in-Less.ensures.items

pub add-requires-clause-b_in : goal.add-requires-clause-b_in
add-requires-clause-b_in g c =
    own_element g.K.Ord.cmp g.met.K.Ord.total c.args.p c.args.c.value c.loop-left.left c.loop-left.terms.items c.args.others.now c.loop-left.ends.items c.loop-left.ends.items _
    c.index-others-left.result c.requires.others c.loop-left-test.true c.loop-left.invariant.within c.index-others-left.is c.loop-left.invariant.merges
    c.pop.new.self.items (c.in-Some.own, c.in-Some.number) c.in-Some.ensures.items

pub loop-left-smaller-in_ok-push_nonzero-in-Equal : goal.loop-left-smaller-in_ok-push_nonzero-in-Equal
loop-left-smaller-in_ok-push_nonzero-in-Equal g c = omega (arith, c.in-Some.ensures.cases)

pub loop-left-preserved-in_ok-push_nonzero-in-Equal : goal.loop-left-preserved-in_ok-push_nonzero-in-Equal
loop-left-preserved-in_ok-push_nonzero-in-Equal g c = record {
  within = omega (arith, c.loop-left.invariant.within);
  merges =
      equal_step g.K.Ord.cmp g.met.K.Ord.total c.args.p c.args.c.value c.loop-left.left c.loop-left.terms.items c.args.others.now c.loop-left.ends.items c.push_nonzero-in-Equal.new.terms.items _
      c.index-others-left.result c.requires.others c.loop-left-test.true c.loop-left.invariant.within c.index-others-left.is c.loop-left.invariant.merges
      c.pop.new.self.items (c.in-Some.own, c.in-Some.number) c.in-Some.ensures.items
      c.mul-product.result.value c.add.result.value (sym c.in-Equal.ensures) c.mul-product.ensures c.add.ensures (c.in_ok-push_nonzero-in-Equal.ensures (number c.args.p));
}

pub returns-in_err-push_nonzero-in-Equal-clause-normal : goal.returns-in_err-push_nonzero-in-Equal-clause-normal
returns-in_err-push_nonzero-in-Equal-clause-normal g c =
    rest_normal g.K.Ord.cmp g.met.K.Ord.total c.args.p c.args.c.value c.loop-left.left c.loop-left.terms.items c.args.others.now c.loop-left.ends.items c.loop-left.ends.items _
    c.index-others-left.result c.requires.others c.loop-left-test.true c.loop-left.invariant.within c.index-others-left.is c.loop-left.invariant.merges
    c.pop.new.self.items (c.in-Some.own, c.in-Some.number) c.in-Some.ensures.items

pub loop-left-smaller : goal.loop-left-smaller
loop-left-smaller g c = omega (arith, c.in-Some.ensures.cases)

pub loop-left-preserved : goal.loop-left-preserved
loop-left-preserved g c = record {
  within = c.loop-left.invariant.within;
  merges =
      greater_step g.K.Ord.cmp g.met.K.Ord.total c.args.p c.args.c.value c.loop-left.left c.loop-left.terms.items c.args.others.now c.loop-left.ends.items c.push-in-Greater.new.self.items _
      c.index-others-left.result c.requires.others c.loop-left-test.true c.loop-left.invariant.within c.index-others-left.is c.loop-left.invariant.merges
      c.pop.new.self.items (c.in-Some.own, c.in-Some.number) c.in-Some.ensures.items
      (sym c.in-Greater.ensures) c.in_ok-push-in-Greater.ensures.items;
}

pub returns-in_err-push-in-Greater-clause-normal : goal.returns-in_err-push-in-Greater-clause-normal
returns-in_err-push-in-Greater-clause-normal g c =
    rest_normal g.K.Ord.cmp g.met.K.Ord.total c.args.p c.args.c.value c.loop-left.left c.loop-left.terms.items c.args.others.now c.loop-left.ends.items c.loop-left.ends.items _
    c.index-others-left.result c.requires.others c.loop-left-test.true c.loop-left.invariant.within c.index-others-left.is c.loop-left.invariant.merges
    c.pop.new.self.items (c.in-Some.own, c.in-Some.number) c.in-Some.ensures.items

pub returns-clause-normal : goal.returns-clause-normal
returns-clause-normal g c =
    terms_normal g.K.Ord.cmp g.met.K.Ord.total c.args.p c.args.c.value c.loop-left.left c.loop-left.terms.items c.args.others.now c.loop-left.ends.items _ c.loop-left.invariant.merges
