use Rattle.std.proofs.Common.{◌<◌, length, add-one, length-set, refl, sym, ◌∙◌, ap, subst, arith}
use Rattle.std.proofs.Math.Nat.{mod-lt}
use Rattle.std.proofs.lemmas.List.Elements.{All-set}
use Rattle.fp_field.specs.Field.{number}
use Rattle.fp_field.proofs.Primes.{number_pos}
use Rattle.chain_core.specs.Formal.{numbers}
use Rattle.chain_core.proofs.Rising.{all_elements}
use Rattle.chain_core.proofs.PlaceLemmas.{length-numbers}
use Rattle.chain_core.proofs.Multiples.{above_zero, cleared, multiplied, multiplied_next}
use Rattle.chain_core.proofs.sums.multiply.Goals as goal

pub returns-then-c-eq0 : goal.returns-then-c-eq0
returns-then-c-eq0 g c =
    ap numbers c.clear.ensures.items ∙ cleared g.K.Ord.cmp g.met.K.Ord.total c.args.p c.args.c.value (numbers c.args.terms.now.items) c.if-c-eq0.true

pub loop-i-init : goal.loop-i-init
loop-i-init g c = record {
  same_length = refl;
  elements = all_elements g.K.Ord.cmp g.met.K.Ord.total c.args.p c.args.terms.now.items c.requires.normal;
  multiplied = refl;
}

pub loop-i-preserved : goal.loop-i-preserved
loop-i-preserved g c =
    let within : c.loop-i.i < length c.loop-i.terms.items = omega (arith, c.loop-i.invariant.same_length, c.args.terms.now.ok.0, c.len-i-end.ensures, c.loop-i-test.true) in
    record {
      same_length = length-set c.loop-i.terms.items c.loop-i.i (c.index_mut.result.now.0, c.mul.result) ∙ c.loop-i.invariant.same_length;
      elements =
          All-set (λ t. t.1.value < number c.args.p) c.loop-i.terms.items c.loop-i.i (c.index_mut.result.now.0, c.mul.result)
          (subst (λ v. v < number c.args.p) (sym c.mul.ensures) (mod-lt _ (number_pos c.args.p))) c.loop-i.invariant.elements;
      multiplied = rw add-one
          (multiplied_next (number c.args.p) c.args.c.value c.loop-i.terms.items (numbers c.args.terms.now.items) c.loop-i.i c.index.result.now c.index_mut.result.now c.mul.result
          within c.index.ensures c.index_mut.ensures.value c.mul.ensures c.loop-i.invariant.multiplied);
    }

pub returns : goal.returns
returns g c =
    multiplied g.K.Ord.cmp g.met.K.Ord.total c.args.p c.args.c.value (numbers c.args.terms.now.items) (numbers c.loop-i.terms.items) c.loop-i.i c.requires.normal
    (above_zero c.args.c.value c.if-c-eq0.false) c.requires.element
    (omega (arith, length-numbers g.K.Ord.cmp g.met.K.Ord.total c.args.terms.now.items, c.args.terms.now.ok.0, c.len-i-end.ensures, c.loop-i-test.false)) c.loop-i.invariant.multiplied
