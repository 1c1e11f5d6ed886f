use Rattle.std.proofs.Common.{refl, sym, ◌∙◌, ap, arith}
use Rattle.fp_field.specs.Field.{number}
use Rattle.fp_field.specs.Normal.{add_term}
use Rattle.chain_core.specs.Formal.{numbers}
use Rattle.chain_core.proofs.Rising.{ascends, all_elements}
use Rattle.chain_core.proofs.SumLemmas.{add_term-zero, sum_inserted, sum_removed, sum_set}
use Rattle.chain_core.proofs.sums.add_to.Goals.{then-sum-eq0, else-sum-eq0}
use Rattle.chain_core.proofs.sums.add_to.Goals as goal

pub place_of-requires : goal.place_of-requires
place_of-requires g c = rw c.deref.ensures.value (ascends g.K.Ord.cmp g.met.K.Ord.total c.args.p (numbers c.args.terms.now.items) c.requires.normal)

pub add-sum-requires-clause-b_in : goal.add-sum-requires-clause-b_in
add-sum-requires-clause-b_in g c =
    rw c.index.ensures (all_elements g.K.Ord.cmp g.met.K.Ord.total c.args.p c.args.terms.now.items c.requires.normal c.in-Ok.i _ (rw c.deref.ensures.value at c.in-Ok.ensures.within))

pub returns-after-sum-eq0-clause-sum : goal.returns-after-sum-eq0-clause-sum
returns-after-sum-eq0-clause-sum g c =
    let within = rw c.deref.ensures.value at c.in-Ok.ensures.within in
    let place = rw c.deref.ensures.value at c.in-Ok.ensures.place in
    elim c.if-sum-eq0.branch [
      | then-sum-eq0 w ↦ ap (λ v. numbers v.items) w.terms-is ∙ ap numbers w.remove.ensures.items
          ∙ sum_removed g.K.Ord.cmp (number c.args.p) c.args.terms.now.items c.args.k c.in-Ok.i c.args.c.value c.index.result.now within c.index.ensures place (sym c.add-sum.ensures ∙ w.if-sum-eq0.true)
      | else-sum-eq0 w ↦ ap (λ v. numbers v.items) w.terms-is
          ∙ sum_set g.K.Ord.cmp (number c.args.p) c.args.terms.now.items c.args.k c.in-Ok.i c.args.c.value c.index.result.now within c.index.ensures place
          w.index_mut.result.now c.add-sum.result w.index_mut.ensures.value c.add-sum.ensures (omega (arith, w.if-sum-eq0.false))
    ]

pub returns-in_ok-insert-in-Err-clause-sum : goal.returns-in_ok-insert-in-Err-clause-sum
returns-in_ok-insert-in-Err-clause-sum g c =
    ap numbers c.in_ok-insert-in-Err.ensures.items
    ∙ sum_inserted g.K.Ord.cmp (number c.args.p) c.args.terms.now.items c.args.k c.in-Err.i c.args.c.value c.args.c refl (rw c.deref.ensures.value at c.in-Err.ensures.place)
    c.requires.element (omega (arith, c.if-c-ne0.true))

pub returns-else-c-ne0-clause-sum : goal.returns-else-c-ne0-clause-sum
returns-else-c-ne0-clause-sum g c =
    sym (ap (λ n. add_term g.K.Ord.cmp (number c.args.p) c.args.k n (numbers c.args.terms.now.items)) c.if-c-ne0.false
    ∙ add_term-zero g.K.Ord.cmp (number c.args.p) (numbers c.args.terms.now.items) c.args.k c.in-Err.i (rw c.deref.ensures.value at c.in-Err.ensures.place))
