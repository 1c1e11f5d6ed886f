use Rattle.std.proofs.Common.{arith, rules, ◌≡◌, ◌≤◌, length, sym, ◌∙◌, pos, get_or, ◌++◌, ◌∷◌, [], false}
use Rattle.term_lang.specs.Belongs.{is_zero}
use Rattle.kz1_group.proofs.Norming.{norming_zero, norming_other, normed_form, normed_simplex, normed_within, kept_at, kept_for, not_zero}
use Rattle.kz1_group.proofs.lists.ints_norm.Goals as goal
use Rattle.kz1_group.proofs.lists.ints_norm.Goals.{then-a-eq0, else-a-eq0+in_ok-push}

pub loop-i-preserved : goal.loop-i-preserved
loop-i-preserved c = elim c.if-a-eq0.branch [
  | then-a-eq0 w ↦
      let x = c.as_slice-items.result.now in
      let e : get_or x c.loop-i.i (pos 0) ≡ pos 0 = search rules in
      let most : length x ≤ 32 = rw c.as_slice-items.ensures c.requires in
      kept_at x _ _ _ _ _ w.mask-is w.cell-is (norming_zero x c.loop-i.mask c.loop-i.cell c.loop-i.i c.loop-i-test.true c.loop-i.invariant most e)
  | else-a-eq0+in_ok-push w ↦
      let x = c.as_slice-items.result.now in
      let e : w.push.new.self ≡ c.loop-i.cell ++ get_or x c.loop-i.i (pos 0) ∷ [] = search rules in
      let f : is_zero (get_or x c.loop-i.i (pos 0)) ≡ false = not_zero (get_or x c.loop-i.i (pos 0)) w.if-a-eq0.false in
      kept_at x _ _ _ _ _ w.mask-is (w.cell-is ∙ e) (norming_other x c.loop-i.mask c.loop-i.cell c.loop-i.i c.loop-i-test.true c.loop-i.invariant f)
]

pub returns-clause-form : goal.returns-clause-form
returns-clause-form c =
    let most : length c.as_slice-items.result.now ≤ 32 = rw c.as_slice-items.ensures c.requires in
    normed_form c.as_slice-items.result.now c.loop-i.mask c.loop-i.cell most (kept_for _ _ _ _ _ (omega (arith, c.loop-i.auto.i-end, c.loop-i-test.false)) c.loop-i.invariant) ∙ c.as_slice-items.ensures

pub returns-clause-simplex : goal.returns-clause-simplex
returns-clause-simplex c =
    let most : length c.as_slice-items.result.now ≤ 32 = rw c.as_slice-items.ensures c.requires in
    rw (sym c.as_slice-items.ensures) (normed_simplex c.as_slice-items.result.now c.loop-i.mask c.loop-i.cell most (kept_for _ _ _ _ _ (omega (arith, c.loop-i.auto.i-end, c.loop-i-test.false)) c.loop-i.invariant))

pub returns-clause-integers : goal.returns-clause-integers
returns-clause-integers c =
    let most : length c.as_slice-items.result.now ≤ 32 = rw c.as_slice-items.ensures c.requires in
    rw (sym c.as_slice-items.ensures) (normed_within c.as_slice-items.result.now c.loop-i.mask c.loop-i.cell most (kept_for _ _ _ _ _ (omega (arith, c.loop-i.auto.i-end, c.loop-i-test.false)) c.loop-i.invariant))
