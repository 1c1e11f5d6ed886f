use Rattle.std.proofs.Common.{◌≡◌, ◌++◌, [], ◌∷◌, suc, add-one, drop, sym, ◌∙◌, ap, arith}
use Rattle.std.proofs.lemmas.List.{append_assoc}
use Rattle.elim_fp.specs.Matching.{unmatched, row_lead}
use Rattle.elim_fp.proofs.Unmatched.{step-match, step-keep, step-end}
use Rattle.elim_fp.proofs.complements.unmatched_rows.Goals.{then-next-others+then-lead, else-next-others+in_ok-clone+in_ok-push, else-next-others-via-then-next-others+else-lead, else-next-others-via-else-next-others}
use Rattle.elim_fp.proofs.complements.unmatched_rows.Goals as goal

pub loop-row-preserved : goal.loop-row-preserved
loop-row-preserved c =
    let xs = c.args.rows.now in
    let ys = c.args.others.now in
    let i = c.loop-row.row-index in
    let n = c.loop-row.next in
    let x = c.row-item.result in
    elim c.if-next-others.branch [
      | then-next-others+then-lead w ↦ record {
        within = rw w.next-is (omega (arith, w.if-next-others.true));
        rest = rw (w.next-is, w.left-is, add-one, add-one) (ap (λ zs. c.loop-row.left.items ++ zs) (sym (step-match row_lead xs ys i n x w.index-others-next.result
            c.loop-row-test.true c.row-item.is w.if-next-others.true w.index-others-next.is
            (sym w.lead-then-next-others.ensures ∙ sym w.if-lead.true ∙ w.lead.ensures))) ∙ c.loop-row.invariant.rest);
      }
      | else-next-others+in_ok-clone+in_ok-push w ↦
          let kept : unmatched row_lead (drop c.loop-row.row-index c.args.rows.now) (drop c.loop-row.next c.args.others.now)
          ≡ c.row-item.result ∷ unmatched row_lead (drop (suc c.loop-row.row-index) c.args.rows.now) (drop c.loop-row.next c.args.others.now) =
          elim w.else-next-others.branch [
            | else-next-others-via-then-next-others+else-lead w' ↦ step-keep row_lead xs ys i n x w'.index-others-next.result c.loop-row-test.true c.row-item.is w'.if-next-others.true w'.index-others-next.is
                (λ e. w'.if-lead.false (w'.lead.ensures ∙ sym e ∙ sym w'.lead-then-next-others.ensures))
            | else-next-others-via-else-next-others w' ↦ step-end row_lead xs ys i n x c.loop-row-test.true c.row-item.is w'.if-next-others.false
          ] in
          record {
            within = rw w.next-is c.loop-row.invariant.within;
            rest = rw (w.next-is, w.left-is, add-one)
                (ap (λ zs. zs ++ unmatched row_lead (drop (suc i) xs) (drop n ys)) (w.in_ok-push.ensures.items ∙ ap (λ z. c.loop-row.left.items ++ z ∷ []) w.in_ok-clone.ensures.cases)
                ∙ append_assoc c.loop-row.left.items (x ∷ []) (unmatched row_lead (drop (suc i) xs) (drop n ys)) ∙ ap (λ zs. c.loop-row.left.items ++ zs) (sym kept) ∙ c.loop-row.invariant.rest);
          }
    ]
