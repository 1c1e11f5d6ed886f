use Rattle.std.proofs.Common.{◌≡◌, ◌≤◌, ◌<◌, add-one, length, sym, ◌∙◌, subst}
use Rattle.std.proofs.lemmas.List.Elements.{All-push, All-get_or}
use Rattle.elim_fp.proofs.Related.{tails-kept, tails-more}
use Rattle.elim_fp.proofs.parts.tails_of.Goals.{then-lead-from+in_ok-tail_of+in_ok-push, else-lead-from}
use Rattle.elim_fp.proofs.parts.tails_of.Goals as goal

pub tail_of-requires : goal.tail_of-requires
tail_of-requires c =
    subst (λ r. c.args.from ≤ length r.values) (sym c.row-item.is) (All-get_or (λ r. c.args.from ≤ length r.values) c.args.rows.now c.loop-row.row-index c.row-item.result c.loop-row-test.true c.requires.widths)

pub loop-row-preserved : goal.loop-row-preserved
loop-row-preserved c =
    let xs = c.args.rows.now in
    let i = c.loop-row.row-index in
    let x = c.row-item.result in
    elim c.if-lead-from.branch [
      | then-lead-from+in_ok-tail_of+in_ok-push w ↦ record {
        rows = rw (w.tails-is, add-one) (tails-more c.args.from xs c.loop-row.tails.items w.push.new.self.items i x w.in_ok-tail_of.field-0 c.loop-row-test.true c.row-item.is
            (subst (λ n. c.args.from ≤ n) c.lead.ensures w.if-lead-from.true) w.in_ok-push.ensures.items w.in_ok-tail_of.ensures.values c.loop-row.invariant.rows);
        primes = rw (w.tails-is, w.in_ok-push.ensures.items) (All-push (λ r. r.prime ≡ c.args.p) c.loop-row.tails.items w.in_ok-tail_of.field-0 c.loop-row.invariant.primes
            (w.in_ok-tail_of.ensures.prime ∙ subst (λ r. r.prime ≡ c.args.p) (sym c.row-item.is) (All-get_or (λ r. r.prime ≡ c.args.p) xs i x c.loop-row-test.true c.requires.primes)));
      }
      | else-lead-from w ↦ record {
        rows = rw (w.tails-is, add-one) (c.loop-row.invariant.rows ∙ tails-kept c.args.from xs i x c.loop-row-test.true c.row-item.is (subst (λ n. n < c.args.from) c.lead.ensures w.if-lead-from.false));
        primes = rw w.tails-is c.loop-row.invariant.primes;
      }
    ]
