use Rattle.std.proofs.Common.{◌<◌, add-one, length, sym, ◌∙◌, ap, subst}
use Rattle.std.proofs.lemmas.List.Elements.{All-push}
use Rattle.fp_field.specs.Field.{number}
use Rattle.echelons.specs.Echelon.{at_place, lead}
use Rattle.elim_fp.specs.Rows.{vectors_of}
use Rattle.elim_fp.proofs.Left.{length-vectors, row-values, row-lead}
use Rattle.elim_fp.proofs.Solved.{more-entries}
use Rattle.elim_fp.proofs.bases.entries_at_leads.Goals as goal

pub entry-requires : goal.entry-requires
entry-requires c = subst (λ n. n < length c.args.v.now.values) (sym c.lead.ensures)
    (row-lead c.args.v.now.prime (length c.args.v.now.values) c.args.basis.now c.requires.echelon c.loop-row.row-index c.row-item.result c.loop-row-test.true c.row-item.is)

pub loop-row-preserved : goal.loop-row-preserved
loop-row-preserved c =
    let rows = vectors_of c.args.basis.now in
    let i = c.loop-row.row-index in
    let within : c.loop-row.row-index < length (vectors_of c.args.basis.now) = subst (λ n. i < n) (sym (length-vectors c.args.basis.now)) c.loop-row-test.true in
    record {
      values = rw add-one (more-entries rows c.args.v.now.values i c.loop-row.values.items c.push.new.self.items c.entry.result within c.in_ok-push.ensures.items c.loop-row.invariant.values
          (c.entry.ensures.value ∙ ap (at_place c.args.v.now.values) c.lead.ensures ∙ ap (λ y. at_place c.args.v.now.values (lead y)) (row-values c.args.basis.now i c.row-item.result c.loop-row-test.true c.row-item.is)));
      below = rw c.in_ok-push.ensures.items (All-push (λ a. a.value < number c.args.v.now.prime) c.loop-row.values.items c.entry.result c.loop-row.invariant.below c.entry.ensures.element);
    }
