use Rattle.std.proofs.Common.{◌≡◌, ◌<◌, sym, ◌∙◌, subst}
use Rattle.std.proofs.lemmas.List.Elements.{All-push}
use Rattle.fp_field.specs.Field.{number}
use Rattle.fp_field.proofs.Primes.{number_pos}
use Rattle.echelons.specs.Echelon.{IsVector, zeros}
use Rattle.echelons.proofs.Vectors.{zeros-vector}
use Rattle.elim_fp.specs.Rows.{IsRow}
use Rattle.elim_fp.proofs.Turning.{more-within}
use Rattle.elim_fp.proofs.transposes.zero_rows.Goals as goal

pub loop-alloc-preserved : goal.loop-alloc-preserved
loop-alloc-preserved c = record {
  within = more-within c.loop-alloc.rows.items c.push.new.self.items c.zero.result c.args.count c.in_ok-push.ensures.items (subst (λ n. n < c.args.count) (c.len.ensures ∙ c.loop-alloc.rows.ok.0) c.loop-alloc-test.true);
  each = rw c.in_ok-push.ensures.items (All-push (IsRow c.args.p c.args.width) c.loop-alloc.rows.items c.zero.result c.loop-alloc.invariant.each
      (record { prime_is = c.zero.ensures.prime; vector = subst (IsVector (number c.args.p) c.args.width) (sym c.zero.ensures.values) (zeros-vector (number c.args.p) (number_pos c.args.p) c.args.width) }));
  zero = rw c.in_ok-push.ensures.items (All-push (λ r. r.values ≡ zeros c.args.width) c.loop-alloc.rows.items c.zero.result c.loop-alloc.invariant.zero c.zero.ensures.values);
}
