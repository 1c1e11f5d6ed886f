use Rattle.std.proofs.Common.{◌≡◌, ◌<◌, ◌-◌, ◌+◌, ◌%◌, length, sym, ◌∙◌, ap, subst, arith}
use Rattle.fp_field.specs.Field.{number}
use Rattle.fp_field.proofs.Primes.{number_pos}
use Rattle.echelons.specs.Echelon.{at_place}
use Rattle.echelons.proofs.Vectors.{zeros-vector, length-zeros}
use Rattle.elim_fp.proofs.Behind.{tail-is}
use Rattle.elim_fp.proofs.parts.tail_of.Goals as goal

pub with_part-requires-clause-vector : goal.with_part-requires-clause-vector
with_part-requires-clause-vector c =
    let n = c.width.result - c.args.from in
    rw (c.zero-zero.ensures.values, length-zeros n) (zeros-vector (number c.zero-zero.result.prime) (number_pos c.zero-zero.result.prime) n)

pub with_part-requires-clause-fits : goal.with_part-requires-clause-fits
with_part-requires-clause-fits c =
    let n = c.width.result - c.args.from in
    let e : length c.zero-zero.result.values ≡ c.width.result - c.args.from = ap length c.zero-zero.ensures.values ∙ length-zeros n in
    omega (arith, e, c.width.ensures.width)

pub returns-clause-values : goal.returns-clause-values
returns-clause-values c =
    let n = c.width.result - c.args.from in
    let v = c.args.row.now.values in
    let p = number c.args.row.now.prime in
    let e : length c.zero-zero.result.values ≡ c.width.result - c.args.from = ap length c.zero-zero.ensures.values ∙ length-zeros n in
    let same = c.zero-zero.ensures.prime ∙ c.prime.ensures in
    let entries = c.in_ok-tail.ensures.entries in
    tail-is p (number_pos c.args.row.now.prime) c.width.result v c.width.ensures.vector c.args.from n c.in_ok-tail.tail.values
    (omega (arith, c.requires, c.width.ensures.width)) (c.in_ok-tail.ensures.width ∙ e)
    (λ j l. entries j (subst (λ x. j < x) (sym e) l) ∙ (λ i. (at_place (c.zero-zero.ensures.values i) j + at_place v (c.args.from + j)) % number (same i)))
