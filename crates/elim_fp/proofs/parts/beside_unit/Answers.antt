use Rattle.std.proofs.Common.{◌≡◌, ◌<◌, ◌+◌, ◌%◌, set, length, refl, sym, ◌∙◌, ap, subst, arith}
use Rattle.fp_field.specs.Field.{number}
use Rattle.fp_field.proofs.Primes.{number_pos, number_above_one}
use Rattle.echelons.specs.Echelon.{at_place}
use Rattle.echelons.proofs.Vectors.{zeros-vector, length-zeros}
use Rattle.elim_fp.proofs.Behind.{beside-is}
use Rattle.elim_fp.proofs.parts.beside_unit.Goals as goal

pub with_part-requires-clause-vector : goal.with_part-requires-clause-vector
with_part-requires-clause-vector c =
    let n = c.width-own.result + c.args.width in
    rw (c.zero-zero.ensures.values, length-zeros n) (zeros-vector (number c.zero-zero.result.prime) (number_pos c.zero-zero.result.prime) n)

pub with_part-requires-clause-fits : goal.with_part-requires-clause-fits
with_part-requires-clause-fits c =
    let n = c.width-own.result + c.args.width in
    let e : length c.zero-zero.result.values ≡ c.width-own.result + c.args.width = ap length c.zero-zero.ensures.values ∙ length-zeros n in
    omega (arith, e, c.width-own.ensures.width)

pub add_entry-requires-clause-place : goal.add_entry-requires-clause-place
add_entry-requires-clause-place c =
    let n = c.width-own.result + c.args.width in
    let e : length c.zero-zero.result.values ≡ c.width-own.result + c.args.width = ap length c.zero-zero.ensures.values ∙ length-zeros n in
    omega (arith, e, c.in_ok-wide.ensures.width)

pub returns-clause-values : goal.returns-clause-values
returns-clause-values c =
    let n = c.width-own.result + c.args.width in
    let v = c.args.row.now.values in
    let q = c.args.row.now.prime in
    let e : length c.zero-zero.result.values ≡ c.width-own.result + c.args.width = ap length c.zero-zero.ensures.values ∙ length-zeros n in
    let same = c.zero-zero.ensures.prime ∙ c.prime.ensures in
    let entries = c.in_ok-wide.ensures.entries in
    beside-is (number q) (number_pos q) c.width-own.result v c.width-own.ensures.vector (number_above_one q) c.args.place c.args.width n c.in_ok-wide.wide.values c.add_entry.new.self.values
    c.requires.place refl (c.in_ok-wide.ensures.width ∙ e)
    (λ j l. entries j (subst (λ x. j < x) (sym e) l) ∙ (λ i. (at_place (c.zero-zero.ensures.values i) j + at_place v (0 + j)) % number (same i)))
    (c.in_ok-add_entry.ensures.entry ∙ ap (λ s. set c.in_ok-wide.wide.values (c.width-own.result + c.args.place) ((at_place c.in_ok-wide.wide.values (c.width-own.result + c.args.place) + 1) % number s)) (c.in_ok-wide.ensures.prime ∙ same))
