use Rattle.std.proofs.Common.{◌≡◌, ℕ, ◌%◌, sym, ◌∙◌, ap, arith}
use Rattle.fp_field.specs.Field.{number}
use Rattle.fp_field.proofs.Primes.{number_pos}
use Rattle.ez_flow.proofs.Signs.{signs, minus_is}
use Rattle.ez_flow.proofs.sources.signed.Goals as goal

pub returns-then-i-eq0-clause-value : goal.returns-then-i-eq0-clause-value
returns-then-i-eq0-clause-value c = sym ((signs (number c.args.p) (number_pos c.args.p) c.args.i c.args.k.value).0 c.if-i-eq0.true)

pub returns-else-i-eq0-clause-value : goal.returns-else-i-eq0-clause-value
returns-else-i-eq0-clause-value c =
    let q : ℕ = number c.args.p in
    let odd : c.args.i % 2 ≡ 1 = let no = c.if-i-eq0.false in omega (arith, no) in
    ap (λ m. m % q) c.neg.ensures ∙ minus_is q (number_pos c.args.p) c.args.k.value c.requires ∙ sym ((signs q (number_pos c.args.p) c.args.i c.args.k.value).1 odd)
