use Rattle.std.proofs.Common.{◌≡◌, ◌+◌, ◌<◌, ◌≤◌, ◌-◌, length, get_or, [], sym, ◌∙◌, ap, subst, arith}
use Rattle.echelons.proofs.Vectors.{length-zeros}
use Rattle.std.specs.Option.{option_copied}
use Rattle.fp_field.specs.Field.{number, minus}
use Rattle.echelons.specs.Echelon.{IsVector, at_place, lead, zeros, IsReducedEchelon}
use Rattle.session_core.proofs.ThriftyNumbers.{first-of, first-row, none-of, by-first, by-none, by-nothing}
use Rattle.session_core.proofs.thrifty.thrifty_of.Goals as goal

pub returns-in-None-clause-values : goal.returns-in-None-clause-values
returns-in-None-clause-values c = λ a.
    c.zero.ensures.values ∙ ap zeros (ap length c.deref-listed.ensures.value)
    ∙ by-nothing c.args.p a (length c.args.row.values) c.args.rows.items c.requires.rows c.args.row c.requires.row c.in_ok-basis.basis.rows c.in_ok-basis.ensures.rows
    (sym c.rows.ensures.rows ∙ none-of c.rows.result.now (sym c.get.ensures ∙ ap option_copied c.in-None.is))

pub returns-then-lead-gt0-clause-values : goal.returns-then-lead-gt0-clause-values
returns-then-lead-gt0-clause-values c = λ a.
    c.zero-then-lead-gt0.ensures.values ∙ ap zeros (ap length c.deref-listed.ensures.value)
    ∙ by-none c.args.p a (length c.args.row.values) c.args.rows.items c.requires.rows c.args.row c.requires.row c.in_ok-basis.basis.rows c.in_ok-basis.ensures.rows
    (λ e.
    let same = (sym (c.rows.ensures.rows) ∙ (first-of c.rows.result.now c.in-Some.first.now (sym (sym (ap option_copied c.in-Some.is) ∙ c.get.ensures))).1) in
    let g : 0 < c.lead.result = c.if-lead-gt0.true in
    let z : c.lead.result ≡ 0 = c.lead.ensures ∙ ap (λ b. lead (get_or b 0 [])) (sym same) ∙ e in absurd (omega (arith, g, z)))

pub turned-requires-clause-prime : goal.turned-requires-clause-prime
turned-requires-clause-prime c =
    (first-row c.in_ok-basis.basis.prime c.in_ok-basis.basis.width c.rows.result.now c.in-Some.first.now
    (subst (IsReducedEchelon (number c.in_ok-basis.basis.prime) c.in_ok-basis.basis.width) (sym c.rows.ensures.rows) c.rows.ensures.echelon) c.rows.ensures.primes (sym (sym (ap option_copied c.in-Some.is) ∙ c.get.ensures))).1
    ∙ c.in_ok-basis.ensures.prime

pub turned-requires-clause-width : goal.turned-requires-clause-width
turned-requires-clause-width c =
    (first-row c.in_ok-basis.basis.prime c.in_ok-basis.basis.width c.rows.result.now c.in-Some.first.now
    (subst (IsReducedEchelon (number c.in_ok-basis.basis.prime) c.in_ok-basis.basis.width) (sym c.rows.ensures.rows) c.rows.ensures.echelon) c.rows.ensures.primes (sym (sym (ap option_copied c.in-Some.is) ∙ c.get.ensures))).0
    ∙ c.in_ok-basis.ensures.width ∙ ap (λ n. n + 1) (sym (ap length c.deref-listed.ensures.value))

pub returns-clause-values : goal.returns-clause-values
returns-clause-values c = λ a.
    let first = first-of c.rows.result.now c.in-Some.first.now (sym (sym (ap option_copied c.in-Some.is) ∙ c.get.ensures)) in
    by-first c.args.p a (length c.args.row.values) c.args.rows.items c.requires.rows c.args.row c.requires.row c.in_ok-basis.basis.rows c.in_ok-basis.ensures.rows
    c.in-Some.first.now.values first.0 c.in_ok-numbers-in-Some.numbers.values (sym c.rows.ensures.rows ∙ first.1)
    (let g : c.lead.result ≤ 0 = c.if-lead-gt0.false in let z : lead c.in-Some.first.now.values ≡ c.lead.result = sym c.lead.ensures in let y : lead c.in-Some.first.now.values ≡ 0 = omega (arith, g, z) in y)
    (subst (λ n. IsVector (number c.args.p) n c.in_ok-numbers-in-Some.numbers.values) (ap length c.deref-listed.ensures.value) c.in_ok-numbers-in-Some.ensures.vector)
    (λ i l. c.in_ok-numbers-in-Some.ensures.entries i (subst (λ n. i < n) (sym (ap length c.deref-listed.ensures.value)) l) ∙ ap (λ n. minus (number c.args.p) (at_place c.in-Some.first.now.values (n - i))) (ap length c.deref-listed.ensures.value))

pub returns-in-None-clause-width : goal.returns-in-None-clause-width
returns-in-None-clause-width c = ap length c.zero.ensures.values ∙ length-zeros (length c.deref-listed.result.now) ∙ ap length c.deref-listed.ensures.value

pub returns-then-lead-gt0-clause-width : goal.returns-then-lead-gt0-clause-width
returns-then-lead-gt0-clause-width c = ap length c.zero-then-lead-gt0.ensures.values ∙ length-zeros (length c.deref-listed.result.now) ∙ ap length c.deref-listed.ensures.value
