use Rattle.std.proofs.Common.{◌≡◌, ◌<◌, ◌≤◌, ◌-◌, ℕ, ◌∙◌, ap, arith}
use Rattle.std.proofs.lemmas.Result.{IfOk-weaker}
use Rattle.fp_field.specs.Field.{number, minus}
use Rattle.echelons.specs.Echelon.{at_place}
use Rattle.elim_fp.specs.Rows.{numbers_of}
use Rattle.session_core.proofs.thrifty.turned.Goals as goal

pub returns-clause-entries : goal.returns-clause-entries
returns-clause-entries c =
    IfOk-weaker c.row_of.result (λ r. r.values ≡ numbers_of c.deref.result.now)
    (λ r. (i : ℕ) → i < c.args.count → at_place r.values i ≡ minus (number c.args.p) (at_place c.args.row.now.values (c.args.count - i)))
    (λ r e i l. ap (λ v. at_place v i) (e ∙ ap numbers_of c.deref.ensures.value) ∙ c.loop-i.invariant.entries i (let h : c.args.count ≤ c.loop-i.i = c.loop-i-test.false in omega (arith, h)))
    c.row_of.ensures.values
