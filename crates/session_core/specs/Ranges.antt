-- A space and two degrees of it.
--
--   from no names, `(sphere 2)`, 17 and 18 are refused by the degree 17
use Rattle.std.specs.Prelude.{ℕ}
use Rattle.term_lang.specs.declared.terms.Term.{Term}
use Rattle.script_lang.specs.declared.exprs.Expr.{Expr}
use Rattle.session_core.specs.declared.ranges.Range.{Range}
use Rattle.session_core.specs.Answer.{Names, Told, told, ◌>>◌, told_space, told_degree}

abbrev pub range_of : Range → Term × (ℕ × ℕ)
range_of x = (x.term, (x.low, x.high))

abbrev pub told_range : Names → Expr → ℕ → ℕ → Told (Term × (ℕ × ℕ))
told_range names e low high = told_space names e >> λ t. told_degree low >> λ m. told_degree high >> λ n. told (t, (m, n))
