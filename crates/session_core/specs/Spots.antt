-- A space and a degree of it, which each question begins with.
--
--   from no names, `(sphere 2)` and 17 are refused by the degree
use Rattle.std.specs.Prelude.{ℕ}
use Rattle.term_lang.specs.declared.terms.Term.{Term}
use Rattle.script_lang.specs.declared.exprs.Expr.{Expr}
use Rattle.session_core.specs.declared.spots.Spot.{Spot}
use Rattle.session_core.specs.Answer.{Names, Told, told, ◌>>◌, told_space, told_degree}

abbrev pub spot_of : Spot → Term × ℕ
spot_of x = (x.term, x.degree)

abbrev pub told_spot : Names → Expr → ℕ → Told (Term × ℕ)
told_spot names e n = told_space names e >> λ t. told_degree n >> λ m. told (t, m)
