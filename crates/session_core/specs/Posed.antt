-- A space, a degree and a cycle, which a question about a cycle begins with.
--
--   from no names over F_3, `(sphere 2)`, 2 and `(1 S2)` are the sphere, the degree 2 and its cell
use Rattle.std.specs.Prelude.{◌≡◌, ℕ}
use Rattle.fp_field.specs.declared.prime.Prime.{Prime}
use Rattle.fp_field.specs.Chains.{Terms, EachKey}
use Rattle.chain_core.specs.Formal.{Formal}
use Rattle.cells.specs.declared.cells.Cell.{Cell}
use Rattle.spaces.specs.Spaces.{Space}
use Rattle.term_lang.specs.declared.terms.Term.{Term}
use Rattle.term_lang.specs.SpaceOf.{space_of}
use Rattle.values.specs.Asks.{Cell as GradedCell}
use Rattle.script_lang.specs.declared.exprs.Expr.{Expr}
use Rattle.script_lang.specs.declared.simplices.ChainText.{ChainText}
use Rattle.session_core.specs.Answer.{State, Told, told, ◌>>◌, told_space, told_degree, told_chain, told_cycle}
use Rattle.session_core.specs.Telling.{StandsFor}

pub record PosedCycle : Type 0 where
  pub term : Term
  pub degree : ℕ
  pub cycle : Terms (GradedCell (space_of term))

abbrev pub told_posed : State → Expr → ℕ → ChainText → Told PosedCycle
told_posed s e n c =
    told_space s.names e >> λ t. told_degree n >> λ m. told_chain s.prime t m c >> λ y. told_cycle s.prime t m y >> λ z.
    told (record { term = t; degree = m; cycle = z })

-- the chain of the code stands for the cycle that is told, in this space and degree
pub record IsPosed (s : State) (e : Expr) (n : ℕ) (c : ChainText) (t : Term) (m : ℕ) (code : Formal Cell) : Type 0 where
  pub cycle : Terms (GradedCell (space_of t))
  pub told_is : told_posed s e n c ≡ told (record { term = t; degree = m; cycle = cycle })
  pub chain_is : told_chain s.prime t m c ≡ told cycle
  pub stands : StandsFor s.prime (space_of t) code cycle

-- a chain of the code for a chain of cells of degree n
pub record IsCycleOf (p : Prime) (X : Space) (n : ℕ) (code : Formal Cell) : Type 0 where
  pub chain : Terms (GradedCell X)
  pub stands : StandsFor p X code chain
  pub degrees : EachKey (λ x. x.0 ≡ n) chain
