-- What the replies to questions say of the space itself.
--
-- A chain of cells of the code stands for a chain of simplices of the space. Cycles, boundaries and homology are those of the space's own
-- normalised chains (May, Simplicial Objects in Algebraic Topology, chapter V, 22).
--
--   over F_2 the reply to `(homology (sphere 2) 2)` has the one chain S2, which stands for the one simplex ([], 1) of the space, and this is
--   a homology list of degree 2
use Rattle.std.specs.Prelude.{◌≡◌, ◌<◌, ◌≤◌, ◌-◌, ℕ, zero, suc, List, [], ◌∷◌, ◌++◌, map, length, Option, Some}
use Rattle.std.specs.List.{All}
use Rattle.fp_field.specs.Field.{number, residue}
use Rattle.fp_field.specs.Chains.{Terms, scale, combination}
use Rattle.chain_core.specs.Formal.{Formal}
use Rattle.spaces.specs.Spaces.{Space, Plain, set_of}
use Rattle.spaces.specs.Homology.{IsChain, Same, boundary, IsCycle, IsExpressed, HomologyList}
use Rattle.cells.specs.declared.cells.Cell.{Cell}
use Rattle.term_lang.specs.declared.terms.Term.{Term}
use Rattle.term_lang.specs.SpaceOf.{space_of}
use Rattle.term_lang.specs.Forms.{cell_form}
use Rattle.script_lang.specs.declared.exprs.Expr.{Expr}
use Rattle.script_lang.specs.declared.simplices.TermText.{TermText}
use Rattle.script_lang.specs.declared.simplices.ChainText.{ChainText}
use Rattle.script_lang.specs.declared.simplices.ChainText.TheVariants as chains
use Rattle.script_lang.specs.Meaning.{meaning, mapped, both_of}
use Rattle.fp_field.specs.declared.prime.Prime.{Prime}
use Rattle.elim_fp.specs.Rows.{DenseRow}
use Rattle.script_lang.specs.declared.commands.Command.TheVariants as commands
use Rattle.reply_text.specs.declared.replies.Reply.TheVariants as replies
use Rattle.session_core.specs.Answer.{State, told, told_space, answer}

-- the chain of simplices that a chain of cells stands for
abbrev pub simplices_of : (X : Space) → Terms Cell → Terms (Plain X)
simplices_of X c = map (λ t. (cell_form t.0 X, t.1)) c

-- ---- chains as they are written

module _ (p : Prime) (X : Space) (n : ℕ) where
  -- the simplices of degree n with their numbers modulo p, degenerate ones too, where each text means one
  abbrev pub meant_terms : List TermText → Option (Terms (Plain X))
  meant_terms [] = Some []
  meant_terms (text ∷ texts) = mapped (λ b. (b.0, residue (number p) text.coeff) ∷ b.1) (both_of (meaning text.simplex X n) (meant_terms texts))

  -- the chain that a text means
  abbrev pub meant_chain : ChainText → Option (Terms (Plain X))
  meant_chain chains.Zero = Some []
  meant_chain (chains.Terms texts) = meant_terms texts

-- ---- homology

-- the chains of a reply to a question for degree n of the space of e
pub record IsHomologyReply (s : State) (e : Expr) (n : ℕ) (t : Term) (zs : List (Formal Cell)) : Type 0 where
  pub space : told_space s.names e ≡ told t
  pub degree : n ≤ 16
  pub primes : All (λ z. z.prime ≡ s.prime) zs
  pub list : HomologyList (set_of (space_of t)) (number s.prime) n (map (λ z. simplices_of (space_of t) z.terms) zs)

-- ---- dimensions

-- the length of each homology list of a degree, of which there is one
pub record IsDimension (p : ℕ) (X : Space) (n d : ℕ) : Type 0 where
  pub some : (zs : List (Terms (Plain X))) × HomologyList (set_of X) p n zs
  pub each : (zs : List (Terms (Plain X))) → HomologyList (set_of X) p n zs → length zs ≡ d

-- of the degrees from n on
abbrev pub AreDimensions : ℕ → (X : Space) → ℕ → List ℕ → Type 0
AreDimensions p X n [] = Unit {0}
AreDimensions p X n (d ∷ ds) = IsDimension p X n d × AreDimensions p X (suc n) ds

-- the numbers of a reply to a question for the degrees from low to high of the space of e
pub record IsBettiReply (s : State) (e : Expr) (low high : ℕ) (ds : List ℕ) : Type 0 where
  pub term : Term
  pub space : told_space s.names e ≡ told term
  pub low_in : low ≤ 16
  pub high_in : high ≤ 16
  pub count : length ds ≡ suc high - low
  pub dimensions : AreDimensions (number s.prime) (space_of term) low ds

-- ---- boundaries

-- d is the boundary of the chain c of degree n
abbrev pub IsBoundaryOf : ℕ → (X : Space) → ℕ → Terms (Plain X) → Terms (Plain X) → Type 0
IsBoundaryOf p X zero d c = d ≡ []
IsBoundaryOf p X (suc n) d c = IsChain (set_of X) p n d × Same (set_of X) p n d (boundary (set_of X) p (suc n) c)

-- the chain of a reply to a question for the boundary of a chain of degree n
pub record IsBoundaryReply (s : State) (e : Expr) (n : ℕ) (text : ChainText) (t : Term) (d : Formal Cell) : Type 0 where
  pub space : told_space s.names e ≡ told t
  pub degree : n ≤ 16
  pub prime : d.prime ≡ s.prime
  pub chain : Terms (Plain (space_of t))
  pub meant : meant_chain s.prime (space_of t) n text ≡ Some chain
  pub within : IsChain (set_of (space_of t)) (number s.prime) n chain
  pub boundary_is : IsBoundaryOf (number s.prime) (space_of t) n (simplices_of (space_of t) d.terms) chain

-- ---- cycles in their parts

-- the coefficients of a reply that expresses a cycle of degree n over the cycles that are listed for this degree, and the chain of which
-- the rest is the boundary; no other coefficients leave a boundary
pub record IsExpressReply (s : State) (e : Expr) (n : ℕ) (text : ChainText) (t : Term) (v : DenseRow) (d : Formal Cell) : Type 0 where
  pub space : told_space s.names e ≡ told t
  pub degree : n ≤ 16
  pub prime : (v.prime ≡ s.prime) × (d.prime ≡ s.prime)
  pub cycle : Terms (Plain (space_of t))
  pub meant : meant_chain s.prime (space_of t) n text ≡ Some cycle
  pub is_cycle : IsCycle (set_of (space_of t)) (number s.prime) n cycle
  pub listed : List (Formal Cell)
  pub are_listed : (answer s (commands.Homology e n)).0 ≡ replies.Homology t listed
  pub coefficients : (length v.values ≡ length listed) × All (λ a. a < number s.prime) v.values
  pub chain : IsChain (set_of (space_of t)) (number s.prime) (suc n) (simplices_of (space_of t) d.terms)
  pub rest : Same (set_of (space_of t)) (number s.prime) n
      (cycle ++ scale (number s.prime - 1) (combination v.values (map (λ z. simplices_of (space_of t) z.terms) listed)))
      (boundary (set_of (space_of t)) (number s.prime) (suc n) (simplices_of (space_of t) d.terms))
  pub only : (others : List ℕ)
      → IsExpressed (set_of (space_of t)) (number s.prime) n (map (λ z. simplices_of (space_of t) z.terms) listed) cycle others
      → others ≡ v.values
