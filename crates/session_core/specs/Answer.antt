-- The reply to a command, and the names and field after it.
--
-- Parts are evaluated from left to right: the space first, its parts before itself; then the degrees; then the simplices of the chain;
-- then whether the chain is a cycle; then the values. The first fault is the reply, and names and field stay as they were. A construction
-- that is not built yet comes before every other fault (the commands: Kenzo documentation, 1999; what the values are: Rubio and Sergeraert,
-- Constructive Homological Algebra and Applications).
--
--   from no names, `(homology x 0)` is refused by the name x, and `(homology (suspension (sphere 17)) 17)` by the sphere
use Rattle.std.specs.Prelude.{ℕ, suc, Bool, true, false, ◌||◌, ◌==◌, nat_eq, nat_lt, cond, List, [], ◌∷◌, ◌++◌, map, Option, Some, None, ℤ}
use Rattle.std.specs.Cmp.Lexicographic.{pointwise}
use Rattle.fp_field.specs.declared.prime.Prime.{Prime}
use Rattle.fp_field.specs.declared.prime.Prime.TheVariants.{Two, Three, Five, Seven, Eleven, Thirteen, Seventeen, Nineteen}
use Rattle.fp_field.specs.Field.{number, residue}
use Rattle.fp_field.specs.Chains.{Terms, extend}
use Rattle.fp_field.specs.Normal.{normal}
use Rattle.chain_core.specs.Formal.{Formal}
use Rattle.spaces.specs.Simplicial.{is_degenerate}
use Rattle.spaces.specs.Spaces.{Space, Plain, set_of, bundle}
use Rattle.spaces.specs.Tables.{Table}
use Rattle.spaces.specs.Orders.{ordered, by_degree}
use Rattle.cells.specs.declared.cells.Cell.{Cell}
use Rattle.term_lang.specs.declared.terms.Term.{Term}
use Rattle.term_lang.specs.declared.terms.Term.TheVariants.{Sphere as SphereTerm, Product as ProductTerm, Suspension as SuspensionTerm, KZ1 as KZ1Term}
use Rattle.term_lang.specs.declared.faults.TermFault.{TermFault}
use Rattle.term_lang.specs.declared.faults.TermFault.TheVariants as term_faults
use Rattle.term_lang.specs.SpaceOf.{space_of}
use Rattle.term_lang.specs.TermFaults.{own_fault}
use Rattle.term_lang.specs.Quote.{quote_cell}
use Rattle.finite_sets.specs.Meaning.{meaning_of}
use Rattle.finite_sets.specs.Faults.{fault_of}
use Rattle.finite_sets.specs.declared.faults.TableFault.{TableFault}
use Rattle.finite_sets.specs.declared.faults.TableFault.TheVariants as table_faults
use Rattle.values.specs.Asks.{Right, ask, cycles, Cell as GradedCell}
use Rattle.values.specs.Laws.{cell_d}
use Rattle.values.specs.Sizes.{letters, integer}
use Rattle.values.specs.Outcomes.{usual_limits, outcome, outcome_with, is_value, is_over}
use Rattle.oracle_iface.specs.declared.bodies.Kind.{Kind}
use Rattle.oracle_iface.specs.Keys.{key_of, quote_chain, formal}
use Rattle.oracle_iface.specs.Stands.{quote_kind}
use Rattle.oracle_iface.specs.Terms.{term_of}
use Rattle.oracle_iface.specs.CodeSizes.{terms_size}
use Rattle.oracle_iface.specs.Limits.{kind_past}
use Rattle.twist_maps.specs.Values.{first_open}
use Rattle.script_lang.specs.declared.commands.Command.{Command}
use Rattle.script_lang.specs.declared.commands.Command.TheVariants as commands
use Rattle.script_lang.specs.declared.exprs.PairText.{PairText}
use Rattle.script_lang.specs.declared.exprs.Expr.{Expr, fold-Expr}
use Rattle.script_lang.specs.declared.exprs.Expr.TheOpen.{Expr-F}
use Rattle.script_lang.specs.declared.simplices.TermText.{TermText}
use Rattle.script_lang.specs.declared.simplices.ChainText.{ChainText}
use Rattle.script_lang.specs.declared.simplices.ChainText.TheVariants as chains
use Rattle.script_lang.specs.Meaning.{meaning}
use Rattle.reply_text.specs.declared.refusals.Refusal.{Refusal}
use Rattle.reply_text.specs.declared.refusals.Refusal.TheVariants as refusals
use Rattle.reply_text.specs.declared.replies.Reply.{Reply}
use Rattle.reply_text.specs.declared.replies.Reply.TheVariants as replies
use Rattle.session_core.specs.Bundles.{base_rows, values_on, pairs_fault}
use Rattle.session_core.specs.Questions.{dimensions, expressed}

-- ---- names

-- the names of a session in order of first definition, each with the term that it stands for
abbrev pub Names : Type 0
Names = List (List ℕ × Term)

abbrev pub is_name : List ℕ → List ℕ → Bool
is_name a b = pointwise nat_eq a b

abbrev pub lookup : Names → List ℕ → Option Term
lookup [] name = None
lookup (n ∷ names) name = cond (is_name n.0 name) (Some n.1) (lookup names name)

-- a name that is there keeps its place
abbrev pub defined : Names → List ℕ → Term → Names
defined [] name t = (name, t) ∷ []
defined (n ∷ names) name t = cond (is_name n.0 name) ((name, t) ∷ names) (n ∷ defined names name t)

pub record State : Type 0 where
  pub names : Names
  pub prime : Prime

-- ---- what is told by a part of a line, or why it is refused

pub data Told (A : Type 0) : Type 0 where
  told : A → Told A
  refused : Refusal → Told A

infixl 10 ◌>>◌
abbrev pub ◌>>◌ : {A B : Type 0} → Told A → (A → Told B) → Told B
◌>>◌ (told a) next = next a
◌>>◌ (refused r) next = refused r

abbrev pub told_unless : {A : Type 0} → Bool → Refusal → A → Told A
told_unless b r a = cond b (refused r) (told a)

-- ---- spaces

-- a construction that is not built yet, at any depth
abbrev pub unbuilt_step : Expr-F Bool → Bool
unbuilt_step (Expr-F.Name name) = false
unbuilt_step (Expr-F.Sphere n) = false
unbuilt_step (Expr-F.Product a b) = a || b
unbuilt_step (Expr-F.Suspension a) = a
unbuilt_step Expr-F.KZ1 = false
unbuilt_step (Expr-F.Loop a) = true
unbuilt_step (Expr-F.Path a) = true
unbuilt_step (Expr-F.Bundle a pairs) = a
unbuilt_step (Expr-F.Table rows) = false

unfoldable pub is_unbuilt : Expr → Bool
is_unbuilt e = fold-Expr Bool unbuilt_step e

abbrev pub table_refusal : TableFault → Refusal
table_refusal table_faults.NoVertex = refusals.NoVertex
table_refusal (table_faults.BadDimension r) = refusals.BadDimension r
table_refusal (table_faults.UnknownCell r i) = refusals.UnknownCell r i
table_refusal (table_faults.FaceLaw r i j) = refusals.FaceLaw r i j
table_refusal (table_faults.TooManyCells n) = refusals.TooManyCells n
table_refusal (table_faults.DuplicateCell r) = refusals.DuplicateCell r
table_refusal table_faults.Memory = refusals.NotBuilt

-- the space that a name stands for
abbrev pub named_space : Names → List ℕ → Told Term
named_space names name = elim (lookup names name) [ Some t ↦ told t | None ↦ refused (refusals.UnknownName name) ]

-- the term of the rows as they are meant
abbrev pub told_table : List Rattle.term_lang.specs.declared.texts.RowText.RowText → Told Term
told_table rows = elim (fault_of rows) [ Some fault ↦ refused (table_refusal fault) | None ↦ told (term_of (Rattle.spaces.specs.Spaces.table (meaning_of rows))) ]

abbrev pub told_sphere : ℕ → Told Term
told_sphere n = told_unless ((n == 0) || nat_lt 16 n) (refusals.BadSphere n) (SphereTerm n)

-- the fault of a term; no line meets the last, since the values of a bundle are looked at before its term
abbrev pub term_refusal : TermFault → Refusal
term_refusal (term_faults.TooDeep d) = refusals.TooDeep d
term_refusal (term_faults.NotOneVertex n) = refusals.NotOneVertex n
term_refusal (term_faults.NotOneReduced n) = refusals.NotOneReduced n
term_refusal (term_faults.BadSphere n) = refusals.BadSphere n
term_refusal (term_faults.BadCocycle r) = refusals.NotBuilt

-- a term whose parts are told, unless it has a fault of its own: a suspension of more than depth 8 first, then one whose part has not one
-- vertex
abbrev pub told_whole : Term → Told Term
told_whole t = elim (own_fault (space_of t)) [ Some fault ↦ refused (term_refusal fault) | None ↦ told t ]

abbrev pub told_suspension : Told Term → Told Term
told_suspension part = part >> λ a. told_whole (SuspensionTerm a)

-- a product of parts that are told: one of more than depth 8 has a fault
abbrev pub told_product : Told Term → Told Term → Told Term
told_product left right = left >> λ a. right >> λ b. told_whole (ProductTerm a b)

-- the table of a base that is told
abbrev pub told_base : Term → Told Table
told_base a = elim (base_rows (space_of a)) [ Some t ↦ told t | None ↦ refused refusals.BaseNotTable ]

-- the values that pairs give to the rows of a base, unless a pair is at fault
abbrev pub told_values : Table → List PairText → Told (List ℤ)
told_values t pairs = elim (pairs_fault t pairs) [ Some fault ↦ refused fault | None ↦ told (values_on pairs t) ]

-- values that are closed; else the first row of dimension 3 on which they are not, with the sum there
abbrev pub told_closed : Table → List ℤ → Told (List ℤ)
told_closed t c = elim (first_open t c) [ Some found ↦ refused (refusals.NotClosed found.row found.sum) | None ↦ told c ]

-- a bundle over a base that is told. Its depth is 2, so it is never too deep
abbrev pub told_bundle : List PairText → Told Term → Told Term
told_bundle pairs base = base >> λ a. told_base a >> λ t. told_values t pairs >> λ values. told_closed t values >> λ c. told (term_of (bundle t c))

abbrev pub space_step : Names → Expr-F (Told Term) → Told Term
space_step names (Expr-F.Name name) = named_space names name
space_step names (Expr-F.Sphere n) = told_sphere n
space_step names (Expr-F.Product a b) = told_product a b
space_step names (Expr-F.Suspension a) = told_suspension a
space_step names Expr-F.KZ1 = told KZ1Term
space_step names (Expr-F.Loop a) = refused refusals.NotBuilt
space_step names (Expr-F.Path a) = refused refusals.NotBuilt
space_step names (Expr-F.Bundle a pairs) = told_bundle pairs a
space_step names (Expr-F.Table rows) = told_table rows

unfoldable pub told_space : Names → Expr → Told Term
told_space names e = fold-Expr (Told Term) (space_step names) e

-- ---- degrees

abbrev pub told_degree : ℕ → Told ℕ
told_degree n = told_unless (nat_lt 16 n) (refusals.Degree n) n

-- ---- chains

module _ (p : Prime) (t : Term) (n : ℕ) where
  -- a simplex that is past a limit on letters or integers, in its normal form
  abbrev pub simplex_past : Plain (space_of t) → Option (Kind × ℕ)
  simplex_past x = kind_past (record { letters = letters (space_of t) x; integer = integer (space_of t) x; terms = 0 })

  -- the term of a simplex: none where it is degenerate
  abbrev pub term_at : Plain (space_of t) → ℤ → Terms (GradedCell (space_of t))
  term_at x c = cond (is_degenerate (set_of (space_of t)) n x) [] (((n, x), residue (number p) c) ∷ [])

  abbrev pub told_simplex : Option (Kind × ℕ) → Plain (space_of t) → Told (Plain (space_of t))
  told_simplex (Some past) x = refused (refusals.Over None past.0 past.1)
  told_simplex None x = told x

  -- the k-th term of a chain
  abbrev pub told_term : ℕ → TermText → Told (Terms (GradedCell (space_of t)))
  told_term k text = elim (meaning text.simplex (space_of t) n) [
    | Some x ↦ told_simplex (simplex_past x) x >> λ y. told (term_at y text.coeff)
    | None ↦ refused (refusals.Simplex k)
  ]

  -- the terms from the k-th on
  abbrev pub told_terms : ℕ → List TermText → Told (Terms (GradedCell (space_of t)))
  told_terms k [] = told []
  told_terms k (text ∷ texts) = told_term k text >> λ c. told_terms (suc k) texts >> λ rest. told (c ++ rest)

  abbrev pub told_chain : ChainText → Told (Terms (GradedCell (space_of t)))
  told_chain chains.Zero = told []
  told_chain (chains.Terms texts) =
      told_terms 1 texts >> λ c. told (normal (by_degree (ordered (space_of t)).cmp) (number p) c)

  -- d of a chain
  abbrev pub boundary_of : Terms (GradedCell (space_of t)) → Terms (GradedCell (space_of t))
  boundary_of c = normal (by_degree (ordered (space_of t)).cmp) (number p) (extend (cell_d (number p) (space_of t)) c)

  -- a chain as it is printed
  abbrev pub printed : Terms (GradedCell (space_of t)) → Formal Cell
  printed c = formal p (quote_chain (space_of t) c)

  -- a chain that is to be printed, unless it is past a limit
  abbrev pub told_printed : Terms (GradedCell (space_of t)) → Told (Formal Cell)
  told_printed c = elim (kind_past (terms_size (quote_chain (space_of t) c))) [
    | Some past ↦ refused (refusals.Over None past.0 past.1)
    | None ↦ told (printed c)
  ]

  -- a chain whose boundary is 0
  abbrev pub told_cycle : Terms (GradedCell (space_of t)) → Told (Terms (GradedCell (space_of t)))
  told_cycle z = elim (boundary_of z) [
    | [] ↦ told z
    | u ∷ c ↦ refused (refusals.NotCycle t (record { value = u.1 }) (quote_cell (space_of t) u.0.0 u.0.1))
  ]

  -- what a question comes to, or the first key past a limit on the way
  abbrev pub told_value : {A : Type 0} → Right A → Told A
  told_value right = elim (outcome_with (outcome usual_limits (number p)) right) [
    | is_value v ↦ told v
    | is_over e ↦ refused (refusals.Over (Some (key_of p e.question)) (quote_kind e.kind) e.size)
  ]

-- ---- commands

abbrev pub primes : List Prime
primes = Two ∷ Three ∷ Five ∷ Seven ∷ Eleven ∷ Thirteen ∷ Seventeen ∷ Nineteen ∷ []

abbrev pub prime_in : List Prime → ℕ → Option Prime
prime_in [] n = None
prime_in (p ∷ ps) n = cond (number p == n) (Some p) (prime_in ps n)

abbrev pub told_prime : ℕ → Told Prime
told_prime n = elim (prime_in primes n) [ Some p ↦ told p | None ↦ refused (refusals.Field n) ]

-- a command with a construction that is not built yet
abbrev pub is_unbuilt_command : Command → Bool
is_unbuilt_command (commands.Field n) = false
is_unbuilt_command (commands.Setf name e) = is_unbuilt e
is_unbuilt_command commands.Names = false
is_unbuilt_command (commands.Betti e low high) = is_unbuilt e
is_unbuilt_command (commands.Homology e n) = is_unbuilt e
is_unbuilt_command (commands.Boundary e n c) = is_unbuilt e
is_unbuilt_command (commands.Express e n c) = is_unbuilt e

-- the reply without a fault, and names and field after it
abbrev pub Replied : Type 0
Replied = Reply × State

module _ (s : State) where
  abbrev p : Prime
  p = s.prime

  abbrev pub told_reply : Command → Told Replied
  told_reply (commands.Field n) = told_prime n >> λ q. told (replies.Field q, record { names = s.names; prime = q })
  told_reply (commands.Setf name e) = told_space s.names e >> λ t. told (replies.Defined name, record { names = defined s.names name t; prime = s.prime })
  told_reply commands.Names = told (replies.Names (map (λ n. n.0) s.names), s)
  told_reply (commands.Betti e low high) =
      told_space s.names e >> λ t. told_degree low >> λ m. told_degree high >> λ n.
      told_value p t 0 (dimensions (number p) (space_of t) m n) >> λ ds. told (replies.Betti ds, s)
  told_reply (commands.Homology e n) =
      told_space s.names e >> λ t. told_degree n >> λ m.
      told_value p t m (ask (cycles (space_of t) m)) >> λ zs. told (replies.Homology t (map (printed p t m) zs), s)
  told_reply (commands.Boundary e n c) =
      told_space s.names e >> λ t. told_degree n >> λ m. told_chain p t m c >> λ z.
      told_printed p t m (boundary_of p t m z) >> λ d. told (replies.Boundary t d, s)
  told_reply (commands.Express e n c) =
      told_space s.names e >> λ t. told_degree n >> λ m. told_chain p t m c >> λ y. told_cycle p t m y >> λ z.
      told_value p t m (expressed (number p) (space_of t) m z) >> λ x.
      told_printed p t m x.1 >> λ d. told (replies.Express t (record { prime = p; values = x.0 }) d, s)

  -- a refused line leaves names and field as they were
  abbrev pub replied : Told Replied → Replied
  replied (told r) = r
  replied (refused r) = (replies.Refused r, s)

  -- the reply to a command, and names and field after it
  unfoldable pub answer : Command → Replied
  answer c = cond (is_unbuilt_command c) (replies.Refused refusals.NotBuilt, s) (replied (told_reply c))

  -- the reply to a line: none to a line without a command
  abbrev pub answer_line : Option Command → Replied
  answer_line None = (replies.Empty, s)
  answer_line (Some c) = answer c
