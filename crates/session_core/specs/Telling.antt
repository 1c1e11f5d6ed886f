-- What the parts of the code answer, against what is told.
--
--   a degree of 17 is refused by `Degree(17)`, as `told_degree 17` is
use Rattle.std.specs.Prelude.{◌≡◌, ℕ, Bool, true, false, List, map, [], ◌∷◌, ◌++◌, Some, None}
use Rattle.fp_field.specs.declared.prime.Prime.{Prime}
use Rattle.fp_field.specs.declared.element.Fp.{Fp}
use Rattle.fp_field.specs.Chains.{Terms, EachKey}
use Rattle.chain_core.specs.Formal.{Formal, numbers}
use Rattle.cells.specs.declared.cells.Cell.{Cell}
use Rattle.spaces.specs.Spaces.{Space}
use Rattle.values.specs.Asks.{ask, cycles, Cell as GradedCell}
use Rattle.space_faces.specs.Boundaries.{IsBounded}
use Rattle.oracle_iface.specs.Keys.{quote_chain, formal}
use Rattle.oracle_iface.specs.KeyLaws.{IsShown}
use Rattle.oracle_iface.specs.CodeSizes.{terms_size}
use Rattle.oracle_iface.specs.Limits.{kind_past}
use Rattle.oracle_iface.specs.declared.bodies.Body.{Body}
use Rattle.oracle_iface.specs.declared.bodies.Body.TheVariants as bodies
use Rattle.term_lang.specs.declared.terms.Term.{Term}
use Rattle.term_lang.specs.SpaceOf.{space_of}
use Rattle.oracle_iface.specs.declared.bodies.Over.{Over}
use Rattle.oracle_iface.specs.declared.keys.Key.{Key}
use Rattle.oracle_iface.specs.declared.keys.Op.TheVariants.{Cycles}
use Rattle.oracle_iface.specs.declared.keys.Place.TheVariants.{Degree}
use Rattle.reply_text.specs.declared.replies.Reply.{Reply}
use Rattle.reply_text.specs.declared.replies.Reply.TheVariants as replies
use Rattle.reply_text.specs.declared.refusals.Refusal.{Refusal}
use Rattle.reply_text.specs.declared.refusals.Refusal.TheVariants as refusals
use Rattle.session_core.specs.declared.answered.Answered.{Answered}
use Rattle.session_core.specs.declared.answered.Answered.TheVariants as answers
use Rattle.session_core.specs.declared.stops.Stop.{Stop}
use Rattle.session_core.specs.declared.stops.Stop.TheVariants as stops
use Rattle.session_core.specs.Answer.{Told, told, refused, ◌>>◌, told_value, printed}
use Rattle.session_core.specs.Questions.{dimensions}
use Rattle.fp_field.specs.Field.{number}

-- a part that stops stops with the refusal that is told, unless memory ran out
abbrev pub Stops : {A : Type 0} → Stop → Told A → Type 0
Stops (stops.Refused r) m = m ≡ refused r
Stops stops.Memory m = Unit {0}

-- a chain of the code stands for this chain of cells, each of a degree that the code reaches and with integers that it adds
pub record StandsFor (p : Prime) (X : Space) (c : Formal Cell) (z : Terms (GradedCell X)) : Type 0 where
  pub is : c ≡ formal p (quote_chain X z)
  pub shown : EachKey (IsShown X) z
  pub bounded : EachKey (IsBounded X) z

-- a chain of the code stands for the chain that is told
abbrev pub IsToldChain : (p : Prime) (X : Space) → Told (Terms (GradedCell X)) → Formal Cell → Type 0
IsToldChain p X m c = (z : Terms (GradedCell X)) × (m ≡ told z) × StandsFor p X c z

-- the terms that are told were pushed
pub record ArePushed (X : Space) (m : Told (Terms (GradedCell X))) (old new : List (Cell × Fp)) : Type 0 where
  pub terms : Terms (GradedCell X)
  pub told_are : m ≡ told terms
  pub pushed : numbers new ≡ numbers old ++ quote_chain X terms
  pub shown : EachKey (IsShown X) terms
  pub bounded : EachKey (IsBounded X) terms

-- a chain of the code that is to be printed, unless it is past a limit
abbrev pub within_limits : Formal Cell → Told (Formal Cell)
within_limits c = elim (kind_past (terms_size c.terms)) [ Some past ↦ refused (refusals.Over None past.0 past.1) | None ↦ told c ]

-- a chain whose boundary has these terms, as a cycle
abbrev pub no_cycle : Term → Terms Cell → Told (Unit {0})
no_cycle t [] = told tt
no_cycle t (u ∷ d) = refused (refusals.NotCycle t (record { value = u.1 }) u.0)

-- whether a value is a chain of the space
abbrev pub is_big : Body → Bool
is_big (bodies.Cells ys) = false
is_big (bodies.Small c) = false
is_big (bodies.Big c) = true
is_big (bodies.Many zs) = false

-- the listed cycles of a degree, as they are printed
abbrev pub told_cycles : Prime → Term → ℕ → Told (List (Formal Cell))
told_cycles p t n = told_value p t n (ask (cycles (space_of t) n)) >> λ zs. told (map (printed p t n) zs)

-- the refusal of a line by a key past a limit
abbrev pub refused_by : Over → Refusal
refused_by w = refusals.Over (Some w.key) w.kind w.size

-- the reply with the listed cycles
abbrev pub told_homology : Prime → Term → ℕ → Told Reply
told_homology p t n = told_cycles p t n >> λ zs. told (replies.Homology t zs)

-- the key of the listed cycles of a degree
abbrev pub cycles_key : Prime → Term → ℕ → Key
cycles_key p t n = record { op = Cycles; prime = p; place = Degree n; term = t }

-- whether a value is a list of chains
abbrev pub is_many : Body → Bool
is_many (bodies.Cells ys) = false
is_many (bodies.Small c) = false
is_many (bodies.Big c) = false
is_many (bodies.Many zs) = true

-- what comes of a question by asking: what it is told as
abbrev pub Comes : {A : Type 0} → Told A → Answered A → Type 0
Comes m (answers.Told a) = m ≡ told a
Comes m (answers.Over w) = m ≡ refused (refused_by w)

-- the reply with the dimensions of homology
abbrev pub told_betti : Prime → Term → ℕ → ℕ → Told Reply
told_betti p t low high = told_value p t 0 (dimensions (number p) (space_of t) low high) >> λ ds. told (replies.Betti ds)

-- the same, where what is told is told in the words of the code
abbrev pub ComesTo : {A X : Type 0} → (A → X → Type 0) → Told A → Answered X → Type 0
ComesTo {A} Stands m (answers.Told x) = (a : A) × (m ≡ told a) × Stands a x
ComesTo Stands m (answers.Over w) = m ≡ refused (refused_by w)
