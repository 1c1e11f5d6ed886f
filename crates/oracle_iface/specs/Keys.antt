-- Keys as questions about the reduction of a space, and the values of the code for answers.
--
-- A key is read as the question of its operation at its place, in the space that its term names, and each question has a key. A key is
-- valid where it is that of its question and the question is valid: its place is a degree, a small cell or a cell of the space, as its
-- operation wants, and the degree is within the bound.
--
--   over F_3, Basis of Sphere(2) in degree 2 is the question for the small cells of degree 2, with the value [One(Top(2))]
use Rattle.std.specs.Prelude.{◌≡◌, List, map}
use Rattle.fp_field.specs.declared.prime.Prime.{Prime}
use Rattle.fp_field.specs.Field.{number}
use Rattle.fp_field.specs.Chains.{Terms}
use Rattle.chain_core.specs.Formal.{Formal}
use Rattle.spaces.specs.Spaces.{Space}
use Rattle.spaces.specs.SmallCells.{Small}
use Rattle.values.specs.Asks.{Ask, basis, small_d, f, g, h, cycles, Answer, Cell as GradedCell}
use Rattle.values.specs.Values.{needs}
use Rattle.values.specs.Ranks.{space_of as space_asked, IsValid}
use Rattle.cells.specs.declared.cells.Cell.{Cell}
use Rattle.cells.specs.declared.cells.SmallCell.{SmallCell}
use Rattle.cells.specs.Dim.{dim_of}
use Rattle.term_lang.specs.Forms.{cell_form}
use Rattle.term_lang.specs.SpaceOf.{space_of}
use Rattle.term_lang.specs.Quote.{quote_cell}
use Rattle.oracle_iface.specs.Terms.{term_of}
use Rattle.oracle_iface.specs.SmallForms.{small_form, quote_small}
use Rattle.oracle_iface.specs.declared.keys.Op.{Op}
use Rattle.oracle_iface.specs.declared.keys.Op.TheVariants.{Basis, SmallD, F, G, H, Cycles}
use Rattle.oracle_iface.specs.declared.keys.Place.{Place}
use Rattle.oracle_iface.specs.declared.keys.Place.TheVariants.{Degree, Small as SmallPlace, Big as BigPlace}
use Rattle.oracle_iface.specs.declared.keys.Key.{Key}
use Rattle.oracle_iface.specs.declared.bodies.Body.{Body}
use Rattle.oracle_iface.specs.declared.bodies.Body.TheVariants.{Cells, Small as SmallBody, Big as BigBody, Many}

-- ---- keys as questions; a key whose place is not of the kind that its operation wants is read as some question

abbrev pub question_at : Op → Place → Space → Ask
question_at Basis (Degree n) a = basis a n
question_at Cycles (Degree n) a = cycles a n
question_at SmallD (SmallPlace y) a = small_d a (small_form y a)
question_at G (SmallPlace y) a = g a (small_form y a)
question_at F (BigPlace x) a = f a (dim_of x) (cell_form x a)
question_at H (BigPlace x) a = h a (dim_of x) (cell_form x a)
question_at o q a = basis a 0

abbrev pub question_of : Key → Ask
question_of k = question_at k.op k.place (space_of k.term)

-- the operation and the place of a question
abbrev pub op_of : Ask → Op
op_of (basis a n) = Basis
op_of (small_d a y) = SmallD
op_of (f a n x) = F
op_of (g a y) = G
op_of (h a n x) = H
op_of (cycles a n) = Cycles

abbrev pub place_of : Ask → Place
place_of (basis a n) = Degree n
place_of (small_d a y) = SmallPlace (quote_small a y)
place_of (f a n x) = BigPlace (quote_cell a n x)
place_of (g a y) = SmallPlace (quote_small a y)
place_of (h a n x) = BigPlace (quote_cell a n x)
place_of (cycles a n) = Degree n

-- the key of a question over a prime
abbrev pub key_of : Prime → Ask → Key
key_of p q = record { op = op_of q; prime = p; place = place_of q; term = term_of (space_asked q) }

-- a key that is that of its question, which is valid
pub record IsValidKey (k : Key) : Type 0 where
  pub question : IsValid (number k.prime) (question_of k)
  pub key_is : k ≡ key_of k.prime (question_of k)

-- what is needed for a key, in the order of evaluation; a question that is asked twice stands there twice
abbrev pub needs_of : Key → List Ask
needs_of k = needs (number k.prime) (question_of k)

-- ---- values of the code for answers: each cell as the code has it, each chain in normal form

abbrev pub quote_chain : (a : Space) → Terms (GradedCell a) → Terms Cell
quote_chain a c = map (λ t. (quote_cell a t.0.0 t.0.1, t.1)) c

abbrev pub quote_small_chain : (a : Space) → Terms (Small a) → Terms SmallCell
quote_small_chain a c = map (λ t. (quote_small a t.0, t.1)) c

-- the small cells of a space in order
abbrev pub quote_basis : (a : Space) → List (Small a) → List SmallCell
quote_basis a ys = map (quote_small a) ys

-- a chain over a prime, as contracts see it
abbrev pub formal : {K : Type 0} → Prime → Terms K → Formal K
formal p c = record { prime = p; terms = c }

abbrev pub quote_body : Prime → (k : Ask) → Answer k → Body
quote_body p (basis a n) ys = Cells (quote_basis a ys)
quote_body p (small_d a y) c = SmallBody (formal p (quote_small_chain a c))
quote_body p (f a n x) c = SmallBody (formal p (quote_small_chain a c))
quote_body p (g a y) c = BigBody (formal p (quote_chain a c))
quote_body p (h a n x) c = BigBody (formal p (quote_chain a c))
quote_body p (cycles a n) zs = Many (map (λ c. formal p (quote_chain a c)) zs)
