-- The text of a reply.
--
-- Each line ends with a line feed, and a line without a command has no reply. Numbers and names after a word have one space before them.
--
--   the text of the two cycles of the product of two circles in degree 1, over any field, has the three lines
--     homology 2
--     (1 <0:*,S1>)
--     (1 <S1,0:*>)
use Rattle.std.specs.Prelude.{ℕ, ◌++◌, List, [], length, codes}
use Rattle.std.specs.List.{flat_map}
use Rattle.std.specs.Fmt.{decimal, signed_decimal}
use Rattle.fp_field.specs.Field.{number}
use Rattle.cells.specs.declared.cells.Cell.{Cell}
use Rattle.term_lang.specs.SpaceOf.{space_of}
use Rattle.oracle_iface.specs.declared.bodies.Kind.{Kind}
use Rattle.oracle_iface.specs.declared.bodies.Kind.TheVariants.{Letters, Integer, Terms}
use Rattle.chain_core.specs.Formal.{Formal}
use Rattle.spaces.specs.Spaces.{Space}
use Rattle.reply_text.specs.declared.refusals.Refusal.{Refusal}
use Rattle.reply_text.specs.declared.refusals.Refusal.TheVariants.{Syntax, NotBuilt, UnknownName, Field as NoField, NoVertex, BadDimension, UnknownCell, FaceLaw, TooManyCells, DuplicateCell, CocycleUnknown, CocycleRepeated, NotClosed, TooDeep, NotOneVertex, NotOneReduced, BaseNotTable, BadSphere, Degree, Simplex as NoSimplex, NotCycle, Over}
use Rattle.reply_text.specs.declared.replies.Reply.{Reply}
use Rattle.reply_text.specs.declared.replies.Reply.TheVariants.{Empty, Field, Defined, Names, Betti, Homology, Boundary, Express, Refused}
use Rattle.reply_text.specs.CellText.{chain_text, term_text}

-- each name, and each number, with a space before it
abbrev pub names_text : List (List ℕ) → List ℕ
names_text names = flat_map (λ n. codes " " ++ n) names

abbrev pub numbers_text : List ℕ → List ℕ
numbers_text numbers = flat_map (λ n. codes " " ++ decimal n) numbers

abbrev pub kind_text : Kind → List ℕ
kind_text Letters = codes "letters "
kind_text Integer = codes "integer "
kind_text Terms = codes "terms "

-- ---- refusals, after the word `error`

abbrev pub refusal_text : Refusal → List ℕ
refusal_text Syntax = codes "syntax"
refusal_text NotBuilt = codes "not-built"
refusal_text (UnknownName name) = codes "unknown-name " ++ name
refusal_text (NoField n) = codes "field " ++ decimal n
refusal_text NoVertex = codes "table no-vertex"
refusal_text (BadDimension r) = codes "table bad-dimension " ++ decimal r
refusal_text (UnknownCell r i) = codes "table unknown-cell " ++ (decimal r ++ (codes " " ++ decimal i))
refusal_text (FaceLaw r i j) = codes "table face-law " ++ (decimal r ++ (codes " " ++ (decimal i ++ (codes " " ++ decimal j))))
refusal_text (TooManyCells n) = codes "table too-many-cells " ++ decimal n
refusal_text (DuplicateCell r) = codes "table duplicate-cell " ++ decimal r
refusal_text (CocycleUnknown k) = codes "cocycle unknown-cell " ++ decimal k
refusal_text (CocycleRepeated k) = codes "cocycle repeated-cell " ++ decimal k
refusal_text (NotClosed r sum) = codes "cocycle not-closed " ++ (decimal r ++ (codes " " ++ signed_decimal sum))
refusal_text (TooDeep d) = codes "term too-deep " ++ decimal d
refusal_text (NotOneVertex c) = codes "term not-one-vertex " ++ decimal c
refusal_text (NotOneReduced l) = codes "term not-one-reduced " ++ decimal l
refusal_text BaseNotTable = codes "term base-not-table"
refusal_text (BadSphere n) = codes "term bad-sphere " ++ decimal n
refusal_text (Degree n) = codes "degree " ++ decimal n
refusal_text (NoSimplex k) = codes "simplex " ++ decimal k
refusal_text (NotCycle t c x) = codes "not-a-cycle " ++ term_text (space_of t) x c.value
refusal_text (Over key kind size) = codes "over " ++ (kind_text kind ++ decimal size)

-- ---- replies

-- a cycle in each line
abbrev pub cycles_text : Space → List (Formal Cell) → List ℕ
cycles_text X zs = flat_map (λ z. chain_text X z.terms ++ codes "\n") zs

-- the word `chain` and a chain
abbrev pub chain_line : Space → Formal Cell → List ℕ
chain_line X c = codes "chain " ++ (chain_text X c.terms ++ codes "\n")

unfoldable pub text : Reply → List ℕ
text Empty = []
text (Field p) = codes "field " ++ (decimal (number p) ++ codes "\n")
text (Defined name) = codes "defined " ++ (name ++ codes "\n")
text (Names names) = codes "names" ++ (names_text names ++ codes "\n")
text (Betti dims) = codes "betti" ++ (numbers_text dims ++ codes "\n")
text (Homology t zs) = codes "homology " ++ (decimal (length zs) ++ (codes "\n" ++ cycles_text (space_of t) zs))
text (Boundary t c) = chain_line (space_of t) c
text (Express t row w) = codes "coefficients" ++ (numbers_text row.values ++ (codes "\n" ++ chain_line (space_of t) w))
text (Refused r) = codes "error " ++ (refusal_text r ++ codes "\n")
