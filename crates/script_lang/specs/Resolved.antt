-- What the reading of a text as a simplex of a space comes to.
--
-- A text that means a simplex gives the mask and the cell of its normal form, unless a word in this has more letters or an integer in it is
-- greater than the limits allow (May, Simplicial Objects in Algebraic Topology, chapter I, on the normal form; Kenzo documentation, 1999, on
-- geometric simplices).
--
--   1-0:* gives in degree 2 of the 2-sphere the mask 3 before Base, and 0-1:* gives none; |0|3| gives in degree 2 of K(Z,1) the mask 1
--   before Ints of 3, and so does ^|0|3| in degree 3 of its suspension the mask 2 before Up of Ints of 3; <0:S1,1:S1> gives in degree 2 of
--   the product of two circles the mask 0 before the pair of the mask 1 and the mask 2, each before Top(1)
use Rattle.std.specs.Prelude.{◌≡◌, ℕ, Option, Some, None}
use Rattle.simp_ops.specs.declared.degens.Degens.{Degens}
use Rattle.simp_ops.specs.Words.{compose_words}
use Rattle.simp_ops.specs.Bits.{mask_word}
use Rattle.spaces.specs.Spaces.{Space, Plain}
use Rattle.values.specs.Sizes.{letters, integer}
use Rattle.cells.specs.declared.cells.Cell.{Cell}
use Rattle.cells.specs.declared.cells.Simplex.{Simplex}
use Rattle.term_lang.specs.Belongs.{IsSimplex}
use Rattle.term_lang.specs.Forms.{form}
use Rattle.term_lang.specs.Quote.{degens_of, quote, quote_cell}
use Rattle.normal_forms.specs.Paired.{IsPaired}
use Rattle.oracle_iface.specs.declared.bodies.Kind.{Kind}
use Rattle.oracle_iface.specs.Limits.{kind_past}
use Rattle.script_lang.specs.declared.simplices.SimplexText.{SimplexText}
use Rattle.script_lang.specs.declared.simplices.BodyText.{BodyText, fold-BodyText}
use Rattle.script_lang.specs.declared.resolving.ResolveFault.{ResolveFault}
use Rattle.script_lang.specs.declared.resolving.ResolveFault.TheVariants.{NoSimplex, Over, Memory}
use Rattle.script_lang.specs.Meaning.{BodyMeaning, LetterMeaning, Meaning, body_step, letter_step, simplex_step, meaning, mapped}

-- the first of the limits on letters and integers that a simplex is past
abbrev pub simplex_past : (a : Space) → Plain a → Option (Kind × ℕ)
simplex_past a y = kind_past (record { letters = letters a y; integer = integer a y; terms = 0 })

-- the text means a simplex of degree n within the limits, and this is its normal form
abbrev pub IsRead : SimplexText → Space → ℕ → Simplex → Type 0
IsRead text a n x = (y : Plain a) × (meaning text a n ≡ Some y) × (simplex_past a y ≡ None) × (x ≡ quote a n y)

abbrev pub kind_and_size : Kind → ℕ → Kind × ℕ
kind_and_size kind size = (kind, size)

-- it means none, or one that is past a limit; want of memory says nothing
abbrev pub IsFault : SimplexText → Space → ℕ → ResolveFault → Type 0
IsFault text a n NoSimplex = meaning text a n ≡ None
IsFault text a n (Over kind size) = (y : Plain a) × (meaning text a n ≡ Some y) × (simplex_past a y ≡ Some (kind_and_size kind size))
IsFault text a n Memory = Unit {0}

-- the simplex of degree n that a body means
unfoldable pub body_meaning : BodyText → BodyMeaning
body_meaning body = fold-BodyText BodyMeaning LetterMeaning Meaning body_step letter_step simplex_step body

-- what is found for a text or a body of degree n, from what it means: the simplex of the code whose plain form that is, or none
abbrev pub IsFound : (a : Space) → ℕ → Option (Plain a) → Option Simplex → Type 0
IsFound a n y None = y ≡ None
IsFound a n y (Some x) = (y ≡ Some (form x a)) × IsSimplex a n x

-- the cell of a body that means a non-degenerate simplex of dimension n, as each body of a table or a sphere does
abbrev pub body_cell : BodyText → Space → ℕ → Option Cell
body_cell body a n = mapped (quote_cell a n) (body_meaning body a n)

-- a cell with no degeneracies before it
abbrev pub bare_simplex : Cell → Simplex
bare_simplex c = record { degens = degens_of 0; cell = c }

-- a word before what is found: both words in one before its cell, or none
abbrev pub IsPrefixed : Degens → Option Simplex → Option Simplex → Type 0
IsPrefixed d None y = y ≡ None
IsPrefixed d (Some x) y =
    (z : Simplex) × (y ≡ Some z) × (mask_word z.degens.mask ≡ compose_words (mask_word d.mask) (mask_word x.degens.mask)) × (z.cell ≡ x.cell)

-- the pair of what is found for two parts, or none where one of them is not found
abbrev pub IsJoined : Option Simplex → Option Simplex → Option Simplex → Type 0
IsJoined None y z = z ≡ None
IsJoined (Some x) None z = z ≡ None
IsJoined (Some x) (Some y) z = (w : Simplex) × (z ≡ Some w) × IsPaired x y w
