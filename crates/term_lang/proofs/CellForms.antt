-- The plain form of each kind of cell, and which cells of each kind belong to a space.
use Rattle.std.proofs.Common.{◌≡◌, ℕ, List, [], ◌∷◌, map, refl, sym, ◌∙◌, ap, ℤ}
use Rattle.cells.specs.declared.cells.Cell.{Cell, fold-roll-Cell, para-roll-Cell, roll-Cell, map-Cell}
use Rattle.cells.specs.declared.cells.Cell.TheVariants.{Row, Base, Top, Pair, Up, Ints, Word, rolls-Row, rolls-Base, rolls-Top, rolls-Pair, rolls-Up, rolls-Ints, rolls-Word}
use Rattle.cells.specs.declared.cells.Cell.TheOpen.{Cell-F}
use Rattle.cells.specs.declared.cells.Letter.{Letter, fold-Letter, fold-roll-Letter, para-Letter, para-roll-Letter}
use Rattle.cells.specs.declared.cells.Simplex.{Simplex, fold-Simplex, fold-roll-Simplex, para-Simplex, para-roll-Simplex}
use Rattle.term_lang.specs.Forms.{Form, LetterForm, cell_form, cell_step, letter_step, simplex_step, form, letter_form}
use Rattle.term_lang.specs.Belongs.{Test, is_cell, belongs_step, letter_step as letter_test, simplex_step as simplex_test}

-- ---- forms

of_simplex : Simplex → Form
of_simplex x = fold-Simplex Form LetterForm Form cell_step letter_step simplex_step x

of_letter : Letter → LetterForm
of_letter l = fold-Letter Form LetterForm Form cell_step letter_step simplex_step l

of_simplex-is : (x : Simplex) → of_simplex x ≡ form x
unfolding of_simplex cell_form
of_simplex-is x = fold-roll-Simplex Form LetterForm Form cell_step letter_step simplex_step (record { degens = x.degens; cell = x.cell })

of_letter-is : (l : Letter) → of_letter l ≡ letter_form l
unfolding of_letter of_simplex
of_letter-is l =
    let marked : Form → LetterForm = λ s X. (l.inverse, s X) in
    fold-roll-Letter Form LetterForm Form cell_step letter_step simplex_step (record { inverse = l.inverse; simplex = l.simplex })
    ∙ ap marked (of_simplex-is l.simplex)

rolled : (x : Cell-F Cell Letter Simplex) → cell_form (roll-Cell x) ≡ cell_step (map-Cell Cell Letter Simplex Form LetterForm Form cell_form of_letter of_simplex x)
unfolding cell_form of_letter of_simplex
rolled x = fold-roll-Cell Form LetterForm Form cell_step letter_step simplex_step x

of_letters : (w : List Letter) → map of_letter w ≡ map letter_form w
of_letters [] = refl
of_letters (l ∷ w) = λ i. of_letter-is l i ∷ of_letters w i

pub form-Row : (dim row : ℕ) → cell_form (Row dim row) ≡ cell_step (Cell-F.Row dim row)
form-Row dim row = ap cell_form (sym (rolls-Row dim row)) ∙ rolled (Cell-F.Row dim row)

pub form-Base : cell_form Base ≡ cell_step Cell-F.Base
form-Base = ap cell_form (sym rolls-Base) ∙ rolled Cell-F.Base

pub form-Top : (n : ℕ) → cell_form (Top n) ≡ cell_step (Cell-F.Top n)
form-Top n = ap cell_form (sym (rolls-Top n)) ∙ rolled (Cell-F.Top n)

pub form-Pair : (x y : Simplex) → cell_form (Pair x y) ≡ cell_step (Cell-F.Pair (form x) (form y))
form-Pair x y = ap cell_form (sym (rolls-Pair x y)) ∙ rolled (Cell-F.Pair x y) ∙ (λ i. cell_step (Cell-F.Pair (of_simplex-is x i) (of_simplex-is y i)))

pub form-Up : (c : Cell) → cell_form (Up c) ≡ cell_step (Cell-F.Up (cell_form c))
form-Up c = ap cell_form (sym (rolls-Up c)) ∙ rolled (Cell-F.Up c)

pub form-Ints : (list : List ℤ) → cell_form (Ints list) ≡ cell_step (Cell-F.Ints list)
form-Ints list = ap cell_form (sym (rolls-Ints list)) ∙ rolled (Cell-F.Ints list)

pub form-Word : (w : List Letter) → cell_form (Word w) ≡ cell_step (Cell-F.Word (map letter_form w))
form-Word w = ap cell_form (sym (rolls-Word w)) ∙ rolled (Cell-F.Word w) ∙ ap (λ v. cell_step (Cell-F.Word v)) (of_letters w)

-- ---- tests

test_simplex : Simplex → Test
test_simplex x = para-Simplex Test Test Test belongs_step letter_test simplex_test x

test_letter : Letter → Test
test_letter l = para-Letter Test Test Test belongs_step letter_test simplex_test l

test_simplex-is : (x : Simplex) → test_simplex x ≡ is_cell x.cell
unfolding test_simplex is_cell
test_simplex-is x = para-roll-Simplex Test Test Test belongs_step letter_test simplex_test (record { degens = x.degens; cell = x.cell })

test_letter-is : (l : Letter) → test_letter l ≡ is_cell l.simplex.cell
unfolding test_letter test_simplex
test_letter-is l =
    para-roll-Letter Test Test Test belongs_step letter_test simplex_test (record { inverse = l.inverse; simplex = l.simplex }) ∙ test_simplex-is l.simplex

rolled_test : (x : Cell-F Cell Letter Simplex) → is_cell (roll-Cell x)
    ≡ belongs_step (map-Cell Cell Letter Simplex (Cell × Test) (Letter × Test) (Simplex × Test) (λ c. (c, is_cell c)) (λ l. (l, test_letter l)) (λ x. (x, test_simplex x)) x)
unfolding is_cell test_letter test_simplex
rolled_test x = para-roll-Cell Test Test Test belongs_step letter_test simplex_test x

abbrev pub with_test : Letter → Letter × Test
with_test l = (l, is_cell l.simplex.cell)

with_tests : (w : List Letter) → map (λ l. (l, test_letter l)) w ≡ map with_test w
with_tests [] = refl
with_tests (l ∷ w) = λ i. (l, test_letter-is l i) ∷ with_tests w i

-- one layer of a cell whose parts come with their tests
unfoldable pub tested : Cell-F Cell Letter Simplex → Test
tested (Cell-F.Row dim row) = belongs_step (Cell-F.Row dim row)
tested Cell-F.Base = belongs_step Cell-F.Base
tested (Cell-F.Top n) = belongs_step (Cell-F.Top n)
tested (Cell-F.Pair x y) = belongs_step (Cell-F.Pair (x, is_cell x.cell) (y, is_cell y.cell))
tested (Cell-F.Up c) = belongs_step (Cell-F.Up (c, is_cell c))
tested (Cell-F.Ints list) = belongs_step (Cell-F.Ints list)
tested (Cell-F.Word w) = belongs_step (Cell-F.Word (map with_test w))

pub is_cell-roll : (x : Cell-F Cell Letter Simplex) → is_cell (roll-Cell x) ≡ tested x
unfolding tested
is_cell-roll (Cell-F.Row dim row) = rolled_test (Cell-F.Row dim row)
is_cell-roll Cell-F.Base = rolled_test Cell-F.Base
is_cell-roll (Cell-F.Top n) = rolled_test (Cell-F.Top n)
is_cell-roll (Cell-F.Pair x y) = rolled_test (Cell-F.Pair x y) ∙ (λ i. belongs_step (Cell-F.Pair (x, test_simplex-is x i) (y, test_simplex-is y i)))
is_cell-roll (Cell-F.Up c) = rolled_test (Cell-F.Up c)
is_cell-roll (Cell-F.Ints list) = rolled_test (Cell-F.Ints list)
is_cell-roll (Cell-F.Word w) = rolled_test (Cell-F.Word w) ∙ ap (λ v. belongs_step (Cell-F.Word v)) (with_tests w)

pub is_cell-Row : (dim row : ℕ) → is_cell (Row dim row) ≡ belongs_step (Cell-F.Row dim row)
unfolding tested
is_cell-Row dim row = ap is_cell (sym (rolls-Row dim row)) ∙ is_cell-roll (Cell-F.Row dim row)

pub is_cell-Base : is_cell Base ≡ belongs_step Cell-F.Base
unfolding tested
is_cell-Base = ap is_cell (sym rolls-Base) ∙ is_cell-roll Cell-F.Base

pub is_cell-Top : (n : ℕ) → is_cell (Top n) ≡ belongs_step (Cell-F.Top n)
unfolding tested
is_cell-Top n = ap is_cell (sym (rolls-Top n)) ∙ is_cell-roll (Cell-F.Top n)

pub is_cell-Pair : (x y : Simplex) → is_cell (Pair x y) ≡ belongs_step (Cell-F.Pair (x, is_cell x.cell) (y, is_cell y.cell))
unfolding tested
is_cell-Pair x y = ap is_cell (sym (rolls-Pair x y)) ∙ is_cell-roll (Cell-F.Pair x y)

pub is_cell-Up : (c : Cell) → is_cell (Up c) ≡ belongs_step (Cell-F.Up (c, is_cell c))
unfolding tested
is_cell-Up c = ap is_cell (sym (rolls-Up c)) ∙ is_cell-roll (Cell-F.Up c)

pub is_cell-Ints : (list : List ℤ) → is_cell (Ints list) ≡ belongs_step (Cell-F.Ints list)
unfolding tested
is_cell-Ints list = ap is_cell (sym (rolls-Ints list)) ∙ is_cell-roll (Cell-F.Ints list)

pub is_cell-Word : (w : List Letter) → is_cell (Word w) ≡ belongs_step (Cell-F.Word (map with_test w))
unfolding tested
is_cell-Word w = ap is_cell (sym (rolls-Word w)) ∙ is_cell-roll (Cell-F.Word w)
