-- What the forest of each kind of cell is, and that cells are compared by dimension, kind and then within the kind.
use Rattle.std.proofs.Common.{◌≡◌, ℕ, suc, Bool, true, false, cond, List, [], ◌∷◌, length, map, refl, sym, ◌∙◌, ap, ℤ, pos, true≢false}
use Rattle.std.specs.Ordering.{int_cmp, nat_cmp, bool_cmp, ordering_then, is_ne}
use Rattle.std.specs.Cmp.Lexicographic.{slice_cmp}
use Rattle.std.specs.declared.cmp.Ordering.{Ordering}
use Rattle.std.specs.declared.cmp.Ordering.TheVariants.{Less, Equal, Greater}
use Rattle.cells.specs.declared.cells.Cell.{Cell, para-roll-Cell, roll-Cell, out-Cell, roll-out-Cell, out-roll-Cell, map-Cell}
use Rattle.cells.specs.declared.cells.Cell.TheVariants.{Row, Base, Top, Pair, Up, Ints, Word, rolls-Row, rolls-Base, rolls-Top, rolls-Pair, rolls-Up, rolls-Ints, rolls-Word}
use Rattle.cells.specs.declared.cells.Cell.TheOpen.{Cell-F}
use Rattle.cells.specs.declared.cells.Letter.{Letter, para-Letter, para-roll-Letter}
use Rattle.cells.specs.declared.cells.Simplex.{Simplex, para-Simplex, para-roll-Simplex}
use Rattle.cells.specs.Dim.{dim_of}
use Rattle.cells.specs.Forests.{Forest, end, forest_cmp}
use Rattle.cells.specs.Order.{number, simplex_before, ints_forest, letters_forest, word_dim, forest, forest_step, letter_step, simplex_step, cell_cmp, simplex_cmp, letter_cmp, kind_in, kind_of, kinds_cmp, within, within_cmp}
use Rattle.cells.proofs.EqualForests.{positive}
use Rattle.cells.proofs.Dimensions.{dim-Row, dim-Base, dim-Top, dim-Pair, dim-Up, dim-Ints, dim-Word_none, dim-Word_some}

-- ---- the forest of each kind

of_simplex : Simplex → Forest
of_simplex x = para-Simplex Forest Forest Forest forest_step letter_step simplex_step x

of_letter : Letter → Forest
of_letter l = para-Letter Forest Forest Forest forest_step letter_step simplex_step l

of_simplex-is : (x : Simplex) → of_simplex x ≡ forest x.cell
unfolding of_simplex forest
of_simplex-is x = para-roll-Simplex Forest Forest Forest forest_step letter_step simplex_step (record { degens = x.degens; cell = x.cell })

of_letter-is : (l : Letter) → of_letter l ≡ forest l.simplex.cell
unfolding of_letter of_simplex
of_letter-is l = para-roll-Letter Forest Forest Forest forest_step letter_step simplex_step (record { inverse = l.inverse; simplex = l.simplex }) ∙ of_simplex-is l.simplex

rolled : (x : Cell-F Cell Letter Simplex) → forest (roll-Cell x) ≡ forest_step (map-Cell Cell Letter Simplex (Cell × Forest) (Letter × Forest) (Simplex × Forest) (λ y. (y, forest y)) (λ y. (y, of_letter y)) (λ y. (y, of_simplex y)) x)
unfolding forest of_letter of_simplex
rolled x = para-roll-Cell Forest Forest Forest forest_step letter_step simplex_step x

unfoldable pub with_forest : Letter → Letter × Forest
with_forest l = (l, forest l.simplex.cell)

with_forests : (w : List Letter) → map (λ y. (y, of_letter y)) w ≡ map with_forest w
unfolding with_forest
with_forests [] = refl
with_forests (l ∷ w) = λ i. (l, of_letter-is l i) ∷ with_forests w i

unfoldable pub contents_in : Cell-F Cell Letter Simplex → Forest
contents_in (Cell-F.Row dim row) = number row end
contents_in Cell-F.Base = end
contents_in (Cell-F.Top n) = end
contents_in (Cell-F.Pair a b) = simplex_before a (forest a.cell) (simplex_before b (forest b.cell) end)
contents_in (Cell-F.Up c) = forest c
contents_in (Cell-F.Ints list) = number (length list) (ints_forest list)
contents_in (Cell-F.Word letters) = number (length letters) (letters_forest (map with_forest letters))

-- a cell's dimension, kind and contents
length-map : {A B : Type 0} (f : A → B) (w : List A) → length (map f w) ≡ length w
length-map f [] = refl
length-map f (x ∷ w) = ap suc (length-map f w)

pub headed_in : (x : Cell-F Cell Letter Simplex) → forest (roll-Cell x) ≡ number (dim_of (roll-Cell x)) (number (kind_in x) (contents_in x))
unfolding contents_in with_forest
headed_in (Cell-F.Row dim row) = rolled (Cell-F.Row dim row) ∙ ap (λ n. number n (number 0 (number row end))) (sym (ap dim_of (rolls-Row dim row) ∙ dim-Row dim row))
headed_in Cell-F.Base = rolled Cell-F.Base ∙ ap (λ n. number n (number 1 end)) (sym (ap dim_of rolls-Base ∙ dim-Base))
headed_in (Cell-F.Top m) = rolled (Cell-F.Top m) ∙ ap (λ n. number n (number 2 end)) (sym (ap dim_of (rolls-Top m) ∙ dim-Top m))
headed_in (Cell-F.Pair a b) =
    rolled (Cell-F.Pair a b)
    ∙ (λ i. number (sym (ap dim_of (rolls-Pair a b) ∙ dim-Pair a b) i) (number 3 (simplex_before a (of_simplex-is a i) (simplex_before b (of_simplex-is b i) end))))
headed_in (Cell-F.Up c) = rolled (Cell-F.Up c) ∙ ap (λ n. number n (number 4 (forest c))) (sym (ap dim_of (rolls-Up c) ∙ dim-Up c))
headed_in (Cell-F.Ints list) =
    rolled (Cell-F.Ints list) ∙ ap (λ n. number n (number 5 (number (length list) (ints_forest list)))) (sym (ap dim_of (rolls-Ints list) ∙ dim-Ints list))
headed_in (Cell-F.Word letters) =
    rolled (Cell-F.Word letters)
    ∙ (λ i. number (word_dim (with_forests letters i)) (number 6 (number (length (with_forests letters i)) (letters_forest (with_forests letters i)))))
    ∙ (λ i. number (dims letters i) (number 6 (number (length-map with_forest letters i) (letters_forest (map with_forest letters)))))
    ∙ ap (λ n. number n (number 6 (number (length letters) (letters_forest (map with_forest letters))))) (sym (ap dim_of (rolls-Word letters)))
  where
    dims : (w : List Letter) → word_dim (map with_forest w) ≡ dim_of (Word w)
    dims [] = sym dim-Word_none
    dims (l ∷ w) = sym (dim-Word_some l w)

headed : (c : Cell) → forest c ≡ number (dim_of c) (number (kind_of c) (contents_in (out-Cell c)))
headed c =
    ap forest (sym (roll-out-Cell c)) ∙ headed_in (out-Cell c)
    ∙ ap (λ d. number (dim_of d) (number (kind_of c) (contents_in (out-Cell c)))) (roll-out-Cell c)

-- ---- how what is in two cells of one kind compares

pub alone_then : (o : Ordering) → ordering_then o Equal ≡ o
alone_then Less = refl
alone_then Equal = refl
alone_then Greater = refl

pub then_assoc : (p q r : Ordering) → ordering_then p (ordering_then q r) ≡ ordering_then (ordering_then p q) r
then_assoc Less q r = refl
then_assoc Equal q r = refl
then_assoc Greater q r = refl

-- the forest of a simplex is an item with an end, so an `Equal` stands behind its cell
two_then : (p q r : Ordering) → ordering_then p (ordering_then q r) ≡ ordering_then (ordering_then p (ordering_then q Equal)) r
two_then Less q r = refl
two_then Equal q r = ap (λ o. ordering_then o r) (sym (alone_then q))
two_then Greater q r = refl

three_then : (p q r z : Ordering) → ordering_then p (ordering_then q (ordering_then r z)) ≡ ordering_then (ordering_then p (ordering_then q (ordering_then r Equal))) z
three_then Less q r z = refl
three_then Equal q r z = two_then q r z
three_then Greater q r z = refl

ints_cmp : (a b : List ℤ) → forest_cmp (ints_forest a) (ints_forest b) ≡ slice_cmp int_cmp a b
ints_cmp [] [] = refl
ints_cmp [] (y ∷ b) = refl
ints_cmp (x ∷ a) [] = refl
ints_cmp (x ∷ a) (y ∷ b) = ap (ordering_then (int_cmp x y)) (ints_cmp a b)

letters_cmp : (a b : List Letter) → forest_cmp (letters_forest (map with_forest a)) (letters_forest (map with_forest b)) ≡ slice_cmp letter_cmp a b
unfolding with_forest
letters_cmp [] [] = refl
letters_cmp [] (m ∷ b) = refl
letters_cmp (l ∷ a) [] = refl
letters_cmp (l ∷ a) (m ∷ b) =
    three_then (int_cmp (pos (cond l.inverse 1 0)) (pos (cond m.inverse 1 0))) (int_cmp (pos l.simplex.degens.mask) (pos m.simplex.degens.mask)) (cell_cmp l.simplex.cell m.simplex.cell)
    (forest_cmp (letters_forest (map with_forest a)) (letters_forest (map with_forest b)))
    ∙ ap (ordering_then (letter_cmp l m)) (letters_cmp a b)

-- cells of different kinds are told apart by the kinds
within-is : (y z : Cell-F Cell Letter Simplex) → ordering_then (nat_cmp (kind_in y) (kind_in z)) (forest_cmp (contents_in y) (contents_in z)) ≡ ordering_then (nat_cmp (kind_in y) (kind_in z)) (within y z)
unfolding contents_in
within-is (Cell-F.Row d a) (Cell-F.Row e b) = alone_then (int_cmp (pos a) (pos b)) ∙ positive a b
within-is (Cell-F.Pair a x) (Cell-F.Pair b y) = two_then (int_cmp (pos a.degens.mask) (pos b.degens.mask)) (cell_cmp a.cell b.cell) (simplex_cmp x y)
within-is (Cell-F.Ints a) (Cell-F.Ints b) = λ i. ordering_then (positive (length a) (length b) i) (ints_cmp a b i)
within-is (Cell-F.Word v) (Cell-F.Word w) = λ i. ordering_then (positive (length v) (length w) i) (letters_cmp v w i)
-- one clause of each kind, so that the last one is tried at two kinds
within-is Cell-F.Base Cell-F.Base = refl
within-is (Cell-F.Top m) (Cell-F.Top n) = refl
within-is (Cell-F.Up c) (Cell-F.Up d) = refl
within-is y z = refl

pub cell_cmp-then : (c d : Cell) → cell_cmp c d ≡ ordering_then (kinds_cmp c d) (within_cmp c d)
cell_cmp-then c d =
    (λ i. forest_cmp (headed c i) (headed d i))
    ∙ (λ i. ordering_then (positive (dim_of c) (dim_of d) i) (ordering_then (positive (kind_of c) (kind_of d) i) (forest_cmp (contents_in (out-Cell c)) (contents_in (out-Cell d)))))
    ∙ ap (ordering_then (nat_cmp (dim_of c) (dim_of d))) (within-is (out-Cell c) (out-Cell d))
    ∙ then_assoc (nat_cmp (dim_of c) (dim_of d)) (nat_cmp (kind_of c) (kind_of d)) (within_cmp c d)

pub simplex_cmp-then : (x y : Simplex) → simplex_cmp x y ≡ ordering_then (nat_cmp x.degens.mask y.degens.mask) (cell_cmp x.cell y.cell)
simplex_cmp-then x y = λ i. ordering_then (positive x.degens.mask y.degens.mask i) (alone_then (cell_cmp x.cell y.cell) i)

pub letter_cmp-then : (l m : Letter) → letter_cmp l m ≡ ordering_then (bool_cmp l.inverse m.inverse) (simplex_cmp l.simplex m.simplex)
letter_cmp-then l m = λ i. ordering_then (inverses l.inverse m.inverse i) (simplex_cmp l.simplex m.simplex)
  where
    inverses : (a b : Bool) → int_cmp (pos (cond a 1 0)) (pos (cond b 1 0)) ≡ bool_cmp a b
    inverses true true = refl
    inverses true false = refl
    inverses false true = refl
    inverses false false = refl

-- ---- for the code: what decides, and how what is within cells of one kind compares

pub is_not_equal : (o z : Ordering) → is_ne o ≡ true → o ≡ ordering_then o z
is_not_equal Less z h = refl
is_not_equal Equal z h = absurd (true≢false (sym h))
is_not_equal Greater z h = refl

pub decides : (o z : Ordering) → (o ≡ Equal → ⊥) → o ≡ ordering_then o z
decides Less z h = refl
decides Equal z h = absurd (h refl)
decides Greater z h = refl

pub rows : (d e a b : ℕ) → within_cmp (Row d a) (Row e b) ≡ nat_cmp a b
rows d e a b = λ i. within (opened d a i) (opened e b i)
  where
    opened : (d a : ℕ) → out-Cell (Row d a) ≡ Cell-F.Row d a
    opened d a = ap out-Cell (sym (rolls-Row d a)) ∙ out-roll-Cell (Cell-F.Row d a)

pub bases : within_cmp Base Base ≡ Equal
bases = let opened : out-Cell Base ≡ Cell-F.Base = ap out-Cell (sym rolls-Base) ∙ out-roll-Cell Cell-F.Base in λ i. within (opened i) (opened i)

pub tops : (m n : ℕ) → within_cmp (Top m) (Top n) ≡ Equal
tops m n = λ i. within (opened m i) (opened n i)
  where
    opened : (n : ℕ) → out-Cell (Top n) ≡ Cell-F.Top n
    opened n = ap out-Cell (sym (rolls-Top n)) ∙ out-roll-Cell (Cell-F.Top n)

pub pairs : (a x b y : Simplex) → within_cmp (Pair a x) (Pair b y) ≡ ordering_then (simplex_cmp a b) (simplex_cmp x y)
pairs a x b y = λ i. within (opened a x i) (opened b y i)
  where
    opened : (a x : Simplex) → out-Cell (Pair a x) ≡ Cell-F.Pair a x
    opened a x = ap out-Cell (sym (rolls-Pair a x)) ∙ out-roll-Cell (Cell-F.Pair a x)

pub ups : (c d : Cell) → within_cmp (Up c) (Up d) ≡ cell_cmp c d
ups c d = λ i. within (opened c i) (opened d i)
  where
    opened : (c : Cell) → out-Cell (Up c) ≡ Cell-F.Up c
    opened c = ap out-Cell (sym (rolls-Up c)) ∙ out-roll-Cell (Cell-F.Up c)

pub integers : (a b : List ℤ) → within_cmp (Ints a) (Ints b) ≡ ordering_then (nat_cmp (length a) (length b)) (slice_cmp int_cmp a b)
integers a b = λ i. within (opened a i) (opened b i)
  where
    opened : (a : List ℤ) → out-Cell (Ints a) ≡ Cell-F.Ints a
    opened a = ap out-Cell (sym (rolls-Ints a)) ∙ out-roll-Cell (Cell-F.Ints a)

pub words : (v w : List Letter) → within_cmp (Word v) (Word w) ≡ ordering_then (nat_cmp (length v) (length w)) (slice_cmp letter_cmp v w)
words v w = λ i. within (opened v i) (opened w i)
  where
    opened : (w : List Letter) → out-Cell (Word w) ≡ Cell-F.Word w
    opened w = ap out-Cell (sym (rolls-Word w)) ∙ out-roll-Cell (Cell-F.Word w)
