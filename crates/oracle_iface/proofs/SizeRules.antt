-- The sizes of each kind of cell, and the greatest of a list, one item at a time.
use Rattle.std.proofs.Common.{◌≡◌, ℕ, zero, suc, max, List, [], ◌∷◌, length, map, take, refl, sym, ◌∙◌, ap, ℤ, arith, slice_get, Some}
use Rattle.std.specs.Prelude.{nat_abs}
use Rattle.std.proofs.Math.Seq.{take-length}
use Rattle.fp_field.specs.declared.element.Fp.{Fp}
use Rattle.chain_core.specs.Formal.{numbers}
use Rattle.values.specs.Sizes.{greatest}
use Rattle.cells.specs.declared.cells.Cell.{Cell, fold-roll-Cell, roll-Cell, map-Cell}
use Rattle.cells.specs.declared.cells.Cell.TheVariants.{Row, Base, Top, Pair, Up, Ints, Word, rolls-Pair, rolls-Up, rolls-Word, rolls-Row, rolls-Base, rolls-Top, rolls-Ints}
use Rattle.cells.specs.declared.cells.Cell.TheOpen.{Cell-F}
use Rattle.cells.specs.declared.cells.Letter.{Letter, fold-Letter, fold-roll-Letter}
use Rattle.cells.specs.declared.cells.Simplex.{Simplex, fold-Simplex, fold-roll-Simplex}
use Rattle.cells.specs.declared.cells.SmallCell.{SmallCell, fold-roll-SmallCell, roll-SmallCell, map-SmallCell}
use Rattle.cells.specs.declared.cells.SmallCell.TheVariants.{One, Pair as SmallPair, Up as SmallUp, Word as SmallWord, rolls-One, rolls-Pair as rolls-SmallPair, rolls-Up as rolls-SmallUp, rolls-Word as rolls-SmallWord}
use Rattle.cells.specs.declared.cells.SmallCell.TheOpen.{SmallCell-F}
use Rattle.oracle_iface.specs.CodeSizes.{greatest_of, letters_step, integer_step, letter_step, simplex_step, cell_letters, cell_integer, small_letters_step, small_integer_step, small_cell_letters, small_cell_integer}

-- ---- the greatest of a list

pub greatest-map : {A : Type 0} (f : A → ℕ) (xs : List A) → greatest_of (map f xs) ≡ greatest f xs
greatest-map f [] = refl
greatest-map f (x ∷ xs) = ap (max (f x)) (greatest-map f xs)

pub greatest-same : {A : Type 0} (f g : A → ℕ) → ((x : A) → f x ≡ g x) → (xs : List A) → greatest f xs ≡ greatest g xs
greatest-same f g h [] = refl
greatest-same f g h (x ∷ xs) = λ i. max (h x i) (greatest-same f g h xs i)

pub greatest-next : {A : Type 0} (f : A → ℕ) (xs : List A) (i : ℕ) (x : A) → slice_get xs i ≡ Some x → greatest f (take (suc i) xs) ≡ max (greatest f (take i xs)) (f x)
greatest-next f [] i x e = absurd (cc)
greatest-next f (y ∷ ys) zero x e = let g : y ≡ x = cc in let h : f y ≡ f x = ap f g in omega (arith, h)
greatest-next f (y ∷ ys) (suc i) x e = let h : greatest f (take (suc i) ys) ≡ max (greatest f (take i ys)) (f x) = greatest-next f ys i x e in omega (arith, h)

-- ---- cells, for any such step

module _ (step : Cell-F ℕ ℕ ℕ → ℕ) where
  abbrev pub folded : Cell → ℕ
  folded = Rattle.cells.specs.declared.cells.Cell.fold-Cell ℕ ℕ ℕ step letter_step simplex_step

  rolled : (x : Cell-F Cell Letter Simplex) → folded (roll-Cell x)
      ≡ step (map-Cell Cell Letter Simplex ℕ ℕ ℕ folded (fold-Letter ℕ ℕ ℕ step letter_step simplex_step) (fold-Simplex ℕ ℕ ℕ step letter_step simplex_step) x)
  rolled x = fold-roll-Cell ℕ ℕ ℕ step letter_step simplex_step x

  simplex_is : (x : Simplex) → fold-Simplex ℕ ℕ ℕ step letter_step simplex_step x ≡ folded x.cell
  simplex_is x = fold-roll-Simplex ℕ ℕ ℕ step letter_step simplex_step (record { degens = x.degens; cell = x.cell })

  letter_is : (l : Letter) → fold-Letter ℕ ℕ ℕ step letter_step simplex_step l ≡ folded l.simplex.cell
  letter_is l = fold-roll-Letter ℕ ℕ ℕ step letter_step simplex_step (record { inverse = l.inverse; simplex = l.simplex }) ∙ simplex_is l.simplex

  pub at-Row : (d r : ℕ) → folded (Row d r) ≡ step (Cell-F.Row d r)
  at-Row d r = ap folded (sym (rolls-Row d r)) ∙ rolled (Cell-F.Row d r)

  pub at-Base : folded Base ≡ step Cell-F.Base
  at-Base = ap folded (sym rolls-Base) ∙ rolled Cell-F.Base

  pub at-Top : (n : ℕ) → folded (Top n) ≡ step (Cell-F.Top n)
  at-Top n = ap folded (sym (rolls-Top n)) ∙ rolled (Cell-F.Top n)

  pub at-Ints : (list : List ℤ) → folded (Ints list) ≡ step (Cell-F.Ints list)
  at-Ints list = ap folded (sym (rolls-Ints list)) ∙ rolled (Cell-F.Ints list)

  pub at-Pair : (a b : Simplex) → folded (Pair a b) ≡ step (Cell-F.Pair (folded a.cell) (folded b.cell))
  at-Pair a b = ap folded (sym (rolls-Pair a b)) ∙ rolled (Cell-F.Pair a b) ∙ (λ i. step (Cell-F.Pair (simplex_is a i) (simplex_is b i)))

  pub at-Up : (c : Cell) → folded (Up c) ≡ step (Cell-F.Up (folded c))
  at-Up c = ap folded (sym (rolls-Up c)) ∙ rolled (Cell-F.Up c)

  letters_are : (w : List Letter) → map (fold-Letter ℕ ℕ ℕ step letter_step simplex_step) w ≡ map (λ l. folded l.simplex.cell) w
  letters_are [] = refl
  letters_are (l ∷ w) = λ i. letter_is l i ∷ letters_are w i

  pub at-Word : (w : List Letter) → folded (Word w) ≡ step (Cell-F.Word (map (λ l. folded l.simplex.cell) w))
  at-Word w = ap folded (sym (rolls-Word w)) ∙ rolled (Cell-F.Word w) ∙ ap (λ v. step (Cell-F.Word v)) (letters_are w)

length-map : {A B : Type 0} (f : A → B) (xs : List A) → length (map f xs) ≡ length xs
length-map f [] = refl
length-map f (x ∷ xs) = ap suc (length-map f xs)

-- ---- letters

pub letters_row : (d r : ℕ) → cell_letters (Row d r) ≡ 0
unfolding cell_letters
letters_row d r = at-Row letters_step d r

pub letters_base : cell_letters Base ≡ 0
unfolding cell_letters
letters_base = at-Base letters_step

pub letters_top : (n : ℕ) → cell_letters (Top n) ≡ 0
unfolding cell_letters
letters_top n = at-Top letters_step n

pub letters_ints : (list : List ℤ) → cell_letters (Ints list) ≡ 0
unfolding cell_letters
letters_ints list = at-Ints letters_step list

pub letters_pair : (a b : Simplex) → cell_letters (Pair a b) ≡ max (cell_letters a.cell) (cell_letters b.cell)
unfolding cell_letters
letters_pair a b = at-Pair letters_step a b

pub letters_up : (c : Cell) → cell_letters (Up c) ≡ cell_letters c
unfolding cell_letters
letters_up c = at-Up letters_step c

pub letters_word : (w : List Letter) → cell_letters (Word w) ≡ max (length w) (greatest (λ l. cell_letters l.simplex.cell) w)
unfolding cell_letters
letters_word w = at-Word letters_step w ∙ (λ i. max (length-map (λ l. folded letters_step l.simplex.cell) w i) (greatest-map (λ l. folded letters_step l.simplex.cell) w i))

-- ---- integers

pub integer_row : (d r : ℕ) → cell_integer (Row d r) ≡ 0
unfolding cell_integer
integer_row d r = at-Row integer_step d r

pub integer_base : cell_integer Base ≡ 0
unfolding cell_integer
integer_base = at-Base integer_step

pub integer_top : (n : ℕ) → cell_integer (Top n) ≡ 0
unfolding cell_integer
integer_top n = at-Top integer_step n

pub integer_ints : (list : List ℤ) → cell_integer (Ints list) ≡ greatest nat_abs list
unfolding cell_integer
integer_ints list = at-Ints integer_step list

pub integer_pair : (a b : Simplex) → cell_integer (Pair a b) ≡ max (cell_integer a.cell) (cell_integer b.cell)
unfolding cell_integer
integer_pair a b = at-Pair integer_step a b

pub integer_up : (c : Cell) → cell_integer (Up c) ≡ cell_integer c
unfolding cell_integer
integer_up c = at-Up integer_step c

pub integer_word : (w : List Letter) → cell_integer (Word w) ≡ greatest (λ l. cell_integer l.simplex.cell) w
unfolding cell_integer
integer_word w = at-Word integer_step w ∙ greatest-map (λ l. folded integer_step l.simplex.cell) w

-- ---- small cells

small-rolled : (step : SmallCell-F ℕ → ℕ) (x : SmallCell-F SmallCell)
    → Rattle.cells.specs.declared.cells.SmallCell.fold-SmallCell ℕ step (roll-SmallCell x)
    ≡ step (map-SmallCell SmallCell ℕ (Rattle.cells.specs.declared.cells.SmallCell.fold-SmallCell ℕ step) x)
small-rolled step x = fold-roll-SmallCell ℕ step x

pub small_letters_one : (c : Cell) → small_cell_letters (One c) ≡ cell_letters c
unfolding small_cell_letters
small_letters_one c = ap small_cell_letters (sym (rolls-One c)) ∙ small-rolled small_letters_step (SmallCell-F.One c)

pub small_letters_pair : (a b : SmallCell) → small_cell_letters (SmallPair a b) ≡ max (small_cell_letters a) (small_cell_letters b)
unfolding small_cell_letters
small_letters_pair a b = ap small_cell_letters (sym (rolls-SmallPair a b)) ∙ small-rolled small_letters_step (SmallCell-F.Pair a b)

pub small_letters_up : (c : SmallCell) → small_cell_letters (SmallUp c) ≡ small_cell_letters c
unfolding small_cell_letters
small_letters_up c = ap small_cell_letters (sym (rolls-SmallUp c)) ∙ small-rolled small_letters_step (SmallCell-F.Up c)

pub small_letters_word : (w : List SmallCell) → small_cell_letters (SmallWord w) ≡ max (length w) (greatest small_cell_letters w)
unfolding small_cell_letters
small_letters_word w = ap small_cell_letters (sym (rolls-SmallWord w)) ∙ small-rolled small_letters_step (SmallCell-F.Word w)
    ∙ (λ i. max (length-map small_cell_letters w i) (greatest-map small_cell_letters w i))

pub small_integer_one : (c : Cell) → small_cell_integer (One c) ≡ cell_integer c
unfolding small_cell_integer
small_integer_one c = ap small_cell_integer (sym (rolls-One c)) ∙ small-rolled small_integer_step (SmallCell-F.One c)

pub small_integer_pair : (a b : SmallCell) → small_cell_integer (SmallPair a b) ≡ max (small_cell_integer a) (small_cell_integer b)
unfolding small_cell_integer
small_integer_pair a b = ap small_cell_integer (sym (rolls-SmallPair a b)) ∙ small-rolled small_integer_step (SmallCell-F.Pair a b)

pub small_integer_up : (c : SmallCell) → small_cell_integer (SmallUp c) ≡ small_cell_integer c
unfolding small_cell_integer
small_integer_up c = ap small_cell_integer (sym (rolls-SmallUp c)) ∙ small-rolled small_integer_step (SmallCell-F.Up c)

pub small_integer_word : (w : List SmallCell) → small_cell_integer (SmallWord w) ≡ greatest small_cell_integer w
unfolding small_cell_integer
small_integer_word w = ap small_cell_integer (sym (rolls-SmallWord w)) ∙ small-rolled small_integer_step (SmallCell-F.Word w) ∙ greatest-map small_cell_integer w

-- ---- chains of the code

pub greatest_numbers : {K : Type 0} (f : K → ℕ) (ts : List (K × Fp)) → greatest (λ t. f t.0) (numbers ts) ≡ greatest (λ t. f t.0) ts
greatest_numbers f [] = refl
greatest_numbers f (t ∷ ts) = ap (max (f t.0)) (greatest_numbers f ts)

-- the greatest of all items, from that of the items before a place that is the end
pub whole_greatest : {A : Type 0} (f : A → ℕ) (xs : List A) (i m : ℕ) → m ≡ greatest f (take i xs) → i ≡ length xs → m ≡ greatest f xs
whole_greatest f xs i m h e = h ∙ ap (greatest f) (ap (λ n. take n xs) e ∙ take-length xs)
