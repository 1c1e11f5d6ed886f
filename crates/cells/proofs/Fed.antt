-- What each kind of cell and of small cell feeds to a hash function, in the order in which the code writes it.
use Rattle.std.proofs.Common.{◌≡◌, ℕ, cond, List, [], ◌∷◌, ◌++◌, length, map, refl, sym, ◌∙◌, ap, ℤ}
use Rattle.std.specs.Hash.{HashWrites, u8, u64, usize, i64, slice}
use Rattle.std.specs.List.{flat_map}
use Rattle.cells.specs.declared.cells.Cell.{Cell, roll-Cell}
use Rattle.cells.specs.declared.cells.Cell.TheVariants.{Row, Base, Top, Pair, Up, Ints, Word, rolls-Row, rolls-Base, rolls-Top, rolls-Pair, rolls-Up, rolls-Ints, rolls-Word}
use Rattle.cells.specs.declared.cells.Cell.TheOpen.{Cell-F}
use Rattle.cells.specs.declared.cells.Letter.{Letter}
use Rattle.cells.specs.declared.cells.Simplex.{Simplex}
use Rattle.cells.specs.declared.cells.SmallCell.{SmallCell, roll-SmallCell}
use Rattle.cells.specs.declared.cells.SmallCell.TheVariants.{One, rolls-One, Pair as SmallPair, rolls-Pair as rolls-SmallPair, Up as SmallUp, rolls-Up as rolls-SmallUp, Word as SmallWord, rolls-Word as rolls-SmallWord}
use Rattle.cells.specs.declared.cells.SmallCell.TheOpen.{SmallCell-F}
use Rattle.cells.specs.Dim.{dim_of}
use Rattle.cells.specs.Small.{below_each, degree_of_small, small_forest, small_kind_in}
use Rattle.cells.proofs.SmallForms.{small_contents_in, small_headed_in}
use Rattle.cells.specs.Order.{number, ints_forest, letters_forest, kind_in}
use Rattle.cells.specs.Hashes.{cell, within, small, small_within, fed_by, fed_cell, fed_simplex, fed_letter, fed_small}
use Rattle.cells.proofs.Dimensions.{dim-Row, dim-Top}
use Rattle.cells.proofs.Compared.{contents_in, with_forest, headed_in}

join : (us vs ws : HashWrites) → (us ++ vs) ++ ws ≡ us ++ (vs ++ ws)
join [] vs ws = refl
join (u ∷ us) vs ws = ap (λ l. u ∷ l) (join us vs ws)

-- a cell from its kind on
fed-roll : (x : Cell-F Cell Letter Simplex) → fed_cell (roll-Cell x) ≡ fed_by cell (number (dim_of (roll-Cell x)) (number (kind_in x) (contents_in x)))
fed-roll x = ap (fed_by cell) (headed_in x)

pub feeds_row : (d r : ℕ) → fed_cell (Row d r) ≡ u8 0 ++ (u64 d ++ u64 r)
unfolding contents_in
feeds_row d r = ap fed_cell (sym (rolls-Row d r)) ∙ fed-roll (Cell-F.Row d r) ∙ ap (λ n. u8 0 ++ (u64 n ++ u64 r)) (ap dim_of (rolls-Row d r) ∙ dim-Row d r)

pub feeds_base : fed_cell Base ≡ u8 1
unfolding contents_in
feeds_base = ap fed_cell (sym rolls-Base) ∙ fed-roll Cell-F.Base

pub feeds_top : (n : ℕ) → fed_cell (Top n) ≡ u8 2 ++ u64 n
unfolding contents_in
feeds_top n = ap fed_cell (sym (rolls-Top n)) ∙ fed-roll (Cell-F.Top n) ∙ ap (λ m. u8 2 ++ u64 m) (ap dim_of (rolls-Top n) ∙ dim-Top n)

pub feeds_pair : (a b : Simplex) → fed_cell (Pair a b) ≡ u8 3 ++ (fed_simplex a ++ fed_simplex b)
unfolding contents_in
feeds_pair a b =
    ap fed_cell (sym (rolls-Pair a b)) ∙ fed-roll (Cell-F.Pair a b)
    ∙ ap (λ l. u8 3 ++ (u64 a.degens.mask ++ l)) (sym (join (fed_cell a.cell) [] (fed_simplex b)))

pub feeds_up : (c : Cell) → fed_cell (Up c) ≡ u8 4 ++ fed_cell c
unfolding contents_in
feeds_up c = ap fed_cell (sym (rolls-Up c)) ∙ fed-roll (Cell-F.Up c)

each_int : (l : List ℤ) → fed_by within (ints_forest l) ≡ flat_map i64 l
each_int [] = refl
each_int (x ∷ l) = ap (λ w. i64 x ++ w) (each_int l)

pub feeds_ints : (l : List ℤ) → fed_cell (Ints l) ≡ u8 5 ++ slice i64 l
unfolding contents_in
feeds_ints l = ap fed_cell (sym (rolls-Ints l)) ∙ fed-roll (Cell-F.Ints l) ∙ ap (λ w. u8 5 ++ (usize (length l) ++ w)) (each_int l)

each_letter : (w : List Letter) → fed_by within (letters_forest (map with_forest w)) ≡ flat_map fed_letter w
unfolding with_forest
each_letter [] = refl
each_letter (l ∷ w) =
    ap (λ v. u64 (cond l.inverse 1 0) ++ (u64 l.simplex.degens.mask ++ (fed_cell l.simplex.cell ++ v))) (each_letter w)
    ∙ ap (λ v. u64 (cond l.inverse 1 0) ++ (u64 l.simplex.degens.mask ++ v)) (sym (join (fed_cell l.simplex.cell) [] (flat_map fed_letter w)))

pub feeds_word : (w : List Letter) → fed_cell (Word w) ≡ u8 6 ++ (usize (length w) ++ flat_map fed_letter w)
unfolding contents_in
feeds_word w = ap fed_cell (sym (rolls-Word w)) ∙ fed-roll (Cell-F.Word w) ∙ ap (λ v. u8 6 ++ (usize (length w) ++ v)) (each_letter w)

-- ---- small cells

small_fed-roll : (x : SmallCell-F SmallCell) → fed_small (roll-SmallCell x) ≡ fed_by small (number (degree_of_small (roll-SmallCell x)) (number (small_kind_in x) (small_contents_in x)))
small_fed-roll x = ap (fed_by small) (small_headed_in x)

pub feeds_one : (c : Cell) → fed_small (One c) ≡ u8 0 ++ fed_cell c
unfolding small_contents_in
feeds_one c = ap fed_small (sym (rolls-One c)) ∙ small_fed-roll (SmallCell-F.One c)

nothing_behind : (us : HashWrites) → us ++ [] ≡ us
nothing_behind [] = refl
nothing_behind (u ∷ us) = ap (λ l. u ∷ l) (nothing_behind us)

pub feeds_small_pair : (a b : SmallCell) → fed_small (SmallPair a b) ≡ u8 1 ++ (fed_small a ++ fed_small b)
unfolding small_contents_in
feeds_small_pair a b =
    ap fed_small (sym (rolls-SmallPair a b)) ∙ small_fed-roll (SmallCell-F.Pair a b) ∙ ap (λ l. u8 1 ++ (fed_small a ++ l)) (nothing_behind (fed_small b))

pub feeds_small_up : (c : SmallCell) → fed_small (SmallUp c) ≡ u8 2 ++ fed_small c
unfolding small_contents_in
feeds_small_up c = ap fed_small (sym (rolls-SmallUp c)) ∙ small_fed-roll (SmallCell-F.Up c)

each_small : (w : List SmallCell) → fed_by small_within (below_each (map (λ y. (y, small_forest y)) w)) ≡ flat_map fed_small w
each_small [] = refl
each_small (l ∷ w) = ap (λ v. fed_small l ++ v) (each_small w)

pub feeds_small_word : (w : List SmallCell) → fed_small (SmallWord w) ≡ u8 3 ++ flat_map fed_small w
unfolding small_contents_in
feeds_small_word w = ap fed_small (sym (rolls-SmallWord w)) ∙ small_fed-roll (SmallCell-F.Word w) ∙ ap (λ v. u8 3 ++ v) (each_small w)
