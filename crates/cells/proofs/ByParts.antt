-- Cells of one kind compare by their parts, with no dimension counted: where parts of other dimensions come first in the order of the
-- parts, the dimensions of the wholes say nothing more.
use Rattle.std.proofs.Common.{◌≡◌, ℕ, suc, ◌+◌, ◌-◌, ◌≤◌, ◌<◌, count_ones, Bool, true, false, List, [], ◌∷◌, length, slice_get, Some, refl, sym, ◌∙◌, ap, true≢false, ℤ, arith}
use Rattle.std.proofs.lemmas.Bool.Decides.{nat_tests}
use Rattle.std.proofs.lemmas.Cmp.{ranked}
use Rattle.std.specs.Ordering.{nat_cmp, int_cmp, bool_cmp, ordering_then, MatchOrdering, is_lt, is_gt}
use Rattle.std.specs.Cmp.Lexicographic.{slice_cmp}
use Rattle.std.specs.declared.cmp.Ordering.{Ordering}
use Rattle.std.specs.declared.cmp.Ordering.TheVariants.{Less, Equal, Greater}
use Rattle.cells.specs.declared.cells.Cell.{Cell, roll-Cell, out-Cell, roll-out-Cell, out-roll-Cell}
use Rattle.cells.specs.declared.cells.Cell.TheVariants.{Row, Base, Top, Pair, Up, Ints, Word, rolls-Row, rolls-Base, rolls-Top, rolls-Pair, rolls-Up, rolls-Ints, rolls-Word}
use Rattle.cells.specs.declared.cells.Cell.TheOpen.{Cell-F}
use Rattle.cells.specs.declared.cells.Letter.{Letter}
use Rattle.cells.specs.declared.cells.Simplex.{Simplex}
use Rattle.cells.specs.Dim.{dim_of, degree_of, capped}
use Rattle.cells.specs.Order.{cell_cmp, simplex_cmp, letter_cmp, kind_in, kind_of, kinds_cmp, within_cmp}
use Rattle.cells.proofs.Dimensions.{dim-Row, dim-Base, dim-Top, dim-Pair, dim-Up, dim-Ints, dim-Word_some}
use Rattle.cells.proofs.Compared.{alone_then, then_assoc, decides, cell_cmp-then, simplex_cmp-then, letter_cmp-then, rows, bases, tops, pairs, ups, integers, words}

-- ---- a number that does not tell apart what another one puts in another order

pub idle_number : (p q m n : ℕ) (o : Ordering) → (m ≤ n → p ≤ q) → (n ≤ m → q ≤ p) → ordering_then (nat_cmp p q) (ordering_then (nat_cmp m n) o) ≡ ordering_then (nat_cmp m n) o
idle_number p q m n o up down = by_answer (nat_cmp p q) (nat_cmp m n) (ranked p q (nat_cmp p q) refl) (ranked m n (nat_cmp m n) refl)
  where
    by_answer : (a b : Ordering) → MatchOrdering a (p < q) (p ≡ q) (q < p) → MatchOrdering b (m < n) (m ≡ n) (n < m) → ordering_then a (ordering_then b o) ≡ ordering_then b o
    by_answer Less Less r s = refl
    by_answer Less Equal r s = let h : q ≤ p = down (omega (arith, s)) in absurd (omega (arith, r, h))
    by_answer Less Greater r s = let h : q ≤ p = down (omega (arith, s)) in absurd (omega (arith, r, h))
    by_answer Equal b r s = refl
    by_answer Greater Less r s = let h : p ≤ q = up (omega (arith, s)) in absurd (omega (arith, r, h))
    by_answer Greater Equal r s = let h : p ≤ q = up (omega (arith, s)) in absurd (omega (arith, r, h))
    by_answer Greater Greater r s = refl

-- o is decided by the order of m and n first
pub idle : (p q m n : ℕ) (o z r : Ordering) → (m ≤ n → p ≤ q) → (n ≤ m → q ≤ p) → o ≡ ordering_then (nat_cmp m n) z → ordering_then (nat_cmp p q) (ordering_then o r) ≡ ordering_then o r
idle p q m n o z r up down e =
    let f : ordering_then o r ≡ ordering_then (nat_cmp m n) (ordering_then z r) = ap (λ u. ordering_then u r) e ∙ sym (then_assoc (nat_cmp m n) z r) in
    ap (ordering_then (nat_cmp p q)) f ∙ idle_number p q m n (ordering_then z r) up down ∙ sym f

pub nat_cmp-same : (m n : ℕ) → m ≡ n → nat_cmp m n ≡ Equal
nat_cmp-same m n e = grind (arith, nat_tests, e)

-- ---- cells

-- the dimensions, then the kinds, then what is within
expanded : (c d : Cell) → cell_cmp c d ≡ ordering_then (nat_cmp (dim_of c) (dim_of d)) (ordering_then (nat_cmp (kind_of c) (kind_of d)) (within_cmp c d))
expanded c d = cell_cmp-then c d ∙ sym (then_assoc (nat_cmp (dim_of c) (dim_of d)) (nat_cmp (kind_of c) (kind_of d)) (within_cmp c d))

pub idle_cells : (p q : ℕ) (c d : Cell) (r : Ordering) → (dim_of c ≤ dim_of d → p ≤ q) → (dim_of d ≤ dim_of c → q ≤ p) → ordering_then (nat_cmp p q) (ordering_then (cell_cmp c d) r) ≡ ordering_then (cell_cmp c d) r
idle_cells p q c d r up down = idle p q (dim_of c) (dim_of d) (cell_cmp c d) _ r up down (expanded c d)

one_kind : (c d : Cell) (k p q : ℕ) (z : Ordering) → kind_of c ≡ k → kind_of d ≡ k → dim_of c ≡ p → dim_of d ≡ q → within_cmp c d ≡ z → cell_cmp c d ≡ ordering_then (nat_cmp p q) z
one_kind c d k p q z e f g h w =
    expanded c d ∙ (λ i. ordering_then (nat_cmp (g i) (h i)) (ordering_then (nat_cmp (e i) (f i)) (w i)))
    ∙ ap (λ o. ordering_then (nat_cmp p q) (ordering_then o z)) (nat_cmp-same k k refl)

kind-roll : (x : Cell-F Cell Letter Simplex) → kind_of (roll-Cell x) ≡ kind_in x
kind-roll x = ap kind_in (out-roll-Cell x)

pub by_rows : (d e a b : ℕ) → cell_cmp (Row d a) (Row e b) ≡ ordering_then (nat_cmp d e) (nat_cmp a b)
by_rows d e a b = one_kind (Row d a) (Row e b) 0 d e (nat_cmp a b) (kind d a) (kind e b) (dim-Row d a) (dim-Row e b) (rows d e a b)
  where
    kind : (d a : ℕ) → kind_of (Row d a) ≡ 0
    kind d a = ap kind_of (sym (rolls-Row d a)) ∙ kind-roll (Cell-F.Row d a)

pub by_bases : cell_cmp Base Base ≡ Equal
by_bases = let kind : kind_of Base ≡ 1 = ap kind_of (sym rolls-Base) ∙ kind-roll Cell-F.Base in one_kind Base Base 1 0 0 Equal kind kind dim-Base dim-Base bases

pub by_tops : (m n : ℕ) → cell_cmp (Top m) (Top n) ≡ nat_cmp m n
by_tops m n = one_kind (Top m) (Top n) 2 m n Equal (kind m) (kind n) (dim-Top m) (dim-Top n) (tops m n) ∙ alone_then (nat_cmp m n)
  where
    kind : (n : ℕ) → kind_of (Top n) ≡ 2
    kind n = ap kind_of (sym (rolls-Top n)) ∙ kind-roll (Cell-F.Top n)

pub by_pairs : (a x b y : Simplex) → cell_cmp (Pair a x) (Pair b y) ≡ ordering_then (ordering_then (nat_cmp (degree_of a) (degree_of b)) (simplex_cmp a b)) (simplex_cmp x y)
by_pairs a x b y =
    one_kind (Pair a x) (Pair b y) 3 (degree_of a) (degree_of b) _ (kind a x) (kind b y) (dim-Pair a x) (dim-Pair b y) (pairs a x b y)
    ∙ then_assoc (nat_cmp (degree_of a) (degree_of b)) (simplex_cmp a b) (simplex_cmp x y)
  where
    kind : (a x : Simplex) → kind_of (Pair a x) ≡ 3
    kind a x = ap kind_of (sym (rolls-Pair a x)) ∙ kind-roll (Cell-F.Pair a x)

pub by_ups : (c d : Cell) → cell_cmp (Up c) (Up d) ≡ cell_cmp c d
by_ups c d =
    one_kind (Up c) (Up d) 4 _ _ _ (kind c) (kind d) (dim-Up c) (dim-Up d) (ups c d)
    ∙ ap (ordering_then (nat_cmp (capped (dim_of c + 1)) (capped (dim_of d + 1)))) (sym (alone_then (cell_cmp c d)))
    ∙ idle_cells (capped (dim_of c + 1)) (capped (dim_of d + 1)) c d Equal (λ h. omega (arith, h)) (λ h. omega (arith, h))
    ∙ alone_then (cell_cmp c d)
  where
    kind : (c : Cell) → kind_of (Up c) ≡ 4
    kind c = ap kind_of (sym (rolls-Up c)) ∙ kind-roll (Cell-F.Up c)

pub by_ints : (a b : List ℤ) → cell_cmp (Ints a) (Ints b) ≡ ordering_then (nat_cmp (length a) (length b)) (slice_cmp int_cmp a b)
by_ints a b =
    one_kind (Ints a) (Ints b) 5 _ _ _ (kind a) (kind b) (dim-Ints a) (dim-Ints b) (integers a b)
    ∙ idle_number (capped (length a)) (capped (length b)) (length a) (length b) (slice_cmp int_cmp a b) (λ h. omega (arith, h)) (λ h. omega (arith, h))
  where
    kind : (a : List ℤ) → kind_of (Ints a) ≡ 5
    kind a = ap kind_of (sym (rolls-Ints a)) ∙ kind-roll (Cell-F.Ints a)

pub by_words : (v w : List Letter) → cell_cmp (Word v) (Word w) ≡ ordering_then (nat_cmp (dim_of (Word v)) (dim_of (Word w))) (ordering_then (nat_cmp (length v) (length w)) (slice_cmp letter_cmp v w))
by_words v w = one_kind (Word v) (Word w) 6 _ _ _ (kind v) (kind w) refl refl (words v w)
  where
    kind : (w : List Letter) → kind_of (Word w) ≡ 6
    kind w = ap kind_of (sym (rolls-Word w)) ∙ kind-roll (Cell-F.Word w)

-- ---- simplices by degree first

pub one_mask : (a b : Simplex) → a.degens.mask ≡ b.degens.mask → cell_cmp a.cell b.cell ≡ ordering_then (nat_cmp (degree_of a) (degree_of b)) (simplex_cmp a b)
one_mask a b e =
    let same : simplex_cmp a b ≡ ordering_then (cell_cmp a.cell b.cell) Equal = simplex_cmp-then a b ∙ ap (λ o. ordering_then o (cell_cmp a.cell b.cell)) (nat_cmp-same _ _ e) ∙ sym (alone_then (cell_cmp a.cell b.cell)) in
    let f : count_ones a.degens.mask ≡ count_ones b.degens.mask = ap count_ones e in
    sym (ap (ordering_then (nat_cmp (degree_of a) (degree_of b))) same
    ∙ idle_cells (degree_of a) (degree_of b) a.cell b.cell Equal (λ h. omega (arith, h, f)) (λ h. omega (arith, h, f))
    ∙ alone_then (cell_cmp a.cell b.cell))

pub nat_cmp-is : (m n : ℕ) → nat_cmp m n ≡ Equal → m ≡ n
nat_cmp-is m n h = let r : MatchOrdering (nat_cmp m n) (m < n) (m ≡ n) (n < m) = ranked m n (nat_cmp m n) refl in rw h at r

-- ---- words

pub bool_cmp-same : (a b : Bool) → a ≡ b → bool_cmp a b ≡ Equal
bool_cmp-same true true e = refl
bool_cmp-same true false e = absurd (true≢false e)
bool_cmp-same false true e = absurd (true≢false (sym e))
bool_cmp-same false false e = refl

pub words_alike : (l m : Letter) (v w : List Letter) → length v ≡ length w → l.inverse ≡ m.inverse → l.simplex.degens.mask ≡ m.simplex.degens.mask
    → cell_cmp (Word (l ∷ v)) (Word (m ∷ w)) ≡ ordering_then (nat_cmp (length (l ∷ v)) (length (m ∷ w))) (slice_cmp letter_cmp (l ∷ v) (m ∷ w))
words_alike l m v w n e f =
    let c = l.simplex.cell in
    let d = m.simplex.cell in
    let rest = slice_cmp letter_cmp v w in
    let g : count_ones l.simplex.degens.mask ≡ count_ones m.simplex.degens.mask = ap count_ones f in
    let up : dim_of c ≤ dim_of d → degree_of l.simplex - 1 ≤ degree_of m.simplex - 1 = λ h. omega (arith, h, g) in
    let down : dim_of d ≤ dim_of c → degree_of m.simplex - 1 ≤ degree_of l.simplex - 1 = λ h. omega (arith, h, g) in
    let lengths : nat_cmp (length (l ∷ v)) (length (m ∷ w)) ≡ Equal = nat_cmp-same (length (l ∷ v)) (length (m ∷ w)) (ap suc n) in
    let letters : letter_cmp l m ≡ cell_cmp c d =
    letter_cmp-then l m ∙ ap (λ o. ordering_then o (simplex_cmp l.simplex m.simplex)) (bool_cmp-same _ _ e)
    ∙ simplex_cmp-then l.simplex m.simplex ∙ ap (λ o. ordering_then o (cell_cmp c d)) (nat_cmp-same _ _ f) in
    let whole : ordering_then (nat_cmp (length (l ∷ v)) (length (m ∷ w))) (ordering_then (letter_cmp l m) rest) ≡ ordering_then (cell_cmp c d) rest =
    λ i. ordering_then (lengths i) (ordering_then (letters i) rest) in
    by_words (l ∷ v) (m ∷ w)
    ∙ (λ i. ordering_then (nat_cmp (dim-Word_some l v i) (dim-Word_some m w i)) (whole i))
    ∙ idle_cells (degree_of l.simplex - 1) (degree_of m.simplex - 1) c d rest up down
    ∙ sym whole

pub begins : (a b : List Letter) (l m : Letter) → length a ≡ length b → slice_get a 0 ≡ Some l → slice_get b 0 ≡ Some m → l.inverse ≡ m.inverse → l.simplex.degens.mask ≡ m.simplex.degens.mask
    → cell_cmp (Word a) (Word b) ≡ ordering_then (nat_cmp (length a) (length b)) (slice_cmp letter_cmp a b)
begins [] b l m n e f g h = absurd (cc)
begins (l' ∷ v) [] l m n e f g h = absurd (cc)
begins (l' ∷ v) (m' ∷ w) l m n e f g h =
    let p : l' ≡ l = cc in
    let q : m' ≡ m = cc in
    words_alike l' m' v w (omega (arith, n)) (ap (λ k. k.inverse) p ∙ g ∙ ap (λ k. k.inverse) (sym q))
    (ap (λ k. k.simplex.degens.mask) p ∙ h ∙ ap (λ k. k.simplex.degens.mask) (sym q))

-- ---- cells of different kinds

pub unlike_kinds : (c d : Cell) (r : Ordering) → r ≡ kinds_cmp c d → (kind_of c ≡ kind_of d → ⊥) → r ≡ cell_cmp c d
unlike_kinds c d r e h =
    e ∙ decides (kinds_cmp c d) (within_cmp c d) (λ q. h (nat_cmp-is _ _ (second_is (nat_cmp (dim_of c) (dim_of d)) (nat_cmp (kind_of c) (kind_of d)) q))) ∙ sym (cell_cmp-then c d)
  where
    second_is : (a b : Ordering) → ordering_then a b ≡ Equal → b ≡ Equal
    second_is Less b q = absurd (true≢false (ap is_lt q))
    second_is Equal b q = q
    second_is Greater b q = absurd (true≢false (ap is_gt q))

kinds_in : (c d : Cell) (x : Cell-F Cell Letter Simplex) → c ≡ roll-Cell x → kind_of c ≡ kind_of d → kind_in (out-Cell d) ≡ kind_in x
kinds_in c d x p e = sym e ∙ ap kind_of p ∙ kind-roll x

pub not_row : (c d : Cell) (m n : ℕ) → c ≡ Row m n → ((a b : ℕ) → d ≡ Row a b → ⊥) → kind_of c ≡ kind_of d → ⊥
not_row c d m n p h e = only (out-Cell d) (sym (roll-out-Cell d)) (kinds_in c d (Cell-F.Row m n) (p ∙ sym (rolls-Row m n)) e)
  where
    only : (y : Cell-F Cell Letter Simplex) → d ≡ roll-Cell y → kind_in y ≡ 0 → ⊥
    only (Cell-F.Row a b) q k = h a b (q ∙ rolls-Row a b)
    only y q k = omega (arith, k)

pub not_base : (c d : Cell) → c ≡ Base → (d ≡ Base → ⊥) → kind_of c ≡ kind_of d → ⊥
not_base c d p h e = only (out-Cell d) (sym (roll-out-Cell d)) (kinds_in c d Cell-F.Base (p ∙ sym rolls-Base) e)
  where
    only : (y : Cell-F Cell Letter Simplex) → d ≡ roll-Cell y → kind_in y ≡ 1 → ⊥
    only Cell-F.Base q k = h (q ∙ rolls-Base)
    only y q k = omega (arith, k)

pub not_top : (c d : Cell) (m : ℕ) → c ≡ Top m → ((n : ℕ) → d ≡ Top n → ⊥) → kind_of c ≡ kind_of d → ⊥
not_top c d m p h e = only (out-Cell d) (sym (roll-out-Cell d)) (kinds_in c d (Cell-F.Top m) (p ∙ sym (rolls-Top m)) e)
  where
    only : (y : Cell-F Cell Letter Simplex) → d ≡ roll-Cell y → kind_in y ≡ 2 → ⊥
    only (Cell-F.Top n) q k = h n (q ∙ rolls-Top n)
    only y q k = omega (arith, k)

pub not_pair : (c d : Cell) (a x : Simplex) → c ≡ Pair a x → ((b y : Simplex) → d ≡ Pair b y → ⊥) → kind_of c ≡ kind_of d → ⊥
not_pair c d a x p h e = only (out-Cell d) (sym (roll-out-Cell d)) (kinds_in c d (Cell-F.Pair a x) (p ∙ sym (rolls-Pair a x)) e)
  where
    only : (y : Cell-F Cell Letter Simplex) → d ≡ roll-Cell y → kind_in y ≡ 3 → ⊥
    only (Cell-F.Pair b y) q k = h b y (q ∙ rolls-Pair b y)
    only y q k = omega (arith, k)

pub not_up : (c d z : Cell) → c ≡ Up z → ((y : Cell) → d ≡ Up y → ⊥) → kind_of c ≡ kind_of d → ⊥
not_up c d z p h e = only (out-Cell d) (sym (roll-out-Cell d)) (kinds_in c d (Cell-F.Up z) (p ∙ sym (rolls-Up z)) e)
  where
    only : (y : Cell-F Cell Letter Simplex) → d ≡ roll-Cell y → kind_in y ≡ 4 → ⊥
    only (Cell-F.Up y) q k = h y (q ∙ rolls-Up y)
    only y q k = omega (arith, k)

pub not_ints : (c d : Cell) (a : List ℤ) → c ≡ Ints a → ((b : List ℤ) → d ≡ Ints b → ⊥) → kind_of c ≡ kind_of d → ⊥
not_ints c d a p h e = only (out-Cell d) (sym (roll-out-Cell d)) (kinds_in c d (Cell-F.Ints a) (p ∙ sym (rolls-Ints a)) e)
  where
    only : (y : Cell-F Cell Letter Simplex) → d ≡ roll-Cell y → kind_in y ≡ 5 → ⊥
    only (Cell-F.Ints b) q k = h b (q ∙ rolls-Ints b)
    only y q k = omega (arith, k)

pub not_word : (c d : Cell) (v : List Letter) → c ≡ Word v → ((w : List Letter) → d ≡ Word w → ⊥) → kind_of c ≡ kind_of d → ⊥
not_word c d v p h e = only (out-Cell d) (sym (roll-out-Cell d)) (kinds_in c d (Cell-F.Word v) (p ∙ sym (rolls-Word v)) e)
  where
    only : (y : Cell-F Cell Letter Simplex) → d ≡ roll-Cell y → kind_in y ≡ 6 → ⊥
    only (Cell-F.Word w) q k = h w (q ∙ rolls-Word w)
    only y q k = omega (arith, k)

pub through : (c d y z : Cell) (r : Ordering) → c ≡ y → d ≡ z → r ≡ cell_cmp y z → r ≡ cell_cmp c d
through c d y z r p q h = h ∙ (λ i. cell_cmp (sym p i) (sym q i))
