-- The order of the code's values for small cells is that of the small cells, below the greatest degree of the code.
use Rattle.std.proofs.Common.{◌≡◌, ℕ, zero, suc, ◌<◌, ◌≤◌, List, [], ◌∷◌, map, length, refl, sym, ◌∙◌, ap, arith, ℤ, pos}
use Rattle.std.specs.Prelude.{Some, None}
use Rattle.std.specs.List.{AllByRecursion}
use Rattle.std.specs.Ordering.{ordering_then, nat_cmp, int_cmp}
use Rattle.std.specs.Cmp.Lexicographic.{slice_cmp}
use Rattle.std.specs.declared.cmp.Ordering.{Ordering}
use Rattle.std.specs.declared.cmp.Ordering.TheVariants.{Less, Equal, Greater}
use Rattle.std.proofs.lemmas.Cmp.{tied_itself, nat_cmp_total}
use Rattle.std.proofs.lemmas.Bool.Decides.{nat_tests}
use Rattle.spaces.specs.Tables.{sphere_rows}
use Rattle.spaces.specs.Spaces.{Space, table, sphere, product, suspension, kz1, bundle, loops, paths, kzm1, cyclic_bundle}
use Rattle.spaces.specs.SmallCells.{Small, small_degree, word_degree, row_dim, small_cmp as typed_cmp}
use Rattle.cells.specs.declared.cells.Cell.{Cell, out-Cell, out-roll-Cell}
use Rattle.cells.specs.declared.cells.Cell.TheVariants.{Row, Base, Ints, rolls-Row, rolls-Ints}
use Rattle.cells.specs.declared.cells.Cell.TheOpen.{Cell-F}
use Rattle.cells.specs.declared.cells.SmallCell.{SmallCell, out-SmallCell, out-roll-SmallCell}
use Rattle.cells.specs.declared.cells.SmallCell.TheVariants.{One, Pair, Up, Word, rolls-One, rolls-Pair, rolls-Up, rolls-Word}
use Rattle.cells.specs.declared.cells.SmallCell.TheOpen.{SmallCell-F}
use Rattle.cells.specs.Dim.{dim_of}
use Rattle.cells.specs.Order.{cell_cmp, kind_in, kind_of}
use Rattle.cells.specs.Small.{degree_of_small, small_cmp, small_kind_in, small_kind_of, small_within_cmp}
use Rattle.cells.specs.Laws.{small_total}
use Rattle.cells.proofs.EqualForests.{positive}
use Rattle.cells.proofs.Dimensions.{dim-Row}
use Rattle.cells.proofs.Compared.{cell_cmp-then, rows, integers}
use Rattle.cells.proofs.SmallForms.{small_cmp-then, ones, small_pairs, small_ups, small_words, degree-One}
use Rattle.term_lang.specs.Quote.{sphere_cell}
use Rattle.oracle_iface.specs.SmallForms.{quote_small, quote_row, quote_residues}
use Rattle.oracle_iface.specs.KeyLaws.{IsProper, IsCounted}
use Rattle.oracle_iface.proofs.SmallDegrees.{dim-sphere_cell, degree-row, degree-integers, length-pos, degree-residues, degree-small, counted-left, counted-right, counted-below, counted-first, counted-rest, counted-base, counted-fibre}

-- ---- kinds

kind-One : (c : Cell) → small_kind_of (One c) ≡ 0
kind-One c = ap small_kind_in (ap out-SmallCell (sym (rolls-One c)) ∙ out-roll-SmallCell (SmallCell-F.One c))

kind-Pair : (x y : SmallCell) → small_kind_of (Pair x y) ≡ 1
kind-Pair x y = ap small_kind_in (ap out-SmallCell (sym (rolls-Pair x y)) ∙ out-roll-SmallCell (SmallCell-F.Pair x y))

kind-Up : (y : SmallCell) → small_kind_of (Up y) ≡ 2
kind-Up y = ap small_kind_in (ap out-SmallCell (sym (rolls-Up y)) ∙ out-roll-SmallCell (SmallCell-F.Up y))

kind-Word : (w : List SmallCell) → small_kind_of (Word w) ≡ 3
kind-Word w = ap small_kind_in (ap out-SmallCell (sym (rolls-Word w)) ∙ out-roll-SmallCell (SmallCell-F.Word w))

kind-Row : (n r : ℕ) → kind_of (Row n r) ≡ 0
kind-Row n r = ap kind_in (ap out-Cell (sym (rolls-Row n r)) ∙ out-roll-Cell (Cell-F.Row n r))

kind-Ints : (l : List ℤ) → kind_of (Ints l) ≡ 5
kind-Ints l = ap kind_in (ap out-Cell (sym (rolls-Ints l)) ∙ out-roll-Cell (Cell-F.Ints l))

same_kind : (j k n : ℕ) → j ≡ n → k ≡ n → nat_cmp j k ≡ Equal
same_kind j k n e f = (λ i. nat_cmp (e i) (f i)) ∙ tied_itself nat_cmp_total n

-- ---- orders one after the other

kind_out : (o k w : Ordering) → k ≡ Equal → ordering_then (ordering_then o k) w ≡ ordering_then o w
kind_out Less k w e = refl
kind_out Equal k w e = ap (λ z. ordering_then z w) e
kind_out Greater k w e = refl

twice : (o w : Ordering) → ordering_then o (ordering_then o w) ≡ ordering_then o w
twice Less w = refl
twice Equal w = refl
twice Greater w = refl

twice_first : (o k w : Ordering) → ordering_then o (ordering_then (ordering_then o k) w) ≡ ordering_then (ordering_then o k) w
twice_first Less k w = refl
twice_first Equal k w = refl
twice_first Greater k w = refl

cmp-suc : (m n : ℕ) → nat_cmp (suc m) (suc n) ≡ nat_cmp m n
cmp-suc m n = grind (arith, nat_tests)

cmp-less : (m n : ℕ) → m ≡ 0 → 0 < n → nat_cmp m n ≡ Less
cmp-less m n e h = grind (arith, nat_tests)

cmp-more : (m n : ℕ) → 0 < m → n ≡ 0 → nat_cmp m n ≡ Greater
cmp-more m n h e = grind (arith, nat_tests)

-- small cells of one kind, of known degrees: by the degrees, then within the kind
by_degrees : (c d : SmallCell) (m n k : ℕ) (w : Ordering) → degree_of_small c ≡ m → degree_of_small d ≡ n → small_kind_of c ≡ k → small_kind_of d ≡ k
    → small_within_cmp c d ≡ w → small_cmp c d ≡ ordering_then (nat_cmp m n) w
by_degrees c d m n k w e f g h within =
    small_cmp-then c d ∙ (λ i. ordering_then (ordering_then (nat_cmp (e i) (f i)) (nat_cmp (small_kind_of c) (small_kind_of d))) (within i))
    ∙ kind_out (nat_cmp m n) (nat_cmp (small_kind_of c) (small_kind_of d)) w (same_kind (small_kind_of c) (small_kind_of d) k g h)

-- of different degrees
lower : (c d : SmallCell) (m n : ℕ) → degree_of_small c ≡ m → degree_of_small d ≡ n → m ≡ 0 → 0 < n → small_cmp c d ≡ Less
lower c d m n e f z h =
    small_cmp-then c d
    ∙ ap (λ o. ordering_then (ordering_then o (nat_cmp (small_kind_of c) (small_kind_of d))) (small_within_cmp c d)) ((λ j. nat_cmp (e j) (f j)) ∙ cmp-less m n z h)

higher : (c d : SmallCell) (m n : ℕ) → degree_of_small c ≡ m → degree_of_small d ≡ n → 0 < m → n ≡ 0 → small_cmp c d ≡ Greater
higher c d m n e f h z =
    small_cmp-then c d
    ∙ ap (λ o. ordering_then (ordering_then o (nat_cmp (small_kind_of c) (small_kind_of d))) (small_within_cmp c d)) ((λ j. nat_cmp (e j) (f j)) ∙ cmp-more m n h z)

-- ---- rows and lists

rows_in : (d e r s : ℕ) → cell_cmp (Row d r) (Row e s) ≡ ordering_then (nat_cmp d e) (nat_cmp r s)
rows_in d e r s =
    cell_cmp-then (Row d r) (Row e s)
    ∙ (λ i. ordering_then (ordering_then (nat_cmp (dim-Row d r i) (dim-Row e s i)) (nat_cmp (kind_of (Row d r)) (kind_of (Row e s)))) (rows d e r s i))
    ∙ kind_out (nat_cmp d e) (nat_cmp (kind_of (Row d r)) (kind_of (Row e s))) (nat_cmp r s) (same_kind (kind_of (Row d r)) (kind_of (Row e s)) 0 (kind-Row d r) (kind-Row e s))

order-rows : (d e r s : ℕ) → small_cmp (quote_row d r) (quote_row e s) ≡ ordering_then (nat_cmp d e) (nat_cmp r s)
order-rows d e r s =
    by_degrees (quote_row d r) (quote_row e s) d e 0 (cell_cmp (Row d r) (Row e s)) (degree-row d r) (degree-row e s) (kind-One (Row d r)) (kind-One (Row e s))
    (ones (Row d r) (Row e s))
    ∙ ap (ordering_then (nat_cmp d e)) (rows_in d e r s) ∙ twice (nat_cmp d e) (nat_cmp r s)

lists_in : (x y : List ℤ) → dim_of (Ints x) ≡ length x → dim_of (Ints y) ≡ length y
    → cell_cmp (Ints x) (Ints y) ≡ ordering_then (nat_cmp (length x) (length y)) (slice_cmp int_cmp x y)
lists_in x y e f =
    cell_cmp-then (Ints x) (Ints y)
    ∙ (λ i. ordering_then (ordering_then (nat_cmp (e i) (f i)) (nat_cmp (kind_of (Ints x)) (kind_of (Ints y)))) (integers x y i))
    ∙ kind_out (nat_cmp (length x) (length y)) (nat_cmp (kind_of (Ints x)) (kind_of (Ints y))) (ordering_then (nat_cmp (length x) (length y)) (slice_cmp int_cmp x y))
    (same_kind (kind_of (Ints x)) (kind_of (Ints y)) 5 (kind-Ints x) (kind-Ints y))
    ∙ twice (nat_cmp (length x) (length y)) (slice_cmp int_cmp x y)

order-lists : (x y : List ℤ) → degree_of_small (One (Ints x)) ≡ length x → degree_of_small (One (Ints y)) ≡ length y
    → small_cmp (One (Ints x)) (One (Ints y)) ≡ ordering_then (nat_cmp (length x) (length y)) (slice_cmp int_cmp x y)
order-lists x y e f =
    by_degrees (One (Ints x)) (One (Ints y)) (length x) (length y) 0 (cell_cmp (Ints x) (Ints y)) e f (kind-One (Ints x)) (kind-One (Ints y)) (ones (Ints x) (Ints y))
    ∙ ap (ordering_then (nat_cmp (length x) (length y))) (lists_in x y (sym (degree-One (Ints x)) ∙ e) (sym (degree-One (Ints y)) ∙ f))
    ∙ twice (nat_cmp (length x) (length y)) (slice_cmp int_cmp x y)

residues_in : (x y : List ℕ) → slice_cmp int_cmp (map (λ k. pos k) x) (map (λ k. pos k) y) ≡ slice_cmp nat_cmp x y
residues_in [] [] = refl
residues_in [] (k ∷ y) = refl
residues_in (j ∷ x) [] = refl
residues_in (j ∷ x) (k ∷ y) = λ i. ordering_then (positive j k i) (residues_in x y i)

order-residues : (x y : List ℕ) → length x ≤ 4294967295 → length y ≤ 4294967295
    → small_cmp (quote_residues x) (quote_residues y) ≡ ordering_then (nat_cmp (length x) (length y)) (slice_cmp nat_cmp x y)
order-residues x y h l =
    order-lists (map (λ k. pos k) x) (map (λ k. pos k) y) (degree-residues x h ∙ sym (length-pos x)) (degree-residues y l ∙ sym (length-pos y))
    ∙ (λ i. ordering_then (nat_cmp (length-pos x i) (length-pos y i)) (residues_in x y i))

-- ---- spheres

abbrev sphere_small : ℕ → ℕ → SmallCell
sphere_small m r = One (sphere_cell (row_dim (sphere_rows m) r) ([], r))

degree-sphere : (m r : ℕ) → degree_of_small (sphere_small m r) ≡ row_dim (sphere_rows m) r
degree-sphere m r = degree-One (sphere_cell (row_dim (sphere_rows m) r) ([], r)) ∙ dim-sphere_cell (row_dim (sphere_rows m) r) r

order-spheres : (m r s : ℕ) → 0 < m → r < 2 → s < 2
    → small_cmp (sphere_small m r) (sphere_small m s) ≡ ordering_then (nat_cmp (row_dim (sphere_rows m) r) (row_dim (sphere_rows m) s)) (nat_cmp r s)
order-spheres m zero zero h l k = tied_itself small_total (sphere_small m 0)
order-spheres m zero (suc zero) h l k =
    lower (sphere_small m 0) (sphere_small m 1) 0 m (degree-sphere m 0) (degree-sphere m 1) refl h
    ∙ sym (ap (λ o. ordering_then o (nat_cmp 0 1)) (cmp-less 0 m refl h))
order-spheres m (suc zero) zero h l k =
    higher (sphere_small m 1) (sphere_small m 0) m 0 (degree-sphere m 1) (degree-sphere m 0) h refl
    ∙ sym (ap (λ o. ordering_then o (nat_cmp 1 0)) (cmp-more m 0 h refl))
order-spheres m (suc zero) (suc zero) h l k =
    tied_itself small_total (sphere_small m 1) ∙ sym (ap (λ o. ordering_then o (nat_cmp 1 1)) (tied_itself nat_cmp_total m))
order-spheres m zero (suc (suc s)) h l k = absurd (omega arith)
order-spheres m (suc zero) (suc (suc s)) h l k = absurd (omega arith)
order-spheres m (suc (suc r)) s h l k = absurd (omega arith)

-- ---- pairs and words

order-pairs : (x y u v : SmallCell) (m n : ℕ) (o w : Ordering) → degree_of_small (Pair x y) ≡ m → degree_of_small (Pair u v) ≡ n → small_cmp x u ≡ o → small_cmp y v ≡ w
    → small_cmp (Pair x y) (Pair u v) ≡ ordering_then (nat_cmp m n) (ordering_then o w)
order-pairs x y u v m n o w d e f g =
    by_degrees (Pair x y) (Pair u v) m n 1 (ordering_then o w) d e (kind-Pair x y) (kind-Pair u v)
    (small_pairs x y u v ∙ (λ i. ordering_then (f i) (g i)))

abbrev Ordered : Space → Type 0
Ordered a = (x y : Small a) → IsProper a x → IsProper a y → IsCounted a x → IsCounted a y → small_cmp (quote_small a x) (quote_small a y) ≡ typed_cmp a x y

module _ (a : Space) (ordered : Ordered a) where
  letters_in : (v w : List (Small a)) → AllByRecursion (IsProper a) v → AllByRecursion (IsProper a) w → IsCounted (loops a) v → IsCounted (loops a) w
      → slice_cmp small_cmp (map (quote_small a) v) (map (quote_small a) w) ≡ slice_cmp (typed_cmp a) v w
  letters_in [] [] h l k n = refl
  letters_in [] (y ∷ w) h l k n = refl
  letters_in (x ∷ v) [] h l k n = refl
  letters_in (x ∷ v) (y ∷ w) h l k n =
      λ i. ordering_then (ordered x y h.0 l.0 (counted-first a x v k) (counted-first a y w n) i)
      (letters_in v w h.1 l.1 (counted-rest a x v k) (counted-rest a y w n) i)

  order-words : (v w : List (Small a)) → AllByRecursion (IsProper a) v → AllByRecursion (IsProper a) w → IsCounted (loops a) v → IsCounted (loops a) w
      → small_cmp (Word (map (quote_small a) v)) (Word (map (quote_small a) w))
      ≡ ordering_then (nat_cmp (word_degree (small_degree a) v) (word_degree (small_degree a) w)) (slice_cmp (typed_cmp a) v w)
  order-words v w h l k n =
      by_degrees (Word (map (quote_small a) v)) (Word (map (quote_small a) w)) (word_degree (small_degree a) v) (word_degree (small_degree a) w) 3
      (slice_cmp (typed_cmp a) v w) (degree-small (loops a) v k) (degree-small (loops a) w n) (kind-Word (map (quote_small a) v)) (kind-Word (map (quote_small a) w))
      (small_words (map (quote_small a) v) (map (quote_small a) w) ∙ letters_in v w h l k n)

-- one above two small cells
order-ups : (c d : SmallCell) (m n : ℕ) → degree_of_small c ≡ m → degree_of_small d ≡ n → degree_of_small (Up c) ≡ suc m → degree_of_small (Up d) ≡ suc n
    → small_cmp (Up c) (Up d) ≡ small_cmp c d
order-ups c d m n e f g h =
    by_degrees (Up c) (Up d) (suc m) (suc n) 2 (small_cmp c d) g h (kind-Up c) (kind-Up d) (small_ups c d)
    ∙ ap (λ o. ordering_then o (small_cmp c d)) (cmp-suc m n ∙ (λ i. nat_cmp (sym e i) (sym f i)))
    ∙ ap (ordering_then (nat_cmp (degree_of_small c) (degree_of_small d))) (small_cmp-then c d)
    ∙ twice_first (nat_cmp (degree_of_small c) (degree_of_small d)) (nat_cmp (small_kind_of c) (small_kind_of d)) (small_within_cmp c d)
    ∙ sym (small_cmp-then c d)

-- ---- all spaces

pub order-small : (a : Space) (x y : Small a) → IsProper a x → IsProper a y → IsCounted a x → IsCounted a y
    → small_cmp (quote_small a x) (quote_small a y) ≡ typed_cmp a x y
order-small (table t) x y h l k n = order-rows (row_dim t x) (row_dim t y) x y
order-small (sphere m) x y h l k n = order-spheres m x y h.0 h.1 l.1
order-small (product a b) x y h l k n =
    order-pairs (quote_small a x.0) (quote_small b x.1) (quote_small a y.0) (quote_small b y.1) (small_degree (product a b) x) (small_degree (product a b) y)
    (typed_cmp a x.0 y.0) (typed_cmp b x.1 y.1) (degree-small (product a b) x k) (degree-small (product a b) y n)
    (order-small a x.0 y.0 h.0 l.0 (counted-left a b x k) (counted-left a b y n))
    (order-small b x.1 y.1 h.1 l.1 (counted-right a b x k) (counted-right a b y n))
order-small (suspension a) None None h l k n = tied_itself small_total (One Base)
order-small (suspension a) None (Some y) h l k n =
    lower (One Base) (Up (quote_small a y)) 0 (suc (small_degree a y)) (degree-small (suspension a) None k) (degree-small (suspension a) (Some y) n) refl (omega arith)
order-small (suspension a) (Some x) None h l k n =
    higher (Up (quote_small a x)) (One Base) (suc (small_degree a x)) 0 (degree-small (suspension a) (Some x) k) (degree-small (suspension a) None n) (omega arith) refl
order-small (suspension a) (Some x) (Some y) h l k n =
    let c = counted-below a x k in
    let d = counted-below a y n in
    order-ups (quote_small a x) (quote_small a y) (small_degree a x) (small_degree a y) (degree-small a x c) (degree-small a y d)
    (degree-small (suspension a) (Some x) k) (degree-small (suspension a) (Some y) n)
    ∙ order-small a x y h l c d
order-small kz1 x y h l k n = order-lists x y (degree-small kz1 x k) (degree-small kz1 y n)
order-small (bundle t c) x y h l k n =
    order-pairs (quote_row (row_dim t x.0) x.0) (One (Ints x.1)) (quote_row (row_dim t y.0) y.0) (One (Ints y.1))
    (small_degree (bundle t c) x) (small_degree (bundle t c) y) (typed_cmp (table t) x.0 y.0) (typed_cmp kz1 x.1 y.1)
    (degree-small (bundle t c) x k) (degree-small (bundle t c) y n) (order-rows (row_dim t x.0) (row_dim t y.0) x.0 y.0)
    (order-lists x.1 y.1 (degree-integers x.1 (omega (arith, k))) (degree-integers y.1 (omega (arith, n))))
order-small (loops a) x y h l k n = order-words a (order-small a) x y h l k n
order-small (paths a) x y h l k n =
    order-pairs (quote_small a x.0) (Word (map (quote_small a) x.1)) (quote_small a y.0) (Word (map (quote_small a) y.1))
    (small_degree (paths a) x) (small_degree (paths a) y) (typed_cmp a x.0 y.0) (typed_cmp (loops a) x.1 y.1)
    (degree-small (paths a) x k) (degree-small (paths a) y n) (order-small a x.0 y.0 h.0 l.0 (counted-base a x k) (counted-base a y n))
    (order-words a (order-small a) x.1 y.1 h.1 l.1 (counted-fibre a x k) (counted-fibre a y n))
order-small (kzm1 m) x y h l k n = order-residues x y (omega (arith, k)) (omega (arith, n))
order-small (cyclic_bundle t m c) x y h l k n =
    order-pairs (quote_row (row_dim t x.0) x.0) (quote_residues x.1) (quote_row (row_dim t y.0) y.0) (quote_residues y.1)
    (small_degree (cyclic_bundle t m c) x) (small_degree (cyclic_bundle t m c) y) (typed_cmp (table t) x.0 y.0) (typed_cmp (kzm1 m) x.1 y.1)
    (degree-small (cyclic_bundle t m c) x k) (degree-small (cyclic_bundle t m c) y n) (order-rows (row_dim t x.0) (row_dim t y.0) x.0 y.0)
    (order-residues x.1 y.1 (omega (arith, k)) (omega (arith, n)))
