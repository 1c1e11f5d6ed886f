-- The degree and the forest of each kind of small cell, and that small cells are compared by degree, kind and then within the kind.
use Rattle.std.proofs.Common.{◌≡◌, ℕ, zero, suc, ◌+◌, ◌-◌, ◌<◌, min, List, [], ◌∷◌, ◌++◌, length, map, take, drop, get_or, refl, sym, ◌∙◌, ap, pos, arith}
use Rattle.std.proofs.lemmas.List.{take_more}
use Rattle.std.proofs.lemmas.Bool.Decides.{nat_tests}
use Rattle.std.specs.Ordering.{nat_cmp, ordering_then}
use Rattle.std.specs.Cmp.Lexicographic.{slice_cmp}
use Rattle.std.specs.declared.cmp.Ordering.TheVariants.{Less, Greater}
use Rattle.cells.specs.declared.cells.Cell.{Cell}
use Rattle.cells.specs.declared.cells.SmallCell.{SmallCell, fold-roll-SmallCell, para-roll-SmallCell, roll-SmallCell, out-SmallCell, roll-out-SmallCell, out-roll-SmallCell, map-SmallCell}
use Rattle.cells.specs.declared.cells.SmallCell.TheVariants.{One, Pair, Up, Word, rolls-One, rolls-Pair, rolls-Up, rolls-Word}
use Rattle.cells.specs.declared.cells.SmallCell.TheOpen.{SmallCell-F}
use Rattle.cells.specs.Dim.{dim_of, capped}
use Rattle.cells.specs.Forests.{Forest, end, item, forest_cmp}
use Rattle.cells.specs.Order.{number, forest, cell_cmp}
use Rattle.cells.specs.Small.{less_one_sum, small_degree, degree_of_small, below_each, degrees, small_step, small_forest, small_cmp, small_kind_in, small_kind_of, small_kinds_cmp, small_within, small_within_cmp}
use Rattle.cells.proofs.EqualForests.{positive}
use Rattle.cells.proofs.Compared.{alone_then, then_assoc}

-- ---- degrees

degree-roll : (x : SmallCell-F SmallCell) → degree_of_small (roll-SmallCell x) ≡ small_degree (map-SmallCell SmallCell ℕ degree_of_small x)
unfolding degree_of_small
degree-roll x = fold-roll-SmallCell ℕ small_degree x

pub degree-One : (c : Cell) → degree_of_small (One c) ≡ dim_of c
degree-One c = ap degree_of_small (sym (rolls-One c)) ∙ degree-roll (SmallCell-F.One c)

pub degree-Pair : (a b : SmallCell) → degree_of_small (Pair a b) ≡ capped (degree_of_small a + degree_of_small b)
degree-Pair a b = ap degree_of_small (sym (rolls-Pair a b)) ∙ degree-roll (SmallCell-F.Pair a b)

pub degree-Up : (c : SmallCell) → degree_of_small (Up c) ≡ capped (degree_of_small c + 1)
degree-Up c = ap degree_of_small (sym (rolls-Up c)) ∙ degree-roll (SmallCell-F.Up c)

pub degree-Word : (w : List SmallCell) → degree_of_small (Word w) ≡ capped (less_one_sum (map degree_of_small w))
degree-Word w = ap degree_of_small (sym (rolls-Word w)) ∙ degree-roll (SmallCell-F.Word w)

pub sum-append : (w : List SmallCell) (l : SmallCell) → less_one_sum (map degree_of_small (w ++ l ∷ [])) ≡ less_one_sum (map degree_of_small w) + (degree_of_small l - 1)
sum-append [] l = omega arith
sum-append (m ∷ w) l = omega (arith, sum-append w l)

-- ---- forests

rolled : (x : SmallCell-F SmallCell) → small_forest (roll-SmallCell x) ≡ small_step (map-SmallCell SmallCell (SmallCell × Forest) (λ y. (y, small_forest y)) x)
unfolding small_forest
rolled x = para-roll-SmallCell Forest small_step x

unfoldable pub small_contents_in : SmallCell-F SmallCell → Forest
small_contents_in (SmallCell-F.One c) = forest c
small_contents_in (SmallCell-F.Pair a b) = item (pos 0) (small_forest a) (item (pos 0) (small_forest b) end)
small_contents_in (SmallCell-F.Up c) = small_forest c
small_contents_in (SmallCell-F.Word w) = below_each (map (λ y. (y, small_forest y)) w)

degrees-map : (w : List SmallCell) → degrees (map (λ y. (y, small_forest y)) w) ≡ map degree_of_small w
degrees-map [] = refl
degrees-map (l ∷ w) = ap (λ v. degree_of_small l ∷ v) (degrees-map w)

pub small_headed_in : (x : SmallCell-F SmallCell) → small_forest (roll-SmallCell x) ≡ number (degree_of_small (roll-SmallCell x)) (number (small_kind_in x) (small_contents_in x))
unfolding small_contents_in
small_headed_in (SmallCell-F.One c) = rolled (SmallCell-F.One c) ∙ ap (λ n. number n (number 0 (forest c))) (sym (degree-roll (SmallCell-F.One c)))
small_headed_in (SmallCell-F.Pair a b) =
    rolled (SmallCell-F.Pair a b) ∙ ap (λ n. number n (number 1 (item (pos 0) (small_forest a) (item (pos 0) (small_forest b) end)))) (sym (degree-roll (SmallCell-F.Pair a b)))
small_headed_in (SmallCell-F.Up c) = rolled (SmallCell-F.Up c) ∙ ap (λ n. number n (number 2 (small_forest c))) (sym (degree-roll (SmallCell-F.Up c)))
small_headed_in (SmallCell-F.Word w) =
    rolled (SmallCell-F.Word w)
    ∙ ap (λ n. number n (number 3 (below_each (map (λ y. (y, small_forest y)) w)))) (ap (λ v. capped (less_one_sum v)) (degrees-map w) ∙ sym (degree-roll (SmallCell-F.Word w)))

small_headed : (c : SmallCell) → small_forest c ≡ number (degree_of_small c) (number (small_kind_of c) (small_contents_in (out-SmallCell c)))
small_headed c =
    ap small_forest (sym (roll-out-SmallCell c)) ∙ small_headed_in (out-SmallCell c)
    ∙ ap (λ d. number (degree_of_small d) (number (small_kind_of c) (small_contents_in (out-SmallCell c)))) (roll-out-SmallCell c)

-- ---- how what is in two small cells of one kind compares

each_cmp : (a b : List SmallCell) → forest_cmp (below_each (map (λ y. (y, small_forest y)) a)) (below_each (map (λ y. (y, small_forest y)) b)) ≡ slice_cmp small_cmp a b
each_cmp [] [] = refl
each_cmp [] (m ∷ b) = refl
each_cmp (l ∷ a) [] = refl
each_cmp (l ∷ a) (m ∷ b) = ap (ordering_then (small_cmp l m)) (each_cmp a b)

-- small cells of different kinds are told apart by the kinds
small_within-is : (y z : SmallCell-F SmallCell) → ordering_then (nat_cmp (small_kind_in y) (small_kind_in z)) (forest_cmp (small_contents_in y) (small_contents_in z)) ≡ ordering_then (nat_cmp (small_kind_in y) (small_kind_in z)) (small_within y z)
unfolding small_contents_in
small_within-is (SmallCell-F.Pair a x) (SmallCell-F.Pair b y) = ap (ordering_then (small_cmp a b)) (alone_then (small_cmp x y))
small_within-is (SmallCell-F.Word v) (SmallCell-F.Word w) = each_cmp v w
-- one clause of each kind, so that the last one is tried at two kinds
small_within-is (SmallCell-F.One c) (SmallCell-F.One d) = refl
small_within-is (SmallCell-F.Up c) (SmallCell-F.Up d) = refl
small_within-is y z = refl

pub small_cmp-then : (c d : SmallCell) → small_cmp c d ≡ ordering_then (small_kinds_cmp c d) (small_within_cmp c d)
small_cmp-then c d =
    (λ i. forest_cmp (small_headed c i) (small_headed d i))
    ∙ (λ i. ordering_then (positive (degree_of_small c) (degree_of_small d) i)
    (ordering_then (positive (small_kind_of c) (small_kind_of d) i) (forest_cmp (small_contents_in (out-SmallCell c)) (small_contents_in (out-SmallCell d)))))
    ∙ ap (ordering_then (nat_cmp (degree_of_small c) (degree_of_small d))) (small_within-is (out-SmallCell c) (out-SmallCell d))
    ∙ then_assoc (nat_cmp (degree_of_small c) (degree_of_small d)) (nat_cmp (small_kind_of c) (small_kind_of d)) (small_within_cmp c d)

-- ---- for the code: how what is within small cells of one kind compares

pub ones : (c d : Cell) → small_within_cmp (One c) (One d) ≡ cell_cmp c d
ones c d = λ i. small_within (opened c i) (opened d i)
  where
    opened : (c : Cell) → out-SmallCell (One c) ≡ SmallCell-F.One c
    opened c = ap out-SmallCell (sym (rolls-One c)) ∙ out-roll-SmallCell (SmallCell-F.One c)

pub small_pairs : (a x b y : SmallCell) → small_within_cmp (Pair a x) (Pair b y) ≡ ordering_then (small_cmp a b) (small_cmp x y)
small_pairs a x b y = λ i. small_within (opened a x i) (opened b y i)
  where
    opened : (a x : SmallCell) → out-SmallCell (Pair a x) ≡ SmallCell-F.Pair a x
    opened a x = ap out-SmallCell (sym (rolls-Pair a x)) ∙ out-roll-SmallCell (SmallCell-F.Pair a x)

pub small_ups : (c d : SmallCell) → small_within_cmp (Up c) (Up d) ≡ small_cmp c d
small_ups c d = λ i. small_within (opened c i) (opened d i)
  where
    opened : (c : SmallCell) → out-SmallCell (Up c) ≡ SmallCell-F.Up c
    opened c = ap out-SmallCell (sym (rolls-Up c)) ∙ out-roll-SmallCell (SmallCell-F.Up c)

pub small_words : (v w : List SmallCell) → small_within_cmp (Word v) (Word w) ≡ slice_cmp small_cmp v w
small_words v w = λ i. small_within (opened v i) (opened w i)
  where
    opened : (w : List SmallCell) → out-SmallCell (Word w) ≡ SmallCell-F.Word w
    opened w = ap out-SmallCell (sym (rolls-Word w)) ∙ out-roll-SmallCell (SmallCell-F.Word w)

cmp-suc : (m n : ℕ) → nat_cmp m n ≡ nat_cmp (suc m) (suc n)
cmp-suc m n = grind (arith, nat_tests)

cmp-less : (n : ℕ) → Less ≡ nat_cmp 0 (suc n)
cmp-less n = grind (arith, nat_tests)

cmp-more : (n : ℕ) → Greater ≡ nat_cmp (suc n) 0
cmp-more n = grind (arith, nat_tests)

-- what is left after the shorter length decides
pub rest_decides : (n : ℕ) (a b : List SmallCell) → n ≡ min (length a) (length b) → slice_cmp small_cmp (drop n a) (drop n b) ≡ nat_cmp (length a) (length b)
rest_decides zero [] [] e = refl
rest_decides (suc n) [] [] e = refl
rest_decides zero [] (m ∷ b) e = cmp-less (length b)
rest_decides (suc n) [] (m ∷ b) e = absurd (omega arith)
rest_decides zero (l ∷ a) [] e = cmp-more (length a)
rest_decides (suc n) (l ∷ a) [] e = absurd (omega arith)
rest_decides zero (l ∷ a) (m ∷ b) e = absurd (omega arith)
rest_decides (suc n) (l ∷ a) (m ∷ b) e = rest_decides n a b (omega arith) ∙ cmp-suc (length a) (length b)

-- one more letter
pub one_more : (items : List SmallCell) (i : ℕ) (l : SmallCell) (r d s : ℕ) → i < length items → l ≡ get_or items i l → r ≡ capped (d + s) → d ≡ capped (less_one_sum (map degree_of_small (take i items))) → s ≡ degree_of_small l - 1
    → r ≡ capped (less_one_sum (map degree_of_small (take (i + 1) items)))
one_more items i l r d s h e f g k =
    let t : take (i + 1) items ≡ take i items ++ l ∷ [] = take_more items i l h ∙ (λ j. take i items ++ sym e j ∷ []) in
    let u : less_one_sum (map degree_of_small (take (i + 1) items)) ≡ less_one_sum (map degree_of_small (take i items)) + (degree_of_small l - 1) = ap (λ w. less_one_sum (map degree_of_small w)) t ∙ sum-append (take i items) l in
    omega (arith, f, g, k, u)
