-- The order of forests is total: turned round it is its own reverse, it is transitive, and forests that compare as equal compare
-- alike with each other forest; and such forests are the same. (These are the laws of `Ord`; any textbook on orders.) For example row 1 is less than row 2 and row
-- 2 less than row 3, so row 1 is less than row 3.
use Rattle.std.proofs.Common.{◌≡◌, ◌<ℤ◌, ℤ, refl, sym, ◌∙◌, ap, true≢false}
use Rattle.std.proofs.lemmas.Cmp.{int_ranked}
use Rattle.std.specs.Ordering.{MatchOrdering, int_cmp, ordering_then, ordering_reverse, is_lt, is_gt}
use Rattle.std.specs.Cmp.{IsTotalOrder, int_cmp_total}
use Rattle.std.specs.declared.cmp.Ordering.{Ordering}
use Rattle.std.specs.declared.cmp.Ordering.TheVariants.{Less, Equal, Greater}
use Rattle.cells.specs.Forests.{Forest, end, item, forest_cmp}

reverse-then : (a b : Ordering) → ordering_then (ordering_reverse a) (ordering_reverse b) ≡ ordering_reverse (ordering_then a b)
reverse-then Less b = refl
reverse-then Equal b = refl
reverse-then Greater b = refl

forest_antisymm : (f g : Forest) → forest_cmp f g ≡ ordering_reverse (forest_cmp g f)
forest_antisymm end end = refl
forest_antisymm end (item y d s) = refl
forest_antisymm (item x c r) end = refl
forest_antisymm (item x c r) (item y d s) =
    (λ i. ordering_then (int_cmp_total.antisymm x y i) (ordering_then (forest_antisymm c d i) (forest_antisymm r s i)))
    ∙ ap (ordering_then (ordering_reverse (int_cmp y x))) (reverse-then (forest_cmp d c) (forest_cmp s r))
    ∙ reverse-then (int_cmp y x) (ordering_then (forest_cmp d c) (forest_cmp s r))

pub first_equal : (a b : Ordering) → ordering_then a b ≡ Equal → a ≡ Equal
first_equal Less b h = absurd (true≢false (ap is_lt h))
first_equal Equal b h = refl
first_equal Greater b h = absurd (true≢false (ap is_gt h))

pub second_equal : (a b : Ordering) → ordering_then a b ≡ Equal → b ≡ Equal
second_equal Less b h = absurd (true≢false (ap is_lt h))
second_equal Equal b h = h
second_equal Greater b h = absurd (true≢false (ap is_gt h))

forest_congr : (f g k : Forest) → forest_cmp f g ≡ Equal → forest_cmp f k ≡ forest_cmp g k
forest_congr end end k h = refl
forest_congr end (item y d s) k h = absurd (true≢false (ap is_lt h))
forest_congr (item x c r) end k h = absurd (true≢false (ap is_gt h))
forest_congr (item x c r) (item y d s) end h = refl
forest_congr (item x c r) (item y d s) (item z e t) h =
    let a = first_equal (int_cmp x y) (ordering_then (forest_cmp c d) (forest_cmp r s)) h in
    let b = second_equal (int_cmp x y) (ordering_then (forest_cmp c d) (forest_cmp r s)) h in
    λ i. ordering_then (int_cmp_total.congr x y z a i)
    (ordering_then (forest_congr c d e (first_equal (forest_cmp c d) (forest_cmp r s) b) i) (forest_congr r s t (second_equal (forest_cmp c d) (forest_cmp r s) b) i))

forest_alike_right : (f g k : Forest) → forest_cmp g k ≡ Equal → forest_cmp f k ≡ forest_cmp f g
forest_alike_right f g k h = forest_antisymm f k ∙ ap ordering_reverse (sym (forest_congr g k f h)) ∙ sym (forest_antisymm f g)

int_alike_right : (x y z : ℤ) → int_cmp y z ≡ Equal → int_cmp x z ≡ int_cmp x y
int_alike_right x y z h = int_cmp_total.antisymm x z ∙ ap ordering_reverse (sym (int_cmp_total.congr y z x h)) ∙ sym (int_cmp_total.antisymm x y)

-- a, b, c: how the first of three compares with the second, the second with the third, the first with the third
then_chain : (a b c a' b' c' : Ordering) → (a ≡ Less → b ≡ Less → c ≡ Less) → (a ≡ Equal → c ≡ b) → (b ≡ Equal → c ≡ a) → (a' ≡ Less → b' ≡ Less → c' ≡ Less)
    → ordering_then a a' ≡ Less → ordering_then b b' ≡ Less → ordering_then c c' ≡ Less
then_chain Less Less c a' b' c' t l r u h g = ap (λ o. ordering_then o c') (t refl refl)
then_chain Less Equal c a' b' c' t l r u h g = ap (λ o. ordering_then o c') (r refl)
then_chain Less Greater c a' b' c' t l r u h g = absurd (true≢false (ap is_gt g))
then_chain Equal Less c a' b' c' t l r u h g = ap (λ o. ordering_then o c') (l refl)
then_chain Equal Equal c a' b' c' t l r u h g = ap (λ o. ordering_then o c') (l refl) ∙ u h g
then_chain Equal Greater c a' b' c' t l r u h g = absurd (true≢false (ap is_gt g))
then_chain Greater b c a' b' c' t l r u h g = absurd (true≢false (ap is_gt h))

forest_trans : (f g k : Forest) → forest_cmp f g ≡ Less → forest_cmp g k ≡ Less → forest_cmp f k ≡ Less
forest_trans end end k h g = g
forest_trans end (item y d s) end h g = absurd (true≢false (ap is_gt g))
forest_trans end (item y d s) (item z e t) h g = refl
forest_trans (item x c r) end k h g = absurd (true≢false (ap is_gt h))
forest_trans (item x c r) (item y d s) end h g = absurd (true≢false (ap is_gt g))
forest_trans (item x c r) (item y d s) (item z e t) h g =
    then_chain (int_cmp x y) (int_cmp y z) (int_cmp x z) (ordering_then (forest_cmp c d) (forest_cmp r s)) (ordering_then (forest_cmp d e) (forest_cmp s t)) (ordering_then (forest_cmp c e) (forest_cmp r t))
    (int_cmp_total.trans x y z) (int_cmp_total.congr x y z) (int_alike_right x y z)
    (then_chain (forest_cmp c d) (forest_cmp d e) (forest_cmp c e) (forest_cmp r s) (forest_cmp s t) (forest_cmp r t)
    (forest_trans c d e) (forest_congr c d e) (forest_alike_right c d e) (forest_trans r s t))
    h g

pub forest_total : IsTotalOrder forest_cmp
forest_total = record { antisymm = forest_antisymm; trans = forest_trans; congr = forest_congr }

-- ---- forests that compare as equal are the same

int_is : (x y : ℤ) → int_cmp x y ≡ Equal → x ≡ y
int_is x y h = let r : MatchOrdering (int_cmp x y) (x <ℤ y) (x ≡ y) (y <ℤ x) = int_ranked x y (int_cmp x y) refl in rw h at r

pub forest_is : (f g : Forest) → forest_cmp f g ≡ Equal → f ≡ g
forest_is end end h = refl
forest_is end (item y d s) h = absurd (cc)
forest_is (item x c r) end h = absurd (cc)
forest_is (item x c r) (item y d s) h =
    let b = second_equal (int_cmp x y) (ordering_then (forest_cmp c d) (forest_cmp r s)) h in
    λ i. item (int_is x y (first_equal (int_cmp x y) (ordering_then (forest_cmp c d) (forest_cmp r s)) h) i)
    (forest_is c d (first_equal (forest_cmp c d) (forest_cmp r s) b) i) (forest_is r s (second_equal (forest_cmp c d) (forest_cmp r s) b) i)
