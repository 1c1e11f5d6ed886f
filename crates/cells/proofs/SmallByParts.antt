-- Small cells of one kind compare by their parts; degrees are counted where parts do not tell, and not below degrees that are known to
-- be equal.
use Rattle.std.proofs.Common.{◌≡◌, ℕ, ◌+◌, ◌≤◌, ◌<◌, true, false, List, refl, sym, ◌∙◌, ap, true≢false, arith}
use Rattle.std.proofs.lemmas.Cmp.{tied_itself}
use Rattle.std.specs.Ordering.{nat_cmp, ordering_then, eq_by_cmp, is_eq, is_lt, is_gt}
use Rattle.std.specs.Cmp.Lexicographic.{slice_cmp}
use Rattle.std.specs.declared.cmp.Ordering.{Ordering}
use Rattle.std.specs.declared.cmp.Ordering.TheVariants.{Less, Equal, Greater}
use Rattle.cells.specs.declared.cells.Cell.{Cell}
use Rattle.cells.specs.declared.cells.SmallCell.{SmallCell, roll-SmallCell, out-SmallCell, roll-out-SmallCell, out-roll-SmallCell}
use Rattle.cells.specs.declared.cells.SmallCell.TheVariants.{One, Pair, Up, Word, rolls-One, rolls-Pair, rolls-Up, rolls-Word}
use Rattle.cells.specs.declared.cells.SmallCell.TheOpen.{SmallCell-F}
use Rattle.cells.specs.Dim.{dim_of, capped}
use Rattle.cells.specs.Order.{cell_cmp}
use Rattle.cells.specs.Small.{degree_of_small, small_cmp, small_kind_in, small_kind_of, small_kinds_cmp, small_within_cmp}
use Rattle.cells.specs.Laws.{small_total}
use Rattle.cells.proofs.Compared.{alone_then, then_assoc, decides}
use Rattle.cells.proofs.ByParts.{idle, idle_cells, nat_cmp-same, nat_cmp-is}
use Rattle.cells.proofs.SmallForms.{degree-One, degree-Pair, degree-Up, small_cmp-then, ones, small_pairs, small_ups, small_words}
use Rattle.cells.proofs.SmallEquality.{small_decides}

-- the degrees, then the kinds, then what is within
expanded : (c d : SmallCell) → small_cmp c d ≡ ordering_then (nat_cmp (degree_of_small c) (degree_of_small d)) (ordering_then (nat_cmp (small_kind_of c) (small_kind_of d)) (small_within_cmp c d))
expanded c d = small_cmp-then c d ∙ sym (then_assoc (nat_cmp (degree_of_small c) (degree_of_small d)) (nat_cmp (small_kind_of c) (small_kind_of d)) (small_within_cmp c d))

idle_small : (p q : ℕ) (c d : SmallCell) → (degree_of_small c ≤ degree_of_small d → p ≤ q) → (degree_of_small d ≤ degree_of_small c → q ≤ p) → ordering_then (nat_cmp p q) (small_cmp c d) ≡ small_cmp c d
idle_small p q c d up down =
    ap (ordering_then (nat_cmp p q)) (sym (alone_then (small_cmp c d)))
    ∙ idle p q (degree_of_small c) (degree_of_small d) (small_cmp c d) _ Equal up down (expanded c d)
    ∙ alone_then (small_cmp c d)

one_kind : (c d : SmallCell) (k p q : ℕ) (z : Ordering) → small_kind_of c ≡ k → small_kind_of d ≡ k → degree_of_small c ≡ p → degree_of_small d ≡ q → small_within_cmp c d ≡ z
    → small_cmp c d ≡ ordering_then (nat_cmp p q) z
one_kind c d k p q z e f g h w =
    expanded c d ∙ (λ i. ordering_then (nat_cmp (g i) (h i)) (ordering_then (nat_cmp (e i) (f i)) (w i)))
    ∙ ap (λ o. ordering_then (nat_cmp p q) (ordering_then o z)) (nat_cmp-same k k refl)

kind-roll : (x : SmallCell-F SmallCell) → small_kind_of (roll-SmallCell x) ≡ small_kind_in x
kind-roll x = ap small_kind_in (out-roll-SmallCell x)

pub by_ones : (c d : Cell) → small_cmp (One c) (One d) ≡ cell_cmp c d
by_ones c d =
    one_kind (One c) (One d) 0 _ _ _ (kind c) (kind d) (degree-One c) (degree-One d) (ones c d)
    ∙ ap (ordering_then (nat_cmp (dim_of c) (dim_of d))) (sym (alone_then (cell_cmp c d)))
    ∙ idle_cells (dim_of c) (dim_of d) c d Equal (λ h. h) (λ h. h)
    ∙ alone_then (cell_cmp c d)
  where
    kind : (c : Cell) → small_kind_of (One c) ≡ 0
    kind c = ap small_kind_of (sym (rolls-One c)) ∙ kind-roll (SmallCell-F.One c)

pub by_pairs : (a x b y : SmallCell) → small_cmp (Pair a x) (Pair b y)
    ≡ ordering_then (nat_cmp (capped (degree_of_small a + degree_of_small x)) (capped (degree_of_small b + degree_of_small y))) (ordering_then (small_cmp a b) (small_cmp x y))
by_pairs a x b y = one_kind (Pair a x) (Pair b y) 1 _ _ _ (kind a x) (kind b y) (degree-Pair a x) (degree-Pair b y) (small_pairs a x b y)
  where
    kind : (a x : SmallCell) → small_kind_of (Pair a x) ≡ 1
    kind a x = ap small_kind_of (sym (rolls-Pair a x)) ∙ kind-roll (SmallCell-F.Pair a x)

pub by_ups : (c d : SmallCell) → small_cmp (Up c) (Up d) ≡ small_cmp c d
by_ups c d =
    one_kind (Up c) (Up d) 2 _ _ _ (kind c) (kind d) (degree-Up c) (degree-Up d) (small_ups c d)
    ∙ idle_small (capped (degree_of_small c + 1)) (capped (degree_of_small d + 1)) c d (λ h. omega (arith, h)) (λ h. omega (arith, h))
  where
    kind : (c : SmallCell) → small_kind_of (Up c) ≡ 2
    kind c = ap small_kind_of (sym (rolls-Up c)) ∙ kind-roll (SmallCell-F.Up c)

pub by_words : (v w : List SmallCell) → small_cmp (Word v) (Word w) ≡ ordering_then (nat_cmp (degree_of_small (Word v)) (degree_of_small (Word w))) (slice_cmp small_cmp v w)
by_words v w = one_kind (Word v) (Word w) 3 _ _ _ (kind v) (kind w) refl refl (small_words v w)
  where
    kind : (w : List SmallCell) → small_kind_of (Word w) ≡ 3
    kind w = ap small_kind_of (sym (rolls-Word w)) ∙ kind-roll (SmallCell-F.Word w)

-- ---- pairs

pub same_left : (a x b y : SmallCell) → eq_by_cmp small_cmp a b ≡ true → small_cmp (Pair a x) (Pair b y) ≡ small_cmp x y
same_left a x b y e =
    let f : a ≡ b = (small_decides a b).0 e in
    let g : degree_of_small a ≡ degree_of_small b = ap degree_of_small f in
    let h : small_cmp a b ≡ Equal = ap (small_cmp a) (sym f) ∙ tied_itself small_total a in
    by_pairs a x b y
    ∙ ap (λ o. ordering_then (nat_cmp (capped (degree_of_small a + degree_of_small x)) (capped (degree_of_small b + degree_of_small y))) (ordering_then o (small_cmp x y))) h
    ∙ idle_small (capped (degree_of_small a + degree_of_small x)) (capped (degree_of_small b + degree_of_small y)) x y (λ k. omega (arith, k, g)) (λ k. omega (arith, k, g))

not_equal : (o : Ordering) → is_eq o ≡ false → o ≡ Equal → ⊥
not_equal Less h e = true≢false (sym (ap is_eq e) ∙ h)
not_equal Equal h e = true≢false h
not_equal Greater h e = true≢false (sym (ap is_eq e) ∙ h)

-- where the left parts differ, the degrees and then the left parts decide
pub other_left : (a x b y : SmallCell) → eq_by_cmp small_cmp a b ≡ false → small_cmp (Pair a x) (Pair b y)
    ≡ ordering_then (nat_cmp (capped (degree_of_small a + degree_of_small x)) (capped (degree_of_small b + degree_of_small y))) (small_cmp a b)
other_left a x b y e =
    by_pairs a x b y
    ∙ ap (ordering_then (nat_cmp (capped (degree_of_small a + degree_of_small x)) (capped (degree_of_small b + degree_of_small y)))) (sym (decides (small_cmp a b) (small_cmp x y) (not_equal (small_cmp a b) e)))

-- ---- small cells of one degree

pub in_one_degree : (p q : ℕ) (o : Ordering) → p ≡ q → ordering_then (nat_cmp p q) o ≡ o
in_one_degree p q o e = ap (λ z. ordering_then z o) (nat_cmp-same p q e)

pub pair_degrees : (c d a x b y : SmallCell) → c ≡ Pair a x → d ≡ Pair b y → degree_of_small c ≡ degree_of_small d
    → capped (degree_of_small a + degree_of_small x) ≡ capped (degree_of_small b + degree_of_small y)
pair_degrees c d a x b y p q e = sym (ap degree_of_small p ∙ degree-Pair a x) ∙ e ∙ ap degree_of_small q ∙ degree-Pair b y

pub right_degrees : (a x b y : SmallCell) (n : ℕ) → eq_by_cmp small_cmp a b ≡ true → n ≡ capped (degree_of_small a + degree_of_small x) → n ≡ capped (degree_of_small b + degree_of_small y) → n < 4294967295
    → (degree_of_small x ≡ degree_of_small y) × (degree_of_small x < 4294967295)
right_degrees a x b y n e p q h =
    let g : degree_of_small a ≡ degree_of_small b = ap degree_of_small ((small_decides a b).0 e) in
    (omega (arith, p, q, h, g), omega (arith, p, q, h, g))

pub below_degrees : (c d : SmallCell) (n : ℕ) → n ≡ capped (degree_of_small c + 1) → n ≡ capped (degree_of_small d + 1) → n < 4294967295
    → (degree_of_small c ≡ degree_of_small d) × (degree_of_small c < 4294967295)
below_degrees c d n p q h = (omega (arith, p, q, h), omega (arith, p, q, h))

pub level_words : (c d : SmallCell) (v w : List SmallCell) (r : Ordering) → c ≡ Word v → d ≡ Word w → degree_of_small c ≡ degree_of_small d → r ≡ slice_cmp small_cmp v w → r ≡ small_cmp c d
level_words c d v w r p q e h =
    h ∙ sym (by_words v w ∙ in_one_degree (degree_of_small (Word v)) (degree_of_small (Word w)) (slice_cmp small_cmp v w) (sym (ap degree_of_small p) ∙ e ∙ ap degree_of_small q))
    ∙ (λ i. small_cmp (sym p i) (sym q i))

-- degrees that differ decide
pub counted : (c d : SmallCell) (m n : ℕ) (o : Ordering) → o ≡ nat_cmp m n → (o ≡ Equal → ⊥) → m ≡ degree_of_small c → n ≡ degree_of_small d → o ≡ small_cmp c d
counted c d m n o e h p q =
    let rest = ordering_then (nat_cmp (small_kind_of c) (small_kind_of d)) (small_within_cmp c d) in
    decides o rest h ∙ ap (λ z. ordering_then z rest) (e ∙ (λ i. nat_cmp (p i) (q i))) ∙ sym (expanded c d)

-- ---- small cells of different kinds

second_is : (a b : Ordering) → ordering_then a b ≡ Equal → b ≡ Equal
second_is Less b q = absurd (true≢false (ap is_lt q))
second_is Equal b q = q
second_is Greater b q = absurd (true≢false (ap is_gt q))

pub unlike_kinds : (c d : SmallCell) (r : Ordering) → r ≡ small_kinds_cmp c d → (small_kind_of c ≡ small_kind_of d → ⊥) → r ≡ small_cmp c d
unlike_kinds c d r e h =
    e
    ∙ decides (small_kinds_cmp c d) (small_within_cmp c d) (λ q. h (nat_cmp-is _ _ (second_is (nat_cmp (degree_of_small c) (degree_of_small d)) (nat_cmp (small_kind_of c) (small_kind_of d)) q)))
    ∙ sym (small_cmp-then c d)

pub unlike_level : (c d : SmallCell) (r : Ordering) → r ≡ nat_cmp (small_kind_of c) (small_kind_of d) → degree_of_small c ≡ degree_of_small d → (small_kind_of c ≡ small_kind_of d → ⊥) → r ≡ small_cmp c d
unlike_level c d r e g h = unlike_kinds c d r (e ∙ sym (in_one_degree (degree_of_small c) (degree_of_small d) (nat_cmp (small_kind_of c) (small_kind_of d)) g)) h

kinds_in : (c d : SmallCell) (x : SmallCell-F SmallCell) → c ≡ roll-SmallCell x → small_kind_of c ≡ small_kind_of d → small_kind_in (out-SmallCell d) ≡ small_kind_in x
kinds_in c d x p e = sym e ∙ ap small_kind_of p ∙ kind-roll x

pub not_one : (c d : SmallCell) (z : Cell) → c ≡ One z → ((y : Cell) → d ≡ One y → ⊥) → small_kind_of c ≡ small_kind_of d → ⊥
not_one c d z p h e = only (out-SmallCell d) (sym (roll-out-SmallCell d)) (kinds_in c d (SmallCell-F.One z) (p ∙ sym (rolls-One z)) e)
  where
    only : (y : SmallCell-F SmallCell) → d ≡ roll-SmallCell y → small_kind_in y ≡ 0 → ⊥
    only (SmallCell-F.One y) q k = h y (q ∙ rolls-One y)
    only y q k = omega (arith, k)

pub not_pair : (c d a x : SmallCell) → c ≡ Pair a x → ((b y : SmallCell) → d ≡ Pair b y → ⊥) → small_kind_of c ≡ small_kind_of d → ⊥
not_pair c d a x p h e = only (out-SmallCell d) (sym (roll-out-SmallCell d)) (kinds_in c d (SmallCell-F.Pair a x) (p ∙ sym (rolls-Pair a x)) e)
  where
    only : (y : SmallCell-F SmallCell) → d ≡ roll-SmallCell y → small_kind_in y ≡ 1 → ⊥
    only (SmallCell-F.Pair b y) q k = h b y (q ∙ rolls-Pair b y)
    only y q k = omega (arith, k)

pub not_up : (c d z : SmallCell) → c ≡ Up z → ((y : SmallCell) → d ≡ Up y → ⊥) → small_kind_of c ≡ small_kind_of d → ⊥
not_up c d z p h e = only (out-SmallCell d) (sym (roll-out-SmallCell d)) (kinds_in c d (SmallCell-F.Up z) (p ∙ sym (rolls-Up z)) e)
  where
    only : (y : SmallCell-F SmallCell) → d ≡ roll-SmallCell y → small_kind_in y ≡ 2 → ⊥
    only (SmallCell-F.Up y) q k = h y (q ∙ rolls-Up y)
    only y q k = omega (arith, k)

pub not_word : (c d : SmallCell) (v : List SmallCell) → c ≡ Word v → ((w : List SmallCell) → d ≡ Word w → ⊥) → small_kind_of c ≡ small_kind_of d → ⊥
not_word c d v p h e = only (out-SmallCell d) (sym (roll-out-SmallCell d)) (kinds_in c d (SmallCell-F.Word v) (p ∙ sym (rolls-Word v)) e)
  where
    only : (y : SmallCell-F SmallCell) → d ≡ roll-SmallCell y → small_kind_in y ≡ 3 → ⊥
    only (SmallCell-F.Word w) q k = h w (q ∙ rolls-Word w)
    only y q k = omega (arith, k)

pub through : (c d y z : SmallCell) (r : Ordering) → c ≡ y → d ≡ z → r ≡ small_cmp y z → r ≡ small_cmp c d
through c d y z r p q h = h ∙ (λ i. small_cmp (sym p i) (sym q i))
