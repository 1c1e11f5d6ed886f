-- The orders of small cells are total, and put lower degrees first.
use Rattle.std.proofs.Common.{◌≡◌, ℕ, ◌+◌, ◌<◌, length, refl, sym, ap, arith, true≢false}
use Rattle.std.specs.Prelude.{Option, Some, None}
use Rattle.std.specs.Ordering.{is_lt, is_gt, is_eq, ordering_then, ordering_reverse, nat_cmp, int_cmp}
use Rattle.std.specs.declared.cmp.Ordering.{Ordering}
use Rattle.std.specs.declared.cmp.Ordering.TheVariants.{Less, Equal}
use Rattle.std.specs.Cmp.{IsTotalOrder, IsEquivalence, nat_cmp_is}
use Rattle.std.specs.Cmp.Lexicographic.{slice_cmp}
use Rattle.std.proofs.lemmas.Cmp.{nat_cmp_total, int_cmp_total, on_total, then_total, lists_total, eq_by_cmp_equiv}
use Rattle.spaces.specs.Tables.{sphere_rows}
use Rattle.spaces.specs.Spaces.{Space, table, sphere, product, suspension, kz1, bundle, loops, paths, kzm1, cyclic_bundle}
use Rattle.spaces.specs.SmallCells.{Small, small_cmp, small_degree, word_degree, row_dim, degree_then, both_cmp, suspended_small_cmp}

-- ---- total orders

degree_total : {S : Type 0} (degree : S → ℕ) (cmp : S → S → Ordering) → IsTotalOrder cmp → IsTotalOrder (degree_then degree cmp)
degree_total degree cmp o = then_total (on_total degree nat_cmp_total) o

both_total : {S T : Type 0} {s : S → S → Ordering} {t : T → T → Ordering} → IsTotalOrder s → IsTotalOrder t → IsTotalOrder (both_cmp s t)
both_total o r = then_total (on_total (λ x. x.0) o) (on_total (λ x. x.1) r)

module _ {S : Type 0} {s : S → S → Ordering} (o : IsTotalOrder s) where
  suspended_antisymm : (x y : Option S) → suspended_small_cmp s x y ≡ ordering_reverse (suspended_small_cmp s y x)
  suspended_antisymm None None = refl
  suspended_antisymm None (Some y) = refl
  suspended_antisymm (Some x) None = refl
  suspended_antisymm (Some x) (Some y) = o.antisymm x y

  suspended_trans : (x y z : Option S) → suspended_small_cmp s x y ≡ Less → suspended_small_cmp s y z ≡ Less → suspended_small_cmp s x z ≡ Less
  suspended_trans None None z h g = absurd (true≢false (sym (ap is_lt h)))
  suspended_trans None (Some y) None h g = absurd (true≢false (ap is_gt g))
  suspended_trans None (Some y) (Some z) h g = refl
  suspended_trans (Some x) None z h g = absurd (true≢false (ap is_gt h))
  suspended_trans (Some x) (Some y) None h g = absurd (true≢false (ap is_gt g))
  suspended_trans (Some x) (Some y) (Some z) h g = o.trans x y z h g

  suspended_congr : (x y z : Option S) → suspended_small_cmp s x y ≡ Equal → suspended_small_cmp s x z ≡ suspended_small_cmp s y z
  suspended_congr None None z h = refl
  suspended_congr None (Some y) z h = absurd (true≢false (ap is_lt h))
  suspended_congr (Some x) None z h = absurd (true≢false (ap is_gt h))
  suspended_congr (Some x) (Some y) None h = refl
  suspended_congr (Some x) (Some y) (Some z) h = o.congr x y z h

  suspended_total : IsTotalOrder (suspended_small_cmp s)
  suspended_total = record { antisymm = suspended_antisymm; trans = suspended_trans; congr = suspended_congr }

row_total : (degree : ℕ → ℕ) → IsTotalOrder (degree_then degree nat_cmp)
row_total degree = degree_total degree nat_cmp nat_cmp_total

pub small-total : (a : Space) → IsTotalOrder (small_cmp a)
small-total (table t) = row_total (row_dim t)
small-total (sphere m) = row_total (row_dim (sphere_rows m))
small-total (product a b) = degree_total (λ y. small_degree a y.0 + small_degree b y.1) (both_cmp (small_cmp a) (small_cmp b)) (both_total (small-total a) (small-total b))
small-total (suspension a) = suspended_total (small-total a)
small-total kz1 = degree_total length (slice_cmp int_cmp) (lists_total int_cmp_total)
small-total (bundle t c) =
    degree_total (λ y. row_dim t y.0 + length y.1) (both_cmp (degree_then (row_dim t) nat_cmp) (degree_then length (slice_cmp int_cmp)))
    (both_total (row_total (row_dim t)) (degree_total length (slice_cmp int_cmp) (lists_total int_cmp_total)))
small-total (loops a) = degree_total (word_degree (small_degree a)) (slice_cmp (small_cmp a)) (lists_total (small-total a))
small-total (paths a) =
    degree_total (λ y. small_degree a y.0 + word_degree (small_degree a) y.1) (both_cmp (small_cmp a) (degree_then (word_degree (small_degree a)) (slice_cmp (small_cmp a))))
    (both_total (small-total a) (degree_total (word_degree (small_degree a)) (slice_cmp (small_cmp a)) (lists_total (small-total a))))
small-total (kzm1 m) = degree_total length (slice_cmp nat_cmp) (lists_total nat_cmp_total)
small-total (cyclic_bundle t m c) =
    degree_total (λ y. row_dim t y.0 + length y.1) (both_cmp (degree_then (row_dim t) nat_cmp) (degree_then length (slice_cmp nat_cmp)))
    (both_total (row_total (row_dim t)) (degree_total length (slice_cmp nat_cmp) (lists_total nat_cmp_total)))

pub small-equivalence : (a : Space) → IsEquivalence (λ x y. is_eq (small_cmp a x y))
small-equivalence a = eq_by_cmp_equiv (small-total a)

-- ---- degrees

pub less-nat : (m n : ℕ) → m < n → nat_cmp m n ≡ Less
less-nat m n l = sym (nat_cmp_is m n Less l)

pub equal-nat : (m n : ℕ) → m ≡ n → nat_cmp m n ≡ Equal
equal-nat m n e = sym (nat_cmp_is m n Equal e)

module _ {S : Type 0} (degree : S → ℕ) (cmp : S → S → Ordering) where
  lower_first : (x y : S) → degree x < degree y → degree_then degree cmp x y ≡ Less
  lower_first x y l = ap (λ o. ordering_then o (cmp x y)) (less-nat (degree x) (degree y) l)

  -- within one degree the second order decides
  pub in_degree : (x y : S) → degree x ≡ degree y → degree_then degree cmp x y ≡ cmp x y
  in_degree x y e = ap (λ o. ordering_then o (cmp x y)) (equal-nat (degree x) (degree y) e)

pub lower-first : (a : Space) (x y : Small a) → small_degree a x < small_degree a y → small_cmp a x y ≡ Less
lower-first (table t) x y l = lower_first (row_dim t) nat_cmp x y l
lower-first (sphere m) x y l = lower_first (row_dim (sphere_rows m)) nat_cmp x y l
lower-first (product a b) x y l = lower_first (λ z. small_degree a z.0 + small_degree b z.1) (both_cmp (small_cmp a) (small_cmp b)) x y l
lower-first (suspension a) None None l = absurd (omega arith)
lower-first (suspension a) None (Some y) l = refl
lower-first (suspension a) (Some x) None l = absurd (omega arith)
lower-first (suspension a) (Some x) (Some y) l = lower-first a x y (omega arith)
lower-first kz1 x y l = lower_first length (slice_cmp int_cmp) x y l
lower-first (bundle t c) x y l =
    lower_first (λ z. row_dim t z.0 + length z.1) (both_cmp (degree_then (row_dim t) nat_cmp) (degree_then length (slice_cmp int_cmp))) x y l
lower-first (loops a) x y l = lower_first (word_degree (small_degree a)) (slice_cmp (small_cmp a)) x y l
lower-first (paths a) x y l =
    lower_first (λ z. small_degree a z.0 + word_degree (small_degree a) z.1)
    (both_cmp (small_cmp a) (degree_then (word_degree (small_degree a)) (slice_cmp (small_cmp a)))) x y l
lower-first (kzm1 m) x y l = lower_first length (slice_cmp nat_cmp) x y l
lower-first (cyclic_bundle t m c) x y l =
    lower_first (λ z. row_dim t z.0 + length z.1) (both_cmp (degree_then (row_dim t) nat_cmp) (degree_then length (slice_cmp nat_cmp))) x y l
