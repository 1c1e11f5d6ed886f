-- The order of the small cells of each space is a total order.
use Rattle.std.proofs.Common.{◌≡◌, ℕ, ◌+◌, length, refl, subst}
use Rattle.std.specs.Prelude.{Option, Some, None}
use Rattle.std.specs.declared.cmp.Ordering.{Ordering}
use Rattle.std.specs.Cmp.{IsTotalOrder, nat_cmp_total, int_cmp_total, on_total, then_total}
use Rattle.std.specs.Cmp.Lexicographic.{lists_total, options_total}
use Rattle.std.specs.Option.{option_cmp}
use Rattle.spaces.specs.Tables.{sphere_rows}
use Rattle.spaces.specs.Spaces.{Space, table, sphere, product, suspension, kz1, bundle, loops, paths, kzm1, cyclic_bundle}
use Rattle.spaces.specs.SmallCells.{small_degree, small_cmp, row_dim, word_degree, degree_then, both_cmp, suspended_small_cmp}

degree-total : {S : Type 0} (degree : S → ℕ) {cmp : S → S → Ordering} → IsTotalOrder cmp → IsTotalOrder (degree_then degree cmp)
degree-total degree o = then_total (on_total degree nat_cmp_total) o

both-total : {S T : Type 0} {s : S → S → Ordering} {t : T → T → Ordering} → IsTotalOrder s → IsTotalOrder t → IsTotalOrder (both_cmp s t)
both-total {S} {T} o q = then_total (on_total (λ (x : S × T). x.0) o) (on_total (λ (x : S × T). x.1) q)

suspended-total : {S : Type 0} {s : S → S → Ordering} → IsTotalOrder s → IsTotalOrder (suspended_small_cmp s)
suspended-total {S} {s} o = subst IsTotalOrder (λ i x y. same x y i) (options_total o)
  where
    same : (x y : Option S) → option_cmp s x y ≡ suspended_small_cmp s x y
    same None None = refl
    same None (Some y) = refl
    same (Some x) None = refl
    same (Some x) (Some y) = refl

pub small-total : (a : Space) → IsTotalOrder (small_cmp a)
small-total (table t) = degree-total (row_dim t) nat_cmp_total
small-total (sphere m) = degree-total (row_dim (sphere_rows m)) nat_cmp_total
small-total (product a b) = degree-total (λ y. small_degree a y.0 + small_degree b y.1) (both-total (small-total a) (small-total b))
small-total (suspension a) = suspended-total (small-total a)
small-total kz1 = degree-total length (lists_total int_cmp_total)
small-total (bundle t c) =
    degree-total (λ y. row_dim t y.0 + length y.1) (both-total (degree-total (row_dim t) nat_cmp_total) (degree-total length (lists_total int_cmp_total)))
small-total (loops a) = degree-total (word_degree (small_degree a)) (lists_total (small-total a))
small-total (paths a) =
    degree-total (λ y. small_degree a y.0 + word_degree (small_degree a) y.1)
    (both-total (small-total a) (degree-total (word_degree (small_degree a)) (lists_total (small-total a))))
small-total (kzm1 m) = degree-total length (lists_total nat_cmp_total)
small-total (cyclic_bundle t m c) =
    degree-total (λ y. row_dim t y.0 + length y.1) (both-total (degree-total (row_dim t) nat_cmp_total) (degree-total length (lists_total nat_cmp_total)))
