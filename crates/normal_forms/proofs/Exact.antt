-- The orders of the spaces that there is code for: each simplex is equal to itself, and cells that are ordered as equal are one.
use Rattle.std.proofs.Common.{◌≡◌, ℕ, ◌-◌, ◌<◌, false, inl, inr, List, [], ◌∷◌, refl, sym, ◌∙◌, ap, arith, ℤ, true≢false}
use Rattle.std.specs.Prelude.{Some, None}
use Rattle.std.proofs.lemmas.Cmp.{tied_itself, nat_cmp_total, int_cmp_total, nat_list_cmp_total}
use Rattle.std.proofs.lemmas.Map.Lookups.{exact_unsigned}
use Rattle.std.specs.Ordering.{ordering_then, nat_cmp, int_cmp}
use Rattle.std.specs.Cmp.Lexicographic.{slice_cmp}
use Rattle.std.specs.declared.cmp.Ordering.{Ordering}
use Rattle.std.specs.declared.cmp.Ordering.TheVariants.{Equal}
use Rattle.spaces.specs.Simplicial.{IsSimplicial, is_degenerate}
use Rattle.spaces.specs.Tables.{Table, RowSimplex, InTable, table_set, sphere_rows}
use Rattle.spaces.specs.Spaces.{Space, table, sphere, product, suspension, kz1, bundle, loops, paths, kzm1, cyclic_bundle, Plain, set_of}
use Rattle.spaces.specs.Orders.{cell_cmp, plain_cmp, two_cmp, row_cmp}
use Rattle.spaces.specs.Allowed.{Admits}
use Rattle.spaces.proofs.Orders.{plain-apart}
use Rattle.spaces.proofs.SpaceLaws.{space_set_laws}
use Rattle.spaces.proofs.TableDegenerate.{word-degenerate}
use Rattle.normal_forms.specs.Built.{IsBuilt}
use Rattle.normal_forms.proofs.FormsOfCells.{IsExact}
use Rattle.normal_forms.proofs.Suspended.{Bare, bare_of}
use Rattle.normal_forms.proofs.PairedProducts.{product_exact}
use Rattle.normal_forms.proofs.PairedBundles.{bundle_exact}

then_equal : (o r : Ordering) → o ≡ Equal → r ≡ Equal → ordering_then o r ≡ Equal
then_equal o r e f = λ i. ordering_then (e i) (f i)

ints-alike : (x : List ℤ) → slice_cmp int_cmp x x ≡ Equal
ints-alike [] = refl
ints-alike (a ∷ x) = then_equal (int_cmp a a) (slice_cmp int_cmp x x) (tied_itself int_cmp_total a) (ints-alike x)

rows-alike : (y : RowSimplex) → two_cmp (slice_cmp nat_cmp) nat_cmp y y ≡ Equal
rows-alike y = then_equal (slice_cmp nat_cmp y.0 y.0) (nat_cmp y.1 y.1) (tied_itself nat_list_cmp_total y.0) (tied_itself nat_cmp_total y.1)

pub alike : (X : Space) → IsBuilt X → (y : Plain X) → plain_cmp X y y ≡ Equal
alike (table t) built y = rows-alike y
alike (sphere m) built y = rows-alike y
alike (product a b) built y = then_equal (plain_cmp a y.0 y.0) (plain_cmp b y.1 y.1) (alike a built.0 y.0) (alike b built.1 y.1)
alike (suspension a) built None = refl
alike (suspension a) built (Some s) = then_equal (nat_cmp s.0 s.0) (plain_cmp a s.1 s.1) (tied_itself nat_cmp_total s.0) (alike a built s.1)
alike kz1 built y = ints-alike y
alike (bundle t c) built y = then_equal (plain_cmp (table t) y.0 y.0) (plain_cmp kz1 y.1 y.1) (rows-alike y.0) (ints-alike y.1)
alike (loops a) built y = absurd built
alike (paths a) built y = absurd built
alike (kzm1 m) built y = absurd built
alike (cyclic_bundle t m c) built y = absurd built

-- ---- cells that are ordered as equal

abbrev pub Apart : Space → Type 0
Apart X = (n : ℕ) (x y : Plain X) → (set_of X).In n x → (set_of X).In n y → is_degenerate (set_of X) n x ≡ false → is_degenerate (set_of X) n y ≡ false
    → cell_cmp X n x y ≡ Equal → x ≡ y

module _ (t : Table) (laws : IsSimplicial (table_set t)) where
  row_of : (n : ℕ) (x : RowSimplex) → InTable t n x → is_degenerate (table_set t) n x ≡ false → x ≡ ([], x.1)
  row_of n ([], r) is h = refl
  row_of n (j ∷ w, r) is h = absurd (true≢false (sym (word-degenerate t laws n j w r is) ∙ h))

  rows-apart : (n : ℕ) (x y : RowSimplex) → InTable t n x → InTable t n y → is_degenerate (table_set t) n x ≡ false → is_degenerate (table_set t) n y ≡ false
      → row_cmp n x y ≡ Equal → x ≡ y
  rows-apart n x y is js h k e = row_of n x is h ∙ ap (λ r. ([], r)) (exact_unsigned x.1 y.1 e) ∙ sym (row_of n y js k)

up-apart : (a : Space) → Admits (suspension a) → Apart a → Apart (suspension a)
up-apart a allowed apart n x y is js h k e = by (bare_of a allowed n x is h) (bare_of a allowed n y js k)
  where
    by : Bare a allowed n x → Bare a allowed n y → x ≡ y
    by (inl p) (inl q) = p.0 ∙ sym q.0
    by (inl p) (inr q) = absurd (let l : 1 < n = q.high in omega (arith, l, p.1))
    by (inr p) (inl q) = absurd (let l : 1 < n = p.high in omega (arith, l, q.1))
    by (inr p) (inr q) =
        let f : cell_cmp a (n - 1) p.under q.under ≡ Equal = (λ i. cell_cmp (suspension a) n (sym p.is i) (sym q.is i)) ∙ e in
        p.is ∙ ap (λ z. Some (0, z)) (apart (n - 1) p.under q.under p.is_in q.is_in p.bare q.bare f) ∙ sym q.is

-- the exactness of the parts of a pair
exact_by : (X : Space) (is : Admits X) → IsBuilt X → Apart X → IsExact X (space_set_laws X is)
exact_by X is built apart = record { alike = alike X built; apart = apart }

pub cells-apart : (X : Space) → Admits X → IsBuilt X → Apart X
cells-apart (table t) is built = rows-apart t (space_set_laws (table t) is)
cells-apart (sphere m) is built = rows-apart (sphere_rows m) (space_set_laws (sphere m) is)
cells-apart (product a b) is built =
    (product_exact a b (space_set_laws a is.0) (space_set_laws b is.1) (exact_by a is.0 built.0 (cells-apart a is.0 built.0))
    (exact_by b is.1 built.1 (cells-apart b is.1 built.1)) (space_set_laws (product a b) is)).apart
cells-apart (suspension a) is built = up-apart a is (cells-apart a is.0 built)
cells-apart kz1 is built = λ n x y ix iy h k e. plain-apart kz1 x y e
cells-apart (bundle t c) is built =
    (bundle_exact t c (space_set_laws (table t) is.0) (space_set_laws kz1 tt) (exact_by (table t) is.0 tt (rows-apart t (space_set_laws (table t) is.0)))
    (exact_by kz1 tt tt (λ n x y ix iy h k e. plain-apart kz1 x y e)) (space_set_laws (bundle t c) is)).apart
cells-apart (loops a) is built = absurd built
cells-apart (paths a) is built = absurd built
cells-apart (kzm1 m) is built = absurd built
cells-apart (cyclic_bundle t m c) is built = absurd built

pub exact_order : (X : Space) (is : Admits X) → IsBuilt X → IsExact X (space_set_laws X is)
exact_order X is built = exact_by X is built (cells-apart X is built)
