-- The simplices of the code are those of the space, where there is code for the space, by recursion on the space.
use Rattle.std.proofs.Common.{ℕ, ◌-◌, ◌≤◌, arith}
use Rattle.spaces.specs.Allowed.{IsAllowed, Admits}
use Rattle.spaces.specs.Spaces.{Space, table, sphere, product, suspension, kz1, bundle, loops, paths, kzm1, cyclic_bundle}
use Rattle.spaces.specs.Nerves.{integers}
use Rattle.spaces.proofs.Integers.{integers_abelian}
use Rattle.spaces.proofs.CocycleTwist.{cocycle_is_twisting}
use Rattle.spaces.proofs.SpaceLaws.{space_set_laws}
use Rattle.term_lang.specs.NormalForms.{HasNormalForms}
use Rattle.term_lang.proofs.TableForms.{table_forms}
use Rattle.term_lang.proofs.SphereForms.{sphere_forms}
use Rattle.term_lang.proofs.NormalCells.{normal_cells}
use Rattle.oracle_iface.specs.KeyLaws.{HasCells}
use Rattle.normal_forms.specs.Built.{IsBuilt}
use Rattle.kz1_group.proofs.ListForms.{integers_cells}
use Rattle.normal_forms.proofs.FormsOfCells.{forms_of_cells}
use Rattle.normal_forms.proofs.Suspended.{suspended_cells}
use Rattle.normal_forms.proofs.Exact.{exact_order}
use Rattle.normal_forms.proofs.PairedProducts.{product_cells}
use Rattle.normal_forms.proofs.PairedBundles.{bundle_cells}

pub cells_of : (X : Space) → Admits X → IsBuilt X → HasCells X
cells_of (table t) is built n h = normal_cells (table t) n h (table_forms t is n h)
cells_of (sphere m) is built n h = normal_cells (sphere m) n h (sphere_forms m is.0 n h)
cells_of (product a b) is built n h =
    product_cells a b (space_set_laws a is.0) (space_set_laws b is.1) (exact_order a is.0 built.0) (exact_order b is.1 built.1)
    (space_set_laws (product a b) is) n h (λ m l. cells_of a is.0 built.0 m (omega (arith, h, l))) (λ m l. cells_of b is.1 built.1 m (omega (arith, h, l)))
cells_of (suspension a) is built n h = suspended_cells a is n h (cells_of a is.0 built (n - 1) (omega (arith, h)))
cells_of kz1 is built n h = integers_cells n h
cells_of (bundle t c) is built n h =
    bundle_cells t c (space_set_laws (table t) is.0) (space_set_laws kz1 tt) (exact_order (table t) is.0 tt) (exact_order kz1 tt tt)
    (space_set_laws (bundle t c) is) (cocycle_is_twisting integers t c (space_set_laws (table t) is.0) integers_abelian is.1) n h
    (λ m l. let k : m ≤ 32 = omega (arith, h, l) in normal_cells (table t) m k (table_forms t is.0 m k))
    (λ m l. integers_cells m (omega (arith, h, l)))
cells_of (loops a) is built n h = absurd built
cells_of (paths a) is built n h = absurd built
cells_of (kzm1 m) is built n h = absurd built
cells_of (cyclic_bundle t m c) is built n h = absurd built

pub built_cells : (X : Space) → IsAllowed X → IsBuilt X → HasCells X
built_cells X is built = cells_of X is.0 built

pub built_forms : (X : Space) → IsAllowed X → IsBuilt X → (n : ℕ) → n ≤ 32 → HasNormalForms X n
built_forms X is built n h =
    forms_of_cells X (space_set_laws X is.0) n h (λ m l. cells_of X is.0 built m (omega (arith, h, l))) (exact_order X is.0 built)
