-- The lowest positive degree of each allowed space with a simplex that is not degenerate.
use Rattle.std.proofs.Common.{◌≡◌, ℕ, zero, suc, ◌+◌, ◌-◌, ◌<◌, ◌≤◌, List, [], length, Option, Some, None, ◌⊎◌, inl, inr, refl, sym, ◌∙◌, ap, subst, arith, true≢false}
use Rattle.std.proofs.lemmas.Bool.{cases_lt}
use Rattle.std.specs.Prelude.{pos, min, ◌↔◌}
use Rattle.std.specs.Option.{option_map}
use Rattle.std.proofs.lemmas.List.Elements.{All-nil}
use Rattle.spaces.specs.Simplicial.{Simplicial, IsSimplicial}
use Rattle.spaces.specs.Tables.{Table, RowSimplex, InTable, row_at, row_degeneracy, table_set, sphere_rows}
use Rattle.spaces.specs.Nerves.{Abelian, integers, integers_modulo, nerve_set, nerve_degeneracy}
use Rattle.spaces.specs.LoopGroups.{loop_set}
use Rattle.spaces.specs.Spaces.{Space, Plain, table, sphere, product, suspension, kz1, bundle, loops, paths, kzm1, cyclic_bundle, is_base, set_of}
use Rattle.spaces.specs.Allowed.{Admits, IsTable, HasNoEdge}
use Rattle.spaces.specs.Counts.{lesser, row_low, low_of, table_low, IsLowest, IsLow}
use Rattle.spaces.proofs.Bases.{space_base}
use Rattle.spaces.proofs.SpaceLaws.{space_set_laws}
use Rattle.spaces.proofs.Lows.{vertex_of, pair_low}
use Rattle.spaces.proofs.TableLow.{table_lowest}
use Rattle.spaces.proofs.MovedLows.{nerve_lowest, suspension_low, loop_low}

-- ---- a vertex

row_vertex : (t : Table) → IsSimplicial (table_set t) → 0 < length t → (v : RowSimplex) × InTable t 0 v
row_vertex t laws h =
    let d : (row_at t 0).dim + 0 ≡ (row_at t 0).dim = omega arith in
    vertex_of (table_set t) laws (row_at t 0).dim ([], 0) (record { row = h; degree = d; word = tt })

some_vertex : (a : Space) → Admits a → (v : Plain a) × (set_of a).In 0 v
some_vertex (table t) is = row_vertex t (space_set_laws (table t) is) is.some_row
some_vertex (sphere m) is = row_vertex (sphere_rows m) (space_set_laws (sphere m) is) (omega arith)
some_vertex (product a b) is = let u = some_vertex a is.0 in let v = some_vertex b is.1 in ((u.0, v.0), (u.1, v.1))
some_vertex (suspension a) is = (None, tt)
some_vertex kz1 is = ([], (refl, All-nil integers.Is))
some_vertex (bundle t c) is =
    let u = row_vertex t (space_set_laws (table t) is.0) is.0.some_row in ((u.0, []), (u.1, (refl, All-nil integers.Is)))
some_vertex (loops a) is = ([], (tt, refl))
some_vertex (paths a) is = let u = some_vertex a is.0 in ((u.0, []), (u.1, (tt, refl)))
some_vertex (kzm1 m) is = ([], (refl, All-nil (integers_modulo m).Is))
some_vertex (cyclic_bundle t m c) is =
    let u = row_vertex t (space_set_laws (table t) is.0) is.0.some_row in ((u.0, []), (u.1, (refl, All-nil (integers_modulo m).Is)))

-- ---- the low of each space

one_row : (m : ℕ) → 0 < m → row_low m None ≡ Some m
one_row zero h = absurd (omega arith)
one_row (suc m) h = refl

lesser_one : {K : Type 0} (X : Simplicial K) (low : Option ℕ) → IsLow X low → lesser low (Some 1) ≡ Some 1
lesser_one X None is = refl
lesser_one X (Some n) is = let p : 0 < n = is.positive in let e : min n 1 ≡ 1 = omega arith in ap Some e

bundle_low : {G : Type 0} (group : Abelian G) (t : Table) (P : Simplicial (RowSimplex × List G)) → IsTable t → IsSimplicial (table_set t) → IsSimplicial (nerve_set group)
    → IsSimplicial P → ((n : ℕ) (x : RowSimplex × List G) → P.In n x → InTable t n x.0 × (nerve_set group).In n x.1)
    → ((n : ℕ) (x : RowSimplex × List G) → InTable t n x.0 × (nerve_set group).In n x.1 → P.In n x)
    → ((j : ℕ) (x : RowSimplex × List G) → P.degeneracy j x ≡ (row_degeneracy j x.0, nerve_degeneracy group j x.1)) → IsLowest (nerve_set group) 1 → IsLowest P 1
bundle_low group t P is base fibre laws splits joins degeneracies low =
    let u = row_vertex t base is.some_row in
    let rows = table_lowest t base in
    subst (IsLow P) (lesser_one (table_set t) (table_low t) rows)
    (pair_low (table_set t) (nerve_set group) P base fibre laws splits joins degeneracies u.0 u.1 [] (refl, All-nil group.Is) (table_low t) (Some 1) rows low)

residue_lowest : (m : ℕ) → 2 ≤ m → IsLowest (nerve_set (integers_modulo m)) 1
residue_lowest m h = nerve_lowest (integers_modulo m) 1 (let l : 1 < m = omega arith in l) refl

pub space_low : (a : Space) → Admits a → IsLow (set_of a) (low_of a)
space_low (table t) is = table_lowest t (space_set_laws (table t) is)
space_low (sphere m) is = subst (IsLow (table_set (sphere_rows m))) (one_row m is.0) (table_lowest (sphere_rows m) (space_set_laws (sphere m) is))
space_low (product a b) is =
    let u = some_vertex a is.0 in
    let v = some_vertex b is.1 in
    pair_low (set_of a) (set_of b) (set_of (product a b)) (space_set_laws a is.0) (space_set_laws b is.1) (space_set_laws (product a b) is) (λ n x h. h) (λ n x h. h)
    (λ j x. refl) u.0 u.1 v.0 v.1 (low_of a) (low_of b) (space_low a is.0) (space_low b is.1)
space_low (suspension a) is =
    suspension_low (set_of a) (is_base a) (space_set_laws a is.0) (space_base a is.0) (space_set_laws (suspension a) is) (low_of a) (space_low a is.0)
space_low kz1 is = nerve_lowest integers (pos 1) tt refl
space_low (bundle t c) is =
    bundle_low integers t (set_of (bundle t c)) is.0 (space_set_laws (table t) is.0) (space_set_laws kz1 tt) (space_set_laws (bundle t c) is) (λ n x h. h) (λ n x h. h)
    (λ j x. refl) (nerve_lowest integers (pos 1) tt refl)
space_low (loops a) is = loop_low (set_of a) (space_set_laws a is.0) (space_set_laws (loops a) is) is.2 (low_of a) (space_low a is.0)
space_low (paths a) is =
    let u = some_vertex a is.0 in
    let low = space_low a is.0 in
    let words = space_set_laws (loops a) is in
    pair_low (set_of a) (loop_set (set_of a)) (set_of (paths a)) (space_set_laws a is.0) words (space_set_laws (paths a) is) (λ n x h. h) (λ n x h. h) (λ j x. refl) u.0 u.1 []
    (tt, refl) (low_of a) (option_map (λ n. n - 1) (low_of a)) low (loop_low (set_of a) (space_set_laws a is.0) words is.2 (low_of a) low)
space_low (kzm1 m) is = residue_lowest m is.0
space_low (cyclic_bundle t m c) is =
    bundle_low (integers_modulo m) t (set_of (cyclic_bundle t m c)) is.0 (space_set_laws (table t) is.0) (space_set_laws (kzm1 m) (is.2, is.3)) (space_set_laws (cyclic_bundle t m c) is)
    (λ n x h. h) (λ n x h. h) (λ j x. refl) (residue_lowest m is.2)

-- ---- edges

edges_not : {K : Type 0} (X : Simplicial K) (low : Option ℕ) → IsLow X low → HasNoEdge X → low ≡ Some 1 → ⊥
edges_not X low is edges e = let s : IsLowest X 1 = subst (IsLow X) e is in true≢false (sym (edges s.simplex s.is_in) ∙ s.not_degenerate)

edges_from : {K : Type 0} (X : Simplicial K) (low : Option ℕ) → IsLow X low → (low ≡ Some 1 → ⊥) → HasNoEdge X
edges_from X None is h = λ x ix. is 1 x (omega arith) ix
edges_from X (Some n) is h = by (cases_lt 1 n)
  where
    by : (1 < n) ⊎ (n ≤ 1) → HasNoEdge X
    by (inl l) = λ x ix. is.below 1 x (omega arith) l ix
    by (inr l) = let p : 0 < n = is.positive in let e : n ≡ 1 = omega arith in absurd (h (ap Some e))

pub no_edge : (a : Space) → Admits a → HasNoEdge (set_of a) ↔ (low_of a ≡ Some 1 → ⊥)
no_edge a is = (edges_not (set_of a) (low_of a) (space_low a is), edges_from (set_of a) (low_of a) (space_low a is))
