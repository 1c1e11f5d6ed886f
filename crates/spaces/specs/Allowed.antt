-- Which tables and spaces are meant: the face laws of tables, cocycles of bundles, and the conditions of suspensions, loop groups and
-- path spaces on their part.
use Rattle.std.specs.Prelude.{◌≡◌, ℕ, zero, suc, ◌<◌, ◌≤◌, max, true, List, [], length, pos, nat_abs}
use Rattle.spaces.specs.Simplicial.{Simplicial, is_degenerate}
use Rattle.spaces.specs.Tables.{Table, entry, row_at, listed_face, row_face, InTable}
use Rattle.spaces.specs.Nerves.{Abelian, integers, integers_modulo}
use Rattle.spaces.specs.Cocycles.{cocycle}
use Rattle.spaces.specs.Spaces.{Space, table, sphere, product, suspension, kz1, bundle, loops, paths, kzm1, cyclic_bundle, set_of}

-- a vertex has no faces, a row of dimension n above 0 has n + 1
abbrev pub face_count : ℕ → ℕ
face_count zero = 0
face_count (suc n) = suc (suc n)

-- the faces of each row are simplices one degree below, with d_j d_(i+1) = d_i d_j for j at most i
pub record HasFaces (t : Table) : Type 0 where
  pub counted : (r : ℕ) → r < length t → length (row_at t r).faces ≡ face_count (row_at t r).dim
  pub faces_in : (r n i : ℕ) → r < length t → (row_at t r).dim ≡ suc n → i ≤ suc n → InTable t n (row_face t i ([], r))
  pub face_law : (r n i j : ℕ) → r < length t → (row_at t r).dim ≡ suc (suc n) → j ≤ i → i ≤ suc n
      → row_face t j (row_face t (suc i) ([], r)) ≡ row_face t i (row_face t j ([], r))

pub record IsTable (t : Table) : Type 0 where
  pub some_row : 0 < length t
  pub at_most : length t ≤ 256
  pub low : (r : ℕ) → r < length t → (row_at t r).dim ≤ 16
  pub names_differ : (r s : ℕ) → r < length t → s < length t → (row_at t r).name ≡ (row_at t s).name → r ≡ s
  -- a face is a simplex on an earlier row
  pub earlier : (r i : ℕ) → r < length t → i < length (row_at t r).faces → (listed_face t i r).1 < r
  pub faces : HasFaces t
  pub open faces use *

-- One value for each row, 0 where it is not of dimension 2, and c(d_0) - c(d_1) + c(d_2) - c(d_3) = 0 on each row of dimension 3.
pub record IsCocycle {G : Type 0} (group : Abelian G) (t : Table) (values : List G) : Type 0 where
  pub as_long : length values ≡ length t
  pub is_in : (r : ℕ) → r < length t → group.Is (entry group.none values r)
  pub elsewhere : (r : ℕ) → r < length t → ((row_at t r).dim ≡ 2 → ⊥) → entry group.none values r ≡ group.none
  pub closed : (r : ℕ) → r < length t → (row_at t r).dim ≡ 3
      → group.plus (group.plus (cocycle group t values (row_face t 0 ([], r))) (group.negative (cocycle group t values (row_face t 1 ([], r)))))
      (group.plus (cocycle group t values (row_face t 2 ([], r))) (group.negative (cocycle group t values (row_face t 3 ([], r)))))
      ≡ group.none

-- exactly one simplex of degree 0
abbrev pub HasOneVertex : {K : Type 0} → Simplicial K → Type 0
HasOneVertex {K} X = (v : K) × X.In 0 v × ((x : K) → X.In 0 x → x ≡ v)

-- no simplex of degree 1 but degenerate ones
abbrev pub HasNoEdge : {K : Type 0} → Simplicial K → Type 0
HasNoEdge {K} X = (x : K) → X.In 1 x → is_degenerate X 1 x ≡ true

abbrev pub space_depth : Space → ℕ
space_depth (table t) = 1
space_depth (sphere m) = 1
space_depth (product a b) = suc (max (space_depth a) (space_depth b))
space_depth (suspension a) = suc (space_depth a)
space_depth kz1 = 1
space_depth (bundle t c) = 2
space_depth (loops a) = suc (space_depth a)
space_depth (paths a) = suc (space_depth a)
space_depth (kzm1 m) = 1
space_depth (cyclic_bundle t m c) = 2

-- the condition at each node of a space
abbrev pub Admits : Space → Type 0
Admits (table t) = IsTable t
Admits (sphere m) = (0 < m) × (m ≤ 16)
Admits (product a b) = Admits a × Admits b
Admits (suspension a) = Admits a × HasOneVertex (set_of a)
Admits kz1 = Unit {0}
Admits (bundle t c) = IsTable t × IsCocycle integers t c × ((r : ℕ) → nat_abs (entry (pos 0) c r) ≤ 100000)
Admits (loops a) = Admits a × HasOneVertex (set_of a) × HasNoEdge (set_of a)
Admits (paths a) = Admits a × HasOneVertex (set_of a) × HasNoEdge (set_of a)
Admits (kzm1 m) = (2 ≤ m) × (m ≤ 5)
Admits (cyclic_bundle t m c) = IsTable t × IsCocycle (integers_modulo m) t c × (2 ≤ m) × (m ≤ 5)

abbrev pub IsAllowed : Space → Type 0
IsAllowed a = Admits a × (space_depth a ≤ 8)
