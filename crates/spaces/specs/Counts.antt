-- The number of vertices of a space, and the lowest positive degree with a simplex that is not degenerate, by recursion on the space
-- (any text on simplicial sets).
--
-- A bundle has an edge of the fibre over each vertex of its base. A suspension moves the simplices of its part up by one degree, a loop
-- group moves them down.
--
--   the product of two spheres of dimensions 2 and 3 has 1 vertex and the low Some 2, its loop group the low Some 1
use Rattle.std.specs.Prelude.{◌≡◌, ℕ, zero, suc, ◌*◌, ◌-◌, ◌<◌, ◌==◌, min, true, false, List, [], ◌∷◌, length, Option, Some, None}
use Rattle.std.specs.List.{All, AllPairs, Contains, count_by}
use Rattle.std.specs.Option.{option_map}
use Rattle.spaces.specs.Simplicial.{Simplicial, is_degenerate}
use Rattle.spaces.specs.Tables.{Table}
use Rattle.spaces.specs.Spaces.{Space, table, sphere, product, suspension, kz1, bundle, loops, paths, kzm1, cyclic_bundle}

-- the number of rows of dimension 0
abbrev pub vertex_rows : Table → ℕ
vertex_rows t = count_by (λ r. r.dim == 0) t

abbrev pub vertex_count : Space → ℕ
vertex_count (table t) = vertex_rows t
vertex_count (sphere m) = 1
vertex_count (product a b) = vertex_count a * vertex_count b
vertex_count (suspension a) = 1
vertex_count kz1 = 1
vertex_count (bundle t c) = vertex_rows t
vertex_count (loops a) = 1
vertex_count (paths a) = vertex_count a
vertex_count (kzm1 m) = 1
vertex_count (cyclic_bundle t m c) = vertex_rows t

-- the lesser of two numbers, None standing for no number
abbrev pub lesser : Option ℕ → Option ℕ → Option ℕ
lesser None b = b
lesser (Some m) None = Some m
lesser (Some m) (Some n) = Some (min m n)

-- the least positive dimension of a row
abbrev pub row_low : ℕ → Option ℕ → Option ℕ
row_low zero low = low
row_low (suc d) low = lesser (Some (suc d)) low

abbrev pub table_low : Table → Option ℕ
table_low [] = None
table_low (r ∷ t) = row_low r.dim (table_low t)

abbrev pub low_of : Space → Option ℕ
low_of (table t) = table_low t
low_of (sphere m) = Some m
low_of (product a b) = lesser (low_of a) (low_of b)
low_of (suspension a) = option_map suc (low_of a)
low_of kz1 = Some 1
low_of (bundle t c) = Some 1
low_of (loops a) = option_map (λ n. n - 1) (low_of a)
low_of (paths a) = lesser (low_of a) (option_map (λ n. n - 1) (low_of a))
low_of (kzm1 m) = Some 1
low_of (cyclic_bundle t m c) = Some 1

-- there are exactly n simplices of degree 0
pub record HasVertices {K : Type 0} (X : Simplicial K) (n : ℕ) : Type 0 where
  pub vertices : List K
  pub counted : length vertices ≡ n
  pub are_vertices : All (X.In 0) vertices
  pub differ : AllPairs (λ x y. x ≡ y → ⊥) vertices
  pub every : (x : K) → X.In 0 x → Contains vertices x

-- the degree n is the lowest positive one with a simplex that is not degenerate
pub record IsLowest {K : Type 0} (X : Simplicial K) (n : ℕ) : Type 0 where
  pub positive : 0 < n
  pub simplex : K
  pub is_in : X.In n simplex
  pub not_degenerate : is_degenerate X n simplex ≡ false
  pub below : (k : ℕ) (x : K) → 0 < k → k < n → X.In k x → is_degenerate X k x ≡ true

-- None says that each simplex of positive degree is degenerate
abbrev pub IsLow : {K : Type 0} → Simplicial K → Option ℕ → Type 0
IsLow {K} X None = (k : ℕ) (x : K) → 0 < k → X.In k x → is_degenerate X k x ≡ true
IsLow {K} X (Some n) = IsLowest X n
