-- The vertices of each allowed space.
use Rattle.std.proofs.Common.{◌≡◌, ℕ, suc, ◌+◌, ◌*◌, ◌<◌, cond, List, [], ◌∷◌, length, Some, None, inl, inr, refl, sym, ◌∙◌, ap, subst, arith}
use Rattle.std.specs.Prelude.{map, ◌↔◌}
use Rattle.std.proofs.lemmas.List.{length-map}
use Rattle.std.proofs.lemmas.List.Elements.{All-nil}
use Rattle.simp_ops.proofs.PlacesOf.{not_eq}
use Rattle.spaces.specs.Simplicial.{Simplicial}
use Rattle.spaces.specs.Tables.{Table, RowSimplex, InTable, row_at, table_set, sphere_rows}
use Rattle.spaces.specs.Nerves.{Abelian, nerve_set, integers, integers_modulo}
use Rattle.spaces.specs.LoopGroups.{loop_set, Letter}
use Rattle.spaces.specs.Spaces.{Space, table, sphere, product, suspension, kz1, bundle, loops, paths, kzm1, cyclic_bundle, set_of}
use Rattle.spaces.specs.Allowed.{Admits, HasOneVertex, HasNoEdge}
use Rattle.spaces.specs.Counts.{vertex_rows, vertex_count, HasVertices}
use Rattle.spaces.proofs.LoopBase.{no_letter}
use Rattle.spaces.proofs.VertexLists.{Member, Distinct, contains_of, all_of, distinct_pairs, member-map, member_map, distinct-map, pairs, length-pairs, member-pairs, member_pairs, distinct-pairs, rows_from, length-rows, member-rows, member_rows, distinct-rows}

-- the vertices, by recursion on their list
record VertexList {K : Type 0} (X : Simplicial K) (n : ℕ) : Type 0 where
  vertices : List K
  counted : length vertices ≡ n
  distinct : Distinct vertices
  are_in : (x : K) → Member x vertices → X.In 0 x
  every : (x : K) → X.In 0 x → Member x vertices

counted_as : {K : Type 0} (X : Simplicial K) (m n : ℕ) → m ≡ n → VertexList X m → VertexList X n
counted_as X m n e l = subst (VertexList X) e l

vertex_list : {K : Type 0} (X : Simplicial K) (n : ℕ) → VertexList X n → HasVertices X n
vertex_list X n l = record {
  vertices = l.vertices;
  counted = l.counted;
  are_vertices = all_of (X.In 0) l.vertices l.are_in;
  differ = distinct_pairs l.vertices l.distinct;
  every = λ x is. contains_of l.vertices x (l.every x is);
}

-- ---- one vertex

single : {K : Type 0} (X : Simplicial K) (v : K) → X.In 0 v → ((x : K) → X.In 0 x → v ≡ x) → VertexList X 1
single {K} X v is only = record {
  vertices = v ∷ [];
  counted = refl;
  distinct = (λ m. m, tt);
  are_in = at;
  every = λ x ix. inl (only x ix);
}
  where
    at : (x : K) → Member x (v ∷ []) → X.In 0 x
    at x (inl e) = subst (X.In 0) e is
    at x (inr m) = absurd m

one_vertex_of : {K : Type 0} (X : Simplicial K) (n : ℕ) → VertexList X n → HasOneVertex X → n ≡ 1
one_vertex_of {K} X n l one = sym l.counted ∙ by l.vertices (λ x m. one.2 x (l.are_in x m)) l.distinct (l.every one.0 one.1)
  where
    by : (xs : List K) → ((x : K) → Member x xs → x ≡ one.0) → Distinct xs → Member one.0 xs → length xs ≡ 1
    by [] same d m = absurd m
    by (x ∷ []) same d m = refl
    by (x ∷ (y ∷ ys)) same d m = absurd (d.0 (inl (same y (inr (inl refl)) ∙ sym (same x (inl refl)))))

has_one_vertex : {K : Type 0} (X : Simplicial K) → VertexList X 1 → HasOneVertex X
has_one_vertex {K} X l = by l.vertices l.counted l.are_in l.every
  where
    by : (xs : List K) → length xs ≡ 1 → ((x : K) → Member x xs → X.In 0 x) → ((x : K) → X.In 0 x → Member x xs) → HasOneVertex X
    by [] e is all = absurd (omega (arith, e))
    by (x ∷ []) e is all = (x, is x (inl refl), λ y iy. from (all y iy))
      where
        from : {y : K} → Member y (x ∷ []) → y ≡ x
        from (inl f) = sym f
        from (inr m) = absurd m
    by (x ∷ (y ∷ ys)) e is all = absurd (omega (arith, e))

-- ---- the constructions

table_vertices : (t : Table) → VertexList (table_set t) (vertex_rows t)
table_vertices t = record {
  vertices = map (λ r. ([], r)) (rows_from 0 t);
  counted = length-map (rows_from 0 t) (λ r. ([], r)) ∙ length-rows 0 t;
  distinct = distinct-map (λ r. ([], r)) (λ r s e. ap (λ (x : RowSimplex). x.1) e) (rows_from 0 t) (distinct-rows 0 t);
  are_in = λ x m. let s = member_map (λ r. ([], r)) x (rows_from 0 t) m in subst (InTable t 0) s.2 (at s.0 (member_rows 0 s.0 t s.1));
  every = every;
}
  where
    at : (r : ℕ) → (k : ℕ) × (r ≡ 0 + k) × (k < length t) × ((row_at t k).dim ≡ 0) → InTable t 0 ([], r)
    at r s =
        let e : s.0 ≡ r = (let f : r ≡ 0 + s.0 = s.1 in omega (arith, f)) in
        let d : (row_at t r).dim ≡ 0 = ap (λ k. (row_at t k).dim) (sym e) ∙ s.3 in
        record { row = omega (arith, e, s.2); degree = omega (arith, d); word = tt }

    every : (x : RowSimplex) → InTable t 0 x → Member x (map (λ r. ([], r)) (rows_from 0 t))
    every ([], r) is =
        let d : (row_at t r).dim + 0 ≡ 0 = is.degree in
        let e : 0 + r ≡ r = omega arith in
        member-map (λ r. ([], r)) r (rows_from 0 t) (subst (λ k. Member k (rows_from 0 t)) e (member-rows 0 r t is.row (omega (arith, d))))
    every (j ∷ w, r) is = let d : (row_at t r).dim + suc (length w) ≡ 0 = is.degree in absurd (omega (arith, d))

sphere_vertices : (m : ℕ) → 0 < m → VertexList (table_set (sphere_rows m)) 1
sphere_vertices m p =
    let e : vertex_rows (sphere_rows m) ≡ 1 = ap (λ b. 0 + 1 + cond b 1 0) (not_eq m 0 (λ f. omega (arith, f))) in
    counted_as (table_set (sphere_rows m)) (vertex_rows (sphere_rows m)) 1 e (table_vertices (sphere_rows m))

module _ {K J : Type 0} (A : Simplicial K) (B : Simplicial J) (P : Simplicial (K × J)) (splits : (x : K × J) → P.In 0 x → A.In 0 x.0 × B.In 0 x.1)
    (joins : (x : K × J) → A.In 0 x.0 × B.In 0 x.1 → P.In 0 x) where
  pair_vertices : (m n : ℕ) → VertexList A m → VertexList B n → VertexList P (m * n)
  pair_vertices m n l k = record {
    vertices = pairs l.vertices k.vertices;
    counted = length-pairs l.vertices k.vertices ∙ (λ i. l.counted i * k.counted i);
    distinct = distinct-pairs l.vertices k.vertices l.distinct k.distinct;
    are_in = λ x h. let s = member_pairs x l.vertices k.vertices h in joins x (l.are_in x.0 s.0, k.are_in x.1 s.1);
    every = λ x is. let s = splits x is in member-pairs x.0 x.1 l.vertices k.vertices (l.every x.0 s.0) (k.every x.1 s.1);
  }

  -- where the second part has one vertex
  over_vertices : (m : ℕ) → VertexList A m → VertexList B 1 → VertexList P m
  over_vertices m l k = let e : m * 1 ≡ m = omega arith in counted_as P (m * 1) m e (pair_vertices m 1 l k)

nerve_vertices : {G : Type 0} (group : Abelian G) → VertexList (nerve_set group) 1
nerve_vertices {G} group = single (nerve_set group) [] (refl, All-nil group.Is) only
  where
    only : (x : List G) → (nerve_set group).In 0 x → [] ≡ x
    only [] is = refl
    only (a ∷ x) is = absurd (omega (arith, is.0))

loop_vertices : {K : Type 0} (A : Simplicial K) → HasNoEdge A → VertexList (loop_set A) 1
loop_vertices A edges = single (loop_set A) [] (tt, refl) only
  where
    only : (w : List (Letter A)) → (loop_set A).In 0 w → [] ≡ w
    only [] is = refl
    only (l ∷ w) is = absurd (no_letter A edges l w is.0.0 is.1)

space_list : (a : Space) → Admits a → VertexList (set_of a) (vertex_count a)
space_list (table t) is = table_vertices t
space_list (sphere m) is = sphere_vertices m is.0
space_list (product a b) is =
    pair_vertices (set_of a) (set_of b) (set_of (product a b)) (λ x h. h) (λ x h. h) (vertex_count a) (vertex_count b) (space_list a is.0) (space_list b is.1)
space_list (suspension a) is = single (set_of (suspension a)) None tt only
  where
    only : (x : _) → (set_of (suspension a)).In 0 x → None ≡ x
    only None h = refl
    only (Some s) h = absurd (omega (arith, h.0))
space_list kz1 is = nerve_vertices integers
space_list (bundle t c) is =
    over_vertices (table_set t) (nerve_set integers) (set_of (bundle t c)) (λ x h. h) (λ x h. h) (vertex_rows t) (table_vertices t) (nerve_vertices integers)
space_list (loops a) is = loop_vertices (set_of a) is.2
space_list (paths a) is =
    over_vertices (set_of a) (loop_set (set_of a)) (set_of (paths a)) (λ x h. h) (λ x h. h) (vertex_count a) (space_list a is.0) (loop_vertices (set_of a) is.2)
space_list (kzm1 m) is = nerve_vertices (integers_modulo m)
space_list (cyclic_bundle t m c) is =
    over_vertices (table_set t) (nerve_set (integers_modulo m)) (set_of (cyclic_bundle t m c)) (λ x h. h) (λ x h. h) (vertex_rows t) (table_vertices t)
    (nerve_vertices (integers_modulo m))

pub space_vertices : (a : Space) → Admits a → HasVertices (set_of a) (vertex_count a)
space_vertices a is = vertex_list (set_of a) (vertex_count a) (space_list a is)

pub one_vertex : (a : Space) → Admits a → HasOneVertex (set_of a) ↔ (vertex_count a ≡ 1)
one_vertex a is =
    (one_vertex_of (set_of a) (vertex_count a) (space_list a is), λ e. has_one_vertex (set_of a) (counted_as (set_of a) (vertex_count a) 1 e (space_list a is)))
