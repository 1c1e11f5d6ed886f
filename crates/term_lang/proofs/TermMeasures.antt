-- The depth, the vertices and the low of each kind of term, and that lows are small.
use Rattle.std.proofs.Common.{◌≡◌, ℕ, zero, suc, ◌+◌, ◌-◌, ◌*◌, take, get_or, ◌<◌, ◌≤◌, max, List, [], ◌∷◌, length, Option, Some, None, ◌⊎◌, inl, inr, refl, sym, ◌∙◌, ap, subst, arith, ℤ, add-one}
use Rattle.std.proofs.Math.Nat.{mul-suc, mul_comm}
use Rattle.std.specs.Prelude.{min}
use Rattle.std.proofs.lemmas.Bool.{cases_lt}
use Rattle.std.specs.Option.{option_map, IfSome}
use Rattle.spaces.specs.Tables.{Table as TableRows, row_at}
use Rattle.spaces.specs.Spaces.{Space, table, sphere, product, suspension, kz1, bundle, loops, paths, kzm1, cyclic_bundle}
use Rattle.spaces.specs.Allowed.{IsAllowed, Admits, space_depth}
use Rattle.spaces.specs.Counts.{vertex_count, vertex_rows, lesser, row_low, table_low, low_of}
use Rattle.term_lang.specs.declared.tables.Row.{Row}
use Rattle.term_lang.specs.declared.terms.Term.{Term}
use Rattle.term_lang.specs.declared.terms.Term.TheVariants.{Table, Sphere, Product, Suspension, KZ1, Bundle, Loop, Path}
use Rattle.term_lang.specs.Rows.{rows_of}
use Rattle.term_lang.specs.SpaceOf.{space_of}
use Rattle.term_lang.proofs.SpacesOfTerms.{space-Table, space-Sphere, space-Product, space-Suspension, space-KZ1, space-Bundle, space-Loop, space-Path}

-- ---- depth

pub depth-Table : (rows : List Row) → space_depth (space_of (Table rows)) ≡ 1
depth-Table rows = ap space_depth (space-Table rows)

pub depth-Sphere : (m : ℕ) → space_depth (space_of (Sphere m)) ≡ 1
depth-Sphere m = ap space_depth (space-Sphere m)

pub depth-Product : (a b : Term) → space_depth (space_of (Product a b)) ≡ suc (max (space_depth (space_of a)) (space_depth (space_of b)))
depth-Product a b = ap space_depth (space-Product a b)

pub depth-Suspension : (a : Term) → space_depth (space_of (Suspension a)) ≡ suc (space_depth (space_of a))
depth-Suspension a = ap space_depth (space-Suspension a)

pub depth-KZ1 : space_depth (space_of KZ1) ≡ 1
depth-KZ1 = ap space_depth space-KZ1

pub depth-Bundle : (rows : List Row) (values : List ℤ) → space_depth (space_of (Bundle rows values)) ≡ 2
depth-Bundle rows values = ap space_depth (space-Bundle rows values)

pub depth-Loop : (a : Term) → space_depth (space_of (Loop a)) ≡ suc (space_depth (space_of a))
depth-Loop a = ap space_depth (space-Loop a)

pub depth-Path : (a : Term) → space_depth (space_of (Path a)) ≡ suc (space_depth (space_of a))
depth-Path a = ap space_depth (space-Path a)

pub ruleset depth_steps = (depth-Table, depth-Sphere, depth-Product, depth-Suspension, depth-KZ1, depth-Bundle, depth-Loop, depth-Path)

-- ---- vertices

pub vertices-Table : (rows : List Row) → vertex_count (space_of (Table rows)) ≡ vertex_rows (rows_of rows)
vertices-Table rows = ap vertex_count (space-Table rows)

pub vertices-Sphere : (m : ℕ) → vertex_count (space_of (Sphere m)) ≡ 1
vertices-Sphere m = ap vertex_count (space-Sphere m)

pub vertices-Product : (a b : Term) → vertex_count (space_of (Product a b)) ≡ vertex_count (space_of a) * vertex_count (space_of b)
vertices-Product a b = ap vertex_count (space-Product a b)

pub vertices-Suspension : (a : Term) → vertex_count (space_of (Suspension a)) ≡ 1
vertices-Suspension a = ap vertex_count (space-Suspension a)

pub vertices-KZ1 : vertex_count (space_of KZ1) ≡ 1
vertices-KZ1 = ap vertex_count space-KZ1

pub vertices-Bundle : (rows : List Row) (values : List ℤ) → vertex_count (space_of (Bundle rows values)) ≡ vertex_rows (rows_of rows)
vertices-Bundle rows values = ap vertex_count (space-Bundle rows values)

pub vertices-Loop : (a : Term) → vertex_count (space_of (Loop a)) ≡ 1
vertices-Loop a = ap vertex_count (space-Loop a)

pub vertices-Path : (a : Term) → vertex_count (space_of (Path a)) ≡ vertex_count (space_of a)
vertices-Path a = ap vertex_count (space-Path a)

pub ruleset vertex_steps = (vertices-Table, vertices-Sphere, vertices-Product, vertices-Suspension, vertices-KZ1, vertices-Bundle, vertices-Loop, vertices-Path)

-- ---- low

pub low-Table : (rows : List Row) → low_of (space_of (Table rows)) ≡ table_low (rows_of rows)
low-Table rows = ap low_of (space-Table rows)

pub low-Sphere : (m : ℕ) → low_of (space_of (Sphere m)) ≡ Some m
low-Sphere m = ap low_of (space-Sphere m)

pub low-Product : (a b : Term) → low_of (space_of (Product a b)) ≡ lesser (low_of (space_of a)) (low_of (space_of b))
low-Product a b = ap low_of (space-Product a b)

pub low-Suspension : (a : Term) → low_of (space_of (Suspension a)) ≡ option_map suc (low_of (space_of a))
low-Suspension a = ap low_of (space-Suspension a)

pub low-KZ1 : low_of (space_of KZ1) ≡ Some 1
low-KZ1 = ap low_of space-KZ1

pub low-Bundle : (rows : List Row) (values : List ℤ) → low_of (space_of (Bundle rows values)) ≡ Some 1
low-Bundle rows values = ap low_of (space-Bundle rows values)

pub low-Loop : (a : Term) → low_of (space_of (Loop a)) ≡ option_map (λ n. n - 1) (low_of (space_of a))
low-Loop a = ap low_of (space-Loop a)

pub low-Path : (a : Term) → low_of (space_of (Path a)) ≡ lesser (low_of (space_of a)) (option_map (λ n. n - 1) (low_of (space_of a)))
low-Path a = ap low_of (space-Path a)

pub ruleset low_steps = (low-Table, low-Sphere, low-Product, low-Suspension, low-KZ1, low-Bundle, low-Loop, low-Path)

-- ---- the low of a table, row by row

lesser_none : (a : Option ℕ) → a ≡ lesser a None
lesser_none None = refl
lesser_none (Some m) = refl

lesser_lesser : (m : ℕ) (a b : Option ℕ) → lesser (Some m) (lesser a b) ≡ lesser (lesser (Some m) a) b
lesser_lesser m None None = refl
lesser_lesser m None (Some n) = refl
lesser_lesser m (Some k) None = refl
lesser_lesser m (Some k) (Some n) = let e : min m (min k n) ≡ min (min m k) n = omega arith in ap Some e

row_lesser : (k : ℕ) (a b : Option ℕ) → row_low k (lesser a b) ≡ lesser (row_low k a) b
row_lesser zero a b = refl
row_lesser (suc k) a b = lesser_lesser (suc k) a b

pub low_suc : (rows : List Row) (i : ℕ) (d : Row) → i < length rows
    → table_low (rows_of (take (suc i) rows)) ≡ lesser (table_low (rows_of (take i rows))) (row_low (get_or rows i d).dim None)
low_suc [] i d h = absurd (omega (arith, h))
low_suc (r ∷ rows) zero d h = refl
low_suc (r ∷ rows) (suc i) d h =
    let l : i < length rows = omega (arith, h) in
    ap (row_low r.dim) (low_suc rows i d l) ∙ row_lesser r.dim (table_low (rows_of (take i rows))) (row_low (get_or rows i d).dim None)

pub low_more : (rows : List Row) (i : ℕ) (d : Row) → i < length rows
    → table_low (rows_of (take (i + 1) rows)) ≡ lesser (table_low (rows_of (take i rows))) (row_low (get_or rows i d).dim None)
low_more rows i d h = rw add-one (low_suc rows i d h)

-- ---- lows are small

AtMost : ℕ → Option ℕ → Type 0
AtMost d None = Unit {0}
AtMost d (Some n) = n ≤ d

weaker : (d e : ℕ) (a : Option ℕ) → d ≤ e → AtMost d a → AtMost e a
unfolding AtMost
weaker d e None l h = tt
weaker d e (Some n) l h = let k : n ≤ d = h in omega arith

lesser_small : (d : ℕ) (a b : Option ℕ) → AtMost d a → AtMost d b → AtMost d (lesser a b)
unfolding AtMost
lesser_small d None b h k = k
lesser_small d (Some m) None h k = h
lesser_small d (Some m) (Some n) h k = let l : m ≤ d = h in let e : min m n ≤ d = omega arith in e

raised_small : (d : ℕ) (a : Option ℕ) → AtMost d a → AtMost (suc d) (option_map suc a)
unfolding AtMost
raised_small d None h = tt
raised_small d (Some n) h = let l : n ≤ d = h in let e : suc n ≤ suc d = omega arith in e

lowered_small : (d : ℕ) (a : Option ℕ) → AtMost d a → AtMost d (option_map (λ n. n - 1) a)
unfolding AtMost
lowered_small d None h = tt
lowered_small d (Some n) h = let l : n ≤ d = h in let e : n - 1 ≤ d = omega arith in e

row_small : (d k : ℕ) (a : Option ℕ) → k ≤ d → AtMost d a → AtMost d (row_low k a)
unfolding AtMost
row_small d zero a l h = h
row_small d (suc k) a l h = lesser_small d (Some (suc k)) a l h

table_small : (d : ℕ) (t : TableRows) → ((r : ℕ) → r < length t → (row_at t r).dim ≤ d) → AtMost d (table_low t)
unfolding AtMost
table_small d [] h = tt
table_small d (r ∷ t) h = row_small d r.dim (table_low t) (h 0 (omega arith)) (table_small d t (λ k l. h (suc k) (omega (arith, l))))

low_small : (a : Space) → Admits a → AtMost (15 + space_depth a) (low_of a)
unfolding AtMost
low_small (table t) is = table_small 16 t is.low
low_small (sphere m) is = is.1
low_small (product a b) is =
    let d = 15 + suc (max (space_depth a) (space_depth b)) in
    lesser_small d (low_of a) (low_of b) (weaker _ d (low_of a) (omega arith) (low_small a is.0)) (weaker _ d (low_of b) (omega arith) (low_small b is.1))
low_small (suspension a) is =
    weaker _ _ (option_map suc (low_of a)) (omega arith) (raised_small (15 + space_depth a) (low_of a) (low_small a is.0))
low_small kz1 is = omega arith
low_small (bundle t c) is = omega arith
low_small (loops a) is =
    weaker _ _ (option_map (λ n. n - 1) (low_of a)) (omega arith) (lowered_small (15 + space_depth a) (low_of a) (low_small a is.0))
low_small (paths a) is =
    let d = 15 + space_depth a in
    weaker d _ (lesser (low_of a) (option_map (λ n. n - 1) (low_of a))) (omega arith) (lesser_small d (low_of a) (option_map (λ n. n - 1) (low_of a)) (low_small a is.0) (lowered_small d (low_of a) (low_small a is.0)))
low_small (kzm1 m) is = omega arith
low_small (cyclic_bundle t m c) is = omega arith

-- the low of an allowed space is at most 23
pub low_bound : (a : Space) → IsAllowed a → (low : Option ℕ) → low ≡ low_of a → IfSome low (λ n. n < 100)
unfolding AtMost
low_bound a is None e = tt
low_bound a is (Some n) e =
    let s : AtMost (15 + space_depth a) (Some n) = subst (AtMost (15 + space_depth a)) (sym e) (low_small a is.0) in
    let k : n ≤ 15 + space_depth a = s in
    omega (arith, is.1)

-- ---- the parts of an allowed space

-- allowed, and of less depth than n
abbrev pub IsPart : ℕ → Term → Type 0
IsPart n x = (space_depth (space_of x) < n) × IsAllowed (space_of x)

module _ (n : ℕ) (t : Term) (deep : space_depth (space_of t) ≡ n) (is_allowed : IsAllowed (space_of t)) where
  as_part : (x : Term) (a p : Space) → space_of x ≡ a → space_of t ≡ p → Admits a → space_depth a < space_depth p → IsPart n x
  as_part x a p e is admits less =
      let d : space_depth (space_of x) ≡ space_depth a = ap space_depth e in
      let u : space_depth (space_of t) ≡ space_depth p = ap space_depth is in
      (omega arith, (subst Admits (sym e) admits, omega (arith, is_allowed.1)))

  pub left_part : (a b x : Term) → t ≡ Product a b → x ≡ a → IsPart n x
  left_part a b x is e =
      let f : space_of t ≡ product (space_of a) (space_of b) = ap space_of is ∙ space-Product a b in
      as_part x (space_of a) (product (space_of a) (space_of b)) (ap space_of e) f (subst Admits f is_allowed.0).0 (omega arith)

  pub right_part : (a b x : Term) → t ≡ Product a b → x ≡ b → IsPart n x
  right_part a b x is e =
      let f : space_of t ≡ product (space_of a) (space_of b) = ap space_of is ∙ space-Product a b in
      as_part x (space_of b) (product (space_of a) (space_of b)) (ap space_of e) f (subst Admits f is_allowed.0).1 (omega arith)

  pub suspended_part : (a x : Term) → t ≡ Suspension a → x ≡ a → IsPart n x
  suspended_part a x is e =
      let f : space_of t ≡ suspension (space_of a) = ap space_of is ∙ space-Suspension a in
      as_part x (space_of a) (suspension (space_of a)) (ap space_of e) f (subst Admits f is_allowed.0).0 (omega arith)

  pub looped_part : (a x : Term) → t ≡ Loop a → x ≡ a → IsPart n x
  looped_part a x is e =
      let f : space_of t ≡ loops (space_of a) = ap space_of is ∙ space-Loop a in
      as_part x (space_of a) (loops (space_of a)) (ap space_of e) f (subst Admits f is_allowed.0).0 (omega arith)

  pub path_part : (a x : Term) → t ≡ Path a → x ≡ a → IsPart n x
  path_part a x is e =
      let f : space_of t ≡ paths (space_of a) = ap space_of is ∙ space-Path a in
      as_part x (space_of a) (paths (space_of a)) (ap space_of e) f (subst Admits f is_allowed.0).0 (omega arith)

-- ---- counting no further than a number

at_least : (a k : ℕ) → a ≤ a * suc k
at_least a k = omega (arith, mul-suc a k)

-- the first number is above the cap
large_capped : (m n cap : ℕ) → cap < m → min (min m cap * min n cap) cap ≡ min (m * n) cap
large_capped m zero cap h =
    let e : min 0 cap ≡ 0 = omega arith in
    let f : min (min m cap * 0) cap ≡ min (m * 0) cap = omega arith in
    rw e f
large_capped m (suc n) zero h = omega arith
large_capped m (suc n) (suc cap) h =
    let e : min m (suc cap) ≡ suc cap = omega (arith, h) in
    let k : min (suc n) (suc cap) ≡ suc (min n cap) = omega arith in
    let l : suc cap ≤ suc cap * suc (min n cap) = at_least (suc cap) (min n cap) in
    let r : m ≤ m * suc n = at_least m n in
    let left : min (suc cap * suc (min n cap)) (suc cap) ≡ suc cap = omega (arith, l) in
    let right : min (m * suc n) (suc cap) ≡ suc cap = omega (arith, r, h) in
    (λ i. min (e i * k i) (suc cap)) ∙ left ∙ sym right

product_capped : (m n cap : ℕ) → min (min m cap * min n cap) cap ≡ min (m * n) cap
product_capped m n cap = by (cases_lt cap m) (cases_lt cap n)
  where
    by : (cap < m) ⊎ (m ≤ cap) → (cap < n) ⊎ (n ≤ cap) → min (min m cap * min n cap) cap ≡ min (m * n) cap
    by (inl h) k = large_capped m n cap h
    by (inr h) (inl k) = ap (λ z. min z cap) (mul_comm (min m cap) (min n cap)) ∙ large_capped n m cap k ∙ ap (λ z. min z cap) (mul_comm n m)
    by (inr h) (inr k) =
        let e : min m cap ≡ m = omega (arith, h) in
        let f : min n cap ≡ n = omega (arith, k) in
        λ i. min (e i * f i) cap

pub vertices_capped : (t a b x y : Term) → t ≡ Product a b → x ≡ a → y ≡ b → (m n : ℕ) → m ≡ min (vertex_count (space_of x)) 65536 → n ≡ min (vertex_count (space_of y)) 65536
    → min (m * n) 65536 ≡ min (vertex_count (space_of t)) 65536
vertices_capped t a b x y is e f m n p q =
    let u : vertex_count (space_of t) ≡ vertex_count (space_of a) * vertex_count (space_of b) = ap (λ z. vertex_count (space_of z)) is ∙ vertices-Product a b in
    (λ i. min (p i * q i) 65536) ∙ product_capped (vertex_count (space_of x)) (vertex_count (space_of y)) 65536
    ∙ (λ i. min (vertex_count (space_of (e i)) * vertex_count (space_of (f i))) 65536) ∙ ap (λ k. min k 65536) (sym u)
