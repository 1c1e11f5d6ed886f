-- A table or a sphere meets no limit in its values.
use Rattle.std.proofs.Common.{◌≡◌, ℕ, zero, suc, ◌+◌, ◌%◌, ◌<◌, ◌≤◌, max, Bool, true, false, cond, nat_lt, ◌==◌, List, [], ◌∷◌, length, filter, Option, Some, None, ◌⊎◌, inl, inr, refl, ap, arith}
use Rattle.std.proofs.lemmas.Bool.{cases_lt}
use Rattle.std.proofs.lemmas.Bool.Decides.{nat_tests}
use Rattle.std.proofs.Math.ListN.{length-map, length-append}
use Rattle.std.specs.List.{AllByRecursion as EachOf}
use Rattle.std.specs.declared.cmp.Ordering.{Ordering}
use Rattle.std.specs.declared.cmp.Ordering.TheVariants.{Less, Equal, Greater}
use Rattle.fp_field.specs.Chains.{Terms, scale, extend, keep, faces_sum}
use Rattle.fp_field.specs.Normal.{put, add_term, by_order, normal}
use Rattle.spaces.specs.Tables.{Table, RowSimplex, row_face, sphere_rows}
use Rattle.spaces.specs.Spaces.{Space, table, sphere, Plain}
use Rattle.spaces.specs.SmallCells.{Small, row_dim}
use Rattle.spaces.specs.Allowed.{IsTable}
use Rattle.values.specs.Asks.{Ask, basis, small_d, f as f_at, g as g_at, h as h_at, cycles, Cell}
use Rattle.values.specs.Rules.{numbers, rows_of_dim, is_row, row_d}
use Rattle.values.specs.Sizes.{Size, greatest, letters, integer, small_letters, small_integer, place_size, answer_size}
use Rattle.values.specs.Outcomes.{Over, usual_limits, first_past, of_letters, of_integer, of_terms}

-- ---- lengths

pub normal-length : {K : Type 0} (cmp : K → K → Ordering) (p : ℕ) (c : Terms K) → length (normal cmp p c) ≤ length c
normal-length {K} cmp p [] = omega arith
normal-length {K} cmp p (t ∷ c) = omega (arith, added t.0 t.1 (normal cmp p c), normal-length cmp p c)
  where
    put-length : (k : K) (n : ℕ) (c : Terms K) → length (put cmp p k n c) ≤ suc (length c)
    put-length k zero c = omega arith
    put-length k (suc n) c = omega arith

    added : (k : K) (a : ℕ) (c : Terms K) → length (add_term cmp p k a c) ≤ suc (length c)
    added k a [] = put-length k (a % p) []
    added k a (u ∷ c) = by (cmp k u.0) (added k a c)
      where
        by : (o : Ordering) → length (add_term cmp p k a c) ≤ suc (length c)
            → length (by_order o (put cmp p k (a % p) (u ∷ c)) (put cmp p u.0 ((a + u.1) % p) c) (u ∷ add_term cmp p k a c)) ≤ suc (suc (length c))
        by Less r = put-length k (a % p) (u ∷ c)
        by Equal r = omega (arith, put-length u.0 ((a + u.1) % p) c)
        by Greater r = omega (arith, r)

filter-length : {A : Type 0} (t : A → Bool) (xs : List A) → length (filter t xs) ≤ length xs
filter-length t [] = omega arith
filter-length t (x ∷ xs) = by (t x) (filter-length t xs)
  where
    by : (b : Bool) → length (filter t xs) ≤ length xs → length (cond b (x ∷ filter t xs) (filter t xs)) ≤ suc (length xs)
    by true r = omega (arith, r)
    by false r = omega (arith, r)

numbers-length : (i k : ℕ) → length (numbers i k) ≡ k
numbers-length i zero = refl
numbers-length i (suc k) = ap suc (numbers-length (suc i) k)

scale-length : {K : Type 0} (a : ℕ) (c : Terms K) → length (scale a c) ≡ length c
scale-length a [] = refl
scale-length a (t ∷ c) = ap suc (scale-length a c)

-- a map to chains of one term at most
pub extend-length : {K J : Type 0} (f : K → Terms J) → ((k : K) → length (f k) ≤ 1) → (c : Terms K) → length (extend f c) ≤ length c
extend-length f h [] = omega arith
extend-length f h (t ∷ c) = omega (arith, length-append (scale t.1 (f t.0)) (extend f c), scale-length t.1 (f t.0), h t.0, extend-length f h c)

faces-length : {K : Type 0} (p : ℕ) (face : ℕ → K → K) (n : ℕ) (x : K) → length (faces_sum p face n x) ≡ n
faces-length p face zero x = refl
faces-length p face (suc n) x = ap suc (faces-length p face n x)

-- ---- sizes

greatest-none : {A : Type 0} (size : A → ℕ) → ((x : A) → size x ≡ 0) → (xs : List A) → greatest size xs ≡ 0
greatest-none size h [] = refl
greatest-none size h (x ∷ xs) = λ i. max (h x i) (greatest-none size h xs i)

greatest-most : {A : Type 0} (size : A → ℕ) (m : ℕ) (xs : List A) → EachOf (λ x. size x ≤ m) xs → greatest size xs ≤ m
greatest-most size m [] h = omega arith
greatest-most size m (x ∷ xs) h = both (size x) (greatest size xs) h.0 (greatest-most size m xs h.1)
  where
    both : (a b : ℕ) → a ≤ m → b ≤ m → max a b ≤ m
    both a b k l = omega (arith, k, l)

-- the first of three limits that is passed
abbrev past : Ask → Size → Bool → Bool → Bool → Option Over
past k s x y z = elim x [
  | true ↦ Some (record { question = k; kind = of_letters; size = s.letters })
  | false ↦ elim y [
    | true ↦ Some (record { question = k; kind = of_integer; size = s.integer })
    | false ↦ elim z [ true ↦ Some (record { question = k; kind = of_terms; size = s.terms }) | false ↦ None ]
  ]
]

-- a size without letters and integers, and of few terms, is past no limit
within-limits : (k : Ask) (s : Size) → s.letters ≡ 0 → s.integer ≡ 0 → s.terms ≤ 50000 → first_past usual_limits k s ≡ None
within-limits k s h g l =
    let a : nat_lt 64 s.letters ≡ false = ap (nat_lt 64) h in
    let b : nat_lt 100000 s.integer ≡ false = ap (nat_lt 100000) g in
    let c : nat_lt 50000 s.terms ≡ false = grind (arith, nat_tests) in
    λ i. past k s (a i) (b i) (c i)

-- spaces whose cells have neither letters nor integers
pub record IsBare (a : Space) : Type 0 where
  pub letters_none : (x : Plain a) → letters a x ≡ 0
  pub integer_none : (x : Plain a) → integer a x ≡ 0
  pub small_letters_none : (y : Small a) → small_letters a y ≡ 0
  pub small_integer_none : (y : Small a) → small_integer a y ≡ 0

pub bare-table : (t : Table) → IsBare (table t)
bare-table t = record { letters_none = λ x. refl; integer_none = λ x. refl; small_letters_none = λ y. refl; small_integer_none = λ y. refl }

pub bare-sphere : (m : ℕ) → IsBare (sphere m)
bare-sphere m = record { letters_none = λ x. refl; integer_none = λ x. refl; small_letters_none = λ y. refl; small_integer_none = λ y. refl }

module _ (a : Space) (bare : IsBare a) where
  small-letters : (c : Terms (Small a)) → greatest (λ t. small_letters a t.0) c ≡ 0
  small-letters c = greatest-none (λ (t : Small a × ℕ). small_letters a t.0) (λ t. bare.small_letters_none t.0) c

  small-integers : (c : Terms (Small a)) → greatest (λ t. small_integer a t.0) c ≡ 0
  small-integers c = greatest-none (λ (t : Small a × ℕ). small_integer a t.0) (λ t. bare.small_integer_none t.0) c

  cell-letters : (c : Terms (Cell a)) → greatest (λ t. letters a t.0.1) c ≡ 0
  cell-letters c = greatest-none (λ (t : Cell a × ℕ). letters a t.0.1) (λ t. bare.letters_none t.0.1) c

  cell-integers : (c : Terms (Cell a)) → greatest (λ t. integer a t.0.1) c ≡ 0
  cell-integers c = greatest-none (λ (t : Cell a × ℕ). integer a t.0.1) (λ t. bare.integer_none t.0.1) c

  pub basis-within : (n : ℕ) (ys : List (Small a)) → length ys ≤ 50000 → first_past usual_limits (basis a n) (answer_size (basis a n) ys) ≡ None
  basis-within n ys l =
      within-limits (basis a n) (answer_size (basis a n) ys) (greatest-none (small_letters a) bare.small_letters_none ys) (greatest-none (small_integer a) bare.small_integer_none ys) l

  pub small_d-within : (y : Small a) (c : Terms (Small a)) → length c ≤ 50000 → first_past usual_limits (small_d a y) (answer_size (small_d a y) c) ≡ None
  small_d-within y c l = within-limits (small_d a y) (answer_size (small_d a y) c) (small-letters c) (small-integers c) l

  pub f-within : (n : ℕ) (x : Plain a) (c : Terms (Small a)) → length c ≤ 50000 → first_past usual_limits (f_at a n x) (answer_size (f_at a n x) c) ≡ None
  f-within n x c l = within-limits (f_at a n x) (answer_size (f_at a n x) c) (small-letters c) (small-integers c) l

  pub g-within : (y : Small a) (c : Terms (Cell a)) → length c ≤ 50000 → first_past usual_limits (g_at a y) (answer_size (g_at a y) c) ≡ None
  g-within y c l = within-limits (g_at a y) (answer_size (g_at a y) c) (cell-letters c) (cell-integers c) l

  pub h-within : (n : ℕ) (x : Plain a) (c : Terms (Cell a)) → length c ≤ 50000 → first_past usual_limits (h_at a n x) (answer_size (h_at a n x) c) ≡ None
  h-within n x c l = within-limits (h_at a n x) (answer_size (h_at a n x) c) (cell-letters c) (cell-integers c) l

  pub cycles-within : (n : ℕ) (zs : List (Terms (Cell a))) → length zs ≤ 50000 → EachOf (λ c. length c ≤ 50000) zs
      → first_past usual_limits (cycles a n) (answer_size (cycles a n) zs) ≡ None
  cycles-within n zs l each =
      within-limits (cycles a n) (answer_size (cycles a n) zs)
      (greatest-none (λ (c : Terms (Cell a)). greatest (λ t. letters a t.0.1) c) cell-letters zs)
      (greatest-none (λ (c : Terms (Cell a)). greatest (λ t. integer a t.0.1) c) cell-integers zs)
      (both (length zs) (greatest (λ (c : Terms (Cell a)). length c) zs) l (greatest-most (λ (c : Terms (Cell a)). length c) 50000 zs each))
    where
      both : (i j : ℕ) → i ≤ 50000 → j ≤ 50000 → max i j ≤ 50000
      both i j k l = omega (arith, k, l)

  -- what a question is about
  pub small_d-place : (y : Small a) → first_past usual_limits (small_d a y) (place_size (small_d a y)) ≡ None
  small_d-place y = within-limits (small_d a y) (place_size (small_d a y)) (bare.small_letters_none y) (bare.small_integer_none y) (omega arith)

  pub g-place : (y : Small a) → first_past usual_limits (g_at a y) (place_size (g_at a y)) ≡ None
  g-place y = within-limits (g_at a y) (place_size (g_at a y)) (bare.small_letters_none y) (bare.small_integer_none y) (omega arith)

  pub f-place : (n : ℕ) (x : Plain a) → first_past usual_limits (f_at a n x) (place_size (f_at a n x)) ≡ None
  f-place n x = within-limits (f_at a n x) (place_size (f_at a n x)) (bare.letters_none x) (bare.integer_none x) (omega arith)

  pub h-place : (n : ℕ) (x : Plain a) → first_past usual_limits (h_at a n x) (place_size (h_at a n x)) ≡ None
  h-place n x = within-limits (h_at a n x) (place_size (h_at a n x)) (bare.letters_none x) (bare.integer_none x) (omega arith)

-- ---- tables with few rows of low dimensions

pub record HasLowRows (t : Table) : Type 0 where
  pub few : length t ≤ 256
  pub low : (r : ℕ) → row_dim t r ≤ 16

beyond : (t : Table) (r : ℕ) → length t ≤ r → row_dim t r ≡ 0
beyond [] r h = refl
beyond (row ∷ t) zero h = absurd (omega arith)
beyond (row ∷ t) (suc r) h = beyond t r (omega arith)

pub low-table : (t : Table) → IsTable t → HasLowRows t
low-table t is = record { few = is.at_most; low = λ r. by r (cases_lt r (length t)) }
  where
    by : (r : ℕ) → (r < length t) ⊎ (length t ≤ r) → row_dim t r ≤ 16
    by r (inl h) = is.low r h
    by r (inr h) = let e = beyond t r h in omega (arith, e)

pub low-sphere : (m : ℕ) → m ≤ 16 → HasLowRows (sphere_rows m)
low-sphere m l = record { few = omega arith; low = by }
  where
    by : (r : ℕ) → row_dim (sphere_rows m) r ≤ 16
    by zero = omega arith
    by (suc zero) = l
    by (suc (suc r)) = omega arith

module _ (p : ℕ) (t : Table) (rows : HasLowRows t) where
  pub basis-few : (n : ℕ) → length (rows_of_dim t n) ≤ 256
  basis-few n = omega (arith, filter-length (λ r. row_dim t r == n) (numbers 0 (length t)), numbers-length 0 (length t), rows.few)

  row_d-length : (r n : ℕ) → row_dim t r ≡ n → length (row_d p t r) ≤ suc n
  row_d-length r zero e = rw e (omega arith)
  row_d-length r (suc n) e =
      rw e (omega (
        arith,
        length-map {B = ℕ × ℕ} (keep (is_row p) (faces_sum p (row_face t) (suc (suc n)) ([], r))) (λ (u : RowSimplex × ℕ). (u.0.1, u.1)),
        filter-length (λ (u : RowSimplex × ℕ). is_row p u.0) (faces_sum p (row_face t) (suc (suc n)) ([], r)),
        faces-length p (row_face t) (suc (suc n)) ([], r),
      ))

  pub small_d-few : (cmp : ℕ → ℕ → Ordering) (r : ℕ) → length (normal cmp p (row_d p t r)) ≤ 50000
  small_d-few cmp r = omega (arith, normal-length cmp p (row_d p t r), row_d-length r (row_dim t r) refl, rows.low r)
