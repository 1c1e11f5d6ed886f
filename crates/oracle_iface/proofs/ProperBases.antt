-- The small cells of bases are proper, at any depth to which the values are followed.
use Rattle.std.proofs.Common.{◌≡◌, ℕ, zero, suc, ◌+◌, ◌-◌, ◌<◌, ◌==◌, Bool, true, false, cond, List, [], ◌∷◌, ◌++◌, map, length, sym, subst, arith}
use Rattle.std.specs.Prelude.{Some, Contains}
use Rattle.std.specs.List.{filter, AllByRecursion}
use Rattle.std.proofs.lemmas.List.Elements.{All-from_recursion, All-contains}
use Rattle.spaces.specs.Tables.{Table, sphere_rows}
use Rattle.spaces.specs.Spaces.{Space, table, sphere, product, suspension, kz1, bundle, loops, paths, kzm1, cyclic_bundle}
use Rattle.spaces.specs.SmallCells.{Small, row_dim}
use Rattle.spaces.specs.Allowed.{Admits}
use Rattle.values.specs.Asks.{Answers, basis, gives, value_with}
use Rattle.values.specs.Rules.{numbers, rows_of_dim, joined, all_pairs, pairs_of_degree, words_of_degree}
use Rattle.values.specs.Values.{value_at, value}
use Rattle.values.proofs.Readings.{value_with-bind}
use Rattle.oracle_iface.specs.KeyLaws.{IsProper}

-- ---- lists

abbrev pub Every : {X : Type 0} → (X → Type 0) → List X → Type 0
Every P xs = AllByRecursion P xs

module _ {X : Type 0} (P : X → Type 0) where
  pub every : (Q : X → Type 0) (xs : List X) → ((x : X) → P x → Q x) → Every P xs → Every Q xs
  every Q [] f h = tt
  every Q (x ∷ xs) f h = (f x h.0, every Q xs f h.1)

  pub every_append : (xs ys : List X) → Every P xs → Every P ys → Every P (xs ++ ys)
  every_append [] ys h g = g
  every_append (x ∷ xs) ys h g = (h.0, every_append xs ys h.1 g)

  every_filter : (test : X → Bool) (xs : List X) → Every P xs → Every P (filter test xs)
  every_filter test [] h = tt
  every_filter test (x ∷ xs) h = by (test x) (every_filter test xs h.1)
    where
      by : (b : Bool) → Every P (filter test xs) → Every P (cond b (x ∷ filter test xs) (filter test xs))
      by true r = (h.0, r)
      by false r = r

  pub every_map : {Y : Type 0} (Q : Y → Type 0) (f : X → Y) (xs : List X) → ((x : X) → P x → Q (f x)) → Every P xs → Every Q (map f xs)
  every_map Q f [] g h = tt
  every_map Q f (x ∷ xs) g h = (g x h.0, every_map Q f xs g h.1)

  every_joined : (xs : List (List X)) → Every (Every P) xs → Every P (joined xs)
  every_joined [] h = tt
  every_joined (x ∷ xs) h = every_append x (joined xs) h.0 (every_joined xs h.1)

abbrev Both : {S T : Type 0} → (S → Type 0) → (T → Type 0) → S × T → Type 0
Both P Q z = P z.0 × Q z.1

every_pairs : {S T : Type 0} (P : S → Type 0) (Q : T → Type 0) (xs : List S) (ys : List T) → Every P xs → Every Q ys
    → Every (Both P Q) (all_pairs xs ys)
every_pairs P Q xs ys h g =
    every_joined (Both P Q) (map (λ x. map (λ y. (x, y)) ys) xs)
    (every_map P (Every (Both P Q)) (λ x. map (λ y. (x, y)) ys) xs (λ x p. every_map Q (Both P Q) (λ y. (x, y)) ys (λ y q. (p, q)) g) h)

-- ---- rows

every_number : (i k n : ℕ) → i + k ≡ n → Every (λ r. r < n) (numbers i k)
every_number i zero n e = tt
every_number i (suc k) n e = (omega arith, every_number (suc i) k n (omega arith))

every_row : (t : Table) (n : ℕ) → Every (λ r. r < length t) (rows_of_dim t n)
every_row t n = every_filter (λ r. r < length t) (λ r. row_dim t r == n) (numbers 0 (length t)) (every_number 0 (length t) (length t) (omega arith))

-- ---- pairs and words, with any answers

module _ (answers : Answers) (a b : Space) (P : Small a → Type 0) (Q : Small b → Type 0)
    (left : (i : ℕ) → Every P (answers (basis a i))) (right : (i : ℕ) → Every Q (answers (basis b i))) where
  pairs-proper : (n : ℕ) (is : List ℕ) → Every (Both P Q) (value_with answers (pairs_of_degree a b n is))
  pairs-proper n [] = tt
  pairs-proper n (i ∷ is) =
      let here = all_pairs (answers (basis a i)) (answers (basis b (n - i))) in
      subst (Every (Both P Q)) (sym (value_with-bind answers (pairs_of_degree a b n is) (λ rest. gives (here ++ rest))))
      (every_append (Both P Q) here (value_with answers (pairs_of_degree a b n is))
      (every_pairs P Q (answers (basis a i)) (answers (basis b (n - i))) (left i) (right (n - i))) (pairs-proper n is))

module _ (answers : Answers) (a : Space) (P : Small a → Type 0)
    (letters : (i : ℕ) → Every P (answers (basis a i))) (words : (i : ℕ) → Every (Every P) (answers (basis (loops a) i))) where
  words-proper : (n : ℕ) (is : List ℕ) → Every (Every P) (value_with answers (words_of_degree a n is))
  words-proper n [] = tt
  words-proper n (i ∷ is) =
      let both = all_pairs (answers (basis a i)) (answers (basis (loops a) (suc n - i))) in
      let here = map (λ (x : Small a × List (Small a)). x.0 ∷ x.1) both in
      subst (Every (Every P)) (sym (value_with-bind answers (words_of_degree a n is) (λ rest. gives (here ++ rest))))
      (every_append (Every P) here (value_with answers (words_of_degree a n is))
      (every_map (Both P (Every P)) (Every P) (λ x. x.0 ∷ x.1) both (λ x h. (h.0, h.1))
      (every_pairs P (Every P) (answers (basis a i)) (answers (basis (loops a) (suc n - i))) (letters i) (words (suc n - i))))
      (words-proper n is))

-- ---- all spaces

pub bases-proper : (p d : ℕ) (a : Space) (n : ℕ) → Admits a → Every (IsProper a) (value_at p d (basis a n))
bases-proper p zero a n h = tt
bases-proper p (suc d) (table t) n h = every_row t n
bases-proper p (suc d) (sphere m) n h = every (λ r. r < 2) (IsProper (sphere m)) (rows_of_dim (sphere_rows m) n) (λ r l. (h.0, l)) (every_row (sphere_rows m) n)
bases-proper p (suc d) (product a b) n h =
    pairs-proper (value_at p d) a b (IsProper a) (IsProper b) (λ i. bases-proper p d a i h.0) (λ i. bases-proper p d b i h.1) n (numbers 0 (suc n))
bases-proper p (suc d) (suspension a) zero h = (tt, tt)
bases-proper p (suc d) (suspension a) (suc zero) h = tt
bases-proper p (suc d) (suspension a) (suc (suc n)) h =
    every_map (IsProper a) (IsProper (suspension a)) (λ y. Some y) (value_at p d (basis a (suc n))) (λ y r. r) (bases-proper p d a (suc n) h.0)
bases-proper p (suc d) kz1 zero h = (tt, tt)
bases-proper p (suc d) kz1 (suc zero) h = (tt, tt)
bases-proper p (suc d) kz1 (suc (suc n)) h = tt
bases-proper p (suc d) (bundle t c) n h =
    every (Both (IsProper (table t)) (IsProper kz1)) (IsProper (bundle t c))
    (value_with (value_at p d) (pairs_of_degree (table t) kz1 n (numbers 0 (suc n)))) (λ y r. r.0)
    (pairs-proper (value_at p d) (table t) kz1 (IsProper (table t)) (IsProper kz1) (λ i. bases-proper p d (table t) i h.0) (λ i. bases-proper p d kz1 i tt) n (numbers 0 (suc n)))
bases-proper p (suc d) (loops a) zero h = (tt, tt)
bases-proper p (suc d) (loops a) (suc n) h =
    words-proper (value_at p d) a (IsProper a) (λ i. bases-proper p d a i h.0) (λ i. bases-proper p d (loops a) i h) (suc n) (numbers 2 (suc n))
bases-proper p (suc d) (paths a) n h =
    pairs-proper (value_at p d) a (loops a) (IsProper a) (IsProper (loops a)) (λ i. bases-proper p d a i h.0) (λ i. bases-proper p d (loops a) i h) n (numbers 0 (suc n))
bases-proper p (suc d) (kzm1 m) n h = (tt, tt)
bases-proper p (suc d) (cyclic_bundle t m c) n h =
    every (Both (IsProper (table t)) (IsProper (kzm1 m))) (IsProper (cyclic_bundle t m c))
    (value_with (value_at p d) (pairs_of_degree (table t) (kzm1 m) n (numbers 0 (suc n)))) (λ y r. r.0)
    (pairs-proper (value_at p d) (table t) (kzm1 m) (IsProper (table t)) (IsProper (kzm1 m)) (λ i. bases-proper p d (table t) i h.0) (λ i. bases-proper p d (kzm1 m) i (h.2, h.3)) n (numbers 0 (suc n)))

-- what a basis lists
pub listed-proper : (p : ℕ) (a : Space) (n : ℕ) (y : Small a) → Admits a → Contains (value p (basis a n)) y → IsProper a y
listed-proper p a n y h is =
    All-contains (IsProper a) (value p (basis a n)) y (All-from_recursion (IsProper a) (value p (basis a n)) (bases-proper p _ a n h)) is
