-- The rows of cells, one after the other.
use Rattle.std.proofs.Common.{◌≡◌, ℕ, zero, suc, ◌+◌, ◌-◌, ◌%◌, ◌<◌, ◌≤◌, Bool, true, false, List, [], ◌∷◌, ◌++◌, map, length, take, get_or, set, min, refl, sym, ◌∙◌, ap, subst, arith}
use Rattle.std.proofs.Math.Nat.{mod-eq_of_lt, mod-lt}
use Rattle.std.proofs.Math.ListN.{length-append}
use Rattle.std.specs.List.{AllByRecursion}
use Rattle.std.specs.Ordering.{eq_by_cmp}
use Rattle.std.proofs.lemmas.List.Elements.{All-append, All-from_recursion}
use Rattle.std.proofs.Math.Seq.{take-suc}
use Rattle.std.proofs.lemmas.List.{map-append, length-map, length-take, take_all, set-append_right}
use Rattle.std.specs.declared.cmp.Ordering.{Ordering}
use Rattle.fp_field.specs.Chains.{Terms, coeff}
use Rattle.fp_field.specs.declared.prime.Prime.{Prime}
use Rattle.fp_field.specs.Field.{number}
use Rattle.fp_field.proofs.Primes.{number_pos, number_above_one}
use Rattle.echelons.specs.Echelon.{Vector, IsVector, at_place, zeros}
use Rattle.echelons.proofs.Vectors.{length-zeros, place-zeros, zeros-vector}
use Rattle.echelons.proofs.Halves.{zeros-append}
use Rattle.elim_fp.specs.Rows.{DenseRow, vectors_of, unit, IsRow}
use Rattle.elim_fp.proofs.Behind.{length-unit}
use Rattle.homology_rules.specs.CycleVectors.{coordinates_over, kernel_row, kernel_rows}

unit-set : (i n : ℕ) → i < n → set (zeros n) i 1 ≡ unit i n
unit-set i zero l = absurd (omega arith)
unit-set zero (suc n) l = refl
unit-set (suc i) (suc n) l = ap (λ v. 0 ∷ v) (unit-set i n (omega arith))

-- 1 at a place behind zeros
pub unit-row : (p w n i : ℕ) (new : Vector) → 1 < p → i < n → new ≡ set (zeros (w + n)) (w + i) ((at_place (zeros (w + n)) (w + i) + 1) % p) → new ≡ zeros w ++ unit i n
unit-row p w n i new a l e =
    e ∙ ap (λ x. set (zeros (w + n)) (w + i) ((x + 1) % p)) (place-zeros (w + n) (w + i)) ∙ ap (set (zeros (w + n)) (w + i)) (mod-eq_of_lt a)
    ∙ ap (λ v. set v (w + i) 1) (zeros-append w n) ∙ set-append_right (zeros w) (zeros n) w (w + i) 1 (length-zeros w) (let q : w ≤ w + i = omega arith in q)
    ∙ ap (λ x. zeros w ++ set (zeros n) x 1) (let q : (w + i) - w ≡ i = omega arith in q) ∙ ap (λ v. zeros w ++ v) (unit-set i n l)

-- ---- each row is a vector

join-vector : (p a b : ℕ) (u v : Vector) → IsVector p a u → IsVector p b v → IsVector p (a + b) (u ++ v)
join-vector p a b u v g h = record {
  wide = length-append u v ∙ (λ i. g.wide i + h.wide i);
  below = All-append (λ x. x < p) u v g.below h.below;
}

unit-vector : (p i n : ℕ) → 1 < p → IsVector p n (unit i n)
unit-vector p i n above = record { wide = length-unit i n; below = All-from_recursion (λ x. x < p) (unit i n) (by i n) }
  where
    zeros-by : (n : ℕ) → AllByRecursion (λ x. x < p) (zeros n)
    zeros-by zero = tt
    zeros-by (suc n) = (omega arith, zeros-by n)

    by : (i n : ℕ) → AllByRecursion (λ x. x < p) (unit i n)
    by i zero = tt
    by zero (suc n) = (above, zeros-by n)
    by (suc i) (suc n) = (omega arith, by i n)

pub coordinates-vector : {K : Type 0} (cmp : K → K → Ordering) (p : ℕ) → 0 < p → (cols : List K) (d : Terms K) → IsVector p (length cols) (coordinates_over cmp p cols d)
coordinates-vector {K} cmp p pos cols d =
    record { wide = length-map cols (λ y. coeff (eq_by_cmp cmp) d y % p); below = All-from_recursion (λ x. x < p) (coordinates_over cmp p cols d) (by cols) }
  where
    by : (ys : List K) → AllByRecursion (λ x. x < p) (coordinates_over cmp p ys d)
    by [] = tt
    by (y ∷ ys) = (mod-lt (coeff (eq_by_cmp cmp) d y) pos, by ys)

pub row-is : {K : Type 0} (cmp : K → K → Ordering) (q : Prime) (cols : List K) (n : ℕ) (m : Bool) (d : Terms K) (i : ℕ) (r : DenseRow) → r.prime ≡ q
    → r.values ≡ kernel_row cmp (number q) cols n m d i → IsRow q (length cols + n) r
row-is cmp q cols n m d i r e f = record { prime_is = e; vector = subst (IsVector (number q) (length cols + n)) (sym f) (by m) }
  where
    by : (m : Bool) → IsVector (number q) (length cols + n) (kernel_row cmp (number q) cols n m d i)
    by true = join-vector (number q) (length cols) n (zeros (length cols)) (unit i n) (zeros-vector (number q) (number_pos q) (length cols)) (unit-vector (number q) i n (number_above_one q))
    by false = join-vector (number q) (length cols) n (coordinates_over cmp (number q) cols d) (zeros n) (coordinates-vector cmp (number q) (number_pos q) cols d) (zeros-vector (number q) (number_pos q) n)

-- ---- one row more

module _ {K : Type 0} (cmp : K → K → Ordering) (p : ℕ) (cols : List K) (n : ℕ) where
  rows-append : (i : ℕ) (ms : List Bool) (ds : List (Terms K)) (m : Bool) (d : Terms K) → length ms ≡ length ds
      → kernel_rows cmp p cols n i (ms ++ m ∷ []) (ds ++ d ∷ []) ≡ kernel_rows cmp p cols n i ms ds ++ kernel_row cmp p cols n m d (i + length ms) ∷ []
  rows-append i [] [] m d e = ap (λ x. kernel_row cmp p cols n m d x ∷ []) (let q : i ≡ i + 0 = omega arith in q)
  rows-append i [] (c ∷ ds) m d e = absurd (omega (arith, e))
  rows-append i (l ∷ ms) [] m d e = absurd (omega (arith, e))
  rows-append i (l ∷ ms) (c ∷ ds) m d e =
      ap (λ rs. kernel_row cmp p cols n l c i ∷ rs)
      (rows-append (suc i) ms ds m d (omega (arith, e)) ∙ ap (λ x. kernel_rows cmp p cols n (suc i) ms ds ++ kernel_row cmp p cols n m d x ∷ []) (let q : suc i + length ms ≡ i + suc (length ms) = omega arith in q))

  module _ {V : Type 0} (chain_of : V → Terms K) (ms : List Bool) (vs : List V) (same : length ms ≡ length vs) where
    mapped : (i : ℕ) (v : V) → i < length vs → v ≡ get_or vs i v → map chain_of (take (i + 1) vs) ≡ map chain_of (take i vs) ++ chain_of v ∷ []
    mapped i v l e =
        ap (λ k. map chain_of (take k vs)) (let q : i + 1 ≡ suc i = omega arith in q) ∙ ap (map chain_of) (take-suc vs i v l ∙ ap (λ x. take i vs ++ x ∷ []) (sym e)) ∙ map-append chain_of (take i vs) (v ∷ [])

    taken : (i : ℕ) (d : Bool) → i < length ms → take (i + 1) ms ≡ take i ms ++ get_or ms i d ∷ []
    taken i d l = ap (λ k. take k ms) (let q : i + 1 ≡ suc i = omega arith in q) ∙ take-suc ms i d l

    alike : (i : ℕ) → length (take i ms) ≡ length (map chain_of (take i vs))
    alike i = length-take i ms ∙ ap (λ k. min i k) same ∙ sym (length-map (take i vs) chain_of ∙ length-take i vs)

    pub rows_more : (i : ℕ) (d : Bool) (v : V) (old new : List DenseRow) (r : DenseRow) → i < length vs → v ≡ get_or vs i v
        → vectors_of old ≡ kernel_rows cmp p cols n 0 (take i ms) (map chain_of (take i vs)) → r.values ≡ kernel_row cmp p cols n (get_or ms i d) (chain_of v) i → new ≡ old ++ r ∷ []
        → vectors_of new ≡ kernel_rows cmp p cols n 0 (take (i + 1) ms) (map chain_of (take (i + 1) vs))
    rows_more i d v old new r l e h f g =
        ap vectors_of g ∙ map-append (λ (x : DenseRow). x.values) old (r ∷ []) ∙ (λ j. h j ++ f j ∷ [])
        ∙ ap (λ x. kernel_rows cmp p cols n 0 (take i ms) (map chain_of (take i vs)) ++ kernel_row cmp p cols n (get_or ms i d) (chain_of v) x ∷ [])
        (sym (let t : length (take i ms) ≡ i = length-take i ms ∙ (let q : min i (length ms) ≡ i = omega (arith, same) in q) in let q : 0 + length (take i ms) ≡ i = omega (arith, t) in q))
        ∙ sym (rows-append 0 (take i ms) (map chain_of (take i vs)) (get_or ms i d) (chain_of v) (alike i))
        ∙ (λ j. kernel_rows cmp p cols n 0 (sym (taken i d (let q : i < length ms = omega (arith, same) in q)) j) (sym (mapped i v l e) j))

    pub rows_all : (i : ℕ) → length vs ≤ i → kernel_rows cmp p cols n 0 (take i ms) (map chain_of (take i vs)) ≡ kernel_rows cmp p cols n 0 ms (map chain_of vs)
    rows_all i l = λ j. kernel_rows cmp p cols n 0 (take_all i ms (let q : length ms ≤ i = omega (arith, same) in q) j) (map chain_of (take_all i vs l j))
