-- The relations between rows: what stands behind the zeros in the basis of the rows with unit vectors behind them.
use Rattle.std.proofs.Common.{◌≡◌, ◌⊎◌, inl, inr, ℕ, zero, suc, ◌+◌, ◌<◌, ◌≤◌, List, [], ◌∷◌, ◌++◌, All, length, take, drop, get_or, cond, refl, sym, ◌∙◌, ap, subst, arith}
use Rattle.std.proofs.Math.ListN.{length-append}
use Rattle.std.proofs.Math.Seq.{take-suc}
use Rattle.std.proofs.lemmas.Bool.{cases_lt, lt-ltb, le-ltb}
use Rattle.std.proofs.lemmas.List.{get_or-map, map-append, take_all, append-nil}
use Rattle.std.proofs.lemmas.List.Elements.{All-append, All-from_recursion, recursion_from_All}
use Rattle.std.specs.List.{AllByRecursion as Each}
use Rattle.fp_field.specs.declared.prime.Prime.{Prime}
use Rattle.fp_field.specs.Field.{number}
use Rattle.fp_field.proofs.Primes.{number_pos, number_above_one}
use Rattle.echelons.specs.Echelon.{Vector, IsVector, zeros, lead}
use Rattle.echelons.proofs.Vectors.{Wide, zeros-vector}
use Rattle.echelons.proofs.Halves.{side, units, length-units}
use Rattle.elim_fp.specs.Rows.{DenseRow, vectors_of, IsRow, unit, tails}
use Rattle.elim_fp.proofs.Left.{length-vectors, row-values}
use Rattle.elim_fp.proofs.Behind.{length-unit}

-- an element of a list, whatever is read past its end
pub read-same : {A : Type 0} (xs : List A) (k : ℕ) (d e : A) → k < length xs → get_or xs k d ≡ get_or xs k e
read-same [] k d e l = absurd (omega arith)
read-same (x ∷ xs) zero d e l = refl
read-same (x ∷ xs) (suc k) d e l = read-same xs k d e (omega arith)

-- ---- rows with unit vectors behind them

pub units-at : (n i : ℕ) → i < n → get_or (units n) i [] ≡ unit i n
units-at zero i l = absurd (omega arith)
units-at (suc n) zero l = refl
units-at (suc n) (suc i) l = get_or-map (λ v. 0 ∷ v) (units n) i [] [] (subst (λ k. i < k) (sym (units-long n)) (omega arith)) ∙ ap (λ v. 0 ∷ v) (units-at n i (omega arith))
  where
    units-long : (k : ℕ) → length (units k) ≡ k
    units-long k = length-units k

side-more : (us vs : List Vector) (i : ℕ) → i < length us → i < length vs → side (take (suc i) us) (take (suc i) vs) ≡ side (take i us) (take i vs) ++ (get_or us i [] ++ get_or vs i []) ∷ []
side-more [] vs i l k = absurd (omega arith)
side-more (u ∷ us) [] i l k = absurd (omega arith)
side-more (u ∷ us) (v ∷ vs) zero l k = refl
side-more (u ∷ us) (v ∷ vs) (suc i) l k = ap (λ ws. (u ++ v) ∷ ws) (side-more us vs i (omega arith) (omega arith))

-- one row more
pub marked-more : (xs old new : List DenseRow) (i : ℕ) (x y : DenseRow) → i < length xs → x ≡ get_or xs i x → new ≡ old ++ y ∷ [] → y.values ≡ x.values ++ unit i (length xs)
    → vectors_of old ≡ side (take i (vectors_of xs)) (take i (units (length xs)))
    → vectors_of new ≡ side (take (suc i) (vectors_of xs)) (take (suc i) (units (length xs)))
marked-more xs old new i x y l e f g h =
    ap vectors_of f ∙ map-append (λ r. r.values) old (y ∷ [])
    ∙ (λ t. h t ++ (g ∙ (λ s. row-values xs i x l e s ++ sym (units-at (length xs) i l) s)) t ∷ [])
    ∙ sym (side-more (vectors_of xs) (units (length xs)) i (subst (λ n. i < n) (sym (length-vectors xs)) l) (subst (λ n. i < n) (sym (length-units (length xs))) l))

pub marked-all : (xs old : List DenseRow) (i : ℕ) → length xs ≤ i → vectors_of old ≡ side (take i (vectors_of xs)) (take i (units (length xs)))
    → vectors_of old ≡ side (vectors_of xs) (units (length xs))
marked-all xs old i l h =
    h ∙ (λ t. side (take_all i (vectors_of xs) (subst (λ n. n ≤ i) (sym (length-vectors xs)) l) t) (take_all i (units (length xs)) (subst (λ n. n ≤ i) (sym (length-units (length xs))) l) t))

-- ---- the parts behind the zeros

tails-append : (h : ℕ) (vs : List Vector) (v : Vector) → tails h (vs ++ v ∷ []) ≡ tails h vs ++ tails h (v ∷ [])
tails-append h [] v = refl
tails-append h (u ∷ vs) v = by (cases_lt (lead u) h) (tails-append h vs v)
  where
    by : (lead u < h) ⊎ (h ≤ lead u) → tails h (vs ++ v ∷ []) ≡ tails h vs ++ tails h (v ∷ []) → tails h (u ∷ (vs ++ v ∷ [])) ≡ tails h (u ∷ vs) ++ tails h (v ∷ [])
    by (inl l) e = rw lt-ltb e
    by (inr l) e = rw le-ltb (ap (λ ws. drop h u ∷ ws) e)

tails-take : (h : ℕ) (xs : List DenseRow) (i : ℕ) (x : DenseRow) → i < length xs → x ≡ get_or xs i x
    → tails h (take (suc i) (vectors_of xs)) ≡ tails h (take i (vectors_of xs)) ++ tails h (x.values ∷ [])
tails-take h xs i x l e =
    ap (tails h) (take-suc (vectors_of xs) i [] (subst (λ n. i < n) (sym (length-vectors xs)) l))
    ∙ tails-append h (take i (vectors_of xs)) (get_or (vectors_of xs) i [])
    ∙ ap (λ v. tails h (take i (vectors_of xs)) ++ tails h (v ∷ [])) (sym (row-values xs i x l e))

pub tails-kept : (h : ℕ) (xs : List DenseRow) (i : ℕ) (x : DenseRow) → i < length xs → x ≡ get_or xs i x → lead x.values < h
    → tails h (take i (vectors_of xs)) ≡ tails h (take (suc i) (vectors_of xs))
tails-kept h xs i x l e k = sym (tails-take h xs i x l e ∙ ap (λ b. tails h (take i (vectors_of xs)) ++ cond b [] (drop h x.values ∷ [])) (lt-ltb (lead x.values) h k) ∙ append-nil _)

pub tails-more : (h : ℕ) (xs old new : List DenseRow) (i : ℕ) (x y : DenseRow) → i < length xs → x ≡ get_or xs i x → h ≤ lead x.values → new ≡ old ++ y ∷ [] → y.values ≡ drop h x.values
    → vectors_of old ≡ tails h (take i (vectors_of xs)) → vectors_of new ≡ tails h (take (suc i) (vectors_of xs))
tails-more h xs old new i x y l e k f g m =
    ap vectors_of f ∙ map-append (λ r. r.values) old (y ∷ []) ∙ (λ t. m t ++ g t ∷ [])
    ∙ sym (tails-take h xs i x l e ∙ ap (λ b. tails h (take i (vectors_of xs)) ++ cond b [] (drop h x.values ∷ [])) (le-ltb (lead x.values) h k))

-- ---- the same of rows

pub rows-wide : (q : Prime) (w : ℕ) (xs : List DenseRow) → All (IsRow q w) xs → Wide w (vectors_of xs)
rows-wide q w xs h = by xs (recursion_from_All (IsRow q w) xs h)
  where
    by : (ys : List DenseRow) → Each (IsRow q w) ys → Wide w (vectors_of ys)
    by [] k = tt
    by (y ∷ ys) k = (k.0.vector.wide, by ys k.1)

-- a row with a unit vector behind it is a row
pub marked-row : (q : Prime) (w i n : ℕ) (x y : DenseRow) → IsRow q w x → y.prime ≡ x.prime → y.values ≡ x.values ++ unit i n → IsRow q (w + n) y
marked-row q w i n x y h e f = record {
  prime_is = e ∙ h.prime_is;
  vector = subst (IsVector (number q) (w + n)) (sym f) (record {
    wide = length-append x.values (unit i n) ∙ (let a : length x.values ≡ w = h.vector.wide in let b : length (unit i n) ≡ n = length-unit i n in let s : length x.values + length (unit i n) ≡ w + n = omega arith in s);
    below = All-append (λ a. a < number q) x.values (unit i n) h.vector.below (All-from_recursion (λ a. a < number q) (unit i n) (small i n));
  });
}
  where
    zero-small : (k : ℕ) → Each (λ a. a < number q) (zeros k)
    zero-small k = recursion_from_All (λ a. a < number q) (zeros k) (zeros-vector (number q) (number_pos q) k).below

    small : (j k : ℕ) → Each (λ a. a < number q) (unit j k)
    small j zero = tt
    small zero (suc k) = (number_above_one q, zero-small k)
    small (suc j) (suc k) = (number_pos q, small j k)
