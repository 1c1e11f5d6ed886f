-- What the rules of bases ask: bases of less depth. So bases are given back, and a greater depth changes nothing.
use Rattle.std.proofs.Common.{◌≡◌, ℕ, zero, suc, ◌+◌, ◌-◌, ◌<◌, ◌≤◌, List, [], ◌∷◌, ◌++◌, refl, sym, ◌∙◌, ap, arith}
use Rattle.std.specs.Prelude.{map}
use Rattle.spaces.specs.Spaces.{Space, table, sphere, product, suspension, kz1, bundle, loops, paths, kzm1, cyclic_bundle}
use Rattle.values.specs.Asks.{Ask, basis, small_d, f, g, h, cycles, Answers, Right, gives, asks, ◌>>=◌, value_with, asked_with}
use Rattle.values.specs.Rules.{numbers, all_pairs, pairs_of_degree, words_of_degree, rule_basis}
use Rattle.values.specs.Values.{depth, depth_of, right_side, value_at, value}
use Rattle.values.proofs.Readings.{EachAsk, each_ask, value_with-bind, value_with-agree, value_at-stable, value-IsValues}
use Rattle.values.proofs.BasesLists.{Every, gathered, numbers-within}

-- ---- questions about bases

abbrev pub IsBasis : Ask → Type 0
IsBasis (basis a n) = Unit {0}
IsBasis (small_d a y) = ⊥
IsBasis (f a n x) = ⊥
IsBasis (g a y) = ⊥
IsBasis (h a n x) = ⊥
IsBasis (cycles a n) = ⊥

-- the questions of one right side and then of the next
pub each_bind : {A B : Type 0} (P : Ask → Type 0) (answers : Answers) (m : Right A) (next : A → Right B)
    → EachAsk P (asked_with answers m) → EachAsk P (asked_with answers (next (value_with answers m))) → EachAsk P (asked_with answers (m >>= next))
each_bind P answers (gives a) next u v = v
each_bind P answers (asks k then) next u v = (u.0, each_bind P answers (then (answers k)) next u.1 v)

module _ (P : Ask → Type 0) (answers : Answers) (a b : Space) (n : ℕ) where
  pub pairs-ask : (is : List ℕ) → Every (λ i. P (basis a i) × P (basis b (n - i))) is → EachAsk P (asked_with answers (pairs_of_degree a b n is))
  pairs-ask [] u = tt
  pairs-ask (i ∷ is) u = (
    u.0.0,
    (
      u.0.1,
      each_bind P answers (pairs_of_degree a b n is) (λ rest. gives (all_pairs (answers (basis a i)) (answers (basis b (n - i))) ++ rest))
          (pairs-ask is u.1) tt,
    ),
  )

module _ (P : Ask → Type 0) (answers : Answers) (a : Space) (n : ℕ) where
  pub words-ask : (is : List ℕ) → Every (λ i. P (basis a i) × P (basis (loops a) (suc n - i))) is
      → EachAsk P (asked_with answers (words_of_degree a n is))
  words-ask [] u = tt
  words-ask (i ∷ is) u = (
    u.0.0,
    (
      u.0.1,
      each_bind P answers (words_of_degree a n is)
          (λ rest. gives (map (λ x. x.0 ∷ x.1) (all_pairs (answers (basis a i)) (answers (basis (loops a) (suc n - i)))) ++ rest))
          (words-ask is u.1) tt,
    ),
  )

-- ---- depths

pub depth-rises : (a : Space) (m n : ℕ) → m ≤ n → depth a m ≤ depth a n
depth-rises (table t) m n l = omega arith
depth-rises (sphere k) m n l = omega arith
depth-rises (product a b) m n l = let u = depth-rises a m n l in let v = depth-rises b m n l in omega (arith, u, v)
depth-rises (suspension a) m n l = let u = depth-rises a m n l in omega (arith, u)
depth-rises kz1 m n l = omega arith
depth-rises (bundle t c) m n l = omega arith
depth-rises (loops a) m n l = let u = depth-rises a (suc m) (suc n) (omega arith) in omega (arith, u)
depth-rises (paths a) m n l = let u = depth-rises a (suc m) (suc n) (omega arith) in omega (arith, u)
depth-rises (kzm1 k) m n l = omega arith
depth-rises (cyclic_bundle t k c) m n l = omega arith

pub some-depth : (a : Space) (n : ℕ) → 0 < depth a n
some-depth (table t) n = omega arith
some-depth (sphere k) n = omega arith
some-depth (product a b) n = omega arith
some-depth (suspension a) n = omega arith
some-depth kz1 n = omega arith
some-depth (bundle t c) n = omega arith
some-depth (loops a) n = omega arith
some-depth (paths a) n = omega arith
some-depth (kzm1 k) n = omega arith
some-depth (cyclic_bundle t k c) n = omega arith

-- ---- what is asked has less depth

abbrev pub IsWithin : ℕ → Ask → Type 0
IsWithin d j = IsBasis j × (depth_of j ≤ d)

module _ (d : ℕ) (answers : Answers) where
  pairs-within : (a b : Space) (n : ℕ) → depth a n ≤ d → depth b n ≤ d
      → EachAsk (IsWithin d) (asked_with answers (pairs_of_degree a b n (numbers 0 (suc n))))
  pairs-within a b n u v =
      pairs-ask (IsWithin d) answers a b n (numbers 0 (suc n))
      (numbers-within (λ i. IsWithin d (basis a i) × IsWithin d (basis b (n - i))) 0 (suc n)
      (λ i l s. ((tt, left i s), (tt, right i))))
    where
      left : (i : ℕ) → i < 0 + suc n → depth a i ≤ d
      left i s = let w = depth-rises a i n (omega arith) in omega (arith, w)

      right : (i : ℕ) → depth b (n - i) ≤ d
      right i = let w = depth-rises b (n - i) n (omega arith) in omega (arith, w)

  basis-within : (a : Space) (n : ℕ) → depth a n ≤ suc d → EachAsk (IsWithin d) (asked_with answers (rule_basis a n))
  basis-within (table t) n u = tt
  basis-within (sphere k) n u = tt
  basis-within (product a b) n u = pairs-within a b n (omega arith) (omega arith)
  basis-within (suspension a) zero u = tt
  basis-within (suspension a) (suc zero) u = tt
  basis-within (suspension a) (suc (suc n)) u = ((tt, let w = depth-rises a (suc n) (suc (suc n)) (omega arith) in omega (arith, w)), tt)
  basis-within kz1 zero u = tt
  basis-within kz1 (suc zero) u = tt
  basis-within kz1 (suc (suc n)) u = tt
  basis-within (bundle t c) n u = pairs-within (table t) kz1 n (omega arith) (omega arith)
  basis-within (loops a) zero u = tt
  basis-within (loops a) (suc n) u =
      words-ask (IsWithin d) answers a (suc n) (numbers 2 (suc n))
      (numbers-within (λ i. IsWithin d (basis a i) × IsWithin d (basis (loops a) (suc (suc n) - i))) 2 (suc n)
      (λ i l s. ((tt, left i s), (tt, right i l))))
    where
      left : (i : ℕ) → i < 2 + suc n → depth a i ≤ d
      left i s = let w = depth-rises a i (suc (suc n)) (omega arith) in omega (arith, w)

      right : (i : ℕ) → 2 ≤ i → depth (loops a) (suc (suc n) - i) ≤ d
      right i l = let w = depth-rises a (suc (suc (suc n) - i)) (suc (suc n)) (omega arith) in omega (arith, w)
  basis-within (paths a) n u =
      pairs-within a (loops a) n (let w = depth-rises a n (suc n) (omega arith) in omega (arith, w)) (omega arith)
  basis-within (kzm1 k) n u = tt
  basis-within (cyclic_bundle t k c) n u = pairs-within (table t) (kzm1 k) n (omega arith) (omega arith)

-- ---- bases are given back

module _ (p : ℕ) where
  pub some-depth_of : (k : Ask) → IsBasis k → 0 < depth_of k
  some-depth_of (basis a n) m = some-depth a n
  some-depth_of (small_d a y) m = absurd m
  some-depth_of (f a n x) m = absurd m
  some-depth_of (g a y) m = absurd m
  some-depth_of (h a n x) m = absurd m
  some-depth_of (cycles a n) m = absurd m

  pub basis-lower : (d : ℕ) (k : Ask) → IsBasis k → depth_of k ≤ suc d → EachAsk (IsWithin d) (asked_with (value_at p d) (right_side p k))
  basis-lower d (basis a n) m u = basis-within d (value_at p d) a n u
  basis-lower d (small_d a y) m u = absurd m
  basis-lower d (f a n x) m u = absurd m
  basis-lower d (g a y) m u = absurd m
  basis-lower d (h a n x) m u = absurd m
  basis-lower d (cycles a n) m u = absurd m

  pub basis-given_back : (a : Space) (n : ℕ) → value p (basis a n) ≡ value_with (value p) (rule_basis a n)
  basis-given_back a n = value-IsValues p IsBasis some-depth_of basis-lower (basis a n) tt

  pub basis-deeper : (d : ℕ) (a : Space) (n : ℕ) → depth a n ≤ d → value_at p d (basis a n) ≡ value p (basis a n)
  basis-deeper d a n l = sym (value_at-stable p IsBasis some-depth_of basis-lower (depth a n) d (basis a n) tt (let r : depth a n ≤ depth a n = omega arith in r) l)

-- ---- bases do not depend on the field

basis_at-same : (p q d : ℕ) (k : Ask) → IsBasis k → value_at p d k ≡ value_at q d k
basis_at-same p q zero k m = refl
basis_at-same p q (suc d) (basis a n) m =
    value_with-agree (value_at p d) (value_at q d) (rule_basis a n)
    (each_ask (asked_with (value_at p d) (rule_basis a n)) (λ j e. basis_at-same p q d j e.0)
    (basis-within (depth a n) (value_at p d) a n (let r : depth a n ≤ suc (depth a n) = omega arith in r)))
basis_at-same p q (suc d) (small_d a y) m = absurd m
basis_at-same p q (suc d) (f a n x) m = absurd m
basis_at-same p q (suc d) (g a y) m = absurd m
basis_at-same p q (suc d) (h a n x) m = absurd m
basis_at-same p q (suc d) (cycles a n) m = absurd m

pub basis-same : (p q : ℕ) (a : Space) (n : ℕ) → value p (basis a n) ≡ value q (basis a n)
basis-same p q a n = basis_at-same p q (depth a n) (basis a n) tt

-- ---- the values of the rules

module _ (answers : Answers) where
  pub pairs-value : (a b : Space) (n : ℕ) (is : List ℕ)
      → value_with answers (pairs_of_degree a b n is) ≡ gathered (λ i. all_pairs (answers (basis a i)) (answers (basis b (n - i)))) is
  pairs-value a b n [] = refl
  pairs-value a b n (i ∷ is) =
      value_with-bind answers (pairs_of_degree a b n is) (λ rest. gives (all_pairs (answers (basis a i)) (answers (basis b (n - i))) ++ rest))
      ∙ ap (λ rest. all_pairs (answers (basis a i)) (answers (basis b (n - i))) ++ rest) (pairs-value a b n is)

  pub words-value : (a : Space) (n : ℕ) (is : List ℕ)
      → value_with answers (words_of_degree a n is)
      ≡ gathered (λ i. map (λ x. x.0 ∷ x.1) (all_pairs (answers (basis a i)) (answers (basis (loops a) (suc n - i))))) is
  words-value a n [] = refl
  words-value a n (i ∷ is) =
      value_with-bind answers (words_of_degree a n is)
      (λ rest. gives (map (λ x. x.0 ∷ x.1) (all_pairs (answers (basis a i)) (answers (basis (loops a) (suc n - i)))) ++ rest))
      ∙ ap (λ rest. map (λ x. x.0 ∷ x.1) (all_pairs (answers (basis a i)) (answers (basis (loops a) (suc n - i)))) ++ rest) (words-value a n is)
