-- What is needed for bases, for cycles, and at spaces without parts and suspensions is valid, of lower rank and of less depth.
use Rattle.std.proofs.Common.{◌≡◌, ℕ, zero, suc, ◌+◌, ◌-◌, ◌<◌, ◌≤◌, false, ◌⊎◌, inl, inr, [], refl, sym, arith, true≢false, subst}
use Rattle.std.specs.Prelude.{Some, None}
use Rattle.spaces.specs.Tables.{Table}
use Rattle.spaces.specs.Spaces.{Space, table, sphere, product, suspension, kz1, bundle, loops, paths, kzm1, cyclic_bundle, Plain}
use Rattle.spaces.specs.SmallCells.{Small, small_degree}
use Rattle.spaces.specs.Allowed.{IsAllowed}
use Rattle.values.specs.Asks.{Ask, basis, small_d, f, g, h, cycles, value_with, asked_with}
use Rattle.values.specs.Rules.{numbers, pairs_of_degree}
use Rattle.values.specs.Values.{value, value_at, right_side, needs, depth, depth_of}
use Rattle.values.specs.Outcomes.{Limits, AreOutcomes, made_with, outcome, outcome_at}
use Rattle.values.specs.Ranks.{IsValid, IsSmallCell, NeedsAreLower, space_of, is_cycles, weight, loopings}
use Rattle.values.specs.Laws.{ValuesAreGivenBack}
use Rattle.values.specs.BaseLaws.{IsBelow, NeedsAreBelow, HasNoParts, IsSuspension, IsSimple}
use Rattle.values.proofs.Readings.{EachAsk}
use Rattle.values.proofs.BasesLists.{member_of, numbers-within}
use Rattle.values.proofs.BasesAsks.{pairs-ask, words-ask, depth-rises}
use Rattle.values.proofs.BasesCells.{basis-members}
use Rattle.values.proofs.BasesCycles.{cycles-each, cycles-below, asked-at}
use Rattle.values.proofs.BasesDepth.{each-asked, given-back, outcome-back, deeper-same, outcome-deeper_same}
use Rattle.values.proofs.BasesSuspended.{suspended-cell}

-- ---- a fact of these spaces

without_parts : (P : Space → Type 0) → ((t : Table) → P (table t)) → ((m : ℕ) → P (sphere m)) → P kz1 → ((m : ℕ) → P (kzm1 m)) → (a : Space) → HasNoParts a → P a
without_parts P t s i c (table r) u = t r
without_parts P t s i c (sphere m) u = s m
without_parts P t s i c (product a b) u = absurd u
without_parts P t s i c (suspension a) u = absurd u
without_parts P t s i c kz1 u = i
without_parts P t s i c (bundle r k) u = absurd u
without_parts P t s i c (loops a) u = absurd u
without_parts P t s i c (paths a) u = absurd u
without_parts P t s i c (kzm1 m) u = c m
without_parts P t s i c (cyclic_bundle r m k) u = absurd u

of_suspension : (P : Space → Type 0) → ((a : Space) → P (suspension a)) → (a : Space) → IsSuspension a → P a
of_suspension P s (table r) u = absurd u
of_suspension P s (sphere m) u = absurd u
of_suspension P s (product a b) u = absurd u
of_suspension P s (suspension a) u = s a
of_suspension P s kz1 u = absurd u
of_suspension P s (bundle r k) u = absurd u
of_suspension P s (loops a) u = absurd u
of_suspension P s (paths a) u = absurd u
of_suspension P s (kzm1 m) u = absurd u
of_suspension P s (cyclic_bundle r m k) u = absurd u

-- a space without parts, or a suspension of a simple space
simple_cases : (P : Space → Type 0) → ((a : Space) → HasNoParts a → P a) → ((a : Space) → IsSimple a → P (suspension a)) → (a : Space) → IsSimple a → P a
simple_cases P n s (table r) u = n (table r) tt
simple_cases P n s (sphere m) u = n (sphere m) tt
simple_cases P n s (product a b) u = absurd u
simple_cases P n s (suspension a) u = s a u
simple_cases P n s kz1 u = n kz1 tt
simple_cases P n s (bundle r k) u = absurd u
simple_cases P n s (loops a) u = absurd u
simple_cases P n s (paths a) u = absurd u
simple_cases P n s (kzm1 m) u = n (kzm1 m) tt
simple_cases P n s (cyclic_bundle r m k) u = absurd u

module _ (p : ℕ) where
  -- ---- spaces without parts

  pub no_parts-no_needs : (k : Ask) → HasNoParts (space_of k) → is_cycles k ≡ false → needs p k ≡ []
  no_parts-no_needs (basis a n) u e = without_parts (λ b. (i : ℕ) → needs p (basis b i) ≡ []) (λ t i. refl) (λ m i. refl) integers (λ m i. refl) a u n
    where
      integers : (i : ℕ) → needs p (basis kz1 i) ≡ []
      integers zero = refl
      integers (suc zero) = refl
      integers (suc (suc i)) = refl
  no_parts-no_needs (small_d a y) u e = without_parts (λ b. (z : Small b) → needs p (small_d b z) ≡ []) (λ t z. refl) (λ m z. refl) (λ z. refl) (λ m z. refl) a u y
  no_parts-no_needs (f a n x) u e = without_parts (λ b. (i : ℕ) (z : Plain b) → needs p (f b i z) ≡ []) (λ t i z. refl) (λ m i z. refl) (λ i z. refl) (λ m i z. refl) a u n x
  no_parts-no_needs (g a y) u e = without_parts (λ b. (z : Small b) → needs p (g b z) ≡ []) (λ t z. refl) (λ m z. refl) (λ z. refl) (λ m z. refl) a u y
  no_parts-no_needs (h a n x) u e = without_parts (λ b. (i : ℕ) (z : Plain b) → needs p (h b i z) ≡ []) (λ t i z. refl) (λ m i z. refl) (λ i z. refl) (λ m i z. refl) a u n x
  no_parts-no_needs (cycles a n) u e = absurd (true≢false e)

  none-below : (P : Ask → Type 0) (k : Ask) → needs p k ≡ [] → EachAsk P (needs p k)
  none-below P k e = subst (EachAsk P) (sym e) tt

  -- ---- suspensions

  part_allowed : (a : Space) → IsAllowed (suspension a) → IsAllowed a
  part_allowed a is = (is.0.0, omega (arith, is.1))

  part_cell : (a : Space) (y : Small a) → IsSmallCell p (suspension a) (small_degree (suspension a) (Some y)) (Some y) → IsSmallCell p a (small_degree a y) y
  part_cell a y m =
      (basis-members p a (small_degree a y) y).1
      (refl, ((basis-members p (suspension a) (small_degree (suspension a) (Some y)) (Some y)).0 m).1.0)

  lighter : (a : Space) → weight a < weight a + 1
  lighter a = omega arith

  shallower : (a : Space) (m n : ℕ) → m ≤ n → depth a m < suc (depth a n)
  shallower a m n l = let u = depth-rises a m n l in omega (arith, u)

  suspension-below : (k : Ask) → IsSuspension (space_of k) → IsValid p k → is_cycles k ≡ false → EachAsk (λ j. IsBelow p j k) (needs p k)
  suspension-below (basis a n) u v e = of_suspension (λ b. (i : ℕ) → IsValid p (basis b i) → EachAsk (λ j. IsBelow p j (basis b i)) (needs p (basis b i))) by a u n v
    where
      by : (b : Space) (i : ℕ) → IsValid p (basis (suspension b) i) → EachAsk (λ j. IsBelow p j (basis (suspension b) i)) (needs p (basis (suspension b) i))
      by b zero w = tt
      by b (suc zero) w = tt
      by b (suc (suc i)) w = (((part_allowed b w.0, tt, omega (arith, w.2)), inl (lighter b), shallower b (suc i) (suc (suc i)) (omega arith)), tt)
  suspension-below (small_d a y) u v e = of_suspension (λ b. (z : Small b) → IsValid p (small_d b z) → EachAsk (λ j. IsBelow p j (small_d b z)) (needs p (small_d b z))) by a u y v
    where
      by : (b : Space) (z : Small (suspension b)) → IsValid p (small_d (suspension b) z) → EachAsk (λ j. IsBelow p j (small_d (suspension b) z)) (needs p (small_d (suspension b) z))
      by b None w = tt
      by b (Some z) w = (((part_allowed b w.0, part_cell b z w.1, omega (arith, w.2)), inl (lighter b), shallower b (small_degree b z) (suc (small_degree b z)) (omega arith)), tt)
  suspension-below (f a n x) u v e = of_suspension (λ b. (i : ℕ) (z : Plain b) → IsValid p (f b i z) → EachAsk (λ j. IsBelow p j (f b i z)) (needs p (f b i z))) by a u n x v
    where
      by : (b : Space) (i : ℕ) (z : Plain (suspension b)) → IsValid p (f (suspension b) i z) → EachAsk (λ j. IsBelow p j (f (suspension b) i z)) (needs p (f (suspension b) i z))
      by b i None w = tt
      by b i (Some s) w = (((part_allowed b w.0, suspended-cell b i s w.0.0 w.1, omega (arith, w.2)), inl (lighter b), shallower b (i - 1) i (omega arith)), tt)
  suspension-below (g a y) u v e = of_suspension (λ b. (z : Small b) → IsValid p (g b z) → EachAsk (λ j. IsBelow p j (g b z)) (needs p (g b z))) by a u y v
    where
      by : (b : Space) (z : Small (suspension b)) → IsValid p (g (suspension b) z) → EachAsk (λ j. IsBelow p j (g (suspension b) z)) (needs p (g (suspension b) z))
      by b None w = tt
      by b (Some z) w = (((part_allowed b w.0, part_cell b z w.1, omega (arith, w.2)), inl (lighter b), shallower b (small_degree b z) (suc (small_degree b z)) (omega arith)), tt)
  suspension-below (h a n x) u v e = of_suspension (λ b. (i : ℕ) (z : Plain b) → IsValid p (h b i z) → EachAsk (λ j. IsBelow p j (h b i z)) (needs p (h b i z))) by a u n x v
    where
      by : (b : Space) (i : ℕ) (z : Plain (suspension b)) → IsValid p (h (suspension b) i z) → EachAsk (λ j. IsBelow p j (h (suspension b) i z)) (needs p (h (suspension b) i z))
      by b i None w = tt
      by b i (Some s) w = (((part_allowed b w.0, suspended-cell b i s w.0.0 w.1, omega (arith, w.2)), inl (lighter b), shallower b (i - 1) i (omega arith)), tt)
  suspension-below (cycles a n) u v e = absurd (true≢false e)

  -- ---- bases

  pairs-below : (k : Ask) (a b : Space) (n : ℕ) → IsAllowed a → IsAllowed b → n + loopings a ≤ 24 → n + loopings b ≤ 24
      → weight a < weight (space_of k) → weight b < weight (space_of k) → depth a n < depth_of k → depth b n < depth_of k
      → EachAsk (λ j. IsBelow p j k) (asked_with (value p) (pairs_of_degree a b n (numbers 0 (suc n))))
  pairs-below k a b n ia ib la lb wa wb da db =
      pairs-ask (λ j. IsBelow p j k) (value p) a b n (numbers 0 (suc n))
      (numbers-within (λ i. IsBelow p (basis a i) k × IsBelow p (basis b (n - i)) k) 0 (suc n)
      (λ i l s. (((ia, tt, omega arith), inl wa, left i (omega arith)), ((ib, tt, omega arith), inl wb, right i))))
    where
      left : (i : ℕ) → i ≤ n → depth a i < depth_of k
      left i l = let r = depth-rises a i n l in omega (arith, r)

      right : (i : ℕ) → depth b (n - i) < depth_of k
      right i = let r = depth-rises b (n - i) n (omega arith) in omega (arith, r)

  basis-below : (a : Space) (n : ℕ) → IsValid p (basis a n) → EachAsk (λ j. IsBelow p j (basis a n)) (needs p (basis a n))
  basis-below (table t) n v = tt
  basis-below (sphere m) n v = tt
  basis-below (product a b) n v =
      pairs-below (basis (product a b) n) a b n (v.0.0.0, omega (arith, v.0.1)) (v.0.0.1, omega (arith, v.0.1)) (omega (arith, v.2)) (omega (arith, v.2))
      (omega arith) (omega arith) (omega arith) (omega arith)
  basis-below (suspension a) n v = suspension-below (basis (suspension a) n) tt v refl
  basis-below kz1 n v = none-below (λ j. IsBelow p j (basis kz1 n)) (basis kz1 n) (no_parts-no_needs (basis kz1 n) tt refl)
  basis-below (bundle t c) n v =
      pairs-below (basis (bundle t c) n) (table t) kz1 n (v.0.0.0, omega arith) (tt, omega arith) (omega (arith, v.2)) (omega (arith, v.2))
      (omega arith) (omega arith) (omega arith) (omega arith)
  basis-below (loops a) zero v = tt
  basis-below (loops a) (suc n) v =
      words-ask (λ j. IsBelow p j (basis (loops a) (suc n))) (value p) a (suc n) (numbers 2 (suc n))
      (numbers-within (λ i. IsBelow p (basis a i) (basis (loops a) (suc n)) × IsBelow p (basis (loops a) (suc (suc n) - i)) (basis (loops a) (suc n))) 2 (suc n)
      (λ i l s. ((left i s), (right i l))))
    where
      left : (i : ℕ) → i < 2 + suc n → IsBelow p (basis a i) (basis (loops a) (suc n))
      left i s = let r = depth-rises a i (suc (suc n)) (omega arith) in (((v.0.0.0, omega (arith, v.0.1)), tt, omega (arith, v.2)), inl (omega arith), omega (arith, r))

      right : (i : ℕ) → 2 ≤ i → IsBelow p (basis (loops a) (suc (suc n) - i)) (basis (loops a) (suc n))
      right i l =
          let r = depth-rises a (suc (suc (suc n) - i)) (suc (suc n)) (omega arith) in
          ((v.0, tt, omega (arith, v.2)), inr (refl, inr (refl, omega arith)), omega (arith, r))
  basis-below (paths a) n v =
      pairs-below (basis (paths a) n) a (loops a) n (v.0.0.0, omega (arith, v.0.1)) v.0 (omega (arith, v.2)) (omega (arith, v.2))
      (omega arith) (omega arith) (let r = depth-rises a n (suc n) (omega arith) in omega (arith, r)) (omega arith)
  basis-below (kzm1 m) n v = tt
  basis-below (cyclic_bundle t m c) n v =
      pairs-below (basis (cyclic_bundle t m c) n) (table t) (kzm1 m) n (v.0.0.0, omega arith) ((v.0.0.2, v.0.0.3), omega arith) (omega (arith, v.2)) (omega (arith, v.2))
      (omega arith) (omega arith) (omega arith) (omega arith)

  -- ---- as contracts say it

  at-each : (k : Ask) → EachAsk (λ j. IsBelow p j k) (needs p k) → NeedsAreBelow p k
  at-each k u j m = asked-at (λ i. IsBelow p i k) (needs p k) u j (member_of (needs p k) j m)

  pub basis-needs_below : (a : Space) (n : ℕ) → IsValid p (basis a n) → NeedsAreBelow p (basis a n)
  basis-needs_below a n v = at-each (basis a n) (basis-below a n v)

  pub cycles-needs_below : (a : Space) (n : ℕ) → IsValid p (cycles a n) → NeedsAreBelow p (cycles a n)
  cycles-needs_below a n v = at-each (cycles a n) (cycles-below p a n v)

  no_parts-below : (k : Ask) → HasNoParts (space_of k) → IsValid p k → EachAsk (λ j. IsBelow p j k) (needs p k)
  no_parts-below (basis a n) u v = none-below (λ j. IsBelow p j (basis a n)) (basis a n) (no_parts-no_needs (basis a n) u refl)
  no_parts-below (small_d a y) u v = none-below (λ j. IsBelow p j (small_d a y)) (small_d a y) (no_parts-no_needs (small_d a y) u refl)
  no_parts-below (f a n x) u v = none-below (λ j. IsBelow p j (f a n x)) (f a n x) (no_parts-no_needs (f a n x) u refl)
  no_parts-below (g a y) u v = none-below (λ j. IsBelow p j (g a y)) (g a y) (no_parts-no_needs (g a y) u refl)
  no_parts-below (h a n x) u v = none-below (λ j. IsBelow p j (h a n x)) (h a n x) (no_parts-no_needs (h a n x) u refl)
  no_parts-below (cycles a n) u v = cycles-below p a n v

  all_suspension-below : (k : Ask) → IsSuspension (space_of k) → IsValid p k → EachAsk (λ j. IsBelow p j k) (needs p k)
  all_suspension-below (basis a n) u v = suspension-below (basis a n) u v refl
  all_suspension-below (small_d a y) u v = suspension-below (small_d a y) u v refl
  all_suspension-below (f a n x) u v = suspension-below (f a n x) u v refl
  all_suspension-below (g a y) u v = suspension-below (g a y) u v refl
  all_suspension-below (h a n x) u v = suspension-below (h a n x) u v refl
  all_suspension-below (cycles a n) u v = cycles-below p a n v

  pub no_parts-needs_below : (k : Ask) → HasNoParts (space_of k) → IsValid p k → NeedsAreBelow p k
  no_parts-needs_below k u v = at-each k (no_parts-below k u v)

  pub suspension-needs_below : (k : Ask) → IsSuspension (space_of k) → IsValid p k → NeedsAreBelow p k
  suspension-needs_below k u v = at-each k (all_suspension-below k u v)

  -- ---- simple spaces: no validity is needed

  abbrev pub IsLess : Ask → Ask → Type 0
  IsLess k j = IsSimple (space_of j) × (depth_of j < depth_of k)

  pub simple-less : (k : Ask) → IsSimple (space_of k) → EachAsk (IsLess k) (needs p k)
  simple-less (basis a n) u = simple_cases (λ b. (i : ℕ) → EachAsk (IsLess (basis b i)) (needs p (basis b i)))
      (λ b v i. none-below (IsLess (basis b i)) (basis b i) (no_parts-no_needs (basis b i) v refl)) by a u n
    where
      by : (b : Space) → IsSimple b → (i : ℕ) → EachAsk (IsLess (basis (suspension b) i)) (needs p (basis (suspension b) i))
      by b v zero = tt
      by b v (suc zero) = tt
      by b v (suc (suc i)) = ((v, shallower b (suc i) (suc (suc i)) (omega arith)), tt)
  simple-less (small_d a y) u = simple_cases (λ b. (z : Small b) → EachAsk (IsLess (small_d b z)) (needs p (small_d b z)))
      (λ b v z. none-below (IsLess (small_d b z)) (small_d b z) (no_parts-no_needs (small_d b z) v refl)) by a u y
    where
      by : (b : Space) → IsSimple b → (z : Small (suspension b)) → EachAsk (IsLess (small_d (suspension b) z)) (needs p (small_d (suspension b) z))
      by b v None = tt
      by b v (Some z) = ((v, shallower b (small_degree b z) (suc (small_degree b z)) (omega arith)), tt)
  simple-less (f a n x) u = simple_cases (λ b. (i : ℕ) (z : Plain b) → EachAsk (IsLess (f b i z)) (needs p (f b i z)))
      (λ b v i z. none-below (IsLess (f b i z)) (f b i z) (no_parts-no_needs (f b i z) v refl)) by a u n x
    where
      by : (b : Space) → IsSimple b → (i : ℕ) (z : Plain (suspension b)) → EachAsk (IsLess (f (suspension b) i z)) (needs p (f (suspension b) i z))
      by b v i None = tt
      by b v i (Some s) = ((v, shallower b (i - 1) i (omega arith)), tt)
  simple-less (g a y) u = simple_cases (λ b. (z : Small b) → EachAsk (IsLess (g b z)) (needs p (g b z)))
      (λ b v z. none-below (IsLess (g b z)) (g b z) (no_parts-no_needs (g b z) v refl)) by a u y
    where
      by : (b : Space) → IsSimple b → (z : Small (suspension b)) → EachAsk (IsLess (g (suspension b) z)) (needs p (g (suspension b) z))
      by b v None = tt
      by b v (Some z) = ((v, shallower b (small_degree b z) (suc (small_degree b z)) (omega arith)), tt)
  simple-less (h a n x) u = simple_cases (λ b. (i : ℕ) (z : Plain b) → EachAsk (IsLess (h b i z)) (needs p (h b i z)))
      (λ b v i z. none-below (IsLess (h b i z)) (h b i z) (no_parts-no_needs (h b i z) v refl)) by a u n x
    where
      by : (b : Space) → IsSimple b → (i : ℕ) (z : Plain (suspension b)) → EachAsk (IsLess (h (suspension b) i z)) (needs p (h (suspension b) i z))
      by b v i None = tt
      by b v i (Some s) = ((v, shallower b (i - 1) i (omega arith)), tt)
  simple-less (cycles a n) u =
      cycles-each p a n (IsLess (cycles a n)) (λ i l. (u, shallower a i (suc n) l))
      (λ y m l. ((u, shallower a (small_degree a y) (suc n) l), (u, shallower a (small_degree a y) (suc n) l)))

  pub simple-given_back : (k : Ask) → IsSimple (space_of k) → value p k ≡ value_with (value p) (right_side p k)
  simple-given_back k u = given-back p (λ j. IsSimple (space_of j)) simple-less k u

  simple_is : (a : Space) → IsSimple a → HasNoParts a ⊎ IsSuspension a
  simple_is a u = simple_cases (λ b. HasNoParts b ⊎ IsSuspension b) (λ b v. inl v) (λ b v. inr tt) a u

  pub simple-needs_below : (k : Ask) → IsSimple (space_of k) → IsValid p k → NeedsAreBelow p k
  simple-needs_below k u v = by (simple_is (space_of k) u)
    where
      by : HasNoParts (space_of k) ⊎ IsSuspension (space_of k) → NeedsAreBelow p k
      by (inl w) = no_parts-needs_below k w v
      by (inr w) = suspension-needs_below k w v

  -- ---- all spaces

  abbrev pub AllBelow : Type 0
  AllBelow = (k : Ask) → IsValid p k → NeedsAreBelow p k

  all-less : AllBelow → (k : Ask) → IsValid p k → EachAsk (λ j. IsValid p j × (depth_of j < depth_of k)) (needs p k)
  all-less u k v = each-asked (λ j. IsValid p j × (depth_of j < depth_of k)) (needs p k) (λ j m. let e = u k v j m in (e.0, e.2))

  pub all-lower : AllBelow → NeedsAreLower p
  all-lower u k j v m = let e = u k v j m in (e.0, e.1)

  pub all-given_back : AllBelow → ValuesAreGivenBack p
  all-given_back u = given-back p (IsValid p) (all-less u)

  pub all-deeper : AllBelow → (k : Ask) → IsValid p k → (d : ℕ) → depth_of k ≤ d → value_at p d k ≡ value p k
  all-deeper u = deeper-same p (IsValid p) (all-less u)

  pub all-outcomes : (limits : Limits) → AllBelow → AreOutcomes limits p (IsValid p) (outcome limits p)
  all-outcomes limits u = outcome-back p (IsValid p) (all-less u) limits

  pub all-outcomes_deeper : (limits : Limits) → AllBelow → (k : Ask) → IsValid p k → (d : ℕ) → depth_of k ≤ d → outcome_at limits p d k ≡ outcome limits p k
  all-outcomes_deeper limits u = outcome-deeper_same p (IsValid p) (all-less u) limits

  pub simple-deeper : (d : ℕ) (k : Ask) → IsSimple (space_of k) → depth_of k ≤ d → value_at p d k ≡ value p k
  simple-deeper d k u l = deeper-same p (λ j. IsSimple (space_of j)) simple-less k u d l

  pub simple-outcome_deeper : (limits : Limits) (d : ℕ) (k : Ask) → IsSimple (space_of k) → depth_of k ≤ d → outcome_at limits p d k ≡ outcome limits p k
  simple-outcome_deeper limits d k u l = outcome-deeper_same p (λ j. IsSimple (space_of j)) simple-less limits k u d l

pub simple-outcome_back : (limits : Limits) (p : ℕ) (k : Ask) → IsSimple (space_of k) → outcome limits p k ≡ made_with limits p (outcome limits p) k
simple-outcome_back limits p k u = outcome-back p (λ j. IsSimple (space_of j)) (simple-less p) limits k u
