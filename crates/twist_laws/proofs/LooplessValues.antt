-- Without loop and path spaces a right side asks about parts alone, so the values are what the right sides give.
use Rattle.std.proofs.Common.{◌≡◌, ℕ, zero, suc, ◌-◌, ◌<◌, ◌≤◌, List, [], ◌∷◌, ◌++◌, refl, sym, ap, subst, arith}
use Rattle.std.specs.Prelude.{max, Some, None}
use Rattle.fp_field.specs.Chains.{Terms}
use Rattle.fp_field.specs.Reduction.{one}
use Rattle.spaces.specs.Spaces.{Space, table, sphere, product, suspension, kz1, bundle, loops, paths, kzm1, cyclic_bundle, Plain}
use Rattle.spaces.specs.SmallCells.{Small, small_degree}
use Rattle.spaces.specs.Orders.{ordered, by_degree}
use Rattle.spaces.specs.EilenbergZilber.{linear, Pair}
use Rattle.values.specs.Asks.{Ask, basis, small_d, f, g, h, cycles, gives, ask, each, ◌>>=◌, value_with}
use Rattle.values.specs.Perturbed.{total_g, total_h}
use Rattle.values.specs.Cycles.{rule_cycles, carried, cycle_vectors, terms_of}
use Rattle.values.specs.Rules.{fibred_f, fibred_g, fibred_h, fibred_d, part, numbers, all_pairs, pairs_of_degree, rule_basis, rule_small_d, rule_f, rule_g, rule_h, as_cells, bundle_twist, cyclic_twist}
use Rattle.values.specs.Twists.{untwisted}
use Rattle.values.specs.Values.{depth, depth_of, right_side, value, value_at, needs}
use Rattle.values.specs.Outcomes.{Limits, outcome, outcome_at, made_with}
use Rattle.values.proofs.BasesDepth.{given-back, deeper-same, outcome-back, outcome-deeper_same}
use Rattle.values.specs.Ranks.{space_of}
use Rattle.values.proofs.Readings.{EachAsk}
use Rattle.homology_laws.specs.Suspended.{IsGivenBack}
use Rattle.twist_laws.specs.Assembled.{IsLoopless}
use Rattle.twist_laws.proofs.OnlyAsks.{Only, OnlyPart, only-bind, only-each, only-on_chain, only-asked, only-total_f, only-total_g, only-total_h, only-total_d}

-- the depth is that of the space alone
same-depth : (a : Space) → IsLoopless a → (m n : ℕ) → depth a m ≡ depth a n
same-depth (table t) u m n = refl
same-depth (sphere k) u m n = refl
same-depth (product a b) u m n = λ i. suc (max (same-depth a u.0 m n i) (same-depth b u.1 m n i))
same-depth (suspension a) u m n = ap suc (same-depth a u m n)
same-depth kz1 u m n = refl
same-depth (bundle t c) u m n = refl
same-depth (loops a) u m n = absurd u
same-depth (paths a) u m n = absurd u
same-depth (kzm1 k) u m n = refl
same-depth (cyclic_bundle t k c) u m n = refl

-- a question about a space without loops, of less depth
abbrev Lower : ℕ → Ask → Type 0
Lower D j = IsLoopless (space_of j) × (depth_of j < D)

module _ (D : ℕ) where
  -- the depth of a part is below D in all degrees
  abbrev Under : Space → Type 0
  Under a = IsLoopless a × ((n : ℕ) → depth a n < D)

  part-only : (a : Space) → Under a → OnlyPart (Lower D) (part a)
  part-only a u = record {
    f = λ n x. ((u.0, u.1 n), λ v. tt);
    g = λ y. ((u.0, u.1 (small_degree a y)), λ v. tt);
    h = λ n x. ((u.0, u.1 n), λ v. tt);
    small_d = λ y. ((u.0, u.1 (small_degree a y)), λ v. tt);
  }

  pairs-only : (a b : Space) → Under a → Under b → (n : ℕ) (is : List ℕ) → Only (Lower D) (pairs_of_degree a b n is)
  pairs-only a b u v n [] = tt
  pairs-only a b u v n (i ∷ is) = (
    (u.0, u.1 i),
    λ xs. (
      (v.0, v.1 (n - i)),
      λ ys.
          only-bind (Lower D) (pairs_of_degree a b n is) (λ rest. gives (all_pairs xs ys ++ rest)) (pairs-only a b u v n is) (λ rest. tt),
    ),
  )

under-left : (a b : Space) → IsLoopless (product a b) → (n : ℕ) → Under (depth (product a b) n) a
under-left a b u n = (u.0, λ m. let e = same-depth a u.0 m n in omega (arith, e))

under-right : (a b : Space) → IsLoopless (product a b) → (n : ℕ) → Under (depth (product a b) n) b
under-right a b u n = (u.1, λ m. let e = same-depth b u.1 m n in omega (arith, e))

under-part : (a : Space) → IsLoopless a → (n : ℕ) → Under (depth (suspension a) n) a
under-part a u n = (u, λ m. let e = same-depth a u m n in omega (arith, e))

under-table : (t : _) → Under 2 (table t)
under-table t = (tt, λ m. omega arith)

under-circle : Under 2 kz1
under-circle = (tt, λ m. omega arith)

under-cyclic : (k : ℕ) → Under 2 (kzm1 k)
under-cyclic k = (tt, λ m. omega arith)

module _ (p : ℕ) where
  basis-only : (a : Space) (n : ℕ) → IsLoopless a → Only (Lower (depth a n)) (rule_basis a n)
  basis-only (table t) n u = tt
  basis-only (sphere m) n u = tt
  basis-only (product a b) n u = pairs-only (depth (product a b) n) a b (under-left a b u n) (under-right a b u n) n (numbers 0 (suc n))
  basis-only (suspension a) zero u = tt
  basis-only (suspension a) (suc zero) u = tt
  basis-only (suspension a) (suc (suc n)) u = ((u, (under-part a u (suc (suc n))).1 (suc n)), λ ys. tt)
  basis-only kz1 zero u = tt
  basis-only kz1 (suc zero) u = tt
  basis-only kz1 (suc (suc n)) u = tt
  basis-only (bundle t c) n u = pairs-only 2 (table t) kz1 (under-table t) under-circle n (numbers 0 (suc n))
  basis-only (loops a) n u = absurd u
  basis-only (paths a) n u = absurd u
  basis-only (kzm1 m) n u = tt
  basis-only (cyclic_bundle t m c) n u = pairs-only 2 (table t) (kzm1 m) (under-table t) (under-cyclic m) n (numbers 0 (suc n))

  -- ---- the maps of products and bundles

  module _ (D : ℕ) (a b : Space) (ua : Under D a) (ub : Under D b) (q : Pair (Plain a) (Plain b) → Terms (Pair (Plain a) (Plain b))) where
    f-only : (n : ℕ) (x : Plain a × Plain b) → Only (Lower D) (fibred_f p a b q n x)
    f-only n x = only-total_f (Lower D) p (linear (ordered a)) (ordered b) (part a) (part b) q (part-only D a ua) (part-only D b ub) n (one (n, x.0, x.1))

    g-only : (n : ℕ) (y : Small a × Small b) → Only (Lower D) (fibred_g p a b q n y)
    g-only n y =
        only-bind (Lower D) (total_g p (linear (ordered a)) (ordered b) (part a) (part b) q n y) (λ c. gives (as_cells c))
        (only-total_g (Lower D) p (linear (ordered a)) (ordered b) (part a) (part b) q (part-only D a ua) (part-only D b ub) n y) (λ c. tt)

    h-only : (n : ℕ) (x : Plain a × Plain b) → Only (Lower D) (fibred_h p a b q n x)
    h-only n x =
        only-bind (Lower D) (total_h p (linear (ordered a)) (ordered b) (part a) (part b) q n (one (n, x.0, x.1))) (λ c. gives (as_cells c))
        (only-total_h (Lower D) p (linear (ordered a)) (ordered b) (part a) (part b) q (part-only D a ua) (part-only D b ub) n (one (n, x.0, x.1))) (λ c. tt)

    d-only : (n : ℕ) (y : Small a × Small b) → Only (Lower D) (fibred_d p a b q n y)
    d-only n y = only-total_d (Lower D) p (linear (ordered a)) (ordered b) (part a) (part b) q (part-only D a ua) (part-only D b ub) n y

  small_d-only : (a : Space) (y : Small a) → IsLoopless a → Only (Lower (depth a (small_degree a y))) (rule_small_d p a y)
  small_d-only (table t) y u = tt
  small_d-only (sphere m) y u = tt
  small_d-only (product a b) y u =
      d-only (depth (product a b) (small_degree (product a b) y)) a b (under-left a b u (small_degree (product a b) y)) (under-right a b u (small_degree (product a b) y)) untwisted
      (small_degree (product a b) y) y
  small_d-only (suspension a) None u = tt
  small_d-only (suspension a) (Some y) u = ((u, (under-part a u (suc (small_degree a y))).1 (small_degree a y)), λ c. tt)
  small_d-only kz1 y u = tt
  small_d-only (bundle t c) y u = d-only 2 (table t) kz1 (under-table t) under-circle (bundle_twist p t c) (small_degree (bundle t c) y) y
  small_d-only (loops a) y u = absurd u
  small_d-only (paths a) y u = absurd u
  small_d-only (kzm1 m) y u = tt
  small_d-only (cyclic_bundle t m c) y u = d-only 2 (table t) (kzm1 m) (under-table t) (under-cyclic m) (cyclic_twist p t m c) (small_degree (cyclic_bundle t m c) y) y

  f-rule : (a : Space) (n : ℕ) (x : Plain a) → IsLoopless a → Only (Lower (depth a n)) (rule_f p a n x)
  f-rule (table t) n x u = tt
  f-rule (sphere m) n x u = tt
  f-rule (product a b) n x u = f-only (depth (product a b) n) a b (under-left a b u n) (under-right a b u n) untwisted n x
  f-rule (suspension a) n None u = tt
  f-rule (suspension a) n (Some s) u = ((u, (under-part a u n).1 (n - 1)), λ c. tt)
  f-rule kz1 n x u = tt
  f-rule (bundle t c) n x u = f-only 2 (table t) kz1 (under-table t) under-circle (bundle_twist p t c) n x
  f-rule (loops a) n x u = absurd u
  f-rule (paths a) n x u = absurd u
  f-rule (kzm1 m) n x u = tt
  f-rule (cyclic_bundle t m c) n x u = f-only 2 (table t) (kzm1 m) (under-table t) (under-cyclic m) (cyclic_twist p t m c) n x

  g-rule : (a : Space) (y : Small a) → IsLoopless a → Only (Lower (depth a (small_degree a y))) (rule_g p a y)
  g-rule (table t) y u = tt
  g-rule (sphere m) y u = tt
  g-rule (product a b) y u =
      g-only (depth (product a b) (small_degree (product a b) y)) a b (under-left a b u (small_degree (product a b) y)) (under-right a b u (small_degree (product a b) y)) untwisted
      (small_degree (product a b) y) y
  g-rule (suspension a) None u = tt
  g-rule (suspension a) (Some y) u = ((u, (under-part a u (suc (small_degree a y))).1 (small_degree a y)), λ c. tt)
  g-rule kz1 y u = tt
  g-rule (bundle t c) y u = g-only 2 (table t) kz1 (under-table t) under-circle (bundle_twist p t c) (small_degree (bundle t c) y) y
  g-rule (loops a) y u = absurd u
  g-rule (paths a) y u = absurd u
  g-rule (kzm1 m) y u = tt
  g-rule (cyclic_bundle t m c) y u = g-only 2 (table t) (kzm1 m) (under-table t) (under-cyclic m) (cyclic_twist p t m c) (small_degree (cyclic_bundle t m c) y) y

  h-rule : (a : Space) (n : ℕ) (x : Plain a) → IsLoopless a → Only (Lower (depth a n)) (rule_h p a n x)
  h-rule (table t) n x u = tt
  h-rule (sphere m) n x u = tt
  h-rule (product a b) n x u = h-only (depth (product a b) n) a b (under-left a b u n) (under-right a b u n) untwisted n x
  h-rule (suspension a) n None u = tt
  h-rule (suspension a) n (Some s) u = ((u, (under-part a u n).1 (n - 1)), λ c. tt)
  h-rule kz1 n x u = tt
  h-rule (bundle t c) n x u = h-only 2 (table t) kz1 (under-table t) under-circle (bundle_twist p t c) n x
  h-rule (loops a) n x u = absurd u
  h-rule (paths a) n x u = absurd u
  h-rule (kzm1 m) n x u = tt
  h-rule (cyclic_bundle t m c) n x u = h-only 2 (table t) (kzm1 m) (under-table t) (under-cyclic m) (cyclic_twist p t m c) n x

  cycles-rule : (a : Space) (n : ℕ) → IsLoopless a → Only (Lower (suc (depth a (suc n)))) (rule_cycles p a n)
  cycles-rule a n u = (
    own n,
    λ ys.
        only-bind P (each (λ y. ask (small_d a y)) ys)
        (λ ds. ask (basis a (suc n)) >>= λ zs. each (λ z. ask (small_d a z)) zs >>= λ es. each (carried p a ys) (cycle_vectors p a ys ds es))
        (only-each P (λ y. ask (small_d a y)) (λ y. (own (small_degree a y), λ v. tt)) ys)
        (λ ds. (
          own (suc n),
          λ zs.
              only-bind P (each (λ z. ask (small_d a z)) zs) (λ es. each (carried p a ys) (cycle_vectors p a ys ds es))
              (only-each P (λ z. ask (small_d a z)) (λ z. (own (small_degree a z), λ v. tt)) zs)
              (λ es. only-each P (carried p a ys) (λ v. only-on_chain P (by_degree (ordered a).cmp) p (λ y. ask (g a y)) (λ y. (own (small_degree a y), λ c. tt)) (terms_of p a ys v))
              (cycle_vectors p a ys ds es)),
        )),
  )
    where
      P : Ask → Type 0
      P j = Lower (suc (depth a (suc n))) j

      own : (m : ℕ) → IsLoopless a × (depth a m < suc (depth a (suc n)))
      own m = (u, let e = same-depth a u m (suc n) in omega (arith, e))

  right_side-only : (k : Ask) → IsLoopless (space_of k) → Only (Lower (depth_of k)) (right_side p k)
  right_side-only (basis a n) u = basis-only a n u
  right_side-only (small_d a y) u = small_d-only a y u
  right_side-only (f a n x) u = f-rule a n x u
  right_side-only (g a y) u = g-rule a y u
  right_side-only (h a n x) u = h-rule a n x u
  right_side-only (cycles a n) u = cycles-rule a n u

  -- what is needed has no loops and is less deep
  less : (k : Ask) → IsLoopless (space_of k) → EachAsk (λ j. IsLoopless (space_of j) × (depth_of j < depth_of k)) (needs p k)
  less k u = only-asked (Lower (depth_of k)) (right_side p k) (right_side-only k u) (value p)

  pub loopless-back : (k : Ask) → IsLoopless (space_of k) → value p k ≡ value_with (value p) (right_side p k)
  loopless-back k u = given-back p (λ j. IsLoopless (space_of j)) less k u

  pub loopless-deeper : (k : Ask) → IsLoopless (space_of k) → (d : ℕ) → depth_of k ≤ d → value_at p d k ≡ value p k
  loopless-deeper k u d l = deeper-same p (λ j. IsLoopless (space_of j)) less k u d l

  pub loopless-outcome_back : (limits : Limits) (k : Ask) → IsLoopless (space_of k) → outcome limits p k ≡ made_with limits p (outcome limits p) k
  loopless-outcome_back limits k u = outcome-back p (λ j. IsLoopless (space_of j)) less limits k u

  pub loopless-outcome_deeper : (limits : Limits) (k : Ask) → IsLoopless (space_of k) → (d : ℕ) → depth_of k ≤ d → outcome_at limits p d k ≡ outcome limits p k
  loopless-outcome_deeper limits k u d l = outcome-deeper_same p (λ j. IsLoopless (space_of j)) less limits k u d l

  pub loopless-given : (a : Space) → IsLoopless a → IsGivenBack p a
  loopless-given a u k e c is = loopless-back k (subst IsLoopless (sym e) u)
