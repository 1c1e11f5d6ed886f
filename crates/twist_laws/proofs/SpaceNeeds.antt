-- The needs of each question about products, bundles and path spaces, and about spaces without loops, are valid and below it.
use Rattle.std.proofs.Common.{◌≡◌, ℕ, suc, ◌<◌, List, refl, sym, subst, arith, ap, ◌+◌, ◌≤◌}
use Rattle.std.specs.Prelude.{ℤ}
use Rattle.fp_field.specs.Field.{IsField}
use Rattle.fp_field.specs.Reduction.{IsReduction, IsReductionTo}
use Rattle.spaces.specs.Tables.{Table}
use Rattle.spaces.specs.Nerves.{integers_modulo, nerve_times}
use Rattle.spaces.specs.Cocycles.{cocycle_twisting}
use Rattle.spaces.specs.LoopGroups.{letter_word, word_times}
use Rattle.spaces.specs.Spaces.{Space, table, sphere, product, suspension, kz1, bundle, loops, paths, kzm1, cyclic_bundle, Plain, set_of}
use Rattle.spaces.specs.SmallCells.{Small, small_degree}
use Rattle.spaces.specs.Allowed.{IsAllowed}
use Rattle.spaces.proofs.SpaceVertices.{one_vertex}
use Rattle.values.specs.Asks.{Ask, basis, small_d as d_at, f as f_at, g as g_at, h as h_at, cycles}
use Rattle.values.specs.Rules.{bundle_twist, path_twist, cyclic_twist}
use Rattle.values.specs.Twists.{untwisted}
use Rattle.values.specs.Values.{needs, depth, depth_of}
use Rattle.values.specs.Laws.{maps_of}
use Rattle.values.specs.Ranks.{IsValid, IsCell, IsSmallCell, space_of, weight, loopings}
use Rattle.values.specs.BaseLaws.{IsBelow, NeedsAreBelow, HasNoParts, IsSmall}
use Rattle.values.proofs.Readings.{EachAsk}
use Rattle.values.proofs.BasesLists.{member_of}
use Rattle.values.proofs.BasesAsks.{depth-rises}
use Rattle.values.proofs.BasesCells.{basis-members}
use Rattle.values.proofs.BasesCycles.{asked-at}
use Rattle.values.proofs.BasesRows.{basis-needs_below, cycles-needs_below, no_parts-needs_below, suspension-needs_below}
use Rattle.ez_laws.specs.Instances.{product_maps}
use Rattle.homology_laws.proofs.TableLists.{table-reduction}
use Rattle.homology_laws.proofs.IntegersLists.{circle-reduction}
use Rattle.twist_laws.specs.Assembled.{IsLoopless, IsAssembled}
use Rattle.twist_laws.proofs.Instances.{products-same, products-complex, products-lower, bundles-same, bundles-complex, bundles-lower, bundles-transfer, twists-lower, twists-transfer}
use Rattle.twist_laws.proofs.ProductReductions.{no-difference}
use Rattle.twist_laws.proofs.TwistedSpaces.{twisted-same, twisted-whole, letters-twist, cocycle-twist}
use Rattle.twist_laws.proofs.FibredNeeds.{HasParts, AreUnder, f-needs, g-needs, h-needs, d-needs}
use Rattle.twist_laws.proofs.AssembledHomology.{pos, loopless-reduction, assembled-reduction}

module _ (p : ℕ) where
  at-each : (k : Ask) → EachAsk (λ j. IsBelow p j k) (needs p k) → NeedsAreBelow p k
  at-each k u j m = asked-at (λ i. IsBelow p i k) (needs p k) u j (member_of (needs p k) j m)

  -- the questions about a space but for its small cells and its cycles, of which it is known for all spaces
  pub record NeedsFor (a : Space) : Type 0 where
    pub f : (n : ℕ) (x : Plain a) → IsValid p (f_at a n x) → NeedsAreBelow p (f_at a n x)
    pub g : (y : Small a) → IsValid p (g_at a y) → NeedsAreBelow p (g_at a y)
    pub h : (n : ℕ) (x : Plain a) → IsValid p (h_at a n x) → NeedsAreBelow p (h_at a n x)
    pub small_d : (y : Small a) → IsValid p (d_at a y) → NeedsAreBelow p (d_at a y)

  pub all-needs : (a : Space) → NeedsFor a → (k : Ask) → space_of k ≡ a → IsValid p k → NeedsAreBelow p k
  all-needs a u (basis c n) e v = basis-needs_below p c n v
  all-needs a u (d_at c y) e v = (subst NeedsFor (sym e) u).small_d y v
  all-needs a u (f_at c n x) e v = (subst NeedsFor (sym e) u).f n x v
  all-needs a u (g_at c y) e v = (subst NeedsFor (sym e) u).g y v
  all-needs a u (h_at c n x) e v = (subst NeedsFor (sym e) u).h n x v
  all-needs a u (cycles c n) e v = cycles-needs_below p c n v

  no_parts : (a : Space) → HasNoParts a → NeedsFor a
  no_parts a u = record {
    f = λ n x v. no_parts-needs_below p (f_at a n x) u v;
    g = λ y v. no_parts-needs_below p (g_at a y) u v;
    h = λ n x v. no_parts-needs_below p (h_at a n x) u v;
    small_d = λ y v. no_parts-needs_below p (d_at a y) u v;
  }

  suspended : (a : Space) → NeedsFor (suspension a)
  suspended a = record {
    f = λ n x v. suspension-needs_below p (f_at (suspension a) n x) tt v;
    g = λ y v. suspension-needs_below p (g_at (suspension a) y) tt v;
    h = λ n x v. suspension-needs_below p (h_at (suspension a) n x) tt v;
    small_d = λ y v. suspension-needs_below p (d_at (suspension a) y) tt v;
  }

module _ (p : ℕ) (pos : 0 < p) where
  module _ (a b : Space) (is : IsAllowed (product a b)) (r : IsReductionTo p 0 (maps_of p a)) (s : IsReductionTo p 0 (maps_of p b)) where
    product-first : IsAllowed a
    product-first = (is.0.0, omega (arith, is.1))

    product-second : IsAllowed b
    product-second = (is.0.1, omega (arith, is.1))

    product-parts : HasParts p pos a b product-first product-second untwisted
    product-parts = record {
      low = products-lower p pos a b;
      twice = (products-complex p pos a b is.0.0 is.0.1).twice;
      by_two = no-difference p pos a b is.0.0 is.0.1;
      first = r;
      second = s;
    }

    product-under : (k : Ask) (n : ℕ) → space_of k ≡ product a b → depth_of k ≡ depth (product a b) n → n + loopings (product a b) ≤ 24 → AreUnder a b k n
    product-under k n e d l =
        let w : weight (space_of k) ≡ weight (product a b) = ap weight e in
        record {
          bound_a = omega (arith, l);
          bound_b = omega (arith, l);
          lighter_a = omega (arith, w);
          lighter_b = omega (arith, w);
          deeper_a = omega (arith, d);
          deeper_b = omega (arith, d);
        }

    product-cell : (n : ℕ) (x : Plain (product a b)) → IsCell (product a b) n x → (product_maps p a b).big.generator n (n, x.0, x.1)
    product-cell n x v = (products-same p pos a b is.0.0 is.0.1).there n (n, x.0, x.1) (refl, v)

    product-small : (y : Small (product a b)) → IsSmallCell p (product a b) (small_degree (product a b) y) y → IsSmall a y.0 × IsSmall b y.1
    product-small y v = ((basis-members p (product a b) (small_degree (product a b) y) y).0 v).1

    pub product-needs : NeedsFor p (product a b)
    product-needs = record {
      f = λ n x v. at-each p (f_at (product a b) n x) (f-needs p pos a b product-first product-second untwisted product-parts
          (f_at (product a b) n x) n (product-under (f_at (product a b) n x) n refl refl v.2) (n, x.0, x.1) (product-cell n x v.1));
      h = λ n x v. at-each p (h_at (product a b) n x) (h-needs p pos a b product-first product-second untwisted product-parts
          (h_at (product a b) n x) n (product-under (h_at (product a b) n x) n refl refl v.2) (n, x.0, x.1) (product-cell n x v.1));
      g = λ y v. at-each p (g_at (product a b) y) (g-needs p pos a b product-first product-second untwisted product-parts
          (g_at (product a b) y) (small_degree (product a b) y) (product-under (g_at (product a b) y) (small_degree (product a b) y) refl refl v.2)
          y.0 y.1 refl (product-small y v.1).0 (product-small y v.1).1);
      small_d = λ y v. at-each p (d_at (product a b) y) (d-needs p pos a b product-first product-second untwisted product-parts
          (d_at (product a b) y) (small_degree (product a b) y) (product-under (d_at (product a b) y) (small_degree (product a b) y) refl refl v.2)
          y.0 y.1 refl (product-small y v.1).0 (product-small y v.1).1);
    }

  module _ (t : Table) (c : List ℤ) (is : IsAllowed (bundle t c)) (r : IsReductionTo p 0 (maps_of p (table t))) (s : IsReductionTo p 0 (maps_of p kz1)) where
    bundle-first : IsAllowed (table t)
    bundle-first = (is.0.0, omega arith)

    bundle-second : IsAllowed kz1
    bundle-second = (tt, omega arith)

    bundle-parts : HasParts p pos (table t) kz1 bundle-first bundle-second (bundle_twist p t c)
    bundle-parts = record {
      low = bundles-lower p pos t c is.0;
      twice = (bundles-complex p pos t c is.0).twice;
      by_two = bundles-transfer p pos t c is.0;
      first = r;
      second = s;
    }

    bundle-under : (k : Ask) (n : ℕ) → space_of k ≡ bundle t c → depth_of k ≡ depth (bundle t c) n → n + loopings (bundle t c) ≤ 24 → AreUnder (table t) kz1 k n
    bundle-under k n e d l =
        let w : weight (space_of k) ≡ weight (bundle t c) = ap weight e in
        record {
          bound_a = omega (arith, l);
          bound_b = omega (arith, l);
          lighter_a = omega (arith, w);
          lighter_b = omega (arith, w);
          deeper_a = omega (arith, d);
          deeper_b = omega (arith, d);
        }

    bundle-cell : (n : ℕ) (x : Plain (bundle t c)) → IsCell (bundle t c) n x → (product_maps p (table t) kz1).big.generator n (n, x.0, x.1)
    bundle-cell n x v = (bundles-same p pos t c is.0).there n (n, x.0, x.1) (refl, v)

    bundle-small : (y : Small (bundle t c)) → IsSmallCell p (bundle t c) (small_degree (bundle t c) y) y → IsSmall (table t) y.0 × IsSmall kz1 y.1
    bundle-small y v = ((basis-members p (bundle t c) (small_degree (bundle t c) y) y).0 v).1

    pub bundle-needs : NeedsFor p (bundle t c)
    bundle-needs = record {
      f = λ n x v. at-each p (f_at (bundle t c) n x) (f-needs p pos (table t) kz1 bundle-first bundle-second (bundle_twist p t c) bundle-parts
          (f_at (bundle t c) n x) n (bundle-under (f_at (bundle t c) n x) n refl refl v.2) (n, x.0, x.1) (bundle-cell n x v.1));
      h = λ n x v. at-each p (h_at (bundle t c) n x) (h-needs p pos (table t) kz1 bundle-first bundle-second (bundle_twist p t c) bundle-parts
          (h_at (bundle t c) n x) n (bundle-under (h_at (bundle t c) n x) n refl refl v.2) (n, x.0, x.1) (bundle-cell n x v.1));
      g = λ y v. at-each p (g_at (bundle t c) y) (g-needs p pos (table t) kz1 bundle-first bundle-second (bundle_twist p t c) bundle-parts
          (g_at (bundle t c) y) (small_degree (bundle t c) y) (bundle-under (g_at (bundle t c) y) (small_degree (bundle t c) y) refl refl v.2)
          y.0 y.1 refl (bundle-small y v.1).0 (bundle-small y v.1).1);
      small_d = λ y v. at-each p (d_at (bundle t c) y) (d-needs p pos (table t) kz1 bundle-first bundle-second (bundle_twist p t c) bundle-parts
          (d_at (bundle t c) y) (small_degree (bundle t c) y) (bundle-under (d_at (bundle t c) y) (small_degree (bundle t c) y) refl refl v.2)
          y.0 y.1 refl (bundle-small y v.1).0 (bundle-small y v.1).1);
    }

  module _ (a : Space) (is : IsAllowed (paths a)) (r : IsReductionTo p 0 (maps_of p a)) (s : IsReductionTo p 0 (maps_of p (loops a))) where
    path-first : IsAllowed a
    path-first = (is.0.0, omega (arith, is.1))

    path-second : IsAllowed (loops a)
    path-second = is

    path-parts : HasParts p pos a (loops a) path-first path-second (path_twist p a)
    path-parts = record {
      low = twists-lower p pos a (loops a) is.0.0 is.0 (letter_word (set_of a)) (word_times (set_of a)) (letters-twist p pos a is.0);
      twice = (twisted-whole p pos a (loops a) is.0.0 is.0 (letter_word (set_of a)) (word_times (set_of a)) (letters-twist p pos a is.0)).twice;
      by_two = twists-transfer p pos a (loops a) is.0.0 is.0 (letter_word (set_of a)) (word_times (set_of a)) (letters-twist p pos a is.0) ((one_vertex (loops a) is.0).1 refl);
      first = r;
      second = s;
    }

    path-under : (k : Ask) (n : ℕ) → space_of k ≡ paths a → depth_of k ≡ depth (paths a) n → n + loopings (paths a) ≤ 24 → AreUnder a (loops a) k n
    path-under k n e d l =
        let w : weight (space_of k) ≡ weight (paths a) = ap weight e in
        record {
          bound_a = omega (arith, l);
          bound_b = omega (arith, l);
          lighter_a = omega (arith, w);
          lighter_b = omega (arith, w);
          deeper_a = let u = depth-rises a n (suc n) (omega arith) in omega (arith, u, d);
          deeper_b = omega (arith, d);
        }

    path-cell : (n : ℕ) (x : Plain (paths a)) → IsCell (paths a) n x → (product_maps p a (loops a)).big.generator n (n, x.0, x.1)
    path-cell n x v = (twisted-same p pos a (loops a) is.0.0 is.0 (letter_word (set_of a)) (word_times (set_of a)) (letters-twist p pos a is.0)).there n (n, x.0, x.1) (refl, v)

    path-small : (y : Small (paths a)) → IsSmallCell p (paths a) (small_degree (paths a) y) y → IsSmall a y.0 × IsSmall (loops a) y.1
    path-small y v = ((basis-members p (paths a) (small_degree (paths a) y) y).0 v).1

    pub path-needs : NeedsFor p (paths a)
    path-needs = record {
      f = λ n x v. at-each p (f_at (paths a) n x) (f-needs p pos a (loops a) path-first path-second (path_twist p a) path-parts
          (f_at (paths a) n x) n (path-under (f_at (paths a) n x) n refl refl v.2) (n, x.0, x.1) (path-cell n x v.1));
      h = λ n x v. at-each p (h_at (paths a) n x) (h-needs p pos a (loops a) path-first path-second (path_twist p a) path-parts
          (h_at (paths a) n x) n (path-under (h_at (paths a) n x) n refl refl v.2) (n, x.0, x.1) (path-cell n x v.1));
      g = λ y v. at-each p (g_at (paths a) y) (g-needs p pos a (loops a) path-first path-second (path_twist p a) path-parts
          (g_at (paths a) y) (small_degree (paths a) y) (path-under (g_at (paths a) y) (small_degree (paths a) y) refl refl v.2)
          y.0 y.1 refl (path-small y v.1).0 (path-small y v.1).1);
      small_d = λ y v. at-each p (d_at (paths a) y) (d-needs p pos a (loops a) path-first path-second (path_twist p a) path-parts
          (d_at (paths a) y) (small_degree (paths a) y) (path-under (d_at (paths a) y) (small_degree (paths a) y) refl refl v.2)
          y.0 y.1 refl (path-small y v.1).0 (path-small y v.1).1);
    }

  module _ (t : Table) (m : ℕ) (c : List ℕ) (is : IsAllowed (cyclic_bundle t m c)) (r : IsReductionTo p 0 (maps_of p (table t))) (s : IsReductionTo p 0 (maps_of p (kzm1 m))) where
    cyclic-first : IsAllowed (table t)
    cyclic-first = (is.0.0, omega arith)

    cyclic-second : IsAllowed (kzm1 m)
    cyclic-second = ((is.0.2, is.0.3), omega arith)

    cyclic-parts : HasParts p pos (table t) (kzm1 m) cyclic-first cyclic-second (cyclic_twist p t m c)
    cyclic-parts = record {
      low = twists-lower p pos (table t) (kzm1 m) is.0.0 (is.0.2, is.0.3) (cocycle_twisting (integers_modulo m) t c) (nerve_times (integers_modulo m))
          (cocycle-twist p pos t m c is.0);
      twice = (twisted-whole p pos (table t) (kzm1 m) is.0.0 (is.0.2, is.0.3) (cocycle_twisting (integers_modulo m) t c) (nerve_times (integers_modulo m))
          (cocycle-twist p pos t m c is.0)).twice;
      by_two = twists-transfer p pos (table t) (kzm1 m) is.0.0 (is.0.2, is.0.3) (cocycle_twisting (integers_modulo m) t c) (nerve_times (integers_modulo m))
          (cocycle-twist p pos t m c is.0) ((one_vertex (kzm1 m) (is.0.2, is.0.3)).1 refl);
      first = r;
      second = s;
    }

    cyclic-under : (k : Ask) (n : ℕ) → space_of k ≡ cyclic_bundle t m c → depth_of k ≡ depth (cyclic_bundle t m c) n → n + loopings (cyclic_bundle t m c) ≤ 24 → AreUnder (table t) (kzm1 m) k n
    cyclic-under k n e d l =
        let w : weight (space_of k) ≡ weight (cyclic_bundle t m c) = ap weight e in
        record {
          bound_a = omega (arith, l);
          bound_b = omega (arith, l);
          lighter_a = omega (arith, w);
          lighter_b = omega (arith, w);
          deeper_a = omega (arith, d);
          deeper_b = omega (arith, d);
        }

    cyclic-cell : (n : ℕ) (x : Plain (cyclic_bundle t m c)) → IsCell (cyclic_bundle t m c) n x → (product_maps p (table t) (kzm1 m)).big.generator n (n, x.0, x.1)
    cyclic-cell n x v = (twisted-same p pos (table t) (kzm1 m) is.0.0 (is.0.2, is.0.3) (cocycle_twisting (integers_modulo m) t c) (nerve_times (integers_modulo m))
        (cocycle-twist p pos t m c is.0)).there n (n, x.0, x.1) (refl, v)

    cyclic-small : (y : Small (cyclic_bundle t m c)) → IsSmallCell p (cyclic_bundle t m c) (small_degree (cyclic_bundle t m c) y) y → IsSmall (table t) y.0 × IsSmall (kzm1 m) y.1
    cyclic-small y v = ((basis-members p (cyclic_bundle t m c) (small_degree (cyclic_bundle t m c) y) y).0 v).1

    pub cyclic-needs : NeedsFor p (cyclic_bundle t m c)
    cyclic-needs = record {
      f = λ n x v. at-each p (f_at (cyclic_bundle t m c) n x) (f-needs p pos (table t) (kzm1 m) cyclic-first cyclic-second (cyclic_twist p t m c) cyclic-parts
          (f_at (cyclic_bundle t m c) n x) n (cyclic-under (f_at (cyclic_bundle t m c) n x) n refl refl v.2) (n, x.0, x.1) (cyclic-cell n x v.1));
      h = λ n x v. at-each p (h_at (cyclic_bundle t m c) n x) (h-needs p pos (table t) (kzm1 m) cyclic-first cyclic-second (cyclic_twist p t m c) cyclic-parts
          (h_at (cyclic_bundle t m c) n x) n (cyclic-under (h_at (cyclic_bundle t m c) n x) n refl refl v.2) (n, x.0, x.1) (cyclic-cell n x v.1));
      g = λ y v. at-each p (g_at (cyclic_bundle t m c) y) (g-needs p pos (table t) (kzm1 m) cyclic-first cyclic-second (cyclic_twist p t m c) cyclic-parts
          (g_at (cyclic_bundle t m c) y) (small_degree (cyclic_bundle t m c) y) (cyclic-under (g_at (cyclic_bundle t m c) y) (small_degree (cyclic_bundle t m c) y) refl refl v.2)
          y.0 y.1 refl (cyclic-small y v.1).0 (cyclic-small y v.1).1);
      small_d = λ y v. at-each p (d_at (cyclic_bundle t m c) y) (d-needs p pos (table t) (kzm1 m) cyclic-first cyclic-second (cyclic_twist p t m c) cyclic-parts
          (d_at (cyclic_bundle t m c) y) (small_degree (cyclic_bundle t m c) y) (cyclic-under (d_at (cyclic_bundle t m c) y) (small_degree (cyclic_bundle t m c) y) refl refl v.2)
          y.0 y.1 refl (cyclic-small y v.1).0 (cyclic-small y v.1).1);
    }

module _ (p : ℕ) (field : IsField p) where
  pub product-needs_of : (a b : Space) (k : Ask) → space_of k ≡ product a b
      → IsReductionTo p 0 (maps_of p a) → IsReductionTo p 0 (maps_of p b) → IsValid p k → NeedsAreBelow p k
  product-needs_of a b k e r s v = all-needs p (product a b) (product-needs p (pos p field) a b (subst IsAllowed e v.0) r s) k e v

  pub path-needs_of : (a : Space) (k : Ask) → space_of k ≡ paths a
      → IsReductionTo p 0 (maps_of p a) → IsReductionTo p 0 (maps_of p (loops a)) → IsValid p k → NeedsAreBelow p k
  path-needs_of a k e r s v = all-needs p (paths a) (path-needs p (pos p field) a (subst IsAllowed e v.0) r s) k e v

  module _ (cyclic : (m : ℕ) → IsAllowed (kzm1 m) → IsReduction p (maps_of p (kzm1 m))) where
    loopless-needs_for : (a : Space) → IsAllowed a → IsLoopless a → NeedsFor p a
    loopless-needs_for (table t) is u = no_parts p (table t) tt
    loopless-needs_for (sphere m) is u = no_parts p (sphere m) tt
    loopless-needs_for (product a b) is u =
        product-needs p (pos p field) a b is (loopless-reduction p field cyclic a (is.0.0, omega (arith, is.1)) u.0 0)
        (loopless-reduction p field cyclic b (is.0.1, omega (arith, is.1)) u.1 0)
    loopless-needs_for (suspension a) is u = suspended p a
    loopless-needs_for kz1 is u = no_parts p kz1 tt
    loopless-needs_for (bundle t c) is u = bundle-needs p (pos p field) t c is (table-reduction p field t is.0.0 0) (circle-reduction p field 0)
    loopless-needs_for (loops a) is u = absurd u
    loopless-needs_for (paths a) is u = absurd u
    loopless-needs_for (kzm1 m) is u = no_parts p (kzm1 m) tt
    loopless-needs_for (cyclic_bundle t m c) is u =
        cyclic-needs p (pos p field) t m c is (table-reduction p field t is.0.0 0) (cyclic m ((is.0.2, is.0.3), omega arith) 0)

    pub loopless-needs : (k : Ask) → IsLoopless (space_of k) → IsValid p k → NeedsAreBelow p k
    loopless-needs k u v = all-needs p (space_of k) (loopless-needs_for (space_of k) v.0 u) k refl v

  assembled-needs_for : (a : Space) → IsAllowed a → IsAssembled a → NeedsFor p a
  assembled-needs_for (table t) is u = no_parts p (table t) tt
  assembled-needs_for (sphere m) is u = no_parts p (sphere m) tt
  assembled-needs_for (product a b) is u =
      product-needs p (pos p field) a b is (assembled-reduction p field a (is.0.0, omega (arith, is.1)) u.0 0) (assembled-reduction p field b (is.0.1, omega (arith, is.1)) u.1 0)
  assembled-needs_for (suspension a) is u = suspended p a
  assembled-needs_for kz1 is u = no_parts p kz1 tt
  assembled-needs_for (bundle t c) is u = bundle-needs p (pos p field) t c is (table-reduction p field t is.0.0 0) (circle-reduction p field 0)
  assembled-needs_for (loops a) is u = absurd u
  assembled-needs_for (paths a) is u = absurd u
  assembled-needs_for (kzm1 m) is u = absurd u
  assembled-needs_for (cyclic_bundle t m c) is u = absurd u

  pub assembled-needs : (k : Ask) → IsAssembled (space_of k) → IsValid p k → NeedsAreBelow p k
  assembled-needs k u v = all-needs p (space_of k) (assembled-needs_for (space_of k) v.0 u) k refl v
