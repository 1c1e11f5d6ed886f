-- Path spaces and bundles of K(Z/m,1) are reductions where base and fibre are.
use Rattle.std.proofs.Common.{ℕ, ◌+◌, ◌<◌, ◌≤◌, List, refl, ◌∙◌, arith}
use Rattle.std.specs.Cmp.{Equal-is, eq_by_cmp_equiv}
use Rattle.fp_field.specs.Chains.{Terms}
use Rattle.fp_field.specs.Reduction.{one, IsComplex, IsSameComplex, IsReductionTo}
use Rattle.spaces.specs.Tables.{Table}
use Rattle.spaces.specs.Nerves.{integers_modulo, nerve_times}
use Rattle.spaces.specs.Products.{IsTwisting}
use Rattle.spaces.specs.Cocycles.{cocycle_twisting}
use Rattle.spaces.specs.LoopGroups.{letter_word, word_times}
use Rattle.spaces.specs.Spaces.{Space, table, loops, paths, kzm1, cyclic_bundle, Plain, set_of}
use Rattle.spaces.specs.SmallCells.{small_degree, small_cmp}
use Rattle.spaces.specs.Orders.{ordered}
use Rattle.spaces.specs.Allowed.{Admits, HasOneVertex}
use Rattle.spaces.specs.EilenbergZilber.{linear, Pair}
use Rattle.spaces.proofs.CocycleTwist.{cocycle_is_twisting}
use Rattle.spaces.proofs.Integers.{residues_abelian}
use Rattle.spaces.proofs.LetterTwist.{letter_twisting}
use Rattle.spaces.proofs.Orders.{small-apart}
use Rattle.spaces.proofs.SpaceLaws.{space_set_laws}
use Rattle.spaces.proofs.SpaceVertices.{one_vertex}
use Rattle.spaces.proofs.TableLaws.{table_set_laws}
use Rattle.values.specs.Asks.{f as f_at, g as g_at, h as h_at, small_d as d_at, gives}
use Rattle.values.specs.Perturbed.{total_g, total_h}
use Rattle.values.specs.Rules.{part, as_cells, path_twist, cyclic_twist}
use Rattle.values.specs.Twists.{twisted}
use Rattle.values.specs.Values.{value}
use Rattle.values.specs.Laws.{maps_of}
use Rattle.values.proofs.Readings.{value_with-bind}
use Rattle.values.proofs.BasesCells.{basis-members}
use Rattle.ez_laws.proofs.Orderings.{ordered-right}
use Rattle.homology_laws.specs.Suspended.{IsGivenBack}
use Rattle.homology_laws.proofs.CellChains.{cells_of, cells-complex, cells-same}
use Rattle.homology_laws.proofs.SmallOrder.{small-total}
use Rattle.spaces.specs.Products.{twisted_set}
use Rattle.twist_laws.specs.TwistedComplexes.{on_pairs, twisted_complex}
use Rattle.twist_laws.proofs.CellPairs as CP
use Rattle.twist_laws.proofs.TwistedPairs as TP
use Rattle.twist_laws.proofs.Instances.{twists-lower, twists-transfer}
use Rattle.twist_laws.proofs.Fibred.{IsFibred, fibred}

module _ (p : ℕ) (pos : 0 < p) where
  -- ---- any twisting operator

  module _ (a b : Space) (ad : Admits a) (bd : Admits b) (t : Plain a → Plain b) (times : Plain b → Plain b → Plain b) (w : IsTwisting (set_of a) (set_of b) t times) where
    abbrev q : Pair (Plain a) (Plain b) → Terms (Pair (Plain a) (Plain b))
    q = twisted p (ordered a) (ordered b) t times

    pub twisted-same : IsSameComplex p (on_pairs (cells_of (twisted_set (set_of a) (set_of b) t times) p)) (twisted_complex p (linear (ordered a)) (set_of a).In (ordered b) q)
    twisted-same =
        CP.same-complex p pos (ordered a) (ordered b) (ordered-right a ad) (ordered-right b bd) (twisted_set (set_of a) (set_of b) t times) q
        (CP.twisted-on-pairs p pos (ordered a) (ordered b) (ordered-right a ad) (ordered-right b bd) t times w)

    pub twisted-whole : IsComplex p (twisted_complex p (linear (ordered a)) (set_of a).In (ordered b) q)
    twisted-whole =
        CP.twisted-complex p pos (ordered a) (ordered b) (ordered-right a ad) (ordered-right b bd) (twisted_set (set_of a) (set_of b) t times) q
        (CP.twisted-on-pairs p pos (ordered a) (ordered b) (ordered-right a ad) (ordered-right b bd) t times w)
        (TP.q-pairs p pos (ordered a) (ordered b) (ordered-right a ad) (ordered-right b bd) t times w)

    -- maps by the rule of this twist
    twisted-meets : HasOneVertex (set_of b) → (X : _) → IsFibred p pos a b ad bd q X → (N : ℕ) → IsReductionTo p N (maps_of p a) → IsReductionTo p N (maps_of p b)
        → IsReductionTo p N X
    twisted-meets vertex X is N r s =
        fibred p pos a b ad bd q (twists-lower p pos a b ad bd t times w) twisted-whole.twice (twists-transfer p pos a b ad bd t times w vertex) X is N r s

  -- ---- path spaces

  module _ (a : Space) (ad : Admits (paths a)) where
    pub letters-twist : IsTwisting (set_of a) (set_of (loops a)) (letter_word (set_of a)) (word_times (set_of a))
    letters-twist = letter_twisting (set_of a) (space_set_laws a ad.0)

    path-fibred : IsGivenBack p (paths a) → IsFibred p pos a (loops a) ad.0 ad (path_twist p a) (maps_of p (paths a))
    path-fibred given = record {
      same_complex = twisted-same a (loops a) ad.0 ad (letter_word (set_of a)) (word_times (set_of a)) letters-twist;
      complex = cells-complex (set_of (paths a)) (space_set_laws (paths a) ad) p pos;
      big_apart = cells-same (set_of (paths a)) (space_set_laws (paths a) ad) p pos;
      small_to = λ n y h. (h.0, (basis-members p (paths a) n y).1 (h.0, h.1));
      small_from = λ n y h. (h.0, ((basis-members p (paths a) n y).0 h.1).1);
      small_apart = λ x y h. small-apart (paths a) x y ((Equal-is (small_cmp (paths a) x y)).0 h);
      small_equivalence = eq_by_cmp_equiv (small-total (paths a));
      f = λ s h. given (f_at (paths a) s.0 (s.1, s.2)) refl refl
          ((twisted-same a (loops a) ad.0 ad (letter_word (set_of a)) (word_times (set_of a)) letters-twist).back s.0 s h).1;
      g = λ y h. given (g_at (paths a) y) refl refl h.1
          ∙ value_with-bind (value p) (total_g p (linear (ordered a)) (ordered (loops a)) (part a) (part (loops a)) (path_twist p a) (small_degree a y.0 + small_degree (loops a) y.1) y)
          (λ c. gives (as_cells c));
      h = λ s h. given (h_at (paths a) s.0 (s.1, s.2)) refl refl
          ((twisted-same a (loops a) ad.0 ad (letter_word (set_of a)) (word_times (set_of a)) letters-twist).back s.0 s h).1
          ∙ value_with-bind (value p) (total_h p (linear (ordered a)) (ordered (loops a)) (part a) (part (loops a)) (path_twist p a) s.0 (one s)) (λ c. gives (as_cells c));
      small_d = λ y h. given (d_at (paths a) y) refl refl h.1;
    }

    pub path-reduction_to : IsGivenBack p (paths a) → (N : ℕ) → IsReductionTo p N (maps_of p a) → IsReductionTo p N (maps_of p (loops a)) → IsReductionTo p N (maps_of p (paths a))
    path-reduction_to given =
        twisted-meets a (loops a) ad.0 ad (letter_word (set_of a)) (word_times (set_of a)) letters-twist ((one_vertex (loops a) ad).1 refl) (maps_of p (paths a)) (path-fibred given)

  -- ---- bundles of K(Z/m,1)

  module _ (t : Table) (m : ℕ) (c : List ℕ) (ad : Admits (cyclic_bundle t m c)) where
    pub fibre-admits : Admits (kzm1 m)
    fibre-admits = (ad.2, ad.3)

    pub cocycle-twist : IsTwisting (set_of (table t)) (set_of (kzm1 m)) (cocycle_twisting (integers_modulo m) t c) (nerve_times (integers_modulo m))
    cocycle-twist = let l : 2 ≤ m = ad.2 in cocycle_is_twisting (integers_modulo m) t c (table_set_laws t ad.0.faces) (residues_abelian m (omega (arith, l))) ad.1

    cyclic-fibred : IsGivenBack p (cyclic_bundle t m c) → IsFibred p pos (table t) (kzm1 m) ad.0 fibre-admits (cyclic_twist p t m c) (maps_of p (cyclic_bundle t m c))
    cyclic-fibred given = record {
      same_complex = twisted-same (table t) (kzm1 m) ad.0 fibre-admits (cocycle_twisting (integers_modulo m) t c) (nerve_times (integers_modulo m)) cocycle-twist;
      complex = cells-complex (set_of (cyclic_bundle t m c)) (space_set_laws (cyclic_bundle t m c) ad) p pos;
      big_apart = cells-same (set_of (cyclic_bundle t m c)) (space_set_laws (cyclic_bundle t m c) ad) p pos;
      small_to = λ n y h. (h.0, (basis-members p (cyclic_bundle t m c) n y).1 (h.0, h.1));
      small_from = λ n y h. (h.0, ((basis-members p (cyclic_bundle t m c) n y).0 h.1).1);
      small_apart = λ x y h. small-apart (cyclic_bundle t m c) x y ((Equal-is (small_cmp (cyclic_bundle t m c) x y)).0 h);
      small_equivalence = eq_by_cmp_equiv (small-total (cyclic_bundle t m c));
      f = λ s h. given (f_at (cyclic_bundle t m c) s.0 (s.1, s.2)) refl refl
          ((twisted-same (table t) (kzm1 m) ad.0 fibre-admits (cocycle_twisting (integers_modulo m) t c) (nerve_times (integers_modulo m)) cocycle-twist).back s.0 s h).1;
      g = λ y h. given (g_at (cyclic_bundle t m c) y) refl refl h.1
          ∙ value_with-bind (value p)
          (total_g p (linear (ordered (table t))) (ordered (kzm1 m)) (part (table t)) (part (kzm1 m)) (cyclic_twist p t m c) (small_degree (table t) y.0 + small_degree (kzm1 m) y.1) y)
          (λ c. gives (as_cells c));
      h = λ s h. given (h_at (cyclic_bundle t m c) s.0 (s.1, s.2)) refl refl
          ((twisted-same (table t) (kzm1 m) ad.0 fibre-admits (cocycle_twisting (integers_modulo m) t c) (nerve_times (integers_modulo m)) cocycle-twist).back s.0 s h).1
          ∙ value_with-bind (value p) (total_h p (linear (ordered (table t))) (ordered (kzm1 m)) (part (table t)) (part (kzm1 m)) (cyclic_twist p t m c) s.0 (one s))
          (λ c. gives (as_cells c));
      small_d = λ y h. given (d_at (cyclic_bundle t m c) y) refl refl h.1;
    }

    pub cyclic-reduction_to : IsGivenBack p (cyclic_bundle t m c) → (N : ℕ) → IsReductionTo p N (maps_of p (table t)) → IsReductionTo p N (maps_of p (kzm1 m)) → IsReductionTo p N (maps_of p (cyclic_bundle t m c))
    cyclic-reduction_to given =
        twisted-meets (table t) (kzm1 m) ad.0 fibre-admits (cocycle_twisting (integers_modulo m) t c) (nerve_times (integers_modulo m)) cocycle-twist
        ((one_vertex (kzm1 m) fibre-admits).1 refl) (maps_of p (cyclic_bundle t m c)) (cyclic-fibred given)
