-- Products and bundles have the maps of the rule, and are reductions where their parts are.
use Rattle.std.proofs.Common.{ℕ, ◌+◌, ◌<◌, List, refl, ◌∙◌}
use Rattle.std.specs.Prelude.{ℤ}
use Rattle.std.specs.Cmp.{Equal-is, eq_by_cmp_equiv}
use Rattle.fp_field.specs.Reduction.{one}
use Rattle.spaces.specs.Tables.{Table}
use Rattle.spaces.specs.Spaces.{Space, table, kz1, product, bundle, set_of}
use Rattle.spaces.specs.SmallCells.{small_degree, small_cmp}
use Rattle.spaces.specs.Orders.{ordered}
use Rattle.spaces.specs.Allowed.{Admits}
use Rattle.spaces.specs.EilenbergZilber.{linear}
use Rattle.spaces.proofs.Orders.{small-apart}
use Rattle.spaces.proofs.SpaceLaws.{space_set_laws}
use Rattle.values.specs.Asks.{f as f_at, g as g_at, h as h_at, small_d as d_at, gives}
use Rattle.values.specs.Perturbed.{total_g, total_h}
use Rattle.values.specs.Rules.{part, as_cells, bundle_twist}
use Rattle.values.specs.Twists.{untwisted}
use Rattle.values.specs.Values.{value}
use Rattle.values.specs.Laws.{maps_of}
use Rattle.values.proofs.Readings.{value_with-bind}
use Rattle.values.proofs.BasesCells.{basis-members}
use Rattle.homology_laws.specs.Suspended.{IsGivenBack}
use Rattle.homology_laws.proofs.CellChains.{cells-complex, cells-same}
use Rattle.homology_laws.proofs.SmallOrder.{small-total}
use Rattle.twist_laws.proofs.Fibred.{IsFibred}
use Rattle.twist_laws.proofs.Instances.{products-same, bundles-same}

module _ (p : ℕ) (pos : 0 < p) where
  module _ (a b : Space) (ad : Admits a) (bd : Admits b) (given : IsGivenBack p (product a b)) where
    pub product-fibred : IsFibred p pos a b ad bd untwisted (maps_of p (product a b))
    product-fibred = record {
      same_complex = products-same p pos a b ad bd;
      complex = cells-complex (set_of (product a b)) (space_set_laws (product a b) (ad, bd)) p pos;
      big_apart = cells-same (set_of (product a b)) (space_set_laws (product a b) (ad, bd)) p pos;
      small_to = λ n y h. (h.0, (basis-members p (product a b) n y).1 (h.0, h.1));
      small_from = λ n y h. (h.0, ((basis-members p (product a b) n y).0 h.1).1);
      small_apart = λ x y h. small-apart (product a b) x y ((Equal-is (small_cmp (product a b) x y)).0 h);
      small_equivalence = eq_by_cmp_equiv (small-total (product a b));
      f = λ s h. given (f_at (product a b) s.0 (s.1, s.2)) refl refl ((products-same p pos a b ad bd).back s.0 s h).1;
      g = λ y h. given (g_at (product a b) y) refl refl h.1
          ∙ value_with-bind (value p) (total_g p (linear (ordered a)) (ordered b) (part a) (part b) untwisted (small_degree a y.0 + small_degree b y.1) y) (λ c. gives (as_cells c));
      h = λ s h. given (h_at (product a b) s.0 (s.1, s.2)) refl refl ((products-same p pos a b ad bd).back s.0 s h).1
          ∙ value_with-bind (value p) (total_h p (linear (ordered a)) (ordered b) (part a) (part b) untwisted s.0 (one s)) (λ c. gives (as_cells c));
      small_d = λ y h. given (d_at (product a b) y) refl refl h.1;
    }

  module _ (t : Table) (c : List ℤ) (ad : Admits (bundle t c)) (given : IsGivenBack p (bundle t c)) where
    pub bundle-fibred : IsFibred p pos (table t) kz1 ad.0 tt (bundle_twist p t c) (maps_of p (bundle t c))
    bundle-fibred = record {
      same_complex = bundles-same p pos t c ad;
      complex = cells-complex (set_of (bundle t c)) (space_set_laws (bundle t c) ad) p pos;
      big_apart = cells-same (set_of (bundle t c)) (space_set_laws (bundle t c) ad) p pos;
      small_to = λ n y h. (h.0, (basis-members p (bundle t c) n y).1 (h.0, h.1));
      small_from = λ n y h. (h.0, ((basis-members p (bundle t c) n y).0 h.1).1);
      small_apart = λ x y h. small-apart (bundle t c) x y ((Equal-is (small_cmp (bundle t c) x y)).0 h);
      small_equivalence = eq_by_cmp_equiv (small-total (bundle t c));
      f = λ s h. given (f_at (bundle t c) s.0 (s.1, s.2)) refl refl ((bundles-same p pos t c ad).back s.0 s h).1;
      g = λ y h. given (g_at (bundle t c) y) refl refl h.1
          ∙ value_with-bind (value p) (total_g p (linear (ordered (table t))) (ordered kz1) (part (table t)) (part kz1) (bundle_twist p t c) (small_degree (table t) y.0 + small_degree kz1 y.1) y)
          (λ c. gives (as_cells c));
      h = λ s h. given (h_at (bundle t c) s.0 (s.1, s.2)) refl refl ((bundles-same p pos t c ad).back s.0 s h).1
          ∙ value_with-bind (value p) (total_h p (linear (ordered (table t))) (ordered kz1) (part (table t)) (part kz1) (bundle_twist p t c) s.0 (one s)) (λ c. gives (as_cells c));
      small_d = λ y h. given (d_at (bundle t c) y) refl refl h.1;
    }
