-- A cell of a product or a circle bundle as a pair of base and fibre, and the right sides of F and H at it.
use Rattle.std.proofs.Common.{◌≡◌, ℕ, ◌<◌, ◌≤◌, List, Option, Some, None, ℤ, refl, sym, ◌∙◌, ap, arith}
use Rattle.std.specs.Prelude.{max}
use Rattle.fp_field.specs.declared.prime.Prime.{Prime}
use Rattle.fp_field.specs.Field.{number}
use Rattle.fp_field.specs.Reduction.{one}
use Rattle.fp_field.proofs.Primes.{number_pos}
use Rattle.chain_core.specs.Formal.{Formal}
use Rattle.spaces.specs.Allowed.{IsAllowed}
use Rattle.spaces.specs.Spaces.{Space, table, sphere, product, suspension, kz1, bundle, loops, paths, kzm1, cyclic_bundle, Plain, set_of}
use Rattle.spaces.specs.Orders.{ordered}
use Rattle.spaces.specs.EilenbergZilber.{Pair, linear}
use Rattle.cells.specs.Dim.{dim_of}
use Rattle.cells.specs.declared.cells.Cell.{Cell}
use Rattle.cells.specs.declared.cells.Cell.TheVariants.{Pair as PairCell}
use Rattle.cells.specs.declared.cells.SmallCell.{SmallCell}
use Rattle.cells.specs.declared.cells.Simplex.{Simplex}
use Rattle.term_lang.specs.Forms.{form, vertex_of}
use Rattle.term_lang.specs.Quote.{quote, quote_cell}
use Rattle.normal_forms.specs.Built.{IsBuilt}
use Rattle.values.specs.Asks.{f as f_at, h as h_at, asked_with}
use Rattle.values.specs.Ranks.{IsCell}
use Rattle.values.specs.Rules.{as_cells}
use Rattle.values.specs.Sizes.{integer}
use Rattle.values.specs.Values.{value, right_side}
use Rattle.oracle_iface.specs.declared.bodies.Body.TheVariants.{Small as SmallBody, Big as BigBody}
use Rattle.oracle_iface.specs.Keys.{quote_body, formal, quote_chain}
use Rattle.space_faces.specs.Built.{IsAllowedBuilt}
use Rattle.space_faces.proofs.BundleFaces.{values_of}
use Rattle.space_pairs.specs.Parts.{IsReached, reached_graded}
use Rattle.space_pairs.specs.Reach.{reach}
use Rattle.ez_laws.specs.Instances.{product_maps}
use Rattle.ez_flow.specs.CodeMaps.{cell_for, pair_degree, left_degree_in}
use Rattle.ez_flow.specs.Parts.{HasSimplex}
use Rattle.ez_flow.proofs.PairCells.{out-pair, weight-pair}
use Rattle.part_asks.specs.declared.found.Found.{Found}
use Rattle.part_asks.specs.Reading.{IsFound}
use Rattle.twist_chains.specs.Fibred.{AreTwistValues, IsPairWithin, pair_form, simplex_in}
use Rattle.twist_chains.proofs.CodeKeys as C
use Rattle.twist_chains.proofs.FirstParts.{parts-within}
use Rattle.twist_laws.proofs.Instances.{products-same, bundles-same}
use Rattle.fibred_asks.specs.Parts.{formal_smalls}
use Rattle.fibred_asks.specs.Reached.{limited_reach}
use Rattle.fibred_asks.specs.Totals.{f_total, h_total, formal_pairs}
use Rattle.fibred_asks.proofs.TotalKeys.{has-simplex}
use Rattle.twist_rules.specs.PartMaps.{twist_of}
use Rattle.twist_rules.specs.PartSpaces.{IsFibred, base_of, fibre_of}
use Rattle.twist_rules.proofs.FoundBodies.{with_body, small-found, asked-then, big-found, product-formal, bundle-formal}

-- the reach of simplices whose integers are within the limit
abbrev pub LimitedReaches : Type 0
LimitedReaches = (a : Space) (n : ℕ) (x : Plain a) → IsAllowed a → IsBuilt a → (set_of a).In n x → n ≤ 32 → integer a x ≤ 100000 → reach a x ≤ limited_reach

-- a cell x of degree n of the space s, with base a and fibre b, as a pair
pub record AtCell (p : Prime) (s a b : Space) (values : Option (List ℤ)) (n : ℕ) (x : Plain s) : Type 0 where
  pub pair : Pair (Plain a) (Plain b)
  pub within : IsPairWithin a b limited_reach n (cell_for (quote a) (quote b) pair)
  pub back : pair_form a b (cell_for (quote a) (quote b) pair) ≡ pair
  pub cell : quote_cell s n x ≡ cell_for (quote a) (quote b) pair
  pub f_asked : asked_with (value (number p)) (f_total p a b values n (one pair)) ≡ asked_with (value (number p)) (right_side (number p) (f_at s n x))
  pub f_found : (o : Found (Formal SmallCell)) → IsFound (formal_smalls p a b) p (f_total p a b values n (one pair)) o
      → IsFound (quote_body p (f_at s n x)) p (right_side (number p) (f_at s n x)) (with_body (λ c. SmallBody c) o)
  pub h_asked : asked_with (value (number p)) (h_total p a b values n (one pair)) ≡ asked_with (value (number p)) (right_side (number p) (h_at s n x))
  pub h_found : (o : Found (Formal Cell)) → IsFound (formal_pairs p a b) p (h_total p a b values n (one pair)) o
      → IsFound (quote_body p (h_at s n x)) p (right_side (number p) (h_at s n x)) (with_body (λ c. BigBody c) o)

-- ---- the pair

module _ (p : ℕ) (pos : 0 < p) (a b : Space) (ka : IsAllowedBuilt a) (kb : IsAllowedBuilt b) (n : ℕ) (low : n ≤ 32) (x : Plain a) (y : Plain b)
    (is : (product_maps p a b).big.generator n (n, x, y)) (near_x : reach a x ≤ limited_reach) (near_y : reach b y ≤ limited_reach) where
  abbrev u : Simplex
  u = quote a n x

  abbrev v : Simplex
  v = quote b n y

  has-left : HasSimplex (IsReached a limited_reach) (λ s. form s a) (quote a) n x
  has-left = has-simplex a ka limited_reach n x low is.1.0 near_x

  has-right : HasSimplex (IsReached b limited_reach) (λ s. form s b) (quote b) n y
  has-right = has-simplex b kb limited_reach n y low is.1.1 near_y

  pub pair-within : IsPairWithin a b limited_reach n (cell_for (quote a) (quote b) (n, x, y))
  pair-within =
      C.pair-is p pos (linear (ordered a)) (set_of a).In (ordered b) (IsReached a limited_reach) (λ s. form s a) (quote a) (IsReached b limited_reach) (λ s. form s b) (quote b)
      (parts-within p pos a b ka kb limited_reach) n (n, x, y) ((refl, has-left, has-right), is.1.2)

  pub pair-back : pair_form a b (cell_for (quote a) (quote b) (n, x, y)) ≡ (n, x, y)
  pair-back =
      let degree : pair_degree dim_of (PairCell u v) ≡ n = weight-pair (λ x y. left_degree_in dim_of x) u v ∙ reached_graded a ka limited_reach n u has-left.0 in
      λ i. (
        degree i,
        (ap (simplex_in (λ x y. form x a) (vertex_of a)) (out-pair u v) ∙ has-left.1) i,
        (ap (simplex_in (λ x y. form y b) (vertex_of b)) (out-pair u v) ∙ has-right.1) i,
      )

-- ---- the two kinds of spaces

left-at-most : (i k m : ℕ) → max i k ≤ m → i ≤ m
left-at-most i k m l = omega (arith, l)

right-at-most : (i k m : ℕ) → max i k ≤ m → k ≤ m
right-at-most i k m l = omega (arith, l)

module _ (p : Prime) (near : LimitedReaches) where
  of-product : (a b : Space) → IsAllowed (product a b) → IsBuilt (product a b) → (n : ℕ) (x : Plain (product a b)) → IsCell (product a b) n x → n ≤ 32 → integer (product a b) x ≤ 100000
      → AtCell p (product a b) a b None n x
  of-product a b is built n x cell low small =
      let ka : IsAllowedBuilt a = ((is.0.0, omega (arith, is.1)), built.0) in
      let kb : IsAllowedBuilt b = ((is.0.1, omega (arith, is.1)), built.1) in
      let g = (products-same (number p) (number_pos p) a b is.0.0 is.0.1).there n (n, x.0, x.1) (refl, cell) in
      let nx = near a n x.0 ka.0 ka.1 g.1.0 low (left-at-most (integer a x.0) (integer b x.1) 100000 small) in
      let ny = near b n x.1 kb.0 kb.1 g.1.1 low (right-at-most (integer a x.0) (integer b x.1) 100000 small) in
      record {
        pair = (n, x.0, x.1);
        within = pair-within (number p) (number_pos p) a b ka kb n low x.0 x.1 g nx ny;
        back = pair-back (number p) (number_pos p) a b ka kb n low x.0 x.1 g nx ny;
        cell = refl;
        f_asked = refl;
        f_found = λ o h. small-found p (formal_smalls p a b) (f_total p a b None n (one (n, x.0, x.1))) o h;
        h_asked = sym (asked-then p (h_total p a b None n (one (n, x.0, x.1))) as_cells);
        h_found = λ o h. big-found p (h_total p a b None n (one (n, x.0, x.1))) as_cells (formal_pairs p a b) (λ v. formal p (quote_chain (product a b) v)) (product-formal p a b) o h;
      }

  of-bundle : (t : _) (c : List ℤ) → IsAllowed (bundle t c) → (n : ℕ) (x : Plain (bundle t c)) → IsCell (bundle t c) n x → n ≤ 32 → integer (bundle t c) x ≤ 100000
      → AtCell p (bundle t c) (table t) kz1 (Some c) n x
  of-bundle t c is n x cell low small =
      let ka : IsAllowedBuilt (table t) = ((is.0.0, omega arith), tt) in
      let kb : IsAllowedBuilt kz1 = ((tt, omega arith), tt) in
      let g = (bundles-same (number p) (number_pos p) t c is.0).there n (n, x.0, x.1) (refl, cell) in
      let nx = near (table t) n x.0 ka.0 ka.1 g.1.0 low (omega arith) in
      let ny = near kz1 n x.1 kb.0 kb.1 g.1.1 low small in
      record {
        pair = (n, x.0, x.1);
        within = pair-within (number p) (number_pos p) (table t) kz1 ka kb n low x.0 x.1 g nx ny;
        back = pair-back (number p) (number_pos p) (table t) kz1 ka kb n low x.0 x.1 g nx ny;
        cell = refl;
        f_asked = refl;
        f_found = λ o h. small-found p (formal_smalls p (table t) kz1) (f_total p (table t) kz1 (Some c) n (one (n, x.0, x.1))) o h;
        h_asked = sym (asked-then p (h_total p (table t) kz1 (Some c) n (one (n, x.0, x.1))) as_cells);
        h_found = λ o h. big-found p (h_total p (table t) kz1 (Some c) n (one (n, x.0, x.1))) as_cells (formal_pairs p (table t) kz1) (λ v. formal p (quote_chain (bundle t c) v)) (bundle-formal p t c) o h;
      }

  pub at-cell : (s : Space) → IsFibred s → IsAllowed s → IsBuilt s → (n : ℕ) (x : Plain s) → IsCell s n x → n ≤ 32 → integer s x ≤ 100000
      → AtCell p s (base_of s) (fibre_of s) (twist_of s) n x
  at-cell (product a b) u is built n x cell low small = of-product a b is built n x cell low small
  at-cell (bundle t c) u is built n x cell low small = of-bundle t c is n x cell low small
  at-cell (table t) u is built n x cell low small = absurd u
  at-cell (sphere m) u is built n x cell low small = absurd u
  at-cell (suspension a) u is built n x cell low small = absurd u
  at-cell kz1 u is built n x cell low small = absurd u
  at-cell (loops a) u is built n x cell low small = absurd u
  at-cell (paths a) u is built n x cell low small = absurd u
  at-cell (kzm1 m) u is built n x cell low small = absurd u
  at-cell (cyclic_bundle t m c) u is built n x cell low small = absurd u

-- the twist of the code's maps is that of an allowed space
pub twist-values : (s : Space) → IsFibred s → IsAllowed s → AreTwistValues (twist_of s) (base_of s) (fibre_of s)
twist-values (product a b) u is = tt
twist-values (bundle t c) u is = values_of t c is
twist-values (table t) u is = absurd u
twist-values (sphere m) u is = absurd u
twist-values (suspension a) u is = absurd u
twist-values kz1 u is = absurd u
twist-values (loops a) u is = absurd u
twist-values (paths a) u is = absurd u
twist-values (kzm1 m) u is = absurd u
twist-values (cyclic_bundle t m c) u is = absurd u

-- base and fibre are allowed and built
pub parts-built : (s : Space) → IsFibred s → IsAllowed s → IsBuilt s → IsAllowedBuilt (base_of s) × IsAllowedBuilt (fibre_of s)
parts-built (product a b) u is built = (((is.0.0, omega (arith, is.1)), built.0), ((is.0.1, omega (arith, is.1)), built.1))
parts-built (bundle t c) u is built = (((is.0.0, omega arith), tt), ((tt, omega arith), tt))
parts-built (table t) u is built = absurd u
parts-built (sphere m) u is built = absurd u
parts-built (suspension a) u is built = absurd u
parts-built kz1 u is built = absurd u
parts-built (loops a) u is built = absurd u
parts-built (paths a) u is built = absurd u
parts-built (kzm1 m) u is built = absurd u
parts-built (cyclic_bundle t m c) u is built = absurd u
