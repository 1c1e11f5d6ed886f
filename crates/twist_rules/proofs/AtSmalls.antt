-- A small cell of a product or a circle bundle as a pair of small cells of base and fibre, and the right sides of G and the small differential
-- at it.
use Rattle.std.proofs.Common.{◌≡◌, ◌+◌, List, Option, Some, None, ℤ, refl, sym, ◌∙◌, ap, subst}
use Rattle.fp_field.specs.declared.prime.Prime.{Prime}
use Rattle.fp_field.specs.Field.{number}
use Rattle.chain_core.specs.Formal.{Formal}
use Rattle.spaces.specs.Spaces.{Space, table, sphere, product, suspension, kz1, bundle, loops, paths, kzm1, cyclic_bundle}
use Rattle.spaces.specs.SmallCells.{Small, small_degree}
use Rattle.cells.specs.declared.cells.Cell.{Cell}
use Rattle.cells.specs.declared.cells.Cell.TheVariants.{Base}
use Rattle.cells.specs.declared.cells.SmallCell.{SmallCell, roll-SmallCell, out-SmallCell, out-roll-SmallCell, fold-roll-SmallCell, map-SmallCell}
use Rattle.cells.specs.declared.cells.SmallCell.TheOpen.{SmallCell-F}
use Rattle.cells.specs.declared.cells.SmallCell.TheVariants.{One, Pair, rolls-Pair}
use Rattle.values.specs.Asks.{g as g_at, small_d as d_at, asked_with}
use Rattle.values.specs.Rules.{as_cells}
use Rattle.values.specs.Values.{value, right_side}
use Rattle.oracle_iface.specs.declared.bodies.Body.TheVariants.{Small as SmallBody, Big as BigBody}
use Rattle.oracle_iface.specs.Keys.{quote_body, formal, quote_chain}
use Rattle.oracle_iface.specs.SmallForms.{SmallForm, small_step, small_form, quote_small}
use Rattle.part_asks.specs.declared.found.Found.{Found}
use Rattle.part_asks.specs.Reading.{IsFound}
use Rattle.fibred_asks.specs.Parts.{formal_smalls}
use Rattle.fibred_asks.specs.Totals.{g_total, d_total, formal_pairs}
use Rattle.twist_rules.specs.PartMaps.{twist_of}
use Rattle.twist_rules.specs.PartSpaces.{IsFibred, base_of, fibre_of}
use Rattle.twist_rules.proofs.FoundBodies.{with_body, small-found, asked-then, big-found, product-formal, bundle-formal}

-- ---- pairs of small cells of the code

out-small_pair : (x y : SmallCell) → out-SmallCell (Pair x y) ≡ SmallCell-F.Pair x y
out-small_pair x y = ap out-SmallCell (sym (rolls-Pair x y)) ∙ out-roll-SmallCell (SmallCell-F.Pair x y)

left_in : SmallCell-F SmallCell → SmallCell
left_in (SmallCell-F.Pair x y) = x
left_in (SmallCell-F.One c) = One Base
left_in (SmallCell-F.Up y) = One Base
left_in (SmallCell-F.Word w) = One Base

right_in : SmallCell-F SmallCell → SmallCell
right_in (SmallCell-F.Pair x y) = y
right_in (SmallCell-F.One c) = One Base
right_in (SmallCell-F.Up y) = One Base
right_in (SmallCell-F.Word w) = One Base

pub same-left : (x y z w : SmallCell) → Pair x y ≡ Pair z w → x ≡ z
unfolding left_in
same-left x y z w e = ap left_in (sym (out-small_pair x y)) ∙ ap (λ c. left_in (out-SmallCell c)) e ∙ ap left_in (out-small_pair z w)

pub same-right : (x y z w : SmallCell) → Pair x y ≡ Pair z w → y ≡ w
unfolding right_in
same-right x y z w e = ap right_in (sym (out-small_pair x y)) ∙ ap (λ c. right_in (out-SmallCell c)) e ∙ ap right_in (out-small_pair z w)

rolled : (x : SmallCell-F SmallCell) → small_form (roll-SmallCell x) ≡ small_step (map-SmallCell SmallCell SmallForm small_form x)
unfolding small_form
rolled x = fold-roll-SmallCell SmallForm small_step x

small-Pair : (x y : SmallCell) → small_form (Pair x y) ≡ small_step (SmallCell-F.Pair (small_form x) (small_form y))
small-Pair x y = ap small_form (sym (rolls-Pair x y)) ∙ rolled (SmallCell-F.Pair x y)

-- ---- at a pair of small cells

-- the right sides of G and the small differential at a small cell of s, for the pair of l and r of base a and fibre b
pub record AtPair (p : Prime) (s a b : Space) (values : Option (List ℤ)) (l r : SmallCell) (y : Small s) : Type 0 where
  pub degree : small_degree s y ≡ small_degree a (small_form l a) + small_degree b (small_form r b)
  pub quoted : quote_small s y ≡ Pair (quote_small a (small_form l a)) (quote_small b (small_form r b))
  pub g_asked : asked_with (value (number p)) (g_total p a b values (small_degree s y) l r) ≡ asked_with (value (number p)) (right_side (number p) (g_at s y))
  pub g_found : (o : Found (Formal Cell)) → IsFound (formal_pairs p a b) p (g_total p a b values (small_degree s y) l r) o
      → IsFound (quote_body p (g_at s y)) p (right_side (number p) (g_at s y)) (with_body (λ c. BigBody c) o)
  pub d_asked : asked_with (value (number p)) (d_total p a b values (small_degree s y) l r) ≡ asked_with (value (number p)) (right_side (number p) (d_at s y))
  pub d_found : (o : Found (Formal SmallCell)) → IsFound (formal_smalls p a b) p (d_total p a b values (small_degree s y) l r) o
      → IsFound (quote_body p (d_at s y)) p (right_side (number p) (d_at s y)) (with_body (λ c. SmallBody c) o)

module _ (p : Prime) (l r : SmallCell) where
  in-product : (a b : Space) → AtPair p (product a b) a b None l r (small_form l a, small_form r b)
  in-product a b =
      let y : Small (product a b) = (small_form l a, small_form r b) in
      let n = small_degree (product a b) y in record {
        degree = refl;
        quoted = refl;
        g_asked = sym (asked-then p (g_total p a b None n l r) as_cells);
        g_found = λ o h. big-found p (g_total p a b None n l r) as_cells (formal_pairs p a b) (λ v. formal p (quote_chain (product a b) v)) (product-formal p a b) o h;
        d_asked = refl;
        d_found = λ o h. small-found p (formal_smalls p a b) (d_total p a b None n l r) o h;
      }

  in-bundle : (t : _) (c : List ℤ) → AtPair p (bundle t c) (table t) kz1 (Some c) l r (small_form l (table t), small_form r kz1)
  in-bundle t c =
      let y : Small (bundle t c) = (small_form l (table t), small_form r kz1) in
      let n = small_degree (bundle t c) y in record {
        degree = refl;
        quoted = refl;
        g_asked = sym (asked-then p (g_total p (table t) kz1 (Some c) n l r) as_cells);
        g_found = λ o h. big-found p (g_total p (table t) kz1 (Some c) n l r) as_cells (formal_pairs p (table t) kz1) (λ v. formal p (quote_chain (bundle t c) v)) (bundle-formal p t c) o h;
        d_asked = refl;
        d_found = λ o h. small-found p (formal_smalls p (table t) kz1) (d_total p (table t) kz1 (Some c) n l r) o h;
      }

  pub at-pair : (s : Space) → IsFibred s → AtPair p s (base_of s) (fibre_of s) (twist_of s) l r (small_form (Pair l r) s)
  at-pair (product a b) u = subst (AtPair p (product a b) a b None l r) (sym (ap (λ f. f (product a b)) (small-Pair l r))) (in-product a b)
  at-pair (bundle t c) u = subst (AtPair p (bundle t c) (table t) kz1 (Some c) l r) (sym (ap (λ f. f (bundle t c)) (small-Pair l r))) (in-bundle t c)
  at-pair (table t) u = absurd u
  at-pair (sphere m) u = absurd u
  at-pair (suspension a) u = absurd u
  at-pair kz1 u = absurd u
  at-pair (loops a) u = absurd u
  at-pair (paths a) u = absurd u
  at-pair (kzm1 m) u = absurd u
  at-pair (cyclic_bundle t m c) u = absurd u
