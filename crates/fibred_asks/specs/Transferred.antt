-- The part of the small differential of a product or a circle bundle that its twist makes: F of base and fibre of the transferred difference of P2
-- of G of both; and the small differential of a pair from that and those of its two small cells, on small cells of the code (Rubio and Sergeraert,
-- Constructive Homological Algebra and Applications, chapter 3).
--
--   of a product, whose twist is 0, the first part asks for G of both small cells and is 0
use Rattle.std.specs.Prelude.{ℕ, Option, ℤ, List, ◌++◌}
use Rattle.fp_field.specs.declared.prime.Prime.{Prime}
use Rattle.fp_field.specs.Field.{number, sign}
use Rattle.fp_field.specs.Chains.{Terms, scale}
use Rattle.fp_field.specs.Normal.{normal}
use Rattle.spaces.specs.Spaces.{Space, Plain}
use Rattle.spaces.specs.SmallCells.{Small}
use Rattle.spaces.specs.Orders.{ordered}
use Rattle.spaces.specs.EilenbergZilber.{Tensor, linear}
use Rattle.values.specs.Asks.{Right, ◌>>=◌}
use Rattle.values.specs.Perturbed.{r}
use Rattle.values.specs.Rules.{part}
use Rattle.cells.specs.Small.{small_cmp}
use Rattle.cells.specs.declared.cells.SmallCell.{SmallCell}
use Rattle.cells.specs.declared.cells.SmallCell.TheVariants.{Pair}
use Rattle.ez_laws.specs.Sides.{on_keys}
use Rattle.part_asks.specs.Askers.{g_tensor}
use Rattle.twist_chains.specs.Fibred.{twist_by}
use Rattle.fibred_asks.specs.declared.maps.Maps.{Maps}
use Rattle.fibred_asks.specs.Asked.{prime_of, base_of, fibre_of, values_of}
use Rattle.fibred_asks.specs.Seconds.{p2_on, f_on}

module _ (p : Prime) (a b : Space) (values : Option (List ℤ)) (n : ℕ) where
  -- the transferred difference
  abbrev pub differ : Terms (Tensor (Plain a) (Plain b)) → Terms (Tensor (Plain a) (Plain b))
  differ v = r (number p) (linear (ordered a)) (ordered b) (part a) (part b) (twist_by values (number p) a b) n v

  -- F of both along it
  abbrev pub f_differ : Terms (Tensor (Plain a) (Plain b)) → Right (Terms (Small a × Small b))
  f_differ v = f_on p a b values (differ v)

  abbrev pub transferred : SmallCell → SmallCell → Right (Terms (Small a × Small b))
  transferred y z = g_tensor p a b y z >>= λ u. p2_on p a b values n u >>= f_differ

abbrev pub transferred_asked : (m : Maps) → ℕ → SmallCell → SmallCell → Right (Terms (Small (base_of m) × Small (fibre_of m)))
transferred_asked m n y z = transferred (prime_of m) (base_of m) (fibre_of m) (values_of m) n y z

-- ---- on small cells of the code

abbrev pub with_right : SmallCell → SmallCell → SmallCell
with_right z k = Pair k z

abbrev pub with_left : SmallCell → SmallCell → SmallCell
with_left y k = Pair y k

-- the differential of the pair of y, of this degree, and z
abbrev pub pair_differential : ℕ → ℕ → SmallCell → SmallCell → Terms SmallCell → Terms SmallCell → Terms SmallCell → Terms SmallCell
pair_differential p degree y z dy dz w = normal small_cmp p (on_keys (with_right z) dy ++ scale (sign p degree) (on_keys (with_left y) dz) ++ w)
