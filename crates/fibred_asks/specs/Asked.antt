-- What is asked for a product or a circle bundle of the code, as right sides on what its chains, pairs and small cells stand for.
--
--   of the product of two circles, `h_asked` at the chain S1 (x) S1 is the right side of h at the tensor of the two cells of dimension 1
use Rattle.std.specs.Prelude.{ℕ, Option, ℤ, List}
use Rattle.std.specs.Option.{option_copied}
use Rattle.fp_field.specs.declared.prime.Prime.{Prime}
use Rattle.fp_field.specs.Chains.{Terms}
use Rattle.spaces.specs.Spaces.{Space, Plain}
use Rattle.spaces.specs.SmallCells.{Small}
use Rattle.spaces.specs.EilenbergZilber.{Pair, Tensor}
use Rattle.values.specs.Asks.{Right}
use Rattle.cells.specs.declared.cells.Cell.{Cell}
use Rattle.cells.specs.declared.cells.SmallCell.{SmallCell}
use Rattle.tensor_red.specs.declared.tensors.Tensor.{Tensor as CodeTensor}
use Rattle.term_lang.specs.SpaceOf.{space_of}
use Rattle.twist_chains.specs.Fibred.{read_tensors, read_pairs, IsTensorWithin, IsPairWithin, AreTwistValues}
use Rattle.fibred_asks.specs.declared.maps.Maps.{Maps}
use Rattle.fibred_asks.specs.Seconds.{h_on, p2_on, s2_on, f_on}
use Rattle.fibred_asks.specs.Totals.{f_total, g_total, h_total, d_total}

module _ (m : Maps) where
  abbrev pub prime_of : Prime
  prime_of = m.base.now.prime

  abbrev pub base_of : Space
  base_of = space_of m.base.now.term

  abbrev pub fibre_of : Space
  fibre_of = space_of m.fibre.now.term

  abbrev pub values_of : Option (List ℤ)
  values_of = option_copied m.values

  -- values of a cocycle belong to a table and K(Z,1) alone
  abbrev pub HasTwist : Type 0
  HasTwist = AreTwistValues values_of base_of fibre_of

  -- tensors and pairs of degree n with a reach of at most `most`
  abbrev pub IsTensorIn : ℕ → ℕ → CodeTensor Cell Cell → Type 0
  IsTensorIn most n t = IsTensorWithin base_of fibre_of most n t

  abbrev pub IsPairIn : ℕ → ℕ → Cell → Type 0
  IsPairIn most n c = IsPairWithin base_of fibre_of most n c

  -- ---- the second perturbation

  abbrev pub h_asked : Terms (CodeTensor Cell Cell) → Right (Terms (Tensor (Plain base_of) (Plain fibre_of)))
  h_asked c = h_on prime_of base_of fibre_of values_of (read_tensors base_of fibre_of c)

  abbrev pub p2_asked : ℕ → Terms (CodeTensor Cell Cell) → Right (Terms (Tensor (Plain base_of) (Plain fibre_of)))
  p2_asked n c = p2_on prime_of base_of fibre_of values_of n (read_tensors base_of fibre_of c)

  abbrev pub s2_asked : ℕ → Terms (CodeTensor Cell Cell) → Right (Terms (Tensor (Plain base_of) (Plain fibre_of)))
  s2_asked n c = s2_on prime_of base_of fibre_of values_of n (read_tensors base_of fibre_of c)

  abbrev pub f_asked : Terms (CodeTensor Cell Cell) → Right (Terms (Small base_of × Small fibre_of))
  f_asked c = f_on prime_of base_of fibre_of values_of (read_tensors base_of fibre_of c)

  -- ---- the four maps

  abbrev pub total_f_asked : ℕ → Terms Cell → Right (Terms (Small base_of × Small fibre_of))
  total_f_asked n c = f_total prime_of base_of fibre_of values_of n (read_pairs base_of fibre_of c)

  abbrev pub total_g_asked : ℕ → SmallCell → SmallCell → Right (Terms (Pair (Plain base_of) (Plain fibre_of)))
  total_g_asked n y z = g_total prime_of base_of fibre_of values_of n y z

  abbrev pub total_h_asked : ℕ → Terms Cell → Right (Terms (Pair (Plain base_of) (Plain fibre_of)))
  total_h_asked n c = h_total prime_of base_of fibre_of values_of n (read_pairs base_of fibre_of c)

  abbrev pub total_d_asked : ℕ → SmallCell → SmallCell → Right (Terms (Small base_of × Small fibre_of))
  total_d_asked n y z = d_total prime_of base_of fibre_of values_of n y z
