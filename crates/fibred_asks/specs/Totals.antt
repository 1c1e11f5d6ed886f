-- The four maps of a product or a circle bundle, as right sides, on what chains of pairs and small cells of the code stand for (Rubio and
-- Sergeraert, Constructive Homological Algebra and Applications, chapter 3).
--
--   F of a product at the pair <S1,S1> of two circles asks for F of both circles at the parts of the terms of its Alexander-Whitney chain
use Rattle.std.specs.Prelude.{ℕ, Option, ℤ, List}
use Rattle.fp_field.specs.declared.prime.Prime.{Prime}
use Rattle.fp_field.specs.Field.{number}
use Rattle.fp_field.specs.Chains.{Terms}
use Rattle.chain_core.specs.Formal.{Formal}
use Rattle.spaces.specs.Spaces.{Space, Plain}
use Rattle.spaces.specs.SmallCells.{Small}
use Rattle.spaces.specs.Orders.{ordered}
use Rattle.spaces.specs.EilenbergZilber.{Pair, linear}
use Rattle.values.specs.Asks.{Right}
use Rattle.values.specs.Perturbed.{total_f, total_g, total_h, total_d}
use Rattle.values.specs.Rules.{part}
use Rattle.cells.specs.declared.cells.Cell.{Cell}
use Rattle.cells.specs.declared.cells.SmallCell.{SmallCell}
use Rattle.oracle_iface.specs.Keys.{formal}
use Rattle.oracle_iface.specs.SmallForms.{small_form}
use Rattle.twist_chains.specs.Fibred.{twist_by, quote_pairs}

module _ (p : Prime) (a b : Space) (values : Option (List ℤ)) where
  abbrev pub f_total : ℕ → Terms (Pair (Plain a) (Plain b)) → Right (Terms (Small a × Small b))
  f_total n c = total_f (number p) (linear (ordered a)) (ordered b) (part a) (part b) (twist_by values (number p) a b) n c

  abbrev pub g_total : ℕ → SmallCell → SmallCell → Right (Terms (Pair (Plain a) (Plain b)))
  g_total n y z = total_g (number p) (linear (ordered a)) (ordered b) (part a) (part b) (twist_by values (number p) a b) n (small_form y a, small_form z b)

  abbrev pub h_total : ℕ → Terms (Pair (Plain a) (Plain b)) → Right (Terms (Pair (Plain a) (Plain b)))
  h_total n c = total_h (number p) (linear (ordered a)) (ordered b) (part a) (part b) (twist_by values (number p) a b) n c

  abbrev pub d_total : ℕ → SmallCell → SmallCell → Right (Terms (Small a × Small b))
  d_total n y z = total_d (number p) (linear (ordered a)) (ordered b) (part a) (part b) (twist_by values (number p) a b) n (small_form y a, small_form z b)

-- the chain of the code for a chain of pairs
abbrev pub formal_pairs : Prime → (a b : Space) → Terms (Pair (Plain a) (Plain b)) → Formal Cell
formal_pairs p a b c = formal p (quote_pairs a b c)
