-- The right sides on tensors and on pairs of small cells of two parts: f, g and h of the tensor product of the reductions of base and fibre
-- (Rubio and Sergeraert, Constructive Homological Algebra and Applications, chapters 2 and 3), at what tensors and small cells of the code stand
-- for, and the values of the code for what they give.
--
--   at Top(1) (x) Top(1), of two circles, f asks for F of the left circle at Top(1) and of the right one at Top(1), and gives the pair of their
--   small cells
use Rattle.fp_field.specs.declared.prime.Prime.{Prime}
use Rattle.fp_field.specs.Field.{number}
use Rattle.fp_field.specs.Chains.{Terms}
use Rattle.fp_field.specs.Normal.{normal}
use Rattle.chain_core.specs.Formal.{Formal}
use Rattle.cells.specs.declared.cells.Cell.{Cell}
use Rattle.cells.specs.declared.cells.SmallCell.{SmallCell}
use Rattle.cells.specs.Dim.{dim_of}
use Rattle.spaces.specs.Spaces.{Space, Plain}
use Rattle.spaces.specs.Orders.{ordered}
use Rattle.spaces.specs.EilenbergZilber.{Tensor, linear}
use Rattle.values.specs.Asks.{Right}
use Rattle.values.specs.Perturbed.{g_g, t}
use Rattle.values.specs.Rules.{part}
use Rattle.values.specs.Twists.{untwisted}
use Rattle.ez_laws.specs.Sides.{on_keys}
use Rattle.ez_maps.specs.Tensors.{tensor_for, tensor_cmp}
use Rattle.tensor_red.specs.declared.tensors.Tensor.{Tensor as CodeTensor}
use Rattle.term_lang.specs.Forms.{cell_form}
use Rattle.term_lang.specs.Quote.{quote}
use Rattle.oracle_iface.specs.Keys.{formal}
use Rattle.oracle_iface.specs.SmallForms.{small_form}

module _ (p : Prime) (a b : Space) where
  -- g, at two small cells of the code
  abbrev pub g_tensor : SmallCell → SmallCell → Right (Terms (Tensor (Plain a) (Plain b)))
  g_tensor y z = g_g (number p) (linear (ordered a)) (ordered b) (part a) (part b) untwisted (small_form y a, small_form z b)

  -- the chain of the code for a chain of tensors
  abbrev pub formal_tensors : Terms (Tensor (Plain a) (Plain b)) → Formal (CodeTensor Cell Cell)
  formal_tensors c = formal p (on_keys (tensor_for (quote a) (quote b)) c)

  -- the tensor that a tensor of cells stands for, and h at it
  abbrev pub read_cells : CodeTensor Cell Cell → Tensor (Plain a) (Plain b)
  read_cells x = (dim_of x.left, cell_form x.left a, dim_of x.right, cell_form x.right b)

  abbrev pub t_tensor : CodeTensor Cell Cell → Right (Terms (Tensor (Plain a) (Plain b)))
  t_tensor x = t (number p) (linear (ordered a)) (ordered b) (part a) (part b) untwisted (read_cells x)

  -- the chain of the code for any terms, in normal form
  abbrev pub normal_tensors : Terms (Tensor (Plain a) (Plain b)) → Formal (CodeTensor Cell Cell)
  normal_tensors c = formal p (normal tensor_cmp (number p) (on_keys (tensor_for (quote a) (quote b)) c))
