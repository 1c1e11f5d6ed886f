-- Base and fibre of a product or a circle bundle, with what is known of their values, and what is found along tensors.
--
--   K(Z,1) and a sphere are base and fibre of their product; F of a tensor is the pairs of small cells of F of its two cells
use Rattle.fp_field.specs.declared.prime.Prime.{Prime}
use Rattle.fp_field.specs.Field.{number}
use Rattle.fp_field.specs.Chains.{Terms, EachKey}
use Rattle.chain_core.specs.Formal.{Formal}
use Rattle.spaces.specs.Spaces.{Space}
use Rattle.spaces.specs.SmallCells.{Small}
use Rattle.cells.specs.declared.cells.SmallCell.{SmallCell}
use Rattle.cells.specs.declared.cells.SmallCell.TheVariants.{Pair}
use Rattle.ez_laws.specs.Sides.{on_keys}
use Rattle.space_faces.specs.Built.{IsAllowedBuilt}
use Rattle.oracle_iface.specs.Keys.{formal}
use Rattle.oracle_iface.specs.SmallForms.{quote_small}
use Rattle.homology_rules.specs.Shown.{HasShownValues}
use Rattle.part_asks.specs.declared.found.Found.{Found}
use Rattle.part_asks.specs.declared.found.Found.TheVariants.{Value, Over}
use Rattle.fibred_asks.specs.Reached.{HasReachedValues}

pub record AreParts (p : Prime) (a b : Space) : Type 0 where
  pub base_built : IsAllowedBuilt a
  pub fibre_built : IsAllowedBuilt b
  pub base_shown : HasShownValues (number p) a
  pub fibre_shown : HasShownValues (number p) b
  pub base_reached : HasReachedValues p a
  pub fibre_reached : HasReachedValues p b

-- a value that was found has this
abbrev pub IfFound : {T : Type 0} → (T → Type 0) → Found T → Type 0
IfFound P (Value v) = P v
IfFound P (Over w) = Unit {0}

-- each key of the chain
abbrev pub EachIn : {K : Type 0} → (K → Type 0) → Formal K → Type 0
EachIn P c = EachKey P c.terms

-- the small cell of the code for a pair of small cells, and the chain of the code for a chain of such pairs
abbrev pub small_pair_for : (a b : Space) → Small a × Small b → SmallCell
small_pair_for a b y = Pair (quote_small a y.0) (quote_small b y.1)

abbrev pub formal_smalls : Prime → (a b : Space) → Terms (Small a × Small b) → Formal SmallCell
formal_smalls p a b c = formal p (on_keys (small_pair_for a b) c)
