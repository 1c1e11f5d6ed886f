-- The chains that outcomes hold, of a space or of its small complex, over a prime.
use Rattle.std.specs.Prelude.{◌≡◌, []}
use Rattle.fp_field.specs.declared.prime.Prime.{Prime}
use Rattle.fp_field.specs.declared.prime.Prime.TheVariants.{Two}
use Rattle.chain_core.specs.Formal.{Formal}
use Rattle.cells.specs.declared.cells.Cell.{Cell}
use Rattle.cells.specs.declared.cells.SmallCell.{SmallCell}
use Rattle.oracle_iface.specs.declared.bodies.Body.TheVariants.{Cells, Small, Big, Many}
use Rattle.oracle_iface.specs.declared.bodies.Outcome.{Outcome}
use Rattle.oracle_iface.specs.declared.bodies.Outcome.TheVariants.{Value, Over}

-- a chain of the space
abbrev pub HasBig : Outcome → Type 0
HasBig (Value (Big c)) = Unit {0}
HasBig (Value (Cells l)) = ⊥
HasBig (Value (Small c)) = ⊥
HasBig (Value (Many l)) = ⊥
HasBig (Over w) = ⊥

abbrev pub big_in : Outcome → Formal Cell
big_in (Value (Big c)) = c
big_in (Value (Cells l)) = record { prime = Two; terms = [] }
big_in (Value (Small c)) = record { prime = Two; terms = [] }
big_in (Value (Many l)) = record { prime = Two; terms = [] }
big_in (Over w) = record { prime = Two; terms = [] }

-- a chain of the small complex
abbrev pub HasSmall : Outcome → Type 0
HasSmall (Value (Small c)) = Unit {0}
HasSmall (Value (Cells l)) = ⊥
HasSmall (Value (Big c)) = ⊥
HasSmall (Value (Many l)) = ⊥
HasSmall (Over w) = ⊥

abbrev pub small_in : Outcome → Formal SmallCell
small_in (Value (Small c)) = c
small_in (Value (Cells l)) = record { prime = Two; terms = [] }
small_in (Value (Big c)) = record { prime = Two; terms = [] }
small_in (Value (Many l)) = record { prime = Two; terms = [] }
small_in (Over w) = record { prime = Two; terms = [] }

-- a chain of the space over a prime
abbrev pub HasBigOver : Prime → Outcome → Type 0
HasBigOver p o = HasBig o × ((big_in o).prime ≡ p)

-- a chain of the small complex over a prime
abbrev pub HasSmallOver : Prime → Outcome → Type 0
HasSmallOver p o = HasSmall o × ((small_in o).prime ≡ p)
