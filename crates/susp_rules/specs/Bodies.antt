-- The values of the code for keys about a suspension (Rubio and Sergeraert, Constructive Homological Algebra and Applications, on
-- suspensions): over the base the base itself, and 0 for the small differential and for H; elsewhere those of the part, each cell under
-- Up, with the sign -1 at the small differential and at H.
--
--   over F_3 the value 2 |4| of H goes to 1 Up |4|, and the value 2 |1| of F to 2 Up |1|
use Rattle.std.specs.Prelude.{◌≡◌, ℕ, zero, suc, ◌-◌, List, [], ◌∷◌, map}
use Rattle.fp_field.specs.declared.prime.Prime.{Prime}
use Rattle.fp_field.specs.Field.{number}
use Rattle.fp_field.specs.Chains.{Terms, scale}
use Rattle.fp_field.specs.Normal.{normal}
use Rattle.cells.specs.declared.cells.Cell.{Cell}
use Rattle.cells.specs.declared.cells.Cell.TheVariants.{Base, Up}
use Rattle.cells.specs.declared.cells.SmallCell.{SmallCell}
use Rattle.cells.specs.declared.cells.SmallCell.TheVariants.{One, Up as SmallUp}
use Rattle.cells.specs.Order.{cell_cmp}
use Rattle.cells.specs.Small.{small_cmp}
use Rattle.oracle_iface.specs.Keys.{formal}
use Rattle.oracle_iface.specs.declared.bodies.Body.{Body}
use Rattle.oracle_iface.specs.declared.bodies.Body.TheVariants.{Cells, Small, Big, Many}
use Rattle.oracle_iface.specs.declared.keys.Op.{Op}
use Rattle.oracle_iface.specs.declared.keys.Op.TheVariants.{Basis, SmallD, F, G, H, Cycles}
use Rattle.oracle_iface.specs.declared.keys.Place.{Place}
use Rattle.oracle_iface.specs.declared.keys.Place.TheVariants.{Degree, Small as SmallPlace, Big as BigPlace}

-- the terms with each cell under Up
abbrev pub cells_up : Terms Cell → Terms Cell
cells_up c = map (λ t. (Up t.0, t.1)) c

abbrev pub smalls_up : Terms SmallCell → Terms SmallCell
smalls_up c = map (λ t. (SmallUp t.0, t.1)) c

-- ---- at the base, and in the degrees 0 and 1

abbrev pub base_cells : Place → List SmallCell
base_cells (Degree zero) = One Base ∷ []
base_cells (Degree (suc n)) = []
base_cells (SmallPlace y) = []
base_cells (BigPlace x) = []

abbrev pub base_body : Prime → Op → Place → Body
base_body p Basis place = Cells (base_cells place)
base_body p SmallD place = Small (formal p [])
base_body p F place = Small (formal p ((One Base, 1) ∷ []))
base_body p G place = Big (formal p ((Base, 1) ∷ []))
base_body p H place = Big (formal p [])
base_body p Cycles place = Cells []

-- ---- elsewhere

abbrev pub raised_body : Prime → Op → Body → Body
raised_body p Basis (Cells ys) = Cells (map (λ y. SmallUp y) ys)
raised_body p SmallD (Small c) = Small (formal p (normal small_cmp (number p) (scale (number p - 1) (smalls_up c.terms))))
raised_body p F (Small c) = Small (formal p (smalls_up c.terms))
raised_body p G (Big c) = Big (formal p (cells_up c.terms))
raised_body p H (Big c) = Big (formal p (normal cell_cmp (number p) (scale (number p - 1) (cells_up c.terms))))
raised_body p op b = b

-- a value of the kind that an operation has, over a prime
abbrev pub IsBodyOf : Prime → Op → Body → Type 0
IsBodyOf p Basis (Cells ys) = Unit {0}
IsBodyOf p SmallD (Small c) = c.prime ≡ p
IsBodyOf p F (Small c) = c.prime ≡ p
IsBodyOf p G (Big c) = c.prime ≡ p
IsBodyOf p H (Big c) = c.prime ≡ p
IsBodyOf p op b = ⊥
