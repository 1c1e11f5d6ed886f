-- The values that pairs give to the cells of a bundle's base, and the first fault of pairs (integer cocycles of degree 2 on a finite base:
-- May, Simplicial Objects in Algebraic Topology, chapter IV, 18 and 21; Kenzo documentation, 1999, on fibrations).
--
-- Each pair names a cell of dimension 2 of the base that no earlier pair names, with a value of at most 100,000 in magnitude. A cell that is
-- not named has the value 0, and so has each row of another dimension.
--
--   over the rows (v), (t 0:v 0:v 0:v), (w t 1-0:v 1-0:v 1-0:v) the pair (t 1) gives the values 0, 1, 0; the pairs (t 1) (w 1) have the
--   fault CocycleUnknown 2, since w has dimension 3, and the pairs (t 1) (t 2) have CocycleRepeated 2
use Rattle.std.specs.Prelude.{ℕ, zero, suc, Bool, not, ◌&&◌, ◌==◌, nat_lt, nat_eq, nat_abs, cond, List, [], ◌∷◌, ◌++◌, map, length, take, codes, Option, Some, None, ℤ, pos}
use Rattle.std.specs.Fmt.{decimal}
use Rattle.std.specs.List.{list_any}
use Rattle.std.specs.Option.{option_or}
use Rattle.std.specs.Cmp.Lexicographic.{pointwise}
use Rattle.spaces.specs.Spaces.{Space, table, sphere, product, suspension, kz1, bundle, loops, paths, kzm1, cyclic_bundle}
use Rattle.spaces.specs.Tables.{Table, Row, entry}
use Rattle.finite_sets.specs.Spheres.{sphere_faces}
use Rattle.oracle_iface.specs.declared.bodies.Kind.TheVariants.{Integer}
use Rattle.script_lang.specs.declared.exprs.PairText.{PairText}
use Rattle.reply_text.specs.declared.refusals.Refusal.{Refusal}
use Rattle.reply_text.specs.declared.refusals.Refusal.TheVariants.{CocycleUnknown, CocycleRepeated, Over}

-- ---- the base

-- the table of a sphere: the rows `*` and `Sn`
abbrev pub named_sphere : ℕ → Table
named_sphere n = record { name = codes "*"; dim = 0; faces = [] } ∷ (record { name = codes "S" ++ decimal n; dim = n; faces = sphere_faces n } ∷ [])

-- the rows of a space that may be a base: a table, or a sphere by its table
abbrev pub base_rows : Space → Option Table
base_rows (table t) = Some t
base_rows (sphere n) = Some (named_sphere n)
base_rows (product a b) = None
base_rows (suspension a) = None
base_rows kz1 = None
base_rows (bundle t c) = None
base_rows (loops a) = None
base_rows (paths a) = None
base_rows (kzm1 m) = None
base_rows (cyclic_bundle t m c) = None

-- ---- values

-- the row is a cell of dimension 2 with this name
abbrev pub is_cell : List ℕ → Row → Bool
is_cell name row = (row.dim == 2) && pointwise nat_eq row.name name

-- the pair names this cell
abbrev pub is_for : List ℕ → PairText → Bool
is_for name pair = pointwise nat_eq pair.cell name

-- the value of the pair that names this cell, 0 where none does
abbrev pub value_of : List PairText → List ℕ → ℤ
value_of [] name = pos 0
value_of (pair ∷ pairs) name = cond (is_for name pair) pair.value (value_of pairs name)

-- the value on a row
abbrev pub row_value : List PairText → Row → ℤ
row_value pairs row = cond (row.dim == 2) (value_of pairs row.name) (pos 0)

abbrev pub values_on : List PairText → Table → List ℤ
values_on pairs t = map (row_value pairs) t

-- ---- faults

abbrev pub Fault : Type 0
Fault = Option Refusal

-- the fault where a test holds
abbrev pub fault_if : Bool → Refusal → Fault
fault_if b r = cond b (Some r) None

-- the first of f 0, .., f (n - 1)
abbrev pub first_fault : (ℕ → Fault) → ℕ → Fault
first_fault f zero = None
first_fault f (suc n) = option_or (first_fault f n) (f n)

-- the pair at a place
abbrev pub pair_at : List PairText → ℕ → PairText
pair_at pairs k = entry (record { cell = []; value = pos 0 }) pairs k

module _ (t : Table) (pairs : List PairText) where
  -- the fault of the pair at a place from 0, which counts from 1 in the refusal
  unfoldable pub pair_fault : ℕ → Fault
  pair_fault k =
      let pair = pair_at pairs k in
      option_or (fault_if (not (list_any (is_cell pair.cell) t)) (CocycleUnknown (suc k)))
      (option_or (fault_if (list_any (is_for pair.cell) (take k pairs)) (CocycleRepeated (suc k)))
      (fault_if (nat_lt 100000 (nat_abs pair.value)) (Over None Integer (nat_abs pair.value))))

  -- the fault of the first pair that has one
  abbrev pub pairs_fault : Fault
  pairs_fault = first_fault pair_fault (length pairs)
