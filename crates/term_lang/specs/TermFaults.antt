-- Why a term names no space: the first fault, where parts come before the whole and from left to right (what the constructions ask of
-- their parts: Kenzo documentation, 1999, on suspensions, loop spaces and fibrations; May, Simplicial Objects in Algebraic Topology,
-- chapters IV and VI).
--
-- At one node the dimension of a sphere is looked at first, or the values of a bundle; then the depth; then whether the part of a
-- suspension, a loop group or a path space has one vertex; then whether that of a loop group or a path space has no edge.
--
--   the loop group of the product of K(Z,1) and a sphere of dimension 17 has the fault BadSphere 17, of its part; with the sphere of
--   dimension 3 in its place it has NotOneReduced 1
use Rattle.std.specs.Prelude.{ℕ, zero, suc, Bool, not, ◌&&◌, ◌||◌, ◌==◌, nat_lt, nat_le, nat_abs, min, cond, List, [], length, Option, Some, None, ℤ, pos, ◌+ℤ◌, neg_ℤ}
use Rattle.std.specs.Ordering.{int_eq}
use Rattle.std.specs.Option.{option_map, option_or}
use Rattle.spaces.specs.Tables.{Table, entry, row_at, row_face}
use Rattle.spaces.specs.Nerves.{integers}
use Rattle.spaces.specs.Cocycles.{cocycle}
use Rattle.spaces.specs.Spaces.{Space, table, sphere, product, suspension, kz1, bundle, loops, paths, kzm1, cyclic_bundle}
use Rattle.spaces.specs.Allowed.{space_depth}
use Rattle.spaces.specs.Counts.{vertex_count, low_of}
use Rattle.term_lang.specs.declared.faults.TermFault.{TermFault}
use Rattle.term_lang.specs.declared.faults.TermFault.TheVariants.{TooDeep, NotOneVertex, NotOneReduced, BadSphere, BadCocycle}

abbrev pub Fault : Type 0
Fault = Option TermFault

-- the fault where a test holds
abbrev pub fault_if : Bool → TermFault → Fault
fault_if b f = cond b (Some f) None

-- n is 0 or above 16
unfoldable pub sphere_fault : ℕ → Fault
sphere_fault n = fault_if ((n == 0) || nat_lt 16 n) (BadSphere n)

-- ---- bundles

module _ (t : Table) (c : List ℤ) where
  -- c of the face d_i of a row
  abbrev pub on_face : ℕ → ℕ → ℤ
  on_face r i = cocycle integers t c (row_face t i ([], r))

  -- c(d_0) - c(d_1) + c(d_2) - c(d_3)
  abbrev pub face_sum : ℕ → ℤ
  face_sum r = (on_face r 0 +ℤ neg_ℤ (on_face r 1)) +ℤ (on_face r 2 +ℤ neg_ℤ (on_face r 3))

  -- the row has no value, or one other than 0 though its dimension is not 2, or one above 100,000 in magnitude, or the sum on its faces is not 0
  unfoldable pub is_bad_row : ℕ → Bool
  is_bad_row r =
      let d = (row_at t r).dim in
      let v = entry (pos 0) c r in
      nat_le (length c) r || ((not (d == 2) && not (int_eq v (pos 0))) || (nat_lt 100000 (nat_abs v) || ((d == 3) && not (int_eq (face_sum r) (pos 0)))))

-- the first place below n at which a test holds
unfoldable pub first_place : (ℕ → Bool) → ℕ → Option ℕ
first_place p zero = None
first_place p (suc n) = option_or (first_place p n) (cond (p n) (Some n) None)

-- the first bad row, or the number of rows where there are more values
unfoldable pub cocycle_fault : Table → List ℤ → Fault
cocycle_fault t c = option_or (option_map BadCocycle (first_place (is_bad_row t c) (length t))) (fault_if (nat_lt (length t) (length c)) (BadCocycle (length t)))

-- ---- any node

unfoldable pub depth_fault : Space → Fault
depth_fault a = fault_if (nat_lt 8 (space_depth a)) (TooDeep (space_depth a))

-- the part has not one vertex; the number stops at 65,536
unfoldable pub vertex_fault : Space → Fault
vertex_fault part = fault_if (not (vertex_count part == 1)) (NotOneVertex (min (vertex_count part) 65536))

-- the part has an edge that is not degenerate
abbrev pub low_fault : Option ℕ → Fault
low_fault None = None
low_fault (Some n) = fault_if (n == 1) (NotOneReduced n)

unfoldable pub edge_fault : Space → Fault
edge_fault part = low_fault (low_of part)

-- K(Z/m,1) and the bundles over it are the space of no term
unfoldable pub own_fault : Space → Fault
own_fault (table t) = None
own_fault (sphere m) = sphere_fault m
own_fault (product a b) = depth_fault (product a b)
own_fault (suspension a) = option_or (depth_fault (suspension a)) (vertex_fault a)
own_fault kz1 = None
own_fault (bundle t c) = cocycle_fault t c
own_fault (loops a) = option_or (depth_fault (loops a)) (option_or (vertex_fault a) (edge_fault a))
own_fault (paths a) = option_or (depth_fault (paths a)) (option_or (vertex_fault a) (edge_fault a))
own_fault (kzm1 m) = None
own_fault (cyclic_bundle t m c) = None

unfoldable pub fault_of : Space → Fault
fault_of (table t) = own_fault (table t)
fault_of (sphere m) = own_fault (sphere m)
fault_of (product a b) = option_or (fault_of a) (option_or (fault_of b) (own_fault (product a b)))
fault_of (suspension a) = option_or (fault_of a) (own_fault (suspension a))
fault_of kz1 = own_fault kz1
fault_of (bundle t c) = own_fault (bundle t c)
fault_of (loops a) = option_or (fault_of a) (own_fault (loops a))
fault_of (paths a) = option_or (fault_of a) (own_fault (paths a))
fault_of (kzm1 m) = own_fault (kzm1 m)
fault_of (cyclic_bundle t m c) = own_fault (cyclic_bundle t m c)
