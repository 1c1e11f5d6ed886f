-- Worked values of the tensor complex, and of the dimension of left parts, by computation. The values were found by hand.
use Rattle.std.proofs.Common.{◌≡◌, refl}
use Rattle.std.specs.Prelude.{ℕ, [], ◌∷◌}
use Rattle.fp_field.specs.Chains.{Terms}
use Rattle.spaces.specs.Tables.{RowSimplex}
use Rattle.spaces.specs.Spaces.{Space, table}
use Rattle.spaces.specs.Orders.{ordered}
use Rattle.spaces.specs.EilenbergZilber.{Tensor, linear}
use Rattle.spaces.specs.Spaces.{set_of}
use Rattle.ez_laws.specs.Complexes.{tensor_d}
use Rattle.ez_laws.specs.FlowEquations.{left_dim}

-- the projective plane: a vertex v, an edge e from v to v, and a triangle t with the faces e, s_0 v, e
abbrev plane : Space
plane = table
    (record { name = 118 ∷ []; dim = 0; faces = [] }
    ∷ (record { name = 101 ∷ []; dim = 1; faces = ([], 0) ∷ (([], 0) ∷ []) }
    ∷ (record { name = 116 ∷ []; dim = 2; faces = ([], 1) ∷ ((0 ∷ [], 0) ∷ (([], 1) ∷ [])) } ∷ [])))

abbrev cell : ℕ → RowSimplex
cell r = ([], r)

abbrev d : Tensor RowSimplex RowSimplex → Terms (Tensor RowSimplex RowSimplex)
d z = tensor_d 3 (linear (ordered plane)) (set_of plane).In (ordered plane) z

-- over F_3 the boundary of t is e + e, with the faces from the last one down, and that of e is v - v
triangle_and_vertex : d (2, cell 2, 0, cell 0) ≡ ((1, cell 1, 0, cell 0), 4) ∷ (((1, cell 1, 0, cell 0), 1) ∷ [])
triangle_and_vertex = refl

-- d(e (x) t) = d e (x) t - e (x) d t, where minus one is 2
edge_and_triangle : d (1, cell 1, 2, cell 2)
    ≡ ((0, cell 0, 2, cell 2), 2) ∷ (((0, cell 0, 2, cell 2), 1) ∷ (((1, cell 1, 1, cell 1), 8) ∷ (((1, cell 1, 1, cell 1), 2) ∷ [])))
edge_and_triangle = refl

-- <s_1 e, t> has a left cell of dimension 1
dimension_of_left : left_dim 3 (linear (ordered plane)) (set_of plane).In (ordered plane) (2, (1 ∷ [], 1), cell 2) ≡ 1
dimension_of_left = refl
