-- Worked values of the definitions: each face and degeneracy formula of each space at one simplex, by computation.
--
-- The values were found by hand from the formulas of the books named in specs/. They guard the definitions: a formula that is changed
-- is refused here.
use Rattle.std.proofs.Common.{◌≡◌, refl}
use Rattle.std.specs.Prelude.{ℕ, Bool, true, false, List, [], ◌∷◌, Some, None, ℤ, pos, negsuc}
use Rattle.spaces.specs.Simplicial.{is_degenerate}
use Rattle.spaces.specs.Tables.{Table, RowSimplex, row_face, row_degeneracy, sphere_rows}
use Rattle.spaces.specs.Spaces.{Space, table, sphere, product, suspension, kz1, bundle, loops, paths, kzm1, cyclic_bundle, set_of}
use Rattle.spaces.specs.Homology.{boundary_of}
use Rattle.spaces.specs.Orders.{ordered}
use Rattle.std.specs.declared.cmp.Ordering.TheVariants.{Less, Greater}

-- ---- tables and spheres

-- simplices of a sphere: a degeneracy word and the base or the top cell
abbrev base : List ℕ → RowSimplex
base w = (w, 0)

abbrev top : List ℕ → RowSimplex
top w = (w, 1)

-- the projective plane: a vertex v, an edge e from v to v, and a triangle t with the faces e, s_0 v, e
abbrev projective_plane : Table
projective_plane =
    record { name = 118 ∷ []; dim = 0; faces = [] }
    ∷ (record { name = 101 ∷ []; dim = 1; faces = ([], 0) ∷ (([], 0) ∷ []) }
    ∷ (record { name = 116 ∷ []; dim = 2; faces = ([], 1) ∷ ((0 ∷ [], 0) ∷ (([], 1) ∷ [])) } ∷ []))

-- d_1 of the triangle is s_0 v, and d_2 is e
middle_face : row_face projective_plane 1 ([], 2) ≡ (0 ∷ [], 0)
middle_face = refl

last_face : row_face projective_plane 2 ([], 2) ≡ ([], 1)
last_face = refl

-- d_3 s_1 t = s_1 d_2 t = s_1 e, and d_0 s_1 t = s_0 d_0 t = s_0 e
face_above_degeneracy : row_face projective_plane 3 (1 ∷ [], 2) ≡ (1 ∷ [], 1)
face_above_degeneracy = refl

face_below_degeneracy : row_face projective_plane 0 (1 ∷ [], 2) ≡ (0 ∷ [], 1)
face_below_degeneracy = refl

-- d_1 s_1 t = d_2 s_1 t = t
face_at_degeneracy : row_face projective_plane 1 (1 ∷ [], 2) ≡ ([], 2)
face_at_degeneracy = refl

face_after_degeneracy : row_face projective_plane 2 (1 ∷ [], 2) ≡ ([], 2)
face_after_degeneracy = refl

-- s_1 s_1 = s_2 s_1
twice_degenerate : row_degeneracy 1 (top (1 ∷ [])) ≡ top (2 ∷ (1 ∷ []))
twice_degenerate = refl

-- d_1 s_2 s_0 S2 = s_1 d_1 s_0 S2 = s_1 S2
face_of_degenerate : (set_of (sphere 2)).face 1 (top (2 ∷ (0 ∷ []))) ≡ top (1 ∷ [])
face_of_degenerate = refl

face_of_sphere : (set_of (sphere 2)).face 2 (top []) ≡ base (0 ∷ [])
face_of_sphere = refl

-- over F_3 the boundary of the triangle is e - s_0 v + e
boundary_of_triangle : boundary_of (set_of (table projective_plane)) 3 2 ([], 2) ≡ (([], 1), 4) ∷ (((0 ∷ [], 0), 2) ∷ ((([], 1), 1) ∷ []))
boundary_of_triangle = refl

vertex_is_degenerate : is_degenerate (set_of (table projective_plane)) 1 (0 ∷ [], 0) ≡ true
vertex_is_degenerate = refl

edge_is_not : is_degenerate (set_of (table projective_plane)) 1 ([], 1) ≡ false
edge_is_not = refl

-- ---- products

-- d_0 <1:S1, 0:S1> = <0:*, S1>
face_of_pair : (set_of (product (sphere 1) (sphere 1))).face 0 (top (1 ∷ []), top (0 ∷ [])) ≡ (base (0 ∷ []), top [])
face_of_pair = refl

degeneracy_of_pair : (set_of (product (sphere 1) (sphere 1))).degeneracy 0 (top [], top []) ≡ (top (0 ∷ []), top (0 ∷ []))
degeneracy_of_pair = refl

-- ---- K(Z,1): the lists of integers

first_of_list : (set_of kz1).face 0 (pos 2 ∷ (pos 3 ∷ [])) ≡ pos 3 ∷ []
first_of_list = refl

inner_of_list : (set_of kz1).face 1 (pos 2 ∷ (pos 3 ∷ [])) ≡ pos 5 ∷ []
inner_of_list = refl

last_of_list : (set_of kz1).face 2 (pos 2 ∷ (pos 3 ∷ [])) ≡ pos 2 ∷ []
last_of_list = refl

degeneracy_of_list : (set_of kz1).degeneracy 1 (pos 2 ∷ (negsuc 2 ∷ [])) ≡ pos 2 ∷ (pos 0 ∷ (negsuc 2 ∷ []))
degeneracy_of_list = refl

-- modulo 3: |2|2| has the inner face |1|
inner_of_residues : (set_of (kzm1 3)).face 1 (2 ∷ (2 ∷ [])) ≡ 1 ∷ []
inner_of_residues = refl

-- ---- suspensions: (k, x) is s_0 taken k times on ^x

-- d_0 ^S1 is the base, d_2 ^S1 = ^(d_1 S1) is ^ of the vertex, hence the base
first_of_suspended : (set_of (suspension (sphere 1))).face 0 (Some (0, top [])) ≡ None
first_of_suspended = refl

other_of_suspended : (set_of (suspension (sphere 1))).face 2 (Some (0, top [])) ≡ None
other_of_suspended = refl

-- d_2 of ^(1:S1) = ^(d_1 1:S1) = ^S1
inner_of_suspended : (set_of (suspension (sphere 1))).face 2 (Some (0, top (1 ∷ []))) ≡ Some (0, top [])
inner_of_suspended = refl

-- d_1 of s_0 s_0 ^S1 is s_0 ^S1, and d_3 of s_0 ^(1:S1) is s_0 ^(d_1 1:S1) = s_0 ^S1
face_within : (set_of (suspension (sphere 1))).face 1 (Some (2, top [])) ≡ Some (1, top [])
face_within = refl

face_beyond : (set_of (suspension (sphere 1))).face 3 (Some (1, top (1 ∷ []))) ≡ Some (1, top [])
face_beyond = refl

-- s_1 of ^S1 is ^(s_0 S1), and s_1 of s_0 ^S1 is s_0 s_0 ^S1
degeneracy_beyond : (set_of (suspension (sphere 1))).degeneracy 1 (Some (0, top [])) ≡ Some (0, top (0 ∷ []))
degeneracy_beyond = refl

degeneracy_within : (set_of (suspension (sphere 1))).degeneracy 1 (Some (1, top [])) ≡ Some (2, top [])
degeneracy_within = refl

-- ---- circle bundles over the 2-sphere

abbrev hopf : ℤ → Space
hopf k = bundle (sphere_rows 2) (pos 0 ∷ (k ∷ []))

-- the first face is twisted: d_0 <S2, 1-0:|> = <0:*, |5|>; the others are those of the product
first_of_bundle : (set_of (hopf (pos 5))).face 0 (top [], pos 0 ∷ (pos 0 ∷ [])) ≡ (base (0 ∷ []), pos 5 ∷ [])
first_of_bundle = refl

later_of_bundle : (set_of (hopf (pos 5))).face 1 (top [], pos 2 ∷ (pos 3 ∷ [])) ≡ (base (0 ∷ []), pos 5 ∷ [])
later_of_bundle = refl

last_of_bundle : (set_of (hopf (pos 5))).face 2 (top [], pos 2 ∷ (pos 3 ∷ [])) ≡ (base (0 ∷ []), pos 2 ∷ [])
last_of_bundle = refl

-- 1:S2 has the vertices 0, 1, 1, 2 of S2, so its t is the list of c(0,1,2) = 0 and c(0,1,3) - c(0,1,2) = 5
twist_of_degenerate : (set_of (hopf (pos 5))).face 0 (top (1 ∷ []), pos 0 ∷ (pos 0 ∷ (pos 0 ∷ []))) ≡ (base (1 ∷ (0 ∷ [])), pos 0 ∷ (pos 5 ∷ []))
twist_of_degenerate = refl

degeneracy_of_bundle : (set_of (hopf (pos 5))).degeneracy 1 (top [], pos 2 ∷ (pos 3 ∷ [])) ≡ (top (1 ∷ []), pos 2 ∷ (pos 0 ∷ (pos 3 ∷ [])))
degeneracy_of_bundle = refl

-- modulo 3 the value 5 is not met: the value 2 is
first_of_cyclic : (set_of (cyclic_bundle (sphere_rows 2) 3 (0 ∷ (2 ∷ [])))).face 0 (top [], 0 ∷ (2 ∷ [])) ≡ (base (0 ∷ []), 1 ∷ [])
first_of_cyclic = refl

-- ---- loop groups: words of letters, (true, x) being the inverse of x

abbrev letter : List ℕ → Bool × RowSimplex
letter w = (false, top w)

abbrev inverse : List ℕ → Bool × RowSimplex
inverse w = (true, top w)

-- d_1 [2:S2 1:S2] = [S2 S2], d_2 of it is the word of d_3 2:S2 = s_1 d_2 .. = 1-0:* and d_3 1:S2, hence empty
inner_of_word : (set_of (loops (sphere 2))).face 1 (letter (2 ∷ []) ∷ (letter (1 ∷ []) ∷ [])) ≡ letter [] ∷ (letter [] ∷ [])
inner_of_word = refl

last_of_word : (set_of (loops (sphere 2))).face 2 (letter (2 ∷ []) ∷ (letter (1 ∷ []) ∷ [])) ≡ letter [] ∷ []
last_of_word = refl

-- d_0 of the letter 2:S2 is the inverse of d_0 and then d_1; both are degeneracies of the vertex
first_of_word : (set_of (loops (sphere 2))).face 0 (letter (2 ∷ []) ∷ (letter (1 ∷ []) ∷ [])) ≡ letter [] ∷ []
first_of_word = refl

first_of_inverse : (set_of (loops (sphere 2))).face 0 (inverse (1 ∷ []) ∷ (letter (2 ∷ []) ∷ [])) ≡ inverse [] ∷ []
first_of_inverse = refl

degeneracy_of_word : (set_of (loops (sphere 2))).degeneracy 0 (letter [] ∷ (inverse [] ∷ [])) ≡ letter (1 ∷ []) ∷ (inverse (1 ∷ []) ∷ [])
degeneracy_of_word = refl

-- ---- path spaces

-- d_0 <S2, []> = <0:*, [S2]>: the letter of the base is put into the fibre
first_of_path : (set_of (paths (sphere 2))).face 0 (top [], []) ≡ (base (0 ∷ []), letter [] ∷ [])
first_of_path = refl

-- d_1 <0:S2, [3-2:S2]> = <S2, [d_2 3-2:S2]> = <S2, [2:S2]>
later_of_path : (set_of (paths (sphere 2))).face 1 (top (0 ∷ []), letter (3 ∷ (2 ∷ [])) ∷ []) ≡ (top [], letter (2 ∷ []) ∷ [])
later_of_path = refl

-- ---- nested spaces

-- in the loop group of the loop group of the 3-sphere: d_1 of the letter [S3] of degree 1 is empty
word_of_words : (set_of (loops (loops (sphere 3)))).face 1 ((false, letter [] ∷ []) ∷ []) ≡ []
word_of_words = refl

-- ---- orders

-- <S1, 0:*> has the masks 0 and 1, and <0:*, S1> the masks 1 and 0
order_of_pairs : (ordered (product (sphere 1) (sphere 1))).cmp 1 (top [], base (0 ∷ [])) (base (0 ∷ []), top []) ≡ Less
order_of_pairs = refl

order_of_lists : (ordered kz1).cmp 2 (pos 2 ∷ (pos 3 ∷ [])) (pos 2 ∷ (negsuc 0 ∷ [])) ≡ Greater
order_of_lists = refl

order_of_letters : (ordered (loops (sphere 2))).cmp 1 (letter [] ∷ []) (inverse [] ∷ []) ≡ Less
order_of_letters = refl
