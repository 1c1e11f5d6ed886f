-- Worked values of the definitions, by computation.
use Rattle.std.proofs.Common.{◌≡◌, refl}
use Rattle.std.specs.Prelude.{ℕ, Bool, true, false, List, [], ◌∷◌, Some, None, pos, negsuc, length}
use Rattle.echelons.specs.Echelon.{reduced_basis, complement, in_span, in_kernel}
use Rattle.spaces.specs.Tables.{Table, sphere_rows, row_face, row_degeneracy}
use Rattle.spaces.specs.Spaces.{Space, table, sphere, product, suspension, kz1, bundle, loops, paths, kzm1, set_of}
use Rattle.spaces.specs.Orders.{ordered, by_degree}
use Rattle.fp_field.specs.Normal.{normal}
use Rattle.values.specs.Laws.{cell_d}
use Rattle.simp_ops.specs.PathWords.{both, left, right, event, source, matched, pairs}
use Rattle.spaces.specs.EilenbergZilber.{linear, aw, eml, flow}
use Rattle.values.specs.Asks.{basis, small_d, f, g, h, cycles}
use Rattle.values.specs.Values.{value, needs}
use Rattle.values.specs.Outcomes.{Limits, is_over, of_terms, of_integer, outcome}

-- ---- faces

abbrev circle : Space
circle = sphere 1

abbrev two_sphere : Space
two_sphere = sphere 2

-- simplices of a sphere: the base and the top cell, with a degeneracy word
abbrev base : List ℕ → List ℕ × ℕ
base w = (w, 0)

abbrev top : List ℕ → List ℕ × ℕ
top w = (w, 1)

-- s_1 s_1 = s_2 s_1, and d_1 of s_2 s_0 S2 is s_1 S2
twice_degenerate : row_degeneracy 1 (top (1 ∷ [])) ≡ top (2 ∷ (1 ∷ []))
twice_degenerate = refl

face_of_degenerate : row_face (sphere_rows 2) 1 (top (2 ∷ (0 ∷ []))) ≡ top (1 ∷ [])
face_of_degenerate = refl

face_of_sphere : (set_of two_sphere).face 2 (top []) ≡ base (0 ∷ [])
face_of_sphere = refl

-- in the bundle of value 5 over the 2-sphere the first face of S2 with 1-0:| is 0:* with |5|
face_of_bundle : (set_of (bundle (sphere_rows 2) (pos 0 ∷ (pos 5 ∷ [])))).face 0 (top [], pos 0 ∷ (pos 0 ∷ [])) ≡ (base (0 ∷ []), pos 5 ∷ [])
face_of_bundle = refl

-- d_1 of [2:S2 1:S2] is [S2 S2]; d_0 of [S2 S2] of degree 1 is the empty word
abbrev letter : List ℕ → Bool × (List ℕ × ℕ)
letter w = (false, top w)

face_of_word : (set_of (loops two_sphere)).face 1 (letter (2 ∷ []) ∷ (letter (1 ∷ []) ∷ [])) ≡ letter [] ∷ (letter [] ∷ [])
face_of_word = refl

first_face_of_word : (set_of (loops two_sphere)).face 0 (letter [] ∷ (letter [] ∷ [])) ≡ []
first_face_of_word = refl

-- in the path space the first face of <S2, 0:[]> is <0:*, [S2] without its first vertex>, the letter S2 being moved into the fibre
face_of_path : (set_of (paths two_sphere)).face 0 (top [], []) ≡ (base (0 ∷ []), letter [] ∷ [])
face_of_path = refl

-- suspension of the circle: d_2 of ^S1 is the base, and d_0 of s_0 ^S1 is ^S1
face_of_suspension : (set_of (suspension (sphere 1))).face 2 (Some (0, top [])) ≡ None
face_of_suspension = refl

face_of_suspended : (set_of (suspension (sphere 1))).face 0 (Some (1, top [])) ≡ Some (0, top [])
face_of_suspended = refl

-- ---- path words and Eilenberg-Zilber maps

word_source : event (left ∷ (both ∷ (right ∷ []))) ≡ source 1
word_source = refl

word_match : matched (left ∷ (both ∷ (right ∷ []))) ≡ left ∷ (right ∷ (left ∷ (right ∷ [])))
word_match = refl

word_pairs : pairs (right ∷ (right ∷ (left ∷ []))) ≡ 2
word_pairs = refl

aw_of_torus : aw 3 (linear (ordered (sphere 1))) (ordered (sphere 1)) (1, top [], top [])
    ≡ ((1, top [], 0, base []), 1) ∷ (((0, base [], 1, top []), 1) ∷ [])
aw_of_torus = refl

-- over 3 the flow of <S1,S1> is 2 <0:S1,1:S1>
flow_of_torus : flow 3 (linear (ordered (sphere 1))) (ordered (sphere 1)) (1, top [], top [])
    ≡ ((2, top (0 ∷ []), top (1 ∷ [])), 2) ∷ []
flow_of_torus = refl

-- over 3 EML of S1 (x) S1 is <1:S1,0:S1> + 2 <0:S1,1:S1>
eml_of_torus : eml 3 (linear (ordered (sphere 1))) (ordered (sphere 1)) (1, top [], 1, top [])
    ≡ ((2, top (1 ∷ []), top (0 ∷ [])), 1) ∷ (((2, top (0 ∷ []), top (1 ∷ [])), 2) ∷ [])
eml_of_torus = refl

-- ---- linear algebra

echelon_row : reduced_basis 3 2 (in_span 3 2 ((2 ∷ (1 ∷ [])) ∷ ((1 ∷ (2 ∷ [])) ∷ []))) ≡ (1 ∷ (2 ∷ [])) ∷ []
echelon_row = refl

complement_row : complement 3 2 (λ v. true) (in_span 3 2 ((1 ∷ (2 ∷ [])) ∷ [])) ≡ (0 ∷ (1 ∷ [])) ∷ []
complement_row = refl

kernel_row : reduced_basis 3 2 (in_kernel 3 1 ((1 ∷ []) ∷ ((1 ∷ []) ∷ []))) ≡ (1 ∷ (2 ∷ [])) ∷ []
kernel_row = refl

-- ---- values

torus_basis : value 3 (basis (product (sphere 1) (sphere 1)) 1) ≡ (0, 1) ∷ ((1, 0) ∷ [])
torus_basis = refl

loop_basis : value 3 (basis (loops (sphere 2)) 3) ≡ (1 ∷ (1 ∷ (1 ∷ []))) ∷ []
loop_basis = refl

integers_value : value 7 (f kz1 1 (pos 5 ∷ [])) ≡ ((pos 1 ∷ []), 5) ∷ []
integers_value = refl

torus_f : value 3 (f (product (sphere 1) (sphere 1)) 1 (top [], top [])) ≡ ((0, 1), 1) ∷ (((1, 0), 1) ∷ [])
torus_f = refl

torus_g : value 3 (g (product (sphere 1) (sphere 1)) (1, 1))
    ≡ ((2, (top (0 ∷ []), top (1 ∷ []))), 2) ∷ (((2, (top (1 ∷ []), top (0 ∷ []))), 1) ∷ [])
torus_g = refl

-- loop group of the 2-sphere over F_3: F of [S2 S2] is 2 [S2], G of the word [S2|S2], and SmallD is 0
loop_f : value 3 (f (loops (sphere 2)) 1 (letter [] ∷ (letter [] ∷ []))) ≡ ((1 ∷ []), 2) ∷ []
loop_f = refl

loop_d : value 3 (small_d (loops (sphere 2)) (1 ∷ (1 ∷ []))) ≡ []
loop_d = refl

-- the homology of degree 2 is listed by 2 [1:S2 2:S2] + [2:S2 1:S2]
loop_cycles : value 3 (cycles (loops (sphere 2)) 2)
    ≡ (((2, letter (1 ∷ []) ∷ (letter (2 ∷ []) ∷ [])), 2) ∷ (((2, letter (2 ∷ []) ∷ (letter (1 ∷ []) ∷ [])), 1) ∷ [])) ∷ []
loop_cycles = refl

torus_cycles : value 3 (cycles (product (sphere 1) (sphere 1)) 1)
    ≡ (((1, (base (0 ∷ []), top [])), 1) ∷ []) ∷ ((((1, (top [], base (0 ∷ []))), 1) ∷ []) ∷ [])
torus_cycles = refl

-- bundle of value 2 over the 2-sphere, over F_2: the cycle of degree 2 is <S2,1-0:|> + <1-0:*,|1|1|>
abbrev twice_hopf : Space
twice_hopf = bundle (sphere_rows 2) (pos 0 ∷ (pos 2 ∷ []))

bundle_d : value 2 (small_d twice_hopf (1, [])) ≡ []
bundle_d = refl

bundle_g : value 2 (g twice_hopf (1, []))
    ≡ ((2, (top [], pos 0 ∷ (pos 0 ∷ []))), 1) ∷ (((2, (base (1 ∷ (0 ∷ [])), pos 1 ∷ (pos 1 ∷ []))), 1) ∷ [])
bundle_g = refl

bundle_f : value 2 (f twice_hopf 1 (base (0 ∷ []), pos 2 ∷ [])) ≡ []
bundle_f = refl

bundle_h : value 2 (h twice_hopf 1 (base (0 ∷ []), pos 2 ∷ [])) ≡ ((2, (base (1 ∷ (0 ∷ [])), pos 1 ∷ (pos 1 ∷ []))), 1) ∷ []
bundle_h = refl

-- the Hopf bundle: over F_3 the small differential of S2, | is 2 *, |1| up to sign
hopf_d : value 3 (small_d (bundle (sphere_rows 2) (pos 0 ∷ (pos 1 ∷ []))) (1, [])) ≡ ((0, pos 1 ∷ []), 1) ∷ []
hopf_d = refl

-- ---- more values of the worked rows

-- over F_3 the real projective plane has the class of its vertex alone
abbrev plane : Table
plane =
    record { name = []; dim = 0; faces = [] }
    ∷ (record { name = []; dim = 1; faces = ([], 0) ∷ (([], 0) ∷ []) }
    ∷ (record { name = []; dim = 2; faces = ([], 1) ∷ ((0 ∷ [], 0) ∷ (([], 1) ∷ [])) } ∷ []))

plane_cycles : value 3 (cycles (table plane) 1) ≡ []
plane_cycles = refl

plane_cycles_mod_2 : value 2 (cycles (table plane) 1) ≡ (((1, ([], 1)), 1) ∷ []) ∷ []
plane_cycles_mod_2 = refl

-- H of 5 over F_7 is minus |1|1|, |1|2|, |1|3|, |1|4|
integers_h_of_5 : value 7 (h kz1 1 (pos 5 ∷ []))
    ≡ ((2, pos 1 ∷ (pos 1 ∷ [])), 6) ∷ (((2, pos 1 ∷ (pos 2 ∷ [])), 6) ∷ (((2, pos 1 ∷ (pos 3 ∷ [])), 6) ∷ (((2, pos 1 ∷ (pos 4 ∷ [])), 6) ∷ [])))
integers_h_of_5 = refl

-- the path space of the 2-sphere has no homology in degree 1 or 2 over F_3
path_cycles_1 : value 3 (cycles (paths (sphere 2)) 1) ≡ []
path_cycles_1 = refl

path_cycles_2 : value 3 (cycles (paths (sphere 2)) 2) ≡ []
path_cycles_2 = refl

-- K(Z/3,1) over F_5: G of |1|2| is |1|1| + |1|2|, SmallD is 3 |1|, and H of |2| is 4 |1|1|
cyclic_g_row : value 5 (g (kzm1 3) (1 ∷ (2 ∷ []))) ≡ ((2, 1 ∷ (1 ∷ [])), 1) ∷ (((2, 1 ∷ (2 ∷ [])), 1) ∷ [])
cyclic_g_row = refl

cyclic_d_row : value 5 (small_d (kzm1 3) (1 ∷ (2 ∷ []))) ≡ ((1 ∷ []), 3) ∷ []
cyclic_d_row = refl

cyclic_h_row : value 5 (h (kzm1 3) 1 (2 ∷ [])) ≡ ((2, 1 ∷ (1 ∷ [])), 4) ∷ []
cyclic_h_row = refl

-- the suspension of the circle has the class of its 2-cell
suspension_cycles : value 3 (cycles (suspension (sphere 1)) 2) ≡ (((2, Some (0, top [])), 1) ∷ []) ∷ []
suspension_cycles = refl

-- a second loop space: a word of one letter, which is a word
second_loops : value 2 (cycles (loops (loops (sphere 3))) 1) ≡ (((1, (false, (false, top []) ∷ []) ∷ []), 1) ∷ []) ∷ []
second_loops = refl

second_loops_2 : length (value 2 (cycles (loops (loops (sphere 3))) 2)) ≡ 1
second_loops_2 = refl

second_loops_2_mod_3 : length (value 3 (cycles (loops (loops (sphere 3))) 2)) ≡ 0
second_loops_2_mod_3 = refl

-- the loop group of the suspended projective plane has Betti numbers 1 1 2 over F_2
suspended_plane_loops : length (value 2 (cycles (loops (suspension (table plane))) 2)) ≡ 2
suspended_plane_loops = refl

-- ---- needs and outcomes

-- a product has no twist, yet the second series asks before it is seen to end
torus_f_needs : needs 3 (f (product (sphere 1) (sphere 1)) 1 (top [], base (0 ∷ [])))
    ≡ h circle 1 (top []) ∷ (f circle 1 (top []) ∷ (g circle 1 ∷ (h circle 0 (base []) ∷ (f circle 1 (top []) ∷ (f circle 0 (base []) ∷ [])))))
torus_f_needs = refl

-- H of 5 has four terms: over a limit of three
abbrev few : Limits
few = record { letters = 2; integer = 10; terms = 3 }

over_terms : outcome few 7 (h kz1 1 (pos 5 ∷ [])) ≡ is_over (record { question = h kz1 1 (pos 5 ∷ []); kind = of_terms; size = 4 })
over_terms = refl

over_integer : outcome few 7 (h kz1 1 (negsuc 10 ∷ [])) ≡ is_over (record { question = h kz1 1 (negsuc 10 ∷ []); kind = of_integer; size = 11 })
over_integer = refl

-- the limit is met on the way: H of 5 is asked for by F of a pair of K(Z,1) and a circle
over_on_the_way : outcome few 7 (f (product kz1 (sphere 1)) 1 (pos 5 ∷ [], base (0 ∷ [])))
    ≡ is_over (record { question = h kz1 1 (pos 5 ∷ []); kind = of_terms; size = 4 })
over_on_the_way = refl

-- the boundary of [2:S2 1:S2] over F_3 is 2 [S2] + 2 [S2 S2]
loop_boundary : normal (by_degree (ordered (loops (sphere 2))).cmp) 3 (cell_d 3 (loops (sphere 2)) (2, letter (2 ∷ []) ∷ (letter (1 ∷ []) ∷ [])))
    ≡ ((1, letter [] ∷ []), 2) ∷ (((1, letter [] ∷ (letter [] ∷ [])), 2) ∷ [])
loop_boundary = refl

-- the homology of degree 2 of the bundle of value 2 over F_2
bundle_cycles : value 2 (cycles twice_hopf 2)
    ≡ (((2, (top [], pos 0 ∷ (pos 0 ∷ []))), 1) ∷ (((2, (base (1 ∷ (0 ∷ [])), pos 1 ∷ (pos 1 ∷ []))), 1) ∷ [])) ∷ []
bundle_cycles = refl

-- over F_3 it has none
bundle_cycles_mod_3 : value 3 (cycles twice_hopf 2) ≡ []
bundle_cycles_mod_3 = refl
