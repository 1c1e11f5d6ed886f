-- Worked values of the closed forms, by computation.
use Rattle.std.proofs.Common.{◌≡◌, ◌<◌, ◌≤◌, arith, refl, inr, [], ◌∷◌}
use Rattle.std.specs.Prelude.{Some, pos}
use Rattle.spaces.specs.Spaces.{sphere, product, suspension, kz1, loops, kzm1}
use Rattle.values.specs.Asks.{basis, small_d, g, cycles}
use Rattle.values.specs.Values.{value, needs}
use Rattle.values.specs.BaseLaws.{IsSmall, carried_cycles, needs_of_cycles}

-- [S2|S2] is a small cell of the loop group of the 2-sphere, [*] is none
two_letters : IsSmall (loops (sphere 2)) (1 ∷ (1 ∷ []))
two_letters = (omega arith, omega arith, (omega arith, omega arith, tt))

no_vertex : IsSmall (loops (sphere 2)) (0 ∷ []) → ⊥
no_vertex s = let l : 2 ≤ 0 = s.1 in omega arith

-- the base of a part is no small cell of its suspension
no_base : IsSmall (suspension (sphere 1)) (Some 0) → ⊥
no_base s = let l : 0 < 0 = s.1 in omega arith

circle_and_one : IsSmall (product (sphere 1) kz1) (1, pos 1 ∷ [])
circle_and_one = (omega arith, inr refl)

-- K(Z/3,1) has the small cell |1|2|1| of degree 3
critical : IsSmall (kzm1 3) (1 ∷ (2 ∷ (1 ∷ [])))
critical = refl

-- the cycles of degree 2 of the 2-sphere need its small cells of degrees 2 and 3, the small differential of its cell, and G of it
sphere_needs : needs 3 (cycles (sphere 2) 2) ≡ basis (sphere 2) 2 ∷ (small_d (sphere 2) 1 ∷ (basis (sphere 2) 3 ∷ (g (sphere 2) 1 ∷ [])))
sphere_needs = refl

sphere_needs_in_order : needs_of_cycles 3 (sphere 2) 2 ≡ basis (sphere 2) 2 ∷ (small_d (sphere 2) 1 ∷ (basis (sphere 2) 3 ∷ (g (sphere 2) 1 ∷ [])))
sphere_needs_in_order = refl

-- the one cycle is the cell
sphere_cycle : carried_cycles 3 (sphere 2) 2 ≡ (((2, ([], 1)), 1) ∷ []) ∷ []
sphere_cycle = refl

torus_vertex : value 3 (basis (product (sphere 1) (sphere 1)) 0) ≡ (0, 0) ∷ []
torus_vertex = refl
