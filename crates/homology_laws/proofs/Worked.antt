-- Values of the definitions, small enough to compute.
use Rattle.std.proofs.Common.{◌≡◌, ℕ, zero, suc, true, false, [], ◌∷◌, refl, sym, arith, true≢false}
use Rattle.std.specs.Prelude.{nat_eq}
use Rattle.spaces.specs.Tables.{Table}
use Rattle.spaces.specs.Spaces.{table, suspension, kz1}
use Rattle.values.specs.Laws.{smalls}
use Rattle.homology_laws.specs.Lists.{chain_on, numbers_at, is_boundary, rank, d_vectors, d_rank}
use Rattle.homology_laws.specs.Pivots.{IsThrifty}
use Rattle.homology_laws.specs.Kernel.{filling}
use Rattle.homology_laws.specs.Suspended.{innermost}

-- the chain 2 x + y
chain_of_vector : chain_on {K = ℕ} (0 ∷ (1 ∷ [])) (2 ∷ (1 ∷ [])) ≡ (0, 2) ∷ ((1, 1) ∷ [])
chain_of_vector = refl

-- x + y + x
vector_of_chain : numbers_at {K = ℕ} 3 nat_eq (0 ∷ (1 ∷ [])) ((0, 1) ∷ ((1, 1) ∷ ((0, 1) ∷ []))) ≡ 2 ∷ (1 ∷ [])
vector_of_chain = refl

-- 2 x + 2 x over F_3
vector_is_reduced : numbers_at {K = ℕ} 3 nat_eq (0 ∷ []) ((0, 2) ∷ ((0, 2) ∷ [])) ≡ 1 ∷ []
vector_is_reduced = refl

-- of (1,0), (2,0), (0,1) the second is a combination of the first, and the third is none of the others
thrifty_sum : IsThrifty 3 2 ((1 ∷ (0 ∷ [])) ∷ ((2 ∷ (0 ∷ [])) ∷ ((0 ∷ (1 ∷ [])) ∷ []))) (2 ∷ (0 ∷ (1 ∷ [])))
thrifty_sum zero l e = absurd (true≢false (sym e))
thrifty_sum (suc zero) l e = refl
thrifty_sum (suc (suc zero)) l e = absurd (true≢false (sym e))
thrifty_sum (suc (suc (suc i))) l e = absurd (omega arith)

rank_of_three : rank 3 2 ((1 ∷ (0 ∷ [])) ∷ ((2 ∷ (0 ∷ [])) ∷ ((0 ∷ (1 ∷ [])) ∷ []))) ≡ 2
rank_of_three = refl

-- the real projective plane, with rows v, e, t
abbrev plane : Table
plane =
    record { name = []; dim = 0; faces = [] }
    ∷ (record { name = []; dim = 1; faces = ([], 0) ∷ (([], 0) ∷ []) }
    ∷ (record { name = []; dim = 2; faces = ([], 1) ∷ ((0 ∷ [], 0) ∷ (([], 1) ∷ [])) } ∷ []))

-- SmallD of t is 2 e: of rank 1 over F_3, and 0 over F_2
plane_vectors : d_vectors 3 (smalls 3 (table plane)) (1 ∷ []) (2 ∷ []) ≡ (2 ∷ []) ∷ []
plane_vectors = refl

plane_rank : d_rank 3 (smalls 3 (table plane)) (1 ∷ []) (2 ∷ []) ≡ 1
plane_rank = refl

plane_rank_mod_2 : d_rank 2 (smalls 2 (table plane)) (1 ∷ []) (2 ∷ []) ≡ 0
plane_rank_mod_2 = refl

e_is_boundary : is_boundary 3 (smalls 3 (table plane)) (1 ∷ []) (2 ∷ []) (1 ∷ []) ≡ true
e_is_boundary = refl

e_is_none_mod_2 : is_boundary 2 (smalls 2 (table plane)) (1 ∷ []) (2 ∷ []) (1 ∷ []) ≡ false
e_is_none_mod_2 = refl

-- over F_3 the cycle e is d of 2 t
plane_filling : filling 3 (table plane) 1 (((1, ([], 1)), 1) ∷ []) (2 ∷ []) ≡ ((2, ([], 2)), 2) ∷ []
plane_filling = refl

-- K(Z,1), suspended twice
twice_suspended : innermost (suspension (suspension kz1)) ≡ kz1
twice_suspended = refl
