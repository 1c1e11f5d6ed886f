-- The reach of a simplex whose integers are of magnitude at most 100,000, by recursion on the space: it doubles at most with each step of
-- depth.
--
--   in a bundle, of depth 2, a list of 32 integers and a row of dimension 16 make at most 3200000 + 16 * 6200000, which is 102400000
use Rattle.std.proofs.Common.{◌≡◌, ℕ, zero, suc, ◌+◌, ◌-◌, ◌*◌, ◌≤◌, List, [], ◌∷◌, length, Some, None, ℤ, arith, refl}
use Rattle.std.specs.Prelude.{max, nat_abs}
use Rattle.spaces.specs.Spaces.{Space, table, sphere, product, suspension, kz1, bundle, loops, paths, kzm1, cyclic_bundle, Plain, set_of}
use Rattle.spaces.specs.Allowed.{Admits, IsAllowed, space_depth}
use Rattle.values.specs.Sizes.{greatest, integer}
use Rattle.normal_forms.specs.Built.{IsBuilt}
use Rattle.space_pairs.specs.Reach.{total, reach}
use Rattle.fibred_asks.specs.Reached.{limited_reach}

-- what the reach is at most, in a space of this depth
abbrev cap : ℕ → ℕ
cap zero = 200000000
cap (suc d) = cap d + cap d

cap-rises : (d e : ℕ) → d ≤ e → cap d ≤ cap e
cap-rises zero zero l = omega arith
cap-rises zero (suc e) l = omega (arith, cap-rises zero e (omega arith))
cap-rises (suc d) zero l = absurd (omega (arith, l))
cap-rises (suc d) (suc e) l = omega (arith, cap-rises d e (omega (arith, l)))

-- the reach of a pair, from those of its parts
cap-pair : (d e r s : ℕ) → r ≤ cap d → s ≤ cap e → r + s ≤ cap (suc (max d e))
cap-pair d e r s l m = omega (arith, l, m, cap-rises d (max d e) (omega arith), cap-rises e (max d e) (omega arith))

cap-next : (d r : ℕ) → r ≤ cap d → r ≤ cap (suc d)
cap-next d r l = omega (arith, l)

total-within : (x : List ℤ) → greatest nat_abs x ≤ 100000 → total x ≤ 100000 * length x
total-within [] l = omega arith
total-within (a ∷ x) l = omega (arith, l, total-within x (omega (arith, l)))

list-within : (n : ℕ) (x : List ℤ) → length x ≡ n → n ≤ 32 → greatest nat_abs x ≤ 100000 → total x ≤ 3200000
list-within n x e h l = omega (arith, e, h, total-within x l)

reach-capped : (X : Space) → Admits X → IsBuilt X → (n : ℕ) (x : Plain X) → n ≤ 32 → (set_of X).In n x → integer X x ≤ 100000
    → reach X x ≤ cap (space_depth X)
reach-capped (table t) is built n x h j l = omega arith
reach-capped (sphere m) is built n x h j l = omega arith
reach-capped (product a b) is built n x h j l =
    cap-pair (space_depth a) (space_depth b) (reach a x.0) (reach b x.1) (reach-capped a is.0 built.0 n x.0 h j.0 (omega (arith, l)))
    (reach-capped b is.1 built.1 n x.1 h j.1 (omega (arith, l)))
reach-capped (suspension a) is built n None h j l = omega arith
reach-capped (suspension a) is built n (Some s) h j l =
    cap-next (space_depth a) (reach a s.1) (reach-capped a is.0 built (n - 1 - s.0) s.1 (omega (arith, h)) j.1 l)
reach-capped kz1 is built n x h j l = omega (arith, list-within n x j.0 h l)
reach-capped (bundle t c) is built n x h j l = omega (arith, list-within n x.1 j.1.0 h l, is.0.low x.0.1 j.0.row)
reach-capped (loops a) is built n x h j l = absurd built
reach-capped (paths a) is built n x h j l = absurd built
reach-capped (kzm1 m) is built n x h j l = absurd built
reach-capped (cyclic_bundle t m c) is built n x h j l = absurd built

-- at most that of a space of depth 8
pub reach-limited : (X : Space) → IsAllowed X → IsBuilt X → (n : ℕ) (x : Plain X) → n ≤ 32 → (set_of X).In n x → integer X x ≤ 100000
    → reach X x ≤ limited_reach
reach-limited X is built n x h j l =
    let e : cap 8 ≡ limited_reach = refl in
    omega (arith, e, reach-capped X is.0 built n x h j l, cap-rises (space_depth X) 8 is.1)
