-- The twist of the letters is not seen after m faces, where the letter does not move after place m.
use Rattle.std.proofs.Common.{◌≡◌, ℕ, zero, suc, ◌+◌, ◌<◌, ◌≤◌, true, ◌∙◌, arith}
use Rattle.spaces.specs.Simplicial.{has_degeneracy}
use Rattle.spaces.specs.Orders.{Ordered}
use Rattle.spaces.specs.Products.{IsTwisting}
use Rattle.ez_laws.specs.Sides.{IsRight}
use Rattle.twist_laws.proofs.Late as TL

module _ (p : ℕ) {K J : Type 0} (A : Ordered K) (G : Ordered J) (base : IsRight A) (fibre : IsRight G)
    (t : K → J) (times : J → J → J) (w : IsTwisting A.set G.set t times) (alone : (x y : J) → G.set.In 0 x → G.set.In 0 y → x ≡ y) where
  abbrev behind : ℕ → J → J
  behind i g = TL.behind p A G base fibre t times w i g

  -- y is a letter of degree n + 1: `has_degeneracy (suc j)` of it is the letter's place j
  pub late-letters : (m n k : ℕ) (y : K) (g : J) → n ≡ m + k → A.set.In (suc (suc n)) y → G.set.In (suc n) g
      → ((j : ℕ) → suc m ≤ j → j < suc n → has_degeneracy A.set (suc j) y ≡ true)
      → behind m (times (G.set.face 0 (t y)) (G.set.face 0 g)) ≡ behind m (G.set.face 0 g)
  late-letters m n k y g e iy ig h =
      let g0 : J = G.set.face 0 g in
      let i0 : G.set.In n g0 = fibre.simplicial.face_in n 0 g ig (omega arith) in
      let u : J = G.set.face 0 (t y) in
      let iu : G.set.In n u = fibre.simplicial.face_in n 0 (t y) (w.t_in (suc n) y iy) (omega arith) in
      TL.behind-times p A G base fibre t times w m k n u g0 e iu i0
      ∙ TL.late p A G base fibre t times w alone (suc m) (suc n) k y (behind m g0) (omega (arith, e)) iy shifted
      (TL.behind-in p A G base fibre t times w m k n g0 e i0)
    where
      shifted : (j : ℕ) → suc (suc m) ≤ j → j < suc (suc n) → has_degeneracy A.set j y ≡ true
      shifted zero a b = absurd (omega (arith, a))
      shifted (suc j) a b = h j (omega (arith, a)) (omega (arith, b))
