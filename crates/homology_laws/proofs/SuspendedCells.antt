-- The cells of a suspension of a simplicial set with one vertex: the base, and Up of each cell of positive degree; d (Up x) = -Up (d x).
use Rattle.std.proofs.Common.{◌≡◌, ℕ, zero, suc, ◌+◌, ◌*◌, ◌-◌, ◌%◌, ◌<◌, ◌≤◌, Bool, true, false, not, ◌&&◌, ◌||◌, ◌==◌, nat_lt, cond, Option, Some, None, [], ◌∷◌, refl, sym, ◌∙◌, ap, subst, arith, true≢false}
use Rattle.std.proofs.lemmas.Bool.{and_parts}
use Rattle.fp_field.specs.Field.{SameMod, sign}
use Rattle.fp_field.specs.Chains.{Terms, weigh, keep, faces_sum, Each}
use Rattle.fp_field.proofs.Mod.{same-plus, same-by, same-times, pred-times}
use Rattle.fp_field.proofs.Weights.{weigh-along, Each-any}
use Rattle.fp_field.proofs.FlowLaws.{weigh-keep}
use Rattle.simp_ops.proofs.PlacesOf.{is_le, is_lt, not_le}
use Rattle.spaces.specs.Simplicial.{Simplicial, IsSimplicial, some_below, has_degeneracy, is_degenerate}
use Rattle.spaces.specs.Suspensions.{suspension_set, suspension_face, suspension_degeneracy}
use Rattle.spaces.specs.Allowed.{HasOneVertex}
use Rattle.spaces.proofs.BaseTests.{IsBaseTest}
use Rattle.spaces.proofs.Degenerate.{degenerate_so}
use Rattle.spaces.proofs.Lows.{not_true}
use Rattle.homology_laws.proofs.CellChains.{cells_of, cell_d_of, placed, boundary-in}

-- a test that fails at 0 and is another one from 1 on
below-shifted : (n : ℕ) (s t : ℕ → Bool) → s 0 ≡ false → ((j : ℕ) → j < n → s (suc j) ≡ t j) → some_below (suc n) s ≡ some_below n t
below-shifted zero s t e h = e
below-shifted (suc n) s t e h = λ i. below-shifted n s t e (λ j l. h j (omega arith)) i || h n (omega arith) i

weigh-placed : {K : Type 0} (w : ℕ × K → ℕ) (n : ℕ) (c : Terms K) → weigh w (placed n c) ≡ weigh (λ y. w (n, y)) c
weigh-placed w n [] = refl
weigh-placed w n (u ∷ c) = ap (λ k. u.1 * w (n, u.0) + k) (weigh-placed w n c)

pub weigh-nothing : {K : Type 0} (c : Terms K) → weigh (λ x. 0) c ≡ 0
weigh-nothing [] = refl
weigh-nothing (t ∷ c) = omega (arith, weigh-nothing c)

one-more : (p : ℕ) → 0 < p → (s a b c : ℕ) → SameMod p b ((p - 1) * c) → SameMod p ((p - 1) * s * a + b) ((p - 1) * (s * a + c))
one-more p pos s a b c e =
    same-plus p ((p - 1) * s * a) ((p - 1) * s * a) b ((p - 1) * c) refl e ∙ ap (λ n. n % p) (joined (p - 1))
  where
    joined : (q : ℕ) → q * s * a + q * c ≡ q * (s * a + c)
    joined q = omega arith

cancels : (p : ℕ) → 0 < p → (a : ℕ) → SameMod p ((p - 1) * 1 * a + (1 * a + 0)) 0
cancels p pos a = same-by p ((p - 1) * 1 * a + (1 * a + 0)) 0 0 a (by (p - 1) p (omega arith))
  where
    by : (q p : ℕ) → p ≡ suc q → q * 1 * a + (1 * a + 0) + p * 0 ≡ 0 + p * a
    by q p e = rw e (omega arith)

-- Up of a cell
abbrev pub up : {K : Type 0} → ℕ × K → ℕ × Option (ℕ × K)
up x = (suc x.0, Some (0, x.1))

module _ {K : Type 0} (A : Simplicial K) (test : K → Bool) (laws : IsSimplicial A) (base : IsBaseTest A test) (whole : IsSimplicial (suspension_set A test)) where
  abbrev S : Simplicial (Option (ℕ × K))
  S = suspension_set A test

  -- ---- faces and degeneracies of Up x

  -- d_(j+1) (Up x) = Up (d_j x)
  face-up : (j : ℕ) (x : K) → S.face (suc j) (Some (0, x)) ≡ cond (test (A.face j x)) None (Some (0, A.face j x))
  face-up j x =
      ap (λ b. cond b (cond (test (A.face (suc j - 0 - 1) x)) None (Some (0, A.face (suc j - 0 - 1) x))) (cond (nat_lt 0 0) (Some (0 - 1, x)) None)) (is_lt 0 (suc j) (omega arith))
      ∙ ap (λ i. cond (test (A.face i x)) None (Some (0, A.face i x))) (back j)
    where
      back : (j : ℕ) → suc j - 0 - 1 ≡ j
      back j = omega arith

  -- s_(j+1) (Up x) = Up (s_j x)
  degeneracy-up : (j : ℕ) (x : K) → S.degeneracy (suc j) (Some (0, x)) ≡ Some (0, A.degeneracy j x)
  degeneracy-up j x =
      ap (λ b. cond b (Some (1, x)) (Some (0, A.degeneracy (suc j - 0 - 1) x))) (not_le (suc j) 0 (omega arith))
      ∙ ap (λ i. Some (0, A.degeneracy i x)) (back j)
    where
      back : (j : ℕ) → suc j - 0 - 1 ≡ j
      back j = omega arith

  in_degree : (m n : ℕ) (x : K) → m ≡ n → A.In m x → A.In n x
  in_degree m n x e h = subst (λ i. A.In i x) e h

  -- ---- which are degenerate

  -- Up x has the degeneracy j + 1 where x has the degeneracy j
  moves : (n j : ℕ) (x : K) → A.In (suc n) x → test x ≡ false → j ≤ n → has_degeneracy S (suc j) (Some (0, x)) ≡ has_degeneracy A j x
  moves n j x is t l = ap (λ y. S.same (Some (0, x)) (S.degeneracy (suc j) y)) (face-up j x) ∙ by (test (A.face j x)) refl
    where
      by : (b : Bool) → test (A.face j x) ≡ b → S.same (Some (0, x)) (S.degeneracy (suc j) (cond b None (Some (0, A.face j x)))) ≡ has_degeneracy A j x
      by true e = sym (not_true (has_degeneracy A j x) (λ h.
          true≢false (sym (ap test (laws.same_is x (A.degeneracy j (A.face j x)) h)
          ∙ base.degeneracy_base n j (A.face j x) (laws.face_in n j x is (omega arith)) l ∙ e) ∙ t)))
      by false e = ap (S.same (Some (0, x))) (degeneracy-up j (A.face j x))

  pub up-degenerate : (n : ℕ) (x : K) → A.In n x → test x ≡ false → is_degenerate S (suc n) (Some (0, x)) ≡ is_degenerate A n x
  up-degenerate zero x is t = absurd (true≢false (sym (base.vertex x is) ∙ t))
  up-degenerate (suc n) x is t =
      below-shifted (suc n) (λ j. has_degeneracy S j (Some (0, x))) (λ j. has_degeneracy A j x) refl (λ j l. moves n j x is t (omega arith))

  pub base-degenerate : (n : ℕ) → is_degenerate S (suc n) None ≡ true
  base-degenerate n = degenerate_so S whole n 0 None tt (omega arith)

  -- s_0 is not taken on a simplex that is not degenerate
  times-degenerate : (n k : ℕ) (x : K) → S.In n (Some (suc k, x)) → is_degenerate S n (Some (suc k, x)) ≡ true
  times-degenerate zero k x is = absurd (let l : suc k < 0 = is.0 in omega arith)
  times-degenerate (suc n) k x is =
      ap (is_degenerate S (suc n)) (sym (ap (λ b. cond b (Some (suc k, x)) (Some (k, A.degeneracy (0 - k - 1) x))) (is_le 0 k (omega arith))))
      ∙ degenerate_so S whole n 0 (Some (k, x)) (let b : suc k < suc n = is.0 in omega arith, in_degree (suc n - 1 - suc k) (n - 1 - k) x (omega arith) is.1, is.2) (omega arith)

  -- a degeneracy of the vertex is degenerate, but in degree 0
  based-degenerate : (n : ℕ) (x : K) → A.In (suc n) x → test x ≡ true → is_degenerate A (suc n) x ≡ true
  based-degenerate n x is h =
      ap (is_degenerate A (suc n)) (base.first n x is h)
      ∙ degenerate_so A laws n 0 (A.face 0 x) (laws.face_in n 0 x is (omega arith)) (omega arith)

  -- ---- the cells

  abbrev IsCellOf : ℕ → K → Type 0
  IsCellOf n x = A.In n x × (is_degenerate A n x ≡ false)

  abbrev IsUpCell : ℕ → Option (ℕ × K) → Type 0
  IsUpCell n y = S.In n y × (is_degenerate S n y ≡ false)

  pub up-cell : (n : ℕ) (x : K) → IsCellOf (suc n) x → IsUpCell (suc (suc n)) (Some (0, x))
  up-cell n x is =
      let t : test x ≡ false = not_true (test x) (λ h. true≢false (sym (based-degenerate n x is.0 h) ∙ is.1)) in
      ((omega arith, in_degree (suc n) (suc (suc n) - 1 - 0) x (omega arith) is.0, t), up-degenerate (suc n) x is.0 t ∙ is.1)

  pub no-edge : (y : Option (ℕ × K)) → IsUpCell 1 y → ⊥
  no-edge None is = true≢false (sym (base-degenerate 0) ∙ is.1)
  no-edge (Some s) is =
      let l : s.0 < 1 = is.0.0 in
      true≢false (sym (base.vertex s.1 (in_degree (1 - 1 - s.0) 0 s.1 (omega (arith, l)) is.0.1)) ∙ is.0.2)

  pub is-up : (n : ℕ) (y : Option (ℕ × K)) → IsUpCell (suc (suc n)) y → (x : K) × IsCellOf (suc n) x × (y ≡ Some (0, x))
  is-up n None is = absurd (true≢false (sym (base-degenerate (suc n)) ∙ is.1))
  is-up n (Some (suc k, x)) is = absurd (true≢false (sym (times-degenerate (suc (suc n)) k x is.0) ∙ is.1))
  is-up n (Some (zero, x)) is =
      let i : A.In (suc n) x = in_degree (suc (suc n) - 1 - 0) (suc n) x (omega arith) is.0.1 in
      (x, (i, sym (up-degenerate (suc n) x i is.0.2) ∙ is.1), refl)

  -- ---- d

  module _ (p : ℕ) (pos : 0 < p) where
    -- the faces of Up x, each under a weight that forgets the base
    faces-up : (v : Option (ℕ × K) → ℕ) → v None ≡ 0 → (x : K) (k : ℕ)
        → SameMod p (weigh v (faces_sum p S.face (suc k) (Some (0, x)))) ((p - 1) * weigh (λ z. v (cond (test z) None (Some (0, z)))) (faces_sum p A.face k x))
    faces-up v e x zero = ap (λ n. (1 * n + 0) % p) e ∙ ap (λ n. n % p) (let q : 1 * 0 + 0 ≡ (p - 1) * 0 = omega arith in q)
    faces-up v e x (suc k) =
        ap (λ y. ((p - 1) * sign p k * v y + weigh v (faces_sum p S.face (suc k) (Some (0, x)))) % p) (face-up k x)
        ∙ one-more p pos (sign p k) (v (cond (test (A.face k x)) None (Some (0, A.face k x)))) _ _ (faces-up v e x k)

    -- d of an edge is 0: both its faces are the vertex
    pub edge-closed : HasOneVertex A → (x : ℕ × K) → (cells_of A p).generator 1 x → (w : ℕ × K → ℕ) → SameMod p (weigh w (cell_d_of A p x)) 0
    edge-closed vertex x is w =
        ap (λ j. weigh w (cell_d_of A p (j, x.1)) % p) is.0
        ∙ ap (λ n. n % p) (weigh-placed w 0 (keep (λ y. not (is_degenerate A 0 y)) (faces_sum p A.face 2 x.1))
        ∙ weigh-keep (λ y. w (0, y)) (λ y. not (is_degenerate A 0 y)) (faces_sum p A.face 2 x.1)
        ∙ λ i. (p - 1) * 1 * w (0, both 1 (omega arith) i) + (1 * w (0, both 0 (omega arith) i) + 0))
        ∙ cancels p pos (w (0, vertex.0))
      where
        both : (j : ℕ) → j ≤ 1 → A.face j x.1 ≡ vertex.0
        both j l = vertex.2 (A.face j x.1) (laws.face_in 0 j x.1 is.1.0 l)

    -- d (Up x) = -Up (d x)
    module _ (vertex : HasOneVertex A) where
      d-of : (n : ℕ) (x : K) → IsCellOf (suc n) x → (w : ℕ × Option (ℕ × K) → ℕ)
          → SameMod p (weigh w (cell_d_of S p (suc (suc n), Some (0, x)))) ((p - 1) * weigh (λ z. w (up z)) (cell_d_of A p (suc n, x)))
      d-of n x is w =
          ap (λ k. k % p) (weigh-placed w (suc n) (keep (λ y. not (is_degenerate S (suc n) y)) (faces_sum p S.face (suc (suc (suc n))) (Some (0, x))))
          ∙ weigh-keep (λ y. w (suc n, y)) (λ y. not (is_degenerate S (suc n) y)) (faces_sum p S.face (suc (suc (suc n))) (Some (0, x))))
          ∙ faces-up v (ap (λ b. cond (not b) (w (suc n, None)) 0) (base-degenerate n)) x (suc (suc n))
          ∙ by n is
        where
          v : Option (ℕ × K) → ℕ
          v y = cond (not (is_degenerate S (suc n) y)) (w (suc n, y)) 0

          weight : ℕ → K → ℕ
          weight n z = cond (not (is_degenerate S (suc n) (cond (test z) None (Some (0, z))))) (w (suc n, cond (test z) None (Some (0, z)))) 0

          forgets : (n : ℕ) (z : K) → test z ≡ true → weight n z ≡ 0
          forgets n z e =
              ap (λ b. cond (not (is_degenerate S (suc n) (cond b None (Some (0, z))))) (w (suc n, cond b None (Some (0, z)))) 0) e
              ∙ ap (λ b. cond (not b) (w (suc n, None)) 0) (base-degenerate n)

          counts : (n : ℕ) (z : K) → A.In (suc n) z → weight (suc n) z ≡ cond (not (is_degenerate A (suc n) z)) (w (suc (suc n), Some (0, z))) 0
          counts n z iz = cases (test z) refl
            where
              cases : (b : Bool) → test z ≡ b → weight (suc n) z ≡ cond (not (is_degenerate A (suc n) z)) (w (suc (suc n), Some (0, z))) 0
              cases true e = forgets (suc n) z e ∙ sym (ap (λ b. cond (not b) (w (suc (suc n), Some (0, z))) 0) (based-degenerate n z iz e))
              cases false e =
                  ap (λ b. cond (not (is_degenerate S (suc (suc n)) (cond b None (Some (0, z))))) (w (suc (suc n), cond b None (Some (0, z)))) 0) e
                  ∙ ap (λ b. cond (not b) (w (suc (suc n), Some (0, z))) 0) (up-degenerate (suc n) z iz e)

          by : (n : ℕ) → IsCellOf (suc n) x
              → SameMod p ((p - 1) * weigh (weight n) (faces_sum p A.face (suc (suc n)) x)) ((p - 1) * weigh (λ z. w (up z)) (cell_d_of A p (suc n, x)))
          by zero is =
              same-times p (p - 1) _ 0
              (ap (λ k. k % p) (weigh-along (A.In 0) (weight 0) (λ z. 0) (λ z iz. forgets 0 z (base.vertex z iz)) (faces_sum p A.face 2 x) (boundary-in A laws p pos 0 x is.0)
              ∙ weigh-nothing (faces_sum p A.face 2 x)))
              ∙ sym (same-times p (p - 1) _ 0 (edge-closed vertex (1, x) (refl, is) (λ z. w (up z))))
          by (suc n) is =
              ap (λ k. ((p - 1) * k) % p)
              (weigh-along (A.In (suc n)) (weight (suc n)) (λ z. cond (not (is_degenerate A (suc n) z)) (w (suc (suc n), Some (0, z))) 0) (λ z iz. counts n z iz)
              (faces_sum p A.face (suc (suc (suc n))) x) (boundary-in A laws p pos (suc n) x is.0)
              ∙ sym (weigh-keep (λ y. w (suc (suc n), Some (0, y))) (λ y. not (is_degenerate A (suc n) y)) (faces_sum p A.face (suc (suc (suc n))) x))
              ∙ sym (weigh-placed (λ z. w (up z)) (suc n) (keep (λ y. not (is_degenerate A (suc n) y)) (faces_sum p A.face (suc (suc (suc n))) x))))

      pub d-up : (n : ℕ) (x : ℕ × K) → (cells_of A p).generator (suc n) x → (w : ℕ × Option (ℕ × K) → ℕ)
          → SameMod p (weigh w (cell_d_of S p (up x))) ((p - 1) * weigh (λ z. w (up z)) (cell_d_of A p x))
      d-up n x is w =
          subst (λ j. SameMod p (weigh w (cell_d_of S p (suc j, Some (0, x.1)))) ((p - 1) * weigh (λ z. w (up z)) (cell_d_of A p (j, x.1)))) (sym is.0) (d-of n x.1 is.1 w)
