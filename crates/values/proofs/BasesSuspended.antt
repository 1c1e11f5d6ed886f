-- A simplex of a suspension that is not degenerate is the base, or Up of one that is not degenerate.
use Rattle.std.proofs.Common.{◌≡◌, ℕ, zero, suc, ◌-◌, ◌<◌, ◌≤◌, Bool, true, false, cond, refl, sym, ◌∙◌, ap, subst, arith, true≢false}
use Rattle.std.specs.Prelude.{Option, Some}
use Rattle.simp_ops.proofs.PlacesOf.{is_le, not_le}
use Rattle.spaces.specs.Simplicial.{Simplicial, IsSimplicial, is_degenerate}
use Rattle.spaces.specs.Suspensions.{suspension_set, suspension_degeneracy}
use Rattle.spaces.specs.Spaces.{Space, suspension, Plain, is_base, set_of}
use Rattle.spaces.specs.Allowed.{Admits}
use Rattle.spaces.proofs.BaseTests.{IsBaseTest}
use Rattle.spaces.proofs.Bases.{space_base}
use Rattle.spaces.proofs.Degenerate.{degenerate_is, degenerate_so}
use Rattle.spaces.proofs.SpaceLaws.{space_set_laws}
use Rattle.values.specs.Ranks.{IsCell}

is_false : (b : Bool) → (b ≡ true → ⊥) → b ≡ false
is_false true h = absurd (h refl)
is_false false h = refl

module _ {K : Type 0} (A : Simplicial K) (test : K → Bool) (laws : IsSimplicial A) (base : IsBaseTest A test) (whole : IsSimplicial (suspension_set A test)) where
  abbrev S : Simplicial (Option (ℕ × K))
  S = suspension_set A test

  one_more : (k : ℕ) (x : K) → suspension_degeneracy A test 0 (Some (k, x)) ≡ Some (suc k, x)
  one_more k x = ap (λ b. cond b (Some (suc k, x)) (Some (k, A.degeneracy (0 - k - 1) x))) (is_le 0 k (omega arith))

  -- s_(j+1) (Up y) = Up (s_j y)
  up_of : (j : ℕ) (y : K) → suspension_degeneracy A test (suc j) (Some (0, y)) ≡ Some (0, A.degeneracy j y)
  up_of j y =
      ap (λ b. cond b (Some (1, y)) (Some (0, A.degeneracy (suc j - 0 - 1) y))) (not_le (suc j) 0 (omega arith))
      ∙ ap (λ i. Some (0, A.degeneracy i y)) (back j)
    where
      back : (j : ℕ) → suc j - 0 - 1 ≡ j
      back j = omega arith

  in_degree : (m n : ℕ) (x : K) → m ≡ n → A.In m x → A.In n x
  in_degree m n x e h = subst (λ i. A.In i x) e h

  -- s_0 is not taken on a simplex that is not degenerate
  no_times : (n k : ℕ) (x : K) → S.In n (Some (suc k, x)) → is_degenerate S n (Some (suc k, x)) ≡ true
  no_times zero k x is = absurd (let l : suc k < 0 = is.0 in omega arith)
  no_times (suc n) k x is =
      ap (is_degenerate S (suc n)) (sym (one_more k x))
      ∙ degenerate_so S whole n 0 (Some (k, x)) (let b : suc k < suc n = is.0 in omega arith, in_degree (suc n - 1 - suc k) (n - 1 - k) x (omega arith) is.1, is.2) (omega arith)

  -- Up of a degeneracy is one
  up_degeneracy : (n j : ℕ) (y : K) → j ≤ n → A.In n y → test (A.degeneracy j y) ≡ false → is_degenerate S (suc (suc n)) (Some (0, A.degeneracy j y)) ≡ true
  up_degeneracy n j y l is t =
      ap (is_degenerate S (suc (suc n))) (sym (up_of j y))
      ∙ degenerate_so S whole (suc n) (suc j) (Some (0, y))
      (omega arith, in_degree n (suc n - 1 - 0) y (omega arith) is, sym (base.degeneracy_base n j y is l) ∙ t) (omega arith)

  up_degenerate : (n : ℕ) (x : K) → A.In (suc n) x → test x ≡ false → is_degenerate A (suc n) x ≡ true → is_degenerate S (suc (suc n)) (Some (0, x)) ≡ true
  up_degenerate n x is t h = by (degenerate_is A laws n x is h)
    where
      by : (j : ℕ) × (y : K) × (j ≤ n) × A.In n y × (x ≡ A.degeneracy j y) → is_degenerate S (suc (suc n)) (Some (0, x)) ≡ true
      by d =
          ap (λ z. is_degenerate S (suc (suc n)) (Some (0, z))) d.4
          ∙ up_degeneracy n d.0 d.1 d.2 d.3 (ap test (sym d.4) ∙ t)

  in_part : (n k : ℕ) (x : K) → S.In (suc n) (Some (k, x)) → is_degenerate S (suc n) (Some (k, x)) ≡ false → A.In n x × (is_degenerate A n x ≡ false)
  in_part n (suc k) x is g = absurd (true≢false (sym (no_times (suc n) k x is) ∙ g))
  in_part zero zero x is g = (in_degree (1 - 1 - 0) 0 x (omega arith) is.1, refl)
  in_part (suc n) zero x is g =
      let u : A.In (suc n) x = in_degree (suc (suc n) - 1 - 0) (suc n) x (omega arith) is.1 in
      (u, is_false (is_degenerate A (suc n) x) (λ h. true≢false (sym (up_degenerate n x u is.2 h) ∙ g)))

pub suspended-cell : (a : Space) (n : ℕ) (s : ℕ × Plain a) → Admits (suspension a) → IsCell (suspension a) n (Some s) → IsCell a (n - 1) s.1
suspended-cell a zero s is c = absurd (let l : s.0 < 0 = c.0.0 in omega arith)
suspended-cell a (suc n) s is c =
    subst (λ i. IsCell a i s.1) (back n)
    (in_part (set_of a) (is_base a) (space_set_laws a is.0) (space_base a is.0) (space_set_laws (suspension a) is) n s.0 s.1 c.0 c.1)
  where
    back : (n : ℕ) → n ≡ suc n - 1
    back n = omega arith
