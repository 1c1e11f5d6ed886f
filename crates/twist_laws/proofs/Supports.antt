-- A chain whose terms cancel but where a test holds is the same as its terms where the test holds.
use Rattle.std.proofs.Common.{◌≡◌, ℕ, zero, suc, ◌<◌, Bool, true, false, cond, refl, sym, ◌∙◌, ap, arith, true≢false}
use Rattle.std.specs.Cmp.{IsEquivalence}
use Rattle.fp_field.specs.Chains.{Terms, keep, Each}
use Rattle.fp_field.specs.Reduction.{SameTerms}
use Rattle.fp_field.proofs.Weights.{Each-any}
use Rattle.fp_field.proofs.Fair.{under}
use Rattle.ez_laws.proofs.Functionals.{Coefficients, Ch}
use Rattle.ez_laws.proofs.ChainLaws.{o, eta, lin, All, lin-id, lin-on}
use Rattle.ez_laws.proofs.Values.{field, val, val-same, same-val, all-val, lin-keep}
use Rattle.ez_laws.proofs.Eaches.{each-so, each-keep}
use Rattle.ez_laws.proofs.Joined.{same-terms}
use Rattle.twist_laws.specs.LeftDegrees.{AmountsTo}

-- a test for m < n
pub below : ℕ → ℕ → Bool
below m zero = false
below zero (suc n) = true
below (suc m) (suc n) = below m n

pub below-is : (m n : ℕ) → below m n ≡ true → m < n
unfolding below
below-is m zero e = absurd (true≢false (sym e))
below-is zero (suc n) e = omega arith
below-is (suc m) (suc n) e = let r = below-is m n e in omega (arith, r)

pub is-below : (m n : ℕ) → m < n → below m n ≡ true
unfolding below
is-below m zero l = absurd (omega (arith, l))
is-below zero (suc n) l = refl
is-below (suc m) (suc n) l = is-below m n (omega (arith, l))

module _ (p : ℕ) (pos : 0 < p) where
  abbrev S : Coefficients
  S = field p pos

  -- a key where the test holds, else 0
  pub kept_key : {K : Type 0} → (K → Bool) → K → Ch S K
  kept_key test k = cond (test k) (eta S k) (o S)

  pub kept-true : {K : Type 0} (test : K → Bool) (k : K) → test k ≡ true → kept_key test k ≡ eta S k
  unfolding kept_key
  kept-true test k e = ap (λ b. cond b (eta S k) (o S)) e

  pub kept-false : {K : Type 0} (test : K → Bool) (k : K) → test k ≡ false → kept_key test k ≡ o S
  unfolding kept_key
  kept-false test k e = ap (λ b. cond b (eta S k) (o S)) e

  -- the terms that are kept
  pub val-keep : {K : Type 0} (test : K → Bool) (c : Terms K) → val p pos (keep test c) ≡ lin S (kept_key test) (val p pos c)
  val-keep test c =
      sym (lin-id S (val p pos (keep test c)))
      ∙ lin-on S (λ k. Unit {0} × (test k ≡ true)) (eta S) (kept_key test) (val p pos (keep test c))
      (all-val p pos (λ k. Unit {0} × (test k ≡ true)) (keep test c) (each-keep (λ k. Unit {0}) test c (Each-any c))) (λ k e. sym (kept-true test k e.1))
      ∙ lin-keep p pos (λ k. Unit {0}) (kept_key test) test (λ k u e. kept-false test k e) c (Each-any c)

  pub supported : {K : Type 0} (test : K → Bool) (c : Terms K) → All S (λ k. test k ≡ true) (val p pos c) → val p pos c ≡ val p pos (keep test c)
  supported test c h =
      sym (lin-id S (val p pos c))
      ∙ lin-on S (λ k. test k ≡ true) (eta S) (kept_key test) (val p pos c) h (λ k e. sym (kept-true test k e))
      ∙ sym (val-keep test c)

  pub amounts : {K : Type 0} (same : K → K → Bool) (P Q : K → Type 0) (test : K → Bool) (c : Terms K) → Each P c → All S (λ k. test k ≡ true) (val p pos c)
      → ((k : K) → P k → test k ≡ true → Q k) → AmountsTo p same Q c
  amounts same P Q test c e h f =
      (keep test c, same-terms p same c (keep test c) (same-val p pos c (keep test c) (supported test c h)), each-so (keep test c) (λ k u. f k u.0 u.1) (each-keep P test c e))

  -- the same numbers where a test tells all keys apart
  pub val-terms : {K : Type 0} (same : K → K → Bool) → IsEquivalence same → ((x y : K) → same x y ≡ true → x ≡ y) → (c d : Terms K) → SameTerms p same c d
      → val p pos c ≡ val p pos d
  val-terms same eq is c d h =
      val-same p pos c d (λ w. under p pos same eq w (λ x y e. ap (λ z. Rattle.std.specs.Prelude.◌%◌ (w z) p) (is x y e)) c d h)
