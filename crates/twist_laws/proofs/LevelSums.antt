-- Maps that lower a level: their series with enough terms, and what a map that raises it by one makes of a map that lowers it by two.
use Rattle.std.proofs.Common.{◌≡◌, ℕ, zero, suc, ◌+◌, ◌<◌, ◌≤◌, true, [], ◌∷◌, ◌++◌, refl, ap, arith, ◌%◌}
use Rattle.std.specs.Cmp.{IsEquivalence}
use Rattle.std.specs.Ordering.{eq_by_cmp}
use Rattle.std.specs.declared.cmp.Ordering.{Ordering}
use Rattle.fp_field.specs.Chains.{Terms, coeff, scale, extend, Each}
use Rattle.fp_field.specs.Reduction.{after, Complex}
use Rattle.fp_field.proofs.Weights.{Each-append, Each-scale, Each-extend}
use Rattle.perturb.specs.Perturbation.{LowersLevel, series_by}
use Rattle.perturb.proofs.Levels.{series_extends}
use Rattle.twist_laws.specs.LeftDegrees.{AmountsTo}
use Rattle.twist_laws.proofs.Alike.{alike-append, alike-scale, alike-extend, from_terms, to_terms}
use Rattle.twist_laws.proofs.Totals.{SumsTo, Apart}

each-so : {K : Type 0} {P Q : K → Type 0} (c : Terms K) → ((x : K) → P x → Q x) → Each P c → Each Q c
each-so [] e h = tt
each-so (t ∷ c) e h = (e t.0 h.0, each-so c e h.1)

module _ (p : ℕ) (pos : 0 < p) {K : Type 0} (C : Complex K) (eq : IsEquivalence C.same) (cmp : K → K → Ordering) (one_key : Apart cmp)
    (alike : (x y : K) → C.same x y ≡ eq_by_cmp cmp x y) (apart : (x y : K) → C.same x y ≡ true → x ≡ y) (level : K → ℕ) where
  -- the series of a map that lowers the level, where the level is at most the degree
  pub sums_to : (t : K → Terms K) → LowersLevel p C level t → (many : K → ℕ) (above : (x : K) → level x < many x)
      → ((n : ℕ) (x : K) → C.generator n x → level x ≤ n)
      → ((n : ℕ) (x : K) → C.generator n x → Each (C.generator n) (series_by cmp p many t x)) → SumsTo p C cmp t (series_by cmp p many t)
  sums_to t low many above few keeps = record {
    keeps = keeps;
    sums = λ n c h. from_terms pos C.same eq apart _ _ (series_extends p pos cmp one_key t C eq alike level low many above (suc n) n c
        (each-so c (λ x g. (g, (let l = few n x g in omega (arith, l)))) h));
  }

  -- ---- sums

  extended : {J : Type 0} (P : K → Type 0) (Q : J → Type 0) (f : J → Terms K) → ((x : J) → Q x → AmountsTo p C.same P (f x)) → (c : Terms J) → Each Q c
      → AmountsTo p C.same P (extend f c)
  extended P Q f e [] h = ([], (λ k. refl), tt)
  extended P Q f e (t ∷ c) h =
      let o = e t.0 h.0 in
      let r = extended P Q f e c h.1 in (
        scale t.1 o.0 ++ r.0,
        to_terms pos C.same _ _ (alike-append (alike-scale t.1 (from_terms pos C.same eq apart _ _ o.1)) (from_terms pos C.same eq apart _ _ r.1)),
        Each-append P (scale t.1 o.0) r.0 (Each-scale P t.1 o.0 o.2) r.2,
      )

  module _ (h r : K → Terms K) (raises : (n : ℕ) (x : K) → C.generator n x → Each (λ y. C.generator (suc n) y × (level y ≤ suc (level x))) (h x))
      (ends : (x : K) → C.generator zero x → r x ≡ [])
      (falls : (n : ℕ) (x : K) → C.generator (suc n) x → AmountsTo p C.same (λ y. C.generator n y × (level y + 2 ≤ level x)) (r x)) where
    pub h-after_r : LowersLevel p C level (after h r)
    h-after_r zero x g = ([], (λ k. ap (λ c. coeff C.same (extend h c) k % p) (ends x g)), tt)
    h-after_r (suc n) x g =
        let o = falls n x g in (
          extend h o.0,
          to_terms pos C.same _ _ (alike-extend h (from_terms pos C.same eq apart _ _ o.1)),
          Each-extend (λ y. C.generator (suc n) y × (level y < level x)) (λ y. C.generator n y × (level y + 2 ≤ level x)) h
              (λ y u. each-so (h y) (λ z v. (v.0, below v.1 u.1)) (raises n y u.0)) o.0 o.2,
        )
      where
        below : {a b c : ℕ} → a ≤ suc b → b + 2 ≤ c → a < c
        below u v = omega (arith, u, v)

    pub r-after_h : LowersLevel p C level (after r h)
    r-after_h n x g =
        extended (λ y. C.generator n y × (level y < level x)) (λ y. C.generator (suc n) y × (level y ≤ suc (level x))) r
        (λ y u. let o = falls n y u.0 in (o.0, o.1, each-so o.0 (λ z v. (v.0, below v.1 u.1)) o.2)) (h x) (raises n x g)
      where
        below : {a b c : ℕ} → a + 2 ≤ b → b ≤ suc c → a < c
        below u v = omega (arith, u, v)
