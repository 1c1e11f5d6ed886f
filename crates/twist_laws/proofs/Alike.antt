-- Chains that are the same in F_p at every weight, and what maps, sums and normal forms do to them.
use Rattle.std.proofs.Common.{◌≡◌, ℕ, zero, suc, ◌+◌, ◌*◌, ◌%◌, ◌<◌, Bool, true, cond, [], ◌∷◌, ◌++◌, refl, sym, ◌∙◌, ap, arith}
use Rattle.std.specs.Cmp.{IsEquivalence}
use Rattle.std.specs.declared.cmp.Ordering.{Ordering}
use Rattle.std.specs.declared.cmp.Ordering.TheVariants.{Equal}
use Rattle.fp_field.specs.Field.{SameMod}
use Rattle.fp_field.specs.Chains.{Terms, weigh, scale, extend, Each}
use Rattle.fp_field.specs.Normal.{normal}
use Rattle.fp_field.specs.Reduction.{SameTerms, one, after, Complex}
use Rattle.fp_field.proofs.Mod.{same-plus, same-times}
use Rattle.fp_field.proofs.Weights.{weigh-append, weigh-scale, weigh-extend, weigh-mod}
use Rattle.fp_field.proofs.Fair.{under}
use Rattle.fp_field.proofs.Normals.{weigh-normal}

pub record Alike {K : Type 0} (p : ℕ) (c d : Terms K) : Type 0 where
  pub at : (w : K → ℕ) → SameMod p (weigh w c) (weigh w d)

module _ {p : ℕ} where
  pub itself : {K : Type 0} {c : Terms K} → Alike p c c
  itself = record { at = λ w. refl }

  pub back : {K : Type 0} {c d : Terms K} → Alike p c d → Alike p d c
  back a = record { at = λ w. sym (a.at w) }

  pub chain : {K : Type 0} {c d e : Terms K} → Alike p c d → Alike p d e → Alike p c e
  chain a b = record { at = λ w. a.at w ∙ b.at w }

  pub exactly : {K : Type 0} {c d : Terms K} → c ≡ d → Alike p c d
  exactly e = record { at = λ w. ap (λ x. weigh w x % p) e }

  pub alike-append : {K : Type 0} {a b c d : Terms K} → Alike p a b → Alike p c d → Alike p (a ++ c) (b ++ d)
  alike-append {a = a} {b = b} {c = c} {d = d} e f = record {
    at = λ w. ap (λ n. n % p) (weigh-append w a c) ∙ same-plus p _ _ _ _ (e.at w) (f.at w) ∙ ap (λ n. n % p) (sym (weigh-append w b d));
  }

  pub alike-scale : {K : Type 0} (s : ℕ) {c d : Terms K} → Alike p c d → Alike p (scale s c) (scale s d)
  alike-scale s {c = c} {d = d} e = record {
    at = λ w. ap (λ n. n % p) (weigh-scale w s c) ∙ same-times p s _ _ (e.at w) ∙ ap (λ n. n % p) (sym (weigh-scale w s d));
  }

  pub alike-extend : {K J : Type 0} (f : K → Terms J) {c d : Terms K} → Alike p c d → Alike p (extend f c) (extend f d)
  alike-extend f {c = c} {d = d} e = record {
    at = λ w. ap (λ n. n % p) (weigh-extend w f c) ∙ e.at (λ k. weigh w (f k)) ∙ ap (λ n. n % p) (sym (weigh-extend w f d));
  }

  -- maps that agree at the keys of a chain
  pub alike-maps : {K J : Type 0} (P : K → Type 0) (f g : K → Terms J) → ((k : K) → P k → Alike p (f k) (g k)) → (c : Terms K) → Each P c
      → Alike p (extend f c) (extend g c)
  alike-maps P f g e c h = record {
    at = λ w.
        ap (λ n. n % p) (weigh-extend w f c)
        ∙ weigh-mod P p (λ k. weigh w (f k)) (λ k. weigh w (g k)) (λ k q. (e k q).at w) c h
        ∙ ap (λ n. n % p) (sym (weigh-extend w g c));
  }

  pub alike-normal : {K : Type 0} (cmp : K → K → Ordering) → ((x y : K) → cmp x y ≡ Equal → x ≡ y) → (c : Terms K) → Alike p (normal cmp p c) c
  alike-normal cmp apart c = record { at = λ w. weigh-normal cmp p apart w c }

  pub alike-after : {K J I : Type 0} (f : J → Terms I) (g : K → Terms J) (c : Terms K) → Alike p (extend f (extend g c)) (extend (after f g) c)
  alike-after {K = K} {I = I} f g c = record {
    at = λ w. ap (λ n. n % p) (weigh-extend w f (extend g c) ∙ weigh-extend (λ k. weigh w (f k)) g c ∙ along w c);
  }
    where
      along : (w : I → ℕ) (c : Terms K) → weigh (λ x. weigh (λ k. weigh w (f k)) (g x)) c ≡ weigh w (extend (after f g) c)
      along w [] = refl
      along w (t ∷ c) =
          omega (
            arith,
            weigh-append w (scale t.1 (extend f (g t.0))) (extend (after f g) c),
            weigh-scale w t.1 (extend f (g t.0)),
            ap (λ n. t.1 * n) (weigh-extend w f (g t.0)),
            along w c,
          )

  pub alike-one : {K J : Type 0} (f : K → Terms J) (k : K) → Alike p (extend f (one k)) (f k)
  alike-one f k = record {
    at = λ w. ap (λ n. n % p) (weigh-extend w f (one k) ∙ (let q : 1 * weigh w (f k) + 0 ≡ weigh w (f k) = omega arith in q));
  }

  pub alike-ones : {K : Type 0} (c : Terms K) → Alike p (extend one c) c
  alike-ones {K = K} c = record { at = λ w. ap (λ n. n % p) (along w c) }
    where
      along : (w : K → ℕ) (c : Terms K) → weigh w (extend one c) ≡ weigh w c
      along w [] = refl
      along w (t ∷ c) = omega (arith, along w c)

  pub alike-nothing : {K : Type 0} (c : Terms K) → Alike p (c ++ []) c
  alike-nothing c = record { at = λ w. ap (λ n. n % p) (weigh-append w c [] ∙ (let q : weigh w c + 0 ≡ weigh w c = omega arith in q)) }

  module _ (pos : 0 < p) {K : Type 0} (same : K → K → Bool) where
    pub from_terms : IsEquivalence same → ((x y : K) → same x y ≡ true → x ≡ y) → (c d : Terms K) → SameTerms p same c d → Alike p c d
    from_terms eq apart c d h = record { at = λ w. under p pos same eq w (λ x y e. ap (λ z. w z % p) (apart x y e)) c d h }

    pub to_terms : (c d : Terms K) → Alike p c d → SameTerms p same c d
    to_terms c d a k = a.at (λ x. cond (same x k) 1 0)

-- ---- generators one degree below

abbrev pub Below : {K : Type 0} → Complex K → ℕ → K → Type 0
Below C zero x = ⊥
Below C (suc n) x = C.generator n x
