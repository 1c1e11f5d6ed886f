-- A reduction is carried over to other keys, where each map of the new keys is the old one under every weight.
use Rattle.std.proofs.Common.{◌≡◌, ℕ, zero, suc, ◌%◌, ◌<◌, true, cond, [], ◌++◌, refl, sym, ◌∙◌, ap, subst}
use Rattle.fp_field.specs.Field.{SameMod}
use Rattle.fp_field.specs.Chains.{Terms, weigh, Each}
use Rattle.fp_field.specs.Reduction.{SameTerms, one, after, Complex, Maps, HasDegrees, HasEquations, IsReductionTo}
use Rattle.fp_field.proofs.Mod.{same-plus}
use Rattle.fp_field.proofs.Weights.{weigh-append, weigh-extend, weigh-mod}
use Rattle.fp_field.proofs.Fair.{under}
use Rattle.twist_laws.proofs.Alike.{Below}

-- the value of F, carried over, is the value of F', under each weight
pub record Carries {A A' B B' : Type 0} (p : ℕ) (Good : A → Type 0) (a : A → A') (b : B → B') (F : A → Terms B) (F' : A' → Terms B') : Type 0 where
  pub at : (x : A) → Good x → (w : B' → ℕ) → SameMod p (weigh w (F' (a x))) (weigh (λ z. w (b z)) (F x))

module _ {p : ℕ} where
  carries-after : {A A' B B' C C' : Type 0} {a : A → A'} {b : B → B'} {e : C → C'} {GoodA : A → Type 0} (GoodB : B → Type 0)
      {F : A → Terms B} {F' : A' → Terms B'} {G : B → Terms C} {G' : B' → Terms C'}
      → Carries p GoodA a b F F' → Carries p GoodB b e G G' → ((x : A) → GoodA x → Each GoodB (F x)) → Carries p GoodA a e (after G F) (after G' F')
  carries-after {a = a} {b = b} {e = e} GoodB {F = F} {F' = F'} {G = G} {G' = G'} f g keeps = record {
    at = λ x good w.
        ap (λ n. n % p) (weigh-extend w G' (F' (a x)))
        ∙ f.at x good (λ y. weigh w (G' y))
        ∙ weigh-mod GoodB p (λ z. weigh w (G' (b z))) (λ z. weigh (λ y. w (e y)) (G z)) (λ z i. g.at z i w) (F x) (keeps x good)
        ∙ ap (λ n. n % p) (sym (weigh-extend (λ y. w (e y)) G (F x)));
  }

  carries-both : {A A' B B' : Type 0} {a : A → A'} {b : B → B'} {Good : A → Type 0} {F G : A → Terms B} {F' G' : A' → Terms B'}
      → Carries p Good a b F F' → Carries p Good a b G G' → Carries p Good a b (λ x. F x ++ G x) (λ x. F' x ++ G' x)
  carries-both {a = a} {b = b} {F = F} {G = G} {F' = F'} {G' = G'} f g = record {
    at = λ x good w.
        ap (λ n. n % p) (weigh-append w (F' (a x)) (G' (a x)))
        ∙ same-plus p _ _ _ _ (f.at x good w) (g.at x good w)
        ∙ ap (λ n. n % p) (sym (weigh-append (λ z. w (b z)) (F x) (G x)));
  }

  carries-nothing : {A A' B B' : Type 0} {a : A → A'} {b : B → B'} {Good : A → Type 0} → Carries p Good a b (λ x. []) (λ x. [])
  carries-nothing = record { at = λ x good w. refl }

  carries-one : {A A' : Type 0} {a : A → A'} {Good : A → Type 0} → Carries p Good a a (λ x. one x) (λ x. one x)
  carries-one = record { at = λ x good w. refl }

module _ (p : ℕ) (pos : 0 < p) {B S B' S' : Type 0} (m : Maps B S) (M : Maps B' S') (b : B → B') (s : S → S') where
  -- M has the generators of m, under other names, and its maps
  pub record IsCarried : Type 0 where
    pub big_apart : (x y : B) → m.big.same x y ≡ true → x ≡ y
    pub small_apart : (x y : S) → m.small.same x y ≡ true → x ≡ y
    pub big_from : (n : ℕ) (x : B') → M.big.generator n x → (y : B) × m.big.generator n y × (x ≡ b y)
    pub small_from : (n : ℕ) (x : S') → M.small.generator n x → (y : S) × m.small.generator n y × (x ≡ s y)
    pub d : (n : ℕ) → Carries p (m.big.generator n) b b m.big.d M.big.d
    pub small_d : (n : ℕ) → Carries p (m.small.generator n) s s m.small.d M.small.d
    pub f : (n : ℕ) → Carries p (m.big.generator n) b s m.f M.f
    pub g : (n : ℕ) → Carries p (m.small.generator n) s b m.g M.g
    pub h : (n : ℕ) → Carries p (m.big.generator n) b b m.h M.h

  module _ (is : IsCarried) (N : ℕ) (r : IsReductionTo p N m) where
    big_fair : (w : B → ℕ) (x y : B) → m.big.same x y ≡ true → SameMod p (w x) (w y)
    big_fair w x y e = ap (λ z. w z % p) (is.big_apart x y e)

    small_fair : (w : S → ℕ) (x y : S) → m.small.same x y ≡ true → SameMod p (w x) (w y)
    small_fair w x y e = ap (λ z. w z % p) (is.small_apart x y e)

    to_big : {A A' : Type 0} (Good : A → Type 0) (a : A → A') (F G : A → Terms B) (F' G' : A' → Terms B')
        → Carries p Good a b F F' → Carries p Good a b G G' → (x : A) → Good x → SameTerms p m.big.same (F x) (G x) → SameTerms p M.big.same (F' (a x)) (G' (a x))
    to_big Good a F G F' G' f g x good e k =
        f.at x good (count k) ∙ under p pos m.big.same r.degrees.big.graded.equivalence (λ z. count k (b z)) (big_fair (λ z. count k (b z))) (F x) (G x) e ∙ sym (g.at x good (count k))
      where
        count : B' → B' → ℕ
        count k y = cond (M.big.same y k) 1 0

    to_small : {A A' : Type 0} (Good : A → Type 0) (a : A → A') (F G : A → Terms S) (F' G' : A' → Terms S')
        → Carries p Good a s F F' → Carries p Good a s G G' → (x : A) → Good x → SameTerms p m.small.same (F x) (G x) → SameTerms p M.small.same (F' (a x)) (G' (a x))
    to_small Good a F G F' G' f g x good e k =
        f.at x good (count k) ∙ under p pos m.small.same r.degrees.small.equivalence (λ z. count k (s z)) (small_fair (λ z. count k (s z))) (F x) (G x) e ∙ sym (g.at x good (count k))
      where
        count : S' → S' → ℕ
        count k y = cond (M.small.same y k) 1 0

    -- ---- degrees of d

    d_below : (n : ℕ) (x : B) → m.big.generator n x → Each (Below m.big n) (m.big.d x)
    d_below zero x h = subst (Each (Below m.big zero)) (sym (r.degrees.big.graded.ends x h)) tt
    d_below (suc n) x h = r.degrees.big.graded.lowers n x h

    small_d_below : (n : ℕ) (y : S) → m.small.generator n y → Each (Below m.small n) (m.small.d y)
    small_d_below zero y h = subst (Each (Below m.small zero)) (sym (r.degrees.small.ends y h)) tt
    small_d_below (suc n) y h = r.degrees.small.lowers n y h

    below : {A A' C C' : Type 0} (D : Complex A) {a : A → A'} {e : C → C'} {F : A → Terms C} {F' : A' → Terms C'}
        → ((n : ℕ) → Carries p (D.generator n) a e F F') → (n : ℕ) → Carries p (Below D n) a e F F'
    below D f zero = record { at = λ x h w. absurd h }
    below D f (suc n) = f n

    -- ---- equations

    at_big : (P : B' → Type 0) (n : ℕ) → ((y : B) → m.big.generator n y → P (b y)) → (x : B') → M.big.generator n x → P x
    at_big P n u x h = let o = is.big_from n x h in subst P (sym o.2) (u o.0 o.1)

    at_small : (P : S' → Type 0) (n : ℕ) → ((y : S) → m.small.generator n y → P (s y)) → (x : S') → M.small.generator n x → P x
    at_small P n u x h = let o = is.small_from n x h in subst P (sym o.2) (u o.0 o.1)

    equations : HasEquations p N M
    equations = record {
      f_commutes = λ n x l h. at_big (λ x. SameTerms p M.small.same (after M.small.d M.f x) (after M.f M.big.d x)) n
          (λ y g. to_small (m.big.generator n) b (after m.small.d m.f) (after m.f m.big.d) (after M.small.d M.f) (after M.f M.big.d)
          (carries-after (m.small.generator n) (is.f n) (is.small_d n) (r.degrees.f.keeps n))
          (carries-after (Below m.big n) (is.d n) (below m.big is.f n) (d_below n)) y g (r.equations.f_commutes n y l g)) x h;
      g_commutes = λ n x l h. at_small (λ x. SameTerms p M.big.same (after M.big.d M.g x) (after M.g M.small.d x)) n
          (λ y g. to_big (m.small.generator n) s (after m.big.d m.g) (after m.g m.small.d) (after M.big.d M.g) (after M.g M.small.d)
          (carries-after (m.big.generator n) (is.g n) (is.d n) (r.degrees.g.keeps n))
          (carries-after (Below m.small n) (is.small_d n) (below m.small is.g n) (small_d_below n)) y g (r.equations.g_commutes n y l g)) x h;
      twice = λ n x l h. at_small (λ x. SameTerms p M.small.same (after M.small.d M.small.d x) []) n
          (λ y g. to_small (m.small.generator n) s (after m.small.d m.small.d) (λ x. []) (after M.small.d M.small.d) (λ x. [])
          (carries-after (Below m.small n) (is.small_d n) (below m.small is.small_d n) (small_d_below n))
          carries-nothing y g (r.equations.twice n y l g)) x h;
      fg = λ n x l h. at_small (λ x. SameTerms p M.small.same (after M.f M.g x) (one x)) n
          (λ y g. to_small (m.small.generator n) s (after m.f m.g) (λ x. one x) (after M.f M.g) (λ x. one x)
          (carries-after (m.big.generator n) (is.g n) (is.f n) (r.degrees.g.keeps n)) carries-one y g (r.equations.fg n y l g)) x h;
      homotopy = λ n x l h. at_big (λ x. SameTerms p M.big.same (after M.big.d M.h x ++ (after M.h M.big.d x ++ after M.g M.f x)) (one x)) n
          (λ y g. to_big (m.big.generator n) b (λ x. after m.big.d m.h x ++ (after m.h m.big.d x ++ after m.g m.f x)) (λ x. one x)
          (λ x. after M.big.d M.h x ++ (after M.h M.big.d x ++ after M.g M.f x)) (λ x. one x)
          (carries-both (carries-after (m.big.generator (suc n)) (is.h n) (is.d (suc n)) (r.degrees.h.raises n))
          (carries-both (carries-after (Below m.big n) (is.d n) (below m.big is.h n) (d_below n))
          (carries-after (m.small.generator n) (is.f n) (is.g n) (r.degrees.f.keeps n)))) carries-one y g (r.equations.homotopy n y l g)) x h;
      fh = λ n x l h. at_big (λ x. SameTerms p M.small.same (after M.f M.h x) []) n
          (λ y g. to_small (m.big.generator n) b (after m.f m.h) (λ x. []) (after M.f M.h) (λ x. [])
          (carries-after (m.big.generator (suc n)) (is.h n) (is.f (suc n)) (r.degrees.h.raises n)) carries-nothing y g (r.equations.fh n y l g)) x h;
      hg = λ n x l h. at_small (λ x. SameTerms p M.big.same (after M.h M.g x) []) n
          (λ y g. to_big (m.small.generator n) s (after m.h m.g) (λ x. []) (after M.h M.g) (λ x. [])
          (carries-after (m.big.generator n) (is.g n) (is.h n) (r.degrees.g.keeps n)) carries-nothing y g (r.equations.hg n y l g)) x h;
      hh = λ n x l h. at_big (λ x. SameTerms p M.big.same (after M.h M.h x) []) n
          (λ y g. to_big (m.big.generator n) b (after m.h m.h) (λ x. []) (after M.h M.h) (λ x. [])
          (carries-after (m.big.generator (suc n)) (is.h n) (is.h (suc n)) (r.degrees.h.raises n)) carries-nothing y g (r.equations.hh n y l g)) x h;
    }

    pub carried : HasDegrees p M → IsReductionTo p N M
    carried deg = record { degrees = deg; equations = equations }
