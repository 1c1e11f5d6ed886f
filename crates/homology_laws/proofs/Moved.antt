-- Maps that are carried over to other generators, up to a sign, and a reduction that is carried over with them: in degrees from 2 on the
-- maps of a suspension are those of its part one degree below.
use Rattle.std.proofs.Common.{◌≡◌, ℕ, zero, suc, ◌+◌, ◌*◌, ◌-◌, ◌%◌, ◌<◌, ◌≤◌, Bool, true, ◌⊎◌, inl, inr, cond, [], ◌∷◌, ◌++◌, refl, sym, ◌∙◌, ap, subst, arith}
use Rattle.fp_field.specs.Field.{SameMod}
use Rattle.fp_field.specs.Chains.{Terms, weigh, extend, Each}
use Rattle.fp_field.specs.Reduction.{SameTerms, one, after, Complex, Maps, HasDegrees, HasEquations, IsReductionTo}
use Rattle.fp_field.proofs.Mod.{same-plus, same-times, same-by, pred-times}
use Rattle.fp_field.proofs.Weights.{weigh-append, weigh-extend, weigh-mod}
use Rattle.fp_field.proofs.Fair.{under}
use Rattle.homology_laws.proofs.Sums.{weigh-one, weigh-after, agree, Each-weaker}
use Rattle.homology_laws.proofs.SuspendedCells.{weigh-nothing}

weigh-by : {K : Type 0} (s : ℕ) (w : K → ℕ) (c : Terms K) → weigh (λ k. s * w k) c ≡ s * weigh w c
weigh-by s w [] = omega arith
weigh-by s w (t ∷ c) = omega (arith, weigh-by s w c)

module _ (p : ℕ) (pos : 0 < p) where
  -- s times the value of F, carried over, is the value of F', under each weight
  abbrev pub IsMoved : {A A' B B' : Type 0} → ℕ → (A → Type 0) → (A → A') → (B → B') → (A → Terms B) → (A' → Terms B') → Type 0
  IsMoved {A} {A'} {B} {B'} s Good a b F F' = (x : A) → Good x → (w : B' → ℕ) → SameMod p (weigh w (F' (a x))) (s * weigh (λ z. w (b z)) (F x))

  -- all keys are good, or the chain is 0
  abbrev pub IsGoodOr0 : {B : Type 0} → (B → Type 0) → Terms B → Type 0
  IsGoodOr0 {B} Good c = Each Good c ⊎ ((w : B → ℕ) → SameMod p (weigh w c) 0)

  signs : (s t k : ℕ) → s * (t * k) ≡ s * t * k
  signs s t k = omega arith

  module _ {A A' B B' C C' : Type 0} (a : A → A') (b : B → B') (e : C → C') where
    moved-after : (s t : ℕ) (GoodA : A → Type 0) (GoodB : B → Type 0) (F : A → Terms B) (F' : A' → Terms B') (G : B → Terms C) (G' : B' → Terms C')
        → IsMoved s GoodA a b F F' → IsMoved t GoodB b e G G' → ((x : A) → GoodA x → IsGoodOr0 GoodB (F x)) → IsMoved (s * t) GoodA a e (after G F) (after G' F')
    moved-after s t GoodA GoodB F F' G G' f g keeps x good w =
        ap (λ n. n % p) (weigh-extend w G' (F' (a x)))
        ∙ f x good (λ y. weigh w (G' y))
        ∙ same-times p s _ _ (by (keeps x good))
        ∙ ap (λ n. n % p) (signs s t (weigh (λ z. w (e z)) (extend G (F x))))
      where
        under_g : B → ℕ
        under_g z = weigh (λ y. w (e y)) (G z)

        all : weigh (λ z. t * under_g z) (F x) ≡ t * weigh (λ z. w (e z)) (extend G (F x))
        all = weigh-by t under_g (F x) ∙ ap (λ n. t * n) (sym (weigh-extend (λ z. w (e z)) G (F x)))

        by : IsGoodOr0 GoodB (F x) → SameMod p (weigh (λ z. weigh w (G' (b z))) (F x)) (t * weigh (λ z. w (e z)) (extend G (F x)))
        by (inl h) = weigh-mod GoodB p (λ z. weigh w (G' (b z))) (λ z. t * under_g z) (λ z i. g z i w) (F x) h ∙ ap (λ n. n % p) all
        by (inr h) = h (λ z. weigh w (G' (b z))) ∙ sym (h (λ z. t * under_g z)) ∙ ap (λ n. n % p) all

  module _ {A A' B B' : Type 0} (Good : A → Type 0) (a : A → A') (b : B → B') where
    moved-both : (s : ℕ) (F G : A → Terms B) (F' G' : A' → Terms B') → IsMoved s Good a b F F' → IsMoved s Good a b G G'
        → IsMoved s Good a b (λ x. F x ++ G x) (λ x. F' x ++ G' x)
    moved-both s F G F' G' f g x good w =
        ap (λ n. n % p) (weigh-append w (F' (a x)) (G' (a x)))
        ∙ same-plus p _ _ _ _ (f x good w) (g x good w)
        ∙ ap (λ n. n % p) (times-plus s (weigh (λ z. w (b z)) (F x)) (weigh (λ z. w (b z)) (G x)) ∙ ap (λ n. s * n) (sym (weigh-append (λ z. w (b z)) (F x) (G x))))
      where
        times-plus : (s m n : ℕ) → s * m + s * n ≡ s * (m + n)
        times-plus s m n = omega arith

    moved-nothing : (s : ℕ) → IsMoved s Good a b (λ x. []) (λ x. [])
    moved-nothing s x good w = ap (λ n. n % p) (let q : 0 ≡ s * 0 = omega arith in q)

    -- another number that is the same sign
    moved-as : (s t : ℕ) (F : A → Terms B) (F' : A' → Terms B') → SameMod p s t → IsMoved s Good a b F F' → IsMoved t Good a b F F'
    moved-as s t F F' e f x good w =
        f x good w ∙ ap (λ n. n % p) (turn s (weigh (λ z. w (b z)) (F x))) ∙ same-times p (weigh (λ z. w (b z)) (F x)) s t e ∙ ap (λ n. n % p) (turn (weigh (λ z. w (b z)) (F x)) t)
      where
        turn : (m n : ℕ) → m * n ≡ n * m
        turn m n = omega arith

  moved-one : {A A' : Type 0} (Good : A → Type 0) (a : A → A') → IsMoved 1 Good a a (λ x. one x) (λ x. one x)
  moved-one Good a x good w = ap (λ n. n % p) (by (w (a x)))
    where
      by : (n : ℕ) → 1 * n + 0 ≡ 1 * (1 * n + 0)
      by n = omega arith

  minus-twice : SameMod p ((p - 1) * (p - 1)) 1
  minus-twice = same-by p ((p - 1) * (p - 1)) 1 1 (p - 1) (by (p - 1) p (omega arith))
    where
      by : (q p : ℕ) → p ≡ suc q → q * q + p * 1 ≡ 1 + p * q
      by q p e = rw e (omega arith)

  module _ {K S K' S' : Type 0} (m : Maps K S) (M : Maps K' S') (raise : K → K') (name : S → S') (base : K') (first : S') where
    -- a generator of positive degree
    abbrev Positive : {J : Type 0} → Complex J → J → Type 0
    Positive C x = (n : ℕ) × C.generator (suc n) x

    -- The generators of M: one of degree 0, none of degree 1, and those of m of positive degree, raised by one degree. Its maps are those
    -- of m, with the sign -1 at the differentials and at h. The differential of m is 0 in degree 1.
    pub record IsRaised : Type 0 where
      pub big_first : (x : K') → M.big.generator zero x → x ≡ base
      pub big_second : (x : K') → M.big.generator 1 x → ⊥
      pub big_others : (n : ℕ) (x : K') → M.big.generator (suc (suc n)) x → (y : K) × m.big.generator (suc n) y × (x ≡ raise y)
      pub small_first : (y : S') → M.small.generator zero y → y ≡ first
      pub small_second : (y : S') → M.small.generator 1 y → ⊥
      pub small_others : (n : ℕ) (y : S') → M.small.generator (suc (suc n)) y → (z : S) × m.small.generator (suc n) z × (y ≡ name z)
      pub d_edge : (x : K) → m.big.generator 1 x → (w : K → ℕ) → SameMod p (weigh w (m.big.d x)) 0
      pub d_base : M.big.d base ≡ []
      pub small_d_first : M.small.d first ≡ []
      pub f_base : M.f base ≡ one first
      pub g_first : M.g first ≡ one base
      pub h_base : M.h base ≡ []
      pub d : IsMoved (p - 1) (Positive m.big) raise raise m.big.d M.big.d
      pub small_d : IsMoved (p - 1) (Positive m.small) name name m.small.d M.small.d
      pub f : IsMoved 1 (Positive m.big) raise name m.f M.f
      pub g : IsMoved 1 (Positive m.small) name raise m.g M.g
      pub h : IsMoved (p - 1) (Positive m.big) raise raise m.h M.h

    module _ (raised : IsRaised) (N : ℕ) (r : IsReductionTo p (suc N) m)
        (big_same : (x y : K) → m.big.same x y ≡ true → x ≡ y) (small_same : (x y : S) → m.small.same x y ≡ true → x ≡ y) where
      big-fair : (w : K → ℕ) (x y : K) → m.big.same x y ≡ true → SameMod p (w x) (w y)
      big-fair w x y e = ap (λ z. w z % p) (big_same x y e)

      small-fair : (w : S → ℕ) (x y : S) → m.small.same x y ≡ true → SameMod p (w x) (w y)
      small-fair w x y e = ap (λ z. w z % p) (small_same x y e)

      -- the small differential is 0 in degree 1: d = f g d = f d g, and d is 0 in degree 1 of the big complex
      pub small-edge : (y : S) → m.small.generator 1 y → (w : S → ℕ) → SameMod p (weigh w (m.small.d y)) 0
      small-edge y is w =
          ap (λ n. n % p) (sym (weigh-one w c))
          ∙ sym (agree p pos m.small.same r.degrees.small.equivalence (m.small.generator zero) (after m.f m.g) (λ z. one z) (λ z i. r.equations.fg zero z (omega arith) i) c (r.degrees.small.lowers zero y is) w (small-fair w))
          ∙ ap (λ n. n % p) (sym (weigh-after w m.f m.g c) ∙ weigh-extend w m.f (extend m.g c))
          ∙ sym (under p pos m.big.same r.degrees.big.graded.equivalence v (big-fair v) (extend m.big.d (m.g y)) (extend m.g c) (r.equations.g_commutes 1 y (omega arith) is))
          ∙ ap (λ n. n % p) (weigh-extend v m.big.d (m.g y))
          ∙ weigh-mod (m.big.generator 1) p (λ x. weigh v (m.big.d x)) (λ x. 0) (λ x i. raised.d_edge x i v) (m.g y) (r.degrees.g.keeps 1 y is)
          ∙ ap (λ n. n % p) (weigh-nothing (m.g y))
        where
          c : Terms S
          c = m.small.d y

          v : K → ℕ
          v z = weigh w (m.f z)

      -- ---- maps go from generators of positive degree to such

      abbrev BigGood : K → Type 0
      BigGood = Positive m.big

      abbrev SmallGood : S → Type 0
      SmallGood = Positive m.small

      d-good : (x : K) → BigGood x → IsGoodOr0 BigGood (m.big.d x)
      d-good x (zero, h) = inr (raised.d_edge x h)
      d-good x (suc n, h) = inl (Each-weaker (m.big.generator (suc n)) BigGood (λ k i. (n, i)) (m.big.d x) (r.degrees.big.graded.lowers (suc n) x h))

      small_d-good : (y : S) → SmallGood y → IsGoodOr0 SmallGood (m.small.d y)
      small_d-good y (zero, h) = inr (small-edge y h)
      small_d-good y (suc n, h) = inl (Each-weaker (m.small.generator (suc n)) SmallGood (λ k i. (n, i)) (m.small.d y) (r.degrees.small.lowers (suc n) y h))

      f-good : (x : K) → BigGood x → IsGoodOr0 SmallGood (m.f x)
      f-good x h = inl (Each-weaker (m.small.generator (suc h.0)) SmallGood (λ k i. (h.0, i)) (m.f x) (r.degrees.f.keeps (suc h.0) x h.1))

      g-good : (y : S) → SmallGood y → IsGoodOr0 BigGood (m.g y)
      g-good y h = inl (Each-weaker (m.big.generator (suc h.0)) BigGood (λ k i. (h.0, i)) (m.g y) (r.degrees.g.keeps (suc h.0) y h.1))

      h-good : (x : K) → BigGood x → IsGoodOr0 BigGood (m.h x)
      h-good x h = inl (Each-weaker (m.big.generator (suc (suc h.0))) BigGood (λ k i. (suc h.0, i)) (m.h x) (r.degrees.h.raises (suc h.0) x h.1))

      -- ---- equations are carried over

      to-big : (A : Type 0) (A' : Type 0) (Good : A → Type 0) (a : A → A') (s : ℕ) (F G : A → Terms K) (F' G' : A' → Terms K')
          → IsMoved s Good a raise F F' → IsMoved s Good a raise G G' → (x : A) → Good x → SameTerms p m.big.same (F x) (G x) → SameTerms p M.big.same (F' (a x)) (G' (a x))
      to-big A A' Good a s F G F' G' f g x good e k =
          f x good w ∙ same-times p s _ _ (under p pos m.big.same r.degrees.big.graded.equivalence (λ z. w (raise z)) (big-fair (λ z. w (raise z))) (F x) (G x) e) ∙ sym (g x good w)
        where
          w : K' → ℕ
          w y = cond (M.big.same y k) 1 0

      to-small : (A : Type 0) (A' : Type 0) (Good : A → Type 0) (a : A → A') (s : ℕ) (F G : A → Terms S) (F' G' : A' → Terms S')
          → IsMoved s Good a name F F' → IsMoved s Good a name G G' → (x : A) → Good x → SameTerms p m.small.same (F x) (G x) → SameTerms p M.small.same (F' (a x)) (G' (a x))
      to-small A A' Good a s F G F' G' f g x good e k =
          f x good w ∙ same-times p s _ _ (under p pos m.small.same r.degrees.small.equivalence (λ z. w (name z)) (small-fair (λ z. w (name z))) (F x) (G x) e) ∙ sym (g x good w)
        where
          w : S' → ℕ
          w y = cond (M.small.same y k) 1 0

      -- ---- the generators of M

      at-big : (P : K' → Type 0) → P base → ((n : ℕ) (y : K) → suc n ≤ suc N → m.big.generator (suc n) y → P (raise y))
          → (n : ℕ) (x : K') → n ≤ suc (suc N) → M.big.generator n x → P x
      at-big P b u zero x l is = subst P (sym (raised.big_first x is)) b
      at-big P b u (suc zero) x l is = absurd (raised.big_second x is)
      at-big P b u (suc (suc n)) x l is = let o = raised.big_others n x is in subst P (sym o.2) (u n o.0 (omega arith) o.1)

      at-small : (P : S' → Type 0) → P first → ((n : ℕ) (z : S) → suc n ≤ suc N → m.small.generator (suc n) z → P (name z))
          → (n : ℕ) (y : S') → n ≤ suc (suc N) → M.small.generator n y → P y
      at-small P b u zero y l is = subst P (sym (raised.small_first y is)) b
      at-small P b u (suc zero) y l is = absurd (raised.small_second y is)
      at-small P b u (suc (suc n)) y l is = let o = raised.small_others n y is in subst P (sym o.2) (u n o.0 (omega arith) o.1)

      -- ---- the equations

      once : SameMod p (1 * (p - 1)) ((p - 1) * 1)
      once = ap (λ k. k % p) (by (p - 1))
        where
          by : (q : ℕ) → 1 * q ≡ q * 1
          by q = omega arith

      raised-f_commutes : (n : ℕ) (x : K') → n ≤ suc (suc N) → M.big.generator n x → SameTerms p M.small.same (after M.small.d M.f x) (after M.f M.big.d x)
      raised-f_commutes =
          at-big (λ x. SameTerms p M.small.same (after M.small.d M.f x) (after M.f M.big.d x))
          (λ k. (λ i. weigh (λ x. cond (M.small.same x k) 1 0) (extend M.small.d (raised.f_base i)) % p)
          ∙ (λ i. weigh (λ x. cond (M.small.same x k) 1 0) (extend {K = S'} (λ y. raised.small_d_first i) (one first)) % p)
          ∙ sym (λ i. weigh (λ x. cond (M.small.same x k) 1 0) (extend M.f (raised.d_base i)) % p))
          (λ n y l is. to-small K K' BigGood raise ((p - 1) * 1) (after m.small.d m.f) (after m.f m.big.d) (after M.small.d M.f) (after M.f M.big.d)
          (moved-as BigGood raise name (1 * (p - 1)) ((p - 1) * 1) (after m.small.d m.f) (after M.small.d M.f) once
          (moved-after raise name name 1 (p - 1) BigGood SmallGood m.f M.f m.small.d M.small.d raised.f raised.small_d f-good))
          (moved-after raise raise name (p - 1) 1 BigGood BigGood m.big.d M.big.d m.f M.f raised.d raised.f d-good)
          y (n, is) (r.equations.f_commutes (suc n) y l is))

      raised-g_commutes : (n : ℕ) (y : S') → n ≤ suc (suc N) → M.small.generator n y → SameTerms p M.big.same (after M.big.d M.g y) (after M.g M.small.d y)
      raised-g_commutes =
          at-small (λ y. SameTerms p M.big.same (after M.big.d M.g y) (after M.g M.small.d y))
          (λ k. (λ i. weigh (λ x. cond (M.big.same x k) 1 0) (extend M.big.d (raised.g_first i)) % p)
          ∙ (λ i. weigh (λ x. cond (M.big.same x k) 1 0) (extend {K = K'} (λ x. raised.d_base i) (one base)) % p)
          ∙ sym (λ i. weigh (λ x. cond (M.big.same x k) 1 0) (extend M.g (raised.small_d_first i)) % p))
          (λ n y l is. to-big S S' SmallGood name ((p - 1) * 1) (after m.big.d m.g) (after m.g m.small.d) (after M.big.d M.g) (after M.g M.small.d)
          (moved-as SmallGood name raise (1 * (p - 1)) ((p - 1) * 1) (after m.big.d m.g) (after M.big.d M.g) once
          (moved-after name raise raise 1 (p - 1) SmallGood BigGood m.g M.g m.big.d M.big.d raised.g raised.d g-good))
          (moved-after name name raise (p - 1) 1 SmallGood SmallGood m.small.d M.small.d m.g M.g raised.small_d raised.g small_d-good)
          y (n, is) (r.equations.g_commutes (suc n) y l is))

      raised-twice : (n : ℕ) (y : S') → n ≤ suc (suc N) → M.small.generator n y → SameTerms p M.small.same (after M.small.d M.small.d y) []
      raised-twice =
          at-small (λ y. SameTerms p M.small.same (after M.small.d M.small.d y) [])
          (λ k. (λ i. weigh (λ x. cond (M.small.same x k) 1 0) (extend M.small.d (raised.small_d_first i)) % p))
          (λ n y l is. to-small S S' SmallGood name ((p - 1) * (p - 1)) (after m.small.d m.small.d) (λ y. []) (after M.small.d M.small.d) (λ y. [])
          (moved-after name name name (p - 1) (p - 1) SmallGood SmallGood m.small.d M.small.d m.small.d M.small.d raised.small_d raised.small_d small_d-good)
          (moved-nothing SmallGood name name ((p - 1) * (p - 1)))
          y (n, is) (r.equations.twice (suc n) y l is))

      raised-fg : (n : ℕ) (y : S') → n ≤ suc (suc N) → M.small.generator n y → SameTerms p M.small.same (after M.f M.g y) (one y)
      raised-fg =
          at-small (λ y. SameTerms p M.small.same (after M.f M.g y) (one y))
          (λ k. (λ i. weigh (λ x. cond (M.small.same x k) 1 0) (extend M.f (raised.g_first i)) % p)
          ∙ (λ i. weigh (λ x. cond (M.small.same x k) 1 0) (extend {K = K'} (λ x. raised.f_base i) (one base)) % p))
          (λ n y l is. to-small S S' SmallGood name 1 (after m.f m.g) (λ y. one y) (after M.f M.g) (λ y. one y)
          (moved-after name raise name 1 1 SmallGood BigGood m.g M.g m.f M.f raised.g raised.f g-good)
          (moved-one SmallGood name)
          y (n, is) (r.equations.fg (suc n) y l is))

      raised-homotopy : (n : ℕ) (x : K') → n ≤ suc (suc N) → M.big.generator n x
          → SameTerms p M.big.same (after M.big.d M.h x ++ (after M.h M.big.d x ++ after M.g M.f x)) (one x)
      raised-homotopy =
          at-big (λ x. SameTerms p M.big.same (after M.big.d M.h x ++ (after M.h M.big.d x ++ after M.g M.f x)) (one x))
          (λ k. (λ i. weigh (λ x. cond (M.big.same x k) 1 0) (extend M.big.d (raised.h_base i) ++ (extend M.h (raised.d_base i) ++ extend M.g (raised.f_base i))) % p)
          ∙ (λ i. weigh (λ x. cond (M.big.same x k) 1 0) (extend {K = S'} (λ y. raised.g_first i) (one first)) % p))
          (λ n y l is. to-big K K' BigGood raise 1 (λ x. after m.big.d m.h x ++ (after m.h m.big.d x ++ after m.g m.f x)) (λ x. one x)
          (λ x. after M.big.d M.h x ++ (after M.h M.big.d x ++ after M.g M.f x)) (λ x. one x)
          (moved-both BigGood raise raise 1 (after m.big.d m.h) (λ x. after m.h m.big.d x ++ after m.g m.f x) (after M.big.d M.h) (λ x. after M.h M.big.d x ++ after M.g M.f x)
          (moved-as BigGood raise raise ((p - 1) * (p - 1)) 1 (after m.big.d m.h) (after M.big.d M.h) minus-twice
          (moved-after raise raise raise (p - 1) (p - 1) BigGood BigGood m.h M.h m.big.d M.big.d raised.h raised.d h-good))
          (moved-both BigGood raise raise 1 (after m.h m.big.d) (after m.g m.f) (after M.h M.big.d) (after M.g M.f)
          (moved-as BigGood raise raise ((p - 1) * (p - 1)) 1 (after m.h m.big.d) (after M.h M.big.d) minus-twice
          (moved-after raise raise raise (p - 1) (p - 1) BigGood BigGood m.big.d M.big.d m.h M.h raised.d raised.h d-good))
          (moved-after raise name raise 1 1 BigGood SmallGood m.f M.f m.g M.g raised.f raised.g f-good)))
          (moved-one BigGood raise)
          y (n, is) (r.equations.homotopy (suc n) y l is))

      raised-fh : (n : ℕ) (x : K') → n ≤ suc (suc N) → M.big.generator n x → SameTerms p M.small.same (after M.f M.h x) []
      raised-fh =
          at-big (λ x. SameTerms p M.small.same (after M.f M.h x) [])
          (λ k. (λ i. weigh (λ x. cond (M.small.same x k) 1 0) (extend M.f (raised.h_base i)) % p))
          (λ n y l is. to-small K K' BigGood raise ((p - 1) * 1) (after m.f m.h) (λ x. []) (after M.f M.h) (λ x. [])
          (moved-after raise raise name (p - 1) 1 BigGood BigGood m.h M.h m.f M.f raised.h raised.f h-good)
          (moved-nothing BigGood raise name ((p - 1) * 1))
          y (n, is) (r.equations.fh (suc n) y l is))

      raised-hg : (n : ℕ) (y : S') → n ≤ suc (suc N) → M.small.generator n y → SameTerms p M.big.same (after M.h M.g y) []
      raised-hg =
          at-small (λ y. SameTerms p M.big.same (after M.h M.g y) [])
          (λ k. (λ i. weigh (λ x. cond (M.big.same x k) 1 0) (extend M.h (raised.g_first i)) % p)
          ∙ (λ i. weigh (λ x. cond (M.big.same x k) 1 0) (extend {K = K'} (λ x. raised.h_base i) (one base)) % p))
          (λ n y l is. to-big S S' SmallGood name (1 * (p - 1)) (after m.h m.g) (λ y. []) (after M.h M.g) (λ y. [])
          (moved-after name raise raise 1 (p - 1) SmallGood BigGood m.g M.g m.h M.h raised.g raised.h g-good)
          (moved-nothing SmallGood name raise (1 * (p - 1)))
          y (n, is) (r.equations.hg (suc n) y l is))

      raised-hh : (n : ℕ) (x : K') → n ≤ suc (suc N) → M.big.generator n x → SameTerms p M.big.same (after M.h M.h x) []
      raised-hh =
          at-big (λ x. SameTerms p M.big.same (after M.h M.h x) [])
          (λ k. (λ i. weigh (λ x. cond (M.big.same x k) 1 0) (extend M.h (raised.h_base i)) % p))
          (λ n y l is. to-big K K' BigGood raise ((p - 1) * (p - 1)) (after m.h m.h) (λ x. []) (after M.h M.h) (λ x. [])
          (moved-after raise raise raise (p - 1) (p - 1) BigGood BigGood m.h M.h m.h M.h raised.h raised.h h-good)
          (moved-nothing BigGood raise raise ((p - 1) * (p - 1)))
          y (n, is) (r.equations.hh (suc n) y l is))

      pub raised-equations : HasEquations p (suc (suc N)) M
      raised-equations = record {
        f_commutes = raised-f_commutes;
        g_commutes = raised-g_commutes;
        twice = raised-twice;
        fg = raised-fg;
        homotopy = raised-homotopy;
        fh = raised-fh;
        hg = raised-hg;
        hh = raised-hh;
      }
