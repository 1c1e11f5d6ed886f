-- A reduction on plain generators, read on the generators of the code that stand for them, up to a bound.
use Rattle.std.proofs.Common.{◌≡◌, ℕ, zero, suc, ◌+◌, ◌-◌, ◌*◌, ◌%◌, ◌<◌, ◌≤◌, [], ◌∷◌, ◌++◌, Bool, true, ◌⊎◌, inl, inr, refl, sym, ◌∙◌, ap, subst, arith}
use Rattle.std.specs.Cmp.{IsEquivalence}
use Rattle.fp_field.specs.Field.{SameMod}
use Rattle.fp_field.specs.Chains.{Terms, weigh, extend, Each}
use Rattle.fp_field.specs.Reduction.{SameTerms, after, one, Maps, IsReduction, IsReductionTo, HasDegrees, HasEquations}
use Rattle.fp_field.proofs.Weights.{weigh-append, weigh-extend, weigh-along}
use Rattle.fp_field.proofs.Fair.{under}
use Rattle.ez_laws.specs.Sides.{on_keys}
use Rattle.ez_laws.proofs.Joined.{same-terms}
use Rattle.ez_flow.proofs.Pushes.{weigh-on-keys}

-- an equivalence that is equality
pub record Tells {K : Type 0} (same : K → K → Bool) : Type 0 where
  pub equivalence : IsEquivalence same
  pub is : (x y : K) → same x y ≡ true → x ≡ y

-- generators of the code for the plain ones of each degree, and the maps on them
pub record Reads {K J B S : Type 0} (bound : ℕ) (plain : Maps K J) (code : Maps B S) (HasB : ℕ → K → Type 0) (HasS : ℕ → J → Type 0) (keyB : K → B) (keyS : J → S) : Type 0 where
  pub plain_big : Tells plain.big.same
  pub plain_small : Tells plain.small.same
  pub code_big : Tells code.big.same
  pub code_small : Tells code.small.same
  pub big_from : (n : ℕ) (x : B) → code.big.generator n x → (k : K) × HasB n k × (keyB k ≡ x) × (n ≤ bound)
  pub small_from : (n : ℕ) (y : S) → code.small.generator n y → (k : J) × HasS n k × (keyS k ≡ y) × (n ≤ bound)
  pub big_is : (n : ℕ) (k : K) → HasB n k → n ≤ bound → code.big.generator n (keyB k)
  pub small_is : (n : ℕ) (k : J) → HasS n k → n ≤ bound → code.small.generator n (keyS k)
  pub big_plain : (n : ℕ) (k : K) → HasB n k → plain.big.generator n k
  pub small_plain : (n : ℕ) (k : J) → HasS n k → plain.small.generator n k
  pub d : (n : ℕ) (k : K) → HasB n k → code.big.d (keyB k) ≡ on_keys keyB (plain.big.d k)
  pub b : (n : ℕ) (k : J) → HasS n k → code.small.d (keyS k) ≡ on_keys keyS (plain.small.d k)
  pub f : (n : ℕ) (k : K) → HasB n k → code.f (keyB k) ≡ on_keys keyS (plain.f k)
  pub g : (n : ℕ) (k : J) → HasS n k → code.g (keyS k) ≡ on_keys keyB (plain.g k)
  pub h : (n : ℕ) (k : K) → HasB n k → suc n ≤ bound → code.h (keyB k) ≡ on_keys keyB (plain.h k)
  pub h_top : (n : ℕ) (k : K) → HasB n k → n ≡ bound → code.h (keyB k) ≡ []
  pub d_has : (n : ℕ) (k : K) → HasB n k → n ≤ bound → Each (HasB (n - 1)) (plain.big.d k)
  pub b_has : (n : ℕ) (k : J) → HasS n k → n ≤ bound → Each (HasS (n - 1)) (plain.small.d k)
  pub f_has : (n : ℕ) (k : K) → HasB n k → n ≤ bound → Each (HasS n) (plain.f k)
  pub g_has : (n : ℕ) (k : J) → HasS n k → n ≤ bound → Each (HasB n) (plain.g k)
  pub h_has : (n : ℕ) (k : K) → HasB n k → suc n ≤ bound → Each (HasB (suc n)) (plain.h k)

-- the weight of an image of a chain of the code
read-after : {A A' C C' : Type 0} (Has : A → Type 0) (key : A → A') (key' : C → C') (F : A → Terms C) (F' : A' → Terms C') → ((a : A) → Has a → F' (key a) ≡ on_keys key' (F a))
    → (w : C' → ℕ) (c : Terms A) → Each Has c → weigh w (extend F' (on_keys key c)) ≡ weigh (λ z. w (key' z)) (extend F c)
read-after Has key key' F F' read w c h =
    weigh-extend w F' (on_keys key c)
    ∙ weigh-on-keys (λ x. weigh w (F' x)) key c
    ∙ weigh-along Has (λ a. weigh w (F' (key a))) (λ a. weigh (λ z. w (key' z)) (F a)) (λ a i. ap (weigh w) (read a i) ∙ weigh-on-keys w key' (F a)) c h
    ∙ sym (weigh-extend (λ z. w (key' z)) F c)

no-after : {A A' C' : Type 0} (Has : A → Type 0) (key : A → A') (F' : A' → Terms C') → ((a : A) → Has a → F' (key a) ≡ []) → (w : C' → ℕ) (c : Terms A) → Each Has c → weigh w (extend F' (on_keys key c)) ≡ 0
no-after Has key F' none w [] h = refl
no-after Has key F' none w (t ∷ c) h =
    weigh-extend w F' (on_keys key (t ∷ c))
    ∙ ap (λ l. t.1 * weigh w l + weigh (λ x. weigh w (F' x)) (on_keys key c)) (none t.0 h.0)
    ∙ (let q : t.1 * 0 + weigh (λ x. weigh w (F' x)) (on_keys key c) ≡ weigh (λ x. weigh w (F' x)) (on_keys key c) = omega arith in q)
    ∙ sym (weigh-extend w F' (on_keys key c)) ∙ no-after Has key F' none w c h.1

top : (n b : ℕ) → n ≤ b → (n ≡ b) ⊎ (suc n ≤ b)
top zero zero l = inl refl
top zero (suc b) l = inr (omega arith)
top (suc n) zero l = absurd (omega (arith, l))
top (suc n) (suc b) l = elim (top n b (omega (arith, l))) as (λ v. (suc n ≡ suc b) ⊎ (suc (suc n) ≤ suc b)) [ inl e ↦ inl (ap suc e) | inr m ↦ inr (omega (arith, m)) ]

module _ (p : ℕ) (pos : 0 < p) {K J B S : Type 0} (bound : ℕ) (plain : Maps K J) (code : Maps B S) (HasB : ℕ → K → Type 0) (HasS : ℕ → J → Type 0) (keyB : K → B) (keyS : J → S)
    (r : Reads bound plain code HasB HasS keyB keyS) (whole : IsReduction p plain) where
  same-weights : {A : Type 0} (same : A → A → Bool) → Tells same → (c d : Terms A) → SameTerms p same c d → (w : A → ℕ) → SameMod p (weigh w c) (weigh w d)
  same-weights same t c d h w = under p pos same t.equivalence w (λ x y e. ap (λ z. w z % p) (t.is x y e)) c d h

  -- the plain equations up to a degree
  at : (n : ℕ) → IsReductionTo p n plain
  at n = whole n

  -- ---- the images of generators

  fd-code : (n : ℕ) (k : K) → HasB n k → n ≤ bound → (w : S → ℕ) → weigh w (after code.f code.big.d (keyB k)) ≡ weigh (λ z. w (keyS z)) (after plain.f plain.big.d k)
  fd-code n k i l w = ap (λ c. weigh w (extend code.f c)) (r.d n k i) ∙ read-after (HasB (n - 1)) keyB keyS plain.f code.f (λ a j. r.f (n - 1) a j) w (plain.big.d k) (r.d_has n k i l)

  bf-code : (n : ℕ) (k : K) → HasB n k → n ≤ bound → (w : S → ℕ) → weigh w (after code.small.d code.f (keyB k)) ≡ weigh (λ z. w (keyS z)) (after plain.small.d plain.f k)
  bf-code n k i l w = ap (λ c. weigh w (extend code.small.d c)) (r.f n k i) ∙ read-after (HasS n) keyS keyS plain.small.d code.small.d (λ a j. r.b n a j) w (plain.f k) (r.f_has n k i l)

  dg-code : (n : ℕ) (k : J) → HasS n k → n ≤ bound → (w : B → ℕ) → weigh w (after code.big.d code.g (keyS k)) ≡ weigh (λ z. w (keyB z)) (after plain.big.d plain.g k)
  dg-code n k i l w = ap (λ c. weigh w (extend code.big.d c)) (r.g n k i) ∙ read-after (HasB n) keyB keyB plain.big.d code.big.d (λ a j. r.d n a j) w (plain.g k) (r.g_has n k i l)

  gb-code : (n : ℕ) (k : J) → HasS n k → n ≤ bound → (w : B → ℕ) → weigh w (after code.g code.small.d (keyS k)) ≡ weigh (λ z. w (keyB z)) (after plain.g plain.small.d k)
  gb-code n k i l w = ap (λ c. weigh w (extend code.g c)) (r.b n k i) ∙ read-after (HasS (n - 1)) keyS keyB plain.g code.g (λ a j. r.g (n - 1) a j) w (plain.small.d k) (r.b_has n k i l)

  dd-code : (n : ℕ) (k : K) → HasB n k → n ≤ bound → (w : B → ℕ) → weigh w (after code.big.d code.big.d (keyB k)) ≡ weigh (λ z. w (keyB z)) (after plain.big.d plain.big.d k)
  dd-code n k i l w = ap (λ c. weigh w (extend code.big.d c)) (r.d n k i) ∙ read-after (HasB (n - 1)) keyB keyB plain.big.d code.big.d (λ a j. r.d (n - 1) a j) w (plain.big.d k) (r.d_has n k i l)

  bb-code : (n : ℕ) (k : J) → HasS n k → n ≤ bound → (w : S → ℕ) → weigh w (after code.small.d code.small.d (keyS k)) ≡ weigh (λ z. w (keyS z)) (after plain.small.d plain.small.d k)
  bb-code n k i l w = ap (λ c. weigh w (extend code.small.d c)) (r.b n k i) ∙ read-after (HasS (n - 1)) keyS keyS plain.small.d code.small.d (λ a j. r.b (n - 1) a j) w (plain.small.d k) (r.b_has n k i l)

  fg-code : (n : ℕ) (k : J) → HasS n k → n ≤ bound → (w : S → ℕ) → weigh w (after code.f code.g (keyS k)) ≡ weigh (λ z. w (keyS z)) (after plain.f plain.g k)
  fg-code n k i l w = ap (λ c. weigh w (extend code.f c)) (r.g n k i) ∙ read-after (HasB n) keyB keyS plain.f code.f (λ a j. r.f n a j) w (plain.g k) (r.g_has n k i l)

  gf-code : (n : ℕ) (k : K) → HasB n k → n ≤ bound → (w : B → ℕ) → weigh w (after code.g code.f (keyB k)) ≡ weigh (λ z. w (keyB z)) (after plain.g plain.f k)
  gf-code n k i l w = ap (λ c. weigh w (extend code.g c)) (r.f n k i) ∙ read-after (HasS n) keyS keyB plain.g code.g (λ a j. r.g n a j) w (plain.f k) (r.f_has n k i l)

  dh-code : (n : ℕ) (k : K) → HasB n k → suc n ≤ bound → (w : B → ℕ) → weigh w (after code.big.d code.h (keyB k)) ≡ weigh (λ z. w (keyB z)) (after plain.big.d plain.h k)
  dh-code n k i l w = ap (λ c. weigh w (extend code.big.d c)) (r.h n k i l) ∙ read-after (HasB (suc n)) keyB keyB plain.big.d code.big.d (λ a j. r.d (suc n) a j) w (plain.h k) (r.h_has n k i l)

  hd-code : (n : ℕ) (k : K) → HasB n k → suc n ≤ bound → (w : B → ℕ) → weigh w (after code.h code.big.d (keyB k)) ≡ weigh (λ z. w (keyB z)) (after plain.h plain.big.d k)
  hd-code n k i l w = ap (λ c. weigh w (extend code.h c)) (r.d n k i)
      ∙ read-after (HasB (n - 1)) keyB keyB plain.h code.h (λ a j. r.h (n - 1) a j (omega (arith, l))) w (plain.big.d k) (r.d_has n k i (omega (arith, l)))

  fh-code : (n : ℕ) (k : K) → HasB n k → suc n ≤ bound → (w : S → ℕ) → weigh w (after code.f code.h (keyB k)) ≡ weigh (λ z. w (keyS z)) (after plain.f plain.h k)
  fh-code n k i l w = ap (λ c. weigh w (extend code.f c)) (r.h n k i l) ∙ read-after (HasB (suc n)) keyB keyS plain.f code.f (λ a j. r.f (suc n) a j) w (plain.h k) (r.h_has n k i l)

  hg-code : (n : ℕ) (k : J) → HasS n k → suc n ≤ bound → (w : B → ℕ) → weigh w (after code.h code.g (keyS k)) ≡ weigh (λ z. w (keyB z)) (after plain.h plain.g k)
  hg-code n k i l w = ap (λ c. weigh w (extend code.h c)) (r.g n k i)
      ∙ read-after (HasB n) keyB keyB plain.h code.h (λ a j. r.h n a j l) w (plain.g k) (r.g_has n k i (omega (arith, l)))

  -- ---- degrees

  on-big : (Q : ℕ → B → Type 0) → ((n : ℕ) (k : K) → HasB n k → n ≤ bound → Q n (keyB k)) → (n : ℕ) (x : B) → code.big.generator n x → Q n x
  on-big Q e n x i = let s = r.big_from n x i in subst (Q n) s.2 (e n s.0 s.1 s.3)

  on-small : (Q : ℕ → S → Type 0) → ((n : ℕ) (k : J) → HasS n k → n ≤ bound → Q n (keyS k)) → (n : ℕ) (y : S) → code.small.generator n y → Q n y
  on-small Q e n y i = let s = r.small_from n y i in subst (Q n) s.2 (e n s.0 s.1 s.3)

  each-big : (n : ℕ) (c : Terms K) → n ≤ bound → Each (HasB n) c → Each (code.big.generator n) (on_keys keyB c)
  each-big n [] l h = tt
  each-big n (t ∷ c) l h = (r.big_is n t.0 h.0 l, each-big n c l h.1)

  each-small : (n : ℕ) (c : Terms J) → n ≤ bound → Each (HasS n) c → Each (code.small.generator n) (on_keys keyS c)
  each-small n [] l h = tt
  each-small n (t ∷ c) l h = (r.small_is n t.0 h.0 l, each-small n c l h.1)

  lowers-big : (n : ℕ) (k : K) → HasB (suc n) k → suc n ≤ bound → Each (code.big.generator n) (code.big.d (keyB k))
  lowers-big n k i l =
      let e : suc n - 1 ≡ n = omega arith in
      subst (Each (code.big.generator n)) (sym (r.d (suc n) k i)) (each-big n (plain.big.d k) (omega (arith, l)) (subst (λ m. Each (HasB m) (plain.big.d k)) e (r.d_has (suc n) k i l)))

  lowers-small : (n : ℕ) (k : J) → HasS (suc n) k → suc n ≤ bound → Each (code.small.generator n) (code.small.d (keyS k))
  lowers-small n k i l =
      let e : suc n - 1 ≡ n = omega arith in
      subst (Each (code.small.generator n)) (sym (r.b (suc n) k i)) (each-small n (plain.small.d k) (omega (arith, l)) (subst (λ m. Each (HasS m) (plain.small.d k)) e (r.b_has (suc n) k i l)))

  raises : (n : ℕ) (k : K) → HasB n k → n ≤ bound → Each (code.big.generator (suc n)) (code.h (keyB k))
  raises n k i l = elim (top n bound l) as (λ v. Each (code.big.generator (suc n)) (code.h (keyB k))) [
    | inl e ↦ subst (Each (code.big.generator (suc n))) (sym (r.h_top n k i e)) tt
    | inr m ↦ subst (Each (code.big.generator (suc n))) (sym (r.h n k i m)) (each-big (suc n) (plain.h k) m (r.h_has n k i m))
  ]

  abbrev D : HasDegrees p plain
  D = (whole 0).degrees

  abbrev big-same : (x y : B) → code.big.same x y ≡ true → x ≡ y
  big-same x y e = r.code_big.is x y e

  respects : {A C : Type 0} (same : A → A → Bool) (same' : C → C → Bool) → Tells same → (F : A → Terms C) → (x y : A) → same x y ≡ true → SameTerms p same' (F x) (F y)
  respects same same' t F x y e = same-terms p same' (F x) (F y) (λ w. ap (λ z. weigh w (F z) % p) (t.is x y e))

  pub degrees : HasDegrees p code
  degrees = record {
    big = record {
      graded = record {
        equivalence = r.code_big.equivalence;
        lowers = λ n x i. let s = r.big_from (suc n) x i in subst (λ y. Each (code.big.generator n) (code.big.d y)) s.2 (lowers-big n s.0 s.1 s.3);
        ends = λ x i. let s = r.big_from 0 x i in
            ap code.big.d (sym s.2) ∙ r.d 0 s.0 s.1 ∙ ap (on_keys keyB) (D.big.graded.ends s.0 (r.big_plain 0 s.0 s.1));
        respects = respects code.big.same code.big.same r.code_big code.big.d;
      };
      twice = on-big (λ n x. SameTerms p code.big.same (after code.big.d code.big.d x) [])
          (λ n k i l. same-terms p code.big.same (after code.big.d code.big.d (keyB k)) []
          (λ w. ap (λ m. m % p) (dd-code n k i l w) ∙ same-weights plain.big.same r.plain_big (after plain.big.d plain.big.d k) [] (D.big.twice n k (r.big_plain n k i)) (λ z. w (keyB z))));
    };
    small = record {
      equivalence = r.code_small.equivalence;
      lowers = λ n y i. let s = r.small_from (suc n) y i in subst (λ y. Each (code.small.generator n) (code.small.d y)) s.2 (lowers-small n s.0 s.1 s.3);
      ends = λ y i. let s = r.small_from 0 y i in
          ap code.small.d (sym s.2) ∙ r.b 0 s.0 s.1 ∙ ap (on_keys keyS) (D.small.ends s.0 (r.small_plain 0 s.0 s.1));
      respects = respects code.small.same code.small.same r.code_small code.small.d;
    };
    f = record {
      keeps = on-big (λ n x. Each (code.small.generator n) (code.f x)) (λ n k i l. subst (Each (code.small.generator n)) (sym (r.f n k i)) (each-small n (plain.f k) l (r.f_has n k i l)));
      respects = respects code.big.same code.small.same r.code_big code.f;
    };
    g = record {
      keeps = on-small (λ n y. Each (code.big.generator n) (code.g y)) (λ n k i l. subst (Each (code.big.generator n)) (sym (r.g n k i)) (each-big n (plain.g k) l (r.g_has n k i l)));
      respects = respects code.small.same code.big.same r.code_small code.g;
    };
    h = record {
      raises = on-big (λ n x. Each (code.big.generator (suc n)) (code.h x)) raises;
      respects = respects code.big.same code.big.same r.code_big code.h;
    };
  }

  -- ---- equations

  eq-big : {C : Type 0} (key : C → B) (F : Terms B) (G : Terms B) (X Y : Terms C) (same : C → C → Bool) → Tells same
      → ((w : B → ℕ) → weigh w F ≡ weigh (λ z. w (key z)) X) → ((w : B → ℕ) → weigh w G ≡ weigh (λ z. w (key z)) Y) → SameTerms p same X Y → SameTerms p code.big.same F G
  eq-big key F G X Y same t a b h = same-terms p code.big.same F G (λ w. ap (λ m. m % p) (a w) ∙ same-weights same t X Y h (λ z. w (key z)) ∙ ap (λ m. m % p) (sym (b w)))

  eq-small : {C : Type 0} (key : C → S) (F : Terms S) (G : Terms S) (X Y : Terms C) (same : C → C → Bool) → Tells same
      → ((w : S → ℕ) → weigh w F ≡ weigh (λ z. w (key z)) X) → ((w : S → ℕ) → weigh w G ≡ weigh (λ z. w (key z)) Y) → SameTerms p same X Y → SameTerms p code.small.same F G
  eq-small key F G X Y same t a b h = same-terms p code.small.same F G (λ w. ap (λ m. m % p) (a w) ∙ same-weights same t X Y h (λ z. w (key z)) ∙ ap (λ m. m % p) (sym (b w)))

  homotopy-code : (n : ℕ) (k : K) → HasB n k → suc n ≤ bound → (w : B → ℕ)
      → weigh w (after code.big.d code.h (keyB k) ++ (after code.h code.big.d (keyB k) ++ after code.g code.f (keyB k)))
      ≡ weigh (λ z. w (keyB z)) (after plain.big.d plain.h k ++ (after plain.h plain.big.d k ++ after plain.g plain.f k))
  homotopy-code n k i l w =
      let u : K → ℕ = λ z. w (keyB z) in
      weigh-append w (after code.big.d code.h (keyB k)) (after code.h code.big.d (keyB k) ++ after code.g code.f (keyB k))
      ∙ ap (λ m. weigh w (after code.big.d code.h (keyB k)) + m) (weigh-append w (after code.h code.big.d (keyB k)) (after code.g code.f (keyB k)))
      ∙ (λ j. dh-code n k i l w j + (hd-code n k i l w j + gf-code n k i (omega (arith, l)) w j))
      ∙ ap (λ m. weigh u (after plain.big.d plain.h k) + m) (sym (weigh-append u (after plain.h plain.big.d k) (after plain.g plain.f k)))
      ∙ sym (weigh-append u (after plain.big.d plain.h k) (after plain.h plain.big.d k ++ after plain.g plain.f k))

  hh-none : (n : ℕ) (k : K) → HasB n k → suc n ≤ bound → SameTerms p code.big.same (after code.h code.h (keyB k)) []
  hh-none n k i l = elim (top (suc n) bound l) as (λ v. SameTerms p code.big.same (after code.h code.h (keyB k)) []) [
    | inl e ↦ same-terms p code.big.same (after code.h code.h (keyB k)) []
        (λ w. ap (λ m. m % p) (ap (λ c. weigh w (extend code.h c)) (r.h n k i l) ∙ no-after (HasB (suc n)) keyB code.h (λ a j. r.h_top (suc n) a j e) w (plain.h k) (r.h_has n k i l)))
    | inr m ↦ same-terms p code.big.same (after code.h code.h (keyB k)) []
        (λ w. ap (λ m. m % p)
        (ap (λ c. weigh w (extend code.h c)) (r.h n k i l) ∙ read-after (HasB (suc n)) keyB keyB plain.h code.h (λ a j. r.h (suc n) a j m) w (plain.h k) (r.h_has n k i l))
        ∙ same-weights plain.big.same r.plain_big (after plain.h plain.h k) [] ((at n).equations.hh n k (omega arith) (r.big_plain n k i)) (λ z. w (keyB z)))
  ]

  pub equations : (N : ℕ) → suc N ≤ bound → HasEquations p N code
  equations N below = record {
    f_commutes = λ n x l i. on-big (λ n x. n ≤ N → SameTerms p code.small.same (after code.small.d code.f x) (after code.f code.big.d x))
        (λ n k j m q. eq-small keyS (after code.small.d code.f (keyB k)) (after code.f code.big.d (keyB k)) (after plain.small.d plain.f k) (after plain.f plain.big.d k) plain.small.same r.plain_small
        (bf-code n k j m) (fd-code n k j m) ((at n).equations.f_commutes n k (omega arith) (r.big_plain n k j))) n x i l;
    g_commutes = λ n y l i. on-small (λ n y. n ≤ N → SameTerms p code.big.same (after code.big.d code.g y) (after code.g code.small.d y))
        (λ n k j m q. eq-big keyB (after code.big.d code.g (keyS k)) (after code.g code.small.d (keyS k)) (after plain.big.d plain.g k) (after plain.g plain.small.d k) plain.big.same r.plain_big
        (dg-code n k j m) (gb-code n k j m) ((at n).equations.g_commutes n k (omega arith) (r.small_plain n k j))) n y i l;
    twice = λ n y l i. on-small (λ n y. n ≤ N → SameTerms p code.small.same (after code.small.d code.small.d y) [])
        (λ n k j m q. eq-small keyS (after code.small.d code.small.d (keyS k)) [] (after plain.small.d plain.small.d k) [] plain.small.same r.plain_small
        (bb-code n k j m) (λ w. refl) ((at n).equations.twice n k (omega arith) (r.small_plain n k j))) n y i l;
    fg = λ n y l i. on-small (λ n y. n ≤ N → SameTerms p code.small.same (after code.f code.g y) (one y))
        (λ n k j m q. eq-small keyS (after code.f code.g (keyS k)) (one (keyS k)) (after plain.f plain.g k) (one k) plain.small.same r.plain_small
        (fg-code n k j m) (λ w. refl) ((at n).equations.fg n k (omega arith) (r.small_plain n k j))) n y i l;
    homotopy = λ n x l i. on-big (λ n x. n ≤ N → SameTerms p code.big.same (after code.big.d code.h x ++ (after code.h code.big.d x ++ after code.g code.f x)) (one x))
        (λ n k j m q. eq-big keyB (after code.big.d code.h (keyB k) ++ (after code.h code.big.d (keyB k) ++ after code.g code.f (keyB k))) (one (keyB k))
        (after plain.big.d plain.h k ++ (after plain.h plain.big.d k ++ after plain.g plain.f k)) (one k) plain.big.same r.plain_big
        (homotopy-code n k j (omega (arith, q, below))) (λ w. refl) ((at n).equations.homotopy n k (omega arith) (r.big_plain n k j))) n x i l;
    fh = λ n x l i. on-big (λ n x. n ≤ N → SameTerms p code.small.same (after code.f code.h x) [])
        (λ n k j m q. eq-small keyS (after code.f code.h (keyB k)) [] (after plain.f plain.h k) [] plain.small.same r.plain_small
        (fh-code n k j (omega (arith, q, below))) (λ w. refl) ((at n).equations.fh n k (omega arith) (r.big_plain n k j))) n x i l;
    hg = λ n y l i. on-small (λ n y. n ≤ N → SameTerms p code.big.same (after code.h code.g y) [])
        (λ n k j m q. eq-big keyB (after code.h code.g (keyS k)) [] (after plain.h plain.g k) [] plain.big.same r.plain_big
        (hg-code n k j (omega (arith, q, below))) (λ w. refl) ((at n).equations.hg n k (omega arith) (r.small_plain n k j))) n y i l;
    hh = λ n x l i. on-big (λ n x. n ≤ N → SameTerms p code.big.same (after code.h code.h x) []) (λ n k j m q. hh-none n k j (omega (arith, q, below))) n x i l;
  }

  pub transferred : (N : ℕ) → suc N ≤ bound → IsReductionTo p N code
  transferred N below = record { degrees = degrees; equations = equations N below }
