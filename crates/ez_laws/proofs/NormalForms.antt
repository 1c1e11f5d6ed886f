-- A simplex in normal form: the word of the places where it does not move, and the cell that is left without its degeneracies.
use Rattle.std.proofs.Common.{◌≡◌, ℕ, zero, suc, ◌+◌, ◌<◌, ◌≤◌, List, [], ◌∷◌, Bool, true, false, cond, ◌⊎◌, inl, inr, ◌&&◌, refl, sym, ◌∙◌, ap, subst, arith}
use Rattle.ez_laws.specs.Sides.{HasDegeneracies}
use Rattle.simp_ops.specs.PathWords.{Step}
use Rattle.spaces.specs.Orders.{Ordered}
use Rattle.spaces.specs.EilenbergZilber.{Linear, spread}
use Rattle.ez_laws.proofs.WordFaces.{face, len, absd-true, bits}
use Rattle.ez_laws.proofs.WordRanks.{fls, Above, len-face, fls-absorbed}
use Rattle.ez_laws.proofs.WordPlaces.{at, at-len, absd-at, and-true}

pub bool_or : (b : Bool) → (b ≡ true) ⊎ (b ≡ false)
bool_or true = inl refl
bool_or false = inr refl

-- a face at a true entry after the first
pub face-cons : (t : ℕ) (a : Bool) (w : List Bool) → at t w ≡ true → face (suc t) (a ∷ w) ≡ a ∷ face t w
unfolding face at
face-cons t a [] e = absd-true (sym e)
face-cons zero a (true ∷ w) e = ap (λ x. x ∷ w) (and-true a)
face-cons zero a (false ∷ w) e = absd-true (sym e)
face-cons (suc t) a (b ∷ w) e = refl

pub face-first : (a : Bool) (w : List Bool) → face 0 (a ∷ w) ≡ w
unfolding face
face-first a w = refl

-- a word above another, place by place
pub above-places : (u w : List Bool) → len w ≡ len u → ((t : ℕ) → at t u ≡ true → at t w ≡ true) → Above u w
unfolding Above len at
above-places [] [] l h = tt
above-places [] (b ∷ w) l h = absurd (omega (arith, l))
above-places (a ∷ u) [] l h = absurd (omega (arith, l))
above-places (true ∷ u) (b ∷ w) l h = (h zero refl, above-places u w (omega (arith, l)) (λ t e. h (suc t) e))
above-places (false ∷ u) (b ∷ w) l h = above-places u w (omega (arith, l)) (λ t e. h (suc t) e)

-- where a true entry of a face comes from
abbrev pub From : ℕ → ℕ → List Bool → Type 0
From i t w = ((i ≤ t) × (at (suc t) w ≡ true)) ⊎ (((suc t < i) × (at t w ≡ true)) ⊎ ((i ≡ suc t) × (at t w ≡ true) × (at (suc t) w ≡ true)))

both_true : (a b : Bool) → (a && b) ≡ true → (a ≡ true) × (b ≡ true)
both_true true true e = (refl, refl)
both_true true false e = absd-true (sym e)
both_true false b e = absd-true (sym e)

pub face-from : (i t : ℕ) (w : List Bool) → at t (face i w) ≡ true → From i t w
unfolding face at
face-from zero t [] e = absd-true (sym e)
face-from zero t (b ∷ w) e = inl (omega arith, e)
face-from (suc i) t [] e = absd-true (sym e)
face-from (suc zero) t (a ∷ []) e = absd-true (sym e)
face-from (suc zero) zero (a ∷ (b ∷ w)) e = let r = both_true a b e in inr (inr (refl, r.0, r.1))
face-from (suc zero) (suc t) (a ∷ (b ∷ w)) e = inl (omega arith, e)
face-from (suc (suc i)) zero (a ∷ w) e = inr (inl (omega arith, e))
face-from (suc (suc i)) (suc t) (a ∷ w) e = elim (face-from (suc i) t w e) as (λ x. From (suc (suc i)) (suc t) (a ∷ w)) [
  | inl r ↦ inl (omega (arith, r.0), r.1)
  | inr r ↦ elim r as (λ x. From (suc (suc i)) (suc t) (a ∷ w))
      [ inl s ↦ inr (inl (omega (arith, s.0), s.1)) | inr s ↦ inr (inr (ap suc s.0, s.1, s.2)) ]
]

module _ {K : Type 0} (In : ℕ → K → Type 0) (degeneracy : ℕ → K → K) (has : ℕ → K → Bool) (laws : HasDegeneracies In degeneracy has) where
  -- the simplex of a word and a cell, from place j on
  unfoldable pub form : ℕ → List Bool → K → K
  form j [] c = c
  form j (true ∷ w) c = degeneracy j (form j w c)
  form j (false ∷ w) c = form (suc j) w c

  abbrev pub Forms : Type 0
  Forms = List Bool × (ℕ × K)

  -- an entry before a word
  abbrev pub before_word : Bool → Forms → Forms
  before_word b r = (b ∷ r.0, r.1)

  -- the normal form of a simplex of degree j + n, from place j on
  unfoldable pub norm : ℕ → ℕ → K → Forms
  norm j zero x = ([], (j, x))
  norm j (suc n) x = cond (has j x) (before_word true (norm j n (laws.under j x))) (before_word false (norm (suc j) n x))

  pub norm-true : (j n : ℕ) (x : K) → has j x ≡ true → norm j (suc n) x ≡ before_word true (norm j n (laws.under j x))
  unfolding norm
  norm-true j n x e = rw e refl

  pub norm-false : (j n : ℕ) (x : K) → has j x ≡ false → norm j (suc n) x ≡ before_word false (norm (suc j) n x)
  unfolding norm
  norm-false j n x e = rw e refl

  pub form-in : (j n m : ℕ) (w : List Bool) (c : K) → j + len w ≡ n → j + fls w ≡ m → In m c → In n (form j w c)
  unfolding form len fls
  form-in j n m [] c e f i = subst (λ t. In t c) (let q : m ≡ n = omega (arith, e, f) in q) i
  form-in j n m (true ∷ w) c e f i =
      subst (λ t. In t (degeneracy j (form j w c))) (let q : suc (j + len w) ≡ n = omega (arith, e) in q)
      (laws.degeneracy_in (j + len w) j (form j w c) (form-in j (j + len w) m w c refl f i) (omega arith))
  form-in j n m (false ∷ w) c e f i = form-in (suc j) n m w c (omega (arith, e)) (omega (arith, f)) i

  -- places below j
  pub has-form : (i j m : ℕ) (w : List Bool) (c : K) → i < j → j + fls w ≡ m → In m c → has i (form j w c) ≡ has i c
  unfolding form fls
  has-form i j m [] c l f is = refl
  has-form i j m (true ∷ w) c l f is =
      laws.before (j + len w) i j (form j w c) (form-in j (j + len w) m w c refl f is) l (omega arith) ∙ has-form i j m w c l f is
  has-form i j m (false ∷ w) c l f is = has-form i (suc j) m w c (omega (arith, l)) (omega (arith, f)) is

  -- a simplex of degree m without degeneracies
  abbrev pub Plain : ℕ → K → Type 0
  Plain m c = (i : ℕ) → i < m → has i c ≡ false

  pub norm-form : (j m : ℕ) (w : List Bool) (c : K) → j + fls w ≡ m → In m c → Plain m c → norm j (len w) (form j w c) ≡ (w, (m, c))
  unfolding form norm len fls
  norm-form j m [] c f is z = ap (λ t. ([], (t, c))) (let q : j ≡ m = omega (arith, f) in q)
  norm-form j m (true ∷ w) c f is z =
      let y : K = form j w c in
      let iny : In (j + len w) y = form-in j (j + len w) m w c refl f is in
      norm-true j (len w) (degeneracy j y) (laws.own (j + len w) j y iny (omega arith))
      ∙ ap (λ t. before_word true (norm j (len w) t)) (laws.undone (j + len w) j y iny (omega arith))
      ∙ ap (before_word true) (norm-form j m w c f is z)
  norm-form j m (false ∷ w) c f is z =
      norm-false j (len w) (form (suc j) w c) (has-form j (suc j) m w c (omega arith) (omega (arith, f)) is ∙ z j (omega (arith, f)))
      ∙ ap (before_word false) (norm-form (suc j) m w c (omega (arith, f)) is z)

  -- what a normal form is
  abbrev pub Fits : ℕ → ℕ → K → Forms → Type 0
  Fits j n x r = (len r.0 ≡ n) × (j + fls r.0 ≡ r.1.0) × In r.1.0 r.1.1 × Plain r.1.0 r.1.1 × (form j r.0 r.1.1 ≡ x)

  pub norm-fits : (j n : ℕ) (x : K) → In (j + n) x → ((i : ℕ) → i < j → has i x ≡ false) → Fits j n x (norm j n x)
  unfolding form norm len fls
  norm-fits j zero x is z = (refl, omega arith, subst (λ t. In t x) (let q : j + 0 ≡ j = omega arith in q) is, z, refl)
  norm-fits j (suc n) x is z = elim (bool_or (has j x)) as (λ v. Fits j (suc n) x (norm j (suc n) x)) [
    | inl e ↦
        let y : K = laws.under j x in
        let inx : In (suc (j + n)) x = subst (λ t. In t x) (let q : j + suc n ≡ suc (j + n) = omega arith in q) is in
        let o : degeneracy j y ≡ x = laws.over (j + n) j x inx (omega arith) e in
        let iny : In (j + n) y = laws.under_in (j + n) j x inx (omega arith) e in
        let r = norm-fits j n y iny (λ i l. sym (laws.before (j + n) i j y iny l (omega arith)) ∙ ap (has i) o ∙ z i l) in
        subst (Fits j (suc n) x) (sym (norm-true j n x e)) (ap suc r.0, r.1, r.2, r.3, ap (degeneracy j) r.4 ∙ o)
    | inr e ↦
        let inx : In (suc j + n) x = subst (λ t. In t x) (let q : j + suc n ≡ suc j + n = omega arith in q) is in
        let up : (i : ℕ) → i < suc j → has i x ≡ false = λ i l. elim (Rattle.ez_laws.proofs.PairComplex.dec i j) as (λ v. has i x ≡ false)
        [ inl q ↦ ap (λ t. has t x) q ∙ e | inr q ↦ z i (omega (arith, l, q)) ] in
        let r = norm-fits (suc j) n x inx up in
        subst (Fits j (suc n) x) (sym (norm-false j n x e)) (ap suc r.0, omega (arith, r.1), r.2, r.3, r.4)
  ]

  -- the entries of the word
  pub at-norm : (j n t : ℕ) (x : K) → In (j + n) x → t < n → at t (norm j n x).0 ≡ has (j + t) x
  unfolding norm at
  at-norm j zero t x is l = absurd (omega (arith, l))
  at-norm j (suc n) zero x is l = elim (bool_or (has j x)) as (λ v. at zero (norm j (suc n) x).0 ≡ has (j + zero) x) [
    | inl e ↦ ap (λ r. at zero r.0) (norm-true j n x e) ∙ (sym e ∙ ap (λ i. has i x) (let q : j ≡ j + 0 = omega arith in q))
    | inr e ↦ ap (λ r. at zero r.0) (norm-false j n x e) ∙ (sym e ∙ ap (λ i. has i x) (let q : j ≡ j + 0 = omega arith in q))
  ]
  at-norm j (suc n) (suc t) x is l = elim (bool_or (has j x)) as (λ v. at (suc t) (norm j (suc n) x).0 ≡ has (j + suc t) x) [
    | inl e ↦
        let inx : In (suc (j + n)) x = subst (λ t. In t x) (let q : j + suc n ≡ suc (j + n) = omega arith in q) is in
        let iny : In (j + n) (laws.under j x) = laws.under_in (j + n) j x inx (omega arith) e in
        ap (λ r. at (suc t) r.0) (norm-true j n x e)
        ∙ (at-norm j n t (laws.under j x) iny (omega (arith, l))
        ∙ sym (laws.after (j + n) (j + t) j (laws.under j x) iny (omega arith) (omega (arith, l)))
        ∙ ap (has (suc (j + t))) (laws.over (j + n) j x inx (omega arith) e)
        ∙ ap (λ i. has i x) (let q : suc (j + t) ≡ j + suc t = omega arith in q))
    | inr e ↦
        ap (λ r. at (suc t) r.0) (norm-false j n x e)
        ∙ (at-norm (suc j) n t x (subst (λ t. In t x) (let q : j + suc n ≡ suc j + n = omega arith in q) is) (omega (arith, l))
        ∙ ap (λ i. has i x) (let q : suc j + t ≡ j + suc t = omega arith in q))
  ]

  -- a degeneracy at a true entry comes first
  pub form-pull : (j m t : ℕ) (w : List Bool) (c : K) → j + fls w ≡ m → In m c → at t w ≡ true → form j w c ≡ degeneracy (j + t) (form j (face t w) c)
  unfolding form fls at
  form-pull j m t [] c f is e = absd-true (sym e)
  form-pull j m zero (true ∷ w) c f is e = ap (λ i. degeneracy i (form j w c)) (let q : j ≡ j + 0 = omega arith in q) ∙ ap (λ v. degeneracy (j + 0) (form j v c)) (sym (face-first true w))
  form-pull j m zero (false ∷ w) c f is e = absd-true (sym e)
  form-pull j m (suc t) (true ∷ w) c f is e =
      let l = at-len t w e in
      let lf = len-face t w (omega (arith, l)) (omega (arith, l)) in
      let ff = fls-absorbed t w (omega (arith, l)) (absd-at t w e) in
      ap (degeneracy j) (form-pull j m t w c f is e)
      ∙ laws.twice (j + len (face t w)) j (j + t) (form j (face t w) c) (form-in j (j + len (face t w)) m (face t w) c refl (omega (arith, f, ff)) is) (omega arith) (omega (arith, l, lf))
      ∙ ap (λ i. degeneracy i (degeneracy j (form j (face t w) c))) (let q : suc (j + t) ≡ j + suc t = omega arith in q)
      ∙ ap (λ v. degeneracy (j + suc t) (form j v c)) (sym (face-cons t true w e))
  form-pull j m (suc t) (false ∷ w) c f is e =
      form-pull (suc j) m t w c (omega (arith, f)) is e
      ∙ ap (λ i. degeneracy i (form (suc j) (face t w) c)) (let q : suc j + t ≡ j + suc t = omega arith in q)
      ∙ ap (λ v. degeneracy (j + suc t) (form j v c)) (sym (face-cons t false w e))

  -- a degeneracy at a place before all of the word
  pub form-shift : (i j m : ℕ) (w : List Bool) (c : K) → j ≤ i → i + fls w ≡ m → In m c → form (suc i) w (degeneracy j c) ≡ degeneracy j (form i w c)
  unfolding form fls
  form-shift i j m [] c l f is = refl
  form-shift i j m (true ∷ w) c l f is =
      ap (degeneracy (suc i)) (form-shift i j m w c l f is)
      ∙ sym (laws.twice (i + len w) j i (form i w c) (form-in i (i + len w) m w c refl f is) l (omega arith))
  form-shift i j m (false ∷ w) c l f is = form-shift (suc i) j m w c (omega (arith, l)) (omega (arith, f)) is

  -- degeneracies taken one after another from the lowest place up
  pub spread-form : (p : ℕ) {J : Type 0} (L : Linear K) (R : Ordered J) (f test : Step → Bool) → ((s : Step) → test s ≡ f s) → (j m : ℕ) (w : List Step) (c : K)
      → j + fls (bits f w) ≡ m → In m c → spread p L R degeneracy test j w c ≡ form j (bits f w) c
  unfolding form fls bits
  spread-form p L R f test e j m [] c h is = refl
  spread-form p L R f test e j m (s ∷ w) c h is = elim (bool_or (f s)) as (λ v. spread p L R degeneracy test j (s ∷ w) c ≡ form j (f s ∷ bits f w) c) [
    | inl q ↦
        let h2 : j + fls (bits f w) ≡ m = sym (ap (λ b. j + fls (b ∷ bits f w)) q) ∙ h in
        ap (λ b. spread p L R degeneracy test (suc j) w (cond b (degeneracy j c) c)) (e s ∙ q)
        ∙ spread-form p L R f test e (suc j) (suc m) w (degeneracy j c) (omega (arith, h2)) (laws.degeneracy_in m j c is (omega (arith, h2)))
        ∙ form-shift j j m (bits f w) c (omega arith) h2 is
        ∙ ap (λ b. form j (b ∷ bits f w) c) (sym q)
    | inr q ↦
        let h2 : j + suc (fls (bits f w)) ≡ m = sym (ap (λ b. j + fls (b ∷ bits f w)) q) ∙ h in
        ap (λ b. spread p L R degeneracy test (suc j) w (cond b (degeneracy j c) c)) (e s ∙ q)
        ∙ spread-form p L R f test e (suc j) m w c (omega (arith, h2)) is
        ∙ ap (λ b. form j (b ∷ bits f w) c) (sym q)
  ]
