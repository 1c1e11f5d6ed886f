-- A left part as a system of words and cells: its faces in normal form.
use Rattle.std.proofs.Common.{◌≡◌, ℕ, zero, suc, ◌+◌, ◌-◌, ◌<◌, ◌≤◌, List, [], ◌∷◌, Bool, true, false, ◌⊎◌, inl, inr, ◌||◌, refl, sym, ◌∙◌, ap, subst, arith}
use Rattle.fp_field.specs.Chains.{Terms, extend, Each}
use Rattle.fp_field.specs.Reduction.{one}
use Rattle.spaces.specs.EilenbergZilber.{Linear}
use Rattle.ez_laws.specs.Sides.{HasDegeneracies, IsLeft}
use Rattle.ez_laws.proofs.WordFaces.{face, absd, len, absd-true}
use Rattle.ez_laws.proofs.WordRanks.{fls, Above, len-face, fls-absorbed}
use Rattle.ez_laws.proofs.WordPlaces.{at, at-len, absd-at, face-same}
use Rattle.ez_laws.proofs.Functionals.{Ch}
use Rattle.ez_laws.proofs.ChainLaws.{eta, lin, All, lin-eta, lin-lin, lin-on, all-eta, all-lin}
use Rattle.ez_laws.proofs.PairFaces.{LeftSystem}
use Rattle.ez_laws.proofs.Values.{field, val, val-same, all-val, lin-one, lin-extend}
use Rattle.ez_laws.proofs.Eaches.{each-so, each-and, each-for-all, each-keys}
use Rattle.ez_laws.proofs.NormalForms.{form, norm, form-in, norm-form, norm-fits, at-norm, form-pull, face-from, above-places}

or_true : (a b : Bool) → a || b ≡ true → (a ≡ true) ⊎ (b ≡ true)
or_true true b e = inl refl
or_true false b e = inr e

-- where a face is absorbed
abbrev pub Absorbing : ℕ → List Bool → Type 0
Absorbing i w = (at i w ≡ true) ⊎ ((j : ℕ) × (i ≡ suc j) × (at j w ≡ true))

pub absorbing : (i : ℕ) (w : List Bool) → absd i w ≡ true → Absorbing i w
unfolding absd at
absorbing zero [] e = absd-true (sym e)
absorbing zero (b ∷ w) e = inl e
absorbing (suc i) [] e = absd-true (sym e)
absorbing (suc zero) (a ∷ []) e = inr (zero, refl, e)
absorbing (suc zero) (a ∷ (b ∷ w)) e = elim (or_true a b e) as (λ x. Absorbing (suc zero) (a ∷ (b ∷ w))) [ inl q ↦ inr (zero, refl, q) | inr q ↦ inl q ]
absorbing (suc (suc i)) (a ∷ w) e = elim (absorbing (suc i) w e) as (λ x. Absorbing (suc (suc i)) (a ∷ w))
    [ inl q ↦ inl q | inr q ↦ inr (suc q.0, ap suc q.1, q.2) ]

pub cases : (n : ℕ) → (n ≡ 0) ⊎ ((i : ℕ) × (n ≡ suc i))
cases zero = inl refl
cases (suc n) = inr (n, refl)

module _ (p : ℕ) (pos : 0 < p) {K : Type 0} (L : Linear K) (In : ℕ → K → Type 0) (left : IsLeft p L In) where
  abbrev pub deg : HasDegeneracies In L.degeneracy L.has_degeneracy
  deg = left.degeneracies

  abbrev pub Cell : Type 0
  Cell = ℕ × K

  abbrev pub plain_cell : Cell → Type 0
  plain_cell c = In c.0 c.1 × ((i : ℕ) → i < c.0 → L.has_degeneracy i c.1 ≡ false)

  abbrev pub simplex : List Bool × Cell → K
  simplex s = form In L.degeneracy L.has_degeneracy deg 0 s.0 s.1.1

  abbrev pub nf : ℕ → K → List Bool × Cell
  nf n x = norm In L.degeneracy L.has_degeneracy deg 0 n x

  abbrev pub nf_chain : ℕ → K → Ch (field p pos) (List Bool × Cell)
  nf_chain n z = eta (field p pos) (nf n z)

  -- a simplex of degree n, as word and cell
  abbrev pub Valid : ℕ → List Bool × Cell → Type 0
  Valid n s = (len s.0 ≡ n) × (fls s.0 ≡ s.1.0) × plain_cell s.1

  pub simplex-in : (n : ℕ) (s : List Bool × Cell) → Valid n s → In n (simplex s)
  simplex-in n s v = form-in In L.degeneracy L.has_degeneracy deg 0 n s.1.0 s.0 s.1.1 (omega (arith, v.0)) (omega (arith, v.1)) v.2.0

  pub nf-simplex : (n : ℕ) (s : List Bool × Cell) → Valid n s → nf n (simplex s) ≡ s
  nf-simplex n s v =
      ap (λ t. nf t (simplex s)) (sym v.0) ∙ norm-form In L.degeneracy L.has_degeneracy deg 0 s.1.0 s.0 s.1.1 (omega (arith, v.1)) v.2.0 v.2.1

  in_zero : (n : ℕ) (x : K) → In n x → In (0 + n) x
  in_zero n x i = subst (λ t. In t x) (let q : n ≡ 0 + n = omega arith in q) i

  pub nf-valid : (n : ℕ) (x : K) → In n x → Valid n (nf n x) × (simplex (nf n x) ≡ x)
  nf-valid n x i =
      let r = norm-fits In L.degeneracy L.has_degeneracy deg 0 n x (in_zero n x i) (λ i l. absurd (omega (arith, l))) in
      ((r.0, omega (arith, r.1), (r.2, r.3)), r.4)

  pub nf-at : (n t : ℕ) (x : K) → In n x → t < n → at t (nf n x).0 ≡ L.has_degeneracy t x
  nf-at n t x i l =
      at-norm In L.degeneracy L.has_degeneracy deg 0 n t x (in_zero n x i) l ∙ ap (λ j. L.has_degeneracy j x) (let q : 0 + t ≡ t = omega arith in q)

  -- the faces of a simplex in normal form
  pub sface : ℕ → List Bool × Cell → Ch (field p pos) (List Bool × Cell)
  sface i s = lin (field p pos) (nf_chain (len s.0 - 1)) (val p pos (L.faces (len s.0) i (simplex s)))

  pub sface-at : (i n : ℕ) (s : List Bool × Cell) → len s.0 ≡ suc n → sface i s ≡ lin (field p pos) (nf_chain n) (val p pos (L.faces (suc n) i (simplex s)))
  unfolding sface
  sface-at i n s l =
      ap (λ t. lin (field p pos) (nf_chain (t - 1)) (val p pos (L.faces t i (simplex s)))) l
      ∙ ap (λ t. lin (field p pos) (nf_chain t) (val p pos (L.faces (suc n) i (simplex s)))) (let q : suc n - 1 ≡ n = omega arith in q)

  pub sface-nf : (i n : ℕ) (z : K) → In (suc n) z → sface i (nf (suc n) z) ≡ lin (field p pos) (nf_chain n) (val p pos (L.faces (suc n) i z))
  sface-nf i n z is =
      let r = nf-valid (suc n) z is in
      sface-at i n (nf (suc n) z) r.0.0 ∙ ap (λ y. lin (field p pos) (nf_chain n) (val p pos (L.faces (suc n) i y))) r.1

  -- a degeneracy of x at a place that a face keeps is one of each term
  pub kept : (i n t : ℕ) (x : K) → In (suc n) x → i ≤ suc n → t < n
      → ((i ≤ t) × (L.has_degeneracy (suc t) x ≡ true)) ⊎ (((suc t < i) × (L.has_degeneracy t x ≡ true)) ⊎ ((i ≡ suc t) × (L.has_degeneracy t x ≡ true) × (L.has_degeneracy (suc t) x ≡ true)))
      → Each (λ z. L.has_degeneracy t z ≡ true) (L.faces (suc n) i x)
  kept i zero t x is b l h = absurd (omega (arith, l))
  kept i (suc m) t x is b l (inl h) =
      let y : K = deg.under (suc t) x in
      let iny : In (suc m) y = deg.under_in (suc m) (suc t) x is (omega (arith, l)) h.1 in
      let o : L.degeneracy (suc t) y ≡ x = deg.over (suc m) (suc t) x is (omega (arith, l)) h.1 in
      subst (Each (λ z. L.has_degeneracy t z ≡ true)) (sym (left.face_below (suc m) i t y iny h.0 l) ∙ ap (L.faces (suc (suc m)) i) o)
      (each-keys (λ z. L.has_degeneracy t z ≡ true) (L.degeneracy t) (L.faces (suc m) i y)
      (each-so (L.faces (suc m) i y) (λ z u. deg.own m t z u (omega (arith, l))) (left.faces_in m i y iny (omega (arith, h.0, l)))))
  kept zero (suc m) t x is b l (inr (inl h)) = absurd (omega (arith, h.0))
  kept (suc i) (suc m) t x is b l (inr (inl h)) =
      let y : K = deg.under t x in
      let iny : In (suc m) y = deg.under_in (suc m) t x is (omega (arith, l)) h.1 in
      let o : L.degeneracy t y ≡ x = deg.over (suc m) t x is (omega (arith, l)) h.1 in
      subst (Each (λ z. L.has_degeneracy t z ≡ true)) (sym (left.face_above (suc m) i t y iny (omega (arith, h.0)) (omega (arith, b))) ∙ ap (L.faces (suc (suc m)) (suc i)) o)
      (each-keys (λ z. L.has_degeneracy t z ≡ true) (L.degeneracy t) (L.faces (suc m) i y)
      (each-so (L.faces (suc m) i y) (λ z u. deg.own m t z u (omega (arith, l))) (left.faces_in m i y iny (omega (arith, b)))))
  kept i (suc m) t x is b l (inr (inr h)) =
      let y : K = deg.under t x in
      let iny : In (suc m) y = deg.under_in (suc m) t x is (omega (arith, l)) h.1 in
      let o : L.degeneracy t y ≡ x = deg.over (suc m) t x is (omega (arith, l)) h.1 in
      let has_t : L.has_degeneracy t y ≡ true = sym (deg.after (suc m) t t y iny (omega arith) l) ∙ (ap (L.has_degeneracy (suc t)) o ∙ h.2) in
      subst (Each (λ z. L.has_degeneracy t z ≡ true))
      (sym (left.face_next (suc m) t y iny (omega (arith, l))) ∙ (ap (L.faces (suc (suc m)) (suc t)) o ∙ ap (λ j. L.faces (suc (suc m)) j x) (sym h.0)))
      (has_t, tt)

  -- what the terms of a face are
  abbrev pub Term : ℕ → List Bool → K → Type 0
  Term n u z = In n z × ((a : (t : ℕ) × (at t u ≡ true)) → L.has_degeneracy a.0 z ≡ true)

  pub face-terms : (i n : ℕ) (s : List Bool × Cell) → Valid (suc n) s → i ≤ suc n → Each (Term n (face i s.0)) (L.faces (suc n) i (simplex s))
  face-terms i n s v b =
      let x : K = simplex s in
      let is : In (suc n) x = simplex-in (suc n) s v in
      let has : (t : ℕ) → t < suc n → at t s.0 ≡ true → L.has_degeneracy t x ≡ true
      = λ t l e. sym (nf-at (suc n) t x is l) ∙ (ap (λ r. at t r.0) (nf-simplex (suc n) s v) ∙ e) in
      each-and (In n) (λ z. (a : (t : ℕ) × (at t (face i s.0) ≡ true)) → L.has_degeneracy a.0 z ≡ true) (L.faces (suc n) i x) (left.faces_in n i x is b)
      (each-for-all (λ (a : (t : ℕ) × (at t (face i s.0) ≡ true)) z. L.has_degeneracy a.0 z ≡ true) (L.faces (suc n) i x) (λ a.
      let lf = len-face i s.0 (omega (arith, v.0, b)) (omega (arith, v.0)) in
      let l : a.0 < n = omega (arith, at-len a.0 (face i s.0) a.1, lf, v.0) in
      kept i n a.0 x is b l (elim (face-from i a.0 s.0 a.1) as (λ q.
      ((i ≤ a.0) × (L.has_degeneracy (suc a.0) x ≡ true)) ⊎ (((suc a.0 < i) × (L.has_degeneracy a.0 x ≡ true)) ⊎ ((i ≡ suc a.0) × (L.has_degeneracy a.0 x ≡ true) × (L.has_degeneracy (suc a.0) x ≡ true)))) [
        | inl q ↦ inl (q.0, has (suc a.0) (omega (arith, l)) q.1)
        | inr q ↦ elim q as (λ q. ((i ≤ a.0) × (L.has_degeneracy (suc a.0) x ≡ true)) ⊎ (((suc a.0 < i) × (L.has_degeneracy a.0 x ≡ true)) ⊎ ((i ≡ suc a.0) × (L.has_degeneracy a.0 x ≡ true) × (L.has_degeneracy (suc a.0) x ≡ true)))) [
          | inl r ↦ inr (inl (r.0, has a.0 (omega (arith, l)) r.1))
          | inr r ↦ inr (inr (r.0, has a.0 (omega (arith, l)) r.1, has (suc a.0) (omega (arith, l)) r.2))
        ]
      ])))

  abbrev pub Termed : List Bool → List Bool × Cell → Type 0
  Termed u y = (fls y.0 ≡ y.1.0) × Above u y.0 × plain_cell y.1

  pub nf-termed : (n : ℕ) (u : List Bool) (z : K) → len u ≡ n → Term n u z → Termed u (nf n z)
  nf-termed n u z l h =
      let r = nf-valid n z h.0 in
      (r.0.1, above-places u (nf n z).0 (omega (arith, r.0.0, l)) (λ t e. nf-at n t z h.0 (omega (arith, at-len t u e, l)) ∙ h.1 (t, e)), r.0.2)

  pub sface-terms : (i n : ℕ) (s : List Bool × Cell) → Valid (suc n) s → i ≤ suc n → All (field p pos) (Termed (face i s.0)) (sface i s)
  sface-terms i n s v b =
      let lf = len-face i s.0 (omega (arith, v.0, b)) (omega (arith, v.0)) in
      subst (All (field p pos) (Termed (face i s.0))) (sym (sface-at i n s v.0))
      (all-lin (field p pos) (Term n (face i s.0)) (Termed (face i s.0)) (nf_chain n) (val p pos (L.faces (suc n) i (simplex s)))
      (all-val p pos (Term n (face i s.0)) (L.faces (suc n) i (simplex s)) (face-terms i n s v b))
      (λ z h. all-eta (field p pos) (Termed (face i s.0)) (nf n z) (nf-termed n (face i s.0) z (omega (arith, lf, v.0)) h)))

  -- a face that is absorbed
  pub dropped-valid : (n t : ℕ) (s : List Bool × Cell) → Valid (suc n) s → at t s.0 ≡ true → Valid n (face t s.0, s.1)
  dropped-valid n t s v e =
      let l = at-len t s.0 e in
      (omega (arith, len-face t s.0 (omega (arith, l)) (omega (arith, l)), v.0), fls-absorbed t s.0 (omega (arith, l)) (absd-at t s.0 e) ∙ v.1, v.2)

  pub pulled : (t : ℕ) (s : List Bool × Cell) → fls s.0 ≡ s.1.0 → plain_cell s.1 → at t s.0 ≡ true → simplex s ≡ L.degeneracy t (simplex (face t s.0, s.1))
  pulled t s f is e =
      form-pull In L.degeneracy L.has_degeneracy deg 0 s.1.0 t s.0 s.1.1 (omega (arith, f)) is.0 e
      ∙ ap (λ i. L.degeneracy i (simplex (face t s.0, s.1))) (let q : 0 + t ≡ t = omega arith in q)

  pub absorbed-face : (i n : ℕ) (s : List Bool × Cell) → Valid (suc n) s → i ≤ suc n → absd i s.0 ≡ true
      → L.faces (suc n) i (simplex s) ≡ one (simplex (face i s.0, s.1))
  absorbed-face i n s v b e = elim (absorbing i s.0 e) as (λ q. L.faces (suc n) i (simplex s) ≡ one (simplex (face i s.0, s.1))) [
    | inl q ↦
        let l = at-len i s.0 q in
        ap (L.faces (suc n) i) (pulled i s v.1 v.2 q)
        ∙ left.face_here n i (simplex (face i s.0, s.1)) (simplex-in n (face i s.0, s.1) (dropped-valid n i s v q)) (omega (arith, l, v.0))
    | inr q ↦
        let l = at-len q.0 s.0 q.2 in
        let same : face q.0 s.0 ≡ face i s.0 = face-same q.0 s.0 q.2 ∙ ap (λ j. face j s.0) (sym q.1) in
        ap (λ j. L.faces (suc n) j (simplex s)) q.1
        ∙ ap (L.faces (suc n) (suc q.0)) (pulled q.0 s v.1 v.2 q.2)
        ∙ left.face_next n q.0 (simplex (face q.0 s.0, s.1)) (simplex-in n (face q.0 s.0, s.1) (dropped-valid n q.0 s v q.2)) (omega (arith, l, v.0))
        ∙ ap (λ w. one (simplex (w, s.1))) same
  ]

  pub absorbed-valid : (i n : ℕ) (s : List Bool × Cell) → Valid (suc n) s → i ≤ suc n → absd i s.0 ≡ true → Valid n (face i s.0, s.1)
  absorbed-valid i n s v b e =
      (omega (arith, len-face i s.0 (omega (arith, v.0, b)) (omega (arith, v.0)), v.0), fls-absorbed i s.0 (omega (arith, v.0, b)) e ∙ v.1, v.2)

  pub sface-absorbed : (i n : ℕ) (s : List Bool × Cell) → Valid (suc n) s → i ≤ suc n → absd i s.0 ≡ true → sface i s ≡ eta (field p pos) (face i s.0, s.1)
  sface-absorbed i n s v b e =
      sface-at i n s v.0
      ∙ ap (λ c. lin (field p pos) (nf_chain n) (val p pos c)) (absorbed-face i n s v b e)
      ∙ lin-one p pos (nf_chain n) (simplex (face i s.0, s.1))
      ∙ ap (eta (field p pos)) (nf-simplex n (face i s.0, s.1) (absorbed-valid i n s v b e))

  -- faces of chains
  pub lin-sface : (i n : ℕ) (c : Terms K) → Each (In (suc n)) c
      → lin (field p pos) (sface i) (lin (field p pos) (nf_chain (suc n)) (val p pos c)) ≡ lin (field p pos) (nf_chain n) (val p pos (extend (L.faces (suc n) i) c))
  lin-sface i n c h =
      lin-lin (field p pos) (nf_chain (suc n)) (sface i) (val p pos c)
      ∙ lin-on (field p pos) (In (suc n)) (λ z. lin (field p pos) (sface i) (nf_chain (suc n) z)) (λ z. lin (field p pos) (nf_chain n) (val p pos (L.faces (suc n) i z))) (val p pos c)
      (all-val p pos (In (suc n)) c h) (λ z u. lin-eta (field p pos) (sface i) (nf (suc n) z) ∙ sface-nf i n z u)
      ∙ sym (lin-extend p pos (nf_chain n) (L.faces (suc n) i) c)

  pub sface-twice : (i k n : ℕ) (s : List Bool × Cell) → Valid (suc (suc n)) s → i ≤ k → k ≤ suc n
      → lin (field p pos) (sface i) (sface (suc k) s) ≡ lin (field p pos) (sface k) (sface i s)
  sface-twice i k n s v a b =
      let x : K = simplex s in
      let is : In (suc (suc n)) x = simplex-in (suc (suc n)) s v in
      ap (lin (field p pos) (sface i)) (sface-at (suc k) (suc n) s v.0)
      ∙ lin-sface i n (L.faces (suc (suc n)) (suc k) x) (left.faces_in (suc n) (suc k) x is (omega (arith, b)))
      ∙ ap (lin (field p pos) (nf_chain n))
      (val-same p pos (extend (L.faces (suc n) i) (L.faces (suc (suc n)) (suc k) x)) (extend (L.faces (suc n) k) (L.faces (suc (suc n)) i x)) (left.face_face n i k x is a b))
      ∙ sym (ap (lin (field p pos) (sface k)) (sface-at i (suc n) s v.0)
      ∙ lin-sface k n (L.faces (suc (suc n)) i x) (left.faces_in (suc n) i x is (omega (arith, a, b))))

  abbrev pub left_system : LeftSystem (field p pos)
  left_system = record {
    X = Cell;
    dim = λ c. c.0;
    Is = plain_cell;
    face = sface;
    terms = λ i n s l f is b. sface-terms i n s (l, f, is) b;
    absorbed = λ i n s l f is b e. sface-absorbed i n s (l, f, is) b e;
    twice = λ i k n s l f is a b. sface-twice i k n s (l, f, is) a b;
  }
