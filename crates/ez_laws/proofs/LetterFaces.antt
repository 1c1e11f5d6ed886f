-- The letters of a loop group are a left part: d_0 is d_1 - d_0 of the space, d_i is d_{i+1}, and what is an s_0 is 0.
use Rattle.std.proofs.Common.{◌≡◌, ℕ, zero, suc, ◌+◌, ◌-◌, ◌*◌, ◌%◌, ◌<◌, ◌≤◌, [], ◌∷◌, Bool, true, false, not, cond, refl, sym, ◌∙◌, ap, subst, arith}
use Rattle.fp_field.specs.Field.{SameMod}
use Rattle.fp_field.specs.Chains.{Terms, weigh, extend, keep, Each}
use Rattle.fp_field.specs.Reduction.{one}
use Rattle.fp_field.proofs.Mod.{same-by, pred-times}
use Rattle.fp_field.proofs.Weights.{weigh-extend}
use Rattle.fp_field.proofs.FlowLaws.{weigh-keep}
use Rattle.spaces.specs.Simplicial.{IsSimplicial, has_degeneracy}
use Rattle.spaces.specs.Orders.{Ordered}
use Rattle.values.specs.Twists.{not_first, letter_faces, letters}
use Rattle.ez_laws.specs.Weights.{SameWeights}
use Rattle.ez_laws.specs.Sides.{HasDegeneracies, IsLeft, IsRight, on_keys}
use Rattle.ez_laws.specs.LetterSides.{IsLetter}
use Rattle.ez_laws.proofs.Eaches.{each-keep, each-so}
use Rattle.ez_laws.proofs.PairKeys.{not_true}
use Rattle.ez_laws.proofs.SimplicialSides.{degeneracies, over-of}

module _ (p : ℕ) (pos : 0 < p) {K : Type 0} (A : Ordered K) (right : IsRight A) where
  abbrev laws : IsSimplicial A.set
  laws = right.simplicial

  abbrev deg : HasDegeneracies A.set.In A.set.degeneracy (has_degeneracy A.set)
  deg = degeneracies A.set laws

  abbrev In : ℕ → K → Type 0
  In n y = IsLetter A.set n y

  abbrev face : ℕ → K → K
  face i y = A.set.face i y

  abbrev s : ℕ → K → K
  s j y = A.set.degeneracy j y

  abbrev first : K → Bool
  first z = has_degeneracy A.set 0 z

  abbrev kept : K → Bool
  kept z = not_first p A z

  first-s : (n j : ℕ) (y : K) → A.set.In n y → j < n → first (s (suc j) y) ≡ first y
  first-s n j y i l = deg.before n 0 (suc j) y i (omega arith) l

  letter_in : (n j : ℕ) (y : K) → In n y → j ≤ n → In (suc n) (s (suc j) y)
  letter_in n j y i l = (laws.degeneracy_in (suc n) (suc j) y i.0 (omega (arith, l)), first-s (suc n) j y i.0 (omega (arith, l)) ∙ i.1)

  under_in : (n j : ℕ) (y : K) → In (suc n) y → j ≤ n → has_degeneracy A.set (suc j) y ≡ true → In n (face (suc j) y)
  under_in n j y i l e =
      let u : K = face (suc j) y in
      let iu : A.set.In (suc n) u = laws.face_in (suc n) (suc j) y i.0 (omega (arith, l)) in
      (iu, sym (first-s (suc n) j u iu (omega (arith, l))) ∙ (ap first (over-of A.set laws (suc j) y e) ∙ i.1))

  pub letter-degeneracies : HasDegeneracies In (letters p A).degeneracy (letters p A).has_degeneracy
  letter-degeneracies = record {
    under = λ j y. face (suc j) y;
    degeneracy_in = letter_in;
    under_in = under_in;
    over = λ n j y i l e. over-of A.set laws (suc j) y e;
    own = λ n j y i l. deg.own (suc n) (suc j) y i.0 (omega (arith, l));
    undone = λ n j y i l. laws.face_here (suc n) (suc j) y i.0 (omega (arith, l));
    before = λ n i j y is l b. deg.before (suc n) (suc i) (suc j) y is.0 (omega (arith, l)) (omega (arith, b));
    after = λ n i j y is l b. deg.after (suc n) (suc i) (suc j) y is.0 (omega (arith, l)) (omega (arith, b));
    twice = λ n i j y is l b. laws.degeneracy_degeneracy (suc n) (suc i) (suc j) y is.0 (omega (arith, l)) (omega (arith, b));
  }

  -- the faces before what is an s_0 is left out
  abbrev raw : ℕ → K → Terms K
  raw zero y = (face 1 y, 1) ∷ ((face 0 y, p - 1) ∷ [])
  raw (suc i) y = one (face (suc (suc i)) y)

  faces-raw : (n i : ℕ) (y : K) → letter_faces p A n i y ≡ keep kept (raw i y)
  faces-raw n zero y = refl
  faces-raw n (suc i) y = refl

  raw-in : (n i : ℕ) (y : K) → A.set.In (suc (suc n)) y → i ≤ suc n → Each (A.set.In (suc n)) (raw i y)
  raw-in n zero y is l = (laws.face_in (suc n) 1 y is (omega arith), (laws.face_in (suc n) 0 y is (omega arith), tt))
  raw-in n (suc i) y is l = (laws.face_in (suc n) (suc (suc i)) y is (omega (arith, l)), tt)

  letters-in : (n i : ℕ) (y : K) → In (suc n) y → i ≤ suc n → Each (In n) (letter_faces p A (suc n) i y)
  letters-in n i y is l =
      subst (Each (In n)) (sym (faces-raw (suc n) i y))
      (each-so (keep kept (raw i y)) (λ z h. (h.0, not_true (first z) h.1)) (each-keep (A.set.In (suc n)) kept (raw i y) (raw-in n i y is.0 l)))

  -- one term that is kept or not
  keep-cons : (t : K × ℕ) (c : Terms K) (b : Bool) → kept t.0 ≡ b → keep kept (t ∷ c) ≡ cond b (t ∷ keep kept c) (keep kept c)
  keep-cons t c b e = rw e refl

  kept-one : (y : K) → first y ≡ false → keep kept (one y) ≡ one y
  kept-one y e = keep-cons (y, 1) [] true (ap not e)

  face-here : (n j : ℕ) (y : K) → In n y → j ≤ n → letter_faces p A (suc n) j (s (suc j) y) ≡ one y
  face-here n zero y is l =
      let e1 : face 1 (s 1 y) ≡ y = laws.face_here (suc n) 1 y is.0 (omega arith) in
      let e0 : face 0 (s 1 y) ≡ s 0 (face 0 y) = laws.face_below (suc n) 0 0 y is.0 (omega arith) (omega arith) in
      let z0 : first (face 0 (s 1 y)) ≡ true = ap first e0 ∙ deg.own n 0 (face 0 y) (laws.face_in n 0 y is.0 (omega arith)) (omega arith) in
      keep-cons (face 1 (s 1 y), 1) ((face 0 (s 1 y), p - 1) ∷ []) true (ap not (ap first e1 ∙ is.1))
      ∙ ap (λ c. (face 1 (s 1 y), 1) ∷ c) (keep-cons (face 0 (s 1 y), p - 1) [] false (ap not z0))
      ∙ ap one e1
  face-here n (suc j) y is l =
      ap (λ z. keep kept (one z)) (laws.face_here (suc n) (suc (suc j)) y is.0 (omega (arith, l))) ∙ kept-one y is.1

  face-next : (n j : ℕ) (y : K) → In n y → j ≤ n → letter_faces p A (suc n) (suc j) (s (suc j) y) ≡ one y
  face-next n j y is l = ap (λ z. keep kept (one z)) (laws.face_next (suc n) (suc j) y is.0 (omega (arith, l))) ∙ kept-one y is.1

  -- degeneracies past the first keep what is kept
  keep-keys : (n j : ℕ) (c : Terms K) → j < n → Each (A.set.In n) c → keep kept (on_keys (s (suc j)) c) ≡ on_keys (s (suc j)) (keep kept c)
  keep-keys n j [] l h = refl
  keep-keys n j (t ∷ c) l h = by (kept t.0) refl (keep-keys n j c l h.1)
    where
      by : (b : Bool) → kept t.0 ≡ b → keep kept (on_keys (s (suc j)) c) ≡ on_keys (s (suc j)) (keep kept c)
          → keep kept (on_keys (s (suc j)) (t ∷ c)) ≡ on_keys (s (suc j)) (cond b (t ∷ keep kept c) (keep kept c))
      by true e r = keep-cons (s (suc j) t.0, t.1) (on_keys (s (suc j)) c) true (ap not (first-s n j t.0 h.0 l) ∙ e) ∙ ap (λ d. (s (suc j) t.0, t.1) ∷ d) r
      by false e r = keep-cons (s (suc j) t.0, t.1) (on_keys (s (suc j)) c) false (ap not (first-s n j t.0 h.0 l) ∙ e) ∙ r

  raw-below : (n i j : ℕ) (y : K) → A.set.In (suc n) y → i ≤ j → j < n → raw i (s (suc (suc j)) y) ≡ on_keys (s (suc j)) (raw i y)
  raw-below n zero j y is l b =
      let e1 : face 1 (s (suc (suc j)) y) ≡ s (suc j) (face 1 y) = laws.face_below (suc n) 1 (suc j) y is (omega arith) (omega (arith, b)) in
      let e0 : face 0 (s (suc (suc j)) y) ≡ s (suc j) (face 0 y) = laws.face_below (suc n) 0 (suc j) y is (omega arith) (omega (arith, b)) in
      λ k. (e1 k, 1) ∷ ((e0 k, p - 1) ∷ [])
  raw-below n (suc i) j y is l b = ap one (laws.face_below (suc n) (suc (suc i)) (suc j) y is (omega (arith, l)) (omega (arith, b)))

  face-below : (n i j : ℕ) (y : K) → In n y → i ≤ j → j < n → letter_faces p A (suc n) i (s (suc (suc j)) y) ≡ on_keys (s (suc j)) (letter_faces p A n i y)
  face-below zero i j y is l b = absurd (omega (arith, b))
  face-below (suc m) i j y is l b =
      faces-raw (suc (suc m)) i (s (suc (suc j)) y)
      ∙ ap (keep kept) (raw-below (suc m) i j y is.0 l b)
      ∙ keep-keys (suc m) j (raw i y) b (raw-in m i y is.0 (omega (arith, l, b)))
      ∙ ap (on_keys (s (suc j))) (sym (faces-raw (suc m) i y))

  face-above : (n i j : ℕ) (y : K) → In n y → j < i → i ≤ n → letter_faces p A (suc n) (suc i) (s (suc j) y) ≡ on_keys (s (suc j)) (letter_faces p A n i y)
  face-above n zero j y is l b = absurd (omega (arith, l))
  face-above zero (suc i) j y is l b = absurd (omega (arith, b))
  face-above (suc m) (suc i) j y is l b =
      ap (λ z. keep kept (one z)) (laws.face_above (suc (suc m)) (suc (suc i)) (suc j) y is.0 (omega (arith, l)) (omega (arith, b)))
      ∙ keep-keys (suc m) j (raw (suc i) y) (omega (arith, l, b)) (raw-in m (suc i) y is.0 b)

  -- ---- two faces, by their weights

  module _ (w : K → ℕ) where
    abbrev seen : K → ℕ
    seen z = cond (kept z) (w z) 0

    weight_of : (n i : ℕ) (y : K) → weigh w (letter_faces p A n i y) ≡ weigh seen (raw i y)
    weight_of n i y = ap (weigh w) (faces-raw n i y) ∙ weigh-keep w kept (raw i y)

    -- the faces of an s_0 are 0
    first-faces : (n i : ℕ) (u : K) → A.set.In n u → i ≤ n → SameMod p (weigh seen (raw i (s 0 u))) 0
    first-faces n zero u is l =
        let e1 : face 1 (s 0 u) ≡ u = laws.face_next n 0 u is (omega arith) in
        let e0 : face 0 (s 0 u) ≡ u = laws.face_here n 0 u is (omega arith) in
        ap (λ x. (1 * seen x + ((p - 1) * seen (face 0 (s 0 u)) + 0)) % p) e1
        ∙ ap (λ x. (1 * seen u + ((p - 1) * seen x + 0)) % p) e0
        ∙ same-by p (1 * seen u + ((p - 1) * seen u + 0)) 0 0 (seen u) (omega (arith, pred-times p (seen u) pos))
    first-faces zero (suc i) u is l = absurd (omega (arith, l))
    first-faces (suc m) (suc i) u is l =
        let e : face (suc (suc i)) (s 0 u) ≡ s 0 (face (suc i) u) = laws.face_above (suc m) (suc i) 0 u is (omega arith) l in
        let z : first (s 0 (face (suc i) u)) ≡ true = deg.own m 0 (face (suc i) u) (laws.face_in m (suc i) u is l) (omega arith) in
        let q : seen (face (suc (suc i)) (s 0 u)) ≡ 0 = ap seen e ∙ ap (λ b. cond (not b) (w (s 0 (face (suc i) u))) 0) z in
        ap (λ n. n % p) (let r : 1 * seen (face (suc (suc i)) (s 0 u)) + 0 ≡ 0 = omega (arith, q) in r)

    -- so it does not matter whether they are left out
    abbrev value : ℕ → K → ℕ
    value i z = weigh seen (raw i z)

    seen-value : (n i : ℕ) (z : K) → A.set.In (suc n) z → i ≤ n → SameMod p (cond (kept z) (value i z) 0) (value i z)
    seen-value n i z is l = by (first z) refl
      where
        by : (b : Bool) → first z ≡ b → SameMod p (cond (not b) (value i z) 0) (value i z)
        by true e = sym (ap (λ x. value i x % p) (sym (over-of A.set laws 0 z e)) ∙ first-faces n i (face 0 z) (laws.face_in n 0 z is (omega arith)) l)
        by false e = refl

    chain_value : (n k i : ℕ) (y : K) → A.set.In (suc (suc (suc n))) y → i ≤ suc (suc n) → k ≤ suc n
        → SameMod p (weigh w (extend (letter_faces p A (suc n) k) (letter_faces p A (suc (suc n)) i y))) (weigh (value k) (raw i y))
    chain_value n k i y is l b =
        ap (λ m. m % p) (weigh-extend w (letter_faces p A (suc n) k) (letter_faces p A (suc (suc n)) i y)
        ∙ ap (λ (v : K → ℕ). weigh v (letter_faces p A (suc (suc n)) i y)) (λ j z. weight_of (suc n) k z j)
        ∙ ap (weigh (value k)) (faces-raw (suc (suc n)) i y)
        ∙ weigh-keep (value k) kept (raw i y))
        ∙ Rattle.fp_field.proofs.Weights.weigh-mod (A.set.In (suc (suc n))) p (λ z. cond (kept z) (value k z) 0) (value k) (λ z u. seen-value (suc n) k z u b) (raw i y) (raw-in (suc n) i y is l)

    swapped : (n i k : ℕ) (y : K) → A.set.In (suc (suc (suc n))) y → i ≤ k → k ≤ suc n → SameMod p (weigh (value i) (raw (suc k) y)) (weigh (value k) (raw i y))
    swapped n zero zero y is a b =
        let u : ℕ = seen (face 1 (face 1 y)) in
        let v : ℕ = seen (face 1 (face 0 y)) in
        let x : ℕ = seen (face 0 (face 0 y)) in
        let e11 : seen (face 1 (face 2 y)) ≡ u = ap seen (laws.face_face (suc n) 1 1 y is (omega arith) (omega arith)) in
        let e01 : seen (face 0 (face 2 y)) ≡ v = ap seen (laws.face_face (suc n) 1 0 y is (omega arith) (omega arith)) in
        let e00 : seen (face 0 (face 1 y)) ≡ x = ap seen (laws.face_face (suc n) 0 0 y is (omega arith) (omega arith)) in
        let l : weigh (value 0) (raw 1 y) ≡ u + (p - 1) * v = omega (arith, e11, ap (λ t. (p - 1) * t) e01) in
        let r1 : (p - 1) * (1 * v + ((p - 1) * x + 0)) ≡ (p - 1) * v + (p - 1) * ((p - 1) * x) = expand (p - 1) v x in
        let r : weigh (value 0) (raw 0 y) ≡ u + (p - 1) * x + ((p - 1) * v + (p - 1) * ((p - 1) * x)) = omega (arith, ap (λ t. (p - 1) * t) e00, r1) in
        let z : (p - 1) * ((p - 1) * x) + (p - 1) * x ≡ p * ((p - 1) * x) = pred-times p ((p - 1) * x) pos in
        ap (λ m. m % p) l ∙ same-by p (u + (p - 1) * v) (u + (p - 1) * x + ((p - 1) * v + (p - 1) * ((p - 1) * x))) ((p - 1) * x) 0 (omega (arith, z)) ∙ ap (λ m. m % p) (sym r)
      where
        expand : (q v x : ℕ) → q * (1 * v + (q * x + 0)) ≡ q * v + q * (q * x)
        expand q v x = omega arith
    swapped n zero (suc k) y is a b =
        let e1 : seen (face 1 (face (suc (suc (suc k))) y)) ≡ seen (face (suc (suc k)) (face 1 y)) = ap seen (laws.face_face (suc n) (suc (suc k)) 1 y is (omega arith) (omega (arith, b))) in
        let e0 : seen (face 0 (face (suc (suc (suc k))) y)) ≡ seen (face (suc (suc k)) (face 0 y)) = ap seen (laws.face_face (suc n) (suc (suc k)) 0 y is (omega arith) (omega (arith, b))) in
        ap (λ m. m % p) (two_sides (p - 1) (seen (face 1 (face (suc (suc (suc k))) y))) (seen (face 0 (face (suc (suc (suc k))) y))) (seen (face (suc (suc k)) (face 1 y))) (seen (face (suc (suc k)) (face 0 y))) e1 e0)
      where
        two_sides : (q a b c d : ℕ) → a ≡ c → b ≡ d → 1 * (1 * a + (q * b + 0)) + 0 ≡ 1 * (1 * c + 0) + (q * (1 * d + 0) + 0)
        two_sides q a b c d e f = rw (e, f) (omega arith)
    swapped n (suc i) zero y is a b = absurd (omega (arith, a))
    swapped n (suc i) (suc k) y is a b =
        ap (λ z. (1 * (1 * seen z + 0) + 0) % p) (laws.face_face (suc n) (suc (suc k)) (suc (suc i)) y is (omega (arith, a)) (omega (arith, b)))

  face-face : (n i k : ℕ) (y : K) → In (suc (suc n)) y → i ≤ k → k ≤ suc n
      → SameWeights p (extend (letter_faces p A (suc n) i) (letter_faces p A (suc (suc n)) (suc k) y)) (extend (letter_faces p A (suc n) k) (letter_faces p A (suc (suc n)) i y))
  face-face n i k y is a b w =
      chain_value w n i (suc k) y is.0 (omega (arith, b)) (omega (arith, a, b))
      ∙ swapped w n i k y is.0 a b
      ∙ sym (chain_value w n k i y is.0 (omega (arith, a, b)) b)

  -- the letters are a left part
  pub letters-left : IsLeft p (letters p A) In
  letters-left = record {
    degeneracies = letter-degeneracies;
    faces_in = letters-in;
    face_here = face-here;
    face_next = face-next;
    face_below = face-below;
    face_above = face-above;
    face_face = face-face;
    order = λ n. right.order (suc n);
  }
