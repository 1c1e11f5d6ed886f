-- The terms of Alexander-Whitney, Eilenberg-Mac Lane and the tensor differential on forms of the code are forms of the code.
use Rattle.std.proofs.Common.{◌≡◌, ℕ, zero, suc, ◌+◌, ◌-◌, ◌*◌, ◌≤◌, List, [], ◌∷◌, ◌++◌, map, true, refl, sym, ap, subst, arith}
use Rattle.fp_field.specs.Field.{sign}
use Rattle.fp_field.specs.Chains.{Terms, scale, Each}
use Rattle.fp_field.proofs.Weights.{Each-append, Each-scale, Each-extend}
use Rattle.fp_field.proofs.FlowLaws.{Each-keep}
use Rattle.simp_ops.specs.PathWords.{Step, left as H, right as V, both as D, lefts, pairs, shuffles, is_left, is_right}
use Rattle.spaces.specs.Simplicial.{has_degeneracy}
use Rattle.spaces.specs.Orders.{Ordered}
use Rattle.spaces.specs.EilenbergZilber.{Linear, linear, Pair, Tensor, is_tensor_cell, front, back, cuts, aw, spread, shuffled, eml}
use Rattle.cells.specs.declared.cells.Simplex.{Simplex}
use Rattle.ez_laws.specs.Sides.{on_keys}
use Rattle.ez_laws.specs.Complexes.{left_faces, right_faces, left_d, right_d, tensor_d}
use Rattle.ez_laws.proofs.Eaches.{each-so, each-keys}
use Rattle.ez_flow.specs.Parts.{IsForm, HasSimplex, AreRead}
use Rattle.ez_flow.proofs.Closed as C
use Rattle.ez_maps.proofs.ShuffleSums.{Every}

-- ---- words of steps of one part alone

abbrev pub rights : List Step → ℕ
rights [] = 0
rights (V ∷ w) = suc (rights w)
rights (H ∷ w) = rights w
rights (D ∷ w) = rights w

-- the word has no step of both parts
abbrev pub Alone : List Step → Type 0
Alone [] = Unit {0}
Alone (H ∷ w) = Alone w
Alone (V ∷ w) = Alone w
Alone (D ∷ w) = ⊥

abbrev pub IsWordOf : ℕ → ℕ → List Step → Type 0
IsWordOf n q w = Alone w × (lefts w ≡ q) × (q + rights w ≡ n)

every-append : (P : List Step → Type 0) (l r : List (List Step)) → Every P l → Every P r → Every P (l ++ r)
every-append P [] r a b = b
every-append P (w ∷ l) r a b = (a.0, every-append P l r a.1 b)

every-cons : (P Q : List Step → Type 0) (s : Step) → ((w : List Step) → P w → Q (s ∷ w)) → (l : List (List Step)) → Every P l → Every Q (map (λ w. s ∷ w) l)
every-cons P Q s f [] h = tt
every-cons P Q s f (w ∷ l) h = (f w h.0, every-cons P Q s f l h.1)

words-of : (n q : ℕ) → Every (IsWordOf n q) (shuffles n q)
words-of zero zero = ((tt, refl, omega arith), tt)
words-of zero (suc q) = tt
words-of (suc n) zero = every-cons (IsWordOf n zero) (IsWordOf (suc n) zero) V (λ w h. (h.0, h.1, omega (arith, h.2))) (shuffles n zero) (words-of n zero)
words-of (suc n) (suc q) =
    every-append (IsWordOf (suc n) (suc q)) (map (λ w. H ∷ w) (shuffles n q)) (map (λ w. V ∷ w) (shuffles n (suc q)))
    (every-cons (IsWordOf n q) (IsWordOf (suc n) (suc q)) H (λ w h. (h.0, ap suc h.1, omega (arith, h.2))) (shuffles n q) (words-of n q))
    (every-cons (IsWordOf n (suc q)) (IsWordOf (suc n) (suc q)) V (λ w h. (h.0, h.1, omega (arith, h.2))) (shuffles n (suc q)) (words-of n (suc q)))

each-words : {K : Type 0} (p : ℕ) (P : List Step → Type 0) (Q : K → Type 0) (g : List Step → K) → ((w : List Step) → P w → Q (g w)) → (l : List (List Step)) → Every P l
    → Each Q (map (λ w. (g w, sign p (pairs w))) l)
each-words p P Q g f [] h = tt
each-words p P Q g f (w ∷ l) h = (f w h.0, each-words p P Q g f l h.1)

module _ {K J : Type 0} (p bound : ℕ) (short : bound ≤ 32) (L : Linear K) (In : ℕ → K → Type 0) (R : Ordered J)
    (il : ℕ → Simplex → Type 0) (fl : Simplex → K) (sl : ℕ → K → Simplex) (ir : ℕ → Simplex → Type 0) (fr : Simplex → J) (sr : ℕ → J → Simplex)
    (lefts_are : IsForm bound In L.degeneracy L.has_degeneracy il fl) (rights_are : IsForm bound R.set.In R.set.degeneracy (has_degeneracy R.set) ir fr)
    (lr : AreRead bound L.faces il fl sl) (rr : AreRead bound (linear R).faces ir fr sr) where
  abbrev pub HasL : ℕ → K → Type 0
  HasL n x = HasSimplex il fl sl n x

  abbrev pub HasR : ℕ → J → Type 0
  HasR n y = HasSimplex ir fr sr n y

  abbrev pub HasPair : ℕ → Pair K J → Type 0
  HasPair n t = (t.0 ≡ n) × HasL n t.1 × HasR n t.2

  -- a tensor of degree n of two forms
  abbrev pub HasTensor : ℕ → Tensor K J → Type 0
  HasTensor n z = (z.0 + z.2 ≡ n) × HasL z.0 z.1 × HasR z.2 z.3

  left-faces : (n i : ℕ) (x : K) → HasL (suc n) x → suc n ≤ bound → i ≤ suc n → Each (HasL n) (L.faces (suc n) i x)
  left-faces = C.left-faces p bound short L In R il fl sl ir fr sr lefts_are rights_are lr rr

  right-face : (n i : ℕ) (y : J) → HasR (suc n) y → suc n ≤ bound → i ≤ suc n → HasR n (R.set.face i y)
  right-face = C.right-face p bound short L In R il fl sl ir fr sr lefts_are rights_are lr rr

  left-degeneracy : (n j : ℕ) (x : K) → HasL n x → j ≤ n → suc n ≤ bound → HasL (suc n) (L.degeneracy j x)
  left-degeneracy = C.left-degeneracy p bound short L In R il fl sl ir fr sr lefts_are rights_are lr rr

  right-degeneracy : (n j : ℕ) (y : J) → HasR n y → j ≤ n → suc n ≤ bound → HasR (suc n) (R.set.degeneracy j y)
  right-degeneracy = C.right-degeneracy p bound short L In R il fl sl ir fr sr lefts_are rights_are lr rr

  -- ---- Alexander-Whitney

  front-has : (i k : ℕ) (x : K) → HasL (i + k) x → i + k ≤ bound → Each (HasL i) (front p L R i k x)
  front-has i zero x h b = (subst (λ t. HasL t x) (let e : i + 0 ≡ i = omega arith in e) h, tt)
  front-has i (suc k) x h b =
      let e : suc (i + k) ≡ i + suc k = omega arith in
      Each-extend (HasL i) (HasL (i + k)) (front p L R i k) (λ z u. front-has i k z u (omega (arith, b))) (L.faces (i + suc k) (i + suc k) x)
      (subst (λ t. Each (HasL (i + k)) (L.faces t t x)) e
      (left-faces (i + k) (suc (i + k)) x (subst (λ t. HasL t x) (sym e) h) (omega (arith, b)) (omega arith)))

  back-has : (i n : ℕ) (y : J) → HasR (i + n) y → i + n ≤ bound → HasR n (back p L R i y)
  back-has zero n y h b = subst (λ t. HasR t y) (let e : 0 + n ≡ n = omega arith in e) h
  back-has (suc i) n y h b =
      let e : suc i + n ≡ suc (i + n) = omega arith in
      back-has i n (R.set.face 0 y) (right-face (i + n) 0 y (subst (λ t. HasR t y) e h) (omega (arith, b)) (omega arith)) (omega (arith, b))

  cuts-have : (c n : ℕ) (x : K) (y : J) → c ≤ suc n → HasL n x → HasR n y → n ≤ bound → Each (HasTensor n) (cuts p L R c (n, x, y))
  cuts-have zero n x y l hx hy b = tt
  cuts-have (suc c) n x y l hx hy b =
      let e : n ≡ c + (n - c) = omega (arith, l) in
      Each-append (HasTensor n) (on_keys (λ t. (c, t, n - c, back p L R c y)) (front p L R c (n - c) x)) (cuts p L R c (n, x, y))
      (each-keys (HasTensor n) (λ t. (c, t, n - c, back p L R c y)) (front p L R c (n - c) x)
      (each-so (front p L R c (n - c) x)
      (λ t u. (sym e, u, back-has c (n - c) y (subst (λ k. HasR k y) e hy) (omega (arith, e, b))))
      (front-has c (n - c) x (subst (λ k. HasL k x) e hx) (omega (arith, e, b)))))
      (cuts-have c n x y (omega (arith, l)) hx hy b)

  pub aw-has : (n : ℕ) (s : Pair K J) → HasPair n s → n ≤ bound → Each (λ z. HasTensor n z × (is_tensor_cell p L R z ≡ true)) (aw p L R s)
  aw-has n s h b =
      subst (λ k. Each (λ z. HasTensor k z × (is_tensor_cell p L R z ≡ true)) (aw p L R s)) h.0
      (Each-keep (HasTensor s.0) (is_tensor_cell p L R) (cuts p L R (suc s.0) s)
      (cuts-have (suc s.0) s.0 s.1 s.2 (omega arith) (subst (λ k. HasL k s.1) (sym h.0) h.1) (subst (λ k. HasR k s.2) (sym h.0) h.2) (omega (arith, h.0, b))))

  -- ---- Eilenberg-Mac Lane

  spread-left : (w : List Step) (k d : ℕ) (x : K) → Alone w → HasL d x → d ≡ k + lefts w → d + rights w ≤ bound → HasL (d + rights w) (spread p L R L.degeneracy is_right k w x)
  spread-left [] k d x a h e b = subst (λ t. HasL t x) (let q : d ≡ d + 0 = omega arith in q) h
  spread-left (H ∷ w) k d x a h e b = spread-left w (suc k) d x a h (omega (arith, e)) b
  spread-left (V ∷ w) k d x a h e b =
      subst (λ t. HasL t (spread p L R L.degeneracy is_right (suc k) w (L.degeneracy k x))) (let q : suc d + rights w ≡ d + suc (rights w) = omega arith in q)
      (spread-left w (suc k) (suc d) (L.degeneracy k x) a (left-degeneracy d k x h (omega (arith, e)) (omega (arith, b))) (omega (arith, e)) (omega (arith, b)))
  spread-left (D ∷ w) k d x a h e b = absurd a

  spread-right : (w : List Step) (k d : ℕ) (y : J) → Alone w → HasR d y → d ≡ k + rights w → d + lefts w ≤ bound → HasR (d + lefts w) (spread p L R R.set.degeneracy is_left k w y)
  spread-right [] k d y a h e b = subst (λ t. HasR t y) (let q : d ≡ d + 0 = omega arith in q) h
  spread-right (V ∷ w) k d y a h e b = spread-right w (suc k) d y a h (omega (arith, e)) b
  spread-right (H ∷ w) k d y a h e b =
      subst (λ t. HasR t (spread p L R R.set.degeneracy is_left (suc k) w (R.set.degeneracy k y))) (let q : suc d + lefts w ≡ d + suc (lefts w) = omega arith in q)
      (spread-right w (suc k) (suc d) (R.set.degeneracy k y) a (right-degeneracy d k y h (omega (arith, e)) (omega (arith, b))) (omega (arith, e)) (omega (arith, b)))
  spread-right (D ∷ w) k d y a h e b = absurd a

  pub eml-has : (n : ℕ) (z : Tensor K J) → HasTensor n z → n ≤ bound → Each (HasPair n) (eml p L R z)
  eml-has n z h b =
      each-words p (IsWordOf (z.0 + z.2) z.0) (HasPair n) (λ w. (shuffled p L R z w).0)
      (λ w u.
      let el : z.0 + rights w ≡ n = omega (arith, u.2, h.0) in
      let er : z.2 + lefts w ≡ n = omega (arith, u.1, h.0) in (
        h.0,
        subst (λ k. HasL k (spread p L R L.degeneracy is_right 0 w z.1)) el (spread-left w 0 z.0 z.1 u.0 h.1 (omega (arith, u.1)) (omega (arith, el, b))),
        subst (λ k. HasR k (spread p L R R.set.degeneracy is_left 0 w z.3)) er (spread-right w 0 z.2 z.3 u.0 h.2 (omega (arith, u.2)) (omega (arith, er, b))),
      ))
      (shuffles (z.0 + z.2) z.0) (words-of (z.0 + z.2) z.0)

  -- ---- the tensor differential

  left-faces-have : (k i : ℕ) (x : K) (j : ℕ) (y : J) → k ≤ suc (suc i) → suc i ≤ bound → HasL (suc i) x → HasR j y → Each (HasTensor (i + j)) (left_faces p L In R k (suc i, x, j, y))
  left-faces-have zero i x j y l b hx hy = tt
  left-faces-have (suc k) i x j y l b hx hy =
      Each-append (HasTensor (i + j)) (map (λ t. ((suc i - 1, t.0, j, y), sign p k * t.1)) (L.faces (suc i) k x)) (left_faces p L In R k (suc i, x, j, y))
      (each_made (L.faces (suc i) k x) (left-faces i k x hx b (omega (arith, l)))) (left-faces-have k i x j y (omega (arith, l)) b hx hy)
    where
      e : suc i - 1 ≡ i
      e = omega arith

      each_made : (d : Terms K) → Each (HasL i) d → Each (HasTensor (i + j)) (map (λ t. ((suc i - 1, t.0, j, y), sign p k * t.1)) d)
      each_made [] h = tt
      each_made (t ∷ d) h = ((ap (λ m. m + j) e, subst (λ m. HasL m t.0) (sym e) h.0, hy), each_made d h.1)

  right-faces-have : (k i : ℕ) (x : K) (j : ℕ) (y : J) → k ≤ suc (suc j) → suc j ≤ bound → HasL i x → HasR (suc j) y → Each (HasTensor (i + j)) (right_faces p L In R k (i, x, suc j, y))
  right-faces-have zero i x j y l b hx hy = tt
  right-faces-have (suc k) i x j y l b hx hy =
      let e : suc j - 1 ≡ j = omega arith in
      ((ap (λ m. i + m) e, hx, subst (λ m. HasR m (R.set.face k y)) (sym e) (right-face j k y hy b (omega (arith, l)))), right-faces-have k i x j y (omega (arith, l)) b hx hy)

  left-d-has : (n : ℕ) (z : Tensor K J) → HasTensor (suc n) z → suc n ≤ bound → Each (HasTensor n) (left_d p L In R z)
  left-d-has n (zero, x, j, y) h b = tt
  left-d-has n (suc i, x, j, y) h b =
      let q : suc i + j ≡ suc n = h.0 in
      subst (λ m. Each (HasTensor m) (left_d p L In R (suc i, x, j, y))) (let e : i + j ≡ n = omega (arith, q) in e)
      (left-faces-have (suc (suc i)) i x j y (omega arith) (omega (arith, q, b)) h.1 h.2)

  right-d-has : (n : ℕ) (z : Tensor K J) → HasTensor (suc n) z → suc n ≤ bound → Each (HasTensor n) (right_d p L In R z)
  right-d-has n (i, x, zero, y) h b = tt
  right-d-has n (i, x, suc j, y) h b =
      let q : i + suc j ≡ suc n = h.0 in
      subst (λ m. Each (HasTensor m) (right_d p L In R (i, x, suc j, y))) (let e : i + j ≡ n = omega (arith, q) in e)
      (right-faces-have (suc (suc j)) i x j y (omega arith) (omega (arith, q, b)) h.1 h.2)

  pub tensor-d-has : (n : ℕ) (z : Tensor K J) → HasTensor (suc n) z → suc n ≤ bound → Each (λ t. HasTensor n t × (is_tensor_cell p L R t ≡ true)) (tensor_d p L In R z)
  tensor-d-has n z h b =
      Each-keep (HasTensor n) (is_tensor_cell p L R) (left_d p L In R z ++ scale (sign p z.0) (right_d p L In R z))
      (Each-append (HasTensor n) (left_d p L In R z) (scale (sign p z.0) (right_d p L In R z)) (left-d-has n z h b)
      (Each-scale (HasTensor n) (sign p z.0) (right_d p L In R z) (right-d-has n z h b)))
