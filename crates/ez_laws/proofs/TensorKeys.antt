-- Tensors of two simplices as pairs of cells; their differential, and the Alexander-Whitney map.
use Rattle.std.proofs.Common.{◌≡◌, ℕ, zero, suc, ◌+◌, ◌-◌, ◌*◌, ◌<◌, ◌≤◌, List, [], ◌∷◌, ◌++◌, Bool, true, false, not, ◌&&◌, ◌⊎◌, inl, inr, refl, sym, ◌∙◌, ap, subst, arith, true≢false}
use Rattle.fp_field.specs.Field.{sign}
use Rattle.fp_field.specs.Chains.{Terms, scale, extend, keep, Each}
use Rattle.fp_field.specs.Reduction.{one}
use Rattle.fp_field.proofs.Weights.{Each-append, Each-scale, Each-extend}
use Rattle.spaces.specs.Simplicial.{some_below, has_degeneracy, is_degenerate}
use Rattle.spaces.specs.Orders.{Ordered}
use Rattle.spaces.specs.EilenbergZilber.{Linear, linear, Pair, Tensor, is_tensor_cell, front, back, cuts, aw}
use Rattle.ez_laws.specs.Weights.{SameWeights}
use Rattle.ez_laws.specs.Sides.{IsLeft, IsRight, on_keys}
use Rattle.ez_laws.specs.Complexes.{IsPair, IsTensor, left_faces, right_faces, left_d, right_d, tensor_d}
use Rattle.ez_laws.proofs.WordFaces.{len}
use Rattle.ez_laws.proofs.Functionals.{Coefficients, Ch}
use Rattle.ez_laws.proofs.ChainLaws.{o, add, eta, lin, sg, tot, All, comm, lin-eta, lin-id, lin-lin, lin-add, lin-sg, lin-on, tot-on}
use Rattle.ez_laws.proofs.PairFaces.{LeftSystem, RightSystem, P as Two, raw}
use Rattle.ez_laws.proofs.Fronts.{fr, bk, aws, AWs, Lf, Rf, dL, dR, dT}
use Rattle.ez_laws.proofs.AlexanderWhitney.{falses, falses-plain, nut, nut-left, nut-right, nut-plain, nut-AWs, nut-dT, nut-dL, nut-dR, bT, AW}
use Rattle.ez_laws.proofs.Values.{field, val, same-val, all-val, lin-keep, lin-moved, lin-append, lin-nil, lin-cons, lin-one, lin-extend, lin-keys, moved_terms, val-sign}
use Rattle.ez_laws.proofs.Eaches.{each-so, each-keep, each-keys}
use Rattle.ez_laws.proofs.LeftSystems.{nf, nf_chain, nf-at, nf-simplex, sface-nf, left_system}
use Rattle.ez_laws.proofs.NormalForms.{form}
use Rattle.ez_laws.proofs.SimplicialSides.{as_left, right_system, right-face-nf}
use Rattle.ez_laws.proofs.PairKeys as PK

and_false : (a b : Bool) → (a && b) ≡ false → (a ≡ false) ⊎ (b ≡ false)
and_false true b e = inr e
and_false false b e = inl e

and_both : (a b : Bool) → (a && b) ≡ true → (a ≡ true) × (b ≡ true)
and_both true b e = (refl, e)
and_both false b e = absurd (true≢false (sym e))

module _ (p : ℕ) (pos : 0 < p) {K : Type 0} (L : Linear K) (In : ℕ → K → Type 0) (left : IsLeft p L In) where
  falses-form : (j n : ℕ) (c : K) → form In L.degeneracy L.has_degeneracy left.degeneracies j (falses n) c ≡ c
  unfolding form falses
  falses-form j zero c = refl
  falses-form j (suc n) c = falses-form (suc j) n c

  -- the normal form of a simplex without degeneracies
  pub nf-plain : (n : ℕ) (x : K) → In n x → ((i : ℕ) → i < n → L.has_degeneracy i x ≡ false) → nf p pos L In left n x ≡ (falses n, (n, x))
  nf-plain n x is h =
      let f = falses-plain n in
      ap (nf p pos L In left n) (sym (falses-form 0 n x)) ∙ nf-simplex p pos L In left n (falses n, (n, x)) (f.2, f.1, (is, h))

module _ (p : ℕ) (pos : 0 < p) {K J : Type 0} (L : Linear K) (In : ℕ → K → Type 0) (R : Ordered J) (left : IsLeft p L In) (right : IsRight R) where
  abbrev pub S : Coefficients
  S = field p pos

  abbrev pub A : LeftSystem S
  A = left_system p pos L In left

  abbrev pub B : RightSystem
  B = right_system p pos R right

  abbrev pub nfl : ℕ → K → List Bool × A.X
  nfl n x = nf p pos L In left n x

  abbrev pub nfr : ℕ → J → List Bool × B.X
  nfr n y = nf p pos (linear R) R.set.In (as_left p pos R right) n y

  abbrev pub Te : Type 0
  Te = A.X × B.X

  abbrev pub Simplices2 : Tensor K J → Type 0
  Simplices2 z = In z.0 z.1 × R.set.In z.2 z.3

  abbrev pub two2 : Tensor K J → Two S A B
  two2 z = (nfl z.0 z.1, nfr z.2 z.3)

  abbrev pub tkey : Tensor K J → Te
  tkey z = ((z.0, z.1), (z.2, z.3))

  abbrev pub untkey : Te → Tensor K J
  untkey k = (k.0.0, k.0.1, k.1.0, k.1.1)

  abbrev pub tkeys : Tensor K J → Ch S Te
  tkeys z = nut S A B (two2 z)

  pub tkeys-none : (z : Tensor K J) → Simplices2 z → is_tensor_cell p L R z ≡ false → tkeys z ≡ o S
  tkeys-none z i h = elim (and_false (not (some_below z.0 (λ j. L.has_degeneracy j z.1))) (not (is_degenerate R.set z.2 z.3)) h) as (λ q. tkeys z ≡ o S) [
    | inl q ↦
        let r = PK.found-below z.0 (λ j. L.has_degeneracy j z.1) (PK.not_false (some_below z.0 (λ j. L.has_degeneracy j z.1)) q) in
        nut-left S A B r.0 (two2 z) (nf-at p pos L In left z.0 r.0 z.1 i.0 r.1 ∙ r.2)
    | inr q ↦
        let r = PK.found-below z.2 (λ j. has_degeneracy R.set j z.3) (PK.not_false (is_degenerate R.set z.2 z.3) q) in
        nut-right S A B r.0 (two2 z) (nf-at p pos (linear R) R.set.In (as_left p pos R right) z.2 r.0 z.3 i.1 r.1 ∙ r.2)
  ]

  pub no-left : (z : Tensor K J) → IsTensor p L In R z → (j : ℕ) → j < z.0 → L.has_degeneracy j z.1 ≡ false
  no-left z i = PK.none-below z.0 (λ j. L.has_degeneracy j z.1) (PK.not_true (some_below z.0 (λ j. L.has_degeneracy j z.1))
      (and_both (not (some_below z.0 (λ j. L.has_degeneracy j z.1))) (not (is_degenerate R.set z.2 z.3)) i.2).0)

  pub no-right : (z : Tensor K J) → IsTensor p L In R z → (j : ℕ) → j < z.2 → has_degeneracy R.set j z.3 ≡ false
  no-right z i = PK.none-below z.2 (λ j. has_degeneracy R.set j z.3) (PK.not_true (is_degenerate R.set z.2 z.3)
      (and_both (not (some_below z.0 (λ j. L.has_degeneracy j z.1))) (not (is_degenerate R.set z.2 z.3)) i.2).1)

  pub two-plain : (z : Tensor K J) → IsTensor p L In R z → two2 z ≡ ((falses z.0, (z.0, z.1)), (falses z.2, (z.2, z.3)))
  two-plain z i =
      let a = nf-plain p pos L In left z.0 z.1 i.0 (no-left z i) in
      let b = nf-plain p pos (linear R) R.set.In (as_left p pos R right) z.2 z.3 i.1 (no-right z i) in
      λ j. (a j, b j)

  pub tkeys-key : (z : Tensor K J) → IsTensor p L In R z → tkeys z ≡ eta S (tkey z)
  tkeys-key z i =
      ap (nut S A B) (two-plain z i)
      ∙ nut-plain S A B ((falses z.0, (z.0, z.1)), (falses z.2, (z.2, z.3))) (falses-plain z.0).0 (falses-plain z.2).0

  pub tkey-ok : (z : Tensor K J) → IsTensor p L In R z → A.Is (tkey z).0 × B.Is (tkey z).1
  tkey-ok z i = ((i.0, no-left z i), (i.1, no-right z i))

  pub tback-again : (c : Terms (Tensor K J)) → Each (IsTensor p L In R) c → lin S (λ k. eta S (untkey k)) (lin S tkeys (val p pos c)) ≡ val p pos c
  tback-again c h =
      lin-lin S tkeys (λ k. eta S (untkey k)) (val p pos c)
      ∙ lin-on S (IsTensor p L In R) (λ s. lin S (λ k. eta S (untkey k)) (tkeys s)) (eta S) (val p pos c) (all-val p pos (IsTensor p L In R) c h)
      (λ s i. ap (lin S (λ k. eta S (untkey k))) (tkeys-key s i) ∙ lin-eta S (λ k. eta S (untkey k)) (tkey s))
      ∙ lin-id S (val p pos c)

  -- chains of tensors that have the same keys are the same
  pub tensors-same : (c d : Terms (Tensor K J)) → Each (IsTensor p L In R) c → Each (IsTensor p L In R) d → lin S tkeys (val p pos c) ≡ lin S tkeys (val p pos d) → SameWeights p c d
  tensors-same c d g h e = same-val p pos c d (sym (tback-again c g) ∙ ap (lin S (λ k. eta S (untkey k))) e ∙ tback-again d h)

  -- ---- the differential

  pub left-face-keys : (a i j : ℕ) (x : K) (y : J) → In (suc i) x
      → lin S (nut S A B) (Lf S A B a (nfl (suc i) x, nfr j y)) ≡ lin S (λ t. tkeys (i, t, j, y)) (val p pos (L.faces (suc i) a x))
  unfolding Lf
  left-face-keys a i j x y ix =
      let b : List Bool × B.X = nfr j y in
      let c : Ch S K = val p pos (L.faces (suc i) a x) in
      ap (λ q. lin S (nut S A B) (lin S (λ z. eta S (z, b)) q)) (sface-nf p pos L In left a i x ix)
      ∙ ap (lin S (nut S A B)) (lin-lin S (nf_chain p pos L In left i) (λ z. eta S (z, b)) c)
      ∙ lin-lin S (λ t. lin S (λ z. eta S (z, b)) (eta S (nfl i t))) (nut S A B) c
      ∙ ap (λ (U : K → Ch S Te). lin S U c) (λ k t. (ap (lin S (nut S A B)) (lin-eta S (λ z. eta S (z, b)) (nfl i t)) ∙ lin-eta S (nut S A B) (nfl i t, b)) k)

  pub left-faces-keys : (m i j : ℕ) (x : K) (y : J) → In (suc i) x
      → lin S tkeys (val p pos (left_faces p L In R m (suc i, x, j, y))) ≡ tot S m (λ a. sg S a (lin S (nut S A B) (Lf S A B a (nfl (suc i) x, nfr j y))))
  unfolding tot
  left-faces-keys zero i j x y ix = lin-nil p pos tkeys
  left-faces-keys (suc m) i j x y ix =
      let g : K → Tensor K J = λ t. (suc i - 1, t, j, y) in
      let f : ℕ → Ch S Te = λ a. sg S a (lin S (nut S A B) (Lf S A B a (nfl (suc i) x, nfr j y))) in
      let q : suc i - 1 ≡ i = omega arith in
      lin-append p pos tkeys (moved_terms p pos g (sign p m) (L.faces (suc i) m x)) (left_faces p L In R m (suc i, x, j, y))
      ∙ ap (λ v. add S v (lin S tkeys (val p pos (left_faces p L In R m (suc i, x, j, y)))))
      (lin-moved p pos tkeys g m (L.faces (suc i) m x)
      ∙ ap (sg S m) (ap (λ k. lin S (λ t. tkeys (k, t, j, y)) (val p pos (L.faces (suc i) m x))) q ∙ sym (left-face-keys m i j x y ix)))
      ∙ ap (add S (f m)) (left-faces-keys m i j x y ix)
      ∙ comm S (f m) (tot S m f)

  pub right-face-keys : (a i j : ℕ) (x : K) (y : J) → R.set.In (suc j) y
      → lin S (nut S A B) (Rf S A B a (nfl i x, nfr (suc j) y)) ≡ tkeys (i, x, j, R.set.face a y)
  unfolding Rf
  right-face-keys a i j x y iy =
      lin-eta S (nut S A B) (nfl i x, B.face a (nfr (suc j) y))
      ∙ ap (λ b. nut S A B (nfl i x, b)) (right-face-nf p pos R right a j y iy)

  pub right-faces-keys : (m i j : ℕ) (x : K) (y : J) → R.set.In (suc j) y
      → lin S tkeys (val p pos (right_faces p L In R m (i, x, suc j, y))) ≡ tot S m (λ a. sg S a (lin S (nut S A B) (Rf S A B a (nfl i x, nfr (suc j) y))))
  unfolding tot
  right-faces-keys zero i j x y iy = lin-nil p pos tkeys
  right-faces-keys (suc m) i j x y iy =
      let z : Tensor K J = (i, x, suc j - 1, R.set.face m y) in
      let f : ℕ → Ch S Te = λ a. sg S a (lin S (nut S A B) (Rf S A B a (nfl i x, nfr (suc j) y))) in
      let q : suc j - 1 ≡ j = omega arith in
      let one_sign : lin S tkeys (val p pos ((z, sign p m) ∷ [])) ≡ f m
      = ap (λ n. lin S tkeys (val p pos ((z, n) ∷ []))) (let r : sign p m ≡ sign p m * 1 = omega arith in r)
      ∙ ap (lin S tkeys) (val-sign p pos m (one z)) ∙ lin-sg S m tkeys (val p pos (one z))
      ∙ ap (sg S m) (lin-one p pos tkeys z ∙ ap (λ k. tkeys (i, x, k, R.set.face m y)) q ∙ sym (right-face-keys m i j x y iy)) in
      lin-cons p pos tkeys (z, sign p m) (right_faces p L In R m (i, x, suc j, y))
      ∙ ap (λ v. add S v (lin S tkeys (val p pos (right_faces p L In R m (i, x, suc j, y))))) one_sign
      ∙ ap (add S (f m)) (right-faces-keys m i j x y iy)
      ∙ comm S (f m) (tot S m f)

  pub left-d-keys : (z : Tensor K J) → Simplices2 z → lin S tkeys (val p pos (left_d p L In R z)) ≡ lin S (nut S A B) (dL S A B z.0 (two2 z))
  unfolding dL
  left-d-keys (zero, x, j, y) s = lin-nil p pos tkeys ∙ sym (Rattle.ez_laws.proofs.ChainLaws.lin-o S (nut S A B))
  left-d-keys (suc i, x, j, y) s = left-faces-keys (suc (suc i)) i j x y s.0 ∙ sym (nut-dL S A B i (two2 (suc i, x, j, y)))

  pub right-d-keys : (z : Tensor K J) → Simplices2 z → lin S tkeys (val p pos (right_d p L In R z)) ≡ lin S (nut S A B) (dR S A B z.2 (two2 z))
  unfolding dR
  right-d-keys (i, x, zero, y) s = lin-nil p pos tkeys ∙ sym (Rattle.ez_laws.proofs.ChainLaws.lin-o S (nut S A B))
  right-d-keys (i, x, suc j, y) s = right-faces-keys (suc (suc j)) i j x y s.1 ∙ sym (nut-dR S A B j (two2 (i, x, suc j, y)))

  abbrev pub Below : ℕ → Tensor K J → Type 0
  Below n z = (z.0 + z.2 ≡ n) × Simplices2 z

  left-each : (m i j n : ℕ) (x : K) (y : J) → m ≤ suc (suc i) → i + j ≡ n → In (suc i) x → R.set.In j y → Each (Below n) (left_faces p L In R m (suc i, x, j, y))
  left-each zero i j n x y l e ix iy = tt
  left-each (suc m) i j n x y l e ix iy =
      Each-append (Below n) (moved_terms p pos (λ t. (suc i - 1, t, j, y)) (sign p m) (L.faces (suc i) m x)) (left_faces p L In R m (suc i, x, j, y))
      (each_moved (L.faces (suc i) m x) (left.faces_in i m x ix (omega (arith, l)))) (left-each m i j n x y (omega (arith, l)) e ix iy)
    where
      q : suc i - 1 ≡ i
      q = omega arith

      each_moved : (c : Terms K) → Each (In i) c → Each (Below n) (moved_terms p pos (λ t. (suc i - 1, t, j, y)) (sign p m) c)
      each_moved [] h = tt
      each_moved (t ∷ c) h = (((let r : suc i - 1 + j ≡ n = omega (arith, q, e) in r), (subst (λ k. In k t.0) (sym q) h.0, iy)), each_moved c h.1)

  right-each : (m i j n : ℕ) (x : K) (y : J) → m ≤ suc (suc j) → i + j ≡ n → In i x → R.set.In (suc j) y → Each (Below n) (right_faces p L In R m (i, x, suc j, y))
  right-each zero i j n x y l e ix iy = tt
  right-each (suc m) i j n x y l e ix iy =
      let q : suc j - 1 ≡ j = omega arith in (
        ((let r : i + (suc j - 1) ≡ n = omega (arith, q, e) in r), (ix, subst (λ k. R.set.In k (R.set.face m y)) (sym q) (right.simplicial.face_in j m y iy (omega (arith, l))))),
        right-each m i j n x y (omega (arith, l)) e ix iy,
      )

  left_d_each : (n : ℕ) (z : Tensor K J) → z.0 + z.2 ≡ suc n → Simplices2 z → Each (Below n) (left_d p L In R z)
  left_d_each n (zero, x, j, y) e s = tt
  left_d_each n (suc i, x, j, y) e s = left-each (suc (suc i)) i j n x y (omega arith) (omega (arith, e)) s.0 s.1

  right_d_each : (n : ℕ) (z : Tensor K J) → z.0 + z.2 ≡ suc n → Simplices2 z → Each (Below n) (right_d p L In R z)
  right_d_each n (i, x, zero, y) e s = tt
  right_d_each n (i, x, suc j, y) e s = right-each (suc (suc j)) i j n x y (omega arith) (omega (arith, e)) s.0 s.1

  d_each : (n : ℕ) (z : Tensor K J) → z.0 + z.2 ≡ suc n → Simplices2 z → Each (Below n) (left_d p L In R z ++ scale (sign p z.0) (right_d p L In R z))
  d_each n z e s =
      Each-append (Below n) (left_d p L In R z) (scale (sign p z.0) (right_d p L In R z)) (left_d_each n z e s)
      (Each-scale (Below n) (sign p z.0) (right_d p L In R z) (right_d_each n z e s))

  pub d-tensors : (n : ℕ) (z : Tensor K J) → z.0 + z.2 ≡ suc n → IsTensor p L In R z → Each (λ t. (t.0 + t.2 ≡ n) × IsTensor p L In R t) (tensor_d p L In R z)
  d-tensors n z e i =
      each-so (tensor_d p L In R z) (λ t h. (h.0.0, (h.0.1.0, h.0.1.1, h.1)))
      (each-keep (Below n) (is_tensor_cell p L R) (left_d p L In R z ++ scale (sign p z.0) (right_d p L In R z)) (d_each n z e (i.0, i.1)))

  none_each : (z : Tensor K J) → z.0 + z.2 ≡ 0 → left_d p L In R z ++ scale (sign p z.0) (right_d p L In R z) ≡ []
  none_each (zero, x, zero, y) e = refl
  none_each (zero, x, suc j, y) e = absurd (omega (arith, e))
  none_each (suc i, x, j, y) e = absurd (omega (arith, e))

  pub d-ends : (z : Tensor K J) → z.0 + z.2 ≡ 0 → tensor_d p L In R z ≡ []
  d-ends z e = ap (keep (is_tensor_cell p L R)) (none_each z e)

  kept_d : (n : ℕ) (z : Tensor K J) → z.0 + z.2 ≡ n → Simplices2 z
      → lin S tkeys (val p pos (tensor_d p L In R z)) ≡ lin S tkeys (val p pos (left_d p L In R z ++ scale (sign p z.0) (right_d p L In R z)))
  kept_d zero z e s = ap (λ c. lin S tkeys (val p pos (keep (is_tensor_cell p L R) c))) (none_each z e) ∙ sym (ap (λ c. lin S tkeys (val p pos c)) (none_each z e))
  kept_d (suc n) z e s =
      lin-keep p pos (Below n) tkeys (is_tensor_cell p L R) (λ t v h. tkeys-none t v.1 h) (left_d p L In R z ++ scale (sign p z.0) (right_d p L In R z)) (d_each n z e s)

  -- the differential is the differential
  pub d-tkeys : (z : Tensor K J) → IsTensor p L In R z → lin S tkeys (val p pos (tensor_d p L In R z)) ≡ bT S A B (tkey z)
  unfolding bT
  d-tkeys z i =
      let s : Simplices2 z = (i.0, i.1) in
      let a = PK.nfl-ok p pos L In R left right z.0 z.1 i.0 in
      let b = PK.nfr-ok p pos L In R left right z.2 z.3 i.1 in
      kept_d (z.0 + z.2) z refl s
      ∙ lin-append p pos tkeys (left_d p L In R z) (scale (sign p z.0) (right_d p L In R z))
      ∙ ap (λ v. add S v (lin S tkeys (val p pos (scale (sign p z.0) (right_d p L In R z))))) (left-d-keys z s)
      ∙ ap (add S (lin S (nut S A B) (dL S A B z.0 (two2 z))))
      (ap (lin S tkeys) (val-sign p pos z.0 (right_d p L In R z)) ∙ lin-sg S z.0 tkeys (val p pos (right_d p L In R z)) ∙ ap (sg S z.0) (right-d-keys z s))
      ∙ ap (λ n. add S (lin S (nut S A B) (dL S A B n (two2 z))) (sg S n (lin S (nut S A B) (dR S A B z.2 (two2 z))))) (sym a.0)
      ∙ ap (λ n. add S (lin S (nut S A B) (dL S A B (len (nfl z.0 z.1).0) (two2 z))) (sg S (len (nfl z.0 z.1).0) (lin S (nut S A B) (dR S A B n (two2 z))))) (sym b.0)
      ∙ sym (nut-dT S A B (two2 z))
      ∙ ap (λ q. lin S (nut S A B) (dT S A B q)) (two-plain z i)

  -- ---- Alexander-Whitney

  pub front-in : (i k n : ℕ) (x : K) → n ≡ i + k → In n x → Each (In i) (front p L R i k x)
  front-in i zero n x e is = (subst (λ t. In t x) (let q : n ≡ i = omega (arith, e) in q) is, tt)
  front-in i (suc k) zero x e is = absurd (omega (arith, e))
  front-in i (suc k) (suc n) x e is =
      Each-extend (In i) (In n) (front p L R i k) (λ z u. front-in i k n z (omega (arith, e)) u) (L.faces (i + suc k) (i + suc k) x)
      (subst (λ t. Each (In n) (L.faces t t x)) (let q : suc n ≡ i + suc k = omega (arith, e) in q) (left.faces_in n (suc n) x is (omega arith)))

  pub front-keys : (i k n : ℕ) (x : K) → n ≡ i + k → In n x → fr S A B k n (nfl n x) ≡ lin S (nf_chain p pos L In left i) (val p pos (front p L R i k x))
  unfolding fr
  front-keys i zero n x e is =
      ap (λ t. eta S (nfl t x)) (let q : n ≡ i = omega (arith, e) in q) ∙ sym (lin-one p pos (nf_chain p pos L In left i) x)
  front-keys i (suc k) zero x e is = absurd (omega (arith, e))
  front-keys i (suc k) (suc n) x e is =
      let q : suc n ≡ i + suc k = omega (arith, e) in
      let c : Terms K = L.faces (suc n) (suc n) x in
      ap (lin S (fr S A B k n)) (sface-nf p pos L In left (suc n) n x is)
      ∙ lin-lin S (nf_chain p pos L In left n) (fr S A B k n) (val p pos c)
      ∙ lin-on S (In n) (λ z. lin S (fr S A B k n) (eta S (nfl n z))) (λ z. lin S (nf_chain p pos L In left i) (val p pos (front p L R i k z))) (val p pos c)
      (all-val p pos (In n) c (left.faces_in n (suc n) x is (omega arith)))
      (λ z u. lin-eta S (fr S A B k n) (nfl n z) ∙ front-keys i k n z (omega (arith, e)) u)
      ∙ sym (lin-extend p pos (nf_chain p pos L In left i) (front p L R i k) c)
      ∙ ap (λ t. lin S (nf_chain p pos L In left i) (val p pos (extend (front p L R i k) (L.faces t t x)))) q

  pub back-in : (i r n : ℕ) (y : J) → n ≡ i + r → R.set.In n y → R.set.In r (back p L R i y)
  back-in zero r n y e is = subst (λ t. R.set.In t y) (let q : n ≡ r = omega (arith, e) in q) is
  back-in (suc i) r zero y e is = absurd (omega (arith, e))
  back-in (suc i) r (suc n) y e is = back-in i r n (R.set.face 0 y) (omega (arith, e)) (right.simplicial.face_in n 0 y is (omega arith))

  pub back-keys : (i r n : ℕ) (y : J) → n ≡ i + r → R.set.In n y → bk S A B i (nfr n y) ≡ nfr r (back p L R i y)
  unfolding bk
  back-keys zero r n y e is = ap (λ t. nfr t y) (let q : n ≡ r = omega (arith, e) in q)
  back-keys (suc i) r zero y e is = absurd (omega (arith, e))
  back-keys (suc i) r (suc n) y e is =
      ap (bk S A B i) (right-face-nf p pos R right 0 n y is) ∙ back-keys i r n (R.set.face 0 y) (omega (arith, e)) (right.simplicial.face_in n 0 y is (omega arith))

  pub cut-keys : (i n : ℕ) (x : K) (y : J) → i ≤ n → In n x → R.set.In n y
      → lin S tkeys (val p pos (on_keys (λ t. (i, t, n - i, back p L R i y)) (front p L R i (n - i) x))) ≡ lin S (nut S A B) (aws S A B i (n - i) n (nfl n x, nfr n y))
  unfolding aws
  cut-keys i n x y l ix iy =
      let e : n ≡ i + (n - i) = omega (arith, l) in
      let b : List Bool × B.X = nfr (n - i) (back p L R i y) in
      let c : Ch S K = val p pos (front p L R i (n - i) x) in
      lin-keys p pos tkeys (λ t. (i, t, n - i, back p L R i y)) (front p L R i (n - i) x)
      ∙ sym (ap (λ q. lin S (nut S A B) (lin S (λ z. eta S (z, q)) (fr S A B (n - i) n (nfl n x)))) (back-keys i (n - i) n y e iy)
      ∙ ap (λ q. lin S (nut S A B) (lin S (λ z. eta S (z, b)) q)) (front-keys i (n - i) n x e ix)
      ∙ ap (lin S (nut S A B)) (lin-lin S (nf_chain p pos L In left i) (λ z. eta S (z, b)) c)
      ∙ lin-lin S (λ t. lin S (λ z. eta S (z, b)) (eta S (nfl i t))) (nut S A B) c
      ∙ ap (λ (U : K → Ch S Te). lin S U c) (λ k t. (ap (lin S (nut S A B)) (lin-eta S (λ z. eta S (z, b)) (nfl i t)) ∙ lin-eta S (nut S A B) (nfl i t, b)) k))

  pub cuts-keys : (m n : ℕ) (x : K) (y : J) → m ≤ suc n → In n x → R.set.In n y
      → lin S tkeys (val p pos (cuts p L R m (n, x, y))) ≡ tot S m (λ i. lin S (nut S A B) (aws S A B i (n - i) n (nfl n x, nfr n y)))
  unfolding tot
  cuts-keys zero n x y l ix iy = lin-nil p pos tkeys
  cuts-keys (suc m) n x y l ix iy =
      let f : ℕ → Ch S Te = λ i. lin S (nut S A B) (aws S A B i (n - i) n (nfl n x, nfr n y)) in
      lin-append p pos tkeys (on_keys (λ t. (m, t, n - m, back p L R m y)) (front p L R m (n - m) x)) (cuts p L R m (n, x, y))
      ∙ ap (λ v. add S v (lin S tkeys (val p pos (cuts p L R m (n, x, y))))) (cut-keys m n x y (omega (arith, l)) ix iy)
      ∙ ap (add S (f m)) (cuts-keys m n x y (omega (arith, l)) ix iy)
      ∙ comm S (f m) (tot S m f)

  cuts_each : (m n : ℕ) (x : K) (y : J) → m ≤ suc n → In n x → R.set.In n y → Each (Below n) (cuts p L R m (n, x, y))
  cuts_each zero n x y l ix iy = tt
  cuts_each (suc m) n x y l ix iy =
      let e : n ≡ m + (n - m) = omega (arith, l) in
      Each-append (Below n) (on_keys (λ t. (m, t, n - m, back p L R m y)) (front p L R m (n - m) x)) (cuts p L R m (n, x, y))
      (each-keys (Below n) (λ t. (m, t, n - m, back p L R m y)) (front p L R m (n - m) x)
      (each-so (front p L R m (n - m) x) (λ t u. (sym e, (u, back-in m (n - m) n y e iy))) (front-in m (n - m) n x e ix)))
      (cuts_each m n x y (omega (arith, l)) ix iy)

  pub aw-tensors : (s : Pair K J) → IsPair p L In R s → Each (λ t. (t.0 + t.2 ≡ s.0) × IsTensor p L In R t) (aw p L R s)
  aw-tensors s i =
      each-so (aw p L R s) (λ t h. (h.0.0, (h.0.1.0, h.0.1.1, h.1)))
      (each-keep (Below s.0) (is_tensor_cell p L R) (cuts p L R (suc s.0) s) (cuts_each (suc s.0) s.0 s.1 s.2 (omega arith) i.0 i.1))

  -- the map is the map
  pub aw-keys : (s : Pair K J) → IsPair p L In R s → lin S tkeys (val p pos (aw p L R s)) ≡ AW S A B (PK.key p pos L In R left right s)
  unfolding AW
  aw-keys s i =
      lin-keep p pos (Below s.0) tkeys (is_tensor_cell p L R) (λ t v h. tkeys-none t v.1 h) (cuts p L R (suc s.0) s) (cuts_each (suc s.0) s.0 s.1 s.2 (omega arith) i.0 i.1)
      ∙ cuts-keys (suc s.0) s.0 s.1 s.2 (omega arith) i.0 i.1
      ∙ sym (nut-AWs S A B s.0 (PK.two p pos L In R left right s))
      ∙ ap (λ q. lin S (nut S A B) (AWs S A B s.0 q)) (sym (PK.raw-key p pos L In R left right s i))
      ∙ ap (λ n. lin S (nut S A B) (AWs S A B n (raw S A B (PK.key p pos L In R left right s)))) (sym (PK.key-len p pos L In R left right s))
