-- Unfox on pairs of a letter y and an element g of a simplicial group: y, g goes to t(y) g - g, for any twisting operator t. It carries
-- the differential of the pairs, plus the twist of the letters, to that of the cells of the group.
use Rattle.std.proofs.Common.{◌≡◌, ℕ, zero, suc, ◌-◌, ◌*◌, ◌<◌, ◌≤◌, [], ◌∷◌, ◌++◌, Bool, true, false, not, ◌&&◌, cond, map, inl, inr, refl, sym, ◌∙◌, ap, subst, arith}
use Rattle.std.proofs.lemmas.Bool.{not-false, and_parts}
use Rattle.fp_field.specs.Field.{sign}
use Rattle.fp_field.specs.Chains.{Terms, extend, keep}
use Rattle.fp_field.specs.Reduction.{one}
use Rattle.spaces.specs.Simplicial.{Simplicial, IsSimplicial, has_degeneracy, is_degenerate, some_below}
use Rattle.spaces.specs.Orders.{Ordered}
use Rattle.spaces.specs.Products.{IsTwisting}
use Rattle.spaces.specs.EilenbergZilber.{Linear, Pair, is_pair_cell, first_faces, pair_d}
use Rattle.values.specs.Twists.{not_first, letters}
use Rattle.homology_laws.proofs.CellChains.{cell_d_of}
use Rattle.ez_laws.specs.Sides.{IsLeft, IsRight}
use Rattle.ez_laws.specs.LetterSides.{IsLetter}
use Rattle.ez_laws.proofs.Matches.{two}
use Rattle.ez_laws.proofs.Functionals.{Coefficients, Ch}
use Rattle.ez_laws.proofs.ChainLaws.{o, add, neg, eta, lin, sg, tot, All, assoc, comm, inverse, lin-eta, lin-lin, lin-o, lin-add, lin-neg, lin-sg, lin-tot, lin-on, all-eta, all-add, all-neg, tot-on, tot-add, sg-add, sg-neg, sg-tot}
use Rattle.ez_laws.proofs.Values.{field, val, all-val, val-extend, lin-append, lin-nil, lin-moved, lin-one}
use Rattle.ez_laws.proofs.Fronts.{tot-first}
use Rattle.ez_laws.proofs.PairKeys.{found-below}
use Rattle.ez_laws.proofs.LetterFaces.{letters-left}
use Rattle.ez_laws.proofs.SimplicialSides.{over-of}
use Rattle.twist_laws.proofs.Supports.{kept_key, kept-true, kept-false, val-keep}
use Rattle.twist_laws.proofs.TwistedPairs.{val-difference}
use Rattle.loop_laws.proofs.Differences.{telescope, less-less}
use Rattle.loop_laws.proofs.CellBoundaries.{kept_cell, boundary, degenerate-cell, cell_d-kept}

module _ (p : ℕ) (pos : 0 < p) {K J : Type 0} (A : Ordered K) (Go : Ordered J) (base : IsRight A) (fibre : IsRight Go)
    (t : K → J) (times : J → J → J) (w : IsTwisting A.set Go.set t times) where
  abbrev S : Coefficients
  S = field p pos

  abbrev X : Simplicial K
  X = A.set

  abbrev G : Simplicial J
  G = Go.set

  abbrev laws : IsSimplicial G
  laws = fibre.simplicial

  abbrev base_laws : IsSimplicial X
  base_laws = base.simplicial

  abbrev L : Linear K
  L = letters p A

  abbrev left : IsLeft p (letters p A) (IsLetter A.set)
  left = letters-left p pos A base

  abbrev Cell : Type 0
  Cell = ℕ × J

  abbrev LetterPair : Type 0
  LetterPair = Pair K J

  abbrev is_cell : Cell → Bool
  is_cell c = not (is_degenerate G c.0 c.1)

  abbrev is_pair : LetterPair → Bool
  is_pair s = is_pair_cell p L Go s

  abbrev kept_pair : LetterPair → Ch S LetterPair
  kept_pair s = kept_key p pos is_pair s

  abbrev kept : Cell → Ch S Cell
  kept c = kept_cell p pos G laws c

  -- unfox and the twist of the letters, as `values/specs/Twists` has them for words
  abbrev pub unfox_of : LetterPair → Terms Cell
  unfox_of (n, y, g) = keep is_cell (((n, times (t y) g), 1) ∷ (((n, g), p - 1) ∷ []))

  abbrev pub twist_of : LetterPair → Terms LetterPair
  twist_of (zero, y, g) = []
  twist_of (suc n, y, g) =
      cond (has_degeneracy X 0 (X.face 0 y)) []
      (keep is_pair (((n, X.face 0 y, G.face 0 g), 1) ∷ (((n, X.face 0 y, times (G.face 0 (t y)) (G.face 0 g)), p - 1) ∷ [])))

  -- t(y) g - g, degenerate or not
  unfoldable pub difference : LetterPair → Ch S Cell
  difference s = add S (eta S (s.0, times (t s.1) s.2)) (neg S (eta S (s.0, s.2)))

  pub difference-is : (n : ℕ) (y : K) (g : J) → difference (n, y, g) ≡ add S (eta S (n, times (t y) g)) (neg S (eta S (n, g)))
  unfolding difference
  difference-is n y g = refl

  pub val-unfox : (n : ℕ) (y : K) (g : J) → val p pos (unfox_of (n, y, g)) ≡ lin S kept (difference (n, y, g))
  unfolding difference
  val-unfox n y g =
      val-keep p pos is_cell (((n, times (t y) g), 1) ∷ (((n, g), p - 1) ∷ []))
      ∙ ap (lin S kept) (val-difference p pos (n, times (t y) g) (n, g))

  -- an s_0 acts as the unit
  pub difference-of-unit : (n : ℕ) (z : K) (g : J) → X.In (suc n) z → G.In n g → has_degeneracy X 0 z ≡ true → difference (n, z, g) ≡ o S
  difference-of-unit n z g iz ig e =
      difference-is n z g
      ∙ ap (λ v. add S (eta S (n, v)) (neg S (eta S (n, g))))
      (ap (λ v. times (t v) g) (sym (over-of X base_laws 0 z e)) ∙ w.unit n (X.face 0 z) g (base_laws.face_in n 0 z iz (omega arith)) ig)
      ∙ inverse S (eta S (n, g))

  -- both parts of the difference are degenerate where letter and element are, at one place
  pub difference-of-degenerate : (n j : ℕ) (y : K) (g : J) → X.In (suc n) y → G.In n g → j < n
      → has_degeneracy X (suc j) y ≡ true → has_degeneracy G j g ≡ true
      → lin S kept (difference (n, y, g)) ≡ o S
  difference-of-degenerate zero j y g iy ig l e f = absurd (omega (arith, l))
  difference-of-degenerate (suc m) j y g iy ig l e f =
      let n : ℕ = suc m in
      let u : K = X.face (suc j) y in
      let iu : X.In (suc m) u = base_laws.face_in (suc m) (suc j) y iy (omega (arith, l)) in
      let v : J = G.face j g in
      let iv : G.In m v = laws.face_in m j g ig (omega (arith, l)) in
      let itu : G.In m (t u) = w.t_in m u iu in
      let eg : g ≡ G.degeneracy j v = sym (over-of G laws j g f) in
      let et : times (t y) g ≡ G.degeneracy j (times (t u) v)
      = ap (λ z. times (t z) g) (sym (over-of X base_laws (suc j) y e)) ∙ ap (λ z. times z g) (w.raised m j u iu (omega (arith, l)))
      ∙ ap (times (G.degeneracy j (t u))) eg ∙ sym (w.degeneracy_times m j (t u) v itu iv (omega (arith, l))) in
      let n1 : kept (n, times (t y) g) ≡ o S
      = ap (λ z. kept (n, z)) et ∙ degenerate-cell p pos G laws m j (times (t u) v) (w.times_in m (t u) v itu iv) (omega (arith, l)) in
      let n0 : kept (n, g) ≡ o S = ap (λ z. kept (n, z)) eg ∙ degenerate-cell p pos G laws m j v iv (omega (arith, l)) in
      ap (lin S kept) (difference-is n y g) ∙ lin-add S kept (eta S (n, times (t y) g)) (neg S (eta S (n, g)))
      ∙ ap (λ x. add S x (lin S kept (neg S (eta S (n, g))))) (lin-eta S kept (n, times (t y) g) ∙ n1)
      ∙ ap (add S (o S)) (lin-neg S kept (eta S (n, g)) ∙ ap (neg S) (lin-eta S kept (n, g) ∙ n0))
      ∙ inverse S (o S)

  abbrev unfox_value : LetterPair → Ch S Cell
  unfox_value s = val p pos (unfox_of s)

  abbrev unfox_kept : LetterPair → Ch S Cell
  unfox_kept s = lin S unfox_value (kept_pair s)

  degenerate-difference : (n : ℕ) (y : K) (g : J) → X.In (suc n) y → G.In n g → is_pair (n, y, g) ≡ false
      → lin S kept (difference (n, y, g)) ≡ o S
  degenerate-difference n y g iy ig e =
      let both : ℕ → Bool = λ j. L.has_degeneracy j y && has_degeneracy G j g in
      let r = found-below n both (not-false (some_below n both) e) in
      let b = and_parts (L.has_degeneracy r.0 y) (has_degeneracy G r.0 g) r.2 in
      difference-of-degenerate n r.0 y g iy ig r.1 b.0 b.1

  -- unfox of a pair that may be degenerate
  pub unfox_kept-is : (n : ℕ) (y : K) (g : J) → X.In (suc n) y → G.In n g → unfox_kept (n, y, g) ≡ lin S kept (difference (n, y, g))
  unfox_kept-is n y g iy ig = elim (two (is_pair (n, y, g))) as (λ v. unfox_kept (n, y, g) ≡ lin S kept (difference (n, y, g))) [
    | inl e ↦ ap (lin S unfox_value) (kept-true p pos is_pair (n, y, g) e) ∙ lin-eta S unfox_value (n, y, g) ∙ val-unfox n y g
    | inr e ↦
        ap (lin S unfox_value) (kept-false p pos is_pair (n, y, g) e) ∙ lin-o S unfox_value ∙ sym (degenerate-difference n y g iy ig e)
  ]

  -- unfox is 0 on degenerate pairs, and where the letter is an s_0
  pub unfox-degenerate : (n : ℕ) (y : K) (g : J) → X.In (suc n) y → G.In n g → is_pair (n, y, g) ≡ false → val p pos (unfox_of (n, y, g)) ≡ o S
  unfox-degenerate n y g iy ig e = val-unfox n y g ∙ degenerate-difference n y g iy ig e

  pub unfox-unit : (n : ℕ) (y : K) (g : J) → X.In (suc n) y → G.In n g → has_degeneracy X 0 y ≡ true → val p pos (unfox_of (n, y, g)) ≡ o S
  unfox-unit n y g iy ig e = val-unfox n y g ∙ ap (lin S kept) (difference-of-unit n y g iy ig e) ∙ lin-o S kept

  -- the faces of a pair
  pub lin-first_faces : {M : Type 0} (R : LetterPair → Ch S M) (k n : ℕ) (y : K) (g : J)
      → lin S R (val p pos (first_faces p L Go k (suc n, y, g)))
      ≡ tot S k (λ i. sg S i (lin S (λ z. R (n, z, G.face i g)) (val p pos (L.faces (suc n) i y))))
  unfolding tot
  lin-first_faces R zero n y g = lin-nil p pos R
  lin-first_faces R (suc k) n y g =
      let c : Terms LetterPair = map (λ t. ((suc n - 1, t.0, G.face k g), sign p k * t.1)) (L.faces (suc n) k y) in
      let d : Terms LetterPair = first_faces p L Go k (suc n, y, g) in
      lin-append p pos R c d
      ∙ comm S (lin S R (val p pos c)) (lin S R (val p pos d))
      ∙ ap (add S (lin S R (val p pos d)))
      (lin-moved p pos R (λ z. (suc n - 1, z, G.face k g)) k (L.faces (suc n) k y)
      ∙ ap (λ m. sg S k (lin S (λ z. R (m, z, G.face k g)) (val p pos (L.faces (suc n) k y)))) (let e : suc n - 1 ≡ n = omega arith in e))
      ∙ ap (λ v. add S v (sg S k (lin S (λ z. R (n, z, G.face k g)) (val p pos (L.faces (suc n) k y))))) (lin-first_faces R k n y g)

  -- letters that are an s_0 have no difference
  abbrev is_free : K → Bool
  is_free z = not_first p A z

  pub lin-free : (n : ℕ) (z : K) (g : J) → X.In (suc n) z → G.In n g
      → lin S (λ x. difference (n, x, g)) (kept_key p pos is_free z) ≡ difference (n, z, g)
  lin-free n z g iz ig =
      let at : K → Ch S Cell = λ x. difference (n, x, g) in
      elim (two (has_degeneracy X 0 z)) as (λ v. lin S at (kept_key p pos is_free z) ≡ at z) [
        | inl e ↦ ap (lin S at) (kept-false p pos is_free z (ap not e)) ∙ lin-o S at ∙ sym (difference-of-unit n z g iz ig e)
        | inr e ↦ ap (lin S at) (kept-true p pos is_free z (ap not e)) ∙ lin-eta S at z
      ]

  abbrev difference_of_face : (i n : ℕ) (y : K) (g : J) → Ch S Cell
  difference_of_face i n y g = lin S (λ z. difference (n, z, G.face i g)) (val p pos (L.faces (suc n) i y))

  abbrev face_of_difference : (i n : ℕ) (y : K) (g : J) → Ch S Cell
  face_of_difference i n y g = add S (eta S (n, G.face i (times (t y) g))) (neg S (eta S (n, G.face i g)))

  -- unfox, on the faces of a pair
  pub unfox-faces : (i n : ℕ) (y : K) (g : J) → IsLetter X (suc n) y → G.In (suc n) g → i ≤ suc n
      → lin S (λ z. unfox_kept (n, z, G.face i g)) (val p pos (L.faces (suc n) i y)) ≡ lin S kept (difference_of_face i n y g)
  unfox-faces i n y g iy ig l =
      let gi : J = G.face i g in
      let c : Ch S K = val p pos (L.faces (suc n) i y) in
      lin-on S (IsLetter X n) (λ z. unfox_kept (n, z, gi)) (λ z. lin S kept (difference (n, z, gi))) c
      (all-val p pos (IsLetter X n) (L.faces (suc n) i y) (left.faces_in n i y iy l))
      (λ z u. unfox_kept-is n z gi u.0 (laws.face_in n i g ig l))
      ∙ sym (lin-lin S (λ z. difference (n, z, gi)) kept c)

  -- a later face of the pair has the difference's face
  pub later-face : (i n : ℕ) (y : K) (g : J) → X.In (suc (suc n)) y → G.In (suc n) g → i ≤ n
      → difference_of_face (suc i) n y g ≡ face_of_difference (suc i) n y g
  later-face i n y g iy ig l =
      let z : K = X.face (suc (suc i)) y in
      let iz : X.In (suc n) z = base_laws.face_in (suc n) (suc (suc i)) y iy (omega (arith, l)) in
      let gi : J = G.face (suc i) g in
      ap (lin S (λ x. difference (n, x, gi))) (val-keep p pos is_free (one z) ∙ lin-one p pos (kept_key p pos is_free) z)
      ∙ lin-free n z gi iz (laws.face_in n (suc i) g ig (omega (arith, l)))
      ∙ difference-is n z gi
      ∙ ap (λ v. add S (eta S (n, v)) (neg S (eta S (n, gi))))
      (ap (λ v. times v gi) (sym (w.later n i y iy l)) ∙ sym (w.face_times n (suc i) (t y) g (w.t_in (suc n) y iy) ig (omega (arith, l))))

  -- the first face, that is d_1 - d_0 on the letter
  pub first-face : (n : ℕ) (y : K) (g : J) → X.In (suc (suc n)) y → G.In (suc n) g
      → difference_of_face 0 n y g ≡ add S (difference (n, X.face 1 y, G.face 0 g)) (neg S (difference (n, X.face 0 y, G.face 0 g)))
  first-face n y g iy ig =
      let z1 : K = X.face 1 y in
      let z0 : K = X.face 0 y in
      let g0 : J = G.face 0 g in
      let ig0 : G.In n g0 = laws.face_in n 0 g ig (omega arith) in
      let f : K → Ch S Cell = λ x. difference (n, x, g0) in
      let k : K → Ch S K = kept_key p pos is_free in
      let fk : K → Ch S Cell = λ x. lin S f (k x) in
      ap (lin S f) (val-keep p pos is_free ((z1, 1) ∷ ((z0, p - 1) ∷ [])) ∙ ap (lin S k) (val-difference p pos z1 z0))
      ∙ lin-lin S k f (add S (eta S z1) (neg S (eta S z0)))
      ∙ lin-add S fk (eta S z1) (neg S (eta S z0))
      ∙ ap (λ v. add S v (lin S fk (neg S (eta S z0)))) (lin-eta S fk z1 ∙ lin-free n z1 g0 (base_laws.face_in (suc n) 1 y iy (omega arith)) ig0)
      ∙ ap (add S (f z1))
      (lin-neg S fk (eta S z0) ∙ ap (neg S) (lin-eta S fk z0 ∙ lin-free n z0 g0 (base_laws.face_in (suc n) 0 y iy (omega arith)) ig0))

  abbrev moved_by : K → J → J
  moved_by y g = times (G.face 0 (t y)) (G.face 0 g)

  pub moved-in : (n : ℕ) (y : K) (g : J) → X.In (suc (suc n)) y → G.In (suc n) g → G.In n (moved_by y g)
  moved-in n y g iy ig =
      w.times_in n (G.face 0 (t y)) (G.face 0 g) (laws.face_in n 0 (t y) (w.t_in (suc n) y iy) (omega arith)) (laws.face_in n 0 g ig (omega arith))

  -- unfox, on the twist of a pair
  pub unfox-twist : (n : ℕ) (y : K) (g : J) → X.In (suc (suc n)) y → G.In (suc n) g
      → lin S unfox_value (val p pos (twist_of (suc n, y, g)))
      ≡ lin S kept (add S (difference (n, X.face 0 y, G.face 0 g)) (neg S (difference (n, X.face 0 y, moved_by y g))))
  unfox-twist n y g iy ig =
      let z : K = X.face 0 y in
      let iz : X.In (suc n) z = base_laws.face_in (suc n) 0 y iy (omega arith) in
      let a : J = G.face 0 g in
      let ia : G.In n a = laws.face_in n 0 g ig (omega arith) in
      let b : J = moved_by y g in
      let ib : G.In n b = moved-in n y g iy ig in
      let c : Terms LetterPair = ((n, z, a), 1) ∷ (((n, z, b), p - 1) ∷ []) in
      let da : Ch S Cell = difference (n, z, a) in
      let db : Ch S Cell = difference (n, z, b) in
      let at : Bool → Ch S Cell = λ v. lin S unfox_value (val p pos (cond v [] (keep is_pair c))) in
      elim (two (has_degeneracy X 0 z)) as (λ v. at (has_degeneracy X 0 z) ≡ lin S kept (add S da (neg S db))) [
        | inl e ↦
            ap at e ∙ lin-nil p pos unfox_value
            ∙ sym (ap (λ v. lin S kept (add S v (neg S db))) (difference-of-unit n z a iz ia e)
            ∙ ap (λ v. lin S kept (add S (o S) (neg S v))) (difference-of-unit n z b iz ib e)
            ∙ ap (lin S kept) (inverse S (o S)) ∙ lin-o S kept)
        | inr e ↦
            ap at e
            ∙ ap (lin S unfox_value) (val-keep p pos is_pair c ∙ ap (lin S kept_pair) (val-difference p pos (n, z, a) (n, z, b)))
            ∙ lin-lin S kept_pair unfox_value (add S (eta S (n, z, a)) (neg S (eta S (n, z, b))))
            ∙ lin-add S unfox_kept (eta S (n, z, a)) (neg S (eta S (n, z, b)))
            ∙ ap (λ v. add S v (lin S unfox_kept (neg S (eta S (n, z, b))))) (lin-eta S unfox_kept (n, z, a) ∙ unfox_kept-is n z a iz ia)
            ∙ ap (add S (lin S kept da))
            (lin-neg S unfox_kept (eta S (n, z, b)) ∙ ap (neg S) (lin-eta S unfox_kept (n, z, b) ∙ unfox_kept-is n z b iz ib))
            ∙ sym (lin-add S kept da (neg S db) ∙ ap (add S (lin S kept da)) (lin-neg S kept db))
      ]

  -- with what the twist adds, the first face of the pair has the first face of the difference
  pub first-face-twisted : (n : ℕ) (y : K) (g : J) → X.In (suc (suc n)) y → G.In (suc n) g
      → add S (difference_of_face 0 n y g) (add S (difference (n, X.face 0 y, G.face 0 g)) (neg S (difference (n, X.face 0 y, moved_by y g))))
      ≡ face_of_difference 0 n y g
  first-face-twisted n y g iy ig =
      let z1 : K = X.face 1 y in
      let z0 : K = X.face 0 y in
      let g0 : J = G.face 0 g in
      let ig0 : G.In n g0 = laws.face_in n 0 g ig (omega arith) in
      let t0 : J = G.face 0 (t y) in
      let it0 : G.In n t0 = laws.face_in n 0 (t y) (w.t_in (suc n) y iy) (omega arith) in
      let b : J = moved_by y g in
      let e : times (t z0) b ≡ times (t z1) g0
      = sym (w.associates n (t z0) t0 g0 (w.t_in n z0 (base_laws.face_in (suc n) 0 y iy (omega arith))) it0 ig0)
      ∙ ap (λ v. times v g0) (w.first n y iy) in
      ap (λ v. add S v (add S (difference (n, z0, g0)) (neg S (difference (n, z0, b))))) (first-face n y g iy ig)
      ∙ telescope S (difference (n, z1, g0)) (difference (n, z0, g0)) (difference (n, z0, b))
      ∙ ap (λ v. add S v (neg S (difference (n, z0, b)))) (difference-is n z1 g0)
      ∙ ap (λ v. add S (add S (eta S (n, times (t z1) g0)) (neg S (eta S (n, g0)))) (neg S v))
      (difference-is n z0 b ∙ ap (λ v. add S (eta S (n, v)) (neg S (eta S (n, b)))) e)
      ∙ less-less S (eta S (n, times (t z1) g0)) (eta S (n, g0)) (eta S (n, b))
      ∙ ap (λ v. add S (eta S (n, v)) (neg S (eta S (n, g0)))) (sym (w.face_times n 0 (t y) g (w.t_in (suc n) y iy) ig (omega arith)))

  -- the boundary of the difference
  pub boundary-difference : (n : ℕ) (y : K) (g : J)
      → lin S (boundary p pos G laws) (difference (suc n, y, g)) ≡ tot S (suc (suc n)) (λ i. sg S i (face_of_difference i n y g))
  unfolding boundary sg
  boundary-difference n y g =
      let B : Cell → Ch S Cell = boundary p pos G laws in
      let a : J = times (t y) g in
      let f : ℕ → Ch S Cell = λ i. sg S i (eta S (n, G.face i a)) in
      let h : ℕ → Ch S Cell = λ i. sg S i (eta S (n, G.face i g)) in
      ap (lin S B) (difference-is (suc n) y g)
      ∙ lin-add S B (eta S (suc n, a)) (neg S (eta S (suc n, g)))
      ∙ ap (λ v. add S v (lin S B (neg S (eta S (suc n, g))))) (lin-eta S B (suc n, a))
      ∙ ap (add S (tot S (suc (suc n)) f)) (lin-neg S B (eta S (suc n, g)) ∙ ap (neg S) (lin-eta S B (suc n, g)) ∙ sg-tot S 1 (suc (suc n)) h)
      ∙ sym (tot-add S (suc (suc n)) f (λ i. neg S (h i)))
      ∙ tot-on S (suc (suc n)) (λ i. add S (f i) (neg S (h i))) (λ i. sg S i (face_of_difference i n y g))
      (λ i l. sym (sg-add S i (eta S (n, G.face i a)) (neg S (eta S (n, G.face i g))) ∙ ap (add S (f i)) (sg-neg S i (eta S (n, G.face i g)))))

  pub difference-in : (n : ℕ) (y : K) (g : J) → X.In (suc n) y → G.In n g → All S (λ c. (c.0 ≡ n) × G.In n c.1) (difference (n, y, g))
  unfolding difference
  difference-in n y g iy ig =
      let Q : Cell → Type 0 = λ c. (c.0 ≡ n) × G.In n c.1 in
      all-add S Q (eta S (n, times (t y) g)) (neg S (eta S (n, g)))
      (all-eta S Q (n, times (t y) g) (refl, w.times_in n (t y) g (w.t_in n y iy) ig))
      (all-neg S Q (eta S (n, g)) (all-eta S Q (n, g) (refl, ig)))

  -- the sum of the faces of the pair, each with its difference, and the twist
  pairs-side : (n : ℕ) (y : K) (g : J) → IsLetter X (suc n) y → G.In (suc n) g
      → val p pos (extend unfox_of (pair_d p L Go (suc n, y, g) ++ twist_of (suc n, y, g)))
      ≡ tot S (suc (suc n)) (λ i. sg S i (lin S kept (face_of_difference i n y g)))
  unfolding sg
  pairs-side n y g iy ig =
      let s : LetterPair = (suc n, y, g) in
      let faces : Terms LetterPair = first_faces p L Go (suc (suc n)) s in
      let q : Ch S Cell = lin S unfox_value (val p pos (twist_of s)) in
      let added : Ch S Cell = add S (difference (n, X.face 0 y, G.face 0 g)) (neg S (difference (n, X.face 0 y, moved_by y g))) in
      let F : ℕ → Ch S Cell = λ i. sg S i (lin S kept (difference_of_face i n y g)) in
      let V : ℕ → Ch S Cell = λ i. sg S i (lin S kept (face_of_difference i n y g)) in
      let rest : Ch S Cell = tot S (suc n) (λ i. F (suc i)) in
      val-extend p pos unfox_of (pair_d p L Go s ++ twist_of s)
      ∙ lin-append p pos unfox_value (pair_d p L Go s) (twist_of s)
      ∙ ap (λ v. add S v q)
      (ap (lin S unfox_value) (val-keep p pos is_pair faces) ∙ lin-lin S kept_pair unfox_value (val p pos faces)
      ∙ lin-first_faces unfox_kept (suc (suc n)) n y g
      ∙ tot-on S (suc (suc n)) (λ i. sg S i (lin S (λ z. unfox_kept (n, z, G.face i g)) (val p pos (L.faces (suc n) i y)))) F
      (λ i l. ap (sg S i) (unfox-faces i n y g iy ig (omega (arith, l))))
      ∙ tot-first S Cell (suc n) F)
      ∙ assoc S (F 0) rest q ∙ ap (add S (F 0)) (comm S rest q ∙ ap (λ v. add S v rest) (unfox-twist n y g iy.0 ig))
      ∙ sym (assoc S (F 0) (lin S kept added) rest)
      ∙ ap (λ v. add S v rest)
      (sym (lin-add S kept (difference_of_face 0 n y g) added) ∙ ap (lin S kept) (first-face-twisted n y g iy.0 ig))
      ∙ ap (add S (V 0))
      (tot-on S (suc n) (λ i. F (suc i)) (λ i. V (suc i))
      (λ i l. ap (λ v. sg S (suc i) (lin S kept v)) (later-face i n y g iy.0 ig (omega (arith, l)))))
      ∙ sym (tot-first S Cell (suc n) V)

  -- and the faces of the difference
  cells-side : (n : ℕ) (y : K) (g : J) → IsLetter X (suc n) y → G.In (suc n) g
      → val p pos (extend (cell_d_of G p) (unfox_of (suc n, y, g))) ≡ tot S (suc (suc n)) (λ i. sg S i (lin S kept (face_of_difference i n y g)))
  cells-side n y g iy ig =
      let s : LetterPair = (suc n, y, g) in
      let V : ℕ → Ch S Cell = λ i. sg S i (lin S kept (face_of_difference i n y g)) in
      let cell_value : Cell → Ch S Cell = λ c. val p pos (cell_d_of G p c) in
      let B : Cell → Ch S Cell = boundary p pos G laws in
      val-extend p pos (cell_d_of G p) (unfox_of s)
      ∙ ap (lin S cell_value) (val-unfox (suc n) y g)
      ∙ lin-lin S kept cell_value (difference s)
      ∙ lin-on S (λ c. (c.0 ≡ suc n) × G.In (suc n) c.1) (λ c. lin S cell_value (kept c)) (λ c. lin S kept (B c)) (difference s)
      (difference-in (suc n) y g iy.0 ig) (λ c u. cell_d-kept p pos G laws c.0 c.1 (subst (λ m. G.In m c.1) (sym u.0) u.1))
      ∙ sym (lin-lin S B kept (difference s))
      ∙ ap (lin S kept) (boundary-difference n y g)
      ∙ lin-tot S (suc (suc n)) kept (λ i. sg S i (face_of_difference i n y g))
      ∙ tot-on S (suc (suc n)) (λ i. lin S kept (sg S i (face_of_difference i n y g))) V (λ i l. lin-sg S i kept (face_of_difference i n y g))

  -- unfox carries the differential of pairs, plus the twist, to that of cells
  pub unfox-d : (n : ℕ) (y : K) (g : J) → IsLetter X (suc n) y → G.In (suc n) g
      → val p pos (extend unfox_of (pair_d p L Go (suc n, y, g) ++ twist_of (suc n, y, g)))
      ≡ val p pos (extend (cell_d_of G p) (unfox_of (suc n, y, g)))
  unfox-d n y g iy ig = pairs-side n y g iy ig ∙ sym (cells-side n y g iy ig)
