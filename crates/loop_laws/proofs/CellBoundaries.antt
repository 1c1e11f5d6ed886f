-- The cells of a simplicial set, as values: the boundary of a degenerate simplex has degenerate terms alone, and two that cancel. So a
-- degenerate simplex may be counted as 0 before the boundary or after it.
use Rattle.std.proofs.Common.{◌≡◌, ℕ, zero, suc, ◌*◌, ◌<◌, ◌≤◌, [], ◌∷◌, Bool, not, inl, inr, refl, sym, ◌∙◌, ap, arith}
use Rattle.fp_field.specs.Field.{sign}
use Rattle.fp_field.specs.Chains.{Terms, keep, faces_sum}
use Rattle.fp_field.specs.Reduction.{one}
use Rattle.spaces.specs.Simplicial.{Simplicial, IsSimplicial, is_degenerate}
use Rattle.spaces.proofs.Degenerate.{degenerate_is, degenerate_so}
use Rattle.homology_laws.proofs.CellChains.{cell_d_of}
use Rattle.ez_laws.proofs.Matches.{two}
use Rattle.ez_laws.proofs.Functionals.{Coefficients, Ch}
use Rattle.ez_laws.proofs.ChainLaws.{o, add, neg, eta, lin, sg, tot, comm, lin-eta, lin-id, lin-lin, lin-o, lin-sg, lin-tot, tot-on, sg-o}
use Rattle.ez_laws.proofs.Values.{field, val, val-nil, lin-nil, lin-cons, lin-moved, lin-one, lin-keys}
use Rattle.ez_laws.proofs.PairComplex.{tot-two, order}
use Rattle.twist_laws.proofs.Supports.{kept_key, kept-true, kept-false, val-keep}

module _ (p : ℕ) (pos : 0 < p) {J : Type 0} (G : Simplicial J) (laws : IsSimplicial G) where
  abbrev S : Coefficients
  S = field p pos

  abbrev Cell : Type 0
  Cell = ℕ × J

  abbrev is_cell : Cell → Bool
  is_cell c = not (is_degenerate G c.0 c.1)

  -- a simplex, 0 where it is degenerate
  abbrev pub kept_cell : Cell → Ch S Cell
  kept_cell c = kept_key p pos is_cell c

  -- the signed sum of the faces, degenerate ones too
  unfoldable pub boundary : Cell → Ch S Cell
  boundary (zero, x) = o S
  boundary (suc n, x) = tot S (suc (suc n)) (λ i. sg S i (eta S (n, G.face i x)))

  pub lin-boundary : {M : Type 0} (T : Cell → Ch S M) (n : ℕ) (x : J)
      → lin S T (boundary (suc n, x)) ≡ tot S (suc (suc n)) (λ i. sg S i (T (n, G.face i x)))
  unfolding boundary
  lin-boundary T n x =
      lin-tot S (suc (suc n)) T (λ i. sg S i (eta S (n, G.face i x)))
      ∙ tot-on S (suc (suc n)) (λ i. lin S T (sg S i (eta S (n, G.face i x)))) (λ i. sg S i (T (n, G.face i x)))
      (λ i l. lin-sg S i T (eta S (n, G.face i x)) ∙ ap (sg S i) (lin-eta S T (n, G.face i x)))

  pub degenerate-cell : (n j : ℕ) (y : J) → G.In n y → j ≤ n → kept_cell (suc n, G.degeneracy j y) ≡ o S
  degenerate-cell n j y is l = kept-false p pos is_cell (suc n, G.degeneracy j y) (ap not (degenerate_so G laws n j y is l))

  -- the other faces of s_j y are degenerate
  face-before : (n i j : ℕ) (y : J) → G.In n y → j ≤ n → i < j → kept_cell (n, G.face i (G.degeneracy j y)) ≡ o S
  face-before n i zero y is h l = absurd (omega (arith, l))
  face-before zero i (suc j) y is h l = absurd (omega (arith, h))
  face-before (suc n) i (suc j) y is h l =
      ap (λ z. kept_cell (suc n, z)) (laws.face_below (suc n) i j y is (omega (arith, l)) (omega (arith, h)))
      ∙ degenerate-cell n j (G.face i y) (laws.face_in n i y is (omega (arith, h, l))) (omega (arith, h))

  face-after : (n i j : ℕ) (y : J) → G.In n y → i < suc (suc n) → suc j < i → kept_cell (n, G.face i (G.degeneracy j y)) ≡ o S
  face-after n zero j y is h l = absurd (omega (arith, l))
  face-after zero (suc i) j y is h l = absurd (omega (arith, h, l))
  face-after (suc n) (suc i) j y is h l =
      ap (λ z. kept_cell (suc n, z)) (laws.face_above (suc n) i j y is (omega (arith, l)) (omega (arith, h)))
      ∙ degenerate-cell n j (G.face i y) (laws.face_in n i y is (omega (arith, h))) (omega (arith, h, l))

  pub boundary-degenerate : (n j : ℕ) (y : J) → G.In n y → j ≤ n → lin S kept_cell (boundary (suc n, G.degeneracy j y)) ≡ o S
  unfolding sg
  boundary-degenerate n j y is l =
      let x : J = G.degeneracy j y in
      lin-boundary kept_cell n x
      ∙ tot-two S Cell (suc (suc n)) j (λ i. sg S i (kept_cell (n, G.face i x))) (omega (arith, l))
      (ap (λ z. neg S (sg S j (kept_cell (n, z)))) (laws.face_next n j y is l ∙ sym (laws.face_here n j y is l)))
      (λ i b n1 n2. ap (sg S i) (elim (order i j) as (λ v. kept_cell (n, G.face i x) ≡ o S)
      [ inl a ↦ face-before n i j y is l (omega (arith, a, n1)) | inr a ↦ face-after n i j y is b (omega (arith, a, n2)) ]) ∙ sg-o S i)

  -- one signed term
  lin-signed : {K M : Type 0} (T : K → Ch S M) (i : ℕ) (k : K) → lin S T (val p pos ((k, sign p i) ∷ [])) ≡ sg S i (T k)
  lin-signed T i k =
      ap (λ a. lin S T (val p pos ((k, a) ∷ []))) (let e : sign p i ≡ sign p i * 1 = omega arith in e)
      ∙ lin-moved p pos T (λ z. z) i (one k) ∙ ap (sg S i) (lin-one p pos T k)

  -- the list of signed faces
  lin-faces : {M : Type 0} (T : J → Ch S M) (k : ℕ) (x : J) → lin S T (val p pos (faces_sum p G.face k x)) ≡ tot S k (λ i. sg S i (T (G.face i x)))
  unfolding tot
  lin-faces T zero x = lin-nil p pos T
  lin-faces T (suc k) x =
      lin-cons p pos T (G.face k x, sign p k) (faces_sum p G.face k x)
      ∙ comm S (lin S T (val p pos ((G.face k x, sign p k) ∷ []))) (lin S T (val p pos (faces_sum p G.face k x)))
      ∙ ap (add S (lin S T (val p pos (faces_sum p G.face k x)))) (lin-signed T k (G.face k x))
      ∙ ap (λ v. add S v (sg S k (T (G.face k x)))) (lin-faces T k x)

  -- with the degree before it
  kept-placed : (n : ℕ) (y : J) → lin S (λ z. eta S (n, z)) (kept_key p pos (λ z. not (is_degenerate G n z)) y) ≡ kept_cell (n, y)
  kept-placed n y =
      let ok : J → Bool = λ z. not (is_degenerate G n z) in
      let placed : J → Ch S Cell = λ z. eta S (n, z) in
      elim (two (ok y)) as (λ v. lin S placed (kept_key p pos ok y) ≡ kept_cell (n, y)) [
        | inl e ↦ ap (lin S placed) (kept-true p pos ok y e) ∙ lin-eta S placed y ∙ sym (kept-true p pos is_cell (n, y) e)
        | inr e ↦ ap (lin S placed) (kept-false p pos ok y e) ∙ lin-o S placed ∙ sym (kept-false p pos is_cell (n, y) e)
      ]

  -- the differential of cells is the boundary without degenerate simplices
  pub val-cell_d : (n : ℕ) (x : J) → val p pos (cell_d_of G p (suc n, x)) ≡ lin S kept_cell (boundary (suc n, x))
  val-cell_d n x =
      let ok : J → Bool = λ y. not (is_degenerate G n y) in
      let c : Terms J = faces_sum p G.face (suc (suc n)) x in
      sym (lin-id S (val p pos (cell_d_of G p (suc n, x))))
      ∙ lin-keys p pos (eta S) (λ y. (n, y)) (keep ok c)
      ∙ ap (lin S (λ y. eta S (n, y))) (val-keep p pos ok c)
      ∙ lin-lin S (kept_key p pos ok) (λ y. eta S (n, y)) (val p pos c)
      ∙ ap (λ (T : J → Ch S Cell). lin S T (val p pos c)) (λ i y. kept-placed n y i)
      ∙ lin-faces (λ y. kept_cell (n, y)) (suc (suc n)) x
      ∙ sym (lin-boundary kept_cell n x)

  abbrev cell_value : Cell → Ch S Cell
  cell_value c = val p pos (cell_d_of G p c)

  pub cell_d-kept : (n : ℕ) (x : J) → G.In n x → lin S (λ c. val p pos (cell_d_of G p c)) (kept_cell (n, x)) ≡ lin S kept_cell (boundary (n, x))
  unfolding boundary
  cell_d-kept zero x is =
      ap (lin S cell_value) (kept-true p pos is_cell (0, x) refl) ∙ lin-eta S cell_value (0, x) ∙ val-nil p pos ∙ sym (lin-o S kept_cell)
  cell_d-kept (suc n) x is =
      elim (two (is_degenerate G (suc n) x)) as (λ v. lin S cell_value (kept_cell (suc n, x)) ≡ lin S kept_cell (boundary (suc n, x))) [
        | inl e ↦
            let r = degenerate_is G laws n x is e in
            ap (lin S cell_value) (kept-false p pos is_cell (suc n, x) (ap not e)) ∙ lin-o S cell_value
            ∙ sym (ap (λ z. lin S kept_cell (boundary (suc n, z))) r.4 ∙ boundary-degenerate n r.0 r.1 r.3 r.2)
        | inr e ↦
            ap (lin S cell_value) (kept-true p pos is_cell (suc n, x) (ap not e)) ∙ lin-eta S cell_value (suc n, x) ∙ val-cell_d n x
      ]
