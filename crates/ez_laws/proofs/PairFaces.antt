-- Left and right systems, pairs of simplices and their faces; which terms a face has, and that the rank falls along the flow.
use Rattle.std.specs.Prelude.{◌≡◌, refl, ℕ, ◌<◌, ◌≤◌, ◌+◌, List, [], ◌∷◌, Bool, true, false, ◌&&◌, ◌||◌, ◌++◌, ◌⊎◌}
use Rattle.std.proofs.Common.{sym, ◌∙◌, ap, subst, inl, inr, arith, suc}
use Rattle.simp_ops.specs.PathWords.{Step, left as H, right as V, both as D}
use Rattle.ez_laws.proofs.Matches.{m, src, crit, inv, crit-in, two, quiet}
use Rattle.ez_laws.proofs.WordFaces.{face, absd, len, isV, isH, bits, bits-app, len-bits, hv-face, hv-abs, absd-true, compl, compl-abs, compl-face}
use Rattle.ez_laws.proofs.WordRanks.{fls, Above, above-fls, above-len, len-face, fls-through, fls-absorbed, Opt, none, some, zip, zip-bits, zip-gives, Gives, Zipped, Split, both, ev, ev-D, Source, source, src-VH, len-app, hv, tri, hv-le, hv-swap, rk, rk-less, noD, noD-compl, above-noD}
use Rattle.ez_laws.proofs.Functionals.{Coefficients, Ch}
use Rattle.ez_laws.proofs.ChainLaws.{o, eta, lin, All, lin-eta, all-eta, all-o, all-lin, all-mono}

-- a left system: simplices are a word and a cell, faces are chains
pub record LeftSystem (S : Coefficients) : Type 1 where
  pub X : Type 0
  pub dim : X → ℕ
  pub Is : X → Type 0
  pub face : ℕ → List Bool × X → Ch S (List Bool × X)
  pub terms : (i n : ℕ) (x : List Bool × X) → len x.0 ≡ suc n → fls x.0 ≡ dim x.1 → Is x.1 → i ≤ suc n
      → All S (λ y. (fls y.0 ≡ dim y.1) × Above (Rattle.ez_laws.proofs.WordFaces.face i x.0) y.0 × Is y.1) (face i x)
  pub absorbed : (i n : ℕ) (x : List Bool × X) → len x.0 ≡ suc n → fls x.0 ≡ dim x.1 → Is x.1 → i ≤ suc n → absd i x.0 ≡ true
      → face i x ≡ eta S (Rattle.ez_laws.proofs.WordFaces.face i x.0, x.1)
  pub twice : (i k n : ℕ) (x : List Bool × X) → len x.0 ≡ suc (suc n) → fls x.0 ≡ dim x.1 → Is x.1 → i ≤ k → k ≤ suc n
      → lin S (face i) (face (suc k) x) ≡ lin S (face k) (face i x)

-- a right system: each face is one simplex
pub record RightSystem : Type 1 where
  pub X : Type 0
  pub dim : X → ℕ
  pub Is : X → Type 0
  pub face : ℕ → List Bool × X → List Bool × X
  pub terms : (i n : ℕ) (x : List Bool × X) → len x.0 ≡ suc n → fls x.0 ≡ dim x.1 → Is x.1 → i ≤ suc n
      → (fls (face i x).0 ≡ dim (face i x).1) × Above (Rattle.ez_laws.proofs.WordFaces.face i x.0) (face i x).0 × Is (face i x).1
  pub absorbed : (i n : ℕ) (x : List Bool × X) → len x.0 ≡ suc n → fls x.0 ≡ dim x.1 → Is x.1 → i ≤ suc n → absd i x.0 ≡ true
      → face i x ≡ (Rattle.ez_laws.proofs.WordFaces.face i x.0, x.1)
  pub twice : (i k n : ℕ) (x : List Bool × X) → len x.0 ≡ suc (suc n) → fls x.0 ≡ dim x.1 → Is x.1 → i ≤ k → k ≤ suc n
      → face i (face (suc k) x) ≡ face k (face i x)

pub compl-compl : (w : List Bool) → compl (compl w) ≡ w
unfolding compl
compl-compl [] = refl
compl-compl (true ∷ w) = ap (λ x. true ∷ x) (compl-compl w)
compl-compl (false ∷ w) = ap (λ x. false ∷ x) (compl-compl w)

pub meet : (F : Step → Step → Bool) (t : Bool) (a b : Step) → F H V ≡ t → F V H ≡ t → ((a ≡ H) × (b ≡ V)) ⊎ ((a ≡ V) × (b ≡ H)) → F a b ≡ t
meet F t a b p q x = elim x as (λ y. F a b ≡ t)
    [ inl y ↦ ap (λ z. F z b) y.0 ∙ (ap (F H) y.1 ∙ p) | inr y ↦ ap (λ z. F z b) y.0 ∙ (ap (F V) y.1 ∙ q) ]

module _ (S : Coefficients) (A : LeftSystem S) (B : RightSystem) where
  abbrev pub K : Type 0
  K = List Step × A.X × B.X

  abbrev pub P : Type 0
  P = (List Bool × A.X) × (List Bool × B.X)

  abbrev pub raw : K → P
  raw k = ((bits isV k.0, k.1), (bits isH k.0, k.2))

  unfoldable pub back : A.X → B.X → Opt (List Step) → Ch S K
  back c e none = o S
  back c e (some W) = eta S (W, c, e)

  unfoldable pub nu : P → Ch S K
  nu p = back p.0.1 p.1.1 (zip p.0.0 p.1.0)

  pub nu-raw : (k : K) → nu (raw k) ≡ eta S k
  unfolding nu back
  nu-raw k = rw (zip-bits k.0) refl

  pub all-back : (Q : K → Type 0) (c : A.X) (e : B.X) (w v : List Bool) (q : Opt (List Step)) → Gives w v q
      → ((W : List Step) → Zipped w v W → Q (W, c, e)) → All S Q (back c e q)
  unfolding back Gives
  all-back Q c e w v none g h = all-o S Q
  all-back Q c e w v (some W) g h = all-eta S Q (W, c, e) (h W g)

  pub all-nu : (Q : K → Type 0) (p : P) → ((W : List Step) → Zipped p.0.0 p.1.0 W → Q (W, p.0.1, p.1.1)) → All S Q (nu p)
  unfolding nu
  all-nu Q p h = all-back Q p.0.1 p.1.1 p.0.0 p.1.0 (zip p.0.0 p.1.0) (zip-gives p.0.0 p.1.0) h

  -- faces of pairs
  unfoldable pub pf : ℕ → P → Ch S P
  pf i p = lin S (λ x. eta S (x, B.face i p.1)) (A.face i p.0)

  unfoldable pub kf : ℕ → K → Ch S K
  kf i k = lin S nu (pf i (raw k))

  -- a pair of simplices of degree n
  abbrev pub Good : ℕ → P → Type 0
  Good n p = (len p.0.0 ≡ n) × (fls p.0.0 ≡ A.dim p.0.1) × (len p.1.0 ≡ n) × (fls p.1.0 ≡ B.dim p.1.1) × A.Is p.0.1 × B.Is p.1.1

  abbrev pub Ok : K → Type 0
  Ok k = (fls (bits isV k.0) ≡ A.dim k.1) × (fls (bits isH k.0) ≡ B.dim k.2) × A.Is k.1 × B.Is k.2

  pub good-raw : (n : ℕ) (k : K) → len k.0 ≡ n → Ok k → Good n (raw k)
  good-raw n k l ok = (len-bits isV k.0 ∙ l, ok.0, len-bits isH k.0 ∙ l, ok.1, ok.2, ok.3)

  -- the terms of a face of a pair
  abbrev pub Faced : ℕ → ℕ → P → P → Type 0
  Faced i n p q = Good n q × Above (Rattle.ez_laws.proofs.WordFaces.face i p.0.0) q.0.0 × Above (Rattle.ez_laws.proofs.WordFaces.face i p.1.0) q.1.0

  pub above-deg : (i n : ℕ) (w v : List Bool) → len w ≡ suc n → i ≤ suc n → Above (Rattle.ez_laws.proofs.WordFaces.face i w) v → len v ≡ n
  above-deg i n w v l b a = let e = len-face i w (omega (arith, l, b)) (omega (arith, l)) in omega (arith, e, l, above-len (Rattle.ez_laws.proofs.WordFaces.face i w) v a)

  pub pf-terms : (i n : ℕ) (p : P) → Good (suc n) p → i ≤ suc n → All S (Faced i n p) (pf i p)
  unfolding pf
  pf-terms i n p g l =
      let r = B.terms i n p.1 g.2 g.3 g.5 l in
      all-lin S (λ y. (fls y.0 ≡ A.dim y.1) × Above (Rattle.ez_laws.proofs.WordFaces.face i p.0.0) y.0 × A.Is y.1) (Faced i n p) (λ x. eta S (x, B.face i p.1)) (A.face i p.0)
      (A.terms i n p.0 g.0 g.1 g.4 l)
      (λ y w. all-eta S (Faced i n p) (y, B.face i p.1)
      ((above-deg i n p.0.0 y.0 g.0 l w.1, w.0, above-deg i n p.1.0 (B.face i p.1).0 g.2 l r.1, r.0, w.2, r.2), w.1, r.1))

  -- what holds of all pairs with words above the face's words holds of the face
  pub kf-all : (i n : ℕ) (k : K) → len k.0 ≡ suc n → Ok k → i ≤ suc n → (Q : K → Type 0)
      → ((q : K) → len q.0 ≡ n → Ok q → Above (Rattle.ez_laws.proofs.WordFaces.face i (bits isV k.0)) (bits isV q.0)
      → Above (Rattle.ez_laws.proofs.WordFaces.face i (bits isH k.0)) (bits isH q.0) → Q q) → All S Q (kf i k)
  unfolding kf
  kf-all i n k l ok b Q h =
      all-lin S (Faced i n (raw k)) Q nu (pf i (raw k)) (pf-terms i n (raw k) (good-raw (suc n) k l ok) b)
      (λ p w. all-nu Q p (λ W z.
      h (W, p.0.1, p.1.1) (sym (len-bits isV W) ∙ (ap len (sym z.0) ∙ w.0.0)) (ap fls (sym z.0) ∙ w.0.1, ap fls (sym z.1) ∙ w.0.3, w.0.4, w.0.5)
      (subst (λ x. Above (Rattle.ez_laws.proofs.WordFaces.face i (bits isV k.0)) x) z.0 w.1)
      (subst (λ x. Above (Rattle.ez_laws.proofs.WordFaces.face i (bits isH k.0)) x) z.1 w.2)))

  -- H V or V H become D
  pub pf-merge : (n : ℕ) (T u r : List Step) (a b : Step) (c : A.X) (e : B.X) → len T ≡ suc n → Ok (T, c, e) → T ≡ u ++ (a ∷ (b ∷ r))
      → ((a ≡ H) × (b ≡ V)) ⊎ ((a ≡ V) × (b ≡ H)) → pf (suc (len u)) (raw (T, c, e)) ≡ eta S (raw (u ++ (D ∷ r), c, e))
  unfolding pf isV isH len
  pf-merge n T u r a b c e l ok q x =
      let l2 : len T ≡ len u + suc (suc (len r)) = ap len q ∙ len-app u (a ∷ (b ∷ r)) in
      let i : ℕ = suc (len u) in
      let ab : (f : Step → Bool) → (f a || f b) ≡ true → absd i (bits f T) ≡ true = λ f w. ap (λ y. absd i (bits f y)) q ∙ (hv-abs f u r a b ∙ w) in
      let fa : (f : Step → Bool) → (f a && f b) ≡ f D → Rattle.ez_laws.proofs.WordFaces.face i (bits f T) ≡ bits f (u ++ (D ∷ r))
      = λ f w. ap (λ y. Rattle.ez_laws.proofs.WordFaces.face i (bits f y)) q ∙ hv-face f u r a b w in
      let vo : (isV a || isV b) ≡ true = meet (λ p q. isV p || isV q) true a b refl refl x in
      let ho : (isH a || isH b) ≡ true = meet (λ p q. isH p || isH q) true a b refl refl x in
      let va : (isV a && isV b) ≡ isV D = meet (λ p q. isV p && isV q) (isV D) a b refl refl x in
      let ha : (isH a && isH b) ≡ isH D = meet (λ p q. isH p && isH q) (isH D) a b refl refl x in
      let el : A.face i (bits isV T, c) ≡ eta S (bits isV (u ++ (D ∷ r)), c)
      = A.absorbed i n (bits isV T, c) (len-bits isV T ∙ l) ok.0 ok.2 (omega arith) (ab isV vo) ∙ ap (λ y. eta S (y, c)) (fa isV va) in
      let er : B.face i (bits isH T, e) ≡ (bits isH (u ++ (D ∷ r)), e)
      = B.absorbed i n (bits isH T, e) (len-bits isH T ∙ l) ok.1 ok.3 (omega arith) (ab isH ho) ∙ ap (λ y. (y, e)) (fa isH ha) in
      ap (lin S (λ x. eta S (x, B.face i (bits isH T, e)))) el ∙
      (lin-eta S (λ x. eta S (x, B.face i (bits isH T, e))) (bits isV (u ++ (D ∷ r)), c) ∙ ap (λ y. eta S ((bits isV (u ++ (D ∷ r)), c), y)) er)

  pub kf-merge : (n : ℕ) (T u r : List Step) (a b : Step) (c : A.X) (e : B.X) → len T ≡ suc n → Ok (T, c, e) → T ≡ u ++ (a ∷ (b ∷ r))
      → ((a ≡ H) × (b ≡ V)) ⊎ ((a ≡ V) × (b ≡ H)) → kf (suc (len u)) (T, c, e) ≡ eta S (u ++ (D ∷ r), c, e)
  unfolding kf
  kf-merge n T u r a b c e l ok q x = ap (lin S nu) (pf-merge n T u r a b c e l ok q x) ∙ (lin-eta S nu (raw (u ++ (D ∷ r), c, e)) ∙ nu-raw (u ++ (D ∷ r), c, e))

  -- a face that is not absorbed on both sides has cells of lower dimension
  unfoldable pub Less : K → K → Type 0
  Less k q = (A.dim q.1 ≤ A.dim k.1) × (B.dim q.2 ≤ B.dim k.2) × (A.dim q.1 + B.dim q.2 < A.dim k.1 + B.dim k.2)

  pub side : (i n : ℕ) (w v : List Bool) → len w ≡ suc n → i ≤ suc n → Above (Rattle.ez_laws.proofs.WordFaces.face i w) v → fls v ≤ fls w
  side i n w v l b a = elim (two (absd i w)) as (λ x. fls v ≤ fls w) [
    | inl x ↦ omega (arith, above-fls (Rattle.ez_laws.proofs.WordFaces.face i w) v a, fls-absorbed i w (omega (arith, l, b)) x)
    | inr x ↦ omega (arith, above-fls (Rattle.ez_laws.proofs.WordFaces.face i w) v a, fls-through i w (omega (arith, l, b)) (omega (arith, l)) x)
  ]

  pub side-less : (i n : ℕ) (w v : List Bool) → len w ≡ suc n → i ≤ suc n → absd i w ≡ false → Above (Rattle.ez_laws.proofs.WordFaces.face i w) v → fls v < fls w
  side-less i n w v l b x a =
      omega (arith, above-fls (Rattle.ez_laws.proofs.WordFaces.face i w) v a, fls-through i w (omega (arith, l, b)) (omega (arith, l)) x)

  pub kf-less : (i n : ℕ) (k : K) → len k.0 ≡ suc n → Ok k → i ≤ suc n
      → (absd i (bits isV k.0) ≡ false) ⊎ (absd i (bits isH k.0) ≡ false)
      → All S (λ q. (len q.0 ≡ n) × Ok q × Less k q) (kf i k)
  unfolding Less
  kf-less i n k l ok b x = kf-all i n k l ok b (λ q. (len q.0 ≡ n) × Ok q × Less k q) (λ q d oq av ah.
      let lv : len (bits isV k.0) ≡ suc n = len-bits isV k.0 ∙ l in
      let lh : len (bits isH k.0) ≡ suc n = len-bits isH k.0 ∙ l in
      let sv = side i n (bits isV k.0) (bits isV q.0) lv b av in
      let sh = side i n (bits isH k.0) (bits isH q.0) lh b ah in
      let s : fls (bits isV q.0) + fls (bits isH q.0) < fls (bits isV k.0) + fls (bits isH k.0)
      = elim x as (λ y. fls (bits isV q.0) + fls (bits isH q.0) < fls (bits isV k.0) + fls (bits isH k.0)) [
        | inl y ↦ omega (arith, sh, side-less i n (bits isV k.0) (bits isV q.0) lv b y av)
        | inr y ↦ omega (arith, sv, side-less i n (bits isH k.0) (bits isH q.0) lh b y ah)
      ] in
      (d, oq, (omega (arith, sv, ok.0, oq.0), omega (arith, sh, ok.1, oq.1), omega (arith, s, ok.0, oq.0, ok.1, oq.1))))

  -- a face of a pair without D, not absorbed on both sides, has no D
  pub kf-noD : (i n : ℕ) (k : K) → len k.0 ≡ suc n → Ok k → i ≤ suc n → noD k.0 ≡ true
      → (absd i (bits isV k.0) ≡ false) ⊎ (absd i (bits isH k.0) ≡ false)
      → All S (λ q. noD q.0 ≡ true) (kf i k)
  kf-noD i n k l ok b nd x = kf-all i n k l ok b (λ q. noD q.0 ≡ true) (λ q d oq av ah.
      let F : List Bool → List Bool = Rattle.ez_laws.proofs.WordFaces.face i in
      let h : bits isH k.0 ≡ compl (bits isV k.0) = noD-compl k.0 nd in
      let v : bits isV k.0 ≡ compl (bits isH k.0) = sym (compl-compl (bits isV k.0)) ∙ ap compl (sym h) in
      elim x as (λ y. noD q.0 ≡ true) [
        | inl y ↦ above-noD (F (bits isV k.0)) q.0 av (subst (λ z. Above z (bits isH q.0)) (ap F h ∙ compl-face i (bits isV k.0) y) ah)
        | inr y ↦
            let e : F (bits isV k.0) ≡ compl (F (bits isH k.0)) = ap F v ∙ compl-face i (bits isH k.0) y in
            above-noD (F (bits isV k.0)) q.0 av (subst (λ z. Above z (bits isH q.0)) (sym (compl-compl (F (bits isH k.0))) ∙ ap compl (sym e)) ah)
      ])

  unfoldable pub rank : K → ℕ
  rank k = rk (A.dim k.1 + B.dim k.2) (tri (suc (len k.0))) + hv (m k.0)

  abbrev pub Near : K → K → Type 0
  Near s q = (len q.0 ≡ len s.0) × (A.dim q.1 ≤ A.dim s.1) × (B.dim q.2 ≤ B.dim s.2)

  abbrev pub Small : K → K → Type 0
  Small s q = Ok q × ((src q.0 ≡ false) ⊎ (rank q < rank s)) × Near s q

  abbrev pub up : K → K
  up k = (m k.0, k.1, k.2)

  pub src-m : (W : List Step) → src W ≡ true → (src (m W) ≡ false) × (len (m W) ≡ suc (len W))
  unfolding len
  src-m W e =
      let s : Source W = source W e in
      let a : m W ≡ s.u ++ (V ∷ (H ∷ s.r)) = ap m s.eq ∙ crit-in s.u s.r s.quiet in (
        ap src a ∙ src-VH s.u s.r s.quiet,
        (let b = ap len a ∙ len-app s.u (V ∷ (H ∷ s.r)) in let c = ap len s.eq ∙ len-app s.u (D ∷ s.r) in omega (arith, b, c)),
      )

  -- the match keeps the cells' dimensions
  pub up-fls : (W : List Step) → src W ≡ true → (fls (bits isV (m W)) ≡ fls (bits isV W)) × (fls (bits isH (m W)) ≡ fls (bits isH W))
  unfolding len isV isH
  up-fls W e =
      let s : Source W = source W e in
      let a : m W ≡ s.u ++ (V ∷ (H ∷ s.r)) = ap m s.eq ∙ crit-in s.u s.r s.quiet in
      let f : (g : Step → Bool) → (g V || g H) ≡ true → (g V && g H) ≡ g D → fls (bits g (m W)) ≡ fls (bits g W)
      = λ g x y.
      let i : ℕ = suc (len s.u) in
      let l : len (bits g (m W)) ≡ len s.u + suc (suc (len s.r)) = len-bits g (m W) ∙ (ap len a ∙ len-app s.u (V ∷ (H ∷ s.r))) in
      sym (fls-absorbed i (bits g (m W)) (omega (arith, l)) (ap (λ z. absd i (bits g z)) a ∙ (hv-abs g s.u s.r V H ∙ x)))
      ∙ (ap (λ z. fls (Rattle.ez_laws.proofs.WordFaces.face i (bits g z))) a ∙ (ap fls (hv-face g s.u s.r V H y) ∙ ap (λ z. fls (bits g z)) (sym s.eq))) in
      (f isV refl refl, f isH refl refl)

  pub up-ok : (k : K) → src k.0 ≡ true → Ok k → Ok (up k)
  up-ok k e ok = ((up-fls k.0 e).0 ∙ ok.0, (up-fls k.0 e).1 ∙ ok.1, ok.2, ok.3)

  pub down-ok : (k : K) → src k.0 ≡ true → Ok (up k) → Ok k
  down-ok k e ok = (sym (up-fls k.0 e).0 ∙ ok.0, sym (up-fls k.0 e).1 ∙ ok.1, ok.2, ok.3)

  pub app2 : (u r : List Step) (a b : Step) → len (u ++ (a ∷ (b ∷ r))) ≡ len u + suc (suc (len r))
  unfolding len
  app2 u r a b = len-app u (a ∷ (b ∷ r))

  pub app1 : (u r : List Step) (a : Step) → len (u ++ (a ∷ r)) ≡ len u + suc (len r)
  unfolding len
  app1 u r a = len-app u (a ∷ r)

  pub merge-ok : (T u r : List Step) (a b : Step) (c : A.X) (e : B.X) → T ≡ u ++ (a ∷ (b ∷ r))
      → ((a ≡ H) × (b ≡ V)) ⊎ ((a ≡ V) × (b ≡ H)) → Ok (T, c, e) → Ok (u ++ (D ∷ r), c, e)
  unfolding isV isH
  merge-ok T u r a b c e q x ok =
      let f : (g : Step → Bool) → (g a || g b) ≡ true → (g a && g b) ≡ g D → fls (bits g (u ++ (D ∷ r))) ≡ fls (bits g T)
      = λ g x y.
      let i : ℕ = suc (len u) in
      let l : len (bits g T) ≡ len u + suc (suc (len r)) = len-bits g T ∙ (ap len q ∙ app2 u r a b) in
      sym (ap (λ z. fls (Rattle.ez_laws.proofs.WordFaces.face i (bits g z))) q ∙ ap fls (hv-face g u r a b y))
      ∙ fls-absorbed i (bits g T) (omega (arith, l)) (ap (λ z. absd i (bits g z)) q ∙ (hv-abs g u r a b ∙ x)) in (
        f isV (meet (λ p q. isV p || isV q) true a b refl refl x) (meet (λ p q. isV p && isV q) (isV D) a b refl refl x) ∙ ok.0,
        f isH (meet (λ p q. isH p || isH q) true a b refl refl x) (meet (λ p q. isH p && isH q) (isH D) a b refl refl x) ∙ ok.1,
        ok.2,
        ok.3,
      )

  -- the rank falls with the dimensions
  pub rank-dim : (s q : K) → src s.0 ≡ true → len q.0 ≡ len s.0 → A.dim q.1 + B.dim q.2 < A.dim s.1 + B.dim s.2
      → (src q.0 ≡ false) ⊎ (rank q < rank s)
  unfolding rank
  rank-dim s q e l d = elim (two (src q.0)) as (λ x. (src q.0 ≡ false) ⊎ (rank q < rank s)) [
    | inr x ↦ inl x
    | inl x ↦
        let b : ℕ = tri (suc (len s.0)) in
        let h : hv (m q.0) ≤ b = subst (λ z. hv (m q.0) ≤ tri z) ((src-m q.0 x).1 ∙ ap suc l) (hv-le (m q.0)) in
        let c : tri (suc (len q.0)) ≡ b = ap (λ z. tri (suc z)) l in
        let f = rk-less b (A.dim q.1 + B.dim q.2) (A.dim s.1 + B.dim s.2) d in
        let g : rk (A.dim q.1 + B.dim q.2) (tri (suc (len q.0))) ≡ rk (A.dim q.1 + B.dim q.2) b = ap (rk (A.dim q.1 + B.dim q.2)) c in
        inr (omega (arith, f, g, h))
  ]

  -- and with the pairs
  pub rank-pairs : (s k : K) (u r : List Step) → src s.0 ≡ true → (a b : Step) → m s.0 ≡ u ++ (a ∷ (b ∷ r))
      → ((a ≡ H) × (b ≡ V)) ⊎ ((a ≡ V) × (b ≡ H)) → k.0 ≡ u ++ (D ∷ r) → src k.0 ≡ true → (len u ≡ ev s.0 → ⊥)
      → len k.0 ≡ len s.0 → k.1 ≡ s.1 → k.2 ≡ s.2 → rank k < rank s
  unfolding rank
  rank-pairs s k u r e a b q x kq z ne l c1 c2 =
      let t : src (m s.0) ≡ false = (src-m s.0 e).0 in
      let cr : crit u ≡ true = quiet u (a ∷ (b ∷ r)) (D ∷ r) (ap src (sym q) ∙ t) (ap src (sym kq) ∙ z) in
      let mk : m k.0 ≡ u ++ (V ∷ (H ∷ r)) = ap m kq ∙ crit-in u r cr in
      let g : rk (A.dim k.1 + B.dim k.2) (tri (suc (len k.0))) ≡ rk (A.dim s.1 + B.dim s.2) (tri (suc (len s.0)))
      = rw (l, c1, c2) refl in
      elim x as (λ y. rank k < rank s) [
        | inl y ↦
            let ms : m s.0 ≡ u ++ (H ∷ (V ∷ r)) = q ∙ (ap (λ z. u ++ (z ∷ (b ∷ r))) y.0 ∙ ap (λ z. u ++ (H ∷ (z ∷ r))) y.1) in
            omega (arith, g, ap hv mk, ap hv ms, hv-swap u r)
        | inr y ↦
            let ms : m s.0 ≡ u ++ (V ∷ (H ∷ r)) = q ∙ (ap (λ z. u ++ (z ∷ (b ∷ r))) y.0 ∙ ap (λ z. u ++ (V ∷ (z ∷ r))) y.1) in
            let same : u ++ (D ∷ r) ≡ s.0 = sym (inv (u ++ (D ∷ r))) ∙ (ap m (crit-in u r cr ∙ sym ms) ∙ inv s.0) in
            absurd (ne (sym (ev-D u r cr) ∙ ap ev same))
      ]

  -- every face of the target other than that of its source is no source, or of smaller rank
  pub rank-falls : (i : ℕ) (s : K) → src s.0 ≡ true → Ok s → i ≤ suc (len s.0) → (i ≡ suc (ev s.0) → ⊥) → All S (Small s) (kf i (up s))
  unfolding rank Less
  rank-falls i s e ok b ne =
      let T : List Step = m s.0 in
      let t = src-m s.0 e in
      let up-s : Ok (up s) = up-ok s e ok in
      let lower : (absd i (bits isV T) ≡ false) ⊎ (absd i (bits isH T) ≡ false) → All S (Small s) (kf i (up s))
      = λ x. all-mono S (λ q. (len q.0 ≡ len s.0) × Ok q × Less (up s) q) (Small s) (kf i (up s)) (kf-less i (len s.0) (up s) t.1 up-s b x)
      (λ q w. (w.1, rank-dim s q e w.0 w.2.2, (w.0, w.2.0, w.2.1))) in
      let merged : absd i (bits isV T) ≡ true → absd i (bits isH T) ≡ true → All S (Small s) (kf i (up s))
      = λ x y.
      let p : Split i T = both i T x y in
      let k : K = (p.u ++ (D ∷ p.r), s.1, s.2) in
      let l1 : len T ≡ len p.u + suc (suc (len p.r)) = ap len p.eq ∙ app2 p.u p.r p.a p.b in
      let l2 : len k.0 ≡ len p.u + suc (len p.r) = app1 p.u p.r D in
      let l3 : len k.0 ≡ len s.0 = omega (arith, l1, l2, t.1) in
      let okk : Ok k = merge-ok T p.u p.r p.a p.b s.1 s.2 p.eq p.hv up-s in
      let v : (src k.0 ≡ false) ⊎ (rank k < rank s)
      = elim (two (src k.0)) as (λ z. (src k.0 ≡ false) ⊎ (rank k < rank s)) [
        | inr z ↦ inl z
        | inl z ↦ inr (rank-pairs s k p.u p.r e p.a p.b p.eq p.hv refl z (λ w. ne (p.pos ∙ ap suc w)) l3 refl refl)
      ] in
      subst (λ c. All S (Small s) c) (sym (ap (λ j. kf j (up s)) p.pos ∙ kf-merge (len s.0) T p.u p.r p.a p.b s.1 s.2 t.1 up-s p.eq p.hv))
      (all-eta S (Small s) k (okk, v, (l3, omega arith, omega arith))) in
      elim (two (absd i (bits isV T))) as (λ x. All S (Small s) (kf i (up s))) [
        | inr x ↦ lower (inl x)
        | inl x ↦ elim (two (absd i (bits isH T))) as (λ y. All S (Small s) (kf i (up s))) [ inr y ↦ lower (inr y) | inl y ↦ merged x y ]
      ]
