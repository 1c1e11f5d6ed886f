-- The reduction of Eilenberg and Zilber, with degrees, for every left and right system.
use Rattle.std.specs.Prelude.{◌≡◌, refl, ℕ, ◌≤◌, ◌+◌, ◌-◌, List, [], ◌∷◌, Bool, true, false, cond, ◌⊎◌}
use Rattle.std.proofs.Common.{sym, ◌∙◌, ap, subst, inl, inr, arith, zero, suc}
use Rattle.simp_ops.specs.PathWords.{Step, left as H, right as V, both as D}
use Rattle.ez_laws.proofs.Matches.{src, crit, two}
use Rattle.ez_laws.proofs.WordFaces.{len, isV, isH, bits, absd-true}
use Rattle.ez_laws.proofs.WordRanks.{fls}
use Rattle.ez_laws.proofs.Functionals.{Coefficients, Ch}
use Rattle.ez_laws.proofs.ChainLaws.{o, add, eta, lin, sg, tot, All, lin-on, lin-on-o, all-eta, all-o, all-add, all-sg, all-tot, all-lin, all-mono}
use Rattle.ez_laws.proofs.PairFaces.{LeftSystem, RightSystem, K, P, raw, Good, Ok, good-raw, src-m, up-ok, side}
use Rattle.ez_laws.proofs.PairComplex.{d, d-zero, d-d, d-terms, cases, matching}
use Rattle.ez_laws.proofs.Fronts.{SimX, Stepped, x-terms, y-terms, fr, bk, fr-all, bk-sim, aws, AWs, Lf, Rf, dL, dR, dT}
use Rattle.ez_laws.proofs.AlexanderWhitney.{plain, falses, falses-plain, nut, bT, AW, AW-d}
use Rattle.ez_laws.proofs.EilenbergMacLane.{EML, EML-split, rest-of, rest-targets, EML-terms, AW-up, AW-EML, aw-critical, flow-ends, is-target, crit-of, size}
use Rattle.ez_laws.proofs.Shuffles.{crit-form, crit-V, ltr, cb}
use Rattle.ez_laws.proofs.Flow as Fl

-- a reduction between free graded modules: Ok says which keys are generators
pub record Reduction (S : Coefficients) (X Y : Type 0) : Type 1 where
  pub OkX : X → Type 0
  pub OkY : Y → Type 0
  pub degX : X → ℕ
  pub degY : Y → ℕ
  pub d : X → Ch S X
  pub b : Y → Ch S Y
  pub f : X → Ch S Y
  pub g : Y → Ch S X
  pub h : X → Ch S X
  pub d-deg : (x : X) → OkX x → All S (λ z. OkX z × (suc (degX z) ≡ degX x)) (d x)
  pub b-deg : (y : Y) → OkY y → All S (λ z. OkY z × (suc (degY z) ≡ degY y)) (b y)
  pub f-deg : (x : X) → OkX x → All S (λ z. OkY z × (degY z ≡ degX x)) (f x)
  pub g-deg : (y : Y) → OkY y → All S (λ z. OkX z × (degX z ≡ degY y)) (g y)
  pub h-deg : (x : X) → OkX x → All S (λ z. OkX z × (degX z ≡ suc (degX x))) (h x)
  pub dd : (x : X) → OkX x → lin S d (d x) ≡ o S
  pub bb : (y : Y) → OkY y → lin S b (b y) ≡ o S
  pub fd : (x : X) → OkX x → lin S f (d x) ≡ lin S b (f x)
  pub dg : (y : Y) → OkY y → lin S d (g y) ≡ lin S g (b y)
  pub fg : (y : Y) → OkY y → lin S f (g y) ≡ eta S y
  pub hom : (x : X) → OkX x → add S (lin S d (h x)) (add S (lin S h (d x)) (lin S g (f x))) ≡ eta S x
  pub fh : (x : X) → OkX x → lin S f (h x) ≡ o S
  pub hg : (y : Y) → OkY y → lin S h (g y) ≡ o S
  pub hh : (x : X) → OkX x → lin S h (h x) ≡ o S

pub plain-len : (w : List Bool) → plain w ≡ true → fls w ≡ len w
unfolding plain fls len
plain-len [] e = refl
plain-len (true ∷ w) e = absd-true (sym e)
plain-len (false ∷ w) e = ap suc (plain-len w e)

pub two-fls : (w : List Step) → crit w ≡ true → len w ≡ fls (bits isV w) + fls (bits isH w)
unfolding crit len fls bits isV isH
two-fls [] e = omega arith
two-fls (D ∷ w) e = absd-true (sym e)
two-fls (H ∷ w) e = omega (arith, two-fls w e)
two-fls (V ∷ w) e = omega (arith, two-fls w (crit-V w e).1)

module _ (S : Coefficients) (A : LeftSystem S) (B : RightSystem) where
  abbrev pub Te : Type 0
  Te = A.X × B.X

  abbrev pub KK : Type 0
  KK = K S A B

  abbrev pub Q2 : Type 0
  Q2 = P S A B

  abbrev pub M : Fl.Matching S KK
  M = matching S A B

  abbrev pub OkT : Te → Type 0
  OkT z = A.Is z.0 × B.Is z.1

  pub g-ok : (z : Te) → OkT z → All S (Ok S A B) (EML S A B z)
  g-ok z oz = all-mono S (λ q. (len q.0 ≡ A.dim z.0 + B.dim z.1) × Ok S A B q × (q.1 ≡ z.0) × (q.2 ≡ z.1)) (Ok S A B) (EML S A B z) (EML-terms S A B z oz) (λ q w. w.1)

  -- critical pairs
  pub crit-cases : (x : KK) → Ok S A B x → src x.0 ≡ false → Fl.Target S KK M x ⊎ Fl.Critical S KK M Te (AW S A B) (EML S A B) x
  unfolding Fl.Critical
  crit-cases x ok e = elim (two (crit x.0)) as (λ v. Fl.Target S KK M x ⊎ Fl.Critical S KK M Te (AW S A B) (EML S A B) x) [
    | inr c ↦ inl (is-target S A B x ok e c)
    | inl c ↦
        let z : Te = (x.1, x.2) in
        let n = two-fls x.0 c in
        let l : len x.0 ≡ A.dim x.1 + B.dim x.2 = omega (arith, n, ok.0, ok.1) in
        let q : x.0 ≡ ltr (cb (size S A B z) (A.dim x.1)) = crit-form x.0 c ∙ (ap (λ t. ltr (cb t (fls (bits isV x.0)))) l ∙ ap (λ t. ltr (cb (A.dim x.1 + B.dim x.2) t)) ok.0) in
        let qx : x ≡ crit-of S A B z = ap (λ W. (W, x.1, x.2)) q in
        let a : AW S A B x ≡ eta S z = ap (AW S A B) qx ∙ aw-critical S A B (size S A B z) (A.dim x.1) x.1 x.2 ok.2 ok.3 refl refl in
        let ga : lin S (EML S A B) (AW S A B x) ≡ EML S A B z = ap (lin S (EML S A B)) a ∙ Rattle.ez_laws.proofs.ChainLaws.lin-eta S (EML S A B) z in
        inr (
          rest-of S A B z,
          ga ∙ (EML-split S A B z ∙ ap (λ v. add S (eta S v) (rest-of S A B z)) (sym qx)),
          rest-targets S A B z (ok.2, ok.3),
          ap (λ v. lin S (Fl.k S KK M) (lin S (d S A B) v)) ga ∙ flow-ends S A B z (ok.2, ok.3),
        )
  ]

  -- degrees; the left dimension is not raised
  abbrev pub Up : KK → KK → Type 0
  Up x y = Ok S A B y × (len y.0 ≡ suc (len x.0)) × (A.dim y.1 ≤ A.dim x.1)

  pub k-up : (x : KK) → Ok S A B x → All S (Up x) (Fl.k S KK M x)
  unfolding Fl.k
  k-up x ok = Fl.k-all-f S KK M Up
      (λ s a q. (up-ok S A B s q a, (src-m S A B s.0 q).1, omega arith))
      (λ s x y a q w t. (t.0, t.1 ∙ ap suc w.2.0, omega (arith, t.2, w.2.1))) (suc (M.rank x)) x ok

  pub all-cond : (a b : Bool) (Q : Te → Type 0) (z : Te) → (a ≡ true → b ≡ true → Q z) → All S Q (cond a (cond b (eta S z) (o S)) (o S))
  all-cond true true Q z h = all-eta S Q z (h refl refl)
  all-cond true false Q z h = all-o S Q
  all-cond false b Q z h = all-o S Q

  pub all-nut : (Q : Te → Type 0) (q : Q2) → (plain q.0.0 ≡ true → plain q.1.0 ≡ true → Q (q.0.1, q.1.1)) → All S Q (nut S A B q)
  unfolding nut
  all-nut Q q h = all-cond (plain q.0.0) (plain q.1.0) Q (q.0.1, q.1.1) h

  abbrev pub Down : KK → Te → Type 0
  Down x z = (A.dim z.0 + B.dim z.1 ≡ len x.0) × (A.dim z.0 ≤ A.dim x.1) × OkT z

  pub AW-down : (x : KK) → Ok S A B x → All S (Down x) (AW S A B x)
  unfolding AW AWs aws
  AW-down x ok =
      let n : ℕ = len x.0 in
      let p : Q2 = raw S A B x in
      let g : Good S A B n p = good-raw S A B n x refl ok in
      all-lin S (λ q. (len q.0.0 + len q.1.0 ≡ n) × (fls q.0.0 ≡ A.dim q.0.1) × (fls q.1.0 ≡ B.dim q.1.1) × (fls q.0.0 ≤ A.dim x.1) × A.Is q.0.1 × B.Is q.1.1) (Down x) (nut S A B) (AWs S A B n p)
      (all-tot S (suc n) (λ q. (len q.0.0 + len q.1.0 ≡ n) × (fls q.0.0 ≡ A.dim q.0.1) × (fls q.1.0 ≡ B.dim q.1.1) × (fls q.0.0 ≤ A.dim x.1) × A.Is q.0.1 × B.Is q.1.1) (λ i. aws S A B i (n - i) n p) (λ i l.
      all-lin S (λ z. (len z.0 + (n - i) ≡ n) × (fls z.0 ≡ A.dim z.1) × (fls z.0 ≤ A.dim x.1) × A.Is z.1)
      (λ q. (len q.0.0 + len q.1.0 ≡ n) × (fls q.0.0 ≡ A.dim q.0.1) × (fls q.1.0 ≡ B.dim q.1.1) × (fls q.0.0 ≤ A.dim x.1) × A.Is q.0.1 × B.Is q.1.1)
      (λ z. eta S (z, bk S A B i p.1)) (fr S A B (n - i) n p.0)
      (fr-all S A B (λ z. fls z.0 ≤ A.dim x.1) 0 (λ n x z b s t a e. omega (arith, t, side S A B (suc n) n x.0 z.0 s.0 (omega arith) e)) (n - i) n p.0 (omega (arith, l)) (g.0, g.1, g.4) (omega (arith, ok.0)))
      (λ z w. let b = bk-sim S A B i n p.1 (omega (arith, l)) (g.2, g.3, g.5) in
      all-eta S (λ q. (len q.0.0 + len q.1.0 ≡ n) × (fls q.0.0 ≡ A.dim q.0.1) × (fls q.1.0 ≡ B.dim q.1.1) × (fls q.0.0 ≤ A.dim x.1) × A.Is q.0.1 × B.Is q.1.1) (z, bk S A B i p.1)
      (omega (arith, w.0, b.0, l), w.1, b.1, w.2, w.3, b.2))))
      (λ q w. all-nut (Down x) q (λ e f. (omega (arith, w.0, w.1, w.2, plain-len q.0.0 e, plain-len q.1.0 f), omega (arith, w.3, w.1), (w.4, w.5))))

  -- the small differential lowers the degree
  abbrev pub One : Te → Te → Type 0
  One y z = OkT z × (suc (A.dim z.0 + B.dim z.1) ≡ A.dim y.0 + B.dim y.1)

  abbrev pub Sum1 : ℕ → Q2 → Type 0
  Sum1 n q = (suc (len q.0.0 + len q.1.0) ≡ n) × (fls q.0.0 ≡ A.dim q.0.1) × (fls q.1.0 ≡ B.dim q.1.1) × A.Is q.0.1 × B.Is q.1.1

  pub dL-terms : (n t : ℕ) (q : Q2) → SimX S A B n q.0 → (fls q.1.0 ≡ B.dim q.1.1) × B.Is q.1.1 → n + len q.1.0 ≡ t → All S (Sum1 t) (dL S A B n q)
  unfolding dL Lf
  dL-terms zero t q s r e = all-o S (Sum1 t)
  dL-terms (suc n) t q s r e = all-tot S (suc (suc n)) (Sum1 t) (λ a. sg S a (Lf S A B a q)) (λ a l. all-sg S a (Sum1 t) (Lf S A B a q)
      (all-lin S (Stepped S A B a n q.0) (Sum1 t) (λ z. eta S (z, q.1)) (A.face a q.0) (x-terms S A B a n q.0 s (omega (arith, l)))
      (λ z w. all-eta S (Sum1 t) (z, q.1) (omega (arith, w.0.0, e), w.0.1, r.0, w.0.2, r.1))))

  pub dR-terms : (n t : ℕ) (q : Q2) → (fls q.0.0 ≡ A.dim q.0.1) × A.Is q.0.1 → (len q.1.0 ≡ n) × (fls q.1.0 ≡ B.dim q.1.1) × B.Is q.1.1 → len q.0.0 + n ≡ t → All S (Sum1 t) (dR S A B n q)
  unfolding dR Rf
  dR-terms zero t q r s e = all-o S (Sum1 t)
  dR-terms (suc n) t q r s e = all-tot S (suc (suc n)) (Sum1 t) (λ a. sg S a (Rf S A B a q)) (λ a l. all-sg S a (Sum1 t) (Rf S A B a q)
      (let w = y-terms S A B a n q.1 s (omega (arith, l)) in all-eta S (Sum1 t) (q.0, B.face a q.1) (omega (arith, w.0.0, e), r.0, w.0.1, r.1, w.0.2)))

  pub b-one : (y : Te) → OkT y → All S (One y) (bT S A B y)
  unfolding bT dT
  b-one y oy =
      let p = falses-plain (A.dim y.0) in
      let r = falses-plain (B.dim y.1) in
      let q : Q2 = ((falses (A.dim y.0), y.0), (falses (B.dim y.1), y.1)) in
      let t : ℕ = A.dim y.0 + B.dim y.1 in
      all-lin S (Sum1 t) (One y) (nut S A B) (dT S A B q)
      (all-add S (Sum1 t) (dL S A B (len q.0.0) q) (sg S (len q.0.0) (dR S A B (len q.1.0) q))
      (dL-terms (len q.0.0) t q (refl, p.1, oy.0) (r.1, oy.1) (omega (arith, p.2, r.2)))
      (all-sg S (len q.0.0) (Sum1 t) (dR S A B (len q.1.0) q) (dR-terms (len q.1.0) t q (p.1, oy.0) (refl, r.1, oy.1) (omega (arith, p.2, r.2)))))
      (λ z w. all-nut (One y) z (λ e f. ((w.3, w.4), omega (arith, w.0, w.1, w.2, plain-len z.0.0 e, plain-len z.1.0 f))))

  pub d-down : (x : KK) → Ok S A B x → All S (λ z. Ok S A B z × (suc (len z.0) ≡ len x.0)) (d S A B x)
  d-down x ok = elim (cases S A B (len x.0)) as (λ v. All S (λ z. Ok S A B z × (suc (len z.0) ≡ len x.0)) (d S A B x)) [
    | inl e ↦ subst (All S (λ z. Ok S A B z × (suc (len z.0) ≡ len x.0))) (sym (d-zero S A B x e)) (all-o S (λ z. Ok S A B z × (suc (len z.0) ≡ len x.0)))
    | inr e ↦ all-mono S (λ q. (len q.0 ≡ e.0) × Ok S A B q) (λ z. Ok S A B z × (suc (len z.0) ≡ len x.0)) (d S A B x) (d-terms S A B e.0 x e.1 ok)
        (λ z w. (w.1, omega (arith, w.0, e.1)))
  ]

  -- the reduction of Eilenberg and Zilber
  abbrev pub ez : Reduction S KK Te
  ez =
      let fok : (x : KK) → Ok S A B x → All S OkT (AW S A B x) = λ x ok. all-mono S (Down x) OkT (AW S A B x) (AW-down x ok) (λ z w. w.2) in
      let gok : (y : Te) → OkT y → All S (Ok S A B) (EML S A B y) = g-ok in
      let bok : (y : Te) → OkT y → All S OkT (bT S A B y) = λ y u. all-mono S (One y) OkT (bT S A B y) (b-one y u) (λ z w. w.0) in
      let fg : (y : Te) → OkT y → lin S (AW S A B) (EML S A B y) ≡ eta S y = AW-EML S A B in
      record {
        OkX = Ok S A B;
        OkY = OkT;
        degX = λ x. len x.0;
        degY = λ z. A.dim z.0 + B.dim z.1;
        d = d S A B;
        b = bT S A B;
        f = AW S A B;
        g = EML S A B;
        h = Fl.k S KK M;
        d-deg = d-down;
        b-deg = λ y u. all-mono S (One y) (λ z. OkT z × (suc (A.dim z.0 + B.dim z.1) ≡ A.dim y.0 + B.dim y.1)) (bT S A B y) (b-one y u) (λ z w. w);
        f-deg = λ x ok. all-mono S (Down x) (λ z. OkT z × (A.dim z.0 + B.dim z.1 ≡ len x.0)) (AW S A B x) (AW-down x ok) (λ z w. (w.2, w.0));
        g-deg = λ y u. all-mono S (λ q. (len q.0 ≡ A.dim y.0 + B.dim y.1) × Ok S A B q × (q.1 ≡ y.0) × (q.2 ≡ y.1)) (λ z. Ok S A B z × (len z.0 ≡ A.dim y.0 + B.dim y.1)) (EML S A B y) (EML-terms S A B y u) (λ q w. (w.1, w.0));
        h-deg = λ x ok. all-mono S (Up x) (λ z. Ok S A B z × (len z.0 ≡ suc (len x.0))) (Fl.k S KK M x) (k-up x ok) (λ z w. (w.0, w.1));
        dd = d-d S A B;
        bb = Fl.bb S KK M Te OkT (bT S A B) (AW S A B) (EML S A B) (AW-up S A B) (AW-d S A B) fg fok gok bok crit-cases;
        fd = AW-d S A B;
        dg = Fl.dg S KK M Te OkT (bT S A B) (AW S A B) (EML S A B) (AW-up S A B) (AW-d S A B) fg fok gok bok crit-cases;
        fg = fg;
        hom = Fl.homotopy S KK M Te OkT (bT S A B) (AW S A B) (EML S A B) (AW-up S A B) (AW-d S A B) fg fok gok bok crit-cases;
        fh = Fl.fk S KK M Te OkT (bT S A B) (AW S A B) (EML S A B) (AW-up S A B) (AW-d S A B) fg fok gok bok crit-cases;
        hg = Fl.kg S KK M Te OkT (bT S A B) (AW S A B) (EML S A B) (AW-up S A B) (AW-d S A B) fg fok gok bok crit-cases;
        hh = Fl.kk S KK M;
      }

  -- the left dimension is not raised
  pub k-left : (x : KK) → Ok S A B x → All S (λ y. A.dim y.1 ≤ A.dim x.1) (Fl.k S KK M x)
  k-left x ok = all-mono S (Up x) (λ y. A.dim y.1 ≤ A.dim x.1) (Fl.k S KK M x) (k-up x ok) (λ y w. w.2)

  pub AW-left : (x : KK) → Ok S A B x → All S (λ z. A.dim z.0 ≤ A.dim x.1) (AW S A B x)
  AW-left x ok = all-mono S (Down x) (λ z. A.dim z.0 ≤ A.dim x.1) (AW S A B x) (AW-down x ok) (λ z w. w.1)

  pub EML-left : (y : Te) → OkT y → All S (λ x. A.dim x.1 ≤ A.dim y.0) (EML S A B y)
  EML-left y oy = all-mono S (λ q. (len q.0 ≡ A.dim y.0 + B.dim y.1) × Ok S A B q × (q.1 ≡ y.0) × (q.2 ≡ y.1)) (λ x. A.dim x.1 ≤ A.dim y.0) (EML S A B y) (EML-terms S A B y oy)
      (λ q w. let e = ap A.dim w.2 in omega (arith, e))

  -- the flow is the one map that is 0 off sources and has k(s) = u t + k(s - u d t)
  pub flow-solves : Fl.Equation S KK M (Fl.k S KK M)
  flow-solves = Fl.k-solves S KK M

  pub flow-unique : (h : KK → Ch S KK) → Fl.Equation S KK M h → (x : KK) → Ok S A B x → h x ≡ Fl.k S KK M x
  flow-unique = Fl.k-unique S KK M
