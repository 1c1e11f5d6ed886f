-- The matching theorem: the flow of an acyclic matching, its laws, and the reduction that it gives.
use Rattle.std.specs.Prelude.{◌≡◌, refl, ℕ, ◌<◌, Bool, true, false, cond, ◌⊎◌}
use Rattle.std.proofs.Common.{sym, ◌∙◌, ap, subst, inl, inr, arith, zero, suc}
use Rattle.ez_laws.proofs.Matches.{two}
use Rattle.ez_laws.proofs.Functionals.{Coefficients, Ch}
use Rattle.ez_laws.proofs.ChainLaws.{o, add, neg, eta, lin, sg, All, comm, assoc, lcomm, unit, unit-l, inverse, cancel, lin-eta, lin-id, lin-lin, lin-add, lin-sum, lin-o, lin-sg, lin-on, lin-on-o, sg-inj, all-eta, all-o, all-add, all-sg, all-lin, all-mono}

-- a matching: Ok says which keys are generators; units are signs; Near is a relation that the steps keep, as the degree
pub record Matching (S : Coefficients) (K : Type 0) : Type 1 where
  pub Ok : K → Type 0
  pub src : K → Bool
  pub up : K → K
  pub u : K → ℕ
  pub rank : K → ℕ
  pub d : K → Ch S K
  pub rest : K → Ch S K
  pub Near : K → K → Type 0
  pub split : (s : K) → Ok s → src s ≡ true → eta S s ≡ add S (rest s) (sg S (u s) (d (up s)))
  pub small : (s : K) → Ok s → src s ≡ true → All S (λ x. Ok x × ((src x ≡ false) ⊎ (rank x < rank s)) × Near s x) (rest s)
  pub up-ok : (s : K) → Ok s → src s ≡ true → Ok (up s)
  pub up-src : (s : K) → Ok s → src s ≡ true → src (up s) ≡ false
  pub d-ok : (x : K) → Ok x → All S Ok (d x)
  pub dd : (x : K) → Ok x → lin S d (d x) ≡ o S

module _ (S : Coefficients) (K : Type 0) (p : Matching S K) where
  unfoldable pub Target : K → Type 0
  Target x = (s : K) × p.Ok s × (p.src s ≡ true) × (p.up s ≡ x)

  unfoldable pub kf : ℕ → K → Ch S K
  kf zero x = o S
  kf (suc m) x = cond (p.src x) (add S (sg S (p.u x) (eta S (p.up x))) (lin S (kf m) (p.rest x))) (o S)

  pub kf-off : (m : ℕ) (x : K) → p.src x ≡ false → kf m x ≡ o S
  unfolding kf
  kf-off zero x q = refl
  kf-off (suc m) x q = rw q refl

  pub kf-on : (m : ℕ) (x : K) → p.src x ≡ true → kf (suc m) x ≡ add S (sg S (p.u x) (eta S (p.up x))) (lin S (kf m) (p.rest x))
  unfolding kf
  kf-on m x q = rw q refl

  abbrev pub Low : K → K → Type 0
  Low s x = p.Ok x × ((p.src x ≡ false) ⊎ (p.rank x < p.rank s)) × p.Near s x

  pub rounds-agree : (m n : ℕ) (x : K) → p.Ok x → p.rank x < m → p.rank x < n → kf m x ≡ kf n x
  rounds-agree zero n x ok a b = absurd (omega (arith, a))
  rounds-agree (suc m) zero x ok a b = absurd (omega (arith, b))
  rounds-agree (suc m) (suc n) x ok a b = elim (two (p.src x)) as (λ v. kf (suc m) x ≡ kf (suc n) x) [
    | inl q ↦ kf-on m x q ∙ (ap (λ w. add S (sg S (p.u x) (eta S (p.up x))) w)
        (lin-on S (Low x) (kf m) (kf n) (p.rest x) (p.small x ok q)
        (λ y w. elim w.1 as (λ v. kf m y ≡ kf n y) [ inl e ↦ kf-off m y e ∙ sym (kf-off n y e) | inr r ↦ rounds-agree m n y w.0 (omega (arith, r, a)) (omega (arith, r, b)) ]))
        ∙ sym (kf-on n x q))
    | inr q ↦ kf-off (suc m) x q ∙ sym (kf-off (suc n) x q)
  ]

  unfoldable pub k : K → Ch S K
  k x = kf (suc (p.rank x)) x

  pub k-off : (x : K) → p.src x ≡ false → k x ≡ o S
  unfolding k
  k-off x q = kf-off (suc (p.rank x)) x q

  -- the equation of the flow
  pub k-eq : (s : K) → p.Ok s → p.src s ≡ true → k s ≡ add S (sg S (p.u s) (eta S (p.up s))) (lin S k (p.rest s))
  unfolding k
  k-eq s ok q = kf-on (p.rank s) s q ∙ ap (λ w. add S (sg S (p.u s) (eta S (p.up s))) w)
      (lin-on S (Low s) (kf (p.rank s)) k (p.rest s) (p.small s ok q)
      (λ y w. elim w.1 as (λ v. kf (p.rank s) y ≡ k y) [
        | inl e ↦ kf-off (p.rank s) y e ∙ sym (kf-off (suc (p.rank y)) y e)
        | inr r ↦ rounds-agree (p.rank s) (suc (p.rank y)) y w.0 r (omega arith)
      ]))

  -- the rest is s - u d t
  pub rest-eq : (s : K) → p.Ok s → p.src s ≡ true → p.rest s ≡ add S (eta S s) (neg S (sg S (p.u s) (p.d (p.up s))))
  rest-eq s ok q =
      let y : Ch S K = sg S (p.u s) (p.d (p.up s)) in
      sym (ap (λ v. add S v (neg S y)) (p.split s ok q) ∙ (assoc S (p.rest s) y (neg S y) ∙ (ap (λ v. add S (p.rest s) v) (inverse S y) ∙ unit S (p.rest s))))

  -- the equation as it is defined, and that it has one solution
  abbrev pub Equation : (K → Ch S K) → Type 0
  Equation h = ((x : K) → p.Ok x → p.src x ≡ false → h x ≡ o S)
      × ((s : K) → p.Ok s → p.src s ≡ true → h s ≡ add S (sg S (p.u s) (eta S (p.up s))) (lin S h (add S (eta S s) (neg S (sg S (p.u s) (p.d (p.up s)))))))

  pub k-solves : Equation k
  k-solves = (λ x ok q. k-off x q, λ s ok q. k-eq s ok q ∙ ap (λ v. add S (sg S (p.u s) (eta S (p.up s))) (lin S k v)) (rest-eq s ok q))

  pub unique-f : (h h' : K → Ch S K) → Equation h → Equation h' → (m : ℕ) (x : K) → p.Ok x → p.rank x < m → h x ≡ h' x
  unique-f h h' e e' zero x ok l = absurd (omega (arith, l))
  unique-f h h' e e' (suc m) x ok l = elim (two (p.src x)) as (λ v. h x ≡ h' x) [
    | inr q ↦ e.0 x ok q ∙ sym (e'.0 x ok q)
    | inl q ↦
        let c : Ch S K = add S (eta S x) (neg S (sg S (p.u x) (p.d (p.up x)))) in
        let a : All S (Low x) c = subst (All S (Low x)) (rest-eq x ok q) (p.small x ok q) in
        e.1 x ok q ∙ (ap (λ v. add S (sg S (p.u x) (eta S (p.up x))) v)
        (lin-on S (Low x) h h' c a (λ y w. elim w.1 as (λ v. h y ≡ h' y)
        [ inl r ↦ e.0 y w.0 r ∙ sym (e'.0 y w.0 r) | inr r ↦ unique-f h h' e e' m y w.0 (omega (arith, r, l)) ])) ∙ sym (e'.1 x ok q))
  ]

  pub k-unique : (h : K → Ch S K) → Equation h → (x : K) → p.Ok x → h x ≡ k x
  k-unique h e x ok = unique-f h k e k-solves (suc (p.rank x)) x ok (omega arith)

  -- induction on rank for a property of all terms of k
  pub k-all-f : (Q : K → K → Type 0) → ((s : K) → p.Ok s → p.src s ≡ true → Q s (p.up s))
      → ((s x y : K) → p.Ok s → p.src s ≡ true → Low s x → Q x y → Q s y)
      → (m : ℕ) (x : K) → p.Ok x → All S (Q x) (kf m x)
  unfolding kf
  k-all-f Q h e zero x ok = all-o S (Q x)
  k-all-f Q h e (suc m) x ok = elim (two (p.src x)) as (λ v. All S (Q x) (kf (suc m) x)) [
    | inr q ↦ subst (All S (Q x)) (sym (kf-off (suc m) x q)) (all-o S (Q x))
    | inl q ↦ subst (All S (Q x)) (sym (kf-on m x q))
        (all-add S (Q x) (sg S (p.u x) (eta S (p.up x))) (lin S (kf m) (p.rest x))
        (all-sg S (p.u x) (Q x) (eta S (p.up x)) (all-eta S (Q x) (p.up x) (h x ok q)))
        (all-lin S (Low x) (Q x) (kf m) (p.rest x) (p.small x ok q)
        (λ y w. all-mono S (Q y) (Q x) (kf m y) (k-all-f Q h e m y w.0) (λ z. e x y z ok q w))))
  ]

  pub to-targets : (x : K) → p.Ok x → All S Target (k x)
  unfolding k Target
  to-targets x ok = k-all-f (λ x. Target) (λ s a q. (s, a, q, refl)) (λ s x y a q w t. t) (suc (p.rank x)) x ok

  pub target-ok : (t : K) → Target t → p.Ok t
  unfolding Target
  target-ok t w = subst p.Ok w.3 (p.up-ok w.0 w.1 w.2)

  pub target-src : (t : K) → Target t → p.src t ≡ false
  unfolding Target
  target-src t w = ap p.src (sym w.3) ∙ p.up-src w.0 w.1 w.2

  pub k-ok : (x : K) → p.Ok x → All S p.Ok (k x)
  k-ok x ok = all-mono S Target p.Ok (k x) (to-targets x ok) target-ok

  -- k d t = t
  pub undoes : (s : K) → p.Ok s → p.src s ≡ true → lin S k (p.d (p.up s)) ≡ eta S (p.up s)
  undoes s ok q =
      let a : lin S k (eta S s) ≡ add S (lin S k (p.rest s)) (sg S (p.u s) (lin S k (p.d (p.up s))))
      = ap (lin S k) (p.split s ok q) ∙ (lin-add S k (p.rest s) (sg S (p.u s) (p.d (p.up s))) ∙
      ap (λ w. add S (lin S k (p.rest s)) w) (lin-sg S (p.u s) k (p.d (p.up s)))) in
      let b : lin S k (eta S s) ≡ add S (sg S (p.u s) (eta S (p.up s))) (lin S k (p.rest s)) = lin-eta S k s ∙ k-eq s ok q in
      sg-inj S (p.u s) (lin S k (p.d (p.up s))) (eta S (p.up s))
      (cancel S (sg S (p.u s) (lin S k (p.d (p.up s)))) (sg S (p.u s) (eta S (p.up s))) (lin S k (p.rest s))
      (comm S (sg S (p.u s) (lin S k (p.d (p.up s)))) (lin S k (p.rest s)) ∙ (sym a ∙ b)))

  pub undoes-target : (t : K) → Target t → lin S k (p.d t) ≡ eta S t
  unfolding Target
  undoes-target t w = subst (λ t. lin S k (p.d t) ≡ eta S t) w.3 (undoes w.0 w.1 w.2)

  -- k d fixes chains of targets, k kills them
  pub kd-fix : (c : Ch S K) → All S Target c → lin S k (lin S p.d c) ≡ c
  kd-fix c a = lin-lin S p.d k c ∙ (lin-on S Target (λ x. lin S k (p.d x)) (eta S) c a undoes-target ∙ lin-id S c)

  pub k-kills : (c : Ch S K) → All S Target c → lin S k c ≡ o S
  k-kills c a = lin-on-o S Target k c a (λ t w. k-off t (target-src t w))

  pub kk : (x : K) → p.Ok x → lin S k (k x) ≡ o S
  kk x ok = k-kills (k x) (to-targets x ok)

  pub kdk : (x : K) → p.Ok x → lin S k (lin S p.d (k x)) ≡ k x
  kdk x ok = kd-fix (k x) (to-targets x ok)

  -- source induction
  pub by-sources-at : {M : Type 0} (A B : K → Ch S M) → ((x : K) → p.Ok x → p.src x ≡ false → A x ≡ B x)
      → ((s : K) → p.Ok s → p.src s ≡ true → lin S A (p.d (p.up s)) ≡ lin S B (p.d (p.up s)))
      → (m : ℕ) (x : K) → p.Ok x → p.rank x < m → A x ≡ B x
  by-sources-at A B h e zero x ok a = absurd (omega (arith, a))
  by-sources-at {M} A B h e (suc m) x ok a = elim (two (p.src x)) as (λ v. A x ≡ B x) [
    | inr q ↦ h x ok q
    | inl q ↦
        let f : (T : K → Ch S M) → T x ≡ add S (lin S T (p.rest x)) (sg S (p.u x) (lin S T (p.d (p.up x))))
        = λ T. sym (lin-eta S T x) ∙ (ap (lin S T) (p.split x ok q) ∙ (lin-add S T (p.rest x) (sg S (p.u x) (p.d (p.up x))) ∙
        ap (λ w. add S (lin S T (p.rest x)) w) (lin-sg S (p.u x) T (p.d (p.up x))))) in
        f A ∙ ((ap (λ w. add S w (sg S (p.u x) (lin S A (p.d (p.up x)))))
        (lin-on S (Low x) A B (p.rest x) (p.small x ok q)
        (λ y w. elim w.1 as (λ v. A y ≡ B y) [ inl c ↦ h y w.0 c | inr r ↦ by-sources-at A B h e m y w.0 (omega (arith, r, a)) ]))
        ∙ ap (λ w. add S (lin S B (p.rest x)) (sg S (p.u x) w)) (e x ok q)) ∙ sym (f B))
  ]

  pub by-sources : {M : Type 0} (A B : K → Ch S M) → ((x : K) → p.Ok x → p.src x ≡ false → A x ≡ B x)
      → ((s : K) → p.Ok s → p.src s ≡ true → lin S A (p.d (p.up s)) ≡ lin S B (p.d (p.up s))) → (x : K) → p.Ok x → A x ≡ B x
  by-sources A B h e x ok = by-sources-at A B h e (suc (p.rank x)) x ok (omega arith)

  -- identification: a critical generator is one whose value under g f is itself and targets
  unfoldable pub Critical : (E : Type 0) → (K → Ch S E) → (E → Ch S K) → K → Type 0
  Critical E f g x = (t : Ch S K) × (lin S g (f x) ≡ add S (eta S x) t) × All S Target t × (lin S k (lin S p.d (lin S g (f x))) ≡ o S)

  module _ (E : Type 0) (OkE : E → Type 0) (b : E → Ch S E) (f : K → Ch S E) (g : E → Ch S K)
      (ft : (s : K) → p.Ok s → p.src s ≡ true → f (p.up s) ≡ o S)
      (fd : (x : K) → p.Ok x → lin S f (p.d x) ≡ lin S b (f x))
      (fg : (y : E) → OkE y → lin S f (g y) ≡ eta S y)
      (f-ok : (x : K) → p.Ok x → All S OkE (f x))
      (g-ok : (y : E) → OkE y → All S p.Ok (g y))
      (b-ok : (y : E) → OkE y → All S OkE (b y))
      (cases : (x : K) → p.Ok x → p.src x ≡ false → Target x ⊎ Critical E f g x) where
    abbrev pub Hom : K → Ch S K
    Hom x = add S (lin S p.d (k x)) (add S (lin S k (p.d x)) (lin S g (f x)))

    -- d k + k d + g f = 1
    pub homotopy : (x : K) → p.Ok x → Hom x ≡ eta S x
    unfolding Critical Target
    homotopy x ok =
        let off : (x : K) → p.src x ≡ false → lin S p.d (k x) ≡ o S = λ x q. ap (lin S p.d) (k-off x q) ∙ lin-o S p.d in
        let c1 : (x : K) → p.Ok x → p.src x ≡ false → Hom x ≡ eta S x = λ x ok q.
        ap (λ v. add S v (add S (lin S k (p.d x)) (lin S g (f x)))) (off x q) ∙ (unit-l S (add S (lin S k (p.d x)) (lin S g (f x))) ∙
        elim (cases x ok q) as (λ v. add S (lin S k (p.d x)) (lin S g (f x)) ≡ eta S x) [
          | inl w ↦
              let z : lin S g (f x) ≡ o S = ap (λ v. lin S g (f v)) (sym w.3) ∙ (ap (lin S g) (ft w.0 w.1 w.2) ∙ lin-o S g) in
              ap (λ v. add S (lin S k (p.d x)) v) z ∙ (unit S (lin S k (p.d x)) ∙ undoes-target x w)
          | inr w ↦
              let z1 : lin S k (lin S p.d (lin S g (f x))) ≡ add S (lin S k (p.d x)) w.0
              = ap (λ v. lin S k (lin S p.d v)) w.1 ∙ (ap (lin S k) (lin-add S p.d (eta S x) w.0) ∙
              (lin-add S k (lin S p.d (eta S x)) (lin S p.d w.0) ∙ (ap (λ v. add S (lin S k v) (lin S k (lin S p.d w.0))) (lin-eta S p.d x)
              ∙ ap (λ v. add S (lin S k (p.d x)) v) (kd-fix w.0 w.2)))) in
              let z2 : add S (lin S k (p.d x)) w.0 ≡ o S = sym z1 ∙ w.3 in
              ap (λ v. add S (lin S k (p.d x)) v) w.1 ∙ (lcomm S (lin S k (p.d x)) (eta S x) w.0 ∙ (ap (λ v. add S (eta S x) v) z2 ∙ unit S (eta S x)))
        ]) in
        let c2 : (s : K) → p.Ok s → p.src s ≡ true → lin S Hom (p.d (p.up s)) ≡ lin S (eta S) (p.d (p.up s)) = λ s ok q.
        let t : Ch S K = p.d (p.up s) in
        let a1 : lin S (λ x. lin S p.d (k x)) t ≡ t = sym (lin-lin S k p.d t) ∙ (ap (lin S p.d) (undoes s ok q) ∙ lin-eta S p.d (p.up s)) in
        let a2 : lin S (λ x. lin S k (p.d x)) t ≡ o S = sym (lin-lin S p.d k t) ∙ (ap (lin S k) (p.dd (p.up s) (p.up-ok s ok q)) ∙ lin-o S k) in
        let a3 : lin S (λ x. lin S g (f x)) t ≡ o S = sym (lin-lin S f g t) ∙ (ap (lin S g) (fd (p.up s) (p.up-ok s ok q) ∙ (ap (lin S b) (ft s ok q) ∙ lin-o S b)) ∙ lin-o S g) in
        lin-sum S (λ x. lin S p.d (k x)) (λ x. add S (lin S k (p.d x)) (lin S g (f x))) t ∙
        (ap (λ v. add S (lin S (λ x. lin S p.d (k x)) t) v) (lin-sum S (λ x. lin S k (p.d x)) (λ x. lin S g (f x)) t ∙ (ap (λ v. add S v (lin S (λ x. lin S g (f x)) t)) a2 ∙ (unit-l S (lin S (λ x. lin S g (f x)) t) ∙ a3)))
        ∙ (unit S (lin S (λ x. lin S p.d (k x)) t) ∙ (a1 ∙ sym (lin-id S t)))) in
        by-sources Hom (eta S) c1 c2 x ok

    -- the same on chains
    pub homotopy-ch : (c : Ch S K) → All S p.Ok c → add S (lin S p.d (lin S k c)) (add S (lin S k (lin S p.d c)) (lin S g (lin S f c))) ≡ c
    homotopy-ch c a =
        sym (lin-sum S (λ x. lin S p.d (k x)) (λ x. add S (lin S k (p.d x)) (lin S g (f x))) c ∙
        (ap (λ v. add S (lin S (λ x. lin S p.d (k x)) c) v) (lin-sum S (λ x. lin S k (p.d x)) (λ x. lin S g (f x)) c)
        ∙ simp (← lin-lin S k p.d c, ← lin-lin S p.d k c, ← lin-lin S f g c) refl))
        ∙ (lin-on S p.Ok Hom (eta S) c a homotopy ∙ lin-id S c)

    -- f k = 0
    pub fk : (x : K) → p.Ok x → lin S f (k x) ≡ o S
    unfolding Target
    fk x ok = lin-on-o S Target f (k x) (to-targets x ok) (λ t w. ap f (sym w.3) ∙ ft w.0 w.1 w.2)

    -- k g = 0
    pub kg : (y : E) → OkE y → lin S k (g y) ≡ o S
    kg y oy =
        let c : Ch S K = g y in
        let a : All S p.Ok c = g-ok y oy in
        let gf : lin S g (lin S f c) ≡ c = ap (lin S g) (fg y oy) ∙ lin-eta S g y in
        let h : add S (lin S p.d (lin S k c)) (add S (lin S k (lin S p.d c)) c) ≡ add S (o S) c
        = ap (λ v. add S (lin S p.d (lin S k c)) (add S (lin S k (lin S p.d c)) v)) (sym gf) ∙ (homotopy-ch c a ∙ sym (unit-l S c)) in
        let z : add S (lin S p.d (lin S k c)) (lin S k (lin S p.d c)) ≡ o S
        = cancel S (add S (lin S p.d (lin S k c)) (lin S k (lin S p.d c))) (o S) c (assoc S (lin S p.d (lin S k c)) (lin S k (lin S p.d c)) c ∙ h) in
        let tk : All S Target (lin S k c) = all-lin S p.Ok Target k c a to-targets in
        let tkd : All S Target (lin S k (lin S p.d c)) = all-lin S p.Ok Target k (lin S p.d c) (all-lin S p.Ok p.Ok p.d c a p.d-ok) to-targets in
        sym (kd-fix (lin S k c) tk) ∙ (sym (unit S (lin S k (lin S p.d (lin S k c)))) ∙
        (ap (λ v. add S (lin S k (lin S p.d (lin S k c))) v) (sym (k-kills (lin S k (lin S p.d c)) tkd)) ∙
        (sym (lin-add S k (lin S p.d (lin S k c)) (lin S k (lin S p.d c))) ∙ (ap (lin S k) z ∙ lin-o S k))))

    -- d g = g b
    pub dg : (y : E) → OkE y → lin S p.d (g y) ≡ lin S g (b y)
    dg y oy =
        let c : Ch S K = g y in
        let a : All S p.Ok c = g-ok y oy in
        let dc : Ch S K = lin S p.d c in
        let h : add S (lin S p.d (lin S k dc)) (add S (lin S k (lin S p.d dc)) (lin S g (lin S f dc))) ≡ dc = homotopy-ch dc (all-lin S p.Ok p.Ok p.d c a p.d-ok) in
        let z1 : lin S k (lin S p.d dc) ≡ o S = ap (lin S k) (lin-lin S p.d p.d c ∙ lin-on-o S p.Ok (λ x. lin S p.d (p.d x)) c a p.dd) ∙ lin-o S k in
        let z2 : lin S g (lin S f dc) ≡ lin S g (b y)
        = ap (lin S g) (lin-lin S p.d f c ∙ (lin-on S p.Ok (λ x. lin S f (p.d x)) (λ x. lin S b (f x)) c a fd ∙ (sym (lin-lin S f b c) ∙ (ap (lin S b) (fg y oy) ∙ lin-eta S b y)))) in
        let ddk : lin S p.d (lin S p.d (lin S k c)) ≡ o S
        = lin-lin S p.d p.d (lin S k c) ∙ lin-on-o S p.Ok (λ x. lin S p.d (p.d x)) (lin S k c) (all-lin S p.Ok p.Ok k c a k-ok) p.dd in
        let kdc : lin S p.d (lin S k dc) ≡ o S
        = let e : add S (lin S p.d (lin S k c)) (add S (lin S k dc) (lin S g (lin S f c))) ≡ c = homotopy-ch c a in
        let gf : lin S g (lin S f c) ≡ c = ap (lin S g) (fg y oy) ∙ lin-eta S g y in
        let e2 : lin S k dc ≡ o S
        = cancel S (lin S k dc) (o S) c
        (sym (unit-l S (add S (lin S k dc) c)) ∙ (ap (λ v. add S v (add S (lin S k dc) c)) (sym (ap (lin S p.d) (kg y oy) ∙ lin-o S p.d)) ∙
        (ap (λ v. add S (lin S p.d (lin S k c)) (add S (lin S k dc) v)) (sym gf) ∙ (e ∙ sym (unit-l S c))))) in
        ap (lin S p.d) e2 ∙ lin-o S p.d in
        sym h ∙ (ap (λ v. add S v (add S (lin S k (lin S p.d dc)) (lin S g (lin S f dc)))) kdc ∙ (unit-l S (add S (lin S k (lin S p.d dc)) (lin S g (lin S f dc))) ∙
        (ap (λ v. add S v (lin S g (lin S f dc))) z1 ∙ (unit-l S (lin S g (lin S f dc)) ∙ z2))))

    -- b b = 0
    pub bb : (y : E) → OkE y → lin S b (b y) ≡ o S
    bb y oy =
        let c : Ch S K = g y in
        let e : b y ≡ lin S f (lin S p.d c)
        = sym (lin-lin S p.d f c ∙ (lin-on S p.Ok (λ x. lin S f (p.d x)) (λ x. lin S b (f x)) c (g-ok y oy) fd ∙ (sym (lin-lin S f b c) ∙ (ap (lin S b) (fg y oy) ∙ lin-eta S b y)))) in
        let dc : Ch S K = lin S p.d c in
        let a : All S p.Ok dc = all-lin S p.Ok p.Ok p.d c (g-ok y oy) p.d-ok in
        ap (lin S b) e ∙ (lin-lin S f b dc ∙ (sym (lin-on S p.Ok (λ x. lin S f (p.d x)) (λ x. lin S b (f x)) dc a fd) ∙ (sym (lin-lin S p.d f dc) ∙
        (ap (lin S f) (lin-lin S p.d p.d c ∙ lin-on-o S p.Ok (λ x. lin S p.d (p.d x)) c (g-ok y oy) p.dd) ∙ lin-o S f))))
