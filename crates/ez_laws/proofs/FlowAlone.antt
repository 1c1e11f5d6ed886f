-- The flow meets its equations, and no other map does.
use Rattle.std.proofs.Common.{◌≡◌, ℕ, zero, suc, ◌<◌, ◌%◌, [], ◌++◌, Bool, true, false, ◌⊎◌, inl, inr, sym, ◌∙◌, ap, subst, arith}
use Rattle.fp_field.specs.Chains.{Terms, extend, Each}
use Rattle.fp_field.specs.Reduction.{SameTerms}
use Rattle.fp_field.proofs.Weights.{Each-append, Each-extend}
use Rattle.fp_field.proofs.Fair.{under}
use Rattle.spaces.specs.Orders.{Ordered}
use Rattle.spaces.specs.EilenbergZilber.{Linear, Pair, pair_order, moved, left_over, is_source, same_pair, flow}
use Rattle.ez_laws.specs.Sides.{IsLeft, IsRight}
use Rattle.ez_laws.specs.Complexes.{IsPair}
use Rattle.ez_laws.specs.FlowEquations.{MeetsFlow, IsOneFlow}
use Rattle.ez_laws.proofs.Matches.{src, two}
use Rattle.ez_laws.proofs.WordRanks.{ev}
use Rattle.ez_laws.proofs.Functionals.{Coefficients, Ch}
use Rattle.ez_laws.proofs.ChainLaws.{add, eta, lin, sg, lin-eta, lin-lin, lin-on}
use Rattle.ez_laws.proofs.PairFaces.{LeftSystem, RightSystem, K as Key, Ok, up, rank, Small}
use Rattle.ez_laws.proofs.PairComplex as PC
use Rattle.ez_laws.proofs.Flow as Fl
use Rattle.ez_laws.proofs.Values.{field, val, val-same, same-val, val-append, val-extend, lin-append, lin-nil}
use Rattle.ez_laws.proofs.Eaches.{each-so}
use Rattle.ez_laws.proofs.LeftSystems.{left_system}
use Rattle.ez_laws.proofs.SimplicialSides.{right_system}
use Rattle.ez_laws.proofs.PairKeys as PK
use Rattle.ez_laws.proofs.FlowKeys as FK
use Rattle.ez_laws.proofs.PairOrders.{tells-equivalence, same-is, pairs-apart}
use Rattle.ez_laws.proofs.Joined.{same-terms, on-chains, h-d-h, f-target}

module _ (p : ℕ) (pos : 0 < p) {K J : Type 0} (L : Linear K) (In : ℕ → K → Type 0) (R : Ordered J) (left : IsLeft p L In) (right : IsRight R) where
  abbrev S : Coefficients
  S = field p pos

  abbrev A : LeftSystem S
  A = left_system p pos L In left

  abbrev B : RightSystem
  B = right_system p pos R right

  abbrev KK : Type 0
  KK = Key S A B

  abbrev M : Fl.Matching S KK
  M = PC.matching S A B

  abbrev Is : Pair K J → Type 0
  Is s = IsPair p L In R s

  abbrev key : Pair K J → KK
  key s = PK.key p pos L In R left right s

  abbrev keys : Pair K J → Ch S KK
  keys s = PK.keys p pos L In R left right s

  abbrev unkey : KK → Pair K J
  unkey q = PK.unkey p pos L In R left right q

  abbrev same : Pair K J → Pair K J → Bool
  same x y = same_pair p L R x y

  -- the same numbers are the same value
  val-terms : (c e : Terms (Pair K J)) → SameTerms p same c e → val p pos c ≡ val p pos e
  val-terms c e h =
      val-same p pos c e (λ w. under p pos same (tells-equivalence (pair_order p L R) (pairs-apart p L In R left right)) w
      (λ x y q. ap (λ z. w z % p) (same-is (pair_order p L R) (pairs-apart p L In R left right) x y q)) c e h)

  source-key : (s : Pair K J) → is_source p L R s ≡ src (key s).0
  source-key s = FK.source-src p pos L In R left right s

  flow-meets : MeetsFlow p L In R (flow p L R)
  flow-meets = record {
    elsewhere = λ s i e. same-terms p same (flow p L R s) []
        (PK.pairs-same p pos L In R left right (flow p L R s) [] (each-so (flow p L R s) (λ t u. u.1) (FK.flow-pairs p pos L In R left right s i)) tt
        (FK.flow-keys p pos L In R left right s i ∙ (Fl.k-off S KK M (key s) (sym (source-key s) ∙ e) ∙ sym (lin-nil p pos keys))));
    on_source = λ s i e.
        let q : src (key s).0 ≡ true = sym (source-key s) ∙ e in
        let lo : Each Is (left_over p L R s) = each-so (left_over p L R s) (λ t u. u.1) (FK.left-over-pairs p pos L In R left right s i q) in
        same-terms p same (flow p L R s) (moved p L R s ++ extend (flow p L R) (left_over p L R s))
        (PK.pairs-same p pos L In R left right (flow p L R s) (moved p L R s ++ extend (flow p L R) (left_over p L R s))
        (each-so (flow p L R s) (λ t u. u.1) (FK.flow-pairs p pos L In R left right s i))
        (Each-append Is (moved p L R s) (extend (flow p L R) (left_over p L R s)) (each-so (moved p L R s) (λ t u. u.1) (FK.moved-pairs p pos L In R left right s i q))
        (Each-extend Is Is (flow p L R) (λ t u. each-so (flow p L R t) (λ v g. g.1) (FK.flow-pairs p pos L In R left right t u)) (left_over p L R s) lo))
        (FK.flow-keys p pos L In R left right s i
        ∙ (Fl.k-eq S KK M (key s) (PK.key-ok p pos L In R left right s i) q
        ∙ sym (lin-append p pos keys (moved p L R s) (extend (flow p L R) (left_over p L R s))
        ∙ (ap (λ v. add S v (lin S keys (val p pos (extend (flow p L R) (left_over p L R s))))) (FK.moved-keys p pos L In R left right s i q)
        ∙ ap (add S (sg S (suc (ev (key s).0)) (eta S (up S A B (key s)))))
        (on-chains p pos Is keys key (λ t u. PK.keys-key p pos L In R left right t u) keys (flow p L R) (Fl.k S KK M) (λ t u. FK.flow-keys p pos L In R left right t u) (left_over p L R s) lo
        ∙ ap (lin S (Fl.k S KK M)) (FK.left-over-keys p pos L In R left right s i q)))))));
  }

  -- what is left over, as a chain of pairs, by its keys
  over-val : (s : Pair K J) → Is s → src (key s).0 ≡ true → val p pos (left_over p L R s) ≡ lin S (λ q. eta S (unkey q)) (PC.rest S A B (key s))
  over-val s i q =
      sym (PK.back-again p pos L In R left right (left_over p L R s) (each-so (left_over p L R s) (λ t u. u.1) (FK.left-over-pairs p pos L In R left right s i q)))
      ∙ ap (lin S (λ q. eta S (unkey q))) (FK.left-over-keys p pos L In R left right s i q)

  module _ (k l : Pair K J → Terms (Pair K J)) (km : MeetsFlow p L In R k) (lm : MeetsFlow p L In R l) where
    opened : (m : Pair K J → Terms (Pair K J)) → MeetsFlow p L In R m → (s : Pair K J) → Is s → is_source p L R s ≡ true
        → val p pos (m s) ≡ add S (val p pos (moved p L R s)) (lin S (λ q. val p pos (m (unkey q))) (PC.rest S A B (key s)))
    opened m mm s i e =
        let q : src (key s).0 ≡ true = sym (source-key s) ∙ e in
        val-terms (m s) (moved p L R s ++ extend m (left_over p L R s)) (mm.on_source s i e)
        ∙ (val-append p pos (moved p L R s) (extend m (left_over p L R s))
        ∙ ap (add S (val p pos (moved p L R s)))
        (val-extend p pos m (left_over p L R s)
        ∙ (ap (lin S (λ t. val p pos (m t))) (over-val s i q)
        ∙ (lin-lin S (λ q. eta S (unkey q)) (λ t. val p pos (m t)) (PC.rest S A B (key s))
        ∙ ap (λ (U : KK → Ch S (Pair K J)). lin S U (PC.rest S A B (key s))) (λ j q. lin-eta S (λ t. val p pos (m t)) (unkey q) j)))))

    agree : (n : ℕ) (s : Pair K J) → Is s → (src (key s).0 ≡ false) ⊎ (rank S A B (key s) < n) → val p pos (k s) ≡ val p pos (l s)
    agree n s i (inl e) =
        let f : is_source p L R s ≡ false = source-key s ∙ e in
        val-terms (k s) [] (km.elsewhere s i f) ∙ sym (val-terms (l s) [] (lm.elsewhere s i f))
    agree zero s i (inr r) = absurd (omega (arith, r))
    agree (suc n) s i (inr r) = elim (two (src (key s).0)) as (λ v. val p pos (k s) ≡ val p pos (l s)) [
      | inr e ↦
          let f : is_source p L R s ≡ false = source-key s ∙ e in
          val-terms (k s) [] (km.elsewhere s i f) ∙ sym (val-terms (l s) [] (lm.elsewhere s i f))
      | inl e ↦
          let f : is_source p L R s ≡ true = source-key s ∙ e in
          let ok : Ok S A B (key s) = PK.key-ok p pos L In R left right s i in
          opened k km s i f
          ∙ (ap (add S (val p pos (moved p L R s)))
          (lin-on S (Small S A B (key s)) (λ q. val p pos (k (unkey q))) (λ q. val p pos (l (unkey q))) (PC.rest S A B (key s)) (PC.small S A B (key s) ok e)
          (λ q u. agree n (unkey q) (PK.unkey-pair p pos L In R left right q u.0) (lower n q (key s) u.0 u.1 r)))
          ∙ sym (opened l lm s i f))
    ]
      where
        lower : (n : ℕ) (q x : KK) → Ok S A B q → (src q.0 ≡ false) ⊎ (rank S A B q < rank S A B x) → rank S A B x < suc n
            → (src (key (unkey q)).0 ≡ false) ⊎ (rank S A B (key (unkey q)) < n)
        lower n q x ok (inl e) r = inl (ap (λ z. src z.0) (PK.key-unkey p pos L In R left right q ok) ∙ e)
        lower n q x ok (inr e) r = inr (subst (λ z. rank S A B z < n) (sym (PK.key-unkey p pos L In R left right q ok)) (omega (arith, e, r)))

  pub one-flow : IsOneFlow p L In R
  one-flow = record {
    meets = flow-meets;
    alone = λ k km s i. same-terms p same (k s) (flow p L R s) (same-val p pos (k s) (flow p L R s)
        (agree k (flow p L R) km flow-meets (suc (rank S A B (key s))) s i (inr (omega arith))));
    undoes = h-d-h p pos L In R left right;
    aw_of_target = λ s i e. f-target p pos L In R left right s i (sym (source-key s) ∙ e);
  }
