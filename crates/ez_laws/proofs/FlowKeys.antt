-- The flow by rounds is the flow of the matching.
use Rattle.std.proofs.Common.{◌≡◌, ℕ, zero, suc, ◌+◌, ◌-◌, ◌*◌, ◌<◌, ◌≤◌, List, [], ◌∷◌, ◌++◌, Bool, true, false, cond, inl, inr, refl, sym, ◌∙◌, ap, subst, arith}
use Rattle.fp_field.specs.Field.{sign}
use Rattle.fp_field.specs.Chains.{Terms, scale, extend, keep, Each}
use Rattle.fp_field.specs.Normal.{normal}
use Rattle.fp_field.specs.Reduction.{one}
use Rattle.fp_field.specs.Flows.{flow_in}
use Rattle.fp_field.proofs.Weights.{Each-append, Each-scale, Each-extend}
use Rattle.fp_field.proofs.FlowLaws.{Each-normal}
use Rattle.simp_ops.specs.PathWords.{Step, left as H, right as V, both as D, Event, source as at_source, target as at_target, critical, later, event}
use Rattle.spaces.specs.Orders.{Ordered}
use Rattle.spaces.specs.EilenbergZilber.{Linear, linear, Pair, pair_order, pair_d, target_of, moved, left_over, is_source, enough_rounds, flow}
use Rattle.ez_laws.specs.Sides.{IsLeft, IsRight}
use Rattle.ez_laws.specs.Complexes.{IsPair}
use Rattle.ez_laws.proofs.Matches.{m, src, crit-in, two}
use Rattle.ez_laws.proofs.WordFaces.{face, len, isV, isH, bits, len-bits, hv-face, absd-true}
use Rattle.ez_laws.proofs.WordRanks.{fls, Source, source, ev, ev-D, hv, hv-le, tri, rk, rk-less}
use Rattle.ez_laws.proofs.WordPlaces.{at, face-same}
use Rattle.ez_laws.proofs.Functionals.{Coefficients, Ch}
use Rattle.ez_laws.proofs.ChainLaws.{o, add, neg, eta, lin, sg, All, unit, comm, inverse, neg-neg, lin-eta, lin-id, lin-lin, lin-sum, lin-o, lin-os, lin-sg, lin-on, lin-on-o}
use Rattle.ez_laws.proofs.PairFaces.{LeftSystem, RightSystem, K as Key, Ok, up, up-ok, src-m, rank}
use Rattle.ez_laws.proofs.PairComplex as PC
use Rattle.ez_laws.proofs.AlexanderWhitney.{at-bits, at-bits-suc}
use Rattle.ez_laws.proofs.Flow as Fl
use Rattle.ez_laws.proofs.Values.{field, val, all-val, lin-keep, lin-append, lin-nil, lin-one, lin-extend, val-neg, val-sign, val-normal}
use Rattle.ez_laws.proofs.Eaches.{each-so, each-keep}
use Rattle.ez_laws.proofs.LeftSystems.{pulled, left_system}
use Rattle.ez_laws.proofs.SimplicialSides.{as_left, right_system}
use Rattle.ez_laws.proofs.PairKeys as PK
use Rattle.ez_laws.proofs.PairOrders.{pairs-apart}

-- ---- events of words

abbrev pub from_source : Event → Bool
from_source e = elim e [ at_source j ↦ true | at_target j ↦ false | critical ↦ false ]

later-same : (e : Event) → from_source (later e) ≡ from_source e
later-same (at_source j) = refl
later-same (at_target j) = refl
later-same critical = refl

pub event-src : (w : List Step) → from_source (event w) ≡ src w
unfolding src
event-src [] = refl
event-src (D ∷ w) = refl
event-src (H ∷ w) = later-same (event w) ∙ event-src w
event-src (V ∷ []) = refl
event-src (V ∷ (H ∷ w)) = refl
event-src (V ∷ (D ∷ w)) = refl
event-src (V ∷ (V ∷ w)) = later-same (event (V ∷ w)) ∙ event-src (V ∷ w)

pub event-source : (w : List Step) → src w ≡ true → event w ≡ at_source (ev w)
unfolding src ev
event-source [] e = absd-true (sym e)
event-source (D ∷ w) e = refl
event-source (H ∷ w) e = ap later (event-source w e)
event-source (V ∷ []) e = absd-true (sym e)
event-source (V ∷ (H ∷ w)) e = absd-true (sym e)
event-source (V ∷ (D ∷ w)) e = refl
event-source (V ∷ (V ∷ w)) e = ap later (event-source (V ∷ w) e)

-- ---- a bound on the rank

tri-le : (n : ℕ) → tri n ≤ n * n
unfolding tri
tri-le zero = omega arith
tri-le (suc n) = let r = tri-le n in let q : suc n * suc n ≡ n * n + n + n + 1 = omega arith in omega (arith, r, q)

rk-le : (x b c : ℕ) → b ≤ c → rk x b ≤ x * (c + 1)
unfolding rk
rk-le zero b c l = omega arith
rk-le (suc x) b c l = let r = rk-le x b c l in let q : suc x * (c + 1) ≡ x * (c + 1) + c + 1 = omega arith in omega (arith, r, q, l)

fls-le : (w : List Bool) → fls w ≤ len w
unfolding fls len
fls-le [] = omega arith
fls-le (true ∷ w) = omega (arith, fls-le w)
fls-le (false ∷ w) = omega (arith, fls-le w)

module _ (p : ℕ) (pos : 0 < p) {K J : Type 0} (L : Linear K) (In : ℕ → K → Type 0) (R : Ordered J) (left : IsLeft p L In) (right : IsRight R) where
  abbrev pub S : Coefficients
  S = field p pos

  abbrev pub A : LeftSystem S
  A = left_system p pos L In left

  abbrev pub B : RightSystem
  B = right_system p pos R right

  abbrev pub KK : Type 0
  KK = Key S A B

  abbrev pub M : Fl.Matching S KK
  M = PC.matching S A B

  abbrev pub steps : Pair K J → List Step
  steps s = PK.steps p pos L In R left right s

  abbrev pub key : Pair K J → KK
  key s = PK.key p pos L In R left right s

  abbrev pub keys : Pair K J → Ch S KK
  keys s = PK.keys p pos L In R left right s

  abbrev pub unkey : KK → Pair K J
  unkey k = PK.unkey p pos L In R left right k

  abbrev pub Is : Pair K J → Type 0
  Is s = IsPair p L In R s

  pub source-src : (s : Pair K J) → is_source p L R s ≡ src (steps s)
  source-src s = event-src (steps s)

  pub target-key : (s : Pair K J) → Is s → src (steps s) ≡ true → target_of p L R s (ev (steps s)) ≡ unkey (up S A B (key s))
  unfolding isV isH
  target-key s i q =
      let W : List Step = steps s in
      let k : KK = key s in
      let r : Source W = source W q in
      let j : ev W ≡ len r.u = ap ev r.eq ∙ ev-D r.u r.r r.quiet in
      let e : m W ≡ r.u ++ (V ∷ (H ∷ r.r)) = ap m r.eq ∙ crit-in r.u r.r r.quiet in
      let ok : Ok S A B (up S A B k) = up-ok S A B k q (PK.key-ok p pos L In R left right s i) in
      let e0 : suc s.0 ≡ len (m W) = ap suc (sym (PK.key-len p pos L In R left right s)) ∙ sym (src-m S A B W q).1 in
      let av : at (len r.u) (bits isV (m W)) ≡ true = ap (λ w. at (len r.u) (bits isV w)) e ∙ at-bits isV r.u (H ∷ r.r) V in
      let ah : at (suc (len r.u)) (bits isH (m W)) ≡ true = ap (λ w. at (suc (len r.u)) (bits isH w)) e ∙ at-bits-suc isH r.u r.r V H in
      let fv : face (len r.u) (bits isV (m W)) ≡ bits isV W
      = face-same (len r.u) (bits isV (m W)) av ∙ (ap (λ w. face (suc (len r.u)) (bits isV w)) e ∙ (hv-face isV r.u r.r V H refl ∙ ap (bits isV) (sym r.eq))) in
      let fh : face (suc (len r.u)) (bits isH (m W)) ≡ bits isH W
      = ap (λ w. face (suc (len r.u)) (bits isH w)) e ∙ (hv-face isH r.u r.r V H refl ∙ ap (bits isH) (sym r.eq)) in
      let e1 : L.degeneracy (ev W) s.1 ≡ PK.simplex_l p pos L In R left right (bits isV (m W), k.1)
      = ap (λ t. L.degeneracy t s.1) j
      ∙ (ap (L.degeneracy (len r.u)) (sym (ap (λ q. q.1) (PK.unkey-key p pos L In R left right s i)))
      ∙ (ap (λ w. L.degeneracy (len r.u) (PK.simplex_l p pos L In R left right (w, k.1))) (sym fv)
      ∙ sym (pulled p pos L In left (len r.u) (bits isV (m W), k.1) ok.0 ok.2 av))) in
      let e2 : R.set.degeneracy (suc (ev W)) s.2 ≡ PK.simplex_r p pos L In R left right (bits isH (m W), k.2)
      = ap (λ t. R.set.degeneracy (suc t) s.2) j
      ∙ (ap (R.set.degeneracy (suc (len r.u))) (sym (ap (λ q. q.2) (PK.unkey-key p pos L In R left right s i)))
      ∙ (ap (λ w. R.set.degeneracy (suc (len r.u)) (PK.simplex_r p pos L In R left right (w, k.2))) (sym fh)
      ∙ sym (pulled p pos (linear R) R.set.In (as_left p pos R right) (suc (len r.u)) (bits isH (m W), k.2) ok.1 ok.3 ah))) in
      λ t. (e0 t, e1 t, e2 t)

  pub moved-at : (s : Pair K J) → src (steps s) ≡ true → moved p L R s ≡ (target_of p L R s (ev (steps s)), sign p (suc (ev (steps s)))) ∷ []
  moved-at s q =
      ap (λ (e : Event). elim e as (λ x. Terms (Pair K J)) [ at_source j ↦ (target_of p L R s j, sign p (suc j)) ∷ [] | at_target j ↦ [] | critical ↦ [] ])
      (event-source (steps s) q)

  one_signed : (t : Pair K J) (n : ℕ) → (t, sign p n) ∷ [] ≡ scale (sign p n) (one t)
  one_signed t n = ap (λ a. (t, a) ∷ []) (let r : sign p n ≡ sign p n * 1 = omega arith in r)

  pub up-pair : (s : Pair K J) → Is s → src (steps s) ≡ true → Is (target_of p L R s (ev (steps s)))
  up-pair s i q =
      subst Is (sym (target-key s i q))
      (PK.unkey-pair p pos L In R left right (up S A B (key s)) (up-ok S A B (key s) q (PK.key-ok p pos L In R left right s i)))

  pub moved-keys : (s : Pair K J) → Is s → src (steps s) ≡ true → lin S keys (val p pos (moved p L R s)) ≡ sg S (suc (ev (steps s))) (eta S (up S A B (key s)))
  moved-keys s i q =
      let j : ℕ = suc (ev (steps s)) in
      let t : Pair K J = target_of p L R s (ev (steps s)) in
      ap (λ c. lin S keys (val p pos c)) (moved-at s q ∙ one_signed t j)
      ∙ ap (lin S keys) (val-sign p pos j (one t))
      ∙ lin-sg S j keys (val p pos (one t))
      ∙ ap (sg S j) (lin-one p pos keys t ∙ ap keys (target-key s i q)
      ∙ PK.keys-unkey p pos L In R left right (up S A B (key s)) (up-ok S A B (key s) q (PK.key-ok p pos L In R left right s i)))

  pub moved-pairs : (s : Pair K J) → Is s → src (steps s) ≡ true → Each (λ t. (t.0 ≡ suc s.0) × Is t) (moved p L R s)
  moved-pairs s i q = subst (Each (λ t. (t.0 ≡ suc s.0) × Is t)) (sym (moved-at s q)) ((refl, up-pair s i q), tt)

  d-moved-pairs : (s : Pair K J) → Is s → src (steps s) ≡ true → Each (λ t. (t.0 ≡ s.0) × Is t) (extend (pair_d p L R) (moved p L R s))
  d-moved-pairs s i q =
      Each-extend (λ t. (t.0 ≡ s.0) × Is t) (λ t. (t.0 ≡ suc s.0) × Is t) (pair_d p L R) (λ t h. PK.d-pairs p pos L In R left right s.0 t h.0 h.1)
      (moved p L R s) (moved-pairs s i q)

  -- d of a chain of pairs
  pub d-chain : (c : Terms (Pair K J)) → Each Is c → lin S keys (val p pos (extend (pair_d p L R) c)) ≡ lin S (PC.d S A B) (lin S keys (val p pos c))
  d-chain c h =
      lin-extend p pos keys (pair_d p L R) c
      ∙ lin-on S Is (λ s. lin S keys (val p pos (pair_d p L R s))) (λ s. lin S (PC.d S A B) (keys s)) (val p pos c) (all-val p pos Is c h)
      (λ s i. PK.d-keys p pos L In R left right s i ∙ sym (ap (lin S (PC.d S A B)) (PK.keys-key p pos L In R left right s i) ∙ lin-eta S (PC.d S A B) (key s)))
      ∙ sym (lin-lin S keys (PC.d S A B) (val p pos c))

  pub left-over-keys : (s : Pair K J) → Is s → src (steps s) ≡ true → lin S keys (val p pos (left_over p L R s)) ≡ PC.rest S A B (key s)
  left-over-keys s i q =
      let j : ℕ = suc (ev (steps s)) in
      let c : Terms (Pair K J) = extend (pair_d p L R) (moved p L R s) in
      let ok : Ok S A B (key s) = PK.key-ok p pos L In R left right s i in
      ap (lin S keys) (val-normal p pos (pair_order p L R) (pairs-apart p L In R left right).apart (one s ++ scale (p - 1) c))
      ∙ lin-append p pos keys (one s) (scale (p - 1) c)
      ∙ ap (λ v. add S v (lin S keys (val p pos (scale (p - 1) c)))) (lin-one p pos keys s ∙ PK.keys-key p pos L In R left right s i)
      ∙ ap (add S (eta S (key s)))
      (ap (lin S keys) (val-neg p pos c) ∙ Rattle.ez_laws.proofs.ChainLaws.lin-neg S keys (val p pos c)
      ∙ ap (neg S) (d-chain (moved p L R s) (each-so (moved p L R s) (λ t h. h.1) (moved-pairs s i q))
      ∙ ap (lin S (PC.d S A B)) (moved-keys s i q) ∙ lin-sg S j (PC.d S A B) (eta S (up S A B (key s)))
      ∙ ap (sg S j) (lin-eta S (PC.d S A B) (up S A B (key s)))))
      ∙ sym (Fl.rest-eq S KK M (key s) ok q)

  pub left-over-pairs : (s : Pair K J) → Is s → src (steps s) ≡ true → Each (λ t. (t.0 ≡ s.0) × Is t) (left_over p L R s)
  left-over-pairs s i q =
      Each-normal (λ t. (t.0 ≡ s.0) × Is t) (pair_order p L R) p (one s ++ scale (p - 1) (extend (pair_d p L R) (moved p L R s)))
      ((refl, i), Each-scale (λ t. (t.0 ≡ s.0) × Is t) (p - 1) (extend (pair_d p L R) (moved p L R s)) (d-moved-pairs s i q))

  -- ---- the rounds

  abbrev pub rounds : ℕ → Terms (Pair K J) → Terms (Pair K J)
  rounds n c = flow_in p (is_source p L R) (moved p L R) (left_over p L R) (pair_order p L R) n c

  abbrev pub Sources : ℕ → Pair K J → Type 0
  Sources n s = ((s.0 ≡ n) × Is s) × (is_source p L R s ≡ true)

  abbrev pub next : Terms (Pair K J) → Terms (Pair K J)
  next e = normal (pair_order p L R) p (keep (is_source p L R) (extend (left_over p L R) e))

  left-overs-each : (d : ℕ) (e : Terms (Pair K J)) → Each (Sources d) e → Each (λ t. (t.0 ≡ d) × Is t) (extend (left_over p L R) e)
  left-overs-each d e h =
      Each-extend (λ t. (t.0 ≡ d) × Is t) (Sources d) (left_over p L R)
      (λ s u. each-so (left_over p L R s) (λ t g. (g.0 ∙ u.0.0, g.1)) (left-over-pairs s u.0.1 (sym (source-src s) ∙ u.1))) e h

  pub next-each : (d : ℕ) (e : Terms (Pair K J)) → Each (Sources d) e → Each (Sources d) (next e)
  next-each d e h =
      Each-normal (Sources d) (pair_order p L R) p (keep (is_source p L R) (extend (left_over p L R) e))
      (each-keep (λ t. (t.0 ≡ d) × Is t) (is_source p L R) (extend (left_over p L R) e) (left-overs-each d e h))

  lin_keys : {N : Type 0} (T : KK → Ch S N) (c : Terms (Pair K J)) → lin S T (lin S keys (val p pos c)) ≡ lin S (λ s. lin S T (keys s)) (val p pos c)
  lin_keys T c = lin-lin S keys T (val p pos c)

  next-keys : (n d : ℕ) (e : Terms (Pair K J)) → Each (Sources d) e
      → lin S (Fl.kf S KK M n) (lin S keys (val p pos (next e))) ≡ lin S (λ s. lin S (Fl.kf S KK M n) (PC.rest S A B (key s))) (val p pos e)
  next-keys n d e h =
      let x : Terms (Pair K J) = extend (left_over p L R) e in
      let T : KK → Ch S KK = Fl.kf S KK M n in
      ap (λ c. lin S T (lin S keys c)) (val-normal p pos (pair_order p L R) (pairs-apart p L In R left right).apart (keep (is_source p L R) x))
      ∙ lin_keys T (keep (is_source p L R) x)
      ∙ lin-keep p pos (λ t. (t.0 ≡ d) × Is t) (λ s. lin S T (keys s)) (is_source p L R)
      (λ s u f. ap (lin S T) (PK.keys-key p pos L In R left right s u.1) ∙ (lin-eta S T (key s) ∙ Fl.kf-off S KK M n (key s) (sym (source-src s) ∙ f))) x (left-overs-each d e h)
      ∙ sym (lin_keys T x)
      ∙ ap (lin S T) (lin-extend p pos keys (left_over p L R) e
      ∙ lin-on S (Sources d) (λ s. lin S keys (val p pos (left_over p L R s))) (λ s. PC.rest S A B (key s)) (val p pos e) (all-val p pos (Sources d) e h)
      (λ s u. left-over-keys s u.0.1 (sym (source-src s) ∙ u.1)))
      ∙ lin-lin S (λ s. PC.rest S A B (key s)) T (val p pos e)

  -- the sum by rounds
  pub rounds-keys : (n d : ℕ) (c : Terms (Pair K J)) → Each (Sources d) c → lin S keys (val p pos (rounds n c)) ≡ lin S (Fl.kf S KK M n) (lin S keys (val p pos c))
  unfolding Fl.kf
  rounds-keys zero d c h = lin-nil p pos keys ∙ sym (lin-os S (lin S keys (val p pos c)))
  rounds-keys (suc n) d [] h = lin-nil p pos keys ∙ sym (ap (lin S (Fl.kf S KK M (suc n))) (lin-nil p pos keys) ∙ lin-o S (Fl.kf S KK M (suc n)))
  rounds-keys (suc n) d (t ∷ c) h =
      let e : Terms (Pair K J) = t ∷ c in
      let T : KK → Ch S KK = Fl.kf S KK M n in
      lin-append p pos keys (extend (moved p L R) e) (rounds n (next e))
      ∙ ap (λ v. add S v (lin S keys (val p pos (rounds n (next e)))))
      (lin-extend p pos keys (moved p L R) e
      ∙ lin-on S (Sources d) (λ s. lin S keys (val p pos (moved p L R s))) (λ s. sg S (suc (ev (steps s))) (eta S (up S A B (key s)))) (val p pos e) (all-val p pos (Sources d) e h)
      (λ s u. moved-keys s u.0.1 (sym (source-src s) ∙ u.1)))
      ∙ ap (add S (lin S (λ s. sg S (suc (ev (steps s))) (eta S (up S A B (key s)))) (val p pos e)))
      (rounds-keys n d (next e) (next-each d e h) ∙ next-keys n d e h)
      ∙ sym (lin-sum S (λ s. sg S (suc (ev (steps s))) (eta S (up S A B (key s)))) (λ s. lin S T (PC.rest S A B (key s))) (val p pos e))
      ∙ lin-on S (Sources d) (λ s. add S (sg S (suc (ev (steps s))) (eta S (up S A B (key s)))) (lin S T (PC.rest S A B (key s)))) (λ s. lin S (Fl.kf S KK M (suc n)) (keys s))
      (val p pos e) (all-val p pos (Sources d) e h)
      (λ s u. sym (ap (lin S (Fl.kf S KK M (suc n))) (PK.keys-key p pos L In R left right s u.0.1) ∙ (lin-eta S (Fl.kf S KK M (suc n)) (key s)
      ∙ Fl.kf-on S KK M n (key s) (sym (source-src s) ∙ u.1))))
      ∙ sym (lin_keys (Fl.kf S KK M (suc n)) e)

  pub rounds-pairs : (n d : ℕ) (c : Terms (Pair K J)) → Each (Sources d) c → Each (λ t. (t.0 ≡ suc d) × Is t) (rounds n c)
  rounds-pairs zero d c h = tt
  rounds-pairs (suc n) d [] h = tt
  rounds-pairs (suc n) d (t ∷ c) h =
      Each-append (λ t. (t.0 ≡ suc d) × Is t) (extend (moved p L R) (t ∷ c)) (rounds n (next (t ∷ c)))
      (Each-extend (λ t. (t.0 ≡ suc d) × Is t) (Sources d) (moved p L R)
      (λ s u. each-so (moved p L R s) (λ t g. (g.0 ∙ ap suc u.0.0, g.1)) (moved-pairs s u.0.1 (sym (source-src s) ∙ u.1))) (t ∷ c) h)
      (rounds-pairs n d (next (t ∷ c)) (next-each d (t ∷ c) h))

  -- the rounds are enough
  pub rank-bound : (s : Pair K J) → Is s → src (steps s) ≡ true → rank S A B (key s) < enough_rounds p L R s.0
  unfolding rank
  rank-bound s i q =
      let W : List Step = steps s in
      let n : ℕ = s.0 in
      let l : len W ≡ n = PK.key-len p pos L In R left right s in
      let ok : Ok S A B (key s) = PK.key-ok p pos L In R left right s i in
      let c : ℕ = (n + 1) * (n + 1) in
      let dl = fls-le (bits isV W) in
      let dr = fls-le (bits isH W) in
      let x : A.dim (key s).1 + B.dim (key s).2 < 2 * n + 1 = omega (arith, dl, dr, ok.0, ok.1, len-bits isV W, len-bits isH W, l) in
      let b : ℕ = tri (suc (len W)) in
      let h : hv (m W) ≤ b = subst (λ z. hv (m W) ≤ tri z) (src-m S A B W q).1 (hv-le (m W)) in
      let bc : b ≤ c = subst (λ z. tri (suc (len W)) ≤ z) (ap (λ t. suc t * suc t) l ∙ (let r : suc n * suc n ≡ (n + 1) * (n + 1) = omega arith in r)) (tri-le (suc (len W))) in
      let f = rk-less b (A.dim (key s).1 + B.dim (key s).2) (2 * n + 1) x in
      let g = rk-le (2 * n + 1) b c bc in
      omega (arith, f, g, h)

  -- the flow is the flow
  pub flow-keys : (s : Pair K J) → Is s → lin S keys (val p pos (flow p L R s)) ≡ Fl.k S KK M (key s)
  unfolding Fl.k
  flow-keys s i = elim (two (src (steps s))) as (λ v. lin S keys (val p pos (flow p L R s)) ≡ Fl.k S KK M (key s)) [
    | inr q ↦
        ap (λ b. lin S keys (val p pos (cond b (normal (pair_order p L R) p (rounds (enough_rounds p L R s.0) (one s))) []))) (source-src s ∙ q)
        ∙ (lin-nil p pos keys ∙ sym (Fl.k-off S KK M (key s) q))
    | inl q ↦
        let N : ℕ = enough_rounds p L R s.0 in
        ap (λ b. lin S keys (val p pos (cond b (normal (pair_order p L R) p (rounds N (one s))) []))) (source-src s ∙ q)
        ∙ (ap (lin S keys) (val-normal p pos (pair_order p L R) (pairs-apart p L In R left right).apart (rounds N (one s)))
        ∙ (rounds-keys N s.0 (one s) (((refl, i), source-src s ∙ q), tt)
        ∙ (ap (lin S (Fl.kf S KK M N)) (lin-one p pos keys s ∙ PK.keys-key p pos L In R left right s i)
        ∙ (lin-eta S (Fl.kf S KK M N) (key s)
        ∙ Fl.rounds-agree S KK M N (suc (rank S A B (key s))) (key s) (PK.key-ok p pos L In R left right s i) (rank-bound s i q) (omega arith)))))
  ]

  pub flow-pairs : (s : Pair K J) → Is s → Each (λ t. (t.0 ≡ suc s.0) × Is t) (flow p L R s)
  flow-pairs s i = elim (two (src (steps s))) as (λ v. Each (λ t. (t.0 ≡ suc s.0) × Is t) (flow p L R s)) [
    | inr q ↦ subst (λ b. Each (λ t. (t.0 ≡ suc s.0) × Is t) (cond b (normal (pair_order p L R) p (rounds (enough_rounds p L R s.0) (one s))) [])) (sym (source-src s ∙ q)) tt
    | inl q ↦ subst (λ b. Each (λ t. (t.0 ≡ suc s.0) × Is t) (cond b (normal (pair_order p L R) p (rounds (enough_rounds p L R s.0) (one s))) [])) (sym (source-src s ∙ q))
        (Each-normal (λ t. (t.0 ≡ suc s.0) × Is t) (pair_order p L R) p (rounds (enough_rounds p L R s.0) (one s))
        (rounds-pairs (enough_rounds p L R s.0) s.0 (one s) (((refl, i), source-src s ∙ q), tt)))
  ]
