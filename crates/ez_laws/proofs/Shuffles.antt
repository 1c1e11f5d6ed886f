-- Signed sums over words with given numbers of H and V; exchanging two neighbours; the critical word and the others.
use Rattle.std.specs.Prelude.{◌≡◌, refl, ℕ, ◌≤◌, ◌+◌, List, [], ◌∷◌, Bool, true, false, ◌++◌}
use Rattle.std.proofs.Common.{sym, ◌∙◌, ap, arith, zero, suc}
use Rattle.simp_ops.specs.PathWords.{Step, left as H, right as V, both as D}
use Rattle.ez_laws.proofs.Matches.{m, src, crit, hs, prs}
use Rattle.ez_laws.proofs.WordFaces.{len, isV, isH, bits, absd-true}
use Rattle.ez_laws.proofs.WordRanks.{fls, noD}
use Rattle.ez_laws.proofs.Functionals.{Coefficients, Ch}
use Rattle.ez_laws.proofs.SignedSums.{Grp, sgn, sgn-o, sgn-add, sum, sum-zero}
use Rattle.ez_laws.proofs.ChainLaws.{o, add, neg, lin, grp, All, lin-o, lin-add, lin-neg, all-o, all-add, all-neg}

-- number of letters H (true)
unfoldable pub hc : List Bool → ℕ
hc [] = 0
hc (true ∷ w) = suc (hc w)
hc (false ∷ w) = hc w

abbrev pub Wd : ℕ → ℕ → List Bool → Type 0
Wd n p w = (len w ≡ n) × (hc w ≡ p)

pub wd-H : (n p : ℕ) (w : List Bool) → Wd n p w → Wd (suc n) (suc p) (true ∷ w)
unfolding len hc
wd-H n p w d = (ap suc d.0, ap suc d.1)

pub wd-V : (n p : ℕ) (w : List Bool) → Wd n p w → Wd (suc n) p (false ∷ w)
unfolding len hc
wd-V n p w d = (ap suc d.0, d.1)

module _ (G : Grp) where
  pub sum-on : (n p : ℕ) (F F' : List Bool → G.C) → ((w : List Bool) → Wd n p w → F w ≡ F' w) → sum G n p F ≡ sum G n p F'
  unfolding sum len hc
  sum-on zero zero F F' h = h [] (refl, refl)
  sum-on zero (suc p) F F' h = refl
  sum-on (suc n) zero F F' h = sum-on n zero (λ w. F (false ∷ w)) (λ w. F' (false ∷ w)) (λ w d. h (false ∷ w) (wd-V n zero w d))
  sum-on (suc n) (suc p) F F' h =
      ap (λ x. G.add x (sgn G (suc p) (sum G n (suc p) (λ w. F (false ∷ w))))) (sum-on n p (λ w. F (true ∷ w)) (λ w. F' (true ∷ w)) (λ w d. h (true ∷ w) (wd-H n p w d))) ∙
      ap (λ x. G.add (sum G n p (λ w. F' (true ∷ w))) (sgn G (suc p) x)) (sum-on n (suc p) (λ w. F (false ∷ w)) (λ w. F' (false ∷ w)) (λ w d. h (false ∷ w) (wd-V n (suc p) w d)))

  pub sum-o : (n p : ℕ) (F : List Bool → G.C) → ((w : List Bool) → Wd n p w → F w ≡ G.o) → sum G n p F ≡ G.o
  sum-o n p F h = sum-on n p F (λ w. G.o) h ∙ sum-zero G n p

  -- on the words that count: exchanging the letters at places j, j + 1
  abbrev pub Inv : ℕ → ℕ → ℕ → (List Bool → G.C) → Type 0
  Inv j n p F = (u v : List Bool) → len u ≡ j
      → (Wd n p (u ++ (true ∷ (false ∷ v))) → F (u ++ (true ∷ (false ∷ v))) ≡ F (u ++ (false ∷ (true ∷ v))))
      × (Wd n p (u ++ (true ∷ (true ∷ v))) → F (u ++ (true ∷ (true ∷ v))) ≡ G.o)
      × (Wd n p (u ++ (false ∷ (false ∷ v))) → F (u ++ (false ∷ (false ∷ v))) ≡ G.o)

  pub inv-H : (j n p : ℕ) (F : List Bool → G.C) → Inv (suc j) (suc n) (suc p) F → Inv j n p (λ w. F (true ∷ w))
  unfolding len
  inv-H j n p F h = λ u v e. let w = h (true ∷ u) v (ap suc e) in
      (λ d. w.0 (wd-H n p (u ++ (true ∷ (false ∷ v))) d), λ d. w.1 (wd-H n p (u ++ (true ∷ (true ∷ v))) d), λ d. w.2 (wd-H n p (u ++ (false ∷ (false ∷ v))) d))

  pub inv-V : (j n p : ℕ) (F : List Bool → G.C) → Inv (suc j) (suc n) p F → Inv j n p (λ w. F (false ∷ w))
  unfolding len
  inv-V j n p F h = λ u v e. let w = h (false ∷ u) v (ap suc e) in
      (λ d. w.0 (wd-V n p (u ++ (true ∷ (false ∷ v))) d), λ d. w.1 (wd-V n p (u ++ (true ∷ (true ∷ v))) d), λ d. w.2 (wd-V n p (u ++ (false ∷ (false ∷ v))) d))

  pub swap : (j n p : ℕ) (F : List Bool → G.C) → j + 2 ≤ n → Inv j n p F → sum G n p F ≡ G.o
  unfolding sum sgn len
  swap zero zero p F l h = absurd (omega (arith, l))
  swap zero (suc zero) p F l h = absurd (omega (arith, l))
  swap zero (suc (suc n)) zero F l h =
      sum-o n zero (λ w. F (false ∷ (false ∷ w))) (λ w d. (h [] w refl).2 (wd-V (suc n) zero (false ∷ w) (wd-V n zero w d)))
  swap zero (suc (suc n)) (suc zero) F l h =
      let X : G.C = sum G n zero (λ w. F (false ∷ (true ∷ w))) in
      let a : sum G n zero (λ w. F (true ∷ (false ∷ w))) ≡ X = sum-on n zero (λ w. F (true ∷ (false ∷ w))) (λ w. F (false ∷ (true ∷ w)))
      (λ w d. (h [] w refl).0 (wd-H (suc n) zero (false ∷ w) (wd-V n zero w d))) in
      let z : sum G n (suc zero) (λ w. F (false ∷ (false ∷ w))) ≡ G.o = sum-o n (suc zero) (λ w. F (false ∷ (false ∷ w)))
      (λ w d. (h [] w refl).2 (wd-V (suc n) (suc zero) (false ∷ w) (wd-V n (suc zero) w d))) in
      ap (λ x. G.add x (G.neg (G.add X (G.neg (sum G n (suc zero) (λ w. F (false ∷ (false ∷ w)))))))) a ∙
      (ap (λ x. G.add X (G.neg (G.add X x))) (ap G.neg z ∙ G.neg-o) ∙ (ap (λ x. G.add X (G.neg x)) (G.unit X) ∙ G.inverse X))
  swap zero (suc (suc n)) (suc (suc p)) F l h =
      let X : G.C = sum G n (suc p) (λ w. F (false ∷ (true ∷ w))) in
      let Y : G.C = sgn G (suc p) X in
      let a : sum G n (suc p) (λ w. F (true ∷ (false ∷ w))) ≡ X = sum-on n (suc p) (λ w. F (true ∷ (false ∷ w))) (λ w. F (false ∷ (true ∷ w)))
      (λ w d. (h [] w refl).0 (wd-H (suc n) (suc p) (false ∷ w) (wd-V n (suc p) w d))) in
      let y : sum G n p (λ w. F (true ∷ (true ∷ w))) ≡ G.o = sum-o n p (λ w. F (true ∷ (true ∷ w)))
      (λ w d. (h [] w refl).1 (wd-H (suc n) (suc p) (true ∷ w) (wd-H n p w d))) in
      let z : sum G n (suc (suc p)) (λ w. F (false ∷ (false ∷ w))) ≡ G.o = sum-o n (suc (suc p)) (λ w. F (false ∷ (false ∷ w)))
      (λ w d. (h [] w refl).2 (wd-V (suc n) (suc (suc p)) (false ∷ w) (wd-V n (suc (suc p)) w d))) in
      let l1 : G.add (sum G n p (λ w. F (true ∷ (true ∷ w)))) (sgn G (suc p) (sum G n (suc p) (λ w. F (true ∷ (false ∷ w))))) ≡ Y
      = ap (λ x. G.add x (sgn G (suc p) (sum G n (suc p) (λ w. F (true ∷ (false ∷ w)))))) y ∙ (G.comm G.o (sgn G (suc p) (sum G n (suc p) (λ w. F (true ∷ (false ∷ w))))) ∙ (G.unit (sgn G (suc p) (sum G n (suc p) (λ w. F (true ∷ (false ∷ w))))) ∙ ap (sgn G (suc p)) a)) in
      let l2 : G.add X (sgn G (suc (suc p)) (sum G n (suc (suc p)) (λ w. F (false ∷ (false ∷ w))))) ≡ X
      = ap (λ x. G.add X (sgn G (suc (suc p)) x)) z ∙ (ap (λ x. G.add X x) (sgn-o G (suc (suc p))) ∙ G.unit X) in
      ap (λ x. G.add x (sgn G (suc (suc p)) (G.add X (sgn G (suc (suc p)) (sum G n (suc (suc p)) (λ w. F (false ∷ (false ∷ w)))))))) l1 ∙
      (ap (λ x. G.add Y (sgn G (suc (suc p)) x)) l2 ∙ G.inverse Y)
  swap (suc j) zero p F l h = absurd (omega (arith, l))
  swap (suc j) (suc n) zero F l h = swap j n zero (λ w. F (false ∷ w)) (omega (arith, l)) (inv-V j n zero F h)
  swap (suc j) (suc n) (suc p) F l h =
      ap (λ x. G.add x (sgn G (suc p) (sum G n (suc p) (λ w. F (false ∷ w))))) (swap j n p (λ w. F (true ∷ w)) (omega (arith, l)) (inv-H j n p F h)) ∙
      (ap (λ x. G.add G.o (sgn G (suc p) x)) (swap j n (suc p) (λ w. F (false ∷ w)) (omega (arith, l)) (inv-V j n (suc p) F h)) ∙
      (ap (λ x. G.add G.o x) (sgn-o G (suc p)) ∙ G.unit G.o))

-- letters
unfoldable pub ltr : List Bool → List Step
ltr [] = []
ltr (true ∷ w) = H ∷ ltr w
ltr (false ∷ w) = V ∷ ltr w

pub ltr-app : (u v : List Bool) → ltr (u ++ v) ≡ ltr u ++ ltr v
unfolding ltr
ltr-app [] v = refl
ltr-app (true ∷ u) v = ap (λ x. H ∷ x) (ltr-app u v)
ltr-app (false ∷ u) v = ap (λ x. V ∷ x) (ltr-app u v)

pub ltr-len : (w : List Bool) → len (ltr w) ≡ len w
unfolding ltr len
ltr-len [] = refl
ltr-len (true ∷ w) = ap suc (ltr-len w)
ltr-len (false ∷ w) = ap suc (ltr-len w)

pub ltr-noD : (w : List Bool) → noD (ltr w) ≡ true
unfolding ltr noD
ltr-noD [] = refl
ltr-noD (true ∷ w) = ltr-noD w
ltr-noD (false ∷ w) = ltr-noD w

pub ltr-fls : (w : List Bool) → (fls (bits isV (ltr w)) ≡ hc w) × (fls (bits isH (ltr w)) + hc w ≡ len w)
unfolding ltr hc fls bits isV isH len
ltr-fls [] = (refl, omega arith)
ltr-fls (true ∷ w) = let r = ltr-fls w in (ap suc r.0, omega (arith, r.1))
ltr-fls (false ∷ w) = let r = ltr-fls w in (r.0, omega (arith, r.1))

-- H^p V^(n-p), and the other words
unfoldable pub cb : ℕ → ℕ → List Bool
cb zero p = []
cb (suc n) zero = false ∷ cb n zero
cb (suc n) (suc p) = true ∷ cb n p

pub crit-VH : (w : List Bool) → 1 ≤ hc w → crit (V ∷ ltr w) ≡ false
unfolding crit ltr hc
crit-VH [] l = absurd (omega (arith, l))
crit-VH (true ∷ w) l = refl
crit-VH (false ∷ w) l = crit-VH w l

-- no source and not critical: a target
pub target-match : (w : List Step) → src w ≡ false → crit w ≡ false → src (m w) ≡ true
unfolding crit src m
target-match [] a b = absd-true b
target-match (D ∷ w) a b = absd-true a
target-match (H ∷ w) a b = target-match w a b
target-match (V ∷ []) a b = absd-true b
target-match (V ∷ (D ∷ w)) a b = absd-true a
target-match (V ∷ (H ∷ w)) a b = refl
target-match (V ∷ (V ∷ [])) a b = absd-true b
target-match (V ∷ (V ∷ (D ∷ w))) a b = absd-true a
target-match (V ∷ (V ∷ (H ∷ w))) a b = refl
target-match (V ∷ (V ∷ (V ∷ w))) a b = target-match (V ∷ (V ∷ w)) a b

pub crit-V : (w : List Step) → crit (V ∷ w) ≡ true → (fls (bits isV w) ≡ 0) × (crit w ≡ true)
unfolding crit fls bits isV
crit-V [] e = (refl, refl)
crit-V (H ∷ w) e = absd-true (sym e)
crit-V (D ∷ w) e = absd-true (sym e)
crit-V (V ∷ w) e = let r = crit-V w e in (r.0, e)

-- a critical word is H^p V^q
pub crit-form : (w : List Step) → crit w ≡ true → w ≡ ltr (cb (len w) (fls (bits isV w)))
unfolding crit ltr cb len fls bits isV
crit-form [] e = refl
crit-form (D ∷ w) e = absd-true (sym e)
crit-form (H ∷ w) e = ap (λ x. H ∷ x) (crit-form w e)
crit-form (V ∷ w) e =
    let r = crit-V w e in
    ap (λ x. V ∷ x) (crit-form w r.1 ∙ ap (λ t. ltr (cb (len w) t)) r.0) ∙ ap (λ t. ltr (cb (suc (len w)) t)) (sym r.0)

pub cb-wd : (n p : ℕ) → p ≤ n → Wd n p (cb n p)
unfolding cb len hc
cb-wd zero zero l = (refl, refl)
cb-wd zero (suc p) l = absurd (omega (arith, l))
cb-wd (suc n) zero l = let r = cb-wd n zero (omega arith) in (ap suc r.0, r.1)
cb-wd (suc n) (suc p) l = let r = cb-wd n p (omega (arith, l)) in (ap suc r.0, ap suc r.1)

module _ (S : Coefficients) (K : Type 0) where
  unfoldable pub tail : ℕ → ℕ → (List Bool → Ch S K) → Ch S K
  tail zero p F = o S
  tail (suc n) zero F = tail n zero (λ w. F (false ∷ w))
  tail (suc n) (suc p) F = add S (tail n p (λ w. F (true ∷ w))) (sgn (grp S K) (suc p) (sum (grp S K) n (suc p) (λ w. F (false ∷ w))))

  pub sum-tail : (n p : ℕ) (F : List Bool → Ch S K) → p ≤ n → sum (grp S K) n p F ≡ add S (F (cb n p)) (tail n p F)
  unfolding tail sum cb
  sum-tail zero zero F l = sym ((grp S K).unit (F []))
  sum-tail zero (suc p) F l = absurd (omega (arith, l))
  sum-tail (suc n) zero F l = sum-tail n zero (λ w. F (false ∷ w)) (omega arith)
  sum-tail (suc n) (suc p) F l =
      let y : Ch S K = sgn (grp S K) (suc p) (sum (grp S K) n (suc p) (λ w. F (false ∷ w))) in
      ap (λ x. add S x y) (sum-tail n p (λ w. F (true ∷ w)) (omega (arith, l))) ∙ (grp S K).assoc (F (true ∷ cb n p)) (tail n p (λ w. F (true ∷ w))) y

  pub all-sgn : (n : ℕ) (Q : K → Type 0) (x : Ch S K) → All S Q x → All S Q (sgn (grp S K) n x)
  unfolding sgn
  all-sgn zero Q x a = a
  all-sgn (suc n) Q x a = all-neg S Q (sgn (grp S K) n x) (all-sgn n Q x a)

  pub all-sum : (Q : K → Type 0) (n p : ℕ) (F : List Bool → Ch S K) → ((w : List Bool) → Wd n p w → All S Q (F w)) → All S Q (sum (grp S K) n p F)
  unfolding sum len hc
  all-sum Q zero zero F h = h [] (refl, refl)
  all-sum Q zero (suc p) F h = all-o S Q
  all-sum Q (suc n) zero F h = all-sum Q n zero (λ w. F (false ∷ w)) (λ w d. h (false ∷ w) (wd-V n zero w d))
  all-sum Q (suc n) (suc p) F h = all-add S Q (sum (grp S K) n p (λ w. F (true ∷ w))) (sgn (grp S K) (suc p) (sum (grp S K) n (suc p) (λ w. F (false ∷ w))))
      (all-sum Q n p (λ w. F (true ∷ w)) (λ w d. h (true ∷ w) (wd-H n p w d)))
      (all-sgn (suc p) Q (sum (grp S K) n (suc p) (λ w. F (false ∷ w))) (all-sum Q n (suc p) (λ w. F (false ∷ w)) (λ w d. h (false ∷ w) (wd-V n (suc p) w d))))

  pub all-tail-zero : (Q : K → Type 0) (n : ℕ) (F : List Bool → Ch S K) → All S Q (tail n zero F)
  unfolding tail
  all-tail-zero Q zero F = all-o S Q
  all-tail-zero Q (suc n) F = all-tail-zero Q n (λ w. F (false ∷ w))

  pub all-tail : (Q : K → Type 0) (n p : ℕ) (F : List Bool → Ch S K) → ((w : List Bool) → Wd n p w → crit (ltr w) ≡ false → All S Q (F w)) → All S Q (tail n p F)
  unfolding tail crit ltr len hc
  all-tail Q zero p F h = all-o S Q
  all-tail Q (suc n) zero F h = all-tail-zero Q n (λ w. F (false ∷ w))
  all-tail Q (suc n) (suc p) F h = all-add S Q (tail n p (λ w. F (true ∷ w))) (sgn (grp S K) (suc p) (sum (grp S K) n (suc p) (λ w. F (false ∷ w))))
      (all-tail Q n p (λ w. F (true ∷ w)) (λ w d c. h (true ∷ w) (wd-H n p w d) c))
      (all-sgn (suc p) Q (sum (grp S K) n (suc p) (λ w. F (false ∷ w))) (all-sum Q n (suc p) (λ w. F (false ∷ w))
      (λ w d. h (false ∷ w) (wd-V n (suc p) w d) (crit-VH w (omega (arith, d.1))))))

  pub lin-sgn : {M : Type 0} (n : ℕ) (T : K → Ch S M) (x : Ch S K) → lin S T (sgn (grp S K) n x) ≡ sgn (grp S M) n (lin S T x)
  unfolding sgn
  lin-sgn zero T x = refl
  lin-sgn (suc n) T x = lin-neg S T (sgn (grp S K) n x) ∙ ap (neg S) (lin-sgn n T x)

  pub lin-of-sum : {M : Type 0} (n p : ℕ) (T : K → Ch S M) (F : List Bool → Ch S K) → lin S T (sum (grp S K) n p F) ≡ sum (grp S M) n p (λ w. lin S T (F w))
  unfolding sum
  lin-of-sum zero zero T F = refl
  lin-of-sum zero (suc p) T F = lin-o S T
  lin-of-sum (suc n) zero T F = lin-of-sum n zero T (λ w. F (false ∷ w))
  lin-of-sum {M} (suc n) (suc p) T F =
      lin-add S T (sum (grp S K) n p (λ w. F (true ∷ w))) (sgn (grp S K) (suc p) (sum (grp S K) n (suc p) (λ w. F (false ∷ w)))) ∙
      (ap (λ x. add S x (lin S T (sgn (grp S K) (suc p) (sum (grp S K) n (suc p) (λ w. F (false ∷ w)))))) (lin-of-sum n p T (λ w. F (true ∷ w))) ∙
      ap (λ x. add S (sum (grp S M) n p (λ w. lin S T (F (true ∷ w)))) x) (lin-sgn (suc p) T (sum (grp S K) n (suc p) (λ w. F (false ∷ w))) ∙
      ap (sgn (grp S M) (suc p)) (lin-of-sum n (suc p) T (λ w. F (false ∷ w)))))

unfoldable pub each : Bool → List (List Bool) → List (List Bool)
each b [] = []
each b (w ∷ l) = (b ∷ w) ∷ each b l

unfoldable pub AllHs : ℕ → List (List Bool) → Type 0
AllHs p [] = Unit {0}
AllHs p (w ∷ l) = (hs (ltr w) ≡ p) × AllHs p l

pub hs-each-V : (p : ℕ) (l : List (List Bool)) → AllHs p l → AllHs p (each false l)
unfolding AllHs each hs ltr
hs-each-V p [] h = tt
hs-each-V p (w ∷ l) h = (h.0, hs-each-V p l h.1)

pub hs-each-H : (p : ℕ) (l : List (List Bool)) → AllHs p l → AllHs (suc p) (each true l)
unfolding AllHs each hs ltr
hs-each-H p [] h = tt
hs-each-H p (w ∷ l) h = (omega (arith, h.0), hs-each-H p l h.1)

pub hs-app : (p : ℕ) (l r : List (List Bool)) → AllHs p l → AllHs p r → AllHs p (l ++ r)
unfolding AllHs
hs-app p [] r a b = b
hs-app p (w ∷ l) r a b = (a.0, hs-app p l r a.1 b)

-- the sum over words is the sum over all words of length n with p letters H, with sign -1 to the number of pairs V before H
unfoldable pub words : ℕ → ℕ → List (List Bool)
words zero zero = [] ∷ []
words zero (suc p) = []
words (suc n) zero = each false (words n zero)
words (suc n) (suc p) = each true (words n p) ++ each false (words n (suc p))

pub words-hs : (n p : ℕ) → AllHs p (words n p)
unfolding words AllHs hs ltr
words-hs zero zero = (refl, tt)
words-hs zero (suc p) = tt
words-hs (suc n) zero = hs-each-V zero (words n zero) (words-hs n zero)
words-hs (suc n) (suc p) = hs-app (suc p) (each true (words n p)) (each false (words n (suc p))) (hs-each-H p (words n p) (words-hs n p)) (hs-each-V (suc p) (words n (suc p)) (words-hs n (suc p)))

module _ (G : Grp) where
  unfoldable pub over : List (List Bool) → (List Bool → G.C) → G.C
  over [] F = G.o
  over (w ∷ l) F = G.add (F w) (over l F)

  pub over-app : (l r : List (List Bool)) (F : List Bool → G.C) → over (l ++ r) F ≡ G.add (over l F) (over r F)
  unfolding over
  over-app [] r F = sym (G.comm G.o (over r F) ∙ G.unit (over r F))
  over-app (w ∷ l) r F = ap (λ x. G.add (F w) x) (over-app l r F) ∙ sym (G.assoc (F w) (over l F) (over r F))

  pub over-each : (b : Bool) (l : List (List Bool)) (F : List Bool → G.C) → over (each b l) F ≡ over l (λ w. F (b ∷ w))
  unfolding over each
  over-each b [] F = refl
  over-each b (w ∷ l) F = ap (λ x. G.add (F (b ∷ w)) x) (over-each b l F)

  pub sgn-plus : (i j : ℕ) (x : G.C) → sgn G (i + j) x ≡ sgn G j (sgn G i x)
  unfolding sgn
  sgn-plus i zero x = let e : i + 0 ≡ i = omega arith in ap (λ t. sgn G t x) e
  sgn-plus i (suc j) x = let e : i + suc j ≡ suc (i + j) = omega arith in ap (λ t. sgn G t x) e ∙ ap G.neg (sgn-plus i j x)

  abbrev pub signed : (List Bool → G.C) → List Bool → G.C
  signed F w = sgn G (prs (ltr w)) (F w)

  pub over-sgn : (p : ℕ) (l : List (List Bool)) (F : List Bool → G.C) → sgn G p (over l F) ≡ over l (λ w. sgn G p (F w))
  unfolding over
  over-sgn p [] F = sgn-o G p
  over-sgn p (w ∷ l) F = sgn-add G p (F w) (over l F) ∙ ap (λ x. G.add (sgn G p (F w)) x) (over-sgn p l F)

  -- a letter V in front of a word with p letters H
  pub signed-V : (p : ℕ) (l : List (List Bool)) (F : List Bool → G.C) → AllHs p l → over l (λ w. signed F (false ∷ w)) ≡ over l (λ w. sgn G p (signed (λ v. F (false ∷ v)) w))
  unfolding over AllHs prs ltr
  signed-V p [] F h = refl
  signed-V p (w ∷ l) F h =
      ap (λ x. G.add x (over l (λ w. signed F (false ∷ w)))) (ap (λ t. sgn G (prs (ltr w) + t) (F (false ∷ w))) h.0 ∙ sgn-plus (prs (ltr w)) p (F (false ∷ w))) ∙
      ap (λ x. G.add (sgn G p (signed (λ v. F (false ∷ v)) w)) x) (signed-V p l F h.1)

  pub sum-signed : (n p : ℕ) (F : List Bool → G.C) → sum G n p F ≡ over (words n p) (signed F)
  unfolding sum words over prs ltr sgn
  sum-signed zero zero F = sym (G.unit (F []))
  sum-signed zero (suc p) F = refl
  sum-signed (suc n) zero F =
      sum-signed n zero (λ w. F (false ∷ w)) ∙ (sym (signed-V zero (words n zero) F (words-hs n zero)) ∙ sym (over-each false (words n zero) (signed F)))
  sum-signed (suc n) (suc p) F =
      ap (λ x. G.add x (sgn G (suc p) (sum G n (suc p) (λ w. F (false ∷ w))))) (sum-signed n p (λ w. F (true ∷ w)) ∙ sym (over-each true (words n p) (signed F))) ∙
      (ap (λ x. G.add (over (each true (words n p)) (signed F)) x)
      (ap (sgn G (suc p)) (sum-signed n (suc p) (λ w. F (false ∷ w))) ∙ (over-sgn (suc p) (words n (suc p)) (signed (λ w. F (false ∷ w))) ∙
      (sym (signed-V (suc p) (words n (suc p)) F (words-hs n (suc p))) ∙ sym (over-each false (words n (suc p)) (signed F))))) ∙
      sym (over-app (each true (words n p)) (each false (words n (suc p))) (signed F)))
