-- The Eilenberg-Mac Lane map as the signed sum over words.
use Rattle.std.proofs.Common.{◌≡◌, ℕ, zero, suc, ◌+◌, ◌-◌, ◌*◌, ◌<◌, List, [], ◌∷◌, ◌++◌, map, Bool, true, false, refl, sym, ◌∙◌, ap, subst, arith}
use Rattle.fp_field.specs.Field.{sign}
use Rattle.fp_field.specs.Chains.{Terms, scale, Each}
use Rattle.simp_ops.specs.PathWords.{Step, left as H, right as V, both as D, lefts, pairs, shuffles, is_left, is_right}
use Rattle.spaces.specs.Orders.{Ordered}
use Rattle.spaces.specs.EilenbergZilber.{Linear, linear, Tensor, shuffled, eml}
use Rattle.ez_laws.specs.Sides.{IsLeft, IsRight}
use Rattle.ez_laws.specs.Complexes.{IsPair, IsTensor}
use Rattle.ez_laws.proofs.WordFaces.{len, isV, isH}
use Rattle.ez_laws.proofs.Functionals.{Coefficients, Ch}
use Rattle.ez_laws.proofs.SignedSums.{sgn, sum}
use Rattle.ez_laws.proofs.ChainLaws.{add, eta, lin, sg, grp, lin-sg}
use Rattle.ez_laws.proofs.PairFaces.{LeftSystem, RightSystem, K as Key, Ok}
use Rattle.ez_laws.proofs.PairComplex.{sg-sgn}
use Rattle.ez_laws.proofs.Shuffles.{hc, Wd, wd-H, wd-V, ltr, ltr-len, ltr-fls, sum-on}
use Rattle.ez_laws.proofs.EilenbergMacLane.{EML, kw, kw-ok}
use Rattle.ez_laws.proofs.Values.{field, val, lin-append, lin-nil, lin-one, val-sign}
use Rattle.ez_laws.proofs.LeftSystems.{left_system}
use Rattle.ez_laws.proofs.NormalForms.{spread-form}
use Rattle.ez_laws.proofs.SimplicialSides.{as_left, right_system}
use Rattle.ez_laws.proofs.PairKeys as PK
use Rattle.ez_laws.proofs.TensorKeys as TK

-- a fact of each word of a list
abbrev pub Every : (List Step → Type 0) → List (List Step) → Type 0
Every P [] = Unit {0}
Every P (w ∷ l) = P w × Every P l

every-app : (P : List Step → Type 0) (l r : List (List Step)) → Every P l → Every P r → Every P (l ++ r)
every-app P [] r a b = b
every-app P (w ∷ l) r a b = (a.0, every-app P l r a.1 b)

every-cons : (P Q : List Step → Type 0) (s : Step) → ((w : List Step) → P w → Q (s ∷ w)) → (l : List (List Step)) → Every P l → Every Q (map (λ w. s ∷ w) l)
every-cons P Q s f [] h = tt
every-cons P Q s f (w ∷ l) h = (f w h.0, every-cons P Q s f l h.1)

-- a shuffle is the word of a word of Booleans
abbrev pub IsShuffle : ℕ → ℕ → List Step → Type 0
IsShuffle n q w = (b : List Bool) × (w ≡ ltr b) × Wd n q b

pub shuffles-are : (n q : ℕ) → Every (IsShuffle n q) (shuffles n q)
unfolding ltr len hc
shuffles-are zero zero = (([], refl, (refl, refl)), tt)
shuffles-are zero (suc q) = tt
shuffles-are (suc n) zero =
    every-cons (IsShuffle n zero) (IsShuffle (suc n) zero) V (λ w h. (false ∷ h.0, ap (λ x. V ∷ x) h.1, wd-V n zero h.0 h.2)) (shuffles n zero) (shuffles-are n zero)
shuffles-are (suc n) (suc q) =
    every-app (IsShuffle (suc n) (suc q)) (map (λ w. H ∷ w) (shuffles n q)) (map (λ w. V ∷ w) (shuffles n (suc q)))
    (every-cons (IsShuffle n q) (IsShuffle (suc n) (suc q)) H (λ w h. (true ∷ h.0, ap (λ x. H ∷ x) h.1, wd-H n q h.0 h.2)) (shuffles n q) (shuffles-are n q))
    (every-cons (IsShuffle n (suc q)) (IsShuffle (suc n) (suc q)) V (λ w h. (false ∷ h.0, ap (λ x. V ∷ x) h.1, wd-V n (suc q) h.0 h.2)) (shuffles n (suc q)) (shuffles-are n (suc q)))

lefts-ltr : (b : List Bool) → lefts (ltr b) ≡ hc b
unfolding ltr hc
lefts-ltr [] = refl
lefts-ltr (true ∷ b) = ap suc (lefts-ltr b)
lefts-ltr (false ∷ b) = lefts-ltr b

sign-plus : (p i j : ℕ) → sign p (i + j) ≡ sign p i * sign p j
sign-plus p zero j = let e : 0 + j ≡ j = omega arith in ap (sign p) e ∙ (let q : sign p j ≡ 1 * sign p j = omega arith in q)
sign-plus p (suc i) j =
    let e : suc i + j ≡ suc (i + j) = omega arith in
    ap (sign p) e ∙ ap (λ n. (p - 1) * n) (sign-plus p i j) ∙ (let q : (p - 1) * (sign p i * sign p j) ≡ (p - 1) * sign p i * sign p j = omega arith in q)

-- a chain over words, with their signs
abbrev pub signed_words : {K : Type 0} → ℕ → (List Step → K) → List (List Step) → Terms K
signed_words p g l = map (λ w. (g w, sign p (pairs w))) l

signed-H : {K : Type 0} (p : ℕ) (g : List Step → K) (l : List (List Step)) → signed_words p g (map (λ w. H ∷ w) l) ≡ signed_words p (λ w. g (H ∷ w)) l
signed-H p g [] = refl
signed-H p g (w ∷ l) = ap (λ c. (g (H ∷ w), sign p (pairs w)) ∷ c) (signed-H p g l)

signed-V : {K : Type 0} (p q : ℕ) (g : List Step → K) (l : List (List Step)) → Every (λ w. lefts w ≡ q) l
    → signed_words p g (map (λ w. V ∷ w) l) ≡ scale (sign p q) (signed_words p (λ w. g (V ∷ w)) l)
signed-V p q g [] h = refl
signed-V p q g (w ∷ l) h = λ i. (g (V ∷ w), (ap (λ n. sign p (n + pairs w)) h.0 ∙ sign-plus p q (pairs w)) i) ∷ signed-V p q g l h.1 i

signed-app : {K : Type 0} (p : ℕ) (g : List Step → K) (l r : List (List Step)) → signed_words p g (l ++ r) ≡ signed_words p g l ++ signed_words p g r
signed-app p g [] r = refl
signed-app p g (w ∷ l) r = ap (λ c. (g w, sign p (pairs w)) ∷ c) (signed-app p g l r)

every-so : (P Q : List Step → Type 0) (l : List (List Step)) → ((w : List Step) → P w → Q w) → Every P l → Every Q l
every-so P Q [] f h = tt
every-so P Q (w ∷ l) f h = (f w h.0, every-so P Q l f h.1)

lefts-of : (n q : ℕ) → Every (λ w. lefts w ≡ q) (shuffles n q)
lefts-of n q = every-so (IsShuffle n q) (λ w. lefts w ≡ q) (shuffles n q) (λ w h. ap lefts h.1 ∙ (lefts-ltr h.0 ∙ h.2.1)) (shuffles-are n q)

pub each-words : {K : Type 0} (p : ℕ) (P : K → Type 0) (Q : List Step → Type 0) (g : List Step → K) → ((w : List Step) → Q w → P (g w)) → (l : List (List Step)) → Every Q l → Each P (signed_words p g l)
each-words p P Q g f [] h = tt
each-words p P Q g f (w ∷ l) h = (f w h.0, each-words p P Q g f l h.1)

module _ (p : ℕ) (pos : 0 < p) {K M : Type 0} (T : K → Ch (field p pos) M) where
  pub sum-words : (n q : ℕ) (g : List Step → K)
      → lin (field p pos) T (val p pos (signed_words p g (shuffles n q))) ≡ sum (grp (field p pos) M) n q (λ b. T (g (ltr b)))
  unfolding sum ltr sg
  sum-words zero zero g = lin-one p pos T (g [])
  sum-words zero (suc q) g = lin-nil p pos T
  sum-words (suc n) zero g =
      ap (λ c. lin (field p pos) T (val p pos c)) (signed-V p zero g (shuffles n zero) (lefts-of n zero))
      ∙ vs n zero g
      ∙ sum-words n zero (λ w. g (V ∷ w))
    where
      vs : (n q : ℕ) (g : List Step → K) → lin (field p pos) T (val p pos (scale (sign p q) (signed_words p (λ w. g (V ∷ w)) (shuffles n q))))
          ≡ sg (field p pos) q (lin (field p pos) T (val p pos (signed_words p (λ w. g (V ∷ w)) (shuffles n q))))
      vs n q g = ap (lin (field p pos) T) (val-sign p pos q (signed_words p (λ w. g (V ∷ w)) (shuffles n q))) ∙ lin-sg (field p pos) q T (val p pos (signed_words p (λ w. g (V ∷ w)) (shuffles n q)))
  sum-words (suc n) (suc q) g =
      let c : Terms K = signed_words p (λ w. g (V ∷ w)) (shuffles n (suc q)) in
      ap (λ c. lin (field p pos) T (val p pos c)) (signed-app p g (map (λ w. H ∷ w) (shuffles n q)) (map (λ w. V ∷ w) (shuffles n (suc q))))
      ∙ lin-append p pos T (signed_words p g (map (λ w. H ∷ w) (shuffles n q))) (signed_words p g (map (λ w. V ∷ w) (shuffles n (suc q))))
      ∙ ap (λ v. add (field p pos) v (lin (field p pos) T (val p pos (signed_words p g (map (λ w. V ∷ w) (shuffles n (suc q)))))))
      (ap (λ c. lin (field p pos) T (val p pos c)) (signed-H p g (shuffles n q)) ∙ sum-words n q (λ w. g (H ∷ w)))
      ∙ ap (add (field p pos) (sum (grp (field p pos) M) n q (λ b. T (g (H ∷ ltr b)))))
      (ap (λ c. lin (field p pos) T (val p pos c)) (signed-V p (suc q) g (shuffles n (suc q)) (lefts-of n (suc q)))
      ∙ ap (lin (field p pos) T) (val-sign p pos (suc q) c) ∙ lin-sg (field p pos) (suc q) T (val p pos c)
      ∙ sg-sgn (field p pos) M (suc q) (lin (field p pos) T (val p pos c))
      ∙ ap (sgn (grp (field p pos) M) (suc q)) (sum-words n (suc q) (λ w. g (V ∷ w))))

isV-right : (s : Step) → is_right s ≡ isV s
unfolding isV
isV-right H = refl
isV-right V = refl
isV-right D = refl

isH-left : (s : Step) → is_left s ≡ isH s
unfolding isH
isH-left H = refl
isH-left V = refl
isH-left D = refl

module _ (p : ℕ) (pos : 0 < p) {K J : Type 0} (L : Linear K) (In : ℕ → K → Type 0) (R : Ordered J) (left : IsLeft p L In) (right : IsRight R) where
  abbrev pub S : Coefficients
  S = field p pos

  abbrev pub A : LeftSystem S
  A = left_system p pos L In left

  abbrev pub B : RightSystem
  B = right_system p pos R right

  abbrev pub KK : Type 0
  KK = Key S A B

  -- the pair of a shuffle is that of its key
  pub shuffled-key : (z : Tensor K J) → IsTensor p L In R z → (b : List Bool) → Wd (z.0 + z.2) z.0 b
      → (shuffled p L R z (ltr b)).0 ≡ PK.unkey p pos L In R left right (kw S A B (TK.tkey p pos L In R left right z) b)
  shuffled-key z i b d =
      let f = ltr-fls b in
      let e0 : z.0 + z.2 ≡ len (ltr b) = sym (ltr-len b ∙ d.0) in
      let e1 = spread-form In L.degeneracy L.has_degeneracy left.degeneracies p L R isV is_right isV-right 0 z.0 (ltr b) z.1 (omega (arith, f.0, d.1)) i.0 in
      let e2 = spread-form R.set.In R.set.degeneracy (linear R).has_degeneracy (as_left p pos R right).degeneracies p (linear R) R isH is_left isH-left 0 z.2 (ltr b) z.3 (omega (arith, f.1, d.0, d.1)) i.1 in
      λ j. (e0 j, e1 j, e2 j)

  shuffle-ok : (z : Tensor K J) → IsTensor p L In R z → (b : List Bool) → Wd (z.0 + z.2) z.0 b → Ok S A B (kw S A B (TK.tkey p pos L In R left right z) b)
  shuffle-ok z i b d = kw-ok S A B (TK.tkey p pos L In R left right z) (TK.tkey-ok p pos L In R left right z i) b d

  pub eml-pairs : (z : Tensor K J) → IsTensor p L In R z → Each (λ t. (t.0 ≡ z.0 + z.2) × IsPair p L In R t) (eml p L R z)
  eml-pairs z i =
      each-words p (λ t. (t.0 ≡ z.0 + z.2) × IsPair p L In R t) (IsShuffle (z.0 + z.2) z.0) (λ w. (shuffled p L R z w).0)
      (λ w h. (
        refl,
        subst (IsPair p L In R) (sym (ap (λ v. (shuffled p L R z v).0) h.1 ∙ shuffled-key z i h.0 h.2))
            (PK.unkey-pair p pos L In R left right (kw S A B (TK.tkey p pos L In R left right z) h.0) (shuffle-ok z i h.0 h.2)),
      ))
      (shuffles (z.0 + z.2) z.0) (shuffles-are (z.0 + z.2) z.0)

  -- the map is the map
  pub eml-keys : (z : Tensor K J) → IsTensor p L In R z → lin S (PK.keys p pos L In R left right) (val p pos (eml p L R z)) ≡ EML S A B (TK.tkey p pos L In R left right z)
  unfolding EML
  eml-keys z i =
      sum-words p pos (PK.keys p pos L In R left right) (z.0 + z.2) z.0 (λ w. (shuffled p L R z w).0)
      ∙ sum-on (grp S KK) (z.0 + z.2) z.0 (λ b. PK.keys p pos L In R left right (shuffled p L R z (ltr b)).0) (λ b. eta S (kw S A B (TK.tkey p pos L In R left right z) b))
      (λ b d. ap (PK.keys p pos L In R left right) (shuffled-key z i b d)
      ∙ PK.keys-unkey p pos L In R left right (kw S A B (TK.tkey p pos L In R left right z) b) (shuffle-ok z i b d))
