-- Words of Booleans and of letters: what a face does to length, falses and true entries; sources, ranks, words without D.
use Rattle.std.specs.Prelude.{◌≡◌, refl, ℕ, ◌<◌, ◌≤◌, ◌+◌, List, [], ◌∷◌, Bool, true, false, ◌++◌, ◌⊎◌}
use Rattle.std.proofs.Common.{sym, ◌∙◌, ap, inl, inr, arith, zero, suc}
use Rattle.simp_ops.specs.PathWords.{Step, left as H, right as V, both as D}
use Rattle.ez_laws.proofs.Matches.{src, crit}
use Rattle.ez_laws.proofs.WordFaces.{face, absd, len, isV, isH, bits, absd-true, compl}

-- number of false entries
unfoldable pub fls : List Bool → ℕ
fls [] = 0
fls (true ∷ w) = fls w
fls (false ∷ w) = suc (fls w)

-- as long, and true wherever the first is
unfoldable pub Above : List Bool → List Bool → Type 0
Above [] [] = Unit {0}
Above [] (b ∷ w) = ⊥
Above (a ∷ u) [] = ⊥
Above (true ∷ u) (b ∷ w) = (b ≡ true) × Above u w
Above (false ∷ u) (b ∷ w) = Above u w

pub above-refl : (u : List Bool) → Above u u
unfolding Above
above-refl [] = tt
above-refl (true ∷ u) = (refl, above-refl u)
above-refl (false ∷ u) = above-refl u

pub above-len : (u w : List Bool) → Above u w → len w ≡ len u
unfolding Above len
above-len [] [] a = refl
above-len [] (b ∷ w) a = absurd a
above-len (true ∷ u) [] a = absurd a
above-len (false ∷ u) [] a = absurd a
above-len (true ∷ u) (b ∷ w) a = ap suc (above-len u w a.1)
above-len (false ∷ u) (b ∷ w) a = ap suc (above-len u w a)

pub above-fls : (u w : List Bool) → Above u w → fls w ≤ fls u
unfolding Above fls
above-fls [] [] a = omega arith
above-fls [] (b ∷ w) a = absurd a
above-fls (true ∷ u) [] a = absurd a
above-fls (false ∷ u) [] a = absurd a
above-fls (true ∷ u) (true ∷ w) a = above-fls u w a.1
above-fls (true ∷ u) (false ∷ w) a = absd-true (sym a.0)
above-fls (false ∷ u) (true ∷ w) a = omega (arith, above-fls u w a)
above-fls (false ∷ u) (false ∷ w) a = omega (arith, above-fls u w a)

pub len-face : (i : ℕ) (w : List Bool) → i ≤ len w → 1 ≤ len w → suc (len (face i w)) ≡ len w
unfolding face len
len-face zero [] l n = absurd (omega (arith, n))
len-face zero (b ∷ w) l n = refl
len-face (suc i) [] l n = absurd (omega (arith, n))
len-face (suc zero) (a ∷ []) l n = refl
len-face (suc zero) (a ∷ (b ∷ w)) l n = refl
len-face (suc (suc i)) (a ∷ []) l n = absurd (omega (arith, l))
len-face (suc (suc i)) (a ∷ (b ∷ w)) l n = ap suc (len-face (suc i) (b ∷ w) (omega (arith, l)) (omega arith))

pub fls-through : (i : ℕ) (w : List Bool) → i ≤ len w → 1 ≤ len w → absd i w ≡ false → suc (fls (face i w)) ≡ fls w
unfolding face len absd fls
fls-through zero [] l n e = absurd (omega (arith, n))
fls-through zero (true ∷ w) l n e = absd-true e
fls-through zero (false ∷ w) l n e = refl
fls-through (suc i) [] l n e = absurd (omega (arith, n))
fls-through (suc zero) (true ∷ []) l n e = absd-true e
fls-through (suc zero) (false ∷ []) l n e = refl
fls-through (suc zero) (true ∷ (b ∷ w)) l n e = absd-true e
fls-through (suc zero) (false ∷ (true ∷ w)) l n e = absd-true e
fls-through (suc zero) (false ∷ (false ∷ w)) l n e = refl
fls-through (suc (suc i)) (a ∷ []) l n e = absurd (omega (arith, l))
fls-through (suc (suc i)) (true ∷ (b ∷ w)) l n e = fls-through (suc i) (b ∷ w) (omega (arith, l)) (omega arith) e
fls-through (suc (suc i)) (false ∷ (b ∷ w)) l n e = ap suc (fls-through (suc i) (b ∷ w) (omega (arith, l)) (omega arith) e)

pub fls-absorbed : (i : ℕ) (w : List Bool) → i ≤ len w → absd i w ≡ true → fls (face i w) ≡ fls w
unfolding face len absd fls
fls-absorbed zero [] l e = absd-true (sym e)
fls-absorbed zero (true ∷ w) l e = refl
fls-absorbed zero (false ∷ w) l e = absd-true (sym e)
fls-absorbed (suc i) [] l e = absd-true (sym e)
fls-absorbed (suc zero) (true ∷ []) l e = refl
fls-absorbed (suc zero) (false ∷ []) l e = absd-true (sym e)
fls-absorbed (suc zero) (true ∷ (true ∷ w)) l e = refl
fls-absorbed (suc zero) (true ∷ (false ∷ w)) l e = refl
fls-absorbed (suc zero) (false ∷ (true ∷ w)) l e = refl
fls-absorbed (suc zero) (false ∷ (false ∷ w)) l e = absd-true (sym e)
fls-absorbed (suc (suc i)) (a ∷ []) l e = absurd (omega (arith, l))
fls-absorbed (suc (suc i)) (true ∷ (b ∷ w)) l e = fls-absorbed (suc i) (b ∷ w) (omega (arith, l)) e
fls-absorbed (suc (suc i)) (false ∷ (b ∷ w)) l e = ap suc (fls-absorbed (suc i) (b ∷ w) (omega (arith, l)) e)

-- two words as one word of letters, or none where they have a common true
pub data Opt (A : Type 0) : Type 0 where
  none : Opt A
  some : A → Opt A

unfoldable pub push : Step → Opt (List Step) → Opt (List Step)
push c none = none
push c (some w) = some (c ∷ w)

unfoldable pub zip : List Bool → List Bool → Opt (List Step)
zip [] [] = some []
zip [] (b ∷ v) = none
zip (a ∷ w) [] = none
zip (true ∷ w) (true ∷ v) = none
zip (true ∷ w) (false ∷ v) = push V (zip w v)
zip (false ∷ w) (true ∷ v) = push H (zip w v)
zip (false ∷ w) (false ∷ v) = push D (zip w v)

pub zip-bits : (W : List Step) → zip (bits isV W) (bits isH W) ≡ some W
unfolding zip push bits isV isH
zip-bits [] = refl
zip-bits (H ∷ W) = ap (push H) (zip-bits W)
zip-bits (V ∷ W) = ap (push V) (zip-bits W)
zip-bits (D ∷ W) = ap (push D) (zip-bits W)

abbrev pub Zipped : List Bool → List Bool → List Step → Type 0
Zipped w v W = (w ≡ bits isV W) × (v ≡ bits isH W)

-- the letters are read off: what zip gives has these two words
unfoldable pub Gives : List Bool → List Bool → Opt (List Step) → Type 0
Gives w v none = Unit {0}
Gives w v (some W) = Zipped w v W

pub gives-push : (a b : Bool) (c : Step) (w v : List Bool) (q : Opt (List Step)) → isV c ≡ a → isH c ≡ b → Gives w v q → Gives (a ∷ w) (b ∷ v) (push c q)
unfolding Gives push bits
gives-push a b c w v none e f g = tt
gives-push a b c w v (some W) e f g = (ap (λ x. x ∷ w) (sym e) ∙ ap (λ x. isV c ∷ x) g.0, ap (λ x. x ∷ v) (sym f) ∙ ap (λ x. isH c ∷ x) g.1)

pub zip-gives : (w v : List Bool) → Gives w v (zip w v)
unfolding zip Gives bits isV isH
zip-gives [] [] = (refl, refl)
zip-gives [] (b ∷ v) = tt
zip-gives (true ∷ w) [] = tt
zip-gives (false ∷ w) [] = tt
zip-gives (true ∷ w) (true ∷ v) = tt
zip-gives (true ∷ w) (false ∷ v) = gives-push true false V w v (zip w v) refl refl (zip-gives w v)
zip-gives (false ∷ w) (true ∷ v) = gives-push false true H w v (zip w v) refl refl (zip-gives w v)
zip-gives (false ∷ w) (false ∷ v) = gives-push false false D w v (zip w v) refl refl (zip-gives w v)

-- both sides absorbed: the letters that meet are H V or V H
pub record Split (i : ℕ) (T : List Step) : Type 0 where
  pub u : List Step
  pub r : List Step
  pub a : Step
  pub b : Step
  pub eq : T ≡ u ++ (a ∷ (b ∷ r))
  pub pos : i ≡ suc (len u)
  pub hv : ((a ≡ H) × (b ≡ V)) ⊎ ((a ≡ V) × (b ≡ H))

pub both : (i : ℕ) (T : List Step) → absd i (bits isV T) ≡ true → absd i (bits isH T) ≡ true → Split i T
unfolding absd bits isV isH len
both zero [] e f = absd-true (sym e)
both zero (H ∷ T) e f = absd-true (sym e)
both zero (V ∷ T) e f = absd-true (sym f)
both zero (D ∷ T) e f = absd-true (sym e)
both (suc i) [] e f = absd-true (sym e)
both (suc zero) (H ∷ []) e f = absd-true (sym e)
both (suc zero) (V ∷ []) e f = absd-true (sym f)
both (suc zero) (D ∷ []) e f = absd-true (sym e)
both (suc zero) (H ∷ (H ∷ T)) e f = absd-true (sym e)
both (suc zero) (H ∷ (V ∷ T)) e f = record { u = []; r = T; a = H; b = V; eq = refl; pos = refl; hv = inl (refl, refl) }
both (suc zero) (H ∷ (D ∷ T)) e f = absd-true (sym e)
both (suc zero) (V ∷ (H ∷ T)) e f = record { u = []; r = T; a = V; b = H; eq = refl; pos = refl; hv = inr (refl, refl) }
both (suc zero) (V ∷ (V ∷ T)) e f = absd-true (sym f)
both (suc zero) (V ∷ (D ∷ T)) e f = absd-true (sym f)
both (suc zero) (D ∷ (H ∷ T)) e f = absd-true (sym e)
both (suc zero) (D ∷ (V ∷ T)) e f = absd-true (sym f)
both (suc zero) (D ∷ (D ∷ T)) e f = absd-true (sym e)
both (suc (suc i)) (c ∷ T) e f =
    let s : Split (suc i) T = both (suc i) T e f in
    record { u = c ∷ s.u; r = s.r; a = s.a; b = s.b; eq = ap (λ x. c ∷ x) s.eq; pos = ap suc s.pos; hv = s.hv }

-- place of the first D or VH
unfoldable pub ev : List Step → ℕ
ev [] = zero
ev (D ∷ w) = zero
ev (H ∷ w) = suc (ev w)
ev (V ∷ []) = zero
ev (V ∷ (H ∷ w)) = zero
ev (V ∷ (V ∷ w)) = suc (ev (V ∷ w))
ev (V ∷ (D ∷ w)) = suc zero

pub ev-D : (u r : List Step) → crit u ≡ true → ev (u ++ (D ∷ r)) ≡ len u
unfolding ev crit len
ev-D [] r e = refl
ev-D (D ∷ u) r e = absd-true (sym e)
ev-D (H ∷ u) r e = ap suc (ev-D u r e)
ev-D (V ∷ []) r e = refl
ev-D (V ∷ (H ∷ u)) r e = absd-true (sym e)
ev-D (V ∷ (D ∷ u)) r e = absd-true (sym e)
ev-D (V ∷ (V ∷ u)) r e = ap suc (ev-D (V ∷ u) r e)

-- a source is u D r, with nothing in u
pub record Source (W : List Step) : Type 0 where
  pub u : List Step
  pub r : List Step
  pub eq : W ≡ u ++ (D ∷ r)
  pub quiet : crit u ≡ true

pub source-more : (u r W : List Step) → V ∷ W ≡ u ++ (D ∷ r) → crit u ≡ true → Source (V ∷ (V ∷ W))
unfolding crit
source-more [] r W e q = absurd (cc)
source-more (H ∷ u) r W e q = absurd (cc)
source-more (D ∷ u) r W e q = absurd (cc)
source-more (V ∷ u) r W e q = record { u = V ∷ (V ∷ u); r = r; eq = ap (λ x. V ∷ x) e; quiet = q }

pub source : (W : List Step) → src W ≡ true → Source W
unfolding src crit
source [] e = absd-true (sym e)
source (D ∷ W) e = record { u = []; r = W; eq = refl; quiet = refl }
source (H ∷ W) e = let s : Source W = source W e in record { u = H ∷ s.u; r = s.r; eq = ap (λ x. H ∷ x) s.eq; quiet = s.quiet }
source (V ∷ []) e = absd-true (sym e)
source (V ∷ (H ∷ W)) e = absd-true (sym e)
source (V ∷ (D ∷ W)) e = record { u = V ∷ []; r = W; eq = refl; quiet = refl }
source (V ∷ (V ∷ W)) e = let s : Source (V ∷ W) = source (V ∷ W) e in source-more s.u s.r W s.eq s.quiet

-- the match of a source is no source
pub src-VH : (u r : List Step) → crit u ≡ true → src (u ++ (V ∷ (H ∷ r))) ≡ false
unfolding src crit
src-VH [] r e = refl
src-VH (D ∷ u) r e = absd-true (sym e)
src-VH (H ∷ u) r e = src-VH u r e
src-VH (V ∷ []) r e = refl
src-VH (V ∷ (H ∷ u)) r e = absd-true (sym e)
src-VH (V ∷ (D ∷ u)) r e = absd-true (sym e)
src-VH (V ∷ (V ∷ u)) r e = src-VH (V ∷ u) r e

pub len-app : {A : Type 0} (u v : List A) → len (u ++ v) ≡ len u + len v
unfolding len
len-app [] v = omega arith
len-app (c ∷ u) v = omega (arith, len-app u v)

-- pairs H before V, and their bound
unfoldable pub vs : List Step → ℕ
vs [] = 0
vs (H ∷ w) = vs w
vs (V ∷ w) = suc (vs w)
vs (D ∷ w) = vs w

unfoldable pub hv : List Step → ℕ
hv [] = 0
hv (H ∷ w) = hv w + vs w
hv (V ∷ w) = hv w
hv (D ∷ w) = hv w

unfoldable pub tri : ℕ → ℕ
tri zero = 0
tri (suc n) = tri n + n

pub vs-le : (w : List Step) → vs w ≤ len w
unfolding vs len
vs-le [] = omega arith
vs-le (H ∷ w) = omega (arith, vs-le w)
vs-le (V ∷ w) = omega (arith, vs-le w)
vs-le (D ∷ w) = omega (arith, vs-le w)

pub hv-le : (w : List Step) → hv w ≤ tri (len w)
unfolding hv len tri
hv-le [] = omega arith
hv-le (H ∷ w) = omega (arith, hv-le w, vs-le w)
hv-le (V ∷ w) = omega (arith, hv-le w)
hv-le (D ∷ w) = omega (arith, hv-le w)

pub vs-swap : (u r : List Step) → vs (u ++ (V ∷ (H ∷ r))) ≡ vs (u ++ (H ∷ (V ∷ r)))
unfolding vs
vs-swap [] r = refl
vs-swap (H ∷ u) r = vs-swap u r
vs-swap (V ∷ u) r = ap suc (vs-swap u r)
vs-swap (D ∷ u) r = vs-swap u r

pub hv-swap : (u r : List Step) → suc (hv (u ++ (V ∷ (H ∷ r)))) ≡ hv (u ++ (H ∷ (V ∷ r)))
unfolding hv vs
hv-swap [] r = omega arith
hv-swap (H ∷ u) r = omega (arith, hv-swap u r, vs-swap u r)
hv-swap (V ∷ u) r = hv-swap u r
hv-swap (D ∷ u) r = hv-swap u r

-- dimension first, then the pairs
unfoldable pub rk : ℕ → ℕ → ℕ
rk zero b = 0
rk (suc x) b = suc (rk x b + b)

pub rk-less : (b x y : ℕ) → x < y → rk x b + b < rk y b
unfolding rk
rk-less b x zero l = absurd (omega (arith, l))
rk-less b zero (suc y) l = omega arith
rk-less b (suc x) (suc y) l = omega (arith, rk-less b x y (omega (arith, l)))

-- words without D
unfoldable pub noD : List Step → Bool
noD [] = true
noD (H ∷ w) = noD w
noD (V ∷ w) = noD w
noD (D ∷ w) = false

pub noD-src : (w : List Step) → noD w ≡ true → src w ≡ false
unfolding noD src
noD-src [] e = refl
noD-src (D ∷ w) e = absd-true (sym e)
noD-src (H ∷ w) e = noD-src w e
noD-src (V ∷ []) e = refl
noD-src (V ∷ (H ∷ w)) e = refl
noD-src (V ∷ (D ∷ w)) e = absd-true (sym e)
noD-src (V ∷ (V ∷ w)) e = noD-src (V ∷ w) e

pub noD-compl : (w : List Step) → noD w ≡ true → bits isH w ≡ compl (bits isV w)
unfolding noD bits compl isV isH
noD-compl [] e = refl
noD-compl (H ∷ w) e = ap (λ x. true ∷ x) (noD-compl w e)
noD-compl (V ∷ w) e = ap (λ x. false ∷ x) (noD-compl w e)
noD-compl (D ∷ w) e = absd-true (sym e)

-- words above complementary words have no D
pub above-noD : (u : List Bool) (W : List Step) → Above u (bits isV W) → Above (compl u) (bits isH W) → noD W ≡ true
unfolding Above compl bits isV isH noD
above-noD [] [] a b = refl
above-noD [] (c ∷ W) a b = absurd a
above-noD (true ∷ u) [] a b = absurd a
above-noD (false ∷ u) [] a b = absurd a
above-noD (true ∷ u) (H ∷ W) a b = absd-true (sym a.0)
above-noD (true ∷ u) (V ∷ W) a b = above-noD u W a.1 b
above-noD (true ∷ u) (D ∷ W) a b = absd-true (sym a.0)
above-noD (false ∷ u) (H ∷ W) a b = above-noD u W a b.1
above-noD (false ∷ u) (V ∷ W) a b = absd-true (sym b.0)
above-noD (false ∷ u) (D ∷ W) a b = absd-true (sym b.0)
