-- Pairs of simplices as words of steps and two cells, and their boundary.
use Rattle.std.proofs.Common.{◌≡◌, ℕ, zero, suc, ◌+◌, ◌-◌, ◌<◌, ◌≤◌, List, [], ◌∷◌, Bool, true, false, not, ◌&&◌, ◌||◌, inl, inr, refl, sym, ◌∙◌, ap, subst, arith, true≢false}
use Rattle.fp_field.specs.Field.{sign}
use Rattle.fp_field.specs.Chains.{Terms, Each}
use Rattle.fp_field.proofs.Weights.{Each-append}
use Rattle.simp_ops.specs.PathWords.{Step, left as H, right as V, both as D, step, path_word}
use Rattle.spaces.specs.Simplicial.{some_below, has_degeneracy}
use Rattle.spaces.specs.Orders.{Ordered}
use Rattle.spaces.specs.EilenbergZilber.{Linear, linear, Pair, is_pair_cell, first_faces, pair_d}
use Rattle.ez_laws.specs.Weights.{SameWeights}
use Rattle.ez_laws.specs.Sides.{IsLeft, IsRight}
use Rattle.ez_laws.specs.Complexes.{IsPair}
use Rattle.ez_laws.proofs.WordFaces.{len, isV, isH, bits, len-bits}
use Rattle.ez_laws.proofs.WordRanks.{fls, Opt, none, some, zip, zip-bits}
use Rattle.ez_laws.proofs.WordPlaces.{at, common-none}
use Rattle.ez_laws.proofs.Functionals.{Coefficients, Ch}
use Rattle.ez_laws.proofs.ChainLaws.{o, add, eta, lin, sg, tot, comm, lin-eta, lin-id, lin-lin, lin-on}
use Rattle.ez_laws.proofs.PairFaces.{LeftSystem, RightSystem, K as Key, P as Two, raw, nu, nu-raw, pf, kf, Ok}
use Rattle.ez_laws.proofs.PairComplex as PC
use Rattle.ez_laws.proofs.Values.{field, val, same-val, all-val, lin-keep, lin-moved, lin-append, lin-nil, moved_terms}
use Rattle.ez_laws.proofs.Eaches.{each-so, each-keep}
use Rattle.ez_laws.proofs.LeftSystems.{simplex, simplex-in, nf, nf_chain, nf-valid, nf-at, nf-simplex, sface-nf, left_system}
use Rattle.ez_laws.proofs.SimplicialSides.{as_left, right_system, right-face-nf}

-- ---- words and places

pub words-same : (u w : List Bool) → len u ≡ len w → ((t : ℕ) → t < len w → at t u ≡ at t w) → u ≡ w
unfolding len at
words-same [] [] l h = refl
words-same [] (b ∷ w) l h = absurd (omega (arith, l))
words-same (a ∷ u) [] l h = absurd (omega (arith, l))
words-same (a ∷ u) (b ∷ w) l h = λ i. h zero (omega arith) i ∷ words-same u w (omega (arith, l)) (λ t b. h (suc t) (omega (arith, b))) i

pub len-path : (n j : ℕ) (l r : ℕ → Bool) → len (path_word n j l r) ≡ n
unfolding len
len-path zero j l r = refl
len-path (suc n) j l r = ap suc (len-path n (suc j) l r)

pub at-path : (f : Step → Bool) (n j t : ℕ) (l r : ℕ → Bool) → t < n → at t (bits f (path_word n j l r)) ≡ f (step (l (j + t)) (r (j + t)))
unfolding at bits
at-path f zero j t l r b = absurd (omega (arith, b))
at-path f (suc n) j zero l r b = ap (λ i. f (step (l i) (r i))) (let q : j ≡ j + 0 = omega arith in q)
at-path f (suc n) j (suc t) l r b = at-path f n (suc j) t l r (omega (arith, b)) ∙ ap (λ i. f (step (l i) (r i))) (let q : suc j + t ≡ j + suc t = omega arith in q)

pub isV-step : (a b : Bool) → isV (step a b) ≡ a
unfolding isV
isV-step true b = refl
isV-step false true = refl
isV-step false false = refl

pub isH-step : (a b : Bool) → (a && b) ≡ false → isH (step a b) ≡ b
unfolding isH
isH-step true true e = absurd (true≢false e)
isH-step true false e = refl
isH-step false true e = refl
isH-step false false e = refl

-- ---- a test on the places below n

or_false : (a b : Bool) → a || b ≡ false → (a ≡ false) × (b ≡ false)
or_false true b e = absurd (true≢false e)
or_false false b e = (refl, e)

pub none-below : (n : ℕ) (t : ℕ → Bool) → some_below n t ≡ false → (j : ℕ) → j < n → t j ≡ false
none-below zero t h j l = absurd (omega (arith, l))
none-below (suc n) t h j l = elim (PC.dec j n) as (λ q. t j ≡ false)
    [ inl q ↦ ap t q ∙ (or_false (some_below n t) (t n) h).1 | inr q ↦ none-below n t (or_false (some_below n t) (t n) h).0 j (omega (arith, l, q)) ]

pub found-below : (n : ℕ) (t : ℕ → Bool) → some_below n t ≡ true → (j : ℕ) × (j < n) × (t j ≡ true)
found-below zero t h = absurd (true≢false (sym h))
found-below (suc n) t h = elim (Rattle.ez_laws.proofs.Matches.two (t n)) as (λ q. (j : ℕ) × (j < suc n) × (t j ≡ true)) [
  | inl q ↦ (n, omega arith, q)
  | inr q ↦ (let r = found-below n t (no_second (some_below n t) (t n) q h) in (r.0, omega (arith, r.1), r.2))
]
  where
    no_second : (a b : Bool) → b ≡ false → a || b ≡ true → a ≡ true
    no_second true b e g = refl
    no_second false b e g = absurd (true≢false (sym g ∙ e))

pub none-so : (n : ℕ) (t : ℕ → Bool) → ((j : ℕ) → j < n → t j ≡ false) → some_below n t ≡ false
none-so zero t h = refl
none-so (suc n) t h = ap (λ b. b || t n) (none-so n t (λ j l. h j (omega (arith, l)))) ∙ h n (omega arith)

pub not_true : (b : Bool) → not b ≡ true → b ≡ false
not_true true e = absurd (true≢false (sym e))
not_true false e = refl

pub not_false : (b : Bool) → not b ≡ false → b ≡ true
not_false true e = refl
not_false false e = absurd (true≢false e)

and_parts : (a b : Bool) → (a && b) ≡ true → (a ≡ true) × (b ≡ true)
and_parts true b e = (refl, e)
and_parts false b e = absurd (true≢false (sym e))

module _ (p : ℕ) (pos : 0 < p) {K J : Type 0} (L : Linear K) (In : ℕ → K → Type 0) (R : Ordered J) (left : IsLeft p L In) (right : IsRight R) where
  abbrev pub S : Coefficients
  S = field p pos

  abbrev pub A : LeftSystem S
  A = left_system p pos L In left

  abbrev pub B : RightSystem
  B = right_system p pos R right

  abbrev pub KK : Type 0
  KK = Key S A B

  abbrev pub nfl : ℕ → K → List Bool × A.X
  nfl n x = nf p pos L In left n x

  abbrev pub nfr : ℕ → J → List Bool × B.X
  nfr n y = nf p pos (linear R) R.set.In (as_left p pos R right) n y

  abbrev pub simplex_l : List Bool × A.X → K
  simplex_l s = simplex p pos L In left s

  abbrev pub simplex_r : List Bool × B.X → J
  simplex_r s = simplex p pos (linear R) R.set.In (as_left p pos R right) s

  pub nfl-ok : (n : ℕ) (x : K) → In n x → (len (nfl n x).0 ≡ n) × (fls (nfl n x).0 ≡ A.dim (nfl n x).1) × A.Is (nfl n x).1 × (simplex_l (nfl n x) ≡ x)
  nfl-ok n x i = let r = nf-valid p pos L In left n x i in (r.0.0, r.0.1, r.0.2, r.1)

  pub nfr-ok : (n : ℕ) (y : J) → R.set.In n y → (len (nfr n y).0 ≡ n) × (fls (nfr n y).0 ≡ B.dim (nfr n y).1) × B.Is (nfr n y).1 × (simplex_r (nfr n y) ≡ y)
  nfr-ok n y i = let r = nf-valid p pos (linear R) R.set.In (as_left p pos R right) n y i in (r.0.0, r.0.1, r.0.2, r.1)

  abbrev pub Simplices : Pair K J → Type 0
  Simplices s = In s.0 s.1 × R.set.In s.0 s.2

  abbrev pub steps : Pair K J → List Step
  steps s = path_word s.0 0 (λ j. L.has_degeneracy j s.1) (λ j. has_degeneracy R.set j s.2)

  abbrev pub key : Pair K J → KK
  key s = (steps s, (nfl s.0 s.1).1, (nfr s.0 s.2).1)

  abbrev pub two : Pair K J → Two S A B
  two s = (nfl s.0 s.1, nfr s.0 s.2)

  -- a pair of simplices as a chain of keys, 0 where it is degenerate
  abbrev pub keys : Pair K J → Ch S KK
  keys s = nu S A B (two s)

  nfr-at : (n t : ℕ) (y : J) → R.set.In n y → t < n → at t (nfr n y).0 ≡ has_degeneracy R.set t y
  nfr-at n t y i l = nf-at p pos (linear R) R.set.In (as_left p pos R right) n t y i l

  pub keys-none : (s : Pair K J) → Simplices s → is_pair_cell p L R s ≡ false → keys s ≡ o S
  keys-none s i h =
      let r = found-below s.0 (λ j. L.has_degeneracy j s.1 && has_degeneracy R.set j s.2) (not_false (some_below s.0 (λ j. L.has_degeneracy j s.1 && has_degeneracy R.set j s.2)) h) in
      let q = and_parts (L.has_degeneracy r.0 s.1) (has_degeneracy R.set r.0 s.2) r.2 in
      PC.nu-none S A B (two s) (common-none r.0 (nfl s.0 s.1).0 (nfr s.0 s.2).0 (nf-at p pos L In left s.0 r.0 s.1 i.0 r.1 ∙ q.0) (nfr-at s.0 r.0 s.2 i.1 r.1 ∙ q.1))

  pub raw-key : (s : Pair K J) → IsPair p L In R s → raw S A B (key s) ≡ two s
  raw-key s i =
      let z : (t : ℕ) → t < s.0 → (L.has_degeneracy t s.1 && has_degeneracy R.set t s.2) ≡ false
      = none-below s.0 (λ j. L.has_degeneracy j s.1 && has_degeneracy R.set j s.2) (not_true (some_below s.0 (λ j. L.has_degeneracy j s.1 && has_degeneracy R.set j s.2)) i.2) in
      let a = nfl-ok s.0 s.1 i.0 in
      let b = nfr-ok s.0 s.2 i.1 in
      let l : ℕ → Bool = λ j. L.has_degeneracy j s.1 in
      let r : ℕ → Bool = λ j. has_degeneracy R.set j s.2 in
      let zero_plus : (t : ℕ) → 0 + t ≡ t = λ t. omega arith in
      let e1 : bits isV (steps s) ≡ (nfl s.0 s.1).0
      = words-same (bits isV (steps s)) (nfl s.0 s.1).0 (len-bits isV (steps s) ∙ (len-path s.0 0 l r ∙ sym a.0))
      (λ t u. let v : t < s.0 = omega (arith, u, a.0) in
      at-path isV s.0 0 t l r v ∙ (isV-step (l (0 + t)) (r (0 + t)) ∙ (ap l (zero_plus t) ∙ sym (nf-at p pos L In left s.0 t s.1 i.0 v)))) in
      let e2 : bits isH (steps s) ≡ (nfr s.0 s.2).0
      = words-same (bits isH (steps s)) (nfr s.0 s.2).0 (len-bits isH (steps s) ∙ (len-path s.0 0 l r ∙ sym b.0))
      (λ t u. let v : t < s.0 = omega (arith, u, b.0) in
      at-path isH s.0 0 t l r v ∙ (isH-step (l (0 + t)) (r (0 + t)) (ap (λ j. l j && r j) (zero_plus t) ∙ z t v) ∙ (ap r (zero_plus t) ∙ sym (nfr-at s.0 t s.2 i.1 v)))) in
      λ i. ((e1 i, (nfl s.0 s.1).1), (e2 i, (nfr s.0 s.2).1))

  pub keys-key : (s : Pair K J) → IsPair p L In R s → keys s ≡ eta S (key s)
  keys-key s i = ap (nu S A B) (sym (raw-key s i)) ∙ nu-raw S A B (key s)

  pub key-len : (s : Pair K J) → len (key s).0 ≡ s.0
  key-len s = len-path s.0 0 (λ j. L.has_degeneracy j s.1) (λ j. has_degeneracy R.set j s.2)

  pub key-ok : (s : Pair K J) → IsPair p L In R s → Ok S A B (key s)
  key-ok s i =
      let a = nfl-ok s.0 s.1 i.0 in
      let b = nfr-ok s.0 s.2 i.1 in
      let e = raw-key s i in
      (ap (λ q. fls q.0.0) e ∙ a.1, ap (λ q. fls q.1.0) e ∙ b.1, a.2, b.2)

  -- the way back
  abbrev pub unkey : KK → Pair K J
  unkey k = (len k.0, simplex_l (bits isV k.0, k.1), simplex_r (bits isH k.0, k.2))

  pub unkey-key : (s : Pair K J) → IsPair p L In R s → unkey (key s) ≡ s
  unkey-key s i =
      let a = nfl-ok s.0 s.1 i.0 in
      let b = nfr-ok s.0 s.2 i.1 in
      let e = raw-key s i in
      let e1 : simplex_l (bits isV (steps s), (nfl s.0 s.1).1) ≡ s.1 = ap (λ q. simplex_l q.0) e ∙ a.3 in
      let e2 : simplex_r (bits isH (steps s), (nfr s.0 s.2).1) ≡ s.2 = ap (λ q. simplex_r q.1) e ∙ b.3 in
      let e0 : len (steps s) ≡ s.0 = key-len s in
      λ i. (e0 i, e1 i, e2 i)

  pub back-again : (c : Terms (Pair K J)) → Each (IsPair p L In R) c → lin S (λ k. eta S (unkey k)) (lin S keys (val p pos c)) ≡ val p pos c
  back-again c h =
      lin-lin S keys (λ k. eta S (unkey k)) (val p pos c)
      ∙ lin-on S (IsPair p L In R) (λ s. lin S (λ k. eta S (unkey k)) (keys s)) (eta S) (val p pos c) (all-val p pos (IsPair p L In R) c h)
      (λ s i. ap (lin S (λ k. eta S (unkey k))) (keys-key s i) ∙ (lin-eta S (λ k. eta S (unkey k)) (key s) ∙ ap (eta S) (unkey-key s i)))
      ∙ lin-id S (val p pos c)

  -- chains of pairs that have the same keys are the same
  pub pairs-same : (c d : Terms (Pair K J)) → Each (IsPair p L In R) c → Each (IsPair p L In R) d → lin S keys (val p pos c) ≡ lin S keys (val p pos d) → SameWeights p c d
  pairs-same c d g h e = same-val p pos c d (sym (back-again c g) ∙ ap (lin S (λ k. eta S (unkey k))) e ∙ back-again d h)

  -- ---- the boundary

  pub face-keys : (i n : ℕ) (x : K) (y : J) → In (suc n) x → R.set.In (suc n) y
      → lin S (nu S A B) (pf S A B i (nfl (suc n) x, nfr (suc n) y)) ≡ lin S (λ t. keys (n, t, R.set.face i y)) (val p pos (L.faces (suc n) i x))
  unfolding pf
  face-keys i n x y ix iy =
      let b : List Bool × B.X = nfr n (R.set.face i y) in
      let c : Ch S K = val p pos (L.faces (suc n) i x) in
      ap (λ q. lin S (nu S A B) (lin S (λ z. eta S (z, q)) (A.face i (nfl (suc n) x)))) (right-face-nf p pos R right i n y iy)
      ∙ ap (λ q. lin S (nu S A B) (lin S (λ z. eta S (z, b)) q)) (sface-nf p pos L In left i n x ix)
      ∙ ap (lin S (nu S A B)) (lin-lin S (nf_chain p pos L In left n) (λ z. eta S (z, b)) c)
      ∙ lin-lin S (λ t. lin S (λ z. eta S (z, b)) (eta S (nfl n t))) (nu S A B) c
      ∙ ap (λ (U : K → Ch S KK). lin S U c) (λ j t. (ap (lin S (nu S A B)) (lin-eta S (λ z. eta S (z, b)) (nfl n t)) ∙ lin-eta S (nu S A B) (nfl n t, b)) j)

  pub faces-keys : (m n : ℕ) (x : K) (y : J) → In (suc n) x → R.set.In (suc n) y
      → lin S keys (val p pos (first_faces p L R m (suc n, x, y))) ≡ tot S m (λ i. sg S i (lin S (nu S A B) (pf S A B i (nfl (suc n) x, nfr (suc n) y))))
  unfolding tot
  faces-keys zero n x y ix iy = lin-nil p pos keys
  faces-keys (suc m) n x y ix iy =
      let g : K → Pair K J = λ t. (suc n - 1, t, R.set.face m y) in
      let f : ℕ → Ch S KK = λ i. sg S i (lin S (nu S A B) (pf S A B i (nfl (suc n) x, nfr (suc n) y))) in
      let q : suc n - 1 ≡ n = omega arith in
      lin-append p pos keys (moved_terms p pos g (sign p m) (L.faces (suc n) m x)) (first_faces p L R m (suc n, x, y))
      ∙ ap (λ v. add S v (lin S keys (val p pos (first_faces p L R m (suc n, x, y)))))
      (lin-moved p pos keys g m (L.faces (suc n) m x)
      ∙ ap (sg S m) (ap (λ i. lin S (λ t. keys (i, t, R.set.face m y)) (val p pos (L.faces (suc n) m x))) q ∙ sym (face-keys m n x y ix iy)))
      ∙ ap (add S (f m)) (faces-keys m n x y ix iy)
      ∙ comm S (f m) (tot S m f)

  pub faces-simplices : (m n : ℕ) (x : K) (y : J) → m ≤ suc (suc n) → In (suc n) x → R.set.In (suc n) y → Each (λ s. (s.0 ≡ n) × Simplices s) (first_faces p L R m (suc n, x, y))
  faces-simplices zero n x y l ix iy = tt
  faces-simplices (suc m) n x y l ix iy =
      Each-append (λ s. (s.0 ≡ n) × Simplices s) (moved_terms p pos (λ t. (suc n - 1, t, R.set.face m y)) (sign p m) (L.faces (suc n) m x)) (first_faces p L R m (suc n, x, y))
      (each_moved (L.faces (suc n) m x) (left.faces_in n m x ix (omega (arith, l)))) (faces-simplices m n x y (omega (arith, l)) ix iy)
    where
      q : suc n - 1 ≡ n
      q = omega arith

      each_moved : (c : Terms K) → Each (In n) c → Each (λ s. (s.0 ≡ n) × Simplices s) (moved_terms p pos (λ t. (suc n - 1, t, R.set.face m y)) (sign p m) c)
      each_moved [] h = tt
      each_moved (t ∷ c) h =
          ((q, (subst (λ i. In i t.0) (sym q) h.0, subst (λ i. R.set.In i (R.set.face m y)) (sym q) (right.simplicial.face_in n m y iy (omega (arith, l))))), each_moved c h.1)

  -- the boundary is the boundary
  pub d-keys : (s : Pair K J) → IsPair p L In R s → lin S keys (val p pos (pair_d p L R s)) ≡ PC.d S A B (key s)
  unfolding PC.d PC.dk kf
  d-keys (zero, x, y) i = lin-nil p pos keys ∙ sym (PC.d-zero S A B (key (zero, x, y)) (key-len (zero, x, y)))
  d-keys (suc n, x, y) i =
      let s : Pair K J = (suc n, x, y) in
      lin-keep p pos (λ s. (s.0 ≡ n) × Simplices s) keys (is_pair_cell p L R) (λ t v h. keys-none t v.1 h) (first_faces p L R (suc (suc n)) s)
      (faces-simplices (suc (suc n)) n x y (omega arith) i.0 i.1)
      ∙ faces-keys (suc (suc n)) n x y i.0 i.1
      ∙ ap (λ q. tot S (suc (suc n)) (λ i. sg S i (lin S (nu S A B) (pf S A B i q)))) (sym (raw-key s i))
      ∙ ap (λ t. PC.dk S A B t (key s)) (sym (key-len s))

  pub d-pairs : (n : ℕ) (s : Pair K J) → s.0 ≡ suc n → IsPair p L In R s → Each (λ t. (t.0 ≡ n) × IsPair p L In R t) (pair_d p L R s)
  d-pairs n (zero, x, y) e i = tt
  d-pairs n (suc m, x, y) e i =
      let l : m ≡ n = omega (arith, e) in
      each-so (pair_d p L R (suc m, x, y)) (λ t h. (h.0.0 ∙ l, (h.0.1.0, h.0.1.1, h.1)))
      (each-keep (λ s. (s.0 ≡ m) × Simplices s) (is_pair_cell p L R) (first_faces p L R (suc (suc m)) (suc m, x, y)) (faces-simplices (suc (suc m)) m x y (omega arith) i.0 i.1))

  -- ---- the pair of a key

  not-both : (t : ℕ) (w : List Step) → (at t (bits isV w) && at t (bits isH w)) ≡ false
  unfolding at bits isV isH
  not-both t [] = refl
  not-both zero (H ∷ w) = refl
  not-both zero (V ∷ w) = refl
  not-both zero (D ∷ w) = refl
  not-both (suc t) (s ∷ w) = not-both t w

  pub nfl-simplex : (k : KK) → Ok S A B k → nfl (len k.0) (simplex_l (bits isV k.0, k.1)) ≡ (bits isV k.0, k.1)
  nfl-simplex k ok = nf-simplex p pos L In left (len k.0) (bits isV k.0, k.1) (len-bits isV k.0, ok.0, ok.2)

  pub nfr-simplex : (k : KK) → Ok S A B k → nfr (len k.0) (simplex_r (bits isH k.0, k.2)) ≡ (bits isH k.0, k.2)
  nfr-simplex k ok = nf-simplex p pos (linear R) R.set.In (as_left p pos R right) (len k.0) (bits isH k.0, k.2) (len-bits isH k.0, ok.1, ok.3)

  pub two-unkey : (k : KK) → Ok S A B k → two (unkey k) ≡ raw S A B k
  two-unkey k ok = λ i. (nfl-simplex k ok i, nfr-simplex k ok i)

  pub keys-unkey : (k : KK) → Ok S A B k → keys (unkey k) ≡ eta S k
  keys-unkey k ok = ap (nu S A B) (two-unkey k ok) ∙ nu-raw S A B k

  pub unkey-pair : (k : KK) → Ok S A B k → IsPair p L In R (unkey k)
  unkey-pair k ok =
      let il : In (len k.0) (simplex_l (bits isV k.0, k.1)) = simplex-in p pos L In left (len k.0) (bits isV k.0, k.1) (len-bits isV k.0, ok.0, ok.2) in
      let ir : R.set.In (len k.0) (simplex_r (bits isH k.0, k.2)) = simplex-in p pos (linear R) R.set.In (as_left p pos R right) (len k.0) (bits isH k.0, k.2) (len-bits isH k.0, ok.1, ok.3) in
      let none : (t : ℕ) → t < len k.0 → (L.has_degeneracy t (unkey k).1 && has_degeneracy R.set t (unkey k).2) ≡ false
      = λ t l. ap (λ b. b && has_degeneracy R.set t (unkey k).2) (sym (nf-at p pos L In left (len k.0) t (unkey k).1 il l) ∙ ap (λ q. at t q.0) (nfl-simplex k ok))
      ∙ (ap (λ b. at t (bits isV k.0) && b) (sym (nfr-at (len k.0) t (unkey k).2 ir l) ∙ ap (λ q. at t q.0) (nfr-simplex k ok)) ∙ not-both t k.0) in
      (il, ir, ap not (none-so (len k.0) (λ j. L.has_degeneracy j (unkey k).1 && has_degeneracy R.set j (unkey k).2) none))

  -- the key of the pair of a key
  letters-same : (u w : List Step) → bits isV u ≡ bits isV w → bits isH u ≡ bits isH w → u ≡ w
  letters-same u w e f = some_inj (sym (zip-bits u) ∙ (λ i. zip (e i) (f i)) ∙ zip-bits w)
    where
      word_or : Opt (List Step) → List Step
      word_or none = u
      word_or (some x) = x

      some_inj : some u ≡ some w → u ≡ w
      some_inj q = ap word_or q

  pub key-unkey : (k : KK) → Ok S A B k → key (unkey k) ≡ k
  key-unkey k ok =
      let r : raw S A B (key (unkey k)) ≡ raw S A B k = raw-key (unkey k) (unkey-pair k ok) ∙ two-unkey k ok in
      let e0 : (key (unkey k)).0 ≡ k.0 = letters-same (key (unkey k)).0 k.0 (ap (λ q. q.0.0) r) (ap (λ q. q.1.0) r) in
      let e1 : (key (unkey k)).1 ≡ k.1 = ap (λ q. q.0.1) r in
      let e2 : (key (unkey k)).2 ≡ k.2 = ap (λ q. q.1.1) r in
      λ i. (e0 i, e1 i, e2 i)
