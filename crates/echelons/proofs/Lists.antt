-- Members of lists, lists in falling order, and the list of all vectors.
use Rattle.std.proofs.Common.{◌≡◌, ◌⊎◌, inl, inr, ℕ, zero, suc, ◌<◌, Bool, true, false, ◌&&◌, ◌||◌, cond, List, [], ◌∷◌, ◌++◌, map, length, refl, sym, ◌∙◌, ap, subst, arith}
use Rattle.std.proofs.lemmas.Bool.{false≢true, cases_eq, or_right}
use Rattle.std.proofs.lemmas.List.Elements.{All-nil, All-cons, All-head, All-tail}
use Rattle.std.specs.List.{AllByRecursion as Each, filter, list_all, list_any}
use Rattle.echelons.specs.Echelon.{Vector, IsVector, fronted, vectors, downwards}

-- x is an element of the list
abbrev pub Among : {A : Type 0} → A → List A → Type 0
Among x [] = ⊥
Among x (y ∷ ys) = (y ≡ x) ⊎ Among x ys

module _ {A : Type 0} where
  pub each-among : (P : A → Type 0) (xs : List A) (x : A) → Each P xs → Among x xs → P x
  each-among P [] x h m = absurd m
  each-among P (y ∷ ys) x h (inl e) = subst P e h.0
  each-among P (y ∷ ys) x h (inr m) = each-among P ys x h.1 m

  pub Each-from : (P : A → Type 0) (xs : List A) → ((x : A) → Among x xs → P x) → Each P xs
  Each-from P [] f = tt
  Each-from P (x ∷ xs) f = (f x (inl refl), Each-from P xs (λ y m. f y (inr m)))

  pub among-left : (xs ys : List A) (x : A) → Among x xs → Among x (xs ++ ys)
  among-left [] ys x m = absurd m
  among-left (y ∷ xs) ys x (inl e) = inl e
  among-left (y ∷ xs) ys x (inr m) = inr (among-left xs ys x m)

  pub among-right : (xs ys : List A) (x : A) → Among x ys → Among x (xs ++ ys)
  among-right [] ys x m = m
  among-right (y ∷ xs) ys x m = inr (among-right xs ys x m)

  pub among-append : (xs ys : List A) (x : A) → Among x (xs ++ ys) → Among x xs ⊎ Among x ys
  among-append [] ys x m = inr m
  among-append (y ∷ xs) ys x (inl e) = inl (inl e)
  among-append (y ∷ xs) ys x (inr m) = by (among-append xs ys x m)
    where
      by : Among x xs ⊎ Among x ys → Among x (y ∷ xs) ⊎ Among x ys
      by (inl h) = inl (inr h)
      by (inr h) = inr h

  pub among-filter : (t : A → Bool) (xs : List A) (x : A) → Among x xs → t x ≡ true → Among x (filter t xs)
  among-filter t [] x m e = m
  among-filter t (y ∷ xs) x (inl q) e = by (t y) (ap t q ∙ e)
    where
      by : (b : Bool) → b ≡ true → Among x (cond b (y ∷ filter t xs) (filter t xs))
      by true h = inl q
      by false h = absurd (false≢true h)
  among-filter t (y ∷ xs) x (inr m) e = by (t y) (among-filter t xs x m e)
    where
      by : (b : Bool) → Among x (filter t xs) → Among x (cond b (y ∷ filter t xs) (filter t xs))
      by true h = inr h
      by false h = h

  pub filter-among : (t : A → Bool) (xs : List A) (x : A) → Among x (filter t xs) → Among x xs × (t x ≡ true)
  filter-among t [] x m = absurd m
  filter-among t (y ∷ xs) x m = by (t y) refl m (filter-among t xs x)
    where
      by : (b : Bool) → t y ≡ b → Among x (cond b (y ∷ filter t xs) (filter t xs)) → (Among x (filter t xs) → Among x xs × (t x ≡ true)) → Among x (y ∷ xs) × (t x ≡ true)
      by true e (inl q) f = (inl q, ap t (sym q) ∙ e)
      by true e (inr h) f = let r = f h in (inr r.0, r.1)
      by false e h f = let r = f h in (inr r.0, r.1)

  pub any-from : (t : A → Bool) (xs : List A) → list_any t xs ≡ true → (x : A) × Among x xs × (t x ≡ true)
  any-from t [] e = absurd (false≢true e)
  any-from t (y ∷ xs) e = by (t y) refl e (any-from t xs)
    where
      by : (b : Bool) → t y ≡ b → b || list_any t xs ≡ true → (list_any t xs ≡ true → (x : A) × Among x xs × (t x ≡ true)) → (x : A) × Among x (y ∷ xs) × (t x ≡ true)
      by true q h f = (y, inl refl, q)
      by false q h f = let r = f h in (r.0, inr r.1, r.2)

  pub any-among : (t : A → Bool) (xs : List A) (x : A) → Among x xs → t x ≡ true → list_any t xs ≡ true
  any-among t [] x m e = absurd m
  any-among t (y ∷ xs) x (inl q) e = ap (λ b. b || list_any t xs) (ap t q ∙ e)
  any-among t (y ∷ xs) x (inr m) e = or_right (t y) (list_any t xs) (any-among t xs x m e)

  pub all-among : (t : A → Bool) (xs : List A) (x : A) → list_all t xs ≡ true → Among x xs → t x ≡ true
  all-among t [] x e m = absurd m
  all-among t (y ∷ xs) x e m = by (t y) refl e m (all-among t xs x)
    where
      by : (b : Bool) → t y ≡ b → b && list_all t xs ≡ true → Among x (y ∷ xs) → (list_all t xs ≡ true → Among x xs → t x ≡ true) → t x ≡ true
      by true q h (inl g) f = ap t (sym g) ∙ q
      by true q h (inr g) f = f h g
      by false q h g f = absurd (false≢true h)

  pub all-from : (t : A → Bool) (xs : List A) → ((x : A) → Among x xs → t x ≡ true) → list_all t xs ≡ true
  all-from t [] f = refl
  all-from t (y ∷ xs) f = ap (λ b. b && list_all t xs) (f y (inl refl)) ∙ all-from t xs (λ x m. f x (inr m))

  -- ---- falling order

  module _ (Above : A → A → Type 0) where
    abbrev pub Falling : List A → Type 0
    Falling [] = Unit {0}
    Falling (x ∷ xs) = Each (Above x) xs × Falling xs

    pub falling-append : (xs ys : List A) → Falling xs → Falling ys → ((x y : A) → Among x xs → Among y ys → Above x y) → Falling (xs ++ ys)
    falling-append [] ys g h f = h
    falling-append (x ∷ xs) ys g h f = (
      Each-from (Above x) (xs ++ ys) (λ y m. by y (among-append xs ys y m)),
      falling-append xs ys g.1 h (λ a b m k. f a b (inr m) k),
    )
      where
        by : (y : A) → Among y xs ⊎ Among y ys → Above x y
        by y (inl m) = each-among (Above x) xs y g.0 m
        by y (inr m) = f x y (inl refl) m

    pub falling-filter : (t : A → Bool) (xs : List A) → Falling xs → Falling (filter t xs)
    falling-filter t [] h = tt
    falling-filter t (x ∷ xs) h = by (t x) (falling-filter t xs h.1)
      where
        by : (b : Bool) → Falling (filter t xs) → Falling (cond b (x ∷ filter t xs) (filter t xs))
        by true r = (Each-from (Above x) (filter t xs) (λ y m. each-among (Above x) xs y h.0 (filter-among t xs y m).0), r)
        by false r = r

    module _ (chain : (x y z : A) → Above x y → Above y z → Above x z) (apart : (x : A) → Above x x → ⊥) where
      -- two falling lists with the same elements are equal
      pub same-members : (xs ys : List A) → Falling xs → Falling ys → ((x : A) → Among x xs → Among x ys) → ((x : A) → Among x ys → Among x xs) → xs ≡ ys
      same-members [] [] g h f k = refl
      same-members [] (y ∷ ys) g h f k = absurd (k y (inl refl))
      same-members (x ∷ xs) [] g h f k = absurd (f x (inl refl))
      same-members (x ∷ xs) (y ∷ ys) g h f k =
          let first : x ≡ y = heads (f x (inl refl)) (k y (inl refl)) in
          λ i. first i ∷ same-members xs ys g.1 h.1 (λ z m. down z m first (f z (inr m))) (λ z m. up z m first (k z (inr m))) i
        where
          heads : Among x (y ∷ ys) → Among y (x ∷ xs) → x ≡ y
          heads (inl e) m = sym e
          heads (inr m) (inl e) = e
          heads (inr m) (inr n) = absurd (apart x (chain x y x (each-among (Above x) xs y g.0 n) (each-among (Above y) ys x h.0 m)))

          down : (z : A) → Among z xs → x ≡ y → Among z (y ∷ ys) → Among z ys
          down z m e (inl q) = absurd (apart z (subst (λ a. Above a z) (e ∙ q) (each-among (Above x) xs z g.0 m)))
          down z m e (inr n) = n

          up : (z : A) → Among z ys → x ≡ y → Among z (x ∷ xs) → Among z xs
          up z m e (inl q) = absurd (apart z (subst (λ a. Above a z) (sym e ∙ q) (each-among (Above y) ys z h.0 m)))
          up z m e (inr n) = n

module _ {A B : Type 0} (f : A → B) where
  pub among-map : (xs : List A) (x : A) → Among x xs → Among (f x) (map f xs)
  among-map [] x m = m
  among-map (y ∷ xs) x (inl e) = inl (ap f e)
  among-map (y ∷ xs) x (inr m) = inr (among-map xs x m)

  pub map-among : (xs : List A) (y : B) → Among y (map f xs) → (x : A) × Among x xs × (f x ≡ y)
  map-among [] y m = absurd m
  map-among (x ∷ xs) y (inl e) = (x, inl refl, e)
  map-among (x ∷ xs) y (inr m) = let r = map-among xs y m in (r.0, inr r.1, r.2)

  pub falling-map : (P : A → A → Type 0) (Q : B → B → Type 0) → ((x y : A) → P x y → Q (f x) (f y)) → (xs : List A) → Falling P xs → Falling Q (map f xs)
  falling-map P Q g [] h = tt
  falling-map P Q g (x ∷ xs) h = (
    Each-from (Q (f x)) (map f xs)
        (λ y m. let r = map-among xs y m in subst (λ b. Q (f x) b) r.2 (g x r.0 (each-among (P x) xs r.0 h.0 r.1))),
    falling-map P Q g xs h.1,
  )

-- ---- the numbers below n

pub downwards-among : (n j : ℕ) → Among j (downwards n) → j < n
downwards-among zero j m = absurd m
downwards-among (suc n) j (inl e) = omega arith
downwards-among (suc n) j (inr m) = omega (arith, downwards-among n j m)

pub among-downwards : (n j : ℕ) → j < n → Among j (downwards n)
among-downwards zero j l = absurd (omega arith)
among-downwards (suc n) j l = by (cases_eq n j) (among-downwards n j)
  where
    by : (n ≡ j) ⊎ (n ≡ j → ⊥) → (j < n → Among j (downwards n)) → Among j (downwards (suc n))
    by (inl e) r = inl e
    by (inr d) r = inr (r (omega arith))

-- ---- all vectors

pub fronted-among : (n : ℕ) (vs : List Vector) (v : Vector) → Among v (fronted n vs) → (a : ℕ) × (u : Vector) × (a < n) × Among u vs × (a ∷ u ≡ v)
fronted-among zero vs v m = absurd m
fronted-among (suc n) vs v m = by (among-append (map (λ u. n ∷ u) vs) (fronted n vs) v m) (fronted-among n vs v)
  where
    by : Among v (map (λ u. n ∷ u) vs) ⊎ Among v (fronted n vs) → (Among v (fronted n vs) → (a : ℕ) × (u : Vector) × (a < n) × Among u vs × (a ∷ u ≡ v))
        → (a : ℕ) × (u : Vector) × (a < suc n) × Among u vs × (a ∷ u ≡ v)
    by (inl h) f = let r = map-among (λ u. n ∷ u) vs v h in (n, r.0, omega arith, r.1, r.2)
    by (inr h) f = let r = f h in (r.0, r.1, let l : r.0 < n = r.2 in omega arith, r.3, r.4)

pub among-fronted : (n : ℕ) (vs : List Vector) (a : ℕ) (u : Vector) → a < n → Among u vs → Among (a ∷ u) (fronted n vs)
among-fronted zero vs a u l m = absurd (omega arith)
among-fronted (suc n) vs a u l m = by (cases_eq n a) (λ k. among-fronted n vs a u k m)
  where
    by : (n ≡ a) ⊎ (n ≡ a → ⊥) → (a < n → Among (a ∷ u) (fronted n vs)) → Among (a ∷ u) (fronted (suc n) vs)
    by (inl e) f = among-left (map (λ v. n ∷ v) vs) (fronted n vs) (a ∷ u) (subst (λ b. Among (b ∷ u) (map (λ v. n ∷ v) vs)) e (among-map (λ v. n ∷ v) vs u m))
    by (inr d) f = among-right (map (λ v. n ∷ v) vs) (fronted n vs) (a ∷ u) (f (omega arith))

pub vectors-among : (p w : ℕ) (v : Vector) → Among v (vectors p w) → IsVector p w v
vectors-among p zero v (inl e) = subst (IsVector p zero) e (record { wide = refl; below = All-nil (λ a. a < p) })
vectors-among p zero v (inr m) = absurd m
vectors-among p (suc w) v m =
    let r = fronted-among p (vectors p w) v m in
    let h : IsVector p w r.1 = vectors-among p w r.1 r.3 in
    subst (IsVector p (suc w)) r.4 (record { wide = ap suc h.wide; below = All-cons (λ a. a < p) r.0 r.1 r.2 h.below })

pub among-vectors : (p w : ℕ) (v : Vector) → IsVector p w v → Among v (vectors p w)
among-vectors p zero [] h = inl refl
among-vectors p zero (a ∷ v) h = absurd (let e : suc (length v) ≡ 0 = h.wide in omega arith)
among-vectors p (suc w) [] h = absurd (let e : 0 ≡ suc w = h.wide in omega arith)
among-vectors p (suc w) (a ∷ v) h =
    among-fronted p (vectors p w) a v (All-head (λ b. b < p) a v h.below)
    (among-vectors p w v (record { wide = (let e : suc (length v) ≡ suc w = h.wide in omega arith); below = All-tail (λ b. b < p) a v h.below }))

-- the first entry in which they differ is larger
abbrev pub Larger : Vector → Vector → Type 0
Larger [] v = ⊥
Larger (a ∷ u) [] = ⊥
Larger (a ∷ u) (b ∷ v) = (b < a) ⊎ ((a ≡ b) × Larger u v)

pub Larger-chain : (u v x : Vector) → Larger u v → Larger v x → Larger u x
Larger-chain [] v x g h = absurd g
Larger-chain (a ∷ u) [] x g h = absurd g
Larger-chain (a ∷ u) (b ∷ v) [] g h = absurd h
Larger-chain (a ∷ u) (b ∷ v) (c ∷ x) (inl l) (inl k) = inl (omega arith)
Larger-chain (a ∷ u) (b ∷ v) (c ∷ x) (inl l) (inr k) = inl (let e : b ≡ c = k.0 in omega arith)
Larger-chain (a ∷ u) (b ∷ v) (c ∷ x) (inr l) (inl k) = inl (let e : a ≡ b = l.0 in omega arith)
Larger-chain (a ∷ u) (b ∷ v) (c ∷ x) (inr l) (inr k) = inr (l.0 ∙ k.0, Larger-chain u v x l.1 k.1)

pub Larger-apart : (u : Vector) → Larger u u → ⊥
Larger-apart [] h = h
Larger-apart (a ∷ u) (inl l) = omega arith
Larger-apart (a ∷ u) (inr h) = Larger-apart u h.1

pub fronted-falling : (n : ℕ) (vs : List Vector) → Falling Larger vs → Falling Larger (fronted n vs)
fronted-falling zero vs h = tt
fronted-falling (suc n) vs h =
    falling-append Larger (map (λ v. n ∷ v) vs) (fronted n vs) (falling-map (λ v. n ∷ v) Larger Larger (λ u v l. inr (refl, l)) vs h) (fronted-falling n vs h)
    (λ x y m k. let r = map-among (λ v. n ∷ v) vs x m in let s = fronted-among n vs y k in
    let l : s.0 < n = s.2 in
    subst (λ z. Larger z y) r.2 (subst (λ z. Larger (n ∷ r.0) z) s.4 (inl l)))

pub vectors-falling : (p w : ℕ) → Falling Larger (vectors p w)
vectors-falling p zero = (tt, tt)
vectors-falling p (suc w) = fronted-falling p (vectors p w) (vectors-falling p w)
