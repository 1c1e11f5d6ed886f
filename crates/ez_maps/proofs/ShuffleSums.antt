-- The sum over the shuffles, by their first steps.
use Rattle.std.proofs.Common.{◌≡◌, ℕ, zero, suc, ◌+◌, ◌-◌, ◌*◌, ◌<◌, List, [], ◌∷◌, ◌++◌, map, refl, ◌∙◌, ap, arith}
use Rattle.fp_field.specs.Field.{sign}
use Rattle.fp_field.specs.Chains.{weigh}
use Rattle.fp_field.proofs.Weights.{weigh-append}
use Rattle.simp_ops.specs.PathWords.{Step, left as H, right as V, lefts, pairs, shuffles}
use Rattle.spaces.specs.Orders.{Ordered}
use Rattle.spaces.specs.EilenbergZilber.{Linear, Pair}
use Rattle.ez_maps.specs.Words.{shuffled_from, left_first, right_first}

abbrev pub Every : (List Step → Type 0) → List (List Step) → Type 0
Every P [] = Unit {0}
Every P (w ∷ l) = P w × Every P l

every-append : (P : List Step → Type 0) (l r : List (List Step)) → Every P l → Every P r → Every P (l ++ r)
every-append P [] r a b = b
every-append P (w ∷ l) r a b = (a.0, every-append P l r a.1 b)

every-cons : (P Q : List Step → Type 0) (s : Step) → ((w : List Step) → P w → Q (s ∷ w)) → (l : List (List Step)) → Every P l → Every Q (map (λ w. s ∷ w) l)
every-cons P Q s f [] h = tt
every-cons P Q s f (w ∷ l) h = (f w h.0, every-cons P Q s f l h.1)

-- the words have as many steps of the left part alone
pub lefts-of : (n q : ℕ) → Every (λ w. lefts w ≡ q) (shuffles n q)
lefts-of zero zero = (refl, tt)
lefts-of zero (suc q) = tt
lefts-of (suc n) zero = every-cons (λ w. lefts w ≡ 0) (λ w. lefts w ≡ 0) V (λ w h. h) (shuffles n zero) (lefts-of n zero)
lefts-of (suc n) (suc q) =
    every-append (λ w. lefts w ≡ suc q) (map (λ w. H ∷ w) (shuffles n q)) (map (λ w. V ∷ w) (shuffles n (suc q)))
    (every-cons (λ w. lefts w ≡ q) (λ w. lefts w ≡ suc q) H (λ w h. ap suc h) (shuffles n q) (lefts-of n q))
    (every-cons (λ w. lefts w ≡ suc q) (λ w. lefts w ≡ suc q) V (λ w h. h) (shuffles n (suc q)) (lefts-of n (suc q)))

-- there are none with more of them than steps
pub too-many : (n q : ℕ) → n < q → shuffles n q ≡ []
too-many zero zero l = absurd (omega (arith, l))
too-many zero (suc q) l = refl
too-many (suc n) zero l = absurd (omega (arith, l))
too-many (suc n) (suc q) l = λ i. map (λ w. H ∷ w) (too-many n q (omega (arith, l)) i) ++ map (λ w. V ∷ w) (too-many n (suc q) (omega (arith, l)) i)

map-append : {A B : Type 0} (f : A → B) (l r : List A) → map f (l ++ r) ≡ map f l ++ map f r
map-append f [] r = refl
map-append f (x ∷ l) r = ap (λ t. f x ∷ t) (map-append f l r)

module _ {K : Type 0} (u : K → ℕ) (f : List Step → K × ℕ) where
  -- the words are those that begin with a step of the left part and those that begin with one of the right part
  pub by-first : (l r m : ℕ) → l + r ≡ suc m → weigh u (map f (shuffles (l + r) l)) ≡ weigh u (map f (left_first l r)) + weigh u (map f (right_first l r))
  by-first zero zero m e = absurd (omega (arith, e))
  by-first zero (suc r) m e =
      let q : 0 + suc r ≡ suc (0 + r) = omega arith in
      ap (λ n. weigh u (map f (shuffles n zero))) q ∙ (let s : weigh u (map f (map (λ w. V ∷ w) (shuffles (0 + r) zero))) ≡ 0 + weigh u (map f (map (λ w. V ∷ w) (shuffles (0 + r) zero))) = omega arith in s)
  by-first (suc l) zero m e =
      let q : suc l + 0 ≡ suc (l + 0) = omega arith in
      ap (λ n. weigh u (map f (shuffles n (suc l)))) q
      ∙ ap (weigh u) (map-append f (map (λ w. H ∷ w) (shuffles (l + 0) l)) (map (λ w. V ∷ w) (shuffles (l + 0) (suc l))))
      ∙ weigh-append u (map f (map (λ w. H ∷ w) (shuffles (l + 0) l))) (map f (map (λ w. V ∷ w) (shuffles (l + 0) (suc l))))
      ∙ ap (λ (t : List (List Step)). weigh u (map f (map (λ w. H ∷ w) (shuffles (l + 0) l))) + weigh u (map f (map (λ w. V ∷ w) t))) (too-many (l + 0) (suc l) (omega arith))
  by-first (suc l) (suc r) m e =
      let q : suc l + suc r ≡ suc (l + suc r) = omega arith in
      let s : l + suc r ≡ suc l + r = omega arith in
      ap (λ n. weigh u (map f (shuffles n (suc l)))) q
      ∙ ap (weigh u) (map-append f (map (λ w. H ∷ w) (shuffles (l + suc r) l)) (map (λ w. V ∷ w) (shuffles (l + suc r) (suc l))))
      ∙ weigh-append u (map f (map (λ w. H ∷ w) (shuffles (l + suc r) l))) (map f (map (λ w. V ∷ w) (shuffles (l + suc r) (suc l))))
      ∙ ap (λ n. weigh u (map f (map (λ w. H ∷ w) (shuffles (l + suc r) l))) + weigh u (map f (map (λ w. V ∷ w) (shuffles n (suc l))))) s

sign-plus : (p i j : ℕ) → sign p (i + j) ≡ sign p i * sign p j
sign-plus p zero j = let e : 0 + j ≡ j = omega arith in ap (sign p) e ∙ (let q : sign p j ≡ 1 * sign p j = omega arith in q)
sign-plus p (suc i) j =
    let e : suc i + j ≡ suc (i + j) = omega arith in
    ap (sign p) e ∙ ap (λ n. (p - 1) * n) (sign-plus p i j) ∙ (let q : (p - 1) * (sign p i * sign p j) ≡ (p - 1) * sign p i * sign p j = omega arith in q)

module _ {K J : Type 0} (p : ℕ) (L : Linear K) (R : Ordered J) (u : Pair K J → ℕ) (n j : ℕ) (x : K) (y : J) where
  pub after-left : (l : List (List Step)) → weigh u (map (shuffled_from p L R n j x y) (map (λ w. H ∷ w) l)) ≡ weigh u (map (shuffled_from p L R n (suc j) x (R.set.degeneracy j y)) l)
  after-left [] = refl
  after-left (w ∷ l) = ap (λ m. (shuffled_from p L R n j x y (H ∷ w)).1 * u (shuffled_from p L R n j x y (H ∷ w)).0 + m) (after-left l)

  pub after-right : (q : ℕ) (l : List (List Step)) → Every (λ w. lefts w ≡ q) l
      → weigh u (map (shuffled_from p L R n j x y) (map (λ w. V ∷ w) l)) ≡ sign p q * weigh u (map (shuffled_from p L R n (suc j) (L.degeneracy j x) y) l)
  after-right q [] h = omega arith
  after-right q (w ∷ l) h =
      let v : Pair K J = (shuffled_from p L R n (suc j) (L.degeneracy j x) y w).0 in
      let e : sign p (lefts w + pairs w) ≡ sign p q * sign p (pairs w) = sign-plus p (lefts w) (pairs w) ∙ ap (λ m. sign p m * sign p (pairs w)) h.0 in
      let r : ℕ = weigh u (map (shuffled_from p L R n (suc j) (L.degeneracy j x) y) l) in
      ap (λ m. sign p (lefts w + pairs w) * u v + m) (after-right q l h.1)
      ∙ ap (λ m. m * u v + sign p q * r) e
      ∙ (let s : sign p q * sign p (pairs w) * u v + sign p q * r ≡ sign p q * (sign p (pairs w) * u v + r) = omega arith in s)
