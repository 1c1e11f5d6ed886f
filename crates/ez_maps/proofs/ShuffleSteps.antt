-- A step more of the shuffles that are pushed.
use Rattle.std.proofs.Common.{◌≡◌, ℕ, suc, ◌+◌, ◌*◌, ◌%◌, map, refl, sym, ◌∙◌, ap, arith}
use Rattle.fp_field.specs.Field.{SameMod, sign}
use Rattle.fp_field.specs.Chains.{weigh}
use Rattle.fp_field.proofs.Mod.{same-plus, same-times}
use Rattle.simp_ops.specs.PathWords.{shuffles}
use Rattle.spaces.specs.Orders.{Ordered}
use Rattle.spaces.specs.EilenbergZilber.{Linear, Pair}
use Rattle.ez_maps.specs.Words.{shuffled_from, left_first, right_first}
use Rattle.ez_maps.proofs.ShuffleSums.{after-left, after-right, lefts-of, by-first}

module _ {K J : Type 0} (p : ℕ) (L : Linear K) (R : Ordered J) (u : Pair K J → ℕ) where
  abbrev from : ℕ → ℕ → K → J → ℕ → ℕ → ℕ
  from n j x y l r = weigh u (map (shuffled_from p L R n j x y) (shuffles (l + r) l))

  pub left-sum : (n n' j j' l l' r r' : ℕ) (x x' : K) (y y' : J) (s s' : ℕ) (old new : ℕ → ℕ)
      → n' ≡ n → j' ≡ suc j → suc l' ≡ l → r' ≡ r → x' ≡ x → y' ≡ R.set.degeneracy j y → s' ≡ s
      → SameMod p (new n') (old n' + s' * weigh u (map (shuffled_from p L R n' j' x' y') (shuffles (l' + r') l')))
      → SameMod p (new n) (old n + s * weigh u (map (shuffled_from p L R n j x y) (left_first l r)))
  left-sum n n' j j' l l' r r' x x' y y' s s' old new en ej el er ex ey es h =
      ap (λ k. new k % p) (sym en)
      ∙ h
      ∙ ap (λ m. m % p)
      ((λ i. old (en i) + es i * from (en i) (ej i) (ex i) (ey i) l' (er i))
      ∙ ap (λ m. old n + s * m) (sym (after-left p L R u n j x y (shuffles (l' + r) l')))
      ∙ ap (λ l. old n + s * weigh u (map (shuffled_from p L R n j x y) (left_first l r))) el)

  pub right-sum : (n n' j j' l l' r r' : ℕ) (x x' : K) (y y' : J) (s s' : ℕ) (old new : ℕ → ℕ)
      → n' ≡ n → j' ≡ suc j → l' ≡ l → suc r' ≡ r → x' ≡ L.degeneracy j x → y' ≡ y → SameMod p s' (sign p l * s)
      → SameMod p (new n') (old n' + s' * weigh u (map (shuffled_from p L R n' j' x' y') (shuffles (l' + r') l')))
      → SameMod p (new n) (old n + s * weigh u (map (shuffled_from p L R n j x y) (right_first l r)))
  right-sum n n' j j' l l' r r' x x' y y' s s' old new en ej el er ex ey es h =
      let m : ℕ = from n (suc j) (L.degeneracy j x) y l r' in
      ap (λ k. new k % p) (sym en)
      ∙ h
      ∙ ap (λ t. t % p) (λ i. old (en i) + s' * from (en i) (ej i) (ex i) (ey i) (el i) r')
      ∙ same-plus p (old n) (old n) (s' * m) (s * (sign p l * m)) refl
      (ap (λ t. t % p) (let q : s' * m ≡ m * s' = omega arith in q) ∙ same-times p m s' (sign p l * s) es
      ∙ ap (λ t. t % p) (let q : m * (sign p l * s) ≡ s * (sign p l * m) = omega arith in q))
      ∙ ap (λ m. m % p)
      (ap (λ m. old n + s * m) (sym (after-right p L R u n j x y l (shuffles (l + r') l) (lefts-of (l + r') l)))
      ∙ ap (λ r. old n + s * weigh u (map (shuffled_from p L R n j x y) (right_first l r))) er)

  -- both kinds of words
  pub both-sums : (n j l r m : ℕ) (x : K) (y : J) (s old mid new : ℕ) → l + r ≡ suc m
      → SameMod p mid (old + s * weigh u (map (shuffled_from p L R n j x y) (left_first l r)))
      → SameMod p new (mid + s * weigh u (map (shuffled_from p L R n j x y) (right_first l r)))
      → SameMod p new (old + s * weigh u (map (shuffled_from p L R n j x y) (shuffles (l + r) l)))
  both-sums n j l r m x y s old mid new e f g =
      let a : ℕ = weigh u (map (shuffled_from p L R n j x y) (left_first l r)) in
      let b : ℕ = weigh u (map (shuffled_from p L R n j x y) (right_first l r)) in
      g ∙ same-plus p mid (old + s * a) (s * b) (s * b) f refl
      ∙ ap (λ t. t % p) (let q : old + s * a + s * b ≡ old + s * (a + b) = omega arith in q)
      ∙ ap (λ t. (old + s * t) % p) (sym (by-first u (shuffled_from p L R n j x y) l r m e))

  -- the one word without steps
  pub no-steps : (n j l r : ℕ) (x : K) (y : J) (s old new : ℕ) → l + r ≡ 0 → new ≡ old + s * u (n, x, y)
      → SameMod p new (old + s * weigh u (map (shuffled_from p L R n j x y) (shuffles (l + r) l)))
  no-steps n j l r x y s old new e h =
      let el : l ≡ 0 = omega (arith, e) in
      ap (λ t. t % p)
      (h ∙ (let q : old + s * u (n, x, y) ≡ old + s * (1 * u (n, x, y) + 0) = omega arith in q)
      ∙ (λ i. old + s * weigh u (map (shuffled_from p L R n j x y) (shuffles (sym e i) (sym el i)))))
