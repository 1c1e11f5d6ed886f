-- The differential of tensors of two spaces is that of the tensor product of their complexes of cells.
use Rattle.std.proofs.Common.{◌≡◌, ℕ, zero, suc, ◌+◌, ◌*◌, ◌-◌, ◌%◌, Bool, true, false, not, ◌&&◌, cond, [], ◌∷◌, ◌++◌, map, refl, sym, ◌∙◌, ap, arith, true≢false}
use Rattle.fp_field.specs.Field.{sign}
use Rattle.fp_field.specs.Chains.{Terms, weigh, scale, keep, faces_sum, Each}
use Rattle.fp_field.specs.Reduction.{one}
use Rattle.fp_field.proofs.Weights.{weigh-append, weigh-scale, Each-append}
use Rattle.fp_field.proofs.FlowLaws.{weigh-keep}
use Rattle.spaces.specs.Simplicial.{is_degenerate}
use Rattle.spaces.specs.Orders.{Ordered}
use Rattle.spaces.specs.EilenbergZilber.{Linear, linear, Tensor, is_tensor_cell}
use Rattle.ez_laws.specs.Complexes.{left_faces, right_faces, left_d, right_d, tensor_d}
use Rattle.homology_laws.proofs.CellChains.{cell_d_of}
use Rattle.tensor_red.specs.Products.{Pairs, product_in}
use Rattle.twist_laws.proofs.Alike.{Alike}

-- tensors as pairs of cells
abbrev pub tensor_keys : {K J : Type 0} → Pairs (ℕ × K) (ℕ × J) (Tensor K J)
tensor_keys = record { pair = λ x y. (x.0, x.1, y.0, y.1); left = λ z. (z.0, z.1); right = λ z. (z.2, z.3) }

module _ {X Y T : Type 0} (P : Pairs X Y T) where
  weigh-row : (w : T → ℕ) (x : X) (a : ℕ) (e : Terms Y) → weigh w (map (λ u. (P.pair x u.0, a * u.1)) e) ≡ a * weigh (λ y. w (P.pair x y)) e
  weigh-row w x a [] = omega arith
  weigh-row w x a (u ∷ e) = omega (arith, weigh-row w x a e)

  -- a weight of a product is a double sum
  pub weigh-product : (w : T → ℕ) (c : Terms X) (e : Terms Y) → weigh w (product_in P c e) ≡ weigh (λ x. weigh (λ y. w (P.pair x y)) e) c
  weigh-product w [] e = refl
  weigh-product w (t ∷ c) e =
      weigh-append w (map (λ u. (P.pair t.0 u.0, t.1 * u.1)) e) (product_in P c e)
      ∙ λ i. weigh-row w t.0 t.1 e i + weigh-product w c e i

  row-each : (A : T → Type 0) (Q : Y → Type 0) (x : X) (a : ℕ) → ((y : Y) → Q y → A (P.pair x y)) → (e : Terms Y) → Each Q e → Each A (map (λ u. (P.pair x u.0, a * u.1)) e)
  row-each A Q x a f [] h = tt
  row-each A Q x a f (u ∷ e) h = (f u.0 h.0, row-each A Q x a f e h.1)

  pub product-each : (A : T → Type 0) (R : X → Type 0) (Q : Y → Type 0) → ((x : X) (y : Y) → R x → Q y → A (P.pair x y)) → (c : Terms X) (e : Terms Y)
      → Each R c → Each Q e → Each A (product_in P c e)
  product-each A R Q f [] e g h = tt
  product-each A R Q f (t ∷ c) e g h =
      Each-append A (map (λ u. (P.pair t.0 u.0, t.1 * u.1)) e) (product_in P c e) (row-each A Q t.0 t.1 (λ y. f t.0 y g.0) e h) (product-each A R Q f c e g.1 h)

  -- chains that are alike on the left
  pub product-alike : (p : ℕ) (c d : Terms X) (e : Terms Y) → Alike p c d → Alike p (product_in P c e) (product_in P d e)
  product-alike p c d e a = record {
    at = λ w. ap (λ n. n % p) (weigh-product w c e) ∙ a.at (λ x. weigh (λ y. w (P.pair x y)) e) ∙ ap (λ n. n % p) (sym (weigh-product w d e));
  }

weigh-placed : {K : Type 0} (w : ℕ × K → ℕ) (n : ℕ) (c : Terms K) → weigh w (map (λ t. ((n, t.0), t.1)) c) ≡ weigh (λ u. w (n, u)) c
weigh-placed w n [] = refl
weigh-placed w n (t ∷ c) = ap (λ m. t.1 * w (n, t.0) + m) (weigh-placed w n c)

weigh-same : {K : Type 0} (v w : K → ℕ) → ((x : K) → v x ≡ w x) → (c : Terms K) → weigh v c ≡ weigh w c
weigh-same v w e [] = refl
weigh-same v w e (t ∷ c) = λ i. t.1 * e t.0 i + weigh-same v w e c i

both_pass : (a b : Bool) (n : ℕ) → b ≡ true → cond (a && b) n 0 ≡ cond a n 0
both_pass true b n e = ap (λ c. cond c n 0) e
both_pass false b n e = refl

first_pass : (a b : Bool) (n : ℕ) → a ≡ true → cond (a && b) n 0 ≡ cond b n 0
first_pass true b n e = refl
first_pass false b n e = absurd (true≢false (sym e))

module _ {K J : Type 0} (p : ℕ) (A : Ordered K) (In : ℕ → K → Type 0) (R : Ordered J) (w : Tensor K J → ℕ) where
  abbrev L : Linear K
  L = linear A

  -- the weight, 0 on degenerate tensors
  abbrev v : Tensor K J → ℕ
  v z = cond (is_tensor_cell p L R z) (w z) 0

  abbrev left_weight : ℕ → ℕ → J → K → ℕ
  left_weight i j y u = cond (not (is_degenerate A.set i u)) (w (i, u, j, y)) 0

  abbrev right_weight : ℕ → K → ℕ → J → ℕ
  right_weight i x j u = cond (not (is_degenerate R.set j u)) (w (i, x, j, u)) 0

  weigh-left : (n i : ℕ) → n - 1 ≡ i → (x : K) (j : ℕ) (y : J) → not (is_degenerate R.set j y) ≡ true → (k : ℕ)
      → weigh v (left_faces p L In R k (n, x, j, y)) ≡ weigh (left_weight i j y) (faces_sum p A.set.face k x)
  weigh-left n i d x j y e zero = refl
  weigh-left n i d x j y e (suc k) =
      let a = weigh-left n i d x j y e k in
      let b : v (n - 1, A.set.face k x, j, y) ≡ left_weight i j y (A.set.face k x) =
      ap (λ m. v (m, A.set.face k x, j, y)) d ∙ both_pass (not (is_degenerate A.set i (A.set.face k x))) (not (is_degenerate R.set j y)) (w (i, A.set.face k x, j, y)) e in
      (λ l. sign p k * 1 * b l + a l) ∙ units (sign p k) (left_weight i j y (A.set.face k x)) (weigh (left_weight i j y) (faces_sum p A.set.face k x))
    where
      units : (s m r : ℕ) → s * 1 * m + r ≡ s * m + r
      units s m r = omega arith

  weigh-right : (i : ℕ) (x : K) (n j : ℕ) → n - 1 ≡ j → (y : J) → not (is_degenerate A.set i x) ≡ true → (k : ℕ)
      → weigh v (right_faces p L In R k (i, x, n, y)) ≡ weigh (right_weight i x j) (faces_sum p R.set.face k y)
  weigh-right i x n j d y e zero = refl
  weigh-right i x n j d y e (suc k) =
      let a = weigh-right i x n j d y e k in
      let b : v (i, x, n - 1, R.set.face k y) ≡ right_weight i x j (R.set.face k y) =
      ap (λ m. v (i, x, m, R.set.face k y)) d ∙ first_pass (not (is_degenerate A.set i x)) (not (is_degenerate R.set j (R.set.face k y))) (w (i, x, j, R.set.face k y)) e in
      λ l. sign p k * b l + a l

  left-d : (i : ℕ) (x : K) (j : ℕ) (y : J) → not (is_degenerate R.set j y) ≡ true
      → weigh v (left_d p L In R (i, x, j, y)) ≡ weigh w (product_in tensor_keys (cell_d_of A.set p (i, x)) (one (j, y)))
  left-d zero x j y e = refl
  left-d (suc i) x j y e =
      weigh-left (suc i) i (let q : suc i - 1 ≡ i = omega arith in q) x j y e (suc (suc i))
      ∙ sym (weigh-product tensor_keys w (cell_d_of A.set p (suc i, x)) (one (j, y))
      ∙ weigh-same (λ (c : ℕ × K). weigh {K = ℕ × J} (λ d. w (c.0, c.1, d.0, d.1)) (one (j, y))) (λ c. w (c.0, c.1, j, y)) (λ c. single (w (c.0, c.1, j, y))) (cell_d_of A.set p (suc i, x))
      ∙ weigh-placed {K = K} (λ c. w (c.0, c.1, j, y)) i (keep (λ u. not (is_degenerate A.set i u)) (faces_sum p A.set.face (suc (suc i)) x))
      ∙ weigh-keep (λ u. w (i, u, j, y)) (λ u. not (is_degenerate A.set i u)) (faces_sum p A.set.face (suc (suc i)) x))
    where
      single : (n : ℕ) → 1 * n + 0 ≡ n
      single n = omega arith

  right-d : (i : ℕ) (x : K) (j : ℕ) (y : J) → not (is_degenerate A.set i x) ≡ true
      → weigh v (right_d p L In R (i, x, j, y)) ≡ weigh w (product_in tensor_keys (one (i, x)) (cell_d_of R.set p (j, y)))
  right-d i x zero y e = refl
  right-d i x (suc j) y e =
      weigh-right i x (suc j) j (let q : suc j - 1 ≡ j = omega arith in q) y e (suc (suc j))
      ∙ sym (weigh-product tensor_keys w (one (i, x)) (cell_d_of R.set p (suc j, y))
      ∙ single (weigh {K = ℕ × J} (λ d. w (i, x, d.0, d.1)) (cell_d_of R.set p (suc j, y)))
      ∙ weigh-placed {K = J} (λ d. w (i, x, d.0, d.1)) j (keep (λ u. not (is_degenerate R.set j u)) (faces_sum p R.set.face (suc (suc j)) y))
      ∙ weigh-keep (λ u. w (i, x, j, u)) (λ u. not (is_degenerate R.set j u)) (faces_sum p R.set.face (suc (suc j)) y))
    where
      single : (n : ℕ) → 1 * n + 0 ≡ n
      single n = omega arith

  pub tensor_d-weight : (i : ℕ) (x : K) (j : ℕ) (y : J) → not (is_degenerate A.set i x) ≡ true → not (is_degenerate R.set j y) ≡ true
      → weigh w (tensor_d p L In R (i, x, j, y))
      ≡ weigh w (product_in tensor_keys (cell_d_of A.set p (i, x)) (one (j, y)) ++ scale (sign p i) (product_in tensor_keys (one (i, x)) (cell_d_of R.set p (j, y))))
  tensor_d-weight i x j y e f =
      weigh-keep w (is_tensor_cell p L R) (left_d p L In R (i, x, j, y) ++ scale (sign p i) (right_d p L In R (i, x, j, y)))
      ∙ weigh-append v (left_d p L In R (i, x, j, y)) (scale (sign p i) (right_d p L In R (i, x, j, y)))
      ∙ (λ l. left-d i x j y f l + (weigh-scale v (sign p i) (right_d p L In R (i, x, j, y)) ∙ ap (λ n. sign p i * n) (right-d i x j y e)) l)
      ∙ sym (weigh-append w (product_in tensor_keys (cell_d_of A.set p (i, x)) (one (j, y))) (scale (sign p i) (product_in tensor_keys (one (i, x)) (cell_d_of R.set p (j, y))))
      ∙ ap (λ n. weigh w (product_in tensor_keys (cell_d_of A.set p (i, x)) (one (j, y))) + n) (weigh-scale w (sign p i) (product_in tensor_keys (one (i, x)) (cell_d_of R.set p (j, y)))))
