-- The right sides of a twisted product, read with answers: sums, normal forms and series of the values of the parts.
use Rattle.std.proofs.Common.{◌≡◌, ℕ, suc, ◌++◌, ◌∙◌, ap}
use Rattle.std.specs.declared.cmp.Ordering.{Ordering}
use Rattle.fp_field.specs.Field.{sign}
use Rattle.fp_field.specs.Chains.{Terms, scale, extend}
use Rattle.fp_field.specs.Normal.{normal, apply}
use Rattle.fp_field.specs.Reduction.{one}
use Rattle.spaces.specs.Orders.{Ordered, by_degree}
use Rattle.spaces.specs.EilenbergZilber.{Linear, Pair, Tensor}
use Rattle.values.specs.Asks.{Answers, gives, ◌>>=◌, value_with, on_chain}
use Rattle.values.specs.Perturbed.{Part, tensor_terms, small_terms, asked_terms, f_f, g_g, t, on_t, p1, s1, p2, s2, r, r_after_t, k, to_tensors, to_pairs, pairs_by, tensors_by, smalls_by, total_f, total_g, total_h, total_d}
use Rattle.values.proofs.Readings.{value_with-bind}
use Rattle.values.proofs.Chains.{steps_of, value_with-on_chain, value_with-asked_terms}

module _ (answers : Answers) {K J S T : Type 0} (p : ℕ) (L : Linear K) (R : Ordered J) (left : Part K S) (right : Part J T) (q : Pair K J → Terms (Pair K J)) where
  abbrev pairs : Pair K J → Pair K J → Ordering
  pairs = pairs_by p L R left right q

  abbrev tensors : Tensor K J → Tensor K J → Ordering
  tensors = tensors_by p L R left right q

  abbrev smalls : S × T → S × T → Ordering
  smalls = smalls_by p L R left right q

  -- ---- on generators

  -- f, g and h of the tensor product
  abbrev pub f_value : Tensor K J → Terms (S × T)
  f_value z = value_with answers (f_f p L R left right q z)

  abbrev pub g_value : S × T → Terms (Tensor K J)
  g_value y = value_with answers (g_g p L R left right q y)

  abbrev pub h_value : Tensor K J → Terms (Tensor K J)
  h_value z = value_with answers (t p L R left right q z)

  pub f_value-is : (m : ℕ) (x : K) (n : ℕ) (y : J) → f_value (m, x, n, y) ≡ small_terms (value_with answers (left.f m x)) (value_with answers (right.f n y))
  f_value-is m x n y =
      value_with-bind answers (left.f m x) (λ u. right.f n y >>= λ v. gives (small_terms u v))
      ∙ value_with-bind answers (right.f n y) (λ v. gives (small_terms (value_with answers (left.f m x)) v))

  pub g_value-is : (x : S) (y : T) → g_value (x, y) ≡ normal tensors p (tensor_terms (value_with answers (left.g x)) (value_with answers (right.g y)))
  g_value-is x y =
      value_with-bind answers (left.g x) (λ u. right.g y >>= λ v. gives (normal tensors p (tensor_terms u v)))
      ∙ value_with-bind answers (right.g y) (λ v. gives (normal tensors p (tensor_terms (value_with answers (left.g x)) v)))

  pub h_value-is : (m : ℕ) (x : K) (n : ℕ) (y : J) → h_value (m, x, n, y)
      ≡ tensor_terms (value_with answers (left.h m x)) (one (n, y))
      ++ scale (sign p m)
      (tensor_terms (normal (by_degree L.cmp) p (extend (λ s. value_with answers (left.g s)) (value_with answers (left.f m x)))) (value_with answers (right.h n y)))
  h_value-is m x n y =
      let hx = value_with answers (left.h m x) in
      let fx = value_with answers (left.f m x) in
      let gfx = value_with answers (on_chain (by_degree L.cmp) p left.g fx) in
      value_with-bind answers (left.h m x)
      (λ hx. left.f m x >>= λ fx. on_chain (by_degree L.cmp) p left.g fx >>= λ gfx. right.h n y >>= λ hy.
      gives (tensor_terms hx (one (n, y)) ++ scale (sign p m) (tensor_terms gfx hy)))
      ∙ value_with-bind answers (left.f m x)
      (λ fx. on_chain (by_degree L.cmp) p left.g fx >>= λ gfx. right.h n y >>= λ hy. gives (tensor_terms hx (one (n, y)) ++ scale (sign p m) (tensor_terms gfx hy)))
      ∙ value_with-bind answers (on_chain (by_degree L.cmp) p left.g fx)
      (λ gfx. right.h n y >>= λ hy. gives (tensor_terms hx (one (n, y)) ++ scale (sign p m) (tensor_terms gfx hy)))
      ∙ value_with-bind answers (right.h n y) (λ hy. gives (tensor_terms hx (one (n, y)) ++ scale (sign p m) (tensor_terms gfx hy)))
      ∙ ap (λ gfx. tensor_terms hx (one (n, y)) ++ scale (sign p m) (tensor_terms gfx (value_with answers (right.h n y)))) (value_with-on_chain answers left.g (by_degree L.cmp) p fx)

  -- ---- on chains

  abbrev r_at : ℕ → Terms (Tensor K J) → Terms (Tensor K J)
  r_at = r p L R left right q

  abbrev pub p2_value : ℕ → Terms (Tensor K J) → Terms (Tensor K J)
  p2_value n c = normal tensors p (steps_of tensors p (suc n) (λ e. apply tensors p h_value (r_at n e)) c)

  abbrev pub s2_value : ℕ → Terms (Tensor K J) → Terms (Tensor K J)
  s2_value n c = normal tensors p (steps_of tensors p (suc n) (λ e. r_at (suc n) (apply tensors p h_value e)) c)

  pub read-t : (c : Terms (Tensor K J)) → value_with answers (on_t p L R left right q c) ≡ apply tensors p h_value c
  read-t c = value_with-on_chain answers (t p L R left right q) tensors p c

  read-f : (c : Terms (Tensor K J)) → value_with answers (on_chain smalls p (f_f p L R left right q) c) ≡ apply smalls p f_value c
  read-f c = value_with-on_chain answers (f_f p L R left right q) smalls p c

  pub read-r_t : (n : ℕ) (e : Terms (Tensor K J)) → value_with answers (r_after_t p L R left right q n e) ≡ r_at (suc n) (apply tensors p h_value e)
  read-r_t n e = value_with-bind answers (on_t p L R left right q e) (λ u. gives (r_at (suc n) u)) ∙ ap (r_at (suc n)) (read-t e)

  pub read-p2 : (n : ℕ) (c : Terms (Tensor K J)) → value_with answers (p2 p L R left right q n c) ≡ p2_value n c
  read-p2 n c =
      value_with-bind answers (asked_terms tensors p (suc n) (λ e. on_t p L R left right q (r_at n e)) c) (λ s. gives (normal tensors p s))
      ∙ ap (normal tensors p) (value_with-asked_terms answers tensors p (λ e. on_t p L R left right q (r_at n e)) (suc n) c)
      ∙ (λ i. normal tensors p (steps_of tensors p (suc n) (λ e. read-t (r_at n e) i) c))

  pub read-s2 : (n : ℕ) (c : Terms (Tensor K J)) → value_with answers (s2 p L R left right q n c) ≡ s2_value n c
  read-s2 n c =
      value_with-bind answers (asked_terms tensors p (suc n) (r_after_t p L R left right q n) c) (λ s. gives (normal tensors p s))
      ∙ ap (normal tensors p) (value_with-asked_terms answers tensors p (r_after_t p L R left right q n) (suc n) c)
      ∙ (λ i. normal tensors p (steps_of tensors p (suc n) (λ e. read-r_t n e i) c))

  -- ---- the four maps

  pub read-total_f : (n : ℕ) (c : Terms (Pair K J)) → value_with answers (total_f p L R left right q n c)
      ≡ apply smalls p f_value (s2_value n (to_tensors p L R left right q (s1 p L R left right q n c)))
  read-total_f n c =
      let e = to_tensors p L R left right q (s1 p L R left right q n c) in
      value_with-bind answers (s2 p L R left right q n e) (λ u. on_chain smalls p (f_f p L R left right q) u)
      ∙ ap (λ u. value_with answers (on_chain smalls p (f_f p L R left right q) u)) (read-s2 n e)
      ∙ read-f (s2_value n e)

  pub read-total_g : (n : ℕ) (y : S × T) → value_with answers (total_g p L R left right q n y)
      ≡ p1 p L R left right q n (to_pairs p L R left right q (p2_value n (g_value y)))
  read-total_g n y =
      value_with-bind answers (g_g p L R left right q y) (λ u. p2 p L R left right q n u >>= λ v. gives (p1 p L R left right q n (to_pairs p L R left right q v)))
      ∙ value_with-bind answers (p2 p L R left right q n (g_value y)) (λ v. gives (p1 p L R left right q n (to_pairs p L R left right q v)))
      ∙ ap (λ v. p1 p L R left right q n (to_pairs p L R left right q v)) (read-p2 n (g_value y))

  abbrev both_h : ℕ → Terms (Pair K J) → Terms (Tensor K J) → Terms (Pair K J)
  both_h n c v =
      normal pairs p (p1 p L R left right q (suc n) (apply pairs p (k p L R left right q) c) ++ p1 p L R left right q (suc n) (to_pairs p L R left right q v))

  pub read-total_h : (n : ℕ) (c : Terms (Pair K J)) → value_with answers (total_h p L R left right q n c)
      ≡ both_h n c (p2_value (suc n) (apply tensors p h_value (to_tensors p L R left right q (s1 p L R left right q n c))))
  read-total_h n c =
      let e = to_tensors p L R left right q (s1 p L R left right q n c) in
      value_with-bind answers (on_t p L R left right q e) (λ u. p2 p L R left right q (suc n) u >>= λ v. gives (both_h n c v))
      ∙ value_with-bind answers (p2 p L R left right q (suc n) (value_with answers (on_t p L R left right q e))) (λ v. gives (both_h n c v))
      ∙ ap (both_h n c) (read-p2 (suc n) (value_with answers (on_t p L R left right q e)))
      ∙ ap (λ u. both_h n c (p2_value (suc n) u)) (read-t e)

  abbrev all_d : S → T → Terms S → Terms T → Terms (S × T) → Terms (S × T)
  all_d x y dx dy w = normal smalls p (small_terms dx (one y) ++ scale (sign p (left.degree x)) (small_terms (one x) dy) ++ w)

  pub read-total_d : (n : ℕ) (x : S) (y : T) → value_with answers (total_d p L R left right q n (x, y))
      ≡ all_d x y (value_with answers (left.small_d x)) (value_with answers (right.small_d y)) (apply smalls p f_value (r_at n (p2_value n (g_value (x, y)))))
  read-total_d n x y =
      let dx = value_with answers (left.small_d x) in
      let dy = value_with answers (right.small_d y) in
      value_with-bind answers (left.small_d x) (λ dx. right.small_d y >>= λ dy. g_g p L R left right q (x, y) >>= λ u. p2 p L R left right q n u >>= λ v.
      on_chain smalls p (f_f p L R left right q) (r_at n v) >>= λ w. gives (all_d x y dx dy w))
      ∙ value_with-bind answers (right.small_d y) (λ dy. g_g p L R left right q (x, y) >>= λ u. p2 p L R left right q n u >>= λ v.
      on_chain smalls p (f_f p L R left right q) (r_at n v) >>= λ w. gives (all_d x y dx dy w))
      ∙ value_with-bind answers (g_g p L R left right q (x, y)) (λ u. p2 p L R left right q n u >>= λ v.
      on_chain smalls p (f_f p L R left right q) (r_at n v) >>= λ w. gives (all_d x y dx dy w))
      ∙ value_with-bind answers (p2 p L R left right q n (g_value (x, y))) (λ v. on_chain smalls p (f_f p L R left right q) (r_at n v) >>= λ w. gives (all_d x y dx dy w))
      ∙ ap (λ v. value_with answers (on_chain smalls p (f_f p L R left right q) (r_at n v) >>= λ w. gives (all_d x y dx dy w))) (read-p2 n (g_value (x, y)))
      ∙ value_with-bind answers (on_chain smalls p (f_f p L R left right q) (r_at n (p2_value n (g_value (x, y))))) (λ w. gives (all_d x y dx dy w))
      ∙ ap (all_d x y dx dy) (read-f (r_at n (p2_value n (g_value (x, y)))))
