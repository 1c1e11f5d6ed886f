-- Right sides that ask only questions of one kind, whatever the answers are.
use Rattle.std.proofs.Common.{ℕ, zero, suc, ◌-◌, List, [], ◌∷◌, ◌++◌}
use Rattle.std.specs.declared.cmp.Ordering.{Ordering}
use Rattle.fp_field.specs.Field.{sign}
use Rattle.fp_field.specs.Chains.{Terms, scale}
use Rattle.fp_field.specs.Normal.{normal, apply}
use Rattle.fp_field.specs.Reduction.{one}
use Rattle.spaces.specs.Orders.{Ordered, by_degree}
use Rattle.spaces.specs.EilenbergZilber.{Linear, Pair, Tensor}
use Rattle.values.specs.Asks.{Ask, Answer, Answers, Right, gives, asks, ◌>>=◌, asked_with, each, across, on_chain}
use Rattle.values.specs.Perturbed.{Part, tensor_terms, small_terms, asked_terms, f_f, g_g, t, on_t, p1, s1, p2, s2, r, r_after_t, k, to_tensors, to_pairs, pairs_by, tensors_by, smalls_by, total_f, total_g, total_h, total_d}
use Rattle.values.proofs.Readings.{EachAsk}

abbrev pub Only : {A : Type 0} → (Ask → Type 0) → Right A → Type 0
Only P (gives a) = Unit {0}
Only P (asks k then) = P k × ((v : Answer k) → Only P (then v))

module _ (P : Ask → Type 0) where
  pub only-bind : {A B : Type 0} (m : Right A) (next : A → Right B) → Only P m → ((a : A) → Only P (next a)) → Only P (m >>= next)
  only-bind (gives a) next h e = e a
  only-bind (asks k then) next h e = (h.0, λ v. only-bind (then v) next (h.1 v) e)

  pub only-each : {A B : Type 0} (u : A → Right B) → ((x : A) → Only P (u x)) → (xs : List A) → Only P (each u xs)
  only-each u e [] = tt
  only-each u e (x ∷ xs) = only-bind (u x) (λ y. each u xs >>= λ ys. gives (y ∷ ys)) (e x) (λ y. only-bind (each u xs) (λ ys. gives (y ∷ ys)) (only-each u e xs) (λ ys. tt))

  pub only-across : {K J : Type 0} (u : K → Right (Terms J)) → ((x : K) → Only P (u x)) → (c : Terms K) → Only P (across u c)
  only-across u e [] = tt
  only-across u e (x ∷ c) =
      only-bind (u x.0) (λ y. across u c >>= λ rest. gives (scale x.1 y ++ rest)) (e x.0)
      (λ y. only-bind (across u c) (λ rest. gives (scale x.1 y ++ rest)) (only-across u e c) (λ rest. tt))

  pub only-on_chain : {K J : Type 0} (cmp : J → J → Ordering) (p : ℕ) (u : K → Right (Terms J)) → ((x : K) → Only P (u x)) → (c : Terms K) → Only P (on_chain cmp p u c)
  only-on_chain cmp p u e c = only-bind (across u c) (λ s. gives (normal cmp p s)) (only-across u e c) (λ s. tt)

  pub only-asked_terms : {K : Type 0} (cmp : K → K → Ordering) (p : ℕ) (step : Terms K → Right (Terms K)) → ((c : Terms K) → Only P (step c)) → (n : ℕ) (c : Terms K)
      → Only P (asked_terms cmp p n step c)
  only-asked_terms cmp p step e zero c = tt
  only-asked_terms cmp p step e (suc n) c =
      only-bind (step c) (λ y. asked_terms cmp p n step (normal cmp p (scale (p - 1) y)) >>= λ s. gives (c ++ s)) (e c)
      (λ y. only-bind (asked_terms cmp p n step (normal cmp p (scale (p - 1) y))) (λ s. gives (c ++ s)) (only-asked_terms cmp p step e n (normal cmp p (scale (p - 1) y))) (λ s. tt))

  pub only-asked : {A : Type 0} (m : Right A) → Only P m → (answers : Answers) → EachAsk P (asked_with answers m)
  only-asked (gives a) h answers = tt
  only-asked (asks k then) h answers = (h.0, only-asked (then (answers k)) (h.1 (answers k)) answers)

  -- a part asks only such questions
  pub record OnlyPart {K S : Type 0} (a : Part K S) : Type 0 where
    pub f : (n : ℕ) (x : K) → Only P (a.f n x)
    pub g : (y : S) → Only P (a.g y)
    pub h : (n : ℕ) (x : K) → Only P (a.h n x)
    pub small_d : (y : S) → Only P (a.small_d y)

  module _ {K J S T : Type 0} (p : ℕ) (L : Linear K) (R : Ordered J) (left : Part K S) (right : Part J T) (q : Pair K J → Terms (Pair K J)) (ol : OnlyPart left) (or : OnlyPart right) where
    abbrev pairs : Pair K J → Pair K J → Ordering
    pairs = pairs_by p L R left right q

    abbrev tensors : Tensor K J → Tensor K J → Ordering
    tensors = tensors_by p L R left right q

    abbrev smalls : S × T → S × T → Ordering
    smalls = smalls_by p L R left right q

    only-f : (z : Tensor K J) → Only P (f_f p L R left right q z)
    only-f (m, x, n, y) =
        only-bind (left.f m x) (λ u. right.f n y >>= λ v. gives (small_terms u v)) (ol.f m x)
        (λ u. only-bind (right.f n y) (λ v. gives (small_terms u v)) (or.f n y) (λ v. tt))

    only-g : (y : S × T) → Only P (g_g p L R left right q y)
    only-g (x, y) =
        only-bind (left.g x) (λ u. right.g y >>= λ v. gives (normal tensors p (tensor_terms u v))) (ol.g x)
        (λ u. only-bind (right.g y) (λ v. gives (normal tensors p (tensor_terms u v))) (or.g y) (λ v. tt))

    only-t : (z : Tensor K J) → Only P (t p L R left right q z)
    only-t (m, x, n, y) =
        only-bind (left.h m x)
        (λ hx. left.f m x >>= λ fx. on_chain (by_degree L.cmp) p left.g fx >>= λ gfx. right.h n y >>= λ hy.
        gives (tensor_terms hx (one (n, y)) ++ scale (sign p m) (tensor_terms gfx hy))) (ol.h m x)
        (λ hx. only-bind (left.f m x)
        (λ fx. on_chain (by_degree L.cmp) p left.g fx >>= λ gfx. right.h n y >>= λ hy. gives (tensor_terms hx (one (n, y)) ++ scale (sign p m) (tensor_terms gfx hy))) (ol.f m x)
        (λ fx. only-bind (on_chain (by_degree L.cmp) p left.g fx)
        (λ gfx. right.h n y >>= λ hy. gives (tensor_terms hx (one (n, y)) ++ scale (sign p m) (tensor_terms gfx hy))) (only-on_chain (by_degree L.cmp) p left.g ol.g fx)
        (λ gfx. only-bind (right.h n y) (λ hy. gives (tensor_terms hx (one (n, y)) ++ scale (sign p m) (tensor_terms gfx hy))) (or.h n y) (λ hy. tt))))

    only-on_t : (c : Terms (Tensor K J)) → Only P (on_t p L R left right q c)
    only-on_t c = only-on_chain tensors p (t p L R left right q) only-t c

    only-on_f : (c : Terms (Tensor K J)) → Only P (on_chain smalls p (f_f p L R left right q) c)
    only-on_f c = only-on_chain smalls p (f_f p L R left right q) only-f c

    only-p2 : (n : ℕ) (c : Terms (Tensor K J)) → Only P (p2 p L R left right q n c)
    only-p2 n c =
        only-bind (asked_terms tensors p (suc n) (λ e. on_t p L R left right q (r p L R left right q n e)) c) (λ s. gives (normal tensors p s))
        (only-asked_terms tensors p (λ e. on_t p L R left right q (r p L R left right q n e)) (λ e. only-on_t (r p L R left right q n e)) (suc n) c) (λ s. tt)

    only-r_t : (n : ℕ) (e : Terms (Tensor K J)) → Only P (r_after_t p L R left right q n e)
    only-r_t n e = only-bind (on_t p L R left right q e) (λ u. gives (r p L R left right q (suc n) u)) (only-on_t e) (λ u. tt)

    only-s2 : (n : ℕ) (c : Terms (Tensor K J)) → Only P (s2 p L R left right q n c)
    only-s2 n c =
        only-bind (asked_terms tensors p (suc n) (r_after_t p L R left right q n) c) (λ s. gives (normal tensors p s))
        (only-asked_terms tensors p (r_after_t p L R left right q n) (only-r_t n) (suc n) c) (λ s. tt)

    pub only-total_f : (n : ℕ) (c : Terms (Pair K J)) → Only P (total_f p L R left right q n c)
    only-total_f n c =
        only-bind (s2 p L R left right q n (to_tensors p L R left right q (s1 p L R left right q n c))) (λ u. on_chain smalls p (f_f p L R left right q) u)
        (only-s2 n (to_tensors p L R left right q (s1 p L R left right q n c))) only-on_f

    pub only-total_g : (n : ℕ) (y : S × T) → Only P (total_g p L R left right q n y)
    only-total_g n y =
        only-bind (g_g p L R left right q y) (λ u. p2 p L R left right q n u >>= λ v. gives (p1 p L R left right q n (to_pairs p L R left right q v))) (only-g y)
        (λ u. only-bind (p2 p L R left right q n u) (λ v. gives (p1 p L R left right q n (to_pairs p L R left right q v))) (only-p2 n u) (λ v. tt))

    abbrev both_h : ℕ → Terms (Pair K J) → Terms (Tensor K J) → Terms (Pair K J)
    both_h n c v =
        normal pairs p (p1 p L R left right q (suc n) (apply pairs p (k p L R left right q) c) ++ p1 p L R left right q (suc n) (to_pairs p L R left right q v))

    pub only-total_h : (n : ℕ) (c : Terms (Pair K J)) → Only P (total_h p L R left right q n c)
    only-total_h n c =
        only-bind (on_t p L R left right q (to_tensors p L R left right q (s1 p L R left right q n c)))
        (λ u. p2 p L R left right q (suc n) u >>= λ v. gives (both_h n c v))
        (only-on_t (to_tensors p L R left right q (s1 p L R left right q n c)))
        (λ u. only-bind (p2 p L R left right q (suc n) u) (λ v. gives (both_h n c v)) (only-p2 (suc n) u) (λ v. tt))

    abbrev all_d : S → T → Terms S → Terms T → Terms (S × T) → Terms (S × T)
    all_d x y dx dy w = normal smalls p (small_terms dx (one y) ++ scale (sign p (left.degree x)) (small_terms (one x) dy) ++ w)

    pub only-total_d : (n : ℕ) (y : S × T) → Only P (total_d p L R left right q n y)
    only-total_d n (x, y) =
        only-bind (left.small_d x) (λ dx. right.small_d y >>= λ dy. g_g p L R left right q (x, y) >>= λ u. p2 p L R left right q n u >>= λ v.
        on_chain smalls p (f_f p L R left right q) (r p L R left right q n v) >>= λ w. gives (all_d x y dx dy w)) (ol.small_d x)
        (λ dx. only-bind (right.small_d y) (λ dy. g_g p L R left right q (x, y) >>= λ u. p2 p L R left right q n u >>= λ v.
        on_chain smalls p (f_f p L R left right q) (r p L R left right q n v) >>= λ w. gives (all_d x y dx dy w)) (or.small_d y)
        (λ dy. only-bind (g_g p L R left right q (x, y)) (λ u. p2 p L R left right q n u >>= λ v.
        on_chain smalls p (f_f p L R left right q) (r p L R left right q n v) >>= λ w. gives (all_d x y dx dy w)) (only-g (x, y))
        (λ u. only-bind (p2 p L R left right q n u) (λ v. on_chain smalls p (f_f p L R left right q) (r p L R left right q n v) >>= λ w. gives (all_d x y dx dy w)) (only-p2 n u)
        (λ v. only-bind (on_chain smalls p (f_f p L R left right q) (r p L R left right q n v)) (λ w. gives (all_d x y dx dy w)) (only-on_f (r p L R left right q n v)) (λ w. tt)))))
