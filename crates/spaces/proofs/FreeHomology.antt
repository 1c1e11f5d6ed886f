-- Where the differential is 0, the simplices that are not degenerate represent a basis of the homology.
use Rattle.std.proofs.Common.{◌≡◌, ℕ, suc, ◌+◌, ◌*◌, ◌-◌, ◌%◌, ◌<◌, List, [], ◌∷◌, ◌++◌, map, length, All, Bool, true, false, ◌||◌, cond, ◌⊎◌, inl, inr, refl, sym, ◌∙◌, ap, subst, arith, true≢false, mod-lt, mod-eq_of_lt}
use Rattle.std.proofs.Math.Nat.{mod-mod}
use Rattle.std.proofs.lemmas.List.Elements.{All-nil, All-cons, All-head, All-tail, All-map}
use Rattle.fp_field.specs.Field.{SameMod}
use Rattle.fp_field.specs.Chains.{Terms, weigh, coeff, scale, combination, Each}
use Rattle.fp_field.proofs.Mod.{same-plus, same-times, same-from-difference, difference-from-same}
use Rattle.fp_field.proofs.Weights.{weigh-append, weigh-scale, weigh-extend}
use Rattle.simp_ops.proofs.PlacesOf.{cases_bool}
use Rattle.spaces.specs.Simplicial.{Simplicial, IsSimplicial, is_degenerate}
use Rattle.spaces.specs.Homology.{boundary_of, boundary, IsChain, Same, IsClosed, IsCycle, IsExpressed, HomologyList}
use Rattle.spaces.specs.SphereCycles.{single}
use Rattle.spaces.proofs.Boundary.{boundary-same}

first_true : (a b : Bool) → a ≡ true → a || b ≡ true
first_true true b h = refl
first_true false b h = absurd (true≢false (sym h))

second_true : (a b : Bool) → b ≡ true → a || b ≡ true
second_true true b h = refl
second_true false b h = h

both_false : (a b : Bool) → a || b ≡ false → (a ≡ false) × (b ≡ false)
both_false true b h = absurd (true≢false h)
both_false false b h = (refl, h)

weigh-vanishes : {K : Type 0} (P : K → Type 0) (p : ℕ) (w : K → ℕ) → ((x : K) → P x → SameMod p (w x) 0) → (c : Terms K) → Each P c → SameMod p (weigh w c) 0
weigh-vanishes P p w e [] h = refl
weigh-vanishes P p w e (t ∷ c) h =
    same-plus p _ _ _ _ (same-times p t.1 _ _ (e t.0 h.0)) (weigh-vanishes P p w e c h.1) ∙ ap (λ m. m % p) (let q : t.1 * 0 + 0 ≡ 0 = omega arith in q)

-- a combination of simplices
abbrev pub cell_sum : {K : Type 0} → List ℕ → List K → Terms K
cell_sum u cells = combination u (map single cells)

module _ {K : Type 0} (X : Simplicial K) where
  -- a simplex is one of the list
  abbrev pub listed : List K → K → Bool
  listed [] k = false
  listed (c ∷ cells) k = X.same c k || listed cells k

  abbrev pub Once : List K → Type 0
  Once [] = Unit {0}
  Once (c ∷ cells) = (listed cells c ≡ false) × Once cells

  -- the list has each simplex of degree n that is not degenerate, no other, and each once
  pub record IsBasis (n : ℕ) (cells : List K) : Type 0 where
    pub inside : (k : K) → listed cells k ≡ true → X.In n k
    pub proper : (k : K) → listed cells k ≡ true → is_degenerate X n k ≡ false
    pub every : (k : K) → X.In n k → is_degenerate X n k ≡ false → listed cells k ≡ true
    pub once : Once cells

  All-listed : (P : K → Type 0) (cells : List K) → ((k : K) → listed cells k ≡ true → P k) → ((k : K) → X.same k k ≡ true) → All P cells
  All-listed P [] h r = All-nil P
  All-listed P (c ∷ cells) h r =
      All-cons P c cells (h c (first_true (X.same c c) (listed cells c) (r c))) (All-listed P cells (λ k g. h k (second_true (X.same c k) (listed cells k) g)) r)

module _ {K : Type 0} (X : Simplicial K) (laws : IsSimplicial X) where
  itself : (k : K) → X.same k k ≡ true
  itself = laws.same_equivalence.refl

  pub basis_of_none : (n : ℕ) → ((k : K) → X.In n k → is_degenerate X n k ≡ false → ⊥) → IsBasis X n []
  basis_of_none n none = record {
    inside = λ k h. absurd (true≢false (sym h));
    proper = λ k h. absurd (true≢false (sym h));
    every = λ k is g. absurd (none k is g);
    once = tt;
  }

  is_only : (c k : K) → listed X (c ∷ []) k ≡ true → c ≡ k
  is_only c k h = by (X.same c k) (laws.same_is c k) h
    where
      by : (b : Bool) → (b ≡ true → c ≡ k) → b || false ≡ true → c ≡ k
      by true e h = e refl
      by false e h = absurd (true≢false (sym h))

  pub basis_of_one : (n : ℕ) (c : K) → X.In n c → is_degenerate X n c ≡ false → ((k : K) → X.In n k → is_degenerate X n k ≡ false → k ≡ c) → IsBasis X n (c ∷ [])
  basis_of_one n c is g only = record {
    inside = λ k h. subst (X.In n) (is_only c k h) is;
    proper = λ k h. subst (λ x. is_degenerate X n x ≡ false) (is_only c k h) g;
    every = λ k in' q. subst (λ x. listed X (c ∷ []) x ≡ true) (sym (only k in' q)) (first_true (X.same c c) false (itself c));
    once = (refl, tt);
  }

  -- no degenerate simplex counts for one that is not
  pub not_counted : (n : ℕ) (k y : K) → is_degenerate X n k ≡ false → is_degenerate X n y ≡ true → cond {A = ℕ} (X.same y k) 1 0 ≡ 0
  not_counted n k y g e = by (X.same y k) (laws.same_is y k)
    where
      by : (b : Bool) → (b ≡ true → y ≡ k) → cond {A = ℕ} b 1 0 ≡ 0
      by true h = absurd (true≢false (sym e ∙ ap (is_degenerate X n) (h refl) ∙ g))
      by false h = refl

  coeff-outside : (P : K → Type 0) (c : Terms K) (k : K) → Each P c → (P k → ⊥) → coeff X.same c k ≡ 0
  coeff-outside P [] k is miss = refl
  coeff-outside P (t ∷ c) k is miss = by (X.same t.0 k) (laws.same_is t.0 k) (coeff-outside P c k is.1 miss)
    where
      by : (b : Bool) → (b ≡ true → t.0 ≡ k) → coeff X.same c k ≡ 0 → t.1 * cond b 1 0 + coeff X.same c k ≡ 0
      by true e r = absurd (miss (subst P (e refl) is.0))
      by false e r = omega (arith, r)

  -- a combination of the cells of a list, at another simplex
  coeff-other : (u : List ℕ) (cells : List K) (k : K) → listed X cells k ≡ false → coeff X.same (cell_sum u cells) k ≡ 0
  coeff-other [] cells k h = refl
  coeff-other (a ∷ u) [] k h = refl
  coeff-other (a ∷ u) (c ∷ cells) k h =
      let s = both_false (X.same c k) (listed X cells k) h in
      rw s.0 (omega (arith, coeff-other u cells k s.1))

  -- and at one of them
  coeff-here : (f : K → ℕ) (cells : List K) (k : K) → Once X cells → listed X cells k ≡ true → coeff X.same (cell_sum (map f cells) cells) k ≡ f k
  coeff-here f [] k o h = absurd (true≢false (sym h))
  coeff-here f (c ∷ cells) k o h = by (X.same c k) (laws.same_is c k) (coeff-here f cells k o.1) h
    where
      by : (b : Bool) → (b ≡ true → c ≡ k) → (listed X cells k ≡ true → coeff X.same (cell_sum (map f cells) cells) k ≡ f k) → b || listed X cells k ≡ true
          → f c * 1 * cond b 1 0 + coeff X.same (cell_sum (map f cells) cells) k ≡ f k
      by true e r g =
          let z = coeff-other (map f cells) cells k (subst (λ x. listed X cells x ≡ false) (e refl) o.0) in
          omega (arith, z, ap f (e refl))
      by false e r g = omega (arith, r g)

  module _ (p : ℕ) where
    abbrev Agree : List ℕ → List ℕ → List K → K → Type 0
    Agree u v cells k = SameMod p (coeff X.same (cell_sum u cells) k) (coeff X.same (cell_sum v cells) k)

    first_coefficient : (a b : ℕ) (u v : List ℕ) (c : K) (cells : List K) → listed X cells c ≡ false → a < p → b < p → Agree (a ∷ u) (b ∷ v) (c ∷ cells) c → a ≡ b
    first_coefficient a b u v c cells new l m h =
        sym (mod-eq_of_lt l) ∙ ap (λ n. n % p) (sym (at a u)) ∙ h ∙ ap (λ n. n % p) (at b v) ∙ mod-eq_of_lt m
      where
        at : (a : ℕ) (u : List ℕ) → a * 1 * cond (X.same c c) 1 0 + coeff X.same (cell_sum u cells) c ≡ a
        at a u = rw (itself c) (omega (arith, coeff-other u cells c new))

    agree_after : (a b : ℕ) (u v : List ℕ) (c : K) (cells : List K) (k : K) → listed X cells c ≡ false → listed X cells k ≡ true → Agree (a ∷ u) (b ∷ v) (c ∷ cells) k → Agree u v cells k
    agree_after a b u v c cells k new old h = ap (λ n. n % p) (sym (at a u)) ∙ h ∙ ap (λ n. n % p) (at b v)
      where
        apart : X.same c k ≡ false
        apart = by (cases_bool (X.same c k))
          where
            by : (X.same c k ≡ true) ⊎ (X.same c k ≡ false) → X.same c k ≡ false
            by (inl e) = absurd (true≢false (sym old ∙ ap (listed X cells) (sym (laws.same_is c k e)) ∙ new))
            by (inr e) = e

        at : (a : ℕ) (u : List ℕ) → a * 1 * cond (X.same c k) 1 0 + coeff X.same (cell_sum u cells) k ≡ coeff X.same (cell_sum u cells) k
        at a u = rw apart (omega arith)

    -- two lists of coefficients of one combination are one
    coefficients_once : (u v : List ℕ) (cells : List K) → Once X cells → length u ≡ length (map single cells) → length v ≡ length (map single cells)
        → All (λ a. a < p) u → All (λ a. a < p) v → ((k : K) → listed X cells k ≡ true → Agree u v cells k) → u ≡ v
    coefficients_once [] [] cells o l m r s h = refl
    coefficients_once [] (b ∷ v) cells o l m r s h = absurd (omega (arith, l, m))
    coefficients_once (a ∷ u) [] cells o l m r s h = absurd (omega (arith, l, m))
    coefficients_once (a ∷ u) (b ∷ v) [] o l m r s h = absurd (omega (arith, l))
    coefficients_once (a ∷ u) (b ∷ v) (c ∷ cells) o l m r s h =
        let e = first_coefficient a b u v c cells o.0 (All-head (λ x. x < p) a u r) (All-head (λ x. x < p) b v s) (h c (first_true (X.same c c) (listed X cells c) (itself c))) in
        let f = coefficients_once u v cells o.1 (omega (arith, l)) (omega (arith, m)) (All-tail (λ x. x < p) a u r) (All-tail (λ x. x < p) b v s)
        (λ k g. agree_after a b u v c cells k o.0 g (h k (second_true (X.same c k) (listed X cells k) g))) in
        λ i. e i ∷ f i

  module _ (p : ℕ) (pos : 0 < p) (n : ℕ) where
    -- a differential that is 0 at each simplex that is not degenerate is 0
    pub differential_zero : ((x k : K) → X.In (suc n) x → is_degenerate X (suc n) x ≡ false → is_degenerate X n k ≡ false
        → SameMod p (coeff X.same (boundary_of X p (suc n) x) k) 0)
        → (c : Terms K) → IsChain X p (suc n) c → Same X p n (boundary X p (suc n) c) []
    differential_zero h c is k g =
        ap (λ m. m % p) (weigh-extend (λ y. cond (X.same y k) 1 0) (boundary_of X p (suc n)) c)
        ∙ weigh-vanishes (X.In (suc n)) p (λ x. coeff X.same (boundary_of X p (suc n) x) k) (λ x is. by x is (cases_bool (is_degenerate X (suc n) x))) c is
      where
        by : (x : K) → X.In (suc n) x → (is_degenerate X (suc n) x ≡ true) ⊎ (is_degenerate X (suc n) x ≡ false) → SameMod p (coeff X.same (boundary_of X p (suc n) x) k) 0
        by x is (inr e) = h x k is e g
        by x is (inl e) =
            ap (λ m. m % p) (let q : coeff X.same (boundary_of X p (suc n) x) k ≡ coeff X.same (boundary X p (suc n) (single x)) k = omega (arith, weigh-extend (λ y. cond (X.same y k) 1 0) (boundary_of X p (suc n)) (single x)) in q)
            ∙ boundary-same X laws p pos n (single x) [] (is, tt) tt
            (λ l f. ap (λ m. m % p) (let q : 1 * cond (X.same x l) 1 0 + 0 ≡ 0 = omega (arith, not_counted (suc n) l x f e) in q)) k g

    module _ (cells : List K) (basis : IsBasis X n cells) (closed : (z : Terms K) → IsChain X p n z → IsClosed X p n z)
        (flat : (c : Terms K) → IsChain X p (suc n) c → Same X p n (boundary X p (suc n) c) []) where
      coeff-difference : (z d : Terms K) (k : K) → coeff X.same (z ++ scale (p - 1) d) k ≡ coeff X.same z k + (p - 1) * coeff X.same d k
      coeff-difference z d k =
          let w : K → ℕ = λ x. cond (X.same x k) 1 0 in
          weigh-append w z (scale (p - 1) d) ∙ ap (λ m. weigh w z + m) (weigh-scale w (p - 1) d)

      abbrev coefficients_of : Terms K → List ℕ
      coefficients_of z = map (λ c. coeff X.same z c % p) cells

      -- a chain has the coefficients of each combination that expresses it
      expressed-same : (z : Terms K) (u : List ℕ) → IsExpressed X p n (map single cells) z u → (k : K) → is_degenerate X n k ≡ false
          → SameMod p (coeff X.same z k) (coeff X.same (cell_sum u cells) k)
      expressed-same z u e k g =
          same-from-difference p pos _ _
          (ap (λ m. m % p) (sym (coeff-difference z (cell_sum u cells) k)) ∙ e.rest.2 k g ∙ flat e.rest.0 e.rest.1 k g)

      -- and it has those of the combination of its own coefficients
      combination-same : (z : Terms K) → IsChain X p n z → (k : K) → is_degenerate X n k ≡ false
          → SameMod p (coeff X.same z k) (coeff X.same (cell_sum (coefficients_of z) cells) k)
      combination-same z is k g = by (cases_bool (listed X cells k))
        where
          by : (listed X cells k ≡ true) ⊎ (listed X cells k ≡ false) → SameMod p (coeff X.same z k) (coeff X.same (cell_sum (coefficients_of z) cells) k)
          by (inl e) = sym (ap (λ m. m % p) (coeff-here (λ c. coeff X.same z c % p) cells k basis.once e) ∙ mod-mod (coeff X.same z k) p)
          by (inr e) =
              ap (λ m. m % p)
              (coeff-outside (X.In n) z k is (λ i. true≢false (sym (basis.every k i g) ∙ e)) ∙ sym (coeff-other (coefficients_of z) cells k e))

      as_many : (f : K → ℕ) (l : List K) → length (map f l) ≡ length (map (single {K = K}) l)
      as_many f [] = refl
      as_many f (c ∷ l) = ap suc (as_many f l)

      pub free_homology : HomologyList X p n (map single cells)
      free_homology = record {
        cycles = All-map (IsCycle X p n) single cells
            (All-listed X (λ c. IsCycle X p n (single c)) cells (λ k h. record { chain = (basis.inside k h, tt); closed = closed (single k) (basis.inside k h, tt) }) itself);
        spans = λ z is. (
          coefficients_of z,
          record {
            as_long = as_many (λ c. coeff X.same z c % p) cells;
            reduced = All-map (λ a. a < p) (λ c. coeff X.same z c % p) cells (λ k d l. mod-lt _ pos);
            rest = (
              [],
              tt,
              λ k g. ap (λ m. m % p) (coeff-difference z (cell_sum (coefficients_of z) cells) k)
                  ∙ difference-from-same p pos _ _ (combination-same z is.chain k g),
            );
          },
        );
        once = λ z u v is e f. coefficients_once p u v cells basis.once e.as_long f.as_long e.reduced f.reduced
            (λ k h. sym (expressed-same z u e k (basis.proper k h)) ∙ expressed-same z v f k (basis.proper k h));
      }
