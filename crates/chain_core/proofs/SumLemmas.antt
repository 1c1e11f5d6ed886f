-- What adding one term does at the place of its key.
use Rattle.std.proofs.Common.{◌≡◌, ℕ, zero, suc, ◌+◌, ◌%◌, ◌<◌, List, [], ◌∷◌, ◌++◌, length, take, drop, get_or, set, cond, refl, sym, ◌∙◌, ap, arith}
use Rattle.std.proofs.Math.Nat.{mod-eq_of_lt, zero-mod}
use Rattle.std.specs.List.{insert, remove}
use Rattle.std.specs.declared.cmp.Ordering.{Ordering}
use Rattle.std.specs.declared.cmp.Ordering.TheVariants.{Less, Equal, Greater}
use Rattle.std.specs.Ordering.{is_eq, eq_by_cmp}
use Rattle.std.specs.Cmp.{IsTotalOrder}
use Rattle.fp_field.specs.declared.element.Fp.{Fp}
use Rattle.fp_field.specs.Chains.{Terms, Each, coeff}
use Rattle.fp_field.specs.Normal.{put, add_term}
use Rattle.fp_field.proofs.Weights.{weigh-append}
use Rattle.chain_core.specs.Formal.{numbers}
use Rattle.chain_core.specs.Places.{IsAt, IsBetween}
use Rattle.chain_core.proofs.Rising.{put-positive, add_term-above, add_term-below, add_term-equal}
use Rattle.chain_core.proofs.PlaceLemmas.{flipped}

pub parts : {X : Type 0} (i : ℕ) (xs : List X) → xs ≡ take i xs ++ drop i xs
parts zero xs = refl
parts (suc i) [] = refl
parts (suc i) (x ∷ xs) = ap (λ l. x ∷ l) (parts i xs)

module _ {K : Type 0} (cmp : K → K → Ordering) (p : ℕ) where
  pub add_term-between : (c : Terms K) (k : K) (i n : ℕ) → IsBetween cmp c k i → n < p → 0 < n → add_term cmp p k n c ≡ take i c ++ (k, n) ∷ drop i c
  add_term-between c k i n w l h =
      ap (add_term cmp p k n) (parts i c) ∙ add_term-above cmp p k n (take i c) (drop i c) w.lower
      ∙ ap (λ d. take i c ++ d) (add_term-below cmp p k n (drop i c) w.higher ∙ ap (λ m. put cmp p k m (drop i c)) (mod-eq_of_lt l) ∙ put-positive cmp p k n (drop i c) h)

  pub add_term-zero : (c : Terms K) (k : K) (i : ℕ) → IsBetween cmp c k i → add_term cmp p k 0 c ≡ c
  add_term-zero c k i w =
      ap (add_term cmp p k 0) (parts i c) ∙ add_term-above cmp p k 0 (take i c) (drop i c) w.lower
      ∙ ap (λ d. take i c ++ d) (add_term-below cmp p k 0 (drop i c) w.higher ∙ ap (λ m. put cmp p k m (drop i c)) (zero-mod p)) ∙ sym (parts i c)

  pub add_term-at : (c : Terms K) (k : K) (i n : ℕ) (w : IsAt cmp c k i) → add_term cmp p k n c ≡ take i c ++ put cmp p w.term.0 ((n + w.term.1) % p) (drop (suc i) c)
  add_term-at c k i n w =
      ap (add_term cmp p k n) w.order ∙ add_term-above cmp p k n (take i c) (w.term ∷ drop (suc i) c) w.lower
      ∙ ap (λ d. take i c ++ d) (add_term-equal cmp p k n w.term (drop (suc i) c) w.equal)

  module _ (total : IsTotalOrder cmp) where
    none_higher : (k : K) (c : Terms K) → Each (λ x. cmp k x ≡ Less) c → coeff (eq_by_cmp cmp) c k ≡ 0
    none_higher k [] h = refl
    none_higher k (t ∷ c) h = rw (flipped cmp total k t.0 Less h.0) (omega (arith, none_higher k c h.1))

    none_lower : (k : K) (c : Terms K) → Each (λ x. cmp k x ≡ Greater) c → coeff (eq_by_cmp cmp) c k ≡ 0
    none_lower k [] h = refl
    none_lower k (t ∷ c) h = rw (flipped cmp total k t.0 Greater h.0) (omega (arith, none_lower k c h.1))

    split : (k : K) (a b : Terms K) → coeff (eq_by_cmp cmp) (a ++ b) k ≡ coeff (eq_by_cmp cmp) a k + coeff (eq_by_cmp cmp) b k
    split k a b = weigh-append (λ x. cond (is_eq (cmp x k)) 1 0) a b

    pub coeff-between : (c : Terms K) (k : K) (i : ℕ) → IsBetween cmp c k i → coeff (eq_by_cmp cmp) c k ≡ 0
    coeff-between c k i w =
        ap (λ d. coeff (eq_by_cmp cmp) d k) (parts i c) ∙ split k (take i c) (drop i c) ∙ omega (arith, none_lower k (take i c) w.lower, none_higher k (drop i c) w.higher)

    pub coeff-at : (c : Terms K) (k : K) (i : ℕ) (w : IsAt cmp c k i) → coeff (eq_by_cmp cmp) c k ≡ w.term.1
    coeff-at c k i w =
        ap (λ d. coeff (eq_by_cmp cmp) d k) w.order ∙ split k (take i c) (w.term ∷ drop (suc i) c)
        ∙ rw (flipped cmp total k w.term.0 Equal w.equal) (omega (arith, none_lower k (take i c) w.lower, none_higher k (drop (suc i) c) w.higher))

module _ {K : Type 0} where
  pub numbers-append : (a b : List (K × Fp)) → numbers (a ++ b) ≡ numbers a ++ numbers b
  numbers-append [] b = refl
  numbers-append (t ∷ a) b = ap (λ c. (t.0, t.1.value) ∷ c) (numbers-append a b)

  pub numbers-insert : (xs : List (K × Fp)) (i : ℕ) (t : K × Fp) → numbers (insert xs i t) ≡ take i (numbers xs) ++ (t.0, t.1.value) ∷ drop i (numbers xs)
  numbers-insert xs zero t = refl
  numbers-insert [] (suc i) t = refl
  numbers-insert (x ∷ xs) (suc i) t = ap (λ c. (x.0, x.1.value) ∷ c) (numbers-insert xs i t)

  pub numbers-remove : (xs : List (K × Fp)) (i : ℕ) → numbers (remove xs i) ≡ take i (numbers xs) ++ drop (suc i) (numbers xs)
  numbers-remove [] zero = refl
  numbers-remove (x ∷ xs) zero = refl
  numbers-remove [] (suc i) = refl
  numbers-remove (x ∷ xs) (suc i) = ap (λ c. (x.0, x.1.value) ∷ c) (numbers-remove xs i)

  pub numbers-set : (xs : List (K × Fp)) (i : ℕ) (t : K × Fp) → i < length xs → numbers (set xs i t) ≡ take i (numbers xs) ++ (t.0, t.1.value) ∷ drop (suc i) (numbers xs)
  numbers-set [] i t l = absurd (omega arith)
  numbers-set (x ∷ xs) zero t l = refl
  numbers-set (x ∷ xs) (suc i) t l = ap (λ c. (x.0, x.1.value) ∷ c) (numbers-set xs i t (omega arith))

  -- the term at a place is the one that stands there
  pub here : (xs : List (K × Fp)) (i : ℕ) (x : K × Fp) (t : K × ℕ) → i < length xs → x ≡ get_or xs i x
      → numbers xs ≡ take i (numbers xs) ++ t ∷ drop (suc i) (numbers xs) → (x.0, x.1.value) ≡ t
  here [] i x t l e q = absurd (omega arith)
  here (y ∷ xs) zero x t l e q = ap (λ z. (z.0, z.1.value)) e ∙ (cc)
  here (y ∷ xs) (suc i) x t l e q = here xs i x t (omega arith) e (cc)

module _ {K : Type 0} (cmp : K → K → Ordering) (p : ℕ) (xs : List (K × Fp)) (k : K) (i n : ℕ) where
  pub sum_inserted : (c : Fp) → c.value ≡ n → IsBetween cmp (numbers xs) k i → n < p → 0 < n → numbers (insert xs i (k, c)) ≡ add_term cmp p k n (numbers xs)
  sum_inserted c e w l h =
      numbers-insert xs i (k, c) ∙ ap (λ m. take i (numbers xs) ++ (k, m) ∷ drop i (numbers xs)) e ∙ sym (add_term-between cmp p (numbers xs) k i n w l h)

  module _ (x : K × Fp) (within : i < length xs) (at : x ≡ get_or xs i x) (w : IsAt cmp (numbers xs) k i) where
    added : add_term cmp p k n (numbers xs) ≡ take i (numbers xs) ++ put cmp p x.0 ((n + x.1.value) % p) (drop (suc i) (numbers xs))
    added =
        add_term-at cmp p (numbers xs) k i n w
        ∙ ap (λ (t : K × ℕ). take i (numbers xs) ++ put cmp p t.0 ((n + t.1) % p) (drop (suc i) (numbers xs))) (sym (here xs i x w.term within at w.order))

    pub sum_removed : (n + x.1.value) % p ≡ 0 → numbers (remove xs i) ≡ add_term cmp p k n (numbers xs)
    sum_removed z = numbers-remove xs i ∙ sym (added ∙ ap (λ m. take i (numbers xs) ++ put cmp p x.0 m (drop (suc i) (numbers xs))) z)

    pub sum_set : (y : K × Fp) (c : Fp) → y ≡ get_or xs i y → c.value ≡ (n + x.1.value) % p → 0 < c.value → numbers (set xs i (y.0, c)) ≡ add_term cmp p k n (numbers xs)
    sum_set y c same e h =
        numbers-set xs i (y.0, c) within
        ∙ ap (λ z. take i (numbers xs) ++ (z, c.value) ∷ drop (suc i) (numbers xs)) (ap (λ (z : K × Fp). z.0) (same ∙ get_or_read xs i x y within ∙ sym at))
        ∙ sym (added ∙ ap (λ m. take i (numbers xs) ++ put cmp p x.0 m (drop (suc i) (numbers xs))) (sym e) ∙ ap (λ d. take i (numbers xs) ++ d) (put-positive cmp p x.0 c.value (drop (suc i) (numbers xs)) h))
      where
        get_or_read : {X : Type 0} (xs : List X) (i : ℕ) (d e : X) → i < length xs → get_or xs i e ≡ get_or xs i d
        get_or_read [] i d e l = absurd (omega arith)
        get_or_read (x ∷ xs) zero d e l = refl
        get_or_read (x ∷ xs) (suc i) d e l = get_or_read xs i d e (omega arith)

-- the number at the place of a key is its coefficient
pub coeff_here : {K : Type 0} (cmp : K → K → Ordering) (total : IsTotalOrder cmp) (xs : List (K × Fp)) (k : K) (i : ℕ) (x : K × Fp) → i < length xs → x ≡ get_or xs i x
    → IsAt cmp (numbers xs) k i → x.1.value ≡ coeff (eq_by_cmp cmp) (numbers xs) k
coeff_here cmp total xs k i x l e w = ap (λ (t : _ × ℕ). t.1) (here xs i x w.term l e w.order) ∙ sym (coeff-at cmp 0 total (numbers xs) k i w)
