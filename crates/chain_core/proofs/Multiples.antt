-- A multiple of a chain by a number that is not 0 has the same keys.
use Rattle.std.proofs.Common.{◌≡◌, ℕ, zero, suc, ◌*◌, ◌%◌, ◌<◌, ◌≤◌, List, [], ◌∷◌, ◌++◌, length, take, drop, get_or, set, refl, sym, ◌∙◌, ap, arith}
use Rattle.std.proofs.Math.Nat.{zero-mod}
use Rattle.std.specs.declared.cmp.Ordering.{Ordering}
use Rattle.std.specs.declared.cmp.Ordering.TheVariants.{Less}
use Rattle.std.specs.Cmp.{IsTotalOrder}
use Rattle.fp_field.specs.declared.prime.Prime.{Prime}
use Rattle.fp_field.specs.declared.element.Fp.{Fp}
use Rattle.fp_field.specs.Field.{number, times}
use Rattle.fp_field.specs.Chains.{Terms, Each, scale}
use Rattle.fp_field.specs.Normal.{add_term, normal, IsNormal}
use Rattle.fp_field.proofs.FieldLaws.{is_field}
use Rattle.chain_core.specs.Formal.{numbers}
use Rattle.chain_core.proofs.Rising.{Rises, rises, add_term-below, put-positive}
use Rattle.chain_core.proofs.ChainLemmas.{append-nil, scaled_by_zero}

-- the terms with each number multiplied in the field
abbrev pub products : {K : Type 0} → ℕ → ℕ → Terms K → Terms K
products p n [] = []
products p n (t ∷ c) = (t.0, n * t.1 % p) ∷ products p n c

pub above_zero : (v : ℕ) → (v ≡ 0 → ⊥) → 0 < v
above_zero zero h = absurd (h refl)
above_zero (suc v) h = omega arith

product_is_zero : (q : Prime) (n m : ℕ) → n < number q → 0 < m → m < number q → times (number q) n m ≡ 0 → n ≡ 0
product_is_zero q n m l h k z =
    let field = is_field q in
    let b = field.inverse m h k in
    sym (field.times_one n l) ∙ ap (times (number q) n) (sym b.2) ∙ sym (field.times_associates n m b.0) ∙ ap (λ v. times (number q) v b.0) z
    ∙ ap (λ v. v % number q) (let y : 0 * b.0 ≡ 0 = omega arith in y) ∙ zero-mod (number q)

product_positive : (q : Prime) (n m : ℕ) → 0 < n → n < number q → 0 < m → m < number q → 0 < n * m % number q
product_positive q n m g l h k = above_zero (n * m % number q) (λ z. let e : n ≡ 0 = product_is_zero q n m l h k z in absurd (omega arith))

module _ {K : Type 0} (cmp : K → K → Ordering) (total : IsTotalOrder cmp) (q : Prime) (n : ℕ) where
  Each-products : (P : K → Type 0) (c : Terms K) → Each P c → Each P (products (number q) n c)
  Each-products P [] h = tt
  Each-products P (t ∷ c) h = (h.0, Each-products P c h.1)

  multiple : (c : Terms K) → Rises cmp (number q) c → 0 < n → n < number q → normal cmp (number q) (scale n c) ≡ products (number q) n c
  multiple [] r g l = refl
  multiple (t ∷ c) r g l =
      ap (add_term cmp (number q) t.0 (n * t.1)) (multiple c r.3 g l)
      ∙ add_term-below cmp (number q) t.0 (n * t.1) (products (number q) n c) (Each-products (λ x. cmp t.0 x ≡ Less) c r.2)
      ∙ put-positive cmp (number q) t.0 (n * t.1 % number q) (products (number q) n c) (product_positive q n t.1 g l r.0 r.1)

  pub multiplied : (c d : Terms K) (i : ℕ) → IsNormal cmp (number q) c → 0 < n → n < number q → length c ≤ i → d ≡ products (number q) n (take i c) ++ drop i c
      → d ≡ normal cmp (number q) (scale n c)
  multiplied c d i e g l past h = h ∙ ends c i past ∙ sym (multiple c (rises cmp total q c e) g l)
    where
      ends : (c : Terms K) (i : ℕ) → length c ≤ i → products (number q) n (take i c) ++ drop i c ≡ products (number q) n c
      ends [] zero l = refl
      ends [] (suc i) l = refl
      ends (t ∷ c) zero l = absurd (omega arith)
      ends (t ∷ c) (suc i) l = ap (λ d. (t.0, n * t.1 % number q) ∷ d) (ends c i (omega arith))

  pub cleared : (c : Terms K) → n ≡ 0 → [] ≡ normal cmp (number q) (scale n c)
  cleared c z = sym (ap (normal cmp (number q)) (sym (append-nil (scale n c))) ∙ scaled_by_zero cmp total q n c [] z refl)

-- one more number is multiplied
pub multiplied_next : {K : Type 0} (p n : ℕ) (xs : List (K × Fp)) (c : Terms K) (i : ℕ) (x y : K × Fp) (m : Fp) → i < length xs → x ≡ get_or xs i x → y ≡ get_or xs i y
    → m.value ≡ n * x.1.value % p → numbers xs ≡ products p n (take i c) ++ drop i c → numbers (set xs i (y.0, m)) ≡ products p n (take (suc i) c) ++ drop (suc i) c
multiplied_next p n [] c i x y m l e f s h = absurd (omega arith)
multiplied_next p n (a ∷ xs) [] zero x y m l e f s h = absurd (cc)
multiplied_next p n (a ∷ xs) [] (suc i) x y m l e f s h = absurd (cc)
multiplied_next {K} p n (a ∷ xs) (t ∷ c) zero x y m l e f s h =
    let head : (a.0, a.1.value) ≡ t = cc in
    let tail : numbers xs ≡ c = cc in
    (λ i. ((ap (λ (z : K × Fp). z.0) f ∙ ap (λ (z : K × ℕ). z.0) head) i, (s ∙ ap (λ (z : K × Fp). n * z.1.value % p) e ∙ ap (λ (z : K × ℕ). n * z.1 % p) head) i) ∷ tail i)
multiplied_next p n (a ∷ xs) (t ∷ c) (suc i) x y m l e f s h =
    let head : (a.0, a.1.value) ≡ (t.0, n * t.1 % p) = cc in
    let tail : numbers xs ≡ products p n (take i c) ++ drop i c = cc in
    (λ j. head j ∷ multiplied_next p n xs c i x y m (omega arith) e f s tail j)
