-- The terms of a vector, read off the entries of a row that are kept.
use Rattle.std.proofs.Common.{◌≡◌, ℕ, zero, suc, ◌+◌, ◌*◌, ◌-◌, ◌%◌, ◌<◌, ◌≤◌, List, [], ◌∷◌, ◌++◌, length, take, get_or, ◌⊎◌, inl, inr, refl, sym, ◌∙◌, ap, subst, arith}
use Rattle.std.specs.Prelude.{Option, Some, None, slice_get}
use Rattle.std.specs.Ordering.{nat_cmp, eq_by_cmp}
use Rattle.std.specs.Cmp.{nat_cmp_is}
use Rattle.std.specs.declared.cmp.Ordering.TheVariants.{Less, Equal, Greater}
use Rattle.std.proofs.Math.Nat.{mod-eq_of_lt, zero-mod}
use Rattle.std.proofs.Math.Seq.{take-suc}
use Rattle.std.proofs.lemmas.Bool.{cases_order}
use Rattle.std.proofs.lemmas.Cmp.{nat_cmp_total}
use Rattle.fp_field.specs.declared.prime.Prime.{Prime}
use Rattle.fp_field.specs.declared.element.Fp.{Fp}
use Rattle.fp_field.specs.Field.{number}
use Rattle.fp_field.specs.Chains.{Terms, Each, coeff}
use Rattle.fp_field.specs.Normal.{IsNormal}
use Rattle.chain_core.specs.Formal.{numbers}
use Rattle.chain_core.proofs.Rising.{Rises, rises}
use Rattle.chain_core.proofs.SumLemmas.{numbers-append}
use Rattle.echelons.specs.Echelon.{Vector}
use Rattle.elim_fp.specs.Rows.{entries_from, dense}
use Rattle.elim_fp.proofs.Entries.{hit-same, hit-other}
use Rattle.homology_rules.specs.Vectors.{terms_over}

-- ---- the entries that a walk has met

abbrev pub with_number : {K : Type 0} → ℕ → Option K → Terms K → Terms K
with_number b None c = c
with_number b (Some y) c = (y, b) ∷ c

-- the cells at the places of some entries, which count from i
abbrev pub picks : {K : Type 0} → ℕ → List K → Terms ℕ → Terms K
picks i ys [] = []
picks i ys (t ∷ c) = with_number t.1 (slice_get ys (t.0 - i)) (picks i ys c)

picks-append : {K : Type 0} (i : ℕ) (ys : List K) (c d : Terms ℕ) → picks i ys (c ++ d) ≡ picks i ys c ++ picks i ys d
picks-append i ys [] d = refl
picks-append {K} i ys (t ∷ c) d = by (slice_get ys (t.0 - i)) (picks-append i ys c d)
  where
    by : (o : Option K) → picks i ys (c ++ d) ≡ picks i ys c ++ picks i ys d → with_number t.1 o (picks i ys (c ++ d)) ≡ with_number t.1 o (picks i ys c) ++ picks i ys d
    by None e = e
    by (Some y) e = ap (λ z. (y, t.1) ∷ z) e

slice_get-in : {K : Type 0} (ys : List K) (i : ℕ) (y : K) → i < length ys → y ≡ get_or ys i y → slice_get ys i ≡ Some y
slice_get-in [] i y l e = absurd (omega arith)
slice_get-in (x ∷ ys) zero y l e = ap (λ z. Some z) (sym e)
slice_get-in (x ∷ ys) (suc i) y l e = slice_get-in ys i y (omega arith) e

slice_get-out : {K : Type 0} (ys : List K) (i : ℕ) → length ys ≤ i → slice_get ys i ≡ None
slice_get-out [] i l = refl
slice_get-out (x ∷ ys) zero l = absurd (omega arith)
slice_get-out (x ∷ ys) (suc i) l = slice_get-out ys i (omega arith)

module _ {K : Type 0} (ys : List K) (xs : List (ℕ × Fp)) (i : ℕ) (d : ℕ × Fp) (l : i < length xs) (old : List (K × Fp))
    (h : numbers old ≡ picks 0 ys (numbers (take i xs))) where
  abbrev x : ℕ × Fp
  x = get_or xs i d

  one_more : numbers (take (i + 1) xs) ≡ numbers (take i xs) ++ (x.0, x.1.value) ∷ []
  one_more = ap (λ n. numbers (take n xs)) (let q : i + 1 ≡ suc i = omega arith in q) ∙ ap numbers (take-suc xs i d l) ∙ numbers-append (take i xs) (x ∷ [])

  split : picks 0 ys (numbers (take (i + 1) xs)) ≡ picks 0 ys (numbers (take i xs)) ++ with_number x.1.value (slice_get ys (x.0 - 0)) []
  split = ap (picks 0 ys) one_more ∙ picks-append 0 ys (numbers (take i xs)) ((x.0, x.1.value) ∷ [])

  pub picked_in : (y z : K) (new : List (K × Fp)) → (get_or xs i d).0 < length ys → y ≡ get_or ys (get_or xs i d).0 y → z ≡ y → new ≡ old ++ (z, (get_or xs i d).1) ∷ []
      → numbers new ≡ picks 0 ys (numbers (take (i + 1) xs))
  picked_in y z new m e f g =
      ap numbers g ∙ numbers-append old ((z, x.1) ∷ []) ∙ (λ j. h j ++ (f j, x.1.value) ∷ [])
      ∙ ap (λ o. picks 0 ys (numbers (take i xs)) ++ with_number x.1.value o []) (sym (ap (slice_get ys) (let q : x.0 - 0 ≡ x.0 = omega arith in q) ∙ slice_get-in ys x.0 y m e)) ∙ sym split

  pub picked_out : (new : List (K × Fp)) → length ys ≤ (get_or xs i d).0 → new ≡ old → numbers new ≡ picks 0 ys (numbers (take (i + 1) xs))
  picked_out new m f =
      ap numbers f ∙ h ∙ sym (append-nothing (picks 0 ys (numbers (take i xs))))
      ∙ ap (λ o. picks 0 ys (numbers (take i xs)) ++ with_number x.1.value o []) (sym (ap (slice_get ys) (let q : x.0 - 0 ≡ x.0 = omega arith in q) ∙ slice_get-out ys x.0 m)) ∙ sym split
    where
      append-nothing : (zs : Terms K) → zs ++ [] ≡ zs
      append-nothing [] = refl
      append-nothing (z ∷ zs) = ap (λ c. z ∷ c) (append-nothing zs)

-- ---- all entries

module _ (p : ℕ) where
  -- the places rise from i on, and each number is one of F_p and not 0
  abbrev Fine : ℕ → Terms ℕ → Type 0
  Fine i [] = Unit {0}
  Fine i (t ∷ c) = (i ≤ t.0) × (0 < t.1) × (t.1 < p) × Fine (suc t.0) c

  fine-lower : (i j : ℕ) (c : Terms ℕ) → j ≤ i → Fine i c → Fine j c
  fine-lower i j [] l h = tt
  fine-lower i j (t ∷ c) l h = (omega (arith, h.0), h.1, h.2, h.3)

  above_is : (k : ℕ) (c : Terms ℕ) → Each (λ x. nat_cmp k x ≡ Less) c → Each (λ x. suc k ≤ x) c
  above_is k [] h = tt
  above_is k (t ∷ c) h = (by (cases_order k t.0), above_is k c h.1)
    where
      by : (k ≡ t.0) ⊎ ((k < t.0) ⊎ (t.0 < k)) → suc k ≤ t.0
      by (inl e) = let f = nat_cmp_is k t.0 Equal e in let g : nat_cmp k t.0 ≡ Less = h.0 in absurd (cc (f, g))
      by (inr (inl m)) = omega arith
      by (inr (inr m)) = let f = nat_cmp_is k t.0 Greater m in let g : nat_cmp k t.0 ≡ Less = h.0 in absurd (cc (f, g))

  fine-rises : (i : ℕ) (c : Terms ℕ) → Each (λ x. i ≤ x) c → Rises nat_cmp p c → Fine i c
  fine-rises i [] h r = tt
  fine-rises i (t ∷ c) h r = (h.0, r.0, r.1, fine-rises (suc t.0) c (above_is t.0 c r.2) r.3)

  each-zero : (c : Terms ℕ) → Each (λ x. 0 ≤ x) c
  each-zero [] = tt
  each-zero (t ∷ c) = (omega arith, each-zero c)

  at_below : (i : ℕ) (c : Terms ℕ) → Fine (suc i) c → coeff (eq_by_cmp nat_cmp) c i ≡ 0
  at_below i [] h = refl
  at_below i (t ∷ c) h =
      ap (λ n. t.1 * n + coeff (eq_by_cmp nat_cmp) c i) (hit-other t.0 i (λ e. absurd (omega (arith, e, h.0))))
      ∙ (let r : coeff (eq_by_cmp nat_cmp) c i ≡ 0 = at_below i c (fine-lower (suc t.0) (suc i) c (omega (arith, h.0)) h.3) in
      let q : t.1 * 0 + coeff (eq_by_cmp nat_cmp) c i ≡ 0 = omega arith in q)

  at_first : (i : ℕ) (t : ℕ × ℕ) (c : Terms ℕ) → t.0 ≡ i → Fine (suc i) c → coeff (eq_by_cmp nat_cmp) (t ∷ c) i ≡ t.1
  at_first i t c e h =
      ap (λ n. t.1 * n + coeff (eq_by_cmp nat_cmp) c i) (hit-same t.0 i e)
      ∙ (let r : coeff (eq_by_cmp nat_cmp) c i ≡ 0 = at_below i c h in let q : t.1 * 1 + coeff (eq_by_cmp nat_cmp) c i ≡ t.1 = omega arith in q)

  entries-past : (j n : ℕ) (t : ℕ × ℕ) (c : Terms ℕ) → t.0 < j → entries_from p j n (t ∷ c) ≡ entries_from p j n c
  entries-past j zero t c l = refl
  entries-past j (suc n) t c l = λ k. first k ∷ entries-past (suc j) n t c (omega arith) k
    where
      first : coeff (eq_by_cmp nat_cmp) (t ∷ c) j % p ≡ coeff (eq_by_cmp nat_cmp) c j % p
      first = ap (λ n. n % p) (ap (λ n. t.1 * n + coeff (eq_by_cmp nat_cmp) c j) (hit-other t.0 j (λ e. absurd (omega (arith, e))))
          ∙ (let q : t.1 * 0 + coeff (eq_by_cmp nat_cmp) c j ≡ coeff (eq_by_cmp nat_cmp) c j = omega arith in q))

  module _ {K : Type 0} where
    picks-none : (i : ℕ) (c : Terms ℕ) → picks {K = K} i [] c ≡ []
    picks-none i [] = refl
    picks-none i (t ∷ c) = picks-none i c

    picks-down : (i : ℕ) (y : K) (ys : List K) (c : Terms ℕ) → Fine (suc i) c → picks i (y ∷ ys) c ≡ picks (suc i) ys c
    picks-down i y ys [] h = refl
    picks-down i y ys (t ∷ c) h =
        λ j. with_number t.1 (slice_get (y ∷ ys) (same j)) (picks-down i y ys c (fine-lower (suc t.0) (suc i) c (omega (arith, h.0)) h.3) j)
      where
        same : t.0 - i ≡ suc (t.0 - suc i)
        same = let l : suc i ≤ t.0 = h.0 in omega arith

    over-positive : (y : K) (ys : List K) (b : ℕ) (v : Vector) → 0 < b → terms_over (y ∷ ys) (b ∷ v) ≡ (y, b) ∷ terms_over ys v
    over-positive y ys zero v l = absurd (omega arith)
    over-positive y ys (suc b) v l = refl

    pub picked_from : (ys : List K) (i : ℕ) (c : Terms ℕ) → Fine i c → picks i ys c ≡ terms_over ys (entries_from p i (length ys) c)
    picked_from [] i c h = picks-none i c
    picked_from (y ∷ ys) i [] h =
        picked_from ys (suc i) [] tt ∙ ap (λ b. terms_over (y ∷ ys) (b ∷ entries_from p (suc i) (length ys) [])) (sym (zero-mod p))
    picked_from (y ∷ ys) i (t ∷ c) h = by (cases_order t.0 i) (picked_from ys)
      where
        by : (t.0 ≡ i) ⊎ ((t.0 < i) ⊎ (i < t.0)) → ((j : ℕ) (d : Terms ℕ) → Fine j d → picks j ys d ≡ terms_over ys (entries_from p j (length ys) d))
            → picks i (y ∷ ys) (t ∷ c) ≡ terms_over (y ∷ ys) (entries_from p i (suc (length ys)) (t ∷ c))
        by (inl e) ih =
            ap (λ m. with_number t.1 (slice_get (y ∷ ys) m) (picks i (y ∷ ys) c)) (let q : t.0 - i ≡ 0 = omega (arith, e) in q)
            ∙ ap (λ z. (y, t.1) ∷ z)
            (picks-down i y ys c fine ∙ ih (suc i) c fine ∙ ap (terms_over ys) (sym (entries-past (suc i) (length ys) t c (let l : t.0 < suc i = omega (arith, e) in l))))
            ∙ sym (over-positive y ys t.1 (entries_from p (suc i) (length ys) (t ∷ c)) h.1)
            ∙ ap (λ b. terms_over (y ∷ ys) (b ∷ entries_from p (suc i) (length ys) (t ∷ c))) (sym (ap (λ n. n % p) (at_first i t c e fine) ∙ mod-eq_of_lt h.2))
          where
            fine : Fine (suc i) c
            fine = subst (λ m. Fine (suc m) c) e h.3
        by (inr (inl l)) ih = absurd (omega (arith, h.0))
        by (inr (inr l)) ih =
            picks-down i y ys (t ∷ c) fine ∙ ih (suc i) (t ∷ c) fine
            ∙ ap (λ b. terms_over (y ∷ ys) (b ∷ entries_from p (suc i) (length ys) (t ∷ c))) (sym (ap (λ n. n % p) (at_below i (t ∷ c) fine) ∙ zero-mod p))
          where
            fine : Fine (suc i) (t ∷ c)
            fine = (let m : suc i ≤ t.0 = omega arith in m, h.1, h.2, h.3)

-- the entries that are kept of a row are the terms of its vector
pub picked_all : (q : Prime) {K : Type 0} (ys : List K) (c : Terms ℕ) (v : Vector) → IsNormal nat_cmp (number q) c → length v ≡ length ys → v ≡ dense (number q) (length v) c
    → picks 0 ys c ≡ terms_over ys v
picked_all q ys c v n l e =
    picked_from (number q) ys 0 c (fine-rises (number q) 0 c (each-zero (number q) c) (rises nat_cmp nat_cmp_total q c n))
    ∙ ap (terms_over ys) (ap (λ m. dense (number q) m c) (sym l) ∙ sym e)
