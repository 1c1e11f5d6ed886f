-- The vector of a chain whose keys are places, and what sums of chains do to it.
use Rattle.std.proofs.Common.{◌≡◌, ◌⊎◌, inl, inr, ℕ, zero, suc, ◌+◌, ◌*◌, ◌%◌, ◌<◌, ◌≤◌, [], ◌∷◌, ◌++◌, List, length, take, get_or, cond, refl, sym, ◌∙◌, ap, subst, arith}
use Rattle.std.proofs.Math.Nat.{mod-lt, mod-eq_of_lt, mod-mod, zero-mod}
use Rattle.std.proofs.lemmas.List.Elements.{All-from_recursion}
use Rattle.std.specs.List.{AllByRecursion as Each}
use Rattle.std.specs.Ordering.{nat_cmp, eq_by_cmp, is_eq}
use Rattle.std.specs.declared.cmp.Ordering.TheVariants.{Less, Equal, Greater}
use Rattle.fp_field.specs.Field.{SameMod, number}
use Rattle.fp_field.specs.Chains.{Terms, scale, coeff}
use Rattle.fp_field.specs.Normal.{normal, IsNormal}
use Rattle.fp_field.proofs.Normals.{weigh-normal}
use Rattle.fp_field.proofs.Weights.{weigh-scale, weigh-append}
use Rattle.fp_field.proofs.Primes.{number_pos}
use Rattle.fp_field.specs.declared.prime.Prime.{Prime}
use Rattle.fp_field.specs.declared.element.Fp.{Fp}
use Rattle.chain_core.specs.Formal.{numbers}
use Rattle.chain_core.proofs.Rising.{rises, above_all}
use Rattle.chain_core.proofs.SumLemmas.{coeff-between, coeff-at}
use Rattle.std.proofs.lemmas.Cmp.{nat_cmp_total, ranked}
use Rattle.std.specs.Cmp.{nat_cmp_is}
use Rattle.std.proofs.lemmas.Bool.{cases_order}
use Rattle.std.proofs.lemmas.List.{get_or-take, length-take-le}
use Rattle.std.proofs.Math.ListN.{get_or-eq_default}
use Rattle.echelons.proofs.Leads.{lead-is}
use Rattle.fp_field.proofs.Mod.{same-plus, same-times}
use Rattle.echelons.specs.Echelon.{Vector, IsVector, at_place, vector_plus, multiple, lead}
use Rattle.elim_fp.specs.Rows.{entries_from, dense}

pub same_from_equal : (x y : ℕ) → nat_cmp x y ≡ Equal → x ≡ y
same_from_equal x y e = ranked x y Equal (sym e)

abbrev pub at : Terms ℕ → ℕ → ℕ
at c j = coeff (eq_by_cmp nat_cmp) c j

module _ (p : ℕ) where
  pub length-entries : (i n : ℕ) (c : Terms ℕ) → length (entries_from p i n c) ≡ n
  length-entries i zero c = refl
  length-entries i (suc n) c = ap suc (length-entries (suc i) n c)

  entries-below : 0 < p → (i n : ℕ) (c : Terms ℕ) → Each (λ a. a < p) (entries_from p i n c)
  entries-below pos i zero c = tt
  entries-below pos i (suc n) c = (mod-lt (at c i) pos, entries-below pos (suc i) n c)

  pub dense-vector : 0 < p → (w : ℕ) (c : Terms ℕ) → IsVector p w (dense p w c)
  dense-vector pos w c = record { wide = length-entries 0 w c; below = All-from_recursion (λ a. a < p) (dense p w c) (entries-below pos 0 w c) }

  entries-at : (i n : ℕ) (c : Terms ℕ) (j : ℕ) → j < n → at_place (entries_from p i n c) j ≡ at c (i + j) % p
  entries-at i zero c j l = absurd (omega arith)
  entries-at i (suc n) c zero l = ap (λ k. at c k % p) (let e : i ≡ i + 0 = omega arith in e)
  entries-at i (suc n) c (suc j) l = entries-at (suc i) n c j (omega arith) ∙ ap (λ k. at c k % p) (let e : suc i + j ≡ i + suc j = omega arith in e)

  pub dense-at : (w : ℕ) (c : Terms ℕ) (j : ℕ) → j < w → at_place (dense p w c) j ≡ at c j % p
  dense-at w c j l = entries-at 0 w c j l ∙ ap (λ k. at c k % p) (let e : 0 + j ≡ j = omega arith in e)

  -- a sum of a multiple
  entries-plus : (a i n : ℕ) (c d e : Terms ℕ) → ((j : ℕ) → SameMod p (at e j) (a * at d j + at c j))
      → entries_from p i n e ≡ vector_plus p (entries_from p i n c) (multiple p a (entries_from p i n d))
  entries-plus a i zero c d e h = refl
  entries-plus a i (suc n) c d e h = λ k. head k ∷ entries-plus a (suc i) n c d e h k
    where
      head : at e i % p ≡ (at c i % p + (a * (at d i % p)) % p) % p
      head =
          h i ∙ ap (λ m. m % p) (let q : a * at d i + at c i ≡ at c i + a * at d i = omega arith in q)
          ∙ sym (same-plus p (at c i % p) (at c i) ((a * (at d i % p)) % p) (a * at d i) (mod-mod (at c i) p)
          (mod-mod (a * (at d i % p)) p ∙ same-times p a (at d i % p) (at d i) (mod-mod (at d i) p)))

  pub dense-plus : (a w : ℕ) (c d e : Terms ℕ) → ((j : ℕ) → SameMod p (at e j) (a * at d j + at c j))
      → dense p w e ≡ vector_plus p (dense p w c) (multiple p a (dense p w d))
  dense-plus a w c d e h = entries-plus a 0 w c d e h

  entries-multiple : (a i n : ℕ) (c e : Terms ℕ) → ((j : ℕ) → SameMod p (at e j) (a * at c j))
      → entries_from p i n e ≡ multiple p a (entries_from p i n c)
  entries-multiple a i zero c e h = refl
  entries-multiple a i (suc n) c e h = λ k. head k ∷ entries-multiple a (suc i) n c e h k
    where
      head : at e i % p ≡ (a * (at c i % p)) % p
      head = h i ∙ sym (same-times p a (at c i % p) (at c i) (mod-mod (at c i) p))

  pub dense-multiple : (a w : ℕ) (c e : Terms ℕ) → ((j : ℕ) → SameMod p (at e j) (a * at c j)) → dense p w e ≡ multiple p a (dense p w c)
  dense-multiple a w c e h = entries-multiple a 0 w c e h

  entries-is : (i n : ℕ) (c : Terms ℕ) (v : Vector) → length v ≡ n → Each (λ a. a < p) v → ((j : ℕ) → j < n → SameMod p (at c (i + j)) (at_place v j)) → entries_from p i n c ≡ v
  entries-is i zero c [] e b h = refl
  entries-is i zero c (a ∷ v) e b h = absurd (omega arith)
  entries-is i (suc n) c [] e b h = absurd (omega arith)
  entries-is i (suc n) c (a ∷ v) e b h = λ k. head k ∷ entries-is (suc i) n c v (omega arith) b.1 (λ j l. ap (λ k. at c k % p) (let q : suc i + j ≡ i + suc j = omega arith in q) ∙ h (suc j) (omega arith)) k
    where
      head : at c i % p ≡ a
      head = ap (λ k. at c k % p) (let q : i ≡ i + 0 = omega arith in q) ∙ h 0 (omega arith) ∙ mod-eq_of_lt b.0

  pub dense-is : (w : ℕ) (c : Terms ℕ) (v : Vector) → length v ≡ w → Each (λ a. a < p) v → ((j : ℕ) → j < w → SameMod p (at c j) (at_place v j)) → dense p w c ≡ v
  dense-is w c v e b h = entries-is 0 w c v e b (λ j l. ap (λ k. at c k % p) (let q : 0 + j ≡ j = omega arith in q) ∙ h j l)

-- ---- sums in normal form

abbrev weight : ℕ → ℕ → ℕ
weight j x = cond (is_eq (nat_cmp x j)) 1 0

module _ (p : ℕ) where
  sum-at : (a : ℕ) (c d e : Terms ℕ) → e ≡ normal nat_cmp p (scale a d ++ c) → (j : ℕ) → SameMod p (at e j) (a * at d j + at c j)
  sum-at a c d e f j =
      ap (λ x. at x j % p) f ∙ weigh-normal nat_cmp p same_from_equal (weight j) (scale a d ++ c)
      ∙ ap (λ n. n % p) (weigh-append (weight j) (scale a d) c ∙ ap (λ n. n + at c j) (weigh-scale (weight j) a d))

  multiple-at : (a : ℕ) (c e : Terms ℕ) → e ≡ normal nat_cmp p (scale a c) → (j : ℕ) → SameMod p (at e j) (a * at c j)
  multiple-at a c e f j =
      ap (λ x. at x j % p) f ∙ weigh-normal nat_cmp p same_from_equal (weight j) (scale a c) ∙ ap (λ n. n % p) (weigh-scale (weight j) a c)

  pub dense-sum : (a w : ℕ) (c d e : Terms ℕ) → e ≡ normal nat_cmp p (scale a d ++ c) → dense p w e ≡ vector_plus p (dense p w c) (multiple p a (dense p w d))
  dense-sum a w c d e f = dense-plus p a w c d e (sum-at a c d e f)

  pub dense-scaled : (a w : ℕ) (c e : Terms ℕ) → e ≡ normal nat_cmp p (scale a c) → dense p w e ≡ multiple p a (dense p w c)
  dense-scaled a w c e f = dense-multiple p a w c e (multiple-at a c e f)

  -- the terms of the first i numbers of a vector, and then of one more
  pub next-at : (v : Vector) (i : ℕ) (c e : Terms ℕ) → i < length v → e ≡ normal nat_cmp p ((i, get_or v i 0) ∷ c)
      → ((j : ℕ) → SameMod p (at c j) (at_place (take i v) j)) → (j : ℕ) → SameMod p (at e j) (at_place (take (suc i) v) j)
  next-at v i c e l f h j =
      ap (λ x. at x j % p) f ∙ weigh-normal nat_cmp p same_from_equal (weight j) ((i, get_or v i 0) ∷ c)
      ∙ same-plus p (get_or v i 0 * weight j i) (get_or v i 0 * weight j i) (at c j) (at_place (take i v) j) refl (h j)
      ∙ ap (λ n. n % p) (by (cases_order i j))
    where
      by : (i ≡ j) ⊎ ((i < j) ⊎ (j < i)) → get_or v i 0 * weight j i + at_place (take i v) j ≡ at_place (take (suc i) v) j
      by (inl q) =
          let one : weight j i ≡ 1 = ap (λ o. cond (is_eq o) 1 0) (sym (nat_cmp_is i j Equal q)) in
          let none : at_place (take i v) j ≡ 0 = get_or-eq_default (take i v) 0 (let m : length (take i v) ≤ j = omega (arith, length-take-le i v (omega arith)) in m) in
          let here : at_place (take (suc i) v) j ≡ get_or v i 0 = get_or-take (suc i) v j 0 (omega arith) ∙ ap (at_place v) (sym q) in
          rw (one, none, here) (omega arith)
      by (inr (inl m)) =
          let no : weight j i ≡ 0 = ap (λ o. cond (is_eq o) 1 0) (sym (nat_cmp_is i j Less m)) in
          let none : at_place (take i v) j ≡ 0 = get_or-eq_default (take i v) 0 (let m : length (take i v) ≤ j = omega (arith, length-take-le i v (omega arith)) in m) in
          let later : at_place (take (suc i) v) j ≡ 0 = get_or-eq_default (take (suc i) v) 0 (let m : length (take (suc i) v) ≤ j = omega (arith, length-take-le (suc i) v (omega arith)) in m) in
          rw (no, none, later) (omega arith)
      by (inr (inr m)) =
          let no : weight j i ≡ 0 = ap (λ o. cond (is_eq o) 1 0) (sym (nat_cmp_is i j Greater m)) in
          let here : at_place (take i v) j ≡ at_place v j = get_or-take i v j 0 m in
          let later : at_place (take (suc i) v) j ≡ at_place v j = get_or-take (suc i) v j 0 (omega arith) in
          rw (no, here, later) (omega arith)

-- ---- the leading place

lead-nothing : (n : ℕ) (v : Vector) → length v ≡ n → ((j : ℕ) → j < n → at_place v j ≡ 0) → lead v ≡ n
lead-nothing zero [] e h = refl
lead-nothing zero (a ∷ v) e h = absurd (omega arith)
lead-nothing (suc n) [] e h = absurd (omega arith)
lead-nothing (suc n) (zero ∷ v) e h = ap suc (lead-nothing n v (omega arith) (λ j l. h (suc j) (omega arith)))
lead-nothing (suc n) (suc a ∷ v) e h = let q : suc a ≡ 0 = h 0 (omega arith) in absurd (omega arith)

module _ (q : Prime) (w : ℕ) where
  lower-at : (t : ℕ × ℕ) (c : Terms ℕ) → IsNormal nat_cmp (number q) (t ∷ c) → (j : ℕ) → j < t.0 → at (t ∷ c) j ≡ 0
  lower-at t c n j l =
      let less : nat_cmp j t.0 ≡ Less = sym (nat_cmp_is j t.0 Less l) in
      coeff-between nat_cmp 0 nat_cmp_total (t ∷ c) j 0
      (record { within = omega arith; lower = tt; higher = (less, above_all nat_cmp (number q) nat_cmp_total (number_pos q) j t.0 c less (rises nat_cmp nat_cmp_total q (t ∷ c) n).2) })

  pub lead-first : (t : ℕ × ℕ) (c : Terms ℕ) → IsNormal nat_cmp (number q) (t ∷ c) → t.0 < w → t.0 ≡ lead (dense (number q) w (t ∷ c))
  lead-first t c n l =
      let r = rises nat_cmp nat_cmp_total q (t ∷ c) n in
      let here : at (t ∷ c) t.0 ≡ t.1 = coeff-at nat_cmp 0 nat_cmp_total (t ∷ c) t.0 0 (record { term = t; order = refl; lower = tt; equal = sym (nat_cmp_is t.0 t.0 Equal refl); higher = r.2 }) in
      sym (lead-is (dense (number q) w (t ∷ c)) t.0
      (λ i m. dense-at (number q) w (t ∷ c) i (omega arith) ∙ ap (λ x. x % number q) (lower-at t c n i m) ∙ zero-mod (number q))
      (subst (λ x. 0 < x) (sym (dense-at (number q) w (t ∷ c) t.0 l ∙ ap (λ x. x % number q) here ∙ mod-eq_of_lt r.1)) r.0))

  pub lead-past : (t : ℕ × ℕ) (c : Terms ℕ) → IsNormal nat_cmp (number q) (t ∷ c) → w ≤ t.0 → w ≡ lead (dense (number q) w (t ∷ c))
  lead-past t c n l = sym (lead-nothing w (dense (number q) w (t ∷ c)) (length-entries (number q) 0 w (t ∷ c))
      (λ i m. dense-at (number q) w (t ∷ c) i m ∙ ap (λ x. x % number q) (lower-at t c n i (omega arith)) ∙ zero-mod (number q)))

  pub lead-none : w ≡ lead (dense (number q) w [])
  lead-none = sym (lead-nothing w (dense (number q) w []) (length-entries (number q) 0 w []) (λ i m. dense-at (number q) w [] i m ∙ zero-mod (number q)))

  pub lead-found : (xs : List (ℕ × Fp)) (x : ℕ × Fp) (c : Terms ℕ) → 0 < length xs → ((d : ℕ × Fp) → x ≡ get_or xs 0 d) → numbers xs ≡ c → IsNormal nat_cmp (number q) c → x.0 < w → x.0 ≡ lead (dense (number q) w c)
  lead-found [] x c l e f n m = absurd (omega arith)
  lead-found (t ∷ xs) x c l e f n m =
      let k : t.0 < w = subst (λ y. y.0 < w) (e x) m in
      ap (λ y. y.0) (e x) ∙ lead-first (t.0, t.1.value) (numbers xs) (subst (IsNormal nat_cmp (number q)) (sym f) n) k ∙ ap (λ d. lead (dense (number q) w d)) f

  pub lead-beyond : (xs : List (ℕ × Fp)) (x : ℕ × Fp) (c : Terms ℕ) → 0 < length xs → ((d : ℕ × Fp) → x ≡ get_or xs 0 d) → numbers xs ≡ c → IsNormal nat_cmp (number q) c → w ≤ x.0 → w ≡ lead (dense (number q) w c)
  lead-beyond [] x c l e f n m = absurd (omega arith)
  lead-beyond (t ∷ xs) x c l e f n m =
      let k : w ≤ t.0 = subst (λ y. w ≤ y.0) (e x) m in
      lead-past (t.0, t.1.value) (numbers xs) (subst (IsNormal nat_cmp (number q)) (sym f) n) k ∙ ap (λ d. lead (dense (number q) w d)) f

  pub lead-empty : (xs : List (ℕ × Fp)) (c : Terms ℕ) → length xs ≤ 0 → numbers xs ≡ c → w ≡ lead (dense (number q) w c)
  lead-empty [] c l f = lead-none ∙ ap (λ d. lead (dense (number q) w d)) f
  lead-empty (t ∷ xs) c l f = absurd (omega arith)

pub away : (w u : ℕ) (q r : Prime) (a : ℕ) (s o e : Terms ℕ) → u ≡ w → r ≡ q → e ≡ normal nat_cmp (number q) (scale a o ++ s)
    → dense (number q) w e ≡ vector_plus (number q) (dense (number q) w s) (multiple (number q) a (dense (number r) u o))
away w u q r a s o e f g h =
    dense-sum (number q) a w s o e h
    ∙ (λ i. vector_plus (number q) (dense (number q) w s) (multiple (number q) a (dense (number (sym g i)) (sym f i) o)))
