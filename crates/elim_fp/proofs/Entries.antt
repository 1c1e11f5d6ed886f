-- The entries of a row: one that is added to, and those that a walk over the terms has met.
use Rattle.std.proofs.Common.{◌≡◌, ◌⊎◌, inl, inr, ℕ, zero, suc, ◌+◌, ◌*◌, ◌-◌, ◌%◌, ◌<◌, ◌≤◌, [], ◌∷◌, ◌++◌, List, length, take, set, get_or, cond, ltb, refl, sym, ◌∙◌, ap, subst, arith, ext_get_or}
use Rattle.std.proofs.Math.Nat.{mod-mod, zero-mod, mod-eq_of_lt}
use Rattle.std.proofs.Math.Seq.{take-suc}
use Rattle.std.proofs.Math.ListN.{get_or-eq_default}
use Rattle.std.specs.Ordering.{nat_cmp, is_eq}
use Rattle.std.specs.Cmp.{nat_cmp_is}
use Rattle.std.specs.declared.cmp.Ordering.TheVariants.{Less, Equal, Greater}
use Rattle.std.proofs.lemmas.Bool.{cases_order, cases_eq, cases_lt, lt-ltb, le-ltb}
use Rattle.std.proofs.lemmas.List.{get_or-set_same, get_or-set_other, length-set, take_all}
use Rattle.fp_field.specs.Chains.{Terms}
use Rattle.fp_field.specs.Normal.{normal}
use Rattle.fp_field.specs.declared.element.Fp.{Fp}
use Rattle.fp_field.proofs.Mod.{same-plus}
use Rattle.fp_field.proofs.Normals.{weigh-normal}
use Rattle.fp_field.proofs.Weights.{weigh-append}
use Rattle.chain_core.specs.Formal.{numbers}
use Rattle.chain_core.proofs.SumLemmas.{numbers-append}
use Rattle.echelons.specs.Echelon.{Vector, at_place, zeros}
use Rattle.elim_fp.specs.Rows.{dense, entries_from}
use Rattle.elim_fp.proofs.Dense.{at, length-entries, dense-at, same_from_equal}

-- 1 where a key is a place, and else 0
abbrev pub hit : ℕ → ℕ → ℕ
hit k j = cond (is_eq (nat_cmp k j)) 1 0

pub hit-same : (k j : ℕ) → k ≡ j → hit k j ≡ 1
hit-same k j e = ap (λ o. cond (is_eq o) 1 0) (sym (nat_cmp_is k j Equal e))

pub hit-other : (k j : ℕ) → (k ≡ j → ⊥) → hit k j ≡ 0
hit-other k j d = by (cases_order k j)
  where
    by : (k ≡ j) ⊎ ((k < j) ⊎ (j < k)) → hit k j ≡ 0
    by (inl e) = absurd (d e)
    by (inr (inl l)) = ap (λ o. cond (is_eq o) 1 0) (sym (nat_cmp_is k j Less l))
    by (inr (inr l)) = ap (λ o. cond (is_eq o) 1 0) (sym (nat_cmp_is k j Greater l))

module _ (p : ℕ) where
  add-mod_left : (a b : ℕ) → (a % p + b) % p ≡ (a + b) % p
  add-mod_left a b = same-plus p (a % p) a b b (mod-mod a p) refl

  pub dense-none : (i n : ℕ) → entries_from p i n [] ≡ zeros n
  dense-none i zero = refl
  dense-none i (suc n) = λ t. zero-mod p t ∷ dense-none (suc i) n t

  pub dense-added : (w k a : ℕ) (c e : Terms ℕ) → k < w → e ≡ normal nat_cmp p ((k, a) ∷ c)
      → dense p w e ≡ set (dense p w c) k ((at_place (dense p w c) k + a) % p)
  dense-added w k a c e l f =
      ext_get_or 0 (dense p w e) (set (dense p w c) k ((at_place (dense p w c) k + a) % p))
      (length-entries p 0 w e ∙ sym (length-set (dense p w c) k ((at_place (dense p w c) k + a) % p) ∙ length-entries p 0 w c))
      (λ j m. let m' : j < w = subst (λ n. j < n) (length-entries p 0 w e) m in by j m' (cases_eq j k))
    where
      sum : (j : ℕ) → j < w → at_place (dense p w e) j ≡ (a * hit k j + at c j) % p
      sum j m = dense-at p w e j m ∙ ap (λ x. at x j % p) f ∙ weigh-normal nat_cmp p same_from_equal (λ x. hit x j) ((k, a) ∷ c)

      by : (j : ℕ) → j < w → (j ≡ k) ⊎ (j ≡ k → ⊥) → at_place (dense p w e) j ≡ at_place (set (dense p w c) k ((at_place (dense p w c) k + a) % p)) j
      by j m (inl q) =
          sum j m ∙ ap (λ n. (a * n + at c j) % p) (hit-same k j (sym q))
          ∙ ap (λ n. n % p) (let r : a * 1 + at c j ≡ at c j + a = omega arith in r) ∙ sym (add-mod_left (at c j) a)
          ∙ ap (λ n. (n + a) % p) (sym (dense-at p w c j m)) ∙ ap (λ n. (at_place (dense p w c) n + a) % p) q
          ∙ sym (get_or-set_same (dense p w c) k ((at_place (dense p w c) k + a) % p) 0 (subst (λ n. k < n) (sym (length-entries p 0 w c)) l))
          ∙ ap (λ n. at_place (set (dense p w c) k ((at_place (dense p w c) k + a) % p)) n) (sym q)
      by j m (inr d) =
          sum j m ∙ ap (λ n. (a * n + at c j) % p) (hit-other k j (λ e. d (sym e)))
          ∙ ap (λ n. n % p) (let r : a * 0 + at c j ≡ at c j = omega arith in r) ∙ sym (dense-at p w c j m)
          ∙ sym (get_or-set_other (dense p w c) k j ((at_place (dense p w c) k + a) % p) 0 d)

-- ---- a walk over the terms

-- the sum of the numbers at a place among the first i terms
abbrev pub seen : List (ℕ × Fp) → ℕ → ℕ → ℕ
seen xs i j = at (numbers (take i xs)) j

pub seen-more : (xs : List (ℕ × Fp)) (i : ℕ) (d x : ℕ × Fp) (j : ℕ) → i < length xs → x ≡ get_or xs i d → seen xs (suc i) j ≡ seen xs i j + x.1.value * hit x.0 j
seen-more xs i d x j l e =
    ap (λ ys. at (numbers ys) j) (take-suc xs i d l ∙ ap (λ y. take i xs ++ y ∷ []) (sym e))
    ∙ ap (λ c. at c j) (numbers-append (take i xs) (x ∷ []))
    ∙ weigh-append (λ y. hit y j) (numbers (take i xs)) (numbers (x ∷ []))
    ∙ (let q : seen xs i j + (x.1.value * hit x.0 j + 0) ≡ seen xs i j + x.1.value * hit x.0 j = omega arith in q)

pub seen-all : (xs : List (ℕ × Fp)) (i j : ℕ) → length xs ≤ i → seen xs i j ≡ at (numbers xs) j
seen-all xs i j l = ap (λ ys. at (numbers ys) j) (take_all i xs l)

-- the same, of the places below a width alone
abbrev pub met : List (ℕ × Fp) → ℕ → ℕ → ℕ → ℕ
met xs w i j = cond (ltb j w) (seen xs i j) 0

met-in : (xs : List (ℕ × Fp)) (w i j : ℕ) → j < w → met xs w i j ≡ seen xs i j
met-in xs w i j l = ap (λ b. cond b (seen xs i j) 0) (lt-ltb j w l)

met-out : (xs : List (ℕ × Fp)) (w i j : ℕ) → w ≤ j → met xs w i j ≡ 0
met-out xs w i j l = ap (λ b. cond b (seen xs i j) 0) (le-ltb j w l)

met-kept : (xs : List (ℕ × Fp)) (w i : ℕ) (d x : ℕ × Fp) (j : ℕ) → i < length xs → x ≡ get_or xs i d → (j < w → x.0 ≡ j → ⊥) → met xs w (suc i) j ≡ met xs w i j
met-kept xs w i z x j l e d = by (cases_lt j w)
  where
    by : (j < w) ⊎ (w ≤ j) → met xs w (suc i) j ≡ met xs w i j
    by (inl m) = met-in xs w (suc i) j m ∙ seen-more xs i z x j l e ∙ ap (λ n. seen xs i j + x.1.value * n) (hit-other x.0 j (d m))
        ∙ (let q : seen xs i j + x.1.value * 0 ≡ seen xs i j = omega arith in q) ∙ sym (met-in xs w i j m)
    by (inr m) = met-out xs w (suc i) j m ∙ sym (met-out xs w i j m)

met-hit : (xs : List (ℕ × Fp)) (w i : ℕ) (d x : ℕ × Fp) (j : ℕ) → i < length xs → x ≡ get_or xs i d → j < w → x.0 ≡ j → met xs w (suc i) j ≡ met xs w i j + x.1.value
met-hit xs w i z x j l e m f =
    met-in xs w (suc i) j m ∙ seen-more xs i z x j l e ∙ ap (λ n. seen xs i j + x.1.value * n) (hit-same x.0 j f)
    ∙ (let q : seen xs i j + x.1.value * 1 ≡ seen xs i j + x.1.value = omega arith in q) ∙ ap (λ n. n + x.1.value) (sym (met-in xs w i j m))

module _ (p : ℕ) (xs : List (ℕ × Fp)) (w n from : ℕ) (old : Vector) where
  -- the entries of a row from a place on, added to another row, as far as the walk has come
  abbrev pub Added : ℕ → Vector → Type 0
  Added i cur = (j : ℕ) → j < n → at_place cur j ≡ (at_place old j + met xs w i (from + j)) % p

  pub added-none : ((j : ℕ) → at_place old j < p) → Added 0 old
  added-none b j l =
      sym (mod-eq_of_lt (b j)) ∙ ap (λ m. m % p) (let q : at_place old j ≡ at_place old j + 0 = omega arith in q ∙ ap (λ m. at_place old j + m) (sym (none (cases_lt (from + j) w))))
    where
      none : (from + j < w) ⊎ (w ≤ from + j) → met xs w 0 (from + j) ≡ 0
      none (inl m) = met-in xs w 0 (from + j) m
      none (inr m) = met-out xs w 0 (from + j) m

  pub added-past : (i : ℕ) (d x : ℕ × Fp) (cur : Vector) → i < length xs → x ≡ get_or xs i d → (x.0 < from) ⊎ (w ≤ x.0) → Added i cur → Added (suc i) cur
  added-past i z x cur l e out h j m = h j m ∙ ap (λ k. (at_place old j + k) % p) (sym (met-kept xs w i z x (from + j) l e (none out)))
    where
      none : (x.0 < from) ⊎ (w ≤ x.0) → from + j < w → x.0 ≡ from + j → ⊥
      none (inl k) q f = omega arith
      none (inr k) q f = omega arith

  pub added-more : (i : ℕ) (d x : ℕ × Fp) (cur new : Vector) → i < length xs → x ≡ get_or xs i d → from ≤ x.0 → x.0 < w → length cur ≡ n → x.0 - from < n
      → new ≡ set cur (x.0 - from) ((at_place cur (x.0 - from) + x.1.value) % p) → Added i cur → Added (suc i) new
  added-more i z x cur new l e a b len in' f h j m = ap (λ v. at_place v j) f ∙ by (cases_eq j (x.0 - from))
    where
      by : (j ≡ x.0 - from) ⊎ (j ≡ x.0 - from → ⊥) → at_place (set cur (x.0 - from) ((at_place cur (x.0 - from) + x.1.value) % p)) j ≡ (at_place old j + met xs w (suc i) (from + j)) % p
      by (inl q) =
          ap (λ k. at_place (set cur (x.0 - from) ((at_place cur (x.0 - from) + x.1.value) % p)) k) q
          ∙ get_or-set_same cur (x.0 - from) _ 0 (subst (λ k. x.0 - from < k) (sym len) in')
          ∙ ap (λ k. (at_place cur k + x.1.value) % p) (sym q) ∙ ap (λ k. (k + x.1.value) % p) (h j m)
          ∙ add-mod_left p (at_place old j + met xs w i (from + j)) x.1.value
          ∙ ap (λ k. k % p) (let r : (at_place old j + met xs w i (from + j)) + x.1.value ≡ at_place old j + (met xs w i (from + j) + x.1.value) = omega arith in r)
          ∙ ap (λ k. (at_place old j + k) % p) (sym (met-hit xs w i z x (from + j) l e (omega arith) (omega arith)))
      by (inr d) =
          get_or-set_other cur (x.0 - from) j _ 0 d ∙ h j m
          ∙ ap (λ k. (at_place old j + k) % p) (sym (met-kept xs w i z x (from + j) l e (λ r k. d (omega arith))))

  pub added-all : (i : ℕ) (cur v : Vector) → length xs ≤ i → v ≡ dense p w (numbers xs) → Added i cur
      → (j : ℕ) → j < n → at_place cur j ≡ (at_place old j + at_place v (from + j)) % p
  added-all i cur v l e h j m = h j m ∙ by (cases_lt (from + j) w)
    where
      by : (from + j < w) ⊎ (w ≤ from + j) → (at_place old j + met xs w i (from + j)) % p ≡ (at_place old j + at_place v (from + j)) % p
      by (inl k) =
          ap (λ x. (at_place old j + x) % p) (met-in xs w i (from + j) k ∙ seen-all xs i (from + j) l)
          ∙ same-plus p (at_place old j) (at_place old j) (at (numbers xs) (from + j)) (at (numbers xs) (from + j) % p) refl (sym (mod-mod _ p))
          ∙ ap (λ x. (at_place old j + x) % p) (sym (dense-at p w (numbers xs) (from + j) k) ∙ ap (λ u. at_place u (from + j)) (sym e))
      by (inr k) =
          ap (λ x. (at_place old j + x) % p) (met-out xs w i (from + j) k ∙ sym (get_or-eq_default v 0 (let q : length v ≤ from + j = subst (λ x. x ≤ from + j) (sym (ap length e ∙ length-entries p 0 w (numbers xs))) k in q)))
