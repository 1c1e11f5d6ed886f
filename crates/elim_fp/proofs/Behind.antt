-- Rows behind one another: a row with a unit vector behind it, and the part of a row from a place on.
use Rattle.std.proofs.Common.{◌≡◌, ◌⊎◌, inl, inr, ℕ, zero, suc, ◌+◌, ◌-◌, ◌%◌, ◌<◌, ◌≤◌, ◌++◌, length, drop, set, refl, sym, ◌∙◌, ap, subst, arith, ext_get_or}
use Rattle.std.proofs.Math.Nat.{mod-eq_of_lt}
use Rattle.std.proofs.Math.ListN.{get_or-eq_default, get_or-append, length-append}
use Rattle.std.proofs.lemmas.Bool.{cases_lt, cases_eq}
use Rattle.std.proofs.lemmas.List.{get_or-set_same, get_or-set_other, length-set, length-drop, get_or-drop, get_or-append-add}
use Rattle.echelons.specs.Echelon.{Vector, IsVector, at_place, zeros}
use Rattle.echelons.proofs.Vectors.{below-at, place-zeros, length-zeros}
use Rattle.elim_fp.specs.Rows.{unit}

pub length-unit : (i n : ℕ) → length (unit i n) ≡ n
length-unit i zero = refl
length-unit zero (suc n) = ap suc (length-zeros n)
length-unit (suc i) (suc n) = ap suc (length-unit i n)

pub unit-at : (i n : ℕ) → i < n → at_place (unit i n) i ≡ 1
unit-at i zero l = absurd (omega arith)
unit-at zero (suc n) l = refl
unit-at (suc i) (suc n) l = unit-at i n (omega arith)

pub unit-other : (i n j : ℕ) → (j ≡ i → ⊥) → at_place (unit i n) j ≡ 0
unit-other i zero j d = refl
unit-other zero (suc n) zero d = absurd (d refl)
unit-other zero (suc n) (suc j) d = place-zeros n j
unit-other (suc i) (suc n) zero d = refl
unit-other (suc i) (suc n) (suc j) d = unit-other i n j (λ e. d (ap suc e))

module _ (p : ℕ) (pos : 0 < p) (w : ℕ) (v : Vector) (g : IsVector p w v) where
  copied : (a b : ℕ) → a ≡ 0 → at_place v b < p → (a + at_place v b) % p ≡ at_place v b
  copied a b e l = ap (λ n. (n + at_place v b) % p) e ∙ ap (λ n. n % p) (let q : 0 + at_place v b ≡ at_place v b = omega arith in q) ∙ mod-eq_of_lt l

  pub tail-is : (h n : ℕ) (r : Vector) → h + n ≡ w → length r ≡ n → ((j : ℕ) → j < n → at_place r j ≡ (at_place (zeros n) j + at_place v (h + j)) % p) → r ≡ drop h v
  tail-is h n r e k f =
      ext_get_or 0 r (drop h v) (k ∙ sym (length-drop h v ∙ (let a : length v ≡ w = g.wide in let q : length v - h ≡ n = omega arith in q)))
      (λ j m. f j (subst (λ x. j < x) k m) ∙ copied (at_place (zeros n) j) (h + j) (place-zeros n j) (below-at p pos w v g (h + j)) ∙ sym (get_or-drop h v j 0))

  pub beside-is : 1 < p → (i n m : ℕ) (r new : Vector) → i < n → m ≡ w + n → length r ≡ m → ((j : ℕ) → j < m → at_place r j ≡ (at_place (zeros m) j + at_place v (0 + j)) % p)
      → new ≡ set r (w + i) ((at_place r (w + i) + 1) % p) → new ≡ v ++ unit i n
  beside-is above i n m r new l t k f e =
      e ∙ ext_get_or 0 (set r (w + i) ((at_place r (w + i) + 1) % p)) (v ++ unit i n)
      (length-set r (w + i) ((at_place r (w + i) + 1) % p) ∙ k ∙ t ∙ sym (length-append v (unit i n) ∙ (let a : length v ≡ w = g.wide in let b : length (unit i n) ≡ n = length-unit i n in let q : length v + length (unit i n) ≡ w + n = omega arith in q)))
      (λ j q. by j (subst (λ x. j < x) (length-set r (w + i) ((at_place r (w + i) + 1) % p) ∙ k ∙ t) q) (cases_lt j w) (cases_eq j (w + i)))
    where
      wide : length v ≡ w
      wide = g.wide

      old : (j : ℕ) → j < w + n → at_place r j ≡ at_place v j
      old j q = f j (subst (λ x. j < x) (sym t) q) ∙ ap (λ b. (at_place (zeros m) j + at_place v b) % p) (let s : 0 + j ≡ j = omega arith in s)
          ∙ copied (at_place (zeros m) j) j (place-zeros m j) (below-at p pos w v g j)

      past : (j : ℕ) → w ≤ j → at_place v j ≡ 0
      past j q = get_or-eq_default v 0 (subst (λ x. x ≤ j) (sym wide) q)

      behind : (j : ℕ) → w ≤ j → at_place (v ++ unit i n) j ≡ at_place (unit i n) (j - w)
      behind j q = ap (at_place (v ++ unit i n)) (let s : j ≡ length v + (j - w) = omega arith in s) ∙ get_or-append-add v (unit i n) (j - w) 0

      by : (j : ℕ) → j < w + n → (j < w) ⊎ (w ≤ j) → (j ≡ w + i) ⊎ (j ≡ w + i → ⊥) → at_place (set r (w + i) ((at_place r (w + i) + 1) % p)) j ≡ at_place (v ++ unit i n) j
      by j q (inl a) c =
          get_or-set_other r (w + i) j _ 0 (λ s. absurd (omega arith)) ∙ old j q ∙ sym (get_or-append v (unit i n) 0 j (subst (λ x. j < x) (sym wide) a))
      by j q (inr a) (inl c) =
          ap (at_place (set r (w + i) ((at_place r (w + i) + 1) % p))) c
          ∙ get_or-set_same r (w + i) _ 0 (subst (λ x. w + i < x) (sym (k ∙ t)) (omega arith))
          ∙ ap (λ x. (x + 1) % p) (old (w + i) (omega arith) ∙ past (w + i) (omega arith)) ∙ mod-eq_of_lt above
          ∙ sym (behind j a ∙ ap (at_place (unit i n)) (let s : j - w ≡ i = omega arith in s) ∙ unit-at i n l)
      by j q (inr a) (inr c) =
          get_or-set_other r (w + i) j _ 0 c ∙ old j q ∙ past j a
          ∙ sym (behind j a ∙ unit-other i n (j - w) (λ s. c (omega arith)))
