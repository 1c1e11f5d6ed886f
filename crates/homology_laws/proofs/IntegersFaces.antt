-- Integer lists with a 0 are the degenerate ones, and sums over the faces of a list are read from functions with values in the integers.
use Rattle.std.proofs.Common.{◌≡◌, ℕ, zero, suc, ◌*◌, ◌%◌, ◌<◌, ◌≤◌, Bool, true, false, ◌||◌, not, cond, List, [], ◌∷◌, length, refl, sym, ◌∙◌, ap, subst, arith, true≢false}
use Rattle.std.proofs.Math.IntN.{ℤ, pos, negsuc, ◌+ℤ◌, ◌-ℤ◌}
use Rattle.std.proofs.lemmas.Int.{ints}
use Rattle.fp_field.specs.Field.{sign}
use Rattle.fp_field.specs.Chains.{weigh, faces_sum, keep}
use Rattle.fp_field.proofs.FlowLaws.{weigh-keep}
use Rattle.spaces.specs.Simplicial.{Simplicial, IsSimplicial, is_degenerate}
use Rattle.spaces.specs.Nerves.{integers, nerve_face, nerve_degeneracy, nerve_set}
use Rattle.spaces.proofs.Integers.{integers_abelian}
use Rattle.spaces.proofs.Nerves.{nerve_set_laws}
use Rattle.spaces.proofs.Degenerate.{degenerate_is, degenerate_so}
use Rattle.homology_laws.proofs.CellChains.{cell_d_of}
use Rattle.homology_laws.proofs.TableMaps.{weigh-placed}
use Rattle.homology_laws.proofs.IntegersSums.{Function, later, diff}
use Rattle.homology_laws.proofs.IntegersRead.{Reads, reads-by, reads-plus, reads-sign, reads-natural, signed}

abbrev pub X : Simplicial (List ℤ)
X = nerve_set integers

pub laws : IsSimplicial X
laws = nerve_set_laws integers integers_abelian

-- ---- lists with a 0

abbrev pub is_zero : ℤ → Bool
is_zero (pos zero) = true
is_zero (pos (suc n)) = false
is_zero (negsuc n) = false

abbrev pub has_zero : List ℤ → Bool
has_zero [] = false
has_zero (a ∷ x) = is_zero a || has_zero x

zero-is : (a : ℤ) → is_zero a ≡ true → a ≡ pos 0
zero-is (pos zero) e = refl
zero-is (pos (suc n)) e = absurd (true≢false (sym e))
zero-is (negsuc n) e = absurd (true≢false (sym e))

or_second : (a b : Bool) → b ≡ true → a || b ≡ true
or_second true b h = refl
or_second false b h = h

degeneracy-zero : (j : ℕ) (y : List ℤ) → has_zero (nerve_degeneracy integers j y) ≡ true
degeneracy-zero zero y = refl
degeneracy-zero (suc j) [] = refl
degeneracy-zero (suc j) (a ∷ y) = or_second (is_zero a) (has_zero (nerve_degeneracy integers j y)) (degeneracy-zero j y)

abbrev IsDegeneracy : List ℤ → Type 0
IsDegeneracy x = (j : ℕ) × (y : List ℤ) × (j ≤ length y) × (suc (length y) ≡ length x) × (x ≡ nerve_degeneracy integers j y)

zero-degeneracy : (x : List ℤ) → has_zero x ≡ true → IsDegeneracy x
zero-degeneracy [] h = absurd (true≢false (sym h))
zero-degeneracy (a ∷ x) h = by (is_zero a) refl h (λ g. zero-degeneracy x g)
  where
    by : (b : Bool) → is_zero a ≡ b → b || has_zero x ≡ true → (has_zero x ≡ true → IsDegeneracy x) → IsDegeneracy (a ∷ x)
    by true z g r = (0, x, omega arith, refl, ap (λ c. c ∷ x) (zero-is a z))
    by false z g r = let d = r g in (suc d.0, a ∷ d.1, omega (arith, d.2), ap suc d.3, ap (λ y. a ∷ y) d.4)

-- the degenerate lists are those with a 0
pub degenerate-zero : (n : ℕ) (x : List ℤ) → length x ≡ n → is_degenerate X n x ≡ has_zero x
degenerate-zero zero [] e = refl
degenerate-zero zero (a ∷ x) e = absurd (omega (arith, e))
degenerate-zero (suc n) x e = by (is_degenerate X (suc n) x) (has_zero x) refl refl
  where
    by : (b c : Bool) → is_degenerate X (suc n) x ≡ b → has_zero x ≡ c → b ≡ c
    by true true d h = refl
    by false false d h = refl
    by true false d h =
        let r = degenerate_is X laws n x (e, λ i k l. tt) d in
        absurd (true≢false (sym (degeneracy-zero r.0 r.1) ∙ ap has_zero (sym r.4) ∙ h))
    by false true d h =
        let r = zero-degeneracy x h in
        let l : length r.1 ≡ n = omega (arith, r.3, e) in
        absurd (true≢false (sym (degenerate_so X laws n r.0 r.1 (l, λ i k m. tt) (omega (arith, r.2, l))) ∙ ap (is_degenerate X (suc n)) (sym r.4) ∙ d))

-- ---- sums over faces

module _ (p : ℕ) (positive : 0 < p) where
  -- the alternating sum of the first k values
  abbrev alternating : (ℕ → ℤ) → ℕ → ℤ
  alternating T zero = pos 0
  alternating T (suc k) = signed p positive k (T k) +ℤ alternating T k

  first-apart : (T : ℕ → ℤ) (k : ℕ) → alternating T (suc k) ≡ T 0 -ℤ alternating (λ i. T (suc i)) k
  first-apart T zero = omega (arith, ints)
  first-apart T (suc k) = omega (arith, ints, first-apart T k)

  later-is : (U : Function) (a : ℤ) (x : List ℤ) → alternating (λ i. U (nerve_face integers (suc i) (a ∷ x))) (suc (length x)) ≡ later U (a ∷ x)
  later-is U a [] = omega (arith, ints)
  later-is U a (b ∷ x) =
      first-apart (λ i. U (nerve_face integers (suc i) (a ∷ (b ∷ x)))) (suc (length x))
      ∙ ap (λ z. U ((a +ℤ b) ∷ x) -ℤ z) (later-is (λ y. U (a ∷ y)) b x)

  diff-is : (U : Function) (a : ℤ) (x : List ℤ) → alternating (λ i. U (nerve_face integers i (a ∷ x))) (suc (suc (length x))) ≡ diff U (a ∷ x)
  diff-is U a x = first-apart (λ i. U (nerve_face integers i (a ∷ x))) (suc (length x)) ∙ ap (λ z. U x -ℤ z) (later-is U a x)

  reads-faces : (u : List ℤ → ℕ) (U : Function) (x : List ℤ) (k : ℕ) → ((i : ℕ) → i < k → Reads p (u (nerve_face integers i x)) (U (nerve_face integers i x)))
      → Reads p (weigh u (faces_sum p (nerve_face integers) k x)) (alternating (λ i. U (nerve_face integers i x)) k)
  reads-faces u U x zero r = reads-natural p 0
  reads-faces u U x (suc k) r =
      reads-plus p positive (sign p k * u (nerve_face integers k x)) (weigh u (faces_sum p (nerve_face integers) k x)) (signed p positive k (U (nerve_face integers k x)))
      (alternating (λ i. U (nerve_face integers i x)) k) (reads-sign p positive k (u (nerve_face integers k x)) (U (nerve_face integers k x)) (r k (omega arith)))
      (reads-faces u U x k (λ i l. r i (omega arith)))

  -- a weight of cells that is read from a function
  abbrev pub IsReadFree : (ℕ × List ℤ → ℕ) → Function → Type 0
  IsReadFree u U = (y : List ℤ) → has_zero y ≡ false → Reads p (u (length y, y)) (U y)

  -- and the function is 0 on degenerate lists
  pub record IsRead (u : ℕ × List ℤ → ℕ) (U : Function) : Type 0 where
    pub free : IsReadFree u U
    pub degenerate : (y : List ℤ) → has_zero y ≡ true → U y ≡ pos 0

  read-kept : (u : ℕ × List ℤ → ℕ) (U : Function) → IsRead u U → (n : ℕ) (y : List ℤ) → length y ≡ n
      → Reads p (cond (not (is_degenerate X n y)) (u (n, y)) 0) (U y)
  read-kept u U is n y e =
      subst (λ m. Reads p (cond (not (is_degenerate X m y)) (u (m, y)) 0) (U y)) e
      (subst (λ b. Reads p (cond (not b) (u (length y, y)) 0) (U y)) (sym (degenerate-zero (length y) y refl)) (by (has_zero y) refl))
    where
      by : (b : Bool) → has_zero y ≡ b → Reads p (cond (not b) (u (length y, y)) 0) (U y)
      by true h = subst (Reads p 0) (sym (is.degenerate y h)) (reads-natural p 0)
      by false h = is.free y h

  pub read-d : (u : ℕ × List ℤ → ℕ) (U : Function) → IsRead u U → (x : List ℤ) → Reads p (weigh u (cell_d_of X p (length x, x))) (diff U x)
  read-d u U is [] = reads-natural p 0
  read-d u U is (a ∷ x) =
      reads-by p (weigh u (cell_d_of X p (suc (length x), a ∷ x))) (weigh v (faces_sum p (nerve_face integers) (suc (suc (length x))) (a ∷ x))) (diff U (a ∷ x))
      (ap (λ k. k % p) (weigh-placed u (length x) (keep (λ y. not (is_degenerate X (length x) y)) (faces_sum p (nerve_face integers) (suc (suc (length x))) (a ∷ x)))
      ∙ weigh-keep (λ y. u (length x, y)) (λ y. not (is_degenerate X (length x) y)) (faces_sum p (nerve_face integers) (suc (suc (length x))) (a ∷ x))))
      (subst (Reads p (weigh v (faces_sum p (nerve_face integers) (suc (suc (length x))) (a ∷ x)))) (diff-is U a x)
      (reads-faces v U (a ∷ x) (suc (suc (length x))) (λ i l. read-kept u U is (length x) (nerve_face integers i (a ∷ x)) (laws.face_in (length x) i (a ∷ x) (refl, λ j k m. tt) (omega arith)).0)))
    where
      v : List ℤ → ℕ
      v y = cond (not (is_degenerate X (length x) y)) (u (length x, y)) 0
