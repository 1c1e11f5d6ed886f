-- What is left of a vector, one row of a reduced echelon list after the other, the last one first.
use Rattle.std.proofs.Common.{◌≡◌, ℕ, zero, suc, ◌+◌, ◌*◌, ◌-◌, ◌%◌, ◌<◌, List, [], ◌∷◌, length, drop, get_or, sym, ◌∙◌, ap, subst, arith}
use Rattle.std.proofs.Math.Nat.{mod-mod}
use Rattle.std.proofs.Math.Seq.{drop-cons}
use Rattle.fp_field.specs.Field.{SameMod, minus}
use Rattle.fp_field.proofs.Mod.{same-plus, same-times, same-by, pred-times}
use Rattle.echelons.specs.Echelon.{Vector, IsVector, at_place, vector_plus, multiple, lead, coordinates, remainder, IsReducedEchelon}
use Rattle.echelons.proofs.Vectors.{weight, place-plus, place-multiple, below-at, plus-vector, length-multiple, same-vector}
use Rattle.echelons.proofs.Leads.{lead-in}
use Rattle.std.proofs.Math.ListN.{length-map}
use Rattle.std.proofs.lemmas.List.{get_or-map, drop_all}
use Rattle.fp_field.specs.declared.prime.Prime.{Prime}
use Rattle.fp_field.specs.Field.{number}
use Rattle.fp_field.proofs.Primes.{number_pos}
use Rattle.elim_fp.specs.Rows.{DenseRow, vectors_of}
use Rattle.echelons.proofs.Rows.{Stairs, Stairs-from, remainder-vector, remainder-place}

module _ (p w : ℕ) (pos : 0 < p) where
  pub minus-same : (a : ℕ) → a < p → SameMod p (minus p a) ((p - 1) * a)
  minus-same a l = mod-mod (p - a) p ∙ same-by p (p - a) ((p - 1) * a) a 1 (omega (arith, pred-times p a pos))

  pub remainder-cons : (r : Vector) (rows : List Vector) (v : Vector) → Stairs p w (r ∷ rows) → IsVector p w v
      → vector_plus p (remainder p w rows v) (multiple p (minus p (at_place v (lead r))) r) ≡ remainder p w (r ∷ rows) v
  remainder-cons r rows v h g =
      let x = remainder-vector p w pos rows v h.3 g in
      let m = length-multiple p w (minus p (at_place v (lead r))) r h.0.wide in
      same-vector p pos w _ _ (plus-vector p pos w _ _ x.wide m) (remainder-vector p w pos (r ∷ rows) v h g)
      (λ j. place-plus p _ _ j (x.wide ∙ sym m)
      ∙ same-plus p _ (at_place v j + (p - 1) * weight (coordinates rows v) rows j) _ (at_place r j * ((p - 1) * at_place v (lead r))) (remainder-place p w pos rows v j h.3 g)
      (place-multiple p (minus p (at_place v (lead r))) r j ∙ ap (λ n. n % p) (turn (minus p (at_place v (lead r))) (at_place r j))
      ∙ same-times p (at_place r j) _ _ (minus-same (at_place v (lead r)) (below-at p pos w v g (lead r))))
      ∙ ap (λ n. n % p) (sums (at_place v j) (p - 1) (weight (coordinates rows v) rows j) (at_place r j) (at_place v (lead r)))
      ∙ sym (remainder-place p w pos (r ∷ rows) v j h g))
    where
      turn : (m z : ℕ) → m * z ≡ z * m
      turn m z = omega arith

      sums : (v k x z a : ℕ) → (v + k * x) + z * (k * a) ≡ v + k * (a * z + x)
      sums v k x z a = omega arith

  pub remainder-nil : (v : Vector) → IsVector p w v → v ≡ remainder p w [] v
  remainder-nil v g = same-vector p pos w v _ g (remainder-vector p w pos [] v tt g)
      (λ j. ap (λ n. n % p) (let q : at_place v j ≡ at_place v j + (p - 1) * 0 = omega arith in q) ∙ sym (remainder-place p w pos [] v j tt g))

  Stairs-drop : (i : ℕ) (rows : List Vector) → Stairs p w rows → Stairs p w (drop i rows)
  Stairs-drop zero rows h = h
  Stairs-drop (suc i) [] h = h
  Stairs-drop (suc i) (r ∷ rows) h = Stairs-drop i rows h.3

  -- the row at place i
  pub stair-at : (rows : List Vector) (i : ℕ) → IsReducedEchelon p w rows → i < length rows
      → Stairs p w (get_or rows i [] ∷ drop (suc i) rows)
  stair-at rows i e l = subst (Stairs p w) (drop-cons rows i [] l) (Stairs-drop i rows (Stairs-from p w rows e))

  pub lead-within_row : (rows : List Vector) (i : ℕ) → IsReducedEchelon p w rows → i < length rows → lead (get_or rows i []) < w
  lead-within_row rows i e l =
      let h = stair-at rows i e l in
      let one : at_place (get_or rows i []) (lead (get_or rows i [])) ≡ 1 = h.1 in
      subst (λ n. lead (get_or rows i []) < n) h.0.wide (lead-in (get_or rows i []) (lead (get_or rows i [])) (omega arith))

  pub remainder-step : (rows : List Vector) (i : ℕ) (rest v : Vector) → IsReducedEchelon p w rows → i < length rows → IsVector p w v → rest ≡ remainder p w (drop (suc i) rows) v
      → vector_plus p rest (multiple p (minus p (at_place v (lead (get_or rows i [])))) (get_or rows i [])) ≡ remainder p w (drop i rows) v
  remainder-step rows i rest v e l g f =
      ap (λ x. vector_plus p x (multiple p (minus p (at_place v (lead (get_or rows i [])))) (get_or rows i []))) f
      ∙ remainder-cons (get_or rows i []) (drop (suc i) rows) v (stair-at rows i e l) g
      ∙ ap (λ x. remainder p w x v) (sym (drop-cons rows i [] l))

-- ---- the same of rows

pub length-vectors : (xs : List DenseRow) → length (vectors_of xs) ≡ length xs
length-vectors xs = length-map xs (λ r. r.values)

pub row-values : (xs : List DenseRow) (i : ℕ) (x : DenseRow) → i < length xs → x ≡ get_or xs i x → x.values ≡ get_or (vectors_of xs) i []
row-values xs i x l e = ap (λ r. r.values) e ∙ sym (get_or-map (λ r. r.values) xs i x [] l)

module _ (q : Prime) (w : ℕ) (xs : List DenseRow) (h : IsReducedEchelon (number q) w (vectors_of xs)) where
  pub row-wide : (i : ℕ) (x : DenseRow) → i < length xs → x ≡ get_or xs i x → length x.values ≡ w
  row-wide i x l e =
      ap length (row-values xs i x l e) ∙ (stair-at (number q) w (number_pos q) (vectors_of xs) i h (subst (λ n. i < n) (sym (length-vectors xs)) l)).0.wide

  pub row-lead : (i : ℕ) (x : DenseRow) → i < length xs → x ≡ get_or xs i x → lead x.values < w
  row-lead i x l e = subst (λ v. lead v < w) (sym (row-values xs i x l e))
      (lead-within_row (number q) w (number_pos q) (vectors_of xs) i h (subst (λ n. i < n) (sym (length-vectors xs)) l))

  pub left-start : (v r : Vector) → IsVector (number q) w v → r ≡ v → r ≡ remainder (number q) w (drop (length xs) (vectors_of xs)) v
  left-start v r g e =
      e ∙ remainder-nil (number q) w (number_pos q) v g
      ∙ ap (λ vs. remainder (number q) w vs v) (sym (drop_all (length xs) (vectors_of xs) (omega (arith, length-vectors xs))))

  pub left-next : (s : Prime) (i l : ℕ) (x : DenseRow) (rest v new : Vector) (a : ℕ) → suc i ≡ l → i < length xs → x ≡ get_or xs i x → IsVector (number q) w v
      → rest ≡ remainder (number q) w (drop l (vectors_of xs)) v → s ≡ q → a ≡ at_place v (lead x.values)
      → new ≡ vector_plus (number s) rest (multiple (number s) (minus (number s) a) x.values) → new ≡ remainder (number q) w (drop i (vectors_of xs)) v
  left-next s i l x rest v new a k m e g f same b n =
      let rv = row-values xs i x m e in
      let av : a ≡ at_place v (lead (get_or (vectors_of xs) i [])) = b ∙ ap (λ y. at_place v (lead y)) rv in
      n ∙ (λ j. vector_plus (number (same j)) rest (multiple (number (same j)) (minus (number (same j)) (av j)) (rv j)))
      ∙ remainder-step (number q) w (number_pos q) (vectors_of xs) i rest v h (subst (λ n. i < n) (sym (length-vectors xs)) m) g
      (f ∙ ap (λ n. remainder (number q) w (drop n (vectors_of xs)) v) (sym k))
