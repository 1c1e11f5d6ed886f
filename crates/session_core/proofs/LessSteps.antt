-- A row less a combination: one row more.
use Rattle.std.proofs.Common.{◌≡◌, ℕ, zero, suc, ◌+◌, ◌*◌, ◌-◌, ◌%◌, ◌<◌, ◌≤◌, All, List, [], ◌∷◌, ◌++◌, length, take, get_or, min, refl, sym, ◌∙◌, ap, subst, arith}
use Rattle.std.proofs.Math.Seq.{take-suc}
use Rattle.std.proofs.lemmas.List.{length-take, take_all}
use Rattle.std.specs.List.{AllByRecursion as Each}
use Rattle.std.proofs.lemmas.List.Elements.{recursion_from_All}
use Rattle.fp_field.specs.declared.prime.Prime.{Prime}
use Rattle.fp_field.specs.Field.{number, SameMod, minus}
use Rattle.fp_field.proofs.Primes.{number_pos}
use Rattle.fp_field.proofs.Mod.{same-plus, same-times}
use Rattle.echelons.specs.Echelon.{Vector, IsVector, at_place, vector_plus, multiple, combined}
use Rattle.echelons.proofs.Vectors.{weight, Wide, length-multiple, length-combined, place-plus, place-multiple, place-combined, plus-vector, same-vector}
use Rattle.elim_fp.specs.Rows.{DenseRow, vectors_of, IsRow}
use Rattle.elim_fp.proofs.Left.{minus-same}
use Rattle.session_core.specs.Divisions.{less_combined}
use Rattle.session_core.proofs.Behind.{weight-both}

module _ (q : Prime) (w : ℕ) where
  abbrev p : ℕ
  p = number q

  pos : 0 < p
  pos = number_pos q

  pub wide-rows : (rows : List DenseRow) → All (IsRow q w) rows → Wide w (vectors_of rows)
  wide-rows rows h = by rows (recursion_from_All (IsRow q w) rows h)
    where
      by : (rs : List DenseRow) → Each (IsRow q w) rs → Wide w (vectors_of rs)
      by [] g = tt
      by (r ∷ rs) g = (g.0.vector.wide, by rs g.1)

  wide-taken : (i : ℕ) (vs : List Vector) → Wide w vs → Wide w (take i vs)
  wide-taken zero vs h = tt
  wide-taken (suc i) [] h = tt
  wide-taken (suc i) (v ∷ vs) h = (h.0, wide-taken i vs h.1)

  less-vector : (u : Vector) (cs : List ℕ) (vs : List Vector) → IsVector p w u → Wide w vs → IsVector p w (less_combined p w u cs vs)
  less-vector u cs vs g h = plus-vector p pos w u _ g.wide (length-multiple p w (p - 1) (combined p w cs vs) (length-combined p w cs vs h))

  less-place : (u : Vector) (cs : List ℕ) (vs : List Vector) (j : ℕ) → IsVector p w u → Wide w vs → SameMod p (at_place (less_combined p w u cs vs) j) (at_place u j + (p - 1) * weight cs vs j)
  less-place u cs vs j g h =
      place-plus p u _ j (g.wide ∙ sym (length-multiple p w (p - 1) (combined p w cs vs) (length-combined p w cs vs h)))
      ∙ same-plus p (at_place u j) (at_place u j) _ ((p - 1) * weight cs vs j) refl
      (place-multiple p (p - 1) (combined p w cs vs) j ∙ same-times p (p - 1) _ _ (place-combined p w cs vs j h))

  pub less-none : (u : Vector) → IsVector p w u → u ≡ less_combined p w u [] []
  less-none u g =
      same-vector p pos w u _ g (less-vector u [] [] g tt)
      (λ j. ap (λ n. n % p) (let r : at_place u j ≡ at_place u j + (p - 1) * 0 = omega arith in r) ∙ sym (less-place u [] [] j g tt))

  -- after the first i rows
  abbrev pub Less : Vector → List ℕ → List Vector → ℕ → Vector → Type 0
  Less u cs vs i v = v ≡ less_combined p w u (take i cs) (take i vs)

  pub less-row : (u : Vector) (cs : List ℕ) (vs : List Vector) (i : ℕ) (v : Vector) → IsVector p w u → Wide w vs → Less u cs vs i v → IsVector p w v
  less-row u cs vs i v g h e = subst (IsVector p w) (sym e) (less-vector u (take i cs) (take i vs) g (wide-taken i vs h))

  pub less-more : (u : Vector) (cs : List ℕ) (vs : List Vector) (i c : ℕ) (r old new : Vector) → IsVector p w u → Wide w vs → length cs ≡ length vs → i < length vs → length r ≡ w → c < p
      → c ≡ at_place cs i → r ≡ get_or vs i r → Less u cs vs i old → new ≡ vector_plus p old (multiple p (minus p c) r) → Less u cs vs (i + 1) new
  less-more u cs vs i c r old new g h e l m b f k a n =
      n ∙ same-vector p pos w _ _ (plus-vector p pos w old _ (less-row u cs vs i old g h a).wide (length-multiple p w (minus p c) r m)) (less-vector u (take (i + 1) cs) (take (i + 1) vs) g (wide-taken (i + 1) vs h))
      (λ j.
      place-plus p old _ j ((less-row u cs vs i old g h a).wide ∙ sym (length-multiple p w (minus p c) r m))
      ∙ same-plus p (at_place old j) (at_place u j + (p - 1) * weight (take i cs) (take i vs) j) _ (at_place r j * ((p - 1) * c))
      (ap (λ x. at_place x j % p) a ∙ less-place u (take i cs) (take i vs) j g (wide-taken i vs h))
      (place-multiple p (minus p c) r j ∙ ap (λ x. x % p) (turn (minus p c) (at_place r j)) ∙ same-times p (at_place r j) _ _ (minus-same p w pos c b))
      ∙ ap (λ x. x % p) (sums (at_place u j) (p - 1) (weight (take i cs) (take i vs) j) (at_place r j) c ∙ ap (λ x. at_place u j + (p - 1) * x) (sym (one-more j)))
      ∙ sym (less-place u (take (i + 1) cs) (take (i + 1) vs) j g (wide-taken (i + 1) vs h)))
    where
      turn : (m z : ℕ) → m * z ≡ z * m
      turn m z = omega arith

      sums : (v k x z a : ℕ) → (v + k * x) + z * (k * a) ≡ v + k * (x + a * z)
      sums v k x z a = omega arith

      taken-numbers : take (i + 1) cs ≡ take i cs ++ c ∷ []
      taken-numbers =
          ap (λ y. take y cs) (let y : i + 1 ≡ suc i = omega arith in y) ∙ take-suc cs i 0 (let y : i < length cs = omega (arith, e) in y) ∙ ap (λ y. take i cs ++ y ∷ []) (sym f)

      taken-rows : take (i + 1) vs ≡ take i vs ++ r ∷ []
      taken-rows = ap (λ y. take y vs) (let y : i + 1 ≡ suc i = omega arith in y) ∙ take-suc vs i r l ∙ ap (λ y. take i vs ++ y ∷ []) (sym k)

      same-lengths : length (take i cs) ≡ length (take i vs)
      same-lengths = length-take i cs ∙ ap (λ y. min i y) e ∙ sym (length-take i vs)

      one-more : (j : ℕ) → weight (take (i + 1) cs) (take (i + 1) vs) j ≡ weight (take i cs) (take i vs) j + c * at_place r j
      one-more j =
          (λ y. weight (taken-numbers y) (taken-rows y) j) ∙ weight-both (take i cs) (c ∷ []) (take i vs) (r ∷ []) j same-lengths
          ∙ (let y : weight (take i cs) (take i vs) j + (c * at_place r j + 0) ≡ weight (take i cs) (take i vs) j + c * at_place r j = omega arith in y)

  pub less-all : (u : Vector) (cs : List ℕ) (vs : List Vector) (i : ℕ) (v : Vector) → length cs ≡ length vs → length vs ≤ i → Less u cs vs i v → v ≡ less_combined p w u cs vs
  less-all u cs vs i v e l a = a ∙ (λ j. less_combined p w u (take_all i cs (let y : length cs ≤ i = omega (arith, e) in y) j) (take_all i vs l j))

pub row-at : (rows : List DenseRow) (i : ℕ) (r : DenseRow) → i < length rows → r ≡ get_or rows i r → r.values ≡ get_or (vectors_of rows) i r.values
row-at [] i r l e = absurd (omega arith)
row-at (x ∷ rows) zero r l e = ap (λ y. y.values) e
row-at (x ∷ rows) (suc i) r l e = row-at rows i r (omega arith) e
