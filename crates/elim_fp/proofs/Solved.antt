-- A vector over a reduced echelon basis: in the span with its coefficients, or outside by the place that is left.
use Rattle.std.proofs.Common.{◌≡◌, ◌<◌, ◌≤◌, ◌++◌, [], ◌∷◌, List, ℕ, length, take, suc, get_or, sym, ◌∙◌, ap, subst, arith}
use Rattle.std.proofs.Math.Seq.{take-suc}
use Rattle.std.proofs.lemmas.List.{map-append}
use Rattle.fp_field.specs.declared.element.Fp.{Fp}
use Rattle.fp_field.specs.Field.{number}
use Rattle.fp_field.proofs.Primes.{number_pos}
use Rattle.echelons.specs.Echelon.{Vector, IsVector, at_place, lead, remainder, coordinates, IsReducedEchelon}
use Rattle.echelons.proofs.EchelonLaws.{span-lead}
use Rattle.echelons.proofs.Leads.{lead-within}
use Rattle.echelons.proofs.Rows.{Stairs-from, coordinates-vector, combination-coordinates, remainder-vector}
use Rattle.elim_fp.specs.Rows.{DenseRow, DenseRows, numbers_of}
use Rattle.elim_fp.specs.Solving.{IsSolution, IsOutside}

pub outside : (e : DenseRows) (v : Vector) (place : ℕ) → IsReducedEchelon (number e.prime) e.width e.rows → IsVector (number e.prime) e.width v
    → place ≡ lead (remainder (number e.prime) e.width e.rows v) → place < e.width → IsOutside e v place
outside e v place h g f l = record {
  outside = λ d. let full : lead (remainder (number e.prime) e.width e.rows v) ≡ e.width = (span-lead (number e.prime) e.width (number_pos e.prime) e.rows h v g).0 d in absurd (omega arith);
  within = l;
  place_is = f;
}

pub solution : (e : DenseRows) (v : Vector) (r : DenseRow) (place : ℕ) → IsReducedEchelon (number e.prime) e.width e.rows → IsVector (number e.prime) e.width v
    → place ≡ lead (remainder (number e.prime) e.width e.rows v) → e.width ≤ place → r.prime ≡ e.prime → r.values ≡ coordinates e.rows v → IsSolution e v r
solution e v r place h g f l same k =
    let p : ℕ = number e.prime in
    let s = Stairs-from (number e.prime) e.width e.rows h in
    let long : length (remainder (number e.prime) e.width e.rows v) ≡ e.width = (remainder-vector (number e.prime) e.width (number_pos e.prime) e.rows v s g).wide in
    let full : lead (remainder (number e.prime) e.width e.rows v) ≡ e.width = omega (arith, lead-within (remainder (number e.prime) e.width e.rows v)) in
    let d = (span-lead (number e.prime) e.width (number_pos e.prime) e.rows h v g).1 full in
    let sum = combination-coordinates (number e.prime) e.width e.rows v s d in
    let vector = coordinates-vector (number e.prime) e.width (number_pos e.prime) e.rows v g in
    record {
      prime_is = same;
      vector = subst (IsVector (number e.prime) (length e.rows)) (sym k) vector;
      sum_is = rw k sum;
      coordinates_are = k;
    }

-- one coefficient more
pub more-entries : (rows : List Vector) (v : Vector) (i : ℕ) (old new : List Fp) (a : Fp) → i < length rows → new ≡ old ++ a ∷ [] → numbers_of old ≡ coordinates (take i rows) v
    → a.value ≡ at_place v (lead (get_or rows i [])) → numbers_of new ≡ coordinates (take (suc i) rows) v
more-entries rows v i old new a l e f g =
    ap numbers_of e ∙ map-append (λ b. b.value) old (a ∷ []) ∙ (λ k. f k ++ (g k ∷ []))
    ∙ sym (map-append (λ r. at_place v (lead r)) (take i rows) (get_or rows i [] ∷ []))
    ∙ ap (λ rs. coordinates rs v) (sym (take-suc rows i [] l))
