-- Marked places: the vectors that are 0 there are those that are 0 at the leading places of a subspace.
use Rattle.std.proofs.Common.{◌≡◌, ◌↔◌, ℕ, zero, suc, ◌+◌, ◌<◌, Bool, true, false, List, [], ◌∷◌, length, drop, get_or, set, replicate, All, refl, sym, ◌∙◌, ap, subst, arith}
use Rattle.std.proofs.Math.Seq.{drop-cons}
use Rattle.std.proofs.lemmas.List.{length-set, length-replicate}
use Rattle.std.proofs.lemmas.List.Elements.{All-from_recursion, recursion_from_All}
use Rattle.std.specs.List.{AllByRecursion}
use Rattle.fp_field.specs.declared.prime.Prime.{Prime}
use Rattle.fp_field.specs.Field.{number}
use Rattle.fp_field.proofs.Primes.{number_pos}
use Rattle.fp_field.proofs.FieldLaws.{is_field}
use Rattle.echelons.specs.Echelon.{Vector, IsVector, at_place, lead, is_clear, reduced_basis, IsSubspace, IsReducedEchelon, Spans}
use Rattle.echelons.proofs.Basis.{basis-echelon, basis-spans}
use Rattle.echelons.proofs.EchelonLaws.{clear-rows}
use Rattle.elim_fp.specs.Rows.{DenseRow, vectors_of}
use Rattle.homology_rules.specs.CycleVectors.{marked_by}
use Rattle.homology_rules.proofs.Kernels.{Clear}

-- a row more is marked
pub mark_more : (rows : List DenseRow) (i : ℕ) (r : DenseRow) (marks new goal : List Bool) (place : ℕ) → i < length rows → r ≡ get_or rows i r → place ≡ lead r.values → new ≡ set marks place true
    → marked_by marks (vectors_of (drop i rows)) ≡ goal → marked_by new (vectors_of (drop (i + 1) rows)) ≡ goal
mark_more rows i r marks new goal place l e f g h =
    ap (λ m. marked_by m (vectors_of (drop (i + 1) rows))) (g ∙ ap (λ p. set marks p true) f)
    ∙ ap (λ n. marked_by (set marks (lead r.values) true) (vectors_of (drop n rows))) (let q : i + 1 ≡ suc i = omega arith in q)
    ∙ sym (ap (λ rs. marked_by marks (vectors_of rs)) (drop-cons rows i r l ∙ ap (λ x. x ∷ drop (suc i) rows) (sym e))) ∙ h

clear-none : (n : ℕ) (v : Vector) → Clear (replicate n false) v
clear-none zero v = tt
clear-none (suc n) [] = tt
clear-none (suc n) (a ∷ v) = ((λ e. absurd (cc)), clear-none n v)

clear-set : (ms : List Bool) (v : Vector) (j : ℕ) → j < length ms → length ms ≡ length v → Clear (set ms j true) v ↔ (Clear ms v × (at_place v j ≡ 0))
clear-set [] v j l e = absurd (omega arith)
clear-set (m ∷ ms) [] j l e = absurd (omega (arith, e))
clear-set (m ∷ ms) (a ∷ v) zero l e = (λ h. (((λ f. h.0 refl), h.1), h.0 refl), λ h. ((λ f. h.1), h.0.1))
clear-set (m ∷ ms) (a ∷ v) (suc j) l e =
    let r = clear-set ms v j (omega arith) (omega (arith, e)) in
    (λ h. let s = r.0 h.1 in ((h.0, s.0), s.1), λ h. (h.0.0, r.1 (h.0.1, h.1)))

clear-marked : (vs : List Vector) (ms : List Bool) (v : Vector) → AllByRecursion (λ r. lead r < length ms) vs → length ms ≡ length v
    → Clear (marked_by ms vs) v ↔ (Clear ms v × AllByRecursion (λ r. at_place v (lead r) ≡ 0) vs)
clear-marked [] ms v h e = (λ c. (c, tt), λ c. c.0)
clear-marked (r ∷ vs) ms v h e =
    let one = clear-set ms v (lead r) h.0 e in
    let rest = clear-marked vs (set ms (lead r) true) v (wide vs h.1) (length-set ms (lead r) true ∙ e) in
    (λ c. let s = rest.0 c in let t = one.0 s.0 in (t.0, (t.1, s.1)), λ c. rest.1 (one.1 (c.0, c.1.0), c.1.1))
  where
    wide : (us : List Vector) → AllByRecursion (λ x. lead x < length ms) us → AllByRecursion (λ x. lead x < length (set ms (lead r) true)) us
    wide [] g = tt
    wide (u ∷ us) g = (subst (λ n. lead u < n) (sym (length-set ms (lead r) true)) g.0, wide us g.1)

-- marked are the leading places of the basis of a subspace
pub marks-clear : (q : Prime) (n : ℕ) (part : Vector → Bool) → IsSubspace (number q) n part → (rows : List Vector) → rows ≡ reduced_basis (number q) n part
    → All (λ r. lead r < n) rows → (v : Vector) → IsVector (number q) n v
    → (is_clear (number q) n part v ≡ true) ↔ Clear (marked_by (replicate n false) rows) v
marks-clear q n part sub rows e leads v g =
    let echelon = subst (IsReducedEchelon (number q) n) (sym e) (basis-echelon (number q) n (is_field q) part sub) in
    let a = clear-rows (number q) n (number_pos q) rows echelon part (subst (λ rs. Spans (number q) n rs part) (sym e) (basis-spans (number q) n (is_field q) part sub)) v in
    let b = clear-marked rows (replicate n false) v (recursion_from_All (λ r. lead r < length (replicate n false)) rows (subst (λ k. All (λ r. lead r < k) rows) (sym (length-replicate n false)) leads))
    (length-replicate n false ∙ sym g.wide) in (
      λ c. b.1 (clear-none n v, recursion_from_All (λ r. at_place v (lead r) ≡ 0) rows (a.0 c)),
      λ c. a.1 (All-from_recursion (λ r. at_place v (lead r) ≡ 0) rows (b.0 c).1),
    )
