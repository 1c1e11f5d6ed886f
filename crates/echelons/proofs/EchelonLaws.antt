-- The laws of reduced echelon lists, as contracts state them.
use Rattle.std.proofs.Common.{◌≡◌, ◌↔◌, ℕ, ◌<◌, Bool, true, List, length, ◌∙◌, ap, subst, arith}
use Rattle.std.proofs.lemmas.List.Elements.{All-from_recursion, recursion_from_All}
use Rattle.std.specs.List.{All}
use Rattle.echelons.specs.Echelon.{Vector, IsVector, at_place, zeros, vector_plus, combined, lead, is_clear, IsReducedEchelon, IsCombination, Spans, coordinates, remainder}
use Rattle.echelons.proofs.Vectors.{Each-weaker, Wide}
use Rattle.echelons.proofs.Leads.{lead-in, lead-zeros, zeros-from_lead}
use Rattle.echelons.proofs.Lists.{Among, each-among, Each-from}
use Rattle.echelons.proofs.Rows.{Stairs, Stairs-from, row-vector, row-one, coordinates-combined, remainder-vector, remainder-clear, remainder-sum, remainder-none, combination-from_none}
use Rattle.echelons.proofs.Unique.{is_clear-at, is_clear-from, row-lead, lead-row}

pub wide-from : (p w : ℕ) (vs : List Vector) → All (IsVector p w) vs → Wide w vs
wide-from p w vs h = Each-weaker (IsVector p w) (λ v. length v ≡ w) (λ v g. g.wide) vs (recursion_from_All (IsVector p w) vs h)

module _ (p w : ℕ) (pos : 0 < p) (rows : List Vector) (h : IsReducedEchelon p w rows) where
  stairs : Stairs p w rows
  stairs = Stairs-from p w rows h

  -- the coefficients of a combination stand at the leading places
  pub coefficients-read : (cs : Vector) → IsVector p (length rows) cs → coordinates rows (combined p w cs rows) ≡ cs
  coefficients-read cs g = coordinates-combined p w rows cs stairs g

  pub remainder-add : (v : Vector) → IsVector p w v → vector_plus p (remainder p w rows v) (combined p w (coordinates rows v) rows) ≡ v
  remainder-add v g = remainder-sum p w pos rows v stairs g

  pub remainder-leads : (v : Vector) → IsVector p w v → All (λ r. at_place (remainder p w rows v) (lead r) ≡ 0) rows
  remainder-leads v g = All-from_recursion (λ r. at_place (remainder p w rows v) (lead r) ≡ 0) rows (remainder-clear p w pos rows v stairs g)

  -- a vector is in the span exactly where nothing is left of it
  pub span-remainder : (v : Vector) → IsVector p w v → IsCombination p w rows v ↔ (remainder p w rows v ≡ zeros w)
  span-remainder v g = (remainder-none p w pos rows v stairs g, combination-from_none p w pos rows v stairs g)

  pub span-lead : (v : Vector) → IsVector p w v → IsCombination p w rows v ↔ (lead (remainder p w rows v) ≡ w)
  span-lead v g = (
    λ c. ap lead (remainder-none p w pos rows v stairs g c) ∙ lead-zeros w,
    λ e. combination-from_none p w pos rows v stairs g (zeros-from_lead w (remainder p w rows v) (remainder-vector p w pos rows v stairs g).wide e),
  )

  -- to be 0 at the leading places of a subspace is to be 0 at those of its rows
  pub clear-rows : (within : Vector → Bool) → Spans p w rows within → (v : Vector) → (is_clear p w within v ≡ true) ↔ All (λ r. at_place v (lead r) ≡ 0) rows
  clear-rows within spans v = (
    λ e. All-from_recursion (λ r. at_place v (lead r) ≡ 0) rows (Each-from (λ r. at_place v (lead r) ≡ 0) rows
        (λ r m. is_clear-at p w within v e (lead r) (place r m) (row-lead p w pos within rows stairs spans r m))),
    λ a. is_clear-from p w within v
        (λ j l f. let r = lead-row p w pos within rows stairs spans j l f in
        subst (λ n. at_place v n ≡ 0) r.2 (each-among (λ s. at_place v (lead s) ≡ 0) rows r.0 (recursion_from_All (λ s. at_place v (lead s) ≡ 0) rows a) r.1)),
  )
    where
      place : (r : Vector) → Among r rows → lead r < w
      place r m =
          let one : at_place r (lead r) ≡ 1 = row-one p w rows r stairs m in
          let wide : length r ≡ w = (row-vector p w rows r stairs m).wide in
          let l : lead r < length r = lead-in r (lead r) (omega arith) in omega arith
