-- The pair of the cell of the 2-sphere and the cell |2|3| of K(Z,1).
use Rattle.std.proofs.Common.{◌≡◌, ◌+◌, [], ◌∷◌, refl, sym, ◌∙◌, ap, subst, arith, bit_and, lit≤, count_ones}
use Rattle.std.specs.Prelude.{pos}
use Rattle.spaces.specs.Spaces.{Space, kz1, set_of}
use Rattle.cells.specs.declared.cells.Cell.{Cell}
use Rattle.cells.specs.declared.cells.Cell.TheVariants.{Top, Ints, Pair as PairCell}
use Rattle.cells.specs.declared.cells.Simplex.{Simplex}
use Rattle.cells.specs.Dim.{dim_of, degree_of, capped}
use Rattle.cells.proofs.Dimensions.{dim-Ints}
use Rattle.simp_ops.specs.Bits.{mask_word}
use Rattle.term_lang.specs.declared.terms.Term.TheVariants.{Sphere, KZ1}
use Rattle.term_lang.specs.SpaceOf.{space_of}
use Rattle.term_lang.specs.Belongs.{IsSimplex}
use Rattle.term_lang.specs.Degenerated.{degenerated}
use Rattle.term_lang.specs.Forms.{cell_form, form}
use Rattle.term_lang.proofs.CellForms.{form-Ints}
use Rattle.term_lang.proofs.SpacesOfTerms.{space-KZ1}
use Rattle.space_faces.proofs.CellSteps.{bare_degree, bare_form, bare_simplex}
use Rattle.space_tests.proofs.IntegerCells.{two-low}
use Rattle.ez_flow.specs.Parts.{IsPairOf}
use Rattle.ez_flow.proofs.PairCells.{pair-with}
use Rattle.space_pairs.specs.Parts.{IsReached}
use Rattle.space_pairs.specs.Reach.{total, reach}
use Rattle.space_tests.proofs.TorusCells.{top-reached}

abbrev two : Cell
two = Ints (pos 2 ∷ pos 3 ∷ [])

module _ (s : Simplex) (e : s.degens.mask ≡ 0) (f : s.cell ≡ Ints (pos 2 ∷ pos 3 ∷ [])) where
  reach-in : (X : Space) → X ≡ kz1 → reach X (form s X) ≡ 5
  reach-in X q =
      subst (λ Y. reach Y (form s Y) ≡ 5) (sym q)
      (ap total ((λ i. degenerated (set_of kz1) (mask_word (e i)) (cell_form (f i) kz1)) ∙ bare_form kz1 two ∙ ap (λ g. g kz1) (form-Ints (pos 2 ∷ pos 3 ∷ []))))

  pub two-reached : IsReached (space_of KZ1) 5 2 s
  two-reached =
      let d : dim_of s.cell ≡ 2 = ap dim_of f ∙ dim-Ints (pos 2 ∷ pos 3 ∷ []) in
      let q : degree_of s ≡ 2 = (λ i. capped (count_ones (e i) + d i)) ∙ bare_degree 2 (lit≤ tt) in
      let r : reach (space_of KZ1) (form s (space_of KZ1)) ≡ 5 = reach-in (space_of KZ1) space-KZ1 in
      (subst (λ k. IsSimplex (space_of KZ1) k s) q (bare_simplex (space_of KZ1) s e (two-low s.cell f)), lit≤ tt, omega (arith, r))

pub whole-pair : (a b : Simplex) → a.degens.mask ≡ 0 → a.cell ≡ Top 2 → b.degens.mask ≡ 0 → b.cell ≡ Ints (pos 2 ∷ pos 3 ∷ []) → (c : Cell) → c ≡ PairCell a b
    → IsPairOf (IsReached (space_of (Sphere 2)) 5) (IsReached (space_of KZ1) 5) 2 c
whole-pair a b ea fa eb fb c e =
    let P : Simplex → Simplex → Type 0 = λ a b. IsReached (space_of (Sphere 2)) 5 2 a × IsReached (space_of KZ1) 5 2 b × (bit_and a.degens.mask b.degens.mask ≡ 0) in
    subst (IsPairOf (IsReached (space_of (Sphere 2)) 5) (IsReached (space_of KZ1) 5) 2) (sym e)
    (pair-with P a b (top-reached 1 5 (omega arith) refl a ea fa, two-reached b eb fb, (λ i. bit_and (ea i) (eb i))))
