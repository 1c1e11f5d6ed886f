-- The degrees of the values of a space whose maps are a reduction, and the reach of those that are not refused.
use Rattle.std.proofs.Common.{◌≡◌, ℕ, suc, ◌-◌, ◌^◌, ◌≤◌, ◌&&◌, true, [], ◌∷◌, length, refl, sym, ◌∙◌, ap, subst, arith}
use Rattle.std.proofs.lemmas.Nat.{pow_pos}
use Rattle.simp_ops.proofs.PlacesOf.{is_lt}
use Rattle.simp_ops.proofs.MaskWords.{places-none}
use Rattle.fp_field.specs.declared.prime.Prime.{Prime}
use Rattle.fp_field.specs.Field.{number}
use Rattle.fp_field.specs.Chains.{Terms, Each}
use Rattle.fp_field.specs.Reduction.{HasDegrees}
use Rattle.spaces.specs.Spaces.{Space, Plain}
use Rattle.spaces.specs.SmallCells.{Small, small_degree}
use Rattle.spaces.specs.Allowed.{IsAllowed}
use Rattle.values.specs.Asks.{Ask, g, h, Cell as GradedCell}
use Rattle.values.specs.Sizes.{integer}
use Rattle.values.specs.Ranks.{IsCell, IsValid, space_of as space_asked}
use Rattle.values.specs.Laws.{maps_of}
use Rattle.cells.specs.declared.cells.Cell.{Cell}
use Rattle.term_lang.specs.Forms.{form}
use Rattle.term_lang.specs.Belongs.{is_cell, IsSimplex}
use Rattle.term_lang.specs.Quote.{quote_cell}
use Rattle.oracle_iface.specs.KeyLaws.{IsNamed, HasCells, IsReadBack}
use Rattle.oracle_iface.proofs.KeysBack.{valid-back}
use Rattle.normal_forms.specs.Built.{IsBuilt}
use Rattle.normal_forms.proofs.BuiltForms.{built_cells}
use Rattle.space_faces.proofs.CellSteps.{bare_form}
use Rattle.ez_maps.specs.Tensors.{bare}
use Rattle.space_pairs.specs.Reach.{reach}
use Rattle.fibred_asks.specs.Reached.{limited_reach, IsReachedCell, HasReachedValues}
use Rattle.fibred_asks.proofs.CappedReach.{reach-limited}
use Rattle.fibred_asks.proofs.BuiltSpaces.{built-named}
use Rattle.fibred_asks.proofs.WithinLimits.{integer-within, each-within}

-- ---- a cell as a simplex

bare-simplex : (X : Space) (n : ℕ) (c : Cell) → is_cell c X n ≡ true → IsSimplex X n (bare c)
bare-simplex X n c is =
    let e : n - 0 ≡ n = omega arith in
    (λ i. is_lt 0 (2 ^ n) (pow_pos n) i && is_cell c X (n - length (places-none 32 i))) ∙ ap (is_cell c X) e ∙ is

module _ (a : Space) (is : IsAllowed a) (built : IsBuilt a) where
  reached-cell : (n : ℕ) (y : Plain a) → n ≤ 32 → IsCell a n y → integer a y ≤ 100000 → IsReachedCell a limited_reach n (n, y)
  reached-cell n y l cell within =
      let cells = built_cells a is built n l in
      let e : reach a (form (bare (quote_cell a n y)) a) ≡ reach a y = ap (reach a) (bare_form a (quote_cell a n y) ∙ cells.formed y cell.0 cell.1) in
      (refl, (bare-simplex a n (quote_cell a n y) (cells.onto y cell.0 cell.1), l, omega (arith, e, reach-limited a is built n y l cell.0 within)))

  reached-chain : (n : ℕ) → n ≤ 32 → (c : Terms (GradedCell a)) → Each (λ x. (x.0 ≡ n) × IsCell a n x.1) c → Each (λ x. integer a x.1 ≤ 100000) c
      → Each (IsReachedCell a limited_reach n) c
  reached-chain n l [] generators within = tt
  reached-chain n l (t ∷ c) generators within = (
    subst (λ m. IsReachedCell a limited_reach n (m, t.0.1)) (sym generators.0.0) (reached-cell n t.0.1 l generators.0.1 within.0),
    reached-chain n l c generators.1 within.1,
  )

  module _ (p : Prime) (degrees : HasDegrees (number p) (maps_of (number p) a)) where
    back : (q : Ask) → space_asked q ≡ a → IsValid (number p) q → IsReadBack p q
    back q e valid =
        valid-back p q (subst IsNamed (sym e) (built-named a is.0 built)) (subst HasCells (sym e) (built_cells a is built)) valid

    small-degrees : (n : ℕ) (c : Terms (Small a)) → Each ((maps_of (number p) a).small.generator n) c → Each (λ y. small_degree a y ≡ n) c
    small-degrees n [] generators = tt
    small-degrees n (t ∷ c) generators = (generators.0.0, small-degrees n c generators.1)

    pub reached-values : HasReachedValues p a
    reached-values = record {
      of_f = λ n x valid. small-degrees n _ (degrees.f.keeps n (n, x) (refl, valid.1));
      of_g = λ y valid none.
          reached-chain (small_degree a y) (omega (arith, valid.2)) _ (degrees.g.keeps (small_degree a y) y (refl, valid.1))
          (each-within a _ (integer-within p (g a y) (back (g a y) refl valid) none));
      of_h = λ n x valid none.
          reached-chain (suc n) (omega (arith, valid.2)) _ (degrees.h.raises n (n, x) (refl, valid.1))
          (each-within a _ (integer-within p (h a n x) (back (h a n x) refl valid) none));
    }
