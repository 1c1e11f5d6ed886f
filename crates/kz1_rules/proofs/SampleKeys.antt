-- Valid keys at lists of one integer.
use Rattle.std.proofs.Common.{◌≡◌, ◌⊎◌, inl, inr, ◌≤◌, [], ◌∷◌, refl, ◌∙◌, ap, sym, subst, arith}
use Rattle.std.proofs.Math.IntN.{ℤ, pos}
use Rattle.fp_field.specs.declared.prime.Prime.{Prime}
use Rattle.fp_field.specs.Field.{number}
use Rattle.spaces.specs.Spaces.{kz1}
use Rattle.cells.specs.declared.cells.Cell.TheVariants.{Ints}
use Rattle.cells.specs.declared.cells.SmallCell.TheVariants.{One}
use Rattle.cells.specs.Dim.{dim_of}
use Rattle.cells.proofs.Dimensions.{dim-Ints}
use Rattle.term_lang.specs.Forms.{cell_form}
use Rattle.term_lang.specs.declared.terms.Term.TheVariants.{KZ1}
use Rattle.term_lang.proofs.CellForms.{form-Ints}
use Rattle.values.specs.Asks.{f as f_at, h as h_at, small_d}
use Rattle.values.specs.Ranks.{IsCell, IsValid}
use Rattle.oracle_iface.specs.Keys.{IsValidKey}
use Rattle.oracle_iface.specs.KeyLaws.{IsReadBack}
use Rattle.oracle_iface.specs.CodeSizes.{small_cell_integer}
use Rattle.oracle_iface.specs.declared.keys.Op.{Op}
use Rattle.oracle_iface.specs.declared.keys.Op.TheVariants.{SmallD, F, H}
use Rattle.oracle_iface.specs.declared.keys.Place.TheVariants.{Small as SmallPlace, Big as BigPlace}
use Rattle.oracle_iface.proofs.KeysBack.{small_d-valid_back, valid-key}
use Rattle.oracle_iface.proofs.Named.{named-kz1}
use Rattle.oracle_iface.proofs.SizesAgree.{small_integer_agree}
use Rattle.homology_laws.proofs.IntegersFaces.{degenerate-zero}
use Rattle.kz1_rules.proofs.FreeLists.{free-has}

module _ (p : Prime) (a : ℤ) (nonzero : a ≡ pos 0 → ⊥) where
  is-cell : IsCell kz1 1 (a ∷ [])
  is-cell = ((refl, λ i k l. tt), degenerate-zero 1 (a ∷ []) refl ∙ free-has (a ∷ []) (nonzero, tt))

  f-back : IsReadBack p (f_at kz1 1 (a ∷ []))
  f-back = ap (λ s. f_at s (dim_of (Ints (a ∷ []))) (cell_form (Ints (a ∷ [])) s)) named-kz1 ∙ (λ i. f_at kz1 (dim-Ints (a ∷ []) i) (form-Ints (a ∷ []) i kz1))

  h-back : IsReadBack p (h_at kz1 1 (a ∷ []))
  h-back = ap (λ s. h_at s (dim_of (Ints (a ∷ []))) (cell_form (Ints (a ∷ [])) s)) named-kz1 ∙ (λ i. h_at kz1 (dim-Ints (a ∷ []) i) (form-Ints (a ∷ []) i kz1))

  pub single-valid : (o : Op) → (o ≡ F) ⊎ (o ≡ H) → IsValidKey (record { op = o; prime = p; place = BigPlace (Ints (a ∷ [])); term = KZ1 })
  single-valid o (inl e) = subst (λ z. IsValidKey (record { op = z; prime = p; place = BigPlace (Ints (a ∷ [])); term = KZ1 })) (sym e)
      (valid-key p (f_at kz1 1 (a ∷ [])) f-back ((tt, omega arith), is-cell, omega arith))
  single-valid o (inr e) = subst (λ z. IsValidKey (record { op = z; prime = p; place = BigPlace (Ints (a ∷ [])); term = KZ1 })) (sym e)
      (valid-key p (h_at kz1 1 (a ∷ [])) h-back ((tt, omega arith), is-cell, omega arith))

pub edge-valid : (p : Prime) → IsValidKey (record { op = SmallD; prime = p; place = SmallPlace (One (Ints (pos 1 ∷ []))); term = KZ1 })
edge-valid p = valid-key p (small_d kz1 (pos 1 ∷ [])) (small_d-valid_back p kz1 (pos 1 ∷ []) named-kz1 valid) valid
  where
    valid : IsValid (number p) (small_d kz1 (pos 1 ∷ []))
    valid = ((tt, omega arith), (0, omega arith, refl), omega arith)

pub edge-integer : small_cell_integer (One (Ints (pos 1 ∷ []))) ≤ 100000
edge-integer = subst (λ n. n ≤ 100000) (sym (small_integer_agree kz1 (pos 1 ∷ []))) (omega arith)
