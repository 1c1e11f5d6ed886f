-- A simplex of a table is degenerate exactly where its word has a place.
use Rattle.std.proofs.Common.{◌≡◌, ℕ, zero, suc, ◌≤◌, List, [], ◌∷◌, length, Bool, true, false, refl, ap, subst, arith}
use Rattle.simp_ops.proofs.PlacesOf.{word_below, degeneracy-before}
use Rattle.spaces.specs.Simplicial.{IsSimplicial, is_degenerate}
use Rattle.spaces.specs.Tables.{Table, RowSimplex, InTable, table_set}
use Rattle.spaces.proofs.Degenerate.{degenerate_is, degenerate_so}
use Rattle.spaces.proofs.WordLaws.{length-degeneracy}

module _ (t : Table) (laws : IsSimplicial (table_set t)) where
  pub word-degenerate : (n j : ℕ) (w : List ℕ) (r : ℕ) → InTable t n (j ∷ w, r) → is_degenerate (table_set t) n (j ∷ w, r) ≡ true
  word-degenerate zero j w r is = absurd (omega (arith, is.word.0))
  word-degenerate (suc n) j w r is =
      let below : InTable t n (w, r) = record { row = is.row; degree = omega (arith, is.degree); word = word_below j n w (omega (arith, is.word.0)) is.word.1 } in
      subst (λ v. is_degenerate (table_set t) (suc n) (v, r) ≡ true) (degeneracy-before j w is.word.1)
      (degenerate_so (table_set t) laws n j (w, r) below (omega (arith, is.word.0)))

  pub row-not_degenerate : (n r : ℕ) → InTable t n ([], r) → is_degenerate (table_set t) n ([], r) ≡ false
  row-not_degenerate zero r is = refl
  row-not_degenerate (suc n) r is = by (is_degenerate (table_set t) (suc n) ([], r)) (λ e. no_degeneracy (degenerate_is (table_set t) laws n ([], r) is e))
    where
      no_degeneracy : (j : ℕ) × (y : RowSimplex) × (j ≤ n) × InTable t n y × (([], r) ≡ (table_set t).degeneracy j y) → ⊥
      no_degeneracy d = omega (arith, length-degeneracy d.0 d.1.0, ap (λ (x : RowSimplex). length x.0) d.4)

      by : (b : Bool) → (b ≡ true → ⊥) → b ≡ false
      by true f = absurd (f refl)
      by false f = refl
