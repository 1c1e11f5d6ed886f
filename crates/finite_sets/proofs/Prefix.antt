-- The first rows of a table: faces of simplices on them are the same.
use Rattle.std.proofs.Common.{◌≡◌, ℕ, suc, ◌+◌, ◌-◌, ◌<◌, ◌≤◌, not, ◌||◌, cond, nat_lt, nat_le, [], length, take, None, ◌∙◌, ap, arith}
use Rattle.std.proofs.lemmas.List.{length-take-le}
use Rattle.simp_ops.specs.Words.{Passed, absorbed, through, face_word}
use Rattle.spaces.specs.Tables.{Table, Row, RowSimplex, entry, row_at, listed_face, before_row, on_row, row_face, InTable}
use Rattle.finite_sets.specs.declared.faults.TableFault.TheVariants.{FaceLaw}
use Rattle.finite_sets.specs.Faults.{first_below, unless, is_same, is_law, law_fault_at, law_fault}
use Rattle.finite_sets.proofs.Entries.{entry-take}

module _ (t : Table) (k : ℕ) (within : k ≤ length t) where
  pub row-take : (s : ℕ) → s < k → row_at (take k t) s ≡ row_at t s
  row-take s h = entry-take (record { name = []; dim = 0; faces = [] }) t k s h

  on_row-take : (s : ℕ) (p : Passed) → s < k → on_row (take k t) s p ≡ on_row t s p
  on_row-take s (absorbed v) h = λ i. (v, s)
  on_row-take s (through j v) h = ap (λ (row : Row). before_row v (entry ([], 0) row.faces j)) (row-take s h)

  pub face-take : (i : ℕ) (x : RowSimplex) → x.1 < k → row_face (take k t) i x ≡ row_face t i x
  face-take i x h = on_row-take x.1 (face_word i x.0) h

  pub in_take : (n : ℕ) (x : RowSimplex) → x.1 < k → InTable t n x → InTable (take k t) n x
  in_take n x h is = record {
    row = omega (arith, length-take-le k t within);
    degree = ap (λ (row : Row). row.dim + length x.0) (row-take x.1 h) ∙ is.degree;
    word = is.word;
  }

-- the law at the last row
pub law_fault-take : (t : Table) (r : ℕ) → r < length t → ((j : ℕ) → (listed_face t j r).1 < suc r) → law_fault (take (suc r) t) r ≡ law_fault t r
unfolding law_fault law_fault_at
law_fault-take t r h before = λ q. cond (nat_le (dims q) 1) None (first_below (suc (dims q)) (λ i. first_below (suc (dims q)) (λ j. unless (laws i j q) (FaceLaw r i j))))
  where
    dims : (row_at (take (suc r) t) r).dim ≡ (row_at t r).dim
    dims = ap (λ (row : Row). row.dim) (row-take t (suc r) h r (omega arith))

    twice : (i j : ℕ) → row_face (take (suc r) t) i (row_face (take (suc r) t) j ([], r)) ≡ row_face t i (row_face t j ([], r))
    twice i j =
        ap (row_face (take (suc r) t) i) (face-take t (suc r) h j ([], r) (omega arith)) ∙ face-take t (suc r) h i (row_face t j ([], r)) (before j)

    laws : (i j : ℕ) → is_law (take (suc r) t) r i j ≡ is_law t r i j
    laws i j = λ q. not (nat_lt i j) || is_same (twice i j q) (twice (j - 1) i q)
