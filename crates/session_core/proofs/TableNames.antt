-- The space of a table is that of its term: the words of its faces are words of masks of the code.
use Rattle.std.proofs.Common.{◌≡◌, ℕ, zero, suc, ◌%◌, ◌^◌, ◌<◌, ◌≤◌, List, [], ◌∷◌, map, length, refl, sym, ◌∙◌, ap, arith}
use Rattle.simp_ops.specs.Words.{IsWord}
use Rattle.simp_ops.specs.Bits.{mask_word}
use Rattle.simp_ops.proofs.MaskWords.{mask_of}
use Rattle.spaces.specs.Spaces.{table}
use Rattle.spaces.specs.Tables.{Table, Row as TableRow, RowSimplex, entry, row_at}
use Rattle.spaces.specs.Allowed.{IsTable, face_count}
use Rattle.term_lang.specs.Rows.{face_of, rows_of}
use Rattle.term_lang.proofs.CodeForms.{word_back}
use Rattle.oracle_iface.specs.Terms.{word_mask, face_back, row_back}
use Rattle.oracle_iface.specs.KeyLaws.{IsNamed}
use Rattle.oracle_iface.proofs.Named.{word_mask-back, named-table}
use Rattle.std.proofs.Math.Nat.{mod-eq_of_lt}
use Rattle.term_lang.specs.Quote.{below}

-- a word of places that masks reach
abbrev IsLow : RowSimplex → Type 0
IsLow x = (n : ℕ) × (n ≤ 32) × IsWord n x.0

face-back : (x : RowSimplex) → IsLow x → face_of (face_back x) ≡ x
face-back x low =
    let m = mask_of x.0 % 2 ^ 32 in
    let b : mask_word m ≡ x.0 = word_back low.0 x.0 low.1 low.2 in
    let k : word_mask x.0 ≡ m = ap word_mask (sym b) ∙ word_mask-back m (below (mask_of x.0)) in
    let e : mask_word (word_mask x.0 % 2 ^ 32) ≡ x.0 = ap (λ j. mask_word (j % 2 ^ 32)) k ∙ ap mask_word (mod-eq_of_lt (below (mask_of x.0))) ∙ b in
    λ i. (e i, x.1)

abbrev nowhere : RowSimplex
nowhere = ([], 0)

faces-back : (fs : List RowSimplex) → ((i : ℕ) → i < length fs → IsLow (entry nowhere fs i)) → map face_of (map face_back fs) ≡ fs
faces-back [] low = refl
faces-back (x ∷ fs) low =
    let e = face-back x (low 0 (omega arith)) in
    let r = faces-back fs (λ i h. low (suc i) (omega arith)) in
    λ i. e i ∷ r i

abbrev HasLow : TableRow → Type 0
HasLow row = (i : ℕ) → i < length row.faces → IsLow (entry nowhere row.faces i)

rows-back : (t : Table) → ((r : ℕ) → r < length t → HasLow (row_at t r)) → rows_of (map row_back t) ≡ t
rows-back [] low = refl
rows-back (row ∷ t) low =
    let e = faces-back row.faces (low 0 (omega arith)) in
    let r = rows-back t (λ k h. low (suc k) (omega arith)) in
    λ i. record { name = row.name; dim = row.dim; faces = e i } ∷ r i

low-faces : (t : Table) → IsTable t → (r : ℕ) → r < length t → HasLow (row_at t r)
low-faces t is r h i k = by (row_at t r).dim refl
  where
    by : (d : ℕ) → (row_at t r).dim ≡ d → IsLow (entry nowhere (row_at t r).faces i)
    by zero e = let c : length (row_at t r).faces ≡ 0 = is.counted r h ∙ ap face_count e in absurd (omega arith)
    by (suc n) e =
        let c : length (row_at t r).faces ≡ suc (suc n) = is.counted r h ∙ ap face_count e in
        let f = is.faces_in r n i h e (omega arith) in
        let l = is.low r h in
        (n, omega arith, f.word)

pub table-named : (t : Table) → IsTable t → IsNamed (table t)
table-named t is = named-table t (rows-back t (low-faces t is))
