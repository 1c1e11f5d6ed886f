-- The null space of a matrix is the kernel of the map that takes the unit vectors to its columns.
use Rattle.std.proofs.Common.{◌≡◌, ◌↔◌, ℕ, zero, suc, ◌+◌, ◌*◌, ◌%◌, ◌<◌, true, eqb, List, [], ◌∷◌, ◌++◌, map, drop, drop-cons, length, refl, sym, ◌∙◌, ap, subst, arith}
use Rattle.std.proofs.Math.Nat.{mod-mod, add-mod}
use Rattle.std.proofs.Math.ListN.{length-map}
use Rattle.std.proofs.lemmas.Bool.{and_parts, and_from, eqb-true, eq-eqb}
use Rattle.std.specs.List.{AllByRecursion as Each, list_all}
use Rattle.std.specs.Cmp.Lexicographic.{bytes_decides}
use Rattle.echelons.specs.Echelon.{Vector, IsVector, at_place, zeros, vector_plus, multiple, combined, dot, in_kernel, in_null_space, IsCombination}
use Rattle.echelons.proofs.Vectors.{Wide}
use Rattle.echelons.proofs.Halves.{side, units, kernel-graph}

abbrev pub column : List Vector → ℕ → Vector
column rows j = map (λ r. at_place r j) rows

-- k columns, from column j on
abbrev pub columns : List Vector → ℕ → ℕ → List Vector
columns rows j zero = []
columns rows j (suc k) = column rows j ∷ columns rows (suc j) k

length-columns : (rows : List Vector) (j k : ℕ) → length (columns rows j k) ≡ k
length-columns rows j zero = refl
length-columns rows j (suc k) = ap suc (length-columns rows (suc j) k)

columns-wide : (rows : List Vector) (j k : ℕ) → Wide (length rows) (columns rows j k)
columns-wide rows j zero = tt
columns-wide rows j (suc k) = (length-map rows (λ r. at_place r j), columns-wide rows (suc j) k)

module _ (p : ℕ) where
  dot-nil : (u : Vector) → dot p u [] ≡ 0
  dot-nil [] = refl
  dot-nil (a ∷ u) = refl

  dots-none : (j : ℕ) (rows : List Vector) → zeros (length rows) ≡ map (λ r. dot p (drop j r) []) rows
  dots-none j [] = refl
  dots-none j (r ∷ rows) = λ i. sym (dot-nil (drop j r)) i ∷ dots-none j rows i

  dots-more : (j a : ℕ) (v : Vector) (rows : List Vector) → Each (λ r. j < length r) rows
      → vector_plus p (multiple p a (column rows j)) (map (λ r. dot p (drop (suc j) r) v) rows) ≡ map (λ r. dot p (drop j r) (a ∷ v)) rows
  dots-more j a v [] l = refl
  dots-more j a v (r ∷ rows) l = λ i. first i ∷ dots-more j a v rows l.1 i
    where
      below : (u w : Vector) → u ≡ at_place r j ∷ w → ((a * at_place r j) % p + dot p w v) % p ≡ dot p u (a ∷ v)
      below u w e =
          add-mod ((a * at_place r j) % p) (dot p w v) p ∙ ap (λ n. (n + dot p w v % p) % p) (mod-mod (a * at_place r j) p) ∙ sym (add-mod (a * at_place r j) (dot p w v) p)
          ∙ ap (λ n. n % p) (let q : a * at_place r j + dot p w v ≡ at_place r j * a + dot p w v = omega arith in q) ∙ ap (λ x. dot p x (a ∷ v)) (sym e)

      first : ((a * at_place r j) % p + dot p (drop (suc j) r) v) % p ≡ dot p (drop j r) (a ∷ v)
      first = below (drop j r) (drop (suc j) r) (drop-cons r j 0 l.0)

  -- m v, by rows and by columns
  columns-combined : (k j : ℕ) (rows : List Vector) (v : Vector) → length v ≡ k → Wide (j + k) rows
      → combined p (length rows) v (columns rows j k) ≡ map (λ r. dot p (drop j r) v) rows
  columns-combined zero j rows [] e g = dots-none j rows
  columns-combined zero j rows (a ∷ v) e g = absurd (omega arith)
  columns-combined (suc k) j rows [] e g = absurd (omega arith)
  columns-combined (suc k) j rows (a ∷ v) e g =
      ap (vector_plus p (multiple p a (column rows j))) (columns-combined k (suc j) rows v (omega arith) (wider rows g))
      ∙ dots-more j a v rows (longer rows g)
    where
      wider : (rs : List Vector) → Wide (j + suc k) rs → Wide (suc j + k) rs
      wider [] h = tt
      wider (r ∷ rs) h = (h.0 ∙ (let q : j + suc k ≡ suc j + k = omega arith in q), wider rs h.1)

      longer : (rs : List Vector) → Wide (j + suc k) rs → Each (λ r. j < length r) rs
      longer [] h = tt
      longer (r ∷ rs) h = (let q : length r ≡ j + suc k = h.0 in omega arith, longer rs h.1)

  null-dots : (rows : List Vector) (v : Vector) → (in_null_space p rows v ≡ true) ↔ (map (λ r. dot p r v) rows ≡ zeros (length rows))
  null-dots [] v = (λ e. refl, λ e. refl)
  null-dots (r ∷ rows) v =
      let rest = null-dots rows v in (
        λ e. let h = and_parts (eqb (dot p r v) 0) (list_all (λ s. eqb (dot p s v) 0) rows) e in λ i. eqb-true (dot p r v) 0 h.0 i ∷ rest.0 h.1 i,
        λ e. let first : dot p r v ≡ 0 = cc in and_from (eqb (dot p r v) 0) (list_all (λ s. eqb (dot p s v) 0) rows) (eq-eqb (dot p r v) 0 first) (rest.1 (cc)),
      )

  pub null_space-kernel : (w : ℕ) (rows : List Vector) (v : Vector) → Wide w rows → length v ≡ w
      → (in_null_space p rows v ≡ true) ↔ (in_kernel p (length rows) (columns rows 0 w) v ≡ true)
  null_space-kernel w rows v g e =
      let same : combined p (length rows) v (columns rows 0 w) ≡ map (λ r. dot p r v) rows = columns-combined w 0 rows v e (subst (λ n. Wide n rows) (let q : w ≡ 0 + w = omega arith in q) g) in
      let decides = bytes_decides (combined p (length rows) v (columns rows 0 w)) (zeros (length rows)) in
      (λ f. decides.1 (same ∙ (null-dots rows v).0 f), λ f. (null-dots rows v).1 (sym same ∙ decides.0 f))

  -- a vector is in the null space where, behind zeros, it is in the span of the unit vectors behind the columns
  pub null_space-graph : (w : ℕ) (rows : List Vector) (v : Vector) → Wide w rows → IsVector p w v
      → (in_null_space p rows v ≡ true) ↔ IsCombination p (length rows + w) (side (columns rows 0 w) (units w)) (zeros (length rows) ++ v)
  null_space-graph w rows v g k =
      let one = null_space-kernel w rows v g k.wide in
      let two = kernel-graph p (length rows) w (columns rows 0 w) v (columns-wide rows 0 w) (length-columns rows 0 w) k in
      (λ e. two.0 (one.0 e), λ c. one.1 (two.1 c))
