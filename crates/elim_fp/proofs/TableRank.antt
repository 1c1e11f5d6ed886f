-- The rows of a table that are not 0 are as many as any basis of what they span: each list of coefficients over them has a sum of its own.
use Rattle.std.proofs.Common.{◌≡◌, ◌⊎◌, inl, inr, ◌↔◌, ℕ, suc, ◌+◌, ◌*◌, ◌-◌, ◌%◌, ◌<◌, ◌≤◌, true, List, [], ◌∷◌, All, length, cond, refl, sym, ◌∙◌, ap, subst, arith}
use Rattle.std.proofs.Math.Nat.{mod-eq_of_lt}
use Rattle.std.proofs.lemmas.Bool.{cases_lt, lt-ltb, le-ltb}
use Rattle.std.proofs.lemmas.List.Elements.{recursion_from_All}
use Rattle.std.specs.List.{AllByRecursion as Each}
use Rattle.fp_field.specs.declared.prime.Prime.{Prime}
use Rattle.fp_field.specs.Field.{number, SameMod, IsField}
use Rattle.fp_field.proofs.Primes.{number_pos, number_above_one}
use Rattle.fp_field.proofs.FieldLaws.{is_field}
use Rattle.fp_field.proofs.Mod.{same-plus, same-by, pred-times}
use Rattle.echelons.specs.Echelon.{Vector, IsVector, at_place, zeros, combined, lead, in_span, reduced_basis, IsSubspace, IsCombination}
use Rattle.echelons.proofs.Vectors.{weight, vectors-wide, place-combined, weight-clear}
use Rattle.echelons.proofs.Lists.{Each-from}
use Rattle.echelons.proofs.Leads.{lead-zeros}
use Rattle.echelons.proofs.Spans.{span-subspace, span-combination, combination-span}
use Rattle.echelons.proofs.Members.{member-span}
use Rattle.echelons.proofs.Basis.{basis-echelon, basis-spans}
use Rattle.echelons.proofs.Counts.{IsBasis, basis-lengths, echelon-basis}
use Rattle.elim_fp.specs.Rows.{DenseRow, vectors_of, IsRow}
use Rattle.elim_fp.specs.Tables.{IsPlaced, Placed, IsTable, nonzero, leading_rows}
use Rattle.elim_fp.proofs.Left.{length-vectors}
use Rattle.elim_fp.proofs.TableRows.{placed-vectors, lead-placed}
use Rattle.elim_fp.proofs.TableSums.{nonzero-each, nonzero-span, leading-values}

-- ---- rows of which each leads where the later ones are 0

abbrev Led : List Vector → Type 0
Led [] = Unit {0}
Led (r ∷ rows) = (at_place r (lead r) ≡ 1) × Each (λ s. at_place s (lead r) ≡ 0) rows × Led rows

module _ (p w : ℕ) (pos : 0 < p) where
  zeros-place : (k i : ℕ) (ts : List Vector) → i < k → Placed p w k ts → Each (λ s. at_place s i ≡ 0) ts
  zeros-place k i [] l h = tt
  zeros-place k i (t ∷ ts) l h = (h.0.before i l, zeros-place (suc k) i ts (omega arith) h.1)

  pub placed-led : (k : ℕ) (ts : List Vector) → Placed p w k ts → Led (nonzero w ts)
  placed-led k [] h = tt
  placed-led k (t ∷ ts) h = by h.0.one_or_none (cases_lt (lead t) w) (placed-led (suc k) ts h.1)
    where
      by : (at_place t k ≡ 1) ⊎ (t ≡ zeros w) → (lead t < w) ⊎ (w ≤ lead t) → Led (nonzero w ts) → Led (nonzero w (t ∷ ts))
      by c (inr l) g = subst (λ b. Led (cond b (t ∷ nonzero w ts) (nonzero w ts))) (sym (le-ltb (lead t) w l)) g
      by (inr e) (inl l) g = absurd (let f : lead t ≡ w = ap lead e ∙ lead-zeros w in omega arith)
      by (inl e) (inl l) g =
          let f = lead-placed p w k t h.0 e in
          subst (λ b. Led (cond b (t ∷ nonzero w ts) (nonzero w ts))) (sym (lt-ltb (lead t) w l)) (
            subst (λ n. at_place t n ≡ 1) (sym f) e,
            nonzero-each p w pos (λ s. at_place s (lead t) ≡ 0) ts (subst (λ n. Each (λ s. at_place s n ≡ 0) ts) (sym f) (zeros-place (suc k) k ts (omega arith) h.1)),
            g,
          )

  -- what weighs the same has the same coefficients
  coefficients-same : (rows : List Vector) (cs ds : List ℕ) → Led rows → length cs ≡ length rows → length ds ≡ length rows → Each (λ c. c < p) cs → Each (λ d. d < p) ds
      → ((j : ℕ) → SameMod p (weight cs rows j) (weight ds rows j)) → cs ≡ ds
  coefficients-same [] [] [] g e f a b same = refl
  coefficients-same [] [] (d ∷ ds) g e f a b same = absurd (omega (arith, f))
  coefficients-same [] (c ∷ cs) ds g e f a b same = absurd (omega (arith, e))
  coefficients-same (r ∷ rows) [] ds g e f a b same = absurd (omega (arith, e))
  coefficients-same (r ∷ rows) (c ∷ cs) [] g e f a b same = absurd (omega (arith, f))
  coefficients-same (r ∷ rows) (c ∷ cs) (d ∷ ds) g e f a b same =
      let first : c ≡ d = below c d a.0 b.0 (at c cs ∙ same (lead r) ∙ sym (at d ds)) in
      let rest = coefficients-same rows cs ds g.2 (omega (arith, e)) (omega (arith, f)) a.1 b.1
      (λ j. cancel (c * at_place r j) (weight cs rows j) (weight ds rows j) (same j ∙ ap (λ n. (n * at_place r j + weight ds rows j) % p) (sym first))) in
      ap (λ n. n ∷ cs) first ∙ ap (λ ns. d ∷ ns) rest
    where
      at : (x : ℕ) (xs : List ℕ) → x % p ≡ (x * at_place r (lead r) + weight xs rows (lead r)) % p
      at x xs = ap (λ n. n % p) (let one = g.0 in let none = weight-clear p xs rows (lead r) g.1 in rw one (rw none (let z : x ≡ x * 1 + 0 = omega arith in z)))

      below : (x y : ℕ) → x < p → y < p → x % p ≡ y % p → x ≡ y
      below x y l m q = sym (mod-eq_of_lt l) ∙ q ∙ mod-eq_of_lt m

      cancel : (a x y : ℕ) → SameMod p (a + x) (a + y) → SameMod p x y
      cancel a x y q =
          same-by p x ((p - 1) * a + (a + x)) a 0 (omega (arith, pred-times p a pos))
          ∙ same-plus p ((p - 1) * a) ((p - 1) * a) (a + x) (a + y) refl q
          ∙ same-by p ((p - 1) * a + (a + y)) y 0 a (omega (arith, pred-times p a pos))

  -- the rows of a table that are not 0 are a basis of what a list of vectors spans that the table spans
  led-basis : (ts vs : List Vector) → Placed p w 0 ts → ((x : Vector) → IsCombination p w ts x ↔ IsCombination p w vs x) → IsBasis p w (nonzero w ts) (in_span p w vs)
  led-basis ts vs h span = record {
    rows_in = rows;
    rows_within = nonzero-each p w pos (λ s. in_span p w vs s ≡ true) ts
        (Each-from (λ s. in_span p w vs s ≡ true) ts (λ s m. combination-span p w vs s ((span s).0 (span-combination p w ts s (member-span p w pos ts s each m)))));
    once = λ v g e. from v ((nonzero-span p w pos ts each v).1 ((span v).1 (span-combination p w vs v e)));
  }
    where
      each : Each (IsVector p w) ts
      each = placed-vectors p w 0 ts h

      rows : Each (IsVector p w) (nonzero w ts)
      rows = nonzero-each p w pos (IsVector p w) ts each

      same : (v : Vector) (cs ds : List ℕ) → combined p w cs (nonzero w ts) ≡ v → combined p w ds (nonzero w ts) ≡ v → (j : ℕ) → SameMod p (weight ds (nonzero w ts) j) (weight cs (nonzero w ts) j)
      same v cs ds e f j =
          let wide = vectors-wide p w (nonzero w ts) rows in
          sym (place-combined p w ds (nonzero w ts) j wide) ∙ ap (λ u. at_place u j % p) (f ∙ sym e) ∙ place-combined p w cs (nonzero w ts) j wide

      from : (v : Vector) → IsCombination p w (nonzero w ts) v
          → (cs : Vector) × IsVector p (length (nonzero w ts)) cs × (combined p w cs (nonzero w ts) ≡ v)
          × ((ds : Vector) → IsVector p (length (nonzero w ts)) ds → combined p w ds (nonzero w ts) ≡ v → ds ≡ cs)
      from v (cs, g, e) = (
        cs,
        g,
        e,
        λ ds d f. coefficients-same (nonzero w ts) ds cs (placed-led 0 ts h) d.wide g.wide (recursion_from_All (λ a. a < p) ds d.below) (recursion_from_All (λ a. a < p) cs g.below) (same v cs ds e f),
      )

-- how many rows of a table are not 0
pub table-rank : (q : Prime) (w : ℕ) (vs : List Vector) (table : List DenseRow) → IsTable q w table → Each (IsVector (number q) w) vs
    → ((x : Vector) → IsCombination (number q) w (vectors_of table) x ↔ IsCombination (number q) w vs x)
    → length (leading_rows w table) ≡ length (reduced_basis (number q) w (in_span (number q) w vs))
table-rank q w vs table h each span =
    let p = number q in
    let pos = number_pos q in
    let above = number_above_one q in
    let within = in_span p w vs in
    let sub = span-subspace p w pos vs (vectors-wide p w vs each) in
    sym (length-vectors (leading_rows w table)) ∙ ap length (leading-values w table)
    ∙ basis-lengths p w above within sub (nonzero w (vectors_of table)) (reduced_basis p w within) (led-basis p w pos (vectors_of table) vs h.placed span)
    (echelon-basis p w above within sub _ (basis-echelon p w (is_field q) within sub) (basis-spans p w (is_field q) within sub))

-- the vectors of rows
pub row-vectors : (q : Prime) (w : ℕ) (rows : List DenseRow) → All (IsRow q w) rows → Each (IsVector (number q) w) (vectors_of rows)
row-vectors q w rows h = vectors rows (recursion_from_All (IsRow q w) rows h)
  where
    vectors : (xs : List DenseRow) → Each (IsRow q w) xs → Each (IsVector (number q) w) (vectors_of xs)
    vectors [] k = tt
    vectors (x ∷ xs) k = (k.0.vector, vectors xs k.1)
