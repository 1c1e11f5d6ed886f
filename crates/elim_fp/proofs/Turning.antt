-- Rows turned into columns: what adding the entries of one row at one place does to the columns, and what stands there in the end.
use Rattle.std.proofs.Common.{◌≡◌, ◌⊎◌, inl, inr, ℕ, zero, suc, ◌+◌, ◌-◌, ◌%◌, ◌<◌, ◌≤◌, [], ◌∷◌, ◌++◌, List, All, length, set, get_or, refl, sym, ◌∙◌, ap, subst, arith, ext_get_or}
use Rattle.std.proofs.Math.Nat.{mod-lt, mod-eq_of_lt}
use Rattle.std.proofs.Math.ListN.{length-map, length-append, get_or-eq_default}
use Rattle.std.proofs.lemmas.Bool.{cases_lt}
use Rattle.std.proofs.lemmas.List.{map-set, get_or-map, set-get_or, length-set, get_or-set_same}
use Rattle.std.proofs.lemmas.List.Elements.{All-set, All-get_or}
use Rattle.fp_field.specs.declared.prime.Prime.{Prime}
use Rattle.fp_field.specs.declared.prime.Prime.TheVariants.{Two}
use Rattle.fp_field.specs.Field.{number, IsField}
use Rattle.fp_field.proofs.Primes.{number_pos}
use Rattle.fp_field.proofs.FieldLaws.{is_field}
use Rattle.echelons.specs.Echelon.{Vector, IsVector, at_place, zeros, in_kernel, in_null_space, reduced_basis, IsSubspace, IsReducedEchelon, IsCombination}
use Rattle.echelons.proofs.Vectors.{Wide, below-at, place-zeros, length-zeros}
use Rattle.echelons.proofs.Spans.{kernel-subspace}
use Rattle.echelons.proofs.Basis.{basis-spans}
use Rattle.echelons.proofs.Unique.{basis-is}
use Rattle.echelons.proofs.Columns.{column, columns, null_space-kernel}
use Rattle.elim_fp.specs.Rows.{DenseRow, vectors_of, IsRow}
use Rattle.elim_fp.proofs.Left.{length-vectors}
use Rattle.elim_fp.proofs.Related.{rows-wide}

pub column-long : (xs : List DenseRow) (i : ℕ) → length (column (vectors_of xs) i) ≡ length xs
column-long xs i = length-map (vectors_of xs) (λ r. at_place r i) ∙ length-vectors xs

pub column-at : (xs : List DenseRow) (k : ℕ) (d : DenseRow) (i : ℕ) → k < length xs → at_place (column (vectors_of xs) i) k ≡ at_place (get_or xs k d).values i
column-at xs k d i l =
    get_or-map (λ r. at_place r i) (vectors_of xs) k d.values 0 (subst (λ n. k < n) (sym (length-vectors xs)) l)
    ∙ ap (λ v. at_place v i) (get_or-map (λ r. r.values) xs k d d.values l)

pub column-set : (xs : List DenseRow) (k : ℕ) (r : DenseRow) (i : ℕ) → column (vectors_of (set xs k r)) i ≡ set (column (vectors_of xs) i) k (at_place r.values i)
column-set xs k r i = ap (λ vs. column vs i) (map-set (λ q. q.values) xs k r) ∙ map-set (λ v. at_place v i) (vectors_of xs) k r.values

pub column-kept : (xs : List DenseRow) (k : ℕ) (r x : DenseRow) (i : ℕ) → k < length xs → x ≡ get_or xs k x → at_place r.values i ≡ at_place x.values i
    → column (vectors_of (set xs k r)) i ≡ column (vectors_of xs) i
column-kept xs k r x i l e f =
    column-set xs k r i ∙ ap (set (column (vectors_of xs) i) k) (f ∙ ap (λ y. at_place y.values i) e ∙ sym (column-at xs k x i l))
    ∙ set-get_or (column (vectors_of xs) i) k 0

-- a row with one entry set
pub row-set : (q : Prime) (w k a : ℕ) (x r : DenseRow) → IsRow q w x → r.prime ≡ x.prime → r.values ≡ set x.values k (a % number q) → IsRow q w r
row-set q w k a x r h e f = record {
  prime_is = e ∙ h.prime_is;
  vector = subst (IsVector (number q) w) (sym f) (record {
    wide = length-set x.values k (a % number q) ∙ h.vector.wide;
    below = All-set (λ b. b < number q) x.values k (a % number q) (mod-lt a (number_pos q)) h.vector.below;
  });
}

-- ---- the rows that are done

module _ (p w : ℕ) (v : Vector) (g : IsVector p w v) (pos : 0 < p) where
  -- a row added to zeros
  pub added-to_zeros : (old new : Vector) → length new ≡ w → old ≡ zeros w → ((j : ℕ) → j < w → at_place new j ≡ (at_place old j + at_place v j) % p) → new ≡ v
  added-to_zeros old new e f h = ext_get_or 0 new v (e ∙ sym g.wide) (λ j l. h j (subst (λ n. j < n) e l)
      ∙ ap (λ n. (n + at_place v j) % p) (ap (λ u. at_place u j) f ∙ place-zeros w j)
      ∙ ap (λ n. n % p) (let q : 0 + at_place v j ≡ at_place v j = omega arith in q) ∙ mod-eq_of_lt (below-at p pos w v g j))

columns-at : (rows : List Vector) (a k j : ℕ) → j < k → get_or (columns rows a k) j [] ≡ column rows (a + j)
columns-at rows a zero j l = absurd (omega arith)
columns-at rows a (suc k) zero l = ap (column rows) (let q : a ≡ a + 0 = omega arith in q)
columns-at rows a (suc k) (suc j) l = columns-at rows (suc a) k j (omega arith) ∙ ap (column rows) (let q : suc a + j ≡ a + suc j = omega arith in q)

columns-long : (rows : List Vector) (a k : ℕ) → length (columns rows a k) ≡ k
columns-long rows a zero = refl
columns-long rows a (suc k) = ap suc (columns-long rows (suc a) k)

-- rows whose columns are the rows of a matrix are its columns
pub turned-is : (q : Prime) (w : ℕ) (xs ys : List DenseRow) → length ys ≡ w → All (IsRow q (length xs)) ys
    → ((i : ℕ) → i < length xs → column (vectors_of ys) i ≡ get_or (vectors_of xs) i []) → vectors_of ys ≡ columns (vectors_of xs) 0 w
turned-is q w xs ys e h f =
    ext_get_or [] (vectors_of ys) (columns (vectors_of xs) 0 w) (length-vectors ys ∙ e ∙ sym (columns-long (vectors_of xs) 0 w))
    (λ j l. let m : j < length ys = subst (λ n. j < n) (length-vectors ys) l in each j m ∙ sym (columns-at (vectors_of xs) 0 w j (subst (λ n. j < n) e m) ∙ ap (column (vectors_of xs)) (let s : 0 + j ≡ j = omega arith in s)))
  where
    each : (j : ℕ) → j < length ys → get_or (vectors_of ys) j [] ≡ column (vectors_of xs) j
    each j m =
        let none : DenseRow = record { prime = q; values = [] } in
        let row = All-get_or (IsRow q (length xs)) ys j none m h in
        get_or-map (λ r. r.values) ys j none [] m
        ∙ ext_get_or 0 (get_or ys j none).values (column (vectors_of xs) j) (row.vector.wide ∙ sym (column-long xs j))
        (λ i l. let k : i < length xs = subst (λ n. i < n) row.vector.wide l in
        sym (column-at ys j none i m) ∙ ap (λ u. at_place u j) (f i k)
        ∙ sym (get_or-map (λ r. at_place r j) (vectors_of xs) i [] 0 (subst (λ n. i < n) (sym (length-vectors xs)) k)))

pub column-small : (q : Prime) (w : ℕ) (xs : List DenseRow) (i : ℕ) → All (IsRow q w) xs → (j : ℕ) → at_place (column (vectors_of xs) i) j < number q
column-small q w xs i h j = by (cases_lt j (length xs))
  where
    by : (j < length xs) ⊎ (length xs ≤ j) → at_place (column (vectors_of xs) i) j < number q
    by (inl l) =
        let none : DenseRow = record { prime = q; values = [] } in
        subst (λ n. n < number q) (sym (column-at xs j none i l)) (below-at (number q) (number_pos q) w (get_or xs j none).values (All-get_or (IsRow q w) xs j none l h).vector i)
    by (inr l) = subst (λ n. n < number q) (sym (get_or-eq_default (column (vectors_of xs) i) 0 (subst (λ n. n ≤ j) (sym (column-long xs i)) l))) (number_pos q)

-- the column at the place of a row with one entry more there
pub more-here : (m : ℕ) (cur : List DenseRow) (k place a : ℕ) (x r : DenseRow) → k < length cur → x ≡ get_or cur k x → place < length x.values → r.values ≡ set x.values place ((at_place x.values place + a) % m)
    → column (vectors_of (set cur k r)) place ≡ set (column (vectors_of cur) place) (k - 0) ((at_place (column (vectors_of cur) place) (k - 0) + a) % m)
more-here m cur k place a x r l e b f =
    column-set cur k r place
    ∙ ap (set (column (vectors_of cur) place) k) (ap (λ v. at_place v place) f ∙ get_or-set_same x.values place ((at_place x.values place + a) % m) 0 b
    ∙ ap (λ n. (n + a) % m) (ap (λ y. at_place y.values place) e ∙ sym (column-at cur k x place l)))
    ∙ ap (λ n. set (column (vectors_of cur) place) n ((at_place (column (vectors_of cur) place) n + a) % m)) (let s : k ≡ k - 0 = omega arith in s)

pub column-zeros : (n w : ℕ) (ys : List DenseRow) (i : ℕ) → length ys ≡ w → All (λ r. r.values ≡ zeros n) ys → column (vectors_of ys) i ≡ zeros w
column-zeros n w ys i e h =
    ext_get_or 0 (column (vectors_of ys) i) (zeros w) (column-long ys i ∙ e ∙ sym (length-zeros w))
    (λ j l. let m : j < length ys = subst (λ k. j < k) (column-long ys i) l in read j m ∙ sym (place-zeros w j))
  where
    read : (j : ℕ) → j < length ys → at_place (column (vectors_of ys) i) j ≡ 0
    read j m =
        let none : DenseRow = record { prime = Two; values = [] } in
        column-at ys j none i m ∙ ap (λ v. at_place v i) (h j none m) ∙ place-zeros n i

pub more-within : (xs ys : List DenseRow) (x : DenseRow) (n : ℕ) → ys ≡ xs ++ x ∷ [] → length xs < n → length ys ≤ n
more-within xs ys x n e l = omega (arith, ap length e, length-append xs (x ∷ []))

-- ---- the null space, by the columns

pub columns-count : (rows : List Vector) (w : ℕ) → length (columns rows 0 w) ≡ w
columns-count rows w = columns-long rows 0 w

pub null-basis : (p w : ℕ) → IsField p → (rows basis : List Vector) → Wide w rows → Wide (length rows) (columns rows 0 w) → IsReducedEchelon p w basis
    → basis ≡ reduced_basis p w (in_kernel p (length rows) (columns rows 0 w)) → basis ≡ reduced_basis p w (in_null_space p rows)
null-basis p w field rows basis wide turned echelon is =
    basis-is p w pos basis (in_null_space p rows) echelon (λ v g.
    let one = null_space-kernel p w rows v wide g.wide in
    let two = basis-spans p w field (in_kernel p (length rows) (columns rows 0 w)) space v g in (
      λ e. subst (λ b. IsCombination p w b v) (sym is) (two.0 (one.0 e)),
      λ c. one.1 (two.1 (subst (λ b. IsCombination p w b v) is c)),
    ))
  where
    pos : 0 < p
    pos = let l : 1 < p = field.one_is_not_zero in omega arith

    space : IsSubspace p w (in_kernel p (length rows) (columns rows 0 w))
    space = subst (λ n. IsSubspace p n (in_kernel p (length rows) (columns rows 0 w))) (columns-long rows 0 w) (kernel-subspace p (length rows) pos (columns rows 0 w) turned)

pub null-rows : (q : Prime) (w k n : ℕ) (xs ys zs : List DenseRow) (basis : List Vector) → All (IsRow q w) xs → All (IsRow q (length xs)) ys → vectors_of ys ≡ columns (vectors_of xs) 0 w → zs ≡ ys
    → k ≡ length xs → n ≡ length zs → IsReducedEchelon (number q) n basis → basis ≡ reduced_basis (number q) n (in_kernel (number q) k (vectors_of zs))
    → IsReducedEchelon (number q) w basis × (basis ≡ reduced_basis (number q) w (in_null_space (number q) (vectors_of xs)))
null-rows q w k n xs ys zs basis g h e z ke ne echelon is =
    let long : length (vectors_of xs) ≡ length xs = length-vectors xs in
    let turned = ap vectors_of z ∙ e in
    let many : n ≡ w = ne ∙ sym (length-vectors zs) ∙ ap length turned ∙ columns-count (vectors_of xs) w in
    let good = subst (λ m. IsReducedEchelon (number q) m basis) many echelon in (
      good,
      null-basis (number q) w (is_field q) (vectors_of xs) basis (rows-wide q w xs g)
          (subst (λ m. Wide m (columns (vectors_of xs) 0 w)) (sym long) (subst (Wide (length xs)) e (rows-wide q (length xs) ys h))) good
          (is ∙ (λ i. reduced_basis (number q) (many i) (in_kernel (number q) ((ke ∙ sym long) i) (turned i)))),
    )
