-- The relations between the rows of cells are the vectors of cycles.
use Rattle.std.proofs.Common.{◌≡◌, ◌↔◌, ℕ, zero, suc, ◌+◌, ◌*◌, ◌-◌, ◌%◌, ◌<◌, ◌≤◌, Bool, true, false, ◌&&◌, cond, List, [], ◌∷◌, length, ◌⊎◌, inl, inr, refl, sym, ◌∙◌, ap, subst, arith}
use Rattle.std.proofs.Math.Nat.{mod-mod, mod-eq_of_lt, zero-mod}
use Rattle.std.proofs.Math.ListN.{get_or-append, length-append}
use Rattle.std.proofs.lemmas.Bool.{cases_lt, cases_eq, and_parts, and_from}
use Rattle.std.proofs.lemmas.List.{get_or-append-add, length-map}
use Rattle.std.specs.List.{AllByRecursion}
use Rattle.std.specs.Cmp.{IsTotalOrder, tied_itself}
use Rattle.std.specs.Ordering.{is_eq, eq_by_cmp, ordering_reverse}
use Rattle.std.specs.declared.cmp.Ordering.{Ordering}
use Rattle.std.specs.declared.cmp.Ordering.TheVariants.{Less, Equal}
use Rattle.std.proofs.lemmas.List.Elements.{recursion_from_All}
use Rattle.fp_field.specs.declared.prime.Prime.{Prime}
use Rattle.fp_field.specs.Field.{number, SameMod}
use Rattle.fp_field.specs.Chains.{Terms, Each, weigh, coeff, scale, combination}
use Rattle.fp_field.specs.Normal.{normal}
use Rattle.fp_field.proofs.Primes.{number_pos}
use Rattle.fp_field.proofs.FieldLaws.{is_field}
use Rattle.fp_field.proofs.Mod.{same-plus, same-times}
use Rattle.fp_field.proofs.Weights.{weigh-append, weigh-scale, Each-append, Each-scale}
use Rattle.fp_field.proofs.Normals.{weigh-normal, Rising, normal-Rising}
use Rattle.fp_field.proofs.FlowLaws.{Each-normal}
use Rattle.echelons.specs.Echelon.{Vector, IsVector, at_place, zeros, combined, is_clear, in_kernel, reduced_basis, complement, IsSubspace}
use Rattle.echelons.proofs.Vectors.{weight, Wide, length-zeros, place-zeros, at-combined, combined-vector, zeros-vector, same-vector}
use Rattle.echelons.proofs.Spans.{kernel-at, kernel-from, kernel-subspace}
use Rattle.echelons.proofs.Basis.{basis-echelon, basis-spans}
use Rattle.echelons.proofs.Unique.{basis-is}
use Rattle.elim_fp.specs.Rows.{unit}
use Rattle.elim_fp.proofs.Behind.{length-unit, unit-at, unit-other}
use Rattle.values.specs.Cycles.{is_empty}
use Rattle.values.proofs.BasesLists.{Member}
use Rattle.homology_rules.specs.CycleVectors.{coordinates_over, is_cycle_over, kernel_row, kernel_rows}

-- two subspaces with the same vectors have one basis
pub same_basis : (q : Prime) (w : ℕ) (f g : Vector → Bool) → IsSubspace (number q) w f → ((v : Vector) → IsVector (number q) w v → (f v ≡ true) ↔ (g v ≡ true))
    → reduced_basis (number q) w f ≡ reduced_basis (number q) w g
same_basis q w f g s same =
    basis-is (number q) w (number_pos q) (reduced_basis (number q) w f) g (basis-echelon (number q) w (is_field q) f s)
    (λ v h. let a = basis-spans (number q) w (is_field q) f s v h in let b = same v h in (λ e. a.0 (b.1 e), λ c. b.0 (a.1 c)))

-- a vector is 0 at the marked places
abbrev pub Clear : List Bool → Vector → Type 0
Clear [] v = Unit {0}
Clear (m ∷ ms) [] = Unit {0}
Clear (m ∷ ms) (a ∷ v) = (m ≡ true → a ≡ 0) × Clear ms v

pub nothing-empty : {A : Type 0} (xs : List A) → is_empty xs ≡ true → xs ≡ []
nothing-empty [] e = refl
nothing-empty (x ∷ xs) e = absurd (cc)

module _ {K : Type 0} (cmp : K → K → Ordering) where
  abbrev pub count : K → K → ℕ
  count y x = cond (eq_by_cmp cmp x y) 1 0

  module _ (P : K → Type 0) where
    abbrev pub EachOf : List (Terms K) → Type 0
    EachOf [] = Unit {0}
    EachOf (d ∷ ds) = Each P d × EachOf ds

    pub each-combination : (v : Vector) (ds : List (Terms K)) → EachOf ds → Each P (combination v ds)
    each-combination [] ds h = tt
    each-combination (a ∷ v) [] h = tt
    each-combination (a ∷ v) (d ∷ ds) h = Each-append P (scale a d) (combination v ds) (Each-scale P a d h.0) (each-combination v ds h.1)

  module _ (total : IsTotalOrder cmp) (p : ℕ) (pos : 0 < p) where
    pub none-above : (k : K) (c : Terms K) → Each (λ x. cmp k x ≡ Less) c → coeff (eq_by_cmp cmp) c k ≡ 0
    none-above k [] h = refl
    none-above k (t ∷ c) h =
        ap (λ o. t.1 * cond (is_eq o) 1 0 + coeff (eq_by_cmp cmp) c k) (total.antisymm t.0 k ∙ ap ordering_reverse h.0)
        ∙ (let r : coeff (eq_by_cmp cmp) c k ≡ 0 = none-above k c h.1 in let q : t.1 * 0 + coeff (eq_by_cmp cmp) c k ≡ 0 = omega arith in q)

    -- a chain whose coefficients at its own keys are 0 modulo p has the normal form 0
    pub normal-nothing : ((x y : K) → cmp x y ≡ Equal → x ≡ y) → (c : Terms K) → Each (λ k. SameMod p (coeff (eq_by_cmp cmp) c k) 0) c → normal cmp p c ≡ []
    normal-nothing one_key c h =
        by (normal cmp p c) (normal-Rising cmp p one_key total pos c) (Each-normal (λ k. SameMod p (coeff (eq_by_cmp cmp) c k) 0) cmp p c h) (λ k. weigh-normal cmp p one_key (count k) c)
      where
        by : (e : Terms K) → Rising cmp p one_key e → Each (λ k. SameMod p (coeff (eq_by_cmp cmp) c k) 0) e → ((k : K) → SameMod p (weigh (count k) e) (weigh (count k) c)) → e ≡ []
        by [] r g s = refl
        by (t ∷ e) r g s =
            absurd
            (let a : coeff (eq_by_cmp cmp) e t.0 ≡ 0 = none-above t.0 e r.2 in
            let b : weigh (count t.0) (t ∷ e) ≡ t.1 = ap (λ o. t.1 * cond (is_eq o) 1 0 + coeff (eq_by_cmp cmp) e t.0) (tied_itself total t.0) ∙ (let q : t.1 * 1 + coeff (eq_by_cmp cmp) e t.0 ≡ t.1 = omega arith in q) in
            let d : t.1 ≡ 0 = sym (mod-eq_of_lt r.1) ∙ ap (λ n. n % p) (sym b) ∙ s t.0 ∙ g.0 ∙ zero-mod p in
            let l : 0 < t.1 = r.0 in omega arith)

  -- ---- places of the rows

  module _ (p : ℕ) (cols : List K) (n : ℕ) where
    -- the coordinates of a chain at a place are its coefficients at a cell, and each cell has a place
    pub col-at : (j : ℕ) → j < length cols → (y : K) × ((d : Terms K) → at_place (coordinates_over cmp p cols d) j ≡ coeff (eq_by_cmp cmp) d y % p)
    col-at j l = by cols j l
      where
        by : (ys : List K) (j : ℕ) → j < length ys → (y : K) × ((d : Terms K) → at_place (coordinates_over cmp p ys d) j ≡ coeff (eq_by_cmp cmp) d y % p)
        by [] j l = absurd (omega arith)
        by (y ∷ ys) zero l = (y, λ d. refl)
        by (y ∷ ys) (suc j) l = by ys j (omega arith)

    pub col-of : (x : K) → Member x cols → (j : ℕ) × (j < length cols) × ((d : Terms K) → at_place (coordinates_over cmp p cols d) j ≡ coeff (eq_by_cmp cmp) d x % p)
    col-of x m = by cols m
      where
        by : (ys : List K) → Member x ys → (j : ℕ) × (j < length ys) × ((d : Terms K) → at_place (coordinates_over cmp p ys d) j ≡ coeff (eq_by_cmp cmp) d x % p)
        by [] m = absurd m
        by (y ∷ ys) (inl e) = (0, (let l : 0 < length (y ∷ ys) = omega arith in l), λ d. ap (λ z. coeff (eq_by_cmp cmp) d z % p) e)
        by (y ∷ ys) (inr m) = let r = by ys m in (suc r.0, (let k : r.0 < length ys = r.1 in let l : suc r.0 < length (y ∷ ys) = omega arith in l), r.2)

    abbrev row : Bool → Terms K → ℕ → Vector
    row m d i = kernel_row cmp p cols n m d i

    abbrev rows : ℕ → List Bool → List (Terms K) → List Vector
    rows i ms ds = kernel_rows cmp p cols n i ms ds

    wide-coordinates : (d : Terms K) → length (coordinates_over cmp p cols d) ≡ length cols
    wide-coordinates d = length-map cols (λ y. coeff (eq_by_cmp cmp) d y % p)

    row-wide : (m : Bool) (d : Terms K) (i : ℕ) → length (row m d i) ≡ length cols + n
    row-wide true d i = length-append (zeros (length cols)) (unit i n) ∙ (λ k. length-zeros (length cols) k + length-unit i n k)
    row-wide false d i = length-append (coordinates_over cmp p cols d) (zeros n) ∙ (λ k. wide-coordinates d k + length-zeros n k)

    pub rows-wide : (i : ℕ) (ms : List Bool) (ds : List (Terms K)) → Wide (length cols + n) (rows i ms ds)
    rows-wide i [] ds = tt
    rows-wide i (m ∷ ms) [] = tt
    rows-wide i (m ∷ ms) (d ∷ ds) = (row-wide m d i, rows-wide (suc i) ms ds)

    front-false : (d : Terms K) (i j : ℕ) → j < length cols → at_place (row false d i) j ≡ at_place (coordinates_over cmp p cols d) j
    front-false d i j l = get_or-append (coordinates_over cmp p cols d) (zeros n) 0 j (subst (λ k. j < k) (sym (wide-coordinates d)) l)

    front-true : (d : Terms K) (i j : ℕ) → j < length cols → at_place (row true d i) j ≡ 0
    front-true d i j l = get_or-append (zeros (length cols)) (unit i n) 0 j (subst (λ k. j < k) (sym (length-zeros (length cols))) l) ∙ place-zeros (length cols) j

    back-false : (d : Terms K) (i k : ℕ) → at_place (row false d i) (length cols + k) ≡ 0
    back-false d i k =
        ap (λ x. at_place (row false d i) (x + k)) (sym (wide-coordinates d)) ∙ get_or-append-add (coordinates_over cmp p cols d) (zeros n) k 0 ∙ place-zeros n k

    back-true : (d : Terms K) (i k : ℕ) → at_place (row true d i) (length cols + k) ≡ at_place (unit i n) k
    back-true d i k =
        ap (λ x. at_place (row true d i) (x + k)) (sym (length-zeros (length cols))) ∙ get_or-append-add (zeros (length cols)) (unit i n) k 0

    -- a row is 0 at the places of other cells
    back-other : (m : Bool) (d : Terms K) (i k : ℕ) → (k ≡ i → ⊥) → at_place (row m d i) (length cols + k) ≡ 0
    back-other true d i k h = back-true d i k ∙ unit-other i n k h
    back-other false d i k h = back-false d i k

    nothing-more : (a x y : ℕ) → x ≡ 0 → y ≡ 0 → a * x + y ≡ 0
    nothing-more a x y e f = ap (λ z. a * z + y) e ∙ (let q : a * 0 + y ≡ 0 = omega (arith, f) in q)

    -- ---- the weights of a vector over the rows

    weight-below : (i k : ℕ) (v : Vector) (ms : List Bool) (ds : List (Terms K)) → k < i → weight v (rows i ms ds) (length cols + k) ≡ 0
    weight-below i k [] ms ds l = refl
    weight-below i k (a ∷ v) [] ds l = refl
    weight-below i k (a ∷ v) (m ∷ ms) [] l = refl
    weight-below i k (a ∷ v) (m ∷ ms) (d ∷ ds) l =
        nothing-more a (at_place (row m d i) (length cols + k)) (weight v (rows (suc i) ms ds) (length cols + k)) (back-other m d i k (λ e. absurd (omega (arith, e))))
        (weight-below (suc i) k v ms ds (let q : k < suc i = omega arith in q))

    weight-clear_at : (i k : ℕ) (v : Vector) (ms : List Bool) (ds : List (Terms K)) → Clear ms v → weight v (rows i ms ds) (length cols + k) ≡ 0
    weight-clear_at i k [] ms ds h = refl
    weight-clear_at i k (a ∷ v) [] ds h = refl
    weight-clear_at i k (a ∷ v) (m ∷ ms) [] h = refl
    weight-clear_at i k (a ∷ v) (true ∷ ms) (d ∷ ds) h =
        ap (λ x. x * at_place (row true d i) (length cols + k) + weight v (rows (suc i) ms ds) (length cols + k)) (h.0 refl)
        ∙ (let e : weight v (rows (suc i) ms ds) (length cols + k) ≡ 0 = weight-clear_at (suc i) k v ms ds h.1 in
        let q : 0 * at_place (row true d i) (length cols + k) + weight v (rows (suc i) ms ds) (length cols + k) ≡ 0 = omega arith in q)
    weight-clear_at i k (a ∷ v) (false ∷ ms) (d ∷ ds) h =
        nothing-more a (at_place (row false d i) (length cols + k)) (weight v (rows (suc i) ms ds) (length cols + k)) (back-false d i k) (weight-clear_at (suc i) k v ms ds h.1)

    -- at the place of a cell, over a vector that is 0 at the marked places, stands the coefficient of its differential
    weight-front : (y : K) (j : ℕ) → j < length cols → ((d : Terms K) → at_place (coordinates_over cmp p cols d) j ≡ coeff (eq_by_cmp cmp) d y % p)
        → (i : ℕ) (v : Vector) (ms : List Bool) (ds : List (Terms K)) → length ms ≡ length ds → Clear ms v
        → SameMod p (weight v (rows i ms ds) j) (coeff (eq_by_cmp cmp) (combination v ds) y)
    weight-front y j l at i [] ms ds e h = refl
    weight-front y j l at i (a ∷ v) [] [] e h = refl
    weight-front y j l at i (a ∷ v) [] (d ∷ ds) e h = absurd (omega (arith, e))
    weight-front y j l at i (a ∷ v) (m ∷ ms) [] e h = absurd (omega (arith, e))
    weight-front y j l at i (a ∷ v) (true ∷ ms) (d ∷ ds) e h =
        same-plus p (a * at_place (row true d i) j) (a * coeff (eq_by_cmp cmp) d y) (weight v (rows (suc i) ms ds) j) (coeff (eq_by_cmp cmp) (combination v ds) y)
        (ap (λ x. x * at_place (row true d i) j % p) (h.0 refl) ∙ ap (λ x. x % p) (let q : 0 * at_place (row true d i) j ≡ 0 * coeff (eq_by_cmp cmp) d y = omega arith in q)
        ∙ ap (λ x. x * coeff (eq_by_cmp cmp) d y % p) (sym (h.0 refl)))
        (weight-front y j l at (suc i) v ms ds (omega (arith, e)) h.1)
        ∙ ap (λ x. x % p) (sym (weigh-append (count y) (scale a d) (combination v ds) ∙ ap (λ x. x + coeff (eq_by_cmp cmp) (combination v ds) y) (weigh-scale (count y) a d)))
    weight-front y j l at i (a ∷ v) (false ∷ ms) (d ∷ ds) e h =
        same-plus p (a * at_place (row false d i) j) (a * coeff (eq_by_cmp cmp) d y) (weight v (rows (suc i) ms ds) j) (coeff (eq_by_cmp cmp) (combination v ds) y)
        (same-times p a (at_place (row false d i) j) (coeff (eq_by_cmp cmp) d y) (ap (λ x. x % p) (front-false d i j l ∙ at d) ∙ mod-mod (coeff (eq_by_cmp cmp) d y) p))
        (weight-front y j l at (suc i) v ms ds (omega (arith, e)) h.1)
        ∙ ap (λ x. x % p) (sym (weigh-append (count y) (scale a d) (combination v ds) ∙ ap (λ x. x + coeff (eq_by_cmp cmp) (combination v ds) y) (weigh-scale (count y) a d)))

    -- a vector whose weights at the own places of cells are 0 is 0 at the marked ones
    clear-from : (i : ℕ) (v : Vector) (ms : List Bool) (ds : List (Terms K)) → length ms ≡ length ds → i + length ms ≡ n → AllByRecursion (λ a. a < p) v
        → ((k : ℕ) → weight v (rows i ms ds) (length cols + k) % p ≡ 0) → Clear ms v
    clear-from i v [] ds e f b h = tt
    clear-from i [] (m ∷ ms) ds e f b h = tt
    clear-from i (a ∷ v) (m ∷ ms) [] e f b h = absurd (omega (arith, e))
    clear-from i (a ∷ v) (m ∷ ms) (d ∷ ds) e f b h =
        (first m (h i), clear-from (suc i) v ms ds (omega (arith, e)) (omega (arith, f)) b.1 (λ k. others k (cases_eq k i)))
      where
        rest : ℕ → ℕ
        rest k = weight v (rows (suc i) ms ds) (length cols + k)

        first : (m : Bool) → (a * at_place (row m d i) (length cols + i) + weight v (rows (suc i) ms ds) (length cols + i)) % p ≡ 0 → m ≡ true → a ≡ 0
        first false g t = absurd (cc)
        first true g t =
            sym (mod-eq_of_lt b.0)
            ∙ ap (λ x. x % p)
            (let one : at_place (row true d i) (length cols + i) ≡ 1 = back-true d i i ∙ unit-at i n (let l : i < n = omega (arith, f) in l) in
            let none : weight v (rows (suc i) ms ds) (length cols + i) ≡ 0 = weight-below (suc i) i v ms ds (let l : i < suc i = omega arith in l) in
            let q : a * at_place (row true d i) (length cols + i) ≡ a * 1 = ap (λ x. a * x) one in
            let r : a ≡ a * at_place (row true d i) (length cols + i) + weight v (rows (suc i) ms ds) (length cols + i) = omega arith in r)
            ∙ g

        others : (k : ℕ) → (k ≡ i) ⊎ (k ≡ i → ⊥) → weight v (rows (suc i) ms ds) (length cols + k) % p ≡ 0
        others k (inl q) = ap (λ x. x % p) (weight-below (suc i) k v ms ds (let l : k < suc i = omega (arith, q) in l)) ∙ zero-mod p
        others k (inr q) =
            ap (λ x. x % p)
            (let none : a * at_place (row m d i) (length cols + k) ≡ a * 0 = ap (λ x. a * x) (back-other m d i k q) in
            let r : weight v (rows (suc i) ms ds) (length cols + k) ≡ a * at_place (row m d i) (length cols + k) + weight v (rows (suc i) ms ds) (length cols + k) = omega arith in r)
            ∙ h k

  -- ---- the kernel

  module _ (total : IsTotalOrder cmp) (one_key : (x y : K) → cmp x y ≡ Equal → x ≡ y) (q : Prime) (cols : List K) (n : ℕ) (ms : List Bool) (ds : List (Terms K))
      (as_many : length ms ≡ length ds) (count_is : length ms ≡ n) (covered : EachOf (λ k. Member k cols) ds) where
    abbrev p : ℕ
    p = number q

    abbrev all_rows : List Vector
    all_rows = kernel_rows cmp p cols n 0 ms ds

    wide : Wide (length cols + n) all_rows
    wide = rows-wide p cols n 0 ms ds

    module _ (v : Vector) (g : IsVector p n v) where
      kernel-parts : in_kernel p (length cols + n) all_rows v ≡ true → Clear ms v × (is_cycle_over cmp p ds v ≡ true)
      kernel-parts e = (clear, ap is_empty (normal-nothing total p (number_pos q) one_key (combination v ds) (none (combination v ds) (each-combination (λ k. Member k cols) v ds covered))))
        where
          nothing : (j : ℕ) → weight v all_rows j % p ≡ 0
          nothing j =
              sym (at-combined p (length cols + n) v all_rows j wide) ∙ ap (λ x. at_place x j) (kernel-at p (length cols + n) (number_pos q) all_rows wide v e) ∙ place-zeros (length cols + n) j

          clear : Clear ms v
          clear = clear-from p cols n 0 v ms ds as_many (let f : 0 + length ms ≡ n = omega (arith, count_is) in f) (recursion_from_All (λ a. a < p) v g.below) (λ k. nothing (length cols + k))

          none : (c : Terms K) → Each (λ k. Member k cols) c → Each (λ k. SameMod p (coeff (eq_by_cmp cmp) (combination v ds) k) 0) c
          none [] h = tt
          none (t ∷ c) h = (
            let r = col-of p cols n t.0 h.0 in
                sym (weight-front p cols n t.0 r.0 r.1 r.2 0 v ms ds as_many clear) ∙ nothing r.0 ∙ sym (zero-mod p),
            none c h.1,
          )

      parts-kernel : Clear ms v → is_cycle_over cmp p ds v ≡ true → in_kernel p (length cols + n) all_rows v ≡ true
      parts-kernel clear e =
          kernel-from p (length cols + n) (number_pos q) all_rows wide v
          (same-vector p (number_pos q) (length cols + n) (combined p (length cols + n) v all_rows) (zeros (length cols + n)) (combined-vector p (number_pos q) (length cols + n) v all_rows wide)
          (zeros-vector p (number_pos q) (length cols + n))
          (λ j. ap (λ x. x % p) (at-combined p (length cols + n) v all_rows j wide ∙ by j (cases_lt j (length cols)) ∙ sym (place-zeros (length cols + n) j))))
        where
          by : (j : ℕ) → (j < length cols) ⊎ (length cols ≤ j) → weight v all_rows j % p ≡ 0
          by j (inl l) =
              let y = col-at p cols n j l in
              weight-front p cols n y.0 j l y.1 0 v ms ds as_many clear
              ∙ sym (weigh-normal cmp p one_key (count y.0) (combination v ds)) ∙ ap (λ c. weigh (count y.0) c % p) (nothing-empty (normal cmp p (combination v ds)) e) ∙ zero-mod p
          by j (inr l) =
              ap (λ x. weight v all_rows x % p) (let f : j ≡ length cols + (j - length cols) = omega arith in f)
              ∙ ap (λ x. x % p) (weight-clear_at p cols n 0 (j - length cols) v ms ds clear) ∙ zero-mod p

    -- the relations between the rows, where the marked places are the leading ones of a subspace
    pub cycle-relations : (part : Vector → Bool) → ((v : Vector) → IsVector p n v → (is_clear p n part v ≡ true) ↔ Clear ms v)
        → reduced_basis p (length all_rows) (in_kernel p (length cols + n) all_rows) ≡ complement p n (is_cycle_over cmp p ds) part
    cycle-relations part marked =
        ap (λ m. reduced_basis p m (in_kernel p (length cols + n) all_rows)) rows-count
        ∙ same_basis q n (in_kernel p (length cols + n) all_rows) (λ v. is_cycle_over cmp p ds v && is_clear p n part v)
        (subst (λ m. IsSubspace p m (in_kernel p (length cols + n) all_rows)) rows-count (kernel-subspace p (length cols + n) (number_pos q) all_rows wide))
        (λ v g. (
          λ e. let s = kernel-parts v g e in and_from (is_cycle_over cmp p ds v) (is_clear p n part v) s.1 ((marked v g).1 s.0),
          λ e. let s = and_parts (is_cycle_over cmp p ds v) (is_clear p n part v) e in parts-kernel v g ((marked v g).0 s.1) s.0,
        ))
      where
        counted : (i : ℕ) (ls : List Bool) (cs : List (Terms K)) → length ls ≡ length cs → length (kernel_rows cmp p cols n i ls cs) ≡ length ls
        counted i [] cs e = refl
        counted i (l ∷ ls) [] e = absurd (omega (arith, e))
        counted i (l ∷ ls) (c ∷ cs) e = ap suc (counted (suc i) ls cs (omega (arith, e)))

        rows-count : length all_rows ≡ n
        rows-count = counted 0 ms ds as_many ∙ count_is
