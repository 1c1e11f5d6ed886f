-- Two bases of a subspace are as long, for there are as many lists of coefficients over each as vectors. So the rows that split
-- Z over B, with a basis of B, are as many as a basis of Z; and the kernel and the image of a linear map as many as the unit vectors.
use Rattle.std.proofs.Common.{◌≡◌, ◌⊎◌, inl, inr, ℕ, zero, suc, ◌+◌, ◌*◌, ◌-◌, ◌%◌, ◌<◌, ◌≤◌, Bool, true, List, [], ◌∷◌, ◌++◌, map, take, drop, length, refl, sym, ◌∙◌, ap, subst, arith, mul-le-mul_right, le_antisymm}
use Rattle.std.proofs.Math.ListN.{length-map, length-append}
use Rattle.std.proofs.lemmas.Bool.{cases_lt}
use Rattle.std.proofs.lemmas.List.{take-append-drop, length-take-le, length-drop}
use Rattle.std.proofs.lemmas.List.Elements.{All-append, All-take, All-drop, recursion_from_All}
use Rattle.std.specs.List.{All, AllByRecursion as Each}
use Rattle.fp_field.specs.Field.{IsField}
use Rattle.echelons.specs.Echelon.{Vector, IsVector, vector_plus, combined, fronted, vectors, reduced_basis, IsSubspace, IsReducedEchelon, Spans, coordinates, IsSplitOnce}
use Rattle.fp_field.proofs.Mod.{same-plus}
use Rattle.echelons.proofs.Vectors.{Each-weaker, Wide, weight, place-plus, place-combined, plus-vector, combined-vector, same-vector}
use Rattle.echelons.proofs.Lists.{Among, each-among, Each-from, Falling, Larger, Larger-apart, vectors-falling, vectors-among, among-vectors}
use Rattle.echelons.proofs.Rows.{Stairs-from, row-vector, coordinates-combined}
use Rattle.echelons.proofs.Unique.{row-within}
use Rattle.echelons.proofs.Basis.{within-combined, basis-echelon, basis-spans}

-- ---- a list whose elements go one to one into another is no longer

module _ {B : Type 0} where
  without : (ys : List B) (y : B) → Among y ys → List B
  without [] y m = []
  without (x ∷ ys) y (inl e) = ys
  without (x ∷ ys) y (inr m) = x ∷ without ys y m

  length-without : (ys : List B) (y : B) (m : Among y ys) → length ys ≡ suc (length (without ys y m))
  unfolding without
  length-without [] y m = absurd m
  length-without (x ∷ ys) y (inl e) = refl
  length-without (x ∷ ys) y (inr m) = ap suc (length-without ys y m)

  among-without : (ys : List B) (y z : B) (m : Among y ys) → Among z ys → (z ≡ y) ⊎ Among z (without ys y m)
  unfolding without
  among-without [] y z m n = absurd m
  among-without (x ∷ ys) y z (inl e) (inl f) = inl (sym f ∙ e)
  among-without (x ∷ ys) y z (inl e) (inr n) = inr n
  among-without (x ∷ ys) y z (inr m) (inl f) = inr (inl f)
  among-without (x ∷ ys) y z (inr m) (inr n) = by (among-without ys y z m n)
    where
      by : (z ≡ y) ⊎ Among z (without ys y m) → (z ≡ y) ⊎ Among z (x ∷ without ys y m)
      by (inl e) = inl e
      by (inr k) = inr (inr k)

module _ {A B : Type 0} (R : A → B → Type 0) (P : A → A → Type 0) (apart : (x : A) → P x x → ⊥) where
  one-to-one : (xs : List A) (ys : List B) → Falling P xs → ((x : A) → Among x xs → (y : B) × Among y ys × R x y)
      → ((x x' : A) (y : B) → Among x xs → Among x' xs → R x y → R x' y → x ≡ x') → length xs ≤ length ys
  one-to-one [] ys f into once = omega arith
  one-to-one (x ∷ xs) ys f into once =
      let y = into x (inl refl) in
      let rest = one-to-one xs (without ys y.0 y.1) f.1 (λ z m. other z m y.0 y.1 y.2 (into z (inr m))) (λ u v z m n. once u v z (inr m) (inr n)) in
      omega (arith, length-without ys y.0 y.1, rest)
    where
      other : (z : A) → Among z xs → (y : B) (m : Among y ys) → R x y → (t : B) × Among t ys × R z t → (t : B) × Among t (without ys y m) × R z t
      other z n y m r q = by (among-without ys y q.0 m q.1)
        where
          by : (q.0 ≡ y) ⊎ Among q.0 (without ys y m) → (t : B) × Among t (without ys y m) × R z t
          by (inl e) = absurd (apart z (subst (λ u. P u z) (once x z y (inl refl) (inr n) r (subst (R z) e q.2)) (each-among (P x) xs z f.0 n)))
          by (inr k) = (q.0, k, q.2)

-- ---- how many vectors there are

module _ (p : ℕ) (above : 1 < p) where
  length-fronted : (n : ℕ) (vs : List Vector) → length (fronted n vs) ≡ n * length vs
  length-fronted zero vs = omega arith
  length-fronted (suc n) vs = length-append (map (λ v. n ∷ v) vs) (fronted n vs) ∙ (let a = length-map vs (λ v. n ∷ v) in omega (arith, a, length-fronted n vs))

  some-vectors : (n : ℕ) → 0 < length (vectors p n)
  some-vectors zero = omega arith
  some-vectors (suc n) = let l = some-vectors n in let m : 1 * length (vectors p n) ≤ p * length (vectors p n) = mul-le-mul_right (length (vectors p n)) (omega arith) in omega (arith, length-fronted p (vectors p n))

  next-more : (n : ℕ) → length (vectors p n) < length (vectors p (suc n))
  next-more n = let l = some-vectors n in let m : 2 * length (vectors p n) ≤ p * length (vectors p n) = mul-le-mul_right (length (vectors p n)) above in omega (arith, length-fronted p (vectors p n))

  more-vectors : (k m : ℕ) → length (vectors p m) < length (vectors p (suc (k + m)))
  more-vectors zero m = subst (λ n. length (vectors p m) < length (vectors p (suc n))) (let q : m ≡ 0 + m = omega arith in q) (next-more m)
  more-vectors (suc k) m = subst (λ n. length (vectors p m) < length (vectors p (suc n))) (let q : suc (k + m) ≡ suc k + m = omega arith in q)
      (let a = more-vectors k m in let b = next-more (suc (k + m)) in omega arith)

  shorter : (n m : ℕ) → length (vectors p n) ≤ length (vectors p m) → n ≤ m
  shorter n m l = by (cases_lt m n)
    where
      by : (m < n) ⊎ (n ≤ m) → n ≤ m
      by (inl k) = absurd (let a = subst (λ i. length (vectors p m) < length (vectors p i)) (let q : suc ((n - suc m) + m) ≡ n = omega arith in q) (more-vectors (n - suc m) m) in omega arith)
      by (inr k) = k

-- ---- bases

-- each vector of the subspace is a combination of the rows in exactly one way
pub record IsBasis (p w : ℕ) (rows : List Vector) (within : Vector → Bool) : Type 0 where
  pub rows_in : Each (IsVector p w) rows
  pub rows_within : Each (λ r. within r ≡ true) rows
  pub once : (v : Vector) → IsVector p w v → within v ≡ true
      → (cs : Vector) × IsVector p (length rows) cs × (combined p w cs rows ≡ v) × ((ds : Vector) → IsVector p (length rows) ds → combined p w ds rows ≡ v → ds ≡ cs)

module _ (p w : ℕ) (above : 1 < p) (within : Vector → Bool) (sub : IsSubspace p w within) where
  pos : 0 < p
  pos = omega arith

  no-longer : (rows others : List Vector) → IsBasis p w rows within → IsBasis p w others within → length rows ≤ length others
  no-longer rows others g h =
      shorter p above (length rows) (length others)
      (one-to-one (λ cs ds. combined p w cs rows ≡ combined p w ds others) Larger Larger-apart (vectors p (length rows)) (vectors p (length others)) (vectors-falling p (length rows))
      (λ cs m. let c = vectors-among p (length rows) cs m in
      let r = h.once (combined p w cs rows) (made cs) (inside cs c) in (r.0, among-vectors p (length others) r.0 r.1, sym r.2))
      (λ cs ds es m n e f.
      let c = vectors-among p (length rows) cs m in
      let r = g.once (combined p w cs rows) (made cs) (inside cs c) in
      r.3 cs c refl ∙ sym (r.3 ds (vectors-among p (length rows) ds n) (f ∙ sym e))))
    where
      made : (cs : List ℕ) → IsVector p w (combined p w cs rows)
      made cs = combined-vector p pos w cs rows (Each-weaker (IsVector p w) (λ v. length v ≡ w) (λ v k. k.wide) rows g.rows_in)

      inside : (cs : List ℕ) → IsVector p (length rows) cs → within (combined p w cs rows) ≡ true
      inside cs c = within-combined p w pos within sub cs rows (recursion_from_All (λ a. a < p) cs c.below) g.rows_in g.rows_within

  pub basis-lengths : (rows others : List Vector) → IsBasis p w rows within → IsBasis p w others within → length rows ≡ length others
  basis-lengths rows others g h = le_antisymm (no-longer rows others g h) (no-longer others rows h g)

  pub echelon-basis : (rows : List Vector) → IsReducedEchelon p w rows → Spans p w rows within → IsBasis p w rows within
  echelon-basis rows h spans =
      let s = Stairs-from p w rows h in
      record {
        rows_in = Each-from (IsVector p w) rows (λ r m. row-vector p w rows r s m);
        rows_within = Each-from (λ r. within r ≡ true) rows (λ r m. row-within p w pos within rows s spans r m);
        once = λ v g e. let c = (spans v g).0 e in (
          c.0,
          c.1,
          c.2,
          λ ds d f. sym (coordinates-combined p w rows ds s d) ∙ ap (coordinates rows) (f ∙ sym c.2) ∙ coordinates-combined p w rows c.0 s c.1,
        );
      }

-- ---- combinations over two lists

module _ (p : ℕ) where
  weight-append : (cs ds : List ℕ) (us vs : List Vector) (j : ℕ) → length cs ≡ length us → weight (cs ++ ds) (us ++ vs) j ≡ weight cs us j + weight ds vs j
  weight-append [] ds [] vs j e = omega arith
  weight-append [] ds (u ∷ us) vs j e = absurd (omega arith)
  weight-append (c ∷ cs) ds [] vs j e = absurd (omega arith)
  weight-append (c ∷ cs) ds (u ∷ us) vs j e = omega (arith, weight-append cs ds us vs j (omega arith))

  wide-append : (w : ℕ) (us vs : List Vector) → Wide w us → Wide w vs → Wide w (us ++ vs)
  wide-append w [] vs g h = h
  wide-append w (u ∷ us) vs g h = (g.0, wide-append w us vs g.1 h)

  each-append : (P : Vector → Type 0) (us vs : List Vector) → Each P us → Each P vs → Each P (us ++ vs)
  each-append P [] vs g h = h
  each-append P (u ∷ us) vs g h = (g.0, each-append P us vs g.1 h)

  combined-append : (w : ℕ) → 0 < p → (cs ds : List ℕ) (us vs : List Vector) → Wide w us → Wide w vs → length cs ≡ length us
      → combined p w (cs ++ ds) (us ++ vs) ≡ vector_plus p (combined p w cs us) (combined p w ds vs)
  combined-append w pos cs ds us vs g h e =
      let a = combined-vector p pos w cs us g in
      let b = combined-vector p pos w ds vs h in
      same-vector p pos w _ _ (combined-vector p pos w (cs ++ ds) (us ++ vs) (wide-append w us vs g h)) (plus-vector p pos w _ _ a.wide b.wide)
      (λ j. place-combined p w (cs ++ ds) (us ++ vs) j (wide-append w us vs g h) ∙ ap (λ n. n % p) (weight-append cs ds us vs j e)
      ∙ same-plus p _ _ _ _ (sym (place-combined p w cs us j g)) (sym (place-combined p w ds vs j h)) ∙ sym (place-plus p _ _ j (a.wide ∙ sym b.wide)))

  append-vector : (m n : ℕ) (u v : Vector) → IsVector p m u → IsVector p n v → IsVector p (m + n) (u ++ v)
  append-vector m n u v g h = record {
    wide = length-append u v ∙ (let a : length u ≡ m = g.wide in let b : length v ≡ n = h.wide in let q : length u + length v ≡ m + n = omega arith in q);
    below = All-append (λ a. a < p) u v g.below h.below;
  }

  take-vector : (m n : ℕ) (v : Vector) → IsVector p (m + n) v → IsVector p m (take m v)
  take-vector m n v h = record { wide = length-take-le m v (let a : length v ≡ m + n = h.wide in omega arith); below = All-take (λ a. a < p) m v h.below }

  drop-vector : (m n : ℕ) (v : Vector) → IsVector p (m + n) v → IsVector p n (drop m v)
  drop-vector m n v h = record {
    wide = length-drop m v ∙ (let a : length v ≡ m + n = h.wide in let q : length v - m ≡ n = omega arith in q);
    below = All-drop (λ a. a < p) m v h.below;
  }

-- ---- the rows that split Z over B, and a basis of B

module _ (p w : ℕ) (above : 1 < p) (whole part : Vector → Bool) (sub : IsSubspace p w whole) (inner : IsSubspace p w part)
    (inside : (v : Vector) → IsVector p w v → part v ≡ true → whole v ≡ true)
    (rows base : List Vector) (rows_in : Each (IsVector p w) rows) (rows_within : Each (λ r. whole r ≡ true) rows) (basis : IsBasis p w base part)
    (splits : (v : Vector) → IsVector p w v → whole v ≡ true → IsSplitOnce p w rows part v) where
  positive : 0 < p
  positive = omega arith

  rows-wide : Wide w rows
  rows-wide = Each-weaker (IsVector p w) (λ v. length v ≡ w) (λ v k. k.wide) rows rows_in

  base-wide : Wide w base
  base-wide = Each-weaker (IsVector p w) (λ v. length v ≡ w) (λ v k. k.wide) base basis.rows_in

  joined-once : (v : Vector) → IsVector p w v → whole v ≡ true
      → (cs : Vector) × IsVector p (length rows + length base) cs × (combined p w cs (rows ++ base) ≡ v)
      × ((ds : Vector) → IsVector p (length rows + length base) ds → combined p w ds (rows ++ base) ≡ v → ds ≡ cs)
  joined-once v g e = from (splits v g e)
    where
      from : IsSplitOnce p w rows part v
          → (cs : Vector) × IsVector p (length rows + length base) cs × (combined p w cs (rows ++ base) ≡ v)
          × ((ds : Vector) → IsVector p (length rows + length base) ds → combined p w ds (rows ++ base) ≡ v → ds ≡ cs)
      from (cs, t, s, only) =
          let b = basis.once t s.rest_in s.rest_within in (
            cs ++ b.0,
            append-vector p (length rows) (length base) cs b.0 s.coefficients_in b.1,
            combined-append p w positive cs b.0 rows base rows-wide base-wide s.coefficients_in.wide ∙ ap (vector_plus p (combined p w cs rows)) b.2 ∙ s.sum_is,
            λ es k f.
                let first = take-vector p (length rows) (length base) es k in
                let second = drop-vector p (length rows) (length base) es k in
                let rest = combined-vector p positive w (drop (length rows) es) base base-wide in
                let same = only (take (length rows) es) (combined p w (drop (length rows) es) base) (record {
                  coefficients_in = first;
                  rest_in = rest;
                  rest_within = within-combined p w positive part inner (drop (length rows) es) base (recursion_from_All (λ a. a < p) _ second.below) basis.rows_in basis.rows_within;
                  sum_is = sym (combined-append p w positive (take (length rows) es) (drop (length rows) es) rows base rows-wide base-wide first.wide)
                      ∙ ap (λ x. combined p w x (rows ++ base)) (take-append-drop (length rows) es) ∙ f;
                }) in
                sym (take-append-drop (length rows) es) ∙ ap (λ x. x ++ drop (length rows) es) same.0 ∙ ap (λ x. cs ++ x) (b.3 (drop (length rows) es) second same.1),
          )

  joined-basis : IsBasis p w (rows ++ base) whole
  joined-basis = record {
    rows_in = each-append p (IsVector p w) rows base rows_in basis.rows_in;
    rows_within = each-append p (λ r. whole r ≡ true) rows base rows_within
        (Each-from (λ r. whole r ≡ true) base (λ r m. inside r (each-among (IsVector p w) base r basis.rows_in m) (each-among (λ q. part q ≡ true) base r basis.rows_within m)));
    once = subst (λ n. (v : Vector) → IsVector p w v → whole v ≡ true → (cs : Vector) × IsVector p n cs × (combined p w cs (rows ++ base) ≡ v)
        × ((ds : Vector) → IsVector p n ds → combined p w ds (rows ++ base) ≡ v → ds ≡ cs)) (sym (length-append rows base)) joined-once;
  }

  joined-length : (others : List Vector) → IsBasis p w others whole → length rows + length base ≡ length others
  joined-length others h = sym (length-append rows base) ∙ basis-lengths p w above whole sub (rows ++ base) others joined-basis h

-- the rows that split Z over B are as many as the basis of Z has more than that of B
pub split-length : (p w : ℕ) → IsField p → (whole part : Vector → Bool) → IsSubspace p w whole → IsSubspace p w part
    → ((v : Vector) → IsVector p w v → part v ≡ true → whole v ≡ true)
    → (rows : List Vector) → All (IsVector p w) rows → All (λ r. whole r ≡ true) rows
    → ((v : Vector) → IsVector p w v → whole v ≡ true → IsSplitOnce p w rows part v)
    → length rows + length (reduced_basis p w part) ≡ length (reduced_basis p w whole)
split-length p w field whole part sub inner inside rows g h splits =
    let above = field.one_is_not_zero in
    joined-length p w above whole part sub inner inside rows (reduced_basis p w part) (recursion_from_All (IsVector p w) rows g) (recursion_from_All (λ r. whole r ≡ true) rows h)
    (echelon-basis p w above part inner (reduced_basis p w part) (basis-echelon p w field part inner) (basis-spans p w field part inner)) splits
    (reduced_basis p w whole) (echelon-basis p w above whole sub (reduced_basis p w whole) (basis-echelon p w field whole sub) (basis-spans p w field whole sub))
