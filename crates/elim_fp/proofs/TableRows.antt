-- Tables of rows by leading place: a row that is lowered by them, and a row more.
use Rattle.std.proofs.Common.{◌≡◌, ◌⊎◌, inl, inr, ◌↔◌, ℕ, zero, suc, ◌+◌, ◌*◌, ◌-◌, ◌%◌, ◌<◌, ◌≤◌, true, List, [], ◌∷◌, ◌++◌, All, length, drop, set, get_or, refl, sym, ◌∙◌, ap, subst, arith}
use Rattle.std.proofs.Math.Nat.{mod-lt, mod-eq_of_lt, zero-mod}
use Rattle.std.proofs.lemmas.Bool.{cases_lt}
use Rattle.std.specs.List.{AllByRecursion as Each}
use Rattle.fp_field.specs.Field.{SameMod, minus}
use Rattle.fp_field.proofs.Mod.{same-times}
use Rattle.echelons.specs.Echelon.{Vector, IsVector, at_place, zeros, vector_plus, multiple, lead, in_span, IsSubspace, IsCombination}
use Rattle.echelons.proofs.Vectors.{Each-weaker, vectors-wide, below-at, at-multiple, place-multiple, place-zeros, length-multiple, plus-vector, zeros-vector, multiple-vector, same-vector}
use Rattle.echelons.proofs.Leads.{before-lead, lead-is, lead-within, lead-zeros, lead-positive, zeros-from_lead}
use Rattle.echelons.proofs.Lists.{Among, each-among, Each-from}
use Rattle.echelons.proofs.Spans.{span-subspace, span-combination, combination-span, combined-zeros}
use Rattle.echelons.proofs.Members.{member-span, combination-chain, same-span, span-kept}
use Rattle.echelons.proofs.Steps.{cleared, cleared-vector, cleared-lead, cleared-keep, cleared-back}
use Rattle.fp_field.specs.declared.prime.Prime.{Prime}
use Rattle.fp_field.specs.Field.{number}
use Rattle.fp_field.proofs.Primes.{number_pos, number_above_one}
use Rattle.std.proofs.lemmas.List.{map-set, length-set}
use Rattle.std.proofs.lemmas.List.Elements.{All-get_or, All-set, recursion_from_All}
use Rattle.std.proofs.Math.Seq.{drop-cons}
use Rattle.elim_fp.specs.Rows.{DenseRow, vectors_of, IsRow}
use Rattle.elim_fp.specs.Tables.{IsPlaced, Placed, IsTable}
use Rattle.elim_fp.proofs.Left.{length-vectors, row-values}
use Rattle.elim_fp.proofs.Related.{read-same}

-- ---- members of a list with one element set

module _ {A : Type 0} where
  pub among-set : (xs : List A) (i : ℕ) (y r : A) → Among r (set xs i y) → (y ≡ r) ⊎ Among r xs
  among-set [] i y r m = absurd m
  among-set (x ∷ xs) zero y r (inl e) = inl e
  among-set (x ∷ xs) zero y r (inr m) = inr (inr m)
  among-set (x ∷ xs) (suc i) y r (inl e) = inr (inl e)
  among-set (x ∷ xs) (suc i) y r (inr m) = by (among-set xs i y r m)
    where
      by : (y ≡ r) ⊎ Among r xs → (y ≡ r) ⊎ Among r (x ∷ xs)
      by (inl e) = inl e
      by (inr n) = inr (inr n)

  pub set-among : (xs : List A) (i : ℕ) (y r d : A) → i < length xs → Among r xs → (get_or xs i d ≡ r) ⊎ Among r (set xs i y)
  set-among [] i y r d l m = absurd m
  set-among (x ∷ xs) zero y r d l (inl e) = inl e
  set-among (x ∷ xs) zero y r d l (inr m) = inr (inr m)
  set-among (x ∷ xs) (suc i) y r d l (inl e) = inr (inl e)
  set-among (x ∷ xs) (suc i) y r d l (inr m) = by (set-among xs i y r d (omega arith) m)
    where
      by : (get_or xs i d ≡ r) ⊎ Among r (set xs i y) → (get_or xs i d ≡ r) ⊎ Among r (x ∷ set xs i y)
      by (inl e) = inl e
      by (inr n) = inr (inr n)

  pub get-among : (xs : List A) (i : ℕ) (d : A) → i < length xs → Among (get_or xs i d) xs
  get-among [] i d l = absurd (omega arith)
  get-among (x ∷ xs) zero d l = inl refl
  get-among (x ∷ xs) (suc i) d l = inr (get-among xs i d (omega arith))

  pub among-new : (xs : List A) (i : ℕ) (y : A) → i < length xs → Among y (set xs i y)
  among-new [] i y l = absurd (omega arith)
  among-new (x ∷ xs) zero y l = inl refl
  among-new (x ∷ xs) (suc i) y l = inr (among-new xs i y (omega arith))

  pub each-set : (P : A → Type 0) (xs : List A) (i : ℕ) (y : A) → P y → Each P xs → Each P (set xs i y)
  each-set P xs i y h k = Each-from P (set xs i y) (λ r m. by r (among-set xs i y r m))
    where
      by : (r : A) → (y ≡ r) ⊎ Among r xs → P r
      by r (inl e) = subst P e h
      by r (inr m) = each-among P xs r k m

-- ---- tables

module _ (p w : ℕ) where
  pub placed-at : (k i : ℕ) (ts : List Vector) → Placed p w k ts → i < length ts → IsPlaced p w (k + i) (get_or ts i [])
  placed-at k i [] h l = absurd (omega arith)
  placed-at k zero (t ∷ ts) h l = subst (λ n. IsPlaced p w n t) (let q : k ≡ k + 0 = omega arith in q) h.0
  placed-at k (suc i) (t ∷ ts) h l = subst (λ n. IsPlaced p w n (get_or ts i [])) (let q : suc k + i ≡ k + suc i = omega arith in q) (placed-at (suc k) i ts h.1 (omega arith))

  pub placed-set : (k i : ℕ) (ts : List Vector) (y : Vector) → Placed p w k ts → IsPlaced p w (k + i) y → Placed p w k (set ts i y)
  placed-set k i [] y h g = tt
  placed-set k zero (t ∷ ts) y h g = (subst (λ n. IsPlaced p w n y) (let q : k + 0 ≡ k = omega arith in q) g, h.1)
  placed-set k (suc i) (t ∷ ts) y h g = (h.0, placed-set (suc k) i ts y h.1 (subst (λ n. IsPlaced p w n y) (let q : k + suc i ≡ suc k + i = omega arith in q) g))

  pub placed-vectors : (k : ℕ) (ts : List Vector) → Placed p w k ts → Each (IsVector p w) ts
  placed-vectors k [] h = tt
  placed-vectors k (t ∷ ts) h = (h.0.vector, placed-vectors (suc k) ts h.1)

  pub lead-placed : (k : ℕ) (t : Vector) → IsPlaced p w k t → at_place t k ≡ 1 → lead t ≡ k
  lead-placed k t h e = lead-is t k h.before (omega arith)

  pub one-placed : (k : ℕ) (t : Vector) → IsPlaced p w k t → k < w → lead t ≡ k → at_place t k ≡ 1
  one-placed k t h l e = by h.one_or_none
    where
      by : (at_place t k ≡ 1) ⊎ (t ≡ zeros w) → at_place t k ≡ 1
      by (inl q) = q
      by (inr q) = absurd (let f : w ≡ k = sym (lead-zeros w) ∙ ap lead (sym q) ∙ e in omega arith)

  pub none-placed : (k : ℕ) (t : Vector) → IsPlaced p w k t → (lead t ≡ k → ⊥) → t ≡ zeros w
  none-placed k t h d = by h.one_or_none
    where
      by : (at_place t k ≡ 1) ⊎ (t ≡ zeros w) → t ≡ zeros w
      by (inl q) = absurd (d (lead-placed k t h q))
      by (inr q) = q

module _ (p w : ℕ) (pos : 0 < p) where
  -- ---- a row that a row of the table is taken away from

  pub cleared-span : (t r : Vector) (ts : List Vector) → Each (IsVector p w) ts → IsVector p w r → Among t ts → (x : Vector) → IsCombination p w (cleared p t r ∷ ts) x ↔ IsCombination p w (r ∷ ts) x
  cleared-span t r ts h g m =
      let tv = each-among (IsVector p w) ts t h m in
      let c = cleared-vector p w pos t r tv g in
      let one = span-subspace p w pos (r ∷ ts) (vectors-wide p w (r ∷ ts) (g, h)) in
      let two = span-subspace p w pos (cleared p t r ∷ ts) (vectors-wide p w (cleared p t r ∷ ts) (c, h)) in
      same-span p w pos (cleared p t r ∷ ts) (r ∷ ts) (c, h) (g, h) (
        one.plus_in r (multiple p (minus p (at_place r (lead t))) t) g (multiple-vector p pos w _ t tv.wide) (member-span p w pos (r ∷ ts) r (g, h) (inl refl))
            (one.multiple_in (minus p (at_place r (lead t))) t (mod-lt (p - at_place r (lead t)) pos) tv (member-span p w pos (r ∷ ts) t (g, h) (inr m))),
        Each-from (λ u. in_span p w (r ∷ ts) u ≡ true) ts (λ u n. member-span p w pos (r ∷ ts) u (g, h) (inr n)),
      ) (
        subst (λ u. in_span p w (cleared p t r ∷ ts) u ≡ true) (cleared-back p w pos t r tv g)
            (two.plus_in (cleared p t r) (multiple p (at_place r (lead t)) t) c (multiple-vector p pos w _ t tv.wide) (member-span p w pos (cleared p t r ∷ ts) (cleared p t r) (c, h) (inl refl))
            (two.multiple_in (at_place r (lead t)) t (below-at p pos w r g (lead t)) tv (member-span p w pos (cleared p t r ∷ ts) t (c, h) (inr m)))),
        Each-from (λ u. in_span p w (cleared p t r ∷ ts) u ≡ true) ts (λ u n. member-span p w pos (cleared p t r ∷ ts) u (c, h) (inr n)),
      )

  -- it leads later
  pub cleared-later : (t r : Vector) → IsVector p w t → IsVector p w r → at_place t (lead t) ≡ 1 → lead t ≡ lead r → lead (cleared p t r) < w → lead r < lead (cleared p t r)
  cleared-later t r tv g one e l = by (cases_lt (lead r) (lead (cleared p t r)))
    where
      c : IsVector p w (cleared p t r)
      c = cleared-vector p w pos t r tv g

      some : 0 < at_place (cleared p t r) (lead (cleared p t r))
      some = lead-positive (cleared p t r) (subst (λ n. lead (cleared p t r) < n) (sym c.wide) l)

      zero-at : (j : ℕ) → (j < lead r) ⊎ (j ≡ lead r) → at_place (cleared p t r) j ≡ 0
      zero-at j (inl k) = cleared-keep p w pos t r j tv g (before-lead t j (omega arith)) ∙ before-lead r j k
      zero-at j (inr q) = ap (at_place (cleared p t r)) (q ∙ sym e) ∙ cleared-lead p w pos t r tv g one

      low : lead (cleared p t r) ≤ lead r → (lead (cleared p t r) < lead r) ⊎ (lead (cleared p t r) ≡ lead r)
      low k = pick (cases_lt (lead (cleared p t r)) (lead r))
        where
          pick : (lead (cleared p t r) < lead r) ⊎ (lead r ≤ lead (cleared p t r)) → (lead (cleared p t r) < lead r) ⊎ (lead (cleared p t r) ≡ lead r)
          pick (inl a) = inl a
          pick (inr a) = inr (omega arith)

      by : (lead r < lead (cleared p t r)) ⊎ (lead (cleared p t r) ≤ lead r) → lead r < lead (cleared p t r)
      by (inl k) = k
      by (inr k) = absurd (let q : at_place (cleared p t r) (lead (cleared p t r)) ≡ 0 = zero-at (lead (cleared p t r)) (low k) in let s : 0 < at_place (cleared p t r) (lead (cleared p t r)) = some in omega arith)

  -- ---- a row put at its place

  -- what was multiplied is had back
  undone : 1 < p → (b c : ℕ) (r : Vector) → IsVector p w r → (b * c) % p ≡ 1 → multiple p c (multiple p b r) ≡ r
  undone above b c r g e =
      same-vector p pos w _ r (multiple-vector p pos w c _ (multiple-vector p pos w b r g.wide).wide) g
      (λ j. place-multiple p c (multiple p b r) j ∙ back-to c (at_place r j) (at_place (multiple p b r) j) (place-multiple p b r j) refl)
    where
      back-to : (k z m : ℕ) → SameMod p m (b * z) → k ≡ c → SameMod p (k * m) z
      back-to k z m f q =
          same-times p k m (b * z) f ∙ ap (λ n. n % p) (ap (λ n. n * (b * z)) q ∙ (let s : c * (b * z) ≡ z * (b * c) = omega arith in s))
          ∙ same-times p z (b * c) 1 (e ∙ sym (mod-eq_of_lt above)) ∙ ap (λ n. n % p) (let s : z * 1 ≡ z = omega arith in s)

  module _ (above : 1 < p) (ts : List Vector) (i b c : ℕ) (r : Vector) (h : Each (IsVector p w) ts) (g : IsVector p w r) (l : i < length ts) (none : get_or ts i [] ≡ zeros w)
      (small : b < p) (low : c < p) (e : (b * c) % p ≡ 1) where
    abbrev y : Vector
    y = multiple p b r

    abbrev old : List Vector
    old = r ∷ ts

    abbrev new : List Vector
    new = set ts i (multiple p b r)

    y-vector : IsVector p w y
    y-vector = multiple-vector p pos w b r g.wide

    new-vectors : Each (IsVector p w) new
    new-vectors = each-set (IsVector p w) ts i y y-vector h

    old-space : IsSubspace p w (in_span p w old)
    old-space = span-subspace p w pos old (vectors-wide p w old (g, h))

    new-space : IsSubspace p w (in_span p w new)
    new-space = span-subspace p w pos new (vectors-wide p w new new-vectors)

    from : (u : Vector) → (y ≡ u) ⊎ Among u ts → in_span p w old u ≡ true
    from u (inl q) = subst (λ v. in_span p w old v ≡ true) q (old-space.multiple_in b r small g (member-span p w pos old r (g, h) (inl refl)))
    from u (inr m) = member-span p w pos old u (g, h) (inr m)

    to : (u : Vector) → (get_or ts i [] ≡ u) ⊎ Among u new → in_span p w new u ≡ true
    to u (inl q) = subst (λ v. in_span p w new v ≡ true) (sym none ∙ q) new-space.zero_in
    to u (inr m) = member-span p w pos new u new-vectors m

    new-r : in_span p w new r ≡ true
    new-r = subst (λ v. in_span p w new v ≡ true) (undone above b c r g e) (new-space.multiple_in c y low y-vector (member-span p w pos new y new-vectors (among-new ts i y l)))

    pub set-span : (x : Vector) → IsCombination p w (set ts i (multiple p b r)) x ↔ IsCombination p w (r ∷ ts) x
    set-span = same-span p w pos new old new-vectors (g, h)
        (Each-from (λ u. in_span p w old u ≡ true) new (λ u m. from u (among-set ts i y u m)))
        (new-r, Each-from (λ u. in_span p w new u ≡ true) ts (λ u m. to u (set-among ts i y u [] l m)))

  -- the multiple of a row that leads with 1
  pub multiple-placed : (b : ℕ) (r : Vector) → IsVector p w r → (b * at_place r (lead r)) % p ≡ 1 → IsPlaced p w (lead r) (multiple p b r)
  multiple-placed b r g e = record {
    vector = multiple-vector p pos w b r g.wide;
    before = λ i l. at-multiple p b r i ∙ ap (λ n. (b * n) % p) (before-lead r i l) ∙ ap (λ n. n % p) (let q : b * 0 ≡ 0 = omega arith in q) ∙ zero-mod p;
    one_or_none = inl (at-multiple p b r (lead r) ∙ e);
  }

-- ---- the same of rows

pub same-item : {A : Type 0} (xs : List A) (k : ℕ) (x y : A) → k < length xs → x ≡ get_or xs k x → y ≡ get_or xs k y → x ≡ y
same-item xs k x y l e f = e ∙ read-same xs k x y l ∙ sym f

module _ (q : Prime) (w : ℕ) (table : List DenseRow) (h : IsTable q w table) where
  vectors-long : length (vectors_of table) ≡ w
  vectors-long = length-vectors table ∙ h.count

  pub row-placed : (k : ℕ) (t : DenseRow) → k < length table → t ≡ get_or table k t → IsPlaced (number q) w k t.values
  row-placed k t l e = subst (IsPlaced (number q) w k) (sym (row-values table k t l e))
      (subst (λ n. IsPlaced (number q) w n (get_or (vectors_of table) k [])) (let s : 0 + k ≡ k = omega arith in s)
      (placed-at (number q) w 0 k (vectors_of table) h.placed (subst (λ n. k < n) (sym (length-vectors table)) l)))

  pub table-each : Each (IsVector (number q) w) (vectors_of table)
  table-each = placed-vectors (number q) w 0 (vectors_of table) h.placed

  pub row-among : (k : ℕ) (t : DenseRow) → k < length table → t ≡ get_or table k t → Among t.values (vectors_of table)
  row-among k t l e = subst (λ v. Among v (vectors_of table)) (sym (row-values table k t l e)) (get-among (vectors_of table) k [] (subst (λ n. k < n) (sym (length-vectors table)) l))

  pub row-prime : (k : ℕ) (t : DenseRow) → k < length table → t ≡ get_or table k t → t.prime ≡ q
  row-prime k t l e = subst (λ r. r.prime ≡ q) (sym e) (All-get_or (λ r. r.prime ≡ q) table k t l h.primes)

  module _ (place c : ℕ) (rest t new : DenseRow) (g : IsRow q w rest) (l : place < length table) (e : t ≡ get_or table place t) (leads : lead t.values ≡ place) (here : place ≡ lead rest.values)
      (ce : c ≡ at_place rest.values place) (pe : new.prime ≡ rest.prime)
      (ne : new.values ≡ vector_plus (number rest.prime) rest.values (multiple (number rest.prime) (minus (number rest.prime) c) t.values)) where
    t-vector : IsVector (number q) w t.values
    t-vector = (row-placed place t l e).vector

    one : at_place t.values (lead t.values) ≡ 1
    one = ap (at_place t.values) leads ∙ one-placed (number q) w place t.values (row-placed place t l e) (subst (λ n. place < n) h.count l) leads

    is : new.values ≡ cleared (number q) t.values rest.values
    is = ne ∙ (λ i. vector_plus (number (g.prime_is i)) rest.values (multiple (number (g.prime_is i)) (minus (number (g.prime_is i)) ((ce ∙ ap (at_place rest.values) (sym leads)) i)) t.values))

    pub lowered-row : IsRow q w new
    lowered-row = record {
      prime_is = pe ∙ g.prime_is;
      vector = subst (IsVector (number q) w) (sym is) (cleared-vector (number q) w (number_pos q) t.values rest.values t-vector g.vector);
    }

    pub lowered-span : (x : Vector) → IsCombination (number q) w (new.values ∷ vectors_of table) x ↔ IsCombination (number q) w (rest.values ∷ vectors_of table) x
    lowered-span x = subst (λ v. IsCombination (number q) w (v ∷ vectors_of table) x ↔ IsCombination (number q) w (rest.values ∷ vectors_of table) x) (sym is)
        (cleared-span (number q) w (number_pos q) t.values rest.values (vectors_of table) table-each g.vector (row-among place t l e) x)

    pub lowered-later : place < lead new.values
    lowered-later = by (cases_lt (lead new.values) w)
      where
        by : (lead new.values < w) ⊎ (w ≤ lead new.values) → place < lead new.values
        by (inl k) = subst (λ v. place < lead v) (sym is)
            (subst (λ n. n < lead (cleared (number q) t.values rest.values)) (sym here)
            (cleared-later (number q) w (number_pos q) t.values rest.values t-vector g.vector one (leads ∙ here) (subst (λ v. lead v < w) is k)))
        by (inr k) = let m : place < w = subst (λ n. place < n) h.count l in omega arith

    pub lowered-wide : length t.values ≡ length rest.values
    lowered-wide = t-vector.wide ∙ sym g.vector.wide

-- a row more: its multiple that leads with 1 stands at its place
pub table-more : (q : Prime) (w b c : ℕ) (table : List DenseRow) (r y : DenseRow) → IsTable q w table → IsRow q w r → lead r.values < w → (lead (get_or (vectors_of table) (lead r.values) []) ≡ lead r.values → ⊥)
    → b < number q → c ≡ at_place r.values (lead r.values) → (c * b) % number q ≡ 1 → y.prime ≡ r.prime → y.values ≡ multiple (number r.prime) b r.values
    → IsTable q w (set table (lead r.values) y) × ((x : Vector) → IsCombination (number q) w (vectors_of (set table (lead r.values) y)) x ↔ IsCombination (number q) w (r.values ∷ vectors_of table) x)
table-more q w b c table r y h g l free small ce inv pe ye =
    let p = number q in
    let place = lead r.values in
    let long : length (vectors_of table) ≡ w = length-vectors table ∙ h.count in
    let here : lead r.values < length (vectors_of table) = subst (λ n. place < n) (sym long) l in
    let is : y.values ≡ multiple (number q) b r.values = ye ∙ ap (λ s. multiple (number s) b r.values) g.prime_is in
    let at = placed-at p w 0 place (vectors_of table) h.placed here in
    let none = none-placed p w (0 + place) (get_or (vectors_of table) place []) at (λ e. free (e ∙ (let s : 0 + lead r.values ≡ lead r.values = omega arith in s))) in
    let turned : (b * c) % number q ≡ 1 = ap (λ n. n % p) (let s : b * c ≡ c * b = omega arith in s) ∙ inv in
    let inverts : (b * at_place r.values (lead r.values)) % number q ≡ 1 = ap (λ n. (b * n) % p) (sym ce) ∙ turned in
    let placed = multiple-placed p w (number_pos q) b r.values g.vector inverts in
    let rows : vectors_of (set table (lead r.values) y) ≡ set (vectors_of table) (lead r.values) (multiple (number q) b r.values) = map-set (λ s. s.values) table place y ∙ ap (set (vectors_of table) place) is in (
      record {
        count = length-set table place y ∙ h.count;
        primes = All-set (λ s. s.prime ≡ q) table place y (pe ∙ g.prime_is) h.primes;
        placed = subst (Placed p w 0) (sym rows) (placed-set p w 0 place (vectors_of table) (multiple p b r.values) h.placed (subst (λ n. IsPlaced p w n (multiple p b r.values)) (let s : lead r.values ≡ 0 + lead r.values = omega arith in s) placed));
      },
      λ x. subst (λ vs. IsCombination p w vs x ↔ IsCombination p w (r.values ∷ vectors_of table) x) (sym rows)
          (set-span p w (number_pos q) (number_above_one q) (vectors_of table) place b c r.values (placed-vectors p w 0 (vectors_of table) h.placed) g.vector here none small
          (subst (λ n. n < p) (sym ce) (below-at p (number_pos q) w r.values g.vector place)) turned x),
    )

-- a row that is 0 adds nothing
pub table-none : (q : Prime) (w : ℕ) (table : List DenseRow) (r : DenseRow) → IsTable q w table → IsRow q w r → w ≤ lead r.values
    → (x : Vector) → IsCombination (number q) w (vectors_of table) x ↔ IsCombination (number q) w (r.values ∷ vectors_of table) x
table-none q w table r h g l x =
    let each = placed-vectors (number q) w 0 (vectors_of table) h.placed in
    let wide : length r.values ≡ w = g.vector.wide in
    let none : r.values ≡ zeros w = zeros-from_lead w r.values wide (omega (arith, lead-within r.values)) in
    let n = length (vectors_of table) in
    let kept = span-kept (number q) w (number_pos q) (vectors_of table) r.values each g.vector
    (zeros n, zeros-vector (number q) (number_pos q) n, combined-zeros (number q) w (number_pos q) (vectors_of table) (vectors-wide (number q) w (vectors_of table) each) ∙ sym none) x in
    (kept.1, kept.0)

-- the table of no rows
pub table-start : (q : Prime) (w : ℕ) (table : List DenseRow) → length table ≡ w → All (IsRow q w) table → All (λ r. r.values ≡ zeros w) table
    → IsTable q w table × ((x : Vector) → IsCombination (number q) w (vectors_of table) x ↔ IsCombination (number q) w [] x)
table-start q w table e h g =
    let each = vectors table (recursion_from_All (IsRow q w) table h) in
    let none = zero-rows table (recursion_from_All (λ r. r.values ≡ zeros w) table g) in
    let space = span-subspace (number q) w (number_pos q) [] tt in (
      record { count = e; primes = primes table h; placed = placed 0 (vectors_of table) none },
      same-span (number q) w (number_pos q) (vectors_of table) [] each tt
          (Each-weaker (λ v. v ≡ zeros w) (λ v. in_span (number q) w [] v ≡ true) (λ v k. subst (λ u. in_span (number q) w [] u ≡ true) (sym k) space.zero_in) (vectors_of table) none) tt,
    )
  where
    vectors : (xs : List DenseRow) → Each (IsRow q w) xs → Each (IsVector (number q) w) (vectors_of xs)
    vectors [] k = tt
    vectors (x ∷ xs) k = (k.0.vector, vectors xs k.1)

    zero-rows : (xs : List DenseRow) → Each (λ r. r.values ≡ zeros w) xs → Each (λ v. v ≡ zeros w) (vectors_of xs)
    zero-rows [] k = tt
    zero-rows (x ∷ xs) k = (k.0, zero-rows xs k.1)

    primes : (xs : List DenseRow) → All (IsRow q w) xs → All (λ r. r.prime ≡ q) xs
    primes xs k = λ i d l. (k i d l).prime_is

    placed : (k : ℕ) (vs : List Vector) → Each (λ v. v ≡ zeros w) vs → Placed (number q) w k vs
    placed k [] z = tt
    placed k (v ∷ vs) z = (
      record {
        vector = subst (IsVector (number q) w) (sym z.0) (zeros-vector (number q) (number_pos q) w);
        before = λ i l. ap (λ u. at_place u i) z.0 ∙ place-zeros w i;
        one_or_none = inr z.0;
      },
      placed (suc k) vs z.1,
    )

-- ---- one vector more, before two lists with one span

module _ (p w : ℕ) (pos : 0 < p) (v : Vector) (g : IsVector p w v) where
  within-before : (rows vs : List Vector) → Each (IsVector p w) rows → Each (IsVector p w) vs → ((x : Vector) → IsCombination p w rows x → IsCombination p w vs x)
      → Each (λ r. in_span p w (v ∷ vs) r ≡ true) (v ∷ rows)
  within-before rows vs h k into = (
    member-span p w pos (v ∷ vs) v (g, k) (inl refl),
    Each-from (λ r. in_span p w (v ∷ vs) r ≡ true) rows (λ r m. combination-span p w (v ∷ vs) r
        (combination-chain p w pos vs (v ∷ vs) r k (g, k) (Each-from (λ u. in_span p w (v ∷ vs) u ≡ true) vs (λ u n. member-span p w pos (v ∷ vs) u (g, k) (inr n)))
        (into r (span-combination p w rows r (member-span p w pos rows r h m))))),
  )

  span-before : (rows vs : List Vector) → Each (IsVector p w) rows → Each (IsVector p w) vs → ((x : Vector) → IsCombination p w rows x ↔ IsCombination p w vs x)
      → (x : Vector) → IsCombination p w (v ∷ rows) x ↔ IsCombination p w (v ∷ vs) x
  span-before rows vs h k same = same-span p w pos (v ∷ rows) (v ∷ vs) (g, h) (g, k) (within-before rows vs h k (λ x. (same x).0)) (within-before vs rows k h (λ x. (same x).1))

-- a row at a place of a list of rows
pub item-row : (q : Prime) (w : ℕ) (xs : List DenseRow) (i : ℕ) (x : DenseRow) → All (IsRow q w) xs → i < length xs → x ≡ get_or xs i x → IsRow q w x
item-row q w xs i x all l e = subst (IsRow q w) (sym e) (All-get_or (IsRow q w) xs i x l all)

-- one row more, the one before those that the table spans
pub table-before : (q : Prime) (w : ℕ) (xs old new : List DenseRow) (i : ℕ) (x : DenseRow) → All (IsRow q w) xs → i < length xs → x ≡ get_or xs i x → IsTable q w old
    → ((u : Vector) → IsCombination (number q) w (vectors_of old) u ↔ IsCombination (number q) w (drop (suc i) (vectors_of xs)) u)
    → ((u : Vector) → IsCombination (number q) w (vectors_of new) u ↔ IsCombination (number q) w (x.values ∷ vectors_of old) u)
    → (u : Vector) → IsCombination (number q) w (vectors_of new) u ↔ IsCombination (number q) w (drop i (vectors_of xs)) u
table-before q w xs old new i x all l e h same step u =
    let rows = placed-vectors (number q) w 0 (vectors_of old) h.placed in
    let item = item-row q w xs i x all l e in
    let more = span-before (number q) w (number_pos q) x.values item.vector (vectors_of old) (drop (suc i) (vectors_of xs)) rows (left (suc i) xs (recursion_from_All (IsRow q w) xs all)) same u in
    let next : drop i (vectors_of xs) ≡ x.values ∷ drop (suc i) (vectors_of xs) =
    drop-cons (vectors_of xs) i [] (subst (λ n. i < n) (sym (length-vectors xs)) l) ∙ ap (λ v. v ∷ drop (suc i) (vectors_of xs)) (sym (row-values xs i x l e)) in
    subst (λ ys. IsCombination (number q) w (vectors_of new) u ↔ IsCombination (number q) w ys u) (sym next) (λ c. more.0 ((step u).0 c), λ c. (step u).1 (more.1 c))
  where
    left : (k : ℕ) (ys : List DenseRow) → Each (IsRow q w) ys → Each (IsVector (number q) w) (drop k (vectors_of ys))
    left k [] z = none k
      where
        none : (n : ℕ) → Each (IsVector (number q) w) (drop n [])
        none zero = tt
        none (suc n) = tt
    left zero (y ∷ ys) z = (z.0.vector, left zero ys z.1)
    left (suc k) (y ∷ ys) z = left k ys z.1

-- a row that a multiple of a vector is added to
pub taken-row : (q : Prime) (w a : ℕ) (rest new : DenseRow) (s : Vector) → IsRow q w rest → IsVector (number q) w s → new.prime ≡ rest.prime
    → new.values ≡ vector_plus (number q) rest.values (multiple (number q) a s) → IsRow q w new
taken-row q w a rest new s g sv pe ne = record {
  prime_is = pe ∙ g.prime_is;
  vector = subst (IsVector (number q) w) (sym ne) (plus-vector (number q) (number_pos q) w rest.values (multiple (number q) a s) g.vector.wide (length-multiple (number q) w a s sv.wide));
}
