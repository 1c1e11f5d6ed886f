-- The rows of a bundle's base with the values on them: when a row is bad, and the first that is.
use Rattle.std.proofs.Common.{◌≡◌, ℕ, zero, suc, ◌<◌, ◌≤◌, Bool, true, false, cond, ◌==◌, List, [], ◌∷◌, map, length, get_or, Option, Some, None, ◌⊎◌, inl, inr, refl, sym, ◌∙◌, ap, subst, arith, ℤ, true≢false, ◌+◌, SFits, w64, to_z, of_z}
use Rattle.std.specs.Prelude.{pos, negsuc, nat_eq, ◌+ℤ◌, ◌-ℤ◌, neg_ℤ, nat_abs, nat_le, nat_lt, not, ◌||◌, ◌&&◌, ◌^◌, ◌/◌, ◌%◌}
use Rattle.std.specs.Option.{option_map, option_or}
use Rattle.std.specs.Ordering.{int_eq}
use Rattle.std.proofs.lemmas.Bool.{cases_lt, cases_eq}
use Rattle.std.proofs.lemmas.Bool.Decides.{Decides-eqb, Decides-int_eq, nat_tests, same_from_decides}
use Rattle.std.proofs.lemmas.Int.{to_z-of_z, ints}
use Rattle.std.proofs.lemmas.List.{length-map}
use Rattle.std.proofs.Math.Nat.{zero-div}
use Rattle.simp_ops.specs.Bits.{bit, places, mask_word}
use Rattle.simp_ops.proofs.MaskWords.{places_told}
use Rattle.spaces.specs.Tables.{Table as TableRows, entry, row_at, listed_face}
use Rattle.spaces.specs.Nerves.{integers}
use Rattle.spaces.specs.Cocycles.{cocycle}
use Rattle.spaces.specs.Allowed.{IsTable, IsCocycle, face_count}
use Rattle.term_lang.specs.declared.tables.TableFace.{TableFace}
use Rattle.term_lang.specs.declared.tables.Row.{Row}
use Rattle.term_lang.specs.declared.faults.TermFault.TheVariants.{BadCocycle}
use Rattle.term_lang.specs.Rows.{face_of, row_of, rows_of}
use Rattle.term_lang.specs.TermFaults.{fault_if, on_face, face_sum, is_bad_row, first_place, cocycle_fault}

-- ---- reading rows and faces

entry_read : {A B : Type 0} (f : A → B) (d : B) (e : A) (xs : List A) (i : ℕ) → i < length xs → entry d (map f xs) i ≡ f (get_or xs i e)
entry_read f d e [] i h = absurd (omega (arith, h))
entry_read f d e (x ∷ xs) zero h = refl
entry_read f d e (x ∷ xs) (suc i) h = entry_read f d e xs i (omega (arith, h))

pub entry-get_or : {A : Type 0} (d : A) (xs : List A) (i : ℕ) → entry d xs i ≡ get_or xs i d
entry-get_or d [] i = refl
entry-get_or d (x ∷ xs) zero = refl
entry-get_or d (x ∷ xs) (suc i) = entry-get_or d xs i

entry_past : {A : Type 0} (d : A) (xs : List A) (i : ℕ) → length xs ≤ i → entry d xs i ≡ d
entry_past d [] i h = refl
entry_past d (x ∷ xs) zero h = absurd (omega (arith, h))
entry_past d (x ∷ xs) (suc i) h = entry_past d xs i (omega (arith, h))

pub row_read : (rows : List Row) (r : ℕ) (d : Row) → r < length rows → row_at (rows_of rows) r ≡ row_of (get_or rows r d)
row_read rows r d h = entry_read row_of _ d rows r h

pub face_read : (rows : List Row) (r i : ℕ) (d : Row) (e : TableFace) → r < length rows → i < length (get_or rows r d).faces
    → listed_face (rows_of rows) i r ≡ face_of (get_or (get_or rows r d).faces i e)
face_read rows r i d e h l = ap (λ row. entry ([], 0) row.faces i) (row_read rows r d h) ∙ entry_read face_of ([], 0) e (get_or rows r d).faces i l

pub faces_read : (rows : List Row) (r : ℕ) (d : Row) → r < length rows → length (row_at (rows_of rows) r).faces ≡ length (get_or rows r d).faces
faces_read rows r d h = ap (λ row. length row.faces) (row_read rows r d h) ∙ length-map (get_or rows r d).faces face_of

pub in_faces : (rows : List Row) (r i : ℕ) → IsTable (rows_of rows) → r < length rows → i < face_count (row_at (rows_of rows) r).dim → i < length (row_at (rows_of rows) r).faces
in_faces rows r i table row_in h = subst (λ n. i < n) (sym (table.counted r (subst (λ n. r < n) (sym (length-map rows row_of)) row_in))) h

-- the list of faces, and one of them, as the code reads them
module _ (rows xs : List Row) (fs : List TableFace) (row : Row) (r i : ℕ) (same : xs ≡ rows) (row_in : r < length rows) (read : fs ≡ (get_or xs r row).faces)
    (face_in : i < length (row_at (rows_of rows) r).faces) where
  read_faces : fs ≡ (get_or rows r row).faces
  read_faces = read ∙ ap (λ ys. (get_or ys r row).faces) same

  face_within : i < length (get_or rows r row).faces
  face_within = subst (λ n. i < n) (faces_read rows r row row_in) face_in

  pub within_faces : i < length fs
  within_faces = subst (λ ys. i < length ys) (sym read_faces) face_within

  pub is_face : (f : TableFace) → f ≡ get_or fs i f → listed_face (rows_of rows) i r ≡ face_of f
  is_face f e = face_read rows r i row f row_in face_within ∙ sym (ap face_of (e ∙ ap (λ ys. get_or ys i f) read_faces))

no_places : (n : ℕ) (t : ℕ → Bool) → ((k : ℕ) → t k ≡ false) → places n t ≡ []
unfolding places
no_places zero t h = refl
no_places (suc n) t h = (λ i. cond (h n i) (n ∷ places n t) (places n t)) ∙ no_places n t h

no_word : mask_word 0 ≡ []
no_word = no_places 32 (bit 0) (λ k. let e : 0 / 2 ^ k % 2 ≡ 0 = ap (λ m. m % 2) (zero-div (2 ^ k)) in ap (λ b. b == 1) e)

on_word : (t : TableRows) (c : List ℤ) (w : List ℕ) (r : ℕ) → w ≡ [] → cocycle integers t c (w, r) ≡ entry (pos 0) c r
on_word t c w r e = ap (λ v. cocycle integers t c (v, r)) e

off_word : (t : TableRows) (c : List ℤ) (w : List ℕ) (r : ℕ) → (w ≡ [] → ⊥) → cocycle integers t c (w, r) ≡ pos 0
off_word t c [] r h = absurd (h refl)
off_word t c (j ∷ w) r h = refl

-- ---- a row

or_parts : (a b : Bool) → (a || b) ≡ false → (a ≡ false) × (b ≡ false)
or_parts true b h = absurd (true≢false h)
or_parts false b h = (refl, h)

or_none : (a b : Bool) → a ≡ false → b ≡ false → (a || b) ≡ false
or_none a b h k = λ i. h i || k i

false_of : {P : Type 0} (b : Bool) → (b ≡ true → P) → (P → ⊥) → b ≡ false
false_of true h k = absurd (k (h refl))
false_of false h k = refl

pub record GoodRow (t : TableRows) (c : List ℤ) (r : ℕ) : Type 0 where
  pub in_list : r < length c
  pub elsewhere : ((row_at t r).dim ≡ 2 → ⊥) → entry (pos 0) c r ≡ pos 0
  pub small : nat_abs (entry (pos 0) c r) ≤ 100000
  pub closed : (row_at t r).dim ≡ 3 → face_sum t c r ≡ pos 0

elsewhere_of : (d : ℕ) (v : ℤ) → (not (d == 2) && not (int_eq v (pos 0))) ≡ false → (d ≡ 2 → ⊥) → v ≡ pos 0
elsewhere_of d v h n = by (int_eq v (pos 0)) refl
  where
    by : (b : Bool) → int_eq v (pos 0) ≡ b → v ≡ pos 0
    by true e = (Decides-int_eq v (pos 0)).0 e
    by false e =
        let f : (d == 2) ≡ false = false_of (d == 2) (Decides-eqb d 2).0 n in
        absurd (true≢false (sym (λ i. not (f i) && not (e i)) ∙ h))

closed_of : (d : ℕ) (v : ℤ) → ((d == 3) && not (int_eq v (pos 0))) ≡ false → d ≡ 3 → v ≡ pos 0
closed_of d v h n = by (int_eq v (pos 0)) refl
  where
    by : (b : Bool) → int_eq v (pos 0) ≡ b → v ≡ pos 0
    by true e = (Decides-int_eq v (pos 0)).0 e
    by false e =
        let f : (d == 3) ≡ true = (Decides-eqb d 3).1 n in
        absurd (true≢false (sym (λ i. f i && not (e i)) ∙ h))

elsewhere_not : (d : ℕ) (v : ℤ) → ((d ≡ 2 → ⊥) → v ≡ pos 0) → (not (d == 2) && not (int_eq v (pos 0))) ≡ false
elsewhere_not d v h = by (cases_eq d 2)
  where
    by : (d ≡ 2) ⊎ (d ≡ 2 → ⊥) → (not (d == 2) && not (int_eq v (pos 0))) ≡ false
    by (inl e) = ap (λ b. not b && not (int_eq v (pos 0))) ((Decides-eqb d 2).1 e)
    by (inr n) = last (not (d == 2)) (ap not ((Decides-int_eq v (pos 0)).1 (h n)))
      where
        last : (b : Bool) {x : Bool} → x ≡ false → (b && x) ≡ false
        last true e = e
        last false e = refl

closed_not : (d : ℕ) (v : ℤ) → (d ≡ 3 → v ≡ pos 0) → ((d == 3) && not (int_eq v (pos 0))) ≡ false
closed_not d v h = by (cases_eq d 3)
  where
    by : (d ≡ 3) ⊎ (d ≡ 3 → ⊥) → ((d == 3) && not (int_eq v (pos 0))) ≡ false
    by (inl e) = (λ i. (Decides-eqb d 3).1 e i && not ((Decides-int_eq v (pos 0)).1 (h e) i))
    by (inr n) = ap (λ b. b && not (int_eq v (pos 0))) (false_of (d == 3) (Decides-eqb d 3).0 n)

above : (m n : ℕ) → nat_le m n ≡ false → n < m
above m n h = grind (arith, nat_tests)

at_most : (m n : ℕ) → nat_lt m n ≡ false → n ≤ m
at_most m n h = grind (arith, nat_tests)

not_le : (m n : ℕ) → n < m → nat_le m n ≡ false
not_le m n h = grind (arith, nat_tests)

not_lt : (m n : ℕ) → n ≤ m → nat_lt m n ≡ false
not_lt m n h = grind (arith, nat_tests)

module _ (t : TableRows) (c : List ℤ) (r : ℕ) where
  pub good_row : is_bad_row t c r ≡ false → GoodRow t c r
  unfolding is_bad_row
  good_row h =
      let p = or_parts (nat_le (length c) r) _ h in
      let q = or_parts (not ((row_at t r).dim == 2) && not (int_eq (entry (pos 0) c r) (pos 0))) _ p.1 in
      let s = or_parts (nat_lt 100000 (nat_abs (entry (pos 0) c r))) _ q.1 in
      record {
        in_list = above (length c) r p.0;
        elsewhere = elsewhere_of (row_at t r).dim (entry (pos 0) c r) q.0;
        small = at_most 100000 (nat_abs (entry (pos 0) c r)) s.0;
        closed = closed_of (row_at t r).dim (face_sum t c r) s.1;
      }

  pub row_good : GoodRow t c r → is_bad_row t c r ≡ false
  unfolding is_bad_row
  row_good g =
      or_none (nat_le (length c) r) _ (not_le (length c) r g.in_list)
      (or_none (not ((row_at t r).dim == 2) && not (int_eq (entry (pos 0) c r) (pos 0))) _ (elsewhere_not (row_at t r).dim (entry (pos 0) c r) g.elsewhere)
      (or_none (nat_lt 100000 (nat_abs (entry (pos 0) c r))) _ (not_lt 100000 (nat_abs (entry (pos 0) c r)) g.small)
      (closed_not (row_at t r).dim (face_sum t c r) g.closed)))

or_true : (a b : Bool) → b ≡ true → (a || b) ≡ true
or_true true b h = refl
or_true false b h = h

true_or : (a b : Bool) → a ≡ true → (a || b) ≡ true
true_or a b h = ap (λ x. x || b) h

module _ (t : TableRows) (c : List ℤ) (r : ℕ) where
  pub missing_bad : length c ≤ r → true ≡ is_bad_row t c r
  unfolding is_bad_row
  missing_bad h = let e : nat_le (length c) r ≡ true = grind (arith, nat_tests) in sym (true_or (nat_le (length c) r) _ e)

  pub large_bad : (v : ℤ) → v ≡ entry (pos 0) c r → 100000 < nat_abs v → true ≡ is_bad_row t c r
  unfolding is_bad_row
  large_bad v e h =
      let f : nat_lt 100000 (nat_abs v) ≡ true = grind (arith, nat_tests) in
      sym (or_true (nat_le (length c) r) _ (or_true (not ((row_at t r).dim == 2) && not (int_eq (entry (pos 0) c r) (pos 0))) _
      (true_or (nat_lt 100000 (nat_abs (entry (pos 0) c r))) _ (ap (λ z. nat_lt 100000 (nat_abs z)) (sym e) ∙ f))))

  pub elsewhere_bad : (n : ℕ) (v : ℤ) → n ≡ (row_at t r).dim → v ≡ entry (pos 0) c r → (n ≡ 2 → ⊥) → (v ≡ pos 0 → ⊥) → true ≡ is_bad_row t c r
  unfolding is_bad_row
  elsewhere_bad n v d e h k =
      let f : (n == 2) ≡ false = false_of (n == 2) (Decides-eqb n 2).0 h in
      let g : int_eq v (pos 0) ≡ false = false_of (int_eq v (pos 0)) (Decides-int_eq v (pos 0)).0 k in
      sym (or_true (nat_le (length c) r) _ (true_or (not ((row_at t r).dim == 2) && not (int_eq (entry (pos 0) c r) (pos 0))) _
      ((λ i. not (sym d i == 2) && not (int_eq (sym e i) (pos 0))) ∙ (λ i. not (f i) && not (g i)))))

  -- what is left to test
  pub last_test : (n : ℕ) (v : ℤ) → n ≡ (row_at t r).dim → v ≡ entry (pos 0) c r → r < length c → nat_abs v ≤ 100000 → ((n ≡ 2 → ⊥) → v ≡ pos 0)
      → ((n == 3) && not (int_eq (face_sum t c r) (pos 0))) ≡ is_bad_row t c r
  unfolding is_bad_row
  last_test n v d e l small h =
      let f : (not (n == 2) && not (int_eq v (pos 0))) ≡ false = elsewhere_not n v h in
      sym ((λ i. not_le (length c) r l i
      || ((not (sym d i == 2) && not (int_eq (sym e i) (pos 0))) || (nat_lt 100000 (nat_abs (sym e i)) || ((sym d i == 3) && not (int_eq (face_sum t c r) (pos 0))))))
      ∙ (λ i. f i || (not_lt 100000 (nat_abs v) small i || ((n == 3) && not (int_eq (face_sum t c r) (pos 0))))))

-- ---- a face of a row

module _ (rows : List Row) (c : List ℤ) (r i : ℕ) (f : TableFace) (e : listed_face (rows_of rows) i r ≡ face_of f) where
  pub on_face_none : (f.degens.mask ≡ 0 → ⊥) → on_face (rows_of rows) c r i ≡ pos 0
  on_face_none h =
      ap (cocycle integers (rows_of rows) c) e
      ∙ off_word (rows_of rows) c (mask_word f.degens.mask) f.row (λ g. h (places_told 32 f.degens.mask 0 f.degens.below_32 (omega arith) (g ∙ sym no_word)))

  pub on_face_value : f.degens.mask ≡ 0 → on_face (rows_of rows) c r i ≡ entry (pos 0) c f.row
  on_face_value h = ap (cocycle integers (rows_of rows) c) e ∙ on_word (rows_of rows) c (mask_word f.degens.mask) f.row (ap mask_word h ∙ no_word)

  module _ (row_in : r < length rows) (face_in : i < length (row_at (rows_of rows) r).faces) (table : IsTable (rows_of rows))
      (good : (k : ℕ) → k < r → is_bad_row (rows_of rows) c k ≡ false) where
    on_good_row : GoodRow (rows_of rows) c f.row
    on_good_row =
        let l : (listed_face (rows_of rows) i r).1 < r = table.earlier r i (subst (λ n. r < n) (sym (length-map rows row_of)) row_in) face_in in
        good_row (rows_of rows) c f.row (good f.row (subst (λ n. n < r) (ap (λ x. x.1) e) l))

    pub face_row_in : f.row < length c
    face_row_in = on_good_row.in_list

    pub face_row_small : nat_abs (entry (pos 0) c f.row) ≤ 100000
    face_row_small = on_good_row.small

-- ---- the first place

none_below : (p : ℕ → Bool) (n : ℕ) → first_place p n ≡ None → (k : ℕ) → k < n → p k ≡ false
unfolding first_place
none_below p zero e k h = absurd (omega (arith, h))
none_below p (suc n) e k h = by (none_below p n) (first_place p n) refl (p n) refl e
  where
    by : (first_place p n ≡ None → (j : ℕ) → j < n → p j ≡ false) → (o : Option ℕ) → first_place p n ≡ o → (b : Bool) → p n ≡ b → option_or o (cond b (Some n) None) ≡ None → p k ≡ false
    by r (Some m) f b g q = absurd (cc)
    by r None f true g q = absurd (cc)
    by r None f false g q = at (cases_lt k n)
      where
        at : (k < n) ⊎ (n ≤ k) → p k ≡ false
        at (inl l) = r f k l
        at (inr l) = let s : k ≡ n = omega arith in ap p s ∙ g

below_none : (p : ℕ → Bool) (n : ℕ) → ((k : ℕ) → k < n → p k ≡ false) → first_place p n ≡ None
unfolding first_place
below_none p zero h = refl
below_none p (suc n) h = λ i. option_or (below_none p n (λ k l. h k (omega (arith, l))) i) (cond (h n (omega arith) i) (Some n) None)

first_is : (p : ℕ → Bool) (r n : ℕ) → r < n → p r ≡ true → ((k : ℕ) → k < r → p k ≡ false) → first_place p n ≡ Some r
unfolding first_place
first_is p r zero l e h = absurd (omega (arith, l))
first_is p r (suc n) l e h = by (λ m. first_is p r n m e h) (cases_lt r n)
  where
    by : (r < n → first_place p n ≡ Some r) → (r < n) ⊎ (n ≤ r) → first_place p (suc n) ≡ Some r
    by q (inl m) = ap (λ o. option_or o (cond (p n) (Some n) None)) (q m)
    by q (inr m) =
        let s : n ≡ r = omega arith in
        (λ i. option_or (below_none p n (λ k u. h k (omega (arith, u))) i) (cond (p n) (Some n) None)) ∙ (λ i. cond (p (s i)) (Some (s i)) None) ∙ ap (λ b. cond b (Some r) None) e

-- ---- all rows

module _ (t : TableRows) (c : List ℤ) where
  pub AreGood : ℕ → Type 0
  AreGood n = (k : ℕ) → k < n → is_bad_row t c k ≡ false

  pub bad_fault : (r : ℕ) → r < length t → ((k : ℕ) → k < r → is_bad_row t c k ≡ false) → is_bad_row t c r ≡ true → Some (BadCocycle r) ≡ cocycle_fault t c
  unfolding cocycle_fault
  bad_fault r l h e =
      sym (ap (λ o. option_or (option_map BadCocycle o) (fault_if (nat_lt (length t) (length c)) (BadCocycle (length t)))) (first_is (is_bad_row t c) r (length t) l e h))

  good_fault : ((k : ℕ) → k < length t → is_bad_row t c k ≡ false) → fault_if (nat_lt (length t) (length c)) (BadCocycle (length t)) ≡ cocycle_fault t c
  unfolding cocycle_fault
  good_fault h =
      sym (ap (λ o. option_or (option_map BadCocycle o) (fault_if (nat_lt (length t) (length c)) (BadCocycle (length t)))) (below_none (is_bad_row t c) (length t) h))

  pub long_fault : ((k : ℕ) → k < length t → is_bad_row t c k ≡ false) → length t < length c → Some (BadCocycle (length t)) ≡ cocycle_fault t c
  long_fault h l = let e : nat_lt (length t) (length c) ≡ true = grind (arith, nat_tests) in sym (ap (λ b. fault_if b (BadCocycle (length t))) e) ∙ good_fault h

  pub no_fault : ((k : ℕ) → k < length t → is_bad_row t c k ≡ false) → length c ≤ length t → None ≡ cocycle_fault t c
  no_fault h l = sym (ap (λ b. fault_if b (BadCocycle (length t))) (not_lt (length t) (length c) l)) ∙ good_fault h

  abbrev pub IsBounded : Type 0
  IsBounded = (r : ℕ) → nat_abs (entry (pos 0) c r) ≤ 100000

  none_parts : cocycle_fault t c ≡ None → ((k : ℕ) → k < length t → is_bad_row t c k ≡ false) × (length c ≤ length t)
  unfolding cocycle_fault
  none_parts e = by (first_place (is_bad_row t c) (length t)) refl (nat_lt (length t) (length c)) refl e
    where
      by : (o : Option ℕ) → first_place (is_bad_row t c) (length t) ≡ o → (b : Bool) → nat_lt (length t) (length c) ≡ b
          → option_or (option_map BadCocycle o) (fault_if b (BadCocycle (length t))) ≡ None
          → ((k : ℕ) → k < length t → is_bad_row t c k ≡ false) × (length c ≤ length t)
      by (Some r) f b g q = absurd (cc)
      by None f true g q = absurd (cc)
      by None f false g q = (none_below (is_bad_row t c) (length t) f, at_most (length t) (length c) g)

  pub cocycle_from : cocycle_fault t c ≡ None → IsCocycle integers t c × IsBounded
  cocycle_from e =
      let p = none_parts e in
      let good : (k : ℕ) → k < length t → GoodRow t c k = λ k l. good_row t c k (p.0 k l) in
      let long : length t ≤ length c = at_least (length t) refl good in (
        record { as_long = let q : length c ≤ length t = p.1 in omega arith; is_in = λ r l. tt; elsewhere = λ r l. (good r l).elsewhere; closed = λ r l. (good r l).closed },
        λ r. bound r good p.1 (cases_lt r (length t)),
      )
    where
      at_least : (n : ℕ) → length t ≡ n → ((k : ℕ) → k < length t → GoodRow t c k) → length t ≤ length c
      at_least zero f good = omega (arith, f)
      at_least (suc n) f good = let g : n < length c = (good n (omega (arith, f))).in_list in omega (arith, f, g)

      bound : (r : ℕ) → ((k : ℕ) → k < length t → GoodRow t c k) → length c ≤ length t → (r < length t) ⊎ (length t ≤ r) → nat_abs (entry (pos 0) c r) ≤ 100000
      bound r good l (inl h) = (good r h).small
      bound r good l (inr h) = let f : entry (pos 0) c r ≡ pos 0 = entry_past (pos 0) c r (omega arith) in rw f (omega arith)

  pub cocycle_to : IsCocycle integers t c → IsBounded → cocycle_fault t c ≡ None
  cocycle_to is small =
      let long : length c ≡ length t = is.as_long in
      sym (no_fault (λ k l. row_good t c k (record { in_list = omega arith; elsewhere = is.elsewhere k l; small = small k; closed = is.closed k l })) (omega arith))

-- ---- the sum of four small values

small_fits : (z : ℤ) (n : ℕ) → nat_abs z ≤ n → n < 2 ^ 63 → SFits w64 z
small_fits (pos m) n h l = record { sfits = omega (arith, h, l) }
small_fits (negsuc m) n h l = let k : suc m ≤ n = h in record { sfits = omega (arith, k, l) }

difference_small : (a b : ℤ) (m n : ℕ) → nat_abs a ≤ m → nat_abs b ≤ n → nat_abs (a -ℤ b) ≤ m + n
difference_small a b m n h k = omega (arith, ints)

sum_small : (a b : ℤ) (m n : ℕ) → nat_abs a ≤ m → nat_abs b ≤ n → nat_abs (a +ℤ b) ≤ m + n
sum_small a b m n h k = omega (arith, ints)

-- a number as the code hands it on
handed : ℤ → ℤ
handed z = to_z w64 (of_z w64 z)

handed_small : (z : ℤ) (n : ℕ) → nat_abs z ≤ n → n < 2 ^ 63 → handed z ≡ z
unfolding handed
handed_small z n h l = to_z-of_z w64 z (small_fits z n h l)

module _ (a b c d : ℤ) (p : nat_abs a ≤ 100000) (q : nat_abs b ≤ 100000) (r : nat_abs c ≤ 100000) (s : nat_abs d ≤ 100000) where
  difference : (x y : ℤ) → nat_abs x ≤ 100000 → nat_abs y ≤ 100000 → handed (handed x -ℤ handed y) ≡ x -ℤ y
  difference x y h k =
      (λ i. handed (handed_small x 100000 h (omega arith) i -ℤ handed_small y 100000 k (omega arith) i))
      ∙ handed_small (x -ℤ y) 200000 (difference_small x y 100000 100000 h k) (omega arith)

  sum_of : handed (handed a -ℤ handed b) +ℤ handed (handed c -ℤ handed d) ≡ (a -ℤ b) +ℤ (c -ℤ d)
  sum_of = λ i. difference a b p q i +ℤ difference c d r s i

  bounded : nat_abs ((a -ℤ b) +ℤ (c -ℤ d)) ≤ 400000
  bounded = sum_small (a -ℤ b) (c -ℤ d) 200000 200000 (difference_small a b 100000 100000 p q) (difference_small c d 100000 100000 r s)

  pub four_fit : SFits w64 (to_z w64 (of_z w64 (to_z w64 (of_z w64 a) -ℤ to_z w64 (of_z w64 b))) +ℤ to_z w64 (of_z w64 (to_z w64 (of_z w64 c) -ℤ to_z w64 (of_z w64 d))))
  unfolding handed
  four_fit = subst (SFits w64) (sym sum_of) (small_fits ((a -ℤ b) +ℤ (c -ℤ d)) 400000 bounded (omega arith))

  pub four_sum : to_z w64 (of_z w64 (to_z w64 (of_z w64 (to_z w64 (of_z w64 a) -ℤ to_z w64 (of_z w64 b))) +ℤ to_z w64 (of_z w64 (to_z w64 (of_z w64 c) -ℤ to_z w64 (of_z w64 d)))))
      ≡ (a +ℤ neg_ℤ b) +ℤ (c +ℤ neg_ℤ d)
  unfolding handed
  four_sum = ap handed sum_of ∙ handed_small ((a -ℤ b) +ℤ (c -ℤ d)) 400000 bounded (omega arith)

-- ---- a number as the code reads and tests it

-- whether the bits of a number are 0
pub zero_bits : (z : ℤ) → SFits w64 z → nat_eq (of_z w64 z) 0 ≡ int_eq z (pos 0)
zero_bits z f = same_from_decides (nat_eq (of_z w64 z) 0) (int_eq z (pos 0)) (Decides-eqb (of_z w64 z) 0) (to, from)
  where
    to : int_eq z (pos 0) ≡ true → of_z w64 z ≡ 0
    to e = ap (of_z w64) ((Decides-int_eq z (pos 0)).0 e)

    from : of_z w64 z ≡ 0 → int_eq z (pos 0) ≡ true
    from e = (Decides-int_eq z (pos 0)).1 (sym (to_z-of_z w64 z f) ∙ ap (to_z w64) e)

pub plain_read : (c v : List ℤ) (r : ℕ) → v ≡ c → get_or v r (pos 0) ≡ entry (pos 0) c r
plain_read c v r e = ap (λ w. get_or w r (pos 0)) e ∙ sym (entry-get_or (pos 0) c r)

pub elsewhere_either : (n : ℕ) (v : ℤ) → SFits w64 v → ((n ≡ 2 → ⊥) × (of_z w64 v ≡ 0)) ⊎ (n ≡ 2) → (n ≡ 2 → ⊥) → v ≡ pos 0
elsewhere_either n v f (inl p) h = sym (to_z-of_z w64 v f) ∙ ap (to_z w64) p.1
elsewhere_either n v f (inr e) h = absurd (h e)

-- the last test, as the code makes it
module _ (t : TableRows) (c : List ℤ) (r n : ℕ) (v : ℤ) (dim : n ≡ (row_at t r).dim) (read : v ≡ entry (pos 0) c r) (in_list : r < length c) (small : nat_abs v ≤ 100000)
    (elsewhere : (n ≡ 2 → ⊥) → v ≡ pos 0) where
  pub test_closed : (s : ℤ) → SFits w64 s → s ≡ face_sum t c r → n ≡ 3 → not (nat_eq (of_z w64 s) 0) ≡ is_bad_row t c r
  test_closed s f e h =
      ap not (zero_bits s f ∙ ap (λ z. int_eq z (pos 0)) e) ∙ sym (ap (λ b. b && not (int_eq (face_sum t c r) (pos 0))) ((Decides-eqb n 3).1 h))
      ∙ last_test t c r n v dim read in_list small elsewhere

  pub test_dim : (n ≡ 3 → ⊥) → nat_eq n 3 ≡ is_bad_row t c r
  test_dim h =
      let f : (n == 3) ≡ false = false_of (n == 3) (Decides-eqb n 3).0 h in
      f ∙ sym (ap (λ b. b && not (int_eq (face_sum t c r) (pos 0))) f) ∙ last_test t c r n v dim read in_list small elsewhere

pub dim_read : (rows xs : List Row) (r : ℕ) (row : Row) → xs ≡ rows → r < length rows → (get_or xs r row).dim ≡ (row_at (rows_of rows) r).dim
dim_read rows xs r row e h = ap (λ ys. (get_or ys r row).dim) e ∙ sym (ap (λ x. x.dim) (row_read rows r row h))
