-- The complement of one reduced echelon list in the span of another: the rows of the other that lead where no row of the one does.
use Rattle.std.proofs.Common.{◌≡◌, ◌⊎◌, inl, inr, ℕ, suc, ◌+◌, ◌*◌, ◌%◌, ◌<◌, ◌≤◌, Bool, true, false, ◌&&◌, cond, eqb, List, [], ◌∷◌, map, length, drop, get_or, All, refl, sym, ◌∙◌, ap, subst, arith}
use Rattle.std.proofs.Math.Nat.{zero-mod}
use Rattle.std.proofs.Math.Seq.{drop-cons}
use Rattle.std.proofs.Math.ListN.{drop_of_length-le}
use Rattle.std.proofs.lemmas.Bool.{cases_eq, eq-eqb, ne_eqb, and_parts, and_from}
use Rattle.std.proofs.lemmas.List.Elements.{All-from_recursion, recursion_from_All}
use Rattle.std.specs.List.{AllByRecursion as Each}
use Rattle.echelons.specs.Echelon.{Vector, IsVector, at_place, lead, in_span, is_clear, complement, IsReducedEchelon, IsCombination, Spans, coordinates}
use Rattle.echelons.proofs.Vectors.{Each-weaker, weight, weight-clear, place-combined, at-combined, combined-vector, same-vector}
use Rattle.echelons.proofs.Lists.{Among, each-among, Each-from}
use Rattle.echelons.proofs.Rows.{Apart, Stairs, Stairs-from, Stairs-wide, echelon-from, row-vector, row-one, row-clear, coordinates-vector, combination-coordinates, lead-combination}
use Rattle.echelons.proofs.Spans.{span-combination, combination-span, spans-span}
use Rattle.echelons.proofs.Members.{combination-chain, member-span}
use Rattle.echelons.proofs.Unique.{basis-is}
use Rattle.echelons.proofs.EchelonLaws.{clear-rows}
use Rattle.elim_fp.specs.Rows.{DenseRow, vectors_of}
use Rattle.elim_fp.specs.Matching.{unmatched, row_lead}

-- ---- the walk

module _ {A : Type 0} (key : A → ℕ) where
  walk-match : (xs ys : List A) (x y : A) → key x ≡ key y → unmatched key (x ∷ xs) (y ∷ ys) ≡ unmatched key xs ys
  walk-match xs ys x y e = ap (λ b. cond b (unmatched key xs ys) (x ∷ unmatched key xs (y ∷ ys))) (eq-eqb (key x) (key y) e)

  walk-keep : (xs ys : List A) (x y : A) → (key x ≡ key y → ⊥) → unmatched key (x ∷ xs) (y ∷ ys) ≡ x ∷ unmatched key xs (y ∷ ys)
  walk-keep xs ys x y d = ap (λ b. cond b (unmatched key xs ys) (x ∷ unmatched key xs (y ∷ ys))) (ne_eqb (key x) (key y) d)

  pub step-match : (xs ys : List A) (i n : ℕ) (x y : A) → i < length xs → x ≡ get_or xs i x → n < length ys → y ≡ get_or ys n y → key x ≡ key y
      → unmatched key (drop i xs) (drop n ys) ≡ unmatched key (drop (suc i) xs) (drop (suc n) ys)
  step-match xs ys i n x y l e k f g =
      (λ t. unmatched key (drop-cons xs i x l t) (drop-cons ys n y k t)) ∙ (λ t. unmatched key (sym e t ∷ drop (suc i) xs) (sym f t ∷ drop (suc n) ys))
      ∙ walk-match (drop (suc i) xs) (drop (suc n) ys) x y g

  pub step-keep : (xs ys : List A) (i n : ℕ) (x y : A) → i < length xs → x ≡ get_or xs i x → n < length ys → y ≡ get_or ys n y → (key x ≡ key y → ⊥)
      → unmatched key (drop i xs) (drop n ys) ≡ x ∷ unmatched key (drop (suc i) xs) (drop n ys)
  step-keep xs ys i n x y l e k f g =
      (λ t. unmatched key (drop-cons xs i x l t) (drop-cons ys n y k t)) ∙ (λ t. unmatched key (sym e t ∷ drop (suc i) xs) (sym f t ∷ drop (suc n) ys))
      ∙ walk-keep (drop (suc i) xs) (drop (suc n) ys) x y g
      ∙ ap (λ zs. x ∷ unmatched key (drop (suc i) xs) zs) (ap (λ z. z ∷ drop (suc n) ys) f ∙ sym (drop-cons ys n y k))

  pub step-end : (xs ys : List A) (i n : ℕ) (x : A) → i < length xs → x ≡ get_or xs i x → length ys ≤ n
      → unmatched key (drop i xs) (drop n ys) ≡ x ∷ unmatched key (drop (suc i) xs) (drop n ys)
  step-end xs ys i n x l e k =
      (λ t. unmatched key (drop-cons xs i x l t) (drop_of_length-le ys k t)) ∙ (λ t. unmatched key (sym e t ∷ drop (suc i) xs) [])
      ∙ ap (λ zs. x ∷ unmatched key (drop (suc i) xs) zs) (sym (drop_of_length-le ys k))

  pub unmatched-each : (P : A → Type 0) (xs ys : List A) → Each P xs → Each P (unmatched key xs ys)
  unmatched-each P [] ys h = tt
  unmatched-each P (x ∷ xs) [] h = (h.0, unmatched-each P xs [] h.1)
  unmatched-each P (x ∷ xs) (y ∷ ys) h = by (eqb (key x) (key y)) (unmatched-each P xs ys h.1) (unmatched-each P xs (y ∷ ys) h.1)
    where
      by : (b : Bool) → Each P (unmatched key xs ys) → Each P (unmatched key xs (y ∷ ys)) → Each P (cond b (unmatched key xs ys) (x ∷ unmatched key xs (y ∷ ys)))
      by true f g = f
      by false f g = (h.0, g)

  pub unmatched-all : (P : A → Type 0) (xs ys : List A) → All P xs → All P (unmatched key xs ys)
  unmatched-all P xs ys h = All-from_recursion P (unmatched key xs ys) (unmatched-each P xs ys (recursion_from_All P xs h))

pub map-unmatched : {A B : Type 0} (f : A → B) (key : B → ℕ) (xs ys : List A) → map f (unmatched (λ x. key (f x)) xs ys) ≡ unmatched key (map f xs) (map f ys)
map-unmatched f key [] ys = refl
map-unmatched f key (x ∷ xs) [] = ap (λ zs. f x ∷ zs) (map-unmatched f key xs [])
map-unmatched f key (x ∷ xs) (y ∷ ys) = by (eqb (key (f x)) (key (f y))) (map-unmatched f key xs ys) (map-unmatched f key xs (y ∷ ys))
  where
    by : (b : Bool) → map f (unmatched (λ z. key (f z)) xs ys) ≡ unmatched key (map f xs) (map f ys)
        → map f (unmatched (λ z. key (f z)) xs (y ∷ ys)) ≡ unmatched key (map f xs) (f y ∷ map f ys)
        → map f (cond b (unmatched (λ z. key (f z)) xs ys) (x ∷ unmatched (λ z. key (f z)) xs (y ∷ ys)))
        ≡ cond b (unmatched key (map f xs) (map f ys)) (f x ∷ unmatched key (map f xs) (f y ∷ map f ys))
    by true g h = g
    by false g h = ap (λ zs. f x ∷ zs) h

-- ---- the rows that are left

-- a row of the list leads there
abbrev LeadAmong : List Vector → ℕ → Type 0
LeadAmong rows j = (r : Vector) × Among r rows × (lead r ≡ j)

module _ (p w : ℕ) where
  unmatched-stairs : (zs bs : List Vector) → Stairs p w zs → Stairs p w (unmatched lead zs bs)
  unmatched-stairs [] bs h = tt
  unmatched-stairs (r ∷ zs) [] h = (h.0, h.1, unmatched-each lead (Apart r) zs [] h.2, unmatched-stairs zs [] h.3)
  unmatched-stairs (r ∷ zs) (s ∷ bs) h = by (eqb (lead r) (lead s)) (unmatched-stairs zs bs h.3) (unmatched-stairs zs (s ∷ bs) h.3)
    where
      by : (b : Bool) → Stairs p w (unmatched lead zs bs) → Stairs p w (unmatched lead zs (s ∷ bs))
          → Stairs p w (cond b (unmatched lead zs bs) (r ∷ unmatched lead zs (s ∷ bs)))
      by true f g = f
      by false f g = (h.0, h.1, unmatched-each lead (Apart r) zs (s ∷ bs) h.2, g)

  -- the places of the second list are among those of the first but its first row
  later : (r : Vector) (zs bs : List Vector) → Each (λ s. LeadAmong (r ∷ zs) (lead s)) bs → Each (λ s. lead r < lead s) bs → Each (λ s. LeadAmong zs (lead s)) bs
  later r zs [] h l = tt
  later r zs (s ∷ bs) h l = (here h.0, later r zs bs h.1 l.1)
    where
      here : LeadAmong (r ∷ zs) (lead s) → LeadAmong zs (lead s)
      here (q, inl e, f) = absurd (let k : lead r < lead s = l.0 in let g : lead r ≡ lead s = ap lead e ∙ f in omega arith)
      here (q, inr m, f) = (q, m, f)

  -- the rows that are left are rows, and lead at no place of the second list
  left-apart : (zs bs : List Vector) → Stairs p w zs → Stairs p w bs → Each (λ s. LeadAmong zs (lead s)) bs
      → Each (λ r. Among r zs × Each (λ s. lead r ≡ lead s → ⊥) bs) (unmatched lead zs bs)
  left-apart [] bs h g m = tt
  left-apart (r ∷ zs) [] h g m = ((inl refl, tt), Each-weaker (λ q. Among q zs × Unit {0}) (λ q. Among q (r ∷ zs) × Unit {0}) (λ q k. (inr k.0, tt)) (unmatched lead zs []) (left-apart zs [] h.3 tt tt))
  left-apart (r ∷ zs) (s ∷ bs) h g m = by (cases_eq (lead r) (lead s)) (λ k. left-apart zs bs h.3 g.3 k) (λ k. left-apart zs (s ∷ bs) h.3 g k)
    where
      by : (lead r ≡ lead s) ⊎ (lead r ≡ lead s → ⊥)
          → (Each (λ t. LeadAmong zs (lead t)) bs → Each (λ q. Among q zs × Each (λ t. lead q ≡ lead t → ⊥) bs) (unmatched lead zs bs))
          → (Each (λ t. LeadAmong zs (lead t)) (s ∷ bs) → Each (λ q. Among q zs × Each (λ t. lead q ≡ lead t → ⊥) (s ∷ bs)) (unmatched lead zs (s ∷ bs)))
          → Each (λ q. Among q (r ∷ zs) × Each (λ t. lead q ≡ lead t → ⊥) (s ∷ bs)) (unmatched lead (r ∷ zs) (s ∷ bs))
      by (inl e) one two =
          let after = Each-weaker (Apart s) (λ t. lead r < lead t) (λ t a. subst (λ n. n < lead t) (sym e) a.0) bs g.2 in
          let rest = one (later r zs bs m.1 after) in
          subst (Each (λ q. Among q (r ∷ zs) × Each (λ t. lead q ≡ lead t → ⊥) (s ∷ bs))) (sym (walk-match lead zs bs r s e))
          (Each-weaker (λ q. Among q zs × Each (λ t. lead q ≡ lead t → ⊥) bs) (λ q. Among q (r ∷ zs) × Each (λ t. lead q ≡ lead t → ⊥) (s ∷ bs))
          (λ q k. (inr k.0, ((λ f. let l : lead r < lead q = (each-among (Apart r) zs q h.2 k.0).0 in absurd (omega arith)), k.1))) (unmatched lead zs bs) rest)
      by (inr d) one two =
          let first = place m.0 in
          let after : Each (λ t. lead r < lead t) (s ∷ bs) = (first, Each-weaker (Apart s) (λ t. lead r < lead t) (λ t a. let l : lead s < lead t = a.0 in omega arith) bs g.2) in
          let rest = two (later r zs (s ∷ bs) m after) in
          subst (Each (λ q. Among q (r ∷ zs) × Each (λ t. lead q ≡ lead t → ⊥) (s ∷ bs))) (sym (walk-keep lead zs bs r s d)) (
            (inl refl, Each-weaker (λ t. lead r < lead t) (λ t. lead r ≡ lead t → ⊥) (λ t l f. absurd (omega arith)) (s ∷ bs) after),
            Each-weaker (λ q. Among q zs × Each (λ t. lead q ≡ lead t → ⊥) (s ∷ bs)) (λ q. Among q (r ∷ zs) × Each (λ t. lead q ≡ lead t → ⊥) (s ∷ bs)) (λ q k. (inr k.0, k.1)) (unmatched lead zs (s ∷ bs)) rest,
          )
        where
          place : LeadAmong (r ∷ zs) (lead s) → lead r < lead s
          place (q, inl e, f) = absurd (d (ap lead e ∙ f))
          place (q, inr k, f) = subst (λ n. lead r < n) f (each-among (Apart r) zs q h.2 k).0

  -- where a vector is 0 at the places of the second list, the rows that are dropped count for nothing
  weight-left : (v : Vector) (zs bs : List Vector) (j : ℕ) → Each (λ s. at_place v (lead s) ≡ 0) bs
      → weight (coordinates zs v) zs j ≡ weight (coordinates (unmatched lead zs bs) v) (unmatched lead zs bs) j
  weight-left v [] bs j c = refl
  weight-left v (r ∷ zs) [] j c = ap (λ n. at_place v (lead r) * at_place r j + n) (weight-left v zs [] j c)
  weight-left v (r ∷ zs) (s ∷ bs) j c = by (cases_eq (lead r) (lead s)) (weight-left v zs bs j c.1) (weight-left v zs (s ∷ bs) j c)
    where
      by : (lead r ≡ lead s) ⊎ (lead r ≡ lead s → ⊥)
          → weight (coordinates zs v) zs j ≡ weight (coordinates (unmatched lead zs bs) v) (unmatched lead zs bs) j
          → weight (coordinates zs v) zs j ≡ weight (coordinates (unmatched lead zs (s ∷ bs)) v) (unmatched lead zs (s ∷ bs)) j
          → at_place v (lead r) * at_place r j + weight (coordinates zs v) zs j ≡ weight (coordinates (unmatched lead (r ∷ zs) (s ∷ bs)) v) (unmatched lead (r ∷ zs) (s ∷ bs)) j
      by (inl e) one two =
          let none : at_place v (lead r) ≡ 0 = ap (at_place v) e ∙ c.0 in
          ap (λ a. a * at_place r j + weight (coordinates zs v) zs j) none
          ∙ (let q : 0 * at_place r j + weight (coordinates zs v) zs j ≡ weight (coordinates zs v) zs j = omega arith in q) ∙ one
          ∙ ap (λ us. weight (coordinates us v) us j) (sym (walk-match lead zs bs r s e))
      by (inr d) one two =
          ap (λ n. at_place v (lead r) * at_place r j + n) two
          ∙ ap (λ us. weight (coordinates us v) us j) (sym (walk-keep lead zs bs r s d))

  module _ (pos : 0 < p) (zs bs : List Vector) (echelon : IsReducedEchelon p w zs) (lower : IsReducedEchelon p w bs)
      (inside : (v : Vector) → IsVector p w v → in_span p w bs v ≡ true → in_span p w zs v ≡ true) where
    stairs : Stairs p w zs
    stairs = Stairs-from p w zs echelon

    below : Stairs p w bs
    below = Stairs-from p w bs lower

    vectors : (rows : List Vector) → Stairs p w rows → Each (IsVector p w) rows
    vectors rows s = Each-from (IsVector p w) rows (λ r m. row-vector p w rows r s m)

    matched : Each (λ s. LeadAmong zs (lead s)) bs
    matched = Each-from (λ s. LeadAmong zs (lead s)) bs (λ s m.
        let v = row-vector p w bs s below m in
        let one : at_place s (lead s) ≡ 1 = row-one p w bs s below m in
        lead-combination p w pos zs s stairs (span-combination p w zs s (inside s v (member-span p w pos bs s (vectors bs below) m))) (omega arith))

    left : Each (λ r. Among r zs × Each (λ s. lead r ≡ lead s → ⊥) bs) (unmatched lead zs bs)
    left = left-apart zs bs stairs below matched

    -- a combination of the rows that are left is 0 at the places of the second list
    left-clear : (v : Vector) → IsCombination p w (unmatched lead zs bs) v → Each (λ s. at_place v (lead s) ≡ 0) bs
    left-clear v c = Each-from (λ s. at_place v (lead s) ≡ 0) bs (λ s m.
        let t = each-among (λ s. LeadAmong zs (lead s)) bs s matched m in
        let none = Each-weaker (λ r. Among r zs × Each (λ s. lead r ≡ lead s → ⊥) bs) (λ r. at_place r (lead s) ≡ 0)
        (λ r k. subst (λ n. at_place r n ≡ 0) t.2 (row-clear p w zs r t.0 stairs k.0 t.1 (λ e. each-among (λ q. lead r ≡ lead q → ⊥) bs s k.1 m (e ∙ t.2)))) (unmatched lead zs bs) left in
        ap (λ u. at_place u (lead s)) (sym c.2)
        ∙ at-combined p w c.0 (unmatched lead zs bs) (lead s) (Stairs-wide p w (unmatched lead zs bs) (unmatched-stairs zs bs stairs))
        ∙ ap (λ n. n % p) (weight-clear p c.0 (unmatched lead zs bs) (lead s) none) ∙ zero-mod p)

    to-left : (v : Vector) → IsVector p w v → IsCombination p w zs v → Each (λ s. at_place v (lead s) ≡ 0) bs → IsCombination p w (unmatched lead zs bs) v
    to-left v g c e =
        let wide = Stairs-wide p w (unmatched lead zs bs) (unmatched-stairs zs bs stairs) in (
          coordinates (unmatched lead zs bs) v,
          coordinates-vector p w pos (unmatched lead zs bs) v g,
          same-vector p pos w _ v (combined-vector p pos w _ (unmatched lead zs bs) wide) g
              (λ j. place-combined p w _ (unmatched lead zs bs) j wide ∙ ap (λ n. n % p) (sym (weight-left v zs bs j e))
              ∙ sym (place-combined p w _ zs j (Stairs-wide p w zs stairs)) ∙ ap (λ u. at_place u j % p) (combination-coordinates p w zs v stairs c)),
        )

    from-left : (v : Vector) → IsCombination p w (unmatched lead zs bs) v → IsCombination p w zs v
    from-left v c =
        combination-chain p w pos (unmatched lead zs bs) zs v (vectors (unmatched lead zs bs) (unmatched-stairs zs bs stairs)) (vectors zs stairs)
        (Each-weaker (λ r. Among r zs × Each (λ s. lead r ≡ lead s → ⊥) bs) (λ r. in_span p w zs r ≡ true) (λ r k. member-span p w pos zs r (vectors zs stairs) k.0) (unmatched lead zs bs) left) c

    pub unmatched-echelon : IsReducedEchelon p w (unmatched lead zs bs)
    unmatched-echelon = echelon-from p w (unmatched lead zs bs) (unmatched-stairs zs bs stairs)

    unmatched-spans : Spans p w (unmatched lead zs bs) (λ v. in_span p w zs v && is_clear p w (in_span p w bs) v)
    unmatched-spans v g =
        let clear = clear-rows p w pos bs lower (in_span p w bs) (spans-span p w bs) v in (
          λ e. let h = and_parts (in_span p w zs v) (is_clear p w (in_span p w bs) v) e in
              to-left v g (span-combination p w zs v h.0) (recursion_from_All (λ s. at_place v (lead s) ≡ 0) bs (clear.0 h.1)),
          λ c. and_from (in_span p w zs v) (is_clear p w (in_span p w bs) v) (combination-span p w zs v (from-left v c))
              (clear.1 (All-from_recursion (λ s. at_place v (lead s) ≡ 0) bs (left-clear v c))),
        )

    pub unmatched-complement : unmatched lead zs bs ≡ complement p w (in_span p w zs) (in_span p w bs)
    unmatched-complement = basis-is p w pos (unmatched lead zs bs) (λ v. in_span p w zs v && is_clear p w (in_span p w bs) v) unmatched-echelon unmatched-spans

-- the same of rows
pub unmatched-rows : (xs ys l : List DenseRow) (zs bs : List Vector) → l ≡ unmatched row_lead xs ys → vectors_of xs ≡ zs → vectors_of ys ≡ bs → vectors_of l ≡ unmatched lead zs bs
unmatched-rows xs ys l zs bs e f g = ap vectors_of e ∙ map-unmatched (λ r. r.values) lead xs ys ∙ (λ i. unmatched lead (f i) (g i))
