-- A combination of reduced echelon rows has its coefficients at the leading places, and what is left of a vector after them.
use Rattle.std.proofs.Common.{◌≡◌, ◌⊎◌, inl, inr, ℕ, zero, suc, ◌+◌, ◌*◌, ◌-◌, ◌%◌, ◌<◌, List, [], ◌∷◌, map, length, get_or, refl, sym, ◌∙◌, ap, subst, arith}
use Rattle.std.proofs.Math.Nat.{mod-eq_of_lt, zero-mod}
use Rattle.std.proofs.Math.ListN.{length-map}
use Rattle.std.proofs.lemmas.Bool.{cases_order}
use Rattle.std.proofs.lemmas.List.Elements.{All-nil, All-cons, All-head, All-tail, All-map, All-from_recursion, recursion_from_All}
use Rattle.std.specs.List.{AllPairs, AllByRecursion as Each}
use Rattle.fp_field.specs.Field.{SameMod}
use Rattle.echelons.specs.Echelon.{Vector, IsVector, at_place, zeros, vector_plus, multiple, combined, lead, IsReducedEchelon, IsCombination, coordinates, remainder}
use Rattle.fp_field.proofs.Mod.{same-plus, same-times, same-by, pred-times, same-from-difference, difference-from-same}
use Rattle.echelons.proofs.Vectors.{Each-any, Each-weaker, Each-both, Wide, weight, weight-clear, length-multiple, length-combined, at-combined, place-plus, place-multiple, place-combined, below-at, plus-vector, combined-vector, zeros-vector, same-vector, place-zeros}
use Rattle.echelons.proofs.Leads.{before-lead}
use Rattle.echelons.proofs.Lists.{Among, each-among}

module _ {A : Type 0} (R : A → A → Type 0) where
  pairs-head : (x : A) (xs : List A) → AllPairs R (x ∷ xs) → Each (R x) xs
  pairs-head x xs h = recursion_from_All (R x) xs (λ k d l. h 0 (suc k) d (omega arith) (omega arith))

  pairs-tail : (x : A) (xs : List A) → AllPairs R (x ∷ xs) → AllPairs R xs
  pairs-tail x xs h = λ i j d l m. h (suc i) (suc j) d (omega arith) (omega arith)

  pairs-nil : AllPairs R []
  pairs-nil = λ i j d l m. absurd (omega arith)

  pairs-cons : (x : A) (xs : List A) → Each (R x) xs → AllPairs R xs → AllPairs R (x ∷ xs)
  pairs-cons x xs g h = by
    where
      by : (i j : ℕ) (d : A) → i < j → j < length (x ∷ xs) → R (get_or (x ∷ xs) i d) (get_or (x ∷ xs) j d)
      by zero zero d l m = absurd (omega arith)
      by (suc i) zero d l m = absurd (omega arith)
      by zero (suc j) d l m = All-from_recursion (R x) xs g j d (omega arith)
      by (suc i) (suc j) d l m = h i j d (omega arith) (omega arith)

module _ {A B : Type 0} (f g : A → B) where
  pub map-same : (xs : List A) → Each (λ x. f x ≡ g x) xs → map f xs ≡ map g xs
  map-same [] h = refl
  map-same (x ∷ xs) h = λ i. h.0 i ∷ map-same xs h.1 i

  pub each-same : (xs : List A) → map f xs ≡ map g xs → Each (λ x. f x ≡ g x) xs
  each-same [] e = tt
  each-same (x ∷ xs) e = (cc, each-same xs (cc))

-- r leads before s, and each is 0 at the leading place of the other
abbrev pub Apart : Vector → Vector → Type 0
Apart r s = (lead r < lead s) × (at_place r (lead s) ≡ 0) × (at_place s (lead r) ≡ 0)

-- a reduced echelon list, row by row
abbrev pub Stairs : ℕ → ℕ → List Vector → Type 0
Stairs p w [] = Unit {0}
Stairs p w (r ∷ rows) = IsVector p w r × (at_place r (lead r) ≡ 1) × Each (Apart r) rows × Stairs p w rows

module _ (p w : ℕ) where
  pub Stairs-from : (rows : List Vector) → IsReducedEchelon p w rows → Stairs p w rows
  Stairs-from [] h = tt
  Stairs-from (r ∷ rows) h = (
    All-head (IsVector p w) r rows h.vectors_all,
    All-head (λ s. at_place s (lead s) ≡ 1) r rows h.leads_one,
    Each-both (λ s. lead r < lead s) (λ s. (at_place r (lead s) ≡ 0) × (at_place s (lead r) ≡ 0)) (Apart r) (λ s a b. (a, b.0, b.1)) rows
        (pairs-head (λ a b. lead a < lead b) r rows h.leads_rise)
        (Each-both (λ s. at_place r (lead s) ≡ 0) (λ s. at_place s (lead r) ≡ 0) (λ s. (at_place r (lead s) ≡ 0) × (at_place s (lead r) ≡ 0)) (λ s a b. (a, b)) rows
        (pairs-head (λ a b. at_place a (lead b) ≡ 0) r rows h.clear_after)
        (pairs-head (λ a b. at_place b (lead a) ≡ 0) r rows h.clear_before)),
    Stairs-from rows
        (record {
          vectors_all = All-tail (IsVector p w) r rows h.vectors_all;
          leads_one = All-tail (λ s. at_place s (lead s) ≡ 1) r rows h.leads_one;
          leads_rise = pairs-tail (λ a b. lead a < lead b) r rows h.leads_rise;
          clear_after = pairs-tail (λ a b. at_place a (lead b) ≡ 0) r rows h.clear_after;
          clear_before = pairs-tail (λ a b. at_place b (lead a) ≡ 0) r rows h.clear_before;
        }),
  )

  pub echelon-from : (rows : List Vector) → Stairs p w rows → IsReducedEchelon p w rows
  echelon-from [] h = record {
    vectors_all = All-nil (IsVector p w);
    leads_one = All-nil (λ s. at_place s (lead s) ≡ 1);
    leads_rise = pairs-nil (λ a b. lead a < lead b);
    clear_after = pairs-nil (λ a b. at_place a (lead b) ≡ 0);
    clear_before = pairs-nil (λ a b. at_place b (lead a) ≡ 0);
  }
  echelon-from (r ∷ rows) h =
      let rest = echelon-from rows h.3 in
      record {
        vectors_all = All-cons (IsVector p w) r rows h.0 rest.vectors_all;
        leads_one = All-cons (λ s. at_place s (lead s) ≡ 1) r rows h.1 rest.leads_one;
        leads_rise = pairs-cons (λ a b. lead a < lead b) r rows (Each-weaker (Apart r) (λ s. lead r < lead s) (λ s a. a.0) rows h.2) rest.leads_rise;
        clear_after = pairs-cons (λ a b. at_place a (lead b) ≡ 0) r rows (Each-weaker (Apart r) (λ s. at_place r (lead s) ≡ 0) (λ s a. a.1) rows h.2) rest.clear_after;
        clear_before = pairs-cons (λ a b. at_place b (lead a) ≡ 0) r rows (Each-weaker (Apart r) (λ s. at_place s (lead r) ≡ 0) (λ s a. a.2) rows h.2) rest.clear_before;
      }

  pub Stairs-wide : (rows : List Vector) → Stairs p w rows → Wide w rows
  Stairs-wide [] h = tt
  Stairs-wide (r ∷ rows) h = (h.0.wide, Stairs-wide rows h.3)

  clear-after : (r : Vector) (rows : List Vector) → Each (Apart r) rows → Each (λ s. at_place s (lead r) ≡ 0) rows
  clear-after r rows h = Each-weaker (Apart r) (λ s. at_place s (lead r) ≡ 0) (λ s a. a.2) rows h

  -- at the leading places stand the coefficients
  pub weights : (rows : List Vector) (cs : List ℕ) → Stairs p w rows → length cs ≡ length rows → map (λ r. weight cs rows (lead r)) rows ≡ cs
  weights [] [] h e = refl
  weights [] (c ∷ cs) h e = absurd (omega arith)
  weights (r ∷ rows) [] h e = absurd (omega arith)
  weights (r ∷ rows) (c ∷ cs) h e = λ i. head i ∷ (tail ∙ weights rows cs h.3 (omega arith)) i
    where
      head : c * at_place r (lead r) + weight cs rows (lead r) ≡ c
      head = rw h.1 (omega (arith, weight-clear p cs rows (lead r) (clear-after r rows h.2)))

      here : (s : Vector) → Apart r s → c * at_place r (lead s) + weight cs rows (lead s) ≡ weight cs rows (lead s)
      here s a = rw a.1 (omega arith)

      tail : map (λ s. c * at_place r (lead s) + weight cs rows (lead s)) rows ≡ map (λ s. weight cs rows (lead s)) rows
      tail = map-same (λ s. c * at_place r (lead s) + weight cs rows (lead s)) (λ s. weight cs rows (lead s)) rows
          (Each-weaker (Apart r) (λ s. c * at_place r (lead s) + weight cs rows (lead s) ≡ weight cs rows (lead s)) here rows h.2)

  -- a combination with the entries of f at the leading places as coefficients has these entries there
  pub weights-read : (f : ℕ → ℕ) (rows : List Vector) → Stairs p w rows → Each (λ s. weight (map (λ r. f (lead r)) rows) rows (lead s) ≡ f (lead s)) rows
  weights-read f rows h =
      each-same (λ s. weight (map (λ r. f (lead r)) rows) rows (lead s)) (λ s. f (lead s)) rows
      (weights rows (map (λ r. f (lead r)) rows) h (length-map rows (λ r. f (lead r))))

  below-map : (f : Vector → ℕ) (rows : List Vector) → Each (λ a. a < p) (map f rows) → Each (λ r. f r % p ≡ f r) rows
  below-map f [] h = tt
  below-map f (r ∷ rows) h = (mod-eq_of_lt h.0, below-map f rows h.1)

  pub coordinates-combined : (rows : List Vector) (cs : List ℕ) → Stairs p w rows → IsVector p (length rows) cs → coordinates rows (combined p w cs rows) ≡ cs
  coordinates-combined rows cs h v =
      let e = weights rows cs h v.wide in
      map-same (λ r. at_place (combined p w cs rows) (lead r)) (λ r. weight cs rows (lead r) % p) rows
      (Each-any (λ r. at_place (combined p w cs rows) (lead r) ≡ weight cs rows (lead r) % p) (λ r. at-combined p w cs rows (lead r) (Stairs-wide rows h)) rows)
      ∙ map-same (λ r. weight cs rows (lead r) % p) (λ r. weight cs rows (lead r)) rows
      (below-map (λ r. weight cs rows (lead r)) rows (subst (Each (λ a. a < p)) (sym e) (recursion_from_All (λ a. a < p) cs v.below)))
      ∙ e

  pub combination-coordinates : (rows : List Vector) (v : Vector) → Stairs p w rows → IsCombination p w rows v → combined p w (coordinates rows v) rows ≡ v
  combination-coordinates rows v h c =
      ap (λ u. combined p w (coordinates rows u) rows) (sym c.2) ∙ ap (λ ds. combined p w ds rows) (coordinates-combined rows c.0 h c.1) ∙ c.2

  -- vectors of the span with the same entries at the leading places are equal
  pub same-at_leads : (rows : List Vector) (u v : Vector) → Stairs p w rows → IsCombination p w rows u → IsCombination p w rows v
      → Each (λ s. at_place u (lead s) ≡ at_place v (lead s)) rows → u ≡ v
  same-at_leads rows u v h a b e =
      sym (combination-coordinates rows u h a)
      ∙ ap (λ ds. combined p w ds rows) (map-same (λ s. at_place u (lead s)) (λ s. at_place v (lead s)) rows e)
      ∙ combination-coordinates rows v h b

  weight-none : (f : Vector → ℕ) (rows : List Vector) (j : ℕ) → Each (λ s. f s ≡ 0) rows → weight (map f rows) rows j ≡ 0
  weight-none f [] j h = refl
  weight-none f (r ∷ rows) j h = rw h.0 (omega (arith, weight-none f rows j h.1))

  -- the coordinates of a row
  weight-row : (rows : List Vector) (r : Vector) (j : ℕ) → Stairs p w rows → Among r rows → weight (coordinates rows r) rows j ≡ at_place r j
  weight-row [] r j h m = absurd m
  weight-row (s ∷ rows) r j h (inl e) = subst (λ q. weight (coordinates (s ∷ rows) q) (s ∷ rows) j ≡ at_place q j) e
      (rw h.1 (omega (arith, weight-none (λ q. at_place s (lead q)) rows j (Each-weaker (Apart s) (λ q. at_place s (lead q) ≡ 0) (λ q a. a.1) rows h.2))))
  weight-row (s ∷ rows) r j h (inr m) =
      let e : at_place r (lead s) ≡ 0 = each-among (λ q. at_place q (lead s) ≡ 0) rows r (clear-after s rows h.2) m in
      rw e (omega (arith, weight-row rows r j h.3 m))

  pub row-vector : (rows : List Vector) (r : Vector) → Stairs p w rows → Among r rows → IsVector p w r
  row-vector [] r h m = absurd m
  row-vector (s ∷ rows) r h (inl e) = subst (IsVector p w) e h.0
  row-vector (s ∷ rows) r h (inr m) = row-vector rows r h.3 m

  pub row-one : (rows : List Vector) (r : Vector) → Stairs p w rows → Among r rows → at_place r (lead r) ≡ 1
  row-one [] r h m = absurd m
  row-one (s ∷ rows) r h (inl e) = subst (λ q. at_place q (lead q) ≡ 1) e h.1
  row-one (s ∷ rows) r h (inr m) = row-one rows r h.3 m

  -- a row is 0 at the leading places of the others
  pub row-clear : (rows : List Vector) (r s : Vector) → Stairs p w rows → Among r rows → Among s rows → (lead r ≡ lead s → ⊥) → at_place r (lead s) ≡ 0
  row-clear [] r s h m n d = absurd m
  row-clear (q ∷ rows) r s h (inl e) (inl f) d = absurd (d (ap lead (sym e ∙ f)))
  row-clear (q ∷ rows) r s h (inl e) (inr n) d = subst (λ x. at_place x (lead s) ≡ 0) e (each-among (Apart q) rows s h.2 n).1
  row-clear (q ∷ rows) r s h (inr m) (inl f) d = subst (λ x. at_place r (lead x) ≡ 0) f (each-among (Apart q) rows r h.2 m).2
  row-clear (q ∷ rows) r s h (inr m) (inr n) d = row-clear rows r s h.3 m n d

  module _ (pos : 0 < p) where
    pub coordinates-vector : (rows : List Vector) (v : Vector) → IsVector p w v → IsVector p (length rows) (coordinates rows v)
    coordinates-vector rows v h = record {
      wide = length-map rows (λ r. at_place v (lead r));
      below = All-map (λ a. a < p) (λ r. at_place v (lead r)) rows (λ k d l. below-at p pos w v h (lead (get_or rows k d)));
    }

    pub row-combination : (rows : List Vector) (r : Vector) → Stairs p w rows → Among r rows → IsCombination p w rows r
    row-combination rows r h m =
        let v = row-vector rows r h m in (
          coordinates rows r,
          coordinates-vector rows r v,
          same-vector p pos w _ r (combined-vector p pos w _ rows (Stairs-wide rows h)) v
              (λ j. place-combined p w _ rows j (Stairs-wide rows h) ∙ ap (λ n. n % p) (weight-row rows r j h m)),
        )

    -- the leading place of a combination is that of a row
    weight-lead : (rows : List Vector) (cs : List ℕ) (j : ℕ) → Stairs p w rows → Each (λ a. a < p) cs → ((i : ℕ) → i < j → weight cs rows i % p ≡ 0) → 0 < weight cs rows j % p
        → (r : Vector) × Among r rows × (lead r ≡ j)
    weight-lead rows [] j h b before l = absurd (let e : 0 % p ≡ 0 = zero-mod p in omega arith)
    weight-lead [] (c ∷ cs) j h b before l = absurd (let e : 0 % p ≡ 0 = zero-mod p in omega arith)
    weight-lead (r ∷ rows) (c ∷ cs) j h b before l = by (cases_order (lead r) j) (weight-lead rows cs j h.3 b.1)
      where
        at_head : weight (c ∷ cs) (r ∷ rows) (lead r) ≡ c
        at_head = rw h.1 (omega (arith, weight-clear p cs rows (lead r) (clear-after r rows h.2)))

        none : lead r < j → c ≡ 0
        none k = sym (mod-eq_of_lt b.0) ∙ ap (λ n. n % p) (sym at_head) ∙ before (lead r) k

        skip : (i : ℕ) → c ≡ 0 → weight (c ∷ cs) (r ∷ rows) i ≡ weight cs rows i
        skip i e = rw e (omega arith)

        nothing : j < lead r → weight (c ∷ cs) (r ∷ rows) j ≡ 0
        nothing k = weight-clear p (c ∷ cs) (r ∷ rows) j
            (before-lead r j k, Each-weaker (Apart r) (λ s. at_place s j ≡ 0) (λ s a. before-lead s j (let m : lead r < lead s = a.0 in omega arith)) rows h.2)

        by : (lead r ≡ j) ⊎ ((lead r < j) ⊎ (j < lead r))
            → (((i : ℕ) → i < j → weight cs rows i % p ≡ 0) → 0 < weight cs rows j % p → (s : Vector) × Among s rows × (lead s ≡ j))
            → (s : Vector) × Among s (r ∷ rows) × (lead s ≡ j)
        by (inl e) f = (r, inl refl, e)
        by (inr (inl k)) f =
            let s = f (λ i m. ap (λ n. n % p) (sym (skip i (none k))) ∙ before i m) (subst (λ n. 0 < n % p) (skip j (none k)) l) in (s.0, inr s.1, s.2)
        by (inr (inr k)) f = absurd (let e : weight (c ∷ cs) (r ∷ rows) j % p ≡ 0 = ap (λ n. n % p) (nothing k) ∙ zero-mod p in omega arith)

    pub lead-combination : (rows : List Vector) (v : Vector) → Stairs p w rows → IsCombination p w rows v → 0 < at_place v (lead v)
        → (r : Vector) × Among r rows × (lead r ≡ lead v)
    lead-combination rows v h c l =
        let e = (λ (j : ℕ). sym (at-combined p w c.0 rows j (Stairs-wide rows h)) ∙ ap (λ u. at_place u j) c.2) in
        weight-lead rows c.0 (lead v) h (recursion_from_All (λ a. a < p) c.0 c.1.below) (λ i k. e i ∙ before-lead v i k) (subst (λ n. 0 < n) (sym (e (lead v))) l)

    -- ---- what is left of a vector

    pub remainder-vector : (rows : List Vector) (v : Vector) → Stairs p w rows → IsVector p w v → IsVector p w (remainder p w rows v)
    remainder-vector rows v h g =
        plus-vector p pos w v _ g.wide (length-multiple p w (p - 1) _ (length-combined p w (coordinates rows v) rows (Stairs-wide rows h)))

    pub remainder-place : (rows : List Vector) (v : Vector) (j : ℕ) → Stairs p w rows → IsVector p w v
        → SameMod p (at_place (remainder p w rows v) j) (at_place v j + (p - 1) * weight (coordinates rows v) rows j)
    remainder-place rows v j h g =
        let wide = Stairs-wide rows h in
        let u = combined p w (coordinates rows v) rows in
        place-plus p v (multiple p (p - 1) u) j (g.wide ∙ sym (length-multiple p w (p - 1) u (length-combined p w (coordinates rows v) rows wide)))
        ∙ same-plus p (at_place v j) (at_place v j) (at_place (multiple p (p - 1) u) j) ((p - 1) * weight (coordinates rows v) rows j) refl
        (place-multiple p (p - 1) u j ∙ same-times p (p - 1) _ _ (place-combined p w (coordinates rows v) rows j wide))

    nothing-below : (a : ℕ) → a < p → SameMod p a 0 → a ≡ 0
    nothing-below a l e = sym (mod-eq_of_lt l) ∙ e ∙ zero-mod p

    pub remainder-clear : (rows : List Vector) (v : Vector) → Stairs p w rows → IsVector p w v → Each (λ s. at_place (remainder p w rows v) (lead s) ≡ 0) rows
    remainder-clear rows v h g =
        Each-weaker (λ s. weight (coordinates rows v) rows (lead s) ≡ at_place v (lead s)) (λ s. at_place (remainder p w rows v) (lead s) ≡ 0)
        (λ s e. nothing-below _ (below-at p pos w _ (remainder-vector rows v h g) (lead s))
        (remainder-place rows v (lead s) h g ∙ ap (λ n. (at_place v (lead s) + (p - 1) * n) % p) e ∙ difference-from-same p pos (at_place v (lead s)) (at_place v (lead s)) refl)) rows
        (weights-read (λ j. at_place v j) rows h)

    -- a combination and what is left add up to the vector
    pub remainder-sum : (rows : List Vector) (v : Vector) → Stairs p w rows → IsVector p w v
        → vector_plus p (remainder p w rows v) (combined p w (coordinates rows v) rows) ≡ v
    remainder-sum rows v h g =
        let wide = Stairs-wide rows h in
        let x = remainder-vector rows v h g in
        let u = combined-vector p pos w (coordinates rows v) rows wide in
        same-vector p pos w _ v (plus-vector p pos w _ _ x.wide u.wide) g
        (λ j. place-plus p _ _ j (x.wide ∙ sym u.wide)
        ∙ same-plus p _ _ _ _ (remainder-place rows v j h g) (place-combined p w (coordinates rows v) rows j wide)
        ∙ same-by p _ (at_place v j) 0 (weight (coordinates rows v) rows j) (omega (arith, pred-times p (weight (coordinates rows v) rows j) pos)))

    -- nothing is left exactly of the vectors of the span
    pub remainder-none : (rows : List Vector) (v : Vector) → Stairs p w rows → IsVector p w v → IsCombination p w rows v → remainder p w rows v ≡ zeros w
    remainder-none rows v h g c =
        same-vector p pos w _ (zeros w) (remainder-vector rows v h g) (zeros-vector p pos w)
        (λ j. remainder-place rows v j h g
        ∙ difference-from-same p pos (at_place v j) (weight (coordinates rows v) rows j)
        (ap (λ u. at_place u j % p) (sym (combination-coordinates rows v h c)) ∙ place-combined p w (coordinates rows v) rows j (Stairs-wide rows h))
        ∙ ap (λ n. n % p) (sym (place-zeros w j)))

    pub combination-from_none : (rows : List Vector) (v : Vector) → Stairs p w rows → IsVector p w v → remainder p w rows v ≡ zeros w → IsCombination p w rows v
    combination-from_none rows v h g e = (
      coordinates rows v,
      coordinates-vector rows v g,
      same-vector p pos w _ v (combined-vector p pos w (coordinates rows v) rows (Stairs-wide rows h)) g
          (λ j. place-combined p w (coordinates rows v) rows j (Stairs-wide rows h)
          ∙ sym (same-from-difference p pos (at_place v j) (weight (coordinates rows v) rows j)
          (sym (remainder-place rows v j h g) ∙ ap (λ u. at_place u j % p) e ∙ ap (λ n. n % p) (place-zeros w j)))),
    )
