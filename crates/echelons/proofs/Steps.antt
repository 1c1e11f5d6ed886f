-- A row more: what is left of a vector goes in between the rows, and the rows before it are cleared at its leading place. The list
-- stays reduced echelon, and spans what the rows and the vector spanned.
use Rattle.std.proofs.Common.{◌≡◌, ◌⊎◌, ◌↔◌, inl, inr, ℕ, ◌+◌, ◌*◌, ◌-◌, ◌%◌, ◌<◌, true, List, [], ◌∷◌, ◌++◌, map, refl, sym, ◌∙◌, ap, subst, arith}
use Rattle.std.proofs.Math.Nat.{mod-lt, mod-eq_of_lt, zero-mod, mod_self, add-mod-mod}
use Rattle.std.proofs.lemmas.List.Elements.{recursion_from_All}
use Rattle.std.specs.List.{AllByRecursion as Each}
use Rattle.fp_field.specs.Field.{SameMod, minus}
use Rattle.echelons.specs.Echelon.{Vector, IsVector, at_place, vector_plus, multiple, lead, in_span, IsSubspace, IsReducedEchelon, IsCombination, coordinates, remainder}
use Rattle.fp_field.proofs.Mod.{same-plus, same-times}
use Rattle.echelons.proofs.Vectors.{Each-weaker, vectors-wide, below-at, at-multiple, place-plus, place-multiple, plus-vector, multiple-vector, combined-vector, same-vector, length-multiple}
use Rattle.echelons.proofs.Leads.{before-lead, lead-is}
use Rattle.echelons.proofs.Lists.{Among, each-among, Each-from, among-append, among-left, among-right, among-map, map-among}
use Rattle.echelons.proofs.Rows.{Apart, Stairs, Stairs-from, Stairs-wide, echelon-from, row-vector, row-one, coordinates-vector, remainder-vector, remainder-clear, remainder-sum}
use Rattle.echelons.proofs.Basis.{within-combined, within-remainder}
use Rattle.echelons.proofs.Spans.{span-subspace}
use Rattle.echelons.proofs.Members.{combination-chain, member-span}

-- r minus the multiple of y that leaves 0 at the leading place of y
abbrev pub cleared : ℕ → Vector → Vector → Vector
cleared p y r = vector_plus p r (multiple p (minus p (at_place r (lead y))) y)

-- ---- one row cleared

module _ (p w : ℕ) (pos : 0 < p) where
  pub cleared-vector : (y r : Vector) → IsVector p w y → IsVector p w r → IsVector p w (cleared p y r)
  cleared-vector y r g h = plus-vector p pos w r _ h.wide (length-multiple p w (minus p (at_place r (lead y))) y g.wide)

  cleared-place : (y r : Vector) (j : ℕ) → IsVector p w y → IsVector p w r → SameMod p (at_place (cleared p y r) j) (at_place r j + minus p (at_place r (lead y)) * at_place y j)
  cleared-place y r j g h =
      place-plus p r _ j (h.wide ∙ sym (length-multiple p w (minus p (at_place r (lead y))) y g.wide))
      ∙ same-plus p (at_place r j) (at_place r j) _ _ refl (place-multiple p (minus p (at_place r (lead y))) y j)

  reduced : (a b : ℕ) → a < p → b < p → SameMod p a b → a ≡ b
  reduced a b l k e = sym (mod-eq_of_lt l) ∙ e ∙ mod-eq_of_lt k

  pub cleared-keep : (y r : Vector) (j : ℕ) → IsVector p w y → IsVector p w r → at_place y j ≡ 0 → at_place (cleared p y r) j ≡ at_place r j
  cleared-keep y r j g h e = reduced _ _ (below-at p pos w _ (cleared-vector y r g h) j) (below-at p pos w r h j)
      (cleared-place y r j g h ∙ ap (λ n. (at_place r j + minus p (at_place r (lead y)) * n) % p) e
      ∙ ap (λ n. n % p) (let q : at_place r j + minus p (at_place r (lead y)) * 0 ≡ at_place r j = omega arith in q))

  -- a number and its negative
  with-minus : (a : ℕ) → a < p → SameMod p (a + minus p a) 0
  with-minus a l = add-mod-mod a (p - a) p ∙ ap (λ n. n % p) (let q : a + (p - a) ≡ p = omega arith in q) ∙ mod_self p ∙ sym (zero-mod p)

  pub cleared-lead : (y r : Vector) → IsVector p w y → IsVector p w r → at_place y (lead y) ≡ 1 → at_place (cleared p y r) (lead y) ≡ 0
  cleared-lead y r g h one = reduced _ 0 (below-at p pos w _ (cleared-vector y r g h) (lead y)) pos
      (cleared-place y r (lead y) g h ∙ ap (λ n. (at_place r (lead y) + minus p (at_place r (lead y)) * n) % p) one
      ∙ ap (λ n. n % p) (let q : at_place r (lead y) + minus p (at_place r (lead y)) * 1 ≡ at_place r (lead y) + minus p (at_place r (lead y)) = omega arith in q)
      ∙ with-minus (at_place r (lead y)) (below-at p pos w r h (lead y)))

  -- what was taken away goes back
  pub cleared-back : (y r : Vector) → IsVector p w y → IsVector p w r → vector_plus p (cleared p y r) (multiple p (at_place r (lead y)) y) ≡ r
  cleared-back y r g h =
      let c = cleared-vector y r g h in
      let m = length-multiple p w (at_place r (lead y)) y g.wide in
      let a : ℕ = at_place r (lead y) in
      same-vector p pos w _ r (plus-vector p pos w _ _ c.wide m) h
      (λ j. place-plus p _ _ j (c.wide ∙ sym m)
      ∙ same-plus p _ _ _ _ (cleared-place y r j g h) (place-multiple p (at_place r (lead y)) y j)
      ∙ ap (λ n. n % p) (sums (at_place r j) (minus p (at_place r (lead y))) (at_place r (lead y)) (at_place y j))
      ∙ same-plus p (at_place r j) (at_place r j) _ 0 refl
      (same-times p (at_place y j) _ 0 (with-minus (at_place r (lead y)) (below-at p pos w r h (lead y))) ∙ ap (λ n. n % p) (let q : at_place y j * 0 ≡ 0 = omega arith in q))
      ∙ ap (λ n. n % p) (let q : at_place r j + 0 ≡ at_place r j = omega arith in q))
    where
      sums : (x m a z : ℕ) → (x + m * z) + a * z ≡ x + z * (a + m)
      sums x m a z = omega arith

-- ---- the rows with one more

module _ (p w : ℕ) (pos : 0 < p) (y : Vector) (g : IsVector p w y) (one : at_place y (lead y) ≡ 1) (back : List Vector)
    (after : Each (λ s. lead y < lead s) back) (clear : Each (λ s. at_place y (lead s) ≡ 0) back) where
  lead-kept : (r : Vector) → IsVector p w r → at_place r (lead r) ≡ 1 → lead r < lead y → lead (cleared p y r) ≡ lead r
  lead-kept r h o l = lead-is (cleared p y r) (lead r)
      (λ i k. cleared-keep p w pos y r i g h (before-lead y i (omega arith)) ∙ before-lead r i k)
      (let q : at_place (cleared p y r) (lead r) ≡ 1 = cleared-keep p w pos y r (lead r) g h (before-lead y (lead r) l) ∙ o in omega arith)

  stairs-inserted : (front : List Vector) → Stairs p w (front ++ back) → Each (λ s. lead s < lead y) front → Stairs p w (map (cleared p y) front ++ y ∷ back)
  stairs-inserted [] h b = (
    g,
    one,
    Each-from (Apart y) back (λ s m.
        let l : lead y < lead s = each-among (λ s. lead y < lead s) back s after m in
        (l, each-among (λ s. at_place y (lead s) ≡ 0) back s clear m, before-lead s (lead y) l)),
    h,
  )
  stairs-inserted (r ∷ front) h b = (
    cleared-vector p w pos y r g h.0,
    ap (at_place (cleared p y r)) same ∙ cleared-keep p w pos y r (lead r) g h.0 (before-lead y (lead r) b.0) ∙ h.1,
    Each-from (Apart (cleared p y r)) (map (cleared p y) front ++ y ∷ back) (λ s m. apart s (among-append (map (cleared p y) front) (y ∷ back) s m)),
    stairs-inserted front h.3 b.1,
  )
    where
      same : lead (cleared p y r) ≡ lead r
      same = lead-kept r h.0 h.1 b.0

      -- from where it leads: later, and 0 at that place
      from : (s : Vector) → lead r < lead s → at_place (cleared p y r) (lead s) ≡ 0 → Apart (cleared p y r) s
      from s l e = let k : lead (cleared p y r) < lead s = subst (λ n. n < lead s) (sym same) l in (k, e, before-lead s (lead (cleared p y r)) k)

      kept : (s : Vector) → Among s front → Apart (cleared p y r) (cleared p y s)
      kept s m =
          let a = each-among (Apart r) (front ++ back) s h.2 (among-left front back s m) in
          let l : lead s < lead y = each-among (λ q. lead q < lead y) front s b.1 m in
          let v = row-vector p w (front ++ back) s h.3 (among-left front back s m) in
          let o : lead (cleared p y s) ≡ lead s = lead-kept s v (one-at s (among-left front back s m)) l in
          from (cleared p y s) (subst (λ n. lead r < n) (sym o) a.0)
          (ap (at_place (cleared p y r)) o ∙ cleared-keep p w pos y r (lead s) g h.0 (before-lead y (lead s) l) ∙ a.1)
        where
          one-at : (s : Vector) → Among s (front ++ back) → at_place s (lead s) ≡ 1
          one-at s m = row-one p w (front ++ back) s h.3 m

      apart : (s : Vector) → Among s (map (cleared p y) front) ⊎ Among s (y ∷ back) → Apart (cleared p y r) s
      apart s (inl m) = let q = map-among (cleared p y) front s m in subst (Apart (cleared p y r)) q.2 (kept q.0 q.1)
      apart s (inr (inl e)) = subst (Apart (cleared p y r)) e (from y b.0 (cleared-lead p w pos y r g h.0 one))
      apart s (inr (inr m)) =
          let a = each-among (Apart r) (front ++ back) s h.2 (among-right front back s m) in
          from s a.0 (cleared-keep p w pos y r (lead s) g h.0 (each-among (λ q. at_place y (lead q) ≡ 0) back s clear m) ∙ a.1)

-- the rows with what is left of v, times b, between those that lead before and after it
abbrev pub with_row : ℕ → ℕ → List Vector → List Vector → ℕ → Vector → List Vector
with_row p w front back b v =
    let y : Vector = multiple p b (remainder p w (front ++ back) v) in map (cleared p y) front ++ y ∷ back

module _ (p w : ℕ) (pos : 0 < p) (above : 1 < p) (front back : List Vector) (echelon : IsReducedEchelon p w (front ++ back)) (v : Vector) (g : IsVector p w v)
    (b : ℕ) (small : b < p) (inverts : (b * at_place (remainder p w (front ++ back) v) (lead (remainder p w (front ++ back) v))) % p ≡ 1)
    (before : Each (λ s. lead s < lead (remainder p w (front ++ back) v)) front) (after : Each (λ s. lead (remainder p w (front ++ back) v) < lead s) back) where
  -- what is left of v, the row that it gives, and the lists of vectors before and after
  abbrev left : Vector
  left = remainder p w (front ++ back) v

  abbrev row : Vector
  row = multiple p b (remainder p w (front ++ back) v)

  abbrev rows : List Vector
  rows = front ++ back

  abbrev old : List Vector
  old = v ∷ (front ++ back)

  abbrev new : List Vector
  new = with_row p w front back b v

  h : Stairs p w rows
  h = Stairs-from p w rows echelon

  x : IsVector p w left
  x = remainder-vector p w pos rows v h g

  y : IsVector p w row
  y = multiple-vector p pos w b _ x.wide

  one : at_place row (lead left) ≡ 1
  one = at-multiple p b left _ ∙ inverts

  zero-at : (j : ℕ) → at_place left j ≡ 0 → at_place row j ≡ 0
  zero-at j e = at-multiple p b left j ∙ ap (λ n. (b * n) % p) e ∙ ap (λ n. n % p) (let q : b * 0 ≡ 0 = omega arith in q) ∙ zero-mod p

  leads : lead row ≡ lead left
  leads = lead-is _ _ (λ i l. zero-at i (before-lead left i l)) (subst (λ n. 0 < n) (sym one) (omega arith))

  stairs : Stairs p w new
  stairs = stairs-inserted p w pos row y
      (ap (at_place row) leads ∙ one) back
      (Each-weaker (λ s. lead left < lead s) (λ s. lead row < lead s)
      (λ s l. subst (λ n. n < lead s) (sym leads) l) back after)
      (Each-from (λ s. at_place row (lead s) ≡ 0) back
      (λ s m. zero-at (lead s) (each-among (λ q. at_place left (lead q) ≡ 0) rows s
      (remainder-clear p w pos rows v h g) (among-right front back s m)))) front h
      (Each-weaker (λ s. lead s < lead left) (λ s. lead s < lead row)
      (λ s l. subst (λ n. lead s < n) (sym leads) l) front before)

  pub with_row-echelon : IsReducedEchelon p w (with_row p w front back b v)
  with_row-echelon = echelon-from p w new stairs

  old-vectors : Each (IsVector p w) old
  old-vectors = (g, Each-from (IsVector p w) rows (λ r m. row-vector p w rows r h m))

  new-vectors : Each (IsVector p w) new
  new-vectors = Each-from (IsVector p w) new (λ r m. row-vector p w new r stairs m)

  old-space : IsSubspace p w (in_span p w old)
  old-space = span-subspace p w pos old (vectors-wide p w old old-vectors)

  new-space : IsSubspace p w (in_span p w new)
  new-space = span-subspace p w pos new (vectors-wide p w new new-vectors)

  old-member : (r : Vector) → Among r rows → in_span p w old r ≡ true
  old-member r m = member-span p w pos old r old-vectors (inr m)

  new-member : (r : Vector) → Among r new → in_span p w new r ≡ true
  new-member r m = member-span p w pos new r new-vectors m

  old-y : in_span p w old row ≡ true
  old-y = old-space.multiple_in b _ small x
      (within-remainder p w pos (in_span p w old) old-space rows v h
      (Each-from (λ r. in_span p w old r ≡ true) rows old-member) g (member-span p w pos old v old-vectors (inl refl)))

  new-in-old : (r : Vector) → Among r new → in_span p w old r ≡ true
  new-in-old r m = by (among-append (map (cleared p row) front) (row ∷ back) r m)
    where
      here : (s : Vector) → Among s front → in_span p w old (cleared p row s) ≡ true
      here s k =
          let a = at_place s (lead row) in
          let n = among-left front back s k in
          old-space.plus_in s _ (row-vector p w rows s h n) (multiple-vector p pos w (minus p a) _ y.wide) (old-member s n)
          (old-space.multiple_in (minus p a) _ (mod-lt (p - a) pos) y old-y)

      by : Among r (map (cleared p row) front) ⊎ Among r (row ∷ back)
          → in_span p w old r ≡ true
      by (inl k) = let q = map-among (cleared p row) front r k in
          subst (λ s. in_span p w old s ≡ true) q.2 (here q.0 q.1)
      by (inr (inl e)) = subst (λ s. in_span p w old s ≡ true) e old-y
      by (inr (inr k)) = old-member r (among-right front back r k)

  new-y : in_span p w new row ≡ true
  new-y = new-member _ (among-right (map (cleared p row) front) (row ∷ back) _ (inl refl))

  new-rows : (r : Vector) → Among r rows → in_span p w new r ≡ true
  new-rows r m = by (among-append front back r m)
    where
      by : Among r front ⊎ Among r back → in_span p w new r ≡ true
      by (inl k) =
          let s = row-vector p w rows r h m in
          subst (λ q. in_span p w new q ≡ true) (cleared-back p w pos row r y s)
          (new-space.plus_in _ _ (cleared-vector p w pos row r y s) (multiple-vector p pos w _ _ y.wide)
          (new-member _ (among-left (map (cleared p row) front) (row ∷ back) _
          (among-map (cleared p row) front r k)))
          (new-space.multiple_in _ _ (below-at p pos w r s (lead row)) y new-y))
      by (inr k) = new-member r (among-right (map (cleared p row) front) (row ∷ back) r (inr k))

  -- what is left, from its multiple
  undone : multiple p (at_place left (lead left)) row ≡ left
  undone = same-vector p pos w _ _ (multiple-vector p pos w _ _ y.wide) x (λ j. place-multiple p _ _ j ∙ back-to (at_place left (lead left)) (at_place left j) (at_place row j) inverts (place-multiple p b left j))
    where
      back-to : (k z m : ℕ) → (b * k) % p ≡ 1 → SameMod p m (b * z) → SameMod p (k * m) z
      back-to k z m e f =
          same-times p k m (b * z) f ∙ ap (λ n. n % p) (let q : k * (b * z) ≡ z * (b * k) = omega arith in q)
          ∙ same-times p z (b * k) 1 (e ∙ sym (mod-eq_of_lt above)) ∙ ap (λ n. n % p) (let q : z * 1 ≡ z = omega arith in q)

  new-v : in_span p w new v ≡ true
  new-v = subst (λ q. in_span p w new q ≡ true) (remainder-sum p w pos rows v h g)
      (new-space.plus_in _ _ x (combined-vector p pos w _ rows (Stairs-wide p w rows h))
      (subst (λ q. in_span p w new q ≡ true) undone
      (new-space.multiple_in _ _ (below-at p pos w _ x (lead left)) y new-y))
      (within-combined p w pos (in_span p w new) new-space (coordinates rows v) rows
      (recursion_from_All (λ n. n < p) _ (coordinates-vector p w pos rows v g).below) old-vectors.1
      (Each-from (λ r. in_span p w new r ≡ true) rows new-rows)))

  pub with_row-span : (u : Vector) → IsCombination p w (with_row p w front back b v) u ↔ IsCombination p w (v ∷ (front ++ back)) u
  with_row-span u = (
    combination-chain p w pos new old u new-vectors old-vectors
        (Each-from (λ r. in_span p w old r ≡ true) new new-in-old),
    combination-chain p w pos old new u old-vectors new-vectors
        (new-v, Each-from (λ r. in_span p w new r ≡ true) rows new-rows),
  )
