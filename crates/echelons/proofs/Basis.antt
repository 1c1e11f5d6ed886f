-- Each subspace has a reduced echelon basis: a row is added for each leading place, the last place first.
use Rattle.std.proofs.Common.{◌≡◌, ◌⊎◌, inl, inr, ℕ, zero, suc, ◌+◌, ◌*◌, ◌-◌, ◌%◌, ◌<◌, ◌≤◌, Bool, true, false, List, [], ◌∷◌, length, refl, sym, ◌∙◌, ap, subst, arith}
use Rattle.std.proofs.Math.Nat.{mod-eq_of_lt, zero-mod}
use Rattle.std.proofs.lemmas.Bool.{false≢true, cases_lt, cases_eq}
use Rattle.std.proofs.lemmas.List.Elements.{recursion_from_All}
use Rattle.std.specs.List.{AllByRecursion as Each}
use Rattle.fp_field.specs.Field.{IsField}
use Rattle.echelons.specs.Echelon.{Vector, IsVector, at_place, multiple, combined, lead, is_lead, reduced_basis, IsSubspace, IsReducedEchelon, IsCombination, Spans, coordinates, remainder}
use Rattle.echelons.proofs.Vectors.{Each-weaker, Each-both, weight-clear, below-at, multiple-vector, combined-vector, at-multiple}
use Rattle.echelons.proofs.Leads.{before-lead, lead-within, lead-positive, lead-is, zeros-from_lead}
use Rattle.echelons.proofs.Lists.{Among, each-among, Each-from}
use Rattle.echelons.proofs.Rows.{Apart, Stairs, Stairs-wide, echelon-from, row-vector, coordinates-vector, remainder-vector, remainder-place, remainder-clear, combination-from_none}
use Rattle.echelons.proofs.Unique.{is_lead-witness, is_lead-of, basis-is}

module _ (p w : ℕ) (pos : 0 < p) (within : Vector → Bool) (sub : IsSubspace p w within) where
  -- a combination of vectors of the subspace is in it
  pub within-combined : (cs : List ℕ) (vs : List Vector) → Each (λ a. a < p) cs → Each (IsVector p w) vs → Each (λ v. within v ≡ true) vs → within (combined p w cs vs) ≡ true
  within-combined [] vs b h e = sub.zero_in
  within-combined (c ∷ cs) [] b h e = sub.zero_in
  within-combined (c ∷ cs) (v ∷ vs) b h e =
      sub.plus_in (multiple p c v) (combined p w cs vs) (multiple-vector p pos w c v h.0.wide)
      (combined-vector p pos w cs vs (Each-weaker (IsVector p w) (λ u. length u ≡ w) (λ u g. g.wide) vs h.1))
      (sub.multiple_in c v b.0 h.0 e.0) (within-combined cs vs b.1 h.1 e.1)

  pub within-combination : (rows : List Vector) (v : Vector) → Each (IsVector p w) rows → Each (λ r. within r ≡ true) rows → IsCombination p w rows v → within v ≡ true
  within-combination rows v h e c = ap within (sym c.2) ∙ within-combined c.0 rows (recursion_from_All (λ a. a < p) c.0 c.1.below) h e

  pub Stairs-vectors : (rows : List Vector) → Stairs p w rows → Each (IsVector p w) rows
  Stairs-vectors rows h = Each-from (IsVector p w) rows (λ r m. row-vector p w rows r h m)

  pub within-remainder : (rows : List Vector) (v : Vector) → Stairs p w rows → Each (λ r. within r ≡ true) rows → IsVector p w v → within v ≡ true → within (remainder p w rows v) ≡ true
  within-remainder rows v h e g k =
      let u = combined-vector p pos w (coordinates rows v) rows (Stairs-wide p w rows h) in
      sub.plus_in v (multiple p (p - 1) (combined p w (coordinates rows v) rows)) g (multiple-vector p pos w (p - 1) _ u.wide) k
      (sub.multiple_in (p - 1) _ (omega arith) u
      (within-combined (coordinates rows v) rows (recursion_from_All (λ a. a < p) _ (coordinates-vector p w pos rows v g).below) (Stairs-vectors rows h) e))

-- what is left of a vector that leads with 1 before all rows is a row before them
module _ (p w : ℕ) (above : 1 < p) (rows : List Vector) (u : Vector) (m : ℕ) (h : Stairs p w rows) (g : IsVector p w u)
    (before : (i : ℕ) → i < m → at_place u i ≡ 0) (one : at_place u m ≡ 1) (after : Each (λ s. m < lead s) rows) where
  pos' : 0 < p
  pos' = omega arith

  left-vector : IsVector p w (remainder p w rows u)
  left-vector = remainder-vector p w pos' rows u h g

  left-at : (i a : ℕ) → i ≤ m → a < p → at_place u i ≡ a → at_place (remainder p w rows u) i ≡ a
  left-at i a l b e =
      let none = weight-clear p (coordinates rows u) rows i (Each-weaker (λ s. m < lead s) (λ s. at_place s i ≡ 0) (λ s k. before-lead s i (omega arith)) rows after) in
      sym (mod-eq_of_lt (below-at p pos' w _ left-vector i)) ∙ remainder-place p w pos' rows u i h g
      ∙ ap (λ n. (at_place u i + (p - 1) * n) % p) none ∙ ap (λ n. n % p) (let q : at_place u i + (p - 1) * 0 ≡ a = omega arith in q) ∙ mod-eq_of_lt b

  pub left-lead : lead (remainder p w rows u) ≡ m
  left-lead = lead-is (remainder p w rows u) m (λ i l. left-at i 0 (omega arith) pos' (before i l)) (let e : at_place (remainder p w rows u) m ≡ 1 = left-at m 1 (omega arith) above one in omega arith)

  pub left-stairs : Stairs p w (remainder p w rows u ∷ rows)
  left-stairs = (
    left-vector,
    ap (at_place (remainder p w rows u)) left-lead ∙ left-at m 1 (omega arith) above one,
    Each-both (λ s. m < lead s) (λ s. at_place (remainder p w rows u) (lead s) ≡ 0) (Apart (remainder p w rows u))
        (λ s l e. (subst (λ n. n < lead s) (sym left-lead) l, e, before-lead s (lead (remainder p w rows u)) (subst (λ n. n < lead s) (sym left-lead) l)))
        rows after (remainder-clear p w pos' rows u h g),
    h,
  )

-- reduced rows of the subspace whose leading places are those of the subspace from m on
record Found (p w : ℕ) (within : Vector → Bool) (m : ℕ) : Type 0 where
  rows : List Vector
  stairs : Stairs p w rows
  inside : Each (λ r. within r ≡ true) rows
  above : Each (λ r. m ≤ lead r) rows
  reached : (j : ℕ) → m ≤ j → j < w → is_lead p w within j ≡ true → (r : Vector) × Among r rows × (lead r ≡ j)

module _ (p w : ℕ) (field : IsField p) (within : Vector → Bool) (sub : IsSubspace p w within) where
  pos : 0 < p
  pos = let l : 1 < p = field.one_is_not_zero in omega arith

  -- a vector of the subspace with 1 at a leading place
  one-at : (m : ℕ) → m < w → is_lead p w within m ≡ true
      → (u : Vector) × IsVector p w u × (within u ≡ true) × ((i : ℕ) → i < m → at_place u i ≡ 0) × (at_place u m ≡ 1)
  one-at m l e =
      let v = is_lead-witness p w within m e in
      let wide : length v.0 ≡ w = v.1.wide in
      let leads : lead v.0 ≡ m = v.3 in
      let b = field.inverse (at_place v.0 m) (subst (λ n. 0 < at_place v.0 n) leads (lead-positive v.0 (omega arith))) (below-at p pos w v.0 v.1 m) in (
        multiple p b.0 v.0,
        multiple-vector p pos w b.0 v.0 wide,
        sub.multiple_in b.0 v.0 b.1 v.1 v.2,
        (λ i k. at-multiple p b.0 v.0 i ∙ ap (λ n. (b.0 * n) % p) (before-lead v.0 i (omega arith)) ∙ ap (λ n. n % p) (let q : b.0 * 0 ≡ 0 = omega arith in q) ∙ zero-mod p),
        at-multiple p b.0 v.0 m ∙ field.times_commutes b.0 (at_place v.0 m) ∙ b.2,
      )

  find : (k m : ℕ) → m + k ≡ w → Found p w within m
  find zero m e = record { rows = []; stairs = tt; inside = tt; above = tt; reached = λ j l k f. absurd (omega arith) }
  find (suc k) m e = by (is_lead p w within m) refl (find k (suc m) (omega arith))
    where
      by : (b : Bool) → is_lead p w within m ≡ b → Found p w within (suc m) → Found p w within m
      by false f r = record {
        rows = r.rows;
        stairs = r.stairs;
        inside = r.inside;
        above = Each-weaker (λ s. suc m ≤ lead s) (λ s. m ≤ lead s) (λ s l. omega arith) r.rows r.above;
        reached = λ j l n g. later j l n g (cases_eq j m);
      }
        where
          later : (j : ℕ) → m ≤ j → j < w → is_lead p w within j ≡ true → (j ≡ m) ⊎ (j ≡ m → ⊥) → (s : Vector) × Among s r.rows × (lead s ≡ j)
          later j l n g (inl q) = absurd (false≢true (sym f ∙ ap (is_lead p w within) (sym q) ∙ g))
          later j l n g (inr d) = r.reached j (omega arith) n g
      by true f r =
          let u = one-at m (omega arith) f in
          let leads = left-lead p w field.one_is_not_zero r.rows u.0 m r.stairs u.1 u.3 u.4 r.above in
          record {
            rows = remainder p w r.rows u.0 ∷ r.rows;
            stairs = left-stairs p w field.one_is_not_zero r.rows u.0 m r.stairs u.1 u.3 u.4 r.above;
            inside = (within-remainder p w pos within sub r.rows u.0 r.stairs r.inside u.1 u.2, r.inside);
            above = (omega arith, Each-weaker (λ s. suc m ≤ lead s) (λ s. m ≤ lead s) (λ s l. omega arith) r.rows r.above);
            reached = λ j l n g. later j l n g (remainder p w r.rows u.0) leads (cases_eq j m);
          }
        where
          later : (j : ℕ) → m ≤ j → j < w → is_lead p w within j ≡ true → (x : Vector) → lead x ≡ m → (j ≡ m) ⊎ (j ≡ m → ⊥) → (s : Vector) × Among s (x ∷ r.rows) × (lead s ≡ j)
          later j l n g x q (inl z) = (x, inl refl, q ∙ sym z)
          later j l n g x q (inr d) = let s = r.reached j (omega arith) n g in (s.0, inr s.1, s.2)

  all : Found p w within 0
  all = find w 0 (omega arith)

  found-span : (r : Found p w within 0) (v : Vector) → IsVector p w v → within v ≡ true → IsCombination p w r.rows v
  found-span r v g e = by (cases_lt (lead (remainder p w r.rows v)) w)
    where
      x : IsVector p w (remainder p w r.rows v)
      x = remainder-vector p w pos r.rows v r.stairs g

      by : (lead (remainder p w r.rows v) < w) ⊎ (w ≤ lead (remainder p w r.rows v)) → IsCombination p w r.rows v
      by (inl l) =
          let s = r.reached (lead (remainder p w r.rows v)) (omega arith) l (is_lead-of p w within _ x (within-remainder p w pos within sub r.rows v r.stairs r.inside g e)) in
          let none : at_place (remainder p w r.rows v) (lead (remainder p w r.rows v)) ≡ 0 =
          subst (λ n. at_place (remainder p w r.rows v) n ≡ 0) s.2 (each-among (λ q. at_place (remainder p w r.rows v) (lead q) ≡ 0) r.rows s.0 (remainder-clear p w pos r.rows v r.stairs g) s.1) in
          let wide : length (remainder p w r.rows v) ≡ w = x.wide in
          let some : 0 < at_place (remainder p w r.rows v) (lead (remainder p w r.rows v)) = lead-positive (remainder p w r.rows v) (omega arith) in
          absurd (omega arith)
      by (inr l) =
          let wide : length (remainder p w r.rows v) ≡ w = x.wide in
          let most : lead (remainder p w r.rows v) ≤ length (remainder p w r.rows v) = lead-within (remainder p w r.rows v) in
          combination-from_none p w pos r.rows v r.stairs g (zeros-from_lead w (remainder p w r.rows v) wide (omega arith))

  found-echelon : IsReducedEchelon p w all.rows
  found-echelon = echelon-from p w all.rows all.stairs

  found-spans : Spans p w all.rows within
  found-spans v g = (found-span all v g, within-combination p w pos within sub all.rows v (Stairs-vectors p w pos within sub all.rows all.stairs) all.inside)

  -- the reduced echelon basis of a subspace is a reduced echelon list that spans it
  pub basis-echelon : IsReducedEchelon p w (reduced_basis p w within)
  basis-echelon = subst (IsReducedEchelon p w) (basis-is p w pos all.rows within found-echelon found-spans) found-echelon

  pub basis-spans : Spans p w (reduced_basis p w within) within
  basis-spans = subst (λ rows. Spans p w rows within) (basis-is p w pos all.rows within found-echelon found-spans) found-spans
