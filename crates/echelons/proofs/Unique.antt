-- A reduced echelon list that spans a subspace is its reduced echelon basis, so there is no other.
use Rattle.std.proofs.Common.{◌≡◌, ◌⊎◌, inl, inr, ℕ, zero, suc, ◌<◌, Bool, true, false, not, ◌&&◌, ◌||◌, eqb, List, [], ◌∷◌, length, refl, sym, ◌∙◌, ap, subst, arith}
use Rattle.std.proofs.lemmas.Bool.{or_left, or_right, false≢true, cases_eq, eqb-true, eq-eqb, ne_eqb, and_parts, and_from}
use Rattle.echelons.specs.Echelon.{Vector, IsVector, at_place, vectors, downwards, lead, is_lead, is_clear, is_reduced, reduced_basis, IsReducedEchelon, IsCombination, Spans}
use Rattle.echelons.proofs.Leads.{lead-in, lead-positive}
use Rattle.echelons.proofs.Lists.{Among, each-among, Each-from, among-filter, filter-among, any-from, any-among, all-among, all-from, downwards-among, among-downwards, vectors-among, among-vectors, Falling, falling-filter, same-members, Larger, Larger-chain, Larger-apart, vectors-falling}
use Rattle.echelons.proofs.Rows.{Apart, Stairs, Stairs-from, same-at_leads, row-vector, row-one, row-clear, row-combination, lead-combination}

-- ---- the tests, read

not_or : (a b : Bool) → not a || b ≡ true → a ≡ true → b ≡ true
not_or true b e f = e
not_or false b e f = absurd (false≢true f)

or_not : (a b : Bool) → (a ≡ true → b ≡ true) → not a || b ≡ true
or_not true b f = f refl
or_not false b f = refl

or_other : (a b : Bool) → a ≡ false → a || b ≡ true → b ≡ true
or_other true b f e = absurd (false≢true (sym f))
or_other false b f e = e

module _ (p w : ℕ) (within : Vector → Bool) where
  pub is_lead-witness : (j : ℕ) → is_lead p w within j ≡ true → (v : Vector) × IsVector p w v × (within v ≡ true) × (lead v ≡ j)
  is_lead-witness j e =
      let r = any-from (λ v. within v && eqb (lead v) j) (vectors p w) e in
      let h = and_parts (within r.0) (eqb (lead r.0) j) r.2 in
      (r.0, vectors-among p w r.0 r.1, h.0, eqb-true (lead r.0) j h.1)

  pub is_lead-of : (v : Vector) → IsVector p w v → within v ≡ true → is_lead p w within (lead v) ≡ true
  is_lead-of v h e =
      any-among (λ u. within u && eqb (lead u) (lead v)) (vectors p w) v (among-vectors p w v h) (and_from (within v) (eqb (lead v) (lead v)) e (eq-eqb (lead v) (lead v) refl))

  pub is_clear-at : (v : Vector) → is_clear p w within v ≡ true → (j : ℕ) → j < w → is_lead p w within j ≡ true → at_place v j ≡ 0
  is_clear-at v e j l f =
      eqb-true (at_place v j) 0 (not_or (is_lead p w within j) (eqb (at_place v j) 0)
      (all-among (λ i. not (is_lead p w within i) || eqb (at_place v i) 0) (downwards w) j e (among-downwards w j l)) f)

  pub is_clear-from : (v : Vector) → ((j : ℕ) → j < w → is_lead p w within j ≡ true → at_place v j ≡ 0) → is_clear p w within v ≡ true
  is_clear-from v h =
      all-from (λ i. not (is_lead p w within i) || eqb (at_place v i) 0) (downwards w)
      (λ j m. or_not (is_lead p w within j) (eqb (at_place v j) 0) (λ f. eq-eqb (at_place v j) 0 (h j (downwards-among w j m) f)))

  pub is_reduced-one : (v : Vector) → is_reduced p w within v ≡ true → at_place v (lead v) ≡ 1
  is_reduced-one v e = eqb-true (at_place v (lead v)) 1 (and_parts (eqb (at_place v (lead v)) 1) _ e).0

  pub is_reduced-at : (v : Vector) → is_reduced p w within v ≡ true → (j : ℕ) → j < w → (j ≡ lead v → ⊥) → is_lead p w within j ≡ true → at_place v j ≡ 0
  is_reduced-at v e j l d f =
      let every = (and_parts (eqb (at_place v (lead v)) 1) _ e).1 in
      eqb-true (at_place v j) 0 (not_or (is_lead p w within j) (eqb (at_place v j) 0)
      (or_other (eqb j (lead v)) _ (ne_eqb j (lead v) d)
      (all-among (λ i. eqb i (lead v) || (not (is_lead p w within i) || eqb (at_place v i) 0)) (downwards w) j every (among-downwards w j l))) f)

  pub is_reduced-from : (v : Vector) → at_place v (lead v) ≡ 1 → ((j : ℕ) → j < w → (j ≡ lead v → ⊥) → is_lead p w within j ≡ true → at_place v j ≡ 0) → is_reduced p w within v ≡ true
  is_reduced-from v one h =
      and_from (eqb (at_place v (lead v)) 1) _ (eq-eqb (at_place v (lead v)) 1 one)
      (all-from (λ i. eqb i (lead v) || (not (is_lead p w within i) || eqb (at_place v i) 0)) (downwards w) (λ j m. by j (downwards-among w j m) (cases_eq j (lead v))))
    where
      by : (j : ℕ) → j < w → (j ≡ lead v) ⊎ (j ≡ lead v → ⊥) → eqb j (lead v) || (not (is_lead p w within j) || eqb (at_place v j) 0) ≡ true
      by j l (inl e) = or_left (eqb j (lead v)) _ (eq-eqb j (lead v) e)
      by j l (inr d) = or_right (eqb j (lead v)) _ (or_not (is_lead p w within j) _ (λ f. eq-eqb (at_place v j) 0 (h j l d f)))

  pub basis-among : (v : Vector) → Among v (reduced_basis p w within) → IsVector p w v × (within v ≡ true) × (is_reduced p w within v ≡ true)
  basis-among v m =
      let r = filter-among (λ u. within u && is_reduced p w within u) (vectors p w) v m in
      let h = and_parts (within v) (is_reduced p w within v) r.1 in
      (vectors-among p w v r.0, h.0, h.1)

  pub among-basis : (v : Vector) → IsVector p w v → within v ≡ true → is_reduced p w within v ≡ true → Among v (reduced_basis p w within)
  among-basis v h e f =
      among-filter (λ u. within u && is_reduced p w within u) (vectors p w) v (among-vectors p w v h) (and_from (within v) (is_reduced p w within v) e f)

-- a vector with an earlier leading place is larger
leads-larger : (r s : Vector) → length r ≡ length s → 0 < at_place r (lead r) → lead r < lead s → Larger r s
leads-larger [] s e o l = absurd (omega arith)
leads-larger (a ∷ r) [] e o l = absurd (omega arith)
leads-larger (zero ∷ r) (zero ∷ s) e o l = inr (refl, leads-larger r s (omega arith) o (omega arith))
leads-larger (zero ∷ r) (suc b ∷ s) e o l = absurd (omega arith)
leads-larger (suc a ∷ r) (zero ∷ s) e o l = inl (omega arith)
leads-larger (suc a ∷ r) (suc b ∷ s) e o l = absurd (omega arith)

module _ (p w : ℕ) where
  Stairs-falling : (rows : List Vector) → Stairs p w rows → Falling Larger rows
  Stairs-falling [] h = tt
  Stairs-falling (r ∷ rows) h = (
    Each-from (Larger r) rows (λ s m. leads-larger r s (h.0.wide ∙ sym (row-vector p w rows s h.3 m).wide)
        (let one : at_place r (lead r) ≡ 1 = h.1 in omega arith) (each-among (Apart r) rows s h.2 m).0),
    Stairs-falling rows h.3,
  )

  module _ (pos : 0 < p) (within : Vector → Bool) (rows : List Vector) (h : Stairs p w rows) (spans : Spans p w rows within) where
    pub row-within : (r : Vector) → Among r rows → within r ≡ true
    row-within r m = (spans r (row-vector p w rows r h m)).1 (row-combination p w pos rows r h m)

    pub row-lead : (r : Vector) → Among r rows → is_lead p w within (lead r) ≡ true
    row-lead r m = is_lead-of p w within r (row-vector p w rows r h m) (row-within r m)

    -- the leading places of the subspace are those of the rows
    pub lead-row : (j : ℕ) → j < w → is_lead p w within j ≡ true → (r : Vector) × Among r rows × (lead r ≡ j)
    lead-row j l e =
        let v = is_lead-witness p w within j e in
        let wide : length v.0 ≡ w = v.1.wide in
        let place : lead v.0 ≡ j = v.3 in
        let r = lead-combination p w pos rows v.0 h ((spans v.0 v.1).0 v.2) (lead-positive v.0 (omega arith)) in
        (r.0, r.1, r.2 ∙ v.3)

    row-basis : (r : Vector) → Among r rows → Among r (reduced_basis p w within)
    row-basis r m =
        among-basis p w within r (row-vector p w rows r h m) (row-within r m)
        (is_reduced-from p w within r (row-one p w rows r h m)
        (λ j l d e. let s = lead-row j l e in
        subst (λ i. at_place r i ≡ 0) s.2 (row-clear p w rows r s.0 h m s.1 (λ q. d (sym s.2 ∙ sym q)))))

    basis-row : (v : Vector) → Among v (reduced_basis p w within) → Among v rows
    basis-row v m =
        let b = basis-among p w within v m in
        let one : at_place v (lead v) ≡ 1 = is_reduced-one p w within v b.2 in
        let c = (spans v b.0).0 b.1 in
        let r = lead-combination p w pos rows v h c (omega arith) in
        subst (λ u. Among u rows) (same r.0 r.1 r.2 b.0 one b.2 c) r.1
      where
        same : (r : Vector) → Among r rows → lead r ≡ lead v → IsVector p w v → at_place v (lead v) ≡ 1 → is_reduced p w within v ≡ true → IsCombination p w rows v → r ≡ v
        same r n e g one red c = same-at_leads p w rows r v h (row-combination p w pos rows r h n) c (Each-from (λ s. at_place r (lead s) ≡ at_place v (lead s)) rows (λ s k. by s k (cases_eq (lead s) (lead v))))
          where
            row-place : (s : Vector) → Among s rows → lead s < w
            row-place s k = let one' : at_place s (lead s) ≡ 1 = row-one p w rows s h k in
                let wide : length s ≡ w = (row-vector p w rows s h k).wide in
                let l : lead s < length s = lead-in s (lead s) (omega arith) in omega arith

            by : (s : Vector) → Among s rows → (lead s ≡ lead v) ⊎ (lead s ≡ lead v → ⊥) → at_place r (lead s) ≡ at_place v (lead s)
            by s k (inl q) = ap (at_place r) (q ∙ sym e) ∙ row-one p w rows r h n ∙ sym one ∙ ap (at_place v) (sym q)
            by s k (inr d) =
                row-clear p w rows r s h n k (λ q. d (sym q ∙ e))
                ∙ sym (is_reduced-at p w within v red (lead s) (row-place s k) d (row-lead s k))

    rows-basis : rows ≡ reduced_basis p w within
    rows-basis =
        same-members Larger Larger-chain Larger-apart rows (reduced_basis p w within) (Stairs-falling rows h)
        (falling-filter Larger (λ u. within u && is_reduced p w within u) (vectors p w) (vectors-falling p w)) row-basis basis-row

-- a reduced echelon list is the reduced echelon basis of the subspace that it spans
pub basis-is : (p w : ℕ) → 0 < p → (rows : List Vector) (within : Vector → Bool) → IsReducedEchelon p w rows → Spans p w rows within → rows ≡ reduced_basis p w within
basis-is p w pos rows within h spans = rows-basis p w pos within rows (Stairs-from p w rows h) spans

-- two reduced echelon lists of one span are equal
pub echelon-unique : (p w : ℕ) → 0 < p → (rows others : List Vector) (within : Vector → Bool)
    → IsReducedEchelon p w rows → IsReducedEchelon p w others → Spans p w rows within → Spans p w others within → rows ≡ others
echelon-unique p w pos rows others within g h s t = basis-is p w pos rows within g s ∙ sym (basis-is p w pos others within h t)
