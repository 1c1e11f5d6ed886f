-- Of the vectors that a table spans, those whose first half is 0 are spanned by the rows that lead in the second half. The rows
-- need not be 0 where others lead.
use Rattle.std.proofs.Common.{◌≡◌, ◌⊎◌, inl, inr, ◌↔◌, ℕ, suc, ◌+◌, ◌*◌, ◌-◌, ◌%◌, ◌<◌, ◌≤◌, true, List, [], ◌∷◌, ◌++◌, All, map, length, drop, cond, ltb, refl, sym, ◌∙◌, ap, subst, arith}
use Rattle.std.proofs.Math.Nat.{mod-eq_of_lt, zero-mod}
use Rattle.std.proofs.Math.ListN.{length-map, length-append, get_or-append}
use Rattle.std.proofs.lemmas.Bool.{cases_lt, lt-ltb, le-ltb}
use Rattle.std.proofs.lemmas.List.{length-drop, append_cancel_left}
use Rattle.std.proofs.lemmas.List.Elements.{All-drop, All-append, All-from_recursion, recursion_from_All}
use Rattle.std.specs.List.{AllByRecursion as Each}
use Rattle.fp_field.specs.declared.prime.Prime.{Prime}
use Rattle.fp_field.specs.Field.{number, SameMod, IsField}
use Rattle.echelons.specs.Echelon.{Vector, IsVector, at_place, zeros, lead, in_span, in_kernel, reduced_basis, IsReducedEchelon, IsCombination}
use Rattle.echelons.proofs.Vectors.{Wide, weight, weight-clear, vectors-wide, place-combined, place-zeros, length-zeros, zeros-vector, combined-vector, same-vector}
use Rattle.echelons.proofs.Leads.{before-lead, lead-zeros}
use Rattle.echelons.proofs.Halves.{side, units, kernel-graph, combined-behind}
use Rattle.fp_field.proofs.Mod.{same-plus}
use Rattle.echelons.proofs.Lists.{Each-from}
use Rattle.echelons.proofs.Members.{combination-chain, member-span}
use Rattle.echelons.proofs.Spans.{spans-span, span-subspace}
use Rattle.echelons.proofs.Basis.{basis-spans}
use Rattle.echelons.proofs.Unique.{basis-is}
use Rattle.elim_fp.specs.Rows.{DenseRow, vectors_of, IsRow, tails}
use Rattle.elim_fp.specs.Tables.{Placed}
use Rattle.elim_fp.proofs.TableRows.{placed-vectors, lead-placed}

-- the rows that lead from place h on
abbrev pub back : ℕ → List Vector → List Vector
back h [] = []
back h (t ∷ ts) = cond (ltb (lead t) h) (back h ts) (t ∷ back h ts)

tails-back : (h : ℕ) (ts : List Vector) → tails h ts ≡ map (drop h) (back h ts)
tails-back h [] = refl
tails-back h (t ∷ ts) = by (cases_lt (lead t) h) (tails-back h ts)
  where
    by : (lead t < h) ⊎ (h ≤ lead t) → tails h ts ≡ map (drop h) (back h ts) → tails h (t ∷ ts) ≡ map (drop h) (back h (t ∷ ts))
    by (inl l) e = rw lt-ltb e
    by (inr l) e = rw le-ltb (ap (λ vs. drop h t ∷ vs) e)

module _ (h : ℕ) (P : Vector → Type 0) where
  back-each : (ts : List Vector) → Each P ts → Each P (back h ts)
  back-each [] k = tt
  back-each (t ∷ ts) k = by (cases_lt (lead t) h) (back-each ts k.1)
    where
      by : (lead t < h) ⊎ (h ≤ lead t) → Each P (back h ts) → Each P (back h (t ∷ ts))
      by (inl l) e = subst (λ b. Each P (cond b (back h ts) (t ∷ back h ts))) (sym (lt-ltb (lead t) h l)) e
      by (inr l) e = subst (λ b. Each P (cond b (back h ts) (t ∷ back h ts))) (sym (le-ltb (lead t) h l)) (k.0, e)

back-leads : (h : ℕ) (ts : List Vector) → Each (λ r. h ≤ lead r) (back h ts)
back-leads h [] = tt
back-leads h (t ∷ ts) = by (cases_lt (lead t) h) (back-leads h ts)
  where
    by : (lead t < h) ⊎ (h ≤ lead t) → Each (λ r. h ≤ lead r) (back h ts) → Each (λ r. h ≤ lead r) (back h (t ∷ ts))
    by (inl l) e = subst (λ b. Each (λ r. h ≤ lead r) (cond b (back h ts) (t ∷ back h ts))) (sym (lt-ltb (lead t) h l)) e
    by (inr l) e = subst (λ b. Each (λ r. h ≤ lead r) (cond b (back h ts) (t ∷ back h ts))) (sym (le-ltb (lead t) h l)) (l, e)

module _ (p h n : ℕ) (pos : 0 < p) where
  -- coefficients over the rows that lead from h on, with the same sums
  Kept : List Vector → List ℕ → Type 0
  Kept ts cs = (ds : List ℕ) × (length ds ≡ length (back h ts)) × Each (λ a. a < p) ds × ((i : ℕ) → SameMod p (weight ds (back h ts) i) (weight cs ts i))

  later-zero : (k m : ℕ) (ts : List Vector) → Placed p (h + n) m ts → k < m → Each (λ s. at_place s k ≡ 0) ts
  later-zero k m [] g l = tt
  later-zero k m (t ∷ ts) g l = (g.0.before k l, later-zero k (suc m) ts g.1 (omega arith))

  kept : (k : ℕ) (ts : List Vector) (cs : List ℕ) → Placed p (h + n) k ts → length cs ≡ length ts → Each (λ a. a < p) cs → ((i : ℕ) → i < h → weight cs ts i % p ≡ 0) → Kept ts cs
  unfolding Kept
  kept k [] cs g e b z = ([], refl, tt, λ i. nothing cs e i)
    where
      nothing : (ds : List ℕ) → length ds ≡ 0 → (i : ℕ) → SameMod p 0 (weight ds [] i)
      nothing [] f i = refl
      nothing (d ∷ ds) f i = absurd (omega arith)
  kept k (t ∷ ts) [] g e b z = absurd (omega arith)
  kept k (t ∷ ts) (c ∷ cs) g e b z = by (cases_lt (lead t) h) (λ y. kept (suc k) ts cs g.1 (omega arith) b.1 y)
    where
      by : (lead t < h) ⊎ (h ≤ lead t) → (((i : ℕ) → i < h → weight cs ts i % p ≡ 0) → Kept ts cs) → Kept (t ∷ ts) (c ∷ cs)
      by (inl l) f = subst (λ us. (ds : List ℕ) × (length ds ≡ length us) × Each (λ a. a < p) ds × ((i : ℕ) → SameMod p (weight ds us i) (weight (c ∷ cs) (t ∷ ts) i)))
          (sym (ap (λ q. cond q (back h ts) (t ∷ back h ts)) (lt-ltb (lead t) h l))) (from (f (λ i m. ap (λ a. a % p) (sym (skip i)) ∙ z i m)))
        where
          one : (at_place t k ≡ 1) × (k < h)
          one = pick g.0.one_or_none
            where
              pick : (at_place t k ≡ 1) ⊎ (t ≡ zeros (h + n)) → (at_place t k ≡ 1) × (k < h)
              pick (inl q) = (q, subst (λ m. m < h) (lead-placed p (h + n) k t g.0 q) l)
              pick (inr q) = absurd (let m : lead t ≡ h + n = ap lead q ∙ lead-zeros (h + n) in omega arith)

          none : c ≡ 0
          none =
              let w = weight-clear p cs ts k (later-zero k (suc k) ts g.1 (omega arith)) in
              sym (mod-eq_of_lt b.0) ∙ ap (λ a. a % p) (let q : c ≡ c * 1 + 0 = omega arith in q)
              ∙ ap (λ a. (c * a + 0) % p) (sym one.0) ∙ ap (λ a. (c * at_place t k + a) % p) (sym w) ∙ z k one.1

          skip : (i : ℕ) → c * at_place t i + weight cs ts i ≡ weight cs ts i
          skip i = ap (λ a. a * at_place t i + weight cs ts i) none ∙ (let q : 0 * at_place t i + weight cs ts i ≡ weight cs ts i = omega arith in q)

          from : Kept ts cs → (ds : List ℕ) × (length ds ≡ length (back h ts)) × Each (λ a. a < p) ds × ((i : ℕ) → SameMod p (weight ds (back h ts) i) (weight (c ∷ cs) (t ∷ ts) i))
          from r = (r.0, r.1, r.2, λ i. r.3 i ∙ ap (λ a. a % p) (sym (skip i)))
      by (inr l) f = subst (λ us. (ds : List ℕ) × (length ds ≡ length us) × Each (λ a. a < p) ds × ((i : ℕ) → SameMod p (weight ds us i) (weight (c ∷ cs) (t ∷ ts) i)))
          (sym (ap (λ q. cond q (back h ts) (t ∷ back h ts)) (le-ltb (lead t) h l))) (from (f (λ i m. ap (λ a. a % p) (sym (skip i m)) ∙ z i m)))
        where
          skip : (i : ℕ) → i < h → c * at_place t i + weight cs ts i ≡ weight cs ts i
          skip i m = ap (λ a. c * a + weight cs ts i) (before-lead t i (omega arith)) ∙ (let q : c * 0 + weight cs ts i ≡ weight cs ts i = omega arith in q)

          from : Kept ts cs → (ds : List ℕ) × (length ds ≡ suc (length (back h ts))) × Each (λ a. a < p) ds × ((i : ℕ) → SameMod p (weight ds (t ∷ back h ts) i) (weight (c ∷ cs) (t ∷ ts) i))
          from r = (c ∷ r.0, ap suc r.1, (b.0, r.2), λ i. same-plus p (c * at_place t i) (c * at_place t i) _ _ refl (r.3 i))

  module _ (ts : List Vector) (placed : Placed p (h + n) 0 ts) where
    all : Each (IsVector p (h + n)) ts
    all = placed-vectors p (h + n) 0 ts placed

    behind : Each (IsVector p (h + n)) (back h ts)
    behind = back-each h (IsVector p (h + n)) ts all

    to-back : (v : Vector) → IsVector p (h + n) (zeros h ++ v) → IsCombination p (h + n) ts (zeros h ++ v) → IsCombination p (h + n) (back h ts) (zeros h ++ v)
    unfolding Kept
    to-back v g c =
        let sum = (λ (i : ℕ). sym (place-combined p (h + n) c.0 ts i (vectors-wide p (h + n) ts all)) ∙ ap (λ u. at_place u i % p) c.2) in
        let k = kept 0 ts c.0 placed c.1.wide (recursion_from_All (λ a. a < p) c.0 c.1.below)
        (λ i l. sum i ∙ ap (λ a. a % p) (get_or-append (zeros h) v 0 i (subst (λ m. i < m) (sym (length-zeros h)) l) ∙ place-zeros h i) ∙ zero-mod p) in (
          k.0,
          record { wide = k.1; below = All-from_recursion (λ a. a < p) k.0 k.2 },
          same-vector p pos (h + n) _ (zeros h ++ v) (combined-vector p pos (h + n) k.0 (back h ts) (vectors-wide p (h + n) (back h ts) behind)) g
              (λ i. place-combined p (h + n) k.0 (back h ts) i (vectors-wide p (h + n) (back h ts) behind) ∙ k.3 i ∙ sum i),
        )

    from-back : (u : Vector) → IsCombination p (h + n) (back h ts) u → IsCombination p (h + n) ts u
    from-back u c = combination-chain p (h + n) pos (back h ts) ts u behind all
        (back-each h (λ s. in_span p (h + n) ts s ≡ true) ts (Each-from (λ s. in_span p (h + n) ts s ≡ true) ts (λ s m. member-span p (h + n) pos ts s all m))) c

    pub tails-vectors : Each (IsVector p n) (tails h ts)
    tails-vectors = subst (Each (IsVector p n)) (sym (tails-back h ts)) (dropped (back h ts) behind)
      where
        dropped : (us : List Vector) → Each (IsVector p (h + n)) us → Each (IsVector p n) (map (drop h) us)
        dropped [] k = tt
        dropped (u ∷ us) k = (
          record { wide = length-drop h u ∙ ap (λ m. m - h) k.0.wide ∙ (let q : h + n - h ≡ n = omega arith in q); below = All-drop (λ a. a < p) h u k.0.below },
          dropped us k.1,
        )

    pub tails-all : (v : Vector) → IsVector p (h + n) (zeros h ++ v) → IsCombination p n (tails h ts) v ↔ IsCombination p (h + n) ts (zeros h ++ v)
    tails-all v g =
        let same = λ (cs : List ℕ). combined-behind p h n cs (back h ts) (vectors-wide p (h + n) (back h ts) behind) (back-leads h ts) in
        subst (λ us. IsCombination p n us v ↔ IsCombination p (h + n) ts (zeros h ++ v)) (sym (tails-back h ts)) (
          λ c. from-back (zeros h ++ v) (c.0, subst (λ m. IsVector p m c.0) (length-map (back h ts) (drop h)) c.1, same c.0 ∙ ap (λ u. zeros h ++ u) c.2),
          λ c. let d = to-back v g c in (
            d.0,
            subst (λ m. IsVector p m d.0) (sym (length-map (back h ts) (drop h))) d.1,
            append_cancel_left (zeros h) _ _ (sym (same d.0) ∙ d.2),
          ),
        )

-- the relations, from the parts behind the zeros
pub relations-basis : (p h n : ℕ) → IsField p → (images ts basis : List Vector) → Wide h images → length images ≡ n → Placed p (h + n) 0 ts
    → ((x : Vector) → IsCombination p (h + n) ts x ↔ IsCombination p (h + n) (side images (units n)) x) → IsReducedEchelon p n basis → basis ≡ reduced_basis p n (in_span p n (tails h ts))
    → basis ≡ reduced_basis p n (in_kernel p h images)
relations-basis p h n field images ts basis wide long placed span echelon is =
    basis-is p n pos basis (in_kernel p h images) echelon (λ v g.
    let x = behind v g in
    let graph = kernel-graph p h n images v wide long g in
    let tail = tails-all p h n pos ts placed v x in
    let base = basis-spans p n field (in_span p n (tails h ts)) (span-subspace p n pos (tails h ts) (vectors-wide p n (tails h ts) (tails-vectors p h n pos ts placed))) v g in
    let list = spans-span p n (tails h ts) v g in (
      λ e. subst (λ b. IsCombination p n b v) (sym is) (base.0 (list.1 (tail.1 ((span (zeros h ++ v)).1 (graph.0 e))))),
      λ c. graph.1 ((span (zeros h ++ v)).0 (tail.0 (list.0 (base.1 (subst (λ b. IsCombination p n b v) is c))))),
    ))
  where
    pos : 0 < p
    pos = let l : 1 < p = field.one_is_not_zero in omega arith

    behind : (v : Vector) → IsVector p n v → IsVector p (h + n) (zeros h ++ v)
    behind v g =
        let z = zeros-vector p pos h in
        record {
          wide = length-append (zeros h) v ∙ (let a : length (zeros h) ≡ h = z.wide in let b : length v ≡ n = g.wide in let q : length (zeros h) + length v ≡ h + n = omega arith in q);
          below = All-append (λ a. a < p) (zeros h) v z.below g.below;
        }

-- rows of vectors over a prime
pub rows-from : (q : Prime) (w : ℕ) (xs : List DenseRow) (vs : List Vector) → vectors_of xs ≡ vs → All (λ r. r.prime ≡ q) xs → Each (IsVector (number q) w) vs → All (IsRow q w) xs
rows-from q w xs vs e h g = All-from_recursion (IsRow q w) xs (by xs (recursion_from_All (λ r. r.prime ≡ q) xs h) (subst (Each (IsVector (number q) w)) (sym e) g))
  where
    by : (ys : List DenseRow) → Each (λ r. r.prime ≡ q) ys → Each (IsVector (number q) w) (vectors_of ys) → Each (IsRow q w) ys
    by [] k l = tt
    by (y ∷ ys) k l = (record { prime_is = k.0; vector = l.0 }, by ys k.1 l.1)
