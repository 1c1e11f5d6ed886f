-- The simplices of two spaces with a bounded reach as the parts of pairs, and that the twist of a product or a bundle raises the reach by no
-- more than is said.
use Rattle.std.proofs.Common.{◌≡◌, ℕ, zero, suc, ◌+◌, ◌-◌, ◌<◌, ◌≤◌, List, [], ◌∷◌, length, Option, Some, None, ℤ, pos, refl, sym, ◌∙◌, ap, subst, arith}
use Rattle.std.specs.Prelude.{nat_abs}
use Rattle.std.specs.List.{All}
use Rattle.fp_field.specs.Chains.{Each}
use Rattle.fp_field.proofs.FlowLaws.{Each-keep}
use Rattle.spaces.specs.Tables.{Table, RowSimplex, InTable, entry, row_degree}
use Rattle.spaces.specs.Nerves.{integers, nerve_face, nerve_times}
use Rattle.spaces.specs.Cocycles.{cocycle_twisting}
use Rattle.spaces.specs.Spaces.{Space, table, sphere, product, suspension, kz1, bundle, loops, paths, kzm1, cyclic_bundle, Plain, set_of}
use Rattle.spaces.specs.Orders.{ordered}
use Rattle.spaces.specs.EilenbergZilber.{Pair, linear, is_pair_cell}
use Rattle.spaces.proofs.SpaceLaws.{space_set_laws}
use Rattle.values.specs.Rules.{bundle_twist}
use Rattle.cells.specs.declared.cells.Simplex.{Simplex}
use Rattle.term_lang.specs.Forms.{form}
use Rattle.term_lang.specs.Quote.{quote}
use Rattle.normal_forms.proofs.BuiltForms.{built_forms}
use Rattle.space_faces.specs.Built.{IsAllowedBuilt}
use Rattle.ez_flow.specs.Parts.{HasSimplex}
use Rattle.space_pairs.specs.Reach.{total, most_twisted, reach}
use Rattle.space_pairs.specs.TwistReach.{total-face, total-times, total-twisting}
use Rattle.space_pairs.specs.Parts.{IsReached, space_forms, space_read, space_left, space_right, reached_graded}
use Rattle.twist_maps.specs.Values.{AreValues}
use Rattle.twist_chains.specs.Fibred.{twist_by, AreTwistValues, growth}
use Rattle.twist_chains.proofs.TwistTerms.{length-differences, length-times}
use Rattle.twist_chains.proofs.CodeParts.{AreParts}
use Rattle.twist_chains.proofs.Stages.{PairKey}

-- ---- one space

pub reach_wider : (X : Space) (m k n : ℕ) (s : Simplex) → m ≤ k → IsReached X m n s → IsReached X k n s
reach_wider X m k n s l h = (h.0, h.1, omega (arith, l, h.2))

module _ (X : Space) (kept : IsAllowedBuilt X) where
  -- a plain simplex has its simplex of the code
  has-reached : (m n : ℕ) (x : Plain X) → n ≤ 32 → (set_of X).In n x → reach X x ≤ m → HasSimplex (IsReached X m) (λ s. form s X) (quote X) n x
  has-reached m n x l is r =
      let all = built_forms X kept.0 kept.1 n l in
      let e : reach X (form (quote X n x) X) ≡ reach X x = ap (reach X) (all.formed x is) in
      ((all.onto x is, l, omega (arith, e, r)), all.formed x is)

  in-reached : (m n : ℕ) (x : Plain X) → HasSimplex (IsReached X m) (λ s. form s X) (quote X) n x → (set_of X).In n x × (reach X x ≤ m)
  in-reached m n x h = (
    subst ((set_of X).In n) h.1 ((built_forms X kept.0 kept.1 n h.0.1).simplex (quote X n x) h.0.0),
    subst (λ y. reach X y ≤ m) h.1 h.0.2,
  )

-- ---- two spaces

module _ (p : ℕ) (pos : 0 < p) (a b : Space) (ka : IsAllowedBuilt a) (kb : IsAllowedBuilt b) where
  pub parts-within : (m : ℕ) → AreParts p (linear (ordered a)) (set_of a).In (ordered b) (IsReached a m) (λ s. form s a) (quote a) (IsReached b m) (λ s. form s b) (quote b)
  parts-within m = record {
    lefts = space_forms a ka m;
    rights = space_forms b kb m;
    left_read = space_read a ka m;
    right_read = space_read b kb m;
    graded = reached_graded a ka m;
    right_graded = reached_graded b kb m;
    left = space_left a ka p pos;
    right = space_right b kb;
    left_order = λ n s t h k. (built_forms a ka.0 ka.1 n h.1).in_order s t h.0 k.0;
    right_order = λ n s t h k. (built_forms b kb.0 kb.1 n h.1).in_order s t h.0 k.0;
  }

  abbrev pub Key : ℕ → ℕ → Pair (Plain a) (Plain b) → Type 0
  Key m n s =
      PairKey p pos (linear (ordered a)) (set_of a).In (ordered b) (IsReached a) (λ s. form s a) (quote a) (IsReached b) (λ s. form s b) (quote b) parts-within
      (reach_wider a) (reach_wider b) m n s

-- ---- values of a cocycle

all-entries : (P : ℤ → Type 0) → P (pos 0) → (values : List ℤ) → All P values → (r : ℕ) → P (entry (pos 0) values r)
all-entries P z [] h r = z
all-entries P z (x ∷ xs) h zero = h 0 (pos 0) (omega arith)
all-entries P z (x ∷ xs) h (suc r) = all-entries P z xs (λ k d l. h (suc k) d (omega (arith, l))) r

module _ (p : ℕ) (pos' : 0 < p) (t : Table) (values : List ℤ) (kt : IsAllowedBuilt (table t)) (kz : IsAllowedBuilt kz1) (are : AreValues t values) where
  twisting-total : (n : ℕ) (x : RowSimplex) → n < 32 → InTable t (suc n) x → total (cocycle_twisting integers t values x) ≤ most_twisted
  twisting-total n x l is =
      let d : row_degree t x ≡ suc n = is.degree in
      total-twisting t values (all-entries (λ a. nat_abs a ≤ 100000) (omega arith) values are.small) x (omega (arith, d, l))

  twisting-length : (n : ℕ) (x : RowSimplex) → InTable t (suc n) x → length (cocycle_twisting integers t values x) ≡ n
  twisting-length n x is =
      length-differences t values (row_degree t x) 1 (row_degree t x - 1) x ∙ ap (λ k. k - 1) is.degree ∙ (let q : suc n - 1 ≡ n = omega arith in q)

  -- the terms of the twist of a pair of degree n + 1
  bundle-has : (m n : ℕ) (x : RowSimplex) (y : List ℤ) → n < 32 → Key p pos' (table t) kz1 kt kz m (suc n) (suc n, x, y)
      → Each (Key p pos' (table t) kz1 kt kz (m + most_twisted) n) (bundle_twist p t values (suc n, x, y))
  bundle-has m n x y l h =
      let u = in-reached (table t) kt m (suc n) x h.0.1 in
      let v = in-reached kz1 kz m (suc n) y h.0.2 in
      let less : n ≤ 32 = omega (arith, l) in
      let x0 : RowSimplex = (set_of (table t)).face 0 x in
      let y0 : List ℤ = nerve_face integers 0 y in
      let tau : List ℤ = cocycle_twisting integers t values x in
      let turned : List ℤ = nerve_times integers tau y0 in
      let base = has-reached (table t) kt (m + most_twisted) n x0 less ((space_set_laws (table t) kt.0.0).face_in n 0 x u.0 (omega arith)) (omega arith) in
      let rest : (set_of kz1).In n y0 = (space_set_laws kz1 tt).face_in n 0 y v.0 (omega arith) in
      let plain = has-reached kz1 kz (m + most_twisted) n y0 less rest (omega (arith, total-face 0 y, v.1)) in
      let moved = has-reached kz1 kz (m + most_twisted) n turned less (length-times tau y0 n (twisting-length n x u.0) rest.0, λ k d i. tt)
      (omega (arith, total-times tau y0, total-face 0 y, v.1, twisting-total n x l u.0)) in
      Each-keep (λ s. (s.0 ≡ n) × HasSimplex (IsReached (table t) (m + most_twisted)) (λ s. form s (table t)) (quote (table t)) n s.1
      × HasSimplex (IsReached kz1 (m + most_twisted)) (λ s. form s kz1) (quote kz1) n s.2)
      (is_pair_cell p (linear (ordered (table t))) (ordered kz1))
      (((n, x0, turned), 1) ∷ (((n, x0, y0), p - 1) ∷ [])) ((refl, base, moved), ((refl, base, plain), tt))

-- ---- the twist of a product or a bundle

-- a fact of the twist of each pair of spaces, by that of no twist and of the twist of a bundle
pub by-twist : (Fact : Option (List ℤ) → Space → Space → Type 0) → ((a b : Space) → Fact None a b)
    → ((values : List ℤ) (t : Table) → AreValues t values → Fact (Some values) (table t) kz1)
    → (values : Option (List ℤ)) (a b : Space) → AreTwistValues values a b → Fact values a b
by-twist Fact none some None a b are = none a b
by-twist Fact none some (Some values) (table t) kz1 are = some values t are
by-twist Fact none some (Some values) (table t) (table u) are = absurd are
by-twist Fact none some (Some values) (table t) (sphere k) are = absurd are
by-twist Fact none some (Some values) (table t) (product c d) are = absurd are
by-twist Fact none some (Some values) (table t) (suspension c) are = absurd are
by-twist Fact none some (Some values) (table t) (bundle u v) are = absurd are
by-twist Fact none some (Some values) (table t) (loops c) are = absurd are
by-twist Fact none some (Some values) (table t) (paths c) are = absurd are
by-twist Fact none some (Some values) (table t) (kzm1 k) are = absurd are
by-twist Fact none some (Some values) (table t) (cyclic_bundle u k v) are = absurd are
by-twist Fact none some (Some values) (sphere k) b are = absurd are
by-twist Fact none some (Some values) (product c d) b are = absurd are
by-twist Fact none some (Some values) (suspension c) b are = absurd are
by-twist Fact none some (Some values) kz1 b are = absurd are
by-twist Fact none some (Some values) (bundle u v) b are = absurd are
by-twist Fact none some (Some values) (loops c) b are = absurd are
by-twist Fact none some (Some values) (paths c) b are = absurd are
by-twist Fact none some (Some values) (kzm1 k) b are = absurd are
by-twist Fact none some (Some values) (cyclic_bundle u k v) b are = absurd are

module _ (p : ℕ) (pos' : 0 < p) where
  -- the terms of the twist
  pub twist-has : (values : Option (List ℤ)) (a b : Space) → AreTwistValues values a b → (ka : IsAllowedBuilt a) (kb : IsAllowedBuilt b) (m n : ℕ) → n < 32
      → (s : Pair (Plain a) (Plain b)) → Key p pos' a b ka kb m (suc n) s → Each (Key p pos' a b ka kb (m + growth values) n) (twist_by values p a b s)
  twist-has =
      by-twist (λ values a b. (ka : IsAllowedBuilt a) (kb : IsAllowedBuilt b) (m n : ℕ) → n < 32
      → (s : Pair (Plain a) (Plain b)) → Key p pos' a b ka kb m (suc n) s → Each (Key p pos' a b ka kb (m + growth values) n) (twist_by values p a b s))
      (λ a b ka kb m n l s h. tt) of-bundle
    where
      of-bundle : (values : List ℤ) (t : Table) → AreValues t values → (ka : IsAllowedBuilt (table t)) (kb : IsAllowedBuilt kz1) (m n : ℕ) → n < 32
          → (s : Pair RowSimplex (List ℤ)) → Key p pos' (table t) kz1 ka kb m (suc n) s → Each (Key p pos' (table t) kz1 ka kb (m + most_twisted) n) (bundle_twist p t values s)
      of-bundle values t are ka kb m n l (zero, x, y) h = absurd (let e : 0 ≡ suc n = h.0.0 in omega (arith, e))
      of-bundle values t are ka kb m n l (suc k, x, y) h =
          let e : k ≡ n = let q : suc k ≡ suc n = h.0.0 in omega (arith, q) in
          subst (λ i. Each (Key p pos' (table t) kz1 ka kb (m + most_twisted) i) (bundle_twist p t values (suc k, x, y))) e
          (bundle-has p pos' t values ka kb are m k x y (subst (λ i. i < 32) (sym e) l) (subst (λ i. Key p pos' (table t) kz1 ka kb m (suc i) (suc k, x, y)) (sym e) h))

  -- in degree 0 there are none
  pub twist-ends : (values : Option (List ℤ)) (a b : Space) → AreTwistValues values a b → (s : Pair (Plain a) (Plain b)) → s.0 ≡ 0 → twist_by values p a b s ≡ []
  twist-ends = by-twist (λ values a b. (s : Pair (Plain a) (Plain b)) → s.0 ≡ 0 → twist_by values p a b s ≡ []) (λ a b s e. refl) of-bundle
    where
      of-bundle : (values : List ℤ) (t : Table) → AreValues t values → (s : Pair RowSimplex (List ℤ)) → s.0 ≡ 0 → bundle_twist p t values s ≡ []
      of-bundle values t are (zero, x, y) e = refl
      of-bundle values t are (suc k, x, y) e = absurd (let q : suc k ≡ 0 = e in omega (arith, q))
