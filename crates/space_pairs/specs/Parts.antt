-- The simplices of the code of a space as a left or a right part of the Eilenberg-Zilber maps, with degrees up to 32 and a reach up to a
-- bound (May, Simplicial Objects in Algebraic Topology, chapter I, on the normal form). Their faces and degeneracies are such simplices.
--
--   in the circle the mask 1 before its vertex is a simplex of degree 1, which stands for s_0 of the vertex and has the reach 0
use Rattle.std.proofs.Common.{◌≡◌, ℕ, zero, suc, ◌+◌, ◌-◌, ◌*◌, ◌%◌, ◌^◌, ◌<◌, ◌≤◌, ◌==◌, nat_lt, Bool, true, false, cond, ◌⊎◌, inl, inr, sym, ◌∙◌, ap, subst, arith}
use Rattle.std.specs.Prelude.{count_ones, length}
use Rattle.std.proofs.Math.Nat.{mod-eq_of_lt}
use Rattle.std.proofs.lemmas.Bool.{cases_lt}
use Rattle.std.proofs.lemmas.Nat.{pow-add}
use Rattle.std.proofs.lemmas.Nat.Bits.{bit_at_cat_low, bit_at_cat_high, bit_at_above}
use Rattle.simp_ops.specs.Bits.{bit, inserted, mask_word}
use Rattle.simp_ops.proofs.Masks.{word-put}
use Rattle.simp_ops.proofs.Squeezed.{and_left}
use Rattle.spaces.specs.Allowed.{IsAllowed}
use Rattle.spaces.specs.Simplicial.{Simplicial, IsSimplicial, has_degeneracy}
use Rattle.spaces.specs.Spaces.{Space, Plain, set_of}
use Rattle.spaces.specs.Orders.{ordered, mask}
use Rattle.spaces.specs.EilenbergZilber.{linear}
use Rattle.spaces.proofs.SpaceLaws.{space_set_laws}
use Rattle.cells.specs.declared.cells.Simplex.{Simplex}
use Rattle.cells.specs.Dim.{dim_of, degree_of, capped}
use Rattle.term_lang.specs.Forms.{form}
use Rattle.term_lang.specs.Belongs.{is_cell, IsSimplex}
use Rattle.term_lang.specs.Quote.{quote}
use Rattle.term_lang.specs.NormalForms.{HasNormalForms}
use Rattle.term_lang.proofs.CodeForms.{lt_is}
use Rattle.normal_forms.specs.Built.{IsBuilt}
use Rattle.normal_forms.proofs.BuiltForms.{built_forms}
use Rattle.space_faces.specs.Built.{IsAllowedBuilt}
use Rattle.space_faces.proofs.Degeneracies.{made, room}
use Rattle.ez_laws.specs.Sides.{IsLeft, IsRight}
use Rattle.ez_laws.proofs.Sided.{space-left}
use Rattle.ez_laws.proofs.Orderings.{ordered-right}
use Rattle.ez_flow.specs.Parts.{IsForm, AreRead}
use Rattle.space_pairs.specs.Reach.{reach}
use Rattle.space_pairs.specs.ReachLaws.{reach_degeneracy, reach_face}

-- a simplex of degree n of the space, with n at most 32 and a reach of at most m
abbrev pub IsReached : Space → ℕ → ℕ → Simplex → Type 0
IsReached X m n s = IsSimplex X n s × (n ≤ 32) × (reach X (form s X) ≤ m)

-- ---- the mask of a plain simplex has its degeneracies as bits

pow-next : (n : ℕ) → 2 ^ suc n ≡ 2 ^ n * 2
pow-next n = let e : suc n ≡ n + 1 = omega arith in ap (λ k. 2 ^ k) e ∙ pow-add 2 n 1

pow_mono : (n k : ℕ) → n ≤ k → 2 ^ n ≤ 2 ^ k
pow_mono n zero l = let e : n ≡ 0 = omega (arith, l) in subst (λ m. 2 ^ m ≤ 2 ^ 0) (sym e) (omega arith)
pow_mono n (suc k) l = by (cases_lt k n) (λ m. pow_mono n k m)
  where
    by : (k < n) ⊎ (n ≤ k) → (n ≤ k → 2 ^ n ≤ 2 ^ k) → 2 ^ n ≤ 2 ^ suc k
    by (inl m) f = let e : n ≡ suc k = omega (arith, l, m) in subst (λ j. 2 ^ n ≤ 2 ^ j) e (omega arith)
    by (inr m) f = omega (arith, f m, pow-next k)

module _ {K : Type 0} (A : Simplicial K) (y : K) where
  mask-lt : (n : ℕ) → mask A n y < 2 ^ n
  mask-lt zero = omega arith
  mask-lt (suc n) = by (has_degeneracy A n y) (mask-lt n)
    where
      by : (b : Bool) → mask A n y < 2 ^ n → mask A n y + cond b (2 ^ n) 0 < 2 ^ suc n
      by true h = omega (arith, h, pow-next n)
      by false h = omega (arith, h, pow-next n)

  top-bit : (n : ℕ) (b : Bool) → bit (mask A n y + cond b (2 ^ n) 0) n ≡ b
  top-bit n true =
      let e : mask A n y + 2 ^ n ≡ 1 * 2 ^ n + mask A n y = omega arith in
      let z : n - n ≡ 0 = omega arith in
      ap (λ m. bit m n) e ∙ ap (λ k. k == 1) (bit_at_cat_high 1 n (mask A n y) n (mask-lt n) (omega arith)) ∙ ap (bit 1) z
  top-bit n false =
      let e : mask A n y + 0 ≡ mask A n y = omega arith in
      ap (λ m. bit m n) e ∙ ap (λ k. k == 1) (bit_at_above (mask A n y) n n (mask-lt n) (omega arith))

  low-bit : (n j : ℕ) (b : Bool) → j < n → bit (mask A n y + cond b (2 ^ n) 0) j ≡ bit (mask A n y) j
  low-bit n j true l =
      let e : mask A n y + 2 ^ n ≡ 1 * 2 ^ n + mask A n y = omega arith in
      ap (λ m. bit m j) e ∙ ap (λ k. k == 1) (bit_at_cat_low 1 n (mask A n y) j l)
  low-bit n j false l = let e : mask A n y + 0 ≡ mask A n y = omega arith in ap (λ m. bit m j) e

  mask-bit : (n j : ℕ) → j < n → bit (mask A n y) j ≡ has_degeneracy A j y
  mask-bit zero j l = absurd (omega (arith, l))
  mask-bit (suc n) j l = by (cases_lt j n) (λ m. mask-bit n j m)
    where
      by : (j < n) ⊎ (n ≤ j) → (j < n → bit (mask A n y) j ≡ has_degeneracy A j y) → bit (mask A (suc n) y) j ≡ has_degeneracy A j y
      by (inl m) f = low-bit n j (has_degeneracy A n y) m ∙ f m
      by (inr m) f =
          let e : j ≡ n = omega (arith, l, m) in
          ap (bit (mask A (suc n) y)) e ∙ top-bit n (has_degeneracy A n y) ∙ ap (λ k. has_degeneracy A k y) (sym e)

-- ---- a space that is built

pub space_left : (X : Space) → IsAllowedBuilt X → (p : ℕ) → 0 < p → IsLeft p (linear (ordered X)) (set_of X).In
space_left X kept p pos = space-left p pos X kept.0.0

pub space_right : (X : Space) → IsAllowedBuilt X → IsRight (ordered X)
space_right X kept = ordered-right X kept.0.0

module _ (X : Space) (kept : IsAllowedBuilt X) (m : ℕ) where
  abbrev allowed : IsAllowed X
  allowed = kept.0

  abbrev is_built : IsBuilt X
  is_built = kept.1

  abbrev forms : (n : ℕ) → n ≤ 32 → HasNormalForms X n
  forms n l = built_forms X allowed is_built n l

  laws : IsSimplicial (set_of X)
  laws = space_set_laws X allowed.0

  reached_mask : (n : ℕ) (s : Simplex) → IsReached X m n s → s.degens.mask < 2 ^ n
  reached_mask n s h = lt_is s.degens.mask (2 ^ n) (and_left (nat_lt s.degens.mask (2 ^ n)) (is_cell s.cell X (n - length (mask_word s.degens.mask))) h.0)

  -- the bits are the degeneracies
  reached_places : (n j : ℕ) (s : Simplex) → IsReached X m n s → j < n → has_degeneracy (set_of X) j (form s X) ≡ bit s.degens.mask j
  reached_places n j s h l =
      let y : Plain X = form s X in
      let k : ℕ = mask (set_of X) n y in
      let low : k < 2 ^ 32 = below_pow k n 32 (mask-lt (set_of X) y n) h.1 in
      let e : k % 2 ^ 32 ≡ s.degens.mask = ap (λ (t : Simplex). t.degens.mask) ((forms n h.1).quoted s h.0) in
      sym (mask-bit (set_of X) y n j l) ∙ ap (λ k. bit k j) (sym (mod-eq_of_lt low) ∙ e)
    where
      below_pow : (b n k : ℕ) → b < 2 ^ n → n ≤ k → b < 2 ^ k
      below_pow b n k h l = let q = pow_mono n k l in omega (arith, h, q)

  reached_raised : (n j : ℕ) (s t : Simplex) → IsReached X m n s → j ≤ n → suc n ≤ 32 → t.cell ≡ s.cell → ((k : ℕ) → bit t.degens.mask k ≡ inserted j (bit s.degens.mask) k)
      → IsReached X m (suc n) t × (form t X ≡ (set_of X).degeneracy j (form s X))
  reached_raised n j s t h l b e bits =
      let w = word-put s.degens.mask t.degens.mask j (omega (arith, l, b)) (room X n s h.0 (omega (arith, b))) bits in
      let r = made X allowed is_built n j s t h.0 (omega (arith, b)) l e w in
      let e : reach X (form t X) ≡ reach X (form s X) = ap (reach X) r.plain_is ∙ reach_degeneracy X j (form s X) in
      ((subst (λ k. IsSimplex X k t) (let q : n + 1 ≡ suc n = omega arith in q) r.simplex, b, omega (arith, e, h.2)), r.plain_is)

  pub space_forms : IsForm 32 (set_of X).In (set_of X).degeneracy (has_degeneracy (set_of X)) (IsReached X m) (λ s. form s X)
  space_forms = record {
    is_in = λ n s h. (forms n h.1).simplex s h.0;
    mask = reached_mask;
    places = reached_places;
    raised = reached_raised;
    one_form = λ n s t h i e. (forms n h.1).once s t h.0 i.0 e;
  }

  pub space_read : AreRead 32 (linear (ordered X)).faces (IsReached X m) (λ s. form s X) (quote X)
  space_read = record {
    own = λ n s h. (forms n h.1).quoted s h.0;
    closed = λ n i s h l j.
        let y : Plain X = (set_of X).face i (form s X) in
        let is : (set_of X).In n y = laws.face_in n i (form s X) ((forms (suc n) l).simplex s h.0) j in
        let low : n ≤ 32 = omega (arith, l) in
        let e : reach X (form (quote X n y) X) ≡ reach X y = ap (reach X) ((forms n low).formed y is) in
        let lower : reach X y ≤ reach X (form s X) = reach_face X allowed.0 n i (form s X) (omega (arith, l)) ((forms (suc n) l).simplex s h.0) j in
        ((((forms n low).onto y is, low, omega (arith, e, lower, h.2)), (forms n low).formed y is), tt);
  }

  pub reached_degree : (n : ℕ) (s : Simplex) → IsReached X m n s → degree_of s ≡ n
  reached_degree n s h = (forms n h.1).degree s h.0

  -- the degree of a simplex
  pub reached_graded : (n : ℕ) (s : Simplex) → IsReached X m n s → count_ones s.degens.mask + dim_of s.cell ≡ n
  reached_graded n s h = let e : capped (count_ones s.degens.mask + dim_of s.cell) ≡ n = (forms n h.1).degree s h.0 in omega (arith, e, h.1)
