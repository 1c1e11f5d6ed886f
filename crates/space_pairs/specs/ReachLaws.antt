-- No face raises the reach of a simplex, no degeneracy changes it, and it bounds the integers of the cell that the code has for the simplex
-- (May, Simplicial Objects in Algebraic Topology, chapters I, IV and VI).
--
--   the simplex with the mask 1 before the cell |2|-3| of K(Z,1) is |0|2|-3|, of reach 5, and the greatest integer of the cell is 3
use Rattle.std.proofs.Common.{◌≡◌, ℕ, zero, suc, ◌+◌, ◌-◌, ◌*◌, ◌<◌, ◌≤◌, Bool, true, false, cond, nat_lt, nat_le, ◌⊎◌, inl, inr, Some, None, refl, sym, ◌∙◌, ap, subst, arith, true≢false}
use Rattle.std.proofs.lemmas.Bool.{cases_lt}
use Rattle.simp_ops.proofs.PlacesOf.{is_lt, not_lt}
use Rattle.spaces.specs.Tables.{row_at}
use Rattle.spaces.specs.Spaces.{Space, table, sphere, product, suspension, kz1, bundle, loops, paths, kzm1, cyclic_bundle, Plain, is_base, set_of}
use Rattle.spaces.specs.Allowed.{Admits}
use Rattle.spaces.proofs.SpaceLaws.{space_set_laws}
use Rattle.spaces.proofs.Bases.{space_base}
use Rattle.values.specs.Sizes.{integer}
use Rattle.cells.specs.declared.cells.Simplex.{Simplex}
use Rattle.term_lang.specs.Belongs.{IsSimplex}
use Rattle.term_lang.specs.Forms.{form}
use Rattle.oracle_iface.specs.CodeSizes.{cell_integer}
use Rattle.oracle_iface.proofs.SizesAgree.{cell_size, integer_kept, cell_integer_agree}
use Rattle.normal_forms.specs.Built.{IsBuilt}
use Rattle.normal_forms.proofs.BuiltForms.{built_forms}
use Rattle.space_faces.specs.Built.{IsAllowedBuilt}
use Rattle.space_pairs.specs.Reach.{most_twisted, reach}
use Rattle.space_pairs.specs.TwistReach.{total-face, total-degeneracy, greatest-total, bundle_face}

-- ---- degeneracies and faces

reach-up : (a : Space) (b : Bool) (k : ℕ) (y : Plain a) → reach (suspension a) (cond b None (Some (k, y))) ≤ reach a y
reach-up a true k y = omega arith
reach-up a false k y = omega arith

reach-low : (a : Space) (b : Bool) (k : ℕ) (x : Plain a) → reach (suspension a) (cond b (Some (k, x)) None) ≤ reach a x
reach-low a true k x = omega arith
reach-low a false k x = omega arith

pub reach_degeneracy : (X : Space) (i : ℕ) (x : Plain X) → reach X ((set_of X).degeneracy i x) ≡ reach X x
reach_degeneracy (table t) i x = refl
reach_degeneracy (sphere m) i x = refl
reach_degeneracy (product a b) i x = λ j. reach_degeneracy a i x.0 j + reach_degeneracy b i x.1 j
reach_degeneracy (suspension a) i None = refl
reach_degeneracy (suspension a) i (Some s) = by (nat_le i s.0) (reach_degeneracy a (i - s.0 - 1) s.1)
  where
    by : (b : Bool) → reach a ((set_of a).degeneracy (i - s.0 - 1) s.1) ≡ reach a s.1
        → reach (suspension a) (cond b (Some (suc s.0, s.1)) (Some (s.0, (set_of a).degeneracy (i - s.0 - 1) s.1))) ≡ reach a s.1
    by true e = refl
    by false e = e
reach_degeneracy kz1 i x = total-degeneracy i x
reach_degeneracy (bundle t c) i x = ap (λ k. k + most_twisted * (row_at t x.0.1).dim) (total-degeneracy i x.1)
reach_degeneracy (loops a) i x = refl
reach_degeneracy (paths a) i x = refl
reach_degeneracy (kzm1 m) i x = refl
reach_degeneracy (cyclic_bundle t m c) i x = refl

pub reach_face : (X : Space) → Admits X → (n i : ℕ) (x : Plain X) → n < 32 → (set_of X).In (suc n) x → i ≤ suc n → reach X ((set_of X).face i x) ≤ reach X x
reach_face (table t) is n i x most j h = omega arith
reach_face (sphere m) is n i x most j h = omega arith
reach_face (product a b) is n i x most j h = omega (arith, reach_face a is.0 n i x.0 most j.0 h, reach_face b is.1 n i x.1 most j.1 h)
reach_face (suspension a) is n i None most j h = omega arith
reach_face (suspension a) is n i (Some s) most j h = by (reach_face a is.0) (cases_lt s.0 i)
  where
    y : Plain a
    y = (set_of a).face (i - s.0 - 1) s.1

    FacesOf : Type 0
    FacesOf = (n i : ℕ) (x : Plain a) → n < 32 → (set_of a).In (suc n) x → i ≤ suc n → reach a ((set_of a).face i x) ≤ reach a x

    inner : FacesOf → (d : ℕ) → d ≡ suc n - 1 - s.0 → (set_of a).In d s.1 → s.0 < i → reach a y ≤ reach a s.1
    inner faces zero e k l = absurd (true≢false (sym ((space_base a is.0).vertex s.1 k) ∙ j.2))
    inner faces (suc d) e k l = faces d (i - s.0 - 1) s.1 (omega (arith, e, most)) k (omega (arith, e, h, l))

    by : FacesOf → (s.0 < i) ⊎ (i ≤ s.0) → reach (suspension a) ((set_of (suspension a)).face i (Some s)) ≤ reach a s.1
    by faces (inl l) =
        let up : reach (suspension a) (cond (is_base a y) None (Some (s.0, y))) ≤ reach a s.1 =
        omega (arith, reach-up a (is_base a y) s.0 y, inner faces (suc n - 1 - s.0) refl j.1 l) in
        subst (λ b. reach (suspension a) (cond b (cond (is_base a y) None (Some (s.0, y))) (cond (nat_lt 0 s.0) (Some (s.0 - 1, s.1)) None)) ≤ reach a s.1) (sym (is_lt s.0 i l)) up
    by faces (inr l) =
        subst (λ b. reach (suspension a) (cond b (cond (is_base a y) None (Some (s.0, y))) (cond (nat_lt 0 s.0) (Some (s.0 - 1, s.1)) None)) ≤ reach a s.1) (sym (not_lt s.0 i l))
        (reach-low a (nat_lt 0 s.0) (s.0 - 1) s.1)
reach_face kz1 is n i x most j h = total-face i x
reach_face (bundle t c) is n i x most j h = bundle_face t c is n i x most j h
reach_face (loops a) is n i x most j h = omega arith
reach_face (paths a) is n i x most j h = omega arith
reach_face (kzm1 m) is n i x most j h = omega arith
reach_face (cyclic_bundle t m c) is n i x most j h = omega arith

-- ---- integers

pub integer_reach : (X : Space) → IsBuilt X → (x : Plain X) → integer X x ≤ reach X x
integer_reach (table t) built x = omega arith
integer_reach (sphere m) built x = omega arith
integer_reach (product a b) built x = omega (arith, integer_reach a built.0 x.0, integer_reach b built.1 x.1)
integer_reach (suspension a) built None = omega arith
integer_reach (suspension a) built (Some s) = integer_reach a built s.1
integer_reach kz1 built x = greatest-total x
integer_reach (bundle t c) built x = omega (arith, greatest-total x.1)
integer_reach (loops a) built x = absurd built
integer_reach (paths a) built x = absurd built
integer_reach (kzm1 m) built x = absurd built
integer_reach (cyclic_bundle t m c) built x = absurd built

-- the integers of the cell of a simplex of the code
pub code_reach : (X : Space) → IsAllowedBuilt X → (n : ℕ) → n ≤ 32 → (s : Simplex) → IsSimplex X n s → cell_integer s.cell ≤ reach X (form s X)
code_reach X kept n l s h =
    let y : Plain X = form s X in
    let e : cell_integer s.cell ≡ integer X y =
    ap (λ (t : Simplex). cell_integer t.cell) (sym ((built_forms X kept.0 kept.1 n l).quoted s h)) ∙ cell_integer_agree X kept.0.0 _ _
    ∙ cell_size (set_of X) (space_set_laws X kept.0.0) (integer X) (integer_kept X) n y in
    omega (arith, e, integer_reach X kept.1 y)
