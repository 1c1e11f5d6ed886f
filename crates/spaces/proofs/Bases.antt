-- The test for the degeneracies of a vertex, on each space that is allowed.
use Rattle.std.proofs.Common.{◌≡◌, ℕ, zero, suc, ◌<◌, ◌≤◌, Bool, true, false, not, ◌&&◌, ◌==◌, cond, nat_le, nat_eq, List, [], ◌∷◌, Some, None, refl, sym, ◌∙◌, ap, arith, true≢false}
use Rattle.std.specs.Prelude.{pos}
use Rattle.std.proofs.lemmas.Bool.{and_from}
use Rattle.std.proofs.lemmas.Bool.Decides.{Decides-eqb, Decides-int_eq}
use Rattle.std.proofs.lemmas.Cmp.{nat_eq_equiv, nat_list_eq_equiv, int_eq_equiv, lists_equiv}
use Rattle.std.specs.Cmp.Lexicographic.{pointwise}
use Rattle.spaces.specs.Simplicial.{Simplicial}
use Rattle.spaces.specs.Tables.{RowSimplex, table_set, sphere_rows}
use Rattle.spaces.specs.Nerves.{integers, integers_modulo, nerve_set, nerve_times}
use Rattle.spaces.specs.LoopGroups.{Letter, loop_face, loop_degeneracy, word_times, letter_word, same_letter}
use Rattle.spaces.specs.Cocycles.{cocycle_twisting}
use Rattle.spaces.specs.Spaces.{Space, table, sphere, product, suspension, kz1, bundle, loops, paths, kzm1, cyclic_bundle, Plain, is_base, set_of}
use Rattle.spaces.specs.Allowed.{Admits}
use Rattle.spaces.proofs.BaseTests.{IsBaseTest}
use Rattle.spaces.proofs.TableBase.{on_vertex, table_base}
use Rattle.spaces.proofs.NerveBase.{nerve_base}
use Rattle.spaces.proofs.TwistedBase.{product_base, twisted_base}
use Rattle.spaces.proofs.CocycleBase.{cocycle_still}
use Rattle.spaces.proofs.LoopBase.{letter_word-unit, no_letter}
use Rattle.spaces.proofs.Integers.{integers_abelian, residues_abelian}

-- ---- a simplex is the same as itself

pointwise_refl : {G : Type 0} (same : G → G → Bool) → ((a : G) → same a a ≡ true) → (x : List G) → pointwise same x x ≡ true
pointwise_refl same h [] = refl
pointwise_refl same h (a ∷ x) = and_from (same a a) (pointwise same x x) (h a) (pointwise_refl same h x)

row_refl : (x : RowSimplex) → pointwise nat_eq x.0 x.0 && (x.1 == x.1) ≡ true
row_refl x = and_from (pointwise nat_eq x.0 x.0) (x.1 == x.1) (nat_list_eq_equiv.refl x.0) (nat_eq_equiv.refl x.1)

letter_refl : {K : Type 0} (A : Simplicial K) → ((x : K) → A.same x x ≡ true) → (l : Letter A) → same_letter A l l ≡ true
letter_refl A h l = and_from (cond l.0 l.0 (not l.0)) (A.same l.1 l.1) (by l.0) (h l.1)
  where
    by : (b : Bool) → cond b b (not b) ≡ true
    by true = refl
    by false = refl

same_refl : (a : Space) (x : Plain a) → (set_of a).same x x ≡ true
same_refl (table t) x = row_refl x
same_refl (sphere m) x = row_refl x
same_refl (product a b) x = and_from ((set_of a).same x.0 x.0) ((set_of b).same x.1 x.1) (same_refl a x.0) (same_refl b x.1)
same_refl (suspension a) None = refl
same_refl (suspension a) (Some s) = and_from (s.0 == s.0) ((set_of a).same s.1 s.1) (nat_eq_equiv.refl s.0) (same_refl a s.1)
same_refl kz1 x = (lists_equiv int_eq_equiv).refl x
same_refl (bundle t c) x = and_from _ _ (row_refl x.0) ((lists_equiv int_eq_equiv).refl x.1)
same_refl (loops a) x = pointwise_refl (same_letter (set_of a)) (letter_refl (set_of a) (same_refl a)) x
same_refl (paths a) x =
    and_from ((set_of a).same x.0 x.0) ((set_of (loops a)).same x.1 x.1) (same_refl a x.0)
    (pointwise_refl (same_letter (set_of a)) (letter_refl (set_of a) (same_refl a)) x.1)
same_refl (kzm1 m) x = nat_list_eq_equiv.refl x
same_refl (cyclic_bundle t m c) x = and_from _ _ (row_refl x.0) (nat_list_eq_equiv.refl x.1)

-- ---- the constructions

-- the fields of `IsBaseTest` at a space
abbrev VertexPasses : Space → Type 0
VertexPasses a = (x : Plain a) → (set_of a).In 0 x → is_base a x ≡ true

abbrev FacesPass : Space → Type 0
FacesPass a = (n i : ℕ) (x : Plain a) → (set_of a).In (suc n) x → i ≤ suc n → is_base a x ≡ true → is_base a ((set_of a).face i x) ≡ true

abbrev DegeneraciesPass : Space → Type 0
DegeneraciesPass a = (n i : ℕ) (x : Plain a) → (set_of a).In n x → i ≤ n → is_base a ((set_of a).degeneracy i x) ≡ is_base a x

abbrev IsFirst : Space → Type 0
IsFirst a = (n : ℕ) (x : Plain a) → (set_of a).In (suc n) x → is_base a x ≡ true → x ≡ (set_of a).degeneracy 0 ((set_of a).face 0 x)

suspension_base : (a : Space) → IsBaseTest (set_of (suspension a)) (is_base (suspension a))
suspension_base a = record { vertex = vertex; face_base = face_base; degeneracy_base = degeneracy_base; first = first }
  where
    vertex : VertexPasses (suspension a)
    vertex None is = refl
    vertex (Some s) is = let b : s.0 < 0 = is.0 in absurd (omega (arith, b))

    face_base : FacesPass (suspension a)
    face_base n i None is h b = refl
    face_base n i (Some s) is h b = absurd (true≢false (sym b))

    raised : (b : Bool) (s t : ℕ × Plain a) → is_base (suspension a) (cond b (Some s) (Some t)) ≡ false
    raised true s t = refl
    raised false s t = refl

    degeneracy_base : DegeneraciesPass (suspension a)
    degeneracy_base n i None is h = refl
    degeneracy_base n i (Some s) is h = raised (nat_le i s.0) _ _

    first : IsFirst (suspension a)
    first n None is b = refl
    first n (Some s) is b = absurd (true≢false (sym b))

loops_base : (a : Space) → Admits (loops a) → IsBaseTest (set_of (loops a)) (is_base (loops a))
loops_base a ad = record { vertex = vertex; face_base = face_base; degeneracy_base = degeneracy_base; first = first }
  where
    vertex : VertexPasses (loops a)
    vertex [] is = refl
    vertex (l ∷ w) is = absurd (no_letter (set_of a) ad.2 l w is.0.0 is.1)

    face_base : FacesPass (loops a)
    face_base n zero [] is h b = refl
    face_base n (suc i) [] is h b = refl
    face_base n i (l ∷ w) is h b = absurd (true≢false (sym b))

    degeneracy_base : DegeneraciesPass (loops a)
    degeneracy_base n i [] is h = refl
    degeneracy_base n i (l ∷ w) is h = refl

    first : IsFirst (loops a)
    first n [] is b = refl
    first n (l ∷ w) is b = absurd (true≢false (sym b))

paths_base : (a : Space) → Admits (paths a) → IsBaseTest (set_of a) (is_base a) → IsBaseTest (set_of (paths a)) (is_base (paths a))
paths_base a ad test = record { vertex = vertex; face_base = face_base; degeneracy_base = degeneracy_base; first = first }
  where
    -- the letter of a degeneracy of the vertex is the unit
    unit : (n : ℕ) (x : Plain a) → (set_of a).In (suc n) x → is_base a x ≡ true → letter_word (set_of a) x ≡ []
    unit n x is b = letter_word-unit (set_of a) x (ap (λ y. (set_of a).same x y) (sym (test.first n x is b)) ∙ same_refl a x)

    vertex : VertexPasses (paths a)
    vertex (x, []) is = test.vertex x is.0
    vertex (x, l ∷ w) is = absurd (no_letter (set_of a) ad.2 l w is.1.0.0 is.1.1)

    face_base : FacesPass (paths a)
    face_base n zero (x, []) is h b =
        ap (λ v. is_base (paths a) ((set_of a).face 0 x, word_times (set_of a) v (loop_face (set_of a) 0 []))) (unit n x is.0 b) ∙ test.face_base n 0 x is.0 h b
    face_base n (suc i) (x, []) is h b = test.face_base n (suc i) x is.0 h b
    face_base n i (x, l ∷ w) is h b = absurd (true≢false (sym b))

    degeneracy_base : DegeneraciesPass (paths a)
    degeneracy_base n i (x, []) is h = test.degeneracy_base n i x is.0 h
    degeneracy_base n i (x, l ∷ w) is h = refl

    first : IsFirst (paths a)
    first n (x, []) is b =
        ap (λ y. (y, [])) (test.first n x is.0 b)
        ∙ ap (λ v. ((set_of a).degeneracy 0 ((set_of a).face 0 x), loop_degeneracy (set_of a) 0 (word_times (set_of a) v (loop_face (set_of a) 0 []))))
        (sym (unit n x is.0 b))
    first n (x, l ∷ w) is b = absurd (true≢false (sym b))

integers_base : IsBaseTest (set_of kz1) (is_base kz1)
integers_base = nerve_base integers integers_abelian (integers.same integers.none) (λ a h. sym ((Decides-int_eq (pos 0) a).0 h)) refl

residues_base : (m : ℕ) → 0 < m → IsBaseTest (set_of (kzm1 m)) (is_base (kzm1 m))
residues_base m p = nerve_base (integers_modulo m) (residues_abelian m p) (λ k. k == 0) (λ a h. (Decides-eqb a 0).0 h) refl

-- ---- all

pub space_base : (a : Space) → Admits a → IsBaseTest (set_of a) (is_base a)
space_base (table t) ad = table_base t
space_base (sphere m) ad = table_base (sphere_rows m)
space_base (product a b) ad = product_base (set_of a) (set_of b) (is_base a) (is_base b) (space_base a ad.0) (space_base b ad.1)
space_base (suspension a) ad = suspension_base a
space_base kz1 ad = integers_base
space_base (bundle t c) ad =
    twisted_base (table_set t) (nerve_set integers) (on_vertex t) (is_base kz1) (table_base t) integers_base (cocycle_twisting integers t c) (nerve_times integers)
    (λ n x y ix iy h g. cocycle_still t ad.0 integers integers_abelian c ad.1 n x y ix iy h)
space_base (loops a) ad = loops_base a ad
space_base (paths a) ad = paths_base a ad (space_base a ad.0)
space_base (kzm1 m) ad = residues_base m (let h : 2 ≤ m = ad.0 in omega (arith, h))
space_base (cyclic_bundle t m c) ad =
    let p : 0 < m = (let h : 2 ≤ m = ad.2 in omega (arith, h)) in
    twisted_base (table_set t) (nerve_set (integers_modulo m)) (on_vertex t) (is_base (kzm1 m)) (table_base t) (residues_base m p)
    (cocycle_twisting (integers_modulo m) t c) (nerve_times (integers_modulo m))
    (λ n x y ix iy h g. cocycle_still t ad.0 (integers_modulo m) (residues_abelian m p) c ad.1 n x y ix iy h)
