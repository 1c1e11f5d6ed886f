-- A suspension is a simplicial set: each of its simplices is the base or an `up k y`.
use Rattle.std.proofs.Common.{◌≡◌, ℕ, suc, ◌+◌, ◌-◌, ◌<◌, ◌≤◌, Bool, true, ◌&&◌, ◌==◌, Option, Some, None, refl, sym, ap, subst, arith, true≢false}
use Rattle.std.specs.Cmp.{IsEquivalence, on_equiv, and_equiv}
use Rattle.std.proofs.lemmas.Bool.{cases_lt, and_parts}
use Rattle.std.proofs.lemmas.Bool.Decides.{Decides-eqb}
use Rattle.std.proofs.lemmas.Cmp.{nat_eq_equiv}
use Rattle.spaces.specs.Simplicial.{Simplicial, IsSimplicial}
use Rattle.spaces.specs.Suspensions.{suspension_set}
use Rattle.spaces.proofs.BaseTests.{IsBaseTest}
use Rattle.spaces.proofs.Lifted.{lifted, lifted-other, place, face_in, degeneracy_in, face-face, face-here, face-next, face-below, face-above, degeneracy-degeneracy}

module _ {K : Type 0} (A : Simplicial K) (is_base : K → Bool) (laws : IsSimplicial A) (test : IsBaseTest A is_base) where
  abbrev X : Simplicial (Option (ℕ × K))
  X = suspension_set A is_base

  degree : (n : ℕ) (s : ℕ × K) → X.In n (Some s) → n ≡ suc (s.0 + (n - 1 - s.0))
  degree n s is = let b : s.0 < n = is.0 in omega (arith, b)

  -- what holds at `up k y` holds at Some (k, y)
  at_some : (n : ℕ) (s : ℕ × K) (P : Option (ℕ × K) → Type 0) → X.In n (Some s) → P (lifted A is_base laws test s.0 s.1) → P (Some s)
  at_some n s P is = subst P (lifted-other A is_base laws test s.0 s.1 is.2)

  same_is : (x y : Option (ℕ × K)) → X.same x y ≡ true → x ≡ y
  same_is None None h = refl
  same_is None (Some t) h = absurd (true≢false (sym h))
  same_is (Some s) None h = absurd (true≢false (sym h))
  same_is (Some s) (Some t) h =
      let g = and_parts (s.0 == t.0) (A.same s.1 t.1) h in λ i. Some ((Decides-eqb s.0 t.0).0 g.0 i, laws.same_is s.1 t.1 g.1 i)

  same_pair : IsEquivalence (λ (s t : ℕ × K). (s.0 == t.0) && A.same s.1 t.1)
  same_pair = and_equiv (on_equiv (λ s. s.0) nat_eq_equiv) (on_equiv (λ s. s.1) laws.same_equivalence)

  same_refl : (x : Option (ℕ × K)) → X.same x x ≡ true
  same_refl None = refl
  same_refl (Some s) = same_pair.refl s

  same_symm : (x y : Option (ℕ × K)) → X.same x y ≡ X.same y x
  same_symm None None = refl
  same_symm None (Some t) = refl
  same_symm (Some s) None = refl
  same_symm (Some s) (Some t) = same_pair.symm s t

  pub suspension_set_laws : IsSimplicial (suspension_set A is_base)
  suspension_set_laws = record {
    face_in = the_face_in;
    degeneracy_in = the_degeneracy_in;
    face_face = the_face_face;
    face_here = the_face_here;
    face_next = the_face_next;
    face_below = the_face_below;
    face_above = the_face_above;
    degeneracy_degeneracy = the_degeneracy_degeneracy;
    same_is = same_is;
    same_equivalence = record { refl = same_refl; symm = same_symm; congr = λ x y z h. ap (λ u. X.same u z) (same_is x y h) };
  }
    where
      the_face_in : (n i : ℕ) (x : Option (ℕ × K)) → X.In (suc n) x → i ≤ suc n → X.In n (X.face i x)
      the_face_in n i None is h = tt
      the_face_in n i (Some s) is h =
          at_some (suc n) s (λ u. X.In n (X.face i u)) is (face_in A is_base laws test n i s.0 (suc n - 1 - s.0) s.1 is.1 (degree (suc n) s is) h (place A is_base laws test s.0 i))

      the_degeneracy_in : (n i : ℕ) (x : Option (ℕ × K)) → X.In n x → i ≤ n → X.In (suc n) (X.degeneracy i x)
      the_degeneracy_in n i None is h = tt
      the_degeneracy_in n i (Some s) is h =
          at_some n s (λ u. X.In (suc n) (X.degeneracy i u)) is (degeneracy_in A is_base laws test n i s.0 (n - 1 - s.0) s.1 is.1 (degree n s is) h (place A is_base laws test s.0 i))

      the_face_face : (n i j : ℕ) (x : Option (ℕ × K)) → X.In (suc (suc n)) x → j ≤ i → i ≤ suc n → X.face j (X.face (suc i) x) ≡ X.face i (X.face j x)
      the_face_face n i j None is h l = refl
      the_face_face n i j (Some s) is h l =
          at_some (suc (suc n)) s (λ u. X.face j (X.face (suc i) u) ≡ X.face i (X.face j u)) is
          (face-face A is_base laws test n i j s.0 (suc (suc n) - 1 - s.0) s.1 is.1 (degree (suc (suc n)) s is) h l (place A is_base laws test s.0 j) (cases_lt i s.0))

      the_face_here : (n j : ℕ) (x : Option (ℕ × K)) → X.In n x → j ≤ n → X.face j (X.degeneracy j x) ≡ x
      the_face_here n j None is h = refl
      the_face_here n j (Some s) is h =
          at_some n s (λ u. X.face j (X.degeneracy j u) ≡ u) is (face-here A is_base laws test n j s.0 (n - 1 - s.0) s.1 is.1 (degree n s is) h (place A is_base laws test s.0 j))

      the_face_next : (n j : ℕ) (x : Option (ℕ × K)) → X.In n x → j ≤ n → X.face (suc j) (X.degeneracy j x) ≡ x
      the_face_next n j None is h = refl
      the_face_next n j (Some s) is h =
          at_some n s (λ u. X.face (suc j) (X.degeneracy j u) ≡ u) is (face-next A is_base laws test n j s.0 (n - 1 - s.0) s.1 is.1 (degree n s is) h (place A is_base laws test s.0 j))

      the_face_below : (n i j : ℕ) (x : Option (ℕ × K)) → X.In n x → i ≤ j → j < n → X.face i (X.degeneracy (suc j) x) ≡ X.degeneracy j (X.face i x)
      the_face_below n i j None is h l = refl
      the_face_below n i j (Some s) is h l =
          at_some n s (λ u. X.face i (X.degeneracy (suc j) u) ≡ X.degeneracy j (X.face i u)) is
          (face-below A is_base laws test n i j s.0 (n - 1 - s.0) s.1 is.1 (degree n s is) h l (place A is_base laws test s.0 i) (cases_lt j s.0))

      the_face_above : (n i j : ℕ) (x : Option (ℕ × K)) → X.In n x → j < i → i ≤ n → X.face (suc i) (X.degeneracy j x) ≡ X.degeneracy j (X.face i x)
      the_face_above n i j None is h l = refl
      the_face_above n i j (Some s) is h l =
          at_some n s (λ u. X.face (suc i) (X.degeneracy j u) ≡ X.degeneracy j (X.face i u)) is
          (face-above A is_base laws test n i j s.0 (n - 1 - s.0) s.1 is.1 (degree n s is) h l (place A is_base laws test s.0 j) (place A is_base laws test s.0 i))

      the_degeneracy_degeneracy : (n i j : ℕ) (x : Option (ℕ × K)) → X.In n x → i ≤ j → j ≤ n
          → X.degeneracy i (X.degeneracy j x) ≡ X.degeneracy (suc j) (X.degeneracy i x)
      the_degeneracy_degeneracy n i j None is h l = refl
      the_degeneracy_degeneracy n i j (Some s) is h l =
          at_some n s (λ u. X.degeneracy i (X.degeneracy j u) ≡ X.degeneracy (suc j) (X.degeneracy i u)) is
          (degeneracy-degeneracy A is_base laws test n i j s.0 (n - 1 - s.0) s.1 is.1 (degree n s is) h l (place A is_base laws test s.0 i) (place A is_base laws test s.0 j))
