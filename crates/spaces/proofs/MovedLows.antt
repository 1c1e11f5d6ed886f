-- The lowest positive degree with a simplex that is not degenerate, of a nerve, of a suspension and of a loop group.
use Rattle.std.proofs.Common.{◌≡◌, ℕ, zero, suc, ◌-◌, ◌<◌, ◌≤◌, Bool, true, false, ◌&&◌, ◌||◌, cond, nat_le, List, [], ◌∷◌, Option, Some, None, refl, sym, ◌∙◌, ap, subst, arith, true≢false}
use Rattle.std.specs.Option.{option_map}
use Rattle.std.proofs.lemmas.List.Elements.{All-nil, All-cons}
use Rattle.simp_ops.proofs.PlacesOf.{is_le}
use Rattle.spaces.specs.Simplicial.{Simplicial, IsSimplicial, has_degeneracy, is_degenerate}
use Rattle.spaces.specs.Nerves.{Abelian, nerve_set}
use Rattle.spaces.specs.Suspensions.{suspension_set, suspension_degeneracy}
use Rattle.spaces.specs.LoopGroups.{Letter, loop_set, loop_degeneracy}
use Rattle.spaces.specs.Allowed.{HasNoEdge}
use Rattle.spaces.specs.Counts.{IsLowest, IsLow}
use Rattle.spaces.proofs.BaseTests.{IsBaseTest}
use Rattle.spaces.proofs.Degenerate.{degenerate_is, degenerate_so}
use Rattle.spaces.proofs.Reduced.{before-none, irreducible_is}
use Rattle.spaces.proofs.Lows.{not_true, FlatTo, flat_below, flat_first, flat_base}

-- ---- nerves

pub nerve_lowest : {G : Type 0} (group : Abelian G) (a : G) → group.Is a → group.same a group.none ≡ false → IsLowest (nerve_set group) 1
nerve_lowest group a is g = record {
  positive = omega arith;
  simplex = a ∷ [];
  is_in = (refl, All-cons group.Is a [] is (All-nil group.Is));
  not_degenerate = ap (λ b. false || (b && true)) g;
  below = λ k x h l ix. absurd (omega arith);
}

-- ---- suspensions

module _ {K : Type 0} (A : Simplicial K) (is_base : K → Bool) (laws : IsSimplicial A) (test : IsBaseTest A is_base) (whole : IsSimplicial (suspension_set A is_base)) where
  abbrev S : Simplicial (Option (ℕ × K))
  S = suspension_set A is_base

  -- what is not degenerate in A is no degeneracy of the vertex
  no_base : (n : ℕ) (x : K) → A.In (suc n) x → is_degenerate A (suc n) x ≡ false → is_base x ≡ false
  no_base n x is g =
      not_true (is_base x) (λ h.
      true≢false (sym (degenerate_so A laws n 0 (A.face 0 x) (laws.face_in n 0 x is (omega arith)) (omega arith))
      ∙ ap (is_degenerate A (suc n)) (sym (test.first n x is h)) ∙ g))

  -- the number of times that s_0 is taken, and the simplex
  abbrev times : Option (ℕ × K) → ℕ
  times None = 0
  times (Some s) = s.0

  abbrev behind : K → Option (ℕ × K) → K
  behind d None = d
  behind d (Some s) = s.1

  up_not : (n : ℕ) (x : K) → A.In (suc n) x → is_degenerate A (suc n) x ≡ false → S.In (suc (suc n)) (Some (0, x)) → is_degenerate S (suc (suc n)) (Some (0, x)) ≡ false
  up_not n x is g up_in =
      not_true (is_degenerate S (suc (suc n)) (Some (0, x))) (λ h.
      let d = degenerate_is S whole (suc n) (Some (0, x)) up_in h in no d.0 d.1 d.2 d.3 d.4)
    where
      no : (j : ℕ) (y : Option (ℕ × K)) → j ≤ suc n → S.In (suc n) y → ◌≡◌ {A = Option (ℕ × K)} (Some (0, x)) (suspension_degeneracy A is_base j y) → ⊥
      no j None l iy e = cc
      no j (Some s) l iy e = by (nat_le j s.0) e
        where
          by : (b : Bool) → ◌≡◌ {A = Option (ℕ × K)} (Some (0, x)) (cond b (Some (suc s.0, s.1)) (Some (s.0, A.degeneracy (j - s.0 - 1) s.1))) → ⊥
          by true f = let t : 0 ≡ suc s.0 = ap times f in omega (arith, t)
          by false f =
              let t : 0 ≡ s.0 = ap times f in
              let z : A.In n s.1 = (let q : suc n - 1 - s.0 ≡ n = omega (arith, t) in subst (λ k. A.In k s.1) q iy.1) in
              let r : x ≡ A.degeneracy (j - s.0 - 1) s.1 = ap (behind x) f in
              true≢false (sym (degenerate_so A laws n (j - s.0 - 1) s.1 z (omega arith)) ∙ ap (is_degenerate A (suc n)) (sym r) ∙ g)

  -- up to degree k + 1 where A has none up to k
  up_flat : (k : ℕ) → FlatTo A k → FlatTo S (suc k)
  up_flat k flat zero y h l is = absurd (omega arith)
  up_flat k flat (suc i) None h l is = degenerate_so S whole i 0 None tt (omega arith)
  up_flat k flat (suc i) (Some (zero, x)) h l is =
      let q : suc i - 1 - 0 ≡ i = omega arith in
      absurd (true≢false (sym (flat_base A laws is_base test i x (λ n z p m iz. flat n z p (omega arith) iz) (subst (λ m. A.In m x) q is.1)) ∙ is.2))
  up_flat k flat (suc i) (Some (suc m, x)) h l is =
      let b : suc m < suc i = is.0 in
      let q : suc i - 1 - suc m ≡ i - 1 - m = omega arith in
      let e : suspension_degeneracy A is_base 0 (Some (m, x)) ≡ Some (suc m, x) =
      ap (λ b. cond b (Some (suc m, x)) (Some (m, A.degeneracy (0 - m - 1) x))) (is_le 0 m (omega arith)) in
      ap (is_degenerate S (suc i)) (sym e) ∙ degenerate_so S whole i 0 (Some (m, x)) (omega (arith, b), subst (λ n. A.In n x) q is.1, is.2) (omega arith)

  up_lowest : (n : ℕ) → IsLowest A n → IsLowest S (suc n)
  up_lowest zero low = absurd (let h : 0 < 0 = low.positive in omega (arith, h))
  up_lowest (suc n) low =
      let q : suc n ≡ suc (suc n) - 1 - 0 = omega arith in
      let is : S.In (suc (suc n)) (Some (0, low.simplex)) =
      (omega arith, subst (λ k. A.In k low.simplex) q low.is_in, no_base n low.simplex low.is_in low.not_degenerate) in
      record {
        positive = omega arith;
        simplex = Some (0, low.simplex);
        is_in = is;
        not_degenerate = up_not n low.simplex low.is_in low.not_degenerate is;
        below = λ k x h l ix. up_flat n (λ i y p m iy. low.below i y p (omega arith) iy) k x h (omega arith) ix;
      }

  pub suspension_low : (low : Option ℕ) → IsLow A low → IsLow S (option_map suc low)
  suspension_low None is = λ k x h ix. up_flat k (flat_below A None is k tt) k x h (omega arith) ix
  suspension_low (Some n) is = up_lowest n is

-- ---- loop groups

module _ {K : Type 0} (A : Simplicial K) (laws : IsSimplicial A) (whole : IsSimplicial (loop_set A)) where
  abbrev L : Simplicial (List (Letter A))
  L = loop_set A

  -- the first simplex of a word
  abbrev head : K → List (Letter A) → K
  head d [] = d
  head d (l ∷ w) = l.1

  no_first : (n : ℕ) (x : K) → A.In (suc n) x → is_degenerate A (suc n) x ≡ false → has_degeneracy A 0 x ≡ false
  no_first n x is g =
      not_true (has_degeneracy A 0 x) (λ h.
      true≢false (sym (degenerate_so A laws n 0 (A.face 0 x) (laws.face_in n 0 x is (omega arith)) (omega arith))
      ∙ ap (is_degenerate A (suc n)) (sym (laws.same_is x (A.degeneracy 0 (A.face 0 x)) h)) ∙ g))

  letter_not : (n : ℕ) (x : K) → is_degenerate A (suc (suc n)) x ≡ false → L.In (suc n) ((false, x) ∷ []) → is_degenerate L (suc n) ((false, x) ∷ []) ≡ false
  letter_not n x g is =
      not_true (is_degenerate L (suc n) ((false, x) ∷ [])) (λ h. let d = degenerate_is L whole n ((false, x) ∷ []) is h in no d.0 d.1 d.2 d.3 d.4)
    where
      no : (j : ℕ) (w : List (Letter A)) → j ≤ n → L.In n w → (false, x) ∷ [] ≡ loop_degeneracy A j w → ⊥
      no j [] l iw e = cc
      no j (m ∷ w) l iw e =
          let r : x ≡ A.degeneracy (suc j) m.1 = ap (head x) e in
          true≢false (sym (degenerate_so A laws (suc n) (suc j) m.1 iw.0.0 (omega arith)) ∙ ap (is_degenerate A (suc (suc n))) (sym r) ∙ g)

  -- up to degree k where A has none up to k + 1
  letters_flat : (k : ℕ) → FlatTo A (suc k) → FlatTo L k
  letters_flat k flat zero w h l is = absurd (omega arith)
  letters_flat k flat (suc i) [] h l is = degenerate_so L whole i 0 [] (tt, refl) (omega arith)
  letters_flat k flat (suc i) (m ∷ w) h l is =
      let d = flat_first A laws (suc i) m.1 (λ n y p q iy. flat n y p (omega arith) iy) is.0.0 in
      let g : has_degeneracy A 0 m.1 ≡ true =
      ap (has_degeneracy A 0) d.2
      ∙ ap (λ y. A.same (A.degeneracy 0 d.0) (A.degeneracy 0 y)) (laws.face_here (suc i) 0 d.0 d.1 (omega arith)) ∙ laws.same_equivalence.refl (A.degeneracy 0 d.0) in
      absurd (true≢false (sym g ∙ (irreducible_is A (m ∷ w) is.1).0))

  loop_lowest : HasNoEdge A → (n : ℕ) → IsLowest A n → IsLowest L (n - 1)
  loop_lowest edges zero low = absurd (let h : 0 < 0 = low.positive in omega (arith, h))
  loop_lowest edges (suc zero) low = absurd (true≢false (sym (edges low.simplex low.is_in) ∙ low.not_degenerate))
  loop_lowest edges (suc (suc n)) low =
      let e : suc n ≡ suc (suc n) - 1 = omega arith in
      let is : L.In (suc n) ((false, low.simplex) ∷ []) =
      ((low.is_in, tt), before-none A (false, low.simplex) (no_first (suc n) low.simplex low.is_in low.not_degenerate)) in
      subst (IsLowest L) e (record {
        positive = omega arith;
        simplex = (false, low.simplex) ∷ [];
        is_in = is;
        not_degenerate = letter_not n low.simplex low.not_degenerate is;
        below = λ k x h l ix. letters_flat n (λ i y p m iy. low.below i y p (omega arith) iy) k x h (omega arith) ix;
      })

  pub loop_low : HasNoEdge A → (low : Option ℕ) → IsLow A low → IsLow L (option_map (λ n. n - 1) low)
  loop_low edges None is = λ k x h ix. letters_flat k (flat_below A None is (suc k) tt) k x h (omega arith) ix
  loop_low edges (Some n) is = loop_lowest edges n is
