-- The orders of pairs and of tensors tell any two apart.
use Rattle.std.proofs.Common.{◌≡◌, ℕ, true, refl, sym, ◌∙◌, ap, true≢false}
use Rattle.std.specs.Cmp.{IsEquivalence, nat_cmp_is}
use Rattle.std.specs.Ordering.{ordering_then, nat_cmp, is_eq}
use Rattle.std.specs.declared.cmp.Ordering.{Ordering}
use Rattle.std.specs.declared.cmp.Ordering.TheVariants.{Less, Equal, Greater}
use Rattle.std.proofs.lemmas.Map.Lookups.{exact_unsigned}
use Rattle.spaces.specs.Orders.{Ordered}
use Rattle.spaces.specs.EilenbergZilber.{Linear, pair_order, tensor_order}
use Rattle.spaces.proofs.Orders.{then-first, then-second}
use Rattle.ez_laws.specs.Sides.{TellsApart, IsLeft, IsRight}
use Rattle.ez_laws.proofs.SimplicialSides.{both_ways}

pub equal_is : (o : Ordering) → is_eq o ≡ true → o ≡ Equal
equal_is Less h = absurd (true≢false (sym h))
equal_is Equal h = refl
equal_is Greater h = absurd (true≢false (sym h))

module _ {K : Type 0} (cmp : K → K → Ordering) (tells : TellsApart cmp) where
  pub same-is : (x y : K) → is_eq (cmp x y) ≡ true → x ≡ y
  same-is x y h = tells.apart x y (equal_is (cmp x y) h)

  pub is-same : (x y : K) → x ≡ y → is_eq (cmp x y) ≡ true
  is-same x y e = ap (λ z. is_eq (cmp x z)) (sym e) ∙ ap is_eq (tells.alike x)

  pub tells-equivalence : IsEquivalence (λ x y. is_eq (cmp x y))
  tells-equivalence = record {
    refl = λ x. is-same x x refl;
    symm = λ x y. both_ways (is_eq (cmp x y)) (is_eq (cmp y x)) (λ h. is-same y x (sym (same-is x y h))) (λ h. is-same x y (sym (same-is y x h)));
    congr = λ x y z h. ap (λ w. is_eq (cmp w z)) (same-is x y h);
  }

pub then_equal : (o r : Ordering) → o ≡ Equal → r ≡ Equal → ordering_then o r ≡ Equal
then_equal o r e f = ap (λ o. ordering_then o r) e ∙ f

pub nat_cmp_refl : (n : ℕ) → nat_cmp n n ≡ Equal
nat_cmp_refl n = sym (nat_cmp_is n n Equal refl)

module _ {K J : Type 0} (p : ℕ) (L : Linear K) (In : ℕ → K → Type 0) (R : Ordered J) (left : IsLeft p L In) (right : IsRight R) where
  pub pairs-apart : TellsApart (pair_order p L R)
  pairs-apart = record {
    alike = λ s. then_equal (nat_cmp s.0 s.0) (ordering_then (L.cmp s.0 s.1 s.1) (R.cmp s.0 s.2 s.2)) (nat_cmp_refl s.0)
        (then_equal (L.cmp s.0 s.1 s.1) (R.cmp s.0 s.2 s.2) ((left.order s.0).alike s.1) ((right.order s.0).alike s.2));
    apart = λ s t h.
        let r : ordering_then (L.cmp s.0 s.1 t.1) (R.cmp s.0 s.2 t.2) ≡ Equal = then-second (nat_cmp s.0 t.0) (ordering_then (L.cmp s.0 s.1 t.1) (R.cmp s.0 s.2 t.2)) h in
        let e0 : s.0 ≡ t.0 = exact_unsigned s.0 t.0 (then-first (nat_cmp s.0 t.0) (ordering_then (L.cmp s.0 s.1 t.1) (R.cmp s.0 s.2 t.2)) h) in
        let e1 : s.1 ≡ t.1 = (left.order s.0).apart s.1 t.1 (then-first (L.cmp s.0 s.1 t.1) (R.cmp s.0 s.2 t.2) r) in
        let e2 : s.2 ≡ t.2 = (right.order s.0).apart s.2 t.2 (then-second (L.cmp s.0 s.1 t.1) (R.cmp s.0 s.2 t.2) r) in
        λ i. (e0 i, e1 i, e2 i);
  }

  pub tensors-apart : TellsApart (tensor_order p L R)
  tensors-apart = record {
    alike = λ s. then_equal (nat_cmp s.0 s.0) (ordering_then (L.cmp s.0 s.1 s.1) (ordering_then (nat_cmp s.2 s.2) (R.cmp s.2 s.3 s.3))) (nat_cmp_refl s.0)
        (then_equal (L.cmp s.0 s.1 s.1) (ordering_then (nat_cmp s.2 s.2) (R.cmp s.2 s.3 s.3)) ((left.order s.0).alike s.1)
        (then_equal (nat_cmp s.2 s.2) (R.cmp s.2 s.3 s.3) (nat_cmp_refl s.2) ((right.order s.2).alike s.3)));
    apart = λ s t h.
        let o1 : Ordering = ordering_then (nat_cmp s.2 t.2) (R.cmp s.2 s.3 t.3) in
        let o2 : Ordering = ordering_then (L.cmp s.0 s.1 t.1) (ordering_then (nat_cmp s.2 t.2) (R.cmp s.2 s.3 t.3)) in
        let r : ordering_then (L.cmp s.0 s.1 t.1) (ordering_then (nat_cmp s.2 t.2) (R.cmp s.2 s.3 t.3)) ≡ Equal = then-second (nat_cmp s.0 t.0) o2 h in
        let q : ordering_then (nat_cmp s.2 t.2) (R.cmp s.2 s.3 t.3) ≡ Equal = then-second (L.cmp s.0 s.1 t.1) o1 r in
        let e0 : s.0 ≡ t.0 = exact_unsigned s.0 t.0 (then-first (nat_cmp s.0 t.0) o2 h) in
        let e1 : s.1 ≡ t.1 = (left.order s.0).apart s.1 t.1 (then-first (L.cmp s.0 s.1 t.1) o1 r) in
        let e2 : s.2 ≡ t.2 = exact_unsigned s.2 t.2 (then-first (nat_cmp s.2 t.2) (R.cmp s.2 s.3 t.3) q) in
        let e3 : s.3 ≡ t.3 = (right.order s.2).apart s.3 t.3 (then-second (nat_cmp s.2 t.2) (R.cmp s.2 s.3 t.3) q) in
        λ i. (e0 i, e1 i, e2 i, e3 i);
  }
