-- A twisted product is a simplicial set, by the identities of its twisting operator (May, Simplicial Objects, chapter IV, 18).
use Rattle.std.proofs.Common.{◌≡◌, ℕ, zero, suc, ◌<◌, ◌≤◌, sym, ◌∙◌, ap, arith}
use Rattle.spaces.specs.Simplicial.{Simplicial, IsSimplicial}
use Rattle.spaces.specs.Products.{product_set, twisted_set, IsTwisting}
use Rattle.spaces.proofs.Products.{product_set_laws}

module _ {K J : Type 0} (B : Simplicial K) (F : Simplicial J) (b : IsSimplicial B) (f : IsSimplicial F) (t : K → J) (times : J → J → J)
    (w : IsTwisting B F t times) where
  abbrev X : Simplicial (K × J)
  X = twisted_set B F t times

  plain : IsSimplicial (product_set B F)
  plain = product_set_laws B F b f

  face_in : (n i : ℕ) (x : K × J) → X.In (suc n) x → i ≤ suc n → X.In n (X.face i x)
  face_in n zero x is l =
      (b.face_in n 0 x.0 is.0 l, w.times_in n (t x.0) (F.face 0 x.1) (w.t_in n x.0 is.0) (f.face_in n 0 x.1 is.1 l))
  face_in n (suc i) x is l = (b.face_in n (suc i) x.0 is.0 l, f.face_in n (suc i) x.1 is.1 l)

  face_face : (n i j : ℕ) (x : K × J) → X.In (suc (suc n)) x → j ≤ i → i ≤ suc n → X.face j (X.face (suc i) x) ≡ X.face i (X.face j x)
  face_face n zero zero x is l m =
      λ k. (
        b.face_face n 0 0 x.0 is.0 l m k,
        (ap (times (t (B.face 1 x.0))) (f.face_face n 0 0 x.1 is.1 l m)
            ∙ ap (λ u. times u (F.face 0 (F.face 0 x.1))) (sym (w.first n x.0 is.0))
            ∙ w.associates n (t (B.face 0 x.0)) (F.face 0 (t x.0)) (F.face 0 (F.face 0 x.1))
            (w.t_in n (B.face 0 x.0) (b.face_in (suc n) 0 x.0 is.0 (omega arith)))
            (f.face_in n 0 (t x.0) (w.t_in (suc n) x.0 is.0) (omega arith))
            (f.face_in n 0 (F.face 0 x.1) (f.face_in (suc n) 0 x.1 is.1 (omega arith)) (omega arith))
            ∙ ap (times (t (B.face 0 x.0)))
            (sym (w.face_times n 0 (t x.0) (F.face 0 x.1) (w.t_in (suc n) x.0 is.0) (f.face_in (suc n) 0 x.1 is.1 (omega arith)) (omega arith)))) k,
      )
  face_face n (suc i) zero x is l m =
      λ k. (
        b.face_face n (suc i) 0 x.0 is.0 l m k,
        (ap (times (t (B.face (suc (suc i)) x.0))) (f.face_face n (suc i) 0 x.1 is.1 l m)
            ∙ ap (λ u. times u (F.face (suc i) (F.face 0 x.1))) (sym (w.later n i x.0 is.0 (omega arith)))
            ∙ sym (w.face_times n (suc i) (t x.0) (F.face 0 x.1) (w.t_in (suc n) x.0 is.0) (f.face_in (suc n) 0 x.1 is.1 (omega arith)) (omega arith))) k,
      )
  face_face n zero (suc j) x is l m = absurd (omega arith)
  face_face n (suc i) (suc j) x is l m = plain.face_face n (suc i) (suc j) x is l m

  face_here : (n j : ℕ) (x : K × J) → X.In n x → j ≤ n → X.face j (X.degeneracy j x) ≡ x
  face_here n zero x is l =
      λ k. (
        b.face_here n 0 x.0 is.0 l k,
        (ap (times (t (B.degeneracy 0 x.0))) (f.face_here n 0 x.1 is.1 l) ∙ w.unit n x.0 x.1 is.0 is.1) k,
      )
  face_here n (suc j) x is l = plain.face_here n (suc j) x is l

  face_below : (n i j : ℕ) (x : K × J) → X.In n x → i ≤ j → j < n → X.face i (X.degeneracy (suc j) x) ≡ X.degeneracy j (X.face i x)
  face_below zero i j x is l m = absurd (omega arith)
  face_below (suc n) zero j x is l m =
      λ k. (
        b.face_below (suc n) 0 j x.0 is.0 l m k,
        (ap (times (t (B.degeneracy (suc j) x.0))) (f.face_below (suc n) 0 j x.1 is.1 l m)
            ∙ ap (λ u. times u (F.degeneracy j (F.face 0 x.1))) (w.raised n j x.0 is.0 (omega arith))
            ∙ sym (w.degeneracy_times n j (t x.0) (F.face 0 x.1) (w.t_in n x.0 is.0) (f.face_in n 0 x.1 is.1 (omega arith)) (omega arith))) k,
      )
  face_below (suc n) (suc i) j x is l m = plain.face_below (suc n) (suc i) j x is l m

  face_above : (n i j : ℕ) (x : K × J) → X.In n x → j < i → i ≤ n → X.face (suc i) (X.degeneracy j x) ≡ X.degeneracy j (X.face i x)
  face_above n zero j x is l m = absurd (omega arith)
  face_above n (suc i) j x is l m = plain.face_above n (suc i) j x is l m

  pub twisted_laws : IsSimplicial X
  twisted_laws = record {
    face_in = face_in;
    degeneracy_in = plain.degeneracy_in;
    face_face = face_face;
    face_here = face_here;
    face_next = plain.face_next;
    face_below = face_below;
    face_above = face_above;
    degeneracy_degeneracy = plain.degeneracy_degeneracy;
    same_is = plain.same_is;
    same_equivalence = plain.same_equivalence;
  }
