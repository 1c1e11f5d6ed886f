-- The product of two simplicial sets is one.
use Rattle.std.proofs.Common.{◌≡◌, Bool, true, false, ◌&&◌, refl, sym, true≢false}
use Rattle.std.specs.Cmp.{on_equiv, and_equiv}
use Rattle.spaces.specs.Simplicial.{Simplicial, IsSimplicial}
use Rattle.spaces.specs.Products.{product_set}

first_so : (a b : Bool) → a && b ≡ true → a ≡ true
first_so true b h = refl
first_so false b h = h

second_so : (a b : Bool) → a && b ≡ true → b ≡ true
second_so true b h = h
second_so false b h = absurd (true≢false (sym h))

module _ {K J : Type 0} (A : Simplicial K) (B : Simplicial J) (a : IsSimplicial A) (b : IsSimplicial B) where
  pub product_set_laws : IsSimplicial (product_set A B)
  product_set_laws = record {
    face_in = λ n i x is l. (a.face_in n i x.0 is.0 l, b.face_in n i x.1 is.1 l);
    degeneracy_in = λ n i x is l. (a.degeneracy_in n i x.0 is.0 l, b.degeneracy_in n i x.1 is.1 l);
    face_face = λ n i j x is l m k. (a.face_face n i j x.0 is.0 l m k, b.face_face n i j x.1 is.1 l m k);
    face_here = λ n j x is l k. (a.face_here n j x.0 is.0 l k, b.face_here n j x.1 is.1 l k);
    face_next = λ n j x is l k. (a.face_next n j x.0 is.0 l k, b.face_next n j x.1 is.1 l k);
    face_below = λ n i j x is l m k. (a.face_below n i j x.0 is.0 l m k, b.face_below n i j x.1 is.1 l m k);
    face_above = λ n i j x is l m k. (a.face_above n i j x.0 is.0 l m k, b.face_above n i j x.1 is.1 l m k);
    degeneracy_degeneracy = λ n i j x is l m k. (a.degeneracy_degeneracy n i j x.0 is.0 l m k, b.degeneracy_degeneracy n i j x.1 is.1 l m k);
    same_is = λ x y h k. (a.same_is x.0 y.0 (first_so (A.same x.0 y.0) (B.same x.1 y.1) h) k, b.same_is x.1 y.1 (second_so (A.same x.0 y.0) (B.same x.1 y.1) h) k);
    same_equivalence = and_equiv (on_equiv (λ x. x.0) a.same_equivalence) (on_equiv (λ x. x.1) b.same_equivalence);
  }
