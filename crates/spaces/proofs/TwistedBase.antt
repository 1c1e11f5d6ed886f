-- The simplices of a product or a twisted product whose two parts pass; in the second t of what passes is not to move them.
use Rattle.std.proofs.Common.{◌≡◌, ℕ, zero, suc, ◌≤◌, Bool, true, ◌&&◌, sym, ◌∙◌, ap}
use Rattle.std.proofs.lemmas.Bool.{and_parts, and_from}
use Rattle.spaces.specs.Simplicial.{Simplicial}
use Rattle.spaces.specs.Products.{product_set, twisted_set}
use Rattle.spaces.proofs.BaseTests.{IsBaseTest}

module _ {K J : Type 0} (A : Simplicial K) (B : Simplicial J) (a : K → Bool) (b : J → Bool) (ta : IsBaseTest A a) (tb : IsBaseTest B b) where
  pub product_base : IsBaseTest (product_set A B) (λ x. a x.0 && b x.1)
  product_base = record {
    vertex = λ x is. and_from (a x.0) (b x.1) (ta.vertex x.0 is.0) (tb.vertex x.1 is.1);
    face_base = λ n i x is h e.
        let u = and_parts (a x.0) (b x.1) e in
        and_from (a (A.face i x.0)) (b (B.face i x.1)) (ta.face_base n i x.0 is.0 h u.0) (tb.face_base n i x.1 is.1 h u.1);
    degeneracy_base = λ n i x is h k. ta.degeneracy_base n i x.0 is.0 h k && tb.degeneracy_base n i x.1 is.1 h k;
    first = λ n x is e. let u = and_parts (a x.0) (b x.1) e in λ k. (ta.first n x.0 is.0 u.0 k, tb.first n x.1 is.1 u.1 k);
  }

  module _ (t : K → J) (times : J → J → J)
      (still : (n : ℕ) (x : K) (y : J) → A.In (suc n) x → B.In (suc n) y → a x ≡ true → b y ≡ true → times (t x) (B.face 0 y) ≡ B.face 0 y) where
    face_base : (n i : ℕ) (x : K × J) → (product_set A B).In (suc n) x → i ≤ suc n → a x.0 && b x.1 ≡ true
        → a ((twisted_set A B t times).face i x).0 && b ((twisted_set A B t times).face i x).1 ≡ true
    face_base n zero x is h e =
        let u = and_parts (a x.0) (b x.1) e in
        and_from (a (A.face 0 x.0)) (b (times (t x.0) (B.face 0 x.1))) (ta.face_base n 0 x.0 is.0 h u.0)
        (ap b (still n x.0 x.1 is.0 is.1 u.0 u.1) ∙ tb.face_base n 0 x.1 is.1 h u.1)
    face_base n (suc i) x is h e = product_base.face_base n (suc i) x is h e

    pub twisted_base : IsBaseTest (twisted_set A B t times) (λ x. a x.0 && b x.1)
    twisted_base = record {
      vertex = product_base.vertex;
      face_base = face_base;
      degeneracy_base = product_base.degeneracy_base;
      first = λ n x is e.
          let u = and_parts (a x.0) (b x.1) e in
          product_base.first n x is e ∙ ap (λ y. (A.degeneracy 0 (A.face 0 x.0), B.degeneracy 0 y)) (sym (still n x.0 x.1 is.0 is.1 u.0 u.1));
    }
