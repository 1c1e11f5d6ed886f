-- The lists of units in a nerve.
use Rattle.std.proofs.Common.{◌≡◌, ℕ, zero, suc, Bool, true, ◌&&◌, List, [], ◌∷◌, length, refl, ◌∙◌, ap, arith}
use Rattle.std.specs.List.{list_all}
use Rattle.std.proofs.lemmas.Bool.{and_parts, and_from}
use Rattle.spaces.specs.Nerves.{Abelian, nerve_face, nerve_degeneracy, nerve_set}
use Rattle.spaces.specs.Groups.{IsAbelian}
use Rattle.spaces.proofs.BaseTests.{IsBaseTest}

module _ {G : Type 0} (group : Abelian G) (laws : IsAbelian group) (test : G → Bool)
    (test_is : (a : G) → test a ≡ true → a ≡ group.none) (test_none : test group.none ≡ true) where
  abbrev units : List G → Bool
  units x = list_all test x

  vertex : (x : List G) → length x ≡ 0 → units x ≡ true
  vertex [] e = refl
  vertex (a ∷ x) e = absurd (omega (arith, e))

  rest : (a : G) (x : List G) → units (a ∷ x) ≡ true → units x ≡ true
  rest a x h = (and_parts (test a) (units x) h).1

  face_base : (i : ℕ) (x : List G) → units x ≡ true → units (nerve_face group i x) ≡ true
  face_base i [] h = refl
  face_base zero (a ∷ x) h = rest a x h
  face_base (suc zero) (a ∷ []) h = refl
  face_base (suc zero) (a ∷ (b ∷ x)) h =
      let u = and_parts (test a) (units (b ∷ x)) h in
      let v = and_parts (test b) (units x) u.1 in
      let s : group.plus a b ≡ group.none = (λ i. group.plus (test_is a u.0 i) (test_is b v.0 i)) ∙ laws.unit group.none laws.none_in in
      and_from (test (group.plus a b)) (units x) (ap test s ∙ test_none) v.1
  face_base (suc (suc i)) (a ∷ x) h =
      let u = and_parts (test a) (units x) h in and_from (test a) (units (nerve_face group (suc i) x)) u.0 (face_base (suc i) x u.1)

  degeneracy_base : (i : ℕ) (x : List G) → units (nerve_degeneracy group i x) ≡ units x
  degeneracy_base zero x = ap (λ b. b && units x) test_none
  degeneracy_base (suc i) [] = ap (λ b. b && true) test_none
  degeneracy_base (suc i) (a ∷ x) = ap (λ b. test a && b) (degeneracy_base i x)

  first : (n : ℕ) (x : List G) → length x ≡ suc n → units x ≡ true → x ≡ nerve_degeneracy group 0 (nerve_face group 0 x)
  first n [] e h = absurd (omega (arith, e))
  first n (a ∷ x) e h = ap (λ s. s ∷ x) (test_is a (and_parts (test a) (units x) h).0)

  pub nerve_base : IsBaseTest (nerve_set group) (λ x. list_all test x)
  nerve_base = record {
    vertex = λ x is. vertex x is.0;
    face_base = λ n i x is h b. face_base i x b;
    degeneracy_base = λ n i x is h. degeneracy_base i x;
    first = λ n x is b. first n x is.0 b;
  }
