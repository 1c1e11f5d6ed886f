-- The nerve of an abelian group is a simplicial group, lists being added place by place.
use Rattle.std.proofs.Common.{◌≡◌, ℕ, zero, suc, List, [], ◌∷◌, length, refl, sym, ◌∙◌, ap, arith}
use Rattle.std.specs.Prelude.{map}
use Rattle.std.proofs.lemmas.List.Elements.{All-nil, All-cons}
use Rattle.spaces.specs.Tables.{copies}
use Rattle.spaces.specs.Nerves.{Abelian, nerve_face, nerve_degeneracy, nerve_set, nerve_times}
use Rattle.spaces.specs.Groups.{IsAbelian, IsSimplicialGroup}
use Rattle.spaces.proofs.Nerves.{Each, each_first, each_rest}

module _ {G : Type 0} (group : Abelian G) (laws : IsAbelian group) where
  length-times : (x y : List G) → length x ≡ length y → length (nerve_times group x y) ≡ length x
  length-times [] y e = refl
  length-times (a ∷ x) [] e = absurd (omega (arith, e))
  length-times (a ∷ x) (b ∷ y) e = let l : suc (length x) ≡ suc (length y) = e in ap suc (length-times x y (omega (arith, l)))

  times_each : (x y : List G) → Each group x → Each group y → Each group (nerve_times group x y)
  times_each [] y ix iy = ix
  times_each (a ∷ x) [] ix iy = iy
  times_each (a ∷ x) (b ∷ y) ix iy =
      All-cons group.Is (group.plus a b) (nerve_times group x y) (laws.plus_in a b (each_first group a x ix) (each_first group b y iy))
      (times_each x y (each_rest group a x ix) (each_rest group b y iy))

  length-unit : (n : ℕ) → length (copies n group.none) ≡ n
  length-unit zero = refl
  length-unit (suc n) = ap suc (length-unit n)

  unit_each : (n : ℕ) → Each group (copies n group.none)
  unit_each zero = All-nil group.Is
  unit_each (suc n) = All-cons group.Is group.none (copies n group.none) laws.none_in (unit_each n)

  length-inverse : (x : List G) → length (map group.negative x) ≡ length x
  length-inverse [] = refl
  length-inverse (a ∷ x) = ap suc (length-inverse x)

  inverse_each : (x : List G) → Each group x → Each group (map group.negative x)
  inverse_each [] is = is
  inverse_each (a ∷ x) is =
      All-cons group.Is (group.negative a) (map group.negative x) (laws.negative_in a (each_first group a x is)) (inverse_each x (each_rest group a x is))

  times-times : (x y z : List G) → Each group x → Each group y → Each group z
      → nerve_times group (nerve_times group x y) z ≡ nerve_times group x (nerve_times group y z)
  times-times [] y z ix iy iz = refl
  times-times (a ∷ x) [] z ix iy iz = refl
  times-times (a ∷ x) (b ∷ y) [] ix iy iz = refl
  times-times (a ∷ x) (b ∷ y) (c ∷ z) ix iy iz =
      λ i. laws.associates a b c (each_first group a x ix) (each_first group b y iy) (each_first group c z iz) i
      ∷ times-times x y z (each_rest group a x ix) (each_rest group b y iy) (each_rest group c z iz) i

  pub times-commute : (x y : List G) → Each group x → Each group y → nerve_times group x y ≡ nerve_times group y x
  times-commute [] [] ix iy = refl
  times-commute [] (b ∷ y) ix iy = refl
  times-commute (a ∷ x) [] ix iy = refl
  times-commute (a ∷ x) (b ∷ y) ix iy =
      λ i. laws.commutes a b (each_first group a x ix) (each_first group b y iy) i ∷ times-commute x y (each_rest group a x ix) (each_rest group b y iy) i

  pub unit-times : (n : ℕ) (x : List G) → length x ≡ n → Each group x → nerve_times group (copies n group.none) x ≡ x
  unit-times zero [] e is = refl
  unit-times zero (a ∷ x) e is = absurd (omega (arith, e))
  unit-times (suc n) [] e is = absurd (omega (arith, e))
  unit-times (suc n) (a ∷ x) e is =
      let l : suc (length x) ≡ suc n = e in
      let r = unit-times n x (omega (arith, l)) (each_rest group a x is) in
      λ i. laws.unit a (each_first group a x is) i ∷ r i

  inverse-times : (n : ℕ) (x : List G) → length x ≡ n → Each group x → nerve_times group (map group.negative x) x ≡ copies n group.none
  inverse-times zero [] e is = refl
  inverse-times zero (a ∷ x) e is = absurd (omega (arith, e))
  inverse-times (suc n) [] e is = absurd (omega (arith, e))
  inverse-times (suc n) (a ∷ x) e is =
      let l : suc (length x) ≡ suc n = e in
      let r = inverse-times n x (omega (arith, l)) (each_rest group a x is) in
      λ i. laws.inverse a (each_first group a x is) i ∷ r i

  -- (a + b) + (c + d) is (a + c) + (b + d)
  exchange : (a b c d : G) → group.Is a → group.Is b → group.Is c → group.Is d
      → group.plus (group.plus a b) (group.plus c d) ≡ group.plus (group.plus a c) (group.plus b d)
  exchange a b c d ia ib ic id =
      laws.associates a b (group.plus c d) ia ib (laws.plus_in c d ic id)
      ∙ ap (group.plus a) (sym (laws.associates b c d ib ic id) ∙ ap (λ s. group.plus s d) (laws.commutes b c ib ic) ∙ laws.associates c b d ic ib id)
      ∙ sym (laws.associates a c (group.plus b d) ia ic (laws.plus_in b d ib id))

  face-times : (i : ℕ) (x y : List G) → Each group x → Each group y → length x ≡ length y
      → nerve_face group i (nerve_times group x y) ≡ nerve_times group (nerve_face group i x) (nerve_face group i y)
  face-times i [] y ix iy e = refl
  face-times i (a ∷ x) [] ix iy e = absurd (omega (arith, e))
  face-times zero (a ∷ x) (b ∷ y) ix iy e = refl
  face-times (suc zero) (a ∷ []) (b ∷ []) ix iy e = refl
  face-times (suc zero) (a ∷ []) (b ∷ (d ∷ y)) ix iy e = absurd (omega (arith, e))
  face-times (suc zero) (a ∷ (c ∷ x)) (b ∷ []) ix iy e = absurd (omega (arith, e))
  face-times (suc zero) (a ∷ (c ∷ x)) (b ∷ (d ∷ y)) ix iy e =
      ap (λ s. s ∷ nerve_times group x y)
      (exchange a b c d (each_first group a (c ∷ x) ix) (each_first group b (d ∷ y) iy) (each_first group c x (each_rest group a (c ∷ x) ix))
      (each_first group d y (each_rest group b (d ∷ y) iy)))
  face-times (suc (suc i)) (a ∷ x) (b ∷ y) ix iy e =
      let l : suc (length x) ≡ suc (length y) = e in
      ap (λ z. group.plus a b ∷ z) (face-times (suc i) x y (each_rest group a x ix) (each_rest group b y iy) (omega (arith, l)))

  degeneracy-times : (i : ℕ) (x y : List G) → length x ≡ length y
      → nerve_degeneracy group i (nerve_times group x y) ≡ nerve_times group (nerve_degeneracy group i x) (nerve_degeneracy group i y)
  degeneracy-times zero x y e = ap (λ s. s ∷ nerve_times group x y) (sym (laws.unit group.none laws.none_in))
  degeneracy-times (suc i) [] [] e = ap (λ s. s ∷ []) (sym (laws.unit group.none laws.none_in))
  degeneracy-times (suc i) [] (b ∷ y) e = absurd (omega (arith, e))
  degeneracy-times (suc i) (a ∷ x) [] e = absurd (omega (arith, e))
  degeneracy-times (suc i) (a ∷ x) (b ∷ y) e =
      let l : suc (length x) ≡ suc (length y) = e in ap (λ z. group.plus a b ∷ z) (degeneracy-times i x y (omega (arith, l)))

  pub nerve_group : IsSimplicialGroup (nerve_set group) (nerve_times group) (λ n. copies n group.none) (map group.negative)
  nerve_group = record {
    times_in = λ n x y ix iy. (length-times x y (ix.0 ∙ sym iy.0) ∙ ix.0, times_each x y ix.1 iy.1);
    unit_in = λ n. (length-unit n, unit_each n);
    inverse_in = λ n x is. (length-inverse x ∙ is.0, inverse_each x is.1);
    associates = λ n x y z ix iy iz. times-times x y z ix.1 iy.1 iz.1;
    unit_left = λ n x is. unit-times n x is.0 is.1;
    unit_right = λ n x is. times-commute x (copies n group.none) is.1 (unit_each n) ∙ unit-times n x is.0 is.1;
    inverse_left = λ n x is. inverse-times n x is.0 is.1;
    inverse_right = λ n x is. times-commute x (map group.negative x) is.1 (inverse_each x is.1) ∙ inverse-times n x is.0 is.1;
    face_times = λ n i x y ix iy h. face-times i x y ix.1 iy.1 (ix.0 ∙ sym iy.0);
    degeneracy_times = λ n i x y ix iy h. degeneracy-times i x y (ix.0 ∙ sym iy.0);
  }
