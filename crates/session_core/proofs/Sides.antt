-- What the right sides of questions ask and give, with true answers: the small cells of a degree with their small differentials, and
-- the dimensions.
use Rattle.std.proofs.Common.{◌≡◌, ℕ, zero, suc, List, [], ◌∷◌, ◌++◌, map, refl, ◌∙◌, ap}
use Rattle.fp_field.specs.Chains.{Terms}
use Rattle.spaces.specs.Spaces.{Space}
use Rattle.spaces.specs.SmallCells.{Small}
use Rattle.values.specs.Asks.{Ask, Answers, basis, small_d, Right, gives, ask, each, ◌>>=◌, value_with, asked_with}
use Rattle.values.proofs.Readings.{value_with-bind, asked_with-bind}
use Rattle.session_core.specs.Questions.{differentials, dimension, dimension_in, degrees_from}

pub append-none : {A : Type 0} (xs : List A) → xs ++ [] ≡ xs
append-none [] = refl
append-none (x ∷ xs) = ap (λ ys. x ∷ ys) (append-none xs)

module _ (answers : Answers) where
  module _ {A B : Type 0} (t : A → Right B) where
    pub each-value : (xs : List A) → value_with answers (each t xs) ≡ map (λ x. value_with answers (t x)) xs
    each-value [] = refl
    each-value (x ∷ xs) =
        value_with-bind answers (t x) (λ y. each t xs >>= λ ys. gives (y ∷ ys))
        ∙ value_with-bind answers (each t xs) (λ ys. gives (value_with answers (t x) ∷ ys))
        ∙ ap (λ ys. value_with answers (t x) ∷ ys) (each-value xs)

    -- the questions at the first, and then at the others
    pub each-asked : (x : A) (xs : List A) → asked_with answers (each t (x ∷ xs)) ≡ asked_with answers (t x) ++ asked_with answers (each t xs)
    each-asked x xs =
        asked_with-bind answers (t x) (λ y. each t xs >>= λ ys. gives (y ∷ ys))
        ∙ ap (λ ks. asked_with answers (t x) ++ ks)
        (asked_with-bind answers (each t xs) (λ ys. gives (value_with answers (t x) ∷ ys)) ∙ append-none (asked_with answers (each t xs)))

  module _ (p : ℕ) (a : Space) where
    abbrev pub here : ℕ → List (Small a)
    here n = answers (basis a n)

    abbrev pub differentials_in : ℕ → List (Terms (Small a))
    differentials_in n = map (λ y. answers (small_d a y)) (here n)

    abbrev pub degree_asks : ℕ → List Ask
    degree_asks n = basis a n ∷ map (λ y. small_d a y) (here n)

    small_ds-asked : (ys : List (Small a)) → asked_with answers (each (λ y. ask (small_d a y)) ys) ≡ map (λ y. small_d a y) ys
    small_ds-asked [] = refl
    small_ds-asked (y ∷ ys) = each-asked (λ y. ask (small_d a y)) y ys ∙ ap (λ ks. small_d a y ∷ ks) (small_ds-asked ys)

    pub differentials-value : (n : ℕ) → value_with answers (differentials p a n) ≡ (here n, differentials_in n)
    differentials-value n =
        value_with-bind answers (each (λ y. ask (small_d a y)) (here n)) (λ ds. gives (here n, ds))
        ∙ ap (λ (ds : List (Terms (Small a))). (here n, ds)) (each-value (λ y. ask (small_d a y)) (here n))

    pub differentials-asked : (n : ℕ) → asked_with answers (differentials p a n) ≡ degree_asks n
    differentials-asked n =
        ap (λ ks. basis a n ∷ ks)
        (asked_with-bind answers (each (λ y. ask (small_d a y)) (here n)) (λ ds. gives (here n, ds))
        ∙ append-none (asked_with answers (each (λ y. ask (small_d a y)) (here n))) ∙ small_ds-asked (here n))

    -- ---- dimensions

    dimension-value : (n : ℕ) → value_with answers (dimension_in p a n) ≡ dimension p a (here n) (differentials_in n) (differentials_in (suc n))
    dimension-value n =
        value_with-bind answers (differentials p a n) (λ low. differentials p a (suc n) >>= λ above. gives (dimension p a low.0 low.1 above.1))
        ∙ value_with-bind answers (differentials p a (suc n))
        (λ above. gives (dimension p a (value_with answers (differentials p a n)).0 (value_with answers (differentials p a n)).1 above.1))
        ∙ (λ i. dimension p a (differentials-value n i).0 (differentials-value n i).1 (differentials-value (suc n) i).1)

    dimension-asked : (n : ℕ) → asked_with answers (dimension_in p a n) ≡ degree_asks n ++ degree_asks (suc n)
    dimension-asked n =
        asked_with-bind answers (differentials p a n) (λ low. differentials p a (suc n) >>= λ above. gives (dimension p a low.0 low.1 above.1))
        ∙ (λ i. differentials-asked n i ++ above i)
      where
        above : asked_with answers (differentials p a (suc n) >>= λ above. gives (dimension p a (value_with answers (differentials p a n)).0 (value_with answers (differentials p a n)).1 above.1))
            ≡ degree_asks (suc n)
        above =
            asked_with-bind answers (differentials p a (suc n))
            (λ above. gives (dimension p a (value_with answers (differentials p a n)).0 (value_with answers (differentials p a n)).1 above.1))
            ∙ append-none (asked_with answers (differentials p a (suc n))) ∙ differentials-asked (suc n)

    abbrev pub degrees_asks : ℕ → ℕ → List Ask
    degrees_asks n zero = []
    degrees_asks n (suc m) = (degree_asks n ++ degree_asks (suc n)) ++ degrees_asks (suc n) m

    abbrev pub dimensions_from : ℕ → ℕ → List ℕ
    dimensions_from n zero = []
    dimensions_from n (suc m) = dimension p a (here n) (differentials_in n) (differentials_in (suc n)) ∷ dimensions_from (suc n) m

    pub dimensions-asked : (n m : ℕ) → asked_with answers (each (dimension_in p a) (degrees_from p a n m)) ≡ degrees_asks n m
    dimensions-asked n zero = refl
    dimensions-asked n (suc m) = each-asked (dimension_in p a) n (degrees_from p a (suc n) m) ∙ (λ i. dimension-asked n i ++ dimensions-asked (suc n) m i)

    listed-values : (n m : ℕ) → map (λ k. value_with answers (dimension_in p a k)) (degrees_from p a n m) ≡ dimensions_from n m
    listed-values n zero = refl
    listed-values n (suc m) = λ i. dimension-value n i ∷ listed-values (suc n) m i

    pub dimensions-value : (n m : ℕ) → value_with answers (each (dimension_in p a) (degrees_from p a n m)) ≡ dimensions_from n m
    dimensions-value n m = each-value (dimension_in p a) (degrees_from p a n m) ∙ listed-values n m
