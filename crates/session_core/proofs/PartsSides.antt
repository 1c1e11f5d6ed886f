-- What the right side of the parts of a cycle asks and gives, with true answers.
use Rattle.std.proofs.Common.{◌≡◌, ℕ, suc, List, [], ◌∷◌, ◌++◌, map, refl, ◌∙◌, ap}
use Rattle.std.specs.declared.cmp.Ordering.{Ordering}
use Rattle.fp_field.specs.Chains.{Terms}
use Rattle.fp_field.specs.Normal.{normal}
use Rattle.echelons.specs.Echelon.{Vector}
use Rattle.spaces.specs.Spaces.{Space}
use Rattle.spaces.specs.Orders.{ordered, by_degree}
use Rattle.spaces.specs.SmallCells.{Small, small_cmp}
use Rattle.values.specs.Asks.{Ask, Answers, cycles, f as f_at, g as g_at, h as h_at, Cell, Right, gives, ask, on_chain, ◌>>=◌, value_with, asked_with}
use Rattle.values.specs.Cycles.{coordinates, terms_of}
use Rattle.values.proofs.Readings.{value_with-bind, asked_with-bind}
use Rattle.values.proofs.Chains.{along, asked_with-on_chain}
use Rattle.session_core.specs.Questions.{differentials, class_of, filling_of, expressed}
use Rattle.session_core.proofs.Sides.{here, differentials_in, degree_asks, differentials-value, differentials-asked, append-none}

-- one question at each element
along-ones : {K : Type 0} (q : K → Ask) (c : Terms K) → along (λ k. q k ∷ []) c ≡ map (λ t. q t.0) c
along-ones q [] = refl
along-ones q (t ∷ c) = ap (λ ks. q t.0 ∷ ks) (along-ones q c)

module _ (answers : Answers) (p : ℕ) (a : Space) (n : ℕ) (z : Terms (Cell a)) where
  abbrev big_cmp : Cell a → Cell a → Ordering
  big_cmp = by_degree (ordered a).cmp

  abbrev Pair : Type 0
  Pair = List (Small a) × List (Terms (Small a))

  abbrev images_of : Right (Terms (Small a))
  images_of = on_chain (small_cmp a) p (λ (x : Cell a). ask (f_at a x.0 x.1)) z

  abbrev homotopies_of : Right (Terms (Cell a))
  homotopies_of = on_chain big_cmp p (λ (x : Cell a). ask (h_at a x.0 x.1)) z

  abbrev chosen : Pair → Pair → Terms (Small a) → Terms (Small a)
  chosen lo up fz = terms_of p a up.0 (filling_of p a lo.0 lo.1 up.1 (coordinates p a lo.0 fz))

  abbrev fillings_of : Pair → Pair → Terms (Small a) → Right (Terms (Cell a))
  fillings_of lo up fz = on_chain big_cmp p (λ y. ask (g_at a y)) (chosen lo up fz)

  abbrev finish : Pair → Pair → Terms (Small a) → Terms (Cell a) → Terms (Cell a) → Vector × Terms (Cell a)
  finish lo up fz hz gw = (class_of p a lo.0 lo.1 up.1 (coordinates p a lo.0 fz), normal big_cmp p (hz ++ gw))

  abbrev fourth : Pair → Pair → Terms (Small a) → Terms (Cell a) → Right (Vector × Terms (Cell a))
  fourth lo up fz hz = fillings_of lo up fz >>= λ gw. gives (finish lo up fz hz gw)

  abbrev third : Pair → Pair → Terms (Small a) → Right (Vector × Terms (Cell a))
  third lo up fz = homotopies_of >>= λ hz. fourth lo up fz hz

  abbrev second : Pair → Pair → Right (Vector × Terms (Cell a))
  second lo up = images_of >>= λ fz. third lo up fz

  abbrev first : Pair → Right (Vector × Terms (Cell a))
  first lo = differentials p a (suc n) >>= λ up. second lo up

  abbrev low : Pair
  low = value_with answers (differentials p a n)

  abbrev high : Pair
  high = value_with answers (differentials p a (suc n))

  abbrev pub image_is : Terms (Small a)
  image_is = value_with answers images_of

  abbrev pub homotopy_is : Terms (Cell a)
  homotopy_is = value_with answers homotopies_of

  abbrev pub vector_is : Vector
  vector_is = coordinates p a (here answers p a n) image_is

  abbrev pub chosen_is : Vector
  chosen_is = filling_of p a (here answers p a n) (differentials_in answers p a n) (differentials_in answers p a (suc n)) vector_is

  abbrev pub filled_is : Terms (Cell a)
  filled_is = value_with answers (on_chain big_cmp p (λ y. ask (g_at a y)) (terms_of p a (here answers p a (suc n)) chosen_is))

  abbrev whole : Pair → Pair → Vector × Terms (Cell a)
  whole lo up = finish lo up image_is homotopy_is (value_with answers (fillings_of lo up image_is))

  pub parts-value : value_with answers (expressed p a n z)
      ≡ (class_of p a (here answers p a n) (differentials_in answers p a n) (differentials_in answers p a (suc n)) vector_is, normal big_cmp p (homotopy_is ++ filled_is))
  parts-value =
      value_with-bind answers (differentials p a n) first
      ∙ value_with-bind answers (differentials p a (suc n)) (second low)
      ∙ value_with-bind answers images_of (third low high)
      ∙ value_with-bind answers homotopies_of (fourth low high image_is)
      ∙ value_with-bind answers (fillings_of low high image_is) (λ gw. gives (finish low high image_is homotopy_is gw))
      ∙ (λ i. whole (differentials-value answers p a n i) (differentials-value answers p a (suc n) i))

  abbrev pub f_asks : List Ask
  f_asks = map (λ (t : Cell a × ℕ). f_at a t.0.0 t.0.1) z

  abbrev pub h_asks : List Ask
  h_asks = map (λ (t : Cell a × ℕ). h_at a t.0.0 t.0.1) z

  abbrev pub g_asks : List Ask
  g_asks = map (λ (t : Small a × ℕ). g_at a t.0) (terms_of p a (here answers p a (suc n)) chosen_is)

  abbrev g_along : Pair → Pair → List Ask
  g_along lo up = map (λ (t : Small a × ℕ). g_at a t.0) (chosen lo up image_is)

  fillings-asked : (lo up : Pair) → asked_with answers (fillings_of lo up image_is) ≡ g_along lo up
  fillings-asked lo up = asked_with-on_chain answers (λ y. ask (g_at a y)) big_cmp p (chosen lo up image_is) ∙ along-ones (λ y. g_at a y) (chosen lo up image_is)

  images-asked : asked_with answers images_of ≡ f_asks
  images-asked = asked_with-on_chain answers (λ (x : Cell a). ask (f_at a x.0 x.1)) (small_cmp a) p z ∙ along-ones (λ (x : Cell a). f_at a x.0 x.1) z

  homotopies-asked : asked_with answers homotopies_of ≡ h_asks
  homotopies-asked = asked_with-on_chain answers (λ (x : Cell a). ask (h_at a x.0 x.1)) big_cmp p z ∙ along-ones (λ (x : Cell a). h_at a x.0 x.1) z

  pub parts-asked : asked_with answers (expressed p a n z)
      ≡ cycles a n ∷ (degree_asks answers p a n ++ (degree_asks answers p a (suc n) ++ (f_asks ++ (h_asks ++ g_asks))))
  parts-asked =
      ap (λ ks. cycles a n ∷ ks)
      (asked_with-bind answers (differentials p a n) first
      ∙ ap (λ ks. asked_with answers (differentials p a n) ++ ks)
      (asked_with-bind answers (differentials p a (suc n)) (second low)
      ∙ ap (λ ks. asked_with answers (differentials p a (suc n)) ++ ks)
      (asked_with-bind answers images_of (third low high)
      ∙ ap (λ ks. asked_with answers images_of ++ ks)
      (asked_with-bind answers homotopies_of (fourth low high image_is)
      ∙ ap (λ ks. asked_with answers homotopies_of ++ ks)
      (asked_with-bind answers (fillings_of low high image_is) (λ gw. gives (finish low high image_is homotopy_is gw))
      ∙ append-none (asked_with answers (fillings_of low high image_is)) ∙ fillings-asked low high))))
      ∙ (λ i. differentials-asked answers p a n i ++ (differentials-asked answers p a (suc n) i ++ (images-asked i ++ (homotopies-asked i
      ++ g_along (differentials-value answers p a n i) (differentials-value answers p a (suc n) i))))))
