-- The sum of two reductions, on generators of either side (Rubio and Sergeraert, Constructive Homological Algebra and Applications,
-- chapter 2).
--
--   f(Left x) is f(x) of the left part, each key y read as Left y
use Rattle.std.specs.Prelude.{[], ◌∷◌, Bool, false}
use Rattle.fp_field.specs.Chains.{Terms}
use Rattle.fp_field.specs.Reduction.{Complex, Maps}
use Rattle.reduct_laws.specs.declared.sides.Side.{Side}
use Rattle.reduct_laws.specs.declared.sides.Side.TheVariants.{Left, Right}
use Rattle.reduct_laws.specs.Lists.{Lists}

-- the same chain under other names of its keys
abbrev pub relabel : {K J : Type 0} → (K → J) → Terms K → Terms J
relabel i [] = []
relabel i (t ∷ c) = (i t.0, t.1) ∷ relabel i c

module _ {X Y : Type 0} where
  abbrev pub by_side : {T : Type 0} → (X → T) → (Y → T) → Side X Y → T
  by_side f g (Left x) = f x
  by_side f g (Right y) = g y

  abbrev pub OfSide : (X → Type 0) → (Y → Type 0) → Side X Y → Type 0
  OfSide P Q (Left x) = P x
  OfSide P Q (Right y) = Q y

  abbrev pub same_side : (X → X → Bool) → (Y → Y → Bool) → Side X Y → Side X Y → Bool
  same_side s t (Left x) (Left x') = s x x'
  same_side s t (Right y) (Right y') = t y y'
  same_side s t (Left x) (Right y) = false
  same_side s t (Right y) (Left x) = false

  -- the sum of two complexes
  abbrev pub sum_complex : Complex X → Complex Y → Complex (Side X Y)
  sum_complex C D = record {
    generator = λ n. OfSide (C.generator n) (D.generator n);
    same = same_side C.same D.same;
    d = by_side (λ x. relabel Left (C.d x)) (λ y. relabel Right (D.d y));
  }

-- on each side the maps of that side
abbrev pub summed : {B S B' S' : Type 0} → Maps B S → Maps B' S' → Maps (Side B B') (Side S S')
summed m n = record {
  big = sum_complex m.big n.big;
  small = sum_complex m.small n.small;
  f = by_side (λ x. relabel Left (m.f x)) (λ y. relabel Right (n.f y));
  g = by_side (λ x. relabel Left (m.g x)) (λ y. relabel Right (n.g y));
  h = by_side (λ x. relabel Left (m.h x)) (λ y. relabel Right (n.h y));
}

-- what they ask
abbrev pub summed_lists : {B S B' S' A : Type 0} → Lists B S A → Lists B' S' A → Lists (Side B B') (Side S S') A
summed_lists a b = record {
  big_d = by_side a.big_d b.big_d;
  small_d = by_side a.small_d b.small_d;
  f = by_side a.f b.f;
  g = by_side a.g b.g;
  h = by_side a.h b.h;
}
