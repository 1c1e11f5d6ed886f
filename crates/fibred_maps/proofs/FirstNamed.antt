-- The maps of the first reduction with its twist are, in the names of the code, those of pairs and tensors of a fibred space.
use Rattle.std.proofs.Common.{◌≡◌, ℕ, zero, suc, ◌≤◌, sym, ◌∙◌, ap, arith}
use Rattle.std.specs.declared.cmp.Ordering.{Ordering}
use Rattle.fp_field.specs.Field.{number}
use Rattle.fp_field.specs.Chains.{Terms, Each}
use Rattle.fp_field.specs.Normal.{apply}
use Rattle.fp_field.specs.Reduction.{Maps, after}
use Rattle.fp_field.specs.Series.{series}
use Rattle.spaces.specs.EilenbergZilber.{Pair, Tensor, pair_order, tensor_order, aw, eml, flow}
use Rattle.values.specs.Perturbed.{p1, s1, to_tensors, to_pairs, r}
use Rattle.values.specs.Rules.{named}
use Rattle.reduct_laws.specs.Lists.{Lists}
use Rattle.twice_perturbed.specs.Firsts.{First, lowered, lifted, raised, difference}
use Rattle.twice_perturbed.proofs.FirstAlong.{difference-is}
use Rattle.fibred_maps.specs.Fibred.{Fibred, below}
use Rattle.fibred_maps.specs.Joined.{Keeps, Carries, IsJoined}
use Rattle.fibred_maps.proofs.NamedChains.{Tells, apply-carried, apply-each, after-carried, series-carried, series-each}

-- no generator lies below degree 0, so each fact holds there
pub below-carries : {A B C D : Type 0} (p : ℕ) (cmp : D → D → Ordering) (P : ℕ → A → Type 0) (Q : ℕ → C → Type 0) (q : A → B) (r : C → D) (f : A → Terms C) (g : B → Terms D)
    (top : ℕ) → ((n : ℕ) → n ≤ top → Carries p cmp (P n) (Q n) q r f g) → (n : ℕ) → n ≤ top → Carries p cmp (below P n) (below Q n) q r f g
below-carries p cmp P Q q r f g top h zero w = record { read = λ x u. absurd u; has = λ x u. absurd u }
below-carries p cmp P Q q r f g top h (suc n) w = h n (omega (arith, w))

pub below-keeps : {X Y : Type 0} (q : X → Y) (cmp : X → X → Ordering) (cmp' : Y → Y → Ordering) (P : ℕ → X → Type 0)
    (top : ℕ) → ((n : ℕ) → n ≤ top → Keeps q cmp cmp' (P n)) → (n : ℕ) → n ≤ top → Keeps q cmp cmp' (below P n)
below-keeps q cmp cmp' P top h zero w = λ x y u k. absurd u
below-keeps q cmp cmp' P top h (suc n) w = h n (omega (arith, w))

module _ {B M N A : Type 0} (by_big : B → B → Ordering) (ob : Tells by_big) (by_middle : M → M → Ordering) (om : Tells by_middle) (by_small : N → N → Ordering)
    (s : Fibred B M N A) (a : First B M) (m : Maps M N) (l : Lists M N A) (j : IsJoined by_big by_middle by_small s a m l) where
  abbrev p : ℕ
  p = number a.prime

  abbrev pub pairs_by : Pair s.Base s.Fibre → Pair s.Base s.Fibre → Ordering
  pairs_by = pair_order p s.base_set s.fibre_set

  abbrev pub tensors_by : Tensor s.Base s.Fibre → Tensor s.Base s.Fibre → Ordering
  tensors_by = tensor_order p s.base_set s.fibre_set

  abbrev k_of : Pair s.Base s.Fibre → Terms (Pair s.Base s.Fibre)
  k_of = flow p s.base_set s.fibre_set

  -- ---- the maps of the space on chains

  abbrev pub p1_of : ℕ → Terms (Pair s.Base s.Fibre) → Terms (Pair s.Base s.Fibre)
  p1_of n c = p1 p s.base_set s.fibre_set s.base s.fibre s.twist n c

  abbrev pub s1_of : ℕ → Terms (Pair s.Base s.Fibre) → Terms (Pair s.Base s.Fibre)
  s1_of n c = s1 p s.base_set s.fibre_set s.base s.fibre s.twist n c

  abbrev pub tensors_of : Terms (Pair s.Base s.Fibre) → Terms (Tensor s.Base s.Fibre)
  tensors_of c = to_tensors p s.base_set s.fibre_set s.base s.fibre s.twist c

  abbrev pub pairs_of : Terms (Tensor s.Base s.Fibre) → Terms (Pair s.Base s.Fibre)
  pairs_of c = to_pairs p s.base_set s.fibre_set s.base s.fibre s.twist c

  abbrev pub r_of : ℕ → Terms (Tensor s.Base s.Fibre) → Terms (Tensor s.Base s.Fibre)
  r_of n c = r p s.base_set s.fibre_set s.base s.fibre s.twist n c

  abbrev pub flow_of : Terms (Pair s.Base s.Fibre) → Terms (Pair s.Base s.Fibre)
  flow_of c = apply pairs_by p k_of c

  -- ---- orders and maps below a degree

  pub middle-keeps : (n : ℕ) → n ≤ s.top → Keeps s.tensor tensors_by by_middle (below s.IsTensor n)
  middle-keeps = below-keeps s.tensor tensors_by by_middle s.IsTensor s.top j.orders.tensors

  front-below : (n : ℕ) → n ≤ s.top → Carries p by_middle (below s.IsPair n) (below s.IsTensor n) s.pair s.tensor (aw p s.base_set s.fibre_set) a.maps.f
  front-below = below-carries p by_middle s.IsPair s.IsTensor s.pair s.tensor (aw p s.base_set s.fibre_set) a.maps.f s.top j.first.front

  pairs-below : (n : ℕ) → n ≤ s.top → Keeps s.pair pairs_by by_big (below s.IsPair n)
  pairs-below = below-keeps s.pair pairs_by by_big s.IsPair s.top j.orders.pairs

  -- the flow after the twist, and the twist after the flow
  flow-twist : (n : ℕ) → n ≤ s.top → Carries p by_big (s.IsPair n) (s.IsPair n) s.pair s.pair (after k_of s.twist) (after a.maps.h a.twist)
  flow-twist n w =
      after-carried a.prime by_big ob by_big ob (s.IsPair n) (below s.IsPair n) (s.IsPair n) s.pair s.pair s.pair s.twist a.twist k_of a.maps.h
      (j.first.twist n w) (j.first.flow n w)

  twist-flow : (n : ℕ) → suc n ≤ s.top → Carries p by_big (s.IsPair n) (s.IsPair n) s.pair s.pair (after s.twist k_of) (after a.twist a.maps.h)
  twist-flow n w =
      after-carried a.prime by_big ob by_big ob (s.IsPair n) (s.IsPair (suc n)) (s.IsPair n) s.pair s.pair s.pair k_of a.maps.h s.twist a.twist
      (j.first.flow (suc n) w) (j.first.twist (suc n) w)

  -- ---- P1 of Eilenberg-Mac Lane

  module _ (n : ℕ) (w : n ≤ s.top) (c : Terms (Tensor s.Base s.Fibre)) (e : Each (s.IsTensor n) c) where
    shuffled : apply by_big p a.maps.g (named s.tensor c) ≡ named s.pair (pairs_of c)
    shuffled =
        apply-carried a.prime by_big ob (s.IsTensor n) (s.IsPair n) s.tensor s.pair (eml p s.base_set s.fibre_set) a.maps.g (j.first.shuffle n w) pairs_by
        (j.orders.pairs n w) c e

    shuffled-each : Each (s.IsPair n) (pairs_of c)
    shuffled-each =
        apply-each a.prime by_big ob (s.IsTensor n) (s.IsPair n) s.tensor s.pair (eml p s.base_set s.fibre_set) a.maps.g (j.first.shuffle n w) pairs_by c e

    pub lifted-named : lifted by_big by_middle a (suc n) (named s.tensor c) ≡ named s.pair (p1_of n (pairs_of c))
    lifted-named =
        ap (λ d. series by_big p (suc n) (after a.maps.h a.twist) d) shuffled
        ∙ series-carried a.prime pairs_by by_big ob (s.IsPair n) s.pair (j.orders.pairs n w) (after k_of s.twist) (after a.maps.h a.twist) (flow-twist n w) (suc n) (pairs_of c) shuffled-each

    pub lifted-each : Each (s.IsPair n) (p1_of n (pairs_of c))
    lifted-each =
        series-each a.prime pairs_by by_big ob (s.IsPair n) s.pair (j.orders.pairs n w) (after k_of s.twist) (after a.maps.h a.twist) (flow-twist n w) (suc n) (pairs_of c) shuffled-each

    -- ---- the difference

    abbrev turned : Terms (Pair s.Base s.Fibre)
    turned = apply pairs_by p s.twist (p1_of n (pairs_of c))

    turned-each : Each (below s.IsPair n) turned
    turned-each = apply-each a.prime by_big ob (s.IsPair n) (below s.IsPair n) s.pair s.pair s.twist a.twist (j.first.twist n w) pairs_by (p1_of n (pairs_of c)) lifted-each

    turned-named : apply by_big p a.twist (lifted by_big by_middle a (suc n) (named s.tensor c)) ≡ named s.pair turned
    turned-named =
        ap (apply by_big p a.twist) lifted-named
        ∙ apply-carried a.prime by_big ob (s.IsPair n) (below s.IsPair n) s.pair s.pair s.twist a.twist (j.first.twist n w) pairs_by (pairs-below n w) (p1_of n (pairs_of c)) lifted-each

    pub differ-named : apply by_middle p (difference by_big by_middle a (suc n)) (named s.tensor c) ≡ named s.tensor (r_of n c)
    differ-named =
        sym (difference-is by_big ob.one_key ob.total by_middle om.one_key om.total a (suc n) (named s.tensor c))
        ∙ ap (apply by_middle p a.maps.f) turned-named
        ∙ apply-carried a.prime by_middle om (below s.IsPair n) (below s.IsTensor n) s.pair s.tensor (aw p s.base_set s.fibre_set) a.maps.f (front-below n w) tensors_by
        (middle-keeps n w) turned turned-each

    pub differ-each : Each (below s.IsTensor n) (r_of n c)
    differ-each =
        apply-each a.prime by_middle om (below s.IsPair n) (below s.IsTensor n) s.pair s.tensor (aw p s.base_set s.fibre_set) a.maps.f (front-below n w) tensors_by turned turned-each

  module _ (n : ℕ) (w : suc n ≤ s.top) (c : Terms (Pair s.Base s.Fibre)) (e : Each (s.IsPair n) c) where
    fits : n ≤ s.top
    fits = omega (arith, w)

    -- ---- Alexander-Whitney of S1

    pub lowered-named : lowered by_big by_middle a (suc n) (named s.pair c) ≡ named s.tensor (tensors_of (s1_of n c))
    lowered-named =
        ap (apply by_middle p a.maps.f)
        (series-carried a.prime pairs_by by_big ob (s.IsPair n) s.pair (j.orders.pairs n fits) (after s.twist k_of) (after a.twist a.maps.h) (twist-flow n w) (suc n) c e)
        ∙ apply-carried a.prime by_middle om (s.IsPair n) (s.IsTensor n) s.pair s.tensor (aw p s.base_set s.fibre_set) a.maps.f (j.first.front n fits) tensors_by
        (j.orders.tensors n fits) (s1_of n c) summed
      where
        summed : Each (s.IsPair n) (s1_of n c)
        summed = series-each a.prime pairs_by by_big ob (s.IsPair n) s.pair (j.orders.pairs n fits) (after s.twist k_of) (after a.twist a.maps.h) (twist-flow n w) (suc n) c e

    pub lowered-each : Each (s.IsTensor n) (tensors_of (s1_of n c))
    lowered-each =
        apply-each a.prime by_middle om (s.IsPair n) (s.IsTensor n) s.pair s.tensor (aw p s.base_set s.fibre_set) a.maps.f (j.first.front n fits) tensors_by (s1_of n c)
        (series-each a.prime pairs_by by_big ob (s.IsPair n) s.pair (j.orders.pairs n fits) (after s.twist k_of) (after a.twist a.maps.h) (twist-flow n w) (suc n) c e)

    -- ---- P1 of the flow

    flowed-each : Each (s.IsPair (suc n)) (flow_of c)
    flowed-each = apply-each a.prime by_big ob (s.IsPair n) (s.IsPair (suc n)) s.pair s.pair k_of a.maps.h (j.first.flow (suc n) w) pairs_by c e

    pub raised-named : raised by_big by_middle a (suc (suc n)) (named s.pair c) ≡ named s.pair (p1_of (suc n) (flow_of c))
    raised-named =
        ap (λ d. series by_big p (suc (suc n)) (after a.maps.h a.twist) d)
        (apply-carried a.prime by_big ob (s.IsPair n) (s.IsPair (suc n)) s.pair s.pair k_of a.maps.h (j.first.flow (suc n) w) pairs_by (j.orders.pairs (suc n) w) c e)
        ∙ series-carried a.prime pairs_by by_big ob (s.IsPair (suc n)) s.pair (j.orders.pairs (suc n) w) (after k_of s.twist) (after a.maps.h a.twist) (flow-twist (suc n) w)
        (suc (suc n)) (flow_of c) flowed-each

    pub raised-each : Each (s.IsPair (suc n)) (p1_of (suc n) (flow_of c))
    raised-each =
        series-each a.prime pairs_by by_big ob (s.IsPair (suc n)) s.pair (j.orders.pairs (suc n) w) (after k_of s.twist) (after a.maps.h a.twist) (flow-twist (suc n) w)
        (suc (suc n)) (flow_of c) flowed-each
