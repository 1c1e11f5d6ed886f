-- A reduction whose big differential is twisted, and a second one, of its small complex, that is perturbed by what the twist has become there
-- (Shih 1962; Rubio and Sergeraert, Constructive Homological Algebra and Applications, chapter 3). P1 and S1 are the two series of the first
-- reduction, r = f q P1 g is the difference, and P2 and S2 are the series of the second.
--
--   F = f S2 f S1,   G = P1 g P2 g,   H = P1 h + P1 g P2 h f S1,   d + f r P2 g
--
-- In degree n a series has n + 1 terms, and n + 2 after a homotopy. The first reduction asks nothing. Maps act from right to left, each on a
-- whole chain, so that the keys are asked for in this order.
--
--   where the twist is 0, F is f f, G is g g, H is h + g h f, and the small differential is that of the second reduction
use Rattle.std.specs.Prelude.{ℕ, ◌+◌, List, [], ◌++◌, Option}
use Rattle.std.specs.declared.cmp.Ordering.{Ordering}
use Rattle.fp_field.specs.Field.{number}
use Rattle.fp_field.specs.Chains.{Terms, Each}
use Rattle.fp_field.specs.Normal.{normal, apply}
use Rattle.fp_field.specs.Reduction.{Maps, after}
use Rattle.fp_field.specs.Series.{series}
use Rattle.chain_core.specs.Asks.{asks_along, NoneRefused}
use Rattle.reduct_laws.specs.Lists.{Lists}
use Rattle.perturb.specs.Perturbation.{perturbed_by}
use Rattle.perturb.specs.PerturbedLists.{g_chain, series_asks, series_may_ask, perturbed_g_asks, perturbed_d_asks}
use Rattle.twice_perturbed.specs.Firsts.{First, lowered, lifted, raised, difference, MayLower, MayRaise, MayDiffer}

module _ {B M S : Type 0} (by_big : B → B → Ordering) (by_middle : M → M → Ordering) (a : First B M) (t : Maps M S) (n : ℕ) where
  abbrev p : ℕ
  p = number a.prime

  abbrev r : ℕ → M → Terms M
  r m = difference by_big by_middle a m

  -- ---- the chains of the middle complex

  -- f S1
  abbrev pub f_start : Terms B → Terms M
  f_start c = lowered by_big by_middle a (n + 1) c

  -- S2 f S1
  abbrev pub f_middle : Terms B → Terms M
  f_middle c = series by_middle p (n + 1) (after (r (n + 2)) t.h) (f_start c)

  -- P2 g
  abbrev pub g_middle : S → Terms M
  g_middle y = g_chain by_middle p (n + 1) t (r (n + 1)) y

  -- h f S1
  abbrev pub h_start : Terms B → Terms M
  h_start c = apply by_middle p t.h (f_start c)

  -- P2 h f S1
  abbrev pub h_middle : Terms B → Terms M
  h_middle c = series by_middle p (n + 2) (after t.h (r (n + 2))) (h_start c)

  -- ---- the four maps

  abbrev pub twice_f : (S → S → Ordering) → Terms B → Terms S
  twice_f by_small c = apply by_small p t.f (f_middle c)

  abbrev pub twice_g : S → Terms B
  twice_g y = lifted by_big by_middle a (n + 1) (g_middle y)

  abbrev pub twice_h : Terms B → Terms B
  twice_h c = normal by_big p (raised by_big by_middle a (n + 2) c ++ lifted by_big by_middle a (n + 2) (h_middle c))

  abbrev pub twice_d : (S → S → Ordering) → S → Terms S
  twice_d by_small y = normal by_small p ((perturbed_by by_middle p (λ z. n + 1) t (r (n + 1))).small.d y)

  -- ---- what they ask

  module _ {A : Type 0} (l : Lists M S A) where
    abbrev none : M → List A
    none x = []

    abbrev pub twice_f_asks : Terms B → List A
    twice_f_asks c = series_asks by_middle p t.h (r (n + 2)) l.h none (n + 1) (f_start c) ++ asks_along l.f (f_middle c)

    abbrev pub twice_g_asks : S → List A
    twice_g_asks y = perturbed_g_asks by_middle p (n + 1) t (r (n + 1)) l none y

    abbrev pub twice_h_asks : Terms B → List A
    twice_h_asks c = asks_along l.h (f_start c) ++ series_asks by_middle p (r (n + 2)) t.h none l.h (n + 2) (h_start c)

    abbrev pub twice_d_asks : S → List A
    twice_d_asks y = perturbed_d_asks by_middle p (n + 1) t (r (n + 1)) l none y

    -- ---- where they may be asked, when the second reduction may be asked on such big generators

    module _ {R : Type 0} (refusal : A → Option R) (may_big : M → Type 0) where
      abbrev may_differ : ℕ → M → Type 0
      may_differ m = MayDiffer by_big by_middle a m

      abbrev pub MayAskF : Terms B → Type 0
      MayAskF c = MayLower by_big by_middle a (n + 1) c
          × series_may_ask by_middle p t.h (r (n + 2)) refusal l.h none may_big (may_differ (n + 2)) (n + 1) (f_start c)

      abbrev pub MayAskG : S → Type 0
      MayAskG y = NoneRefused refusal (l.g y)
          → series_may_ask by_middle p (r (n + 1)) t.h refusal none l.h (may_differ (n + 1)) may_big (n + 1) (normal by_middle p (t.g y))

      abbrev pub MayAskH : Terms B → Type 0
      MayAskH c = MayLower by_big by_middle a (n + 1) c × MayRaise by_big by_middle a (n + 2) c × Each may_big (f_start c)
          × (NoneRefused refusal (asks_along l.h (f_start c))
          → series_may_ask by_middle p (r (n + 2)) t.h refusal none l.h (may_differ (n + 2)) may_big (n + 2) (h_start c))
