-- F and H of the code come to those of a fibred space, and ask the same.
use Rattle.std.proofs.Common.{◌≡◌, ℕ, suc, ◌+◌, ◌<◌, ◌≤◌, List, [], ◌++◌, sym, ◌∙◌, ap, arith}
use Rattle.std.specs.declared.cmp.Ordering.{Ordering}
use Rattle.fp_field.specs.Field.{number}
use Rattle.fp_field.specs.Chains.{Terms, Each}
use Rattle.fp_field.specs.Normal.{normal, apply}
use Rattle.fp_field.specs.Reduction.{Maps, after}
use Rattle.fp_field.specs.Series.{series}
use Rattle.fp_field.proofs.Weights.{Each-append}
use Rattle.chain_core.specs.Asks.{asks_along}
use Rattle.spaces.specs.EilenbergZilber.{Pair, Tensor}
use Rattle.values.specs.Asks.{Right, gives, ◌>>=◌, on_chain}
use Rattle.values.specs.Perturbed.{f_f, p2, s2, r_after_t, smalls_by, total_f, total_h}
use Rattle.values.specs.Rules.{named}
use Rattle.oracle_iface.proofs.CarriedChains.{carried-normal}
use Rattle.reduct_laws.specs.Lists.{Lists}
use Rattle.perturb.specs.PerturbedLists.{series_asks}
use Rattle.twice_perturbed.specs.Firsts.{First, lowered, lifted, raised, difference}
use Rattle.twice_perturbed.specs.Twice.{f_start, f_middle, h_start, h_middle, twice_f, twice_h, twice_f_asks, twice_h_asks}
use Rattle.fibred_maps.specs.Fibred.{Fibred, NamesPair, keys_of, value_of, f_value, f_keys, h_value, h_keys}
use Rattle.fibred_maps.specs.Joined.{IsJoined}
use Rattle.fibred_maps.proofs.NamedChains.{Tells, named-append, apply-carried}
use Rattle.fibred_maps.proofs.RightSides.{keys-bind, keys-then, value-bind, value-on, on-named, sum-keys, sum-value, sum-each}
use Rattle.fibred_maps.proofs.FirstNamed.{pairs_by, tensors_by, p1_of, s1_of, tensors_of, pairs_of, r_of, flow_of, lifted-named, lifted-each, lowered-named, lowered-each, raised-named, raised-each}
use Rattle.fibred_maps.proofs.NamesBack.{pairs-back, pairs-each}
use Rattle.fibred_maps.proofs.SecondNamed.{on_t_of, homotopy-named, homotopy-each, homotopy-keys, p2-step, s2-step}

pub one-more : (n : ℕ) → n + 1 ≡ suc n
one-more n = omega arith

pub two-more : (n : ℕ) → n + 2 ≡ suc (suc n)
two-more n = omega arith

module _ {B M N A : Type 0} (by_big : B → B → Ordering) (ob : Tells by_big) (by_middle : M → M → Ordering) (om : Tells by_middle) (by_small : N → N → Ordering) (os : Tells by_small)
    (s : Fibred B M N A) (a : First B M) (m : Maps M N) (l : Lists M N A) (j : IsJoined by_big by_middle by_small s a m l)
    (n : ℕ) (w : suc n ≤ s.top) (c : Terms (Pair s.Base s.Fibre)) (e : Each (s.IsPair n) c) where
  abbrev p : ℕ
  p = number a.prime

  abbrev by : Tensor s.Base s.Fibre → Tensor s.Base s.Fibre → Ordering
  by = tensors_by by_big ob by_middle om by_small s a m l j

  abbrev by_smalls : s.BaseSmall × s.FibreSmall → s.BaseSmall × s.FibreSmall → Ordering
  by_smalls = smalls_by p s.base_set s.fibre_set s.base s.fibre s.twist

  abbrev none : M → List A
  none x = []

  abbrev differ : ℕ → M → Terms M
  differ k x = difference by_big by_middle a k x

  fits : n ≤ s.top
  fits = omega (arith, w)

  abbrev f_of : Tensor s.Base s.Fibre → Right (Terms (s.BaseSmall × s.FibreSmall))
  f_of z = f_f p s.base_set s.fibre_set s.base s.fibre s.twist z

  -- ---- Alexander-Whitney of S1

  abbrev start : Terms (Tensor s.Base s.Fibre)
  start = tensors_of by_big ob by_middle om by_small s a m l j (s1_of by_big ob by_middle om by_small s a m l j n c)

  start-each : Each (s.IsTensor n) start
  start-each = lowered-each by_big ob by_middle om by_small s a m l j n w c e

  start-named : f_start by_big by_middle a m n (named s.pair c) ≡ named s.tensor start
  start-named =
      ap (λ k. lowered by_big by_middle a k (named s.pair c)) (one-more n) ∙ lowered-named by_big ob by_middle om by_small s a m l j n w c e

  -- ---- F

  abbrev s2_side : Right (Terms (Tensor s.Base s.Fibre))
  s2_side = s2 p s.base_set s.fibre_set s.base s.fibre s.twist n start

  abbrev s2_step : Terms (Tensor s.Base s.Fibre) → Right (Terms (Tensor s.Base s.Fibre))
  s2_step d = r_after_t p s.base_set s.fibre_set s.base s.fibre s.twist n d

  abbrev s2_sum : Terms (Tensor s.Base s.Fibre)
  s2_sum = value_of s a.prime s2_side

  s2-each : Each (s.IsTensor n) s2_sum
  s2-each =
      sum-each s a.prime by by_middle (s.IsTensor n) s.tensor s2_step m.h (differ (suc (suc n))) l.h none
      (s2-step by_big ob by_middle om by_small s a m l j n w) (suc n) start start-each

  s2-named : f_middle by_big by_middle a m n (named s.pair c) ≡ named s.tensor s2_sum
  s2-named =
      (λ i. series by_middle p (one-more n i) (after (differ (two-more n i)) m.h) (start-named i))
      ∙ sum-value s a.prime by by_middle (s.IsTensor n) s.tensor s2_step m.h (differ (suc (suc n))) l.h none
      (s2-step by_big ob by_middle om by_small s a m l j n w) (j.orders.tensors n fits) (suc n) start start-each

  abbrev f_last : Terms (Tensor s.Base s.Fibre) → Right (Terms (s.BaseSmall × s.FibreSmall))
  f_last d = on_chain by_smalls p f_of d

  pub f-value : twice_f by_big by_middle a m n by_small (named s.pair c)
      ≡ named s.small (value_of s a.prime (total_f p s.base_set s.fibre_set s.base s.fibre s.twist n c))
  f-value =
      ap (apply by_small p m.f) s2-named
      ∙ apply-carried a.prime by_small os (s.IsTensor n) (s.IsSmall n) s.tensor s.small (λ z. value_of s a.prime (f_of z)) m.f (j.second.f n fits) by_smalls
      (j.orders.smalls n fits) s2_sum s2-each
      ∙ ap (named s.small) (sym (value-on s a.prime f_of by_smalls s2_sum) ∙ sym (value-bind s a.prime s2_side f_last))

  pub f-keys : twice_f_asks by_big by_middle a m n l (named s.pair c)
      ≡ keys_of s a.prime (total_f p s.base_set s.fibre_set s.base s.fibre s.twist n c)
  f-keys =
      (λ i. series_asks by_middle p m.h (differ (two-more n i)) l.h none (one-more n i) (start-named i) ++ asks_along l.f (s2-named i))
      ∙ (λ i. s2-keys i ++ last-keys i)
      ∙ sym (keys-bind s a.prime s2_side f_last)
    where
      s2-keys : series_asks by_middle p m.h (differ (suc (suc n))) l.h none (suc n) (named s.tensor start) ≡ keys_of s a.prime s2_side
      s2-keys =
          sum-keys s a.prime by by_middle (s.IsTensor n) s.tensor s2_step m.h (differ (suc (suc n))) l.h none
          (s2-step by_big ob by_middle om by_small s a m l j n w) (suc n) start start-each

      last-keys : asks_along l.f (named s.tensor s2_sum) ≡ keys_of s a.prime (f_last s2_sum)
      last-keys = on-named s a.prime f_of s.tensor (s.IsTensor n) l.f (λ x u. j.asks.f n x fits u) by_smalls s2_sum s2-each

  -- ---- H

  abbrev first_side : Right (Terms (Tensor s.Base s.Fibre))
  first_side = on_t_of by_big ob by_middle om by_small s a m l j start

  abbrev moved : Terms (Tensor s.Base s.Fibre)
  moved = value_of s a.prime first_side

  moved-each : Each (s.IsTensor (suc n)) moved
  moved-each = homotopy-each by_big ob by_middle om by_small s a m l j (suc n) w start start-each

  moved-named : h_start by_big by_middle a m n (named s.pair c) ≡ named s.tensor moved
  moved-named = ap (apply by_middle p m.h) start-named ∙ homotopy-named by_big ob by_middle om by_small s a m l j (suc n) w start start-each

  abbrev p2_side : Terms (Tensor s.Base s.Fibre) → Right (Terms (Tensor s.Base s.Fibre))
  p2_side d = p2 p s.base_set s.fibre_set s.base s.fibre s.twist (suc n) d

  abbrev p2_step : Terms (Tensor s.Base s.Fibre) → Right (Terms (Tensor s.Base s.Fibre))
  p2_step d = on_t_of by_big ob by_middle om by_small s a m l j (r_of by_big ob by_middle om by_small s a m l j (suc n) d)

  abbrev p2_sum : Terms (Tensor s.Base s.Fibre)
  p2_sum = value_of s a.prime (p2_side moved)

  p2-each : Each (s.IsTensor (suc n)) p2_sum
  p2-each =
      sum-each s a.prime by by_middle (s.IsTensor (suc n)) s.tensor p2_step (differ (suc (suc n))) m.h none l.h
      (p2-step by_big ob by_middle om by_small s a m l j (suc n) w) (suc (suc n)) moved moved-each

  p2-named : h_middle by_big by_middle a m n (named s.pair c) ≡ named s.tensor p2_sum
  p2-named =
      (λ i. series by_middle p (two-more n i) (after m.h (differ (two-more n i))) (moved-named i))
      ∙ sum-value s a.prime by by_middle (s.IsTensor (suc n)) s.tensor p2_step (differ (suc (suc n))) m.h none l.h
      (p2-step by_big ob by_middle om by_small s a m l j (suc n) w) (j.orders.tensors (suc n) w) (suc (suc n)) moved moved-each

  abbrev raised_part : Terms (Pair s.Base s.Fibre)
  raised_part = p1_of by_big ob by_middle om by_small s a m l j (suc n) (flow_of by_big ob by_middle om by_small s a m l j c)

  abbrev lifted_part : Terms (Tensor s.Base s.Fibre) → Terms (Pair s.Base s.Fibre)
  lifted_part d = p1_of by_big ob by_middle om by_small s a m l j (suc n) (pairs_of by_big ob by_middle om by_small s a m l j d)

  abbrev h_sum : Terms (Tensor s.Base s.Fibre) → Terms (Pair s.Base s.Fibre)
  h_sum d = normal (pairs_by by_big ob by_middle om by_small s a m l j) p (raised_part ++ lifted_part d)

  h-both : normal by_big p (named s.pair raised_part ++ named s.pair (lifted_part p2_sum)) ≡ named s.pair (h_sum p2_sum)
  h-both =
      ap (normal by_big p) (sym (named-append s.pair raised_part (lifted_part p2_sum)))
      ∙ carried-normal s.pair (pairs_by by_big ob by_middle om by_small s a m l j) by_big p (s.IsPair (suc n)) (j.orders.pairs (suc n) w) (raised_part ++ lifted_part p2_sum)
      (Each-append (s.IsPair (suc n)) raised_part (lifted_part p2_sum) (raised-each by_big ob by_middle om by_small s a m l j n w c e)
      (lifted-each by_big ob by_middle om by_small s a m l j (suc n) w p2_sum p2-each))

  pub h-value : twice_h by_big by_middle a m n (named s.pair c)
      ≡ named s.pair (value_of s a.prime (total_h p s.base_set s.fibre_set s.base s.fibre s.twist n c))
  h-value =
      (λ i. normal by_big p (raised by_big by_middle a (two-more n i) (named s.pair c) ++ lifted by_big by_middle a (two-more n i) (p2-named i)))
      ∙ (λ i. normal by_big p (raised-named by_big ob by_middle om by_small s a m l j n w c e i ++ lifted-named by_big ob by_middle om by_small s a m l j (suc n) w p2_sum p2-each i))
      ∙ h-both
      ∙ ap (named s.pair) (sym (value-bind s a.prime first_side (λ d. p2_side d >>= λ u. gives (h_sum u)) ∙ value-bind s a.prime (p2_side moved) (λ u. gives (h_sum u))))

  pub h-keys : twice_h_asks by_big by_middle a m n l (named s.pair c)
      ≡ keys_of s a.prime (total_h p s.base_set s.fibre_set s.base s.fibre s.twist n c)
  h-keys =
      (λ i. asks_along l.h (start-named i) ++ series_asks by_middle p (differ (two-more n i)) m.h none l.h (two-more n i) (moved-named i))
      ∙ (λ i. homotopy-keys by_big ob by_middle om by_small s a m l j (suc n) w start start-each i ++ p2-keys i)
      ∙ sym (keys-bind s a.prime first_side (λ d. p2_side d >>= λ u. gives (h_sum u)) ∙ ap (λ ks. keys_of s a.prime first_side ++ ks) (keys-then s a.prime (p2_side moved) h_sum))
    where
      p2-keys : series_asks by_middle p (differ (suc (suc n))) m.h none l.h (suc (suc n)) (named s.tensor moved) ≡ keys_of s a.prime (p2_side moved)
      p2-keys =
          sum-keys s a.prime by by_middle (s.IsTensor (suc n)) s.tensor p2_step (differ (suc (suc n))) m.h none l.h
          (p2-step by_big ob by_middle om by_small s a m l j (suc n) w) (suc (suc n)) moved moved-each

-- ---- on names

module _ {B M N A : Type 0} (by_big : B → B → Ordering) (ob : Tells by_big) (by_middle : M → M → Ordering) (om : Tells by_middle) (by_small : N → N → Ordering) (os : Tells by_small)
    (s : Fibred B M N A) (a : First B M) (m : Maps M N) (l : Lists M N A) (j : IsJoined by_big by_middle by_small s a m l)
    (n : ℕ) (w : n < s.top) (c : Terms B) (e : Each (NamesPair s a.prime n) c) where
  next : suc n ≤ s.top
  next = omega (arith, w)

  pub f-value-is : twice_f by_big by_middle a m n by_small c ≡ f_value s a.prime n c
  f-value-is =
      ap (twice_f by_big by_middle a m n by_small) (pairs-back s a.prime n c e)
      ∙ f-value by_big ob by_middle om by_small os s a m l j n next (named s.pair_of c) (pairs-each s a.prime n c e)

  pub f-keys-are : twice_f_asks by_big by_middle a m n l c ≡ f_keys s a.prime n c
  f-keys-are =
      ap (twice_f_asks by_big by_middle a m n l) (pairs-back s a.prime n c e)
      ∙ f-keys by_big ob by_middle om by_small os s a m l j n next (named s.pair_of c) (pairs-each s a.prime n c e)

  pub h-value-is : twice_h by_big by_middle a m n c ≡ h_value s a.prime n c
  h-value-is =
      ap (twice_h by_big by_middle a m n) (pairs-back s a.prime n c e)
      ∙ h-value by_big ob by_middle om by_small os s a m l j n next (named s.pair_of c) (pairs-each s a.prime n c e)

  pub h-keys-are : twice_h_asks by_big by_middle a m n l c ≡ h_keys s a.prime n c
  h-keys-are =
      ap (twice_h_asks by_big by_middle a m n l) (pairs-back s a.prime n c e)
      ∙ h-keys by_big ob by_middle om by_small os s a m l j n next (named s.pair_of c) (pairs-each s a.prime n c e)
