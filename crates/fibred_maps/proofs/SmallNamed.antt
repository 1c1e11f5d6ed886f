-- G and the small differential of the code come to those of a fibred space, and ask the same.
use Rattle.std.proofs.Common.{◌≡◌, ℕ, zero, suc, ◌≤◌, List, [], ◌++◌, sym, ◌∙◌, ap, subst, arith}
use Rattle.std.proofs.lemmas.List.{append-nil, append_assoc}
use Rattle.std.specs.declared.cmp.Ordering.{Ordering}
use Rattle.fp_field.specs.Field.{number, sign}
use Rattle.fp_field.specs.Chains.{Terms, Each, scale, extend}
use Rattle.fp_field.specs.Normal.{normal, apply}
use Rattle.fp_field.specs.Reduction.{one, Maps, after}
use Rattle.fp_field.specs.Series.{series}
use Rattle.fp_field.proofs.Primes.{number_pos}
use Rattle.fp_field.proofs.Weights.{Each-append}
use Rattle.fp_field.proofs.Normals.{normal-extend}
use Rattle.chain_core.specs.Asks.{asks_along}
use Rattle.spaces.specs.EilenbergZilber.{Pair, Tensor}
use Rattle.values.specs.Asks.{Right, gives, ◌>>=◌, on_chain}
use Rattle.values.specs.Perturbed.{f_f, g_g, p2, smalls_by, small_terms, total_g, total_d}
use Rattle.values.specs.Rules.{named}
use Rattle.oracle_iface.proofs.CarriedChains.{carried-normal}
use Rattle.reduct_laws.specs.Lists.{Lists}
use Rattle.reduct_laws.proofs.NormalSteps.{normal-append}
use Rattle.perturb.specs.Perturbation.{perturbed_by, series_by}
use Rattle.perturb.specs.PerturbedLists.{series_asks, g_chain, perturbed_g_asks, perturbed_d_asks}
use Rattle.perturb.proofs.SeriesValues.{series-linear}
use Rattle.twice_perturbed.specs.Firsts.{First, lifted, difference}
use Rattle.twice_perturbed.specs.Twice.{g_middle, twice_g, twice_d, twice_g_asks, twice_d_asks}
use Rattle.twice_perturbed.proofs.NothingAsked.{none-along}
use Rattle.fibred_maps.specs.Fibred.{Fibred, below, keys_of, value_of}
use Rattle.fibred_maps.specs.Joined.{Keeps, Carries, untwisted_d, IsJoined}
use Rattle.fibred_maps.proofs.NamedChains.{Tells, named-append, apply-carried, apply-each}
use Rattle.fibred_maps.proofs.RightSides.{keys-bind, keys-then, value-bind, value-on, on-named, sum-keys, sum-value, sum-each}
use Rattle.fibred_maps.proofs.FirstNamed.{tensors_by, p1_of, pairs_of, r_of, lifted-named, differ-named, differ-each, below-carries, below-keeps}
use Rattle.fibred_maps.proofs.SecondNamed.{on_t_of, p2-step}
use Rattle.fibred_maps.proofs.BigNamed.{one-more}

-- a fact of the generators of each degree, of those below one
below-asks : {X : Type 0} (P : ℕ → X → Type 0) (top : ℕ) (Fact : X → Type 0) → ((n : ℕ) (x : X) → n ≤ top → P n x → Fact x)
    → (n : ℕ) → n ≤ top → (x : X) → below P n x → Fact x
below-asks P top Fact h zero w x u = absurd u
below-asks P top Fact h (suc n) w x u = h n x (omega (arith, w)) u

module _ {B M N A : Type 0} (by_big : B → B → Ordering) (ob : Tells by_big) (by_middle : M → M → Ordering) (om : Tells by_middle) (by_small : N → N → Ordering) (os : Tells by_small)
    (s : Fibred B M N A) (a : First B M) (m : Maps M N) (l : Lists M N A) (j : IsJoined by_big by_middle by_small s a m l)
    (n : ℕ) (w : n ≤ s.top) (y : s.BaseSmall × s.FibreSmall) (e : s.IsSmall n y) where
  abbrev p : ℕ
  p = number a.prime

  abbrev by : Tensor s.Base s.Fibre → Tensor s.Base s.Fibre → Ordering
  by = tensors_by by_big ob by_middle om by_small s a m l j

  abbrev by_smalls : s.BaseSmall × s.FibreSmall → s.BaseSmall × s.FibreSmall → Ordering
  by_smalls = smalls_by p s.base_set s.fibre_set s.base s.fibre s.twist

  abbrev none : M → List A
  none x = []

  abbrev differ : ℕ → M → Terms M
  differ k x = difference by_big by_middle a k x

  abbrev r_on : Terms (Tensor s.Base s.Fibre) → Terms (Tensor s.Base s.Fibre)
  r_on d = r_of by_big ob by_middle om by_small s a m l j n d

  -- ---- G of base and fibre, and P2 of it

  abbrev g_first : Right (Terms (Tensor s.Base s.Fibre))
  g_first = g_g p s.base_set s.fibre_set s.base s.fibre s.twist y

  abbrev start : Terms (Tensor s.Base s.Fibre)
  start = value_of s a.prime g_first

  abbrev p2_side : Terms (Tensor s.Base s.Fibre) → Right (Terms (Tensor s.Base s.Fibre))
  p2_side d = p2 p s.base_set s.fibre_set s.base s.fibre s.twist n d

  abbrev p2_step : Terms (Tensor s.Base s.Fibre) → Right (Terms (Tensor s.Base s.Fibre))
  p2_step d = on_t_of by_big ob by_middle om by_small s a m l j (r_on d)

  abbrev p2_sum : Terms (Tensor s.Base s.Fibre)
  p2_sum = value_of s a.prime (p2_side start)

  p2-each : Each (s.IsTensor n) p2_sum
  p2-each =
      sum-each s a.prime by by_middle (s.IsTensor n) s.tensor p2_step (differ (suc n)) m.h none l.h
      (p2-step by_big ob by_middle om by_small s a m l j n w) (suc n) start (j.second.g_has n y w e)

  -- P2 g of the small cell, not in normal form
  abbrev raw : Terms M
  raw = after (series_by by_middle p (λ z. suc n) (after m.h (differ (suc n)))) m.g (s.small y)

  raw-named : normal by_middle p raw ≡ named s.tensor p2_sum
  raw-named =
      sym (series-linear p (number_pos a.prime) by_middle om.one_key om.total (after m.h (differ (suc n))) (suc n) (m.g (s.small y)))
      ∙ ap (λ d. series by_middle p (suc n) (after m.h (differ (suc n))) d) (j.second.g n y w e)
      ∙ sum-value s a.prime by by_middle (s.IsTensor n) s.tensor p2_step (differ (suc n)) m.h none l.h
      (p2-step by_big ob by_middle om by_small s a m l j n w) (j.orders.tensors n w) (suc n) start (j.second.g_has n y w e)

  middle-named : g_middle by_big by_middle a m n (s.small y) ≡ named s.tensor p2_sum
  middle-named = (λ i. g_chain by_middle p (one-more n i) m (differ (one-more n i)) (s.small y)) ∙ raw-named

  series-keys : series_asks by_middle p (differ (suc n)) m.h none l.h (suc n) (normal by_middle p (m.g (s.small y))) ≡ keys_of s a.prime (p2_side start)
  series-keys =
      ap (series_asks by_middle p (differ (suc n)) m.h none l.h (suc n)) (j.second.g n y w e)
      ∙ sum-keys s a.prime by by_middle (s.IsTensor n) s.tensor p2_step (differ (suc n)) m.h none l.h
      (p2-step by_big ob by_middle om by_small s a m l j n w) (suc n) start (j.second.g_has n y w e)

  -- ---- G

  abbrev g_last : Terms (Tensor s.Base s.Fibre) → Terms (Pair s.Base s.Fibre)
  g_last d = p1_of by_big ob by_middle om by_small s a m l j n (pairs_of by_big ob by_middle om by_small s a m l j d)

  pub g-value : twice_g by_big by_middle a m n (s.small y)
      ≡ named s.pair (value_of s a.prime (total_g p s.base_set s.fibre_set s.base s.fibre s.twist n y))
  g-value =
      (λ i. lifted by_big by_middle a (one-more n i) (middle-named i))
      ∙ lifted-named by_big ob by_middle om by_small s a m l j n w p2_sum p2-each
      ∙ ap (named s.pair) (sym (value-bind s a.prime g_first (λ d. p2_side d >>= λ u. gives (g_last u)) ∙ value-bind s a.prime (p2_side start) (λ u. gives (g_last u))))

  pub g-keys : twice_g_asks by_big by_middle a m n l (s.small y)
      ≡ keys_of s a.prime (total_g p s.base_set s.fibre_set s.base s.fibre s.twist n y)
  g-keys =
      (λ i. perturbed_g_asks by_middle p (one-more n i) m (differ (one-more n i)) l none (s.small y))
      ∙ (λ i. j.asks.g n y w e i ++ series-keys i)
      ∙ sym (keys-bind s a.prime g_first (λ d. p2_side d >>= λ u. gives (g_last u)) ∙ ap (λ ks. keys_of s a.prime g_first ++ ks) (keys-then s a.prime (p2_side start) g_last))

  -- ---- the small differential

  abbrev f_of : Tensor s.Base s.Fibre → Right (Terms (s.BaseSmall × s.FibreSmall))
  f_of z = f_f p s.base_set s.fibre_set s.base s.fibre s.twist z

  abbrev f_last : Terms (Tensor s.Base s.Fibre) → Right (Terms (s.BaseSmall × s.FibreSmall))
  f_last d = on_chain by_smalls p f_of (r_on d)

  abbrev added : Terms (s.BaseSmall × s.FibreSmall)
  added = value_of s a.prime (f_last p2_sum)

  turned-each : Each (below s.IsTensor n) (r_on p2_sum)
  turned-each = differ-each by_big ob by_middle om by_small s a m l j n w p2_sum p2-each

  turned-named : normal by_middle p (extend (differ (suc n)) raw) ≡ named s.tensor (r_on p2_sum)
  turned-named =
      sym (normal-extend by_middle om.one_key by_middle om.one_key om.total p (number_pos a.prime) (differ (suc n)) raw)
      ∙ ap (apply by_middle p (differ (suc n))) raw-named
      ∙ differ-named by_big ob by_middle om by_small s a m l j n w p2_sum p2-each

  f-below : Carries p by_small (below s.IsTensor n) (below s.IsSmall n) s.tensor s.small (λ z. value_of s a.prime (f_of z)) m.f
  f-below = below-carries p by_small s.IsTensor s.IsSmall s.tensor s.small (λ z. value_of s a.prime (f_of z)) m.f s.top j.second.f n w

  smalls-below : Keeps s.small by_smalls by_small (below s.IsSmall n)
  smalls-below = below-keeps s.small by_smalls by_small s.IsSmall s.top j.orders.smalls n w

  f-asks : (z : Tensor s.Base s.Fibre) → below s.IsTensor n z → l.f (s.tensor z) ≡ keys_of s a.prime (f_of z)
  f-asks = below-asks s.IsTensor s.top (λ z. l.f (s.tensor z) ≡ keys_of s a.prime (f_of z)) (λ k z v u. j.asks.f k z v u) n w

  added-each : Each (below s.IsSmall n) added
  added-each =
      subst (Each (below s.IsSmall n)) (sym (value-on s a.prime f_of by_smalls (r_on p2_sum)))
      (apply-each a.prime by_small os (below s.IsTensor n) (below s.IsSmall n) s.tensor s.small (λ z. value_of s a.prime (f_of z)) m.f f-below by_smalls (r_on p2_sum) turned-each)

  abbrev added_raw : Terms N
  added_raw = extend m.f (extend (differ (suc n)) raw)

  added-named : normal by_small p added_raw ≡ named s.small added
  added-named =
      sym (normal-extend by_middle om.one_key by_small os.one_key os.total p (number_pos a.prime) m.f (extend (differ (suc n)) raw))
      ∙ ap (apply by_small p m.f) turned-named
      ∙ apply-carried a.prime by_small os (below s.IsTensor n) (below s.IsSmall n) s.tensor s.small (λ z. value_of s a.prime (f_of z)) m.f f-below by_smalls
      smalls-below (r_on p2_sum) turned-each
      ∙ ap (named s.small) (sym (value-on s a.prime f_of by_smalls (r_on p2_sum)))

  abbrev own : Terms (s.BaseSmall × s.FibreSmall)
  own = untwisted_d s a.prime y

  own-each : Each (below s.IsSmall n) own
  own-each = (j.second.d n w).has y e

  -- a normal form is in normal form
  settled : (d : Terms N) → normal by_small p (normal by_small p d) ≡ normal by_small p d
  settled d =
      ap (normal by_small p) (sym (append-nil (normal by_small p d))) ∙ normal-append by_small os.one_key os.total a.prime d [] ∙ ap (normal by_small p) (append-nil d)

  both : (d : Terms N) → normal by_small p d ≡ normal by_small p (named s.small own)
      → normal by_small p (d ++ added_raw) ≡ named s.small (normal by_smalls p (own ++ added))
  both d h =
      sym (normal-append by_small os.one_key os.total a.prime d added_raw)
      ∙ (λ i. normal by_small p (h i ++ (sym (settled added_raw) ∙ ap (normal by_small p) added-named) i))
      ∙ normal-append by_small os.one_key os.total a.prime (named s.small own) (named s.small added)
      ∙ ap (normal by_small p) (sym (named-append s.small own added))
      ∙ carried-normal s.small by_smalls by_small p (below s.IsSmall n) smalls-below (own ++ added) (Each-append (below s.IsSmall n) own added own-each added-each)

  abbrev own_base : Terms s.BaseSmall
  own_base = value_of s a.prime (s.base.small_d y.0)

  abbrev own_fibre : Terms s.FibreSmall
  own_fibre = value_of s a.prime (s.fibre.small_d y.1)

  abbrev d_sum : Terms s.BaseSmall → Terms s.FibreSmall → Terms (s.BaseSmall × s.FibreSmall) → Terms (s.BaseSmall × s.FibreSmall)
  d_sum x z u = normal by_smalls p (small_terms x (one y.1) ++ scale (sign p (s.base.degree y.0)) (small_terms (one y.0) z) ++ u)

  abbrev d_fourth : Terms s.BaseSmall → Terms s.FibreSmall → Terms (Tensor s.Base s.Fibre) → Right (Terms (s.BaseSmall × s.FibreSmall))
  d_fourth x z d = f_last d >>= λ u. gives (d_sum x z u)

  abbrev d_third : Terms s.BaseSmall → Terms s.FibreSmall → Terms (Tensor s.Base s.Fibre) → Right (Terms (s.BaseSmall × s.FibreSmall))
  d_third x z d = p2_side d >>= λ u. d_fourth x z u

  abbrev d_second : Terms s.BaseSmall → Terms s.FibreSmall → Right (Terms (s.BaseSmall × s.FibreSmall))
  d_second x z = g_first >>= λ u. d_third x z u

  total-value : value_of s a.prime (total_d p s.base_set s.fibre_set s.base s.fibre s.twist n y) ≡ d_sum own_base own_fibre added
  total-value =
      value-bind s a.prime (s.base.small_d y.0) (λ x. s.fibre.small_d y.1 >>= λ z. d_second x z)
      ∙ value-bind s a.prime (s.fibre.small_d y.1) (λ z. d_second own_base z)
      ∙ value-bind s a.prime g_first (λ u. d_third own_base own_fibre u)
      ∙ value-bind s a.prime (p2_side start) (λ u. d_fourth own_base own_fibre u)
      ∙ value-bind s a.prime (f_last p2_sum) (λ u. gives (d_sum own_base own_fibre u))

  pub d-value : twice_d by_big by_middle a m n by_small (s.small y)
      ≡ named s.small (value_of s a.prime (total_d p s.base_set s.fibre_set s.base s.fibre s.twist n y))
  d-value =
      (λ i. normal by_small p ((perturbed_by by_middle p (λ z. one-more n i) m (differ (one-more n i))).small.d (s.small y)))
      ∙ both (m.small.d (s.small y)) ((j.second.d n w).read y e)
      ∙ ap (named s.small) (sym total-value)

  total-keys : keys_of s a.prime (total_d p s.base_set s.fibre_set s.base s.fibre s.twist n y)
      ≡ keys_of s a.prime (s.base.small_d y.0) ++ (keys_of s a.prime (s.fibre.small_d y.1)
      ++ (keys_of s a.prime g_first ++ (keys_of s a.prime (p2_side start) ++ keys_of s a.prime (f_last p2_sum))))
  total-keys =
      keys-bind s a.prime (s.base.small_d y.0) (λ x. s.fibre.small_d y.1 >>= λ z. d_second x z)
      ∙ ap (λ ks. keys_of s a.prime (s.base.small_d y.0) ++ ks) (keys-bind s a.prime (s.fibre.small_d y.1) (λ z. d_second own_base z)
      ∙ ap (λ ks. keys_of s a.prime (s.fibre.small_d y.1) ++ ks) (keys-bind s a.prime g_first (λ u. d_third own_base own_fibre u)
      ∙ ap (λ ks. keys_of s a.prime g_first ++ ks) (keys-bind s a.prime (p2_side start) (λ u. d_fourth own_base own_fibre u)
      ∙ ap (λ ks. keys_of s a.prime (p2_side start) ++ ks) (keys-then s a.prime (f_last p2_sum) (d_sum own_base own_fibre)))))

  chain-named : g_chain by_middle p (suc n) m (differ (suc n)) (s.small y) ≡ named s.tensor p2_sum
  chain-named = raw-named

  last-keys : asks_along l.f (apply by_middle p (differ (suc n)) (g_chain by_middle p (suc n) m (differ (suc n)) (s.small y))) ≡ keys_of s a.prime (f_last p2_sum)
  last-keys =
      ap (asks_along l.f) (ap (apply by_middle p (differ (suc n))) chain-named ∙ differ-named by_big ob by_middle om by_small s a m l j n w p2_sum p2-each)
      ∙ on-named s a.prime f_of s.tensor (below s.IsTensor n) l.f f-asks by_smalls (r_on p2_sum) turned-each

  pub d-keys : twice_d_asks by_big by_middle a m n l (s.small y)
      ≡ keys_of s a.prime (total_d p s.base_set s.fibre_set s.base s.fibre s.twist n y)
  d-keys =
      (λ i. perturbed_d_asks by_middle p (one-more n i) m (differ (one-more n i)) l none (s.small y))
      ∙ (λ i. j.asks.d n y w e i ++ ((j.asks.g n y w e i ++ series-keys i) ++ (none-along (g_chain by_middle p (suc n) m (differ (suc n)) (s.small y)) i ++ last-keys i)))
      ∙ append_assoc (keys_of s a.prime (s.base.small_d y.0)) (keys_of s a.prime (s.fibre.small_d y.1)) _
      ∙ ap (λ ks. keys_of s a.prime (s.base.small_d y.0) ++ (keys_of s a.prime (s.fibre.small_d y.1) ++ ks))
      (append_assoc (keys_of s a.prime g_first) (keys_of s a.prime (p2_side start)) _)
      ∙ sym total-keys
