-- The two series of the second reduction are, in the names of the code, those of tensors of a fibred space, and ask the same.
use Rattle.std.proofs.Common.{◌≡◌, ℕ, suc, ◌≤◌, ◌-◌, List, [], ◌++◌, sym, ◌∙◌, ap, subst, arith}
use Rattle.std.proofs.lemmas.List.{append-nil}
use Rattle.std.specs.declared.cmp.Ordering.{Ordering}
use Rattle.fp_field.specs.Field.{number}
use Rattle.fp_field.specs.Chains.{Terms, Each, scale, extend}
use Rattle.fp_field.specs.Normal.{normal, apply}
use Rattle.fp_field.specs.Reduction.{Maps, after}
use Rattle.fp_field.proofs.Primes.{number_pos}
use Rattle.fp_field.proofs.Normals.{normal-extend}
use Rattle.spaces.specs.EilenbergZilber.{Tensor}
use Rattle.chain_core.specs.Asks.{asks_along}
use Rattle.values.specs.Asks.{Right, gives}
use Rattle.values.specs.Perturbed.{t, on_t, r_after_t}
use Rattle.values.specs.Rules.{named}
use Rattle.reduct_laws.specs.Lists.{Lists}
use Rattle.perturb.specs.PerturbedLists.{next_term, step_asks}
use Rattle.twice_perturbed.specs.Firsts.{First, difference}
use Rattle.twice_perturbed.proofs.FirstAlong.{weigh-twice}
use Rattle.twice_perturbed.proofs.FirstSeries.{alike}
use Rattle.twice_perturbed.proofs.NothingAsked.{none-along}
use Rattle.fibred_maps.specs.Fibred.{Fibred, below, keys_of, value_of}
use Rattle.fibred_maps.specs.Joined.{IsJoined}
use Rattle.fibred_maps.proofs.NamedChains.{Tells, apply-carried, apply-each, minus-carried}
use Rattle.fibred_maps.proofs.RightSides.{keys-then, value-bind, value-on, on-named, IsStep}
use Rattle.fibred_maps.proofs.FirstNamed.{tensors_by, r_of, differ-named, differ-each}

module _ {B M N A : Type 0} (by_big : B → B → Ordering) (ob : Tells by_big) (by_middle : M → M → Ordering) (om : Tells by_middle) (by_small : N → N → Ordering)
    (s : Fibred B M N A) (a : First B M) (m : Maps M N) (l : Lists M N A) (j : IsJoined by_big by_middle by_small s a m l) where
  abbrev p : ℕ
  p = number a.prime

  abbrev by : Tensor s.Base s.Fibre → Tensor s.Base s.Fibre → Ordering
  by = tensors_by by_big ob by_middle om by_small s a m l j

  abbrev r' : ℕ → Terms (Tensor s.Base s.Fibre) → Terms (Tensor s.Base s.Fibre)
  r' n c = r_of by_big ob by_middle om by_small s a m l j n c

  abbrev t_of : Tensor s.Base s.Fibre → Right (Terms (Tensor s.Base s.Fibre))
  t_of z = t p s.base_set s.fibre_set s.base s.fibre s.twist z

  abbrev pub on_t_of : Terms (Tensor s.Base s.Fibre) → Right (Terms (Tensor s.Base s.Fibre))
  on_t_of c = on_t p s.base_set s.fibre_set s.base s.fibre s.twist c

  abbrev none : M → List A
  none x = []

  abbrev minus : Terms (Tensor s.Base s.Fibre) → Terms (Tensor s.Base s.Fibre)
  minus c = normal by p (scale (p - 1) c)

  -- a map after another, on a chain of the code
  after-chain : (g h : M → Terms M) (c d : Terms M) → apply by_middle p h c ≡ d → normal by_middle p (extend (after g h) c) ≡ apply by_middle p g d
  after-chain g h c d e =
      sym (alike by_middle om.one_key om.total a.prime (extend g (extend h c)) (extend (after g h) c) (weigh-twice g h c))
      ∙ sym (normal-extend by_middle om.one_key by_middle om.one_key om.total p (number_pos a.prime) g (extend h c))
      ∙ ap (λ z. normal by_middle p (extend g z)) e

  -- ---- the homotopy of tensors along a chain

  module _ (n : ℕ) (w : n ≤ s.top) (c : Terms (Tensor s.Base s.Fibre)) (e : Each (below s.IsTensor n) c) where
    pub homotopy-named : apply by_middle p m.h (named s.tensor c) ≡ named s.tensor (value_of s a.prime (on_t_of c))
    homotopy-named =
        apply-carried a.prime by_middle om (below s.IsTensor n) (s.IsTensor n) s.tensor s.tensor (λ z. value_of s a.prime (t_of z)) m.h (j.second.h n w) by
        (j.orders.tensors n w) c e
        ∙ ap (named s.tensor) (sym (value-on s a.prime t_of by c))

    pub homotopy-each : Each (s.IsTensor n) (value_of s a.prime (on_t_of c))
    homotopy-each =
        subst (Each (s.IsTensor n)) (sym (value-on s a.prime t_of by c))
        (apply-each a.prime by_middle om (below s.IsTensor n) (s.IsTensor n) s.tensor s.tensor (λ z. value_of s a.prime (t_of z)) m.h (j.second.h n w) by c e)

    pub homotopy-keys : asks_along l.h (named s.tensor c) ≡ keys_of s a.prime (on_t_of c)
    homotopy-keys = on-named s a.prime t_of s.tensor (below s.IsTensor n) l.h (λ x u. j.asks.h n x w u) by c e

  -- ---- a step of P2

  pub p2-step : (n : ℕ) (w : n ≤ s.top)
      → IsStep s a.prime by by_middle (s.IsTensor n) s.tensor (λ c. on_t_of (r' n c)) (difference by_big by_middle a (suc n)) m.h none l.h
  p2-step n w = record { keys = keys-so; next = next-so; kept = kept-so }
    where
      differs : (c : Terms (Tensor s.Base s.Fibre)) → Each (s.IsTensor n) c → Each (below s.IsTensor n) (r' n c)
      differs c e = differ-each by_big ob by_middle om by_small s a m l j n w c e

      named-so : (c : Terms (Tensor s.Base s.Fibre)) → Each (s.IsTensor n) c
          → apply by_middle p (difference by_big by_middle a (suc n)) (named s.tensor c) ≡ named s.tensor (r' n c)
      named-so c e = differ-named by_big ob by_middle om by_small s a m l j n w c e

      keys-so : (c : Terms (Tensor s.Base s.Fibre)) → Each (s.IsTensor n) c
          → step_asks by_middle p (difference by_big by_middle a (suc n)) m.h none l.h (named s.tensor c) ≡ keys_of s a.prime (on_t_of (r' n c))
      keys-so c e =
          (λ i. none-along (named s.tensor c) i ++ asks_along l.h (named-so c e i))
          ∙ homotopy-keys n w (r' n c) (differs c e)

      next-so : (c : Terms (Tensor s.Base s.Fibre)) → Each (s.IsTensor n) c
          → next_term by_middle p (difference by_big by_middle a (suc n)) m.h (named s.tensor c) ≡ named s.tensor (minus (value_of s a.prime (on_t_of (r' n c))))
      next-so c e =
          minus-carried a.prime by by_middle om (s.IsTensor n) s.tensor (j.orders.tensors n w) (value_of s a.prime (on_t_of (r' n c)))
          (extend (after m.h (difference by_big by_middle a (suc n))) (named s.tensor c)) (homotopy-each n w (r' n c) (differs c e))
          (after-chain m.h (difference by_big by_middle a (suc n)) (named s.tensor c) (named s.tensor (r' n c)) (named-so c e)
          ∙ homotopy-named n w (r' n c) (differs c e))

      kept-so : (c : Terms (Tensor s.Base s.Fibre)) → Each (s.IsTensor n) c → Each (s.IsTensor n) (value_of s a.prime (on_t_of (r' n c)))
      kept-so c e = homotopy-each n w (r' n c) (differs c e)

  -- ---- a step of S2

  pub s2-step : (n : ℕ) (w : suc n ≤ s.top)
      → IsStep s a.prime by by_middle (s.IsTensor n) s.tensor (r_after_t p s.base_set s.fibre_set s.base s.fibre s.twist n) m.h
      (difference by_big by_middle a (suc (suc n))) l.h none
  s2-step n w = record { keys = keys-so; next = next-so; kept = kept-so }
    where
      raised-so : (c : Terms (Tensor s.Base s.Fibre)) → Each (s.IsTensor n) c → Each (s.IsTensor (suc n)) (value_of s a.prime (on_t_of c))
      raised-so c e = homotopy-each (suc n) w c e

      value-so : (c : Terms (Tensor s.Base s.Fibre))
          → value_of s a.prime (r_after_t p s.base_set s.fibre_set s.base s.fibre s.twist n c) ≡ r' (suc n) (value_of s a.prime (on_t_of c))
      value-so c = value-bind s a.prime (on_t_of c) (λ u. gives (r' (suc n) u))

      kept-so : (c : Terms (Tensor s.Base s.Fibre)) → Each (s.IsTensor n) c
          → Each (s.IsTensor n) (value_of s a.prime (r_after_t p s.base_set s.fibre_set s.base s.fibre s.twist n c))
      kept-so c e =
          subst (Each (s.IsTensor n)) (sym (value-so c))
          (differ-each by_big ob by_middle om by_small s a m l j (suc n) w (value_of s a.prime (on_t_of c)) (raised-so c e))

      keys-so : (c : Terms (Tensor s.Base s.Fibre)) → Each (s.IsTensor n) c
          → step_asks by_middle p m.h (difference by_big by_middle a (suc (suc n))) l.h none (named s.tensor c)
          ≡ keys_of s a.prime (r_after_t p s.base_set s.fibre_set s.base s.fibre s.twist n c)
      keys-so c e =
          (λ i. homotopy-keys (suc n) w c e i ++ none-along (apply by_middle p m.h (named s.tensor c)) i)
          ∙ append-nil (keys_of s a.prime (on_t_of c))
          ∙ sym (keys-then s a.prime (on_t_of c) (λ u. r' (suc n) u))

      next-so : (c : Terms (Tensor s.Base s.Fibre)) → Each (s.IsTensor n) c
          → next_term by_middle p m.h (difference by_big by_middle a (suc (suc n))) (named s.tensor c)
          ≡ named s.tensor (minus (value_of s a.prime (r_after_t p s.base_set s.fibre_set s.base s.fibre s.twist n c)))
      next-so c e =
          minus-carried a.prime by by_middle om (s.IsTensor n) s.tensor (j.orders.tensors n fits)
          (value_of s a.prime (r_after_t p s.base_set s.fibre_set s.base s.fibre s.twist n c))
          (extend (after (difference by_big by_middle a (suc (suc n))) m.h) (named s.tensor c)) (kept-so c e)
          (after-chain (difference by_big by_middle a (suc (suc n))) m.h (named s.tensor c) (named s.tensor (value_of s a.prime (on_t_of c))) (homotopy-named (suc n) w c e)
          ∙ differ-named by_big ob by_middle om by_small s a m l j (suc n) w (value_of s a.prime (on_t_of c)) (raised-so c e)
          ∙ ap (named s.tensor) (sym (value-so c)))
        where
          fits : n ≤ s.top
          fits = omega (arith, w)
