-- The second perturbation of a product or a circle bundle, as right sides: h of tensors on a chain, and the sums P2 and S2 in degree n (Rubio and
-- Sergeraert, Constructive Homological Algebra and Applications, chapter 3; Shih 1962).
--
--   of a product, whose twist is 0, P2 and S2 ask for h along the zero chain, and so for nothing, and give the chain itself
use Rattle.std.specs.Prelude.{ℕ, suc, ◌+◌, ◌*◌, Option, ℤ, List}
use Rattle.fp_field.specs.declared.prime.Prime.{Prime}
use Rattle.fp_field.specs.Field.{number}
use Rattle.fp_field.specs.Chains.{Terms}
use Rattle.spaces.specs.Spaces.{Space, Plain}
use Rattle.spaces.specs.SmallCells.{Small}
use Rattle.spaces.specs.Orders.{ordered}
use Rattle.spaces.specs.EilenbergZilber.{Tensor, linear}
use Rattle.values.specs.Asks.{Right, on_chain}
use Rattle.values.specs.Perturbed.{on_t, p2, s2, f_f, smalls_by}
use Rattle.values.specs.Rules.{part}
use Rattle.twist_chains.specs.Fibred.{twist_by, growth}

module _ (p : Prime) (a b : Space) (values : Option (List ℤ)) where
  abbrev pub h_on : Terms (Tensor (Plain a) (Plain b)) → Right (Terms (Tensor (Plain a) (Plain b)))
  h_on c = on_t (number p) (linear (ordered a)) (ordered b) (part a) (part b) (twist_by values (number p) a b) c

  abbrev pub p2_on : ℕ → Terms (Tensor (Plain a) (Plain b)) → Right (Terms (Tensor (Plain a) (Plain b)))
  p2_on n c = p2 (number p) (linear (ordered a)) (ordered b) (part a) (part b) (twist_by values (number p) a b) n c

  abbrev pub s2_on : ℕ → Terms (Tensor (Plain a) (Plain b)) → Right (Terms (Tensor (Plain a) (Plain b)))
  s2_on n c = s2 (number p) (linear (ordered a)) (ordered b) (part a) (part b) (twist_by values (number p) a b) n c

  -- F of base and fibre along a chain of tensors
  abbrev pub f_on : Terms (Tensor (Plain a) (Plain b)) → Right (Terms (Small a × Small b))
  f_on c =
      on_chain (smalls_by (number p) (linear (ordered a)) (ordered b) (part a) (part b) (twist_by values (number p) a b)) (number p)
      (f_f (number p) (linear (ordered a)) (ordered b) (part a) (part b) (twist_by values (number p) a b)) c

-- the reach that a series in degree n leaves room for, from tensors with a reach of at most m: n + 1 terms, each with a difference
abbrev pub series_room : Option (List ℤ) → ℕ → ℕ → ℕ
series_room values n m = m + suc n * ((n + 2) * growth values)
