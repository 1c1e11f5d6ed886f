-- The two series of the second perturbation as one: P2 takes the difference r first and then the homotopy t, S2 the homotopy first and then the
-- difference (Rubio and Sergeraert, Constructive Homological Algebra and Applications, chapter 3; Shih 1962).
--
-- In degree n the difference is taken of tensors of degree n where it comes first, and of degree n + 1 where the homotopy does.
--
--   of a product, whose twist is 0, the difference of each chain is 0, so a step of either series gives the zero chain
use Rattle.std.specs.Prelude.{◌≡◌, ℕ, suc, ◌-◌, Option, ℤ, List}
use Rattle.fp_field.specs.declared.prime.Prime.{Prime}
use Rattle.fp_field.specs.Field.{number}
use Rattle.fp_field.specs.Chains.{Terms, scale}
use Rattle.fp_field.specs.Normal.{normal}
use Rattle.chain_core.specs.Formal.{Formal}
use Rattle.spaces.specs.Spaces.{Space, Plain}
use Rattle.spaces.specs.Orders.{ordered}
use Rattle.spaces.specs.EilenbergZilber.{Tensor, linear, tensor_order}
use Rattle.values.specs.Asks.{Right, gives, ◌>>=◌}
use Rattle.values.specs.Perturbed.{on_t, r, r_after_t, asked_terms}
use Rattle.values.specs.Rules.{part}
use Rattle.cells.specs.declared.cells.Cell.{Cell}
use Rattle.tensor_red.specs.declared.tensors.Tensor.{Tensor as CodeTensor}
use Rattle.part_asks.specs.Reading.{value_of}
use Rattle.twist_chains.specs.Fibred.{twist_by, read_tensors}
use Rattle.fibred_asks.specs.declared.steps.First.{First}
use Rattle.fibred_asks.specs.declared.steps.First.TheVariants.{Difference, Homotopy}
use Rattle.fibred_asks.specs.declared.maps.Maps.{Maps}
use Rattle.fibred_asks.specs.Asked.{prime_of, base_of, fibre_of, values_of}

-- the degree in which the difference is taken
abbrev pub top_of : First → ℕ → ℕ
top_of Difference n = n
top_of Homotopy n = suc n

-- the degree that a step comes to; in degree 0 there is no difference
abbrev pub end_of : First → ℕ → ℕ
end_of Difference n = suc (n - 1)
end_of Homotopy n = n

module _ (p : Prime) (a b : Space) (values : Option (List ℤ)) where
  abbrev pub step_on : First → ℕ → Terms (Tensor (Plain a) (Plain b)) → Right (Terms (Tensor (Plain a) (Plain b)))
  step_on Difference n c =
      on_t (number p) (linear (ordered a)) (ordered b) (part a) (part b) (twist_by values (number p) a b)
      (r (number p) (linear (ordered a)) (ordered b) (part a) (part b) (twist_by values (number p) a b) n c)
  step_on Homotopy n c = r_after_t (number p) (linear (ordered a)) (ordered b) (part a) (part b) (twist_by values (number p) a b) n c

  -- minus a chain
  abbrev pub minus_of : Terms (Tensor (Plain a) (Plain b)) → Terms (Tensor (Plain a) (Plain b))
  minus_of c = normal (tensor_order (number p) (linear (ordered a)) (ordered b)) (number p) (scale (number p - 1) c)

  -- the sum of n + 1 terms, each minus a step of the one before it
  abbrev pub series_on : First → ℕ → Terms (Tensor (Plain a) (Plain b)) → Right (Terms (Tensor (Plain a) (Plain b)))
  series_on first n c =
      asked_terms (tensor_order (number p) (linear (ordered a)) (ordered b)) (number p) (suc n) (λ e. step_on first n e) c
      >>= λ s. gives (normal (tensor_order (number p) (linear (ordered a)) (ordered b)) (number p) s)

module _ (m : Maps) where
  abbrev pub step_asked : First → ℕ → Terms (CodeTensor Cell Cell) → Right (Terms (Tensor (Plain (base_of m)) (Plain (fibre_of m))))
  step_asked first n c = step_on (prime_of m) (base_of m) (fibre_of m) (values_of m) first n (read_tensors (base_of m) (fibre_of m) c)

  abbrev pub series_asked : First → ℕ → Terms (CodeTensor Cell Cell) → Right (Terms (Tensor (Plain (base_of m)) (Plain (fibre_of m))))
  series_asked first n c = series_on (prime_of m) (base_of m) (fibre_of m) (values_of m) first n (read_tensors (base_of m) (fibre_of m) c)

  -- the chain of the code stands for a step of the series from another one
  abbrev pub IsStepOf : First → ℕ → Terms (CodeTensor Cell Cell) → Formal (CodeTensor Cell Cell) → Type 0
  IsStepOf first n c d = read_tensors (base_of m) (fibre_of m) d.terms ≡ value_of (prime_of m) (step_asked first n c)
