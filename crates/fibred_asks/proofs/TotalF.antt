-- How the evaluation of F of a product or a circle bundle goes on: S2 of what the first perturbation gives, and F of both along that.
use Rattle.std.proofs.Common.{◌≡◌, ℕ, ◌≤◌, List, None, Option, ℤ, sym, ap, arith}
use Rattle.fp_field.specs.declared.prime.Prime.{Prime}
use Rattle.fp_field.specs.Field.{number}
use Rattle.fp_field.specs.Chains.{Terms, Each}
use Rattle.chain_core.specs.Formal.{Formal}
use Rattle.spaces.specs.Spaces.{Space}
use Rattle.cells.specs.declared.cells.Cell.{Cell}
use Rattle.values.specs.Asks.{◌>>=◌}
use Rattle.tensor_red.specs.declared.tensors.Tensor.{Tensor as CodeTensor}
use Rattle.oracle_iface.specs.Forcing.{Calls}
use Rattle.homology_rules.specs.Asking.{first_refusal, up_to_refusal, EachAnswered}
use Rattle.part_asks.specs.Along.{AsksValid}
use Rattle.part_asks.specs.Askers.{formal_tensors}
use Rattle.part_asks.specs.Reading.{keys_of, value_of}
use Rattle.part_asks.proofs.RightStages.{Stage, stage-next}
use Rattle.twist_chains.specs.Fibred.{AreTwistValues, read_pairs, read_tensors, IsPairWithin, tensors_of}
use Rattle.fibred_asks.specs.Parts.{AreParts}
use Rattle.fibred_asks.specs.Reached.{limited_reach}
use Rattle.fibred_asks.specs.Seconds.{s2_on, f_on}
use Rattle.fibred_asks.specs.Totals.{f_total}
use Rattle.fibred_asks.proofs.FirstChains.{first-back, read-gens, found-back}
use Rattle.fibred_asks.proofs.LastStages.{starts-as, stage-as}
use Rattle.fibred_asks.proofs.TotalValues.{s2-gens}

module _ {S : Type 0} (calls : Calls S) (p : Prime) (a b : Space) (parts : AreParts p a b) (values : Option (List ℤ)) (are : AreTwistValues values a b) (n : ℕ) (low : n ≤ 30)
    (c : Terms Cell) (pairs : Each (IsPairWithin a b limited_reach n) c) (valid : AsksValid p (f_total p a b values n (read_pairs a b c))) (s : S)
    (u : Terms (CodeTensor Cell Cell)) (is : u ≡ tensors_of a b values (number p) n c) where
  pub begins : Stage calls p (f_total p a b values n (read_pairs a b c)) (s2_on p a b values n (read_tensors a b u) >>= λ x. f_on p a b values x) s s
  begins =
      starts-as calls p (f_total p a b values n (read_pairs a b c)) (s2_on p a b values n (read_tensors a b u) >>= λ x. f_on p a b values x) s
      (ap (λ x. s2_on p a b values n x >>= λ x. f_on p a b values x)
      (sym (first-back p a b parts.base_built parts.fibre_built values are limited_reach n (omega (arith, low)) c pairs u is)))
      valid

  pub goes_on : (t : S) (v : Formal (CodeTensor Cell Cell)) → v ≡ formal_tensors p a b (value_of p (s2_on p a b values n (read_tensors a b u)))
      → first_refusal (keys_of p (s2_on p a b values n (read_tensors a b u))) ≡ None → EachAnswered calls s (up_to_refusal (keys_of p (s2_on p a b values n (read_tensors a b u)))) t
      → Stage calls p (f_total p a b values n (read_pairs a b c)) (f_on p a b values (read_tensors a b v.terms)) s t
  goes_on t v e none through =
      let x = value_of p (s2_on p a b values n (read_tensors a b u)) in
      stage-as calls p (f_total p a b values n (read_pairs a b c)) (f_on p a b values x) (f_on p a b values (read_tensors a b v.terms)) s t
      (ap (λ x. f_on p a b values x) (sym (found-back p a b parts.base_built parts.fibre_built n (omega (arith, low)) x
      (s2-gens p a b parts.base_built parts.fibre_built values are n (omega (arith, low)) (read_tensors a b u)
      (read-gens p a b parts.base_built parts.fibre_built values are limited_reach n (omega (arith, low)) c pairs u is)) v e)))
      (stage-next calls p (f_total p a b values n (read_pairs a b c)) (s2_on p a b values n (read_tensors a b u)) (λ x. f_on p a b values x) s s begins t none through)
