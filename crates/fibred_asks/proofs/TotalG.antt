-- How the evaluation of G of a product or a circle bundle goes on: P2 of G of both, and what the first perturbation lifts of that.
use Rattle.std.proofs.Common.{◌≡◌, ℕ, ◌+◌, ◌≤◌, List, None, Option, ℤ, sym, ◌∙◌, ap, subst, arith}
use Rattle.fp_field.specs.declared.prime.Prime.{Prime}
use Rattle.fp_field.specs.Field.{number}
use Rattle.fp_field.specs.Chains.{Terms, Each}
use Rattle.chain_core.specs.Formal.{Formal}
use Rattle.spaces.specs.Spaces.{Space, Plain}
use Rattle.spaces.specs.Orders.{ordered}
use Rattle.spaces.specs.SmallCells.{small_degree}
use Rattle.spaces.specs.EilenbergZilber.{Pair, Tensor, linear}
use Rattle.cells.specs.declared.cells.Cell.{Cell}
use Rattle.cells.specs.declared.cells.SmallCell.{SmallCell}
use Rattle.values.specs.Asks.{Right, gives, ◌>>=◌}
use Rattle.values.specs.Perturbed.{p1, to_pairs}
use Rattle.values.specs.Rules.{part}
use Rattle.oracle_iface.specs.SmallForms.{small_form}
use Rattle.tensor_red.specs.declared.tensors.Tensor.{Tensor as CodeTensor}
use Rattle.oracle_iface.specs.Forcing.{Calls}
use Rattle.homology_rules.specs.Asking.{first_refusal, up_to_refusal, EachAnswered}
use Rattle.part_asks.specs.Along.{AsksValid}
use Rattle.part_asks.specs.Askers.{g_tensor, formal_tensors}
use Rattle.part_asks.specs.Reading.{keys_of, value_of}
use Rattle.part_asks.proofs.RightStages.{Stage, stage-start, stage-next, valid-next}
use Rattle.twist_chains.specs.Fibred.{twist_by, AreTwistValues, read_tensors, quote_pairs, lifted_of}
use Rattle.fibred_asks.specs.Parts.{AreParts}
use Rattle.fibred_asks.specs.Seconds.{p2_on}
use Rattle.fibred_asks.specs.Totals.{g_total, formal_pairs}
use Rattle.fibred_asks.proofs.FirstChains.{GenIn, found-back}
use Rattle.fibred_asks.proofs.LastStages.{stage-as}
use Rattle.fibred_asks.proofs.ReachedTensors.{g-gens_in}
use Rattle.fibred_asks.proofs.TotalValues.{p2-gens}

-- what P1 of Eilenberg-Mac Lane makes of a chain of tensors
abbrev pub lift : Prime → (a b : Space) → Option (List ℤ) → ℕ → Terms (Tensor (Plain a) (Plain b)) → Terms (Pair (Plain a) (Plain b))
lift p a b values n v =
    p1 (number p) (linear (ordered a)) (ordered b) (part a) (part b) (twist_by values (number p) a b) n
    (to_pairs (number p) (linear (ordered a)) (ordered b) (part a) (part b) (twist_by values (number p) a b) v)

module _ {S : Type 0} (calls : Calls S) (p : Prime) (a b : Space) (parts : AreParts p a b) (values : Option (List ℤ)) (are : AreTwistValues values a b) (n : ℕ) (low : n ≤ 30)
    (y z : SmallCell) (sum : n ≡ small_degree a (small_form y a) + small_degree b (small_form z b)) (valid : AsksValid p (g_total p a b values n y z)) (s : S) where
  abbrev lifts : Terms (Tensor (Plain a) (Plain b)) → Right (Terms (Pair (Plain a) (Plain b)))
  lifts v = gives (lift p a b values n v)

  pub begins : Stage calls p (g_total p a b values n y z) (g_tensor p a b y z >>= λ u. p2_on p a b values n u >>= λ v. gives (lift p a b values n v)) s s
  begins = stage-start calls p (g_total p a b values n y z) s valid

  pub valid-g : AsksValid p (g_tensor p a b y z)
  valid-g = valid-next calls p (g_total p a b values n y z) (g_tensor p a b y z) (λ u. p2_on p a b values n u >>= lifts) s s begins

  module _ (t : S) (u : Formal (CodeTensor Cell Cell)) (is : u ≡ formal_tensors p a b (value_of p (g_tensor p a b y z)))
      (none : first_refusal (keys_of p (g_tensor p a b y z)) ≡ None) (through : EachAnswered calls s (up_to_refusal (keys_of p (g_tensor p a b y z))) t) where
    read-is : read_tensors a b u.terms ≡ value_of p (g_tensor p a b y z)
    read-is = found-back p a b parts.base_built parts.fibre_built n (omega (arith, low)) (value_of p (g_tensor p a b y z)) (g-gens_in p a b parts y z valid-g n sum) u is

    pub goes_on : Stage calls p (g_total p a b values n y z) (p2_on p a b values n (read_tensors a b u.terms) >>= λ v. gives (lift p a b values n v)) s t
    goes_on =
        let x = value_of p (g_tensor p a b y z) in
        stage-as calls p (g_total p a b values n y z) (p2_on p a b values n x >>= lifts) (p2_on p a b values n (read_tensors a b u.terms) >>= lifts) s t
        (ap (λ x. p2_on p a b values n x >>= lifts) (sym read-is))
        (stage-next calls p (g_total p a b values n y z) (g_tensor p a b y z) (λ u. p2_on p a b values n u >>= lifts) s s begins t none through)

    read-gens : Each (GenIn p a b parts.base_built parts.fibre_built n) (read_tensors a b u.terms)
    read-gens = subst (Each (GenIn p a b parts.base_built parts.fibre_built n)) (sym read-is) (g-gens_in p a b parts y z valid-g n sum)

    module _ (t2 : S) (v : Formal (CodeTensor Cell Cell)) (v_is : v ≡ formal_tensors p a b (value_of p (p2_on p a b values n (read_tensors a b u.terms))))
        (none2 : first_refusal (keys_of p (p2_on p a b values n (read_tensors a b u.terms))) ≡ None)
        (through2 : EachAnswered calls t (up_to_refusal (keys_of p (p2_on p a b values n (read_tensors a b u.terms)))) t2) where
      pub ends : Stage calls p (g_total p a b values n y z) (gives (lift p a b values n (read_tensors a b v.terms))) s t2
      ends =
          let x = value_of p (p2_on p a b values n (read_tensors a b u.terms)) in
          stage-as calls p (g_total p a b values n y z) (lifts x) (lifts (read_tensors a b v.terms)) s t2
          (ap lifts (sym (found-back p a b parts.base_built parts.fibre_built n (omega (arith, low)) x
          (p2-gens p a b parts.base_built parts.fibre_built values are n (omega (arith, low)) (read_tensors a b u.terms) read-gens) v v_is)))
          (stage-next calls p (g_total p a b values n y z) (p2_on p a b values n (read_tensors a b u.terms)) lifts s t goes_on t2 none2 through2)

      pub lifted-found : (w : Formal Cell) → w.prime ≡ p → w.terms ≡ lifted_of a b values (number p) n v.terms → w ≡ formal_pairs p a b (value_of p (g_total p a b values n y z))
      lifted-found w e h = λ i. record { prime = e i; terms = (h ∙ ap (quote_pairs a b) (sym ends.value_is)) i }
