-- One step of the sums of the second perturbation on chains of the code: what is asked, and that what is found is the step of what the chain
-- stands for.
use Rattle.std.proofs.Common.{◌≡◌, ℕ, suc, ◌+◌, ◌-◌, ◌≤◌, List, Option, Some, None, ℤ, sym, ◌∙◌, ap, subst, arith}
use Rattle.fp_field.specs.declared.prime.Prime.{Prime}
use Rattle.fp_field.specs.Field.{number}
use Rattle.fp_field.specs.Chains.{Terms, Each}
use Rattle.fp_field.proofs.Primes.{number_pos}
use Rattle.chain_core.specs.Formal.{Formal}
use Rattle.spaces.specs.Spaces.{Space, Plain}
use Rattle.spaces.specs.Orders.{ordered}
use Rattle.spaces.specs.EilenbergZilber.{Tensor as PlainTensor, linear}
use Rattle.values.specs.Asks.{Right, gives, ◌>>=◌}
use Rattle.values.specs.Perturbed.{r}
use Rattle.values.specs.Rules.{part}
use Rattle.cells.specs.declared.cells.Cell.{Cell}
use Rattle.tensor_red.specs.declared.tensors.Tensor.{Tensor}
use Rattle.oracle_iface.specs.declared.keys.Key.{Key as CodeKey}
use Rattle.oracle_iface.specs.declared.bodies.Over.{Over}
use Rattle.oracle_iface.specs.Forcing.{Calls}
use Rattle.homology_rules.specs.Asking.{first_refusal, up_to_refusal, MayForceEach, AskedFirst, EachAnswered}
use Rattle.part_asks.specs.declared.found.Found.{Found}
use Rattle.part_asks.specs.declared.found.Found.TheVariants.{Value, Over as Refused}
use Rattle.part_asks.specs.Along.{AsksValid}
use Rattle.part_asks.specs.Askers.{formal_tensors}
use Rattle.part_asks.specs.Reading.{keys_of, value_of, IsFound}
use Rattle.part_asks.proofs.Readings.{value-bind}
use Rattle.part_asks.proofs.RightStages as R
use Rattle.twist_chains.specs.Fibred.{twist_by, AreTwistValues, room, read_tensors, quote_tensors, IsTensorWithin, difference_of}
use Rattle.fibred_asks.specs.declared.steps.First.TheVariants.{Difference, Homotopy}
use Rattle.fibred_asks.specs.declared.maps.Maps.{Maps}
use Rattle.fibred_asks.specs.Asked.{prime_of, base_of, fibre_of, values_of}
use Rattle.fibred_asks.specs.Parts.{AreParts, IfFound}
use Rattle.fibred_asks.specs.Seconds.{h_on}
use Rattle.fibred_asks.specs.Steps.{step_on}
use Rattle.fibred_asks.proofs.TensorKeys.{difference-keys, reads-back}
use Rattle.fibred_asks.proofs.ShownTensors.{shown-read, homotopy-shown}

pub next_is : (n : ℕ) → n + 1 ≡ suc n
next_is n = omega arith

pub less_is : (n : ℕ) → n + 1 - 1 ≡ n
less_is n = omega arith

-- what holds of a value that was found
pub if_found : {T : Type 0} (P : T → Type 0) (o : Found T) (v : T) → o ≡ Value v → IfFound P o → P v
if_found P o v e h = subst (IfFound P) e h

module _ (maps : Maps) where
  abbrev p : Prime
  p = prime_of maps

  abbrev a : Space
  a = base_of maps

  abbrev b : Space
  b = fibre_of maps

  abbrev values : Option (List ℤ)
  values = values_of maps

  abbrev read : Terms (Tensor Cell Cell) → Terms (PlainTensor (Plain a) (Plain b))
  read c = read_tensors a b c

  abbrev r_at : ℕ → Terms (PlainTensor (Plain a) (Plain b)) → Terms (PlainTensor (Plain a) (Plain b))
  r_at n c = r (number p) (linear (ordered a)) (ordered b) (part a) (part b) (twist_by values (number p) a b) n c

  -- the homotopy, read back
  module _ (parts : AreParts p a b) where
    pub homotopy-read : (c : Terms (PlainTensor (Plain a) (Plain b))) → AsksValid p (h_on p a b values c)
        → read (quote_tensors a b (value_of p (h_on p a b values c))) ≡ value_of p (h_on p a b values c)
    homotopy-read c valid =
        shown-read p a b parts.base_shown.cells parts.fibre_shown.cells (value_of p (h_on p a b values c))
        (homotopy-shown p a b (twist_by values (number p) a b) parts.base_shown parts.fibre_shown c valid)

    module _ (are : AreTwistValues values a b) (m n : ℕ) (low : n ≤ 32) (c : Terms (Tensor Cell Cell)) (within : Each (IsTensorWithin a b m n) c) where
      -- the difference, read back
      pub difference-read : read (difference_of a b values (number p) n c) ≡ r_at n (read c)
      difference-read =
          reads-back (number p) (number_pos p) a b parts.base_built parts.fibre_built (room values n m) (n - 1) (r_at n (read c))
          (difference-keys (number p) (number_pos p) a b parts.base_built parts.fibre_built values are m n low c within)

      -- ---- the difference first

      module _ (d : Terms (Tensor Cell Cell)) (is : d ≡ difference_of a b values (number p) n c) where
        pub first-same : h_on p a b values (read d) ≡ step_on p a b values Difference n (read c)
        first-same = ap (λ e. h_on p a b values (read e)) is ∙ ap (h_on p a b values) difference-read

        pub first-back : (o : Found (Formal (Tensor Cell Cell))) → AsksValid p (step_on p a b values Difference n (read c))
            → IsFound (formal_tensors p a b) p (h_on p a b values (read d)) o → IfFound (λ x. read x.terms ≡ value_of p (step_on p a b values Difference n (read c))) o
        first-back (Value v) valid h =
            ap (λ (x : Formal (Tensor Cell Cell)). read x.terms) (h.1 ∙ ap (λ R. formal_tensors p a b (value_of p R)) first-same)
            ∙ homotopy-read (r_at n (read c)) valid
        first-back (Refused w) valid h = tt

    -- ---- the homotopy first

    module _ (n : ℕ) (c : Terms (Tensor Cell Cell)) where
      abbrev u : Terms (PlainTensor (Plain a) (Plain b))
      u = value_of p (h_on p a b values (read c))

      abbrev second : Right (Terms (PlainTensor (Plain a) (Plain b)))
      second = step_on p a b values Homotopy n (read c)

      module _ (valid : AsksValid p (h_on p a b values (read c))) (raised : Formal (Tensor Cell Cell)) (found : raised ≡ formal_tensors p a b u) where
        raised-read : read raised.terms ≡ u
        raised-read = ap (λ (x : Formal (Tensor Cell Cell)). read x.terms) found ∙ homotopy-read (read c) valid

        value-is : value_of p second ≡ r_at (suc n) u
        value-is = value-bind p (h_on p a b values (read c)) (λ e. gives (r_at (suc n) e))

        module _ (k : ℕ) (next : k ≡ suc n) (x : Formal (Tensor Cell Cell)) (terms : x.terms ≡ difference_of a b values (number p) k raised.terms) where
          terms-are : x.terms ≡ quote_tensors a b (value_of p second)
          terms-are = terms ∙ (λ i. quote_tensors a b (r_at (next i) (raised-read i))) ∙ ap (quote_tensors a b) (sym value-is)

          pub second-found : x.prime ≡ p → x ≡ formal_tensors p a b (value_of p second)
          second-found prime = λ i. record { prime = prime i; terms = terms-are i }

          pub second-back : AreTwistValues values a b → (m : ℕ) → k ≤ 32 → Each (IsTensorWithin a b m k) raised.terms → read x.terms ≡ value_of p second
          second-back are m low within =
              ap read terms ∙ difference-read are m k low raised.terms within ∙ (λ i. r_at (next i) (raised-read i)) ∙ sym value-is

  -- what is asked where the homotopy comes first
  module _ {F : Type 0} (calls : Calls F) (n : ℕ) (c : Terms (PlainTensor (Plain a) (Plain b))) (s : F) (valid : AsksValid p (step_on p a b values Homotopy n c)) where
    abbrev whole : Right (Terms (PlainTensor (Plain a) (Plain b)))
    whole = step_on p a b values Homotopy n c

    abbrev homotopy : Right (Terms (PlainTensor (Plain a) (Plain b)))
    homotopy = h_on p a b values c

    abbrev rest : Terms (PlainTensor (Plain a) (Plain b)) → Right (Terms (PlainTensor (Plain a) (Plain b)))
    rest e = gives (r_at (suc n) e)

    start : R.Stage calls p whole (homotopy >>= rest) s s
    start = R.stage-start calls p whole s valid

    pub second-may : (may : F → CodeKey → Type 0) → MayForceEach may calls s (keys_of p whole) → MayForceEach may calls s (keys_of p homotopy)
    second-may may asks = R.may-next calls p whole homotopy rest s s start may asks

    pub second-valid : AsksValid p homotopy
    second-valid = R.valid-next calls p whole homotopy rest s s start

    pub second-asked : (t : F) → AskedFirst calls (keys_of p homotopy) s t → AskedFirst calls (keys_of p whole) s t
    second-asked t h = R.asked-next calls p whole homotopy rest s s start t h

    pub second-refused : (w : Over) → first_refusal (keys_of p homotopy) ≡ Some w → first_refusal (keys_of p whole) ≡ Some w
    second-refused w e = R.refused-whole calls p whole homotopy rest s s start w e

    pub second-stopped : (t : F) (w : Over) → first_refusal (keys_of p homotopy) ≡ Some w → EachAnswered calls s (up_to_refusal (keys_of p homotopy)) t
        → EachAnswered calls s (up_to_refusal (keys_of p whole)) t
    second-stopped t w e h = R.refused-through calls p whole homotopy rest s s start t w e h

    module _ (t : F) (none : first_refusal (keys_of p homotopy) ≡ None) (h : EachAnswered calls s (up_to_refusal (keys_of p homotopy)) t) where
      ended : R.Stage calls p whole (rest (value_of p homotopy)) s t
      ended = R.stage-next calls p whole homotopy rest s s start t none h

      pub second-none : first_refusal (keys_of p whole) ≡ None
      second-none = R.stage-none calls p whole (r_at (suc n) (value_of p homotopy)) s t ended

      pub second-through : EachAnswered calls s (up_to_refusal (keys_of p whole)) t
      second-through = R.stage-through calls p whole (r_at (suc n) (value_of p homotopy)) s t ended
