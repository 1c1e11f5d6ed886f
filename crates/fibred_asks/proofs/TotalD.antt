-- How the evaluation of the small differential of a product or a circle bundle goes on: those of both, then F of both along the transferred
-- difference of P2 of G of both.
use Rattle.std.proofs.Common.{◌≡◌, ℕ, ◌+◌, ◌-◌, ◌≤◌, List, ◌++◌, None, Option, ℤ, sym, ◌∙◌, ap, subst, arith}
use Rattle.fp_field.specs.declared.prime.Prime.{Prime}
use Rattle.fp_field.specs.Field.{number, sign}
use Rattle.fp_field.specs.Chains.{Terms, Each, scale}
use Rattle.fp_field.specs.Normal.{normal}
use Rattle.fp_field.specs.Reduction.{one}
use Rattle.fp_field.proofs.Primes.{number_pos}
use Rattle.chain_core.specs.Formal.{Formal}
use Rattle.spaces.specs.Spaces.{Space, Plain}
use Rattle.spaces.specs.Orders.{ordered}
use Rattle.spaces.specs.SmallCells.{Small, small_degree}
use Rattle.spaces.specs.EilenbergZilber.{Tensor, linear}
use Rattle.cells.specs.declared.cells.Cell.{Cell}
use Rattle.cells.specs.declared.cells.SmallCell.{SmallCell}
use Rattle.values.specs.Asks.{Right, gives, ◌>>=◌}
use Rattle.values.specs.BaseLaws.{IsSmall}
use Rattle.values.specs.Perturbed.{small_terms, smalls_by}
use Rattle.values.specs.Rules.{part}
use Rattle.oracle_iface.specs.SmallForms.{small_form}
use Rattle.tensor_red.specs.declared.tensors.Tensor.{Tensor as CodeTensor}
use Rattle.oracle_iface.specs.Forcing.{Calls}
use Rattle.homology_rules.specs.Asking.{first_refusal, up_to_refusal, EachAnswered}
use Rattle.part_asks.specs.Along.{AsksValid}
use Rattle.part_asks.specs.Askers.{g_tensor, formal_tensors}
use Rattle.part_asks.specs.OneKey.{small_d_at}
use Rattle.part_asks.specs.Reading.{keys_of, value_of}
use Rattle.part_asks.proofs.Readings.{value-bind}
use Rattle.part_asks.proofs.RightStages.{Stage, stage-start, stage-next, valid-next, bind-assoc}
use Rattle.twist_chains.specs.Fibred.{twist_by, AreTwistValues, read_tensors, difference_of}
use Rattle.fibred_asks.specs.Parts.{AreParts}
use Rattle.fibred_asks.specs.Seconds.{p2_on, f_on}
use Rattle.fibred_asks.specs.Totals.{d_total}
use Rattle.fibred_asks.specs.Transferred.{differ, f_differ, transferred}
use Rattle.fibred_asks.proofs.FirstChains.{GenIn, found-back}
use Rattle.fibred_asks.proofs.LastStages.{stage-as}
use Rattle.fibred_asks.proofs.ReachedTensors.{g-gens_in}
use Rattle.fibred_asks.proofs.TotalKeys.{gens-back}
use Rattle.fibred_asks.proofs.TotalValues.{p2-gens, difference-gens, f-smalls}

-- ---- the part that the twist makes

module _ {S : Type 0} (calls : Calls S) (p : Prime) (a b : Space) (parts : AreParts p a b) (values : Option (List ℤ)) (are : AreTwistValues values a b) (n : ℕ) (low : n ≤ 30)
    (y z : SmallCell) (sum : n ≡ small_degree a (small_form y a) + small_degree b (small_form z b)) (valid : AsksValid p (transferred p a b values n y z)) (s : S) where
  abbrev f_on_differ : Terms (Tensor (Plain a) (Plain b)) → Right (Terms (Small a × Small b))
  f_on_differ = f_differ p a b values n

  pub begins : Stage calls p (transferred p a b values n y z) (g_tensor p a b y z >>= λ u. p2_on p a b values n u >>= f_differ p a b values n) s s
  begins = stage-start calls p (transferred p a b values n y z) s valid

  pub valid-g : AsksValid p (g_tensor p a b y z)
  valid-g = valid-next calls p (transferred p a b values n y z) (g_tensor p a b y z) (λ u. p2_on p a b values n u >>= f_on_differ) s s begins

  module _ (t : S) (u : Formal (CodeTensor Cell Cell)) (u_is : u ≡ formal_tensors p a b (value_of p (g_tensor p a b y z)))
      (none : first_refusal (keys_of p (g_tensor p a b y z)) ≡ None) (through : EachAnswered calls s (up_to_refusal (keys_of p (g_tensor p a b y z))) t) where
    read-u : read_tensors a b u.terms ≡ value_of p (g_tensor p a b y z)
    read-u = found-back p a b parts.base_built parts.fibre_built n (omega (arith, low)) (value_of p (g_tensor p a b y z)) (g-gens_in p a b parts y z valid-g n sum) u u_is

    pub goes_on : Stage calls p (transferred p a b values n y z) (p2_on p a b values n (read_tensors a b u.terms) >>= f_differ p a b values n) s t
    goes_on =
        let x = value_of p (g_tensor p a b y z) in
        stage-as calls p (transferred p a b values n y z) (p2_on p a b values n x >>= f_on_differ) (p2_on p a b values n (read_tensors a b u.terms) >>= f_on_differ) s t
        (ap (λ x. p2_on p a b values n x >>= f_on_differ) (sym read-u))
        (stage-next calls p (transferred p a b values n y z) (g_tensor p a b y z) (λ u. p2_on p a b values n u >>= f_on_differ) s s begins t none through)

    gens-u : Each (GenIn p a b parts.base_built parts.fibre_built n) (read_tensors a b u.terms)
    gens-u = subst (Each (GenIn p a b parts.base_built parts.fibre_built n)) (sym read-u) (g-gens_in p a b parts y z valid-g n sum)

    module _ (t2 : S) (v : Formal (CodeTensor Cell Cell)) (v_is : v ≡ formal_tensors p a b (value_of p (p2_on p a b values n (read_tensors a b u.terms))))
        (none2 : first_refusal (keys_of p (p2_on p a b values n (read_tensors a b u.terms))) ≡ None)
        (through2 : EachAnswered calls t (up_to_refusal (keys_of p (p2_on p a b values n (read_tensors a b u.terms)))) t2)
        (d : Terms (CodeTensor Cell Cell)) (d_is : d ≡ difference_of a b values (number p) n v.terms) where
      abbrev x : Terms (Tensor (Plain a) (Plain b))
      x = value_of p (p2_on p a b values n (read_tensors a b u.terms))

      gens-x : Each (GenIn p a b parts.base_built parts.fibre_built n) x
      gens-x = p2-gens p a b parts.base_built parts.fibre_built values are n (omega (arith, low)) (read_tensors a b u.terms) gens-u

      read-v : read_tensors a b v.terms ≡ x
      read-v = found-back p a b parts.base_built parts.fibre_built n (omega (arith, low)) x gens-x v v_is

      gens-d : Each (GenIn p a b parts.base_built parts.fibre_built (n - 1)) (differ p a b values n (read_tensors a b v.terms))
      gens-d =
          difference-gens p a b parts.base_built parts.fibre_built values are n (omega (arith, low)) (read_tensors a b v.terms)
          (subst (Each (GenIn p a b parts.base_built parts.fibre_built n)) (sym read-v) gens-x)

      read-d : read_tensors a b d ≡ differ p a b values n (read_tensors a b v.terms)
      read-d =
          ap (read_tensors a b) d_is
          ∙ gens-back (number p) (number_pos p) a b parts.base_built parts.fibre_built (n - 1) (omega (arith, low)) (differ p a b values n (read_tensors a b v.terms)) gens-d

      pub ends : Stage calls p (transferred p a b values n y z) (f_on p a b values (read_tensors a b d)) s t2
      ends =
          stage-as calls p (transferred p a b values n y z) (f_on_differ x) (f_on p a b values (read_tensors a b d)) s t2
          (ap (λ e. f_on p a b values e) (ap (differ p a b values n) (sym read-v) ∙ sym read-d))
          (stage-next calls p (transferred p a b values n y z) (p2_on p a b values n (read_tensors a b u.terms)) f_on_differ s t goes_on t2 none2 through2)

-- its terms are pairs of small cells of one degree less
module _ (p : Prime) (a b : Space) (parts : AreParts p a b) (values : Option (List ℤ)) (are : AreTwistValues values a b) (n : ℕ) (low : n ≤ 30)
    (y z : SmallCell) (sum : n ≡ small_degree a (small_form y a) + small_degree b (small_form z b)) (valid_g : AsksValid p (g_tensor p a b y z)) where
  abbrev made : Terms (Tensor (Plain a) (Plain b))
  made = value_of p (p2_on p a b values n (value_of p (g_tensor p a b y z)))

  made-gens : Each (GenIn p a b parts.base_built parts.fibre_built n) made
  made-gens =
      p2-gens p a b parts.base_built parts.fibre_built values are n (omega (arith, low)) (value_of p (g_tensor p a b y z)) (g-gens_in p a b parts y z valid_g n sum)

  pub transferred-smalls : Each (λ x. (small_degree a x.0 + small_degree b x.1 ≡ n - 1) × (IsSmall a x.0 × IsSmall b x.1)) (value_of p (transferred p a b values n y z))
  transferred-smalls =
      subst (Each (λ x. (small_degree a x.0 + small_degree b x.1 ≡ n - 1) × (IsSmall a x.0 × IsSmall b x.1)))
      (sym (value-bind p (g_tensor p a b y z) (λ u. p2_on p a b values n u >>= f_differ p a b values n)
      ∙ value-bind p (p2_on p a b values n (value_of p (g_tensor p a b y z))) (f_differ p a b values n)))
      (f-smalls p a b parts.base_built parts.fibre_built values (n - 1) (differ p a b values n made)
      (difference-gens p a b parts.base_built parts.fibre_built values are n (omega (arith, low)) made made-gens))

-- ---- the whole

-- the sum, from the differentials of both and the part that the twist makes
abbrev pub all_d : Prime → (a b : Space) → Option (List ℤ) → Small a → Small b → Terms (Small a) → Terms (Small b) → Terms (Small a × Small b) → Terms (Small a × Small b)
all_d p a b values x y dx dy w =
    normal (smalls_by (number p) (linear (ordered a)) (ordered b) (part a) (part b) (twist_by values (number p) a b)) (number p)
    (small_terms dx (one y) ++ scale (sign (number p) (small_degree a x)) (small_terms (one x) dy) ++ w)

module _ {S : Type 0} (calls : Calls S) (p : Prime) (a b : Space) (values : Option (List ℤ)) (n : ℕ) (y z : SmallCell) (valid : AsksValid p (d_total p a b values n y z)) (s : S) where
  abbrev Whole : Right (Terms (Small a × Small b))
  Whole = d_total p a b values n y z

  abbrev pub sums : Terms (Small a) → Terms (Small b) → Terms (Small a × Small b) → Right (Terms (Small a × Small b))
  sums dx dy w = gives (all_d p a b values (small_form y a) (small_form z b) dx dy w)

  abbrev pub after_right : Terms (Small a) → Terms (Small b) → Right (Terms (Small a × Small b))
  after_right dx dy = transferred p a b values n y z >>= sums dx dy

  abbrev pub after_left : Terms (Small a) → Right (Terms (Small a × Small b))
  after_left dx = small_d_at b z >>= after_right dx

  -- the definition, with its last part as a right side of its own
  in_parts : Whole ≡ small_d_at a y >>= after_left
  in_parts = λ i. small_d_at a y >>= λ dx. small_d_at b z >>= λ dy. sym (last dx dy) i
    where
      last : (dx : Terms (Small a)) (dy : Terms (Small b)) → transferred p a b values n y z >>= sums dx dy
          ≡ g_tensor p a b y z >>= λ u. p2_on p a b values n u >>= λ v. f_on p a b values (differ p a b values n v) >>= sums dx dy
      last dx dy =
          bind-assoc (g_tensor p a b y z) (λ u. p2_on p a b values n u >>= f_differ p a b values n) (sums dx dy)
          ∙ (λ i. g_tensor p a b y z >>= λ u. bind-assoc (p2_on p a b values n u) (f_differ p a b values n) (sums dx dy) i)

  pub first : Stage calls p (d_total p a b values n y z) (small_d_at a y >>= λ dx. small_d_at b z >>= λ dy. transferred p a b values n y z >>= sums dx dy) s s
  first = stage-as calls p Whole Whole (small_d_at a y >>= after_left) s s in_parts (stage-start calls p Whole s valid)

  module _ (t : S) (none : first_refusal (keys_of p (small_d_at a y)) ≡ None) (through : EachAnswered calls s (up_to_refusal (keys_of p (small_d_at a y))) t) where
    pub second : Stage calls p (d_total p a b values n y z) (small_d_at b z >>= λ dy. transferred p a b values n y z >>= sums (value_of p (small_d_at a y)) dy) s t
    second = stage-next calls p Whole (small_d_at a y) after_left s s first t none through

    module _ (t2 : S) (none2 : first_refusal (keys_of p (small_d_at b z)) ≡ None) (through2 : EachAnswered calls t (up_to_refusal (keys_of p (small_d_at b z))) t2) where
      pub third : Stage calls p (d_total p a b values n y z) (transferred p a b values n y z >>= sums (value_of p (small_d_at a y)) (value_of p (small_d_at b z))) s t2
      third = stage-next calls p Whole (small_d_at b z) (after_right (value_of p (small_d_at a y))) s t second t2 none2 through2

      module _ (t3 : S) (none3 : first_refusal (keys_of p (transferred p a b values n y z)) ≡ None)
          (through3 : EachAnswered calls t2 (up_to_refusal (keys_of p (transferred p a b values n y z))) t3) where
        pub ended : Stage calls p (d_total p a b values n y z)
            (gives (all_d p a b values (small_form y a) (small_form z b) (value_of p (small_d_at a y)) (value_of p (small_d_at b z)) (value_of p (transferred p a b values n y z)))) s t3
        ended = stage-next calls p Whole (transferred p a b values n y z) (sums (value_of p (small_d_at a y)) (value_of p (small_d_at b z))) s t2 third t3 none3 through3
