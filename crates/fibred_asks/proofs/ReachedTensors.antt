-- G of two small cells: its tensors have the degree of both together, and where no key is refused, a reach past no limit.
use Rattle.std.proofs.Common.{◌≡◌, ℕ, ◌+◌, ◌*◌, ◌≤◌, [], ◌∷◌, map, None, sym, ◌∙◌, ap, subst, arith}
use Rattle.fp_field.specs.declared.prime.Prime.{Prime}
use Rattle.fp_field.specs.Field.{number}
use Rattle.fp_field.specs.Chains.{Terms, Each}
use Rattle.fp_field.proofs.FlowLaws.{Each-normal}
use Rattle.fp_field.proofs.Primes.{number_pos}
use Rattle.fp_field.proofs.Weights.{Each-append}
use Rattle.chain_core.specs.Formal.{Formal}
use Rattle.spaces.specs.Spaces.{Space, Plain}
use Rattle.spaces.specs.Orders.{ordered}
use Rattle.spaces.specs.SmallCells.{Small, small_degree}
use Rattle.spaces.specs.EilenbergZilber.{Tensor, linear, tensor_order}
use Rattle.cells.specs.declared.cells.Cell.{Cell}
use Rattle.cells.specs.declared.cells.SmallCell.{SmallCell}
use Rattle.values.specs.Asks.{g as g_of, Cell as GradedCell}
use Rattle.values.specs.Perturbed.{tensor_terms}
use Rattle.values.specs.Rules.{part}
use Rattle.values.specs.Twists.{untwisted}
use Rattle.values.specs.Values.{value}
use Rattle.term_lang.specs.Forms.{form}
use Rattle.term_lang.specs.Quote.{quote_cell}
use Rattle.normal_forms.proofs.BuiltForms.{built_cells}
use Rattle.oracle_iface.specs.KeyLaws.{IsShown}
use Rattle.oracle_iface.specs.Keys.{key_of}
use Rattle.oracle_iface.specs.SmallForms.{small_form}
use Rattle.homology_rules.specs.Asking.{first_refusal}
use Rattle.homology_rules.proofs.Answered.{none-split}
use Rattle.space_faces.specs.Built.{IsAllowedBuilt}
use Rattle.space_pairs.specs.Reach.{reach}
use Rattle.ez_laws.proofs.Eaches.{each-so, each-and}
use Rattle.ez_maps.specs.Tensors.{bare}
use Rattle.tensor_red.specs.declared.tensors.Tensor.{Tensor as CodeTensor}
use Rattle.part_asks.specs.Along.{AsksValid}
use Rattle.part_asks.specs.Askers.{g_tensor, formal_tensors}
use Rattle.part_asks.specs.Reading.{keys_of, value_of}
use Rattle.part_asks.proofs.ReadTensors.{bare-form}
use Rattle.twist_chains.specs.Fibred.{IsTensorWithin}
use Rattle.twist_chains.proofs.FirstTerms as F
use Rattle.twist_laws.proofs.TotalRead.{g_value-is}
use Rattle.fibred_asks.specs.Parts.{AreParts}
use Rattle.fibred_asks.specs.Reached.{limited_reach, IsReachedCell}
use Rattle.fibred_asks.proofs.FirstChains.{GenIn}
use Rattle.fibred_asks.proofs.TotalKeys.{TensorKey, key-of}
use Rattle.fibred_asks.proofs.TotalValues.{g-gens}

-- the reach of a cell that is shown
within : (X : Space) (kept : IsAllowedBuilt X) (m n : ℕ) (x : GradedCell X) → IsReachedCell X m n x → IsShown X x → reach X x.1 ≤ m
within X kept m n x h s =
    let e : form (bare (quote_cell X x.0 x.1)) X ≡ x.1 = bare-form (quote_cell X x.0 x.1) X ∙ (built_cells X kept.0 kept.1 x.0 s.0).formed x.1 s.1.0 s.1.1 in
    omega (arith, ap (reach X) e, h.1.2)

-- facts of the keys of two chains are facts of the two parts of their tensors
module _ {K J : Type 0} (A : ℕ × K → Type 0) (B : ℕ × J → Type 0) where
  row-each : (x : ℕ × K) (n : ℕ) (e : Terms (ℕ × J)) → A x → Each B e
      → Each (λ (z : Tensor K J). A (z.0, z.1) × B (z.2, z.3)) (map (λ u. ((x.0, x.1, u.0.0, u.0.1), n * u.1)) e)
  row-each x n [] h g = tt
  row-each x n (u ∷ e) h g = ((h, g.0), row-each x n e h g.1)

  tensor-each : (c : Terms (ℕ × K)) (e : Terms (ℕ × J)) → Each A c → Each B e → Each (λ (z : Tensor K J). A (z.0, z.1) × B (z.2, z.3)) (tensor_terms c e)
  tensor-each [] e h g = tt
  tensor-each (t ∷ c) e h g =
      Each-append (λ (z : Tensor K J). A (z.0, z.1) × B (z.2, z.3)) (map (λ u. ((t.0.0, t.0.1, u.0.0, u.0.1), t.1 * u.1)) e) (tensor_terms c e)
      (row-each t.0 t.1 e h.0 g) (tensor-each c e h.1 g)

module _ (p : Prime) (a b : Space) (parts : AreParts p a b) (y z : SmallCell) (valid : AsksValid p (g_tensor p a b y z)) (n : ℕ)
    (sum : n ≡ small_degree a (small_form y a) + small_degree b (small_form z b)) where
  abbrev left : Small a
  left = small_form y a

  abbrev right : Small b
  right = small_form z b

  pub g-gens_in : Each (GenIn p a b parts.base_built parts.fibre_built n) (value_of p (g_tensor p a b y z))
  g-gens_in = g-gens p a b parts.base_built parts.fibre_built left right valid.0 valid.1.0 n (sym sum)

  abbrev Low : Tensor (Plain a) (Plain b) → Type 0
  Low w = (reach a w.1 ≤ limited_reach) × (reach b w.3 ≤ limited_reach)

  module _ (none : first_refusal (keys_of p (g_tensor p a b y z)) ≡ None) where
    lefts : Each (λ (x : GradedCell a). reach a x.1 ≤ limited_reach) (value (number p) (g_of a left))
    lefts =
        let r = none-split (key_of p (g_of a left)) (key_of p (g_of b right) ∷ []) none in
        let c = value (number p) (g_of a left) in
        each-so c (λ x h. within a parts.base_built limited_reach (small_degree a left) x h.0 h.1)
        (each-and (IsReachedCell a limited_reach (small_degree a left)) (IsShown a) c (parts.base_reached.of_g left valid.0 r.0) (parts.base_shown.in_g left valid.0))

    rights : Each (λ (x : GradedCell b). reach b x.1 ≤ limited_reach) (value (number p) (g_of b right))
    rights =
        let r = none-split (key_of p (g_of a left)) (key_of p (g_of b right) ∷ []) none in
        let s = none-split (key_of p (g_of b right)) [] r.1 in
        let c = value (number p) (g_of b right) in
        each-so c (λ x h. within b parts.fibre_built limited_reach (small_degree b right) x h.0 h.1)
        (each-and (IsReachedCell b limited_reach (small_degree b right)) (IsShown b) c (parts.fibre_reached.of_g right valid.1.0 s.0) (parts.fibre_shown.in_g right valid.1.0))

    low : Each Low (value_of p (g_tensor p a b y z))
    low =
        let c = tensor_terms (value (number p) (g_of a left)) (value (number p) (g_of b right)) in
        subst (Each Low) (sym (g_value-is (value (number p)) (number p) (linear (ordered a)) (ordered b) (part a) (part b) untwisted left right))
        (Each-normal Low (tensor_order (number p) (linear (ordered a)) (ordered b)) (number p) c
        (tensor-each (λ x. reach a x.1 ≤ limited_reach) (λ x. reach b x.1 ≤ limited_reach) (value (number p) (g_of a left)) (value (number p) (g_of b right)) lefts rights))

    g-keys : n ≤ 32 → Each (TensorKey (number p) (number_pos p) a b parts.base_built parts.fibre_built limited_reach n) (value_of p (g_tensor p a b y z))
    g-keys l =
        let x = value_of p (g_tensor p a b y z) in
        each-so x (λ w h. key-of (number p) (number_pos p) a b parts.base_built parts.fibre_built limited_reach n w l h.0 h.1.0 h.1.1)
        (each-and (GenIn p a b parts.base_built parts.fibre_built n) Low x g-gens_in low)

    -- the tensors of the code
    pub g-within : n ≤ 32 → (u : Formal (CodeTensor Cell Cell)) → u ≡ formal_tensors p a b (value_of p (g_tensor p a b y z)) → Each (IsTensorWithin a b limited_reach n) u.terms
    g-within l u e =
        subst (λ (w : Formal (CodeTensor Cell Cell)). Each (IsTensorWithin a b limited_reach n) w.terms) (sym e)
        (F.tensors-are (number p) (number_pos p) a b parts.base_built parts.fibre_built limited_reach n (value_of p (g_tensor p a b y z)) (g-keys l))
