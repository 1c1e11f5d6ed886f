-- What h of a tensor comes to, where none of its keys is refused: tensors of one degree more, with a bounded reach.
use Rattle.std.proofs.Common.{◌≡◌, ℕ, suc, ◌≤◌, List, [], ◌∷◌, ◌++◌, Option, Some, None, refl, sym, ◌∙◌, ap, subst, arith}
use Rattle.fp_field.specs.declared.prime.Prime.{Prime}
use Rattle.fp_field.specs.Field.{number, sign}
use Rattle.fp_field.specs.Chains.{Terms, Each, scale, extend}
use Rattle.fp_field.specs.Reduction.{one}
use Rattle.fp_field.proofs.FlowLaws.{Each-normal}
use Rattle.fp_field.proofs.Weights.{Each-append, Each-scale}
use Rattle.cells.specs.declared.cells.Cell.{Cell}
use Rattle.cells.specs.Dim.{dim_of}
use Rattle.spaces.specs.Spaces.{Space, Plain}
use Rattle.spaces.specs.Orders.{ordered, by_degree}
use Rattle.spaces.specs.SmallCells.{Small, small_degree}
use Rattle.values.specs.Asks.{Cell as GradedCell, ask, across, g, h as h_of, asked_with}
use Rattle.values.specs.Perturbed.{tensor_terms}
use Rattle.values.specs.Ranks.{IsValid}
use Rattle.values.specs.Values.{value}
use Rattle.values.proofs.Chains.{asked_with-on_chain, along}
use Rattle.values.proofs.Readings.{EachAsk}
use Rattle.ez_laws.proofs.Eaches.{each-so, each-and}
use Rattle.tensor_red.specs.declared.tensors.Tensor.{Tensor as CodeTensor}
use Rattle.term_lang.specs.Forms.{cell_form}
use Rattle.oracle_iface.specs.declared.keys.Key.{Key}
use Rattle.oracle_iface.specs.declared.bodies.Over.{Over}
use Rattle.homology_rules.specs.Asking.{first_refusal}
use Rattle.homology_rules.proofs.Answered.{none-split, or_then, refusal-append}
use Rattle.homology_rules.proofs.Quoted.{each-extend}
use Rattle.twist_chains.specs.Fibred.{IsTensorWithin}
use Rattle.part_asks.specs.Along.{AsksValid, g_along}
use Rattle.part_asks.specs.Askers.{t_tensor}
use Rattle.part_asks.specs.OneKey.{f_at, h_at}
use Rattle.part_asks.specs.Reading.{keys_of, value_of}
use Rattle.part_asks.proofs.HomotopySteps.{image, split-keys, value-is, valid-h, valid-f, valid-g, valid-other}
use Rattle.part_asks.proofs.Readings.{keys-across, keys-on_chain, value-on_chain}
use Rattle.fibred_asks.specs.Parts.{AreParts}
use Rattle.fibred_asks.specs.Reached.{limited_reach, IsUnrefusedAsk, IsReachedCell}
use Rattle.fibred_asks.proofs.KeptCells.{IsKeptCell, IsKeptTensor, each-kept, kept-bare, kept-product}

-- ---- keys of which none is refused

both-none : (o u : Option Over) → or_then o u ≡ None → (o ≡ None) × (u ≡ None)
both-none None u e = (refl, e)
both-none (Some w) u e = absurd (cc)

none-apart : (a b : List Key) → first_refusal (a ++ b) ≡ None → (first_refusal a ≡ None) × (first_refusal b ≡ None)
none-apart a b e = both-none (first_refusal a) (first_refusal b) (sym (refusal-append a b) ∙ e)

-- ---- G along the image

module _ (p : Prime) (a : Space) where
  valid-along : (c : Terms (Small a)) → AsksValid p (g_along p a c) → Each (λ y. IsValid (number p) (g a y)) c
  valid-along c h = by c (subst (EachAsk (IsValid (number p))) (asked_with-on_chain (value (number p)) (λ (y : Small a). ask (g a y)) (by_degree (ordered a).cmp) (number p) c) h)
    where
      by : (c : Terms (Small a)) → EachAsk (IsValid (number p)) (along (λ y. asked_with (value (number p)) (ask (g a y))) c) → Each (λ y. IsValid (number p) (g a y)) c
      by [] h = tt
      by (t ∷ c) h = (h.0, by c h.1)

  none-along : (c : Terms (Small a)) → first_refusal (keys_of p (g_along p a c)) ≡ None → Each (λ y. IsUnrefusedAsk p (g a y)) c
  none-along c h = by c (ap first_refusal (sym (keys-on_chain p (λ (y : Small a). ask (g a y)) (by_degree (ordered a).cmp) (number p) c)) ∙ h)
    where
      by : (c : Terms (Small a)) → first_refusal (keys_of p (across (λ y. ask (g a y)) c)) ≡ None → Each (λ y. IsUnrefusedAsk p (g a y)) c
      by [] h = tt
      by (t ∷ c) h =
          let e = ap first_refusal (sym (keys-across p (λ (y : Small a). ask (g a y)) t.0 t.1 c)) ∙ h in
          let s = none-apart (keys_of p (ask (g a t.0))) (keys_of p (across (λ y. ask (g a y)) c)) e in
          ((none-split _ [] s.0).0, by c s.1)

  module _ (m n : ℕ) (c : Terms (Small a)) (e : Each (λ y. Each (IsKeptCell a m n) (value (number p) (g a y))) c) where
    kept-along : Each (IsKeptCell a m n) (value_of p (g_along p a c))
    kept-along =
        subst (Each (IsKeptCell a m n)) (sym (value-on_chain p (λ (y : Small a). ask (g a y)) (by_degree (ordered a).cmp) (number p) c))
        (Each-normal (IsKeptCell a m n) (by_degree (ordered a).cmp) (number p) (extend (λ y. value (number p) (g a y)) c)
        (each-extend (IsKeptCell a m n) (λ y. value (number p) (g a y)) c e))

-- ---- h of a tensor

module _ (p : Prime) (a b : Space) (parts : AreParts p a b) (most n : ℕ) (wide : limited_reach ≤ most) (x : CodeTensor Cell Cell) (is : IsTensorWithin a b most n x)
    (valid : AsksValid p (t_tensor p a b x)) (none : first_refusal (keys_of p (t_tensor p a b x)) ≡ None) where
  abbrev i : ℕ
  i = dim_of x.left

  abbrev j : ℕ
  j = dim_of x.right

  abbrev left : Plain a
  left = cell_form x.left a

  abbrev right : Plain b
  right = cell_form x.right b

  abbrev img : Terms (Small a)
  img = image p a b x

  abbrev back : Terms (GradedCell a)
  back = value_of p (g_along p a img)

  nones : (first_refusal (keys_of p (h_at a x.left)) ≡ None)
      × ((first_refusal (keys_of p (g_along p a img)) ≡ None) × (first_refusal (keys_of p (h_at b x.right)) ≡ None))
  nones =
      let first = none-apart (keys_of p (h_at a x.left)) (keys_of p (f_at a x.left) ++ (keys_of p (g_along p a img) ++ keys_of p (h_at b x.right)))
      (ap first_refusal (sym (split-keys p a b x)) ∙ none) in
      let second = none-apart (keys_of p (f_at a x.left)) (keys_of p (g_along p a img) ++ keys_of p (h_at b x.right)) first.1 in
      (first.0, none-apart (keys_of p (g_along p a img)) (keys_of p (h_at b x.right)) second.1)

  own-kept : Each (IsKeptCell a most (suc i)) (value (number p) (h_of a i left))
  own-kept =
      each-kept a limited_reach most (suc i) (value (number p) (h_of a i left)) parts.base_shown.cells wide (parts.base_shown.in_h i left (valid-h p a b x valid))
      (parts.base_reached.of_h i left (valid-h p a b x valid) (none-split _ [] nones.0).0)

  other-kept : Each (IsKeptCell b most (suc j)) (value (number p) (h_of b j right))
  other-kept =
      each-kept b limited_reach most (suc j) (value (number p) (h_of b j right)) parts.fibre_shown.cells wide (parts.fibre_shown.in_h j right (valid-other p a b x valid))
      (parts.fibre_reached.of_h j right (valid-other p a b x valid) (none-split _ [] nones.1.1).0)

  g-kept : (y : Small a) → small_degree a y ≡ i → IsValid (number p) (g a y) → IsUnrefusedAsk p (g a y) → Each (IsKeptCell a most i) (value (number p) (g a y))
  g-kept y d v u =
      each-kept a limited_reach most i (value (number p) (g a y)) parts.base_shown.cells wide (parts.base_shown.in_g y v)
      (subst (λ k. Each (IsReachedCell a limited_reach k) (value (number p) (g a y))) d (parts.base_reached.of_g y v u))

  back-kept : Each (IsKeptCell a most i) back
  back-kept =
      let v = valid-along p a img (valid-g p a b x valid) in
      let u = none-along p a img nones.1.0 in
      kept-along p a most i img
      (each-so img (λ y h. g-kept y h.0 h.1.0 h.1.1)
      (each-and (λ y. small_degree a y ≡ i) (λ y. IsValid (number p) (g a y) × IsUnrefusedAsk p (g a y)) img
      (parts.base_reached.of_f i left (valid-f p a b x valid))
      (each-and (λ y. IsValid (number p) (g a y)) (λ y. IsUnrefusedAsk p (g a y)) img v u)))

  pub t-kept : Each (IsKeptTensor a b most (suc n)) (value_of p (t_tensor p a b x))
  t-kept =
      let own = kept-product a b most (suc i) j (suc n) (omega (arith, is.2)) (value (number p) (h_of a i left)) (one (j, right)) own-kept
      (kept-bare b parts.fibre_built most x.right is.1, tt) in
      let other = kept-product a b most i (suc j) (suc n) (omega (arith, is.2)) back (value (number p) (h_of b j right)) back-kept other-kept in
      subst (Each (IsKeptTensor a b most (suc n))) (sym (value-is p a b x))
      (Each-append (IsKeptTensor a b most (suc n)) (tensor_terms (value (number p) (h_of a i left)) (one (j, right)))
      (scale (sign (number p) i) (tensor_terms back (value (number p) (h_of b j right)))) own
      (Each-scale (IsKeptTensor a b most (suc n)) (sign (number p) i) (tensor_terms back (value (number p) (h_of b j right))) other))
