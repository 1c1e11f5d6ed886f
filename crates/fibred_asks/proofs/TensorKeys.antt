-- Chains of tensors that the code has: they are read back from their quotes, their normal forms and multiples are carried, and the difference
-- comes to such chains.
use Rattle.std.proofs.Common.{◌≡◌, ℕ, suc, ◌+◌, ◌*◌, ◌-◌, ◌<◌, ◌≤◌, List, [], ◌∷◌, Option, ℤ, refl, ◌∙◌, ap, subst, arith, lit≤}
use Rattle.fp_field.specs.Chains.{Terms, Each, scale}
use Rattle.fp_field.specs.Normal.{normal, apply}
use Rattle.fp_field.specs.Reduction.{after}
use Rattle.fp_field.specs.Series.{series}
use Rattle.spaces.specs.Spaces.{Space, Plain, set_of}
use Rattle.spaces.specs.Orders.{ordered}
use Rattle.spaces.specs.EilenbergZilber.{Pair, Tensor as PlainTensor, linear, pair_order, tensor_order, eml, flow}
use Rattle.values.specs.Perturbed.{r}
use Rattle.values.specs.Rules.{part}
use Rattle.cells.specs.Dim.{dim_of}
use Rattle.cells.specs.declared.cells.Cell.{Cell}
use Rattle.term_lang.specs.Forms.{form}
use Rattle.term_lang.specs.Quote.{quote}
use Rattle.space_faces.specs.Built.{IsAllowedBuilt}
use Rattle.space_pairs.specs.Parts.{IsReached}
use Rattle.ez_laws.proofs.Eaches.{each-so}
use Rattle.ez_maps.specs.Tensors.{bare, tensor_cmp, tensor_form, tensor_for}
use Rattle.ez_maps.proofs.TensorForms as TF
use Rattle.tensor_red.specs.declared.tensors.Tensor.{Tensor}
use Rattle.oracle_iface.proofs.CarriedChains.{each-normal, carried-normal}
use Rattle.homology_rules.proofs.Quoted.{carried-scale, each-scale}
use Rattle.twist_chains.specs.Fibred.{twist_by, AreTwistValues, growth, room, read_tensors, quote_tensors, IsTensorWithin}
use Rattle.twist_chains.proofs.CodeParts.{AreParts}
use Rattle.twist_chains.proofs.CodeKeys as C
use Rattle.twist_chains.proofs.Stages as S
use Rattle.twist_chains.proofs.FirstParts.{reach_wider, parts-within, Key as PairKey}
use Rattle.twist_chains.proofs.FirstTerms as F

-- what has a reach within a bound has one within a greater bound
pub within-wider : (a b : Space) (m k n : ℕ) → m ≤ k → (c : Terms (Tensor Cell Cell)) → Each (IsTensorWithin a b m n) c → Each (IsTensorWithin a b k n) c
within-wider a b m k n l c h =
    each-so c (λ t u. (reach_wider a m k (dim_of t.left) (bare t.left) l u.0, reach_wider b m k (dim_of t.right) (bare t.right) l u.1, u.2)) h

module _ (p : ℕ) (pos : 0 < p) (a b : Space) (ka : IsAllowedBuilt a) (kb : IsAllowedBuilt b) where
  -- the tensors of degree n that the code has with a reach of at most m
  abbrev pub Key : ℕ → ℕ → PlainTensor (Plain a) (Plain b) → Type 0
  Key m n z =
      S.TensorKey p pos (linear (ordered a)) (set_of a).In (ordered b) (IsReached a) (λ s. form s a) (quote a) (IsReached b) (λ s. form s b) (quote b) (parts-within p pos a b ka kb)
      (reach_wider a) (reach_wider b) m n z

  abbrev parts : (m : ℕ) → AreParts p (linear (ordered a)) (set_of a).In (ordered b) (IsReached a m) (λ s. form s a) (quote a) (IsReached b m) (λ s. form s b) (quote b)
  parts m = parts-within p pos a b ka kb m

  abbrev by_tensor : PlainTensor (Plain a) (Plain b) → PlainTensor (Plain a) (Plain b) → Rattle.std.specs.declared.cmp.Ordering.Ordering
  by_tensor = tensor_order p (linear (ordered a)) (ordered b)

  read-back : (m n : ℕ) (z : PlainTensor (Plain a) (Plain b)) → Key m n z
      → tensor_form dim_of (λ s. form s a) (λ s. form s b) (tensor_for (quote a) (quote b) z) ≡ z
  read-back m n z h =
      TF.key-form p 32 (lit≤ tt) (linear (ordered a)) (set_of a).In (ordered b) (IsReached a m) (λ s. form s a) (quote a) (IsReached b m) (λ s. form s b) (quote b)
      (parts m).lefts (parts m).rights (parts m).left_read (parts m).right_read dim_of (parts m).graded (parts m).right_graded n z h.0 h.1

  pub reads-back : (m n : ℕ) (c : Terms (PlainTensor (Plain a) (Plain b))) → Each (Key m n) c → read_tensors a b (quote_tensors a b c) ≡ c
  reads-back m n [] h = refl
  reads-back m n (t ∷ c) h = λ i. (read-back m n t.0 h.0 i, t.1) ∷ reads-back m n c h.1 i

  -- a chain that is read back, whose quotes the code has
  pub from-code : (m n : ℕ) (c : Terms (PlainTensor (Plain a) (Plain b))) → read_tensors a b (quote_tensors a b c) ≡ c → Each (IsTensorWithin a b m n) (quote_tensors a b c)
      → Each (Key m n) c
  from-code m n c e h = subst (Each (Key m n)) e (F.tensors-read p pos a b ka kb m n (quote_tensors a b c) h)

  pub normal-quoted : (m n : ℕ) (c : Terms (PlainTensor (Plain a) (Plain b))) → Each (Key m n) c
      → normal tensor_cmp p (quote_tensors a b c) ≡ quote_tensors a b (normal by_tensor p c)
  normal-quoted m n c h =
      carried-normal (tensor_for (quote a) (quote b)) by_tensor tensor_cmp p (Key m n)
      (C.tensors-keep p pos (linear (ordered a)) (set_of a).In (ordered b) (IsReached a m) (λ s. form s a) (quote a) (IsReached b m) (λ s. form s b) (quote b) (parts m) n) c h

  -- minus a chain
  pub minus-quoted : (m n : ℕ) (c : Terms (PlainTensor (Plain a) (Plain b))) → Each (Key m n) c
      → normal tensor_cmp p (scale (p - 1) (quote_tensors a b c)) ≡ quote_tensors a b (normal by_tensor p (scale (p - 1) c))
  minus-quoted m n c h =
      ap (normal tensor_cmp p) (carried-scale (tensor_for (quote a) (quote b)) (p - 1) c) ∙ normal-quoted m n (scale (p - 1) c) (each-scale (Key m n) (p - 1) c h)

  pub minus-keys : (m n : ℕ) (c : Terms (PlainTensor (Plain a) (Plain b))) → Each (Key m n) c → Each (Key m n) (normal by_tensor p (scale (p - 1) c))
  minus-keys m n c h = each-normal by_tensor p (Key m n) (scale (p - 1) c) (each-scale (Key m n) (p - 1) c h)

  -- ---- the difference

  module _ (values : Option (List ℤ)) (are : AreTwistValues values a b) (m n : ℕ) (low : n ≤ 32) (c : Terms (Tensor Cell Cell)) (tensors : Each (IsTensorWithin a b m n) c) where
    abbrev q : Pair (Plain a) (Plain b) → Terms (Pair (Plain a) (Plain b))
    q = twist_by values p a b

    abbrev by_pair : Pair (Plain a) (Plain b) → Pair (Plain a) (Plain b) → Rattle.std.specs.declared.cmp.Ordering.Ordering
    by_pair = pair_order p (linear (ordered a)) (ordered b)

    abbrev near : ℕ
    near = m + suc n * growth values

    abbrev shuffled : Terms (Pair (Plain a) (Plain b))
    shuffled = apply by_pair p (eml p (linear (ordered a)) (ordered b)) (read_tensors a b c)

    shuffled-keys : Each (PairKey p pos a b ka kb m n) shuffled
    shuffled-keys = F.shuffles-each p pos a b ka kb m n low (read_tensors a b c) (F.tensors-read p pos a b ka kb m n c tensors)

    abbrev lifted : Terms (Pair (Plain a) (Plain b))
    lifted = series by_pair p (suc n) (after (flow p (linear (ordered a)) (ordered b)) q) shuffled

    lifted-keys : Each (PairKey p pos a b ka kb near n) lifted
    lifted-keys = F.p1-each p pos a b ka kb values are m near n (suc n) (omega arith) shuffled shuffled-keys low

    abbrev turned : Terms (Pair (Plain a) (Plain b))
    turned = apply by_pair p q lifted

    nearer : near + growth values ≤ room values n m
    nearer = omega arith

    turned-keys : Each (PairKey p pos a b ka kb (room values n m) (n - 1)) turned
    turned-keys =
        F.widened-pairs p pos a b ka kb (near + growth values) (room values n m) (n - 1) nearer turned (F.twists-each p pos a b ka kb values are near n low lifted lifted-keys)

    pub difference-keys : Each (Key (room values n m) (n - 1)) (r p (linear (ordered a)) (ordered b) (part a) (part b) (twist_by values p a b) n (read_tensors a b c))
    difference-keys = F.fronts-each p pos a b ka kb (room values n m) (n - 1) (omega (arith, low)) turned turned-keys
