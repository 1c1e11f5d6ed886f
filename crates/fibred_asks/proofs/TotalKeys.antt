-- Tensors of plain simplices that are tensors of cells of the code, and chains of them, read back from the chains of the code that they were
-- quoted as.
use Rattle.std.proofs.Common.{◌≡◌, ℕ, ◌+◌, ◌<◌, ◌≤◌, [], ◌∷◌, refl, ap, subst, arith, lit≤}
use Rattle.fp_field.specs.Chains.{Terms, Each}
use Rattle.spaces.specs.Spaces.{Space, Plain, set_of}
use Rattle.spaces.specs.Orders.{ordered}
use Rattle.spaces.specs.EilenbergZilber.{Tensor, linear}
use Rattle.cells.specs.Dim.{dim_of}
use Rattle.cells.specs.declared.cells.Cell.{Cell}
use Rattle.term_lang.specs.Forms.{form}
use Rattle.term_lang.specs.Quote.{quote}
use Rattle.normal_forms.proofs.BuiltForms.{built_forms}
use Rattle.space_faces.specs.Built.{IsAllowedBuilt}
use Rattle.ez_laws.specs.Instances.{product_maps}
use Rattle.ez_laws.proofs.Eaches.{each-so}
use Rattle.ez_flow.specs.Parts.{HasSimplex}
use Rattle.ez_maps.specs.Tensors.{bare, tensor_form, tensor_for}
use Rattle.ez_maps.proofs.TensorForms as TF
use Rattle.tensor_red.specs.declared.tensors.Tensor.{Tensor as CodeTensor}
use Rattle.space_pairs.specs.Reach.{reach}
use Rattle.space_pairs.specs.Parts.{IsReached}
use Rattle.twist_chains.specs.Fibred.{read_tensors, quote_tensors, IsTensorWithin}
use Rattle.twist_chains.proofs.FirstParts.{reach_wider, parts-within}
use Rattle.twist_chains.proofs.FirstTerms as T
use Rattle.twist_chains.proofs.Stages as S

-- ---- one space

module _ (X : Space) (kept : IsAllowedBuilt X) where
  -- a plain simplex has its simplex of the code
  pub has-simplex : (m n : ℕ) (x : Plain X) → n ≤ 32 → (set_of X).In n x → reach X x ≤ m → HasSimplex (IsReached X m) (λ s. form s X) (quote X) n x
  has-simplex m n x l is r =
      let all = built_forms X kept.0 kept.1 n l in
      let e : reach X (form (quote X n x) X) ≡ reach X x = ap (reach X) (all.formed x is) in
      ((all.onto x is, l, omega (arith, e, r)), all.formed x is)

  pub in-space : (m n : ℕ) (x : Plain X) → HasSimplex (IsReached X m) (λ s. form s X) (quote X) n x → (set_of X).In n x
  in-space m n x h = subst ((set_of X).In n) h.1 ((built_forms X kept.0 kept.1 n h.0.1).simplex (quote X n x) h.0.0)

-- ---- tensors

module _ (p : ℕ) (pos : 0 < p) (a b : Space) (ka : IsAllowedBuilt a) (kb : IsAllowedBuilt b) where
  -- tensors of degree n that the code has with a reach of at most m
  abbrev pub TensorKey : ℕ → ℕ → Tensor (Plain a) (Plain b) → Type 0
  TensorKey m n z =
      S.TensorKey p pos (linear (ordered a)) (set_of a).In (ordered b) (IsReached a) (λ s. form s a) (quote a) (IsReached b) (λ s. form s b) (quote b) (parts-within p pos a b ka kb)
      (reach_wider a) (reach_wider b) m n z

  -- tensors of cells, of degree n
  abbrev pub Gen : ℕ → Tensor (Plain a) (Plain b) → Type 0
  Gen n z = (product_maps p a b).small.generator n z

  pub gen-of : (m n : ℕ) (z : Tensor (Plain a) (Plain b)) → TensorKey m n z → Gen n z
  gen-of m n z h = (h.0.0, (in-space a ka m z.0 z.1 h.0.1, in-space b kb m z.2 z.3 h.0.2, h.1))

  pub gens-of : (m n : ℕ) (c : Terms (Tensor (Plain a) (Plain b))) → Each (TensorKey m n) c → Each (Gen n) c
  gens-of m n c h = each-so c (gen-of m n) h

  pub key-of : (m n : ℕ) (z : Tensor (Plain a) (Plain b)) → n ≤ 32 → Gen n z → reach a z.1 ≤ m → reach b z.3 ≤ m → TensorKey m n z
  key-of m n z l h u v =
      let e : z.0 + z.2 ≡ n = h.0 in
      ((e, has-simplex a ka m z.0 z.1 (omega (arith, e, l)) h.1.0 u, has-simplex b kb m z.2 z.3 (omega (arith, e, l)) h.1.1 v), h.1.2)

  -- the tensors of a chain have a greatest reach
  pub some-reach : (n : ℕ) → n ≤ 32 → (c : Terms (Tensor (Plain a) (Plain b))) → Each (Gen n) c → (m : ℕ) × Each (TensorKey m n) c
  some-reach n l [] h = (0, tt)
  some-reach n l (t ∷ c) h =
      let r = some-reach n l c h.1 in
      let m : ℕ = reach a t.0.1 + reach b t.0.3 + r.0 in
      (m, (key-of m n t.0 l h.0 (omega arith) (omega arith), T.widened-tensors p pos a b ka kb r.0 m n (omega arith) c r.1))

  -- ---- reading back

  tensor-back : (m n : ℕ) (z : Tensor (Plain a) (Plain b)) → TensorKey m n z
      → tensor_form dim_of (λ s. form s a) (λ s. form s b) (tensor_for (quote a) (quote b) z) ≡ z
  tensor-back m n z h =
      let c = parts-within p pos a b ka kb m in
      TF.key-form p 32 (lit≤ tt) (linear (ordered a)) (set_of a).In (ordered b) (IsReached a m) (λ s. form s a) (quote a) (IsReached b m) (λ s. form s b) (quote b)
      c.lefts c.rights c.left_read c.right_read dim_of c.graded c.right_graded n z h.0 h.1

  pub keys-back : (m n : ℕ) (c : Terms (Tensor (Plain a) (Plain b))) → Each (TensorKey m n) c → read_tensors a b (quote_tensors a b c) ≡ c
  keys-back m n [] h = refl
  keys-back m n (t ∷ c) h = λ i. (tensor-back m n t.0 h.0 i, t.1) ∷ keys-back m n c h.1 i

  pub gens-back : (n : ℕ) → n ≤ 32 → (c : Terms (Tensor (Plain a) (Plain b))) → Each (Gen n) c → read_tensors a b (quote_tensors a b c) ≡ c
  gens-back n l c h = let r = some-reach n l c h in keys-back r.0 n c r.1

-- within less is within more
pub wider-tensors : (a b : Space) (m k n : ℕ) → m ≤ k → (c : Terms (CodeTensor Cell Cell)) → Each (IsTensorWithin a b m n) c → Each (IsTensorWithin a b k n) c
wider-tensors a b m k n l c h =
    each-so c (λ t e. (reach_wider a m k (dim_of t.left) (bare t.left) l e.0, reach_wider b m k (dim_of t.right) (bare t.right) l e.1, e.2)) h
