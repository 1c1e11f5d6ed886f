-- The homotopy of tensors along a chain of the code: the tensors that are left, and those that were found.
use Rattle.std.proofs.Common.{◌≡◌, ℕ, suc, ◌+◌, ◌*◌, ◌<◌, ◌≤◌, List, [], ◌∷◌, drop, length, get_or, None, refl, sym, ◌∙◌, ap, subst}
use Rattle.fp_field.specs.declared.prime.Prime.{Prime}
use Rattle.fp_field.specs.declared.element.Fp.{Fp}
use Rattle.fp_field.specs.Field.{number, SameMod}
use Rattle.fp_field.specs.Chains.{Terms, Each, weigh}
use Rattle.fp_field.specs.Normal.{normal}
use Rattle.fp_field.proofs.Mod.{same-plus, same-times}
use Rattle.fp_field.proofs.Normals.{weigh-normal}
use Rattle.fp_field.proofs.Primes.{number_pos}
use Rattle.chain_core.specs.Formal.{Formal, numbers}
use Rattle.std.specs.declared.cmp.Ordering.{Ordering}
use Rattle.cells.specs.declared.cells.Cell.{Cell}
use Rattle.cells.specs.Dim.{dim_of}
use Rattle.spaces.specs.Spaces.{Plain}
use Rattle.spaces.specs.Orders.{ordered}
use Rattle.spaces.specs.EilenbergZilber.{Tensor, linear, tensor_order}
use Rattle.values.specs.Asks.{Right, ◌>>=◌}
use Rattle.values.specs.Perturbed.{t}
use Rattle.values.specs.Rules.{part}
use Rattle.ez_laws.specs.Sides.{on_keys}
use Rattle.ez_maps.specs.Tensors.{tensor_cmp, tensor_form, tensor_for}
use Rattle.ez_maps.specs.TensorOrder.{one_tensor, tensor_total}
use Rattle.tensor_red.specs.declared.tensors.Tensor.{Tensor as CodeTensor}
use Rattle.term_lang.specs.Forms.{form}
use Rattle.term_lang.specs.Quote.{quote}
use Rattle.oracle_iface.specs.Forcing.{Calls}
use Rattle.oracle_iface.specs.Keys.{formal}
use Rattle.homology_rules.specs.Asking.{first_refusal, up_to_refusal, EachAnswered}
use Rattle.twist_chains.specs.Fibred.{twist_by, read_tensors, IsTensorWithin}
use Rattle.part_asks.specs.Along.{AsksValid}
use Rattle.part_asks.specs.Askers.{t_tensor, formal_tensors, normal_tensors}
use Rattle.part_asks.specs.Reading.{keys_of, value_of}
use Rattle.part_asks.proofs.ReadTensors.{read-same}
use Rattle.part_asks.proofs.RightStages.{Stage, valid-next, stage-next}
use Rattle.fibred_asks.specs.declared.maps.Maps.{Maps}
use Rattle.fibred_asks.specs.Asked.{prime_of, base_of, fibre_of, values_of, h_asked}
use Rattle.fibred_asks.specs.Parts.{AreParts}
use Rattle.fibred_asks.specs.Reached.{limited_reach}
use Rattle.fibred_asks.proofs.AlongChains.{left-split, AlongState, along-begun, next-term, after_it, along-more, along-none, along-through, along-found, along-code}
use Rattle.fibred_asks.proofs.KeptCells.{IsKeptTensor, kept-code, kept-order}
use Rattle.fibred_asks.proofs.TensorValues.{t-kept}

-- ---- the weight of a chain of tensors that was pushed, times a number

module _ (p : Prime) (a : ℕ) (image : Formal (CodeTensor Cell Cell)) (c : Terms (CodeTensor Cell Cell))
    (is : image ≡ formal p (normal tensor_cmp (number p) c)) (more pushed : Terms (CodeTensor Cell Cell)) where
  pushed-weight : ((w : CodeTensor Cell Cell → ℕ) → SameMod (number image.prime) (weigh w more) (weigh w pushed + a * weigh w image.terms))
      → (w : CodeTensor Cell Cell → ℕ) → SameMod (number p) (weigh w more) (weigh w pushed + a * weigh w c)
  pushed-weight h w =
      subst (λ (d : Formal (CodeTensor Cell Cell)). SameMod (number d.prime) (weigh w more) (weigh w pushed + a * weigh w d.terms)) is (h w)
      ∙ same-plus (number p) (weigh w pushed) (weigh w pushed) _ _ refl
      (same-times (number p) a (weigh w (normal tensor_cmp (number p) c)) (weigh w c) (weigh-normal tensor_cmp (number p) one_tensor w c))

module _ (m : Maps) (most n : ℕ) where
  abbrev pub IsKept : Tensor (Plain (base_of m)) (Plain (fibre_of m)) → Type 0
  IsKept z = IsKeptTensor (base_of m) (fibre_of m) most (suc n) z

  abbrev pub at : Tensor (Plain (base_of m)) (Plain (fibre_of m)) → Right (Terms (Tensor (Plain (base_of m)) (Plain (fibre_of m))))
  at z =
      t (number (prime_of m)) (linear (ordered (base_of m))) (ordered (fibre_of m)) (part (base_of m)) (part (fibre_of m))
      (twist_by (values_of m) (number (prime_of m)) (base_of m) (fibre_of m)) z

  abbrev pub by : Tensor (Plain (base_of m)) (Plain (fibre_of m)) → Tensor (Plain (base_of m)) (Plain (fibre_of m)) → Ordering
  by = tensor_order (number (prime_of m)) (linear (ordered (base_of m))) (ordered (fibre_of m))

  abbrev pub key : Tensor (Plain (base_of m)) (Plain (fibre_of m)) → CodeTensor Cell Cell
  key = tensor_for (quote (base_of m)) (quote (fibre_of m))

  abbrev pub read : CodeTensor Cell Cell → Tensor (Plain (base_of m)) (Plain (fibre_of m))
  read = tensor_form dim_of (λ s. form s (base_of m)) (λ s. form s (fibre_of m))

  pub at-code : (x : CodeTensor Cell Cell) → t_tensor (prime_of m) (base_of m) (fibre_of m) x ≡ at (read x)
  at-code x = ap at (sym (read-same (prime_of m) (base_of m) (fibre_of m) x))

  module _ {F : Type 0} (calls : Calls F) (c : Terms (CodeTensor Cell Cell)) where
    -- some terms were found, those of `left` are to come
    abbrev pub TensorState : Terms (CodeTensor Cell Cell) → F → F → Terms (CodeTensor Cell Cell) → Type 0
    TensorState left s u pushed =
        AlongState calls (prime_of m) by at IsKept key (h_asked m c) (read_tensors (base_of m) (fibre_of m) left) s u pushed

    pub tensors-begun : (left pushed : Terms (CodeTensor Cell Cell)) (s : F) → left ≡ c → pushed ≡ [] → AsksValid (prime_of m) (h_asked m c) → TensorState left s s pushed
    tensors-begun left pushed s e f v =
        subst (λ l. TensorState l s s pushed) (sym e)
        (subst (λ l. TensorState c s s l) (sym f) (along-begun calls (prime_of m) by at IsKept key (h_asked m c) (read_tensors (base_of m) (fibre_of m) c) s refl v))

    module _ (ts : List (CodeTensor Cell Cell × Fp)) (i : ℕ) (x : CodeTensor Cell Cell × Fp) (l : i < length ts) (is : x ≡ get_or ts i x) (s u : F)
        (pushed : Terms (CodeTensor Cell Cell)) (st : TensorState (numbers (drop i ts)) s u pushed) where
      pub split : read_tensors (base_of m) (fibre_of m) (numbers (drop i ts)) ≡ (read x.0, x.1.value) ∷ read_tensors (base_of m) (fibre_of m) (numbers (drop (i + 1) ts))
      split = ap (read_tensors (base_of m) (fibre_of m)) (left-split ts i x l is)

      abbrev pub this : Right (Terms (Tensor (Plain (base_of m)) (Plain (fibre_of m))))
      this = t_tensor (prime_of m) (base_of m) (fibre_of m) x.0

      -- what follows it
      abbrev pub then_left : Terms (Tensor (Plain (base_of m)) (Plain (fibre_of m))) → Right (Terms (Tensor (Plain (base_of m)) (Plain (fibre_of m))))
      then_left =
          after_it calls (prime_of m) by at IsKept key (h_asked m c) this (read x.0) x.1.value (read_tensors (base_of m) (fibre_of m) (numbers (drop (i + 1) ts)))
          (read_tensors (base_of m) (fibre_of m) (numbers (drop i ts))) s u pushed split (at-code x.0) st

      pub tensor-next : Stage calls (prime_of m) (h_asked m c) (this >>= then_left) s u
      tensor-next =
          next-term calls (prime_of m) by at IsKept key (h_asked m c) this (read x.0) x.1.value (read_tensors (base_of m) (fibre_of m) (numbers (drop (i + 1) ts)))
          (read_tensors (base_of m) (fibre_of m) (numbers (drop i ts))) s u pushed split (at-code x.0) st

      -- it was found and pushed
      pub tensor-more : (parts : AreParts (prime_of m) (base_of m) (fibre_of m)) → limited_reach ≤ most → IsTensorWithin (base_of m) (fibre_of m) most n x.0 → (v : F) → first_refusal (keys_of (prime_of m) this) ≡ None
          → EachAnswered calls u (up_to_refusal (keys_of (prime_of m) this)) v → (image : Formal (CodeTensor Cell Cell))
          → image ≡ normal_tensors (prime_of m) (base_of m) (fibre_of m) (value_of (prime_of m) this) → (more : Terms (CodeTensor Cell Cell))
          → ((w : CodeTensor Cell Cell → ℕ) → SameMod (number image.prime) (weigh w more) (weigh w pushed + x.1.value * weigh w image.terms))
          → TensorState (numbers (drop (i + 1) ts)) s v more
      tensor-more parts wide kind v none each image found more weights =
          along-more calls (prime_of m) by at IsKept key (h_asked m c) this (read x.0) x.1.value (read_tensors (base_of m) (fibre_of m) (numbers (drop (i + 1) ts)))
          (read_tensors (base_of m) (fibre_of m) (numbers (drop i ts))) s u pushed split (at-code x.0) st v (value_of (prime_of m) this)
          (stage-next calls (prime_of m) (h_asked m c) this then_left s u tensor-next v none each)
          (t-kept (prime_of m) (base_of m) (fibre_of m) parts most n wide x.0 kind
          (valid-next calls (prime_of m) (h_asked m c) this then_left s u tensor-next) none)
          more (pushed-weight (prime_of m) x.1.value image (on_keys key (value_of (prime_of m) this)) found more pushed weights)

    module _ (left : Terms (CodeTensor Cell Cell)) (s u : F) (pushed : Terms (CodeTensor Cell Cell)) (nothing : left ≡ []) (st : TensorState left s u pushed) where
      none-left : read_tensors (base_of m) (fibre_of m) left ≡ []
      none-left = ap (read_tensors (base_of m) (fibre_of m)) nothing

      pub tensors-none : first_refusal (keys_of (prime_of m) (h_asked m c)) ≡ None
      tensors-none = along-none calls (prime_of m) by at IsKept key (h_asked m c) (read_tensors (base_of m) (fibre_of m) left) s u pushed none-left st

      pub tensors-through : EachAnswered calls s (up_to_refusal (keys_of (prime_of m) (h_asked m c))) u
      tensors-through = along-through calls (prime_of m) by at IsKept key (h_asked m c) (read_tensors (base_of m) (fibre_of m) left) s u pushed none-left st

      module _ (parts : AreParts (prime_of m) (base_of m) (fibre_of m)) (chain : Formal (CodeTensor Cell Cell)) (prime : chain.prime ≡ prime_of m) (terms : chain.terms ≡ normal tensor_cmp (number (prime_of m)) pushed) where
        pub tensors-found : chain ≡ formal_tensors (prime_of m) (base_of m) (fibre_of m) (value_of (prime_of m) (h_asked m c))
        tensors-found = λ k. record { prime = prime k; terms = all k }
          where
            all : chain.terms ≡ on_keys key (value_of (prime_of m) (h_asked m c))
            all =
                terms
                ∙ along-found calls (prime_of m) by at IsKept key (h_asked m c) (read_tensors (base_of m) (fibre_of m) left) s u pushed none-left st tensor_cmp one_tensor
                tensor_total
                (kept-order (base_of m) (fibre_of m) (number (prime_of m)) (number_pos (prime_of m)) parts.base_built parts.fibre_built most (suc n))

        pub tensors-kinds : Each (IsTensorWithin (base_of m) (fibre_of m) most (suc n)) chain.terms
        tensors-kinds =
            subst (λ (d : Formal (CodeTensor Cell Cell)). Each (IsTensorWithin (base_of m) (fibre_of m) most (suc n)) d.terms) (sym tensors-found)
            (along-code calls (prime_of m) by at IsKept key (h_asked m c) (read_tensors (base_of m) (fibre_of m) left) s u pushed none-left st
            (IsTensorWithin (base_of m) (fibre_of m) most (suc n))
            (kept-code (base_of m) (fibre_of m) (number (prime_of m)) (number_pos (prime_of m)) parts.base_built parts.fibre_built most (suc n)))
