-- F of base and fibre along a chain of tensors of the code: the tensors that are left, and the pairs of small cells that were found.
use Rattle.std.proofs.Common.{◌≡◌, ℕ, ◌+◌, ◌*◌, ◌<◌, List, [], ◌∷◌, drop, length, get_or, None, refl, sym, ◌∙◌, ap, subst}
use Rattle.fp_field.specs.declared.element.Fp.{Fp}
use Rattle.fp_field.specs.Field.{number, SameMod}
use Rattle.fp_field.specs.Chains.{Terms, Each, weigh}
use Rattle.fp_field.specs.Normal.{normal}
use Rattle.chain_core.specs.Formal.{Formal, numbers}
use Rattle.std.specs.declared.cmp.Ordering.{Ordering}
use Rattle.cells.specs.declared.cells.Cell.{Cell}
use Rattle.cells.specs.declared.cells.SmallCell.{SmallCell}
use Rattle.cells.specs.declared.cells.SmallCell.TheVariants.{Pair}
use Rattle.cells.specs.Dim.{dim_of}
use Rattle.cells.specs.Laws.{small_total}
use Rattle.cells.specs.Small.{small_cmp}
use Rattle.cells.proofs.OneSmall.{one_small}
use Rattle.spaces.specs.Spaces.{Plain}
use Rattle.spaces.specs.Orders.{ordered}
use Rattle.spaces.specs.SmallCells.{Small, small_degree}
use Rattle.spaces.specs.EilenbergZilber.{Tensor, linear}
use Rattle.values.specs.Asks.{Right, ◌>>=◌, gives, ask, f}
use Rattle.values.specs.Perturbed.{f_f, smalls_by, small_terms}
use Rattle.values.specs.Ranks.{IsValid}
use Rattle.values.specs.Rules.{part}
use Rattle.ez_laws.specs.Sides.{on_keys}
use Rattle.ez_laws.proofs.Eaches.{each-and}
use Rattle.ez_maps.specs.Tensors.{tensor_form}
use Rattle.tensor_red.specs.declared.tensors.Tensor.{Tensor as CodeTensor}
use Rattle.term_lang.specs.Forms.{cell_form, form}
use Rattle.oracle_iface.specs.Forcing.{Calls}
use Rattle.oracle_iface.specs.Keys.{formal, quote_small_chain}
use Rattle.homology_rules.specs.Asking.{first_refusal, up_to_refusal, EachAnswered}
use Rattle.homology_rules.specs.Shown.{IsSmallShown}
use Rattle.twist_chains.specs.Fibred.{twist_by, read_tensors}
use Rattle.part_asks.specs.Along.{AsksValid}
use Rattle.part_asks.specs.OneKey.{f_at}
use Rattle.part_asks.specs.Reading.{keys_of, value_of}
use Rattle.part_asks.proofs.ReadTensors.{bare-form}
use Rattle.part_asks.proofs.RightStages.{Stage, valid-next, stage-next}
use Rattle.fibred_asks.specs.declared.maps.Maps.{Maps}
use Rattle.fibred_asks.specs.Asked.{prime_of, base_of, fibre_of, values_of, f_asked}
use Rattle.fibred_asks.specs.Parts.{AreParts, small_pair_for, formal_smalls}
use Rattle.fibred_asks.proofs.AlongChains.{left-split, AlongState, along-begun, next-term, after_it, along-more, along-none, along-through, along-found}
use Rattle.fibred_asks.proofs.PairKinds.{IsShownPair, pairs-order, pairs-shown}
use Rattle.fibred_asks.proofs.PairSums.{weigh-pairs}

module _ (m : Maps) where
  abbrev pub Pairs : Type 0
  Pairs = Terms (Small (base_of m) × Small (fibre_of m))

  abbrev pub at : Tensor (Plain (base_of m)) (Plain (fibre_of m)) → Right Pairs
  at z =
      f_f (number (prime_of m)) (linear (ordered (base_of m))) (ordered (fibre_of m)) (part (base_of m)) (part (fibre_of m))
      (twist_by (values_of m) (number (prime_of m)) (base_of m) (fibre_of m)) z

  abbrev pub by : Small (base_of m) × Small (fibre_of m) → Small (base_of m) × Small (fibre_of m) → Ordering
  by =
      smalls_by (number (prime_of m)) (linear (ordered (base_of m))) (ordered (fibre_of m)) (part (base_of m)) (part (fibre_of m))
      (twist_by (values_of m) (number (prime_of m)) (base_of m) (fibre_of m))

  abbrev pub key : Small (base_of m) × Small (fibre_of m) → SmallCell
  key = small_pair_for (base_of m) (fibre_of m)

  abbrev pub IsKept : Small (base_of m) × Small (fibre_of m) → Type 0
  IsKept = IsShownPair (base_of m) (fibre_of m)

  abbrev pub read : CodeTensor Cell Cell → Tensor (Plain (base_of m)) (Plain (fibre_of m))
  read = tensor_form dim_of (λ s. form s (base_of m)) (λ s. form s (fibre_of m))

  -- F of the two cells of a tensor
  abbrev pub both : CodeTensor Cell Cell → Right Pairs
  both x = f_at (base_of m) x.left >>= λ v. f_at (fibre_of m) x.right >>= λ w. gives (small_terms v w)

  pub both-is : (x : CodeTensor Cell Cell) → both x ≡ at (read x)
  both-is x = λ i.
      ask (f (base_of m) (dim_of x.left) (sym (bare-form x.left (base_of m)) i)) >>= λ v.
      ask (f (fibre_of m) (dim_of x.right) (sym (bare-form x.right (fibre_of m)) i)) >>= λ w. gives (small_terms v w)

  module _ {F : Type 0} (calls : Calls F) (c : Terms (CodeTensor Cell Cell)) where
    -- some pairs were found, and F at the tensors of `left` is to come
    abbrev pub SmallState : Terms (CodeTensor Cell Cell) → F → F → Terms SmallCell → Type 0
    SmallState left s u pushed = AlongState calls (prime_of m) by at IsKept key (f_asked m c) (read_tensors (base_of m) (fibre_of m) left) s u pushed

    pub smalls-begun : (left : Terms (CodeTensor Cell Cell)) (pushed : Terms SmallCell) (s : F) → left ≡ c → pushed ≡ [] → AsksValid (prime_of m) (f_asked m c) → SmallState left s s pushed
    smalls-begun left pushed s e h v =
        subst (λ l. SmallState l s s pushed) (sym e)
        (subst (λ l. SmallState c s s l) (sym h) (along-begun calls (prime_of m) by at IsKept key (f_asked m c) (read_tensors (base_of m) (fibre_of m) c) s refl v))

    module _ (ts : List (CodeTensor Cell Cell × Fp)) (i : ℕ) (x : CodeTensor Cell Cell × Fp) (l : i < length ts) (is : x ≡ get_or ts i x) (s u : F)
        (pushed : Terms SmallCell) (st : SmallState (numbers (drop i ts)) s u pushed) where
      pub split : read_tensors (base_of m) (fibre_of m) (numbers (drop i ts)) ≡ (read x.0, x.1.value) ∷ read_tensors (base_of m) (fibre_of m) (numbers (drop (i + 1) ts))
      split = ap (read_tensors (base_of m) (fibre_of m)) (left-split ts i x l is)

      -- what follows the two
      abbrev pub then_left : Pairs → Right Pairs
      then_left =
          after_it calls (prime_of m) by at IsKept key (f_asked m c) (both x.0) (read x.0) x.1.value (read_tensors (base_of m) (fibre_of m) (numbers (drop (i + 1) ts)))
          (read_tensors (base_of m) (fibre_of m) (numbers (drop i ts))) s u pushed split (both-is x.0) st

      abbrev pub first : Right (Terms (Small (base_of m)))
      first = f_at (base_of m) x.0.left

      abbrev pub second : Right (Terms (Small (fibre_of m)))
      second = f_at (fibre_of m) x.0.right

      abbrev pub left_found : Terms (Small (base_of m))
      left_found = value_of (prime_of m) first

      abbrev pub right_found : Terms (Small (fibre_of m))
      right_found = value_of (prime_of m) second

      -- what follows F of the left cell
      abbrev pub after_left : Terms (Small (base_of m)) → Right Pairs
      after_left v = second >>= λ w. then_left (small_terms v w)

      -- and F of the right one
      abbrev pub after_right : Terms (Small (fibre_of m)) → Right Pairs
      after_right w = then_left (small_terms left_found w)

      pub left-next : Stage calls (prime_of m) (f_asked m c) (first >>= after_left) s u
      left-next =
          next-term calls (prime_of m) by at IsKept key (f_asked m c) (both x.0) (read x.0) x.1.value (read_tensors (base_of m) (fibre_of m) (numbers (drop (i + 1) ts)))
          (read_tensors (base_of m) (fibre_of m) (numbers (drop i ts))) s u pushed split (both-is x.0) st

      module _ (v : F) (none : first_refusal (keys_of (prime_of m) first) ≡ None) (each : EachAnswered calls u (up_to_refusal (keys_of (prime_of m) first)) v) where
        pub right-next : Stage calls (prime_of m) (f_asked m c) (second >>= after_right) s v
        right-next = stage-next calls (prime_of m) (f_asked m c) first after_left s u left-next v none each

        -- both were found, and their pairs were pushed
        pub smalls-more : (parts : AreParts (prime_of m) (base_of m) (fibre_of m)) (w : F) → first_refusal (keys_of (prime_of m) second) ≡ None → EachAnswered calls v (up_to_refusal (keys_of (prime_of m) second)) w
            → (left right : Formal SmallCell) → left ≡ formal (prime_of m) (quote_small_chain (base_of m) left_found)
            → right ≡ formal (prime_of m) (quote_small_chain (fibre_of m) right_found) → (more : Terms SmallCell)
            → ((g : SmallCell → ℕ) → SameMod (number left.prime) (weigh g more) (weigh g pushed + x.1.value * weigh (λ y. weigh (λ z. g (Pair y z)) right.terms) left.terms))
            → SmallState (numbers (drop (i + 1) ts)) s w more
        smalls-more parts w right_none right_each left right left_is right_is more weights =
            along-more calls (prime_of m) by at IsKept key (f_asked m c) (both x.0) (read x.0) x.1.value (read_tensors (base_of m) (fibre_of m) (numbers (drop (i + 1) ts)))
            (read_tensors (base_of m) (fibre_of m) (numbers (drop i ts))) s u pushed split (both-is x.0) st w (small_terms left_found right_found)
            (stage-next calls (prime_of m) (f_asked m c) second after_right s v right-next w right_none right_each) shown more in-code
          where
            left_valid : IsValid (number (prime_of m)) (f (base_of m) (dim_of x.0.left) (cell_form x.0.left (base_of m)))
            left_valid = (valid-next calls (prime_of m) (f_asked m c) first after_left s u left-next).0

            right_valid : IsValid (number (prime_of m)) (f (fibre_of m) (dim_of x.0.right) (cell_form x.0.right (fibre_of m)))
            right_valid = (valid-next calls (prime_of m) (f_asked m c) second after_right s v right-next).0

            shown : Each IsKept (small_terms left_found right_found)
            shown =
                pairs-shown (base_of m) (fibre_of m) (dim_of x.0.left) (dim_of x.0.right) left_valid.2 right_valid.2 left_found right_found
                (each-and (IsSmallShown (base_of m)) (λ y. small_degree (base_of m) y ≡ dim_of x.0.left) left_found
                (parts.base_shown.in_f (dim_of x.0.left) (cell_form x.0.left (base_of m)) left_valid)
                (parts.base_reached.of_f (dim_of x.0.left) (cell_form x.0.left (base_of m)) left_valid))
                (each-and (IsSmallShown (fibre_of m)) (λ y. small_degree (fibre_of m) y ≡ dim_of x.0.right) right_found
                (parts.fibre_shown.in_f (dim_of x.0.right) (cell_form x.0.right (fibre_of m)) right_valid)
                (parts.fibre_reached.of_f (dim_of x.0.right) (cell_form x.0.right (fibre_of m)) right_valid))

            in-code : (g : SmallCell → ℕ) → SameMod (number (prime_of m)) (weigh g more) (weigh g pushed + x.1.value * weigh g (on_keys key (small_terms left_found right_found)))
            in-code g =
                subst (λ k. SameMod (number (prime_of m)) (weigh g more) (weigh g pushed + x.1.value * k)) (weigh-pairs (base_of m) (fibre_of m) g left_found right_found)
                (subst (λ (d : Formal SmallCell). SameMod (number (prime_of m)) (weigh g more)
                (weigh g pushed + x.1.value * weigh (λ y. weigh (λ z. g (Pair y z)) d.terms) (quote_small_chain (base_of m) left_found))) right_is
                (subst (λ (d : Formal SmallCell). SameMod (number d.prime) (weigh g more) (weigh g pushed + x.1.value * weigh (λ y. weigh (λ z. g (Pair y z)) right.terms) d.terms)) left_is
                (weights g)))

    module _ (left : Terms (CodeTensor Cell Cell)) (s u : F) (pushed : Terms SmallCell) (nothing : left ≡ []) (st : SmallState left s u pushed) where
      none-left : read_tensors (base_of m) (fibre_of m) left ≡ []
      none-left = ap (read_tensors (base_of m) (fibre_of m)) nothing

      pub smalls-none : first_refusal (keys_of (prime_of m) (f_asked m c)) ≡ None
      smalls-none = along-none calls (prime_of m) by at IsKept key (f_asked m c) (read_tensors (base_of m) (fibre_of m) left) s u pushed none-left st

      pub smalls-through : EachAnswered calls s (up_to_refusal (keys_of (prime_of m) (f_asked m c))) u
      smalls-through = along-through calls (prime_of m) by at IsKept key (f_asked m c) (read_tensors (base_of m) (fibre_of m) left) s u pushed none-left st

      pub smalls-found : (chain : Formal SmallCell) → chain.prime ≡ prime_of m → chain.terms ≡ normal small_cmp (number (prime_of m)) pushed
          → chain ≡ formal_smalls (prime_of m) (base_of m) (fibre_of m) (value_of (prime_of m) (f_asked m c))
      smalls-found chain prime terms = λ k. record { prime = prime k; terms = all k }
        where
          all : chain.terms ≡ on_keys key (value_of (prime_of m) (f_asked m c))
          all =
              terms
              ∙ along-found calls (prime_of m) by at IsKept key (f_asked m c) (read_tensors (base_of m) (fibre_of m) left) s u pushed none-left st small_cmp one_small
              small_total (pairs-order (base_of m) (fibre_of m))
