-- The homotopy of a tensor: its keys, one part after the other, that what is asked is valid, and its value.
use Rattle.std.proofs.Common.{◌≡◌, ◌+◌, ◌≤◌, arith, ℕ, List, [], ◌∷◌, ◌++◌, refl, sym, ◌∙◌, ap, subst}
use Rattle.fp_field.specs.declared.prime.Prime.{Prime}
use Rattle.fp_field.specs.Field.{number, sign}
use Rattle.fp_field.specs.Chains.{Terms, Each, scale}
use Rattle.fp_field.specs.Normal.{normal}
use Rattle.fp_field.specs.Reduction.{one}
use Rattle.chain_core.specs.Formal.{Formal}
use Rattle.cells.specs.declared.cells.Cell.{Cell}
use Rattle.cells.specs.declared.cells.SmallCell.{SmallCell}
use Rattle.cells.specs.Dim.{dim_of}
use Rattle.spaces.specs.Spaces.{Space, Plain}
use Rattle.spaces.specs.SmallCells.{Small}
use Rattle.spaces.specs.EilenbergZilber.{Tensor}
use Rattle.values.specs.Asks.{Ask, Answers, Right, Cell as GradedCell, ask, gives, ◌>>=◌, f as f_of, h as h_of, asked_with}
use Rattle.values.specs.Perturbed.{tensor_terms}
use Rattle.values.specs.Ranks.{IsValid, loopings}
use Rattle.values.specs.Values.{value}
use Rattle.values.proofs.Readings.{EachAsk, asked_with-bind}
use Rattle.term_lang.specs.Forms.{cell_form}
use Rattle.ez_laws.specs.Sides.{on_keys}
use Rattle.ez_maps.specs.Tensors.{tensor_cmp, tensor_for}
use Rattle.tensor_red.specs.Tensors.{tensors}
use Rattle.tensor_red.specs.declared.tensors.Tensor.{Tensor as CodeTensor}
use Rattle.tensor_red.specs.Products.{product_in}
use Rattle.term_lang.specs.Quote.{quote}
use Rattle.oracle_iface.specs.Keys.{formal, quote_chain, quote_small_chain}
use Rattle.oracle_iface.specs.KeyLaws.{IsShown}
use Rattle.oracle_iface.specs.SmallForms.{quote_small}
use Rattle.oracle_iface.proofs.CarriedChains.{carried_terms}
use Rattle.oracle_iface.proofs.SmallBack.{small-back}
use Rattle.homology_rules.specs.Shown.{HasShownValues, IsSmallShown}
use Rattle.homology_rules.proofs.Quoted.{carried-append, carried-scale, each-append, each-scale}
use Rattle.part_asks.specs.Along.{AsksValid, g_along, read_smalls}
use Rattle.part_asks.specs.Askers.{t_tensor, normal_tensors}
use Rattle.part_asks.specs.OneKey.{IsOwnCell, IsOwnSmall, f_at, h_at}
use Rattle.part_asks.specs.Reading.{keys_of, value_of}
use Rattle.part_asks.proofs.AlongG.{along-shown}
use Rattle.part_asks.proofs.QuotedTensors.{IsShownTensor, by_cells, terms-for, product-quoted, product-shown}
use Rattle.part_asks.proofs.Readings.{keys-bind, value-bind}

within_masks : (n l : ℕ) → n + l ≤ 24 → n ≤ 32
within_masks n l e = omega arith

module _ (a : Space) where
  read-back : (c : Terms (Small a)) → Each (IsSmallShown a) c → read_smalls a (quote_small_chain a c) ≡ c
  read-back [] h = refl
  read-back (t ∷ c) h = λ i. (small-back a t.0 h.0.0 i, t.1) ∷ read-back c h.1 i

  own-quoted : (c : Terms (Small a)) → Each (IsSmallShown a) c → Each (IsOwnSmall a) (quote_small_chain a c)
  own-quoted [] h = tt
  own-quoted (t ∷ c) h = (ap (quote_small a) (small-back a t.0 h.0.0), own-quoted c h.1)

front-valid : (P : Ask → Type 0) (js ks : List Ask) → EachAsk P (js ++ ks) → EachAsk P js
front-valid P [] ks h = tt
front-valid P (j ∷ js) ks h = (h.0, front-valid P js ks h.1)

behind-valid : (P : Ask → Type 0) (js ks : List Ask) → EachAsk P (js ++ ks) → EachAsk P ks
behind-valid P [] ks h = h
behind-valid P (j ∷ js) ks h = behind-valid P js ks h.1

module _ (p : Prime) (a b : Space) (x : CodeTensor Cell Cell) where
  abbrev pub m : ℕ
  m = dim_of x.left

  abbrev pub n : ℕ
  n = dim_of x.right

  abbrev pub left : Plain a
  left = cell_form x.left a

  abbrev pub right : Plain b
  right = cell_form x.right b

  abbrev pub V : Answers
  V = value (number p)

  abbrev pub image : Terms (Small a)
  image = V (f_of a m left)

  -- what follows G
  abbrev last : Terms (GradedCell a) → Right (Terms (Tensor (Plain a) (Plain b)))
  last c =
      ask (h_of b n right) >>= λ e. gives (tensor_terms (V (h_of a m left)) (one (n, right)) ++ scale (sign (number p) m) (tensor_terms c e))

  pub split-keys : keys_of p (t_tensor p a b x) ≡ keys_of p (h_at a x.left) ++ (keys_of p (f_at a x.left) ++ (keys_of p (g_along p a image) ++ keys_of p (h_at b x.right)))
  split-keys = ap (λ ks. keys_of p (h_at a x.left) ++ (keys_of p (f_at a x.left) ++ ks)) (keys-bind p (g_along p a image) last)

  pub value-is : value_of p (t_tensor p a b x)
      ≡ tensor_terms (V (h_of a m left)) (one (n, right)) ++ scale (sign (number p) m) (tensor_terms (value_of p (g_along p a image)) (V (h_of b n right)))
  value-is = value-bind p (g_along p a image) last

  module _ (valid : AsksValid p (t_tensor p a b x)) where
    pub valid-h : IsValid (number p) (h_of a m left)
    valid-h = valid.0

    pub valid-f : IsValid (number p) (f_of a m left)
    valid-f = valid.1.0

    after-f : EachAsk (IsValid (number p)) (asked_with V (g_along p a image) ++ asked_with V (last (value_of p (g_along p a image))))
    after-f = subst (EachAsk (IsValid (number p))) (asked_with-bind V (g_along p a image) last) valid.1.1

    pub valid-g : AsksValid p (g_along p a image)
    valid-g = front-valid (IsValid (number p)) (asked_with V (g_along p a image)) (asked_with V (last (value_of p (g_along p a image)))) after-f

    pub valid-other : IsValid (number p) (h_of b n right)
    valid-other = (behind-valid (IsValid (number p)) (asked_with V (g_along p a image)) (asked_with V (last (value_of p (g_along p a image)))) after-f).0

    module _ (shown_a : HasShownValues (number p) a) (shown_b : HasShownValues (number p) b) (own : IsOwnCell b x.right) where
      image-shown : Each (IsSmallShown a) image
      image-shown = shown_a.in_f m left valid-f

      module _ (found : Formal SmallCell) (is : found ≡ formal p (quote_small_chain a image)) where
        pub image-read : read_smalls a found.terms ≡ image
        image-read = ap (λ (c : Formal SmallCell). read_smalls a c.terms) is ∙ read-back a image image-shown

        pub image-own : Each (IsOwnSmall a) found.terms
        image-own = subst (λ (c : Formal SmallCell). Each (IsOwnSmall a) c.terms) (sym is) (own-quoted a image image-shown)

        pub valid-found : AsksValid p (g_along p a (read_smalls a found.terms))
        valid-found = subst (λ c. AsksValid p (g_along p a c)) (sym image-read) valid-g

        pub split-found : keys_of p (t_tensor p a b x)
            ≡ keys_of p (h_at a x.left) ++ (keys_of p (f_at a x.left) ++ (keys_of p (g_along p a (read_smalls a found.terms)) ++ keys_of p (h_at b x.right)))
        split-found = split-keys ∙ ap (λ c. keys_of p (h_at a x.left) ++ (keys_of p (f_at a x.left) ++ (keys_of p (g_along p a c) ++ keys_of p (h_at b x.right)))) (sym image-read)

        -- the whole, from the three chains that were found
        module _ (u v w : Formal Cell) (is_u : u ≡ formal p (quote_chain a (V (h_of a m left)))) (is_v : v ≡ formal p (quote_chain a (value_of p (g_along p a (read_smalls a found.terms)))))
            (is_w : w ≡ formal p (quote_chain b (V (h_of b n right)))) where
          abbrev first : Terms (Tensor (Plain a) (Plain b))
          first = tensor_terms (V (h_of a m left)) (one (n, right))

          abbrev second : Terms (Tensor (Plain a) (Plain b))
          second = tensor_terms (value_of p (g_along p a image)) (V (h_of b n right))

          is_v' : v ≡ formal p (quote_chain a (value_of p (g_along p a image)))
          is_v' = is_v ∙ ap (λ c. formal p (quote_chain a (value_of p (g_along p a c)))) image-read

          right-shown : IsShown b (n, right)
          right-shown = (within_masks n (loopings b) valid-other.2, valid-other.1)

          all-shown : Each (IsShownTensor a b) (first ++ scale (sign (number p) m) second)
          all-shown =
              each-append (IsShownTensor a b) first (scale (sign (number p) m) second)
              (product-shown a b (V (h_of a m left)) (one (n, right)) (shown_a.in_h m left valid-h) (right-shown, tt))
              (each-scale (IsShownTensor a b) (sign (number p) m) second
              (product-shown a b (value_of p (g_along p a image)) (V (h_of b n right)) (along-shown p a image shown_a valid-g) (shown_b.in_h n right valid-other)))

          in-code : carried_terms (by_cells a b) (first ++ scale (sign (number p) m) second)
              ≡ product_in tensors (quote_chain a (V (h_of a m left))) (one x.right)
              ++ scale (sign (number p) m) (product_in tensors (quote_chain a (value_of p (g_along p a image))) (quote_chain b (V (h_of b n right))))
          in-code =
              carried-append (by_cells a b) first (scale (sign (number p) m) second)
              ∙ (λ i. (product-quoted a b (V (h_of a m left)) (one (n, right)) ∙ ap (λ c. product_in tensors (quote_chain a (V (h_of a m left))) (one c)) own) i
              ++ (sym (carried-scale (by_cells a b) (sign (number p) m) second) ∙ ap (scale (sign (number p) m)) (product-quoted a b (value_of p (g_along p a image)) (V (h_of b n right)))) i)

          pub homotopy-found : (r : Formal (CodeTensor Cell Cell)) → r.prime ≡ u.prime
              → r.terms ≡ normal tensor_cmp (number u.prime) (product_in tensors u.terms (one x.right) ++ scale (sign (number u.prime) m) (product_in tensors v.terms w.terms))
              → r ≡ normal_tensors p a b (value_of p (t_tensor p a b x))
          homotopy-found r prime terms = λ i. record { prime = (prime ∙ ap (λ (z : Formal Cell). z.prime) is_u) i; terms = all i }
            where
              all : r.terms ≡ (normal_tensors p a b (value_of p (t_tensor p a b x))).terms
              all =
                  terms
                  ∙ (λ i. normal tensor_cmp (number (is_u i).prime)
                  (product_in tensors (is_u i).terms (one x.right) ++ scale (sign (number (is_u i).prime) m) (product_in tensors (is_v' i).terms (is_w i).terms)))
                  ∙ ap (normal tensor_cmp (number p)) (sym in-code ∙ sym (terms-for a b (first ++ scale (sign (number p) m) second) all-shown))
                  ∙ ap (λ c. normal tensor_cmp (number p) (on_keys (tensor_for (quote a) (quote b)) c)) (sym value-is)
