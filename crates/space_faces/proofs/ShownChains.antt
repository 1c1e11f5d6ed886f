-- Chains of cells of the code and the chains of the space that they stand for.
use Rattle.std.specs.Prelude.{Some, slice_get, Result, Ok, Err, IfOk}
use Rattle.std.proofs.Common.{◌≡◌, ℕ, zero, suc, ◌+◌, ◌*◌, ◌%◌, ◌^◌, ◌≤◌, take, append_assoc, Bool, true, false, not, [], ◌∷◌, ◌++◌, map, refl, sym, ◌∙◌, ap, subst, arith, true≢false}
use Rattle.fp_field.specs.Field.{number, SameMod}
use Rattle.fp_field.proofs.Mod.{same-plus}
use Rattle.fp_field.specs.declared.prime.Prime.{Prime}
use Rattle.chain_core.specs.Formal.{Formal}
use Rattle.chain_core.proofs.MapSteps.{places, images_summed}
use Rattle.cells.specs.Laws.{cell_total}
use Rattle.cells.proofs.OneKey.{one_cell}
use Rattle.fp_field.specs.Chains.{Terms, Each, weigh, scale, extend, faces_sum}
use Rattle.fp_field.specs.Normal.{normal}
use Rattle.fp_field.proofs.Weights.{Each-extend, weigh-append, weigh-scale}
use Rattle.fp_field.proofs.FlowLaws.{Each-keep}
use Rattle.spaces.specs.Simplicial.{IsSimplicial, is_degenerate}
use Rattle.spaces.specs.Spaces.{Space, Plain, set_of}
use Rattle.spaces.specs.Allowed.{IsAllowed, Admits}
use Rattle.spaces.proofs.SpaceLaws.{space_set_laws}
use Rattle.cells.specs.declared.cells.Cell.{Cell}
use Rattle.cells.specs.Order.{cell_cmp}
use Rattle.values.specs.Asks.{Cell as GradedCell}
use Rattle.values.specs.Laws.{cell_d}
use Rattle.term_lang.specs.Belongs.{IsCell as IsCodeCell}
use Rattle.term_lang.specs.Quote.{quote_cell}
use Rattle.oracle_iface.specs.Keys.{quote_chain}
use Rattle.oracle_iface.specs.KeyLaws.{HasCells, IsShown}
use Rattle.oracle_iface.specs.CodeSizes.{cell_integer}
use Rattle.oracle_iface.proofs.CellOrders.{chain-cells, dim-quoted, form-quoted}
use Rattle.oracle_iface.proofs.SizesAgree.{cell_integer_agree}
use Rattle.normal_forms.specs.Built.{IsBuilt}
use Rattle.normal_forms.proofs.BuiltForms.{built_cells}
use Rattle.space_faces.specs.Boundaries.{IsLowCell, IsBounded, graded, graded_chain, boundary_of}
use Rattle.space_faces.specs.CodeBoundaries.{code_d}

module _ (X : Space) where
  quote-scale : (a : ℕ) (c : Terms (GradedCell X)) → quote_chain X (scale a c) ≡ scale a (quote_chain X c)
  quote-scale a [] = refl
  quote-scale a (t ∷ c) = ap (λ d. (quote_cell X t.0.0 t.0.1, a * t.1) ∷ d) (quote-scale a c)

  quote-append : (c d : Terms (GradedCell X)) → quote_chain X (c ++ d) ≡ quote_chain X c ++ quote_chain X d
  quote-append [] d = refl
  quote-append (t ∷ c) d = ap (λ e. (quote_cell X t.0.0 t.0.1, t.1) ∷ e) (quote-append c d)

  quoted_sum : (p : ℕ) (z : Terms Cell) → extend (code_d p X) z ≡ quote_chain X (extend (cell_d p X) (graded_chain X z))
  quoted_sum p [] = refl
  quoted_sum p (t ∷ z) =
      (λ i. sym (quote-scale t.1 (cell_d p X (graded X t.0))) i ++ quoted_sum p z i)
      ∙ sym (quote-append (scale t.1 (cell_d p X (graded X t.0))) (extend (cell_d p X) (graded_chain X z)))

  -- ---- what is shown, and its faces

  faces_in : IsSimplicial (set_of X) → (p n i : ℕ) (x : Plain X) → (set_of X).In (suc n) x → i ≤ suc (suc n)
      → Each ((set_of X).In n) (faces_sum p (set_of X).face i x)
  faces_in laws p n zero x is h = tt
  faces_in laws p n (suc i) x is h = (laws.face_in n i x is (omega arith), faces_in laws p n i x is (omega arith))

  is_not : (b : Bool) → not b ≡ true → b ≡ false
  is_not true e = absurd (true≢false (sym e))
  is_not false e = refl

  each_graded : (n : ℕ) → n ≤ 32 → (c : Terms (Plain X)) → Each (λ y. (set_of X).In n y × (not (is_degenerate (set_of X) n y) ≡ true)) c
      → Each (IsShown X) (map (λ t. ((n, t.0), t.1)) c)
  each_graded n h [] e = tt
  each_graded n h (t ∷ c) e = ((h, (e.0.0, is_not (is_degenerate (set_of X) n t.0) e.0.1)), each_graded n h c e.1)

  d_shown : IsSimplicial (set_of X) → (p : ℕ) (x : GradedCell X) → IsShown X x → Each (IsShown X) (cell_d p X x)
  d_shown laws p (zero, x) s = tt
  d_shown laws p (suc n, x) s =
      each_graded n (let h : suc n ≤ 32 = s.0 in omega arith) _
      (Each-keep ((set_of X).In n) (λ y. not (is_degenerate (set_of X) n y)) (faces_sum p (set_of X).face (suc (suc n)) x)
      (faces_in laws p n (suc (suc n)) x s.1.0 (omega arith)))

  module _ (cells : HasCells X) where
    low_shown : (c : Cell) → IsLowCell X c → IsShown X (graded X c)
    low_shown c h = (h.0, ((cells _ h.0).simplex c h.1, (cells _ h.0).not_degenerate c h.1))

    chain_shown : (z : Terms Cell) → Each (IsLowCell X) z → Each (IsShown X) (graded_chain X z)
    chain_shown [] e = tt
    chain_shown (t ∷ z) e = (low_shown t.0 e.0, chain_shown z e.1)

    -- ---- chains that are quoted are low, and stand for what they quote

    low_quoted : Admits X → (x : GradedCell X) → IsShown X x → IsBounded X x → IsLowCell X (quote_cell X x.0 x.1)
    low_quoted is x h b =
        let e = dim-quoted X x.0 (cells x.0 h.0) x.1 h.1 in
        let l : cell_integer (quote_cell X x.0 x.1) ≤ 2 ^ 40 = subst (λ m. m ≤ 2 ^ 40) (sym (cell_integer_agree X is x.0 x.1)) b in
        subst (λ k. (k ≤ 32) × IsCodeCell X k (quote_cell X x.0 x.1) × (cell_integer (quote_cell X x.0 x.1) ≤ 2 ^ 40)) (sym e)
        (h.0, (cells x.0 h.0).onto x.1 h.1.0 h.1.1, l)

    pub chain_low : Admits X → (c : Terms (GradedCell X)) → Each (IsShown X) c → Each (IsBounded X) c → Each (IsLowCell X) (quote_chain X c)
    chain_low is [] e b = tt
    chain_low is (t ∷ c) e b = (low_quoted is t.0 e.0 b.0, chain_low is c e.1 b.1)

    pub chain_back : (c : Terms (GradedCell X)) → Each (IsShown X) c → graded_chain X (quote_chain X c) ≡ c
    chain_back [] e = refl
    chain_back (t ∷ c) e =
        λ i. ((dim-quoted X t.0.0 (cells t.0.0 e.0.0) t.0.1 e.0.1 i, form-quoted X t.0.0 (cells t.0.0 e.0.0) t.0.1 e.0.1 i), t.1) ∷ chain_back c e.1 i

pub boundary_is : (p : ℕ) (X : Space) → IsAllowed X → IsBuilt X → (z : Terms Cell) → Each (IsLowCell X) z
    → normal cell_cmp p (extend (code_d p X) z) ≡ quote_chain X (boundary_of p X (graded_chain X z))
boundary_is p X is built z e =
    ap (normal cell_cmp p) (quoted_sum X p z)
    ∙ chain-cells X (built_cells X is built) p (extend (cell_d p X) (graded_chain X z))
    (Each-extend (IsShown X) (IsShown X) (cell_d p X) (d_shown X (space_set_laws X is.0) p) (graded_chain X z) (chain_shown X (built_cells X is built) z e))

-- ---- sums of images

extend-append : {K J : Type 0} (f : K → Terms J) (c d : Terms K) → extend f (c ++ d) ≡ extend f c ++ extend f d
extend-append f [] d = refl
extend-append f (t ∷ c) d = ap (λ l. scale t.1 (f t.0) ++ l) (extend-append f c d) ∙ sym (append_assoc (scale t.1 (f t.0)) (extend f c) (extend f d))

-- the weight of the images of a front, and of one more
image_more : {K J : Type 0} (f : K → Terms J) (w : J → ℕ) (c : Terms K) (i : ℕ) (t : K × ℕ) → slice_get c i ≡ Some t
    → weigh w (extend f (take (suc i) c)) ≡ weigh w (extend f (take i c)) + t.1 * weigh w (f t.0)
image_more f w c i t e =
    let here : weigh w (extend f (take (suc i) c)) ≡ weigh w (extend f (take i c) ++ (scale t.1 (f t.0) ++ [])) =
    ap (weigh w) (ap (extend f) (places c i t e).1 ∙ extend-append f (take i c) (t ∷ [])) in
    omega (arith, here, weigh-append w (extend f (take i c)) (scale t.1 (f t.0) ++ []), weigh-append w (scale t.1 (f t.0)) [], weigh-scale w t.1 (f t.0))

pub one_more : {K J : Type 0} (p : ℕ) (f : K → Terms J) (w : J → ℕ) (c : Terms K) (i : ℕ) (t : K × ℕ) (old new : Terms J) → slice_get c i ≡ Some t
    → SameMod p (weigh w old) (weigh w (extend f (take i c))) → SameMod p (weigh w new) (weigh w old + t.1 * weigh w (f t.0))
    → SameMod p (weigh w new) (weigh w (extend f (take (suc i) c)))
one_more p f w c i t old new e h g =
    g ∙ same-plus p _ _ (t.1 * weigh w (f t.0)) (t.1 * weigh w (f t.0)) h refl ∙ ap (λ n. n % p) (sym (image_more f w c i t e))

-- ---- the terms that were pushed

pub chain_told : (X : Space) → IsAllowed X → IsBuilt X → (p q : Prime) → q ≡ p → (z : Terms Cell) → Each (IsLowCell X) z → (terms : Terms Cell)
    → ((w : Cell → ℕ) → SameMod (number q) (weigh w terms) (weigh w (extend (code_d (number q) X) z)))
    → normal cell_cmp (number q) terms ≡ quote_chain X (boundary_of (number p) X (graded_chain X z))
chain_told X is built p q e z low terms h =
    images_summed cell_cmp cell_total one_cell q (code_d (number q) X) z terms h ∙ boundary_is (number q) X is built z low
    ∙ ap (λ r. quote_chain X (boundary_of (number r) X (graded_chain X z))) e

pub if_ok : {E : Type 0} (r : Result (Formal Cell) E) (a b : Terms Cell) → IfOk r (λ d. d.terms ≡ a) → a ≡ b → IfOk r (λ d. d.terms ≡ b)
if_ok (Ok d) a b h e = h ∙ e
if_ok (Err f) a b h e = tt
