-- Where there is no twist: the series of the first perturbation are the chain itself, and the transferred difference is 0.
use Rattle.std.proofs.Common.{◌≡◌, ℕ, zero, suc, ◌-◌, List, [], ◌++◌, ◌∷◌, Option, Some, None, ℤ, refl, sym, ◌∙◌, ap, Bor, false, true≢false}
use Rattle.std.specs.Option.{is_some, option_copied}
use Rattle.std.specs.declared.cmp.Ordering.{Ordering}
use Rattle.fp_field.specs.Chains.{Terms, scale, extend}
use Rattle.fp_field.specs.Normal.{normal, apply, IsNormal}
use Rattle.fp_field.specs.Reduction.{after}
use Rattle.fp_field.specs.Series.{series, terms_of_series}
use Rattle.chain_core.proofs.ChainLemmas.{append-nil}
use Rattle.spaces.specs.Spaces.{Space}
use Rattle.spaces.specs.Orders.{ordered}
use Rattle.spaces.specs.EilenbergZilber.{linear, aw, pair_order, tensor_order}
use Rattle.values.specs.Perturbed.{p1, to_pairs}
use Rattle.values.specs.Rules.{part}
use Rattle.values.specs.Twists.{untwisted}
use Rattle.cells.specs.Order.{cell_cmp}
use Rattle.cells.specs.declared.cells.Cell.{Cell, out-Cell}
use Rattle.cells.specs.declared.cells.Cell.TheOpen.{Cell-F}
use Rattle.cells.specs.declared.cells.Letter.{Letter}
use Rattle.cells.specs.declared.cells.Simplex.{Simplex}
use Rattle.ez_flow.specs.CodeMaps.{terms_in}
use Rattle.tensor_red.specs.declared.tensors.Tensor.{Tensor}
use Rattle.twist_chains.specs.Fibred.{flow_on, turn_on, difference_of, quote_tensors, read_tensors}
use Rattle.twist_chains.proofs.FirstCalls.{s1_on, p1_on}

-- ---- no values

pub none-copied : {T : Type 0} (o : Option (Bor T)) → is_some o ≡ false → option_copied o ≡ None
none-copied None h = refl
none-copied (Some x) h = absurd (true≢false h)

-- ---- maps that are 0

pub extend-zero : {K J : Type 0} (f : K → Terms J) → ((k : K) → f k ≡ []) → (c : Terms K) → extend f c ≡ []
extend-zero f e [] = refl
extend-zero f e (t ∷ c) = ap (λ x. scale t.1 x ++ extend f c) (e t.0) ∙ extend-zero f e c

module _ {K : Type 0} (cmp : K → K → Ordering) (p : ℕ) (f : K → Terms K) where
  no-more : (n : ℕ) → terms_of_series cmp p n f [] ≡ []
  no-more zero = refl
  no-more (suc n) = no-more n

  -- the series of 1 + 0
  pub still : ((k : K) → f k ≡ []) → (n : ℕ) (c : Terms K) → IsNormal cmp p c → series cmp p (suc n) f c ≡ c
  still e n c h =
      ap (λ x. normal cmp p (c ++ terms_of_series cmp p n f (normal cmp p (scale (p - 1) x)))) (extend-zero f e c)
      ∙ ap (λ x. normal cmp p (c ++ x)) (no-more n) ∙ ap (normal cmp p) (append-nil c) ∙ h

-- ---- the twist of a product

no-terms : {B : Type 0} (x : Cell-F Cell Letter Simplex) → terms_in {B = B} (λ a b. []) x ≡ []
no-terms (Cell-F.Pair a b) = refl
no-terms (Cell-F.Row d i) = refl
no-terms Cell-F.Base = refl
no-terms (Cell-F.Top d) = refl
no-terms (Cell-F.Up c) = refl
no-terms (Cell-F.Ints l) = refl
no-terms (Cell-F.Word w) = refl

module _ (a b : Space) (p : ℕ) where
  pub turn-none : (c : Cell) → turn_on a b None p c ≡ []
  turn-none c = no-terms (out-Cell c)

  turn-flow : (c : Cell) → after (turn_on a b None p) (flow_on a b p) c ≡ []
  turn-flow c = extend-zero (turn_on a b None p) turn-none (flow_on a b p c)

  flow-turn : (c : Cell) → after (flow_on a b p) (turn_on a b None p) c ≡ []
  flow-turn c = ap (extend (flow_on a b p)) (turn-none c)

  pub difference-none : (n : ℕ) (c : Terms (Tensor Cell Cell)) → difference_of a b None p n c ≡ []
  difference-none n c =
      ap (λ x. quote_tensors a b (apply (tensor_order p (linear (ordered a)) (ordered b)) p (aw p (linear (ordered a)) (ordered b)) (normal (pair_order p (linear (ordered a)) (ordered b)) p x)))
      (extend-zero untwisted (λ k. refl)
      (p1 p (linear (ordered a)) (ordered b) (part a) (part b) untwisted n (to_pairs p (linear (ordered a)) (ordered b) (part a) (part b) untwisted (read_tensors a b c))))

-- ---- in the calls, where the values are none

module _ (a b : Space) (values : Option (List ℤ)) (none : values ≡ None) (p p' k : ℕ) (c : Terms Cell) (h : IsNormal cell_cmp p' c) where
  pub s1-none : (rank : ℕ) → rank ≡ suc k → c ≡ s1_on values (a, b, p, p', rank, c)
  s1-none rank e =
      sym (still cell_cmp p' (after (turn_on a b None p) (flow_on a b p)) (turn-flow a b p) k c h) ∙ (λ i. s1_on (sym none i) (a, b, p, p', sym e i, c))

  pub p1-none : (rank : ℕ) → rank ≡ suc k → c ≡ p1_on values (a, b, p, p', rank, c)
  p1-none rank e =
      sym (still cell_cmp p' (after (flow_on a b p) (turn_on a b None p)) (flow-turn a b p) k c h) ∙ (λ i. p1_on (sym none i) (a, b, p, p', sym e i, c))

pub zero-told : (a b : Space) (values : Option (List ℤ)) (p n : ℕ) (c r : Terms (Tensor Cell Cell)) → values ≡ None → r ≡ [] → r ≡ difference_of a b values p n c
zero-told a b values p n c r none e = e ∙ sym (difference-none a b p n c) ∙ ap (λ v. difference_of a b v p n c) (sym none)
