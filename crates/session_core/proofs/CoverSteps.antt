-- Chains whose cells are among some cells: one term more, and one chain more.
use Rattle.std.proofs.Common.{◌≡◌, suc, ◌+◌, ◌<◌, List, [], ◌∷◌, ◌++◌, map, length, take, get_or, sym, ◌∙◌, ap, subst, arith}
use Rattle.std.proofs.Math.Seq.{take-suc}
use Rattle.std.proofs.lemmas.List.{map-append}
use Rattle.std.proofs.lemmas.List.Elements.{Contains-get_or}
use Rattle.std.specs.List.{Contains}
use Rattle.std.specs.Prelude.{ℕ}
use Rattle.std.specs.declared.cmp.Ordering.{Ordering}
use Rattle.std.specs.declared.cmp.Ordering.TheVariants.{Equal}
use Rattle.fp_field.specs.declared.element.Fp.{Fp}
use Rattle.fp_field.specs.Chains.{Terms, Each}
use Rattle.fp_field.proofs.Weights.{Each-append}
use Rattle.chain_core.specs.Formal.{numbers}
use Rattle.chain_core.proofs.SumLemmas.{numbers-append}
use Rattle.homology_rules.specs.CycleVectors.{AreCovered}

module _ {K : Type 0} (cells : List K) where
  -- a cell that was found is one of the cells
  pub found : (cmp : K → K → Ordering) → ((x y : K) → cmp x y ≡ Equal → x ≡ y) → (i : ℕ) (y : K) → i < length cells → cmp (get_or cells i y) y ≡ Equal → Contains cells y
  found cmp one_key i y l e = subst (Contains cells) (one_key (get_or cells i y) y e) (Contains-get_or cells i y l)

  pub term-more : (ts : List (K × Fp)) (i : ℕ) (t : K × Fp) → i < length ts → t ≡ get_or ts i t → Contains cells t.0 → Each (Contains cells) (numbers (take i ts)) → Each (Contains cells) (numbers (take (i + 1) ts))
  term-more ts i t l e h g =
      subst (Each (Contains cells)) (sym (ap (λ n. numbers (take n ts)) (let q : i + 1 ≡ suc i = omega arith in q) ∙ ap numbers (take-suc ts i t l ∙ ap (λ y. take i ts ++ y ∷ []) (sym e)) ∙ numbers-append (take i ts) (t ∷ [])))
      (Each-append (Contains cells) (numbers (take i ts)) (numbers (t ∷ [])) g (h, tt))

  covered-append : (as' bs : List (Terms K)) → AreCovered cells as' → AreCovered cells bs → AreCovered cells (as' ++ bs)
  covered-append [] bs h g = g
  covered-append (a ∷ as') bs h g = (h.0, covered-append as' bs h.1 g)

  pub chain-more : {V : Type 0} (chain_of : V → Terms K) (vs : List V) (i : ℕ) (v : V) (c : Terms K) → i < length vs → v ≡ get_or vs i v → c ≡ chain_of v → Each (Contains cells) c
      → AreCovered cells (map chain_of (take i vs)) → AreCovered cells (map chain_of (take (i + 1) vs))
  chain-more chain_of vs i v c l e f h g =
      subst (AreCovered cells) (sym (ap (λ n. map chain_of (take n vs)) (let q : i + 1 ≡ suc i = omega arith in q) ∙ ap (map chain_of) (take-suc vs i v l ∙ ap (λ y. take i vs ++ y ∷ []) (sym e)) ∙ map-append chain_of (take i vs) (v ∷ [])))
      (covered-append (map chain_of (take i vs)) (chain_of v ∷ []) g (subst (Each (Contains cells)) f h, tt))
