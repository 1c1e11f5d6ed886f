-- A chain is carried under Up term by term.
use Rattle.std.proofs.Common.{◌≡◌, ℕ, suc, ◌+◌, ◌<◌, List, [], ◌∷◌, ◌++◌, map, length, take, get_or, refl, sym, ◌∙◌, ap, arith}
use Rattle.std.proofs.Math.Seq.{take-suc}
use Rattle.std.proofs.lemmas.List.{map-append}
use Rattle.std.specs.Cmp.{IsTotalOrder}
use Rattle.std.specs.declared.cmp.Ordering.{Ordering}
use Rattle.std.specs.declared.cmp.Ordering.TheVariants.{Equal}
use Rattle.fp_field.specs.declared.element.Fp.{Fp}
use Rattle.fp_field.specs.Chains.{Terms}
use Rattle.fp_field.specs.Normal.{normal}
use Rattle.chain_core.specs.Formal.{numbers}
use Rattle.chain_core.proofs.SumLemmas.{numbers-append}
use Rattle.susp_rules.proofs.UpOrders.{put-behind}

taken : {X : Type 0} (xs : List X) (i : ℕ) (x : X) → i < length xs → x ≡ get_or xs i x → take (i + 1) xs ≡ take i xs ++ x ∷ []
taken xs i x l e = ap (λ n. take n xs) (let q : i + 1 ≡ suc i = omega arith in q) ∙ take-suc xs i x l ∙ ap (λ y. take i xs ++ y ∷ []) (sym e)

pub map-taken : {X Y : Type 0} (f : X → Y) (xs : List X) (i : ℕ) (x : X) → i < length xs → x ≡ get_or xs i x → map f (take (i + 1) xs) ≡ map f (take i xs) ++ f x ∷ []
map-taken f xs i x l e = ap (map f) (taken xs i x l e) ∙ map-append f (take i xs) (x ∷ [])

module _ {K : Type 0} (cmp : K → K → Ordering) (total : IsTotalOrder cmp) (apart : (x y : K) → cmp x y ≡ Equal → x ≡ y) (p : ℕ) (pos : 0 < p) (up : K → K) where
  abbrev raised : Terms K → Terms K
  raised c = map (λ t. (up t.0, t.1)) c

  -- a term more
  pub term-more : (xs : List (K × Fp)) (i : ℕ) (x : K × Fp) (k : K) (old new : Terms K) → i < length xs → x ≡ get_or xs i x → k ≡ x.0
      → old ≡ normal cmp p (raised (numbers (take i xs))) → new ≡ normal cmp p ((up k, x.1.value) ∷ old)
      → new ≡ normal cmp p (raised (numbers (take (i + 1) xs)))
  term-more xs i x k old new l is same before e =
      e ∙ put-behind cmp total apart p pos (raised (numbers (take i xs))) old (up k) x.1.value before
      ∙ ap (normal cmp p)
      (ap (λ z. raised (numbers (take i xs)) ++ (up z, x.1.value) ∷ []) same
      ∙ sym (ap (λ ts. raised (numbers ts)) (taken xs i x l is) ∙ ap raised (numbers-append (take i xs) (x ∷ [])) ∙ map-append (λ t. (up t.0, t.1)) (numbers (take i xs)) (numbers (x ∷ []))))
