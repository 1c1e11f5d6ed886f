-- The values of valid questions about K(Z,1) have only cells that the code has, where the code has its cells.
use Rattle.std.proofs.Common.{◌≡◌, ◌⊎◌, inl, inr, ℕ, suc, ◌+◌, ◌<◌, ◌≤◌, false, List, [], ◌∷◌, length, refl, sym, ◌∙◌, ap, arith}
use Rattle.std.proofs.Math.IntN.{ℤ, pos}
use Rattle.fp_field.specs.Chains.{Terms, Each}
use Rattle.fp_field.specs.Normal.{normal}
use Rattle.fp_field.proofs.FlowLaws.{Each-normal}
use Rattle.spaces.specs.Spaces.{kz1}
use Rattle.spaces.specs.SmallCells.{small_cmp}
use Rattle.spaces.specs.Orders.{ordered, by_degree}
use Rattle.values.specs.Integers.{integers_f, integers_h}
use Rattle.values.specs.Ranks.{IsCell}
use Rattle.values.proofs.BasesCells.{basis-members}
use Rattle.oracle_iface.specs.KeyLaws.{HasCells, IsShown}
use Rattle.homology_rules.specs.Shown.{IsSmallShown, HasShownValues}
use Rattle.homology_laws.proofs.IntegersFaces.{has_zero, degenerate-zero}
use Rattle.kz1_rules.specs.Lists.{IsFree}
use Rattle.kz1_rules.proofs.FreeLists.{has-free}
use Rattle.kz1_rules.proofs.ListOrders.{IsList}
use Rattle.kz1_rules.proofs.Beyond.{IsKey, h-normal_keys, key-list}

-- a list without a 0 is a cell
list-cell : (n : ℕ) (x : List ℤ) → length x ≡ n → has_zero x ≡ false → IsCell kz1 n x
list-cell n x e h = ((e, λ i k l. tt), degenerate-zero n x e ∙ h)

each-so : {K : Type 0} (P Q : K → Type 0) → ((k : K) → P k → Q k) → (c : Terms K) → Each P c → Each Q c
each-so P Q e [] h = tt
each-so P Q e (t ∷ c) h = (e t.0 h.0, each-so P Q e c h.1)

module _ (p : ℕ) (two : 1 < p) where
  f-terms : (x : List ℤ) → Each (IsSmallShown kz1) (integers_f p x)
  f-terms [] = ((tt, omega arith), tt)
  f-terms (a ∷ []) = ((tt, omega arith), tt)
  f-terms (a ∷ (b ∷ x)) = tt

  small-shown : (y : List ℤ) → (y ≡ []) ⊎ (y ≡ pos 1 ∷ []) → IsShown kz1 (length y, y)
  small-shown y (inl e) = (let l : length y ≡ 0 = ap length e in omega (arith, l), list-cell (length y) y refl (ap has_zero e))
  small-shown y (inr e) = (let l : length y ≡ 1 = ap length e in omega (arith, l), list-cell (length y) y refl (ap has_zero e))

  key-shown : (n : ℕ) → n ≤ 32 → (k : ℕ × List ℤ) → IsList n k → IsShown kz1 k
  key-shown n l k is = (let e : k.0 ≡ n = is.degree in omega (arith, e), list-cell k.0 k.1 (is.long ∙ sym is.degree) is.free)

  h-shown : (n : ℕ) (x : List ℤ) → IsCell kz1 n x → n + 0 ≤ 24 → Each (IsShown kz1) (normal (by_degree (ordered kz1).cmp) p (integers_h p x))
  h-shown n x is l =
      let free : IsFree x = has-free x (sym (degenerate-zero n x is.0.0) ∙ is.1) in
      let low : suc (length x) ≤ 32 = omega (arith, is.0.0, l) in
      each-so (IsKey p two x) (IsShown kz1) (λ k b. key-shown (suc (length x)) low k (key-list p two x free k b)) (normal (by_degree (ordered kz1).cmp) p (integers_h p x)) (h-normal_keys p two x)

  pub integers-shown : HasCells kz1 → HasShownValues p kz1
  integers-shown cells = record {
    cells = cells;
    in_small_d = λ y v. tt;
    in_f = λ n x v. Each-normal (IsSmallShown kz1) (small_cmp kz1) p (integers_f p x) (f-terms x);
    in_g = λ y v. (small-shown y ((basis-members p kz1 (length y) y).0 v.1).1, tt);
    in_h = λ n x v. h-shown n x v.1 v.2;
  }
