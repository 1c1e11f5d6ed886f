-- The loop group of a simplicial set with no edge but degenerate ones has only the unit in degree 0.
use Rattle.std.proofs.Common.{◌≡◌, suc, ◌≤◌, Bool, true, false, cond, List, [], ◌∷◌, length, sym, ◌∙◌, ap, arith}
use Rattle.spaces.specs.Simplicial.{Simplicial, has_degeneracy}
use Rattle.spaces.specs.LoopGroups.{Letter, cancels, before, reduce, IsReduced, letter_word}
use Rattle.spaces.specs.Allowed.{HasNoEdge}

module _ {K : Type 0} (A : Simplicial K) where
  length-before : (l : Letter A) (v : List (Letter A)) → length (before A l v) ≤ suc (length v)
  length-before l [] = by (has_degeneracy A 0 l.1)
    where
      by : (b : Bool) → length (cond b [] (l ∷ [])) ≤ 1
      by true = omega arith
      by false = omega arith
  length-before l (m ∷ w) = by (has_degeneracy A 0 l.1) (cancels A l m)
    where
      by : (b c : Bool) → length (cond b (m ∷ w) (cond c w (l ∷ (m ∷ w)))) ≤ suc (suc (length w))
      by true c = omega arith
      by false true = omega arith
      by false false = omega arith

  length-reduce : (w : List (Letter A)) → length (reduce A w) ≤ length w
  length-reduce [] = omega arith
  length-reduce (l ∷ w) = omega (arith, length-before l (reduce A w), length-reduce w)

  -- an s_0 is dropped
  before-unit : (l : Letter A) (v : List (Letter A)) → has_degeneracy A 0 l.1 ≡ true → before A l v ≡ v
  before-unit l [] h = ap (λ b. cond b [] (l ∷ [])) h
  before-unit l (m ∷ w) h = ap (λ b. cond b (m ∷ w) (cond (cancels A l m) w (l ∷ (m ∷ w)))) h

  pub letter_word-unit : (x : K) → has_degeneracy A 0 x ≡ true → letter_word A x ≡ []
  letter_word-unit x h = before-unit (false, x) [] h

  pub no_letter : HasNoEdge A → (l : Letter A) (w : List (Letter A)) → A.In 1 l.1 → IsReduced A (l ∷ w) → ⊥
  no_letter edges l w is r =
      let e : reduce A w ≡ l ∷ w = sym (before-unit l (reduce A w) (edges l.1 is)) ∙ r in
      let f : length (reduce A w) ≡ suc (length w) = ap length e in
      omega (arith, length-reduce w, f)
