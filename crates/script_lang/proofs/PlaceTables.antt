-- Where a run that is to be one of several given texts goes wrong.
use Rattle.std.proofs.Common.{◌≡◌, ℕ, suc, zero, ◌+◌, ◌-◌, ◌≤◌, true, eqb, max, List, [], ◌∷◌, ◌++◌, length, take, drop, Ok, Err, refl, sym, ap, subst, ◌∙◌, arith, ◌⊎◌, inl, inr}
use Rattle.std.proofs.lemmas.Bool.{cases_lt, eqb-true}
use Rattle.std.proofs.lemmas.List.{take-append-drop, length-drop}
use Rattle.script_lang.specs.Grammar.{Run}
use Rattle.script_lang.specs.Readings.{Judged}
use Rattle.script_lang.specs.Words.{common}
use Rattle.script_lang.proofs.Combine.{which}
use Rattle.script_lang.proofs.Inner.{eqb_same}
use Rattle.script_lang.proofs.PlaceRuns.{IsRun}
use Rattle.script_lang.proofs.PlaceWords.{Begun}

common_within : (run text : Run) → common run text ≤ length run
common_within [] text = omega arith
common_within (x ∷ run) [] = omega arith
common_within (x ∷ run) (y ∷ text) = elim (which (eqb x y)) [
  | inl e ↦ let h = common_within run text in rw e (omega arith)
  | inr e ↦ rw e (omega arith)
]

common_take : (run text : Run) → take (common run text) run ≡ take (common run text) text
common_take [] text = refl
common_take (x ∷ run) [] = refl
common_take (x ∷ run) (y ∷ text) = elim (which (eqb x y)) [
  | inl e ↦ let s : 1 + common run text ≡ suc (common run text) = omega arith in let same : x ≡ y = eqb-true x y e in rw (e, s) (rw same (ap (λ (t : List ℕ). y ∷ t) (common_take run text)))
  | inr e ↦ rw e refl
]

-- one byte more in common
common_seam : (k : ℕ) (run : Run) (b : ℕ) (after other : List ℕ) → drop k run ≡ b ∷ after → suc k ≤ common run (take k run ++ b ∷ other)
common_seam zero [] b after other e = absurd cc
common_seam zero (x ∷ run) b after other e = let same : x ≡ b = cc in let t : eqb x b ≡ true = rw same (eqb_same b) in rw t (omega arith)
common_seam (suc k) [] b after other e = absurd cc
common_seam (suc k) (x ∷ run) b after other e = let h = common_seam k run b after other e in rw (eqb_same x) (omega (arith, h))

-- A judge of runs that are given texts, whose faults lie behind the most bytes in common.
pub record IsTable {A : Type 0} (text : A → Run) (judge : Run → Judged A) : Type 0 where
  pub again : (v : A) → judge (text v) ≡ Ok v
  pub is : (run : Run) (v : A) → judge run ≡ Ok v → run ≡ text v
  pub is_run : (v : A) → IsRun (text v)
  pub best : (run : Run) (left : ℕ) → IsRun run → judge run ≡ Err left → A
  pub reached : (run : Run) (left : ℕ) (is : IsRun run) (e : judge run ≡ Err left) → length run - common run (text (best run left is e)) ≡ left
  pub most : (run : Run) (left : ℕ) (is : IsRun run) (e : judge run ≡ Err left) (v : A) → common run (text v) ≤ common run (text (best run left is e))

pub table_begun : {A : Type 0} (text : A → Run) (judge : Run → Judged A) → IsTable text judge → (run : Run) (left : ℕ) → IsRun run → judge run ≡ Err left → Begun judge run left
table_begun {A} text judge table run left is e =
    let best = table.best run left is e in
    let k = common run (text best) in
    let front : take k run ≡ take k (text best) = common_take run (text best) in
    let whole : text best ≡ take k run ++ drop k (text best) = sym (ap (λ (t : List ℕ). t ++ drop k (text best)) front ∙ take-append-drop k (text best)) in
    record {
      front = take k run;
      rest = drop k run;
      whole = sym (take-append-drop k run);
      left_is = length-drop k run ∙ table.reached run left is e;
      hope = λ c tail w. record { more = drop k (text best); value = best; gives = subst (λ (r : Run). judge r ≡ Ok best) whole (table.again best); is_run = subst IsRun whole (table.is_run best) };
      dead = λ b after other v w d.
          let far = common_seam k run b after other w in
          let same : common run (take k run ++ b ∷ other) ≡ common run (text v) = ap (common run) (table.is (take k run ++ b ∷ other) v d) in
          let most = table.most run left is e v in
          omega (arith, far, same, most);
    }

pub max_is : (a b : ℕ) → (max a b ≡ a) ⊎ (max a b ≡ b)
max_is a b = elim (cases_lt a b) [ inl lt ↦ inr (omega arith) | inr le ↦ inl (omega arith) ]
