-- Where a parenthesis or else a word goes wrong, and each word of a line.
use Rattle.script_lang.proofs.PlaceRules.{none_of}
use Rattle.std.proofs.Common.{◌≡◌, ℕ, true, false, cond, List, [], ◌∷◌, ◌++◌, Ok, Err, Option, Some, None, refl, sym, ap, ◌∙◌, inl, inr, bytes_eq}
use Rattle.script_lang.specs.Bytes.{is_parenthesis}
use Rattle.script_lang.specs.Grammar.{Run}
use Rattle.script_lang.specs.Readings.{Judged}
use Rattle.script_lang.specs.Words.{some_of}
use Rattle.script_lang.proofs.Combine.{which}
use Rattle.script_lang.proofs.Judges.{same_run}
use Rattle.script_lang.proofs.PlaceRuns.{IsRun}
use Rattle.script_lang.proofs.PlaceWords.{Hope, Begun}
use Rattle.script_lang.proofs.PlaceTexts.{missed, run_eq, starts_parenthesis}

some_err : {A : Type 0} (judged : Judged A) (left : ℕ) → some_of judged ≡ Err left → judged ≡ Err left
some_err (Ok x) left e = absurd cc
some_err (Err own) left e = let same : own ≡ left = cc in ap Err same

some_ok : {A : Type 0} (judged : Judged A) (v : Option A) → some_of judged ≡ Ok v → (x : A) × (judged ≡ Ok x)
some_ok (Ok x) v e = (x, refl)
some_ok (Err left) v e = absurd cc

module _ {A : Type 0} (p : ℕ) (par : is_parenthesis p ≡ true) (judge : Run → Judged A) where
  abbrev either : Run → Judged (Option A)
  either run = cond (bytes_eq run (p ∷ [])) (Ok None) (some_of (judge run))

  either_hope : (front : Run) → Hope judge front → Hope either front
  either_hope front h = elim (which (bytes_eq (front ++ h.more) (p ∷ []))) [
    | inl t ↦ record { more = h.more; value = None; gives = rw t refl; is_run = h.is_run }
    | inr f ↦ record { more = h.more; value = Some h.value; gives = rw f (ap some_of h.gives); is_run = h.is_run }
  ]

  only_first : (front : List ℕ) (run : Run) (b : ℕ) (after other rest : List ℕ) → IsRun run → bytes_eq run (p ∷ []) ≡ false → run ≡ front ++ rest → rest ≡ b ∷ after → front ++ b ∷ other ≡ p ∷ [] → ⊥
  only_first [] run b after other rest is f w r e =
      let same : b ≡ p = cc in
      let all = starts_parenthesis run p after is (w ∙ r ∙ ap (λ (c : ℕ). c ∷ after) same) par in
      let bad = sym f ∙ run_eq run (p ∷ []) all in cc
  only_first (c ∷ front) run b after other rest is f w r e =
      let tail : front ++ b ∷ other ≡ [] = cc in
      let bad = (none_of front (b ∷ other) tail).1 in cc

  pub either_begun : ((run : Run) (left : ℕ) → IsRun run → judge run ≡ Err left → Begun judge run left) → (run : Run) (left : ℕ) → IsRun run → cond (bytes_eq run (p ∷ [])) (Ok None) (some_of (judge run)) ≡ Err left → Begun (λ run. cond (bytes_eq run (p ∷ [])) (Ok None) (some_of (judge run))) run left
  either_begun begun run left is e =
      let m = missed (bytes_eq run (p ∷ [])) None (some_of (judge run)) left e in
      let g = begun run left is (some_err (judge run) left m.1) in
      record {
        front = g.front;
        rest = g.rest;
        whole = g.whole;
        left_is = g.left_is;
        hope = λ c tail w. either_hope g.front (g.hope c tail w);
        dead = λ b after other v w d. elim (which (bytes_eq (g.front ++ b ∷ other) (p ∷ []))) [
          | inl t ↦ only_first g.front run b after other g.rest is m.0 g.whole w (same_run (g.front ++ b ∷ other) (p ∷ []) t)
          | inr f ↦ let s = some_ok (judge (g.front ++ b ∷ other)) v (rw f at d) in g.dead b after other s.0 w s.1
        ];
      }
