-- Where given runs go wrong.
use Rattle.std.proofs.Common.{◌≡◌, ℕ, ◌-◌, ◌≤◌, Bool, true, false, not, cond, eqb, ◌||◌, List, [], ◌∷◌, length, Ok, Err, refl, sym, ap, subst, ◌∙◌, arith, inl, inr, bytes_eq, codes}
use Rattle.std.proofs.lemmas.Bool.{eqb-true}
use Rattle.std.proofs.lemmas.Slice.Eq.{bytes_eq-Decides}
use Rattle.script_lang.specs.Bytes.{is_parenthesis}
use Rattle.script_lang.specs.Grammar.{Run, brackets_behind, is_end, opening, closing}
use Rattle.script_lang.specs.Readings.{Judged}
use Rattle.script_lang.specs.Words.{sign_run, part_of, chain_of, common}
use Rattle.script_lang.proofs.Values.{both_true}
use Rattle.script_lang.proofs.Combine.{which}
use Rattle.script_lang.proofs.Judges.{judging_sign, judging_part, IsMore, judging_chain, IsSome}
use Rattle.script_lang.proofs.PlaceRuns.{is_inside, IsRun, parenthesis, word}
use Rattle.script_lang.proofs.PlaceTables.{IsTable}

-- a choice that went wrong
pub missed : {A : Type 0} (b : Bool) (x : A) (y : Judged A) (left : ℕ) → cond b (Ok x) y ≡ Err left → (b ≡ false) × (y ≡ Err left)
missed true x y left e = absurd cc
missed false x y left e = (refl, e)

pub err_is : {A : Type 0} (m n : ℕ) → (let a : Judged A = Err m in a ≡ Err n) → m ≡ n
err_is m n e = cc

pub run_eq : (a b : Run) → a ≡ b → bytes_eq a b ≡ true
run_eq a b e = (bytes_eq-Decides a b).1 e

end_parenthesis : (a b c : Bool) → a ≡ true → not ((a || b) || c) ≡ true → ⊥
end_parenthesis true b c e f = cc
end_parenthesis false b c e f = cc

pub starts_parenthesis : (run : Run) (b : ℕ) (more : List ℕ) → IsRun run → run ≡ b ∷ more → is_parenthesis b ≡ true → run ≡ b ∷ []
starts_parenthesis run b more (parenthesis c p e) is q =
    let w : c ∷ [] ≡ b ∷ more = sym e ∙ is in
    let same : c ≡ b = cc in e ∙ (rw same refl)
starts_parenthesis run b more (word c w e i) is q =
    let inside : is_inside 0 (b ∷ more) ≡ true = subst (λ (r : Run). is_inside 0 r ≡ true) is i in
    let n = (both_true (not (is_end 0 b)) (is_inside (brackets_behind 0 b) more) inside).0 in
    absurd (end_parenthesis (is_parenthesis b) _ _ q n)

pub no_common : (p : ℕ) → is_parenthesis p ≡ true → (run : Run) → IsRun run → bytes_eq run (p ∷ []) ≡ false → common run (p ∷ []) ≡ 0
no_common p par [] is f = refl
no_common p par (x ∷ run) is f = elim (which (eqb x p)) [
  | inl t ↦
      let same : x ≡ p = eqb-true x p t in
      let all : x ∷ run ≡ p ∷ [] = starts_parenthesis (x ∷ run) p run is (ap (λ (c : ℕ). c ∷ run) same) par in
      absurd (let bad = sym f ∙ run_eq (x ∷ run) (p ∷ []) all in cc)
  | inr n ↦ rw n refl
]

-- ---- parentheses

minus_none : (a b left : ℕ) → b ≡ 0 → a ≡ left → a - b ≡ left
minus_none a b left z e = omega (arith, z, e)

pub sign_table : (p : ℕ) → is_parenthesis p ≡ true → IsTable (λ (v : Unit {0}). p ∷ []) (sign_run (p ∷ []))
sign_table p par = record {
  again = λ v. (judging_sign (p ∷ [])).again (p ∷ []) v refl;
  is = λ run v e. (judging_sign (p ∷ [])).is run v e;
  is_run = λ v. parenthesis p par refl;
  best = λ run left is e. tt;
  reached = λ run left is e.
      let m = missed (bytes_eq run (p ∷ [])) tt (Err (length run)) left e in
      minus_none (length run) (common run (p ∷ [])) left (no_common p par run is m.0) (err_is {A = Unit {0}} (length run) left m.1);
  most = λ run left is e v. omega arith;
}

abbrev pub part_text : Bool → Run
part_text true = opening
part_text false = closing

part_is : (run : Run) (v : Bool) → IsMore run v → run ≡ part_text v
part_is run true e = e
part_is run false e = e

is_part : (v : Bool) → IsMore (part_text v) v
is_part true = refl
is_part false = refl

part_run : (v : Bool) → IsRun (part_text v)
part_run true = parenthesis 40 refl refl
part_run false = parenthesis 41 refl refl

part_missed : (run : Run) (left : ℕ) → part_of run ≡ Err left → (bytes_eq run opening ≡ false) × (bytes_eq run closing ≡ false) × (length run ≡ left)
unfolding part_of
part_missed run left e =
    let m = missed (bytes_eq run opening) true (cond (bytes_eq run closing) (Ok false) (Err (length run))) left e in
    let n = missed (bytes_eq run closing) false (Err (length run)) left m.1 in
    (m.0, n.0, err_is {A = Bool} (length run) left n.1)

part_common : (run : Run) (left : ℕ) → IsRun run → part_of run ≡ Err left → (v : Bool) → common run (part_text v) ≡ 0
part_common run left is e true = no_common 40 refl run is (part_missed run left e).0
part_common run left is e false = no_common 41 refl run is (part_missed run left e).1

pub part_table : IsTable part_text part_of
part_table = record {
  again = λ v. judging_part.again (part_text v) v (is_part v);
  is = λ run v e. part_is run v (judging_part.is run v e);
  is_run = part_run;
  best = λ run left is e. true;
  reached = λ run left is e. minus_none (length run) (common run opening) left (part_common run left is e true) (part_missed run left e).2;
  most = λ run left is e v. let z = part_common run left is e v in omega arith;
}

-- ---- terms or 0

abbrev pub chain_text : Bool → Run
chain_text true = opening
chain_text false = codes "0"

chain_is : (run : Run) (v : Bool) → IsSome run v → run ≡ chain_text v
chain_is run true e = e
chain_is run false e = e

is_chain : (v : Bool) → IsSome (chain_text v) v
is_chain true = refl
is_chain false = refl

chain_run : (v : Bool) → IsRun (chain_text v)
chain_run true = parenthesis 40 refl refl
chain_run false = word 48 [] refl refl

chain_missed : (run : Run) (left : ℕ) → chain_of run ≡ Err left → (bytes_eq run opening ≡ false) × (length run - common run (codes "0") ≡ left)
unfolding chain_of
chain_missed run left e =
    let m = missed (bytes_eq run opening) true (cond (bytes_eq run (codes "0")) (Ok false) (Err (length run - common run (codes "0")))) left e in
    let n = missed (bytes_eq run (codes "0")) false (Err (length run - common run (codes "0"))) left m.1 in
    (m.0, err_is {A = Bool} (length run - common run (codes "0")) left n.1)

chain_most : (run : Run) (left : ℕ) → IsRun run → chain_of run ≡ Err left → (v : Bool) → common run (chain_text v) ≤ common run (codes "0")
chain_most run left is e true = let z = no_common 40 refl run is (chain_missed run left e).0 in omega arith
chain_most run left is e false = omega arith

pub chain_table : IsTable chain_text chain_of
chain_table = record {
  again = λ v. judging_chain.again (chain_text v) v (is_chain v);
  is = λ run v e. chain_is run v (judging_chain.is run v e);
  is_run = chain_run;
  best = λ run left is e. false;
  reached = λ run left is e. (chain_missed run left e).1;
  most = λ run left is e v. chain_most run left is e v;
}
