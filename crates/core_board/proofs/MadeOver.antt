-- What is made over right outcomes is right.
use Rattle.std.proofs.Common.{◌≡◌, ◌⊎◌, inl, inr, ℕ, zero, suc, ◌<◌, arith, sym, ◌∙◌, ap, subst, List, [], ◌∷◌, slice_get}
use Rattle.std.specs.Prelude.{All, Option, Some, None, unwrap_or}
use Rattle.std.proofs.lemmas.List.Elements.{All-head, All-tail}
use Rattle.fp_field.specs.Field.{number}
use Rattle.values.specs.Asks.{Ask, Answer, Right, gives, asks, asked_with}
use Rattle.values.specs.Sizes.{place_size}
use Rattle.values.specs.Values.{right_side, value, needs}
use Rattle.values.specs.Outcomes.{Outcome, Over, Limits, is_value, is_over, outcome_with, limited, first_past, made_with, outcome, IsOutcomeOf, ReadFrom, ReadUnless, MadeWithin, usual_limits}
use Rattle.values.proofs.Readings.{EachAsk, outcome-of}
use Rattle.oracle_iface.specs.Keys.{question_of}
use Rattle.oracle_iface.specs.declared.keys.Key.{Key}
use Rattle.core_board.specs.Interleavings.{Pair, outcome_of, IsPublished, IsBefore, AllMadeIsRight}

-- a relation that has an outcome for a question only where it is that of the question, for the questions that are meant
abbrev pub Has : Type 1
Has = (k : Ask) → Outcome (Answer k) → Type 0

module _ (m : Limits) (p : ℕ) (Meant : Ask → Type 0) (closed : (k : Ask) → Meant k → EachAsk Meant (needs p k))
    (back : (k : Ask) → Meant k → outcome m p k ≡ made_with m p (outcome m p) k) where
  abbrev pub IsRightFor : Has → Type 0
  IsRightFor H = (k : Ask) (o : Outcome (Answer k)) → Meant k → H k o → o ≡ outcome m p k

  read-right : (H : Has) → IsRightFor H → {A : Type 0} (r : Right A) (o : Outcome A) → EachAsk Meant (asked_with (value p) r) → ReadFrom m p H r o
      → o ≡ outcome_with (outcome m p) r
  read-right H right (gives a) o u h = h
  read-right H right {A} (asks k then) o u (inl h) =
      let is : is_value h.0 ≡ outcome m p k = right k (is_value h.0) u.0 h.1 in
      let v_is : h.0 ≡ value p k = subst (IsOutcomeOf (value p k)) (sym is) (outcome-of m p k) in
      read-right H right (then h.0) o (subst (λ v. EachAsk Meant (asked_with (value p) (then v))) (sym v_is) u.1) h.2
      ∙ ap (λ (x : Outcome (Answer k)). let from : Outcome A = elim x [ is_value v ↦ outcome_with (outcome m p) (then v) | is_over e ↦ is_over e ] in from) is
  read-right H right {A} (asks k then) o u (inr h) =
      h.2 ∙ ap (λ (x : Outcome (Answer k)). let from : Outcome A = elim x [ is_value v ↦ outcome_with (outcome m p) (then v) | is_over e ↦ is_over e ] in from) (right k (is_over h.0) u.0 h.1)

  pub made-right : (L : Has) → IsRightFor L → (d : ℕ) → IsRightFor (MadeWithin m p L d)
  made-right L right zero k o e h = absurd h
  made-right L right (suc d) k o e h = by (made-right L right d) (first_past m k (place_size k)) h ∙ sym (back k e)
    where
      H : Has
      H j u = L j u ⊎ MadeWithin m p L d j u

      deeper : IsRightFor (MadeWithin m p L d) → IsRightFor H
      deeper below j u f (inl l) = right j u f l
      deeper below j u f (inr l) = below j u f l

      by : IsRightFor (MadeWithin m p L d) → (past : Option Over) → ReadUnless m p past H k o
          → o ≡ (let from : Outcome (Answer k) = elim past [ Some x ↦ is_over x | None ↦ limited m k (outcome_with (outcome m p) (right_side p k)) ] in from)
      by below (Some x) g = g
      by below None g = g.1 ∙ ap (limited m k) (read-right H (deeper below) (right_side p k) g.0 (closed k e) g.2)

-- ---- along a list

some_same : {A : Type 0} (x y : A) → Some x ≡ Some y → x ≡ y
some_same x y e = ap (λ o. unwrap_or o x) e

at_place : {A : Type 0} (P : A → Type 0) (xs : List A) (i : ℕ) (x : A) → All P xs → slice_get xs i ≡ Some x → P x
at_place P [] i x u is = absurd (cc is)
at_place P (y ∷ xs) zero x u is = subst P (some_same y x is) (All-head P y xs u)
at_place P (y ∷ xs) (suc i) x u is = at_place P xs i x (All-tail P y xs u) is

module _ (Meant : ℕ → Ask → Type 0) (closed : (p : ℕ) (k : Ask) → Meant p k → EachAsk (Meant p) (needs p k))
    (back : (p : ℕ) (k : Ask) → Meant p k → outcome usual_limits p k ≡ made_with usual_limits p (outcome usual_limits p) k) where
  abbrev IsMeant : Key → Type 0
  IsMeant k = Meant (number k.prime) (question_of k)

  abbrev IsRightPair : Pair → Type 0
  IsRightPair x = x.outcome ≡ outcome usual_limits x.prime x.question

  pub all-right : AllMadeIsRight IsMeant
  all-right keys events given meant made = along
    where
      below : (n : ℕ) (place : ℕ) → place < n → (k : Key) → IsPublished keys events place k → given place k ≡ outcome_of k
      below zero place l k is = absurd (omega arith)
      below (suc n) place l k is =
          made-right usual_limits (number k.prime) (Meant (number k.prime)) (closed (number k.prime)) (back (number k.prime))
          (IsBefore keys events given place (number k.prime))
          (λ q o e h. subst IsRightPair h.is (below n h.earlier (let g : h.earlier < n = omega (arith, h.before) in g) h.key h.published))
          (made place k is).0 (question_of k) (given place k)
          (at_place IsMeant keys is.event.key k meant is.key) (made place k is).1

      along : (place : ℕ) (k : Key) → IsPublished keys events place k → given place k ≡ outcome_of k
      along place k is = below (suc place) place (omega arith) k is
