-- Lists of events with one event more: which are legal, what they leave, and which numbers they name.
use Rattle.std.proofs.Common.{◌≡◌, ℕ, ◌+◌, ◌<◌, ◌≤◌, Bool, true, false, eq-eqb, List, [], ◌∷◌, ◌++◌, refl, ap, sym, ◌∙◌, subst, arith, Option, Some, None}
use Rattle.std.specs.Prelude.{◌==◌, if◌then◌else◌, nat_lt}
use Rattle.std.proofs.lemmas.Bool.{and_from, eqb-true, ltb-true, lt-ltb}
use Rattle.oracle_iface.specs.Board.{Board, Event, is_legal, after_event, are_legal, after_events}
use Rattle.core_board.proofs.Legal.{after_apart, and_left, and_right}
use Rattle.memo_book.specs.Books.{named}
use Rattle.memo_book.proofs.Lists.{some_same}

pub legal_push : (b : Board) (es : List Event) (e : Event) → are_legal b es ≡ true → is_legal (after_events b es) e ≡ true → are_legal b (es ++ e ∷ []) ≡ true
legal_push b [] e l m = and_from _ _ m refl
legal_push b (d ∷ es) e l m = and_from _ _ (and_left _ _ l) (legal_push (after_event b d) es e (and_right (is_legal b d) _ l) m)

pub after_push : (b : Board) (es : List Event) (e : Event) → after_events b (es ++ e ∷ []) ≡ after_event (after_events b es) e
after_push b [] e = refl
after_push b (d ∷ es) e = after_push (after_event b d) es e

-- each number is below n
abbrev pub AreBelow : ℕ → List Event → Type 0
AreBelow n [] = Unit {0}
AreBelow n (e ∷ es) = (e.key < n) × AreBelow n es

-- a number that no event has is as it was
pub untouched : (b : Board) (n : ℕ) (es : List Event) → AreBelow n es → after_events b es n ≡ b n
untouched b n [] u = refl
untouched b n (e ∷ es) u = untouched (after_event b e) n es u.1 ∙ after_apart b e n (λ h. (let m : ℕ = e.key in let lt : m < n = u.0 in let is : m ≡ n = h in omega arith))

module _ (P : Type 0) (known n : ℕ) (e : Event) (rest : Option ℕ) (more : Option ℕ) where
  -- a number that is known, or the next one
  pub named_cases : (if nat_lt e.key known then rest else (if e.key == known then more else None)) ≡ Some n
      → (e.key < known → rest ≡ Some n → P) → (e.key ≡ known → more ≡ Some n → P) → P
  named_cases h f g = by (nat_lt e.key known) (e.key == known) refl refl h
    where
      by : (a b : Bool) → nat_lt e.key known ≡ a → (e.key == known) ≡ b → (if a then rest else (if b then more else None)) ≡ Some n → P
      by true b ea eb i = f (ltb-true e.key known ea) i
      by false true ea eb i = g (eqb-true e.key known eb) i
      by false false ea eb i = absurd (cc i)

named_known : (known : ℕ) (e : Event) (es : List Event) → e.key < known → named known (e ∷ es) ≡ named known es
named_known known e es l = ap (λ b. if b then named known es else (if e.key == known then named (known + 1) es else None)) (lt-ltb e.key known l)

named_next : (known : ℕ) (e : Event) (es : List Event) → e.key ≡ known → named known (e ∷ es) ≡ named (known + 1) es
named_next known e es is =
    ap (λ b. if b then named known es else (if e.key == known then named (known + 1) es else None)) (not_below (nat_lt e.key known) refl)
    ∙ ap (λ b. if b then named (known + 1) es else None) (eq-eqb e.key known is)
  where
    not_below : (b : Bool) → nat_lt e.key known ≡ b → b ≡ false
    not_below false h = refl
    not_below true h = absurd (let l = ltb-true e.key known h in let m : ℕ = e.key in let a : m < known = l in let s : m ≡ known = is in omega arith)

-- an event on a number that is known names no new one
pub named_old : (known n : ℕ) (es : List Event) (e : Event) → named known es ≡ Some n → e.key < n → named known (es ++ e ∷ []) ≡ Some n
named_old known n [] e is lt = let k : known ≡ n = some_same known n is in subst (λ z. named z (e ∷ []) ≡ Some n) (sym k) (named_known n e [] lt)
named_old known n (d ∷ es) e is lt =
    named_cases (named known (d ∷ es ++ e ∷ []) ≡ Some n) known n d (named known es) (named (known + 1) es) is
    (λ l i. named_known known d (es ++ e ∷ []) l ∙ named_old known n es e i lt)
    (λ l i. named_next known d (es ++ e ∷ []) l ∙ named_old (known + 1) n es e i lt)

-- an event on the next number names it
pub named_new : (known n : ℕ) (es : List Event) (e : Event) → named known es ≡ Some n → e.key ≡ n → named known (es ++ e ∷ []) ≡ Some (n + 1)
named_new known n [] e is at = let k : known ≡ n = some_same known n is in subst (λ z. named z (e ∷ []) ≡ Some (n + 1)) (sym k) (named_next n e [] at)
named_new known n (d ∷ es) e is at =
    named_cases (named known (d ∷ es ++ e ∷ []) ≡ Some (n + 1)) known n d (named known es) (named (known + 1) es) is
    (λ l i. named_known known d (es ++ e ∷ []) l ∙ named_new known n es e i at)
    (λ l i. named_next known d (es ++ e ∷ []) l ∙ named_new (known + 1) n es e i at)

pub named_up : (known n : ℕ) (es : List Event) → named known es ≡ Some n → known ≤ n
named_up known n [] e = let is : known ≡ n = some_same known n e in omega arith
named_up known n (d ∷ es) e =
    named_cases (known ≤ n) known n d (named known es) (named (known + 1) es) e (λ l i. named_up known n es i)
    (λ l i. (let a : known + 1 ≤ n = named_up (known + 1) n es i in omega arith))

pub are_below : (known n : ℕ) (es : List Event) → named known es ≡ Some n → AreBelow n es
are_below known n [] e = tt
are_below known n (d ∷ es) e =
    named_cases ((d.key < n) × AreBelow n es) known n d (named known es) (named (known + 1) es) e
    (λ l i. ((let m : ℕ = d.key in let a : m < known = l in let c : known ≤ n = named_up known n es i in omega arith), are_below known n es i))
    (λ l i. ((let m : ℕ = d.key in let a : m ≡ known = l in let c : known + 1 ≤ n = named_up (known + 1) n es i in omega arith), are_below (known + 1) n es i))
