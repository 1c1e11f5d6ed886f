-- What a look-up by hash finds among the keys.
use Rattle.std.proofs.Common.{◌≡◌, ◌∙◌, ℕ, ◌<◌, Bool, true, false, cond, nat_lt, List, length, refl, ap, sym, arith, Option, Some, None, slice_get, get_or, position}
use Rattle.std.specs.Prelude.{IfSome, IfNone}
use Rattle.std.specs.List.{position_or_len}
use Rattle.std.proofs.lemmas.Bool.{ltb-true, ltb-false, lt-ltb}
use Rattle.std.proofs.lemmas.List.Quantifiers.{position-Some}
use Rattle.std.proofs.lemmas.List.Sums.{fails_before_first}
use Rattle.std.proofs.lemmas.Option.{slice_get-get_or, slice_get_within, get_or_from_slice_get}
use Rattle.oracle_iface.specs.KeyOrder.{same_key}
use Rattle.oracle_iface.specs.contracts.keys.KeyOrd.TheImpl as key_order
use Rattle.oracle_iface.specs.contracts.keys.KeyPartialEq.TheImpl as key_equality
use Rattle.oracle_iface.specs.declared.cell_values.CellValue.{CellValue}
use Rattle.oracle_iface.specs.declared.keys.Key.{Key}
use Rattle.oracle_iface.proofs.OneKey.{same_is, same_self}
use Rattle.core_board.specs.declared.events.Event.{Event}
use Rattle.memo_book.specs.Books.{IsBook}
use Rattle.memo_book.specs.declared.book.State.{State}
use Rattle.memo_book.specs.declared.book.State.TheVariants.{Unclaimed, Held, Published}
use Rattle.memo_book.proofs.Lists.{some_same}

-- the test by which a look-up knows its key
abbrev pub equal_keys : Key → Key → Bool
equal_keys = (key_equality.ghosts).eq

equal_is : (a b : Key) → equal_keys a b ≡ same_key a b
equal_is a b = key_order.Laws.matches_eq-law a b

equal_same : (a b : Key) → equal_keys a b ≡ true → a ≡ b
equal_same a b e = same_is a b (sym (equal_is a b) ∙ e)

equal_self : (a : Key) → equal_keys a a ≡ true
equal_self a = equal_is a a ∙ same_self a

-- the test fails where the keys differ
pub not_equal : (a b : Key) → (a ≡ b → ⊥) → equal_keys a b ≡ false
not_equal a b differ = by (equal_keys a b) refl
  where
    by : (t : Bool) → equal_keys a b ≡ t → t ≡ false
    by true e = absurd (differ (equal_same a b e))
    by false e = refl

at_place : (keys : List Key) (key : Key) (i : ℕ) → position (equal_keys key) keys ≡ Some i → slice_get keys i ≡ Some key
at_place keys key i e =
    let p = position-Some (equal_keys key) keys i key e in
    slice_get-get_or keys i key p.0 ∙ ap Some (sym (equal_same key (get_or keys i key) p.1))

nowhere : (keys : List Key) (key : Key) → position (equal_keys key) keys ≡ None → (j : ℕ) → slice_get keys j ≡ Some key → ⊥
nowhere keys key e j at = by (nat_lt (position_or_len (equal_keys key) keys) (length keys)) refl e
  where
    first : ℕ
    first = position_or_len (equal_keys key) keys

    here : j < length keys
    here = slice_get_within keys j key at

    passes : equal_keys key (get_or keys j key) ≡ true
    passes = ap (equal_keys key) (get_or_from_slice_get keys j key key at) ∙ equal_self key

    by : (b : Bool) → nat_lt first (length keys) ≡ b → cond b (Some first) None ≡ None → ⊥
    by true is none = cc none
    by false is none = by_place (nat_lt j first) refl
      where
        by_place : (b : Bool) → nat_lt j first ≡ b → ⊥
        by_place true lt = cc (sym passes ∙ fails_before_first (equal_keys key) keys j key (ltb-true j first lt))
        by_place false lt = cc (sym is ∙ lt-ltb first (length keys) (let a = ltb-false j first lt in let b = here in omega arith))

-- what a look-up finds
pub found : (keys : List Key) (key : Key) (r : Option ℕ) → r ≡ position (equal_keys key) keys
    → IfSome r (λ i. slice_get keys i ≡ Some key) × IfNone r ((j : ℕ) → slice_get keys j ≡ Some key → ⊥)
found keys key (Some i) e = (at_place keys key i (sym e), tt)
found keys key None e = (tt, nowhere keys key (sym e))

abbrev is_public : State → Bool
is_public Unclaimed = false
is_public (Held seat) = false
is_public (Published v) = true

-- a key that stands in another state is published nowhere
pub not_public : (keys : List Key) (states : List State) (journal : List Event) (i : ℕ) (key : Key) (s : State) → IsBook keys states journal
    → slice_get keys i ≡ Some key → slice_get states i ≡ Some s → is_public s ≡ false
    → (j : ℕ) (v : CellValue) → (slice_get keys j ≡ Some key) × (slice_get states j ≡ Some (Published v)) → ⊥
not_public keys states journal i key s r at is not j v p =
    cc (sym not ∙ ap is_public (some_same s (Published v) (sym is ∙ (ap (slice_get states) (r.distinct i j key at p.0) ∙ p.1))))
