-- The keys that a book's history names are the book's keys.
use Rattle.std.proofs.Common.{◌≡◌, ℕ, zero, suc, ◌+◌, ◌<◌, ◌≤◌, Bool, true, false, eq-eqb, List, [], ◌∷◌, ◌++◌, length, map, refl, ap, sym, ◌∙◌, arith, Some, slice_get}
use Rattle.std.specs.Prelude.{◌==◌, ◌&&◌, ◌||◌, not, if◌then◌else◌}
use Rattle.std.proofs.lemmas.Bool.{ne_eqb, and_right}
use Rattle.std.proofs.lemmas.List.{length-append, append-nil, append_assoc}
use Rattle.std.proofs.lemmas.Option.{slice_get_within}
use Rattle.oracle_iface.specs.Histories.{has_key, keys_from, keys_of, is_full}
use Rattle.oracle_iface.specs.KeyOrder.{same_key}
use Rattle.oracle_iface.specs.declared.keys.Key.{Key}
use Rattle.oracle_iface.proofs.OneKey.{same_is, same_self}
use Rattle.core_board.specs.Boards.{event_of}
use Rattle.core_board.specs.declared.events.Event.{Event}
use Rattle.memo_book.specs.Books.{BookView, IsBook, IsNew, named, events_of}
use Rattle.memo_book.specs.Histories.{entry_of, history}
use Rattle.memo_book.proofs.Bridge.{at, key_read}
use Rattle.memo_book.proofs.Journals.{named_cases, named_up}
use Rattle.memo_book.proofs.Lists.{some_same, got, got_left, got_end}

has_at : (xs : List Key) (i : ℕ) (k : Key) → slice_get xs i ≡ Some k → has_key xs k ≡ true
has_at [] i k e = absurd (cc e)
has_at (x ∷ xs) zero k e = ap (λ z. z || has_key xs k) (ap (λ z. same_key z k) (some_same x k e) ∙ same_self k)
has_at (x ∷ xs) (suc i) k e = or_right (same_key x k) (has_key xs k) (has_at xs i k e)
  where
    or_right : (a b : Bool) → b ≡ true → (a || b) ≡ true
    or_right true b h = refl
    or_right false b h = h

pub not_has : (xs : List Key) (k : Key) → ((i : ℕ) → slice_get xs i ≡ Some k → ⊥) → has_key xs k ≡ false
not_has [] k f = refl
not_has (x ∷ xs) k f = one (same_key x k) refl (not_has xs k (λ i h. f (suc i) h))
  where
    one : (b : Bool) → same_key x k ≡ b → has_key xs k ≡ false → (b || has_key xs k) ≡ false
    one true e g = absurd (f zero (ap Some (same_is x k e)))
    one false e g = g

module _ (keys : List Key) (distinct : (i j : ℕ) (k : Key) → slice_get keys i ≡ Some k → slice_get keys j ≡ Some k → i ≡ j) where
  ends : (front rest : List Key) → keys ≡ front ++ rest → length front ≡ length keys → front ≡ keys
  ends front [] k e = sym (k ∙ append-nil front)
  ends front (x ∷ rest) k e =
      absurd (let n : ℕ = length front in let m : ℕ = length rest in
      let a : n ≡ n + suc m = e ∙ (ap (λ (z : List Key). length z) k ∙ length-append front (x ∷ rest)) in omega arith)

  -- an entry of a key that is known names no new one
  known : (front rest : List Key) (d : Event) (es : List Event) → keys ≡ front ++ rest → (event_of d).key < length front
      → keys_from front (entry_of keys d ∷ map (entry_of keys) es) ≡ keys_from front (map (entry_of keys) es)
  known front rest d es k l =
      let g = got front (event_of d).key l in
      let here : slice_get keys (event_of d).key ≡ Some g.0 = ap (λ z. slice_get z (event_of d).key) k ∙ (got_left front rest (event_of d).key l ∙ g.1) in
      ap (λ b. keys_from (if b then front else front ++ (entry_of keys d).key ∷ []) (map (entry_of keys) es))
      (ap (has_key front) (key_read keys d ∙ at keys (event_of d).key g.0 here) ∙ has_at front (event_of d).key g.0 g.1)

  -- and one of the next key names that
  next : (front rest : List Key) (x : Key) (d : Event) (es : List Event) → keys ≡ front ++ x ∷ rest → (event_of d).key ≡ length front
      → keys_from front (entry_of keys d ∷ map (entry_of keys) es) ≡ keys_from (front ++ x ∷ []) (map (entry_of keys) es)
  next front rest x d es k is =
      let here : slice_get keys (length front) ≡ Some x = ap (λ z. slice_get z (length front)) k ∙ got_end front rest x in
      let key : (entry_of keys d).key ≡ x = key_read keys d ∙ at keys (event_of d).key x (ap (slice_get keys) is ∙ here) in
      ap (λ z. keys_from (if has_key front z then front else front ++ z ∷ []) (map (entry_of keys) es)) key
      ∙ ap (λ b. keys_from (if b then front else front ++ x ∷ []) (map (entry_of keys) es)) (not_has front x (λ j h. none j h here))
    where
      none : (j : ℕ) → slice_get front j ≡ Some x → slice_get keys (length front) ≡ Some x → ⊥
      none j h here =
          let n : ℕ = length front in
          let lt : j < n = slice_get_within front j x h in
          let same : j ≡ n = distinct j (length front) x (ap (λ z. slice_get z j) k ∙ (got_left front (x ∷ rest) j lt ∙ h)) here in omega arith

  known_all : (es : List Event) (front rest : List Key) → keys ≡ front ++ rest → named (length front) (events_of es) ≡ Some (length keys)
      → keys_from front (map (entry_of keys) es) ≡ keys
  known_all [] front rest k e = ends front rest k (some_same (length front) (length keys) e)
  known_all (d ∷ es) front rest k e =
      named_cases (keys_from front (entry_of keys d ∷ map (entry_of keys) es) ≡ keys) (length front) (length keys) (event_of d) (named (length front) (events_of es))
      (named (length front + 1) (events_of es)) e
      (λ l i. known front rest d es k l ∙ known_all es front rest k i)
      (λ l i. by rest k l i (λ x r k' i'. known_all es (front ++ x ∷ []) r k' i'))
    where
      by : (rest : List Key) → keys ≡ front ++ rest → (event_of d).key ≡ length front → named (length front + 1) (events_of es) ≡ Some (length keys)
          → ((x : Key) (r : List Key) → keys ≡ (front ++ x ∷ []) ++ r → named (length (front ++ x ∷ [])) (events_of es) ≡ Some (length keys)
          → keys_from (front ++ x ∷ []) (map (entry_of keys) es) ≡ keys)
          → keys_from front (entry_of keys d ∷ map (entry_of keys) es) ≡ keys
      by [] k l i f =
          absurd (let n : ℕ = length front in let m : ℕ = length keys in let a : n + 1 ≤ m = named_up (length front + 1) (length keys) (events_of es) i in
          let b : m ≡ n = ap (λ (z : List Key). length z) (k ∙ append-nil front) in omega arith)
      by (x ∷ r) k l i f =
          next front r x d es k l
          ∙ f x r (k ∙ sym (append_assoc front (x ∷ []) r)) (ap (λ n. named n (events_of es)) (length-append front (x ∷ [])) ∙ i)

pub history_keys : (b : BookView) → IsBook b.keys b.states b.journal → keys_of (history b) ≡ b.keys
history_keys b r = known_all b.keys r.distinct b.journal [] b.keys refl r.in_order

-- full where it has the most keys, and not this one
pub full_there : (b : BookView) (key : Key) → IsBook b.keys b.states b.journal → length b.keys ≡ 65536 → IsNew b key → is_full (history b) key ≡ true
full_there b key r many none =
    ap (λ (z : List Key). (length z == 65536) && not (has_key z key)) (history_keys b r)
    ∙ (ap (λ t. t && not (has_key b.keys key)) (eq-eqb (length b.keys) 65536 many) ∙ ap not (not_has b.keys key none))

-- not full where it has fewer, or this one
pub room_there : (b : BookView) (key : Key) → IsBook b.keys b.states b.journal → length b.keys < 65536 → is_full (history b) key ≡ false
room_there b key r few =
    ap (λ (z : List Key). (length z == 65536) && not (has_key z key)) (history_keys b r)
    ∙ ap (λ t. t && not (has_key b.keys key)) (ne_eqb (length b.keys) 65536 (λ h. (let n : ℕ = length b.keys in let a : n < 65536 = few in let e : n ≡ 65536 = h in omega arith)))

pub known_there : (b : BookView) (key : Key) (i : ℕ) → IsBook b.keys b.states b.journal → slice_get b.keys i ≡ Some key → is_full (history b) key ≡ false
known_there b key i r e =
    ap (λ (z : List Key). (length z == 65536) && not (has_key z key)) (history_keys b r)
    ∙ and_right (length b.keys == 65536) (not (has_key b.keys key)) (ap not (has_at b.keys i key e))
