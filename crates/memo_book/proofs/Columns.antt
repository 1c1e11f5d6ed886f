-- The entries of a table, as a list of keys and one of states.
use Rattle.std.proofs.Common.{◌≡◌, ◌∙◌, ℕ, zero, suc, ◌+◌, ◌<◌, true, cond, List, [], ◌∷◌, ◌++◌, length, set, refl, ap, sym, subst, Some, slice_get}
use Rattle.std.specs.Prelude.{if◌then◌else◌}
use Rattle.std.specs.Map.{keys_of, values_of}
use Rattle.std.proofs.lemmas.List.{length-map, length-append, map-append}
use Rattle.std.proofs.lemmas.Option.{slice_get_within}
use Rattle.indexmap.specs.IndexMap.{insert_entry, set_value_at}
use Rattle.oracle_iface.specs.Board.{can_act, after_act}
use Rattle.oracle_iface.specs.declared.cell_values.CellValue.{CellValue}
use Rattle.oracle_iface.specs.declared.keys.Key.{Key}
use Rattle.core_board.specs.Boards.{event_of}
use Rattle.core_board.specs.declared.events.Event.{Event}
use Rattle.core_board.specs.declared.events.Event.TheVariants.{Claim}
use Rattle.memo_book.specs.Books.{BookView, IsBook, slot_of, changed, extended}
use Rattle.memo_book.specs.Kept.{is_held, held_count}
use Rattle.memo_book.specs.declared.book.State.{State}
use Rattle.memo_book.specs.declared.book.State.TheVariants.{Held, Published}
use Rattle.memo_book.proofs.Counts.{count_set, count_push}
use Rattle.memo_book.proofs.Finding.{equal_keys, not_equal}
use Rattle.memo_book.proofs.Replays.{book_step, book_more}

-- a table with its journal, as a book
abbrev pub view_of : List (Key × State) → List Event → BookView
view_of entries journal = record { keys = keys_of entries; states = values_of entries; journal = journal }

-- a state's place is one of the table
pub within_states : (entries : List (Key × State)) (i : ℕ) (s : State) → slice_get (values_of entries) i ≡ Some s → i < length entries
within_states entries i s at = subst (λ n. i < n) (length-map entries (λ e. e.1)) (slice_get_within (values_of entries) i s at)

-- ---- a state that is changed

pub keys_set : (entries : List (Key × State)) (i : ℕ) (s : State) → keys_of (set_value_at entries i s) ≡ keys_of entries
keys_set [] i s = refl
keys_set (e ∷ es) zero s = refl
keys_set (e ∷ es) (suc i) s = ap (λ l. e.0 ∷ l) (keys_set es i s)

pub states_set : (entries : List (Key × State)) (i : ℕ) (s : State) → values_of (set_value_at entries i s) ≡ set (values_of entries) i s
states_set [] i s = refl
states_set (e ∷ es) zero s = refl
states_set (e ∷ es) (suc i) s = ap (λ l. e.1 ∷ l) (states_set es i s)

pub set_length : (entries : List (Key × State)) (i : ℕ) (s : State) → length (set_value_at entries i s) ≡ length entries
set_length [] i s = refl
set_length (e ∷ es) zero s = refl
set_length (e ∷ es) (suc i) s = ap suc (set_length es i s)

pub set_count : (entries : List (Key × State)) (i : ℕ) (old s : State) → slice_get (values_of entries) i ≡ Some old
    → held_count (values_of (set_value_at entries i s)) + cond (is_held old) 1 0 ≡ held_count (values_of entries) + cond (is_held s) 1 0
set_count entries i old s at = ap (λ xs. held_count xs + cond (is_held old) 1 0) (states_set entries i s) ∙ count_set (values_of entries) i old s at

-- a key is put from one state into another
pub set_book : (entries : List (Key × State)) (journal journal' : List Event) (i : ℕ) (old new : State) (e : Event)
    → IsBook (keys_of entries) (values_of entries) journal → slice_get (values_of entries) i ≡ Some old → (event_of e).key ≡ i
    → can_act (slot_of old) (event_of e).act (event_of e).seat ≡ true → slot_of new ≡ after_act (event_of e).act (event_of e).seat
    → ((k : Key) → slice_get (keys_of entries) i ≡ Some k → (v : CellValue) → new ≡ Published v → v.key ≡ k)
    → journal' ≡ journal ++ e ∷ [] → IsBook (keys_of (set_value_at entries i new)) (values_of (set_value_at entries i new)) journal'
set_book entries journal journal' i old new e r at is may shown value j_is =
    subst (λ ks. IsBook ks (values_of (set_value_at entries i new)) journal') (sym (keys_set entries i new))
    (subst (λ xs. IsBook (keys_of entries) xs journal') (sym (states_set entries i new))
    (book_step (keys_of entries) (values_of entries) journal journal' i old new e r at is may shown value j_is))

pub set_view : (entries : List (Key × State)) (journal journal' : List Event) (i : ℕ) (s : State) (e : Event) → journal' ≡ journal ++ e ∷ []
    → view_of (set_value_at entries i s) journal' ≡ changed (view_of entries journal) i s e
set_view entries journal journal' i s e is = λ j. record { keys = keys_set entries i s j; states = states_set entries i s j; journal = is j }

-- ---- a key that is added

-- a key that the table has not goes last
pub added_last : (entries : List (Key × State)) (key : Key) (s : State) → ((j : ℕ) → slice_get (keys_of entries) j ≡ Some key → ⊥)
    → insert_entry equal_keys entries key s ≡ entries ++ (key, s) ∷ []
added_last [] key s fresh = refl
added_last (e ∷ es) key s fresh =
    ap (λ b. if b then (e.0, s) ∷ es else e ∷ insert_entry equal_keys es key s) (not_equal key e.0 (λ h. fresh zero (ap Some (sym h))))
    ∙ ap (λ l. e ∷ l) (added_last es key s (λ j h. fresh (suc j) h))

module _ (entries entries' : List (Key × State)) (journal journal' : List Event) (key : Key) (seat n : ℕ)
    (r : IsBook (keys_of entries) (values_of entries) journal) (fresh : (j : ℕ) → slice_get (keys_of entries) j ≡ Some key → ⊥)
    (is_n : n ≡ length entries) (is : entries' ≡ insert_entry equal_keys entries key (Held seat)) (j_is : journal' ≡ journal ++ Claim seat n ∷ []) where
  entries_are : entries' ≡ entries ++ (key, Held seat) ∷ []
  entries_are = is ∙ added_last entries key (Held seat) fresh

  keys_are : keys_of entries' ≡ keys_of entries ++ key ∷ []
  keys_are = ap keys_of entries_are ∙ map-append (λ e. e.0) entries ((key, Held seat) ∷ [])

  states_are : values_of entries' ≡ values_of entries ++ Held seat ∷ []
  states_are = ap values_of entries_are ∙ map-append (λ e. e.1) entries ((key, Held seat) ∷ [])

  journal_is : journal' ≡ journal ++ Claim seat (length (keys_of entries)) ∷ []
  journal_is = j_is ∙ ap (λ m. journal ++ Claim seat m ∷ []) (is_n ∙ sym (length-map entries (λ e. e.0)))

  pub added_book : IsBook (keys_of entries') (values_of entries') journal'
  added_book =
      subst (λ z. IsBook z (values_of entries') journal') (sym keys_are)
      (subst (λ z. IsBook (keys_of entries ++ key ∷ []) z journal') (sym states_are)
      (subst (λ z. IsBook (keys_of entries ++ key ∷ []) (values_of entries ++ Held seat ∷ []) z) (sym journal_is)
      (book_more (keys_of entries) (values_of entries) journal key seat r fresh)))

  pub added_count : (h : ℕ) → h ≡ held_count (values_of entries) → h + 1 ≡ held_count (values_of entries')
  added_count h e = ap (λ z. z + 1) e ∙ sym (ap held_count states_are ∙ count_push (values_of entries) (Held seat))

  pub added_length : length entries' ≡ length entries + 1
  added_length = ap (λ (l : List (Key × State)). length l) entries_are ∙ length-append entries ((key, Held seat) ∷ [])

  pub added_view : view_of entries' journal' ≡ extended (view_of entries journal) key seat
  added_view = λ j. record { keys = keys_are j; states = states_are j; journal = journal_is j }
