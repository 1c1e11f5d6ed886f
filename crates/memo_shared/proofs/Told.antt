-- What a book's answers say of its history, for any seat, and of a front that the history begins with.
use Rattle.std.proofs.Common.{◌≡◌, ◌⊎◌, inl, inr, ⊎_elim, ℕ, ◌<◌, length, true, false, List, [], ◌∷◌, ◌++◌, refl, ap, sym, ◌∙◌, subst, Option, Some, None, slice_get}
use Rattle.std.specs.Prelude.{Result, Ok, Err}
use Rattle.std.specs.declared.alloc.AllocError.{AllocError}
use Rattle.std.proofs.lemmas.List.{append-nil}
use Rattle.std.proofs.lemmas.Option.{slice_get_within}
use Rattle.oracle_iface.specs.Board.{unclaimed, held, published}
use Rattle.oracle_iface.specs.Histories.{IsLegal, IsUnclaimed, IsHeld, IsPublished, is_full, entry}
use Rattle.oracle_iface.specs.Memos.{Anything}
use Rattle.oracle_iface.specs.declared.cell_values.CellValue.{CellValue}
use Rattle.oracle_iface.specs.declared.entries.Act.{Act}
use Rattle.oracle_iface.specs.declared.entries.Act.TheVariants.{Claims}
use Rattle.oracle_iface.specs.declared.entries.Entry.{Entry}
use Rattle.oracle_iface.specs.declared.keys.Key.{Key}
use Rattle.oracle_iface.specs.declared.memo.Claim.{Claim as Answer}
use Rattle.oracle_iface.specs.declared.memo.Claim.TheVariants.{Granted, Present, Busy, Full}
use Rattle.core_board.specs.declared.events.Event.{Event}
use Rattle.core_board.specs.declared.events.Event.TheVariants.{Claim}
use Rattle.memo_book.specs.Books as books
use Rattle.memo_book.specs.Books.{BookView, IsBook, Ends, Looks, Stands, IsNew, TakesOld, TakesNew, changed, extended}
use Rattle.memo_book.specs.Histories.{key_at, entry_of, history}
use Rattle.memo_book.specs.declared.book.State.{State}
use Rattle.memo_book.specs.declared.book.State.TheVariants.{Unclaimed, Held, Published}
use Rattle.memo_book.proofs.Bridge.{at, look_for, inside_of, legal_history, slot_there, slot_absent, read_more, history_push}
use Rattle.memo_book.proofs.Known.{full_there, room_there, known_there}
use Rattle.memo_book.proofs.Lists.{got, got_end}
use Rattle.memo_shared.specs.Answers.{IsClaimedBy, IsLookedBy}

-- the owner of an entry
abbrev pub by : Entry → ℕ
by e = e.seat

-- ---- the book's own step

-- its history, of which this was shown, has grown by these entries
pub record Grown (b new : BookView) (shows : List Entry → Type 0) (own : List Entry) : Type 0 where
  pub shown : shows (history b)
  pub grown : history new ≡ history b ++ own
  pub legal : IsLegal (history new)

module _ (b new : BookView) (key : Key) (shows : List Entry → Type 0) (shown : shows (history b)) (r : IsBook new.keys new.states new.journal) where
  grown_by : (own : List Entry) → history new ≡ history b ++ own → Grown b new shows own
  grown_by own is = record { shown = shown; grown = is; legal = legal_history new r }

  grown_same : new ≡ b → Grown b new shows []
  grown_same is = grown_by [] (ap history is ∙ sym (append-nil (history b)))

  grown_changed : (i : ℕ) (s : State) (e : Event) (own : List Entry) → new ≡ changed b i s e → entry_of b.keys e ∷ [] ≡ own → Grown b new shows own
  grown_changed i s e own is e_is = grown_by own (ap history is ∙ (history_push b.keys b.journal e ∙ ap (λ z. history b ++ z) e_is))

  grown_extended : (seat : ℕ) → IsBook b.keys b.states b.journal → new ≡ extended b key seat → Grown b new shows (entry Claims seat key)
  grown_extended seat old is =
      grown_by (entry Claims seat key)
      (ap history is
      ∙ (history_push (b.keys ++ key ∷ []) b.journal (Claim seat (length b.keys))
      ∙ (ap (λ z. z ++ entry_of (b.keys ++ key ∷ []) (Claim seat (length b.keys)) ∷ []) (read_more b.keys (key ∷ []) b.journal (inside_of b old))
      ∙ ap (λ k. history b ++ entry Claims seat k) (at (b.keys ++ key ∷ []) (length b.keys) key (got_end b.keys [] key)))))

module _ (b new : BookView) (key : Key) (r0 : IsBook b.keys b.states b.journal) (r : IsBook new.keys new.states new.journal) where
  granted : (seat : ℕ) → TakesOld b new key seat ⊎ TakesNew b new key seat → Grown b new (λ h. IsUnclaimed h key × (is_full h key ≡ false)) (entry Claims seat key)
  granted seat (inl p) =
      grown_changed b new key (λ h. IsUnclaimed h key × (is_full h key ≡ false))
      (slot_there b p.0 key Unclaimed r0 p.1.0 p.1.1, known_there b key p.0 r0 p.1.0) r p.0 (Held seat) (Claim seat p.0) (entry Claims seat key) p.2
      (ap (λ k. entry Claims seat k) (at b.keys p.0 key p.1.0))
  granted seat (inr p) =
      grown_extended b new key (λ h. IsUnclaimed h key × (is_full h key ≡ false)) (slot_absent b key r0 p.0, room_there b key r0 p.1) r seat r0 p.2

  pub told_claim : (seat : ℕ) (answer : Result Answer AllocError) → books.Claims b new key seat answer → IsClaimedBy seat key (Grown b new) answer
  told_claim seat (Ok (Granted t)) c = (c.0, c.1, granted seat c.2)
  told_claim seat (Ok (Present v)) c = (
    r0.right c.0.0 (Published v) key c.0.1.1 c.0.1.0 v refl,
    grown_same b new key (λ h. IsPublished h key) (slot_there b c.0.0 key (Published v) r0 c.0.1.0 c.0.1.1) r c.1,
  )
  told_claim seat (Ok (Busy s)) c = grown_same b new key (λ h. IsHeld h key s) (slot_there b c.0.0 key (Held s) r0 c.0.1.0 c.0.1.1) r c.1
  told_claim seat (Ok (Full n)) c =
      (c.0, grown_same b new key (λ h. IsUnclaimed h key × (is_full h key ≡ true)) (slot_absent b key r0 c.2, full_there b key r0 c.1 c.2) r c.3)
  told_claim seat (Err e) c = grown_same b new key Anything tt r c

  state_there : (i : ℕ) → slice_get b.keys i ≡ Some key → (s : State) × (slice_get b.states i ≡ Some s)
  state_there i e = got b.states i (subst (λ n. i < n) (sym r0.sized) (slice_get_within b.keys i key e))

  -- a key that the history shows held stands so in the book
  held_there : (seat : ℕ) → IsHeld (history b) key seat → (i : ℕ) × Stands b key i (Held seat)
  held_there seat h =
      ⊎_elim (λ (p : (i : ℕ) × (slice_get b.keys i ≡ Some key)). (let s = state_there p.0 p.1 in (p.0, (p.1, of_state p.0 s.0 s.1 (sym (slot_there b p.0 key s.0 r0 p.1 s.1) ∙ h)))))
      (λ (p : (i : ℕ) → slice_get b.keys i ≡ Some key → ⊥). absurd (apart (sym (slot_absent b key r0 p) ∙ h))) (look_for b.keys key)
    where
      apart : unclaimed ≡ held seat → ⊥
      apart e = cc e

      of_state : (i : ℕ) (s : State) → slice_get b.states i ≡ Some s → books.slot_of s ≡ held seat → slice_get b.states i ≡ Some (Held seat)
      of_state i Unclaimed is e = absurd (apart e)
      of_state i (Held s) is e = is ∙ ap (λ n. Some (Held n)) (number e)
        where
          number : held s ≡ held seat → s ≡ seat
          number e = cc e
      of_state i (Published v) is e = absurd (cc e)

  pub told_end : (s : State) (act : Act) (event : ℕ → ℕ → Event)
      → ((i n : ℕ) → entry_of b.keys (event n i) ∷ [] ≡ entry act n (key_at b.keys i)) → (seat : ℕ) → IsHeld (history b) key seat
      → Ends b new key seat s (event seat) → Grown b new (λ h. IsHeld h key seat) (entry act seat key)
  told_end s act event reads seat h (inl p) =
      grown_changed b new key (λ h. IsHeld h key seat) h r p.0 s (event seat p.0) (entry act seat key) p.2
      (reads p.0 seat ∙ ap (λ k. entry act seat k) (at b.keys p.0 key p.1.0))
  told_end s act event reads seat h (inr p) = let there = held_there seat h in absurd (p.0 there.0 there.1)

pub told_look : (b : BookView) (key : Key) (r : IsBook b.keys b.states b.journal) (answer : Result (Option CellValue) AllocError)
    → Looks b key answer → IsLookedBy key (Grown b b) answer
told_look b key r (Ok (Some v)) c =
    (r.right c.0 (Published v) key c.1.1 c.1.0 v refl, grown_same b b key (λ h. IsPublished h key) (slot_there b c.0 key (Published v) r c.1.0 c.1.1) r refl)
told_look b key r (Ok None) c = grown_same b b key (λ h. IsPublished h key → ⊥) not_there r refl
  where
    of_state : (i : ℕ) → slice_get b.keys i ≡ Some key → (s : State) → slice_get b.states i ≡ Some s → books.slot_of s ≡ published → ⊥
    of_state i e Unclaimed is h = cc h
    of_state i e (Held s) is h = cc h
    of_state i e (Published v) is h = c i v (e, is)

    not_there : IsPublished (history b) key → ⊥
    not_there h =
        ⊎_elim (λ (p : (i : ℕ) × (slice_get b.keys i ≡ Some key)). (let s = state_there b b key r r p.0 p.1 in of_state p.0 p.1 s.0 s.1 (sym (slot_there b p.0 key s.0 r p.1 s.1) ∙ h)))
        (λ (p : (i : ℕ) → slice_get b.keys i ≡ Some key → ⊥). cc (sym (slot_absent b key r p) ∙ h)) (look_for b.keys key)
told_look b key r (Err e) c = grown_same b b key Anything tt r refl

-- a book as it was
pub grown_none : (b : BookView) → IsBook b.keys b.states b.journal → Grown b b Anything []
grown_none b r = record { shown = tt; grown = sym (append-nil (history b)); legal = legal_history b r }
