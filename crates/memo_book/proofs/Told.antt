-- What a book's answers say of its history.
use Rattle.std.proofs.Common.{◌≡◌, ◌≢◌, ◌⊎◌, inl, inr, ⊎_elim, ℕ, ◌<◌, length, true, false, List, [], ◌∷◌, ◌++◌, refl, ap, sym, ◌∙◌, subst, Option, Some, None, slice_get}
use Rattle.std.specs.Prelude.{Result, Ok, Err, if◌then◌else◌}
use Rattle.std.specs.declared.alloc.AllocError.{AllocError}
use Rattle.std.proofs.lemmas.Bool.{ne_eqb}
use Rattle.std.proofs.lemmas.List.{append-nil}
use Rattle.std.proofs.lemmas.List.Elements.{All-nil}
use Rattle.std.proofs.lemmas.Option.{slice_get_within}
use Rattle.oracle_iface.specs.Board.{unclaimed, held, published}
use Rattle.oracle_iface.specs.Histories.{IsUnclaimed, IsHeld, IsPublished, is_full, entry}
use Rattle.oracle_iface.specs.Memos.{Steps, IsClaimed, IsLooked, Anything}
use Rattle.oracle_iface.specs.declared.cell_values.CellValue.{CellValue}
use Rattle.oracle_iface.specs.declared.entries.Act.{Act}
use Rattle.oracle_iface.specs.declared.entries.Act.TheVariants.{Claims}
use Rattle.oracle_iface.specs.declared.entries.Entry.{Entry}
use Rattle.oracle_iface.specs.declared.keys.Key.{Key}
use Rattle.oracle_iface.specs.declared.memo.Claim.{Claim as Answer}
use Rattle.oracle_iface.specs.declared.memo.Claim.TheVariants.{Granted, Present, Busy, Full}
use Rattle.core_board.specs.declared.events.Event.{Event}
use Rattle.core_board.specs.declared.events.Event.TheVariants.{Claim}
use Rattle.memo_book.specs.Books as books
use Rattle.memo_book.specs.Books.{BookView, IsBook, Ends, Looks, Stands, IsNew, TakesOld, TakesNew, changed, extended}
use Rattle.memo_book.specs.Histories.{key_at, entry_of, history, front}
use Rattle.memo_book.specs.declared.book.State.{State}
use Rattle.memo_book.specs.declared.book.State.TheVariants.{Unclaimed, Held, Published}
use Rattle.memo_book.proofs.Bridge.{at, look_for, inside_of, legal_history, slot_there, slot_absent, read_more, history_push}
use Rattle.memo_book.proofs.Known.{full_there, room_there, known_there}
use Rattle.memo_book.proofs.Lists.{got, got_end}

-- the fronts of other shards stay empty
other_fronts : (b new : BookView) (shard : ℕ) → shard ≢ 0 → front new shard ≡ front b shard
other_fronts b new shard ne = ap (λ t. if t then history new else []) (ne_eqb shard 0 ne) ∙ sym (ap (λ t. if t then history b else []) (ne_eqb shard 0 ne))

module _ (b new : BookView) (key : Key) (shows : List Entry → Type 0) (shown : shows (history b)) (r : IsBook new.keys new.states new.journal) where
  steps_by : (own : List Entry) → history new ≡ history b ++ own → Steps 0 0 (Some (front b)) (Some (front new)) shows own
  steps_by own is = (
    record {
      others = [];
      apart = All-nil (λ (e : Entry). e.seat ≢ 0);
      shown = subst shows (sym (append-nil (history b))) shown;
      grown = is ∙ ap (λ z. z ++ own) (sym (append-nil (history b)));
      legal = legal_history new r;
    },
    other_fronts b new,
  )

  pub steps_same : new ≡ b → Steps 0 0 (Some (front b)) (Some (front new)) shows []
  steps_same is = steps_by [] (ap history is ∙ sym (append-nil (history b)))

  pub steps_changed : (i : ℕ) (s : State) (e : Event) (own : List Entry) → new ≡ changed b i s e → entry_of b.keys e ∷ [] ≡ own
      → Steps 0 0 (Some (front b)) (Some (front new)) shows own
  steps_changed i s e own is e_is = steps_by own (ap history is ∙ (history_push b.keys b.journal e ∙ ap (λ z. history b ++ z) e_is))

  pub steps_extended : (seat : ℕ) → IsBook b.keys b.states b.journal → new ≡ extended b key seat
      → Steps 0 0 (Some (front b)) (Some (front new)) shows (entry Claims seat key)
  steps_extended seat old is =
      steps_by (entry Claims seat key)
      (ap history is
      ∙ (history_push (b.keys ++ key ∷ []) b.journal (Claim seat (length b.keys))
      ∙ (ap (λ z. z ++ entry_of (b.keys ++ key ∷ []) (Claim seat (length b.keys)) ∷ []) (read_more b.keys (key ∷ []) b.journal (inside_of b old))
      ∙ ap (λ k. history b ++ entry Claims seat k) (at (b.keys ++ key ∷ []) (length b.keys) key (got_end b.keys [] key)))))

module _ (b new : BookView) (key : Key) (r0 : IsBook b.keys b.states b.journal) (r : IsBook new.keys new.states new.journal) where
  granted : TakesOld b new key 0 ⊎ TakesNew b new key 0
      → Steps 0 0 (Some (front b)) (Some (front new)) (λ h. IsUnclaimed h key × (is_full h key ≡ false)) (entry Claims 0 key)
  granted (inl p) =
      steps_changed b new key (λ h. IsUnclaimed h key × (is_full h key ≡ false))
      (slot_there b p.0 key Unclaimed r0 p.1.0 p.1.1, known_there b key p.0 r0 p.1.0) r p.0 (Held 0) (Claim 0 p.0) (entry Claims 0 key) p.2
      (ap (λ k. entry Claims 0 k) (at b.keys p.0 key p.1.0))
  granted (inr p) =
      steps_extended b new key (λ h. IsUnclaimed h key × (is_full h key ≡ false)) (slot_absent b key r0 p.0, room_there b key r0 p.1) r 0 r0 p.2

  pub told_claim : (answer : Result Answer AllocError) → books.Claims b new key 0 answer → IsClaimed 0 0 key (Some (front b)) (Some (front new)) answer
  told_claim (Ok (Granted t)) c = (c.0, c.1, granted c.2)
  told_claim (Ok (Present v)) c = (
    r0.right c.0.0 (Published v) key c.0.1.1 c.0.1.0 v refl,
    steps_same b new key (λ h. IsPublished h key) (slot_there b c.0.0 key (Published v) r0 c.0.1.0 c.0.1.1) r c.1,
  )
  told_claim (Ok (Busy s)) c = steps_same b new key (λ h. IsHeld h key s) (slot_there b c.0.0 key (Held s) r0 c.0.1.0 c.0.1.1) r c.1
  told_claim (Ok (Full n)) c =
      (c.0, steps_same b new key (λ h. IsUnclaimed h key × (is_full h key ≡ true)) (slot_absent b key r0 c.2, full_there b key r0 c.1 c.2) r c.3)
  told_claim (Err e) c = steps_same b new key Anything tt r c

  state_there : (i : ℕ) → slice_get b.keys i ≡ Some key → (s : State) × (slice_get b.states i ≡ Some s)
  state_there i e = got b.states i (subst (λ n. i < n) (sym r0.sized) (slice_get_within b.keys i key e))

  -- a key that the history shows held stands so in the book
  held_there : (seat : ℕ) → IsHeld (history b) key seat → (i : ℕ) × Stands b key i (Held seat)
  held_there seat h =
      ⊎_elim (λ (p : (i : ℕ) × (slice_get b.keys i ≡ Some key)). (let s = state_there p.0 p.1 in (p.0, (p.1, of_state p.0 s.0 s.1 (sym (slot_there b p.0 key s.0 r0 p.1 s.1) ∙ h)))))
      (λ (p : (i : ℕ) → slice_get b.keys i ≡ Some key → ⊥). absurd (apart (sym (slot_absent b key r0 p) ∙ h))) (look_for b.keys key)
    where
      apart : unclaimed ≡ held seat → ⊥
      apart e = cc e

      of_state : (i : ℕ) (s : State) → slice_get b.states i ≡ Some s → books.slot_of s ≡ held seat → slice_get b.states i ≡ Some (Held seat)
      of_state i Unclaimed is e = absurd (apart e)
      of_state i (Held s) is e = is ∙ ap (λ n. Some (Held n)) (number e)
        where
          number : held s ≡ held seat → s ≡ seat
          number e = cc e
      of_state i (Published v) is e = absurd (cc e)

  pub told_end : (s : State) (act : Act) (event : ℕ → ℕ → Event)
      → ((i n : ℕ) → entry_of b.keys (event n i) ∷ [] ≡ entry act n (key_at b.keys i)) → (seat : ℕ) → seat ≡ 0 → IsHeld (history b) key 0
      → Ends b new key seat s (event seat) → Steps 0 0 (Some (front b)) (Some (front new)) (λ h. IsHeld h key 0) (entry act 0 key)
  told_end s act event reads seat zero_is h ends = by (subst (λ n. Ends b new key n s (event n)) zero_is ends)
    where
      by : Ends b new key 0 s (event 0) → Steps 0 0 (Some (front b)) (Some (front new)) (λ h. IsHeld h key 0) (entry act 0 key)
      by (inl p) =
          steps_changed b new key (λ h. IsHeld h key 0) h r p.0 s (event 0 p.0) (entry act 0 key) p.2
          (reads p.0 0 ∙ ap (λ k. entry act 0 k) (at b.keys p.0 key p.1.0))
      by (inr p) = let there = held_there 0 h in absurd (p.0 there.0 there.1)

pub told_look : (b : BookView) (key : Key) (r : IsBook b.keys b.states b.journal) (answer : Result (Option CellValue) AllocError)
    → Looks b key answer → IsLooked 0 0 key (Some (front b)) (Some (front b)) answer
told_look b key r (Ok (Some v)) c =
    (r.right c.0 (Published v) key c.1.1 c.1.0 v refl, steps_same b b key (λ h. IsPublished h key) (slot_there b c.0 key (Published v) r c.1.0 c.1.1) r refl)
told_look b key r (Ok None) c = steps_same b b key (λ h. IsPublished h key → ⊥) not_there r refl
  where
    of_state : (i : ℕ) → slice_get b.keys i ≡ Some key → (s : State) → slice_get b.states i ≡ Some s → books.slot_of s ≡ published → ⊥
    of_state i e Unclaimed is h = cc h
    of_state i e (Held s) is h = cc h
    of_state i e (Published v) is h = c i v (e, is)

    not_there : IsPublished (history b) key → ⊥
    not_there h =
        ⊎_elim (λ (p : (i : ℕ) × (slice_get b.keys i ≡ Some key)). (let s = state_there b b key r r p.0 p.1 in of_state p.0 p.1 s.0 s.1 (sym (slot_there b p.0 key s.0 r p.1 s.1) ∙ h)))
        (λ (p : (i : ℕ) → slice_get b.keys i ≡ Some key → ⊥). cc (sym (slot_absent b key r p) ∙ h)) (look_for b.keys key)
told_look b key r (Err e) c = steps_same b b key Anything tt r refl
