-- The rule of the table: what holds of the three words, of the slot and of all views between any two steps.
-- It is that of a ticket lock (Mellor-Crummey and Scott, Algorithms for Scalable Synchronization on Shared-Memory Multiprocessors, 1991), with the history of the value that the lock guards and what each pass has seen of it.
-- The number of a view is its place among the views. The view at place 0 is that of the first pass, and a view that was joined into it is spent.
-- A worked value: of three passes the one of number 1 is inside, with ticket 5 and an entry to add, and the one of number 2 waits with ticket 6.
-- Then the words are 7, 5 and the length of the history, no value is at home, and the front of number 1 is the whole history.
use Rattle.std.specs.Prelude.{◌≡◌, ◌≢◌, ◌⊎◌, ℕ, ◌+◌, ◌%◌, ◌^◌, ◌<◌, ◌≤◌, ◌==◌, Bool, true, false, List, [], ◌∷◌, length, count_by, filter, Option, Some}
use mathlib.Core.Option.{some, none}
use mathlib.Core.Option as maybe
use mathlib.Core.List.{IsPrefix}
use lib.ListN.{get_elem?}
use Rattle.atomic_table.specs.Table.{State}
use Rattle.turnstile.specs.declared.rule.View.{View}
use Rattle.turnstile.specs.declared.rule.Kept.{Kept}
use Rattle.turnstile.specs.declared.rule.Stage.{Stage}
use Rattle.turnstile.specs.declared.rule.Stage.TheVariants.{Outside, Waiting, Inside, Put, Spent}

-- the pass has a ticket that was not served
abbrev pub has_ticket : Stage → Bool
has_ticket Outside = false
has_ticket Waiting = true
has_ticket Inside = true
has_ticket Put = true
has_ticket Spent = false

-- the pass has the slot
abbrev pub is_inside : Stage → Bool
is_inside Outside = false
is_inside Waiting = false
is_inside Inside = true
is_inside Put = true
is_inside Spent = false

abbrev pub queues : {E : Type 0} → View E → Bool
queues v = has_ticket v.stage

-- the view of the first pass as the turnstile is made
abbrev pub first_view : {E : Type 0} → View E
first_view = record { stage = Outside; number = 0; made = 1; ticket = 0; front = []; found = []; kept = [] }

-- the entries of a history that the pass of this number owns
abbrev pub owned : {E : Type 0} → (E → ℕ) → ℕ → List E → List E
owned owner k log = filter (λ e. owner e == k) log

-- the history begins with the front, and the entries in it that the pass of number k owns are those in the front
abbrev pub Fits : {E : Type 0} → (E → ℕ) → List E → ℕ → List E → Type 0
Fits owner log k front = IsPrefix front log × (owned owner k log ≡ owned owner k front)

abbrev pub Homes : Type 0 → Type 0
Homes B = List (maybe.Option (Option B))

-- what holds of the view that stands at the place j
pub record Stands {B E : Type 0} (owner : E → ℕ) (served drawn passes : ℕ) (log : List E) (homes : Homes B) (j : ℕ) (v : View E) : Type 0 where
  -- so the numbers of two views differ, and are below the number of passes made
  pub number : v.stage ≢ Spent → v.number ≡ j
  -- its front begins the history, which has no other entry of this pass
  pub fits : v.stage ≢ Spent → Fits owner log j v.front
  -- a ticket that it has is one of those from the one served up to the next to be drawn
  pub in_line : has_ticket v.stage ≡ true → (served ≤ v.ticket) × (v.ticket < drawn)
  -- who is inside has the ticket that is served, and the slot is out
  pub in_turn : is_inside v.stage ≡ true → (v.ticket ≡ served) × (homes ≡ none ∷ [])
  -- who came in found the whole history
  pub found : v.stage ≡ Inside → v.found ≡ log
  -- who stored the count has seen the whole history
  pub put : v.stage ≡ Put → v.front ≡ log
  -- the first view is never spent, and counts the passes made
  pub counts : j ≡ 0 → (v.stage ≢ Spent) × (v.made ≡ passes)

-- the tickets drawn and served are counted without end here, and modulo 2 ^ 64 in the words; each view that was made is among the views, so their number is that of the passes made
pub record Turns {B E : Type 0} (history : B → List E) (owner : E → ℕ) (s : State (Option B) (View E)) : Type 0 where
  pub drawn : ℕ
  pub served : ℕ
  pub log : List E
  -- the words are the next ticket, the ticket served and the length of the history
  pub words : s.words ≡ (drawn % 2 ^ 64) ∷ (served % 2 ^ 64) ∷ (length log) ∷ []
  -- the tickets from the one served up to the next are as many as the views that have one
  pub as_many : drawn ≡ served + count_by queues s.views
  -- each of them is drawn by a view
  pub drawn_by : (t : ℕ) → served ≤ t → t < drawn → (j : ℕ) × (v : View E) × (get_elem? s.views j ≡ some v) × (queues v ≡ true) × (v.ticket ≡ t)
  -- and by one alone
  pub apart : (i j : ℕ) (v w : View E) → get_elem? s.views i ≡ some v → get_elem? s.views j ≡ some w → queues v ≡ true → queues w ≡ true → v.ticket ≡ w.ticket → i ≡ j
  pub few : length s.views ≤ 65536
  pub some_view : 0 < length s.views
  pub each : (j : ℕ) (v : View E) → get_elem? s.views j ≡ some v → Stands owner served drawn (length s.views) log s.homes j v
  -- a number that is not made yet owns no entry
  pub strangers : (k : ℕ) → length s.views ≤ k → owned owner k log ≡ []
  -- the first view keeps the number and the front of each view that was joined into it, which is spent
  pub all_kept : (k : ℕ) (w v : View E) → get_elem? s.views k ≡ some w → w.stage ≡ Spent → get_elem? s.views 0 ≡ some v → (i : ℕ) × (q : Kept E) × (get_elem? v.kept i ≡ some q) × (q.number ≡ k)
  -- a front that is kept begins the history, which has no other entry of that number; and the number is that of a spent view, so it was made and is no other view's
  pub kept : (v : View E) (i : ℕ) (q : Kept E) → get_elem? s.views 0 ≡ some v → get_elem? v.kept i ≡ some q → Fits owner log q.number q.front × ((w : View E) × (get_elem? s.views q.number ≡ some w) × (w.stage ≡ Spent))
  -- the numbers that are kept differ
  pub differ : (v : View E) (i j : ℕ) (q q' : Kept E) → get_elem? s.views 0 ≡ some v → get_elem? v.kept i ≡ some q → get_elem? v.kept j ≡ some q' → q.number ≡ q'.number → i ≡ j
  -- the value is at home, with this history, or some pass is inside
  pub home : ((b : B) × (s.homes ≡ some (Some b) ∷ []) × (history b ≡ log)) ⊎ ((j : ℕ) × (v : View E) × (get_elem? s.views j ≡ some v) × (is_inside v.stage ≡ true))
