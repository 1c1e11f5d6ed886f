-- What a step of a memo does to the history that it changes.
use Rattle.std.proofs.Common.{◌≡◌, ◌≢◌, ℕ, Bool, true, List, [], ◌++◌, sym, ◌∙◌, ap, subst, refl, inl, inr}
use Rattle.std.proofs.lemmas.List.{append-nil, append_assoc}
use Rattle.std.proofs.lemmas.List.Elements.{Contains-append_cases, All-contains}
use Rattle.std.specs.Prelude.{Contains, ◌⊎◌, ◌↔◌, if◌then◌else◌}
use Rattle.oracle_iface.specs.Board.{unclaimed, held, after_act}
use Rattle.oracle_iface.specs.KeyOrder.{same_key}
use Rattle.oracle_iface.specs.Histories.{board_act, slot_of, legal_from, IsHeld, IsPublished, entry}
use Rattle.oracle_iface.specs.Memos.{Grows}
use Rattle.oracle_iface.specs.declared.entries.Act.{Act}
use Rattle.oracle_iface.specs.declared.entries.Entry.{Entry}
use Rattle.oracle_iface.specs.declared.keys.Key.{Key}
use Rattle.oracle_iface.proofs.OneKey.{same_self}
use Rattle.force_engine.specs.Fronts.{HoldsTheSame}
use Rattle.force_engine.proofs.Boards.{others_back, others_keep, slot_append, legal_left, legal_right, stays_published, not_same}

-- one entry on another key, and on the key itself
apart : (h : List Entry) (act : Act) (seat : ℕ) (key k : Key) → (k ≡ key → ⊥) → slot_of (h ++ entry act seat key) k ≡ slot_of h k
apart h act seat key k n =
    slot_append unclaimed h (entry act seat key) k
    ∙ ap (λ (b : Bool). if b then after_act (board_act act) seat else slot_of h k) (not_same key k n (same_key key k) refl)

here : (h : List Entry) (act : Act) (seat : ℕ) (key : Key) → slot_of (h ++ entry act seat key) key ≡ after_act (board_act act) seat
here h act seat key =
    slot_append unclaimed h (entry act seat key) key
    ∙ ap (λ (b : Bool). if b then after_act (board_act act) seat else slot_of h key) (same_self key)

module _ (seat : ℕ) (h n : List Entry) (shows : List Entry → Type 0) (own : List Entry) (g : Grows seat h n shows own) where
  pub all_grown : n ≡ h ++ (g.others ++ own)
  all_grown = g.grown ∙ append_assoc h g.others own

  pub all_legal : (k : Key) → legal_from (slot_of h k) (g.others ++ own) k ≡ true
  all_legal k = legal_right unclaimed h (g.others ++ own) k (subst (λ (z : List Entry). legal_from unclaimed z k ≡ true) all_grown (g.legal k))

  others_legal : (k : Key) → legal_from (slot_of h k) g.others k ≡ true
  others_legal k = legal_left (slot_of h k) g.others own k (all_legal k)

  -- what was published is so before the own entries
  pub was_there : (k : Key) → IsPublished h k → IsPublished (h ++ g.others) k
  was_there k is = slot_append unclaimed h g.others k ∙ stays_published (slot_of h k) g.others k (others_legal k) is

  among : (k : Key) → IsHeld h k seat → IsHeld (h ++ g.others) k seat
  among k is = slot_append unclaimed h g.others k ∙ others_keep seat (slot_of h k) g.others k g.apart (others_legal k) is

  pub among_back : (k : Key) → IsHeld (h ++ g.others) k seat → IsHeld h k seat
  among_back k is = others_back seat (slot_of h k) g.others k g.apart (sym (slot_append unclaimed h g.others k) ∙ is)

  -- what stands among the entries that were added and is of the seat is its own
  pub is_own : (e : Entry) → e.seat ≡ seat → Contains (g.others ++ own) e → Contains own e
  is_own e mine there = by_side (Contains-append_cases g.others own e there)
    where
      by_side : Contains g.others e ⊎ Contains own e → Contains own e
      by_side (inl x) = absurd (All-contains (λ (y : Entry). y.seat ≢ seat) g.others e g.apart x mine)
      by_side (inr x) = x

-- a step with no entry of its own
pub at_end : (seat : ℕ) (h n : List Entry) (shows : List Entry → Type 0) (g : Grows seat h n shows []) → n ≡ h ++ g.others
at_end seat h n shows g = g.grown ∙ append-nil (h ++ g.others)

pub quiet_shown : (seat : ℕ) (h n : List Entry) (shows : List Entry → Type 0) → Grows seat h n shows [] → shows n
quiet_shown seat h n shows g = subst shows (sym (at_end seat h n shows g)) g.shown

pub quiet_holds : (seat : ℕ) (h n : List Entry) (shows : List Entry → Type 0) → Grows seat h n shows [] → HoldsTheSame seat h n
quiet_holds seat h n shows g k = (
  (λ x. subst (λ (l : List Entry). IsHeld l k seat) (sym (at_end seat h n shows g)) (among seat h n shows [] g k x)),
  λ x. among_back seat h n shows [] g k (subst (λ (l : List Entry). IsHeld l k seat) (at_end seat h n shows g) x),
)

-- a step with one entry of its own
module _ (seat : ℕ) (act : Act) (key : Key) (h n : List Entry) (shows : List Entry → Type 0) (g : Grows seat h n shows (entry act seat key)) where
  pub own_here : slot_of n key ≡ after_act (board_act act) seat
  own_here = subst (λ (l : List Entry). slot_of l key ≡ after_act (board_act act) seat) (sym g.grown) (here (h ++ g.others) act seat key)

  pub own_beside : (k : Key) → (k ≡ key → ⊥) → IsHeld h k seat ↔ IsHeld n k seat
  own_beside k other = (
    (λ x. subst (λ (l : List Entry). IsHeld l k seat) (sym g.grown)
        (apart (h ++ g.others) act seat key k other ∙ among seat h n shows (entry act seat key) g k x)),
    λ x. among_back seat h n shows (entry act seat key) g k
        (sym (apart (h ++ g.others) act seat key k other) ∙ subst (λ (l : List Entry). IsHeld l k seat) g.grown x),
  )

  -- after its own publication or release it holds the key no more
  pub own_ends : (after_act (board_act act) seat ≡ held seat → ⊥) → (k : Key) → IsHeld n k seat → k ≡ key → ⊥
  own_ends frees k x e = frees (sym own_here ∙ subst (λ (z : Key). IsHeld n z seat) e x)
