-- What is shown of all shards: ways join, and what the steps of a memo do.
use Rattle.std.proofs.Common.{◌≡◌, ◌≢◌, ℕ, zero, suc, ◌<◌, Bool, true, false, eqb, eqb→eq, eq-eqb, List, [], sym, ◌∙◌, ap, subst, refl, arith}
use lib.Dec.{T}
use Rattle.std.specs.Prelude.{Contains, ◌↔◌, slice_index_or}
use Rattle.oracle_iface.specs.Board.{held}
use Rattle.oracle_iface.specs.Histories.{IsHeld, IsUnclaimed, is_full, entry}
use Rattle.oracle_iface.specs.declared.entries.Act.{Act}
use Rattle.oracle_iface.specs.declared.entries.Act.TheVariants.{Claims, Publishes, Releases}
use Rattle.oracle_iface.specs.declared.entries.Entry.{Entry}
use Rattle.oracle_iface.specs.declared.keys.Key.{Key}
use Rattle.force_engine.specs.Fronts.{Told, IsFree, IsFreeBelow, HoldsTheSame, key_rank}
use Rattle.force_engine.specs.Settled.{doing, WasHeld, WasFull, was_held, was_full, by_holder, by_full}
use Rattle.force_engine.specs.Ways.{HasValue, Extends, IsSettledAt, NeedsSettled, Went, WasBegunAt}
use Rattle.force_engine.proofs.Fronts.{Step}
use Rattle.force_engine.proofs.Histories.{among_back, quiet_shown, quiet_holds, own_here, own_beside}
use Rattle.force_engine.proofs.Settling.{nothing_in, settled_left, settled_right, begun_right, extends_self, extends_by, extends_both, at_itself}

-- of one shard, and of each other
pub at_shard : (sh : ℕ) (P : ℕ → Type 0) → P sh → ((i : ℕ) → i ≢ sh → P i) → (i : ℕ) → P i
at_shard sh P one others i = by (eqb i sh) refl
  where
    by : (b : Bool) → eqb i sh ≡ b → P i
    by true e = subst P (sym (eqb→eq i sh (subst T (sym e) tt))) one
    by false e = others i (λ h. cc (sym (eq-eqb i sh h) ∙ e))

-- which keys a single entry publishes
abbrev is_publishing : Act → Bool
is_publishing Claims = false
is_publishing Publishes = true
is_publishing Releases = false

publishes_no : (act : Act) (seat : ℕ) (key k : Key) → is_publishing act ≡ false → Contains (entry act seat key) (doing Publishes seat k) → ⊥
publishes_no act seat key k not c = by_place c.0 c.1 c.2
  where
    by_place : (i : ℕ) → i < 1 → slice_index_or (entry act seat key) i (doing Publishes seat k) ≡ doing Publishes seat k → ⊥
    by_place zero lt e = cc (sym not ∙ ap (λ (z : Entry). is_publishing z.act) e)
    by_place (suc i) lt e = absurd (omega arith)

pub publishes_one : (seat : ℕ) (key k : Key) → Contains (entry Publishes seat key) (doing Publishes seat k) → key ≡ k
publishes_one seat key k c = by_place c.0 c.1 c.2
  where
    by_place : (i : ℕ) → i < 1 → slice_index_or (entry Publishes seat key) i (doing Publishes seat k) ≡ doing Publishes seat k → key ≡ k
    by_place zero lt e = ap (λ (z : Entry). z.key) e
    by_place (suc i) lt e = absurd (omega arith)

module _ (seat : ℕ) (shard : Key → ℕ) where
  -- every shard is extended
  abbrev pub ExtendsAll : (Key → Type 0) → Told → Told → Type 0
  ExtendsAll B h n = (i : ℕ) → Extends seat B (h i) (n i)

  abbrev pub Nobody : Key → Type 0
  Nobody k = ⊥

  pub step_all : (B : Key → Type 0) (sh : ℕ) (shows : List Entry → Type 0) (own : List Entry) (h n : Told)
      → ((k : Key) → Contains own (doing Publishes seat k) → HasValue k → B k) → Step seat sh shows own h n → ExtendsAll B h n
  step_all B sh shows own h n each s = at_shard sh (λ i. Extends seat B (h i) (n i)) (extends_by seat B (h sh) (n sh) shows own each s.0)
      (λ i other. subst (λ (z : List Entry). Extends seat B (h i) z) (sym (s.1 i other)) (extends_self seat B (h i)))

  quiet_all : (B : Key → Type 0) (sh : ℕ) (shows : List Entry → Type 0) (h n : Told) → Step seat sh shows [] h n → ExtendsAll B h n
  quiet_all B sh shows h n s = step_all B sh shows [] h n (λ k c has. absurd (nothing_in _ c)) s

  pub own_all : (B : Key → Type 0) (act : Act) (key : Key) (sh : ℕ) (shows : List Entry → Type 0) (h n : Told) → is_publishing act ≡ false
      → Step seat sh shows (entry act seat key) h n → ExtendsAll B h n
  own_all B act key sh shows h n not s = step_all B sh shows (entry act seat key) h n (λ k c has. absurd (publishes_no act seat key k not c)) s

  -- what the seat holds besides the key of the step
  step_beside : (act : Act) (key : Key) (sh : ℕ) (shows : List Entry → Type 0) (h n : Told) → Step seat sh shows (entry act seat key) h n
      → (k : Key) → (k ≡ key → ⊥) → (i : ℕ) → IsHeld (h i) k seat ↔ IsHeld (n i) k seat
  step_beside act key sh shows h n s k other = at_shard sh (λ i. IsHeld (h i) k seat ↔ IsHeld (n i) k seat)
      (own_beside seat act key (h sh) (n sh) shows s.0 k other)
      (λ i apart. subst (λ (z : List Entry). IsHeld (h i) k seat ↔ IsHeld z k seat) (sym (s.1 i apart)) ((λ x. x), λ x. x))

  -- ---- settled keys on longer ways

  pub at_left : (B : Key → Type 0) (key : Key) (a b c : Told) → ExtendsAll B a b → IsSettledAt seat shard key b c → IsSettledAt seat shard key a c
  at_left B key a b c w s = settled_left seat B key (a (shard key)) (b (shard key)) (c (shard key)) (w (shard key)) s

  pub at_right : (B : Key → Type 0) (key : Key) (a b c : Told) → IsSettledAt seat shard key a b → ExtendsAll B b c → IsSettledAt seat shard key a c
  at_right B key a b c s w = settled_right seat B key (a (shard key)) (b (shard key)) (c (shard key)) s (w (shard key))

  pub needs_left : (B : Key → Type 0) (key : Key) (a b c : Told) → ExtendsAll B a b → NeedsSettled seat shard key b c → NeedsSettled seat shard key a c
  needs_left B key a b c w s i d lt = at_left B _ a b c w (s i d lt)

  pub needs_right : (B : Key → Type 0) (key : Key) (a b c : Told) → NeedsSettled seat shard key a b → ExtendsAll B b c → NeedsSettled seat shard key a c
  needs_right B key a b c s w i d lt = at_right B _ a b c (s i d lt) w

  -- ---- calls of the engine, one after the other

  pub went_self : (h : Told) → Went seat shard h h
  went_self h = record { extends = λ i. extends_self seat (λ k. NeedsSettled seat shard k h h) (h i); holds = λ i k. ((λ x. x), λ x. x) }

  pub went_both : (a b c : Told) → Went seat shard a b → Went seat shard b c → Went seat shard a c
  went_both a b c x y = record {
    extends = λ i. extends_both seat (λ k. NeedsSettled seat shard k a b) (λ k. NeedsSettled seat shard k b c) (λ k. NeedsSettled seat shard k a c) (a i) (b i) (c i)
        (λ k s. needs_right (λ k. NeedsSettled seat shard k b c) k a b c s y.extends)
        (λ k s. needs_left (λ k. NeedsSettled seat shard k a b) k a b c x.extends s) (x.extends i) (y.extends i);
    holds = λ i k. ((λ z. (y.holds i k).0 ((x.holds i k).0 z)), λ z. (x.holds i k).1 ((y.holds i k).1 z));
  }

  pub quiet_went : (sh : ℕ) (shows : List Entry → Type 0) (h n : Told) → Step seat sh shows [] h n → Went seat shard h n
  quiet_went sh shows h n s = record {
    extends = quiet_all (λ k. NeedsSettled seat shard k h n) sh shows h n s;
    holds = at_shard sh (λ i. HoldsTheSame seat (h i) (n i)) (quiet_holds seat (h sh) (n sh) shows s.0)
        (λ i other. subst (λ (z : List Entry). HoldsTheSame seat (h i) z) (sym (s.1 i other)) (λ k. ((λ x. x), λ x. x)));
  }

  -- what a call that ends with r has done for its key
  pub record Turned (key : Key) (r : Bool) (h n : Told) : Type 0 where
    pub went : Went seat shard h n
    pub begun : WasBegunAt seat shard key h n
    pub settled : r ≡ true → IsSettledAt seat shard key h n

  module _ (key : Key) (a b : Told) where
    pub free_quiet : (shows : List Entry → Type 0) → IsFree seat shard key a → Step seat (shard key) shows [] a b → IsFreeBelow seat shard (key_rank key) b
    free_quiet shows free s k low x = free.lower k low (((quiet_went (shard key) shows a b s).holds (shard k) k).1 x)

    -- a key that is held by another seat
    busy_held : (holder : ℕ) → IsFree seat shard key a → Step seat (shard key) (λ h. IsHeld h key holder) [] a b → WasHeld seat key (a (shard key)) (b (shard key))
    busy_held holder free s = record {
      at = b (shard key);
      on_the_way = at_itself seat Nobody (a (shard key)) (b (shard key)) (quiet_all Nobody (shard key) (λ h. IsHeld h key holder) a b s (shard key));
      holder = holder;
      another = λ e. free.itself (among_back seat (a (shard key)) (b (shard key)) (λ h. IsHeld h key holder) [] s.0 key (s.0.shown ∙ ap held e));
      shown = quiet_shown seat (a (shard key)) (b (shard key)) (λ h. IsHeld h key holder) s.0;
    }

    -- a key that there is no room for
    full_shown : Step seat (shard key) (λ h. IsUnclaimed h key × (is_full h key ≡ true)) [] a b → WasFull key (a (shard key)) (b (shard key))
    full_shown s = record {
      at = b (shard key);
      on_the_way = at_itself seat Nobody (a (shard key)) (b (shard key)) (quiet_all Nobody (shard key) (λ h. IsUnclaimed h key × (is_full h key ≡ true)) a b s (shard key));
      shown = (quiet_shown seat (a (shard key)) (b (shard key)) (λ h. IsUnclaimed h key × (is_full h key ≡ true)) s.0).1;
    }

    module _ (c : Told) (ran : Went seat shard b c) where
      pub busy_turned : (holder : ℕ) (r : Bool) → IsFree seat shard key a → Step seat (shard key) (λ h. IsHeld h key holder) [] a b → Turned key r a c
      busy_turned holder r free s =
          let w = busy_held holder free s in record {
            went = went_both a b c (quiet_went (shard key) (λ h. IsHeld h key holder) a b s) ran;
            begun = begun_right seat (λ k. NeedsSettled seat shard k b c) key (a (shard key)) (b (shard key)) (c (shard key)) (by_holder w) (ran.extends (shard key));
            settled = λ _ok. at_right (λ k. NeedsSettled seat shard k b c) key a b c (was_held w) ran.extends;
          }

      pub full_turned : (r : Bool) → Step seat (shard key) (λ h. IsUnclaimed h key × (is_full h key ≡ true)) [] a b → Turned key r a c
      full_turned r s =
          let w = full_shown s in record {
            went = went_both a b c (quiet_went (shard key) (λ h. IsUnclaimed h key × (is_full h key ≡ true)) a b s) ran;
            begun = begun_right seat (λ k. NeedsSettled seat shard k b c) key (a (shard key)) (b (shard key)) (c (shard key)) (by_full w) (ran.extends (shard key));
            settled = λ _ok. at_right (λ k. NeedsSettled seat shard k b c) key a b c (was_full w) ran.extends;
          }

    module _ (shows : List Entry → Type 0) (claimed : Step seat (shard key) shows (entry Claims seat key) a b) where
      pub free_claimed : IsFree seat shard key a → IsFreeBelow seat shard (key_rank key) b
      free_claimed free k low x =
          let other : k ≡ key → ⊥ = λ e. (let m : ℕ = key_rank k in let n : ℕ = key_rank key in let less : m < n = low in let same : m ≡ n = ap key_rank e in omega (arith, less, same)) in
          free.lower k low ((step_beside Claims key (shard key) shows a b claimed k other (shard k)).1 x)

      pub claim_holds : IsHeld (b (shard key)) key seat
      claim_holds = own_here seat Claims key (a (shard key)) (b (shard key)) shows claimed.0
