-- A whole turn of a granted key: its claim, the calls of its rule, and the end of its ticket.
use Rattle.std.proofs.Common.{◌≡◌, ℕ, Bool, true, false, List, ◌++◌, sym, subst, refl}
use Rattle.std.proofs.lemmas.List.Elements.{Contains-push}
use Rattle.oracle_iface.specs.Board.{held, after_act}
use Rattle.oracle_iface.specs.Histories.{board_act, IsHeld, entry}
use Rattle.oracle_iface.specs.declared.entries.Act.{Act}
use Rattle.oracle_iface.specs.declared.entries.Act.TheVariants.{Claims, Publishes, Releases}
use Rattle.oracle_iface.specs.declared.entries.Entry.{Entry}
use Rattle.oracle_iface.specs.declared.keys.Key.{Key}
use Rattle.force_engine.specs.Fronts.{Told, IsFree, HoldsTheSame}
use Rattle.force_engine.specs.Settled.{doing, is_there, by_claim}
use Rattle.force_engine.specs.Ways.{HasValue, IsSettledAt, NeedsSettled, Went}
use Rattle.force_engine.proofs.Boards.{publishing_frees, releasing_frees}
use Rattle.force_engine.proofs.Fronts.{Step}
use Rattle.force_engine.proofs.Histories.{all_grown, own_here, own_beside, own_ends}
use Rattle.force_engine.proofs.Settling.{begun_right, extends_both}
use Rattle.force_engine.proofs.Ways.{at_shard, publishes_one, ExtendsAll, Nobody, step_all, own_all, needs_left, needs_right, Turned}

-- how a ticket ends, between fronts that are told
abbrev pub Ends : ℕ → ℕ → Key → Bool → Bool → Told → Told → Type 0
Ends seat sh key found true h n = (found ≡ true) × Step seat sh (λ h. IsHeld h key seat) (entry Publishes seat key) h n
Ends seat sh key found false h n = Step seat sh (λ h. IsHeld h key seat) (entry Releases seat key) h n

module _ (seat : ℕ) (shard : Key → ℕ) (key : Key) (a b c d : Told) (shows : List Entry → Type 0) (free : IsFree seat shard key a)
    (claimed : Step seat (shard key) shows (entry Claims seat key) a b) (ran : Went seat shard b c) where
  -- the claim, the calls, and one entry that ends the holding
  module _ (act : Act) (frees : after_act (board_act act) seat ≡ held seat → ⊥) (ended : Step seat (shard key) (λ h. IsHeld h key seat) (entry act seat key) c d) where
    ends_here : HoldsTheSame seat (a (shard key)) (d (shard key))
    ends_here k = (
      (λ x.
          let other : k ≡ key → ⊥ = λ e. free.itself (subst (λ (z : Key). IsHeld (a (shard key)) z seat) e x) in
          (own_beside seat act key (c (shard key)) (d (shard key)) _ ended.0 k other).0
          ((ran.holds (shard key) k).0 ((own_beside seat Claims key (a (shard key)) (b (shard key)) shows claimed.0 k other).0 x))),
      λ x.
          let other : k ≡ key → ⊥ = own_ends seat act key (c (shard key)) (d (shard key)) _ ended.0 frees k x in
          (own_beside seat Claims key (a (shard key)) (b (shard key)) shows claimed.0 k other).1
          ((ran.holds (shard key) k).1 ((own_beside seat act key (c (shard key)) (d (shard key)) _ ended.0 k other).1 x)),
    )

    turn_holds : (i : ℕ) → HoldsTheSame seat (a i) (d i)
    turn_holds = at_shard (shard key) (λ i. HoldsTheSame seat (a i) (d i)) ends_here
        (λ i other. subst (λ (z : List Entry). HoldsTheSame seat z (d i)) (claimed.1 i other)
        (subst (λ (z : List Entry). HoldsTheSame seat (b i) z) (sym (ended.1 i other)) (ran.holds i)))

  claim_all : (B : Key → Type 0) → ExtendsAll seat shard B a b
  claim_all B = own_all seat shard B Claims key (shard key) shows a b refl claimed

  abbrev Published : Key → Type 0
  Published k = (key ≡ k) × HasValue k

  -- what was published since the claim has its needs settled since the claim
  publish_all : Step seat (shard key) (λ h. IsHeld h key seat) (entry Publishes seat key) c d → (HasValue key → NeedsSettled seat shard key b c)
      → ExtendsAll seat shard (λ k. NeedsSettled seat shard k b d) b d
  publish_all ended ready i = extends_both seat (λ k. NeedsSettled seat shard k b c) Published (λ k. NeedsSettled seat shard k b d) (b i) (c i) (d i)
      (λ k s. needs_right seat shard Published k b c d s published)
      (λ k p. subst (λ (z : Key). NeedsSettled seat shard z b d) p.0 (needs_right seat shard Published key b c d (ready (subst HasValue (sym p.0) p.1)) published))
      (ran.extends i) (published i)
    where
      published : ExtendsAll seat shard Published c d
      published = step_all seat shard Published (shard key) _ (entry Publishes seat key) c d (λ k there has. (publishes_one seat key k there, has)) ended

  release_all : Step seat (shard key) (λ h. IsHeld h key seat) (entry Releases seat key) c d → ExtendsAll seat shard (λ k. NeedsSettled seat shard k b d) b d
  release_all ended i = extends_both seat (λ k. NeedsSettled seat shard k b c) (Nobody seat shard) (λ k. NeedsSettled seat shard k b d) (b i) (c i) (d i)
      (λ k s. needs_right seat shard (Nobody seat shard) k b c d s released) (λ k never. absurd never) (ran.extends i) (released i)
    where
      released : ExtendsAll seat shard (Nobody seat shard) c d
      released = own_all seat shard (Nobody seat shard) Releases key (shard key) _ c d refl ended

  module _ (ends_all : ExtendsAll seat shard (λ k. NeedsSettled seat shard k b d) b d) (holds : (i : ℕ) → HoldsTheSame seat (a i) (d i)) where
    all_went : Went seat shard a d
    all_went = record {
      extends = λ i. extends_both seat (Nobody seat shard) (λ k. NeedsSettled seat shard k b d) (λ k. NeedsSettled seat shard k a d) (a i) (b i) (d i)
          (λ k never. absurd never) (λ k s. needs_left seat shard (Nobody seat shard) k a b d (claim_all (Nobody seat shard)) s)
          (claim_all (Nobody seat shard) i) (ends_all i);
      holds = holds;
    }

    turned : (r : Bool) → (r ≡ true → IsSettledAt seat shard key a d) → Turned seat shard key r a d
    turned r settled = record {
      went = all_went;
      begun = begun_right seat (λ k. NeedsSettled seat shard k b d) key (a (shard key)) (b (shard key)) (d (shard key))
          (by_claim (claimed.0.others ++ entry Claims seat key) (all_grown seat (a (shard key)) (b (shard key)) shows (entry Claims seat key) claimed.0)
          (Contains-push claimed.0.others (doing Claims seat key))) (ends_all (shard key));
      settled = settled;
    }

  pub turn : (found r : Bool) → (found ≡ true → HasValue key → NeedsSettled seat shard key b c) → Ends seat (shard key) key found r c d → Turned seat shard key r a d
  turn found true ready e = turned (publish_all e.1 (ready e.0)) (turn_holds Publishes (publishing_frees seat) e.1) true
      (λ _ok. is_there (own_here seat Publishes key (c (shard key)) (d (shard key)) _ e.1.0))
  turn found false ready e = turned (release_all e) (turn_holds Releases (releasing_frees seat) e) false (λ ok. absurd (cc ok))
