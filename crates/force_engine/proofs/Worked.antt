-- A key that one seat has claimed and given back.
use Rattle.std.proofs.Common.{◌≡◌, Bool, true, false, List, [], ◌∷◌, ◌++◌, sym, ◌∙◌, ap, subst, refl}
use Rattle.std.specs.Prelude.{◌&&◌, ◌==◌, if◌then◌else◌, length}
use Rattle.oracle_iface.specs.Board.{Slot, unclaimed, held, published}
use Rattle.oracle_iface.specs.KeyOrder.{same_key}
use Rattle.oracle_iface.specs.Histories.{slot_of, entry, is_full, has_key}
use Rattle.oracle_iface.specs.declared.entries.Act.TheVariants.{Claims, Releases}
use Rattle.oracle_iface.specs.declared.entries.Entry.{Entry}
use Rattle.oracle_iface.specs.declared.keys.Key.{Key}
use Rattle.oracle_iface.proofs.OneKey.{same_self}
use Rattle.force_engine.specs.Settled.{doing, IsSettled, is_there, was_held, was_full}
use Rattle.force_engine.proofs.Boards.{same_holder, published_unclaimed}

abbrev history : Key → List Entry
history k = entry Claims 1 k ++ entry Releases 1 k

claimed : (k : Key) → slot_of (entry Claims 1 k) k ≡ held 1
claimed k = ap (λ (b : Bool). if b then held 1 else unclaimed) (same_self k)

given_back : (k : Key) → slot_of (history k) k ≡ unclaimed
given_back k = ap (λ (b : Bool). if b then unclaimed else (if same_key k k then held 1 else unclaimed)) (same_self k)

pub for_another : (k : Key) → IsSettled 0 k [] (history k)
for_another k = was_held record {
  at = entry Claims 1 k;
  on_the_way = record { before = entry Claims 1 k; after = entry Releases 1 k; begun = refl; ended = refl };
  holder = 1;
  another = λ e. cc e;
  shown = claimed k;
}

abbrev holds_any : Slot → Bool
holds_any unclaimed = false
holds_any (held s) = true
holds_any published = false

abbrev first : Entry → List Entry → Entry
first e [] = e
first e (x ∷ xs) = x

abbrev rest : List Entry → List Entry
rest [] = []
rest (x ∷ xs) = xs

-- which fronts are on the way
few : (at : List Entry) (k : Key) (after : List Entry) → history k ≡ at ++ after → (P : List Entry → Type 0) → P [] → P (entry Claims 1 k) → P (history k) → P at
few [] k after e P none one two = none
few (x ∷ []) k after e P none one two = subst (λ (z : Entry). P (z ∷ [])) (ap (first (doing Claims 1 k)) e) one
few (x ∷ y ∷ []) k after e P none one two =
    let p : doing Claims 1 k ≡ x = ap (first (doing Claims 1 k)) e in
    let q : doing Releases 1 k ≡ y = ap (λ (z : List Entry). first (doing Claims 1 k) (rest z)) e in
    subst P (λ i. p i ∷ q i ∷ []) two
few (x ∷ y ∷ z ∷ zs) k after e P none one two = absurd (cc (ap (λ (l : List Entry). rest (rest l)) e))

-- one key or two are not 65,536
not_many : (b : Bool) (k : Key) (c : Bool) → ((length (if b then k ∷ [] else k ∷ k ∷ []) == 65536) && c) ≡ true → ⊥
not_many true k c e = cc e
not_many false k c e = cc e

pub not_for_itself : (k : Key) → IsSettled 1 k [] (history k) → ⊥
not_for_itself k (is_there e) = published_unclaimed (sym e ∙ given_back k)
not_for_itself k (was_held w) = few w.at k w.on_the_way.after w.on_the_way.ended (λ at. slot_of at k ≡ held w.holder → ⊥)
    (λ e. cc (ap holds_any e)) (λ e. w.another (same_holder w.holder 1 (sym e ∙ claimed k))) (λ e. cc (ap holds_any (sym (given_back k) ∙ e))) w.shown
not_for_itself k (was_full w) = few w.at k w.on_the_way.after w.on_the_way.ended (λ at. is_full at k ≡ true → ⊥)
    (λ e. cc e) (λ e. cc e) (λ e. not_many (has_key (k ∷ []) k) k _ e) w.shown
