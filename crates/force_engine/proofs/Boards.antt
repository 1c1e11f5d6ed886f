-- How the entries of a history leave its keys.
use Rattle.std.proofs.Common.{◌≡◌, ◌≢◌, ℕ, suc, Bool, true, false, ne_eqb, List, [], ◌∷◌, ◌++◌, sym, ◌∙◌, ap, subst, refl, arith}
use Rattle.std.specs.Prelude.{All, ◌&&◌, if◌then◌else◌}
use Rattle.oracle_iface.specs.Board.{Slot, unclaimed, held, published, Act as BoardAct, claims, publishes, releases, can_act, after_act}
use Rattle.oracle_iface.specs.KeyOrder.{same_key}
use Rattle.oracle_iface.specs.Histories.{board_act, slot_after, is_legal_at, slot_from, legal_from}
use Rattle.oracle_iface.specs.declared.entries.Entry.{Entry}
use Rattle.oracle_iface.specs.declared.keys.Key.{Key}
use Rattle.oracle_iface.proofs.OneKey.{same_is}

pub and_left : (a b : Bool) → (a && b) ≡ true → a ≡ true
and_left true b e = refl
and_left false b e = e

pub and_right : (a b : Bool) → (a && b) ≡ true → b ≡ true
and_right true b e = e
and_right false b e = absurd (cc e)

abbrev holder : Slot → ℕ
holder unclaimed = 0
holder (held s) = s
holder published = 0

abbrev is_held : Slot → Bool
is_held unclaimed = false
is_held (held s) = true
is_held published = false

abbrev is_published : Slot → Bool
is_published unclaimed = false
is_published (held s) = false
is_published published = true

pub publishing_frees : (seat : ℕ) → after_act publishes seat ≡ held seat → ⊥
publishing_frees seat e = cc (ap is_held e)

pub releasing_frees : (seat : ℕ) → after_act releases seat ≡ held seat → ⊥
releasing_frees seat e = cc (ap is_held e)

pub same_holder : (s t : ℕ) → held s ≡ held t → s ≡ t
same_holder s t e = ap holder e

pub published_unclaimed : published ≡ unclaimed → ⊥
published_unclaimed e = cc (ap is_published e)

pub published_held : (s : ℕ) → published ≡ held s → ⊥
published_held s e = cc (ap is_published e)

-- ---- what another seat does

not_to : (act : BoardAct) (s seat : ℕ) → s ≢ seat → after_act act s ≡ held seat → ⊥
not_to claims s seat n e = n (ap holder e)
not_to publishes s seat n e = cc (ap is_held e)
not_to releases s seat n e = cc (ap is_held e)

may_not : (act : BoardAct) (s seat : ℕ) → s ≢ seat → can_act (held seat) act s ≡ true → ⊥
may_not claims s seat n e = cc e
may_not publishes s seat n e = cc (sym e ∙ ne_eqb seat s (λ h. n (sym h)))
may_not releases s seat n e = cc (sym e ∙ ne_eqb seat s (λ h. n (sym h)))

-- what others did makes no key held by the seat
pub others_back : (seat : ℕ) (x : Slot) (es : List Entry) (k : Key) → All (λ (e : Entry). e.seat ≢ seat) es → slot_from x es k ≡ held seat → x ≡ held seat
others_back seat x [] k a is = is
others_back seat x (e ∷ es) k a is =
    by_case (same_key e.key k) (others_back seat (if same_key e.key k then slot_after e else x) es k (λ i d h. a (suc i) d (omega arith)) is)
  where
    by_case : (b : Bool) → (if b then slot_after e else x) ≡ held seat → x ≡ held seat
    by_case true y = absurd (not_to (board_act e.act) e.seat seat (a 0 e (omega arith)) y)
    by_case false y = y

-- and, being legal, leaves what it holds
pub others_keep : (seat : ℕ) (x : Slot) (es : List Entry) (k : Key) → All (λ (e : Entry). e.seat ≢ seat) es → legal_from x es k ≡ true → x ≡ held seat
    → slot_from x es k ≡ held seat
others_keep seat x [] k a l is = is
others_keep seat x (e ∷ es) k a l is = by_case (same_key e.key k) l (λ l'. others_keep seat x es k (λ i d h. a (suc i) d (omega arith)) l' is)
  where
    by_case : (b : Bool) → (if b then (is_legal_at x e && legal_from (slot_after e) es k) else legal_from x es k) ≡ true
        → (legal_from x es k ≡ true → slot_from x es k ≡ held seat) → slot_from (if b then slot_after e else x) es k ≡ held seat
    by_case true l' f =
        absurd (may_not (board_act e.act) e.seat seat (a 0 e (omega arith)) (ap (λ (z : Slot). can_act z (board_act e.act) e.seat) (sym is) ∙ and_left _ _ l'))
    by_case false l' f = f l'

-- ---- what is published stays so

not_at_published : (act : BoardAct) (s : ℕ) → can_act published act s ≡ true → ⊥
not_at_published claims s e = cc e
not_at_published publishes s e = cc e
not_at_published releases s e = cc e

pub stays_published : (x : Slot) (es : List Entry) (k : Key) → legal_from x es k ≡ true → x ≡ published → slot_from x es k ≡ published
stays_published x [] k l is = is
stays_published x (e ∷ es) k l is = by_case (same_key e.key k) l (λ l'. stays_published x es k l' is)
  where
    by_case : (b : Bool) → (if b then (is_legal_at x e && legal_from (slot_after e) es k) else legal_from x es k) ≡ true
        → (legal_from x es k ≡ true → slot_from x es k ≡ published) → slot_from (if b then slot_after e else x) es k ≡ published
    by_case true l' f = absurd (not_at_published (board_act e.act) e.seat (ap (λ (z : Slot). can_act z (board_act e.act) e.seat) (sym is) ∙ and_left _ _ l'))
    by_case false l' f = f l'

-- ---- histories one after the other

pub slot_append : (x : Slot) (xs ys : List Entry) (k : Key) → slot_from x (xs ++ ys) k ≡ slot_from (slot_from x xs k) ys k
slot_append x [] ys k = refl
slot_append x (e ∷ xs) ys k = slot_append (if same_key e.key k then slot_after e else x) xs ys k

pub legal_left : (x : Slot) (xs ys : List Entry) (k : Key) → legal_from x (xs ++ ys) k ≡ true → legal_from x xs k ≡ true
legal_left x [] ys k l = refl
legal_left x (e ∷ xs) ys k l = by_case (same_key e.key k) l (legal_left (slot_after e) xs ys k) (legal_left x xs ys k)
  where
    by_case : (b : Bool) → (if b then (is_legal_at x e && legal_from (slot_after e) (xs ++ ys) k) else legal_from x (xs ++ ys) k) ≡ true
        → (legal_from (slot_after e) (xs ++ ys) k ≡ true → legal_from (slot_after e) xs k ≡ true) → (legal_from x (xs ++ ys) k ≡ true → legal_from x xs k ≡ true)
        → (if b then (is_legal_at x e && legal_from (slot_after e) xs k) else legal_from x xs k) ≡ true
    by_case true l' f g =
        subst (λ (b : Bool). (b && legal_from (slot_after e) xs k) ≡ true) (sym (and_left _ _ l')) (f (and_right (is_legal_at x e) _ l'))
    by_case false l' f g = g l'

pub legal_right : (x : Slot) (xs ys : List Entry) (k : Key) → legal_from x (xs ++ ys) k ≡ true → legal_from (slot_from x xs k) ys k ≡ true
legal_right x [] ys k l = l
legal_right x (e ∷ xs) ys k l = by_case (same_key e.key k) l (legal_right (slot_after e) xs ys k) (legal_right x xs ys k)
  where
    by_case : (b : Bool) → (if b then (is_legal_at x e && legal_from (slot_after e) (xs ++ ys) k) else legal_from x (xs ++ ys) k) ≡ true
        → (legal_from (slot_after e) (xs ++ ys) k ≡ true → legal_from (slot_from (slot_after e) xs k) ys k ≡ true)
        → (legal_from x (xs ++ ys) k ≡ true → legal_from (slot_from x xs k) ys k ≡ true)
        → legal_from (slot_from (if b then slot_after e else x) xs k) ys k ≡ true
    by_case true l' f g = f (and_right (is_legal_at x e) _ l')
    by_case false l' f g = g l'

pub legal_both : (x : Slot) (xs ys : List Entry) (k : Key) → legal_from x xs k ≡ true → legal_from (slot_from x xs k) ys k ≡ true
    → legal_from x (xs ++ ys) k ≡ true
legal_both x [] ys k a b = b
legal_both x (e ∷ xs) ys k a b = by_case (same_key e.key k) a b (legal_both (slot_after e) xs ys k) (legal_both x xs ys k)
  where
    by_case : (c : Bool) → (if c then (is_legal_at x e && legal_from (slot_after e) xs k) else legal_from x xs k) ≡ true
        → legal_from (slot_from (if c then slot_after e else x) xs k) ys k ≡ true
        → (legal_from (slot_after e) xs k ≡ true → legal_from (slot_from (slot_after e) xs k) ys k ≡ true → legal_from (slot_after e) (xs ++ ys) k ≡ true)
        → (legal_from x xs k ≡ true → legal_from (slot_from x xs k) ys k ≡ true → legal_from x (xs ++ ys) k ≡ true)
        → (if c then (is_legal_at x e && legal_from (slot_after e) (xs ++ ys) k) else legal_from x (xs ++ ys) k) ≡ true
    by_case true a' b' f g =
        let s = and_left _ _ a' in
        let l : legal_from (slot_after e) xs k ≡ true = subst (λ (z : Bool). (z && legal_from (slot_after e) xs k) ≡ true) s a' in
        subst (λ (z : Bool). (z && legal_from (slot_after e) (xs ++ ys) k) ≡ true) (sym s) (f l b')
    by_case false a' b' f g = g a' b'

pub not_same : (a b : Key) → (b ≡ a → ⊥) → (c : Bool) → same_key a b ≡ c → c ≡ false
not_same a b n true e = absurd (n (sym (same_is a b e)))
not_same a b n false e = refl
