-- How keys stand in histories that grow: by entries of others, and by one's own.
use Rattle.std.proofs.Common.{◌≡◌, ◌≢◌, ℕ, Bool, true, false, List, [], ◌∷◌, ◌++◌, sym, ◌∙◌, ap, subst, refl, Some, None}
use Rattle.std.specs.Prelude.{All, ◌&&◌, if◌then◌else◌, Ok}
use Rattle.std.proofs.lemmas.Bool.{and_parts, and_from, eqb-true}
use Rattle.std.proofs.lemmas.List.Elements.{All-head, All-tail}
use Rattle.oracle_iface.specs.Board.{Slot, unclaimed, held, claims, publishes, releases, Act as BoardAct, can_act, after_act}
use Rattle.oracle_iface.specs.Histories.{entry, board_act, slot_after, is_legal_at, slot_from, slot_of, legal_from}
use Rattle.oracle_iface.specs.KeyOrder.{same_key}
use Rattle.oracle_iface.specs.Memos.{Fronts, IsOwn, IsClaimed}
use Rattle.oracle_iface.specs.declared.entries.Act.{Act}
use Rattle.oracle_iface.specs.declared.entries.Act.TheVariants.{Claims}
use Rattle.oracle_iface.specs.declared.entries.Entry.{Entry}
use Rattle.oracle_iface.specs.declared.keys.Key.{Key}
use Rattle.oracle_iface.specs.declared.memo.Claim.TheVariants.{Granted}
use Rattle.oracle_iface.specs.declared.memo.Ticket.{Ticket}
use Rattle.oracle_iface.proofs.OneKey.{same_is, same_self}

pub slot_append : (x : Slot) (xs ys : List Entry) (k : Key) → slot_from x (xs ++ ys) k ≡ slot_from (slot_from x xs k) ys k
slot_append x [] ys k = refl
slot_append x (e ∷ xs) ys k = slot_append (if same_key e.key k then slot_after e else x) xs ys k

pub not_same : (a b : Key) → (a ≡ b → ⊥) → same_key a b ≡ false
not_same a b ne = by (same_key a b) refl
  where
    by : (t : Bool) → same_key a b ≡ t → t ≡ false
    by true e = absurd (ne (same_is a b e))
    by false e = refl

-- one entry more, on this key and on another
pub slot_here : (h : List Entry) (act : Act) (seat : ℕ) (key : Key) → slot_of (h ++ entry act seat key) key ≡ after_act (board_act act) seat
slot_here h act seat key =
    slot_append unclaimed h (entry act seat key) key
    ∙ ap (λ t. if t then after_act (board_act act) seat else slot_of h key) (same_self key)

pub slot_apart : (h : List Entry) (act : Act) (seat : ℕ) (key k : Key) → (key ≡ k → ⊥) → slot_of (h ++ entry act seat key) k ≡ slot_of h k
slot_apart h act seat key k ne =
    slot_append unclaimed h (entry act seat key) k
    ∙ ap (λ t. if t then after_act (board_act act) seat else slot_of h k) (not_same key k ne)

-- the parts of a legal list
module _ (x : Slot) (e : Entry) (k : Key) (rest all : Bool) where
  legal_cases : {P : Type 0} → (if same_key e.key k then is_legal_at x e && rest else all) ≡ true
      → (same_key e.key k ≡ true → is_legal_at x e ≡ true → rest ≡ true → P) → (same_key e.key k ≡ false → all ≡ true → P) → P
  legal_cases {P} l f g = by (same_key e.key k) refl l
    where
      by : (t : Bool) → same_key e.key k ≡ t → (if t then is_legal_at x e && rest else all) ≡ true → P
      by true is m = f is (and_parts (is_legal_at x e) rest m).0 (and_parts (is_legal_at x e) rest m).1
      by false is m = g is m

legal_one : (x : Slot) (e : Entry) (es : List Entry) (k : Key) → same_key e.key k ≡ true → is_legal_at x e ≡ true → legal_from (slot_after e) es k ≡ true
    → legal_from x (e ∷ es) k ≡ true
legal_one x e es k is m l = ap (λ t. if t then is_legal_at x e && legal_from (slot_after e) es k else legal_from x es k) is ∙ and_from _ _ m l

legal_other : (x : Slot) (e : Entry) (es : List Entry) (k : Key) → same_key e.key k ≡ false → legal_from x es k ≡ true → legal_from x (e ∷ es) k ≡ true
legal_other x e es k is l = ap (λ t. if t then is_legal_at x e && legal_from (slot_after e) es k else legal_from x es k) is ∙ l

pub legal_first : (x : Slot) (xs ys : List Entry) (k : Key) → legal_from x (xs ++ ys) k ≡ true → legal_from x xs k ≡ true
legal_first x [] ys k l = refl
legal_first x (e ∷ xs) ys k l =
    legal_cases x e k (legal_from (slot_after e) (xs ++ ys) k) (legal_from x (xs ++ ys) k) {P = legal_from x (e ∷ xs) k ≡ true} l
    (λ is m r. legal_one x e xs k is m (legal_first (slot_after e) xs ys k r)) (λ is r. legal_other x e xs k is (legal_first x xs ys k r))

pub legal_rest : (x : Slot) (xs ys : List Entry) (k : Key) → legal_from x (xs ++ ys) k ≡ true → legal_from (slot_from x xs k) ys k ≡ true
legal_rest x [] ys k l = l
legal_rest x (e ∷ xs) ys k l =
    legal_cases x e k (legal_from (slot_after e) (xs ++ ys) k) (legal_from x (xs ++ ys) k)
    {P = legal_from (slot_from (if same_key e.key k then slot_after e else x) xs k) ys k ≡ true} l
    (λ is m r. subst (λ t. legal_from (slot_from (if t then slot_after e else x) xs k) ys k ≡ true) (sym is) (legal_rest (slot_after e) xs ys k r))
    (λ is r. subst (λ t. legal_from (slot_from (if t then slot_after e else x) xs k) ys k ≡ true) (sym is) (legal_rest x xs ys k r))

pub legal_both : (x : Slot) (xs ys : List Entry) (k : Key) → legal_from x xs k ≡ true → legal_from (slot_from x xs k) ys k ≡ true → legal_from x (xs ++ ys) k ≡ true
legal_both x [] ys k l m = m
legal_both x (e ∷ xs) ys k l m =
    legal_cases x e k (legal_from (slot_after e) xs k) (legal_from x xs k) {P = legal_from x (e ∷ xs ++ ys) k ≡ true} l
    (λ is a r. legal_one x e (xs ++ ys) k is a (legal_both (slot_after e) xs ys k r (subst (λ t. legal_from (slot_from (if t then slot_after e else x) xs k) ys k ≡ true) is m)))
    (λ is r. legal_other x e (xs ++ ys) k is (legal_both x xs ys k r (subst (λ t. legal_from (slot_from (if t then slot_after e else x) xs k) ys k ≡ true) is m)))

-- ---- entries of other seats

not_held : (act : BoardAct) (s seat : ℕ) → s ≢ seat → after_act act s ≡ held seat → ⊥
not_held claims s seat n e = n (number e)
  where
    number : held s ≡ held seat → s ≡ seat
    number e = cc e
not_held publishes s seat n e = cc e
not_held releases s seat n e = cc e

may_not : (act : BoardAct) (s seat : ℕ) → s ≢ seat → can_act (held seat) act s ≡ true → ⊥
may_not claims s seat n e = cc e
may_not publishes s seat n e = n (sym (eqb-true seat s e))
may_not releases s seat n e = n (sym (eqb-true seat s e))

-- they make no key held by this seat
pub others_back : (seat : ℕ) (x : Slot) (es : List Entry) (k : Key) → All (λ (e : Entry). e.seat ≢ seat) es → slot_from x es k ≡ held seat → x ≡ held seat
others_back seat x [] k a is = is
others_back seat x (e ∷ es) k a is =
    by (same_key e.key k) (others_back seat (if same_key e.key k then slot_after e else x) es k (All-tail (λ (d : Entry). d.seat ≢ seat) e es a) is)
  where
    by : (t : Bool) → (if t then slot_after e else x) ≡ held seat → x ≡ held seat
    by true h = absurd (not_held (board_act e.act) e.seat seat (All-head (λ (d : Entry). d.seat ≢ seat) e es a) h)
    by false h = h

-- and leave what it holds
pub others_keep : (seat : ℕ) (x : Slot) (es : List Entry) (k : Key) → All (λ (e : Entry). e.seat ≢ seat) es → legal_from x es k ≡ true → x ≡ held seat
    → slot_from x es k ≡ held seat
others_keep seat x [] k a l is = is
others_keep seat x (e ∷ es) k a l is =
    legal_cases x e k (legal_from (slot_after e) es k) (legal_from x es k) {P = slot_from (if same_key e.key k then slot_after e else x) es k ≡ held seat} l
    (λ s m r. absurd (may_not (board_act e.act) e.seat seat (All-head (λ (d : Entry). d.seat ≢ seat) e es a) (ap (λ y. is_legal_at y e) (sym is) ∙ m)))
    (λ s r. subst (λ t. slot_from (if t then slot_after e else x) es k ≡ held seat) (sym s) (others_keep seat x es k (All-tail (λ (d : Entry). d.seat ≢ seat) e es a) r is))

-- ---- a ticket

-- a ticket that was granted may be spent
pub granted_own : (shard : Key → ℕ) (seat : ℕ) (key : Key) (old new : Fronts) (t : Ticket) → IsClaimed seat (shard key) key old new (Ok (Granted t))
    → IsOwn seat (shard t.key) new t
granted_own shard seat key (Some old) (Some new) t c = (
  c.1,
  subst (λ k. slot_of (new (shard k)) k ≡ held seat) (sym c.0)
      (ap (λ h. slot_of h key) c.2.0.grown ∙ slot_here (old (shard key) ++ c.2.0.others) Claims seat key),
)
granted_own shard seat key (Some old) None t c = absurd c.2
granted_own shard seat key None (Some new) t c = absurd c.2
granted_own shard seat key None None t c = tt
