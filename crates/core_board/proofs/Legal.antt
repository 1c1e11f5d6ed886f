-- Which lists are legal, key by key, and publications.
use Rattle.std.proofs.Common.{◌≡◌, ◌≢◌, ℕ, Bool, true, false, eq-eqb, ne_eqb, refl, sym, ◌∙◌, ap, subst, List, [], ◌∷◌, ◌++◌}
use Rattle.std.specs.Prelude.{◌==◌, ◌&&◌, if◌then◌else◌, All}
use Rattle.std.proofs.lemmas.Bool.{and_parts, and_from, eqb-true, eqb-false}
use Rattle.std.proofs.lemmas.List.Elements.{All-nil, All-cons, All-head, All-tail}
use Rattle.oracle_iface.specs.Board.{Slot, unclaimed, held, published, Act, claims, publishes, releases, Event, Board, empty_board, can_act, after_act, is_legal, after_event, are_legal, after_events}
use Rattle.core_board.specs.Legality.{of_key, IsLegal, IsOnlyPublication}

pub and_left : (a b : Bool) → (a && b) ≡ true → a ≡ true
and_left a b e = (and_parts a b e).0

pub and_right : (a b : Bool) → (a && b) ≡ true → b ≡ true
and_right a b e = (and_parts a b e).1

pub after_here : (b : Board) (e : Event) (k : ℕ) → e.key ≡ k → after_event b e k ≡ after_act e.act e.seat
after_here b e k is = ap (λ t. if t then after_act e.act e.seat else b k) (eq-eqb k e.key (sym is))

pub after_apart : (b : Board) (e : Event) (k : ℕ) → e.key ≢ k → after_event b e k ≡ b k
after_apart b e k ne = ap (λ t. if t then after_act e.act e.seat else b k) (ne_eqb k e.key (λ h. ne (sym h)))

-- ---- key by key

-- what stands at other keys does not matter
local : (b c : Board) (k : ℕ) (es : List Event) → b k ≡ c k → are_legal b (of_key k es) ≡ are_legal c (of_key k es)
local b c k [] h = refl
local b c k (e ∷ es) h = by (e.key == k) refl (local (after_event b e) (after_event c e) k es) (local b c k es h)
  where
    by : (t : Bool) → (e.key == k) ≡ t
        → (after_event b e k ≡ after_event c e k → are_legal (after_event b e) (of_key k es) ≡ are_legal (after_event c e) (of_key k es))
        → are_legal b (of_key k es) ≡ are_legal c (of_key k es)
        → are_legal b (if t then e ∷ of_key k es else of_key k es) ≡ are_legal c (if t then e ∷ of_key k es else of_key k es)
    by true is f g =
        let at : e.key ≡ k = eqb-true e.key k is in
        ap (λ x. can_act x e.act e.seat && are_legal (after_event b e) (of_key k es)) (ap b at ∙ h ∙ sym (ap c at))
        ∙ ap (λ x. can_act (c e.key) e.act e.seat && x) (f (after_here b e k at ∙ sym (after_here c e k at)))
    by false is f g = g

pub each_key : (b : Board) (es : List Event) → are_legal b es ≡ true → (k : ℕ) → are_legal b (of_key k es) ≡ true
each_key b [] l k = refl
each_key b (e ∷ es) l k = by (e.key == k) refl (each_key (after_event b e) es (and_right _ _ l) k)
  where
    by : (t : Bool) → (e.key == k) ≡ t → are_legal (after_event b e) (of_key k es) ≡ true
        → are_legal b (if t then e ∷ of_key k es else of_key k es) ≡ true
    by true is ih = and_from _ _ (and_left _ _ l) ih
    by false is ih = local b (after_event b e) k es (sym (after_apart b e k (eqb-false e.key k is))) ∙ ih

pub all_keys : (b : Board) (es : List Event) → ((k : ℕ) → are_legal b (of_key k es) ≡ true) → are_legal b es ≡ true
all_keys b [] f = refl
all_keys b (e ∷ es) f = and_from _ _ (and_left _ _ own) (all_keys (after_event b e) es (λ k. by (e.key == k) k refl (f k)))
  where
    own : are_legal b (e ∷ of_key e.key es) ≡ true
    own = ap (λ t. are_legal b (if t then e ∷ of_key e.key es else of_key e.key es)) (sym (eq-eqb e.key e.key refl)) ∙ f e.key

    by : (t : Bool) (k : ℕ) → (e.key == k) ≡ t → are_legal b (if t then e ∷ of_key k es else of_key k es) ≡ true
        → are_legal (after_event b e) (of_key k es) ≡ true
    by true k is l = and_right _ _ l
    by false k is l = local (after_event b e) b k es (after_apart b e k (eqb-false e.key k is)) ∙ l

-- ---- publications

pub legal_first : (b : Board) (xs ys : List Event) → are_legal b (xs ++ ys) ≡ true → are_legal b xs ≡ true
legal_first b [] ys l = refl
legal_first b (e ∷ xs) ys l = and_from _ _ (and_left _ _ l) (legal_first (after_event b e) xs ys (and_right _ _ l))

pub legal_rest : (b : Board) (xs ys : List Event) → are_legal b (xs ++ ys) ≡ true → are_legal (after_events b xs) ys ≡ true
legal_rest b [] ys l = l
legal_rest b (e ∷ xs) ys l = legal_rest (after_event b e) xs ys (and_right _ _ l)

-- nothing may be done with a published key
none_published : (act : Act) (seat : ℕ) → can_act published act seat ≡ true → ⊥
none_published claims seat e = cc e
none_published publishes seat e = cc e
none_published releases seat e = cc e

stays : (b : Board) (k : ℕ) (es : List Event) → b k ≡ published → are_legal b es ≡ true → All (λ d. d.key ≢ k) es
stays b k [] h l = All-nil (λ (d : Event). d.key ≢ k)
stays b k (e ∷ es) h l = All-cons (λ (d : Event). d.key ≢ k) e es apart (stays (after_event b e) k es (after_apart b e k apart ∙ h) (and_right _ _ l))
  where
    apart : e.key ≢ k
    apart is = none_published e.act e.seat (ap (λ x. can_act x e.act e.seat) (sym (ap b is ∙ h)) ∙ and_left _ _ l)

-- who may publish
holder_of : (x : Slot) (act : Act) (seat : ℕ) → act ≡ publishes → can_act x act seat ≡ true → x ≡ held seat
holder_of x act seat is l = by x (subst (λ a. can_act x a seat ≡ true) is l)
  where
    by : (x : Slot) → can_act x publishes seat ≡ true → x ≡ held seat
    by unclaimed e = absurd (cc e)
    by (held s) e = ap held (eqb-true s seat e)
    by published e = absurd (cc e)

none_before : (b : Board) (before : List Event) (e : Event) (after : List Event) → are_legal b (before ++ e ∷ after) ≡ true
    → All (λ d. d.act ≡ publishes → d.key ≢ e.key) before
none_before b [] e after l = All-nil (λ (d : Event). d.act ≡ publishes → d.key ≢ e.key)
none_before b (d ∷ before) e after l =
    All-cons (λ (d : Event). d.act ≡ publishes → d.key ≢ e.key) d before apart (none_before (after_event b d) before e after (and_right _ _ l))
  where
    in_rest : (xs : List Event) → All (λ x. x.key ≢ e.key) (xs ++ e ∷ after) → ⊥
    in_rest [] u = All-head (λ (x : Event). x.key ≢ e.key) e after u refl
    in_rest (x ∷ xs) u = in_rest xs (All-tail (λ (y : Event). y.key ≢ e.key) x (xs ++ e ∷ after) u)

    apart : d.act ≡ publishes → d.key ≢ e.key
    apart is at =
        in_rest before (stays (after_event b d) e.key (before ++ e ∷ after)
        (after_here b d e.key at ∙ ap (λ a. after_act a d.seat) is) (and_right (is_legal b d) _ l))

pub only_publication : (before : List Event) (e : Event) (after : List Event) → IsLegal (before ++ e ∷ after) → e.act ≡ publishes
    → IsOnlyPublication before e after
only_publication before e after l is = record {
  by_holder = holder_of (after_events empty_board before e.key) e.act e.seat is (and_left _ _ rest);
  first = none_before empty_board before e after l;
  last = stays (after_event (after_events empty_board before) e) e.key after
      (after_here (after_events empty_board before) e e.key refl ∙ ap (λ a. after_act a e.seat) is) (and_right _ _ rest);
} where
  rest : are_legal (after_events empty_board before) (e ∷ after) ≡ true
  rest = legal_rest empty_board before (e ∷ after) l
