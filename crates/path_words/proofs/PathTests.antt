-- The path word of two tests: where its first event is, and the tests of its match.
use Rattle.std.proofs.Common.{◌≡◌, ℕ, zero, suc, ◌+◌, ◌-◌, ◌<◌, ◌≤◌, Bool, true, false, cond, ◌||◌, ◌&&◌, List, [], ◌∷◌, ◌++◌, length, refl, sym, ◌∙◌, ap, subst, arith, ◌⊎◌, inl, inr, true≢false}
use Rattle.std.proofs.lemmas.Bool.{cases_order, cases_lt}
use Rattle.simp_ops.specs.Bits.{dropped, inserted, count_below}
use Rattle.simp_ops.specs.PathWords.{Step, both, left, right, step, path_word, Event, source, target, critical, later, event, matched, pairs}
use Rattle.simp_ops.proofs.PlacesOf.{cases_bool, inserted-below, inserted-above, inserted-here, dropped-below, dropped-above}
use Rattle.simp_ops.proofs.Masks.{put_back}
use Rattle.path_words.proofs.Steps.{matched-matched, rights, rights-append, pairs-left, pairs-both, pairs-right}

-- a test from the next place on
abbrev pub next : (ℕ → Bool) → ℕ → Bool
next t k = t (suc k)

abbrev pub word : ℕ → (ℕ → Bool) → (ℕ → Bool) → List Step
word n l r = path_word n 0 l r

path_word-suc : (n j : ℕ) (l r : ℕ → Bool) → path_word n (suc j) l r ≡ path_word n j (next l) (next r)
path_word-suc zero j l r = refl
path_word-suc (suc n) j l r = ap (λ w. step (l (suc j)) (r (suc j)) ∷ w) (path_word-suc n (suc j) l r)

pub word-suc : (n : ℕ) (l r : ℕ → Bool) → word (suc n) l r ≡ step (l 0) (r 0) ∷ word n (next l) (next r)
word-suc n l r = ap (λ w. step (l 0) (r 0) ∷ w) (path_word-suc n 0 l r)

pub word_same : (n : ℕ) (l m r s : ℕ → Bool) → ((k : ℕ) → k < n → l k ≡ m k) → ((k : ℕ) → k < n → r k ≡ s k) → word n l r ≡ word n m s
word_same zero l m r s e f = refl
word_same (suc n) l m r s e f =
    word-suc n l r
    ∙ (λ i. step (e 0 (omega arith) i) (f 0 (omega arith) i) ∷ word_same n (next l) (next m) (next r) (next s) (λ k h. e (suc k) (omega arith)) (λ k h. f (suc k) (omega arith)) i)
    ∙ sym (word-suc n m s)

pub length-word : (n j : ℕ) (l r : ℕ → Bool) → length (path_word n j l r) ≡ n
length-word zero j l r = refl
length-word (suc n) j l r = ap suc (length-word n (suc j) l r)

-- ---- steps without an event

-- there is no event at the places below d
pub record Calm (d : ℕ) (l r : ℕ → Bool) : Type 0 where
  pub stays : (i : ℕ) → i < d → l i || r i ≡ true
  pub straight : (i : ℕ) → i < d → l i && r (suc i) ≡ false

calm_next : (d : ℕ) (l r : ℕ → Bool) → Calm (suc d) l r → Calm d (next l) (next r)
calm_next d l r c = record { stays = λ i h. c.stays (suc i) (omega arith); straight = λ i h. c.straight (suc i) (omega arith) }

-- the first step is no event: it stays as it is
record FirstCalm (s : Step) (w : List Step) : Type 0 where
  pub event : event (s ∷ w) ≡ later (event w)
  pub matched : matched (s ∷ w) ≡ s ∷ matched w

right_calm : (s : Step) (w : List Step) → (s ≡ left → ⊥) → FirstCalm right (s ∷ w)
right_calm both w h = record { event = refl; matched = refl }
right_calm right w h = record { event = refl; matched = refl }
right_calm left w h = absurd (h refl)

not_left : (x : Bool) → step x false ≡ left → ⊥
not_left true e = absurd (cc)
not_left false e = absurd (cc)

right_before : (n : ℕ) (l r : ℕ → Bool) → r 0 ≡ false → FirstCalm right (word n l r)
right_before zero l r q = record { event = refl; matched = refl }
right_before (suc n) l r q =
    subst (FirstCalm right) (ap (λ b. step (l 0) b ∷ word n (next l) (next r)) (sym q) ∙ sym (word-suc n l r))
    (right_calm (step (l 0) false) (word n (next l) (next r)) (not_left (l 0)))

first_calm : (n : ℕ) (l r : ℕ → Bool) → l 0 || r 0 ≡ true → l 0 && r 1 ≡ false → FirstCalm (step (l 0) (r 0)) (word n (next l) (next r))
first_calm n l r h q = by (cases_bool (l 0)) (cases_bool (r 0))
  where
    by : (l 0 ≡ true) ⊎ (l 0 ≡ false) → (r 0 ≡ true) ⊎ (r 0 ≡ false) → FirstCalm (step (l 0) (r 0)) (word n (next l) (next r))
    by (inl e) c = subst (λ b. FirstCalm (step b (r 0)) (word n (next l) (next r))) (sym e) (right_before n (next l) (next r) (ap (λ b. b && r 1) (sym e) ∙ q))
    by (inr e) (inl f) = subst (λ s. FirstCalm s (word n (next l) (next r))) (λ i. step (sym e i) (sym f i)) (record { event = refl; matched = refl })
    by (inr e) (inr f) = absurd (true≢false (sym h ∙ (λ i. e i || f i)))

event-first : (n : ℕ) (l r : ℕ → Bool) → l 0 || r 0 ≡ true → l 0 && r 1 ≡ false → event (word (suc n) l r) ≡ later (event (word n (next l) (next r)))
event-first n l r h q = ap event (word-suc n l r) ∙ (first_calm n l r h q).event

-- ---- where the first event is

pub event-both : (n d : ℕ) (l r : ℕ → Bool) → d < n → Calm d l r → l d ≡ false → r d ≡ false → event (word n l r) ≡ source d
event-both zero d l r h c e f = absurd (omega arith)
event-both (suc n) zero l r h c e f = ap event (word-suc n l r ∙ (λ i. step (e i) (f i) ∷ word n (next l) (next r)))
event-both (suc n) (suc d) l r h c e f =
    event-first n l r (c.stays 0 (omega arith)) (c.straight 0 (omega arith))
    ∙ ap later (event-both n d (next l) (next r) (omega arith) (calm_next d l r c) e f)

pub event-turn : (n d : ℕ) (l r : ℕ → Bool) → suc d < n → Calm d l r → l d ≡ true → l (suc d) ≡ false → r (suc d) ≡ true → event (word n l r) ≡ target d
event-turn zero d l r h c e f g = absurd (omega arith)
event-turn (suc zero) zero l r h c e f g = absurd (omega arith)
event-turn (suc (suc n)) zero l r h c e f g =
    ap event (word-suc (suc n) l r ∙ ap (λ w. step (l 0) (r 0) ∷ w) (word-suc n (next l) (next r))
    ∙ (λ i. step (e i) (r 0) ∷ (step (f i) (g i) ∷ word n (next (next l)) (next (next r)))))
event-turn (suc n) (suc d) l r h c e f g =
    event-first n l r (c.stays 0 (omega arith)) (c.straight 0 (omega arith))
    ∙ ap later (event-turn n d (next l) (next r) (omega arith) (calm_next d l r c) e f g)

pub event-none : (n : ℕ) (l r : ℕ → Bool) → Calm n l r → event (word n l r) ≡ critical
event-none zero l r c = refl
event-none (suc n) l r c =
    event-first n l r (c.stays 0 (omega arith)) (c.straight 0 (omega arith)) ∙ ap later (event-none n (next l) (next r) (calm_next n l r c))

-- ---- and what is there

-- the tests are apart, and false from n on
pub record Apart (n : ℕ) (l r : ℕ → Bool) : Type 0 where
  pub once : (k : ℕ) → l k ≡ true → r k ≡ false
  pub left_end : (k : ℕ) → n ≤ k → l k ≡ false
  pub right_end : (k : ℕ) → n ≤ k → r k ≡ false

apart_next : (n : ℕ) (l r : ℕ → Bool) → Apart (suc n) l r → Apart n (next l) (next r)
apart_next n l r a = record { once = λ k. a.once (suc k); left_end = λ k h. a.left_end (suc k) (omega arith); right_end = λ k h. a.right_end (suc k) (omega arith) }

pub record IsBoth (n d : ℕ) (l r : ℕ → Bool) : Type 0 where
  pub within : d < n
  pub calm : Calm d l r
  pub left_moves : l d ≡ false
  pub right_moves : r d ≡ false

pub record IsTurn (n d : ℕ) (l r : ℕ → Bool) : Type 0 where
  pub within : suc d < n
  pub calm : Calm d l r
  pub left_stays : l d ≡ true
  pub right_stays : r (suc d) ≡ true

-- what an event says
abbrev pub Says : ℕ → (ℕ → Bool) → (ℕ → Bool) → Event → Type 0
Says n l r (source d) = IsBoth n d l r
Says n l r (target d) = IsTurn n d l r
Says n l r critical = Calm n l r

calm_more : (d : ℕ) (l r : ℕ → Bool) → l 0 || r 0 ≡ true → l 0 && r 1 ≡ false → Calm d (next l) (next r) → Calm (suc d) l r
calm_more d l r h q c = record { stays = first; straight = turn }
  where
    first : (i : ℕ) → i < suc d → l i || r i ≡ true
    first zero b = h
    first (suc i) b = c.stays i (omega arith)

    turn : (i : ℕ) → i < suc d → l i && r (suc i) ≡ false
    turn zero b = q
    turn (suc i) b = c.straight i (omega arith)

says_later : (n : ℕ) (l r : ℕ → Bool) (e : Event) → l 0 || r 0 ≡ true → l 0 && r 1 ≡ false → Says n (next l) (next r) e → Says (suc n) l r (later e)
says_later n l r (source d) h q s = record { within = omega (arith, s.within); calm = calm_more d l r h q s.calm; left_moves = s.left_moves; right_moves = s.right_moves }
says_later n l r (target d) h q s = record { within = omega (arith, s.within); calm = calm_more d l r h q s.calm; left_stays = s.left_stays; right_stays = s.right_stays }
says_later n l r critical h q s = calm_more n l r h q s

calm_none : (l r : ℕ → Bool) → Calm 0 l r
calm_none l r = record { stays = λ i h. absurd (omega arith); straight = λ i h. absurd (omega arith) }

pub event_says : (n : ℕ) (l r : ℕ → Bool) → Apart n l r → Says n l r (event (word n l r))
event_says zero l r a = calm_none l r
event_says (suc n) l r a = by (cases_bool (l 0)) (cases_bool (r 0)) (cases_bool (r 1)) (event_says n (next l) (next r) (apart_next n l r a))
  where
    by : (l 0 ≡ true) ⊎ (l 0 ≡ false) → (r 0 ≡ true) ⊎ (r 0 ≡ false) → (r 1 ≡ true) ⊎ (r 1 ≡ false) → Says n (next l) (next r) (event (word n (next l) (next r)))
        → Says (suc n) l r (event (word (suc n) l r))
    by (inr e) (inr f) g s =
        subst (Says (suc n) l r) (sym (event-both (suc n) 0 l r (omega arith) (calm_none l r) e f))
        (record { within = omega arith; calm = calm_none l r; left_moves = e; right_moves = f })
    by (inr e) (inl f) g s =
        let h : l 0 || r 0 ≡ true = (λ i. e i || f i) in
        let q : l 0 && r 1 ≡ false = ap (λ b. b && r 1) e in
        subst (Says (suc n) l r) (sym (event-first n l r h q)) (says_later n l r (event (word n (next l) (next r))) h q s)
    by (inl e) f (inr g) s =
        let h : l 0 || r 0 ≡ true = ap (λ b. b || r 0) e in
        let q : l 0 && r 1 ≡ false = (λ i. e i && g i) in
        subst (Says (suc n) l r) (sym (event-first n l r h q)) (says_later n l r (event (word n (next l) (next r))) h q s)
    by (inl e) f (inl g) s = with_two (cases_lt 1 (suc n)) (cases_bool (l 1))
      where
        with_two : (1 < suc n) ⊎ (suc n ≤ 1) → (l 1 ≡ true) ⊎ (l 1 ≡ false) → Says (suc n) l r (event (word (suc n) l r))
        with_two (inr b) c = absurd (true≢false (sym g ∙ a.right_end 1 b))
        with_two (inl b) (inl c) = absurd (true≢false (sym g ∙ a.once 1 c))
        with_two (inl b) (inr c) =
            subst (Says (suc n) l r) (sym (event-turn (suc n) 0 l r b (calm_none l r) e c g))
            (record { within = b; calm = calm_none l r; left_stays = e; right_stays = g })

-- ---- the tests of the match

inserted-next : (d k : ℕ) (t : ℕ → Bool) → inserted (suc d) t (suc k) ≡ inserted d (next t) k
inserted-next d k t = by (cases_order k d)
  where
    by : (k ≡ d) ⊎ ((k < d) ⊎ (d < k)) → inserted (suc d) t (suc k) ≡ inserted d (next t) k
    by (inl e) = ap (λ j. inserted (suc d) t (suc j)) e ∙ inserted-here (suc d) t ∙ sym (ap (inserted d (next t)) e ∙ inserted-here d (next t))
    by (inr (inl h)) = inserted-below (suc d) (suc k) t (omega arith) ∙ sym (inserted-below d k (next t) h)
    by (inr (inr h)) =
        let e : k ≡ suc (k - 1) = omega arith in
        inserted-above (suc d) k t (omega arith) ∙ ap t e
        ∙ sym (ap (inserted d (next t)) e ∙ inserted-above d (k - 1) (next t) (omega arith))

pub matched-both : (n d : ℕ) (l r : ℕ → Bool) → d < n → Calm d l r → l d ≡ false → r d ≡ false → matched (word n l r) ≡ word (suc n) (inserted d l) (inserted (suc d) r)
matched-both zero d l r h c e f = absurd (omega arith)
matched-both (suc n) zero l r h c e f =
    ap matched (word-suc n l r ∙ (λ i. step (e i) (f i) ∷ word n (next l) (next r)))
    ∙ sym (word-suc (suc n) (inserted 0 l) (inserted 1 r)
    ∙ ap (λ w. step (inserted 0 l 0) (inserted 1 r 0) ∷ w) (word-suc n (next (inserted 0 l)) (next (inserted 1 r)))
    ∙ (λ i. step (inserted-here 0 l i) (inserted 1 r 0) ∷ (step ((inserted-above 0 0 l (omega arith) ∙ e) i) (inserted-here 1 r i)
    ∷ word_same n (next (next (inserted 0 l))) (next l) (next (next (inserted 1 r))) (next r) (λ k b. inserted-above 0 (suc k) l (omega arith)) (λ k b. inserted-above 1 (suc k) r (omega arith)) i)))
matched-both (suc n) (suc d) l r h c e f =
    ap matched (word-suc n l r) ∙ (first_calm n l r (c.stays 0 (omega arith)) (c.straight 0 (omega arith))).matched
    ∙ ap (λ w. step (l 0) (r 0) ∷ w) (matched-both n d (next l) (next r) (omega arith) (calm_next d l r c) e f)
    ∙ sym (word-suc (suc n) (inserted (suc d) l) (inserted (suc (suc d)) r)
    ∙ (λ i. step (inserted-below (suc d) 0 l (omega arith) i) (inserted-below (suc (suc d)) 0 r (omega arith) i)
    ∷ word_same (suc n) (next (inserted (suc d) l)) (inserted d (next l)) (next (inserted (suc (suc d)) r)) (inserted (suc d) (next r)) (λ k b. inserted-next d k l) (λ k b. inserted-next (suc d) k r) i))

-- the source of a target is what is matched with it
pub matched-turn : (n d : ℕ) (l r : ℕ → Bool) → suc d < suc n → Calm d l r → l d ≡ true → l (suc d) ≡ false → r d ≡ false → r (suc d) ≡ true
    → matched (word (suc n) l r) ≡ word n (dropped d l) (dropped (suc d) r)
matched-turn n d l r h c e f g q =
    ap matched (word_same (suc n) l (inserted d (dropped d l)) r (inserted (suc d) (dropped (suc d) r)) (λ k b. sym (put_back d k l e)) (λ k b. sym (put_back (suc d) k r q))
    ∙ sym (matched-both n d (dropped d l) (dropped (suc d) r) (omega arith) calm (dropped-above d d l (omega arith) ∙ f) (dropped-below (suc d) d r (omega arith) ∙ g)))
    ∙ matched-matched (word n (dropped d l) (dropped (suc d) r))
  where
    calm : Calm d (dropped d l) (dropped (suc d) r)
    calm = record {
      stays = λ i b. (λ j. dropped-below d i l b j || dropped-below (suc d) i r (omega arith) j) ∙ c.stays i b;
      straight = λ i b. (λ j. dropped-below d i l b j && dropped-below (suc d) (suc i) r (omega arith) j) ∙ c.straight i b;
    }

-- ---- the match's tests are apart again

pub apart-inserted : (n d : ℕ) (l r : ℕ → Bool) → Apart n l r → IsBoth n d l r → Apart (suc n) (inserted d l) (inserted (suc d) r)
apart-inserted n d l r a b = record { once = once; left_end = left_end; right_end = right_end }
  where
    once : (k : ℕ) → inserted d l k ≡ true → inserted (suc d) r k ≡ false
    once k q = by (cases_order k d) (cases_order k (suc d))
      where
        by : (k ≡ d) ⊎ ((k < d) ⊎ (d < k)) → (k ≡ suc d) ⊎ ((k < suc d) ⊎ (suc d < k)) → inserted (suc d) r k ≡ false
        by (inl e) c = inserted-below (suc d) k r (omega arith) ∙ ap r e ∙ b.right_moves
        by (inr (inl h)) c = inserted-below (suc d) k r (omega arith) ∙ a.once k (sym (inserted-below d k l h) ∙ q)
        by (inr (inr h)) (inl e) = absurd (true≢false (sym q ∙ ap (inserted d l) e ∙ inserted-above d d l (omega arith) ∙ b.left_moves))
        by (inr (inr h)) (inr (inl g)) = absurd (omega arith)
        by (inr (inr h)) (inr (inr g)) =
            let e : k ≡ suc (k - 1) = omega arith in
            ap (inserted (suc d) r) e ∙ inserted-above (suc d) (k - 1) r (omega arith)
            ∙ a.once (k - 1) (sym (ap (inserted d l) e ∙ inserted-above d (k - 1) l (omega arith)) ∙ q)

    left_end : (k : ℕ) → suc n ≤ k → inserted d l k ≡ false
    left_end k h =
        let e : k ≡ suc (k - 1) = omega arith in
        ap (inserted d l) e ∙ inserted-above d (k - 1) l (omega (arith, b.within)) ∙ a.left_end (k - 1) (omega arith)

    right_end : (k : ℕ) → suc n ≤ k → inserted (suc d) r k ≡ false
    right_end k h =
        let e : k ≡ suc (k - 1) = omega arith in
        ap (inserted (suc d) r) e ∙ inserted-above (suc d) (k - 1) r (omega (arith, b.within)) ∙ a.right_end (k - 1) (omega arith)

-- the left part moves where the right part stays
pub left_moves_at : (n k : ℕ) (l r : ℕ → Bool) → Apart n l r → r k ≡ true → l k ≡ false
left_moves_at n k l r a q = by (cases_bool (l k))
  where
    by : (l k ≡ true) ⊎ (l k ≡ false) → l k ≡ false
    by (inl e) = absurd (true≢false (sym q ∙ a.once k e))
    by (inr e) = e

pub apart-dropped : (n d : ℕ) (l r : ℕ → Bool) → Apart (suc n) l r → IsTurn (suc n) d l r → Apart n (dropped d l) (dropped (suc d) r)
apart-dropped n d l r a b = record {
  once = once;
  left_end = λ k h. dropped-above d k l (omega (arith, b.within)) ∙ a.left_end (suc k) (omega arith);
  right_end = λ k h. dropped-above (suc d) k r (omega (arith, b.within)) ∙ a.right_end (suc k) (omega arith);
}
  where
    once : (k : ℕ) → dropped d l k ≡ true → dropped (suc d) r k ≡ false
    once k q = by (cases_order k d)
      where
        by : (k ≡ d) ⊎ ((k < d) ⊎ (d < k)) → dropped (suc d) r k ≡ false
        by (inl e) = absurd (true≢false (sym q ∙ ap (dropped d l) e ∙ dropped-above d d l (omega arith) ∙ left_moves_at (suc n) (suc d) l r a b.right_stays))
        by (inr (inl h)) = dropped-below (suc d) k r (omega arith) ∙ a.once k (sym (dropped-below d k l h) ∙ q)
        by (inr (inr h)) = dropped-above (suc d) k r (omega arith) ∙ a.once (suc k) (sym (dropped-above d k l (omega arith)) ∙ q)

-- ---- one step more

pub word-last : (n : ℕ) (l r : ℕ → Bool) → word (suc n) l r ≡ word n l r ++ step (l n) (r n) ∷ []
word-last zero l r = refl
word-last (suc n) l r =
    word-suc (suc n) l r ∙ ap (λ w. step (l 0) (r 0) ∷ w) (word-last n (next l) (next r))
    ∙ ap (λ w. w ++ step (l (suc n)) (r (suc n)) ∷ []) (sym (word-suc n l r))

rights-step : (x y : Bool) → rights (step x y ∷ []) ≡ cond x 1 0
rights-step true y = refl
rights-step false true = refl
rights-step false false = refl

pub rights-word : (n : ℕ) (l r : ℕ → Bool) → rights (word n l r) ≡ count_below n l
rights-word zero l r = refl
rights-word (suc n) l r =
    ap rights (word-last n l r) ∙ rights-append (word n l r) (step (l n) (r n) ∷ [])
    ∙ (λ i. rights-word n l r i + rights-step (l n) (r n) i)

-- only the left part moves at the last step: its pairs are with the steps before at which only the right part moves
pub pairs-last : (n : ℕ) (l r : ℕ → Bool) → r n ≡ true → l n ≡ false → pairs (word (suc n) l r) ≡ pairs (word n l r) + count_below n l
pairs-last n l r q e =
    ap pairs (word-last n l r ∙ (λ i. word n l r ++ step (e i) (q i) ∷ [])) ∙ pairs-left (word n l r) ∙ ap (λ k. pairs (word n l r) + k) (rights-word n l r)

pub pairs-same : (n : ℕ) (l r : ℕ → Bool) → r n ≡ false → pairs (word (suc n) l r) ≡ pairs (word n l r)
pairs-same n l r q = ap pairs (word-last n l r ∙ (λ i. word n l r ++ step (l n) (q i) ∷ [])) ∙ by (l n)
  where
    by : (x : Bool) → pairs (word n l r ++ step x false ∷ []) ≡ pairs (word n l r)
    by true = pairs-right (word n l r)
    by false = pairs-both (word n l r)
