-- A face that two words of degeneracies both absorb joins two neighbours of their path word, `left right` or `right left`, to `both`.
use Rattle.std.proofs.Common.{◌≡◌, ℕ, zero, suc, ◌-◌, ◌<◌, ◌≤◌, Bool, true, false, List, [], ◌∷◌, ◌++◌, refl, sym, ◌∙◌, ap, subst, arith, ◌⊎◌, inl, inr, true≢false}
use Rattle.std.proofs.lemmas.Bool.{cases_lt}
use Rattle.simp_ops.specs.Words.{IsWord, has, face_word, absorbed, through}
use Rattle.simp_ops.specs.Bits.{places, dropped, count_below}
use Rattle.simp_ops.specs.PathWords.{Step, both, left, right, step, matched, pairs}
use Rattle.simp_ops.proofs.PlacesOf.{cases_bool, face-absorbed, face-absorbed_next, face-through, dropped-below, dropped-above}
use Rattle.simp_ops.proofs.Masks.{places_has, has_far}
use Rattle.simp_ops.proofs.MaskWords.{has-places}
use Rattle.path_words.specs.MaskPaths.{IsSource}
use Rattle.path_words.specs.Pairing.{degens_path, Joins, GainsOrOwn}
use Rattle.path_words.proofs.Steps.{move-own, move-gains}
use Rattle.path_words.proofs.PathTests.{next, word, word-suc, word_same}

-- ---- two neighbours joined to one step

record Joined (v w : List Step) (s t : Step) : Type 0 where
  pub front : List Step
  pub rest : List Step
  pub whole : v ≡ front ++ s ∷ (t ∷ rest)
  pub face : w ≡ front ++ both ∷ rest

module _ (l r m s : ℕ → Bool) (d : ℕ) where
  -- the tests m, s are l, r with the places d and d + 1 joined, where both move
  record AreJoined : Type 0 where
    pub left_below : (k : ℕ) → k < d → m k ≡ l k
    pub right_below : (k : ℕ) → k < d → s k ≡ r k
    pub left_moves : m d ≡ false
    pub right_moves : s d ≡ false
    pub left_above : (k : ℕ) → d < k → m k ≡ l (suc k)
    pub right_above : (k : ℕ) → d < k → s k ≡ r (suc k)

joined : (n d : ℕ) (l r m s : ℕ → Bool) → d < n → AreJoined l r m s d → Joined (word (suc n) l r) (word n m s) (step (l d) (r d)) (step (l (suc d)) (r (suc d)))
joined zero d l r m s h a = absurd (omega arith)
joined (suc n) zero l r m s h a = record {
  front = [];
  rest = word n (next (next l)) (next (next r));
  whole = word-suc (suc n) l r ∙ ap (λ w. step (l 0) (r 0) ∷ w) (word-suc n (next l) (next r));
  face =
      word-suc n m s
      ∙ (λ i. step (a.left_moves i) (a.right_moves i) ∷ word_same n (next m) (next (next l)) (next s) (next (next r)) (λ k b. a.left_above (suc k) (omega arith)) (λ k b. a.right_above (suc k) (omega arith)) i);
}
joined (suc n) (suc d) l r m s h a =
    longer (joined n d (next l) (next r) (next m) (next s) (omega arith) (record {
      left_below = λ k b. a.left_below (suc k) (omega arith);
      right_below = λ k b. a.right_below (suc k) (omega arith);
      left_moves = a.left_moves;
      right_moves = a.right_moves;
      left_above = λ k b. a.left_above (suc k) (omega arith);
      right_above = λ k b. a.right_above (suc k) (omega arith);
    }))
  where
    longer : Joined (word (suc n) (next l) (next r)) (word n (next m) (next s)) (step (l (suc d)) (r (suc d))) (step (l (suc (suc d))) (r (suc (suc d))))
        → Joined (word (suc (suc n)) l r) (word (suc n) m s) (step (l (suc d)) (r (suc d))) (step (l (suc (suc d))) (r (suc (suc d))))
    longer j = record {
      front = step (l 0) (r 0) ∷ j.front;
      rest = j.rest;
      whole = word-suc (suc n) l r ∙ ap (λ w. step (l 0) (r 0) ∷ w) j.whole;
      face =
          word-suc n m s ∙ (λ i. step (a.left_below 0 (omega arith) i) (a.right_below 0 (omega arith) i) ∷ word n (next m) (next s))
          ∙ ap (λ w. step (l 0) (r 0) ∷ w) j.face;
    }

-- ---- which place absorbs a face

-- the face i of a word is absorbed at place d
record AbsorbedAt (n i d : ℕ) (u v : List ℕ) : Type 0 where
  pub place : has u d ≡ true
  pub within : d ≤ n
  pub near : (d ≡ i) ⊎ (suc d ≡ i)
  pub tests : (k : ℕ) → k < n → has v k ≡ dropped d (has u) k

same_absorbed : (v w : List ℕ) → absorbed v ≡ absorbed w → v ≡ w
same_absorbed v w e = cc

tests_of : (n d : ℕ) (u v : List ℕ) → absorbed v ≡ absorbed (places n (dropped d (has u))) → (k : ℕ) → k < n → has v k ≡ dropped d (has u) k
tests_of n d u v e k h = ap (λ w. has w k) (same_absorbed v (places n (dropped d (has u))) e) ∙ has-places n k (dropped d (has u)) h

inside : (n k : ℕ) (u : List ℕ) → IsWord (suc n) u → has u k ≡ true → k ≤ n
inside n k u is q = by (cases_lt n k)
  where
    by : (n < k) ⊎ (k ≤ n) → k ≤ n
    by (inl h) = absurd (true≢false (sym q ∙ has_far (suc n) k u is (omega arith)))
    by (inr h) = h

absorbed_at : (n i : ℕ) (u v : List ℕ) → IsWord (suc n) u → i ≤ suc n → face_word i u ≡ absorbed v → (d : ℕ) × AbsorbedAt n i d u v
absorbed_at n i u v is h e = by (cases_bool (has u i)) (before i refl)
  where
    whole : places (suc n) (has u) ≡ u
    whole = places_has (suc n) u is

    before : (k : ℕ) → k ≡ i → ((p : ℕ) × (suc p ≡ i) × (has u p ≡ true)) ⊎ ((p : ℕ) → suc p ≡ i → has u p ≡ false)
    before zero f = inr (λ p g. absurd (omega arith))
    before (suc k) f = split (cases_bool (has u k))
      where
        split : (has u k ≡ true) ⊎ (has u k ≡ false) → ((p : ℕ) × (suc p ≡ i) × (has u p ≡ true)) ⊎ ((p : ℕ) → suc p ≡ i → has u p ≡ false)
        split (inl q) = inl (k, f, q)
        split (inr q) = inr (λ p g. let z : p ≡ k = omega arith in ap (has u) z ∙ q)

    by : (has u i ≡ true) ⊎ (has u i ≡ false) → ((p : ℕ) × (suc p ≡ i) × (has u p ≡ true)) ⊎ ((p : ℕ) → suc p ≡ i → has u p ≡ false) → (d : ℕ) × AbsorbedAt n i d u v
    by (inl q) c = (
      i,
      record {
        place = q;
        within = inside n i u is q;
        near = inl refl;
        tests = tests_of n i u v (sym e ∙ ap (face_word i) (sym whole) ∙ face-absorbed n i (has u) (inside n i u is q) q);
      },
    )
    by (inr q) (inl c) =
        let p = c.0 in
        let f : suc p ≡ i = c.1 in (
          p,
          record {
            place = c.2;
            within = inside n p u is c.2;
            near = inr c.1;
            tests = tests_of n p u v (sym e ∙ ap (λ k. face_word k u) (sym f) ∙ ap (face_word (suc p)) (sym whole) ∙ face-absorbed_next n p (has u) (inside n p u is c.2) c.2 (ap (has u) f ∙ q));
          },
        )
    by (inr q) (inr c) =
        absurd (not_both v (i - count_below i (has u)) (places n (dropped i (has u))) (sym e ∙ ap (face_word i) (sym whole) ∙ face-through n i (has u) h q c))
      where
        not_both : (v : List ℕ) (k : ℕ) (w : List ℕ) → absorbed v ≡ through k w → ⊥
        not_both v k w g = absurd (cc)

-- ---- both words absorb the face

module _ (n i : ℕ) (u v u' v' : List ℕ) (apart : (k : ℕ) → has u k ≡ true → has v k ≡ true → ⊥) where
  off_left : (k : ℕ) → has v k ≡ true → has u k ≡ false
  off_left k q = by (cases_bool (has u k))
    where
      by : (has u k ≡ true) ⊎ (has u k ≡ false) → has u k ≡ false
      by (inl e) = absurd (apart k e q)
      by (inr e) = e

  off_right : (k : ℕ) → has u k ≡ true → has v k ≡ false
  off_right k q = by (cases_bool (has v k))
    where
      by : (has v k ≡ true) ⊎ (has v k ≡ false) → has v k ≡ false
      by (inl e) = absurd (apart k q e)
      by (inr e) = e

  -- where the left word has place d and the right one d + 1
  joined_turn : (d : ℕ) → AbsorbedAt n i d u u' → AbsorbedAt n i (suc d) v v' → Joined (degens_path (suc n) u v) (degens_path n u' v') right left
  joined_turn d a b =
      put (joined n d (has u) (has v) (dropped d (has u)) (dropped (suc d) (has v)) (omega (arith, b.within)) (record {
        left_below = λ k h. dropped-below d k (has u) h;
        right_below = λ k h. dropped-below (suc d) k (has v) (omega arith);
        left_moves = dropped-above d d (has u) (omega arith) ∙ off_left (suc d) b.place;
        right_moves = dropped-below (suc d) d (has v) (omega arith) ∙ off_right d a.place;
        left_above = λ k h. dropped-above d k (has u) (omega arith);
        right_above = λ k h. dropped-above (suc d) k (has v) (omega arith);
      }))
    where
      put : Joined (word (suc n) (has u) (has v)) (word n (dropped d (has u)) (dropped (suc d) (has v))) (step (has u d) (has v d)) (step (has u (suc d)) (has v (suc d))) → Joined (degens_path (suc n) u v) (degens_path n u' v') right left
      put j = record {
        front = j.front;
        rest = j.rest;
        whole = j.whole ∙ (λ t. j.front ++ step (a.place t) (has v d) ∷ (step (off_left (suc d) b.place t) (b.place t) ∷ j.rest));
        face = word_same n (has u') (dropped d (has u)) (has v') (dropped (suc d) (has v)) a.tests b.tests ∙ j.face;
      }

  joined_bend : (d : ℕ) → AbsorbedAt n i (suc d) u u' → AbsorbedAt n i d v v' → Joined (degens_path (suc n) u v) (degens_path n u' v') left right
  joined_bend d a b =
      put (joined n d (has u) (has v) (dropped (suc d) (has u)) (dropped d (has v)) (omega (arith, a.within)) (record {
        left_below = λ k h. dropped-below (suc d) k (has u) (omega arith);
        right_below = λ k h. dropped-below d k (has v) h;
        left_moves = dropped-below (suc d) d (has u) (omega arith) ∙ off_left d b.place;
        right_moves = dropped-above d d (has v) (omega arith) ∙ off_right (suc d) a.place;
        left_above = λ k h. dropped-above (suc d) k (has u) (omega arith);
        right_above = λ k h. dropped-above d k (has v) (omega arith);
      }))
    where
      put : Joined (word (suc n) (has u) (has v)) (word n (dropped (suc d) (has u)) (dropped d (has v))) (step (has u d) (has v d)) (step (has u (suc d)) (has v (suc d))) → Joined (degens_path (suc n) u v) (degens_path n u' v') left right
      put j = record {
        front = j.front;
        rest = j.rest;
        whole = j.whole ∙ (λ t. j.front ++ step (off_left d b.place t) (b.place t) ∷ (step (a.place t) (has v (suc d)) ∷ j.rest));
        face = word_same n (has u') (dropped (suc d) (has u)) (has v') (dropped d (has v)) a.tests b.tests ∙ j.face;
      }

  absorbed_by_both : ((d : ℕ) × AbsorbedAt n i d u u') → ((d : ℕ) × AbsorbedAt n i d v v')
      → Joined (degens_path (suc n) u v) (degens_path n u' v') right left ⊎ Joined (degens_path (suc n) u v) (degens_path n u' v') left right
  absorbed_by_both a b = by a.1.near b.1.near
    where
      same : a.0 ≡ b.0 → ⊥
      same e = apart b.0 (ap (has u) (sym e) ∙ a.1.place) b.1.place

      by : (a.0 ≡ i) ⊎ (suc a.0 ≡ i) → (b.0 ≡ i) ⊎ (suc b.0 ≡ i)
          → Joined (degens_path (suc n) u v) (degens_path n u' v') right left ⊎ Joined (degens_path (suc n) u v) (degens_path n u' v') left right
      by (inl e) (inl f) = absurd (same (e ∙ sym f))
      by (inr e) (inr f) = let z : a.0 ≡ b.0 = omega arith in absurd (same z)
      by (inr e) (inl f) = let z : b.0 ≡ suc a.0 = omega arith in inl (joined_turn a.0 a.1 (subst (λ d. AbsorbedAt n i d v v') z b.1))
      by (inl e) (inr f) = let z : a.0 ≡ suc b.0 = omega arith in inr (joined_bend b.0 (subst (λ d. AbsorbedAt n i d u u') z a.1) b.1)

-- ---- the move

gains_or_own : (v w : List Step) → Joined v w right left ⊎ Joined v w left right → (IsSource v → ⊥) → IsSource w → GainsOrOwn v w
gains_or_own v w (inl j) f t =
    inl (ap matched j.face ∙ move-own j.front j.rest (λ s. f (subst IsSource (sym j.whole) s)) (subst IsSource j.face t) ∙ sym j.whole)
gains_or_own v w (inr j) f t =
    inr (ap (λ x. pairs (matched x)) j.face ∙ move-gains j.front j.rest (λ s. f (subst IsSource (sym j.whole) s)) (subst IsSource j.face t) ∙ ap (λ x. suc (pairs x)) (sym j.whole))

pub face_moves : (n i : ℕ) (u v u' v' : List ℕ) → Joins n i u v u' v' → (IsSource (degens_path (suc n) u v) → ⊥) → IsSource (degens_path n u' v') → GainsOrOwn (degens_path (suc n) u v) (degens_path n u' v')
face_moves n i u v u' v' j f t =
    gains_or_own (degens_path (suc n) u v) (degens_path n u' v')
    (absorbed_by_both n i u v u' v' j.apart (absorbed_at n i u u' j.left j.index j.left_face) (absorbed_at n i v v' j.right j.index j.right_face)) f t
