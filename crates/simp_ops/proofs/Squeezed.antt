-- Common places are taken out of a pair of words, in one way.
use Rattle.std.proofs.Common.{◌≡◌, ℕ, zero, suc, ◌+◌, ◌-◌, ◌<◌, ◌≤◌, Bool, true, false, cond, ◌||◌, ◌&&◌, List, [], ◌∷◌, length, refl, sym, ◌∙◌, ap, subst, arith, ◌⊎◌, inl, inr, true≢false}
use Rattle.std.proofs.lemmas.Bool.{cases_lt, cases_order}
use Rattle.simp_ops.specs.Words.{IsWord, degeneracy_word, compose_words, face_word, absorbed, has}
use Rattle.simp_ops.specs.Bits.{places, dropped, inserted, count_below}
use Rattle.simp_ops.proofs.PlacesOf.{places_same, places_word, word_below, is_eq, not_eq, degeneracy-places, inserted-below, inserted-above, inserted-here, dropped-below, dropped-above}
use Rattle.simp_ops.proofs.Masks.{places_has, has_far, put_back}
use Rattle.simp_ops.specs.PairForms.{PairForm, IsPairForm, Stands, ArePairForms}
use Rattle.simp_ops.proofs.MaskWords.{length-places, has-places}
use Rattle.simp_ops.proofs.WordLaws.{face-degeneracy}

-- ---- degeneracies are one to one, since d_j s_j is nothing

degeneracy_once : (j : ℕ) (w v : List ℕ) → degeneracy_word j w ≡ degeneracy_word j v → w ≡ v
degeneracy_once j w v e = let f : absorbed w ≡ absorbed v = sym (face-degeneracy j w) ∙ ap (face_word j) e ∙ face-degeneracy j v in cc

pub compose_once : (c w v : List ℕ) → compose_words c w ≡ compose_words c v → w ≡ v
compose_once [] w v e = e
compose_once (j ∷ c) w v e = compose_once c w v (degeneracy_once j (compose_words c w) (compose_words c v) e)

-- ---- the places of a word before a word

pub composed : (ℕ → Bool) → (ℕ → Bool) → ℕ → Bool
composed c r k = c k || r (k - count_below k c)

count_same : (k : ℕ) (t u : ℕ → Bool) → ((i : ℕ) → i < k → t i ≡ u i) → count_below k t ≡ count_below k u
count_same zero t u e = refl
count_same (suc k) t u e = λ i. count_same k t u (λ l h. e l (omega arith)) i + cond (e k (omega arith) i) 1 0

count-word : (k : ℕ) (w : List ℕ) → IsWord k w → count_below k (has w) ≡ length w
count-word k w is = sym (length-places k (has w)) ∙ ap length (places_has k w is)

has-other : (j k : ℕ) (w : List ℕ) → (k ≡ j → ⊥) → has (j ∷ w) k ≡ has w k
has-other j k w d = ap (λ b. b || has w k) (not_eq k j d)

composed-cons : (j k : ℕ) (c : List ℕ) (r : ℕ → Bool) → IsWord j c → inserted j (composed (has c) r) k ≡ composed (has (j ∷ c)) r k
unfolding composed
composed-cons j k c r is = by (cases_order k j)
  where
    by : (k ≡ j) ⊎ ((k < j) ⊎ (j < k)) → inserted j (composed (has c) r) k ≡ composed (has (j ∷ c)) r k
    by (inl e) = ap (inserted j (composed (has c) r)) e ∙ inserted-here j (composed (has c) r) ∙ sym (ap (λ b. (b || has c k) || r (k - count_below k (has (j ∷ c)))) (is_eq k j e))
    by (inr (inl h)) =
        inserted-below j k (composed (has c) r) h
        ∙ (λ i. sym (has-other j k c (λ e. omega arith)) i || r (k - count_same k (has c) (has (j ∷ c)) (λ l g. sym (has-other j l c (λ e. omega arith))) i))
    by (inr (inr h)) =
        let m : k ≡ suc (k - 1) = omega arith in
        let f : has c (k - 1) ≡ false = has_far j (k - 1) c is (omega arith) in
        let g : has (j ∷ c) k ≡ false = has-other j k c (λ e. omega arith) ∙ has_far j k c is (omega arith) in
        let a : count_below (k - 1) (has c) ≡ length c = count-word (k - 1) c (word_below j (k - 1) c (omega arith) is) in
        let b : count_below k (has (j ∷ c)) ≡ suc (length c) = count-word k (j ∷ c) (h, is) in
        let n : k - 1 - length c ≡ k - suc (length c) = omega arith in
        ap (inserted j (composed (has c) r)) m ∙ inserted-above j (k - 1) (composed (has c) r) (omega arith)
        ∙ (λ i. f i || r (k - 1 - a i)) ∙ ap r n ∙ (λ i. sym g i || r (k - sym b i))

pub compose-places : (n : ℕ) (c r : List ℕ) → IsWord n c → IsWord (n - length c) r → compose_words c r ≡ places n (composed (has c) (has r))
unfolding composed
compose-places n [] r is js =
    let e : n - 0 ≡ n = omega arith in
    sym (places_has n r (subst (λ m. IsWord m r) e js))
    ∙ places_same n (has r) (composed (has []) (has r)) (λ k l. let z : k ≡ k - count_below k (has []) = zero_count k in ap (has r) z)
  where
    zero_count : (k : ℕ) → k ≡ k - count_below k (has [])
    zero_count k = let z : count_below k (has []) ≡ 0 = count-word k [] tt in omega (arith, z)
compose-places zero (j ∷ c) r is js = absurd (omega (arith, is.0))
compose-places (suc n) (j ∷ c) r is js =
    let b : j < suc n = is.0 in
    let e : suc n - suc (length c) ≡ n - length c = omega arith in
    ap (degeneracy_word j) (compose-places n c r (word_below j n c (omega (arith, b)) is.1) (subst (λ m. IsWord m r) e js))
    ∙ degeneracy-places n j (composed (has c) (has r)) (omega (arith, b))
    ∙ places_same (suc n) (inserted j (composed (has c) (has r))) (composed (has (j ∷ c)) (has r)) (λ k l. composed-cons j k c (has r) is.1)

-- ---- the common places are taken out, the highest first

taken : (n j : ℕ) (u : List ℕ) → IsWord (suc n) u → j ≤ n → has u j ≡ true → degeneracy_word j (places n (dropped j (has u))) ≡ u
taken n j u is h q =
    degeneracy-places n j (dropped j (has u)) h ∙ places_same (suc n) (inserted j (dropped j (has u))) (has u) (λ k l. put_back j k (has u) q) ∙ places_has (suc n) u is

record Squeezed (n : ℕ) (c u v : List ℕ) : Type 0 where
  pub left : List ℕ
  pub right : List ℕ
  pub is_left : IsWord (n - length c) left
  pub is_right : IsWord (n - length c) right
  pub apart : (k : ℕ) → has left k ≡ true → has right k ≡ true → ⊥
  pub gives_left : compose_words c left ≡ u
  pub gives_right : compose_words c right ≡ v

-- a place of the word that is left
kept : (n j k : ℕ) (u : List ℕ) → has (places n (dropped j (has u))) k ≡ true → dropped j (has u) k ≡ true
kept n j k u q = by (cases_lt k n)
  where
    by : (k < n) ⊎ (n ≤ k) → dropped j (has u) k ≡ true
    by (inl h) = sym (has-places n k (dropped j (has u)) h) ∙ q
    by (inr h) = absurd (true≢false (sym q ∙ has_far n k (places n (dropped j (has u))) (places_word n (dropped j (has u))) h))

inside : (n j : ℕ) (c u : List ℕ) → IsWord j c → j ≤ n → ((k : ℕ) → has (j ∷ c) k ≡ true → has u k ≡ true) → (k : ℕ) → has c k ≡ true → has (places n (dropped j (has u))) k ≡ true
inside n j c u is h all k q = by (cases_lt k j)
  where
    by : (k < j) ⊎ (j ≤ k) → has (places n (dropped j (has u))) k ≡ true
    by (inl l) = has-places n k (dropped j (has u)) (omega arith) ∙ dropped-below j k (has u) l ∙ all k (has-other j k c (λ e. omega arith) ∙ q)
    by (inr l) = absurd (true≢false (sym q ∙ has_far j k c is l))

squeeze : (n : ℕ) (c u v : List ℕ) → IsWord n c → IsWord n u → IsWord n v
    → ((k : ℕ) → has c k ≡ true → has u k ≡ true) → ((k : ℕ) → has c k ≡ true → has v k ≡ true)
    → ((k : ℕ) → has u k ≡ true → has v k ≡ true → has c k ≡ true) → Squeezed n c u v
squeeze n [] u v is iu iv cu cv all =
    let e : n ≡ n - 0 = omega arith in
    record {
      left = u;
      right = v;
      is_left = subst (λ m. IsWord m u) e iu;
      is_right = subst (λ m. IsWord m v) e iv;
      apart = λ k p q. true≢false (sym (all k p q));
      gives_left = refl;
      gives_right = refl;
    }
squeeze zero (j ∷ c) u v is iu iv cu cv all = absurd (omega (arith, is.0))
squeeze (suc n) (j ∷ c) u v is iu iv cu cv all =
    let b : j < suc n = is.0 in
    let h : j ≤ n = omega (arith, b) in
    let here : has (j ∷ c) j ≡ true = ap (λ t. t || has c j) (is_eq j j refl) in
    with_rest h here (squeeze n c (places n (dropped j (has u))) (places n (dropped j (has v))) (word_below j n c h is.1) (places_word n (dropped j (has u))) (places_word n (dropped j (has v)))
    (inside n j c u is.1 h cu) (inside n j c v is.1 h cv)
    (λ k p q. both k (kept n j k u p) (kept n j k v q) (cases_lt k j)))
  where
    both : (k : ℕ) → dropped j (has u) k ≡ true → dropped j (has v) k ≡ true → (k < j) ⊎ (j ≤ k) → has c k ≡ true
    both k p q (inl l) = sym (has-other j k c (λ e. omega arith)) ∙ all k (sym (dropped-below j k (has u) l) ∙ p) (sym (dropped-below j k (has v) l) ∙ q)
    both k p q (inr l) =
        absurd (true≢false (sym (all (suc k) (sym (dropped-above j k (has u) l) ∙ p) (sym (dropped-above j k (has v) l) ∙ q))
        ∙ has-other j (suc k) c (λ e. omega arith) ∙ has_far j (suc k) c is.1 (omega arith)))

    with_rest : j ≤ n → has (j ∷ c) j ≡ true → Squeezed n c (places n (dropped j (has u))) (places n (dropped j (has v))) → Squeezed (suc n) (j ∷ c) u v
    with_rest h here r =
        let e : n - length c ≡ suc n - suc (length c) = omega arith in
        record {
          left = r.left;
          right = r.right;
          is_left = subst (λ m. IsWord m r.left) e r.is_left;
          is_right = subst (λ m. IsWord m r.right) e r.is_right;
          apart = r.apart;
          gives_left = ap (degeneracy_word j) r.gives_left ∙ taken n j u iu h (cu j here);
          gives_right = ap (degeneracy_word j) r.gives_right ∙ taken n j v iv h (cv j here);
        }

-- ---- the forms of pairs

pub and_left : (a b : Bool) → a && b ≡ true → a ≡ true
and_left true b e = refl
and_left false b e = e

pub and_right : (a b : Bool) → a && b ≡ true → b ≡ true
and_right true b e = e
and_right false b e = absurd (true≢false (sym e))

and_both : (a b : Bool) → a ≡ true → b ≡ true → a && b ≡ true
and_both a b e f = λ i. (e ∙ refl) i && f i

abbrev pub meet : List ℕ → List ℕ → ℕ → Bool
meet u v k = has u k && has v k

in_meet : (n k : ℕ) (u v : List ℕ) → has (places n (meet u v)) k ≡ true → meet u v k ≡ true
in_meet n k u v q = by (cases_lt k n)
  where
    by : (k < n) ⊎ (n ≤ k) → meet u v k ≡ true
    by (inl h) = sym (has-places n k (meet u v) h) ∙ q
    by (inr h) = absurd (true≢false (sym q ∙ has_far n k (places n (meet u v)) (places_word n (meet u v)) h))

to_meet : (n k : ℕ) (u v : List ℕ) → IsWord n u → has u k ≡ true → has v k ≡ true → has (places n (meet u v)) k ≡ true
to_meet n k u v is p q = by (cases_lt k n)
  where
    by : (k < n) ⊎ (n ≤ k) → has (places n (meet u v)) k ≡ true
    by (inl h) = has-places n k (meet u v) h ∙ and_both (has u k) (has v k) p q
    by (inr h) = absurd (true≢false (sym p ∙ has_far n k u is h))

-- the common places of the pair are those of the form
met : (c a b : Bool) → (a ≡ true → b ≡ true → ⊥) → (c || a) && (c || b) ≡ c
met true a b d = refl
met false true true d = absurd (d refl refl)
met false true false d = refl
met false false b d = refl

pub common_is : (n : ℕ) (f : PairForm) (u v : List ℕ) → IsPairForm n f → Stands f u v → places n (meet u v) ≡ f.common
unfolding composed
common_is n f u v is st =
    places_same n (meet u v) (has f.common) (λ k h.
    (λ i. has ((sym st.left ∙ compose-places n f.common f.left is.common is.left) i) k && has ((sym st.right ∙ compose-places n f.common f.right is.common is.right) i) k)
    ∙ (λ i. has-places n k (composed (has f.common) (has f.left)) h i && has-places n k (composed (has f.common) (has f.right)) h i)
    ∙ met (has f.common k) (has f.left (k - count_below k (has f.common))) (has f.right (k - count_below k (has f.common))) (is.apart (k - count_below k (has f.common))))
    ∙ places_has n f.common is.common

pub pair_forms : (n : ℕ) → ArePairForms n
pair_forms n = record {
  onto = λ u v iu iv.
      let c = places n (meet u v) in
      let s : Squeezed n c u v = squeeze n c u v (places_word n (meet u v)) iu iv (λ k q. and_left (has u k) (has v k) (in_meet n k u v q)) (λ k q. and_right (has u k) (has v k) (in_meet n k u v q)) (λ k p q. to_meet n k u v iu p q) in (
        record { common = c; left = s.left; right = s.right },
        record { common = places_word n (meet u v); left = s.is_left; right = s.is_right; apart = s.apart },
        record { left = s.gives_left; right = s.gives_right },
      );
  once = λ f g u v is js st su.
      let e : f.common ≡ g.common = sym (common_is n f u v is st) ∙ common_is n g u v js su in
      λ i. record {
        common = e i;
        left = compose_once g.common f.left g.left (ap (λ c. compose_words c f.left) (sym e) ∙ st.left ∙ sym su.left) i;
        right = compose_once g.common f.right g.right (ap (λ c. compose_words c f.right) (sym e) ∙ st.right ∙ sym su.right) i;
      };
}
