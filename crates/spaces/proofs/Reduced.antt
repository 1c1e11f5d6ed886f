-- Reduced words are a group: words act on reduced words letter by letter, and the product of two words is this action.
use Rattle.std.proofs.Common.{◌≡◌, Bool, true, false, not, cond, ◌&&◌, List, [], ◌∷◌, ◌++◌, ◌⊎◌, inl, inr, refl, sym, ◌∙◌, ap, subst, true≢false, append-nil, append_assoc}
use Rattle.std.specs.Cmp.{first_so, second_so}
use Rattle.std.proofs.lemmas.Bool.{cases_Bool}
use Rattle.spaces.specs.Simplicial.{Simplicial, IsSimplicial, has_degeneracy}
use Rattle.spaces.specs.LoopGroups.{Letter, cancels, before, reduce, word_times, IsReduced}
use Rattle.spaces.specs.WordGroups.{IsGroup, inverse_word}

-- the second test of letters that cancel
opposite : (a b : Bool) → cond a (not b) b ≡ true → b ≡ not a
opposite true true h = absurd (true≢false (sym h))
opposite true false h = refl
opposite false true h = refl
opposite false false h = absurd (true≢false (sym h))

opposite_so : (a : Bool) → cond a (not (not a)) (not a) ≡ true
opposite_so true = refl
opposite_so false = refl

not_twice : (a : Bool) → not (not a) ≡ a
not_twice true = refl
not_twice false = refl

-- letters cancel where their inverses do, the other way round
opposite_turned : (a b : Bool) → cond (not b) (not (not a)) (not a) ≡ cond a (not b) b
opposite_turned true true = refl
opposite_turned true false = refl
opposite_turned false true = refl
opposite_turned false false = refl

module _ {K : Type 0} (A : Simplicial K) where
  -- the inverse of a letter
  abbrev pub flip : Letter A → Letter A
  flip l = (not l.0, l.1)

  pub before-dropped : (l : Letter A) (w : List (Letter A)) → has_degeneracy A 0 l.1 ≡ true → before A l w ≡ w
  before-dropped l [] h = ap (λ b. cond b [] (l ∷ [])) h
  before-dropped l (m ∷ w) h = ap (λ b. cond b (m ∷ w) (cond (cancels A l m) w (l ∷ (m ∷ w)))) h

  pub before-none : (l : Letter A) → has_degeneracy A 0 l.1 ≡ false → before A l [] ≡ l ∷ []
  before-none l h = ap (λ b. cond b [] (l ∷ [])) h

  pub before-cancels : (l m : Letter A) (w : List (Letter A)) → has_degeneracy A 0 l.1 ≡ false → cancels A l m ≡ true → before A l (m ∷ w) ≡ w
  before-cancels l m w h c =
      ap (λ b. cond b (m ∷ w) (cond (cancels A l m) w (l ∷ (m ∷ w)))) h ∙ ap (λ b. cond b w (l ∷ (m ∷ w))) c

  pub before-kept : (l m : Letter A) (w : List (Letter A)) → has_degeneracy A 0 l.1 ≡ false → cancels A l m ≡ false
      → before A l (m ∷ w) ≡ l ∷ (m ∷ w)
  before-kept l m w h c =
      ap (λ b. cond b (m ∷ w) (cond (cancels A l m) w (l ∷ (m ∷ w)))) h ∙ ap (λ b. cond b w (l ∷ (m ∷ w))) c

  -- no letter is an s_0, and none stands before its inverse
  abbrev pub Apart : Letter A → List (Letter A) → Type 0
  Apart l [] = Unit {0}
  Apart l (m ∷ w) = cancels A l m ≡ false

  abbrev pub Irreducible : List (Letter A) → Type 0
  Irreducible [] = Unit {0}
  Irreducible (l ∷ w) = (has_degeneracy A 0 l.1 ≡ false) × Apart l w × Irreducible w

  pub before-irreducible : (l : Letter A) (w : List (Letter A)) → Irreducible (l ∷ w) → before A l w ≡ l ∷ w
  before-irreducible l [] h = before-none l h.0
  before-irreducible l (m ∷ w) h = before-kept l m w h.0 h.1

  irreducible_by : (l m : Letter A) (w : List (Letter A)) → Irreducible (m ∷ w) → has_degeneracy A 0 l.1 ≡ false
      → (cancels A l m ≡ true) ⊎ (cancels A l m ≡ false) → Irreducible (before A l (m ∷ w))
  irreducible_by l m w h d (inl c) = subst Irreducible (sym (before-cancels l m w d c)) h.2
  irreducible_by l m w h d (inr c) = subst Irreducible (sym (before-kept l m w d c)) (d, c, h)

  irreducible_so : (l : Letter A) (w : List (Letter A)) → Irreducible w → (has_degeneracy A 0 l.1 ≡ true) ⊎ (has_degeneracy A 0 l.1 ≡ false)
      → Irreducible (before A l w)
  irreducible_so l w h (inl d) = subst Irreducible (sym (before-dropped l w d)) h
  irreducible_so l [] h (inr d) = subst Irreducible (sym (before-none l d)) (d, tt, tt)
  irreducible_so l (m ∷ w) h (inr d) = irreducible_by l m w h d (cases_Bool (cancels A l m))

  pub irreducible-before : (l : Letter A) (w : List (Letter A)) → Irreducible w → Irreducible (before A l w)
  irreducible-before l w h = irreducible_so l w h (cases_Bool (has_degeneracy A 0 l.1))

  pub irreducible-reduce : (w : List (Letter A)) → Irreducible (reduce A w)
  irreducible-reduce [] = tt
  irreducible-reduce (l ∷ w) = irreducible-before l (reduce A w) (irreducible-reduce w)

  pub reduce-irreducible : (w : List (Letter A)) → Irreducible w → reduce A w ≡ w
  reduce-irreducible [] h = refl
  reduce-irreducible (l ∷ w) h = ap (before A l) (reduce-irreducible w h.2) ∙ before-irreducible l w h

  pub reduce-reduce : (w : List (Letter A)) → reduce A (reduce A w) ≡ reduce A w
  reduce-reduce w = reduce-irreducible (reduce A w) (irreducible-reduce w)

  pub irreducible_is : (w : List (Letter A)) → IsReduced A w → Irreducible w
  irreducible_is w h = subst Irreducible h (irreducible-reduce w)

  -- a word acts on a word
  abbrev pub acting : List (Letter A) → List (Letter A) → List (Letter A)
  acting [] v = v
  acting (l ∷ u) v = before A l (acting u v)

  pub reduce-append : (u v : List (Letter A)) → reduce A (u ++ v) ≡ acting u (reduce A v)
  reduce-append [] v = refl
  reduce-append (l ∷ u) v = ap (before A l) (reduce-append u v)

  pub acting-append : (u v w : List (Letter A)) → acting (u ++ v) w ≡ acting u (acting v w)
  acting-append [] v w = refl
  acting-append (l ∷ u) v w = ap (before A l) (acting-append u v w)

  pub acting-none : (u : List (Letter A)) → acting u [] ≡ reduce A u
  acting-none [] = refl
  acting-none (l ∷ u) = ap (before A l) (acting-none u)

  pub irreducible-acting : (u v : List (Letter A)) → Irreducible v → Irreducible (acting u v)
  irreducible-acting [] v h = h
  irreducible-acting (l ∷ u) v h = irreducible-before l (acting u v) (irreducible-acting u v h)

  module _ (laws : IsSimplicial A) where
    pub cancels_is : (l m : Letter A) → cancels A l m ≡ true → m ≡ flip l
    cancels_is l m h =
        let x : l.1 ≡ m.1 = laws.same_is l.1 m.1 (first_so (A.same l.1 m.1) (cond l.0 (not m.0) m.0) h) in
        let b : m.0 ≡ not l.0 = opposite l.0 m.0 (second_so (A.same l.1 m.1) (cond l.0 (not m.0) m.0) h) in
        λ i. (b i, sym x i)

    pub cancels-flip : (l : Letter A) → cancels A l (flip l) ≡ true
    cancels-flip l = λ i. laws.same_equivalence.refl l.1 i && opposite_so l.0 i

    flip-flip : (l : Letter A) → flip (flip l) ≡ l
    flip-flip l = λ i. (not_twice l.0 i, l.1)

    -- a letter takes its inverse away
    module _ (l : Letter A) where
      flip_by : (m : Letter A) (w : List (Letter A)) → Irreducible (m ∷ w) → has_degeneracy A 0 l.1 ≡ false
          → (cancels A (flip l) m ≡ true) ⊎ (cancels A (flip l) m ≡ false) → before A l (before A (flip l) (m ∷ w)) ≡ m ∷ w
      flip_by m w h d (inl c) =
          ap (before A l) (before-cancels (flip l) m w d c)
          ∙ ap (λ k. before A k w) (sym (cancels_is (flip l) m c ∙ flip-flip l))
          ∙ before-irreducible m w h
      flip_by m w h d (inr c) = ap (before A l) (before-kept (flip l) m w d c) ∙ before-cancels l (flip l) (m ∷ w) d (cancels-flip l)

      flip_so : (w : List (Letter A)) → Irreducible w → (has_degeneracy A 0 l.1 ≡ true) ⊎ (has_degeneracy A 0 l.1 ≡ false)
          → before A l (before A (flip l) w) ≡ w
      flip_so w h (inl d) = ap (before A l) (before-dropped (flip l) w d) ∙ before-dropped l w d
      flip_so [] h (inr d) = ap (before A l) (before-none (flip l) d) ∙ before-cancels l (flip l) [] d (cancels-flip l)
      flip_so (m ∷ w) h (inr d) = flip_by m w h d (cases_Bool (cancels A (flip l) m))

      pub before-flip : (w : List (Letter A)) → Irreducible w → before A l (before A (flip l) w) ≡ w
      before-flip w h = flip_so w h (cases_Bool (has_degeneracy A 0 l.1))

    pub flip-before : (l : Letter A) (w : List (Letter A)) → Irreducible w → before A (flip l) (before A l w) ≡ w
    flip-before l w h = ap (λ k. before A (flip l) (before A k w)) (sym (flip-flip l)) ∙ before-flip (flip l) w h

    -- a letter that is put before a word acts as the letter and then the word
    module _ (l : Letter A) (v : List (Letter A)) (is : Irreducible v) where
      acting_by : (m : Letter A) (w : List (Letter A)) → has_degeneracy A 0 l.1 ≡ false → (cancels A l m ≡ true) ⊎ (cancels A l m ≡ false)
          → acting (before A l (m ∷ w)) v ≡ before A l (before A m (acting w v))
      acting_by m w d (inl c) =
          ap (λ u. acting u v) (before-cancels l m w d c)
          ∙ sym (ap (λ k. before A l (before A k (acting w v))) (cancels_is l m c) ∙ before-flip l (acting w v) (irreducible-acting w v is))
      acting_by m w d (inr c) = ap (λ u. acting u v) (before-kept l m w d c)

      acting_so : (w : List (Letter A)) → (has_degeneracy A 0 l.1 ≡ true) ⊎ (has_degeneracy A 0 l.1 ≡ false)
          → acting (before A l w) v ≡ before A l (acting w v)
      acting_so w (inl d) = ap (λ u. acting u v) (before-dropped l w d) ∙ sym (before-dropped l (acting w v) d)
      acting_so [] (inr d) = ap (λ u. acting u v) (before-none l d)
      acting_so (m ∷ w) (inr d) = acting_by m w d (cases_Bool (cancels A l m))

      pub acting-before : (w : List (Letter A)) → acting (before A l w) v ≡ before A l (acting w v)
      acting-before w = acting_so w (cases_Bool (has_degeneracy A 0 l.1))

    pub acting-reduce : (u v : List (Letter A)) → Irreducible v → acting (reduce A u) v ≡ acting u v
    acting-reduce [] v h = refl
    acting-reduce (l ∷ u) v h = acting-before l v h (reduce A u) ∙ ap (before A l) (acting-reduce u v h)

    -- the product depends on the elements that words stand for alone
    pub times-reduce : (u v : List (Letter A)) → word_times A (reduce A u) (reduce A v) ≡ word_times A u v
    times-reduce u v =
        reduce-append (reduce A u) (reduce A v)
        ∙ ap (acting (reduce A u)) (reduce-reduce v)
        ∙ acting-reduce u (reduce A v) (irreducible-reduce v)
        ∙ sym (reduce-append u v)

    pub times_assoc : (u v w : List (Letter A)) → word_times A (word_times A u v) w ≡ word_times A u (word_times A v w)
    times_assoc u v w =
        reduce-append (reduce A (u ++ v)) w
        ∙ acting-reduce (u ++ v) (reduce A w) (irreducible-reduce w)
        ∙ acting-append u v (reduce A w)
        ∙ sym (reduce-append u (reduce A (v ++ w)) ∙ ap (acting u) (reduce-reduce (v ++ w) ∙ reduce-append v w))

    -- the inverse of a word takes the word away, and is taken away by it
    pub inverse-acting : (w v : List (Letter A)) → Irreducible v → acting (inverse_word A w) (acting w v) ≡ v
    inverse-acting [] v h = refl
    inverse-acting (l ∷ w) v h =
        acting-append (inverse_word A w) (flip l ∷ []) (before A l (acting w v))
        ∙ ap (acting (inverse_word A w)) (flip-before l (acting w v) (irreducible-acting w v h))
        ∙ inverse-acting w v h

    pub acting-inverse : (w v : List (Letter A)) → Irreducible v → acting w (acting (inverse_word A w) v) ≡ v
    acting-inverse [] v h = refl
    acting-inverse (l ∷ w) v h =
        ap (λ u. before A l (acting w u)) (acting-append (inverse_word A w) (flip l ∷ []) v)
        ∙ ap (before A l) (acting-inverse w (before A (flip l) v) (irreducible-before (flip l) v h))
        ∙ before-flip l v h

    inverse_left : (w : List (Letter A)) → word_times A (inverse_word A w) w ≡ []
    inverse_left w =
        reduce-append (inverse_word A w) w ∙ ap (acting (inverse_word A w)) (sym (acting-none w)) ∙ inverse-acting w [] tt

    inverse_right : (w : List (Letter A)) → word_times A w (inverse_word A w) ≡ []
    inverse_right w =
        reduce-append w (inverse_word A w) ∙ ap (acting w) (sym (acting-none (inverse_word A w))) ∙ acting-inverse w [] tt

    -- the inverse of a reduced word is reduced
    cancels-turned : (l m : Letter A) → cancels A (flip m) (flip l) ≡ cancels A l m
    cancels-turned l m = λ i. laws.same_equivalence.symm m.1 l.1 i && opposite_turned l.0 m.0 i

    abbrev Joins : List (Letter A) → List (Letter A) → Type 0
    Joins [] v = Unit {0}
    Joins (l ∷ w) v = Apart (flip l) v

    joins_next : (l : Letter A) (w v : List (Letter A)) → Apart l w → Joins w (flip l ∷ v)
    joins_next l [] v h = tt
    joins_next l (m ∷ w) v h = cancels-turned l m ∙ h

    irreducible-turned : (w v : List (Letter A)) → Irreducible w → Irreducible v → Joins w v → Irreducible (inverse_word A w ++ v)
    irreducible-turned [] v h g j = g
    irreducible-turned (l ∷ w) v h g j =
        subst Irreducible (sym (append_assoc (inverse_word A w) (flip l ∷ []) v))
        (irreducible-turned w (flip l ∷ v) h.2 (h.0, j, g) (joins_next l w v h.1))

    joins_none : (w : List (Letter A)) → Joins w []
    joins_none [] = tt
    joins_none (l ∷ w) = tt

    inverse_in : (w : List (Letter A)) → IsReduced A w → IsReduced A (inverse_word A w)
    inverse_in w h =
        reduce-irreducible (inverse_word A w)
        (subst Irreducible (append-nil (inverse_word A w)) (irreducible-turned w [] (irreducible_is w h) tt (joins_none w)))

    pub reduced_words : IsGroup (IsReduced A) (word_times A) [] (inverse_word A)
    reduced_words = record {
      times_in = λ u v h g. reduce-reduce (u ++ v);
      unit_in = refl;
      inverse_in = inverse_in;
      associates = λ u v w f g h. times_assoc u v w;
      unit_left = λ w h. h;
      unit_right = λ w h. ap (reduce A) (append-nil w) ∙ h;
      inverse_left = λ w h. inverse_left w;
      inverse_right = λ w h. inverse_right w;
    }
