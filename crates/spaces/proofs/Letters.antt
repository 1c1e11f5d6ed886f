-- Maps of letters to words: each extends to words, and where it respects letters that are an s_0 and inverse letters, it carries reduced
-- forms to reduced forms, and products to products. Two maps that act alike on each letter act alike.
use Rattle.std.proofs.Common.{◌≡◌, ℕ, suc, true, false, [], List, ◌∷◌, ◌++◌, ◌⊎◌, inl, inr, refl, sym, ◌∙◌, ap, flat_map}
use Rattle.std.proofs.lemmas.Bool.{cases_Bool}
use Rattle.std.proofs.lemmas.Grind.{flat_map-append}
use Rattle.spaces.specs.Simplicial.{Simplicial, IsSimplicial, has_degeneracy}
use Rattle.spaces.specs.LoopGroups.{Letter, cancels, before, reduce, word_times, InLoop}
use Rattle.spaces.proofs.Reduced.{flip, before-dropped, before-none, before-cancels, before-kept, Irreducible, acting, acting-append, acting-none, irreducible-acting, cancels_is, times-reduce}

module _ {K : Type 0} (A : Simplicial K) where
  -- letters of a word are in its degree
  pub in-append : (n : ℕ) (u v : List (Letter A)) → InLoop A n u → InLoop A n v → InLoop A n (u ++ v)
  in-append n [] v h g = g
  in-append n (l ∷ u) v h g = (h.0, in-append n u v h.1 g)

  in_by : (n : ℕ) (l m : Letter A) (w : List (Letter A)) → A.In (suc n) l.1 → InLoop A n (m ∷ w)
      → (has_degeneracy A 0 l.1 ≡ true) ⊎ (has_degeneracy A 0 l.1 ≡ false) → (cancels A l m ≡ true) ⊎ (cancels A l m ≡ false)
      → InLoop A n (before A l (m ∷ w))
  in_by n l m w h g (inl d) c = rw (before-dropped A l (m ∷ w) d) g
  in_by n l m w h g (inr d) (inl c) = rw (before-cancels A l m w d c) (g.1)
  in_by n l m w h g (inr d) (inr c) = rw (before-kept A l m w d c) ((h, g))

  in_none : (n : ℕ) (l : Letter A) → A.In (suc n) l.1 → (has_degeneracy A 0 l.1 ≡ true) ⊎ (has_degeneracy A 0 l.1 ≡ false) → InLoop A n (before A l [])
  in_none n l h (inl d) = rw (before-dropped A l [] d) tt
  in_none n l h (inr d) = rw (before-none A l d) ((h, tt))

  pub in-before : (n : ℕ) (l : Letter A) (w : List (Letter A)) → A.In (suc n) l.1 → InLoop A n w → InLoop A n (before A l w)
  in-before n l [] h g = in_none n l h (cases_Bool (has_degeneracy A 0 l.1))
  in-before n l (m ∷ w) h g = in_by n l m w h g (cases_Bool (has_degeneracy A 0 l.1)) (cases_Bool (cancels A l m))

  pub in-reduce : (n : ℕ) (w : List (Letter A)) → InLoop A n w → InLoop A n (reduce A w)
  in-reduce n [] h = tt
  in-reduce n (l ∷ w) h = in-before n l (reduce A w) h.0 (in-reduce n w h.1)

  pub in-spread : (n m : ℕ) (f : Letter A → List (Letter A)) → ((l : Letter A) → A.In (suc n) l.1 → InLoop A m (f l))
      → (w : List (Letter A)) → InLoop A n w → InLoop A m (flat_map f w)
  in-spread n m f h [] g = tt
  in-spread n m f h (l ∷ w) g = in-append m (f l) (flat_map f w) (h l g.0) (in-spread n m f h w g.1)

  pub spread-spread : (f g : Letter A → List (Letter A)) (w : List (Letter A)) → flat_map f (flat_map g w) ≡ flat_map (λ l. flat_map f (g l)) w
  spread-spread f g [] = refl
  spread-spread f g (l ∷ w) = flat_map-append f (g l) (flat_map g w) ∙ ap (λ u. flat_map f (g l) ++ u) (spread-spread f g w)

  -- two maps that act alike on each letter
  module _ (n : ℕ) (f g : Letter A → List (Letter A))
      (alike : (l : Letter A) → A.In (suc n) l.1 → (v : List (Letter A)) → Irreducible A v → acting A (f l) v ≡ acting A (g l) v) where
    pub acting-alike : (w v : List (Letter A)) → InLoop A n w → Irreducible A v → acting A (flat_map f w) v ≡ acting A (flat_map g w) v
    acting-alike [] v h is = refl
    acting-alike (l ∷ w) v h is =
        acting-append A (f l) (flat_map f w) v
        ∙ alike l h.0 (acting A (flat_map f w) v) (irreducible-acting A (flat_map f w) v is)
        ∙ ap (acting A (g l)) (acting-alike w v h.1 is)
        ∙ sym (acting-append A (g l) (flat_map g w) v)

    pub reduce-alike : (w : List (Letter A)) → InLoop A n w → reduce A (flat_map f w) ≡ reduce A (flat_map g w)
    reduce-alike w h = sym (acting-none A (flat_map f w)) ∙ acting-alike w [] h tt ∙ acting-none A (flat_map g w)

  -- the words of letters that are an s_0 act as the unit, those of inverse letters as inverses
  pub record Respects (n : ℕ) (f : Letter A → List (Letter A)) : Type 0 where
    pub dropped : (l : Letter A) → A.In (suc n) l.1 → has_degeneracy A 0 l.1 ≡ true → (v : List (Letter A)) → Irreducible A v → acting A (f l) v ≡ v
    pub inverses : (l : Letter A) → A.In (suc n) l.1 → (v : List (Letter A)) → Irreducible A v → acting A (f l) (acting A (f (flip A l)) v) ≡ v

  module _ (laws : IsSimplicial A) (n : ℕ) (f : Letter A → List (Letter A)) (respects : Respects n f) where
    module _ (l : Letter A) (in_l : A.In (suc n) l.1) (v : List (Letter A)) (is : Irreducible A v) where
      spread_dropped : (w : List (Letter A)) → has_degeneracy A 0 l.1 ≡ true → acting A (flat_map f (before A l w)) v ≡ acting A (f l) (acting A (flat_map f w) v)
      spread_dropped w d =
          ap (λ u. acting A (flat_map f u) v) (before-dropped A l w d)
          ∙ sym (respects.dropped l in_l d (acting A (flat_map f w) v) (irreducible-acting A (flat_map f w) v is))

      spread_by : (m : Letter A) (w : List (Letter A)) → has_degeneracy A 0 l.1 ≡ false → (cancels A l m ≡ true) ⊎ (cancels A l m ≡ false)
          → acting A (flat_map f (before A l (m ∷ w))) v ≡ acting A (f l) (acting A (flat_map f (m ∷ w)) v)
      spread_by m w d (inl c) =
          ap (λ u. acting A (flat_map f u) v) (before-cancels A l m w d c)
          ∙ sym (ap (acting A (f l)) (acting-append A (f m) (flat_map f w) v)
          ∙ ap (λ k. acting A (f l) (acting A (f k) (acting A (flat_map f w) v))) (cancels_is A laws l m c)
          ∙ respects.inverses l in_l (acting A (flat_map f w) v) (irreducible-acting A (flat_map f w) v is))
      spread_by m w d (inr c) =
          ap (λ u. acting A (flat_map f u) v) (before-kept A l m w d c) ∙ acting-append A (f l) (flat_map f (m ∷ w)) v

      spread_so : (w : List (Letter A)) → (has_degeneracy A 0 l.1 ≡ true) ⊎ (has_degeneracy A 0 l.1 ≡ false)
          → acting A (flat_map f (before A l w)) v ≡ acting A (f l) (acting A (flat_map f w) v)
      spread_so w (inl d) = spread_dropped w d
      spread_so [] (inr d) = ap (λ u. acting A (flat_map f u) v) (before-none A l d) ∙ acting-append A (f l) [] v
      spread_so (m ∷ w) (inr d) = spread_by m w d (cases_Bool (cancels A l m))

      acting-spread-before : (w : List (Letter A)) → acting A (flat_map f (before A l w)) v ≡ acting A (f l) (acting A (flat_map f w) v)
      acting-spread-before w = spread_so w (cases_Bool (has_degeneracy A 0 l.1))

    acting-spread : (w v : List (Letter A)) → InLoop A n w → Irreducible A v → acting A (flat_map f (reduce A w)) v ≡ acting A (flat_map f w) v
    acting-spread [] v h is = refl
    acting-spread (l ∷ w) v h is =
        acting-spread-before l h.0 v is (reduce A w)
        ∙ ap (acting A (f l)) (acting-spread w v h.1 is)
        ∙ sym (acting-append A (f l) (flat_map f w) v)

    pub reduce-spread : (w : List (Letter A)) → InLoop A n w → reduce A (flat_map f (reduce A w)) ≡ reduce A (flat_map f w)
    reduce-spread w h = sym (acting-none A (flat_map f (reduce A w))) ∙ acting-spread w [] h tt ∙ acting-none A (flat_map f w)

    pub spread-times : (u v : List (Letter A)) → InLoop A n u → InLoop A n v
        → reduce A (flat_map f (word_times A u v)) ≡ word_times A (reduce A (flat_map f u)) (reduce A (flat_map f v))
    spread-times u v h g =
        reduce-spread (u ++ v) (in-append n u v h g)
        ∙ ap (reduce A) (flat_map-append f u v)
        ∙ sym (times-reduce A laws (flat_map f u) (flat_map f v))
