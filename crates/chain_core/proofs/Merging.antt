-- A merge from the highest key down: what is left of both lists, and the end of the sum that is done.
use Rattle.std.proofs.Common.{◌≡◌, ℕ, zero, suc, ◌+◌, ◌*◌, ◌%◌, ◌<◌, List, [], ◌∷◌, ◌++◌, append_assoc, refl, sym, ◌∙◌, ap, subst}
use Rattle.std.specs.declared.cmp.Ordering.{Ordering}
use Rattle.std.specs.declared.cmp.Ordering.TheVariants.{Less, Equal, Greater}
use Rattle.std.specs.Cmp.{IsTotalOrder}
use Rattle.fp_field.specs.Chains.{Terms, Each, scale}
use Rattle.fp_field.specs.Normal.{put, add_term, normal}
use Rattle.chain_core.specs.Places.{Ascends}
use Rattle.chain_core.proofs.Rising.{Rises, Rises-Ascends, add_term-above, add_term-below, add_term-equal, add-Rises, normal-Rises}
use Rattle.chain_core.proofs.PlaceLemmas.{flipped, lower_before, Each-map}

append-nil : {X : Type 0} (xs : List X) → xs ++ [] ≡ xs
append-nil [] = refl
append-nil (x ∷ xs) = ap (λ l. x ∷ l) (append-nil xs)

-- terms added to a list in normal form, the last one first
abbrev pub merged : {K : Type 0} → (K → K → Ordering) → ℕ → Terms K → Terms K → Terms K
merged cmp p [] c = c
merged cmp p (t ∷ ts) c = add_term cmp p t.0 t.1 (merged cmp p ts c)

module _ {K : Type 0} where
  pub scale-append : (n : ℕ) (a b : Terms K) → scale n (a ++ b) ≡ scale n a ++ scale n b
  scale-append n [] b = refl
  scale-append n (t ∷ a) b = ap (λ c. (t.0, n * t.1) ∷ c) (scale-append n a b)

module _ {K : Type 0} (cmp : K → K → Ordering) (p : ℕ) where
  pub normal-merged : (os c : Terms K) → normal cmp p (os ++ c) ≡ merged cmp p os (normal cmp p c)
  normal-merged [] c = refl
  normal-merged (t ∷ os) c = ap (add_term cmp p t.0 t.1) (normal-merged os c)

  merged-push : (os : Terms K) (t : K × ℕ) (c : Terms K) → merged cmp p (os ++ t ∷ []) c ≡ merged cmp p os (add_term cmp p t.0 t.1 c)
  merged-push [] t c = refl
  merged-push (u ∷ os) t c = ap (add_term cmp p u.0 u.1) (merged-push os t c)

  -- each key of the first list is below each of the second
  abbrev pub Apart : Terms K → Terms K → Type 0
  Apart os done = Each (λ y. Each (λ x. cmp y x ≡ Less) done) os

  -- what is left of the terms, and of the others, and what is done, towards a sum
  pub record Merges (n : ℕ) (own others done sum : Terms K) : Type 0 where
    pub rises : Rises cmp p (own ++ done)
    pub apart : Apart others done
    pub is : merged cmp p (scale n others) (own ++ done) ≡ sum

  module _ (total : IsTotalOrder cmp) (pos : 0 < p) (n : ℕ) where
    pub merged-Rises : (os c : Terms K) → Rises cmp p c → Rises cmp p (merged cmp p os c)
    merged-Rises [] c r = r
    merged-Rises (t ∷ os) c r = add-Rises cmp p total pos t.0 t.1 (merged cmp p os c) (merged-Rises os c r)

    pub starts : (own others : Terms K) → Rises cmp p own → Merges n own others [] (normal cmp p (scale n others ++ own))
    starts own others r = record {
      rises = subst (Rises cmp p) (sym (append-nil own)) r;
      apart = nothing others;
      is = ap (merged cmp p (scale n others)) (append-nil own ∙ sym (normal-Rises cmp p own r)) ∙ sym (normal-merged (scale n others) own);
    }
      where
        nothing : (os : Terms K) → Apart os []
        nothing [] = tt
        nothing (t ∷ os) = (tt, nothing os)

    -- where the highest key is one of the terms
    pub own_first : (own others done sum : Terms K) (t y : K × ℕ) → Merges n (own ++ t ∷ []) (others ++ y ∷ []) done sum → Ascends cmp (others ++ y ∷ [])
        → cmp t.0 y.0 ≡ Greater → Merges n own (others ++ y ∷ []) (t ∷ done) sum
    own_first own others done sum t y m up e = record {
      rises = subst (Rises cmp p) same m.rises;
      apart = both (others ++ y ∷ []) (below others up) m.apart;
      is = ap (merged cmp p (scale n (others ++ y ∷ []))) (sym same) ∙ m.is;
    }
      where
        same : (own ++ t ∷ []) ++ done ≡ own ++ t ∷ done
        same = append_assoc own (t ∷ []) done

        below : (others : Terms K) → Ascends cmp (others ++ y ∷ []) → Each (λ x. cmp x t.0 ≡ Less) (others ++ y ∷ [])
        below [] up = (flipped cmp total t.0 y.0 Greater e, tt)
        below (u ∷ others) up = (total.trans u.0 y.0 t.0 (at others up.0) (flipped cmp total t.0 y.0 Greater e), below others up.1)
          where
            at : (others : Terms K) → Each (λ x. cmp u.0 x ≡ Less) (others ++ y ∷ []) → cmp u.0 y.0 ≡ Less
            at [] h = h.0
            at (v ∷ others) h = at others h.1

        both : (os : Terms K) → Each (λ x. cmp x t.0 ≡ Less) os → Apart os done → Apart os (t ∷ done)
        both [] h g = tt
        both (u ∷ os) h g = ((h.0, g.0), both os h.1 g.1)

    Apart-first : (os : Terms K) (y : K × ℕ) (done : Terms K) → Apart (os ++ y ∷ []) done → Apart os done
    Apart-first [] y done h = tt
    Apart-first (u ∷ os) y done h = (h.0, Apart-first os y done h.1)

    Apart-last : (os : Terms K) (y : K × ℕ) (done : Terms K) → Apart (os ++ y ∷ []) done → Each (λ x. cmp y.0 x ≡ Less) done
    Apart-last [] y done h = h.0
    Apart-last (u ∷ os) y done h = Apart-last os y done h.1

    Each-put : (P : K → Type 0) (k : K) (m : ℕ) (c : Terms K) → P k → Each P c → Each P (put cmp p k m c)
    Each-put P k zero c e h = h
    Each-put P k (suc m) c e h = (e, h)

    Apart-put : (os : Terms K) (k : K) (m : ℕ) (done : Terms K) → Each (λ x. cmp x k ≡ Less) os → Apart os done → Apart os (put cmp p k m done)
    Apart-put [] k m done h g = tt
    Apart-put (u ∷ os) k m done h g = (Each-put (λ x. cmp u.0 x ≡ Less) k m done h.0 g.0, Apart-put os k m done h.1 g.1)

    lowers : (os : Terms K) (y : K × ℕ) → Ascends cmp (os ++ y ∷ []) → Each (λ x. cmp x y.0 ≡ Less) os
    lowers os y up = Each-map cmp total (λ x. cmp y.0 x ≡ Greater) (λ x. cmp x y.0 ≡ Less) (λ x h. flipped cmp total y.0 x Greater h) os (lower_before cmp total os [] y up)

    step : (others : Terms K) (y : K × ℕ) (c : Terms K) → merged cmp p (scale n (others ++ y ∷ [])) c ≡ merged cmp p (scale n others) (add_term cmp p y.0 (n * y.1) c)
    step others y c = ap (λ os. merged cmp p os c) (scale-append n others (y ∷ [])) ∙ merged-push (scale n others) (y.0, n * y.1) c

    -- where it is one of the others
    pub other_first : (own others done sum : Terms K) (y : K × ℕ) → Merges n own (others ++ y ∷ []) done sum → Ascends cmp (others ++ y ∷ [])
        → Each (λ x. cmp y.0 x ≡ Greater) own → Merges n own others (put cmp p y.0 (n * y.1 % p) done) sum
    other_first own others done sum y m up low =
        let put_in : add_term cmp p y.0 (n * y.1) (own ++ done) ≡ own ++ put cmp p y.0 (n * y.1 % p) done =
        add_term-above cmp p y.0 (n * y.1) own done low ∙ ap (λ c. own ++ c) (add_term-below cmp p y.0 (n * y.1) done (Apart-last others y done m.apart)) in
        record {
          rises = subst (Rises cmp p) put_in (add-Rises cmp p total pos y.0 (n * y.1) (own ++ done) m.rises);
          apart = Apart-put others y.0 (n * y.1 % p) done (lowers others y up) (Apart-first others y done m.apart);
          is = ap (merged cmp p (scale n others)) (sym put_in) ∙ sym (step others y (own ++ done)) ∙ m.is;
        }

    -- where it is in both
    pub both_first : (own others done sum : Terms K) (t y : K × ℕ) → Merges n (own ++ t ∷ []) (others ++ y ∷ []) done sum → Ascends cmp (others ++ y ∷ [])
        → cmp t.0 y.0 ≡ Equal → Merges n own others (put cmp p t.0 ((n * y.1 + t.1) % p) done) sum
    both_first own others done sum t y m up e =
        let same : (own ++ t ∷ []) ++ done ≡ own ++ t ∷ done = append_assoc own (t ∷ []) done in
        let r : Rises cmp p (own ++ t ∷ done) = subst (Rises cmp p) same m.rises in
        let low : Each (λ x. cmp y.0 x ≡ Greater) own =
        Each-map cmp total (λ x. cmp t.0 x ≡ Greater) (λ x. cmp y.0 x ≡ Greater) (λ x h. sym (total.congr t.0 y.0 x e) ∙ h) own (lower_before cmp total own done t (Rises-Ascends cmp p (own ++ t ∷ done) r)) in
        let put_in : add_term cmp p y.0 (n * y.1) ((own ++ t ∷ []) ++ done) ≡ own ++ put cmp p t.0 ((n * y.1 + t.1) % p) done =
        ap (add_term cmp p y.0 (n * y.1)) same ∙ add_term-above cmp p y.0 (n * y.1) own (t ∷ done) low
        ∙ ap (λ c. own ++ c) (add_term-equal cmp p y.0 (n * y.1) t done (flipped cmp total t.0 y.0 Equal e)) in
        record {
          rises = subst (Rises cmp p) put_in (add-Rises cmp p total pos y.0 (n * y.1) ((own ++ t ∷ []) ++ done) m.rises);
          apart = Apart-put others t.0 ((n * y.1 + t.1) % p) done
              (Each-map cmp total (λ x. cmp x y.0 ≡ Less) (λ x. cmp x t.0 ≡ Less) (λ x h. flipped cmp total t.0 x Greater (total.congr t.0 y.0 x e ∙ flipped cmp total x y.0 Less h)) others (lowers others y up))
              (Apart-first others y done m.apart);
          is = ap (merged cmp p (scale n others)) (sym put_in) ∙ sym (step others y ((own ++ t ∷ []) ++ done)) ∙ m.is;
        }
