-- A reduced word is an s_j exactly where each of its letters is: the letters without s_(j+1) are a reduced word too.
use Rattle.std.proofs.Common.{◌≡◌, ℕ, suc, ◌≤◌, List, [], ◌∷◌, true, false, inl, inr, refl, sym, ◌∙◌, ap, arith, true≢false}
use Rattle.std.specs.Cmp.Derive.{both_true}
use Rattle.std.proofs.lemmas.Bool.{and_parts}
use Rattle.spaces.specs.Simplicial.{Simplicial, IsSimplicial, has_degeneracy}
use Rattle.spaces.specs.LoopGroups.{Letter, cancels, loop_degeneracy, loop_set, InLoop}
use Rattle.spaces.proofs.Reduced.{flip, Apart, Irreducible, irreducible_is, reduce-irreducible, cancels_is, cancels-flip}
use Rattle.ez_laws.proofs.Matches.{two}
use Rattle.ez_laws.proofs.SimplicialSides.{both_ways, has-of, over-of, degeneracies}
use Rattle.loop_laws.specs.LetterPlaces.{letters_have}

module _ {K : Type 0} (X : Simplicial K) (base_laws : IsSimplicial X) (laws : IsSimplicial (loop_set X)) where
  abbrev Word : Type 0
  Word = List (Letter X)

  abbrev G : Simplicial (List (Letter X))
  G = loop_set X

  abbrev raise : ℕ → Letter X → Letter X
  raise j l = (l.0, X.degeneracy (suc j) l.1)

  abbrev lower : ℕ → Letter X → Letter X
  lower j l = (l.0, X.face (suc j) l.1)

  abbrev lowered : ℕ → Word → Word
  lowered j [] = []
  lowered j (l ∷ w) = lower j l ∷ lowered j w

  raise-lower : (j : ℕ) (l : Letter X) → has_degeneracy X (suc j) l.1 ≡ true → raise j (lower j l) ≡ l
  raise-lower j l e = λ i. (l.0, over-of X base_laws (suc j) l.1 e i)

  raised : (j : ℕ) (w : Word) → letters_have X j w ≡ true → loop_degeneracy X j (lowered j w) ≡ w
  raised j [] e = refl
  raised j (l ∷ w) e =
      let b = and_parts (has_degeneracy X (suc j) l.1) (letters_have X j w) e in
      λ i. raise-lower j l b.0 i ∷ raised j w b.1 i

  lowered-in : (n j : ℕ) (w : Word) → InLoop X (suc n) w → j ≤ n → InLoop X n (lowered j w)
  lowered-in n j [] i l = tt
  lowered-in n j (k ∷ w) i l = (base_laws.face_in (suc n) (suc j) k.1 i.0 (omega (arith, l)), lowered-in n j w i.1 l)

  -- the simplex without s_(j+1) is no s_0 either
  lower-free : (n j : ℕ) (l : Letter X) → X.In (suc (suc n)) l.1 → j ≤ n → has_degeneracy X (suc j) l.1 ≡ true → has_degeneracy X 0 l.1 ≡ false
      → has_degeneracy X 0 (lower j l).1 ≡ false
  lower-free n j l i b e h =
      let z : K = X.face (suc j) l.1 in
      let iz : X.In (suc n) z = base_laws.face_in (suc n) (suc j) l.1 i (omega (arith, b)) in
      sym ((degeneracies X base_laws).before (suc n) 0 (suc j) z iz (omega arith) (omega (arith, b)))
      ∙ ap (has_degeneracy X 0) (over-of X base_laws (suc j) l.1 e) ∙ h

  -- letters that cancel without s_(j+1) cancel
  lower-apart : (j : ℕ) (l m : Letter X) → has_degeneracy X (suc j) l.1 ≡ true → has_degeneracy X (suc j) m.1 ≡ true → cancels X l m ≡ false
      → cancels X (lower j l) (lower j m) ≡ false
  lower-apart j l m a b h = elim (two (cancels X (lower j l) (lower j m))) as (λ v. cancels X (lower j l) (lower j m) ≡ false) [
    | inr v ↦ v
    | inl v ↦
        let e : m ≡ flip X l
        = sym (raise-lower j m b) ∙ ap (raise j) (cancels_is X base_laws (lower j l) (lower j m) v) ∙ ap (flip X) (raise-lower j l a) in
        absurd (true≢false (sym (cancels-flip X base_laws l) ∙ ap (cancels X l) (sym e) ∙ h))
  ]

  lowered-apart : (j : ℕ) (l : Letter X) (w : Word) → has_degeneracy X (suc j) l.1 ≡ true → letters_have X j w ≡ true → Apart X l w
      → Apart X (lower j l) (lowered j w)
  lowered-apart j l [] a e h = tt
  lowered-apart j l (m ∷ w) a e h = lower-apart j l m a (and_parts (has_degeneracy X (suc j) m.1) (letters_have X j w) e).0 h

  lowered-irreducible : (n j : ℕ) (w : Word) → InLoop X (suc n) w → j ≤ n → letters_have X j w ≡ true → Irreducible X w
      → Irreducible X (lowered j w)
  lowered-irreducible n j [] i b e h = tt
  lowered-irreducible n j (l ∷ w) i b e h =
      let c = and_parts (has_degeneracy X (suc j) l.1) (letters_have X j w) e in
      (lower-free n j l i.0 b c.0 h.0, lowered-apart j l w c.0 c.1 h.1, lowered-irreducible n j w i.1 b c.1 h.2)

  letters-raised : (n j : ℕ) (w : Word) → InLoop X n w → j ≤ n → letters_have X j (loop_degeneracy X j w) ≡ true
  letters-raised n j [] i b = refl
  letters-raised n j (l ∷ w) i b =
      both_true ((degeneracies X base_laws).own (suc n) (suc j) l.1 i.0 (omega (arith, b))) (letters-raised n j w i.1 b)

  pub word-degeneracy : (n j : ℕ) (w : Word) → G.In (suc n) w → j ≤ n → has_degeneracy G j w ≡ letters_have X j w
  word-degeneracy n j w i b =
      both_ways (has_degeneracy G j w) (letters_have X j w)
      (λ e.
      let u : Word = G.face j w in
      ap (letters_have X j) (sym (over-of G laws j w e)) ∙ letters-raised n j u (laws.face_in n j w i (omega (arith, b))).0 b)
      (λ e. has-of G laws n j w (lowered j w)
      (lowered-in n j w i.0 b, reduce-irreducible X (lowered j w) (lowered-irreducible n j w i.0 b e (irreducible_is X w i.1))) b (sym (raised j w e)))
