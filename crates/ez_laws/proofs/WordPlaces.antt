-- True entries of words under faces; degenerate pairs of words.
use Rattle.std.specs.Prelude.{◌≡◌, refl, ℕ, ◌<◌, ◌≤◌, List, [], ◌∷◌, Bool, true, false, ◌&&◌, ◌||◌, ◌⊎◌}
use Rattle.std.proofs.Common.{sym, ◌∙◌, ap, inl, inr, arith, zero, suc}
use Rattle.simp_ops.specs.PathWords.{Step, left as H, right as V, both as D}
use Rattle.ez_laws.proofs.WordFaces.{face, absd, len, absd-true}
use Rattle.ez_laws.proofs.WordRanks.{Above, Opt, none, some, push, zip, zip-gives, Gives, Zipped}

-- the entry at a place
unfoldable pub at : ℕ → List Bool → Bool
at j [] = false
at zero (b ∷ w) = b
at (suc j) (b ∷ w) = at j w

pub at-above : (j : ℕ) (u w : List Bool) → Above u w → at j u ≡ true → at j w ≡ true
unfolding at Above
at-above j [] w a e = absd-true (sym e)
at-above j (true ∷ u) [] a e = absurd a
at-above j (false ∷ u) [] a e = absurd a
at-above zero (true ∷ u) (b ∷ w) a e = a.0
at-above zero (false ∷ u) (b ∷ w) a e = absd-true (sym e)
at-above (suc j) (true ∷ u) (b ∷ w) a e = at-above j u w a.1 e
at-above (suc j) (false ∷ u) (b ∷ w) a e = at-above j u w a e

-- a face at or before the place, and a face after it
pub at-lo : (i j : ℕ) (w : List Bool) → i ≤ j → at (suc j) w ≡ true → at j (face i w) ≡ true
unfolding at face
at-lo i j [] l e = absd-true (sym e)
at-lo zero j (b ∷ w) l e = e
at-lo (suc i) zero (b ∷ w) l e = absurd (omega (arith, l))
at-lo (suc zero) (suc j) (a ∷ []) l e = absd-true (sym e)
at-lo (suc zero) (suc j) (a ∷ (b ∷ w)) l e = e
at-lo (suc (suc i)) (suc j) (a ∷ w) l e = at-lo (suc i) j w (omega (arith, l)) e

pub at-hi : (i j : ℕ) (w : List Bool) → suc j < i → at j w ≡ true → at j (face i w) ≡ true
unfolding at face
at-hi i j [] l e = absd-true (sym e)
at-hi zero j (b ∷ w) l e = absurd (omega (arith, l))
at-hi (suc zero) j (b ∷ w) l e = absurd (omega (arith, l))
at-hi (suc (suc i)) zero (b ∷ w) l e = e
at-hi (suc (suc i)) (suc j) (b ∷ w) l e = at-hi (suc i) j w (omega (arith, l)) e

pub and-true : (a : Bool) → (a && true) ≡ a
and-true true = refl
and-true false = refl

pub or-true : (a : Bool) → (a || true) ≡ true
or-true true = refl
or-true false = refl

-- the two faces at a true entry drop it
pub face-same : (j : ℕ) (w : List Bool) → at j w ≡ true → face j w ≡ face (suc j) w
unfolding at face
face-same j [] e = absd-true (sym e)
face-same zero (true ∷ []) e = refl
face-same zero (true ∷ (b ∷ w)) e = refl
face-same zero (false ∷ w) e = absd-true (sym e)
face-same (suc zero) (a ∷ []) e = absd-true (sym e)
face-same (suc zero) (a ∷ (true ∷ [])) e = ap (λ x. x ∷ []) (and-true a)
face-same (suc zero) (a ∷ (true ∷ (b ∷ w))) e = ap (λ x. x ∷ (b ∷ w)) (and-true a)
face-same (suc zero) (a ∷ (false ∷ w)) e = absd-true (sym e)
face-same (suc (suc j)) (a ∷ w) e = ap (λ x. a ∷ x) (face-same (suc j) w e)

pub absd-at : (j : ℕ) (w : List Bool) → at j w ≡ true → absd j w ≡ true
unfolding at absd
absd-at j [] e = absd-true (sym e)
absd-at zero (b ∷ w) e = e
absd-at (suc zero) (a ∷ []) e = absd-true (sym e)
absd-at (suc zero) (a ∷ (b ∷ w)) e = ap (λ x. a || x) e ∙ or-true a
absd-at (suc (suc j)) (a ∷ w) e = absd-at (suc j) w e

pub absd-at-suc : (j : ℕ) (w : List Bool) → at j w ≡ true → absd (suc j) w ≡ true
unfolding at absd
absd-at-suc j [] e = absd-true (sym e)
absd-at-suc zero (true ∷ []) e = refl
absd-at-suc zero (true ∷ (b ∷ w)) e = refl
absd-at-suc zero (false ∷ w) e = absd-true (sym e)
absd-at-suc (suc j) (a ∷ w) e = absd-at-suc j w e

pub at-len : (j : ℕ) (w : List Bool) → at j w ≡ true → j < len w
unfolding at len
at-len j [] e = absd-true (sym e)
at-len zero (b ∷ w) e = omega arith
at-len (suc j) (b ∷ w) e = omega (arith, at-len j w e)

-- degenerate pairs of words
pub record Common (w v : List Bool) : Type 0 where
  pub j : ℕ
  pub left : at j w ≡ true
  pub right : at j v ≡ true

pub push-none : (c : Step) (q : Opt (List Step)) → push c q ≡ none → q ≡ none
unfolding push
push-none c none e = refl
push-none c (some W) e = absurd (cc)

pub common-push : (a b : Bool) (w v : List Bool) → Common w v → Common (a ∷ w) (b ∷ v)
unfolding at
common-push a b w v c = record { j = suc c.j; left = c.left; right = c.right }

pub none-common : (w v : List Bool) → len w ≡ len v → zip w v ≡ none → Common w v
unfolding zip len at
none-common [] [] l e = absurd (cc)
none-common [] (b ∷ v) l e = absurd (omega (arith, l))
none-common (a ∷ w) [] l e = absurd (omega (arith, l))
none-common (true ∷ w) (true ∷ v) l e = record { j = zero; left = refl; right = refl }
none-common (true ∷ w) (false ∷ v) l e = common-push true false w v (none-common w v (omega (arith, l)) (push-none V (zip w v) e))
none-common (false ∷ w) (true ∷ v) l e = common-push false true w v (none-common w v (omega (arith, l)) (push-none H (zip w v) e))
none-common (false ∷ w) (false ∷ v) l e = common-push false false w v (none-common w v (omega (arith, l)) (push-none D (zip w v) e))

pub common-none : (j : ℕ) (w v : List Bool) → at j w ≡ true → at j v ≡ true → zip w v ≡ none
unfolding zip at push
common-none j [] v e f = absd-true (sym e)
common-none j (a ∷ w) [] e f = absd-true (sym f)
common-none zero (true ∷ w) (true ∷ v) e f = refl
common-none zero (false ∷ w) (b ∷ v) e f = absd-true (sym e)
common-none zero (true ∷ w) (false ∷ v) e f = absd-true (sym f)
common-none (suc j) (true ∷ w) (true ∷ v) e f = refl
common-none (suc j) (true ∷ w) (false ∷ v) e f = ap (push V) (common-none j w v e f)
common-none (suc j) (false ∷ w) (true ∷ v) e f = ap (push H) (common-none j w v e f)
common-none (suc j) (false ∷ w) (false ∷ v) e f = ap (push D) (common-none j w v e f)

pub view-of : (w v : List Bool) (q : Opt (List Step)) → Gives w v q → ((W : List Step) × Zipped w v W) ⊎ (q ≡ none)
unfolding Gives
view-of w v none g = inr refl
view-of w v (some W) g = inl (W, g)

pub view : (w v : List Bool) → ((W : List Step) × Zipped w v W) ⊎ (zip w v ≡ none)
view w v = view-of w v (zip w v) (zip-gives w v)
