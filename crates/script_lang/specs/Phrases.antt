-- Phrases: which lists of units, which are bytes or runs of bytes, mean which values, and how phrases are put together. They are the
-- sequence, the alternative and the repetition of a grammar in Backus's notation (Wirth, What can we do about the unnecessary diversity of
-- notation for syntactic definitions?, 1977).
--
--   Sign 40 ▷ λ _. Sign 41 ▷ λ _. Done 7 holds of 40 ∷ 41 ∷ [] and 7 alone
--   Until (41 ∷ []) (Sign 40) holds of 40 ∷ 40 ∷ 41 ∷ [] and tt ∷ tt ∷ [] alone among lists of three units
use Rattle.std.specs.Prelude.{◌≡◌, ◌⊎◌, List, [], ◌∷◌, ◌++◌}

-- no unit, and this value
pub record Done {U A : Type 0} (v : A) (units : List U) (w : A) : Type 0 where
  pub none : units ≡ []
  pub same : v ≡ w

-- this unit alone
abbrev pub Sign : {U : Type 0} → U → List U → Unit {0} → Type 0
Sign u units v = units ≡ u ∷ []

-- one phrase and then another, which may depend on the value of the first and gives the value
pub record Then {U A B : Type 0} (L : List U → A → Type 0) (M : A → List U → B → Type 0) (units : List U) (w : B) : Type 0 where
  pub value : A
  pub front : List U
  pub back : List U
  pub whole : units ≡ front ++ back
  pub first : L front value
  pub second : M value back w

infixr 10 ◌▷◌
abbrev pub ◌▷◌ : {U A B : Type 0} → (List U → A → Type 0) → (A → List U → B → Type 0) → List U → B → Type 0
L ▷ M = Then L M

-- one phrase or another
infixr 9 ◌∣◌
abbrev pub ◌∣◌ : {U A : Type 0} → (List U → A → Type 0) → (List U → A → Type 0) → List U → A → Type 0
(L ∣ M) units v = L units v ⊎ M units v

-- a phrase any number of times, and then the end
abbrev pub Until : {U A : Type 0} → List U → (List U → A → Type 0) → List U → List A → Type 0
Until end L units [] = units ≡ end
Until end L units (x ∷ xs) = (front back : List _) × (units ≡ front ++ back) × L front x × Until end L back xs

-- no phrase
abbrev pub Never : {U A : Type 0} → List U → A → Type 0
Never units v = ⊥
