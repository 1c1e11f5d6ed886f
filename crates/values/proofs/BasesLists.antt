-- Lists that rise in an order, by recursion: under maps, joins and pairs.
use Rattle.std.proofs.Common.{◌≡◌, ℕ, zero, suc, ◌+◌, ◌<◌, ◌≤◌, List, [], ◌∷◌, ◌++◌, ◌⊎◌, inl, inr, refl, sym, ap, subst, arith}
use Rattle.std.specs.Prelude.{map}
use Rattle.std.specs.List.{All, AllPairs, Contains}
use Rattle.std.specs.declared.cmp.Ordering.{Ordering}
use Rattle.std.specs.declared.cmp.Ordering.TheVariants.{Less}
use Rattle.std.proofs.lemmas.List.Elements.{All-nil, All-cons, All-contains}
use Rattle.std.proofs.lemmas.List.Kept.{AllPairs-cons}
use Rattle.std.proofs.lemmas.Bool.{cases_eq}
use Rattle.values.specs.Rules.{numbers, all_pairs}

module _ {A : Type 0} where
  abbrev pub Every : (A → Type 0) → List A → Type 0
  Every P [] = Unit {0}
  Every P (x ∷ xs) = P x × Every P xs

  abbrev pub Member : A → List A → Type 0
  Member x [] = ⊥
  Member x (y ∷ ys) = (y ≡ x) ⊎ Member x ys

  -- each is less than all later ones
  abbrev pub Rising : (A → A → Ordering) → List A → Type 0
  Rising cmp [] = Unit {0}
  Rising cmp (x ∷ xs) = Every (λ y. cmp x y ≡ Less) xs × Rising cmp xs

  -- ---- to and from the words of contracts

  pub all_of : (P : A → Type 0) (xs : List A) → Every P xs → All P xs
  all_of P [] h = All-nil P
  all_of P (x ∷ xs) h = All-cons P x xs h.0 (all_of P xs h.1)

  pub at_member : (P : A → Type 0) (xs : List A) (x : A) → Every P xs → Contains xs x → P x
  at_member P xs x h m = All-contains P xs x (all_of P xs h) m

  pub pairs_of : (cmp : A → A → Ordering) (xs : List A) → Rising cmp xs → AllPairs (λ x y. cmp x y ≡ Less) xs
  pairs_of cmp [] r = λ i j k h l. absurd (omega arith)
  pairs_of cmp (x ∷ xs) r = AllPairs-cons (λ x y. cmp x y ≡ Less) x xs (all_of (λ y. cmp x y ≡ Less) xs r.0) (pairs_of cmp xs r.1)

  pub contains_of : (xs : List A) (x : A) → Member x xs → Contains xs x
  contains_of [] x h = absurd h
  contains_of (y ∷ ys) x (inl e) = (0, omega arith, e)
  contains_of (y ∷ ys) x (inr h) = let s = contains_of ys x h in (suc s.0, omega (arith, s.1), s.2)

  pub every_member : (P : A → Type 0) (xs : List A) → ((x : A) → Member x xs → P x) → Every P xs
  every_member P [] h = tt
  every_member P (x ∷ xs) h = (h x (inl refl), every_member P xs (λ y m. h y (inr m)))

  pub member_of : (xs : List A) (x : A) → Contains xs x → Member x xs
  member_of xs x m = at_member (λ y. Member y xs) xs x (every_member (λ y. Member y xs) xs (λ y h. h)) m

  pub every_at : (P : A → Type 0) (xs : List A) (x : A) → Every P xs → Member x xs → P x
  every_at P [] x h m = absurd m
  every_at P (y ∷ xs) x h (inl e) = subst P e h.0
  every_at P (y ∷ xs) x h (inr m) = every_at P xs x h.1 m

  -- ---- weaker facts, two facts at once, joins

  pub every : {P Q : A → Type 0} (xs : List A) → ((x : A) → P x → Q x) → Every P xs → Every Q xs
  every [] f h = tt
  every (x ∷ xs) f h = (f x h.0, every xs f h.1)

  pub every_both : {P Q R : A → Type 0} (xs : List A) → ((x : A) → P x → Q x → R x) → Every P xs → Every Q xs → Every R xs
  every_both [] f h g = tt
  every_both (x ∷ xs) f h g = (f x h.0 g.0, every_both xs f h.1 g.1)

  pub every_append : (P : A → Type 0) (xs ys : List A) → Every P xs → Every P ys → Every P (xs ++ ys)
  every_append P [] ys h g = g
  every_append P (x ∷ xs) ys h g = (h.0, every_append P xs ys h.1 g)

  pub rising_append : (cmp : A → A → Ordering) (xs ys : List A) → Rising cmp xs → Rising cmp ys
      → Every (λ x. Every (λ y. cmp x y ≡ Less) ys) xs → Rising cmp (xs ++ ys)
  rising_append cmp [] ys r s h = s
  rising_append cmp (x ∷ xs) ys r s h = (every_append (λ y. cmp x y ≡ Less) xs ys r.0 h.0, rising_append cmp xs ys r.1 s h.1)

  pub member_left : (x : A) (xs ys : List A) → Member x xs → Member x (xs ++ ys)
  member_left x [] ys h = absurd h
  member_left x (y ∷ xs) ys (inl e) = inl e
  member_left x (y ∷ xs) ys (inr h) = inr (member_left x xs ys h)

  pub member_right : (x : A) (xs ys : List A) → Member x ys → Member x (xs ++ ys)
  member_right x [] ys h = h
  member_right x (y ∷ xs) ys h = inr (member_right x xs ys h)

-- ---- maps

module _ {A B : Type 0} (f : A → B) where
  pub every_map : {P : A → Type 0} (Q : B → Type 0) (xs : List A) → ((x : A) → P x → Q (f x)) → Every P xs → Every Q (map f xs)
  every_map Q [] g h = tt
  every_map Q (x ∷ xs) g h = (g x h.0, every_map Q xs g h.1)

  -- a map keeps a list rising where it keeps Less between elements with P
  pub rising_map : {P : A → Type 0} (c : A → A → Ordering) (d : B → B → Ordering) (xs : List A)
      → ((x y : A) → P x → P y → c x y ≡ Less → d (f x) (f y) ≡ Less) → Every P xs → Rising c xs → Rising d (map f xs)
  rising_map c d [] g h r = tt
  rising_map {P = P} c d (x ∷ xs) g h r =
      (every_map (λ z. d (f x) z ≡ Less) xs (λ y e. g x y h.0 e.0 e.1) (every_both {R = λ y. P y × (c x y ≡ Less)} xs (λ y a b. (a, b)) h.1 r.0), rising_map c d xs g h.1 r.1)

  pub member_map : (x : A) (xs : List A) → Member x xs → Member (f x) (map f xs)
  member_map x [] m = absurd m
  member_map x (y ∷ xs) (inl e) = inl (ap f e)
  member_map x (y ∷ xs) (inr m) = inr (member_map x xs m)

-- ---- lists along the numbers from i on

-- the lists at numbers, one after the other
abbrev pub gathered : {A : Type 0} → (ℕ → List A) → List ℕ → List A
gathered at [] = []
gathered at (i ∷ is) = at i ++ gathered at is

pub numbers-within : (P : ℕ → Type 0) (i k : ℕ) → ((j : ℕ) → i ≤ j → j < i + k → P j) → Every P (numbers i k)
numbers-within P i zero h = tt
numbers-within P i (suc k) h = (h i (omega arith) (omega arith), numbers-within P (suc i) k (λ j l u. h j (omega arith) (omega arith)))

module _ {A : Type 0} (at : ℕ → List A) where
  pub every_gathered : (P : A → Type 0) (i k : ℕ) → ((j : ℕ) → i ≤ j → j < i + k → Every P (at j)) → Every P (gathered at (numbers i k))
  every_gathered P i zero h = tt
  every_gathered P i (suc k) h =
      every_append P (at i) (gathered at (numbers (suc i) k)) (h i (omega arith) (omega arith))
      (every_gathered P (suc i) k (λ j l u. h j (omega arith) (omega arith)))

  -- each list rises, and what has the place j is less than what has a later place
  pub rising_gathered : (cmp : A → A → Ordering) (At : ℕ → A → Type 0) (i k : ℕ)
      → ((j : ℕ) → i ≤ j → j < i + k → Every (At j) (at j))
      → ((j : ℕ) → i ≤ j → j < i + k → Rising cmp (at j))
      → ((j l : ℕ) (x y : A) → j < l → l < i + k → At j x → At l y → cmp x y ≡ Less)
      → Rising cmp (gathered at (numbers i k))
  rising_gathered cmp At i zero a r h = tt
  rising_gathered cmp At i (suc k) a r h =
      rising_append cmp (at i) (gathered at (numbers (suc i) k)) (r i (omega arith) (omega arith))
      (rising_gathered cmp At (suc i) k (λ j l u. a j (omega arith) (omega arith)) (λ j l u. r j (omega arith) (omega arith))
      (λ j l x y b u e g. h j l x y b (omega arith) e g))
      (every (at i) (λ x e. every_gathered (λ y. cmp x y ≡ Less) (suc i) k
      (λ j l u. every (at j) (λ y g. h i j x y (omega arith) (omega arith) e g) (a j (omega arith) (omega arith))))
      (a i (omega arith) (omega arith)))

  pub member_gathered : (x : A) (i k j : ℕ) → i ≤ j → j < i + k → Member x (at j) → Member x (gathered at (numbers i k))
  member_gathered x i zero j l u m = absurd (omega arith)
  member_gathered x i (suc k) j l u m = by (cases_eq i j) (λ s. member_gathered x (suc i) k j s (omega arith) m)
    where
      by : (i ≡ j) ⊎ (i ≡ j → ⊥) → (suc i ≤ j → Member x (gathered at (numbers (suc i) k))) → Member x (at i ++ gathered at (numbers (suc i) k))
      by (inl e) later = member_left x (at i) (gathered at (numbers (suc i) k)) (subst (λ n. Member x (at n)) (sym e) m)
      by (inr n) later = member_right x (at i) (gathered at (numbers (suc i) k)) (later (omega (arith, n)))

-- ---- pairs

module _ {S T : Type 0} where
  pub every_pairs : {P : S → Type 0} {Q : T → Type 0} (R : S × T → Type 0) (xs : List S) (ys : List T)
      → ((x : S) (y : T) → P x → Q y → R (x, y)) → Every P xs → Every Q ys → Every R (all_pairs xs ys)
  every_pairs R [] ys f h g = tt
  every_pairs R (x ∷ xs) ys f h g =
      every_append R (map (λ y. (x, y)) ys) (all_pairs xs ys) (every_map (λ y. (x, y)) R ys (λ y e. f x y h.0 e) g) (every_pairs R xs ys f h.1 g)

  -- by the left and then the right element
  pub rising_pairs : {P : S → Type 0} {Q : T → Type 0} (c : S → S → Ordering) (e : T → T → Ordering) (d : S × T → S × T → Ordering)
      (xs : List S) (ys : List T)
      → ((x u : S) (y v : T) → P x → P u → Q y → Q v → c x u ≡ Less → d (x, y) (u, v) ≡ Less)
      → ((x : S) (y v : T) → P x → Q y → Q v → e y v ≡ Less → d (x, y) (x, v) ≡ Less)
      → Every P xs → Every Q ys → Rising c xs → Rising e ys → Rising d (all_pairs xs ys)
  rising_pairs c e d [] ys f g h k r s = tt
  rising_pairs {P = P} {Q = Q} c e d (x ∷ xs) ys f g h k r s =
      rising_append d (map (λ y. (x, y)) ys) (all_pairs xs ys)
      (rising_map (λ y. (x, y)) e d ys (λ y v m n l. g x y v h.0 m n l) k s)
      (rising_pairs {P = P} {Q = Q} c e d xs ys f g h.1 k r.1 s)
      (every_map (λ y. (x, y)) (λ z. Every (λ w. d z w ≡ Less) (all_pairs xs ys)) ys
      (λ y m. every_pairs {P = λ u. P u × (c x u ≡ Less)} {Q = Q} (λ w. d (x, y) w ≡ Less) xs ys (λ u v a n. f x u y v h.0 a.0 m n a.1)
      (every_both {R = λ u. P u × (c x u ≡ Less)} xs (λ u a b. (a, b)) h.1 r.0) k) k)

  pub member_pairs : (x : S) (y : T) (xs : List S) (ys : List T) → Member x xs → Member y ys → Member {A = S × T} (x, y) (all_pairs xs ys)
  member_pairs x y [] ys m n = absurd m
  member_pairs x y (u ∷ xs) ys (inl e) n =
      member_left (x, y) (map (λ v. (u, v)) ys) (all_pairs xs ys)
      (subst (λ w. Member {A = S × T} (w, y) (map (λ v. (u, v)) ys)) e (member_map (λ v. (u, v)) y ys n))
  member_pairs x y (u ∷ xs) ys (inr m) n =
      member_right (x, y) (map (λ v. (u, v)) ys) (all_pairs xs ys) (member_pairs x y xs ys m n)
