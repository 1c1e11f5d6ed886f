-- Differences of an abelian group, and the list of the differences of neighbours in a sequence, as a simplex of the nerve.
--
-- A face inside the list adds two neighbours, which is the difference of the sequence without the value between them; a degeneracy puts
-- in the difference of a repeated value, which is 0.
use Rattle.std.proofs.Common.{◌≡◌, ℕ, zero, suc, ◌+◌, ◌<◌, ◌≤◌, List, [], ◌∷◌, length, refl, sym, ◌∙◌, ap, arith}
use Rattle.std.proofs.lemmas.List.Elements.{All-nil, All-cons}
use Rattle.spaces.specs.Tables.{copies}
use Rattle.spaces.specs.Nerves.{Abelian, nerve_face, nerve_degeneracy, nerve_times}
use Rattle.spaces.specs.Groups.{IsAbelian}
use Rattle.spaces.proofs.Nerves.{Each, plus-none}

module _ {G : Type 0} (group : Abelian G) where
  abbrev pub minus : G → G → G
  minus a b = group.plus a (group.negative b)

  -- the differences of k neighbours from place j on
  abbrev pub gaps : (ℕ → G) → ℕ → ℕ → List G
  gaps f j zero = []
  gaps f j (suc k) = minus (f (suc j)) (f j) ∷ gaps f (suc j) k

  pub length-gaps : (f : ℕ → G) (j k : ℕ) → length (gaps f j k) ≡ k
  length-gaps f j zero = refl
  length-gaps f j (suc k) = ap suc (length-gaps f (suc j) k)

  pub gaps-same : (f g : ℕ → G) (j k : ℕ) → ((i : ℕ) → j ≤ i → i ≤ j + k → f i ≡ g i) → gaps f j k ≡ gaps g j k
  gaps-same f g j zero e = refl
  gaps-same f g j (suc k) e =
      let r = gaps-same f g (suc j) k (λ i h l. e i (omega arith) (omega arith)) in
      λ x. minus (e (suc j) (omega arith) (omega arith) x) (e j (omega arith) (omega arith) x) ∷ r x

  -- the sequence without its first value
  pub gaps-rest : (f : ℕ → G) (j k : ℕ) → gaps (λ i. f (suc i)) j k ≡ gaps f (suc j) k
  gaps-rest f j zero = refl
  gaps-rest f j (suc k) = ap (λ x. minus (f (suc (suc j))) (f (suc j)) ∷ x) (gaps-rest f (suc j) k)

  module _ (laws : IsAbelian group) where
    -- (a + b) + (c + d) is (a + c) + (b + d)
    swap_inner : (a b c d : G) → group.Is a → group.Is b → group.Is c → group.Is d
        → group.plus (group.plus a b) (group.plus c d) ≡ group.plus (group.plus a c) (group.plus b d)
    swap_inner a b c d ia ib ic id =
        laws.associates a b (group.plus c d) ia ib (laws.plus_in c d ic id)
        ∙ ap (group.plus a) (sym (laws.associates b c d ib ic id) ∙ ap (λ s. group.plus s d) (laws.commutes b c ib ic) ∙ laws.associates c b d ic ib id)
        ∙ sym (laws.associates a c (group.plus b d) ia ic (laws.plus_in b d ib id))

    pub minus_in : (a b : G) → group.Is a → group.Is b → group.Is (minus a b)
    minus_in a b ia ib = laws.plus_in a (group.negative b) ia (laws.negative_in b ib)

    pub minus-self : (a : G) → group.Is a → minus a a ≡ group.none
    minus-self a ia = laws.commutes a (group.negative a) ia (laws.negative_in a ia) ∙ laws.inverse a ia

    -- (a - b) + b is a
    minus-plus : (a b : G) → group.Is a → group.Is b → group.plus (minus a b) b ≡ a
    minus-plus a b ia ib =
        laws.associates a (group.negative b) b ia (laws.negative_in b ib) ib ∙ ap (group.plus a) (laws.inverse b ib) ∙ plus-none group laws a ia

    -- a sum of 0 with b shows the negative of b
    negative_is : (a b : G) → group.Is a → group.Is b → group.plus a b ≡ group.none → a ≡ group.negative b
    negative_is a b ia ib e =
        sym (plus-none group laws a ia) ∙ ap (group.plus a) (sym (minus-self b ib)) ∙ sym (laws.associates a b (group.negative b) ia ib (laws.negative_in b ib))
        ∙ ap (λ s. group.plus s (group.negative b)) e ∙ laws.unit (group.negative b) (laws.negative_in b ib)

    negative-plus : (a b : G) → group.Is a → group.Is b → group.plus (group.negative a) (group.negative b) ≡ group.negative (group.plus a b)
    negative-plus a b ia ib =
        let na = laws.negative_in a ia in
        let nb = laws.negative_in b ib in
        negative_is (group.plus (group.negative a) (group.negative b)) (group.plus a b) (laws.plus_in _ _ na nb) (laws.plus_in a b ia ib)
        (swap_inner (group.negative a) (group.negative b) a b na nb ia ib
        ∙ (λ i. group.plus (laws.inverse a ia i) (laws.inverse b ib i)) ∙ laws.unit group.none laws.none_in)

    -- (a - b) + (c - d) is (a + c) - (b + d)
    minus-minus : (a b c d : G) → group.Is a → group.Is b → group.Is c → group.Is d
        → group.plus (minus a b) (minus c d) ≡ minus (group.plus a c) (group.plus b d)
    minus-minus a b c d ia ib ic id =
        swap_inner a (group.negative b) c (group.negative d) ia (laws.negative_in b ib) ic (laws.negative_in d id)
        ∙ ap (group.plus (group.plus a c)) (negative-plus b d ib id)

    minus-none : (a b : G) → group.Is a → group.Is b → minus a b ≡ group.none → a ≡ b
    minus-none a b ia ib e = sym (minus-plus a b ia ib) ∙ ap (λ s. group.plus s b) e ∙ laws.unit b ib

    -- (a - b) + (c - d) is 0 where a + c is b + d, and only there
    pub balance : (a b c d : G) → group.Is a → group.Is b → group.Is c → group.Is d → group.plus (minus a b) (minus c d) ≡ group.none
        → group.plus a c ≡ group.plus b d
    balance a b c d ia ib ic id e =
        minus-none (group.plus a c) (group.plus b d) (laws.plus_in a c ia ic) (laws.plus_in b d ib id) (sym (minus-minus a b c d ia ib ic id) ∙ e)

    -- where two sums differ by w alone, so do differences
    minus-sums : (x x' y y' z z' w : G) → group.Is x → group.Is x' → group.Is y → group.Is y' → group.Is z → group.Is z' → group.Is w
        → group.plus x z ≡ group.plus y w → group.plus x' z' ≡ group.plus y' w → group.plus (minus x' x) (minus z' z) ≡ minus y' y
    minus-sums x x' y y' z z' w ix ix' iy iy' iz iz' iw e e' =
        minus-minus x' x z' z ix' ix iz' iz ∙ (λ i. minus (e' i) (e i)) ∙ sym (minus-minus y' y w w iy' iy iw iw)
        ∙ ap (group.plus (minus y' y)) (minus-self w iw) ∙ plus-none group laws (minus y' y) (minus_in y' y iy' iy)

    -- (b - a) + (c - b) is c - a
    minus-chain : (a b c : G) → group.Is a → group.Is b → group.Is c → group.plus (minus b a) (minus c b) ≡ minus c a
    minus-chain a b c ia ib ic = minus-sums a b a c b c b ia ib ia ic ib ic ib refl (laws.commutes b c ib ic)

    -- ---- the lists

    pub gaps_each : (f : ℕ → G) (j k : ℕ) → ((i : ℕ) → i ≤ j + k → group.Is (f i)) → Each group (gaps f j k)
    gaps_each f j zero is = All-nil group.Is
    gaps_each f j (suc k) is =
        All-cons group.Is (minus (f (suc j)) (f j)) (gaps f (suc j) k) (minus_in (f (suc j)) (f j) (is (suc j) (omega arith)) (is j (omega arith)))
        (gaps_each f (suc j) k (λ i h. is i (omega arith)))

    -- a sequence of zeros
    pub gaps-none : (f : ℕ → G) (j k : ℕ) → ((i : ℕ) → i ≤ j + k → f i ≡ group.none) → gaps f j k ≡ copies k group.none
    gaps-none f j zero e = refl
    gaps-none f j (suc k) e =
        let h : minus (f (suc j)) (f j) ≡ group.none = (λ i. minus (e (suc j) (omega arith) i) (e j (omega arith) i)) ∙ minus-self group.none laws.none_in in
        let r = gaps-none f (suc j) k (λ i l. e i (omega arith)) in
        λ i. h i ∷ r i

    pub times-gaps : (x y z : ℕ → G) (w : G) (j k : ℕ) → group.Is w → ((i : ℕ) → i ≤ j + k → group.Is (x i) × group.Is (y i) × group.Is (z i))
        → ((i : ℕ) → j ≤ i → i ≤ j + k → group.plus (x i) (z i) ≡ group.plus (y i) w) → nerve_times group (gaps x j k) (gaps z j k) ≡ gaps y j k
    times-gaps x y z w j zero iw is e = refl
    times-gaps x y z w j (suc k) iw is e =
        let a = is j (omega arith) in
        let b = is (suc j) (omega arith) in
        let h = minus-sums (x j) (x (suc j)) (y j) (y (suc j)) (z j) (z (suc j)) w a.0 b.0 a.1 b.1 a.2 b.2 iw (e j (omega arith) (omega arith))
        (e (suc j) (omega arith) (omega arith)) in
        let r = times-gaps x y z w (suc j) k iw (λ i l. is i (omega arith)) (λ i l m. e i (omega arith) (omega arith)) in
        λ i. h i ∷ r i

    -- an inner face, and the last one, leave out a value
    pub face-gaps : (f g : ℕ → G) (i j n : ℕ) → i ≤ n → ((l : ℕ) → l ≤ suc (j + n) → group.Is (g l))
        → ((l : ℕ) → l ≤ j + i → f l ≡ g l) → ((l : ℕ) → j + i < l → l ≤ j + n → f l ≡ g (suc l)) → nerve_face group (suc i) (gaps g j (suc n)) ≡ gaps f j n
    face-gaps f g zero j zero h is low high = refl
    face-gaps f g zero j (suc n) h is low high =
        let c = minus-chain (g j) (g (suc j)) (g (suc (suc j))) (is j (omega arith)) (is (suc j) (omega arith)) (is (suc (suc j)) (omega arith)) in
        let u : f j ≡ g j = low j (omega arith) in
        let v : f (suc j) ≡ g (suc (suc j)) = high (suc j) (omega arith) (omega arith) in
        let r : gaps f (suc j) n ≡ gaps g (suc (suc j)) n =
        gaps-same f (λ i. g (suc i)) (suc j) n (λ l a b. high l (omega arith) (omega arith)) ∙ gaps-rest g (suc j) n in
        (λ i. c i ∷ gaps g (suc (suc j)) n) ∙ sym (λ i. minus (v i) (u i) ∷ r i)
    face-gaps f g (suc i) j zero h is low high = absurd (omega arith)
    face-gaps f g (suc i) j (suc n) h is low high =
        let u : f j ≡ g j = low j (omega arith) in
        let v : f (suc j) ≡ g (suc j) = low (suc j) (omega arith) in
        let r = face-gaps f g i (suc j) n (omega arith) (λ l a. is l (omega arith)) (λ l a. low l (omega arith)) (λ l a b. high l (omega arith) (omega arith)) in
        sym (λ x. minus (v x) (u x) ∷ sym r x)

    -- a degeneracy repeats a value
    pub degeneracy-gaps : (f g : ℕ → G) (i j n : ℕ) → i ≤ n → ((l : ℕ) → l ≤ j + n → group.Is (g l))
        → ((l : ℕ) → l ≤ j + i → f l ≡ g l) → ((l : ℕ) → j + i ≤ l → l ≤ j + n → f (suc l) ≡ g l) → gaps f j (suc n) ≡ nerve_degeneracy group i (gaps g j n)
    degeneracy-gaps f g zero j n h is low high =
        let u : f j ≡ g j = low j (omega arith) in
        let v : f (suc j) ≡ g j = high j (omega arith) (omega arith) in
        let e : minus (f (suc j)) (f j) ≡ group.none = (λ x. minus (v x) (u x)) ∙ minus-self (g j) (is j (omega arith)) in
        let r : gaps f (suc j) n ≡ gaps g j n = sym (gaps-rest f j n) ∙ gaps-same (λ i. f (suc i)) g j n (λ l a b. high l (omega arith) (omega arith)) in
        λ x. e x ∷ r x
    degeneracy-gaps f g (suc i) j zero h is low high = absurd (omega arith)
    degeneracy-gaps f g (suc i) j (suc n) h is low high =
        let u : f j ≡ g j = low j (omega arith) in
        let v : f (suc j) ≡ g (suc j) = low (suc j) (omega arith) in
        let r = degeneracy-gaps f g i (suc j) n (omega arith) (λ l a. is l (omega arith)) (λ l a. low l (omega arith)) (λ l a b. high l (omega arith) (omega arith)) in
        λ x. minus (v x) (u x) ∷ r x
