-- The basis of each space rises, has its degree, and consists of the small cells of the closed form.
use Rattle.std.proofs.Common.{◌≡◌, ℕ, zero, suc, ◌+◌, ◌-◌, ◌<◌, ◌≤◌, Bool, true, false, ◌==◌, cond, List, [], ◌∷◌, length, ◌⊎◌, inl, inr, refl, sym, ◌∙◌, ap, subst, arith, pos, true≢false}
use Rattle.std.specs.Prelude.{map, Some, None, ℤ, ◌↔◌, Contains, slice_index_or}
use Rattle.std.specs.List.{filter, AllPairs}
use Rattle.std.specs.Ordering.{is_eq, ordering_then, nat_cmp}
use Rattle.std.specs.declared.cmp.Ordering.{Ordering}
use Rattle.std.specs.declared.cmp.Ordering.TheVariants.{Less}
use Rattle.std.specs.Cmp.Lexicographic.{slice_cmp}
use Rattle.std.proofs.lemmas.Bool.{cases_eq, eqb-true, eq-eqb}
use Rattle.std.proofs.lemmas.Cmp.{tied_itself}
use Rattle.spaces.specs.Tables.{Table, sphere_rows}
use Rattle.spaces.specs.Spaces.{Space, table, sphere, product, suspension, kz1, bundle, loops, paths, kzm1, cyclic_bundle}
use Rattle.spaces.specs.SmallCells.{Small, small_cmp, small_degree, word_degree, row_dim, degree_then, both_cmp}
use Rattle.values.specs.Asks.{basis}
use Rattle.values.specs.CyclicFlow.{cyclic_cell}
use Rattle.values.specs.Rules.{numbers, all_pairs, rows_of_dim}
use Rattle.values.specs.Values.{value}
use Rattle.values.specs.BaseLaws.{IsSmall}
use Rattle.values.proofs.BasesLists.{at_member, pairs_of, contains_of, Every, Member, Rising, every, every_pairs, every_map, every_gathered, gathered, rising_pairs, rising_map, rising_gathered, member_pairs, member_map, member_gathered}
use Rattle.values.proofs.BasesAsks.{basis-given_back, pairs-value, words-value}
use Rattle.values.proofs.BasesOrders.{small-total, less-nat, in_degree, lower-first}

-- ---- lists of cells of one degree

abbrev pub IsOf : (a : Space) → ℕ → Small a → Type 0
IsOf a n y = (small_degree a y ≡ n) × IsSmall a y

pub record Fine (a : Space) (n : ℕ) (ys : List (Small a)) : Type 0 where
  pub cells : Every (IsOf a n) ys
  pub rising : Rising (small_cmp a) ys

abbrev pub AllFine : ℕ → Space → Type 0
AllFine p a = (n : ℕ) → Fine a n (value p (basis a n))

-- each small cell is there
abbrev pub IsFull : ℕ → Space → Type 0
IsFull p a = (n : ℕ) (y : Small a) → IsSmall a y → small_degree a y ≡ n → Member y (value p (basis a n))

-- ---- rows

module _ (t : Table) (n : ℕ) where
  abbrev is_of_dim : ℕ → Bool
  is_of_dim r = row_dim t r == n

  rows-every : (i k : ℕ) → Every (λ r. (row_dim t r ≡ n) × (i ≤ r) × (r < i + k)) (filter is_of_dim (numbers i k))
  rows-every i zero = tt
  rows-every i (suc k) = by (is_of_dim i) refl (rows-every (suc i) k)
    where
      by : (b : Bool) → is_of_dim i ≡ b → Every (λ r. (row_dim t r ≡ n) × (suc i ≤ r) × (r < suc i + k)) (filter is_of_dim (numbers (suc i) k))
          → Every (λ r. (row_dim t r ≡ n) × (i ≤ r) × (r < i + suc k)) (cond b (i ∷ filter is_of_dim (numbers (suc i) k)) (filter is_of_dim (numbers (suc i) k)))
      by true e u = ((eqb-true (row_dim t i) n e, omega arith, omega arith), every (filter is_of_dim (numbers (suc i) k)) (λ r v. (v.0, omega arith, omega arith)) u)
      by false e u = every (filter is_of_dim (numbers (suc i) k)) (λ r v. (v.0, omega arith, omega arith)) u

  rows-rising : (i k : ℕ) → Rising (degree_then (row_dim t) nat_cmp) (filter is_of_dim (numbers i k))
  rows-rising i zero = tt
  rows-rising i (suc k) = by (is_of_dim i) refl (rows-rising (suc i) k)
    where
      by : (b : Bool) → is_of_dim i ≡ b → Rising (degree_then (row_dim t) nat_cmp) (filter is_of_dim (numbers (suc i) k))
          → Rising (degree_then (row_dim t) nat_cmp) (cond b (i ∷ filter is_of_dim (numbers (suc i) k)) (filter is_of_dim (numbers (suc i) k)))
      by true e u = (
        every (filter is_of_dim (numbers (suc i) k))
            (λ r v. in_degree (row_dim t) nat_cmp i r (eqb-true (row_dim t i) n e ∙ sym v.0) ∙ less-nat i r v.1) (rows-every (suc i) k),
        u,
      )
      by false e u = u

  rows-member : (i k r : ℕ) → i ≤ r → r < i + k → row_dim t r ≡ n → Member r (filter is_of_dim (numbers i k))
  rows-member i zero r l u d = absurd (omega arith)
  rows-member i (suc k) r l u d = by (cases_eq i r) (λ s. rows-member (suc i) k r s (omega arith) d)
    where
      later : (b : Bool) → Member r (filter is_of_dim (numbers (suc i) k)) → Member r (cond b (i ∷ filter is_of_dim (numbers (suc i) k)) (filter is_of_dim (numbers (suc i) k)))
      later true m = inr m
      later false m = m

      by : (i ≡ r) ⊎ (i ≡ r → ⊥) → (suc i ≤ r → Member r (filter is_of_dim (numbers (suc i) k)))
          → Member r (cond (is_of_dim i) (i ∷ filter is_of_dim (numbers (suc i) k)) (filter is_of_dim (numbers (suc i) k)))
      by (inl e) m =
          subst (λ b. Member r (cond b (i ∷ filter is_of_dim (numbers (suc i) k)) (filter is_of_dim (numbers (suc i) k))))
          (sym (eq-eqb (row_dim t i) n (ap (row_dim t) e ∙ d))) (inl e)
      by (inr e) m = later (is_of_dim i) (m (omega (arith, e)))

table-fine : (p : ℕ) (t : Table) → AllFine p (table t)
table-fine p t n =
    record { cells = every (rows_of_dim t n) (λ r u. (u.0, omega arith)) (rows-every t n 0 (length t)); rising = rows-rising t n 0 (length t) }

table-full : (p : ℕ) (t : Table) → IsFull p (table t)
table-full p t n y s d = rows-member t n 0 (length t) y (omega arith) (omega arith) d

sphere-fine : (p m : ℕ) → AllFine p (sphere m)
sphere-fine p m n =
    record { cells = every (rows_of_dim (sphere_rows m) n) (λ r u. (u.0, omega arith)) (rows-every (sphere_rows m) n 0 2); rising = rows-rising (sphere_rows m) n 0 2 }

sphere-full : (p m : ℕ) → IsFull p (sphere m)
sphere-full p m n y s d = rows-member (sphere_rows m) n 0 2 y (omega arith) (omega arith) d

-- ---- nerves

integers-fine : (p : ℕ) → AllFine p kz1
integers-fine p zero = record { cells = ((refl, inl refl), tt); rising = (tt, tt) }
integers-fine p (suc zero) = record { cells = ((refl, inr refl), tt); rising = (tt, tt) }
integers-fine p (suc (suc n)) = record { cells = tt; rising = tt }

integers-full : (p : ℕ) → IsFull p kz1
integers-full p zero y s d = by s
  where
    by : (y ≡ []) ⊎ (y ≡ pos 1 ∷ []) → Member y ([] ∷ [])
    by (inl e) = inl (sym e)
    by (inr e) = absurd (omega (arith, d, ap length e))
integers-full p (suc zero) y s d = by s
  where
    by : (y ≡ []) ⊎ (y ≡ pos 1 ∷ []) → Member y ((pos 1 ∷ []) ∷ [])
    by (inl e) = absurd (omega (arith, d, ap length e))
    by (inr e) = inl (sym e)
integers-full p (suc (suc n)) y s d = by s
  where
    by : (y ≡ []) ⊎ (y ≡ pos 1 ∷ []) → ⊥
    by (inl e) = omega (arith, d, ap length e)
    by (inr e) = omega (arith, d, ap length e)

pub length-cyclic_cell : (m n : ℕ) → length (cyclic_cell m n) ≡ n
length-cyclic_cell m zero = refl
length-cyclic_cell m (suc zero) = refl
length-cyclic_cell m (suc (suc n)) = let e = length-cyclic_cell m n in omega (arith, e)

residues-fine : (p m : ℕ) → AllFine p (kzm1 m)
residues-fine p m n =
    record { cells = ((length-cyclic_cell m n, ap (cyclic_cell m) (sym (length-cyclic_cell m n))), tt); rising = (tt, tt) }

residues-full : (p m : ℕ) → IsFull p (kzm1 m)
residues-full p m n y s d = inl (sym (s ∙ ap (cyclic_cell m) d))

-- ---- pairs

then_less : (o r s : Ordering) → o ≡ s → s ≡ Less → ordering_then o r ≡ Less
then_less o r s e l = ap (λ q. ordering_then q r) (e ∙ l)

module _ (p : ℕ) (a b : Space) (n : ℕ) where
  abbrev pub pairs_at : ℕ → List (Small a × Small b)
  pairs_at i = all_pairs (value p (basis a i)) (value p (basis b (n - i)))

  -- the pairs of degree n, in order
  abbrev pub pair_basis : List (Small a × Small b)
  pair_basis = gathered pairs_at (numbers 0 (suc n))

  abbrev At : ℕ → Small a × Small b → Type 0
  At i y = (small_degree a y.0 ≡ i) × (small_degree a y.0 + small_degree b y.1 ≡ n)

  module _ (u : AllFine p a) (v : AllFine p b) where
    pairs-placed : (i : ℕ) → i < suc n → Every (λ y. At i y × IsSmall a y.0 × IsSmall b y.1) (pairs_at i)
    pairs-placed i l =
        every_pairs {P = IsOf a i} {Q = IsOf b (n - i)} (λ y. At i y × IsSmall a y.0 × IsSmall b y.1) (value p (basis a i)) (value p (basis b (n - i)))
        (λ x y g h. ((g.0, sum x y g.0 h.0), g.1, h.1)) (u i).cells (v (n - i)).cells
      where
        sum : (x : Small a) (y : Small b) → small_degree a x ≡ i → small_degree b y ≡ n - i → small_degree a x + small_degree b y ≡ n
        sum x y d e = omega (arith, d, e)

    pairs-rising : (i : ℕ) → i < suc n → Rising (small_cmp (product a b)) (pairs_at i)
    pairs-rising i l =
        rising_pairs {P = IsOf a i} {Q = IsOf b (n - i)} (small_cmp a) (small_cmp b) (small_cmp (product a b)) (value p (basis a i)) (value p (basis b (n - i)))
        (λ x z y w g h k m r. within x z y w g.0 h.0 k.0 m.0 ∙ ap (λ o. ordering_then o (small_cmp b y w)) r)
        (λ x y w g k m r.
        within x x y w g.0 g.0 k.0 m.0 ∙ ap (λ o. ordering_then o (small_cmp b y w)) (tied_itself (small-total a) x) ∙ r)
        (u i).cells (v (n - i)).cells (u i).rising (v (n - i)).rising
      where
        within : (x z : Small a) (y w : Small b) → small_degree a x ≡ i → small_degree a z ≡ i → small_degree b y ≡ n - i → small_degree b w ≡ n - i
            → small_cmp (product a b) (x, y) (z, w) ≡ ordering_then (small_cmp a x z) (small_cmp b y w)
        within x z y w d e f g =
            in_degree (λ s. small_degree a s.0 + small_degree b s.1) (both_cmp (small_cmp a) (small_cmp b)) (x, y) (z, w) (omega (arith, d, e, f, g))

    pairs-apart : (i j : ℕ) (x y : Small a × Small b) → i < j → At i x → At j y → small_cmp (product a b) x y ≡ Less
    pairs-apart i j x y l g h =
        in_degree (λ s. small_degree a s.0 + small_degree b s.1) (both_cmp (small_cmp a) (small_cmp b)) x y (g.1 ∙ sym h.1)
        ∙ ap (λ o. ordering_then o (small_cmp b x.1 y.1)) (lower-first a x.0 y.0 (omega (arith, g.0, h.0)))

    pub pair_basis-fine : Fine (product a b) n pair_basis
    pair_basis-fine = record {
      cells = every_gathered pairs_at (IsOf (product a b) n) 0 (suc n) (λ i l s. every (pairs_at i) (λ y e. (e.0.1, (e.1, e.2))) (pairs-placed i (omega arith)));
      rising = rising_gathered pairs_at (small_cmp (product a b)) At 0 (suc n)
          (λ i l s. every (pairs_at i) (λ y e. e.0) (pairs-placed i (omega arith))) (λ i l s. pairs-rising i (omega arith))
          (λ i j x y l s g h. pairs-apart i j x y l g h);
    }

  pub pair_basis-full : IsFull p a → IsFull p b → (y : Small a × Small b) → IsSmall a y.0 → IsSmall b y.1 → small_degree a y.0 + small_degree b y.1 ≡ n → Member y pair_basis
  pair_basis-full u v y s r d =
      member_gathered pairs_at y 0 (suc n) (small_degree a y.0) (omega arith) (omega (arith, d))
      (member_pairs y.0 y.1 (value p (basis a (small_degree a y.0))) (value p (basis b (n - small_degree a y.0)))
      (u (small_degree a y.0) y.0 s refl) (v (n - small_degree a y.0) y.1 r (omega (arith, d))))

-- ---- words

module _ (p : ℕ) (a : Space) (n : ℕ) where
  abbrev put_first : Small a × List (Small a) → List (Small a)
  put_first x = x.0 ∷ x.1

  abbrev words_at : ℕ → List (List (Small a))
  words_at i = map put_first (all_pairs (value p (basis a i)) (value p (basis (loops a) (suc n - i))))

  -- the words of degree n that are not empty
  abbrev word_basis : List (List (Small a))
  word_basis = gathered words_at (numbers 2 n)

  abbrev StartsAt : ℕ → List (Small a) → Type 0
  StartsAt i [] = ⊥
  StartsAt i (x ∷ w) = (small_degree a x ≡ i) × (small_degree (loops a) (x ∷ w) ≡ n)

  abbrev IsPart : ℕ → Small a × List (Small a) → Type 0
  IsPart i y = IsOf a i y.0 × IsOf (loops a) (suc n - i) y.1

  module _ (u : AllFine p a) (v : (m : ℕ) → m < n → Fine (loops a) m (value p (basis (loops a) m))) where
    rest : (i : ℕ) → 2 ≤ i → i < 2 + n → Fine (loops a) (suc n - i) (value p (basis (loops a) (suc n - i)))
    rest i l s = v (suc n - i) (omega arith)

    word-degree : (i : ℕ) → 2 ≤ i → i < 2 + n → (x : Small a) (w : List (Small a)) → small_degree a x ≡ i → small_degree (loops a) w ≡ suc n - i
        → small_degree (loops a) (x ∷ w) ≡ n
    word-degree i l s x w d e = omega (arith, d, e)

    parts-placed : (i : ℕ) → 2 ≤ i → i < 2 + n → Every (IsPart i) (all_pairs (value p (basis a i)) (value p (basis (loops a) (suc n - i))))
    parts-placed i l s =
        every_pairs {P = IsOf a i} {Q = IsOf (loops a) (suc n - i)} (IsPart i) (value p (basis a i)) (value p (basis (loops a) (suc n - i)))
        (λ x y g h. (g, h)) (u i).cells (rest i l s).cells

    words-placed : (i : ℕ) → 2 ≤ i → i < 2 + n → Every (λ w. StartsAt i w × IsOf (loops a) n w) (words_at i)
    words-placed i l s =
        every_map put_first (λ w. StartsAt i w × IsOf (loops a) n w) (all_pairs (value p (basis a i)) (value p (basis (loops a) (suc n - i))))
        (λ y g. let d = word-degree i l s y.0 y.1 g.0.0 g.1.0 in ((g.0.0, d), (d, (g.0.1, omega (arith, g.0.0), g.1.1)))) (parts-placed i l s)

    words-within : (i : ℕ) → 2 ≤ i → i < 2 + n → (x z : Small a) (y w : List (Small a)) → IsOf a i x → IsOf a i z
        → IsOf (loops a) (suc n - i) y → IsOf (loops a) (suc n - i) w
        → small_cmp (loops a) (x ∷ y) (z ∷ w) ≡ ordering_then (small_cmp a x z) (slice_cmp (small_cmp a) y w)
    words-within i l s x z y w g h k m =
        in_degree (word_degree (small_degree a)) (slice_cmp (small_cmp a)) (x ∷ y) (z ∷ w)
        (word-degree i l s x y g.0 k.0 ∙ sym (word-degree i l s z w h.0 m.0))

    abbrev by_parts : Small a × List (Small a) → Small a × List (Small a) → Ordering
    by_parts x y = small_cmp (loops a) (put_first x) (put_first y)

    words-rising : (i : ℕ) → 2 ≤ i → i < 2 + n → Rising (small_cmp (loops a)) (words_at i)
    words-rising i l s =
        rising_map put_first {P = IsPart i} by_parts (small_cmp (loops a)) (all_pairs (value p (basis a i)) (value p (basis (loops a) (suc n - i))))
        (λ x y g h e. e) (parts-placed i l s)
        (rising_pairs {P = IsOf a i} {Q = IsOf (loops a) (suc n - i)} (small_cmp a) (small_cmp (loops a)) by_parts
        (value p (basis a i)) (value p (basis (loops a) (suc n - i)))
        (λ x z y w g h k m r. words-within i l s x z y w g h k m ∙ ap (λ o. ordering_then o (slice_cmp (small_cmp a) y w)) r)
        (λ x y w g k m r.
        words-within i l s x x y w g g k m ∙ ap (λ o. ordering_then o (slice_cmp (small_cmp a) y w)) (tied_itself (small-total a) x)
        ∙ sym (in_degree (word_degree (small_degree a)) (slice_cmp (small_cmp a)) y w (k.0 ∙ sym m.0)) ∙ r)
        (u i).cells (rest i l s).cells (u i).rising (rest i l s).rising)

    words-apart : (i j : ℕ) (x y : List (Small a)) → i < j → StartsAt i x → StartsAt j y → small_cmp (loops a) x y ≡ Less
    words-apart i j [] y l g h = absurd g
    words-apart i j (x ∷ w) [] l g h = absurd h
    words-apart i j (x ∷ w) (y ∷ z) l g h =
        in_degree (word_degree (small_degree a)) (slice_cmp (small_cmp a)) (x ∷ w) (y ∷ z) (g.1 ∙ sym h.1)
        ∙ ap (λ o. ordering_then o (slice_cmp (small_cmp a) w z)) (lower-first a x y (omega (arith, g.0, h.0)))

    word_basis-fine : Fine (loops a) n word_basis
    word_basis-fine = record {
      cells = every_gathered words_at (IsOf (loops a) n) 2 n (λ i l s. every (words_at i) (λ w e. e.1) (words-placed i l s));
      rising = rising_gathered words_at (small_cmp (loops a)) StartsAt 2 n
          (λ i l s. every (words_at i) (λ w e. e.0) (words-placed i l s)) (λ i l s. words-rising i l s)
          (λ i j x y l s g h. words-apart i j x y l g h);
    }

  pub word_basis-member : IsFull p a → (x : Small a) (w : List (Small a)) → IsSmall a x → 2 ≤ small_degree a x → small_degree (loops a) (x ∷ w) ≡ n
      → Member w (value p (basis (loops a) (small_degree (loops a) w))) → 0 < n → Member (x ∷ w) word_basis
  word_basis-member u x w s l d m q =
      member_gathered words_at (x ∷ w) 2 n (small_degree a x) l (omega (arith, d))
      (member_map put_first (x, w) (all_pairs (value p (basis a (small_degree a x))) (value p (basis (loops a) (suc n - small_degree a x))))
      (member_pairs x w (value p (basis a (small_degree a x))) (value p (basis (loops a) (suc n - small_degree a x))) (u (small_degree a x) x s refl)
      (subst (λ k. Member w (value p (basis (loops a) k))) (let e : small_degree (loops a) w ≡ suc n - small_degree a x = omega (arith, d) in e) m)))

module _ (p : ℕ) (a : Space) where
  loops-value : (n : ℕ) → value p (basis (loops a) (suc n)) ≡ word_basis p a (suc n)
  loops-value n = basis-given_back p (loops a) (suc n) ∙ words-value (value p) a (suc n) (numbers 2 (suc n))

  loops-below : AllFine p a → (k n : ℕ) → n < k → Fine (loops a) n (value p (basis (loops a) n))
  loops-below u zero n l = absurd (omega arith)
  loops-below u (suc k) zero l = subst (Fine (loops a) zero) (sym (basis-given_back p (loops a) zero)) (record { cells = ((refl, tt), tt); rising = (tt, tt) })
  loops-below u (suc k) (suc n) l =
      subst (Fine (loops a) (suc n)) (sym (loops-value n)) (word_basis-fine p a (suc n) u (λ m s. loops-below u k m (omega arith)))

  loops-fine : AllFine p a → AllFine p (loops a)
  loops-fine u n = loops-below u (suc n) n (omega arith)

  loops-full : IsFull p a → IsFull p (loops a)
  loops-full u zero [] s d = subst (Member []) (sym (basis-given_back p (loops a) zero)) (inl refl)
  loops-full u (suc n) [] s d = absurd (omega (arith, d))
  loops-full u zero (x ∷ w) s d = absurd (omega (arith, d, s.1))
  loops-full u (suc n) (x ∷ w) s d =
      subst (Member (x ∷ w)) (sym (loops-value n))
      (word_basis-member p a (suc n) u x w s.0 s.1 d (loops-full u (small_degree (loops a) w) w s.2 refl) (omega arith))

-- ---- suspensions

module _ (p : ℕ) (a : Space) where
  suspension-fine : AllFine p a → AllFine p (suspension a)
  suspension-fine u zero = subst (Fine (suspension a) zero) (sym (basis-given_back p (suspension a) zero)) (record { cells = ((refl, tt), tt); rising = (tt, tt) })
  suspension-fine u (suc zero) = subst (Fine (suspension a) 1) (sym (basis-given_back p (suspension a) 1)) (record { cells = tt; rising = tt })
  suspension-fine u (suc (suc n)) = subst (Fine (suspension a) (suc (suc n))) (sym (basis-given_back p (suspension a) (suc (suc n)))) (record {
    cells = every_map (λ y. Some y) (IsOf (suspension a) (suc (suc n))) (value p (basis a (suc n))) (λ y g. (ap suc g.0, (g.1, omega (arith, g.0)))) (u (suc n)).cells;
    rising = rising_map (λ y. Some y) {P = IsOf a (suc n)} (small_cmp a) (small_cmp (suspension a)) (value p (basis a (suc n))) (λ x y g h e. e) (u (suc n)).cells (u (suc n)).rising;
  })

  suspension-full : IsFull p a → IsFull p (suspension a)
  suspension-full u zero None s d = subst (Member None) (sym (basis-given_back p (suspension a) zero)) (inl refl)
  suspension-full u (suc n) None s d = absurd (omega (arith, d))
  suspension-full u zero (Some y) s d = absurd (omega (arith, d))
  suspension-full u (suc zero) (Some y) s d = absurd (omega (arith, d, s.1))
  suspension-full u (suc (suc n)) (Some y) s d =
      subst (Member (Some y)) (sym (basis-given_back p (suspension a) (suc (suc n))))
      (member_map (λ z. Some z) y (value p (basis a (suc n))) (u (suc n) y s.0 (omega (arith, d))))

-- ---- every space

module _ (p : ℕ) where
  pairs-basis : (a b : Space) (n : ℕ) → value p (basis (product a b) n) ≡ pair_basis p a b n
  pairs-basis a b n = basis-given_back p (product a b) n ∙ pairs-value (value p) a b n (numbers 0 (suc n))

  bundle-basis : (t : Table) (c : List ℤ) (n : ℕ) → value p (basis (bundle t c) n) ≡ pair_basis p (table t) kz1 n
  bundle-basis t c n = basis-given_back p (bundle t c) n ∙ pairs-value (value p) (table t) kz1 n (numbers 0 (suc n))

  paths-basis : (a : Space) (n : ℕ) → value p (basis (paths a) n) ≡ pair_basis p a (loops a) n
  paths-basis a n = basis-given_back p (paths a) n ∙ pairs-value (value p) a (loops a) n (numbers 0 (suc n))

  cyclic-basis : (t : Table) (m : ℕ) (c : List ℕ) (n : ℕ) → value p (basis (cyclic_bundle t m c) n) ≡ pair_basis p (table t) (kzm1 m) n
  cyclic-basis t m c n = basis-given_back p (cyclic_bundle t m c) n ∙ pairs-value (value p) (table t) (kzm1 m) n (numbers 0 (suc n))

  pub all-fine : (a : Space) → AllFine p a
  all-fine (table t) = table-fine p t
  all-fine (sphere m) = sphere-fine p m
  all-fine (product a b) = λ n. subst (Fine (product a b) n) (sym (pairs-basis a b n)) (pair_basis-fine p a b n (all-fine a) (all-fine b))
  all-fine (suspension a) = suspension-fine p a (all-fine a)
  all-fine kz1 = integers-fine p
  all-fine (bundle t c) = λ n. subst (Fine (bundle t c) n) (sym (bundle-basis t c n))
      (let u = pair_basis-fine p (table t) kz1 n (table-fine p t) (integers-fine p) in record { cells = u.cells; rising = u.rising })
  all-fine (loops a) = loops-fine p a (all-fine a)
  all-fine (paths a) = λ n. subst (Fine (paths a) n) (sym (paths-basis a n))
      (let u = pair_basis-fine p a (loops a) n (all-fine a) (loops-fine p a (all-fine a)) in record { cells = u.cells; rising = u.rising })
  all-fine (kzm1 m) = residues-fine p m
  all-fine (cyclic_bundle t m c) = λ n. subst (Fine (cyclic_bundle t m c) n) (sym (cyclic-basis t m c n))
      (let u = pair_basis-fine p (table t) (kzm1 m) n (table-fine p t) (residues-fine p m) in record { cells = u.cells; rising = u.rising })

  pub all-full : (a : Space) → IsFull p a
  all-full (table t) = table-full p t
  all-full (sphere m) = sphere-full p m
  all-full (product a b) = λ n y s d. subst (Member y) (sym (pairs-basis a b n)) (pair_basis-full p a b n (all-full a) (all-full b) y s.0 s.1 d)
  all-full (suspension a) = suspension-full p a (all-full a)
  all-full kz1 = integers-full p
  all-full (bundle t c) = λ n y s d. subst (Member y) (sym (bundle-basis t c n)) (pair_basis-full p (table t) kz1 n (table-full p t) (integers-full p) y s.0 s.1 d)
  all-full (loops a) = loops-full p a (all-full a)
  all-full (paths a) = λ n y s d. subst (Member y) (sym (paths-basis a n)) (pair_basis-full p a (loops a) n (all-full a) (loops-full p a (all-full a)) y s.0 s.1 d)
  all-full (kzm1 m) = residues-full p m
  all-full (cyclic_bundle t m c) = λ n y s d. subst (Member y) (sym (cyclic-basis t m c n)) (pair_basis-full p (table t) (kzm1 m) n (table-full p t) (residues-full p m) y s.0 s.1 d)

-- ---- what contracts say

pub basis-degree : (p : ℕ) (a : Space) (n : ℕ) (y : Small a) → Contains (value p (basis a n)) y → small_degree a y ≡ n
basis-degree p a n y m = (at_member (IsOf a n) (value p (basis a n)) y (all-fine p a n).cells m).0

pub basis-rising : (p : ℕ) (a : Space) (n : ℕ) → AllPairs (λ x y. small_cmp a x y ≡ Less) (value p (basis a n))
basis-rising p a n = pairs_of (small_cmp a) (value p (basis a n)) (all-fine p a n).rising

pub basis-different : (p : ℕ) (a : Space) (n : ℕ) → AllPairs (λ x y. x ≡ y → ⊥) (value p (basis a n))
basis-different p a n = λ i j d l u e. differ (slice_index_or (value p (basis a n)) i d) (slice_index_or (value p (basis a n)) j d) (basis-rising p a n i j d l u) e
  where
    differ : (x y : Small a) → small_cmp a x y ≡ Less → x ≡ y → ⊥
    differ x y l e = true≢false (ap is_eq (sym (tied_itself (small-total a) x) ∙ ap (λ z. small_cmp a x z) e ∙ l))

pub basis-members : (p : ℕ) (a : Space) (n : ℕ) (y : Small a) → Contains (value p (basis a n)) y ↔ ((small_degree a y ≡ n) × IsSmall a y)
basis-members p a n y = (
  λ m. at_member (IsOf a n) (value p (basis a n)) y (all-fine p a n).cells m,
  λ s. contains_of (value p (basis a n)) y (all-full p a n y s.1 s.0),
)

-- ---- spheres

-- the rows that pass two tests
abbrev rows_by : Bool → Bool → List ℕ
rows_by b c = cond b (0 ∷ cond c (1 ∷ []) []) (cond c (1 ∷ []) [])

sphere-rows : (p m n : ℕ) (b c : Bool) → (0 == n) ≡ b → (m == n) ≡ c → value p (basis (sphere m) n) ≡ rows_by b c
sphere-rows p m n b c e f = λ i. rows_by (e i) (f i)

not_same : (d n : ℕ) → (d ≡ n → ⊥) → (d == n) ≡ false
not_same d n h = by (d == n) refl
  where
    by : (b : Bool) → (d == n) ≡ b → b ≡ false
    by true e = absurd (h (eqb-true d n e))
    by false e = refl

apart_from : (d n : ℕ) → d < n → d ≡ n → ⊥
apart_from d n l e = omega (arith, e)

pub sphere-vertex : (p m : ℕ) → 0 < m → value p (basis (sphere m) 0) ≡ 0 ∷ []
sphere-vertex p m l = sphere-rows p m 0 true false refl (not_same m 0 (λ e. apart_from 0 m l (sym e)))

pub sphere-cell : (p m : ℕ) → 0 < m → value p (basis (sphere m) m) ≡ 1 ∷ []
sphere-cell p m l = sphere-rows p m m false true (not_same 0 m (apart_from 0 m l)) (eq-eqb m m refl)

pub sphere-no_other : (p m n : ℕ) → (n ≡ 0 → ⊥) → (n ≡ m → ⊥) → value p (basis (sphere m) n) ≡ []
sphere-no_other p m n z s = sphere-rows p m n false false (not_same 0 n (λ e. z (sym e))) (not_same m n (λ e. s (sym e)))
