-- The rule of each space: its small cells, small differential and maps F, G, H, as right sides that ask for those of its parts.
--
-- Rubio and Sergeraert, Constructive Homological Algebra and Applications, chapters 2 and 3; Kenzo documentation. Each formula stands
-- here as that of its chapter: the identity on tables, the circle in K(Z,1), suspensions, the two perturbations for products, bundles
-- and path spaces, and for loop groups the same maps on pairs of a letter and a word, carried over by Fox's derivatives. The right
-- part of a loop group is the loop group itself in lower degrees.
use Rattle.std.specs.Prelude.{ℕ, zero, suc, ◌-◌, Bool, ◌==◌, List, [], ◌∷◌, ◌++◌, map, Some, None, ℤ, pos, length}
use Rattle.std.specs.List.{filter}
use Rattle.fp_field.specs.Chains.{Terms, scale, faces_sum, keep}
use Rattle.fp_field.specs.Normal.{normal, apply}
use Rattle.fp_field.specs.Reduction.{one}
use Rattle.spaces.specs.Tables.{Table, RowSimplex, row_face, sphere_rows}
use Rattle.spaces.specs.Nerves.{integers, integers_modulo, nerve_times}
use Rattle.spaces.specs.LoopGroups.{letter_word, word_times}
use Rattle.spaces.specs.Cocycles.{cocycle_twisting}
use Rattle.spaces.specs.Spaces.{Space, table, sphere, product, suspension, kz1, bundle, loops, paths, kzm1, cyclic_bundle, Plain, set_of}
use Rattle.spaces.specs.Orders.{ordered, by_degree}
use Rattle.spaces.specs.SmallCells.{Small, small_degree, small_cmp, row_dim}
use Rattle.spaces.specs.EilenbergZilber.{Pair, linear}
use Rattle.values.specs.Asks.{basis, small_d, f, g, h, Cell, Right, gives, ask, ◌>>=◌}
use Rattle.values.specs.Perturbed.{Part, total_f, total_g, total_h, total_d}
use Rattle.values.specs.Twists.{untwisted, twisted, letters, letter_twist, fox, unfox}
use Rattle.values.specs.Integers.{integers_f, integers_h}
use Rattle.values.specs.CyclicFlow.{cyclic_f, cyclic_g, cyclic_h, cyclic_small_d, cyclic_cell}

-- the maps of a part, each by one question
abbrev pub part : (a : Space) → Part (Plain a) (Small a)
part a = record {
  f = λ n x. ask (f a n x);
  g = λ y. ask (g a y);
  h = λ n x. ask (h a n x);
  small_d = λ y. ask (small_d a y);
  degree = small_degree a;
  order = small_cmp a;
}

-- ---- small cells of a degree

-- from a number on, k numbers
abbrev pub numbers : ℕ → ℕ → List ℕ
numbers i zero = []
numbers i (suc k) = i ∷ numbers (suc i) k

abbrev pub rows_of_dim : Table → ℕ → List ℕ
rows_of_dim t n = filter (λ r. row_dim t r == n) (numbers 0 (length t))

-- the lists of a list, one after the other
abbrev pub joined : {A : Type 0} → List (List A) → List A
joined [] = []
joined (x ∷ xs) = x ++ joined xs

abbrev pub all_pairs : {S T : Type 0} → List S → List T → List (S × T)
all_pairs xs ys = joined (map (λ x. map (λ y. (x, y)) ys) xs)

-- for i from 0 to n, for x of degree i in the left basis, for y of degree n - i in the right one: the pair x, y
abbrev pub pairs_of_degree : (a b : Space) → ℕ → List ℕ → Right (List (Small a × Small b))
pairs_of_degree a b n [] = gives []
pairs_of_degree a b n (i ∷ is) = do
  xs ← ask (basis a i)
  ys ← ask (basis b (n - i))
  rest ← pairs_of_degree a b n is
  gives (all_pairs xs ys ++ rest)

-- for i from 2 to n + 1, for x of degree i, for a word w of degree n + 1 - i: the word [x|w]
abbrev pub words_of_degree : (a : Space) → ℕ → List ℕ → Right (List (List (Small a)))
words_of_degree a n [] = gives []
words_of_degree a n (i ∷ is) = do
  xs ← ask (basis a i)
  ws ← ask (basis (loops a) (suc n - i))
  rest ← words_of_degree a n is
  gives (map (λ x. x.0 ∷ x.1) (all_pairs xs ws) ++ rest)

abbrev pub rule_basis : (a : Space) → ℕ → Right (List (Small a))
rule_basis (table t) n = gives (rows_of_dim t n)
rule_basis (sphere m) n = gives (rows_of_dim (sphere_rows m) n)
rule_basis (product a b) n = pairs_of_degree a b n (numbers 0 (suc n))
rule_basis (suspension a) zero = gives (None ∷ [])
rule_basis (suspension a) (suc zero) = gives []
rule_basis (suspension a) (suc (suc n)) = do
  ys ← ask (basis a (suc n))
  gives (map (λ y. Some y) ys)
rule_basis kz1 zero = gives ([] ∷ [])
rule_basis kz1 (suc zero) = gives ((pos 1 ∷ []) ∷ [])
rule_basis kz1 (suc (suc n)) = gives []
rule_basis (bundle t c) n = pairs_of_degree (table t) kz1 n (numbers 0 (suc n))
rule_basis (loops a) zero = gives ([] ∷ [])
rule_basis (loops a) (suc n) = words_of_degree a (suc n) (numbers 2 (suc n))
rule_basis (paths a) n = pairs_of_degree a (loops a) n (numbers 0 (suc n))
rule_basis (kzm1 m) n = gives (cyclic_cell m n ∷ [])
rule_basis (cyclic_bundle t m c) n = pairs_of_degree (table t) (kzm1 m) n (numbers 0 (suc n))

-- pairs with their degrees, as cells of the space of pairs
abbrev pub as_cells : {K J : Type 0} → Terms (Pair K J) → Terms (ℕ × (K × J))
as_cells c = map (λ t. ((t.0.0, (t.0.1, t.0.2)), t.1)) c

-- a chain in another degree
abbrev pub lifted : {K J : Type 0} → (ℕ → ℕ) → (K → J) → Terms (ℕ × K) → Terms (ℕ × J)
lifted degree key c = map (λ t. ((degree t.0.0, key t.0.1), t.1)) c

abbrev pub named : {S T : Type 0} → (S → T) → Terms S → Terms T
named key c = map (λ t. (key t.0, t.1)) c

module _ (p : ℕ) where
  -- ---- tables

  abbrev pub is_row : RowSimplex → Bool
  is_row x = length x.0 == 0

  -- the alternating sum of the faces of a row that are rows
  abbrev pub row_d : Table → ℕ → Terms ℕ
  row_d t r = row_faces (row_dim t r)
    where
      row_faces : ℕ → Terms ℕ
      row_faces zero = []
      row_faces (suc n) = named (λ x. x.1) (keep is_row (faces_sum p (row_face t) (suc (suc n)) ([], r)))

  -- ---- products, bundles and path spaces: base, fibre and twist

  module _ (a b : Space) (q : Pair (Plain a) (Plain b) → Terms (Pair (Plain a) (Plain b))) where
    abbrev pub fibred_f : ℕ → Plain a × Plain b → Right (Terms (Small a × Small b))
    fibred_f n x = total_f p (linear (ordered a)) (ordered b) (part a) (part b) q n (one (n, x.0, x.1))

    abbrev pub fibred_g : ℕ → Small a × Small b → Right (Terms (ℕ × (Plain a × Plain b)))
    fibred_g n y = do
      c ← total_g p (linear (ordered a)) (ordered b) (part a) (part b) q n y
      gives (as_cells c)

    abbrev pub fibred_h : ℕ → Plain a × Plain b → Right (Terms (ℕ × (Plain a × Plain b)))
    fibred_h n x = do
      c ← total_h p (linear (ordered a)) (ordered b) (part a) (part b) q n (one (n, x.0, x.1))
      gives (as_cells c)

    abbrev pub fibred_d : ℕ → Small a × Small b → Right (Terms (Small a × Small b))
    fibred_d n y = total_d p (linear (ordered a)) (ordered b) (part a) (part b) q n y

  abbrev pub bundle_twist : (t : Table) (c : List ℤ) → Pair RowSimplex (List ℤ) → Terms (Pair RowSimplex (List ℤ))
  bundle_twist t c = twisted p (ordered (table t)) (ordered kz1) (cocycle_twisting integers t c) (nerve_times integers)

  abbrev pub path_twist : (a : Space) → Pair (Plain a) (Plain (loops a)) → Terms (Pair (Plain a) (Plain (loops a)))
  path_twist a = twisted p (ordered a) (ordered (loops a)) (letter_word (set_of a)) (word_times (set_of a))

  abbrev pub cyclic_twist : (t : Table) (m : ℕ) (c : List ℕ) → Pair RowSimplex (List ℕ) → Terms (Pair RowSimplex (List ℕ))
  cyclic_twist t m c = twisted p (ordered (table t)) (ordered (kzm1 m)) (cocycle_twisting (integers_modulo m) t c) (nerve_times (integers_modulo m))

  -- ---- loop groups: letters, with degrees one less, and words

  module _ (a : Space) where
    -- the reduction of a shifted down by one: differential and H change their signs
    abbrev pub down : Part (Plain a) (Small a)
    down = record {
      f = λ n x. ask (f a (suc n) x);
      g = λ y. ask (g a y) >>= λ c. gives (lifted (λ n. n - 1) (λ x. x) c);
      h = λ n x. ask (h a (suc n) x) >>= λ c. gives (scale (p - 1) (lifted (λ m. m - 1) (λ z. z) c));
      small_d = λ y. ask (small_d a y) >>= λ c. gives (scale (p - 1) c);
      degree = λ y. small_degree a y - 1;
      order = small_cmp a;
    }

    abbrev pub unfox_chain : Terms (Pair (Plain a) (Plain (loops a))) → Terms (Cell (loops a))
    unfox_chain c = apply (by_degree (ordered (loops a)).cmp) p (unfox p (ordered a) (ordered (loops a))) c

    abbrev pub word_of : Small a × List (Small a) → List (Small a)
    word_of y = y.0 ∷ y.1

    abbrev pub loop_f : ℕ → Plain (loops a) → Right (Terms (Small (loops a)))
    loop_f zero w = gives (one [])
    loop_f (suc n) w = do
      c ← total_f p (letters p (ordered a)) (ordered (loops a)) down (part (loops a)) (letter_twist p (ordered a) (ordered (loops a)))
          (suc n) (fox p (ordered a) (ordered (loops a)) (suc n) w)
      gives (named word_of c)

    abbrev pub loop_g : ℕ → Small (loops a) → Right (Terms (Cell (loops a)))
    loop_g n [] = gives (one (0, []))
    loop_g n (x ∷ w) = do
      c ← total_g p (letters p (ordered a)) (ordered (loops a)) down (part (loops a)) (letter_twist p (ordered a) (ordered (loops a))) n (x, w)
      gives (unfox_chain c)

    abbrev pub loop_h : ℕ → Plain (loops a) → Right (Terms (Cell (loops a)))
    loop_h zero w = gives []
    loop_h (suc n) w = do
      c ← total_h p (letters p (ordered a)) (ordered (loops a)) down (part (loops a)) (letter_twist p (ordered a) (ordered (loops a)))
          (suc n) (fox p (ordered a) (ordered (loops a)) (suc n) w)
      gives (unfox_chain c)

    abbrev pub loop_d : ℕ → Small (loops a) → Right (Terms (Small (loops a)))
    loop_d n [] = gives []
    loop_d n (x ∷ w) = do
      c ← total_d p (letters p (ordered a)) (ordered (loops a)) down (part (loops a)) (letter_twist p (ordered a) (ordered (loops a))) n (x, w)
      gives (named word_of c)

  -- ---- all spaces

  abbrev pub rule_small_d : (a : Space) → Small a → Right (Terms (Small a))
  rule_small_d (table t) y = gives (normal (small_cmp (table t)) p (row_d t y))
  rule_small_d (sphere m) y = gives (normal (small_cmp (sphere m)) p (row_d (sphere_rows m) y))
  rule_small_d (product a b) y = fibred_d a b untwisted (small_degree (product a b) y) y
  rule_small_d (suspension a) None = gives []
  rule_small_d (suspension a) (Some y) = do
    c ← ask (small_d a y)
    gives (normal (small_cmp (suspension a)) p (scale (p - 1) (named (λ z. Some z) c)))
  rule_small_d kz1 y = gives []
  rule_small_d (bundle t c) y = fibred_d (table t) kz1 (bundle_twist t c) (small_degree (bundle t c) y) y
  rule_small_d (loops a) y = loop_d a (small_degree (loops a) y) y
  rule_small_d (paths a) y = fibred_d a (loops a) (path_twist a) (small_degree (paths a) y) y
  rule_small_d (kzm1 m) y = gives (cyclic_small_d m p y)
  rule_small_d (cyclic_bundle t m c) y = fibred_d (table t) (kzm1 m) (cyclic_twist t m c) (small_degree (cyclic_bundle t m c) y) y

  abbrev pub rule_f : (a : Space) → ℕ → Plain a → Right (Terms (Small a))
  rule_f (table t) n x = gives (one x.1)
  rule_f (sphere m) n x = gives (one x.1)
  rule_f (product a b) n x = fibred_f a b untwisted n x
  rule_f (suspension a) n None = gives (one None)
  rule_f (suspension a) n (Some s) = do
    c ← ask (f a (n - 1) s.1)
    gives (named (λ z. Some z) c)
  rule_f kz1 n x = gives (normal (small_cmp kz1) p (integers_f p x))
  rule_f (bundle t c) n x = fibred_f (table t) kz1 (bundle_twist t c) n x
  rule_f (loops a) n x = loop_f a n x
  rule_f (paths a) n x = fibred_f a (loops a) (path_twist a) n x
  rule_f (kzm1 m) n x = gives (cyclic_f m p x)
  rule_f (cyclic_bundle t m c) n x = fibred_f (table t) (kzm1 m) (cyclic_twist t m c) n x

  abbrev pub rule_g : (a : Space) → Small a → Right (Terms (Cell a))
  rule_g (table t) y = gives (one (row_dim t y, ([], y)))
  rule_g (sphere m) y = gives (one (row_dim (sphere_rows m) y, ([], y)))
  rule_g (product a b) y = fibred_g a b untwisted (small_degree (product a b) y) y
  rule_g (suspension a) None = gives (one (0, None))
  rule_g (suspension a) (Some y) = do
    c ← ask (g a y)
    gives (lifted (λ n. suc n) (λ x. Some (0, x)) c)
  rule_g kz1 y = gives (one (length y, y))
  rule_g (bundle t c) y = fibred_g (table t) kz1 (bundle_twist t c) (small_degree (bundle t c) y) y
  rule_g (loops a) y = loop_g a (small_degree (loops a) y) y
  rule_g (paths a) y = fibred_g a (loops a) (path_twist a) (small_degree (paths a) y) y
  rule_g (kzm1 m) y = gives (map (λ t. ((length t.0, t.0), t.1)) (cyclic_g m p y))
  rule_g (cyclic_bundle t m c) y = fibred_g (table t) (kzm1 m) (cyclic_twist t m c) (small_degree (cyclic_bundle t m c) y) y

  abbrev pub rule_h : (a : Space) → ℕ → Plain a → Right (Terms (Cell a))
  rule_h (table t) n x = gives []
  rule_h (sphere m) n x = gives []
  rule_h (product a b) n x = fibred_h a b untwisted n x
  rule_h (suspension a) n None = gives []
  rule_h (suspension a) n (Some s) = do
    c ← ask (h a (n - 1) s.1)
    gives (normal (by_degree (ordered (suspension a)).cmp) p (scale (p - 1) (lifted (λ m. suc m) (λ x. Some (0, x)) c)))
  rule_h kz1 n x = gives (normal (by_degree (ordered kz1).cmp) p (integers_h p x))
  rule_h (bundle t c) n x = fibred_h (table t) kz1 (bundle_twist t c) n x
  rule_h (loops a) n x = loop_h a n x
  rule_h (paths a) n x = fibred_h a (loops a) (path_twist a) n x
  rule_h (kzm1 m) n x = gives (map (λ t. ((length t.0, t.0), t.1)) (cyclic_h m p x))
  rule_h (cyclic_bundle t m c) n x = fibred_h (table t) (kzm1 m) (cyclic_twist t m c) n x
