-- The maps of a table are a reduction: its cells are its rows, and the maps are the identity.
use Rattle.std.proofs.Common.{◌≡◌, ◌≢◌, ◌⊎◌, inl, inr, ℕ, zero, suc, ◌+◌, ◌*◌, ◌%◌, ◌<◌, ◌≤◌, Bool, true, false, not, ◌==◌, cond, List, [], ◌∷◌, ◌++◌, length, get_or, refl, sym, ◌∙◌, ap, subst, arith, true≢false}
use Rattle.std.specs.Prelude.{Contains}
use Rattle.std.specs.List.{All, AllPairs, filter}
use Rattle.std.proofs.lemmas.Bool.{cases_eq, eqb-true, eq-eqb, lt-ltb}
use Rattle.std.proofs.lemmas.List.Elements.{All-nil, All-cons, All-filter, All-contains, All-weaker, filter_passes}
use Rattle.std.proofs.lemmas.List.Kept.{AllPairs-cons, AllPairs-filter}
use Rattle.std.specs.Ordering.{is_eq, nat_cmp, ordering_then}
use Rattle.std.specs.declared.cmp.Ordering.{Ordering}
use Rattle.std.specs.declared.cmp.Ordering.TheVariants.{Less, Equal, Greater}
use Rattle.std.specs.Cmp.{IsTotalOrder, Equal-is, eq_by_cmp_equiv, nat_cmp_total, on_total, then_total, tied_itself}
use Rattle.fp_field.specs.Field.{SameMod}
use Rattle.fp_field.specs.Chains.{Terms, weigh, coeff, extend, keep, faces_sum, Each}
use Rattle.fp_field.specs.Normal.{normal}
use Rattle.fp_field.specs.Reduction.{one, Maps, HasDegrees, IsReduction}
use Rattle.fp_field.proofs.Weights.{weigh-append, weigh-extend, weigh-along, Each-any}
use Rattle.fp_field.proofs.Normals.{weigh-normal}
use Rattle.fp_field.proofs.FlowLaws.{Each-normal, Each-keep}
use Rattle.fp_field.proofs.Fair.{Fair, under}
use Rattle.spaces.specs.Simplicial.{IsSimplicial, is_degenerate}
use Rattle.spaces.specs.Tables.{Table, RowSimplex, row_face, InTable, table_set}
use Rattle.spaces.specs.SmallCells.{row_dim, degree_then}
use Rattle.spaces.proofs.Orders.{Apart, then-second}
use Rattle.spaces.proofs.TableDegenerate.{word-degenerate, row-not_degenerate}
use Rattle.std.proofs.lemmas.Map.Lookups.{exact_unsigned}
use Rattle.values.specs.Rules.{numbers, rows_of_dim, is_row, row_d, named}
use Rattle.homology_laws.proofs.Sums.{Each-weaker, square}
use Rattle.homology_laws.proofs.CellChains.{cells_of, cell_d_of, placed, boundary-in, cells-complex, cells-same}

-- ---- the rows of a dimension

contains-later : {A : Type 0} (x y : A) (xs : List A) → Contains xs y → Contains (x ∷ xs) y
contains-later x y xs h = (suc h.0, let l : h.0 < length xs = h.1 in omega arith, h.2)

pub contains-first : {A : Type 0} (x : A) (xs : List A) → Contains (x ∷ xs) x
contains-first x xs = (0, omega arith, refl)

contains-filter : {A : Type 0} (test : A → Bool) (x : A) (xs : List A) → test x ≡ true → Contains xs x → Contains (filter test xs) x
contains-filter test x [] e h = absurd (let l : h.0 < 0 = h.1 in omega arith)
contains-filter test x (y ∷ xs) e (zero, l, q) = by (test y) (ap test q ∙ e)
  where
    by : (b : Bool) → b ≡ true → Contains (cond b (y ∷ filter test xs) (filter test xs)) x
    by true g = (0, omega arith, q)
    by false g = absurd (true≢false (sym g))
contains-filter test x (y ∷ xs) e (suc k, l, q) = by (test y) (contains-filter test x xs e (k, let l' : suc k < suc (length xs) = l in omega (arith, l'), q))
  where
    by : (b : Bool) → Contains (filter test xs) x → Contains (cond b (y ∷ filter test xs) (filter test xs)) x
    by true r = contains-later y x (filter test xs) r
    by false r = r

numbers-in : (i k r : ℕ) → i ≤ r → r < i + k → Contains (numbers i k) r
numbers-in i zero r l m = absurd (omega arith)
numbers-in i (suc k) r l m = by (nat_eq_cases i r) (λ d. numbers-in (suc i) k r (omega arith) (omega arith))
  where
    nat_eq_cases : (i r : ℕ) → (i ≡ r) ⊎ (i ≢ r)
    nat_eq_cases i r = cases_eq i r

    by : (i ≡ r) ⊎ (i ≢ r) → (i ≢ r → Contains (numbers (suc i) k) r) → Contains (i ∷ numbers (suc i) k) r
    by (inl e) f = (0, omega arith, e)
    by (inr d) f = contains-later i r (numbers (suc i) k) (f d)

numbers-within : (i k : ℕ) → All (λ r. (i ≤ r) × (r < i + k)) (numbers i k)
numbers-within i zero = All-nil _
numbers-within i (suc k) =
    All-cons (λ r. (i ≤ r) × (r < i + suc k)) i (numbers (suc i) k) (omega arith, omega arith)
    (All-weaker (λ r. (suc i ≤ r) × (r < suc i + k)) (λ r. (i ≤ r) × (r < i + suc k)) (λ r h. (omega (arith, h.0), omega (arith, h.1))) (numbers (suc i) k) (numbers-within (suc i) k))

numbers-rise : (i k : ℕ) → AllPairs (λ x y. x < y) (numbers i k)
numbers-rise i zero = λ a b d l m. absurd (omega arith)
numbers-rise i (suc k) =
    AllPairs-cons (λ x y. x < y) i (numbers (suc i) k)
    (All-weaker (λ r. (suc i ≤ r) × (r < suc i + k)) (λ r. i < r) (λ r h. let l : suc i ≤ r = h.0 in omega arith) (numbers (suc i) k) (numbers-within (suc i) k))
    (numbers-rise (suc i) k)

module _ (t : Table) where
  pub rows-dim : (n : ℕ) → All (λ r. row_dim t r ≡ n) (rows_of_dim t n)
  rows-dim n = All-weaker (λ r. (row_dim t r == n) ≡ true) (λ r. row_dim t r ≡ n) (λ r h. eqb-true (row_dim t r) n h) (rows_of_dim t n) (filter_passes (λ r. row_dim t r == n) (numbers 0 (length t)))

  pub rows-in : (n : ℕ) → All (λ r. r < length t) (rows_of_dim t n)
  rows-in n = All-filter (λ r. row_dim t r == n) (λ r. r < length t) (numbers 0 (length t))
      (All-weaker (λ r. (0 ≤ r) × (r < 0 + length t)) (λ r. r < length t) (λ r h. let l : r < 0 + length t = h.1 in omega arith) (numbers 0 (length t)) (numbers-within 0 (length t)))

  pub row-there : (n r : ℕ) → r < length t → row_dim t r ≡ n → Contains (rows_of_dim t n) r
  row-there n r l e = contains-filter (λ r. row_dim t r == n) r (numbers 0 (length t)) (eq-eqb (row_dim t r) n e) (numbers-in 0 (length t) r (omega arith) (omega arith))

  abbrev pub row_order : ℕ → ℕ → Ordering
  row_order = degree_then (row_dim t) nat_cmp

  row-less : (x y : ℕ) → row_dim t x ≡ row_dim t y → x < y → row_order x y ≡ Less
  row-less x y e l =
      ap (λ d. ordering_then (nat_cmp d (row_dim t y)) (nat_cmp x y)) e ∙ ap (λ o. ordering_then o (nat_cmp x y)) (tied_itself nat_cmp_total (row_dim t y))
      ∙ ap (λ b. cond b Less (cond (x == y) Equal Greater)) (lt-ltb x y l)

  pub rows-rise : (n : ℕ) → AllPairs (λ x y. row_order x y ≡ Less) (rows_of_dim t n)
  rows-rise n i j d l m =
      row-less (get_or (rows_of_dim t n) i d) (get_or (rows_of_dim t n) j d)
      (rows-dim n i d (omega arith) ∙ sym (rows-dim n j d m))
      (AllPairs-filter (λ x y. x < y) (λ r. row_dim t r == n) (numbers 0 (length t)) (numbers-rise 0 (length t)) i j d l m)

-- ---- the maps

some-place : (k : ℕ) → (suc k == 0) ≡ false
some-place k = by (suc k == 0) refl
  where
    by : (b : Bool) → (suc k == 0) ≡ b → b ≡ false
    by true e = absurd (let q : suc k ≡ 0 = eqb-true (suc k) 0 e in omega (arith, q))
    by false e = refl

no-place : (w : List ℕ) → (length w == 0) ≡ true → w ≡ []
no-place [] e = refl
no-place (j ∷ w) e = absurd (true≢false (sym e ∙ some-place (length w)))

keep-same : {K : Type 0} (P : K → Type 0) (s t : K → Bool) → ((x : K) → P x → s x ≡ t x) → (c : Terms K) → Each P c → keep s c ≡ keep t c
keep-same P s t e [] h = refl
keep-same P s t e (u ∷ c) h = λ i. cond (e u.0 h.0 i) (u ∷ keep-same P s t e c h.1 i) (keep-same P s t e c h.1 i)

weigh-named : {K J : Type 0} (w : J → ℕ) (f : K → J) (c : Terms K) → weigh w (named f c) ≡ weigh (λ x. w (f x)) c
weigh-named w f [] = refl
weigh-named w f (u ∷ c) = ap (λ n. u.1 * w (f u.0) + n) (weigh-named w f c)

Each-named : {K J : Type 0} (P : J → Type 0) (f : K → J) (c : Terms K) → Each (λ x. P (f x)) c → Each P (named f c)
Each-named P f [] h = tt
Each-named P f (u ∷ c) h = (h.0, Each-named P f c h.1)

pub weigh-placed : {K : Type 0} (w : ℕ × K → ℕ) (n : ℕ) (c : Terms K) → weigh w (placed n c) ≡ weigh (λ y. w (n, y)) c
weigh-placed w n [] = refl
weigh-placed w n (u ∷ c) = ap (λ k. u.1 * w (n, u.0) + k) (weigh-placed w n c)

pub weigh-single : {K : Type 0} (w : K → ℕ) (x : K) → weigh w (one x) ≡ w x
weigh-single w x = omega arith

pub weigh-extend_one : {K J : Type 0} (w : J → ℕ) (f : K → Terms J) (x : K) → weigh w (extend f (one x)) ≡ weigh w (f x)
weigh-extend_one w f x = weigh-extend w f (one x) ∙ weigh-single (λ y. weigh w (f y)) x

pub weigh-extend_nothing : {K J : Type 0} (w : J → ℕ) (c : Terms K) → weigh w (extend (λ x. []) c) ≡ 0
weigh-extend_nothing w [] = refl
weigh-extend_nothing w (u ∷ c) = weigh-extend_nothing w c

module _ (t : Table) (p : ℕ) where
  abbrev pub row_maps : Maps (ℕ × RowSimplex) ℕ
  row_maps = record {
    big = cells_of (table_set t) p;
    small = record {
      generator = λ n r. (row_dim t r ≡ n) × Contains (rows_of_dim t n) r;
      same = λ x y. is_eq (degree_then (row_dim t) nat_cmp x y);
      d = λ r. normal (degree_then (row_dim t) nat_cmp) p (row_d p t r);
    };
    f = λ x. one x.1.1;
    g = λ r. one (row_dim t r, ([], r));
    h = λ x. [];
  }

module _ (t : Table) (laws : IsSimplicial (table_set t)) (p : ℕ) (pos : 0 < p) where
  abbrev m : Maps (ℕ × RowSimplex) ℕ
  m = row_maps t p

  order-total : IsTotalOrder (row_order t)
  order-total = then_total (on_total (row_dim t) nat_cmp_total) nat_cmp_total

  order-apart : Apart (row_order t)
  order-apart x y h = exact_unsigned x y (then-second (nat_cmp (row_dim t x) (row_dim t y)) (nat_cmp x y) h)

  small-same : (x y : ℕ) → m.small.same x y ≡ true → x ≡ y
  small-same x y h = order-apart x y ((Equal-is (row_order t x y)).0 h)

  -- ---- d of a row

  abbrev rows-of : ℕ → ℕ → Terms ℕ
  rows-of r n = named (λ x. x.1) (keep (is_row p) (faces_sum p (row_face t) (suc (suc n)) ([], r)))

  row_d-at : (n r : ℕ) → row_dim t r ≡ suc n → row_d p t r ≡ rows-of r n
  row_d-at n r e = rw e refl

  row_d-none : (r : ℕ) → row_dim t r ≡ 0 → row_d p t r ≡ []
  row_d-none r e = rw e refl

  -- ---- cells are rows

  no-word : (n : ℕ) (w : List ℕ) (r : ℕ) → InTable t n (w, r) → is_degenerate (table_set t) n (w, r) ≡ false → w ≡ []
  no-word n [] r is g = refl
  no-word n (j ∷ w) r is g = absurd (true≢false (sym (word-degenerate t laws n j w r is) ∙ g))

  row-in : (n r : ℕ) → row_dim t r ≡ n → r < length t → InTable t n ([], r)
  row-in n r e l = record { row = l; degree = (let q : row_dim t r + 0 ≡ row_dim t r = omega arith in q) ∙ e; word = tt }

  row-dim : (n : ℕ) (w : List ℕ) (r : ℕ) → InTable t n (w, r) → w ≡ [] → row_dim t r ≡ n
  row-dim n w r is e = let d : row_dim t r + length w ≡ n = is.degree in let l : length w ≡ 0 = ap length e in omega (arith, d, l)

  -- the test for rows is that for cells
  row-tests : (n : ℕ) (x : RowSimplex) → InTable t n x → is_row p x ≡ not (is_degenerate (table_set t) n x)
  row-tests n ([], r) is = sym (ap not (row-not_degenerate t laws n r is))
  row-tests n (j ∷ w, r) is = some-place (length w) ∙ sym (ap not (word-degenerate t laws n j w r is))

  -- ---- the faces of a row that are rows

  abbrev Row : ℕ → RowSimplex → Type 0
  Row n x = InTable t n x × (is_row p x ≡ true)

  faces-in : (n r : ℕ) → row_dim t r ≡ suc n → r < length t → Each (InTable t n) (faces_sum p (row_face t) (suc (suc n)) ([], r))
  faces-in n r e l = boundary-in (table_set t) laws p pos n ([], r) (row-in (suc n) r e l)

  kept-rows : (n r : ℕ) → row_dim t r ≡ suc n → r < length t → Each (Row n) (keep (is_row p) (faces_sum p (row_face t) (suc (suc n)) ([], r)))
  kept-rows n r e l = Each-keep (InTable t n) (is_row p) (faces_sum p (row_face t) (suc (suc n)) ([], r)) (faces-in n r e l)

  kept-same : (n r : ℕ) → row_dim t r ≡ suc n → r < length t
      → keep (is_row p) (faces_sum p (row_face t) (suc (suc n)) ([], r))
      ≡ keep (λ y. not (is_degenerate (table_set t) n y)) (faces_sum p (row_face t) (suc (suc n)) ([], r))
  kept-same n r e l =
      keep-same (InTable t n) (is_row p) (λ y. not (is_degenerate (table_set t) n y)) (λ x is. row-tests n x is) (faces_sum p (row_face t) (suc (suc n)) ([], r)) (faces-in n r e l)

  row-is : (n : ℕ) (x : RowSimplex) → Row n x → (row_dim t x.1 ≡ n) × Contains (rows_of_dim t n) x.1
  row-is n x h = let e = row-dim n x.0 x.1 h.0 (no-place x.0 h.1) in (e, row-there t n x.1 h.0.row e)

  row-cell : (n : ℕ) (x : RowSimplex) → Row n x → ◌≡◌ {A = ℕ × RowSimplex} (row_dim t x.1, ([], x.1)) (n, x)
  row-cell n x h = λ i. ((row-is n x h).0 i, (sym (no-place x.0 h.1) i, x.1))

  cell-is : (n : ℕ) (x : ℕ × RowSimplex) → m.big.generator n x → x ≡ (n, ([], x.1.1))
  cell-is n x h = λ i. (h.0 i, (no-word n x.1.0 x.1.1 h.1.0 h.1.1 i, x.1.1))

  cell-dim : (n : ℕ) (x : ℕ × RowSimplex) → m.big.generator n x → (row_dim t x.1.1 ≡ n) × (x.1.1 < length t)
  cell-dim n x h = (row-dim n x.1.0 x.1.1 h.1.0 (no-word n x.1.0 x.1.1 h.1.0 h.1.1), h.1.0.row)

  small-row : (n r : ℕ) → m.small.generator n r → r < length t
  small-row n r h = All-contains (λ r. r < length t) (rows_of_dim t n) r (rows-in t n) h.1

  -- ---- degrees

  d-degree : (n r : ℕ) → m.small.generator (suc n) r → Each (m.small.generator n) (m.small.d r)
  d-degree n r h =
      Each-normal (m.small.generator n) (row_order t) p (row_d p t r)
      (subst (Each (m.small.generator n)) (sym (row_d-at n r h.0))
      (Each-named (m.small.generator n) (λ x. x.1) (keep (is_row p) (faces_sum p (row_face t) (suc (suc n)) ([], r)))
      (Each-weaker (Row n) (λ x. m.small.generator n x.1) (row-is n) (keep (is_row p) (faces_sum p (row_face t) (suc (suc n)) ([], r))) (kept-rows n r h.0 (small-row (suc n) r h)))))

  d-ends : (r : ℕ) → m.small.generator zero r → m.small.d r ≡ []
  d-ends r h = ap (normal (row_order t) p) (row_d-none r h.0)

  row-degrees : HasDegrees p m
  row-degrees = record {
    big = cells-complex (table_set t) laws p pos;
    small = record {
      equivalence = eq_by_cmp_equiv order-total;
      lowers = d-degree;
      ends = d-ends;
      respects = λ x y h k. ap (λ r. coeff m.small.same (m.small.d r) k % p) (small-same x y h);
    };
    f = record {
      keeps = λ n x h. let c = cell-dim n x h in ((c.0, row-there t n x.1.1 c.1 c.0), tt);
      respects = λ x y h k. ap (λ z. coeff m.small.same (m.f z) k % p) (cells-same (table_set t) laws p pos x y h);
    };
    g = record {
      keeps = λ n r h. let is = row-in n r h.0 (small-row n r h) in ((h.0, (is, row-not_degenerate t laws n r is)), tt);
      respects = λ x y h k. ap (λ r. coeff m.big.same (m.g r) k % p) (small-same x y h);
    };
    h = record { raises = λ n x h. tt; respects = λ x y h k. refl };
  }

  -- ---- equations, under every weight

  row_d-weight : (v : ℕ → ℕ) (r : ℕ) → SameMod p (weigh v (m.small.d r)) (weigh v (row_d p t r))
  row_d-weight v r = weigh-normal (row_order t) p order-apart v (row_d p t r)

  abbrev AllWeights : {K : Type 0} → Terms K → Terms K → Type 0
  AllWeights {K} c d = (w : K → ℕ) → SameMod p (weigh w c) (weigh w d)

  f-square : (n r : ℕ) → row_dim t r ≡ n → r < length t → AllWeights (extend m.small.d (one r)) (extend m.f (cell_d_of (table_set t) p (n, ([], r))))
  f-square zero r e l v =
      ap (λ k. k % p) (weigh-extend_one v m.small.d r) ∙ row_d-weight v r ∙ ap (λ c. weigh v c % p) (row_d-none r e)
  f-square (suc n) r e l v =
      ap (λ k. k % p) (weigh-extend_one v m.small.d r) ∙ row_d-weight v r
      ∙ ap (λ k. k % p) (ap (weigh v) (row_d-at n r e)
      ∙ weigh-named v (λ x. x.1) (keep (is_row p) (faces_sum p (row_face t) (suc (suc n)) ([], r)))
      ∙ ap (weigh (λ x. v x.1)) (kept-same n r e l)
      ∙ sym (weigh-along (λ x. Unit {0}) (λ x. weigh v (one x.1)) (λ x. v x.1) (λ x u. weigh-single v x.1) (keep (λ y. not (is_degenerate (table_set t) n y)) (faces_sum p (row_face t) (suc (suc n)) ([], r))) (Each-any _))
      ∙ sym (weigh-placed (λ x. weigh v (m.f x)) n (keep (λ y. not (is_degenerate (table_set t) n y)) (faces_sum p (row_face t) (suc (suc n)) ([], r))))
      ∙ sym (weigh-extend v m.f (cell_d_of (table_set t) p (suc n, ([], r)))))

  g-square : (n r : ℕ) → row_dim t r ≡ n → r < length t → AllWeights (cell_d_of (table_set t) p (n, ([], r))) (extend m.g (m.small.d r))
  g-square zero r e l w =
      sym (ap (λ k. k % p) (weigh-extend w m.g (m.small.d r)) ∙ row_d-weight (λ s. weigh w (m.g s)) r ∙ ap (λ c. weigh (λ s. weigh w (m.g s)) c % p) (row_d-none r e))
  g-square (suc n) r e l w =
      sym (ap (λ k. k % p) (weigh-extend w m.g (m.small.d r)) ∙ row_d-weight (λ s. weigh w (m.g s)) r
      ∙ ap (λ k. k % p) (ap (weigh (λ s. weigh w (m.g s))) (row_d-at n r e)
      ∙ weigh-named (λ s. weigh w (m.g s)) (λ x. x.1) (keep (is_row p) (faces_sum p (row_face t) (suc (suc n)) ([], r)))
      ∙ weigh-along (Row n) (λ x. weigh w (m.g x.1)) (λ x. w (n, x)) (λ x h. weigh-single w (row_dim t x.1, ([], x.1)) ∙ ap w (row-cell n x h))
      (keep (is_row p) (faces_sum p (row_face t) (suc (suc n)) ([], r))) (kept-rows n r e l)
      ∙ ap (weigh (λ x. w (n, x))) (kept-same n r e l)
      ∙ sym (weigh-placed w n (keep (λ y. not (is_degenerate (table_set t) n y)) (faces_sum p (row_face t) (suc (suc n)) ([], r))))))

  f_commutes : (n : ℕ) (x : ℕ × RowSimplex) → m.big.generator n x → AllWeights (extend m.small.d (m.f x)) (extend m.f (m.big.d x))
  f_commutes n x h v =
      let c = cell-dim n x h in
      f-square n x.1.1 c.0 c.1 v ∙ ap (λ z. weigh v (extend m.f (m.big.d z)) % p) (sym (cell-is n x h))

  g_commutes : (n r : ℕ) → m.small.generator n r → AllWeights (extend m.big.d (m.g r)) (extend m.g (m.small.d r))
  g_commutes n r h w =
      ap (λ k. k % p) (weigh-extend_one w m.big.d (row_dim t r, ([], r)) ∙ ap (λ d. weigh w (cell_d_of (table_set t) p (d, ([], r)))) h.0)
      ∙ g-square n r h.0 (small-row n r h) w

  homotopy : (n : ℕ) (x : ℕ × RowSimplex) → m.big.generator n x → AllWeights (extend m.h (m.big.d x) ++ extend m.g (m.f x)) (one x)
  homotopy n x h w = ap (λ k. k % p)
      (weigh-append w (extend m.h (m.big.d x)) (extend m.g (m.f x))
      ∙ ap (λ k. k + weigh w (extend m.g (m.f x))) (weigh-extend_nothing w (m.big.d x))
      ∙ ap (λ k. 0 + k) (weigh-extend_one w m.g x.1.1 ∙ weigh-single w (row_dim t x.1.1, ([], x.1.1)) ∙ ap w ((λ i. ((cell-dim n x h).0 i, ([], x.1.1))) ∙ sym (cell-is n x h)) ∙ sym (weigh-single w x))
      ∙ (let q : 0 + weigh w (one x) ≡ weigh w (one x) = omega arith in q))

  -- d twice: by g into the cells
  twice : (n r : ℕ) → m.small.generator n r → AllWeights (extend m.small.d (m.small.d r)) []
  twice zero r h v = ap (λ c. weigh v (extend m.small.d c) % p) (d-ends r h)
  twice (suc n) r h v =
      let w : ℕ × RowSimplex → ℕ = λ x. v x.1.1 in
      let C = cells-complex (table_set t) laws p pos in
      let c = m.small.d r in
      let cell : ℕ × RowSimplex = (row_dim t r, ([], r)) in
      ap (λ k. k % p) (weigh-along (λ s. Unit {0}) v (λ s. weigh w (m.g s)) (λ s u. sym (weigh-single w (row_dim t s, ([], s)))) (extend m.small.d c) (Each-any _) ∙ sym (weigh-extend w m.g (extend m.small.d c)))
      ∙ square p pos m.big.same C.graded.equivalence (m.small.generator n) m.g m.small.d m.big.d m.g (λ s g k. sym (g_commutes n s g (λ x. cond (m.big.same x k) 1 0))) c (d-degree n r h) w (fair w)
      ∙ ap (λ k. k % p) (weigh-extend w m.big.d (extend m.g c))
      ∙ sym (g_commutes (suc n) r h (λ x. weigh w (m.big.d x)))
      ∙ ap (λ k. k % p) (weigh-extend_one (λ x. weigh w (m.big.d x)) m.big.d cell ∙ sym (weigh-extend w m.big.d (m.big.d cell)))
      ∙ under p pos m.big.same C.graded.equivalence w (fair w) (extend m.big.d (m.big.d cell)) [] (C.twice (suc n) cell (row-degrees.g.keeps (suc n) r h).0)
    where
      fair : (w : ℕ × RowSimplex → ℕ) → Fair p pos m.big.same w
      fair w x y e = ap (λ z. w z % p) (cells-same (table_set t) laws p pos x y e)

  pub row-reduction : IsReduction p m
  row-reduction N = record {
    degrees = row-degrees;
    equations = record {
      f_commutes = λ n x l h k. f_commutes n x h (λ y. cond (m.small.same y k) 1 0);
      g_commutes = λ n r l h k. g_commutes n r h (λ y. cond (m.big.same y k) 1 0);
      twice = λ n r l h k. twice n r h (λ y. cond (m.small.same y k) 1 0);
      fg = λ n r l h k. refl;
      homotopy = λ n x l h k. homotopy n x h (λ y. cond (m.big.same y k) 1 0);
      fh = λ n x l h k. refl;
      hg = λ n r l h k. refl;
      hh = λ n x l h k. refl;
    };
  }
