-- Lists without repetition, by recursion: the pairs of two of them, and the vertices of a table.
use Rattle.std.proofs.Common.{◌≡◌, ℕ, zero, suc, ◌+◌, ◌*◌, ◌<◌, Bool, true, false, ◌==◌, cond, List, [], ◌∷◌, ◌++◌, length, ◌⊎◌, inl, inr, refl, sym, ◌∙◌, ap, arith, length-append, true≢false}
use Rattle.std.specs.Prelude.{map}
use Rattle.std.specs.List.{All, AllPairs, Contains, filter}
use Rattle.std.proofs.lemmas.List.Elements.{All-nil, All-cons}
use Rattle.std.proofs.lemmas.List.{length-map}
use Rattle.std.proofs.lemmas.List.Kept.{AllPairs-cons}
use Rattle.std.proofs.lemmas.List.Sums.{length-filter}
use Rattle.std.proofs.lemmas.Bool.Decides.{Decides-eqb}
use Rattle.spaces.specs.Tables.{Table, Row, row_at}
use Rattle.spaces.specs.Counts.{vertex_rows}

module _ {A : Type 0} where
  abbrev pub Member : A → List A → Type 0
  Member x [] = ⊥
  Member x (y ∷ ys) = (y ≡ x) ⊎ Member x ys

  abbrev pub Distinct : List A → Type 0
  Distinct [] = Unit {0}
  Distinct (x ∷ xs) = (Member x xs → ⊥) × Distinct xs

  pub contains_of : (xs : List A) (x : A) → Member x xs → Contains xs x
  contains_of [] x h = absurd h
  contains_of (y ∷ ys) x (inl e) = (0, omega arith, e)
  contains_of (y ∷ ys) x (inr h) = let s = contains_of ys x h in (suc s.0, omega (arith, s.1), s.2)

  pub all_of : (P : A → Type 0) (xs : List A) → ((x : A) → Member x xs → P x) → All P xs
  all_of P [] h = All-nil P
  all_of P (x ∷ xs) h = All-cons P x xs (h x (inl refl)) (all_of P xs (λ y m. h y (inr m)))

  pub distinct_pairs : (xs : List A) → Distinct xs → AllPairs (λ x y. x ≡ y → ⊥) xs
  distinct_pairs [] d = λ i j k h l. absurd (omega arith)
  distinct_pairs (x ∷ xs) d =
      AllPairs-cons (λ x y. x ≡ y → ⊥) x xs (all_of (λ y. x ≡ y → ⊥) xs (λ y m e. d.0 (again xs y m e))) (distinct_pairs xs d.1)
    where
      again : (ys : List A) (y : A) → Member y ys → x ≡ y → Member x ys
      again [] y m e = m
      again (z ∷ zs) y (inl f) e = inl (f ∙ sym e)
      again (z ∷ zs) y (inr m) e = inr (again zs y m e)

  member-append_left : (x : A) (xs ys : List A) → Member x xs → Member x (xs ++ ys)
  member-append_left x [] ys h = absurd h
  member-append_left x (y ∷ xs) ys (inl e) = inl e
  member-append_left x (y ∷ xs) ys (inr h) = inr (member-append_left x xs ys h)

  member-append_right : (x : A) (xs ys : List A) → Member x ys → Member x (xs ++ ys)
  member-append_right x [] ys h = h
  member-append_right x (y ∷ xs) ys h = inr (member-append_right x xs ys h)

  member_append : (x : A) (xs ys : List A) → Member x (xs ++ ys) → Member x xs ⊎ Member x ys
  member_append x [] ys h = inr h
  member_append x (y ∷ xs) ys (inl e) = inl (inl e)
  member_append x (y ∷ xs) ys (inr h) = by (member_append x xs ys h)
    where
      by : Member x xs ⊎ Member x ys → Member x (y ∷ xs) ⊎ Member x ys
      by (inl m) = inl (inr m)
      by (inr m) = inr m

  distinct-append : (xs ys : List A) → Distinct xs → Distinct ys → ((x : A) → Member x xs → Member x ys → ⊥) → Distinct (xs ++ ys)
  distinct-append [] ys d e h = e
  distinct-append (x ∷ xs) ys d e h = (λ m. by (member_append x xs ys m), distinct-append xs ys d.1 e (λ y m. h y (inr m)))
    where
      by : Member x xs ⊎ Member x ys → ⊥
      by (inl m) = d.0 m
      by (inr m) = h x (inl refl) m

module _ {A B : Type 0} where
  pub member-map : (f : A → B) (x : A) (xs : List A) → Member x xs → Member (f x) (map f xs)
  member-map f x [] h = absurd h
  member-map f x (y ∷ xs) (inl e) = inl (ap f e)
  member-map f x (y ∷ xs) (inr h) = inr (member-map f x xs h)

  pub member_map : (f : A → B) (z : B) (xs : List A) → Member z (map f xs) → (x : A) × Member x xs × (f x ≡ z)
  member_map f z [] h = absurd h
  member_map f z (y ∷ xs) (inl e) = (y, inl refl, e)
  member_map f z (y ∷ xs) (inr h) = let r = member_map f z xs h in (r.0, inr r.1, r.2)

  -- a member whose value has one source
  back : (f : A → B) → ((x y : A) → f x ≡ f y → x ≡ y) → (x : A) (xs : List A) → Member (f x) (map f xs) → Member x xs
  back f one x [] h = h
  back f one x (y ∷ xs) (inl e) = inl (one y x e)
  back f one x (y ∷ xs) (inr h) = inr (back f one x xs h)

  pub distinct-map : (f : A → B) → ((x y : A) → f x ≡ f y → x ≡ y) → (xs : List A) → Distinct xs → Distinct (map f xs)
  distinct-map f one [] d = tt
  distinct-map f one (x ∷ xs) d = (λ m. d.0 (back f one x xs m), distinct-map f one xs d.1)

  -- ---- pairs

  abbrev pub pairs : List A → List B → List (A × B)
  pairs [] ys = []
  pairs (x ∷ xs) ys = map (λ y. (x, y)) ys ++ pairs xs ys

module _ {A B : Type 0} where
  pub length-pairs : (xs : List A) (ys : List B) → length (pairs xs ys) ≡ length xs * length ys
  length-pairs [] ys = omega arith
  length-pairs (x ∷ xs) ys =
      let e : length (pairs xs ys) ≡ length xs * length ys = length-pairs xs ys in
      let f : length ys + length xs * length ys ≡ suc (length xs) * length ys = omega arith in
      length-append (map (λ y. (x, y)) ys) (pairs xs ys) ∙ ap (λ n. n + length (pairs xs ys)) (length-map ys (λ y. (x, y))) ∙ ap (λ n. length ys + n) e ∙ f

  pub member-pairs : (x : A) (y : B) (xs : List A) (ys : List B) → Member x xs → Member y ys → Member {A = A × B} (x, y) (pairs xs ys)
  member-pairs x y [] ys h l = absurd h
  member-pairs x y (z ∷ xs) ys (inl e) l =
      member-append_left (x, y) (map (λ y. (z, y)) ys) (pairs xs ys) (member-map_at x z e y ys l)
    where
      member-map_at : (x z : A) → z ≡ x → (y : B) (ys : List B) → Member y ys → Member {A = A × B} (x, y) (map (λ y. (z, y)) ys)
      member-map_at x z e y [] l = absurd l
      member-map_at x z e y (w ∷ ys) (inl f) = inl (λ i. (e i, f i))
      member-map_at x z e y (w ∷ ys) (inr l) = inr (member-map_at x z e y ys l)
  member-pairs x y (z ∷ xs) ys (inr h) l = member-append_right (x, y) (map (λ y. (z, y)) ys) (pairs xs ys) (member-pairs x y xs ys h l)

  pub member_pairs : (p : A × B) (xs : List A) (ys : List B) → Member p (pairs xs ys) → Member p.0 xs × Member p.1 ys
  member_pairs p [] ys h = absurd h
  member_pairs p (z ∷ xs) ys h = by (member_append p (map (λ y. (z, y)) ys) (pairs xs ys) h) (member_pairs p xs ys)
    where
      at : (q : B) → (z, q) ≡ p → Member q ys → Member p.0 (z ∷ xs) × Member p.1 ys
      at q e m = (inl (ap (λ (s : A × B). s.0) e), moved q (ap (λ (s : A × B). s.1) e) ys m)
        where
          moved : (q : B) → q ≡ p.1 → (ys : List B) → Member q ys → Member p.1 ys
          moved q e [] m = m
          moved q e (w ∷ ws) (inl f) = inl (f ∙ e)
          moved q e (w ∷ ws) (inr m) = inr (moved q e ws m)

      by : Member p (map (λ y. (z, y)) ys) ⊎ Member p (pairs xs ys) → (Member p (pairs xs ys) → Member p.0 xs × Member p.1 ys) → Member p.0 (z ∷ xs) × Member p.1 ys
      by (inl m) r = let s = member_map (λ y. (z, y)) p ys m in at s.0 s.2 s.1
      by (inr m) r = let s = r m in (inr s.0, s.1)

  pub distinct-pairs : (xs : List A) (ys : List B) → Distinct xs → Distinct ys → Distinct (pairs xs ys)
  distinct-pairs [] ys d e = tt
  distinct-pairs (x ∷ xs) ys d e =
      distinct-append (map (λ y. (x, y)) ys) (pairs xs ys) (distinct-map (λ y. (x, y)) (λ y z f. ap (λ (s : A × B). s.1) f) ys e) (distinct-pairs xs ys d.1 e)
      (λ p m l. let s = member_map (λ y. (x, y)) p ys m in
      d.0 (moved (sym (ap (λ (s : A × B). s.0) s.2)) xs (member_pairs p xs ys l).0))
    where
      moved : {y : A} → y ≡ x → (zs : List A) → Member y zs → Member x zs
      moved e [] m = m
      moved e (w ∷ ws) (inl f) = inl (f ∙ e)
      moved e (w ∷ ws) (inr m) = inr (moved e ws m)

-- ---- the rows of dimension 0, the first row having the number i

abbrev pub rows_from : ℕ → Table → List ℕ
rows_from i [] = []
rows_from i (r ∷ t) = cond (r.dim == 0) (i ∷ rows_from (suc i) t) (rows_from (suc i) t)

filtered : (i : ℕ) (t : Table) → length (rows_from i t) ≡ length (filter (λ (r : Row). r.dim == 0) t)
filtered i [] = refl
filtered i (r ∷ t) = by (r.dim == 0) (filtered (suc i) t)
  where
    by : (b : Bool) → length (rows_from (suc i) t) ≡ length (filter (λ (r : Row). r.dim == 0) t)
        → length (cond b (i ∷ rows_from (suc i) t) (rows_from (suc i) t)) ≡ length (cond b (r ∷ filter (λ (r : Row). r.dim == 0) t) (filter (λ (r : Row). r.dim == 0) t))
    by true e = ap suc e
    by false e = e

pub length-rows : (i : ℕ) (t : Table) → length (rows_from i t) ≡ vertex_rows t
length-rows i t = filtered i t ∙ length-filter (λ (r : Row). r.dim == 0) t

pub member-rows : (i k : ℕ) (t : Table) → k < length t → (row_at t k).dim ≡ 0 → Member (i + k) (rows_from i t)
member-rows i k [] h e = absurd (omega arith)
member-rows i zero (r ∷ t) h e =
    let f : i ≡ i + 0 = omega arith in
    let g : (r.dim == 0) ≡ true = (Decides-eqb r.dim 0).1 e in
    (λ (m : Member (i + 0) (i ∷ rows_from (suc i) t)). shown (r.dim == 0) g m) (inl f)
  where
    shown : (b : Bool) → b ≡ true → Member (i + 0) (i ∷ rows_from (suc i) t) → Member (i + 0) (cond b (i ∷ rows_from (suc i) t) (rows_from (suc i) t))
    shown true g m = m
    shown false g m = absurd (true≢false (sym g))
member-rows i (suc k) (r ∷ t) h e = by (r.dim == 0) (member-rows (suc i) k t (omega (arith, h)) e)
  where
    same : suc i + k ≡ i + suc k
    same = omega arith

    moved : (xs : List ℕ) → Member (suc i + k) xs → Member (i + suc k) xs
    moved [] m = m
    moved (x ∷ xs) (inl f) = inl (f ∙ same)
    moved (x ∷ xs) (inr m) = inr (moved xs m)

    by : (b : Bool) → Member (suc i + k) (rows_from (suc i) t) → Member (i + suc k) (cond b (i ∷ rows_from (suc i) t) (rows_from (suc i) t))
    by true m = inr (moved (rows_from (suc i) t) m)
    by false m = moved (rows_from (suc i) t) m

pub member_rows : (i j : ℕ) (t : Table) → Member j (rows_from i t) → (k : ℕ) × (j ≡ i + k) × (k < length t) × ((row_at t k).dim ≡ 0)
member_rows i j [] m = absurd m
member_rows i j (r ∷ t) m = by (r.dim == 0) (λ e. (Decides-eqb r.dim 0).0 e) m (member_rows (suc i) j t)
  where
    later : (k : ℕ) × (j ≡ suc i + k) × (k < length t) × ((row_at t k).dim ≡ 0)
        → (k : ℕ) × (j ≡ i + k) × (k < suc (length t)) × ((row_at (r ∷ t) k).dim ≡ 0)
    later s = let e : j ≡ suc i + s.0 = s.1 in (suc s.0, omega (arith, e), omega (arith, s.2), s.3)

    here : (r.dim ≡ 0) → i ≡ j → (k : ℕ) × (j ≡ i + k) × (k < suc (length t)) × ((row_at (r ∷ t) k).dim ≡ 0)
    here d e = (0, omega (arith, e), omega arith, d)

    by : (b : Bool) → (b ≡ true → r.dim ≡ 0) → Member j (cond b (i ∷ rows_from (suc i) t) (rows_from (suc i) t))
        → (Member j (rows_from (suc i) t) → (k : ℕ) × (j ≡ suc i + k) × (k < length t) × ((row_at t k).dim ≡ 0))
        → (k : ℕ) × (j ≡ i + k) × (k < suc (length t)) × ((row_at (r ∷ t) k).dim ≡ 0)
    by true d (inl e) s = here (d refl) e
    by true d (inr m) s = later (s m)
    by false d m s = later (s m)

pub distinct-rows : (i : ℕ) (t : Table) → Distinct (rows_from i t)
distinct-rows i [] = tt
distinct-rows i (r ∷ t) = by (r.dim == 0) (distinct-rows (suc i) t)
  where
    by : (b : Bool) → Distinct (rows_from (suc i) t) → Distinct (cond b (i ∷ rows_from (suc i) t) (rows_from (suc i) t))
    by true d = (λ m. let s = member_rows (suc i) i t m in let e : i ≡ suc i + s.0 = s.1 in omega (arith, e), d)
    by false d = d
