-- The simplex that a text means in a space and a degree, where it means one (May, Simplicial Objects in Algebraic Topology; Kenzo
-- documentation, 1999, on abstract simplices).
--
-- A prefix of degeneracies is strictly decreasing with its greatest index below the degree, and the body is read in the lower degree. A
-- name is a row of a table, or `S` and the dimension of a sphere; `*` is the base of a sphere or of a suspension, or the row of that name.
-- `^` takes a simplex of the part in one degree less, `<a,b>` two simplices of the degree, with common degeneracies allowed; `|a|b|` has as
-- many integers as the degree, 0 allowed; a word has letters of one degree more, not necessarily reduced, and `[]` is of degree 0.
--
--   1-0:* means in the 2-sphere s_1 s_0 of the base in degree 2, and nothing in degree 1
use Rattle.std.specs.Prelude.{ℕ, suc, ◌-◌, Bool, true, ◌&&◌, ◌==◌, nat_eq, nat_lt, cond, List, [], ◌∷◌, ◌++◌, map, length, Option, Some, None, codes, decimal}
use Rattle.std.specs.Cmp.Lexicographic.{pointwise}
use Rattle.spaces.specs.Tables.{Table, RowSimplex}
use Rattle.spaces.specs.LoopGroups.{reduce}
use Rattle.spaces.specs.Spaces.{Space, table, sphere, product, suspension, kz1, bundle, loops, paths, Plain, is_base, set_of}
use Rattle.term_lang.specs.Degenerated.{degenerated}
use Rattle.script_lang.specs.declared.simplices.SimplexText.{SimplexText, fold-SimplexText}
use Rattle.script_lang.specs.declared.simplices.BodyText.TheOpen.{SimplexText-F, BodyText-F, LetterText-F}

-- what a text means in each space and degree
abbrev pub Meaning : Type 0
Meaning = (a : Space) → ℕ → Option (Plain a)

abbrev pub BodyMeaning : Type 0
BodyMeaning = Meaning

abbrev pub LetterMeaning : Type 0
LetterMeaning = (a : Space) → ℕ → Option (Bool × Plain a)

-- strictly decreasing, below n
abbrev pub is_prefix : ℕ → List ℕ → Bool
is_prefix n [] = true
is_prefix n (j ∷ w) = nat_lt j n && is_prefix j w

abbrev pub mapped : {A B : Type 0} → (A → B) → Option A → Option B
mapped f None = None
mapped f (Some x) = Some (f x)

abbrev pub both_of : {A B : Type 0} → Option A → Option B → Option (A × B)
both_of None y = None
both_of (Some x) None = None
both_of (Some x) (Some y) = Some (x, y)

abbrev pub all_of : {A : Type 0} → List (Option A) → Option (List A)
all_of [] = Some []
all_of (x ∷ xs) = mapped (λ t. t.0 ∷ t.1) (both_of x (all_of xs))

abbrev pub when : {A : Type 0} → Bool → A → Option A
when b x = cond b (Some x) None

-- the first row of a name from the place r on, in the dimension n
abbrev pub row_from : List ℕ → ℕ → ℕ → Table → Option RowSimplex
row_from name n r [] = None
row_from name n r (row ∷ rows) = cond (pointwise nat_eq row.name name) (when (row.dim == n) ([], r)) (row_from name n (suc r) rows)

-- the row of a name, in the dimension n
abbrev pub named_row : Table → List ℕ → ℕ → Option RowSimplex
named_row t name n = row_from name n 0 t

-- the base is row 0 of a sphere, and the cell row 1
abbrev pub named_cell : ℕ → List ℕ → ℕ → Option RowSimplex
named_cell m name n = when (pointwise nat_eq name (codes "S" ++ decimal m) && (n == m)) ([], 1)

abbrev pub star : List ℕ
star = codes "*"

-- a body of degree n, from the meanings of its parts
abbrev pub body_step : BodyText-F BodyMeaning LetterMeaning Meaning → BodyMeaning
body_step BodyText-F.Star (table t) n = named_row t star n
body_step BodyText-F.Star (sphere m) n = when (n == 0) ([], 0)
body_step BodyText-F.Star (suspension a) n = when (n == 0) None
body_step (BodyText-F.Name name) (table t) n = named_row t name n
body_step (BodyText-F.Name name) (sphere m) n = named_cell m name n
body_step (BodyText-F.Up x) (suspension a) (suc n) = mapped (λ y. cond (is_base a y) None (Some (0, y))) (x a n)
body_step (BodyText-F.Pair x y) (product a b) n = both_of (x a n) (y b n)
body_step (BodyText-F.Pair x y) (bundle t c) n = both_of (x (table t) n) (y kz1 n)
body_step (BodyText-F.Pair x y) (paths a) n = both_of (x a n) (y (loops a) n)
body_step (BodyText-F.Ints list) kz1 n = when (length list == n) list
body_step (BodyText-F.Word letters) (loops a) n =
    cond (length letters == 0) (when (n == 0) []) (mapped (λ w. reduce (set_of a) w) (all_of (map (λ l. l a (suc n)) letters)))
body_step body a n = None

abbrev pub letter_step : LetterText-F BodyMeaning LetterMeaning Meaning → LetterMeaning
letter_step l a n = mapped (λ x. (l.inverse, x)) (l.simplex a n)

-- the degeneracies before the body in the lower degree
abbrev pub simplex_step : SimplexText-F BodyMeaning LetterMeaning Meaning → Meaning
simplex_step x a n = cond (is_prefix n x.degens) (mapped (degenerated (set_of a) x.degens) (x.body a (n - length x.degens))) None

-- the simplex of degree n that a text means, if it means one
unfoldable pub meaning : SimplexText → Meaning
meaning text = fold-SimplexText BodyMeaning LetterMeaning Meaning body_step letter_step simplex_step text
