-- Worked values over F_3, by computation. They were found by hand.
--
-- The space has a vertex, a row t of dimension 2 with degenerate faces, and a row w of dimension 3 with the faces t and three degenerate
-- ones: a disc of dimension 3 on a sphere of dimension 2.
use Rattle.std.proofs.Common.{◌≡◌, ℕ, Bool, true, false, List, [], ◌∷◌, refl}
use Rattle.spaces.specs.Tables.{Table, RowSimplex, all_degeneracies}
use Rattle.spaces.specs.Spaces.{Space, table, set_of}
use Rattle.loop_laws.specs.FoxComplexes.{letter_pairs, twist_of, fox_of, unfox_of, positive_d}
use Rattle.loop_laws.specs.LetterPlaces.{letters_have}

-- degeneracies of the vertex
abbrev vertex : List ℕ → RowSimplex
vertex w = (w, 0)

abbrev edge : RowSimplex
edge = vertex (0 ∷ [])

abbrev triangle : RowSimplex
triangle = vertex (all_degeneracies 2)

abbrev rows : Table
rows =
    record { name = []; dim = 0; faces = [] }
    ∷ (record { name = 0 ∷ []; dim = 2; faces = edge ∷ (edge ∷ (edge ∷ [])) }
    ∷ (record { name = 1 ∷ []; dim = 3; faces = ([], 1) ∷ (triangle ∷ (triangle ∷ (triangle ∷ []))) } ∷ []))

abbrev disc : Space
disc = table rows

-- s_j .. of the row t, and the row w
abbrev t : List ℕ → RowSimplex
t v = (v, 1)

abbrev w : RowSimplex
w = ([], 2)

-- letters
abbrev letter : RowSimplex → Bool × RowSimplex
letter x = (false, x)

abbrev inverse : RowSimplex → Bool × RowSimplex
inverse x = (true, x)

-- fox of [t t] is (t, [t]) + (t, []), and unfox of these is [t t] - [t] and [t], since the empty word is degenerate
fox_of_square : fox_of 3 disc (1, letter (t []) ∷ (letter (t []) ∷ [])) ≡ ((1, t [], letter (t []) ∷ []), 1) ∷ (((1, t [], []), 1) ∷ [])
fox_of_square = refl

unfox_of_square : unfox_of 3 disc (1, t [], letter (t []) ∷ [])
    ≡ ((1, letter (t []) ∷ (letter (t []) ∷ [])), 1) ∷ (((1, letter (t []) ∷ []), 2) ∷ [])
unfox_of_square = refl

unfox_of_letter : unfox_of 3 disc (1, t [], []) ≡ ((1, letter (t []) ∷ []), 1) ∷ []
unfox_of_letter = refl

-- fox of [t^-1] is -(t, [t^-1]), and unfox of (t, [t^-1]) is -[t^-1]
fox_of_inverse : fox_of 3 disc (1, inverse (t []) ∷ []) ≡ ((1, t [], inverse (t []) ∷ []), 2) ∷ []
fox_of_inverse = refl

unfox_of_inverse : unfox_of 3 disc (1, t [], inverse (t []) ∷ []) ≡ ((1, inverse (t []) ∷ []), 2) ∷ []
unfox_of_inverse = refl

-- the twist of (w, []) is (t, []) - (t, [t^-1]), since d_0 of the word w is the inverse of t
twist_of_disc : twist_of 3 disc (2, w, []) ≡ ((1, t [], []), 1) ∷ (((1, t [], inverse (t []) ∷ []), 2) ∷ [])
twist_of_disc = refl

-- d(w, []) is that and -(t, []), and d[w] is [t^-1]
pair_d_of_disc : (letter_pairs 3 disc).d (2, w, []) ≡ ((1, t [], []), 2) ∷ (((1, t [], []), 1) ∷ (((1, t [], inverse (t []) ∷ []), 2) ∷ []))
pair_d_of_disc = refl

word_d_of_disc : positive_d 3 disc (2, letter w ∷ []) ≡ ((1, inverse (t []) ∷ []), 1) ∷ []
word_d_of_disc = refl

-- [s_2 t, s_1 t] has no place, and [s_2 t, s_2 t] has place 1
no_common_place : letters_have (set_of disc) 0 (letter (t (2 ∷ [])) ∷ (letter (t (1 ∷ [])) ∷ [])) ≡ false
no_common_place = refl

common_place : letters_have (set_of disc) 1 (letter (t (2 ∷ [])) ∷ (letter (t (2 ∷ [])) ∷ [])) ≡ true
common_place = refl
