-- The code of a table, a list of numbers that tells it, and the mark of a code, one number that tells most codes apart.
--
-- A row is one number for the length of its name, 2^32 high, and its dimension; then the name; then the faces, each one number: the row,
-- 2^32 high, and the mask. What is as long as the length and the dimension say stands behind them, so tables with equal codes are equal.
-- The mark goes through the code as a table of hashes does (Fowler, Noll and Vo): xor, then a product modulo 2^64.
--
--   a vertex with the name of the one byte 118 has the code 4294967296, 118
use Rattle.std.specs.Prelude.{ℕ, ◌+◌, ◌*◌, ◌%◌, ◌^◌, List, ◌∷◌, ◌++◌, length, map, fold, bit_xor}
use Rattle.std.specs.List.{flat_map}
use Rattle.term_lang.specs.declared.tables.TableFace.{TableFace}
use Rattle.term_lang.specs.declared.tables.Row.{Row}

abbrev pub face_word : TableFace → ℕ
face_word f = f.row * 2 ^ 32 + f.degens.mask

abbrev pub head_word : Row → ℕ
head_word r = length r.name * 2 ^ 32 + r.dim

abbrev pub row_words : Row → List ℕ
row_words r = head_word r ∷ (r.name ++ map face_word r.faces)

abbrev pub code_of : List Row → List ℕ
code_of rows = flat_map row_words rows

abbrev pub mark_of : List ℕ → ℕ
mark_of code = fold (λ h w. (bit_xor h w * 1099511628211) % 2 ^ 64) 14695981039346656037 code
