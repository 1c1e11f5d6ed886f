use Rattle.std.proofs.Common.{◌++◌, length, sym, ◌∙◌, ap}
use Rattle.std.specs.Hash.{u8, u64, usize, i64, slice, fed_then, fed_along}
use Rattle.std.specs.List.{flat_map}
use Rattle.cells.specs.Hashes.{fed_cell, fed_simplex, fed_letter}
use Rattle.cells.proofs.Fed.{feeds_row, feeds_base, feeds_top, feeds_pair, feeds_up, feeds_ints, feeds_word}
use Rattle.cells.proofs.hashes.+hash.Goals as goal

pub hash_cell-returns-in-Base : goal.hash_cell-returns-in-Base
hash_cell-returns-in-Base g t c = fed_along g.H.Hasher.write _ _ (sym (ap fed_cell c.in-Base.is ∙ feeds_base)) c.write_u8-in-Base.ensures

pub hash_cell-returns-in-Row : goal.hash_cell-returns-in-Row
hash_cell-returns-in-Row g t c =
    fed_along g.H.Hasher.write _ _ (sym (ap fed_cell c.in-Row.is ∙ feeds_row c.in-Row.dim c.in-Row.row))
    (fed_then g.H.Hasher.write _ _ _ (u8 0) (u64 c.in-Row.dim ++ u64 c.in-Row.row) c.write_u8.ensures
    (fed_then g.H.Hasher.write _ _ _ (u64 c.in-Row.dim) (u64 c.in-Row.row) c.write_u64.ensures c.write_u64-in-Row.ensures))

pub hash_cell-returns-in-Top : goal.hash_cell-returns-in-Top
hash_cell-returns-in-Top g t c =
    fed_along g.H.Hasher.write _ _ (sym (ap fed_cell c.in-Top.is ∙ feeds_top c.in-Top.n))
    (fed_then g.H.Hasher.write _ _ _ (u8 2) (u64 c.in-Top.n) c.write_u8-in-Top.ensures c.write_u64-in-Top.ensures)

pub hash_cell-returns-in-Pair : goal.hash_cell-returns-in-Pair
hash_cell-returns-in-Pair g t c =
    fed_along g.H.Hasher.write _ _ (sym (ap fed_cell c.in-Pair.is ∙ feeds_pair c.in-Pair.a c.in-Pair.b))
    (fed_then g.H.Hasher.write _ _ _ (u8 3) (fed_simplex c.in-Pair.a ++ fed_simplex c.in-Pair.b) c.write_u8-in-Pair.ensures
    (fed_then g.H.Hasher.write _ _ _ (fed_simplex c.in-Pair.a) (fed_simplex c.in-Pair.b)
    (fed_along g.H.Hasher.write _ _ (ap fed_simplex c.get.ensures) c.hash_simplex.ensures)
    (fed_along g.H.Hasher.write _ _ (ap fed_simplex c.get-in-Pair.ensures) c.hash_simplex-in-Pair.ensures)))

pub hash_cell-returns-in-Up : goal.hash_cell-returns-in-Up
hash_cell-returns-in-Up g t c =
    fed_along g.H.Hasher.write _ _ (sym (ap fed_cell c.in-Up.is ∙ feeds_up c.in-Up.below))
    (fed_then g.H.Hasher.write _ _ _ (u8 4) (fed_cell c.in-Up.below) c.write_u8-in-Up.ensures
    (fed_along g.H.Hasher.write _ _ (ap fed_cell c.get-in-Up.ensures) c.hash_cell.ensures))

pub hash_cell-returns-in-Ints : goal.hash_cell-returns-in-Ints
hash_cell-returns-in-Ints g t c =
    fed_along g.H.Hasher.write _ _ (sym (ap fed_cell c.in-Ints.is ∙ feeds_ints c.in-Ints.list))
    (fed_then g.H.Hasher.write _ _ _ (u8 5) (slice i64 c.in-Ints.list) c.write_u8-in-Ints.ensures c.hash.ensures)

pub hash_cell-returns-in-Word : goal.hash_cell-returns-in-Word
hash_cell-returns-in-Word g t c =
    fed_along g.H.Hasher.write _ _ (sym (ap fed_cell c.in-Word.is ∙ feeds_word c.in-Word.letters))
    (fed_then g.H.Hasher.write _ _ _ (u8 6) (usize (length c.in-Word.letters) ++ flat_map fed_letter c.in-Word.letters) c.write_u8-in-Word.ensures
    (fed_then g.H.Hasher.write _ _ _ (usize (length c.in-Word.letters)) (flat_map fed_letter c.in-Word.letters)
    (fed_along g.H.Hasher.write _ _ (ap usize c.len.ensures) c.write_usize.ensures)
    (fed_along g.H.Hasher.write _ _ (ap (flat_map fed_letter) c.as_slice.ensures) c.hash_letters.ensures)))
