use Rattle.std.proofs.Common.{◌++◌, sym, ◌∙◌, ap}
use Rattle.std.specs.Hash.{u8, fed_then, fed_along}
use Rattle.std.specs.List.{flat_map}
use Rattle.cells.specs.Hashes.{fed_cell, fed_small}
use Rattle.cells.proofs.Fed.{feeds_one, feeds_small_pair, feeds_small_up, feeds_small_word}
use Rattle.cells.proofs.hashes.+hash_small.Goals as goal

pub hash_small-returns-in-One : goal.hash_small-returns-in-One
hash_small-returns-in-One g t c =
    fed_along g.H.Hasher.write _ _ (sym (ap fed_small c.in-One.is ∙ feeds_one c.in-One.cell))
    (fed_then g.H.Hasher.write _ _ _ (u8 0) (fed_cell c.in-One.cell) c.write_u8.ensures c.hash_cell.ensures)

pub hash_small-returns-in-Pair : goal.hash_small-returns-in-Pair
hash_small-returns-in-Pair g t c =
    fed_along g.H.Hasher.write _ _ (sym (ap fed_small c.in-Pair.is ∙ feeds_small_pair c.in-Pair.a c.in-Pair.b))
    (fed_then g.H.Hasher.write _ _ _ (u8 1) (fed_small c.in-Pair.a ++ fed_small c.in-Pair.b) c.write_u8-in-Pair.ensures
    (fed_then g.H.Hasher.write _ _ _ (fed_small c.in-Pair.a) (fed_small c.in-Pair.b)
    (fed_along g.H.Hasher.write _ _ (ap fed_small c.get.ensures) c.hash_small.ensures)
    (fed_along g.H.Hasher.write _ _ (ap fed_small c.get-in-Pair.ensures) c.hash_small-in-Pair.ensures)))

pub hash_small-returns-in-Up : goal.hash_small-returns-in-Up
hash_small-returns-in-Up g t c =
    fed_along g.H.Hasher.write _ _ (sym (ap fed_small c.in-Up.is ∙ feeds_small_up c.in-Up.below))
    (fed_then g.H.Hasher.write _ _ _ (u8 2) (fed_small c.in-Up.below) c.write_u8-in-Up.ensures
    (fed_along g.H.Hasher.write _ _ (ap fed_small c.get-in-Up.ensures) c.hash_small-in-Up.ensures))

pub hash_small-returns-in-Word : goal.hash_small-returns-in-Word
hash_small-returns-in-Word g t c =
    fed_along g.H.Hasher.write _ _ (sym (ap fed_small c.in-Word.is ∙ feeds_small_word c.in-Word.letters))
    (fed_then g.H.Hasher.write _ _ _ (u8 3) (flat_map fed_small c.in-Word.letters) c.write_u8-in-Word.ensures
    (fed_along g.H.Hasher.write _ _ (ap (flat_map fed_small) c.as_slice.ensures) c.hash_smalls.ensures))
