use Rattle.loop_words.proofs.CellWords.{cell_word, word_cell, vertex_is}
use Rattle.loop_words.proofs.laws.loop_cells_are_words.Goals as goal

pub returns : goal.returns
returns c = record { words = cell_word; cells = word_cell; vertex = vertex_is }
