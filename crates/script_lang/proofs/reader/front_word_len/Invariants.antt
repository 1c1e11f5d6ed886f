use Rattle.std.proofs.Common.{◌≡◌, ◌+◌, ◌≤◌, drop}
use Rattle.script_lang.specs.Lines.{word_len}
use Rattle.script_lang.proofs.reader.front_word_len.Given as goal

abbrev pub invariant-loop-i : goal.invariant-loop-i
invariant-loop-i l = record {
  bounded : l.brackets ≤ l.i;
  so_far : word_len 0 l.bytes ≡ l.i + word_len l.brackets (drop l.i l.bytes);
}
