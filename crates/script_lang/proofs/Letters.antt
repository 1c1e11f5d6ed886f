-- Each letter of a word takes a byte.
use Rattle.std.proofs.Common.{ℕ, suc, zero}
use Rattle.script_lang.specs.Scans.{more_letters_in, simplex_in}
use Rattle.script_lang.specs.Simplices.{IsSimplexIn}
use Rattle.script_lang.specs.Phrases.{Never}
use Rattle.script_lang.proofs.Loops.{Shorter}
use Rattle.script_lang.proofs.Bodies.{more_letters_shorter, reads_none, reads_simplex, never_starts, simplex_starts}

pub letters_shorter : (room : ℕ) → Shorter (more_letters_in (simplex_in room))
letters_shorter zero = more_letters_shorter Never (simplex_in zero) reads_none never_starts
letters_shorter (suc room) = more_letters_shorter (IsSimplexIn room) (simplex_in (suc room)) (reads_simplex room) (simplex_starts room)
