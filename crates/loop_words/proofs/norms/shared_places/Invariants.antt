use Rattle.std.proofs.Common.{◌≡◌, ℕ, ◌<◌, take}
use Rattle.std.specs.List.{list_all}
use Rattle.simp_ops.specs.Bits.{bit}
use Rattle.loop_words.proofs.norms.shared_places.Given as goal

abbrev pub invariant-loop-letter : goal.invariant-loop-letter
invariant-loop-letter l = (k : ℕ) → k < 32 → bit l.shared.mask k ≡ list_all (λ m. bit m.simplex.degens.mask k) (take l.letter-index l.fn.letters)
