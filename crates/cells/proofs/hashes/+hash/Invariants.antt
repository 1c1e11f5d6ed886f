use Rattle.std.proofs.Common.{◌≡◌, drop, fold}
use Rattle.std.specs.List.{flat_map}
use Rattle.cells.specs.Hashes.{fed_letter}
use Rattle.cells.proofs.hashes.+hash.Given as goal

abbrev pub invariant-hash_letters-loop-i : goal.invariant-hash_letters-loop-i
invariant-hash_letters-loop-i g l = fold g.H.Hasher.write l.state (flat_map fed_letter (drop l.i l.fn.letters)) ≡ fold g.H.Hasher.write l.fn.state (flat_map fed_letter l.fn.letters)
