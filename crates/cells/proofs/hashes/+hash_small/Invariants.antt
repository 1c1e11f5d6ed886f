use Rattle.std.proofs.Common.{◌≡◌, drop, fold}
use Rattle.std.specs.List.{flat_map}
use Rattle.cells.specs.Hashes.{fed_small}
use Rattle.cells.proofs.hashes.+hash_small.Given as goal

abbrev pub invariant-hash_smalls-loop-i : goal.invariant-hash_smalls-loop-i
invariant-hash_smalls-loop-i g l = fold g.H.Hasher.write l.state (flat_map fed_small (drop l.i l.fn.letters)) ≡ fold g.H.Hasher.write l.fn.state (flat_map fed_small l.fn.letters)
