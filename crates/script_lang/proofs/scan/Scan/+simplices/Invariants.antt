use Rattle.std.proofs.Common.{◌≡◌, ◌+◌, ◌*◌, length}
use Rattle.script_lang.specs.Readings.{until_at}
use Rattle.script_lang.specs.Scans.{more_letters_in, simplex_in}
use Rattle.script_lang.proofs.Loops.{with_front}
use Rattle.script_lang.proofs.scan.Scan.+simplices.Given as goal

abbrev pub decreases-simplex : goal.decreases-simplex
decreases-simplex l = 12 * l.room

abbrev pub decreases-signed_letter : goal.decreases-signed_letter
decreases-signed_letter l = 12 * l.room + 1

abbrev pub decreases-letter : goal.decreases-letter
decreases-letter l = 12 * l.room + 2

abbrev pub decreases-behind_gap : goal.decreases-behind_gap
decreases-behind_gap l = 12 * l.room + 3

abbrev pub decreases-more_letters : goal.decreases-more_letters
decreases-more_letters l = 12 * l.room + 5

abbrev pub decreases-some_letters : goal.decreases-some_letters
decreases-some_letters l = 12 * l.room + 6

abbrev pub decreases-word : goal.decreases-word
decreases-word l = 12 * l.room + 8

abbrev pub decreases-pair : goal.decreases-pair
decreases-pair l = 12 * l.room + 1

abbrev pub decreases-behind : goal.decreases-behind
decreases-behind l = 12 * l.room + 9

abbrev pub decreases-body : goal.decreases-body
decreases-body l = 12 * l.room + 10

abbrev pub decreases-over : goal.decreases-over
decreases-over l = 12 * l.room + 11

abbrev pub invariant-some_letters-loop-letters : goal.invariant-some_letters-loop-letters
invariant-some_letters-loop-letters l = with_front l.letters (until_at (more_letters_in (simplex_in l.room)) l.self.rest.now) ≡ with_front l.initial.letters (until_at (more_letters_in (simplex_in l.room)) l.initial.self.rest.now)

abbrev pub decreases-some_letters-loop-letters : goal.decreases-some_letters-loop-letters
decreases-some_letters-loop-letters l = length l.self.rest.now
