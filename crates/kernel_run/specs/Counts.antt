-- How many replies were written, and how many of them are refusals.
--
-- A reply counts where its text is not empty and stands whole in what was written. It counts as an error where its text
-- begins with `error`.
--
-- Main definition: `sum_whole`, with `one_reply` and `one_error`.
-- Worked value: of the texts "names\n", "" and "error not-built\n" the first 10 bytes hold one reply and no error.
use Rattle.std.specs.Prelude.{ℕ, ◌+◌, ◌-◌, ◌==◌, Bool, List, [], ◌∷◌, length, if◌then◌else◌, nat_le, eqb, codes}
use Rattle.std.specs.List.{starts_with}

abbrev pub is_empty : List ℕ → Bool
is_empty bytes = length bytes == 0

-- 1 for a text that is not empty
abbrev pub one_reply : List ℕ → ℕ
one_reply text = if is_empty text then 0 else 1

-- 1 for a text that begins with `error`
abbrev pub one_error : List ℕ → ℕ
one_error text = if starts_with eqb text (codes "error") then 1 else 0

-- the sum over the texts that stand whole in the first n bytes
abbrev pub sum_whole : (List ℕ → ℕ) → List (List ℕ) → ℕ → ℕ
sum_whole f [] n = 0
sum_whole f (text ∷ texts) n = if nat_le (length text) n then f text + sum_whole f texts (n - length text) else 0
