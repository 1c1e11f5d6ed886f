-- A line is answered as the command that it is by the grammar.
use Rattle.std.proofs.Common.{◌≡◌, ℕ, ◌<◌, ◌≤◌, Bool, true, false, cond, nat_lt, List, length, Option, Ok, Err, refl, sym, ◌∙◌, ap, arith}
use Rattle.std.proofs.lemmas.Bool.{leb-false, lt-leb}
use Rattle.script_lang.specs.declared.commands.Command.{Command}
use Rattle.script_lang.specs.Grammar.{IsLine}
use Rattle.script_lang.specs.Lines.{line_at}
use Rattle.script_lang.specs.Readings.{Reading}
use Rattle.script_lang.proofs.Nested.{line_again}
use Rattle.script_lang.proofs.Whole.{found}
use Rattle.reply_text.specs.declared.refusals.Refusal.TheVariants.{Syntax}
use Rattle.reply_text.specs.declared.replies.Reply.TheVariants.{Refused}
use Rattle.session_core.specs.Answer.{State, Told, told, refused, answer_line}
use Rattle.session_core.specs.Lines.{answer_told, answer_bytes, told_line, told_reading}
use Rattle.session_core.proofs.ReplyParts.{same-told, not-told}

-- what is told of a line, by its length and by what is read
abbrev told_by : Bool → Reading (Option Command) → Told (Option Command)
told_by long r = cond long (refused Syntax) (told_reading r)

told-by : (line : List ℕ) → told_line line ≡ told_by (nat_lt 65536 (length line)) (line_at line)
unfolding told_line
told-by line = refl

short : (n : ℕ) → n ≤ 65536 → nat_lt 65536 n ≡ false
short n h = lt-leb 65537 n (omega (arith, h))

not_long : (n : ℕ) → nat_lt 65536 n ≡ false → n ≤ 65536
not_long n b = let less : n < 65537 = leb-false 65537 n b in omega (arith, less)

-- what a line is is told
pub line-told : (line : List ℕ) (asked : Option Command) → IsLine line asked → told_line line ≡ told asked
line-told line asked is =
    let a = line_again line asked is.1 in
    told-by line ∙ ap (λ b. told_by b (line_at line)) (short (length line) is.0) ∙ ap told_reading a.1

-- and what is told is what the line is
pub told-line : (line : List ℕ) (asked : Option Command) → told_line line ≡ told asked → IsLine line asked
told-line line asked e = by (nat_lt 65536 (length line)) (line_at line) refl refl (sym (told-by line) ∙ e)
  where
    by : (b : Bool) (r : Reading (Option Command)) → nat_lt 65536 (length line) ≡ b → line_at line ≡ r → told_by b r ≡ told asked → IsLine line asked
    by true r b l h = absurd (not-told Syntax asked h)
    by false (Err left) b l h = absurd (not-told Syntax asked h)
    by false (Ok read) b l h = found line asked read.1 (not_long (length line) b) (l ∙ ap (λ c. Ok (c, read.1)) (same-told read.0 asked h))

-- a line that is nothing is refused
pub no-line : (line : List ℕ) → ((asked : Option Command) → IsLine line asked → ⊥) → told_line line ≡ refused Syntax
no-line line none = by (told_line line) refl
  where
    by : (m : Told (Option Command)) → told_line line ≡ m → told_line line ≡ refused Syntax
    by (told asked) e = absurd (none asked (told-line line asked e))
    by (refused r) e = told-by line ∙ which (nat_lt 65536 (length line)) (line_at line) (sym (told-by line) ∙ e)
      where
        which : (b : Bool) (x : Reading (Option Command)) → told_by b x ≡ refused r → told_by b x ≡ refused Syntax
        which true x h = refl
        which false (Err left) h = refl
        which false (Ok read) h = absurd (not-told r read.0 (sym h))

pub line-answered : (s : State) (line : List ℕ) (asked : Option Command) → IsLine line asked → answer_bytes s line ≡ answer_line s asked
unfolding answer_bytes
line-answered s line asked is = ap (answer_told s) (line-told line asked is)

pub line-refused : (s : State) (line : List ℕ) → ((asked : Option Command) → IsLine line asked → ⊥) → answer_bytes s line ≡ (Refused Syntax, s)
unfolding answer_bytes
line-refused s line none = ap (answer_told s) (no-line line none)
