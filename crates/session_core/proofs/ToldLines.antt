-- What bytes are told as, by the grammar of a line, and what they come to.
use Rattle.std.proofs.Common.{◌≡◌, ℕ, ◌<◌, ◌≤◌, nat_lt, Bool, true, false, cond, ◌⊎◌, inl, inr, true≢false, List, [], length, Option, Some, None, Ok, Err, refl, sym, ◌∙◌, ap, subst}
use Rattle.std.proofs.lemmas.Bool.{cases_lt}
use Rattle.simp_ops.proofs.PlacesOf.{is_lt, not_lt}
use Rattle.script_lang.specs.declared.commands.Command.{Command}
use Rattle.script_lang.specs.Grammar.{IsLine}
use Rattle.script_lang.specs.Readings.{Reading}
use Rattle.script_lang.specs.Lines.{line_at}
use Rattle.script_lang.proofs.Whole.{found, only, none}
use Rattle.reply_text.specs.declared.refusals.Refusal.TheVariants as refusals
use Rattle.reply_text.specs.declared.replies.Reply.TheVariants as replies
use Rattle.oracle_iface.specs.declared.keys.Key.{Key}
use Rattle.session_core.specs.Answer.{State, Replied, Told, told, refused, told_reply, replied, is_unbuilt_command, answer}
use Rattle.session_core.specs.Lines.{told_reading, told_line, answer_told, answer_bytes, asked_keys, command_keys, line_keys}

abbrev read_so : Bool → Reading (Option Command) → Told (Option Command)
read_so long r = cond long (refused refusals.Syntax) (told_reading r)

line-is : (line : List ℕ) → told_line line ≡ read_so (nat_lt 65536 (length line)) (line_at line)
unfolding told_line
line-is line = refl

same : (x y : Option Command) → x ≡ y → ◌≡◌ {A = Told (Option Command)} (told x) (told y)
same x y e = ap told e

pub line_told : (line : List ℕ) (c : Option Command) → IsLine line c → told_line line ≡ told c
line_told line c is = line-is line ∙ ap (λ b. read_so b (line_at line)) (not_lt 65536 (length line) is.0) ∙ by (line_at line) refl
  where
    by : (r : Reading (Option Command)) → line_at line ≡ r → told_reading r ≡ told c
    by (Ok read) e = ap told (only line read.0 c read.1 e is)
    by (Err left) e = absurd (none line left c e is)

within : {m n : ℕ} → (m < n) ⊎ (n ≤ m) → nat_lt m n ≡ false → n ≤ m
within {m} {n} (inl h) f = absurd (true≢false (sym (is_lt m n h) ∙ f))
within (inr h) f = h

pub line_refused : (line : List ℕ) → ((c : Option Command) → IsLine line c → ⊥) → told_line line ≡ refused refusals.Syntax
line_refused line never = line-is line ∙ by (nat_lt 65536 (length line)) (line_at line) refl refl
  where
    by : (long : Bool) (r : Reading (Option Command)) → nat_lt 65536 (length line) ≡ long → line_at line ≡ r → read_so long r ≡ refused refusals.Syntax
    by true r b e = refl
    by false (Ok read) b e = absurd (never read.0 (found line read.0 read.1 (short b) e))
      where
        short : nat_lt 65536 (length line) ≡ false → length line ≤ 65536
        short f = within (cases_lt 65536 (length line)) f
    by false (Err left) b e = refl

module _ (s : State) (line : List ℕ) where
  bytes-are : (m : Told (Option Command)) → told_line line ≡ m → answer_bytes s line ≡ answer_told s m
  unfolding answer_bytes
  bytes-are m e = ap (answer_told s) e

  keys-are : (m : Told (Option Command)) → told_line line ≡ m → line_keys s line ≡ asked_keys s m
  unfolding line_keys
  keys-are m e = ap (asked_keys s) e

  pub replied_to : (c : Command) → IsLine line (Some c) → answer_bytes s line ≡ answer s c
  replied_to c is = bytes-are (told (Some c)) (line_told line (Some c) is)

  pub keys_of_command : (c : Command) → IsLine line (Some c) → line_keys s line ≡ command_keys s c
  keys_of_command c is = keys-are (told (Some c)) (line_told line (Some c) is)

  pub no_command : IsLine line None → answer_bytes s line ≡ (replies.Empty, s)
  no_command is = bytes-are (told None) (line_told line None is)

  pub no_command_keys : IsLine line None → ◌≡◌ {A = List Key} (line_keys s line) []
  no_command_keys is = keys-are (told None) (line_told line None is)

  pub no_line : ((c : Option Command) → IsLine line c → ⊥) → answer_bytes s line ≡ (replies.Refused refusals.Syntax, s)
  no_line never = bytes-are (refused refusals.Syntax) (line_refused line never)

  pub no_line_keys : ((c : Option Command) → IsLine line c → ⊥) → ◌≡◌ {A = List Key} (line_keys s line) []
  no_line_keys never = keys-are (refused refusals.Syntax) (line_refused line never)

pub answer-told : (s : State) (c : Command) (r : Replied) → is_unbuilt_command c ≡ false → told_reply s c ≡ told r → answer s c ≡ r
unfolding answer
answer-told s c r b e = ap (λ x. cond x (replies.Refused refusals.NotBuilt, s) (replied s (told_reply s c))) b ∙ ap (replied s) e

pub told_is_line : (line : List ℕ) (c : Option Command) → told_line line ≡ told c → IsLine line c
told_is_line line c h = by (nat_lt 65536 (length line)) (line_at line) refl refl (sym (line-is line) ∙ h)
  where
    by : (long : Bool) (r : Reading (Option Command)) → nat_lt 65536 (length line) ≡ long → line_at line ≡ r → read_so long r ≡ told c → IsLine line c
    by true r b e k = absurd (cc k)
    by false (Ok read) b e k = let same : read.0 ≡ c = cc in subst (IsLine line) same (found line read.0 read.1 (within (cases_lt 65536 (length line)) b) e)
    by false (Err left) b e k = absurd (cc k)
