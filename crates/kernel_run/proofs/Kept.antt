-- A line that is cut short is answered as the whole line.
use Rattle.std.proofs.Common.{◌≡◌, ℕ, ◌+◌, ◌<◌, ◌≤◌, List, [], ◌∷◌, ◌++◌, length, take, true, nat_lt, refl, sym, ◌∙◌, ap, arith, length-take, ◌⊎◌, inl, inr, Result, Ok, Err, OnOk, if◌then◌else◌}
use Rattle.std.specs.Prelude.{is_ok}
use Rattle.std.proofs.lemmas.Bool.{le-leb}
use Rattle.std.proofs.lemmas.List.{take_all, take-append-le}
use Rattle.std.proofs.Math.Seq.{take-append-add}
use Rattle.session_core.specs.Answer.{State}
use Rattle.session_core.specs.Lines.{answer_bytes, answer_told, asked_keys, told_line, line_keys}
use Rattle.homology_rules.specs.Asking.{up_to_refusal}
use Rattle.reply_text.specs.Text.{text}
use Rattle.kernel_run.specs.Fresh.{state_after, state_from, text_to, texts_from}
use Rattle.kernel_run.specs.Pieces.{closed_lines, open_line, last_line, kept, EndsNoLine}
use Rattle.kernel_run.specs.Settled.{keys_at, keys_from}
use Rattle.kernel_run.proofs.Cutting.{most-or-more, cut_at, FirstLine}

-- ---- what is kept of bytes of which some were kept

pub take-front : (n : ℕ) (xs ys : List ℕ) → take n (take n xs ++ ys) ≡ take n (xs ++ ys)
take-front n xs ys = by (most-or-more n (length xs))
  where
    by : (length xs ≤ n) ⊎ (n < length xs) → take n (take n xs ++ ys) ≡ take n (xs ++ ys)
    by (inl all) = ap (λ zs. take n (zs ++ ys)) (take_all n xs all)
    by (inr more) = take-append-le n (take n xs) ys (omega (arith, more, length-take n xs)) ∙ take_all n (take n xs) (omega (arith, length-take n xs)) ∙ sym (take-append-le n xs ys (omega (arith, more)))

-- two lines of which the same is kept
pub same-kept : (xs ys zs : List ℕ) → kept xs ≡ kept ys → kept (xs ++ zs) ≡ kept (ys ++ zs)
same-kept xs ys zs same = sym (take-front 65537 xs zs) ∙ ap (λ l. take 65537 (l ++ zs)) same ∙ take-front 65537 ys zs

pub kept-kept : (xs : List ℕ) → kept (kept xs) ≡ kept xs
kept-kept xs = take_all 65537 (kept xs) (omega (arith, length-take 65537 xs))

-- a buffer has room for what is kept
pub kept-append : (xs ys : List ℕ) (room : ℕ) → room + length xs ≡ 65537 → xs ++ take room ys ≡ kept (xs ++ ys)
kept-append xs ys room is = sym (ap (λ n. take n (xs ++ ys)) (sum is) ∙ take-append-add xs ys room)
  where
    sum : room + length xs ≡ 65537 → 65537 ≡ length xs + room
    sum is = omega (arith, is)

pub kept_result : {E : Type 0} (r : Result (Unit {0}) E) (old seen new first bytes : List ℕ) (room : ℕ) → new ≡ (if is_ok r then old ++ first else old) → first ≡ take room bytes → room + length old ≡ 65537
    → seen ≡ old → OnOk r (new ≡ kept (seen ++ bytes))
kept_result (Ok u) old seen new first bytes room is f sum view = is ∙ ap (λ l. old ++ l) f ∙ kept-append old bytes room sum ∙ ap (λ l. kept (l ++ bytes)) (sym view)
kept_result (Err e) old seen new first bytes room is f sum view = tt

-- ---- one line

too_long : (line : List ℕ) → 65536 < length line → nat_lt 65536 (length line) ≡ true
too_long line more = le-leb 65537 (length line) (omega (arith, more))

pub told-kept : (line : List ℕ) → told_line (kept line) ≡ told_line line
unfolding told_line
told-kept line = by (most-or-more 65537 (length line))
  where
    by : (length line ≤ 65537) ⊎ (65537 < length line) → told_line (kept line) ≡ told_line line
    by (inl all) = ap told_line (take_all 65537 line all)
    by (inr more) = refused_both (too_long (kept line) (omega (arith, more, length-take 65537 line))) (too_long line (omega (arith, more)))
      where
        refused_both : nat_lt 65536 (length (kept line)) ≡ true → nat_lt 65536 (length line) ≡ true → told_line (kept line) ≡ told_line line
        refused_both a b = rw (a, b) refl

pub same-told : (xs ys : List ℕ) → kept xs ≡ kept ys → told_line xs ≡ told_line ys
same-told xs ys same = sym (told-kept xs) ∙ ap told_line same ∙ told-kept ys

pub same-answer : (s : State) (xs ys : List ℕ) → kept xs ≡ kept ys → answer_bytes s xs ≡ answer_bytes s ys
unfolding answer_bytes
same-answer s xs ys same = ap (answer_told s) (same-told xs ys same)

pub same-keys : (s : State) (xs ys : List ℕ) → kept xs ≡ kept ys → line_keys s xs ≡ line_keys s ys
unfolding line_keys
same-keys s xs ys same = ap (asked_keys s) (same-told xs ys same)

-- the same of a line and of what a buffer kept of it
module _ (s : State) (bytes line whole : List ℕ) (same : bytes ≡ line) (is : line ≡ kept whole) where
  kept_alike : kept bytes ≡ kept whole
  kept_alike = ap kept (same ∙ is) ∙ kept-kept whole

  pub text_kept : text_to s bytes ≡ text_to s whole
  text_kept = λ i. text (same-answer s bytes whole kept_alike i).0

  pub state_kept : (t : State) → t ≡ state_after s bytes → t ≡ state_after s whole
  state_kept t after = after ∙ λ i. (same-answer s bytes whole kept_alike i).1

  pub keys_kept : keys_at s bytes ≡ keys_at s whole
  keys_kept = ap up_to_refusal (same-keys s bytes whole kept_alike)

-- ---- the lines of a piece

module _ (s : State) (xs ys : List ℕ) (same : kept xs ≡ kept ys) where
  with_more : (front : List ℕ) → answer_bytes s (xs ++ front) ≡ answer_bytes s (ys ++ front)
  with_more front = same-answer s (xs ++ front) (ys ++ front) (same-kept xs ys front same)

  pub same-texts : (piece : List ℕ) → texts_from s (closed_lines xs piece) ≡ texts_from s (closed_lines ys piece)
  same-texts piece = by (cut_at piece)
    where
      by : EndsNoLine piece ⊎ FirstLine piece → texts_from s (closed_lines xs piece) ≡ texts_from s (closed_lines ys piece)
      by (inl none) = ap (texts_from s) (none.closed xs ∙ sym (none.closed ys))
      by (inr first) = ap (texts_from s) (first.ends.closed xs)
          ∙ (λ i. text (with_more first.front i).0 ∷ texts_from (with_more first.front i).1 (closed_lines [] first.rest))
          ∙ sym (ap (texts_from s) (first.ends.closed ys))

  pub same-state : (piece : List ℕ) → state_from s (closed_lines xs piece) ≡ state_from s (closed_lines ys piece)
  same-state piece = by (cut_at piece)
    where
      by : EndsNoLine piece ⊎ FirstLine piece → state_from s (closed_lines xs piece) ≡ state_from s (closed_lines ys piece)
      by (inl none) = ap (state_from s) (none.closed xs ∙ sym (none.closed ys))
      by (inr first) = ap (state_from s) (first.ends.closed xs)
          ∙ (λ i. state_from (with_more first.front i).1 (closed_lines [] first.rest))
          ∙ sym (ap (state_from s) (first.ends.closed ys))

  pub same-keys-from : (piece : List ℕ) → keys_from s (closed_lines xs piece) ≡ keys_from s (closed_lines ys piece)
  same-keys-from piece = by (cut_at piece)
    where
      by : EndsNoLine piece ⊎ FirstLine piece → keys_from s (closed_lines xs piece) ≡ keys_from s (closed_lines ys piece)
      by (inl none) = ap (keys_from s) (none.closed xs ∙ sym (none.closed ys))
      by (inr first) = ap (keys_from s) (first.ends.closed xs)
          ∙ (λ i. up_to_refusal (same-keys s (xs ++ first.front) (ys ++ first.front) (same-kept xs ys first.front same) i) ++ keys_from (with_more first.front i).1 (closed_lines [] first.rest))
          ∙ sym (ap (keys_from s) (first.ends.closed ys))

  pub same-open : (piece : List ℕ) → kept (open_line xs piece) ≡ kept (open_line ys piece)
  same-open piece = by (cut_at piece)
    where
      by : EndsNoLine piece ⊎ FirstLine piece → kept (open_line xs piece) ≡ kept (open_line ys piece)
      by (inl none) = ap kept (none.open_then xs) ∙ same-kept xs ys piece same ∙ sym (ap kept (none.open_then ys))
      by (inr first) = ap kept (first.ends.open_then xs ∙ sym (first.ends.open_then ys))

-- ---- the last line

pub last-texts : (s : State) (line : List ℕ) → texts_from s (last_line (kept line)) ≡ texts_from s (last_line line)
last-texts s [] = refl
last-texts s (b ∷ line) = λ i. text (same-answer s (kept (b ∷ line)) (b ∷ line) (kept-kept (b ∷ line)) i).0 ∷ []

pub last-keys : (s : State) (line : List ℕ) → keys_from s (last_line (kept line)) ≡ keys_from s (last_line line)
last-keys s [] = refl
last-keys s (b ∷ line) = λ i. up_to_refusal (same-keys s (kept (b ∷ line)) (b ∷ line) (kept-kept (b ∷ line)) i) ++ []
