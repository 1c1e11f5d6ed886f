-- From what was read to the input that was there.
use Rattle.std.proofs.Common.{◌≡◌, ℕ, ◌+◌, ◌-◌, ◌<◌, ◌≤◌, List, [], ◌∷◌, ◌++◌, length, take, drop, Option, Some, None, true, false, sym, ◌∙◌, ap, refl, arith, append_assoc, append-nil as list_append-nil, length-append, length-take, length-drop, subst, IfSome, zero-add, add-zero, ◌⊎◌, inl, inr}
use Rattle.std.proofs.lemmas.Bool.{le-leb, lt-leb}
use Rattle.std.proofs.lemmas.List.{take_all, take-append-drop, take-append-le}
use Rattle.std.proofs.Math.Seq.{take-append-add}
use Rattle.std.specs.Io.KnownBytes.{prepend_known, IsAtEnd}
use Rattle.port_io.specs.Ports.{PortState}
use Rattle.session_core.specs.Lines.{first_state}
use Rattle.kernel_run.specs.Counts.{sum_whole, one_reply, one_error}
use Rattle.kernel_run.specs.Fresh.{fresh, texts_from, texts_to, joined, is_long, answered_lines, last_text}
use Rattle.kernel_run.specs.Outcome.{Outcome, IsComplete}
use Rattle.kernel_run.specs.Pieces.{closed_lines, open_line, last_line}
use Rattle.kernel_run.specs.Progress.{AllWritten, IsShort, Stopped, sum_texts}
use Rattle.kernel_run.specs.declared.report.SessionReport.{SessionReport}
use Rattle.kernel_run.specs.declared.report.End.{End}
use Rattle.kernel_run.specs.declared.report.End.TheVariants.{Finished, Long, ReadFault, WriteFault, Memory}
use Rattle.kernel_run.proofs.Cutting.{most-or-more, closed-append, closed-ended, lines-closed}
use Rattle.kernel_run.proofs.Reading.{no_replies, lines_read}
use Rattle.kernel_run.proofs.Texts.{texts-append, joined-append, sum_whole-done, sum_whole-part, sum_whole-zero, count_within}

-- ---- what was read is a front of the input

-- a fact of the input that is known once what was left is
pub of_input : (P : List ℕ → Type 0) (all left : Option (List ℕ)) (got : List ℕ) → all ≡ prepend_known got left → ((rest : List ℕ) → left ≡ Some rest → P (got ++ rest)) → IfSome all P
of_input P all left got is each = subst (λ o. IfSome o P) (sym is) (by left refl)
  where
    by : (o : Option (List ℕ)) → left ≡ o → IfSome (prepend_known got left) P
    by None e = subst (λ o. IfSome (prepend_known got o) P) (sym e) tt
    by (Some rest) e = subst (λ o. IfSome (prepend_known got o) P) (sym e) (each rest e)

-- nothing is left at the end
pub at_the_end : (left : Option (List ℕ)) (rest : List ℕ) → IsAtEnd left → left ≡ Some rest → rest ≡ []
at_the_end left rest end is = subst IsAtEnd is end

pub long_one : (xs : List ℕ) → 16777216 < length xs → is_long xs ≡ true
long_one xs more = le-leb 16777217 (length xs) (omega (arith, more))

pub short_one : (xs : List ℕ) → length xs ≤ 16777216 → is_long xs ≡ false
short_one xs less = lt-leb 16777217 (length xs) (omega (arith, less))

long_lines : (xs : List ℕ) → 16777216 < length xs → answered_lines xs ≡ closed_lines [] (take 16777216 xs)
long_lines xs more = rw (long_one xs more) (sym (closed-ended (take 16777216 xs)))

short_lines : (xs : List ℕ) → length xs ≤ 16777216 → answered_lines xs ≡ closed_lines [] xs ++ last_line (open_line [] xs)
short_lines xs less = rw (short_one xs less) (lines-closed xs)

-- the texts are the first of those to the input
pub record Begins (input : List ℕ) (texts : List (List ℕ)) : Type 0 where
  pub more : List (List ℕ)
  pub is : texts_to input ≡ texts ++ more

begins : (input : List ℕ) (lines rest : List (List ℕ)) → answered_lines input ≡ lines ++ rest → Begins input (texts_from first_state lines)
begins input lines rest is = record { more = _; is = ap (texts_from first_state) is ∙ texts-append first_state lines rest }

take-parts : (n : ℕ) (xs ys : List ℕ) → take n (xs ++ ys) ≡ take n xs ++ take (n - length xs) ys
take-parts n xs ys = by (most-or-more n (length xs))
  where
    by : (length xs ≤ n) ⊎ (n < length xs) → take n (xs ++ ys) ≡ take n xs ++ take (n - length xs) ys
    by (inl all) = ap (λ k. take k (xs ++ ys)) sum ∙ take-append-add xs ys (n - length xs) ∙ ap (λ l. l ++ take (n - length xs) ys) (sym (take_all n xs all))
      where
        sum : n ≡ length xs + (n - length xs)
        sum = omega (arith, all)
    by (inr more) = take-append-le n xs ys (omega (arith, more)) ∙ sym (list_append-nil (take n xs)) ∙ ap (λ k. take n xs ++ take k ys) none
      where
        none : 0 ≡ n - length xs
        none = omega (arith, more)

-- the lines that were closed are the first of those that are answered
pub lines_begin : (got rest : List ℕ) → Begins (got ++ rest) (texts_from first_state (lines_read got))
lines_begin got rest = by (most-or-more 16777216 (length (got ++ rest)))
  where
    by : (length (got ++ rest) ≤ 16777216) ⊎ (16777216 < length (got ++ rest)) → Begins (got ++ rest) (texts_from first_state (lines_read got))
    by (inr more) = begins (got ++ rest) (lines_read got) _ (long_lines (got ++ rest) more ∙ ap (closed_lines []) (take-parts 16777216 got rest) ∙ closed-append [] (take 16777216 got) (take (16777216 - length got) rest))
    by (inl less) = begins (got ++ rest) (lines_read got) _ (short_lines (got ++ rest) less ∙ ap (λ ls. ls ++ last_line (open_line [] (got ++ rest))) (closed-append [] got rest)
        ∙ ap (λ l. (closed_lines [] l ++ closed_lines (open_line [] got) rest) ++ last_line (open_line [] (got ++ rest))) (sym (take_all 16777216 got (omega (arith, less, length-append got rest))))
        ∙ append_assoc (lines_read got) (closed_lines (open_line [] got) rest) (last_line (open_line [] (got ++ rest))))

-- at the end of a script that is not too long the open line is the last one
pub lines_end_at : (got : List ℕ) → length got ≤ 16777216 → answered_lines got ≡ lines_read got ++ last_line (open_line [] (take 16777216 got))
lines_end_at got less = short_lines got less ∙ ap (λ l. closed_lines [] l ++ last_line (open_line [] l)) (sym (take_all 16777216 got less))

pub lines_end : (got : List ℕ) → length got ≤ 16777216 → texts_to got ≡ texts_from first_state (lines_read got ++ last_line (open_line [] (take 16777216 got)))
lines_end got less = ap (texts_from first_state) (lines_end_at got less)

-- of a script that is too long all lines are closed
pub lines_long : (got rest : List ℕ) → length got ≡ 16777217 → texts_to (got ++ rest) ≡ texts_from first_state (lines_read got)
lines_long got rest size = ap (texts_from first_state) (long_lines (got ++ rest) (omega (arith, size, length-append got rest)) ∙ ap (closed_lines []) (take-append-le 16777216 got rest (omega (arith, size))))

-- ---- what a session leaves behind

count_stopped : (f : List ℕ → ℕ) (e : End) (k : ℕ) (more : List (List ℕ)) → f [] ≡ 0 → IsShort e k more → sum_whole f more k ≡ 0
count_stopped f Finished k more z short = absurd short
count_stopped f Long k more z short = absurd short
count_stopped f ReadFault k more z short = rw short (sum_whole-zero f more z)
count_stopped f Memory k more z short = rw short (sum_whole-zero f more z)
count_stopped f WriteFault k [] z short = absurd short
count_stopped f WriteFault k (t ∷ ts) z short = sum_whole-part f t ts k short

counted : (f : List ℕ → ℕ) (e : End) (texts done more : List (List ℕ)) (k : ℕ) → f [] ≡ 0 → IsShort e k more → texts ≡ done ++ more
    → sum_whole f texts (length (joined done ++ take k (joined more))) ≡ sum_texts f done
counted f e texts done more k z short is =
    ap (sum_whole f texts) size ∙ ap (λ ts. sum_whole f ts (length (joined done) + k)) is ∙ sum_whole-done f done more k ∙ ap (λ n. sum_texts f done + n) (count_stopped f e k more z short) ∙ add-zero (sum_texts f done)
  where
    size : length (joined done ++ take k (joined more)) ≡ length (joined done) + k
    size = omega (arith, length-append (joined done) (take k (joined more)), length-take k (joined more), count_within e k more short)

not_all : (e : End) (k : ℕ) (more : List (List ℕ)) → IsShort e k more → e ≡ WriteFault → k < length (joined more)
not_all Finished k more short is = absurd short
not_all Long k more short is = absurd short
not_all ReadFault k more short is = cc
not_all Memory k more short is = cc
not_all WriteFault k [] short is = absurd short
not_all WriteFault k (t ∷ ts) short is = omega (arith, short, length-append t (joined ts))

early : (e : End) (k : ℕ) (more : List (List ℕ)) → IsShort e k more → IsComplete e → ⊥
early Finished k more short whole = short
early Long k more short whole = short
early ReadFault k more short whole = whole
early WriteFault k more short whole = whole
early Memory k more short whole = whole

-- a session that stopped among the texts of its input
pub stopped_outcome : (a c : PortState) (input : List ℕ) (texts : List (List ℕ)) (r : SessionReport) → texts_to input ≡ texts → Stopped a c texts no_replies r → Outcome input a.written c.written r
stopped_outcome a c input texts r is stop =
    let all : texts_to input ≡ stop.done ++ stop.more = is ∙ stop.parts in
    record {
      wrote = joined stop.done ++ take stop.count (joined stop.more);
      written = stop.written;
      not_written = drop stop.count (joined stop.more) ++ last_text (is_long input);
      front = ap (λ ts. joined ts ++ last_text (is_long input)) all ∙ ap (λ x. x ++ last_text (is_long input)) (joined-append stop.done stop.more)
          ∙ ap (λ x. (joined stop.done ++ x) ++ last_text (is_long input)) (sym (take-append-drop stop.count (joined stop.more)))
          ∙ parted (joined stop.done) (take stop.count (joined stop.more)) (drop stop.count (joined stop.more)) (last_text (is_long input));
      whole = λ w. absurd (early r.end stop.count stop.more stop.short w);
      short = λ e. rest_some (joined stop.more) stop.count (last_text (is_long input)) (not_all r.end stop.count stop.more stop.short e);
      replies = stop.replies ∙ zero-add (sum_texts one_reply stop.done) ∙ sym (counted one_reply r.end (texts_to input) stop.done stop.more stop.count refl stop.short all);
      errors = stop.errors ∙ zero-add (sum_texts one_error stop.done) ∙ sym (counted one_error r.end (texts_to input) stop.done stop.more stop.count refl stop.short all);
    }
  where
    parted : (p t d l : List ℕ) → (p ++ (t ++ d)) ++ l ≡ (p ++ t) ++ (d ++ l)
    parted p t d l = simp append_assoc refl

    rest_some : (xs : List ℕ) (k : ℕ) (l : List ℕ) → k < length xs → 0 < length (drop k xs ++ l)
    rest_some xs k l less = omega (arith, less, length-append (drop k xs) l, length-drop k xs)

pub count_all : (f : List ℕ → ℕ) (texts done : List (List ℕ)) (k n : ℕ) → texts ≡ done → n ≡ length (joined done) + k → sum_whole f texts n ≡ sum_texts f done
count_all f texts done k n is size =
    ap (sum_whole f texts) size ∙ ap (λ ts. sum_whole f ts (length (joined done) + k)) (is ∙ sym (list_append-nil done)) ∙ sum_whole-done f done [] k ∙ add-zero (sum_texts f done)

-- a session that wrote all the texts of its input
pub finished_outcome : (a c : PortState) (input : List ℕ) (texts : List (List ℕ)) (r : SessionReport) → texts_to input ≡ texts → is_long input ≡ false → r.end ≡ Finished → AllWritten a c texts no_replies r
    → Outcome input a.written c.written r
finished_outcome a c input texts r is short end all =
    let whole : fresh input ≡ joined texts = ap (λ t. joined (texts_to input) ++ last_text t) short ∙ list_append-nil (joined (texts_to input)) ∙ ap joined is in
    record {
      wrote = joined texts;
      written = all.wrote.written;
      not_written = [];
      front = whole ∙ sym (list_append-nil (joined texts));
      whole = λ w. whole;
      short = λ e. cc;
      replies = all.replies ∙ zero-add (sum_texts one_reply texts) ∙ sym (count_all one_reply (texts_to input) texts 0 (length (joined texts)) is (sym (add-zero (length (joined texts)))));
      errors = all.errors ∙ zero-add (sum_texts one_error texts) ∙ sym (count_all one_error (texts_to input) texts 0 (length (joined texts)) is (sym (add-zero (length (joined texts)))));
    }
