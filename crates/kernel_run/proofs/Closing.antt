-- The lines that a piece closes, answered one after the other.
use Rattle.std.proofs.Common.{◌≡◌, ◌≢◌, ℕ, ◌+◌, ◌<◌, ◌≤◌, List, [], ◌∷◌, ◌++◌, length, Bool, true, false, ◌==◌, sym, ◌∙◌, ap, refl, arith, append_assoc, append-nil as list_append-nil, subst}
use Rattle.port_io.specs.Ports.{PortState}
use Rattle.session_core.specs.Answer.{State}
use Rattle.kernel_run.specs.Fresh.{state_after, state_from, text_to, texts_from}
use Rattle.kernel_run.specs.Pieces.{closed_lines, open_line, last_line, kept, EndsLine, EndsNoLine}
use Rattle.kernel_run.specs.Progress.{Answered, CountsBy, AllWritten, Stopped, AnswersBy}
use Rattle.kernel_run.specs.Session.{ReadsNothing}
use Rattle.kernel_run.specs.declared.report.SessionReport.{SessionReport}
use Rattle.kernel_run.specs.declared.report.End.{End}
use Rattle.kernel_run.specs.declared.report.End.TheVariants.{Finished, Long, ReadFault, WriteFault, Memory}
use Rattle.kernel_run.proofs.Texts.{texts-append, state-append, one_most, one_error_most, all_of_none, all_both, one_text, stops_in_line, stops_behind, answers_one}

pub reads_nothing : (a b c : PortState) → ReadsNothing a b → ReadsNothing b c → ReadsNothing a c
reads_nothing a b c x y = record { left = y.left ∙ x.left; read_faults = y.read_faults ∙ x.read_faults; bytes_read = y.bytes_read ∙ x.bytes_read; empty_reads = y.empty_reads ∙ x.empty_reads }

pub no_reads : (a : PortState) → ReadsNothing a a
no_reads a = record { left = refl; read_faults = refl; bytes_read = refl; empty_reads = refl }

-- one line is one reply at most
counts_replies : (e : End) (text : List ℕ) (old new : SessionReport) → CountsBy e text old new → new.replies ≤ old.replies + 1
counts_replies Finished text old new counts = omega (arith, counts.0, one_most text)
counts_replies Long text old new counts = omega (arith, counts.0)
counts_replies ReadFault text old new counts = omega (arith, counts.0)
counts_replies WriteFault text old new counts = omega (arith, counts.0)
counts_replies Memory text old new counts = omega (arith, counts.0)

counts_errors : (e : End) (text : List ℕ) (old new : SessionReport) → CountsBy e text old new → new.errors ≤ old.errors + 1
counts_errors Finished text old new counts = omega (arith, counts.1, one_error_most text)
counts_errors Long text old new counts = omega (arith, counts.1)
counts_errors ReadFault text old new counts = omega (arith, counts.1)
counts_errors WriteFault text old new counts = omega (arith, counts.1)
counts_errors Memory text old new counts = omega (arith, counts.1)

pub one_reply_more : (b c : PortState) (text : List ℕ) (old new : SessionReport) → Answered b c text old new → new.replies ≤ old.replies + 1
one_reply_more b c text old new answered = counts_replies new.end text old new answered.counts

pub one_error_more : (b c : PortState) (text : List ℕ) (old new : SessionReport) → Answered b c text old new → new.errors ≤ old.errors + 1
one_error_more b c text old new answered = counts_errors new.end text old new answered.counts

-- the lines of a piece before this rest are answered
pub record PieceSoFar (a b : PortState) (s : State) (line piece : List ℕ) (t : State) (now rest : List ℕ) (old new : SessionReport) : Type 0 where
  pub done : List (List ℕ)
  pub lines : closed_lines line piece ≡ done ++ closed_lines now rest
  pub open_now : open_line line piece ≡ open_line now rest
  pub wrote : AllWritten a b (texts_from s done) old new
  pub reads : ReadsNothing a b
  pub state : t ≡ state_from s done
  pub room : new.replies + length rest ≤ old.replies + length piece
  pub error_room : new.errors + length rest ≤ old.errors + length piece
  pub end : new.end ≡ Finished

pub piece_starts : (a : PortState) (s : State) (line piece : List ℕ) (r : SessionReport) → r.end ≡ Finished → PieceSoFar a a s line piece s line piece r r
piece_starts a s line piece r end = record {
  done = [];
  lines = refl;
  open_now = refl;
  wrote = all_of_none a r;
  reads = no_reads a;
  state = refl;
  room = omega arith;
  error_room = omega arith;
  end = end;
}

module _ (a b c : PortState) (s t : State) (line piece now rest front after : List ℕ) (old mid new : SessionReport)
    (sofar : PieceSoFar a b s line piece t now rest old mid) (ends : EndsLine rest front after) (answered : Answered b c (text_to t (now ++ front)) mid new) where
  closed_now : closed_lines line piece ≡ sofar.done ++ (now ++ front) ∷ closed_lines [] after
  closed_now = sofar.lines ∙ ap (λ ls. sofar.done ++ ls) (ends.closed now)

  pub piece_goes_on : new.end ≡ Finished → (u : State) → u ≡ state_after t (now ++ front) → (then_now : List ℕ) → then_now ≡ [] → PieceSoFar a c s line piece u then_now after old new
  piece_goes_on end u next then_now none = record {
    done = sofar.done ++ (now ++ front) ∷ [];
    lines = closed_now ∙ sym (append_assoc sofar.done ((now ++ front) ∷ []) (closed_lines [] after)) ∙ ap (λ l. (sofar.done ++ (now ++ front) ∷ []) ++ closed_lines l after) (sym none);
    open_now = sofar.open_now ∙ ends.open_then now ∙ ap (λ l. open_line l after) (sym none);
    wrote = subst (λ ts. AllWritten a c ts old new)
        (ap (λ z. texts_from s sofar.done ++ text_to z (now ++ front) ∷ []) sofar.state ∙ sym (texts-append s sofar.done ((now ++ front) ∷ [])))
        (all_both a b c (texts_from s sofar.done) (text_to t (now ++ front) ∷ []) old mid new sofar.wrote (one_text b c (text_to t (now ++ front)) mid new answered end));
    reads = reads_nothing a b c sofar.reads answered.reads;
    state = next ∙ ap (λ z. state_after z (now ++ front)) sofar.state ∙ sym (state-append s sofar.done ((now ++ front) ∷ []));
    room = omega (arith, sofar.room, ends.less, one_reply_more b c (text_to t (now ++ front)) mid new answered);
    error_room = omega (arith, sofar.error_room, ends.less, one_error_more b c (text_to t (now ++ front)) mid new answered);
    end = end;
  }

  pub piece_stops : new.end ≢ Finished → AnswersBy new.end a c (texts_from s (closed_lines line piece)) old new
  piece_stops not = stops_in_line a b c (texts_from s sofar.done) (texts_from (state_after t (now ++ front)) (closed_lines [] after)) (texts_from s (closed_lines line piece)) (text_to t (now ++ front)) old mid new
      sofar.wrote answered not
      (ap (texts_from s) closed_now ∙ texts-append s sofar.done ((now ++ front) ∷ closed_lines [] after)
      ∙ ap (λ z. texts_from s sofar.done ++ text_to z (now ++ front) ∷ texts_from (state_after z (now ++ front)) (closed_lines [] after)) (sym sofar.state))

module _ (a b : PortState) (s t : State) (line piece now rest : List ℕ) (old new : SessionReport)
    (sofar : PieceSoFar a b s line piece t now rest old new) (ends : EndsNoLine rest) where
  all_closed : closed_lines line piece ≡ sofar.done
  all_closed = sofar.lines ∙ ap (λ ls. sofar.done ++ ls) (ends.closed now) ∙ list_append-nil sofar.done

  pub piece_ends : AllWritten a b (texts_from s (closed_lines line piece)) old new
  piece_ends = subst (λ ls. AllWritten a b (texts_from s ls) old new) (sym all_closed) sofar.wrote

  pub state_ends : t ≡ state_from s (closed_lines line piece)
  state_ends = sofar.state ∙ ap (state_from s) (sym all_closed)

  pub open_ends : kept (now ++ rest) ≡ kept (open_line line piece)
  open_ends = ap kept (sym (sofar.open_now ∙ ends.open_then now))

  pub piece_answers : AnswersBy new.end a b (texts_from s (closed_lines line piece)) old new
  piece_answers = subst (λ e. AnswersBy e a b (texts_from s (closed_lines line piece)) old new) (sym sofar.end) piece_ends

  -- no memory is found for what is left open
  pub piece_wants : Stopped a b (texts_from s (closed_lines line piece)) old (record { replies = new.replies; errors = new.errors; end = Memory })
  piece_wants = stops_behind a b b (texts_from s (closed_lines line piece)) old new piece_ends (record { written = refl; write_faults = refl })

pub some_open : (bytes line : List ℕ) (b : Bool) → b ≡ (length bytes == 0) → b ≡ false → bytes ≡ line → 0 < length line
some_open [] line b is f same = cc
some_open (x ∷ xs) line b is f same = omega (arith, ap length same)

pub none_open : (bytes line : List ℕ) (b : Bool) → b ≡ (length bytes == 0) → b ≡ true → bytes ≡ line → length line ≡ 0
none_open [] line b is t same = sym (ap length same)
none_open (x ∷ xs) line b is t same = absurd (grind arith)

-- an open line that is not empty is the last line
pub last_some : (s : State) (line : List ℕ) → 0 < length line → texts_from s (last_line line) ≡ text_to s (line ++ []) ∷ []
last_some s [] some = absurd (omega arith)
last_some s (b ∷ line) some = ap (λ l. text_to s l ∷ []) (sym (list_append-nil (b ∷ line)))

pub last_none : (s : State) (line : List ℕ) → length line ≡ 0 → texts_from s (last_line line) ≡ []
last_none s [] none = refl
last_none s (b ∷ line) none = absurd (omega (arith, none))

pub last_answers : (b c : PortState) (s : State) (line last : List ℕ) (old new : SessionReport) → 0 < length line → last ≡ [] → Answered b c (text_to s (line ++ last)) old new
    → AnswersBy new.end b c (texts_from s (last_line line)) old new
last_answers b c s line last old new some none answered =
    let here : Answered b c (text_to s (line ++ [])) old new = subst (λ l. Answered b c (text_to s (line ++ l)) old new) none answered in
    subst (λ ts. AnswersBy new.end b c ts old new) (sym (last_some s line some)) (answers_one new.end b c (text_to s (line ++ [])) old new refl here)

pub last_written : (b : PortState) (s : State) (line : List ℕ) (r : SessionReport) → length line ≡ 0 → r.end ≡ Finished → AnswersBy r.end b b (texts_from s (last_line line)) r r
last_written b s line r none end = subst (λ e. AnswersBy e b b (texts_from s (last_line line)) r r) (sym end)
    (subst (λ ts. AllWritten b b ts r r) (sym (last_none s line none)) (all_of_none b r))
