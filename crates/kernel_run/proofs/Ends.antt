-- The ends of a session that answers while it reads.
use Rattle.std.proofs.Common.{◌≡◌, ◌≢◌, ℕ, ◌+◌, ◌-◌, ◌<◌, ◌≤◌, List, [], ◌++◌, length, take, drop, Some, sym, ◌∙◌, ap, refl, arith, append_assoc, append-nil as list_append-nil, length-append, length-drop, subst, zero-add}
use Rattle.std.proofs.lemmas.List.{take_all, take-append-drop}
use Rattle.std.specs.Io.KnownBytes.{prepend_known, append_known, IsAtEnd}
use Rattle.port_io.specs.Ports.{PortState, Rose}
use Rattle.session_core.specs.Answer.{State}
use Rattle.session_core.specs.Lines.{first_state}
use Rattle.kernel_run.specs.Counts.{sum_whole, one_reply, one_error}
use Rattle.kernel_run.specs.Fresh.{fresh, texts_from, texts_to, joined, last_text, too_long}
use Rattle.kernel_run.specs.Lines.{ended_lines_of}
use Rattle.kernel_run.specs.Outcome.{Outcome, IsComplete, HasLengthFor, AnswersRead, OverPort}
use Rattle.kernel_run.specs.Pieces.{closed_lines, open_line, last_line}
use Rattle.kernel_run.specs.Progress.{AllWritten, IsShort, WriteFaultsBy, Stopped, AnswersBy, WritesLast, EndedLong, sum_texts}
use Rattle.kernel_run.specs.Session.{ReadsBytes, ReadsEnd, ReadFails, ReadsNothing, WritesNothing}
use Rattle.kernel_run.specs.declared.report.SessionReport.{SessionReport}
use Rattle.kernel_run.specs.declared.report.End.{End}
use Rattle.kernel_run.specs.declared.report.End.TheVariants.{Finished, Long, ReadFault, WriteFault, Memory}
use Rattle.kernel_run.proofs.Kept.{last-texts}
use Rattle.kernel_run.proofs.Cutting.{closed-ended}
use Rattle.kernel_run.proofs.Reading.{Course, no_replies, lines_read, reads_then, written_before, reads_now, no_fault_now, texts_now}
use Rattle.kernel_run.proofs.Texts.{texts-append, all_both, stopped_after, stopped_before, stopped_behind}
use Rattle.kernel_run.proofs.Whole.{of_input, at_the_end, Begins, lines_begin, lines_end, lines_long, stopped_outcome, finished_outcome, count_all, long_one, short_one}
use Rattle.kernel_run.proofs.Writing.{append-append}

-- ---- a session that stopped among the texts of its input

faults_rose : (e : End) (x y : ℕ) → WriteFaultsBy e x y → e ≡ WriteFault → Rose x y
faults_rose e x y by is = subst (λ e. WriteFaultsBy e x y) is by

faults_stayed : (e : End) (x y : ℕ) → WriteFaultsBy e x y → e ≢ WriteFault → y ≡ x
faults_stayed Finished x y by not = by
faults_stayed Long x y by not = by
faults_stayed ReadFault x y by not = by
faults_stayed WriteFault x y by not = absurd (not refl)
faults_stayed Memory x y by not = by

no_length : (e : End) (k : ℕ) (more : List (List ℕ)) → IsShort e k more → (input : List ℕ) → HasLengthFor e input
no_length Finished k more short input = absurd short
no_length Long k more short input = absurd short
no_length ReadFault k more short input = tt
no_length WriteFault k more short input = tt
no_length Memory k more short input = tt

no_finish : (e : End) (k : ℕ) (more : List (List ℕ)) → IsShort e k more → e ≡ Finished → ⊥
no_finish e k more short is = subst (λ e. IsShort e k more) is short

not_long : (e : End) (k : ℕ) (more : List (List ℕ)) → IsShort e k more → e ≡ Long → ⊥
not_long e k more short is = subst (λ e. IsShort e k more) is short

-- what a session stopped at, in terms of its input
record StopsAt (a d : PortState) (r : SessionReport) : Type 0 where
  pub got : List ℕ
  pub left : a.left ≡ prepend_known got d.left
  pub texts : List (List ℕ)
  pub begin : (rest : List ℕ) → d.left ≡ Some rest → Begins (got ++ rest) texts
  pub stop : Stopped a d texts no_replies r

over_stopped : (a d : PortState) (r : SessionReport) → StopsAt a d r → (r.end ≡ ReadFault → AnswersRead a d) → (r.end ≡ ReadFault → Rose a.read_faults d.read_faults) → (r.end ≢ ReadFault → d.read_faults ≡ a.read_faults)
    → OverPort a d r
over_stopped a d r at answered rose stayed =
    let short = at.stop.short in
    record {
      output = of_input (λ input. Outcome input a.written d.written r) a.left d.left at.got at.left outcome;
      size = of_input (λ input. HasLengthFor r.end input) a.left d.left at.got at.left (λ rest is. no_length r.end at.stop.count at.stop.more short (at.got ++ rest));
      at_end = λ e. absurd (no_finish r.end at.stop.count at.stop.more short e);
      answered = answered;
      too_much = λ e. absurd (not_long r.end at.stop.count at.stop.more short e);
      read_fault = rose;
      no_read_fault = stayed;
      write_fault = faults_rose r.end a.write_faults d.write_faults at.stop.write_faults;
      no_write_fault = faults_stayed r.end a.write_faults d.write_faults at.stop.write_faults;
      long = λ e. absurd (not_long r.end at.stop.count at.stop.more short e);
      finished = λ e. absurd (no_finish r.end at.stop.count at.stop.more short e);
      ended = λ e. absurd (no_finish r.end at.stop.count at.stop.more short e);
    }
  where
    outcome : (rest : List ℕ) → d.left ≡ Some rest → Outcome (at.got ++ rest) a.written d.written r
    outcome rest is =
        let b = at.begin rest is in
        stopped_outcome a d (at.got ++ rest) (at.texts ++ b.more) r b.is (stopped_before a d at.texts b.more no_replies r at.stop)

-- ---- a read failed

module _ (a b c : PortState) (s : State) (line : List ℕ) (r : SessionReport) (read : ℕ) (got : List ℕ) (course : Course a b s line r read got) where
  pub read_failed : read ≤ 16777216 → ReadFails b c → WritesNothing b c → OverPort a c (record { replies = r.replies; errors = r.errors; end = ReadFault })
  read_failed less fails writes = over_stopped a c (record { replies = r.replies; errors = r.errors; end = ReadFault }) (record {
    got = got;
    left = reads.left;
    texts = texts_from first_state (lines_read got);
    begin = λ rest is. lines_begin got rest;
    stop = stopped_behind a b c (texts_from first_state (lines_read got)) no_replies r (record { replies = r.replies; errors = r.errors; end = ReadFault })
        course.answered writes.written writes.write_faults refl refl refl;
  })
      (λ e. record { got = got; reads = reads; written = writes.written ∙ course.answered.wrote.written ∙ ap (λ ls. append_known a.written (joined (texts_from first_state ls))) lines })
      (λ e. subst (λ n. Rose n c.read_faults) course.read_faults fails.read_faults)
      (λ not. absurd (not refl))
    where
      reads : ReadsBytes a c got
      reads = reads_then a b c got course.reads fails.left fails.bytes_read fails.empty_reads

      lines : lines_read got ≡ ended_lines_of got
      lines = ap (closed_lines []) (take_all 16777216 got (omega (arith, less, course.size))) ∙ closed-ended got

-- ---- a step of a piece stopped

by_end : (e : End) (c d : PortState) (texts : List (List ℕ)) (r q : SessionReport) → AnswersBy e c d texts r q → e ≢ Finished → Stopped c d texts r q
by_end Finished c d texts r q by not = absurd (not refl)
by_end Long c d texts r q by not = absurd by
by_end ReadFault c d texts r q by not = absurd by
by_end WriteFault c d texts r q by not = by
by_end Memory c d texts r q by not = by

no_read_fault : (e : End) (c d : PortState) (texts : List (List ℕ)) (r q : SessionReport) → AnswersBy e c d texts r q → e ≡ ReadFault → ⊥
no_read_fault e c d texts r q by is = subst (λ e. AnswersBy e c d texts r q) is by

module _ (a b c d : PortState) (s : State) (line : List ℕ) (r q : SessionReport) (read : ℕ) (got : List ℕ) (course : Course a b s line r read got) (less : read ≤ 16777216) where
  pub piece_stopped : (piece part : List ℕ) → ReadsBytes b c piece → c.read_faults ≡ b.read_faults → WritesNothing b c → part ≡ take (16777216 - read) piece → ReadsNothing c d
      → AnswersBy q.end c d (texts_from s (closed_lines line part)) r q → q.end ≢ Finished → OverPort a d q
  piece_stopped piece part given faults writes is reads answers not = over_stopped a d q (record {
    got = got ++ piece;
    left = (reads_now a b c d s line r q read got course less piece part given faults writes is reads).left;
    texts = texts_from first_state (lines_read (got ++ piece));
    begin = λ rest e. lines_begin (got ++ piece) rest;
    stop = subst (λ ts. Stopped a d ts no_replies q) (sym (texts_now a b c d s line r q read got course less piece part given faults writes is reads))
        (stopped_after a c d (texts_from first_state (lines_read got)) (texts_from s (closed_lines line part)) no_replies r q
        (written_before a b c d s line r q read got course less piece part given faults writes is reads) (by_end q.end c d (texts_from s (closed_lines line part)) r q answers not));
  })
      (λ e. absurd (no_read_fault q.end c d (texts_from s (closed_lines line part)) r q answers e))
      (λ e. absurd (no_read_fault q.end c d (texts_from s (closed_lines line part)) r q answers e))
      (λ e. no_fault_now a b c d s line r q read got course less piece part given faults writes is reads)

  -- ---- the input came to its end

  module _ (ends : ReadsEnd b c) (faults : c.read_faults ≡ b.read_faults) (writes : WritesNothing b c) (reads : ReadsNothing c d) where
    got_less : length got ≤ 16777216
    got_less = omega (arith, less, course.size)

    left_now : a.left ≡ prepend_known got d.left
    left_now = course.reads.left ∙ ap (prepend_known got) (sym (reads.left ∙ ends.left))

    end_now : IsAtEnd d.left
    end_now = subst IsAtEnd (sym reads.left) ends.at_end

    before : AllWritten a c (texts_from first_state (lines_read got)) no_replies r
    before = record {
      wrote = record { written = writes.written ∙ course.answered.wrote.written; write_faults = writes.write_faults ∙ course.answered.wrote.write_faults };
      replies = course.answered.replies;
      errors = course.answered.errors;
    }

    pub all_texts : texts_to got ≡ texts_from first_state (lines_read got) ++ texts_from s (last_line line)
    all_texts = lines_end got got_less ∙ texts-append first_state (lines_read got) (last_line (open_line [] (take 16777216 got)))
        ∙ ap (λ z. texts_from first_state (lines_read got) ++ texts_from z (last_line (open_line [] (take 16777216 got)))) (sym course.state)
        ∙ ap (λ ts. texts_from first_state (lines_read got) ++ ts) (sym (last-texts s (open_line [] (take 16777216 got))) ∙ ap (λ l. texts_from s (last_line l)) (sym course.open_now))

    whole_texts : (rest : List ℕ) → d.left ≡ Some rest → texts_to (got ++ rest) ≡ texts_from first_state (lines_read got) ++ texts_from s (last_line line)
    whole_texts rest is = ap (λ l. texts_to (got ++ l)) (at_the_end d.left rest end_now is) ∙ ap texts_to (list_append-nil got) ∙ all_texts

    size_of : (rest : List ℕ) → d.left ≡ Some rest → length (got ++ rest) ≤ 16777216
    size_of rest is = omega (arith, length-append got rest, ap length (at_the_end d.left rest end_now is), got_less)

    no_fault : d.read_faults ≡ a.read_faults
    no_fault = reads.read_faults ∙ faults ∙ course.read_faults

    last_stopped : AnswersBy q.end c d (texts_from s (last_line line)) r q → q.end ≢ Finished → OverPort a d q
    last_stopped answers not = over_stopped a d q (record {
      got = got;
      left = left_now;
      texts = texts_from first_state (lines_read got) ++ texts_from s (last_line line);
      begin = λ rest is. record { more = []; is = whole_texts rest is ∙ sym (list_append-nil (texts_from first_state (lines_read got) ++ texts_from s (last_line line))) };
      stop = stopped_after a c d (texts_from first_state (lines_read got)) (texts_from s (last_line line)) no_replies r q before (by_end q.end c d (texts_from s (last_line line)) r q answers not);
    })
        (λ e. absurd (no_read_fault q.end c d (texts_from s (last_line line)) r q answers e))
        (λ e. absurd (no_read_fault q.end c d (texts_from s (last_line line)) r q answers e))
        (λ e. no_fault)

    last_finished : AllWritten c d (texts_from s (last_line line)) r q → q.end ≡ Finished → OverPort a d q
    last_finished all end =
        let every = all_both a c d (texts_from first_state (lines_read got)) (texts_from s (last_line line)) no_replies r q before all in
        record {
          output = of_input (λ input. Outcome input a.written d.written q) a.left d.left got left_now
              (λ rest is. finished_outcome a d (got ++ rest) (texts_from first_state (lines_read got) ++ texts_from s (last_line line)) q (whole_texts rest is) (short_one (got ++ rest) (size_of rest is)) end every);
          size = of_input (λ input. HasLengthFor q.end input) a.left d.left got left_now (λ rest is. subst (λ e. HasLengthFor e (got ++ rest)) (sym end) (size_of rest is));
          at_end = λ e. end_now;
          answered = λ e. cc;
          too_much = λ e. cc;
          read_fault = λ e. cc;
          no_read_fault = λ e. no_fault;
          write_fault = λ e. cc;
          no_write_fault = λ e. every.wrote.write_faults;
          long = λ e. cc;
          finished = λ e. omega (arith, reads.bytes_read, ends.bytes_read, course.reads.bytes_read, got_less);
          ended = λ e. omega (arith, reads.empty_reads, ends.empty_reads, course.reads.empty_reads);
        }

    which : (e : End) → e ≡ q.end → AnswersBy e c d (texts_from s (last_line line)) r q → OverPort a d q
    which Finished is answers = last_finished answers (sym is)
    which Long is answers = absurd answers
    which ReadFault is answers = absurd answers
    which WriteFault is answers = last_stopped (subst (λ e. AnswersBy e c d (texts_from s (last_line line)) r q) is answers) (λ f. cc)
    which Memory is answers = last_stopped (subst (λ e. AnswersBy e c d (texts_from s (last_line line)) r q) is answers) (λ f. cc)

    pub last_answered : AnswersBy q.end c d (texts_from s (last_line line)) r q → OverPort a d q
    last_answered answers = which q.end refl answers

-- ---- the input is too long

module _ (a b d : PortState) (s : State) (line : List ℕ) (r q : SessionReport) (read : ℕ) (got : List ℕ) (course : Course a b s line r read got) (full : 16777217 ≤ read) where
  size : length got ≡ 16777217
  size = omega (arith, full, course.size, course.most)

  module _ (reads : ReadsNothing b d) (replies : q.replies ≡ r.replies) (errors : q.errors ≡ r.errors) where
    read_now : ReadsBytes a d got
    read_now = reads_then a b d got course.reads reads.left reads.bytes_read reads.empty_reads

    texts : (rest : List ℕ) → texts_to (got ++ rest) ≡ texts_from first_state (lines_read got)
    texts rest = lines_long got rest size

    whole : (rest : List ℕ) → fresh (got ++ rest) ≡ joined (texts_from first_state (lines_read got)) ++ too_long
    whole rest = ap (λ t. joined (texts_to (got ++ rest)) ++ last_text t) (long_one (got ++ rest) (omega (arith, size, length-append got rest))) ∙ ap (λ ts. joined ts ++ too_long) (texts rest)

    counted_in : (f : List ℕ → ℕ) (n : ℕ) (rest part : List ℕ) → n ≡ 0 + sum_texts f (texts_from first_state (lines_read got))
        → n ≡ sum_whole f (texts_to (got ++ rest)) (length (joined (texts_from first_state (lines_read got)) ++ part))
    counted_in f n rest part is = is ∙ zero-add (sum_texts f (texts_from first_state (lines_read got)))
        ∙ sym (count_all f (texts_to (got ++ rest)) (texts_from first_state (lines_read got)) (length part) _ (texts rest) (length-append (joined (texts_from first_state (lines_read got))) part))

    long_outcome : d.written ≡ append_known b.written too_long → q.end ≡ Long → (rest : List ℕ) → Outcome (got ++ rest) a.written d.written q
    long_outcome written end rest = record {
      wrote = joined (texts_from first_state (lines_read got)) ++ too_long;
      written = written ∙ ap (λ o. append_known o too_long) course.answered.wrote.written ∙ append-append a.written (joined (texts_from first_state (lines_read got))) too_long;
      not_written = [];
      front = whole rest ∙ sym (list_append-nil (joined (texts_from first_state (lines_read got)) ++ too_long));
      whole = λ w. whole rest;
      short = λ e. cc;
      replies = counted_in one_reply q.replies rest too_long (replies ∙ course.answered.replies);
      errors = counted_in one_error q.errors rest too_long (errors ∙ course.answered.errors);
    }

    part_outcome : (k : ℕ) → k < length too_long → d.written ≡ append_known b.written (take k too_long) → q.end ≡ WriteFault → (rest : List ℕ) → Outcome (got ++ rest) a.written d.written q
    part_outcome k less written end rest = record {
      wrote = joined (texts_from first_state (lines_read got)) ++ take k too_long;
      written = written ∙ ap (λ o. append_known o (take k too_long)) course.answered.wrote.written ∙ append-append a.written (joined (texts_from first_state (lines_read got))) (take k too_long);
      not_written = drop k too_long;
      front = whole rest ∙ ap (λ t. joined (texts_from first_state (lines_read got)) ++ t) (sym (take-append-drop k too_long))
          ∙ sym (append_assoc (joined (texts_from first_state (lines_read got))) (take k too_long) (drop k too_long));
      whole = λ w. absurd (subst IsComplete end w);
      short = λ e. rest_some k too_long less;
      replies = counted_in one_reply q.replies rest (take k too_long) (replies ∙ course.answered.replies);
      errors = counted_in one_error q.errors rest (take k too_long) (errors ∙ course.answered.errors);
    }
      where
        rest_some : (k : ℕ) (xs : List ℕ) → k < length xs → 0 < length (drop k xs)
        rest_some k xs less = omega (arith, less, length-drop k xs)

    over_long : WritesLast Long b d → q.end ≡ Long → OverPort a d q
    over_long writes end = record {
      output = of_input (λ input. Outcome input a.written d.written q) a.left d.left got read_now.left (λ rest is. long_outcome writes.written end rest);
      size = of_input (λ input. HasLengthFor q.end input) a.left d.left got read_now.left (λ rest is. subst (λ e. HasLengthFor e (got ++ rest)) (sym end) (omega (arith, size, length-append got rest)));
      at_end = λ e. cc;
      answered = λ e. cc;
      too_much = λ e. record { got = got; reads = read_now; size = size };
      read_fault = λ e. cc;
      no_read_fault = λ e. reads.read_faults ∙ course.read_faults;
      write_fault = λ e. cc;
      no_write_fault = λ e. writes.write_faults ∙ course.answered.wrote.write_faults;
      long = λ e. omega (arith, read_now.bytes_read, size);
      finished = λ e. cc;
      ended = λ e. cc;
    }

    over_part : WritesLast WriteFault b d → q.end ≡ WriteFault → OverPort a d q
    over_part writes end = record {
      output = of_input (λ input. Outcome input a.written d.written q) a.left d.left got read_now.left (λ rest is. part_outcome writes.count writes.less writes.written end rest);
      size = of_input (λ input. HasLengthFor q.end input) a.left d.left got read_now.left (λ rest is. subst (λ e. HasLengthFor e (got ++ rest)) (sym end) tt);
      at_end = λ e. cc;
      answered = λ e. cc;
      too_much = λ e. cc;
      read_fault = λ e. cc;
      no_read_fault = λ e. reads.read_faults ∙ course.read_faults;
      write_fault = λ e. subst (λ n. Rose n d.write_faults) course.answered.wrote.write_faults writes.write_faults;
      no_write_fault = λ not. absurd (not end);
      long = λ e. cc;
      finished = λ e. cc;
      ended = λ e. cc;
    }

    by_last : (e : End) → e ≡ q.end → WritesLast e b d → OverPort a d q
    by_last Finished is writes = absurd writes
    by_last ReadFault is writes = absurd writes
    by_last Memory is writes = absurd writes
    by_last Long is writes = over_long writes (sym is)
    by_last WriteFault is writes = over_part writes (sym is)

  pub long_ended : EndedLong b d r q → OverPort a d q
  long_ended ended = by_last ended.reads ended.replies ended.errors q.end refl ended.writes
