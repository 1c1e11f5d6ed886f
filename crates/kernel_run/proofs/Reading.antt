-- A script that is answered while it is read.
use Rattle.std.proofs.Common.{◌≡◌, ℕ, ◌+◌, ◌-◌, ◌≤◌, List, [], ◌++◌, length, take, Option, Some, None, sym, ◌∙◌, ap, refl, arith, append_assoc, length-append, length-take, subst}
use Rattle.std.proofs.lemmas.List.{take_all, take-append-le, length-take-le}
use Rattle.std.proofs.Math.Seq.{take-append-add}
use Rattle.std.specs.Io.KnownBytes.{prepend_known}
use Rattle.port_io.specs.Ports.{PortState, raised}
use Rattle.session_core.specs.Answer.{State}
use Rattle.session_core.specs.Lines.{first_state}
use Rattle.kernel_run.specs.Fresh.{state_from, texts_from}
use Rattle.kernel_run.specs.Pieces.{closed_lines, open_line, kept}
use Rattle.kernel_run.specs.Progress.{AllWritten}
use Rattle.kernel_run.specs.Session.{ReadsBytes, ReadsNothing, WritesNothing}
use Rattle.kernel_run.specs.Settled.{keys_from}
use Rattle.kernel_run.specs.declared.report.SessionReport.{SessionReport}
use Rattle.kernel_run.specs.declared.report.End.TheVariants.{Finished}
use Rattle.kernel_run.proofs.Kept.{kept-kept, same-texts, same-state, same-keys-from, same-open}
use Rattle.kernel_run.proofs.Cutting.{closed-append, open-append}
use Rattle.kernel_run.proofs.Texts.{texts-append, state-append, keys-append, all_of_none, all_both}

-- no reply so far
abbrev pub no_replies : SessionReport
no_replies = record { replies = 0; errors = 0; end = Finished }

-- the lines that these bytes close, of which no more are answered than a script may have
abbrev pub lines_read : List ℕ → List (List ℕ)
lines_read got = closed_lines [] (take 16777216 got)

-- what was read so far, and that its lines are answered
pub record Course (before after : PortState) (s : State) (line : List ℕ) (report : SessionReport) (read : ℕ) (got : List ℕ) : Type 0 where
  pub size : read ≡ length got
  pub most : read ≤ 16777217
  pub reads : ReadsBytes before after got
  pub read_faults : after.read_faults ≡ before.read_faults
  pub answered : AllWritten before after (texts_from first_state (lines_read got)) no_replies report
  pub state : s ≡ state_from first_state (lines_read got)
  pub open_now : line ≡ kept (open_line [] (take 16777216 got))
  pub room : report.replies ≤ read
  pub error_room : report.errors ≤ read
  pub end : report.end ≡ Finished

pub prepend-prepend : (xs ys : List ℕ) (o : Option (List ℕ)) → prepend_known xs (prepend_known ys o) ≡ prepend_known (xs ++ ys) o
prepend-prepend xs ys None = refl
prepend-prepend xs ys (Some zs) = ap Some (sym (append_assoc xs ys zs))

prepend-nil : (o : Option (List ℕ)) → o ≡ prepend_known [] o
prepend-nil None = refl
prepend-nil (Some zs) = refl

raised-raised : (a m n : ℕ) → raised (raised a m) n ≡ raised a (m + n)
raised-raised a m n = omega arith

raised-none : (a : ℕ) → a ≡ raised a 0
raised-none a = omega arith

pub reads_both : (a b c : PortState) (xs ys : List ℕ) → ReadsBytes a b xs → ReadsBytes b c ys → ReadsBytes a c (xs ++ ys)
reads_both a b c xs ys x y = record {
  left = x.left ∙ ap (λ o. prepend_known xs o) y.left ∙ prepend-prepend xs ys c.left;
  bytes_read = y.bytes_read ∙ ap (λ n. raised n (length ys)) x.bytes_read ∙ raised-raised a.bytes_read (length xs) (length ys) ∙ ap (raised a.bytes_read) (sym (length-append xs ys));
  empty_reads = y.empty_reads ∙ x.empty_reads;
}

-- a step that reads nothing
pub reads_then : (a b c : PortState) (xs : List ℕ) → ReadsBytes a b xs → c.left ≡ b.left → c.bytes_read ≡ b.bytes_read → c.empty_reads ≡ b.empty_reads → ReadsBytes a c xs
reads_then a b c xs x left bytes empty = record { left = x.left ∙ ap (λ o. prepend_known xs o) (sym left); bytes_read = bytes ∙ x.bytes_read; empty_reads = empty ∙ x.empty_reads }

pub course_starts : (a : PortState) (s : State) (line : List ℕ) (r : SessionReport) (read : ℕ) → s ≡ first_state → line ≡ [] → r ≡ no_replies → read ≡ 0 → Course a a s line r read []
course_starts a s line r read first none report zero = record {
  size = zero;
  most = omega (arith, zero);
  reads = record { left = prepend-nil a.left; bytes_read = raised-none a.bytes_read; empty_reads = refl };
  read_faults = refl;
  answered = subst (λ q. AllWritten a a [] no_replies q) (sym report) (all_of_none a no_replies);
  state = first;
  open_now = none;
  room = omega (arith, ap (λ q. q.replies) report);
  error_room = omega (arith, ap (λ q. q.errors) report);
  end = ap (λ q. q.end) report;
}

-- a piece behind what was read
module _ (got piece : List ℕ) (less : length got ≤ 16777216) where
  all_got : take 16777216 got ≡ got
  all_got = take_all 16777216 got less

  pub part_of : (part : List ℕ) → part ≡ take (16777216 - length got) piece → take 16777216 (got ++ piece) ≡ got ++ part
  part_of part is = ap (λ n. take n (got ++ piece)) sum ∙ take-append-add got piece (16777216 - length got) ∙ ap (λ l. got ++ l) (sym is)
    where
      sum : 16777216 ≡ length got + (16777216 - length got)
      sum = omega (arith, less)

  module _ (part : List ℕ) (is : part ≡ take (16777216 - length got) piece) where
    pub lines_more : lines_read (got ++ piece) ≡ lines_read got ++ closed_lines (open_line [] (take 16777216 got)) part
    lines_more = ap (closed_lines []) (part_of part is) ∙ closed-append [] got part ∙ (λ i. closed_lines [] (sym all_got i) ++ closed_lines (open_line [] (sym all_got i)) part)

    pub open_more : open_line [] (take 16777216 (got ++ piece)) ≡ open_line (open_line [] (take 16777216 got)) part
    open_more = ap (open_line []) (part_of part is) ∙ open-append [] got part ∙ ap (λ l. open_line (open_line [] l) part) (sym all_got)

    module _ (s : State) (line : List ℕ) (now : s ≡ state_from first_state (lines_read got)) (open_now : line ≡ kept (open_line [] (take 16777216 got))) where
      same : kept line ≡ kept (open_line [] (take 16777216 got))
      same = ap kept open_now ∙ kept-kept (open_line [] (take 16777216 got))

      pub texts_more : texts_from first_state (lines_read (got ++ piece)) ≡ texts_from first_state (lines_read got) ++ texts_from s (closed_lines line part)
      texts_more = ap (texts_from first_state) lines_more ∙ texts-append first_state (lines_read got) (closed_lines (open_line [] (take 16777216 got)) part)
          ∙ ap (λ z. texts_from first_state (lines_read got) ++ texts_from z (closed_lines (open_line [] (take 16777216 got)) part)) (sym now)
          ∙ ap (λ ts. texts_from first_state (lines_read got) ++ ts) (sym (same-texts s line (open_line [] (take 16777216 got)) same part))

      pub state_more : state_from first_state (lines_read (got ++ piece)) ≡ state_from s (closed_lines line part)
      state_more = ap (state_from first_state) lines_more ∙ state-append first_state (lines_read got) (closed_lines (open_line [] (take 16777216 got)) part)
          ∙ ap (λ z. state_from z (closed_lines (open_line [] (take 16777216 got)) part)) (sym now)
          ∙ sym (same-state s line (open_line [] (take 16777216 got)) same part)

      pub keys_more : keys_from first_state (lines_read (got ++ piece)) ≡ keys_from first_state (lines_read got) ++ keys_from s (closed_lines line part)
      keys_more = ap (keys_from first_state) lines_more ∙ keys-append first_state (lines_read got) (closed_lines (open_line [] (take 16777216 got)) part)
          ∙ ap (λ z. keys_from first_state (lines_read got) ++ keys_from z (closed_lines (open_line [] (take 16777216 got)) part)) (sym now)
          ∙ ap (λ ks. keys_from first_state (lines_read got) ++ ks) (sym (same-keys-from s line (open_line [] (take 16777216 got)) same part))

      pub line_more : kept (open_line line part) ≡ kept (open_line [] (take 16777216 (got ++ piece)))
      line_more = same-open s line (open_line [] (take 16777216 got)) same part ∙ ap kept (sym open_more)

-- one more read
module _ (a b c d : PortState) (s : State) (line : List ℕ) (r q : SessionReport) (read : ℕ) (got : List ℕ) (course : Course a b s line r read got) (less : read ≤ 16777216)
    (piece part : List ℕ) (read_piece : ReadsBytes b c piece) (read_faults : c.read_faults ≡ b.read_faults) (writes : WritesNothing b c)
    (is : part ≡ take (16777216 - read) piece) (reads : ReadsNothing c d) where
  got_less : length got ≤ 16777216
  got_less = omega (arith, less, course.size)

  part_is : part ≡ take (16777216 - length got) piece
  part_is = is ∙ ap (λ n. take (16777216 - n) piece) course.size

  pub written_before : AllWritten a c (texts_from first_state (lines_read got)) no_replies r
  written_before = record {
    wrote = record { written = writes.written ∙ course.answered.wrote.written; write_faults = writes.write_faults ∙ course.answered.wrote.write_faults };
    replies = course.answered.replies;
    errors = course.answered.errors;
  }

  pub reads_now : ReadsBytes a d (got ++ piece)
  reads_now = reads_then a c d (got ++ piece) (reads_both a b c got piece course.reads read_piece) reads.left reads.bytes_read reads.empty_reads

  pub no_fault_now : d.read_faults ≡ a.read_faults
  no_fault_now = reads.read_faults ∙ read_faults ∙ course.read_faults

  pub texts_now : texts_from first_state (lines_read (got ++ piece)) ≡ texts_from first_state (lines_read got) ++ texts_from s (closed_lines line part)
  texts_now = texts_more got piece got_less part part_is s line course.state course.open_now

  pub keys_now : keys_from first_state (lines_read (got ++ piece)) ≡ keys_from first_state (lines_read got) ++ keys_from s (closed_lines line part)
  keys_now = keys_more got piece got_less part part_is s line course.state course.open_now

  pub course_goes_on : AllWritten c d (texts_from s (closed_lines line part)) r q → (t : State) → t ≡ state_from s (closed_lines line part) → (line' : List ℕ) → line' ≡ kept (open_line line part)
      → (read' : ℕ) → read' ≡ read + length piece → read' ≤ 16777217 → q.replies ≤ r.replies + length part → q.errors ≤ r.errors + length part → q.end ≡ Finished → Course a d t line' q read' (got ++ piece)
  course_goes_on all t next line' open_next read' sum most replies errors end = record {
    size = omega (arith, sum, course.size, length-append got piece);
    most = most;
    reads = reads_now;
    read_faults = no_fault_now;
    answered = subst (λ ts. AllWritten a d ts no_replies q) (sym texts_now) (all_both a c d (texts_from first_state (lines_read got)) (texts_from s (closed_lines line part)) no_replies r q written_before all);
    state = next ∙ sym (state_more got piece got_less part part_is s line course.state course.open_now);
    open_now = open_next ∙ line_more got piece got_less part part_is s line course.state course.open_now;
    room = omega (arith, sum, course.room, replies, part_less);
    error_room = omega (arith, sum, course.error_room, errors, part_less);
    end = end;
  }
    where
      part_less : length part ≤ length piece
      part_less = omega (arith, ap length is, length-take (16777216 - read) piece)

-- there is room for the counts of the lines of a piece
pub part_room : (count read : ℕ) (part piece : List ℕ) → count ≤ read → read ≤ 16777216 → part ≡ take (16777216 - read) piece → count + length part ≤ 16777217
part_room count read part piece most less is = omega (arith, most, less, ap length is, length-take (16777216 - read) piece)

-- a buffer whose first bytes were read
module _ (count room read : ℕ) (old front rest : List ℕ) (bound : count ≤ length (take room old)) (same : length front ≡ length (take room old)) where
  within : count ≤ length front
  within = omega (arith, bound, same)

  pub front_read : (part : List ℕ) (n : ℕ) → part ≡ take n (take count (front ++ rest)) → part ≡ take n (take count front)
  front_read part n is = is ∙ ap (take n) (take-append-le count front rest within)

  pub count_read : read + count ≡ read + length (take count front)
  count_read = ap (λ n. read + n) (sym (length-take-le count front within))

  pub most_read : room ≤ 16777217 - read → read ≤ 16777216 → read + count ≤ 16777217
  most_read less before = omega (arith, bound, less, before, length-take room old)
