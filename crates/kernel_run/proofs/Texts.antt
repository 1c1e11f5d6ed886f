-- Texts written one after the other.
use Rattle.std.proofs.Common.{◌≡◌, ◌≢◌, ℕ, ◌+◌, ◌-◌, ◌<◌, ◌≤◌, List, [], ◌∷◌, ◌++◌, length, take, nat_le, Option, Some, None, true, sym, ◌∙◌, ap, refl, arith, append_assoc, append-nil as list_append-nil, length-append, subst, zero-add, add-zero}
use Rattle.std.proofs.lemmas.List.{take-append-le}
use Rattle.std.proofs.lemmas.Bool.{le-leb, lt-leb}
use Rattle.std.specs.Io.KnownBytes.{append_known}
use Rattle.port_io.specs.Ports.{PortState}
use Rattle.session_core.specs.Answer.{State}
use Rattle.kernel_run.specs.Counts.{sum_whole, one_reply, one_error}
use Rattle.kernel_run.specs.Fresh.{state_after, state_from, text_to, texts_from, joined}
use Rattle.kernel_run.specs.Progress.{Answered, WritesBy, CountsBy, sum_texts, AllWritten, IsShort, WriteFaultsBy, Stopped, AnswersBy}
use Rattle.kernel_run.specs.Session.{WritesOn, WritesNothing}
use Rattle.kernel_run.specs.Settled.{keys_at, keys_from}
use Rattle.kernel_run.specs.declared.report.SessionReport.{SessionReport}
use Rattle.kernel_run.specs.declared.report.End.{End}
use Rattle.kernel_run.specs.declared.report.End.TheVariants.{Finished, Long, ReadFault, WriteFault, Memory}
use Rattle.kernel_run.proofs.Writing.{append-append}

-- ---- the replies to lines, one after the other

pub texts-append : (s : State) (xs ys : List (List ℕ)) → texts_from s (xs ++ ys) ≡ texts_from s xs ++ texts_from (state_from s xs) ys
texts-append s [] ys = refl
texts-append s (x ∷ xs) ys = ap (λ ts. text_to s x ∷ ts) (texts-append (state_after s x) xs ys)

pub state-append : (s : State) (xs ys : List (List ℕ)) → state_from s (xs ++ ys) ≡ state_from (state_from s xs) ys
state-append s [] ys = refl
state-append s (x ∷ xs) ys = state-append (state_after s x) xs ys

pub keys-append : (s : State) (xs ys : List (List ℕ)) → keys_from s (xs ++ ys) ≡ keys_from s xs ++ keys_from (state_from s xs) ys
keys-append s [] ys = refl
keys-append s (x ∷ xs) ys = ap (λ ks. keys_at s x ++ ks) (keys-append (state_after s x) xs ys) ∙ sym (append_assoc (keys_at s x) (keys_from (state_after s x) xs) (keys_from (state_from (state_after s x) xs) ys))

-- ---- lists of texts

pub joined-append : (xs ys : List (List ℕ)) → joined (xs ++ ys) ≡ joined xs ++ joined ys
joined-append [] ys = refl
joined-append (x ∷ xs) ys = ap (λ r. x ++ r) (joined-append xs ys) ∙ sym (append_assoc x (joined xs) (joined ys))

pub sum_texts-append : (f : List ℕ → ℕ) (xs ys : List (List ℕ)) → sum_texts f (xs ++ ys) ≡ sum_texts f xs + sum_texts f ys
sum_texts-append f [] ys = omega arith
sum_texts-append f (x ∷ xs) ys = omega (arith, sum_texts-append f xs ys)

pub sum_whole-done : (f : List ℕ → ℕ) (done more : List (List ℕ)) (k : ℕ) → sum_whole f (done ++ more) (length (joined done) + k) ≡ sum_texts f done + sum_whole f more k
sum_whole-done f [] more k = ap (sum_whole f more) (zero-add k) ∙ sym (zero-add (sum_whole f more k))
sum_whole-done f (t ∷ done) more k =
    let fits : nat_le (length t) (length (t ++ joined done) + k) ≡ true = le-leb (length t) (length (t ++ joined done) + k) (omega (arith, length-append t (joined done))) in
    let less : length (t ++ joined done) + k - length t ≡ length (joined done) + k = omega (arith, length-append t (joined done)) in
    rw (fits, less, sum_whole-done f done more k) (omega arith)

pub sum_whole-part : (f : List ℕ → ℕ) (t : List ℕ) (more : List (List ℕ)) (k : ℕ) → k < length t → sum_whole f (t ∷ more) k ≡ 0
sum_whole-part f t more k h = rw (lt-leb (length t) k h) refl

pub sum_whole-zero : (f : List ℕ → ℕ) (more : List (List ℕ)) → f [] ≡ 0 → sum_whole f more 0 ≡ 0
sum_whole-zero f [] z = refl
sum_whole-zero f ([] ∷ more) z = rw (z, sum_whole-zero f more z) refl
sum_whole-zero f ((b ∷ t) ∷ more) z = sum_whole-part f (b ∷ t) more 0 (omega arith)

pub one_most : (t : List ℕ) → one_reply t ≤ 1
one_most t = grind arith

pub one_error_most : (t : List ℕ) → one_error t ≤ 1
one_error_most t = grind arith

pub append-nil : (o : Option (List ℕ)) → o ≡ append_known o []
append-nil None = refl
append-nil (Some xs) = ap Some (sym (list_append-nil xs))

-- ---- what was written, one step after the other

pub all_of_none : (a : PortState) (r : SessionReport) → AllWritten a a [] r r
all_of_none a r = record { wrote = record { written = append-nil a.written; write_faults = refl }; replies = sym (add-zero r.replies); errors = sym (add-zero r.errors) }

pub all_both : (a b c : PortState) (xs ys : List (List ℕ)) (r s t : SessionReport) → AllWritten a b xs r s → AllWritten b c ys s t → AllWritten a c (xs ++ ys) r t
all_both a b c xs ys r s t x y = record {
  wrote = record {
    written = y.wrote.written ∙ ap (λ o. append_known o (joined ys)) x.wrote.written ∙ append-append a.written (joined xs) (joined ys) ∙ ap (append_known a.written) (sym (joined-append xs ys));
    write_faults = y.wrote.write_faults ∙ x.wrote.write_faults;
  };
  replies = omega (arith, x.replies, y.replies, sum_texts-append one_reply xs ys);
  errors = omega (arith, x.errors, y.errors, sum_texts-append one_error xs ys);
}

faults_after : (e : End) (a b c : ℕ) → b ≡ a → WriteFaultsBy e b c → WriteFaultsBy e a c
faults_after e a b c same by = subst (λ n. WriteFaultsBy e n c) same by

-- a session that had written texts stops among the texts behind them
pub stopped_after : (a b c : PortState) (xs ys : List (List ℕ)) (r s t : SessionReport) → AllWritten a b xs r s → Stopped b c ys s t → Stopped a c (xs ++ ys) r t
stopped_after a b c xs ys r s t x y =
    let part = take y.count (joined y.more) in
    record {
      done = xs ++ y.done;
      more = y.more;
      parts = ap (λ l. xs ++ l) y.parts ∙ sym (append_assoc xs y.done y.more);
      count = y.count;
      short = y.short;
      written = y.written ∙ ap (λ o. append_known o (joined y.done ++ part)) x.wrote.written ∙ append-append a.written (joined xs) (joined y.done ++ part)
          ∙ ap (append_known a.written) (sym (append_assoc (joined xs) (joined y.done) part) ∙ ap (λ l. l ++ part) (sym (joined-append xs y.done)));
      write_faults = faults_after t.end a.write_faults b.write_faults c.write_faults x.wrote.write_faults y.write_faults;
      replies = omega (arith, x.replies, y.replies, sum_texts-append one_reply xs y.done);
      errors = omega (arith, x.errors, y.errors, sum_texts-append one_error xs y.done);
    }

pub count_within : (e : End) (k : ℕ) (more : List (List ℕ)) → IsShort e k more → k ≤ length (joined more)
count_within Finished k more short = absurd short
count_within Long k more short = absurd short
count_within ReadFault k more short = omega (arith, short)
count_within Memory k more short = omega (arith, short)
count_within WriteFault k [] short = absurd short
count_within WriteFault k (t ∷ ts) short = omega (arith, short, length-append t (joined ts))

short_before : (e : End) (k : ℕ) (more rest : List (List ℕ)) → IsShort e k more → IsShort e k (more ++ rest)
short_before Finished k more rest short = absurd short
short_before Long k more rest short = absurd short
short_before ReadFault k more rest short = short
short_before Memory k more rest short = short
short_before WriteFault k [] rest short = absurd short
short_before WriteFault k (t ∷ ts) rest short = short

-- a session that stopped among texts stopped among these and more
pub stopped_before : (a b : PortState) (xs rest : List (List ℕ)) (r s : SessionReport) → Stopped a b xs r s → Stopped a b (xs ++ rest) r s
stopped_before a b xs rest r s x = record {
  done = x.done;
  more = x.more ++ rest;
  parts = ap (λ l. l ++ rest) x.parts ∙ append_assoc x.done x.more rest;
  count = x.count;
  short = short_before s.end x.count x.more rest x.short;
  written = x.written ∙ ap (λ l. append_known a.written (joined x.done ++ l)) (sym (ap (take x.count) (joined-append x.more rest) ∙ take-append-le x.count (joined x.more) (joined rest) (count_within s.end x.count x.more x.short)));
  write_faults = x.write_faults;
  replies = x.replies;
  errors = x.errors;
}

nothing_taken : (e : End) → IsShort e 0 [] → (xs : List ℕ) (o : Option (List ℕ)) → append_known o xs ≡ append_known o (xs ++ take 0 (joined []))
nothing_taken e short xs o = ap (append_known o) (sym (list_append-nil xs))

-- a session that had written texts stops behind them
pub stopped_behind : (a b c : PortState) (xs : List (List ℕ)) (r s t : SessionReport) → AllWritten a b xs r s → c.written ≡ b.written → WriteFaultsBy t.end b.write_faults c.write_faults
    → IsShort t.end 0 [] → t.replies ≡ s.replies → t.errors ≡ s.errors → Stopped a c xs r t
stopped_behind a b c xs r s t x written faults short replies errors = record {
  done = xs;
  more = [];
  parts = sym (list_append-nil xs);
  count = 0;
  short = short;
  written = written ∙ x.wrote.written ∙ nothing_taken t.end short (joined xs) a.written;
  write_faults = faults_after t.end a.write_faults b.write_faults c.write_faults x.wrote.write_faults faults;
  replies = replies ∙ x.replies;
  errors = errors ∙ x.errors;
}

-- ---- one text

pub one_text : (b c : PortState) (text : List ℕ) (old new : SessionReport) → Answered b c text old new → new.end ≡ Finished → AllWritten b c (text ∷ []) old new
one_text b c text old new answered end =
    let writes : WritesOn b c text = subst (λ e. WritesBy e b c text) end answered.writes in
    let counts : CountsBy Finished text old new = subst (λ e. CountsBy e text old new) end answered.counts in
    record {
      wrote = record { written = writes.written ∙ ap (append_known b.written) (sym (list_append-nil text)); write_faults = writes.write_faults };
      replies = counts.0 ∙ ap (λ n. old.replies + n) (sym (add-zero (one_reply text)));
      errors = counts.1 ∙ ap (λ n. old.errors + n) (sym (add-zero (one_error text)));
    }

part_of_one : (k : ℕ) (text : List ℕ) → k < length text → take k (text ++ []) ≡ take k text
part_of_one k text less = ap (take k) (list_append-nil text)

stop_in : (e : End) (b c : PortState) (text : List ℕ) (old new : SessionReport) → e ≡ new.end → e ≢ Finished → WritesBy e b c text → CountsBy e text old new → Stopped b c (text ∷ []) old new
stop_in Finished b c text old new is not writes counts = absurd (not refl)
stop_in Long b c text old new is not writes counts = absurd writes
stop_in ReadFault b c text old new is not writes counts = absurd writes
stop_in WriteFault b c text old new is not writes counts = record {
  done = [];
  more = text ∷ [];
  parts = refl;
  count = writes.count;
  short = subst (λ e. IsShort e writes.count (text ∷ [])) is writes.less;
  written = writes.written ∙ ap (append_known b.written) (sym (part_of_one writes.count text writes.less));
  write_faults = subst (λ e. WriteFaultsBy e b.write_faults c.write_faults) is writes.write_faults;
  replies = counts.0 ∙ sym (add-zero old.replies);
  errors = counts.1 ∙ sym (add-zero old.errors);
}
stop_in Memory b c text old new is not writes counts = record {
  done = [];
  more = text ∷ [];
  parts = refl;
  count = 0;
  short = subst (λ e. IsShort e 0 (text ∷ [])) is refl;
  written = writes.written ∙ append-nil b.written;
  write_faults = subst (λ e. WriteFaultsBy e b.write_faults c.write_faults) is writes.write_faults;
  replies = counts.0 ∙ sym (add-zero old.replies);
  errors = counts.1 ∙ sym (add-zero old.errors);
}

pub stopped_in_one : (b c : PortState) (text : List ℕ) (old new : SessionReport) → Answered b c text old new → new.end ≢ Finished → Stopped b c (text ∷ []) old new
stopped_in_one b c text old new answered not = stop_in new.end b c text old new refl not answered.writes answered.counts

-- ---- by how a step ended

by_stop : (e : End) (a c : PortState) (xs : List (List ℕ)) (r t : SessionReport) → e ≡ t.end → e ≢ ReadFault → Stopped a c xs r t → AnswersBy e a c xs r t
by_stop Finished a c xs r t is not stop = absurd (subst (λ e. IsShort e stop.count stop.more) (sym is) stop.short)
by_stop Long a c xs r t is not stop = absurd (subst (λ e. IsShort e stop.count stop.more) (sym is) stop.short)
by_stop ReadFault a c xs r t is not stop = absurd (not refl)
by_stop WriteFault a c xs r t is not stop = stop
by_stop Memory a c xs r t is not stop = stop

no_read_fault : (e : End) (b c : PortState) (text : List ℕ) → WritesBy e b c text → e ≢ ReadFault
no_read_fault Finished b c text writes is = cc
no_read_fault Long b c text writes is = absurd writes
no_read_fault ReadFault b c text writes is = absurd writes
no_read_fault WriteFault b c text writes is = cc
no_read_fault Memory b c text writes is = cc

-- a session stops in the text behind those that it had written
pub stops_in_line : (a b c : PortState) (xs rest ys : List (List ℕ)) (text : List ℕ) (r s t : SessionReport) → AllWritten a b xs r s → Answered b c text s t → t.end ≢ Finished
    → ys ≡ xs ++ text ∷ rest → AnswersBy t.end a c ys r t
stops_in_line a b c xs rest ys text r s t before answered not is =
    let stop : Stopped a c (xs ++ text ∷ rest) r t = stopped_after a b c xs (text ∷ rest) r s t before (stopped_before b c (text ∷ []) rest s t (stopped_in_one b c text s t answered not)) in
    subst (λ ts. AnswersBy t.end a c ts r t) (sym is) (by_stop t.end a c (xs ++ text ∷ rest) r t refl (no_read_fault t.end b c text answered.writes) stop)

-- a session that had written texts finds no memory for what is open behind them
pub stops_behind : (a b c : PortState) (xs : List (List ℕ)) (r s : SessionReport) → AllWritten a b xs r s → WritesNothing b c
    → Stopped a c xs r (record { replies = s.replies; errors = s.errors; end = Memory })
stops_behind a b c xs r s before nothing = stopped_behind a b c xs r s _ before nothing.written nothing.write_faults refl refl refl

-- all of one text and no more was to be written
pub answers_one : (e : End) (b c : PortState) (text : List ℕ) (old new : SessionReport) → e ≡ new.end → Answered b c text old new → AnswersBy e b c (text ∷ []) old new
answers_one Finished b c text old new is answered = one_text b c text old new answered (sym is)
answers_one Long b c text old new is answered = by_stop Long b c (text ∷ []) old new is (λ h. cc) (stopped_in_one b c text old new answered (λ h. cc))
answers_one ReadFault b c text old new is answered = absurd (subst (λ e. WritesBy e b c text) (sym is) answered.writes)
answers_one WriteFault b c text old new is answered = stopped_in_one b c text old new answered (λ h. cc)
answers_one Memory b c text old new is answered = stopped_in_one b c text old new answered (λ h. cc)

pub all_by_end : (c d : PortState) (texts : List (List ℕ)) (r q : SessionReport) → q.end ≡ Finished → AnswersBy q.end c d texts r q → AllWritten c d texts r q
all_by_end c d texts r q end answers = subst (λ e. AnswersBy e c d texts r q) end answers
