-- The keys of lines, settled one line after the other.
use Rattle.std.proofs.Common.{◌≡◌, ℕ, ◌+◌, ◌-◌, ◌<◌, ◌≤◌, List, [], ◌∷◌, ◌++◌, length, take, Some, None, IfSome, sym, ◌∙◌, ap, refl, subst, append_assoc, append-nil, arith}
use Rattle.std.proofs.lemmas.List.Elements.{All-nil, All-append}
use Rattle.std.specs.Io.KnownBytes.{prepend_known, IsAtEnd}
use Rattle.oracle_iface.specs.declared.keys.Key.{Key}
use Rattle.oracle_iface.specs.Memos.{Fronts}
use Rattle.port_io.specs.Ports.{PortState}
use Rattle.force_engine.specs.Fronts.{Told, Between}
use Rattle.force_engine.specs.Runs.{Ran}
use Rattle.force_engine.specs.Ways.{IsSettledAt, NeedsSettled, Went}
use Rattle.force_engine.proofs.Fronts.{between_self, between_both}
use Rattle.force_engine.proofs.Ways.{at_left, at_right}
use Rattle.session_core.specs.Answer.{State}
use Rattle.session_core.specs.Lines.{first_state}
use Rattle.kernel_run.specs.Fresh.{state_after, state_from, texts_from, answered_lines}
use Rattle.kernel_run.specs.Pieces.{closed_lines, open_line, last_line, kept, EndsLine, EndsNoLine}
use Rattle.kernel_run.specs.Progress.{AnswersBy}
use Rattle.kernel_run.specs.Session.{ReadsBytes, ReadsEnd, ReadsNothing, WritesNothing}
use Rattle.kernel_run.specs.Settled.{keys_at, keys_from, script_keys, AreSettled, SettlesScript}
use Rattle.kernel_run.specs.declared.report.SessionReport.{SessionReport}
use Rattle.kernel_run.specs.declared.report.End.TheVariants.{Finished}
use Rattle.kernel_run.proofs.Kept.{last-keys}
use Rattle.kernel_run.proofs.Reading.{Course, lines_read, keys_now, course_goes_on}
use Rattle.kernel_run.proofs.Texts.{keys-append, all_by_end}
use Rattle.kernel_run.proofs.Whole.{of_input, at_the_end, lines_end_at}

-- of all these keys the ones before these are settled
pub record KeysSoFar (seat : ℕ) (shard : Key → ℕ) (a b : Fronts) (all left : List Key) : Type 0 where
  pub done : List Key
  pub keys : all ≡ done ++ left
  pub settled : Between (AreSettled seat shard done) a b

pub no_keys : (seat : ℕ) (shard : Key → ℕ) (a : Fronts) → Between (AreSettled seat shard []) a a
no_keys seat shard a = between_self (AreSettled seat shard []) (λ h. All-nil (λ k. IsSettledAt seat shard k h h)) a

pub keys_start : (seat : ℕ) (shard : Key → ℕ) (a : Fronts) (all : List Key) → KeysSoFar seat shard a a all all
keys_start seat shard a all = record { done = []; keys = refl; settled = no_keys seat shard a }

pub keys_end : (seat : ℕ) (shard : Key → ℕ) (a b : Fronts) (all left : List Key) → KeysSoFar seat shard a b all left → left ≡ [] → Between (AreSettled seat shard all) a b
keys_end seat shard a b all left sofar none =
    subst (λ ks. Between (AreSettled seat shard ks) a b) (sym (sofar.keys ∙ ap (λ ks. sofar.done ++ ks) none ∙ append-nil sofar.done)) sofar.settled

between_and : (P Q : Told → Told → Type 0) (a b : Fronts) → Between P a b → Between Q a b → Between (λ h n. P h n × Q h n) a b
between_and P Q (Some h) (Some n) p q = (p, q)
between_and P Q (Some h) None p q = absurd p
between_and P Q None (Some n) p q = absurd p
between_and P Q None None p q = tt

settled_both : (seat : ℕ) (shard : Key → ℕ) (xs ys : List Key) (h m n : Told) → AreSettled seat shard xs h m → Went seat shard h m → AreSettled seat shard ys m n → Went seat shard m n
    → AreSettled seat shard (xs ++ ys) h n
settled_both seat shard xs ys h m n x v y w = All-append (λ k. IsSettledAt seat shard k h n) xs ys
    (λ i d lt. at_right seat shard (λ l. NeedsSettled seat shard l m n) _ h m n (x i d lt) w.extends)
    (λ i d lt. at_left seat shard (λ l. NeedsSettled seat shard l h m) _ h m n v.extends (y i d lt))

module _ {M O : Type 0} (seat : M → ℕ) (shard : Key → ℕ) (fronts : M → Fronts) (origin : M → O) where
  -- keys that were settled, and more that are settled then
  pub settled_more : (a b c : M) (i j k l : ℕ) (xs ys : List Key) → Between (AreSettled (seat a) shard xs) (fronts a) (fronts b) → Ran seat shard fronts origin a b i j
      → Between (AreSettled (seat b) shard ys) (fronts b) (fronts c) → Ran seat shard fronts origin b c k l → Between (AreSettled (seat a) shard (xs ++ ys)) (fronts a) (fronts c)
  settled_more a b c i j k l xs ys x before y now =
      between_both _ _ _ (λ h m n p q. settled_both (seat a) shard xs ys h m n p.0 p.1 q.0 q.1) (fronts a) (fronts b) (fronts c)
      (between_and _ _ (fronts a) (fronts b) x before.went)
      (subst (λ (n : ℕ). Between (λ h k. AreSettled n shard ys h k × Went n shard h k) (fronts b) (fronts c)) before.seats
      (between_and _ _ (fronts b) (fronts c) y now.went))

  pub keys_go_on : (a b c : M) (i j k l : ℕ) (all left now rest : List Key) → KeysSoFar (seat a) shard (fronts a) (fronts b) all left → Ran seat shard fronts origin a b i j → Ran seat shard fronts origin b c k l
      → left ≡ now ++ rest → Between (AreSettled (seat b) shard now) (fronts b) (fronts c) → KeysSoFar (seat a) shard (fronts a) (fronts c) all rest
  keys_go_on a b c i j k l all left now rest sofar before ran is settled = record {
    done = sofar.done ++ now;
    keys = sofar.keys ∙ ap (λ ks. sofar.done ++ ks) is ∙ sym (append_assoc sofar.done now rest);
    settled = settled_more a b c i j k l sofar.done now sofar.settled before settled ran;
  }

-- ---- the lines of a piece

-- the first line of a piece, and those behind it
pub keys_of_line : (s t : State) (now then_now rest front after : List ℕ) → EndsLine rest front after → t ≡ state_after s (now ++ front) → then_now ≡ []
    → keys_from s (closed_lines now rest) ≡ keys_at s (now ++ front) ++ keys_from t (closed_lines then_now after)
keys_of_line s t now then_now rest front after ends next none =
    ap (keys_from s) (ends.closed now) ∙ (λ i. keys_at s (now ++ front) ++ keys_from (sym next i) (closed_lines (sym none i) after))

pub keys_of_none : (s : State) (now rest : List ℕ) → EndsNoLine rest → keys_from s (closed_lines now rest) ≡ []
keys_of_none s now rest ends = ap (keys_from s) (ends.closed now)

pub keys_of_last : (s : State) (line last : List ℕ) → 0 < length line → last ≡ [] → keys_from s (last_line line) ≡ keys_at s (line ++ last)
keys_of_last s [] last some none = absurd (omega arith)
keys_of_last s (b ∷ line) last some none = append-nil (keys_at s (b ∷ line)) ∙ ap (keys_at s) (sym (append-nil (b ∷ line)) ∙ ap (λ l. (b ∷ line) ++ l) (sym none))

pub keys_of_no_last : (s : State) (line : List ℕ) → length line ≡ 0 → keys_from s (last_line line) ≡ []
keys_of_no_last s [] none = refl
keys_of_no_last s (b ∷ line) none = absurd (omega (arith, none))

-- ---- the lines of the input

-- the keys of the lines that were read are settled
pub record CourseSettled (a b : PortState) (s : State) (line : List ℕ) (r : SessionReport) (read : ℕ) (seat : ℕ) (shard : Key → ℕ) (old new : Fronts) : Type 0 where
  pub got : List ℕ
  pub course : Course a b s line r read got
  pub settled : Between (AreSettled seat shard (keys_from first_state (lines_read got))) old new

-- at the end of the input its last line is what is open
pub script_settled : (a b c d : PortState) (s : State) (line : List ℕ) (r : SessionReport) (read : ℕ) (seat : ℕ) (shard : Key → ℕ) (old new : Fronts) (got : List ℕ) (course : Course a b s line r read got) → read ≤ 16777216
    → ReadsEnd b c → ReadsNothing c d → Between (AreSettled seat shard (keys_from first_state (lines_read got) ++ keys_from s (last_line line))) old new
    → IfSome a.left (SettlesScript seat shard old new)
script_settled a b c d s line r read seat shard old new got course less ends reads settled =
    of_input (SettlesScript seat shard old new) a.left d.left got (course.reads.left ∙ ap (prepend_known got) (sym (reads.left ∙ ends.left))) each
  where
    lines : answered_lines got ≡ lines_read got ++ last_line (open_line [] (take 16777216 got))
    lines = lines_end_at got (omega (arith, less, course.size))

    keys : script_keys got ≡ keys_from first_state (lines_read got) ++ keys_from s (last_line line)
    keys = ap (keys_from first_state) lines ∙ keys-append first_state (lines_read got) (last_line (open_line [] (take 16777216 got)))
        ∙ ap (λ z. keys_from first_state (lines_read got) ++ keys_from z (last_line (open_line [] (take 16777216 got)))) (sym course.state)
        ∙ ap (λ ks. keys_from first_state (lines_read got) ++ ks) (sym (last-keys s (open_line [] (take 16777216 got))) ∙ ap (λ l. keys_from s (last_line l)) (sym course.open_now))

    here : SettlesScript seat shard old new got
    here = subst (λ ks. Between (AreSettled seat shard ks) old new) (sym keys) settled

    each : (rest : List ℕ) → d.left ≡ Some rest → SettlesScript seat shard old new (got ++ rest)
    each rest is = subst (SettlesScript seat shard old new) (sym (ap (λ l. got ++ l) (at_the_end d.left rest (subst IsAtEnd (sym reads.left) ends.at_end) is) ∙ append-nil got)) here

module _ {M O : Type 0} (seat : M → ℕ) (shard : Key → ℕ) (fronts : M → Fronts) (origin : M → O) where
  -- one more read, and the lines that it closed
  pub course_settled : (a b c d : PortState) (s t : State) (line line' : List ℕ) (r q : SessionReport) (read read' : ℕ) (x y z : M) (i j k l : ℕ) (piece part : List ℕ)
      → CourseSettled a b s line r read (seat x) shard (fronts x) (fronts y) → read ≤ 16777216 → ReadsBytes b c piece → c.read_faults ≡ b.read_faults → WritesNothing b c
      → part ≡ take (16777216 - read) piece → ReadsNothing c d → AnswersBy q.end c d (texts_from s (closed_lines line part)) r q → q.end ≡ Finished
      → t ≡ state_from s (closed_lines line part) → line' ≡ kept (open_line line part) → read' ≡ read + length piece → read' ≤ 16777217
      → q.replies ≤ r.replies + length part → q.errors ≤ r.errors + length part
      → Ran seat shard fronts origin x y i j → Between (AreSettled (seat y) shard (keys_from s (closed_lines line part))) (fronts y) (fronts z)
      → Ran seat shard fronts origin y z k l → CourseSettled a d t line' q read' (seat x) shard (fronts x) (fronts z)
  course_settled a b c d s t line line' r q read read' x y z i j k l piece part before less given faults writes is reads answers end next open_next sum most replies errors ran settled now = record {
    got = before.got ++ piece;
    course = course_goes_on a b c d s line r q read before.got before.course less piece part given faults writes is reads
        (all_by_end c d (texts_from s (closed_lines line part)) r q end answers) t next line' open_next read' sum most replies errors end;
    settled = subst (λ ks. Between (AreSettled (seat x) shard ks) (fronts x) (fronts z))
        (sym (keys_now a b c d s line r q read before.got before.course less piece part given faults writes is reads))
        (settled_more seat shard fronts origin x y z i j k l (keys_from first_state (lines_read before.got)) (keys_from s (closed_lines line part)) before.settled ran settled now);
  }

pub settled_starts : (a : PortState) (s : State) (line : List ℕ) (r : SessionReport) (read : ℕ) (seat : ℕ) (shard : Key → ℕ) (old : Fronts) → Course a a s line r read [] → CourseSettled a a s line r read seat shard old old
settled_starts a s line r read seat shard old course = record { got = []; course = course; settled = no_keys seat shard old }
