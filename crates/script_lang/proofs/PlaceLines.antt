-- Where a line goes wrong is the first place from which no line goes on.
use Rattle.std.proofs.Common.{◌≡◌, ℕ, suc, zero, ◌+◌, ◌-◌, ◌<◌, ◌≤◌, true, false, List, [], ◌∷◌, ◌++◌, length, take, drop, Ok, Err, Option, Some, None, refl, sym, ap, subst, ◌∙◌, arith, append_assoc, inl, inr, cond, eqb}
use Rattle.std.proofs.Math.Dec.{eqb-suc-zero}
use Rattle.std.proofs.lemmas.List.{append-nil, length-append, take-append-drop, take_at, take-append-le}
use Rattle.script_lang.specs.declared.commands.Command.{Command}
use Rattle.script_lang.specs.Bytes.{is_blank}
use Rattle.script_lang.specs.Grammar.{Run, runs, runs_behind, IsCommand, IsAsked}
use Rattle.script_lang.specs.Readings.{◌>>=◌}
use Rattle.script_lang.specs.Scans.{after_blanks}
use Rattle.script_lang.specs.Lines.{command_at, is_done, end_at, line_at}
use Rattle.script_lang.specs.Places.{Begins, IsUnexpected, IsUnfinished, IsKind, IsPlace}
use Rattle.script_lang.specs.declared.faults.SyntaxFault.{SyntaxFault}
use Rattle.script_lang.specs.declared.faults.SyntaxKind.{SyntaxKind}
use Rattle.script_lang.specs.declared.faults.SyntaxKind.TheVariants as kinds
use Rattle.script_lang.proofs.Values.{both_true}
use Rattle.script_lang.proofs.Combine.{which, ok_parts, bind_err}
use Rattle.script_lang.proofs.Runs.{begins_blank, after_blanks-begins}
use Rattle.script_lang.proofs.Nested.{is_done_again, reads_command, line_again}
use Rattle.script_lang.proofs.PlaceRules.{next, Stuck, next_append}
use Rattle.script_lang.proofs.PlaceRuns.{are_blanks}
use Rattle.script_lang.proofs.PlaceNextRun.{split}
use Rattle.script_lang.proofs.PlaceWords.{any_byte}
use Rattle.script_lang.proofs.PlaceSpaces.{steady_command}
use Rattle.script_lang.proofs.PlaceBlanks.{blank_front, runs_blanks, soft_blanks}

-- ---- a line that goes wrong

pub record LineStuck (bytes : List ℕ) (left : ℕ) : Type 0 where
  pub front : List ℕ
  pub rest : List ℕ
  pub whole : bytes ≡ front ++ rest
  pub left_is : length rest ≡ left
  pub hope : Begins front
  pub dead : (b : ℕ) (more other : List ℕ) (asked : Option Command) → rest ≡ b ∷ more → IsAsked (runs (front ++ b ∷ other)) asked → ⊥

is_command : (bytes : List ℕ) (c : Command) (rest : List ℕ) → command_at bytes ≡ Ok (c, rest) → runs rest ≡ [] → IsCommand (runs bytes) c
is_command bytes c rest e none =
    let t = reads_command.takes bytes c rest e in
    let same : runs bytes ≡ t.front = t.units_are ∙ ap (λ (x : List Run). t.front ++ x) none ∙ append-nil t.front in
    subst (λ (x : List Run). IsCommand x c) (sym same) t.is

command_again : (bytes : List ℕ) (c : Command) → IsCommand (runs bytes) c → (rest : List ℕ) × (command_at bytes ≡ Ok (c, rest)) × (runs rest ≡ [])
command_again bytes c is = let a = reads_command.again bytes (runs bytes) c [] is (sym (append-nil (runs bytes))) refl in (a.rest, a.gives, a.units_are)

nothing : runs [] ≡ []
unfolding runs_behind
nothing = refl

command_dead : (bytes : List ℕ) (left : ℕ) → (runs bytes ≡ [] → ⊥) → (s : Stuck any_byte (40 ∷ []) command_at bytes left) → (b : ℕ) (more other : List ℕ) (asked : Option Command) → s.rest ≡ b ∷ more → IsAsked (runs (s.front ++ b ∷ other)) asked → ⊥
command_dead bytes left some s b more other (Some c) is a =
    let r = command_again (s.front ++ b ∷ other) c a in
    s.dead b more other c r.0 is r.1
command_dead bytes left some s b more other None is a =
    let whole : bytes ≡ s.front ++ b ∷ more = s.whole ∙ ap (λ (t : List ℕ). s.front ++ t) is in
    let blank = blank_front s.front b more other (λ z. some (ap runs whole ∙ z)) a in
    let e = steady_command.placed.some in
    let same : runs ((s.front ++ b ∷ []) ++ e.bytes) ≡ runs e.bytes = runs_blanks (s.front ++ b ∷ []) e.bytes blank in
    let shape : (s.front ++ b ∷ []) ++ e.bytes ≡ s.front ++ b ∷ e.bytes = append_assoc s.front (b ∷ []) e.bytes in
    let is_one = is_command e.bytes e.value [] e.gives nothing in
    let r = command_again (s.front ++ b ∷ e.bytes) e.value (subst (λ (t : List Run). IsCommand t e.value) (sym same ∙ ap runs shape) is_one) in
    s.dead b more e.bytes e.value r.0 is r.1

command_stuck : (bytes : List ℕ) (left : ℕ) → (runs bytes ≡ [] → ⊥) → command_at bytes ≡ Err left → LineStuck bytes left
command_stuck bytes left some e =
    let s = steady_command.placed.err bytes left e in
    record {
      front = s.front;
      rest = s.rest;
      whole = s.whole;
      left_is = s.left_is;
      hope = record { more = s.more; asked = Some s.value; is = is_command (s.front ++ s.more) s.value [] s.gives nothing };
      dead = λ b more other asked is a. command_dead bytes left some s b more other asked is a;
    }

second_none : (a b : List Run) → a ++ b ≡ [] → b ≡ []
second_none [] b e = e
second_none (r ∷ a) b e = absurd cc

nothing_left : (bytes : List ℕ) (c : Command) (rest : List ℕ) (asked : Option Command) → command_at bytes ≡ Ok (c, rest) → IsAsked (runs bytes) asked → runs rest ≡ []
nothing_left bytes c rest None e is = let t = reads_command.takes bytes c rest e in second_none t.front (runs rest) (sym t.units_are ∙ is)
nothing_left bytes c rest (Some d) e is =
    let r = command_again bytes d is in
    let p = ok_parts c d rest r.0 (sym e ∙ r.1) in
    ap runs p.1 ∙ r.2

blank_last : (blanks : List ℕ) (b : ℕ) → are_blanks (blanks ++ b ∷ []) ≡ true → is_blank b ≡ true
blank_last [] b e = (both_true (is_blank b) true e).0
blank_last (c ∷ blanks) b e = blank_last blanks b (both_true (is_blank c) (are_blanks (blanks ++ b ∷ [])) e).1

not_blank : (t : List ℕ) (b : ℕ) (more : List ℕ) → begins_blank t ≡ false → t ≡ b ∷ more → is_blank b ≡ false
unfolding begins_blank
not_blank t b more n e = subst (λ (u : List ℕ). begins_blank u ≡ false) e n

end_left : (bytes : List ℕ) (left : ℕ) → end_at bytes ≡ Err left → (is_done bytes ≡ false) × (length (after_blanks bytes) ≡ left)
unfolding end_at
end_left bytes left e = elim (which (is_done bytes)) [
  | inl done ↦ absurd (let f = rw done at e in cc)
  | inr more ↦ (more, let f = rw more at e in cc)
]

end_stuck : (bytes : List ℕ) (left : ℕ) (c : Command) (rest : List ℕ) → command_at bytes ≡ Ok (c, rest) → end_at rest ≡ Err left → LineStuck bytes left
end_stuck bytes left c rest e d =
    let f = steady_command.placed.ok bytes c rest e in
    let s = split rest in
    let g = end_left rest left d in
    let some : runs rest ≡ [] → ⊥ = λ z. let h = sym (is_done_again rest z) ∙ g.0 in absurd cc in
    let near : command_at (f.front ++ s.blanks) ≡ Ok (c, s.blanks) = f.free s.blanks (soft_blanks s.blanks s.are) in
    let none : runs s.blanks ≡ [] = ap runs (sym (append-nil s.blanks)) ∙ runs_blanks s.blanks [] s.are ∙ nothing in
    record {
      front = f.front ++ s.blanks;
      rest = after_blanks rest;
      whole = f.whole ∙ ap (λ (t : List ℕ). f.front ++ t) s.whole ∙ sym (append_assoc f.front s.blanks (after_blanks rest));
      left_is = g.1;
      hope = record { more = []; asked = Some c; is = subst (λ (t : List ℕ). IsCommand (runs t) c) (sym (append-nil (f.front ++ s.blanks))) (is_command (f.front ++ s.blanks) c s.blanks near none) };
      dead = λ b more other asked is a.
          let u = s.blanks ++ b ∷ other in
          let same : rest ≡ s.blanks ++ b ∷ more = s.whole ∙ ap (λ (t : List ℕ). s.blanks ++ t) is in
          let far : command_at (f.front ++ u) ≡ Ok (c, u) = f.same u (next_append s.blanks (b ∷ other) (b ∷ more) refl ∙ ap next (sym same)) in
          let b' : IsAsked (runs (f.front ++ u)) asked = subst (λ (t : List ℕ). IsAsked (runs t) asked) (append_assoc f.front s.blanks (b ∷ other)) a in
          let over = nothing_left (f.front ++ u) c u asked far b' in
          let blank = blank_last s.blanks b (blank_front s.blanks b more other (λ z. some (ap runs same ∙ z)) over) in
          let bad = sym blank ∙ not_blank (after_blanks rest) b more (after_blanks-begins rest) is in cc;
    }

end_first : (rest : List ℕ) (c : Command) (left : ℕ) → (end_at rest >>= λ end. Ok (Some c, end.1)) ≡ Err left → end_at rest ≡ Err left
end_first rest c left e = elim (bind_err (end_at rest) (λ end. Ok (Some c, end.1)) left e) [
  | inl g ↦ g
  | inr x ↦ absurd (let d = x.2 in cc)
]

line_stuck : (bytes : List ℕ) (left : ℕ) → line_at bytes ≡ Err left → LineStuck bytes left
unfolding line_at
line_stuck bytes left e = elim (which (is_done bytes)) [
  | inl done ↦ absurd (let f = rw done at e in cc)
  | inr more ↦
      let f = rw more at e in
      let some : runs bytes ≡ [] → ⊥ = λ z. let h = sym (is_done_again bytes z) ∙ more in absurd cc in
      elim (bind_err (command_at bytes) (λ c. end_at c.1 >>= λ end. Ok (Some c.0, end.1)) left f) [
        | inl g ↦ command_stuck bytes left some g
        | inr x ↦ end_stuck bytes left x.0.0 x.0.1 x.1 (end_first x.0.1 x.0.0 left x.2)
      ]
]

-- ---- the place of a fault

begins_shorter : (front : List ℕ) (k : ℕ) → Begins front → Begins (take k front)
begins_shorter front k b = record {
  more = drop k front ++ b.more;
  asked = b.asked;
  is = subst (λ (t : List ℕ). IsAsked (runs t) b.asked) (sym (sym (append_assoc (take k front) (drop k front) b.more) ∙ ap (λ (t : List ℕ). t ++ b.more) (take-append-drop k front))) b.is;
}

alive : (bytes : List ℕ) (left : ℕ) (s : LineStuck bytes left) (k : ℕ) → k ≤ length s.front → Begins (take k bytes)
alive bytes left s k le =
    let same : take k bytes ≡ take k s.front = ap (take k) s.whole ∙ take-append-le k s.front s.rest le in
    subst Begins (sym same) (begins_shorter s.front k s.hope)

lengths : (bytes : List ℕ) (left : ℕ) (s : LineStuck bytes left) → length bytes ≡ length s.front + left
lengths bytes left s = ap length s.whole ∙ length-append s.front s.rest ∙ ap (λ (n : ℕ). length s.front + n) s.left_is

-- no more bytes are left than the line has
pub left_fits : (bytes : List ℕ) (left : ℕ) → line_at bytes ≡ Err left → left ≤ length bytes
left_fits bytes left e = omega (arith, lengths bytes left (line_stuck bytes left e))

head_of : (rest : List ℕ) → 0 < length rest → (b : ℕ) × (more : List ℕ) × (rest ≡ b ∷ more)
head_of [] lt = absurd (omega arith)
head_of (b ∷ more) lt = (b, more, refl)

unexpected : (bytes : List ℕ) (left column : ℕ) → line_at bytes ≡ Err left → 0 < left → column ≡ length bytes - left + 1 → IsUnexpected bytes column
unexpected bytes left column e lt is =
    let s = line_stuck bytes left e in
    let l = lengths bytes left s in
    let h = head_of s.rest (omega (arith, s.left_is)) in
    let front_is : column ≡ length (s.front ++ h.0 ∷ []) = omega (arith, length-append s.front (h.0 ∷ [])) in
    let whole : bytes ≡ (s.front ++ h.0 ∷ []) ++ h.1 = s.whole ∙ ap (λ (t : List ℕ). s.front ++ t) h.2 ∙ sym (append_assoc s.front (h.0 ∷ []) h.1) in
    let taken : take column bytes ≡ s.front ++ h.0 ∷ [] = ap (take column) whole ∙ take_at (s.front ++ h.0 ∷ []) h.1 column (sym front_is) in
    record {
      within = omega arith;
      dead = λ b.
          let c = subst Begins taken b in
          s.dead h.0 h.1 c.more c.asked h.2 (subst (λ (t : List ℕ). IsAsked (runs t) c.asked) (append_assoc s.front (h.0 ∷ []) c.more) c.is);
      alive = λ k below. alive bytes left s k (omega arith);
    }

unfinished : (bytes : List ℕ) (column : ℕ) → line_at bytes ≡ Err 0 → column ≡ length bytes + 1 → IsUnfinished bytes column
unfinished bytes column e is =
    let s = line_stuck bytes 0 e in
    let l = lengths bytes 0 s in
    record {
      behind = is;
      alive = λ k below. alive bytes 0 s k (omega arith);
      none = λ asked a. let r = line_again bytes asked a in let bad = sym e ∙ r.1 in cc;
    }

place_of : (bytes : List ℕ) (left column : ℕ) (kind : SyntaxKind) → line_at bytes ≡ Err left → length bytes ≤ 65536 → column ≡ length bytes - left + 1 → kind ≡ cond (eqb left 0) kinds.Unfinished kinds.Unexpected → IsKind kind bytes column
place_of bytes zero column kind e short is k = subst (λ (x : SyntaxKind). IsKind x bytes column) (sym k) (short, unfinished bytes column e (omega (arith, is)))
place_of bytes (suc left) column kind e short is k =
    let seen : kind ≡ kinds.Unexpected = k ∙ (rw (eqb-suc-zero left) refl) in
    subst (λ (x : SyntaxKind). IsKind x bytes column) (sym seen) (short, unexpected bytes (suc left) column e (omega arith) is)

-- A line goes wrong where reading it stops.
pub place : (bytes : List ℕ) (left : ℕ) (fault : SyntaxFault) → line_at bytes ≡ Err left → length bytes ≤ 65536 → fault.column ≡ length bytes - left + 1 → fault.kind ≡ cond (eqb left 0) kinds.Unfinished kinds.Unexpected → IsPlace bytes fault
place bytes left fault e short is k = place_of bytes left fault.column fault.kind e short is k
