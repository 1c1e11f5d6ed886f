-- Where a word goes wrong.
use Rattle.std.proofs.Common.{◌≡◌, ℕ, ◌+◌, Bool, true, ◌||◌, List, [], ◌∷◌, ◌++◌, length, Ok, Err, refl, sym, ap, subst, ◌∙◌, append_assoc, arith, inl, inr}
use Rattle.std.proofs.lemmas.List.{append-nil, length-append}
use Rattle.std.specs.List.{list_all}
use Rattle.script_lang.specs.Bytes.{is_blank, is_parenthesis, is_semicolon}
use Rattle.script_lang.specs.Grammar.{Run}
use Rattle.script_lang.specs.Readings.{Judged, taken}
use Rattle.script_lang.specs.Scans.{begins}
use Rattle.script_lang.specs.Lines.{next_at, word_at}
use Rattle.script_lang.proofs.Combine.{ok_parts, bind_ok, bind_err}
use Rattle.script_lang.proofs.PlaceRules.{next, is_in, may_begin, Front, Stuck, Placed, all_append, none_of}
use Rattle.script_lang.proofs.PlaceRuns.{ends, is_inside, depth, are_blanks, IsRun, parenthesis, word, Stops, behind_parenthesis, behind_word, inside_front}
use Rattle.script_lang.proofs.PlaceNextRun.{next_ok, next_err, next_run, next_parenthesis, next_none, grown}

abbrev pub any_byte : ℕ → Bool
any_byte b = true

pub all_any : (xs : List ℕ) → list_all any_byte xs ≡ true
all_any [] = refl
all_any (x ∷ xs) = all_any xs

-- what ends a word outside of brackets, and what ends it anywhere
abbrev pub soft : {A : Type 0} → A → List ℕ → Bool
soft v o = ends 0 (next o)

abbrev pub hard_end : List ℕ → Bool
hard_end [] = true
hard_end (b ∷ o) = is_parenthesis b || is_semicolon b

abbrev pub hard : {A : Type 0} → A → List ℕ → Bool
hard v o = hard_end o

pub hard_ends : (d : ℕ) (o : List ℕ) → hard_end o ≡ true → ends d (next o) ≡ true
hard_ends d [] e = refl
hard_ends d (b ∷ o) e = rw e refl

-- how a run that begins so goes on
pub record Hope {A : Type 0} (judge : Run → Judged A) (front : Run) : Type 0 where
  pub more : List ℕ
  pub value : A
  pub gives : judge (front ++ more) ≡ Ok value
  pub is_run : IsRun (front ++ more)

-- The good bytes of a run begin another that is taken for something, and with the byte behind them begin none.
pub record Begun {A : Type 0} (judge : Run → Judged A) (run : Run) (left : ℕ) : Type 0 where
  pub front : List ℕ
  pub rest : List ℕ
  pub whole : run ≡ front ++ rest
  pub left_is : length rest ≡ left
  pub hope : (c : ℕ) (tail : List ℕ) → front ≡ c ∷ tail → Hope judge front
  pub dead : (b : ℕ) (after other : List ℕ) (v : A) → rest ≡ b ∷ after → judge (front ++ b ∷ other) ≡ Ok v → ⊥

-- A judge with a text that it takes behind any blanks.
pub record Gradual {A : Type 0} (cs : List ℕ) (may : A → List ℕ → Bool) (judge : Run → Judged A) : Type 0 where
  pub lead : List ℕ
  pub value : A
  pub leads : (blanks : List ℕ) → are_blanks blanks ≡ true → word_at judge (blanks ++ lead) ≡ Ok (value, [])
  pub starts : begins (is_in cs) lead ≡ true
  pub behind : (run : Run) (v : A) (o : List ℕ) → judge run ≡ Ok v → may v o ≡ true → ends (depth 0 run) (next o) ≡ true
  pub err : (run : Run) (left : ℕ) → IsRun run → judge run ≡ Err left → Begun judge run left

-- ---- one run

taken_ok : {A : Type 0} (rest : List ℕ) (judged : Judged A) (v : A) (after : List ℕ) → taken rest judged ≡ Ok (v, after) → (judged ≡ Ok v) × (rest ≡ after)
taken_ok rest (Ok x) v after e = let p = ok_parts x v rest after e in (ap Ok p.0, p.1)
taken_ok rest (Err left) v after e = absurd cc

taken_err : {A : Type 0} (rest : List ℕ) (judged : Judged A) (left : ℕ) → taken rest judged ≡ Err left → (own : ℕ) × (judged ≡ Err own) × (own + length rest ≡ left)
taken_err rest (Ok x) left e = absurd cc
taken_err rest (Err own) left e = (own, refl, cc)

stops_run : (run : Run) (rest : List ℕ) → Stops run rest → IsRun run
stops_run run rest (behind_parenthesis b p e) = parenthesis b p e
stops_run run rest (behind_word b w e i s) = word b w e i

restop : (run : Run) (rest other : List ℕ) → Stops run rest → next other ≡ next rest → Stops run other
restop run rest other (behind_parenthesis b p e) h = behind_parenthesis b p e
restop run rest other (behind_word b w e i s) h = behind_word b w e i (ap (ends (depth 0 run)) h ∙ s)

pub run_stops : (run : Run) (rest : List ℕ) → IsRun run → ends (depth 0 run) (next rest) ≡ true → Stops run rest
run_stops run rest (parenthesis b p e) n = behind_parenthesis b p e
run_stops run rest (word b w e i) n = behind_word b w e i n

word_of : {A : Type 0} (judge : Run → Judged A) (bytes : List ℕ) (run : Run) (rest : List ℕ) (j : Judged A) → next_at bytes ≡ Ok (run, rest) → judge run ≡ j → word_at judge bytes ≡ taken rest j
unfolding word_at
word_of judge bytes run rest j e d = rw (e, d) refl

judged_ok : {A : Type 0} (judge : Run → Judged A) (bytes : List ℕ) (run : Run) (rest : List ℕ) (v : A) (z : List ℕ) → next_at bytes ≡ Ok (run, rest) → word_at judge bytes ≡ Ok (v, z) → judge run ≡ Ok v
judged_ok judge bytes run rest v z n q = (taken_ok rest (judge run) v z (sym (word_of judge bytes run rest (judge run) n refl) ∙ q)).0

no_word : {A : Type 0} (judge : Run → Judged A) (blanks other : List ℕ) (v : A) (z : List ℕ) → are_blanks blanks ≡ true → word_at judge (blanks ++ (59 ∷ other)) ≡ Ok (v, z) → ⊥
unfolding word_at
no_word judge blanks other v z are q =
    let b = bind_ok (next_at (blanks ++ (59 ∷ other))) (λ x. taken x.1 (judge x.0)) (v, z) q in
    next_none blanks other b.0 are b.1

not_both : {A : Type 0} (judge : Run → Judged A) (run : Run) (left : ℕ) (v : A) → judge run ≡ Err left → judge run ≡ Ok v → ⊥
not_both judge run left v e d = let f = sym e ∙ d in cc

-- a run behind blanks
pub word_gives : {A : Type 0} (judge : Run → Judged A) (blanks : List ℕ) (run : Run) (v : A) → are_blanks blanks ≡ true → IsRun run → judge run ≡ Ok v → word_at judge (blanks ++ run) ≡ Ok (v, [])
word_gives judge blanks run v are is d =
    let near = word_of judge (blanks ++ (run ++ [])) run [] (Ok v) (next_run blanks run [] are (run_stops run [] is refl)) d in
    subst (λ (t : List ℕ). word_at judge (blanks ++ t) ≡ Ok (v, [])) (append-nil run) near

pub spaced_gives : {A : Type 0} (judge : Run → Judged A) (run : Run) (v : A) → IsRun run → judge run ≡ Ok v → (blanks : List ℕ) → are_blanks blanks ≡ true → word_at judge (blanks ++ (32 ∷ run)) ≡ Ok (v, [])
spaced_gives judge run v is d blanks are =
    let near = word_gives judge (blanks ++ 32 ∷ []) run v (all_append is_blank blanks (32 ∷ []) are refl) is d in
    subst (λ (t : List ℕ). word_at judge t ≡ Ok (v, [])) (append_assoc blanks (32 ∷ []) run) near

module _ {A : Type 0} (cs : List ℕ) (may : A → List ℕ → Bool) (judge : Run → Judged A) (gradual : Gradual cs may judge) where
  word_ok : (bytes : List ℕ) (v : A) (rest : List ℕ) → word_at judge bytes ≡ Ok (v, rest) → Front may (word_at judge) bytes v rest
  unfolding word_at
  word_ok bytes v rest e =
      let b = bind_ok (next_at bytes) (λ x. taken x.1 (judge x.0)) (v, rest) e in
      let run = b.0.0 in
      let j = taken_ok b.0.1 (judge run) v rest b.2 in
      let n = next_ok bytes run b.0.1 b.1 in
      record {
        front = n.blanks ++ run;
        whole = n.whole ∙ sym (append_assoc n.blanks run b.0.1) ∙ ap (λ (t : List ℕ). (n.blanks ++ run) ++ t) j.1;
        same = λ other h. read_again n.blanks run other v n.are (restop run b.0.1 other n.stops (h ∙ ap next (sym j.1))) j.0;
        free = λ other m. read_again n.blanks run other v n.are (run_stops run other (stops_run run b.0.1 n.stops) (gradual.behind run v other j.0 m)) j.0;
      }
    where
      read_again : (blanks : List ℕ) (run : Run) (other : List ℕ) (v : A) → are_blanks blanks ≡ true → Stops run other → judge run ≡ Ok v → word_at judge ((blanks ++ run) ++ other) ≡ Ok (v, other)
      read_again blanks run other v are stops d =
          let near = word_of judge (blanks ++ (run ++ other)) run other (Ok v) (next_run blanks run other are stops) d in
          subst (λ (t : List ℕ). word_at judge t ≡ Ok (v, other)) (sym (append_assoc blanks run other)) near

  word_none : (bytes : List ℕ) (left : ℕ) → next_at bytes ≡ Err left → Stuck any_byte cs (word_at judge) bytes left
  word_none bytes left e =
      let n = next_err bytes left e in
      record {
        front = n.blanks;
        rest = n.rest;
        whole = n.whole;
        left_is = n.left_is;
        more = gradual.lead;
        value = gradual.value;
        gives = gradual.leads n.blanks n.are;
        starts = λ m. gradual.starts;
        good = all_any gradual.lead;
        dead = λ b after other v z is q. no_word judge n.blanks other v z n.are (subst (λ (c : ℕ). word_at judge (n.blanks ++ (c ∷ other)) ≡ Ok (v, z)) (n.only b after is) q);
      }

  -- what the bytes of a run that went wrong go on to
  record Ahead (blanks front : List ℕ) : Type 0 where
    pub more : List ℕ
    pub value : A
    pub gives : word_at judge ((blanks ++ front) ++ more) ≡ Ok (value, [])
    pub starts : blanks ++ front ≡ [] → begins (is_in cs) more ≡ true

  ahead : (blanks : List ℕ) (run : Run) (left : ℕ) → are_blanks blanks ≡ true → (g : Begun judge run left) → (gf : List ℕ) → g.front ≡ gf → Ahead blanks g.front
  ahead blanks run left are g [] e =
      let near = subst (λ (t : List ℕ). word_at judge (t ++ gradual.lead) ≡ Ok (gradual.value, [])) (sym (append-nil blanks)) (gradual.leads blanks are) in
      subst (Ahead blanks) (sym e) (record { more = gradual.lead; value = gradual.value; gives = near; starts = λ m. gradual.starts })
  ahead blanks run left are g (c ∷ gf) e =
      let h = g.hope c gf e in
      let near = word_gives judge blanks (g.front ++ h.more) h.value are h.is_run h.gives in
      record {
        more = h.more;
        value = h.value;
        gives = subst (λ (t : List ℕ). word_at judge t ≡ Ok (h.value, [])) (sym (append_assoc blanks g.front h.more)) near;
        starts = λ m. absurd (let bad : c ∷ gf ≡ [] = sym e ∙ (none_of blanks g.front m).1 in cc);
      }

  -- one byte more, within the run
  inside_dead : (blanks : List ℕ) (run : Run) (left : ℕ) → are_blanks blanks ≡ true → (is : IsRun run) → judge run ≡ Err left → (g : Begun judge run left) → (b : ℕ) (after other : List ℕ) (v : A) (z : List ℕ) → g.rest ≡ b ∷ after → word_at judge (blanks ++ (g.front ++ b ∷ other)) ≡ Ok (v, z) → ⊥
  inside_dead blanks run left are (parenthesis p par e) bad g b after other v z is q = alone g.front g.whole q
    where
      alone : (front : List ℕ) → run ≡ front ++ g.rest → word_at judge (blanks ++ (front ++ b ∷ other)) ≡ Ok (v, z) → ⊥
      alone [] w q =
          let h : p ∷ [] ≡ b ∷ after = sym e ∙ w ∙ is in
          let same : p ≡ b = cc in
          let n = next_parenthesis blanks b other are (subst (λ (c : ℕ). is_parenthesis c ≡ true) same par) in
          let y = judged_ok judge (blanks ++ (b ∷ other)) (b ∷ []) other v z n q in
          let run_is : run ≡ b ∷ [] = e ∙ ap (λ (c : ℕ). c ∷ []) same in
          not_both judge run left v bad (subst (λ (r : Run). judge r ≡ Ok v) (sym run_is) y)
      alone (c ∷ front) w q =
          let l = ap length (sym e ∙ w ∙ ap (λ (t : List ℕ). (c ∷ front) ++ t) is) in
          let m = length-append front (b ∷ after) in
          omega (arith, l, m)
  inside_dead blanks run left are (word c w e i) bad g b after other v z is q =
      let shape : run ≡ (g.front ++ b ∷ []) ++ after = g.whole ∙ ap (λ (t : List ℕ). g.front ++ t) is ∙ sym (append_assoc g.front (b ∷ []) after) in
      let inside = inside_front 0 (g.front ++ b ∷ []) after (subst (λ (t : List ℕ). is_inside 0 t ≡ true) shape i) in
      let n = grown blanks g.front b other are inside in
      g.dead b after n.0 v is (judged_ok judge (blanks ++ (g.front ++ b ∷ other)) (g.front ++ b ∷ n.0) n.1 v z n.2 q)

  bad_dead : (blanks : List ℕ) (run : Run) (rest : List ℕ) (left : ℕ) → are_blanks blanks ≡ true → Stops run rest → judge run ≡ Err left → (g : Begun judge run left) → (gr : List ℕ) → g.rest ≡ gr → (b : ℕ) (after other : List ℕ) (v : A) (z : List ℕ) → gr ++ rest ≡ b ∷ after → word_at judge (blanks ++ (g.front ++ b ∷ other)) ≡ Ok (v, z) → ⊥
  bad_dead blanks run rest left are stops bad g [] e b after other v z is q =
      let all : g.front ≡ run = sym (g.whole ∙ ap (λ (t : List ℕ). g.front ++ t) e ∙ append-nil g.front) in
      let p = subst (λ (t : List ℕ). word_at judge (blanks ++ (t ++ b ∷ other)) ≡ Ok (v, z)) all q in
      let n = next_run blanks run (b ∷ other) are (restop run rest (b ∷ other) stops (ap next (sym is))) in
      not_both judge run left v bad (judged_ok judge (blanks ++ (run ++ b ∷ other)) run (b ∷ other) v z n p)
  bad_dead blanks run rest left are stops bad g (c ∷ gr) e b after other v z is q =
      let same : c ≡ b = cc in
      inside_dead blanks run left are (stops_run run rest stops) bad g b gr other v z (e ∙ ap (λ (x : ℕ). x ∷ gr) same) q

  word_bad : (bytes : List ℕ) (left : ℕ) (x : Run × List ℕ) → next_at bytes ≡ Ok x → taken x.1 (judge x.0) ≡ Err left → Stuck any_byte cs (word_at judge) bytes left
  word_bad bytes left x e d =
      let run = x.0 in
      let rest = x.1 in
      let j = taken_err rest (judge run) left d in
      let n = next_ok bytes run rest e in
      let g = gradual.err run j.0 (stops_run run rest n.stops) j.1 in
      let h = ahead n.blanks run j.0 n.are g g.front refl in
      record {
        front = n.blanks ++ g.front;
        rest = g.rest ++ rest;
        whole = n.whole ∙ ap (λ (t : List ℕ). n.blanks ++ t) (ap (λ (t : List ℕ). t ++ rest) g.whole ∙ append_assoc g.front g.rest rest) ∙ sym (append_assoc n.blanks g.front (g.rest ++ rest));
        left_is = length-append g.rest rest ∙ ap (λ (k : ℕ). k + length rest) g.left_is ∙ j.2;
        more = h.more;
        value = h.value;
        gives = h.gives;
        starts = h.starts;
        good = all_any h.more;
        dead = λ b after other v z is q. bad_dead n.blanks run rest j.0 n.are n.stops j.1 g g.rest refl b after other v z is (subst (λ (t : List ℕ). word_at judge t ≡ Ok (v, z)) (append_assoc n.blanks g.front (b ∷ other)) q);
      }

  lead_may : (o : List ℕ) → begins (is_in cs) o ≡ true → may_begin cs o ≡ true
  lead_may [] e = absurd cc
  lead_may (b ∷ o) e = e

  pub placed_word : Placed any_byte cs may (word_at judge)
  unfolding word_at
  placed_word = record {
    ok = word_ok;
    err = λ bytes left e. elim (bind_err (next_at bytes) (λ x. taken x.1 (judge x.0)) left e) [
      | inl f ↦ word_none bytes left f
      | inr x ↦ word_bad bytes left x.0 x.1 x.2
    ];
    some = record { bytes = gradual.lead; value = gradual.value; gives = gradual.leads [] refl; starts = lead_may gradual.lead gradual.starts; good = all_any gradual.lead };
  }
