-- Each word of a line: what goes on from it, and where it goes wrong.
use Rattle.std.proofs.Common.{◌≡◌, ℕ, Bool, true, false, ◌||◌, inl, inr, List, [], ◌∷◌, ◌++◌, Ok, Err, Option, Some, None, refl, sym, ap, subst, ◌∙◌, codes}
use Rattle.std.specs.Prelude.{ℤ, pos}
use Rattle.term_lang.specs.declared.texts.FaceText.{FaceText}
use Rattle.script_lang.specs.declared.simplices.SimplexText.{SimplexText}
use Rattle.script_lang.specs.declared.simplices.BodyText.TheVariants as bodies
use Rattle.script_lang.specs.declared.words.SpaceWord.{SpaceWord}
use Rattle.script_lang.specs.declared.words.SpaceWord.TheVariants as space_words
use Rattle.script_lang.specs.declared.words.CommandWord.{CommandWord}
use Rattle.script_lang.specs.declared.words.CommandWord.TheVariants as command_words
use Rattle.script_lang.specs.Bytes.{is_digit, is_letter, value_from, IsName, IsNumber, IsInteger}
use Rattle.script_lang.specs.Simplices.{IsFace, IsSimplex}
use Rattle.script_lang.specs.Grammar.{Run, opening, closing, space_text, command_text}
use Rattle.script_lang.specs.Readings.{Reading, Judged, whole}
use Rattle.script_lang.specs.Scans.{begins, name_len, name_in, number_len, number_in, may_in, signed_in, integer_in, prefix_in, sign_of, sign_or_name_in, head_in, behind_in, body_in, simplex_over, face_in, simplex_in}
use Rattle.script_lang.specs.Words.{sign_run, number_of, name_of, integer_of, simplex_of, start_of, face_of, part_of, chain_of, space_word_of, command_word_of}
use Rattle.script_lang.specs.Lines.{word_at}
use Rattle.script_lang.proofs.Combine.{which}
use Rattle.script_lang.proofs.Fronts.{no_inner, no_digit}
use Rattle.script_lang.proofs.Inner.{Starts, starts_as, starts_append, number_starts, is_integer_start, integer_starts}
use Rattle.script_lang.proofs.Prefixes.{reads_face, name_starts, prefix_starts}
use Rattle.script_lang.proofs.Bodies.{is_start, simplex_end, simplex_starts}
use Rattle.script_lang.proofs.Judges.{judging_whole, Perhaps, judging_number, judging_name, judging_integer, judging_simplex, judging_start, judging_face}
use Rattle.script_lang.proofs.PlaceRules.{next, is_in, Placed}
use Rattle.script_lang.proofs.PlaceLeaves.{placed_free}
use Rattle.script_lang.proofs.PlaceScans.{is_solid, placed_number, placed_name, placed_integer, placed_face}
use Rattle.script_lang.proofs.PlaceBodies.{simplex_firsts, placed_simplex}
use Rattle.script_lang.proofs.PlaceRuns.{ends, depth, are_blanks, IsRun, parenthesis, word}
use Rattle.script_lang.proofs.PlaceWords.{any_byte, soft, hard, hard_end, hard_ends, Begun, word_gives, spaced_gives, placed_word}
use Rattle.script_lang.proofs.PlaceTables.{IsTable, table_begun}
use Rattle.script_lang.proofs.PlaceJudges.{soft_behind, name_flat, number_flat, integer_flat, open_by, whole_begun}
use Rattle.script_lang.proofs.PlaceTexts.{sign_table, part_text, part_table, chain_text, chain_table}
use Rattle.script_lang.proofs.PlaceKeywords.{space_table, command_table}
use Rattle.script_lang.proofs.PlaceChosen.{either_begun}

abbrev pub Outer : {A : Type 0} → List ℕ → (A → List ℕ → Bool) → (List ℕ → Reading A) → Type 0
Outer cs may read = Placed any_byte cs may read

-- ---- numbers, names and integers

zero_is : number_of (48 ∷ []) ≡ Ok 0
unfolding number_of number_in number_len value_from
zero_is = refl

begun_number : (run : Run) (left : ℕ) → IsRun run → number_of run ≡ Err left → Begun number_of run left
unfolding number_of
begun_number = whole_begun (48 ∷ []) no_digit number_in placed_number (λ v. refl) (open_by is_digit IsNumber number_of judging_number.is number_starts refl refl)

pub placed_number_at : Outer (32 ∷ []) (soft {A = ℕ}) (word_at number_of)
placed_number_at = placed_word (32 ∷ []) soft number_of (record {
  lead = 32 ∷ 48 ∷ [];
  value = 0;
  leads = spaced_gives number_of (48 ∷ []) 0 (word 48 [] refl refl) zero_is;
  starts = refl;
  behind = λ run v o e m. soft_behind run v o (number_flat run v e) m;
  err = begun_number;
})

letter_is : name_of (97 ∷ []) ≡ Ok (97 ∷ [])
unfolding name_of name_in name_len
letter_is = refl

begun_name : (run : Run) (left : ℕ) → IsRun run → name_of run ≡ Err left → Begun name_of run left
unfolding name_of
begun_name = whole_begun (97 ∷ []) no_inner name_in placed_name (λ v. refl) (open_by is_letter IsName name_of judging_name.is name_starts refl refl)

pub placed_name_at : Outer (32 ∷ []) (soft {A = List ℕ}) (word_at name_of)
placed_name_at = placed_word (32 ∷ []) soft name_of (record {
  lead = 32 ∷ 97 ∷ [];
  value = 97 ∷ [];
  leads = spaced_gives name_of (97 ∷ []) (97 ∷ []) (word 97 [] refl refl) letter_is;
  starts = refl;
  behind = λ run v o e m. soft_behind run v o (name_flat run v e) m;
  err = begun_name;
})

zero_integer : integer_of (48 ∷ []) ≡ Ok (pos 0)
unfolding integer_of integer_in may_in signed_in number_in number_len value_from
zero_integer = refl

begun_integer : (run : Run) (left : ℕ) → IsRun run → integer_of run ≡ Err left → Begun integer_of run left
unfolding integer_of
begun_integer = whole_begun (45 ∷ []) no_digit integer_in placed_integer (λ v. refl) (open_by is_integer_start IsInteger integer_of judging_integer.is integer_starts refl refl)

pub placed_integer_at : Outer (32 ∷ []) (soft {A = ℤ}) (word_at integer_of)
placed_integer_at = placed_word (32 ∷ []) soft integer_of (record {
  lead = 32 ∷ 48 ∷ [];
  value = pos 0;
  leads = spaced_gives integer_of (48 ∷ []) (pos 0) (word 48 [] refl refl) zero_integer;
  starts = refl;
  behind = λ run v o e m. soft_behind run v o (integer_flat run v e) m;
  err = begun_integer;
})

-- ---- simplices

abbrev star : SimplexText
star = record { degens = []; body = bodies.Star }

star_is : simplex_of (42 ∷ []) ≡ Ok star
unfolding simplex_of simplex_in simplex_over prefix_in body_in head_in sign_of sign_or_name_in behind_in
star_is = refl

begun_simplex : (run : Run) (left : ℕ) → IsRun run → simplex_of run ≡ Err left → Begun simplex_of run left
unfolding simplex_of
begun_simplex = whole_begun simplex_firsts simplex_end (simplex_in 33) (placed_simplex 32) (λ v. refl) (open_by is_start IsSimplex simplex_of judging_simplex.is (simplex_starts 32) refl refl)

pub placed_simplex_at : Outer (32 ∷ []) (hard {A = SimplexText}) (word_at simplex_of)
placed_simplex_at = placed_word (32 ∷ []) hard simplex_of (record {
  lead = 32 ∷ 42 ∷ [];
  value = star;
  leads = spaced_gives simplex_of (42 ∷ []) star (word 42 [] refl refl) star_is;
  starts = refl;
  behind = λ run v o e m. hard_ends (depth 0 run) o m;
  err = begun_simplex;
})

-- ---- the start of a space, and faces

begun_start : (run : Run) (left : ℕ) → IsRun run → start_of run ≡ Err left → Begun start_of run left
unfolding start_of
begun_start = either_begun 40 refl name_of begun_name

start_open : start_of (40 ∷ []) ≡ Ok None
unfolding start_of
start_open = refl

start_flat : (run : Run) (v : Option (List ℕ)) → Perhaps opening IsName run v → depth 0 run ≡ 0
start_flat run None e = rw e refl
start_flat run (Some name) n = name_flat run name (judging_name.again run name n)

pub placed_start_at : Outer (40 ∷ []) (soft {A = Option (List ℕ)}) (word_at start_of)
placed_start_at = placed_word (40 ∷ []) soft start_of (record {
  lead = 40 ∷ [];
  value = None;
  leads = λ blanks are. word_gives start_of blanks (40 ∷ []) None are (parenthesis 40 refl refl) start_open;
  starts = refl;
  behind = λ run v o e m. soft_behind run v o (start_flat run v (judging_start.is run v e)) m;
  err = begun_start;
})

-- what may follow a part, or the end of parts
abbrev pub loose : {A : Type 0} → Option A → List ℕ → Bool
loose None o = ends 0 (next o)
loose (Some x) o = hard_end o

abbrev is_face_start : ℕ → Bool
is_face_start b = is_digit b || is_letter b

digit_face : (b : ℕ) → is_digit b ≡ true → is_face_start b ≡ true
digit_face b e = rw e refl

letter_face : (b : ℕ) → is_letter b ≡ true → is_face_start b ≡ true
letter_face b e = elim (which (is_digit b)) [ inl t ↦ rw t refl | inr n ↦ rw n e ]

face_starts : (front : List ℕ) (v : FaceText) → IsFace front v → Starts is_face_start front
face_starts front v t =
    let u = t.second in
    let n = starts_as is_letter is_face_start letter_face t.back (starts_append is_letter u.front u.back t.back u.whole (name_starts u.front u.value u.first)) in
    subst (Starts is_face_start) (sym t.whole) (prefix_starts is_face_start digit_face t.front t.back t.value t.first n)

begun_bare_face : (run : Run) (left : ℕ) → IsRun run → whole face_in run ≡ Err left → Begun (whole face_in) run left
begun_bare_face = whole_begun (48 ∷ 97 ∷ []) no_inner face_in (placed_free is_solid (48 ∷ 97 ∷ []) no_inner IsFace face_in reads_face placed_face) (λ v. refl) (open_by is_face_start IsFace (whole face_in) (judging_whole no_inner IsFace face_in reads_face (λ v. refl)).is face_starts refl refl)

begun_face : (run : Run) (left : ℕ) → IsRun run → face_of run ≡ Err left → Begun face_of run left
unfolding face_of
begun_face = either_begun 41 refl (whole face_in) begun_bare_face

face_close : face_of (41 ∷ []) ≡ Ok None
unfolding face_of
face_close = refl

face_behind : (run : Run) (v : Option FaceText) (o : List ℕ) → Perhaps closing IsFace run v → loose v o ≡ true → ends (depth 0 run) (next o) ≡ true
face_behind run None o e m = soft_behind {A = ℕ} run 0 o (rw e refl) m
face_behind run (Some x) o e m = hard_ends (depth 0 run) o m

pub placed_face_at : Outer (41 ∷ []) (loose {A = FaceText}) (word_at face_of)
placed_face_at = placed_word (41 ∷ []) loose face_of (record {
  lead = 41 ∷ [];
  value = None;
  leads = λ blanks are. word_gives face_of blanks (41 ∷ []) None are (parenthesis 41 refl refl) face_close;
  starts = refl;
  behind = λ run v o e m. face_behind run v o (judging_face.is run v e) m;
  err = begun_face;
})

-- ---- given runs

table_at : {A : Type 0} (text : A → Run) (judge : Run → Judged A) (cs lead : List ℕ) (v0 : A) → IsTable text judge → ((blanks : List ℕ) → are_blanks blanks ≡ true → word_at judge (blanks ++ lead) ≡ Ok (v0, [])) → begins (is_in cs) lead ≡ true → ((v : A) → depth 0 (text v) ≡ 0) → Outer cs (soft {A = A}) (word_at judge)
table_at text judge cs lead v0 table leads starts flat = placed_word cs soft judge (record {
  lead = lead;
  value = v0;
  leads = leads;
  starts = starts;
  behind = λ run v o e m. soft_behind run v o (ap (depth 0) (table.is run v e) ∙ flat v) m;
  err = table_begun text judge table;
})

pub placed_opening_at : Outer (40 ∷ []) (soft {A = Unit {0}}) (word_at (sign_run opening))
placed_opening_at = table_at (λ v. opening) (sign_run opening) (40 ∷ []) (40 ∷ []) tt (sign_table 40 refl) (λ blanks are. word_gives (sign_run opening) blanks opening tt are (parenthesis 40 refl refl) refl) refl (λ v. refl)

pub placed_closing_at : Outer (41 ∷ []) (soft {A = Unit {0}}) (word_at (sign_run closing))
placed_closing_at = table_at (λ v. closing) (sign_run closing) (41 ∷ []) (41 ∷ []) tt (sign_table 41 refl) (λ blanks are. word_gives (sign_run closing) blanks closing tt are (parenthesis 41 refl refl) refl) refl (λ v. refl)

part_flat : (v : Bool) → depth 0 (part_text v) ≡ 0
part_flat true = refl
part_flat false = refl

pub placed_part_at : Outer (41 ∷ []) (soft {A = Bool}) (word_at part_of)
placed_part_at = table_at part_text part_of (41 ∷ []) (41 ∷ []) false part_table (λ blanks are. word_gives part_of blanks closing false are (parenthesis 41 refl refl) (part_table.again false)) refl part_flat

chain_flat : (v : Bool) → depth 0 (chain_text v) ≡ 0
chain_flat true = refl
chain_flat false = refl

pub placed_chain_at : Outer (40 ∷ []) (soft {A = Bool}) (word_at chain_of)
placed_chain_at = table_at chain_text chain_of (40 ∷ []) (40 ∷ []) true chain_table (λ blanks are. word_gives chain_of blanks opening true are (parenthesis 40 refl refl) (chain_table.again true)) refl chain_flat

space_flat : (v : SpaceWord) → depth 0 (space_text v) ≡ 0
space_flat space_words.Sphere = refl
space_flat space_words.Product = refl
space_flat space_words.Suspension = refl
space_flat space_words.KZ1 = refl
space_flat space_words.Loop = refl
space_flat space_words.Path = refl
space_flat space_words.Bundle = refl
space_flat space_words.Table = refl

pub placed_space_word_at : Outer (32 ∷ []) (soft {A = SpaceWord}) (word_at space_word_of)
placed_space_word_at = table_at space_text space_word_of (32 ∷ []) (32 ∷ codes "table") space_words.Table space_table (spaced_gives space_word_of (codes "table") space_words.Table (space_table.is_run space_words.Table) (space_table.again space_words.Table)) refl space_flat

command_flat : (v : CommandWord) → depth 0 (command_text v) ≡ 0
command_flat command_words.Field = refl
command_flat command_words.Setf = refl
command_flat command_words.Names = refl
command_flat command_words.Betti = refl
command_flat command_words.Homology = refl
command_flat command_words.Boundary = refl
command_flat command_words.Express = refl

pub placed_command_word_at : Outer (32 ∷ []) (soft {A = CommandWord}) (word_at command_word_of)
placed_command_word_at = table_at command_text command_word_of (32 ∷ []) (32 ∷ codes "names") command_words.Names command_table (spaced_gives command_word_of (codes "names") command_words.Names (command_table.is_run command_words.Names) (command_table.again command_words.Names)) refl command_flat

-- the end of parts
pub face_ends : word_at face_of closing ≡ Ok (None, [])
face_ends = word_gives face_of [] closing None refl (parenthesis 41 refl refl) face_close

pub part_closes : word_at part_of closing ≡ Ok (false, [])
part_closes = word_gives part_of [] closing false refl (parenthesis 41 refl refl) (part_table.again false)
