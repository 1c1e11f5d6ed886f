-- What reads spaces, commands and lines.
use Rattle.std.proofs.Common.{◌≡◌, ℕ, suc, zero, true, List, [], ◌∷◌, ◌++◌, Ok, Option, Some, None, refl, sym, ap, subst, ◌∙◌, inl, inr}
use Rattle.std.proofs.lemmas.Bool.{eqb-true, eq-eqb}
use Rattle.std.proofs.lemmas.List.{append-nil}
use Rattle.script_lang.specs.declared.exprs.Expr.{Expr}
use Rattle.script_lang.specs.declared.exprs.Expr.TheVariants as exprs
use Rattle.script_lang.specs.declared.commands.Command.{Command}
use Rattle.script_lang.specs.declared.commands.Command.TheVariants as commands
use Rattle.script_lang.specs.declared.words.SpaceWord.{SpaceWord}
use Rattle.script_lang.specs.declared.words.SpaceWord.TheVariants as space_words
use Rattle.script_lang.specs.declared.words.CommandWord.{CommandWord}
use Rattle.script_lang.specs.declared.words.CommandWord.TheVariants as command_words
use Rattle.script_lang.specs.Phrases.{Done, Sign, ◌▷◌, ◌∣◌, Until}
use Rattle.script_lang.specs.Bytes.{IsName, IsNumber}
use Rattle.script_lang.specs.Grammar.{Run, opening, closing, runs, Word, Closing, IsSpaceWord, IsCommandWord, IsRow, IsPair, IsSpaceBehind, IsNamed, IsEnclosed, IsSpaceIn, IsSpace, IsChain, IsCommandBehind, IsCommand, IsAsked}
use Rattle.script_lang.specs.Readings.{Reading, ◌>>=◌, until_at}
use Rattle.script_lang.specs.Scans.{after_blanks}
use Rattle.script_lang.specs.Words.{start_of, space_word_of, command_word_of}
use Rattle.script_lang.specs.Lines.{run_len, word_at, opening_at, number_at, name_at, part_at, pair_at, row_at, product_at, over_at, bundle_at, sphere_at, space_behind_at, enclosed_at, started_at, space_at, chain_at, field_at, setf_at, betti_at, homology_at, boundary_at, express_at, command_behind_at, command_at, is_done, end_at, line_at}
use Rattle.script_lang.proofs.Combine.{which, reading, ok_parts, bind_ok, always, reads_done, reads_on, reads_as}
use Rattle.script_lang.proofs.Runs.{Lines, reads_word, ended, not_ended}
use Rattle.script_lang.proofs.Judges.{Perhaps, judging_start, judging_space_word, judging_command_word}
use Rattle.script_lang.proofs.Parts.{reads_opening, reads_number, reads_name, reads_end, reads_pairs, reads_rows, reads_chain}

-- ---- spaces

module _ (IsPart : List Run → Expr → Type 0) (part : List ℕ → Reading Expr) (one : Lines IsPart part) where
  reads_over : (make : Expr → Expr) → Lines (IsPart ▷ λ a. Closing (make a)) (over_at part make)
  unfolding over_at
  reads_over make = reads_on _ IsPart _ part _ one (λ a. reads_end (make a))

  reads_product : Lines (IsSpaceBehind IsPart space_words.Product) (product_at part)
  unfolding product_at
  reads_product = reads_on _ IsPart _ part _ one (λ a. reads_on _ IsPart _ part _ one (λ b. reads_end (exprs.Product a b)))

  reads_bundle : Lines (IsSpaceBehind IsPart space_words.Bundle) (bundle_at part)
  unfolding bundle_at
  reads_bundle = reads_on _ IsPart _ part _ one (λ a. reads_on _ (Until (closing ∷ []) IsPair) _ (until_at (part_at pair_at)) _ reads_pairs (λ values. reads_done _ always (exprs.Bundle a values)))

  reads_sphere : Lines (IsSpaceBehind IsPart space_words.Sphere) sphere_at
  unfolding sphere_at
  reads_sphere = reads_on _ (Word IsNumber) _ number_at _ reads_number (λ n. reads_end (exprs.Sphere n))

  reads_space_behind : (word : SpaceWord) → Lines (IsSpaceBehind IsPart word) (space_behind_at part word)
  unfolding space_behind_at
  reads_space_behind space_words.Sphere = reads_sphere
  reads_space_behind space_words.Product = reads_product
  reads_space_behind space_words.Suspension = reads_over (λ a. exprs.Suspension a)
  reads_space_behind space_words.KZ1 = reads_end exprs.KZ1
  reads_space_behind space_words.Loop = reads_over (λ a. exprs.Loop a)
  reads_space_behind space_words.Path = reads_over (λ a. exprs.Path a)
  reads_space_behind space_words.Bundle = reads_bundle
  reads_space_behind space_words.Table = reads_on _ (Until (closing ∷ []) IsRow) _ (until_at (part_at row_at)) _ reads_rows (λ rows. reads_done _ always (exprs.Table rows))

  abbrev Behind : List Run → Expr → Type 0
  Behind = Word IsSpaceWord ▷ λ word. IsSpaceBehind IsPart word

  reads_enclosed : Lines Behind (enclosed_at part)
  unfolding enclosed_at
  reads_enclosed = reads_on _ (Word IsSpaceWord) (IsSpaceBehind IsPart) (word_at space_word_of) _ (reads_word IsSpaceWord space_word_of judging_space_word) reads_space_behind

  abbrev Started : Option (List ℕ) → List Run → Expr → Type 0
  Started (Some name) = Done (exprs.Name name)
  Started None = Behind

  reads_started : (start : Option (List ℕ)) → Lines (Started start) (started_at part start)
  unfolding started_at
  reads_started (Some name) = reads_done _ always (exprs.Name name)
  reads_started None = reads_enclosed

  to_space : (start : Option (List ℕ)) (front back rs : List Run) (run : Run) (a : Expr) → rs ≡ front ++ back → front ≡ run ∷ [] → Perhaps opening IsName run start → Started start back a → (IsNamed ∣ IsEnclosed IsPart) rs a
  to_space (Some name) front back rs run a e only is t = inl (record { value = name; front = front; back = back; whole = e; first = record { run = run; only = only; means = is }; second = t })
  to_space None front back rs run a e only is t = inr (record { value = tt; front = front; back = back; whole = e; first = only ∙ ap (λ (r : Run). r ∷ []) is; second = t })

  from_space : (rs : List Run) (a : Expr) → (IsNamed ∣ IsEnclosed IsPart) rs a → (Word (Perhaps opening IsName) ▷ Started) rs a
  from_space rs a (inl t) = record { value = Some t.value; front = t.front; back = t.back; whole = t.whole; first = record { run = t.first.run; only = t.first.only; means = t.first.means }; second = t.second }
  from_space rs a (inr t) = record { value = None; front = t.front; back = t.back; whole = t.whole; first = record { run = opening; only = t.first; means = refl }; second = t.second }

  reads_either : Lines (IsNamed ∣ IsEnclosed IsPart) (λ bytes. word_at start_of bytes >>= λ start. started_at part start.0 start.1)
  reads_either = reads_as _ always _ _ _ (λ rs a t. to_space t.value t.front t.back rs t.first.run a t.whole t.first.only t.first.means t.second) from_space
      (reads_on _ (Word (Perhaps opening IsName)) Started (word_at start_of) (λ start. started_at part start.0 start.1) (reads_word (Perhaps opening IsName) start_of judging_start) reads_started)

reads_space_in : (room : ℕ) → Lines (IsSpaceIn room) (space_at room)
unfolding IsSpaceIn space_at
reads_space_in zero = reads_on _ (Word IsName) (λ name. Done (exprs.Name name)) name_at _ reads_name (λ name. reads_done _ always (exprs.Name name))
reads_space_in (suc room) = reads_either (IsSpaceIn room) (space_at room) (reads_space_in room)

reads_space : Lines IsSpace (space_at 16)
reads_space = reads_space_in 16

-- ---- commands

reads_field : Lines (IsCommandBehind command_words.Field) field_at
unfolding field_at
reads_field = reads_on _ (Word IsNumber) _ number_at _ reads_number (λ n. reads_end (commands.Field n))

reads_setf : Lines (IsCommandBehind command_words.Setf) setf_at
unfolding setf_at
reads_setf = reads_on _ (Word IsName) _ name_at _ reads_name (λ name. reads_on _ IsSpace _ (space_at 16) _ reads_space (λ a. reads_end (commands.Setf name a)))

reads_betti : Lines (IsCommandBehind command_words.Betti) betti_at
unfolding betti_at
reads_betti = reads_on _ IsSpace _ (space_at 16) _ reads_space
    (λ a. reads_on _ (Word IsNumber) _ number_at _ reads_number (λ low. reads_on _ (Word IsNumber) _ number_at _ reads_number (λ high. reads_end (commands.Betti a low high))))

reads_homology : Lines (IsCommandBehind command_words.Homology) homology_at
unfolding homology_at
reads_homology = reads_on _ IsSpace _ (space_at 16) _ reads_space (λ a. reads_on _ (Word IsNumber) _ number_at _ reads_number (λ n. reads_end (commands.Homology a n)))

reads_boundary : Lines (IsCommandBehind command_words.Boundary) boundary_at
unfolding boundary_at
reads_boundary = reads_on _ IsSpace _ (space_at 16) _ reads_space
    (λ a. reads_on _ (Word IsNumber) _ number_at _ reads_number (λ n. reads_on _ IsChain _ chain_at _ reads_chain (λ c. reads_done _ always (commands.Boundary a n c))))

reads_express : Lines (IsCommandBehind command_words.Express) express_at
unfolding express_at
reads_express = reads_on _ IsSpace _ (space_at 16) _ reads_space
    (λ a. reads_on _ (Word IsNumber) _ number_at _ reads_number (λ n. reads_on _ IsChain _ chain_at _ reads_chain (λ c. reads_done _ always (commands.Express a n c))))

reads_command_behind : (word : CommandWord) → Lines (IsCommandBehind word) (command_behind_at word)
unfolding command_behind_at
reads_command_behind command_words.Field = reads_field
reads_command_behind command_words.Setf = reads_setf
reads_command_behind command_words.Names = reads_end commands.Names
reads_command_behind command_words.Betti = reads_betti
reads_command_behind command_words.Homology = reads_homology
reads_command_behind command_words.Boundary = reads_boundary
reads_command_behind command_words.Express = reads_express

pub reads_command : Lines IsCommand command_at
unfolding command_at
reads_command = reads_on _ (Sign opening) _ opening_at _ reads_opening
    (λ _. reads_on _ (Word IsCommandWord) IsCommandBehind (word_at command_word_of) _ (reads_word IsCommandWord command_word_of judging_command_word) reads_command_behind)

-- ---- lines

pub is_done_again : (bytes : List ℕ) → runs bytes ≡ [] → is_done bytes ≡ true
is_done_again bytes none = eq-eqb (run_len (after_blanks bytes)) 0 (not_ended bytes none)

is_done_takes : (bytes : List ℕ) → is_done bytes ≡ true → runs bytes ≡ []
is_done_takes bytes e = ended bytes (eqb-true (run_len (after_blanks bytes)) 0 e)

end_takes : (bytes : List ℕ) (x : Unit {0} × List ℕ) → end_at bytes ≡ Ok x → runs bytes ≡ []
unfolding end_at
end_takes bytes x e = elim (which (is_done bytes)) [
  | inl done ↦ is_done_takes bytes done
  | inr more ↦ absurd (let f = rw more at e in cc)
]

end_again : (bytes : List ℕ) → runs bytes ≡ [] → end_at bytes ≡ Ok (tt, bytes)
unfolding end_at
end_again bytes none = rw (is_done_again bytes none) refl

line_is : (c asked : Option Command) (s t : List ℕ) (bytes : List ℕ) → reading c s ≡ reading asked t → IsAsked (runs bytes) c → IsAsked (runs bytes) asked
line_is c asked s t bytes e is = let p = ok_parts c asked s t e in subst (IsAsked (runs bytes)) p.0 is

some_runs : (c : Command) → IsCommand [] c → ⊥
some_runs c t = no_front t.front t.back t.whole t.first
  where
    no_front : (front back : List Run) → [] ≡ front ++ back → front ≡ opening ∷ [] → ⊥
    no_front front back e f = let g : [] ≡ opening ∷ back = e ∙ rw f refl in cc

pub line_takes : (bytes : List ℕ) (asked : Option Command) (rest : List ℕ) → line_at bytes ≡ Ok (asked, rest) → IsAsked (runs bytes) asked
unfolding line_at
line_takes bytes asked rest e = elim (which (is_done bytes)) [
  | inl done ↦ let f = rw done at e in line_is None asked bytes rest bytes f (is_done_takes bytes done)
  | inr more ↦
      let f = rw more at e in
      let b = bind_ok (command_at bytes) (λ c. end_at c.1 >>= λ end. Ok (Some c.0, end.1)) (asked, rest) f in
      let d = bind_ok (end_at b.0.1) (λ end. Ok (Some b.0.0, end.1)) (asked, rest) b.2 in
      let t = reads_command.takes bytes b.0.0 b.0.1 b.1 in
      let e : runs bytes ≡ t.front = t.units_are ∙ (rw (end_takes b.0.1 d.0 d.1) (append-nil t.front)) in
      line_is (Some b.0.0) asked d.0.1 rest bytes d.2 (subst (λ (x : List Run). IsCommand x b.0.0) (sym e) t.is)
]

pub line_again : (bytes : List ℕ) (asked : Option Command) → IsAsked (runs bytes) asked → (rest : List ℕ) × (line_at bytes ≡ Ok (asked, rest))
unfolding line_at
line_again bytes None is = (bytes, rw (is_done_again bytes is) refl)
line_again bytes (Some c) is =
    let a = reads_command.again bytes (runs bytes) c [] is (sym (append-nil (runs bytes))) refl in (
      a.rest,
      elim (which (is_done bytes)) [
        | inl done ↦ absurd (some_runs c (subst (λ (x : List Run). IsCommand x c) (is_done_takes bytes done) is))
        | inr more ↦ rw (more, a.gives, end_again a.rest a.units_are) refl
      ],
    )
