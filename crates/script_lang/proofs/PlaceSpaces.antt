-- Where spaces and commands go wrong.
use Rattle.std.proofs.Common.{◌≡◌, ℕ, suc, zero, true, List, [], ◌∷◌, Ok, Option, Some, None, refl}
use Rattle.std.specs.List.{list_all}
use Rattle.script_lang.specs.declared.exprs.Expr.{Expr}
use Rattle.script_lang.specs.declared.exprs.Expr.TheVariants as exprs
use Rattle.script_lang.specs.declared.commands.Command.{Command}
use Rattle.script_lang.specs.declared.commands.Command.TheVariants as commands
use Rattle.script_lang.specs.declared.words.SpaceWord.{SpaceWord}
use Rattle.script_lang.specs.declared.words.SpaceWord.TheVariants as space_words
use Rattle.script_lang.specs.declared.words.CommandWord.{CommandWord}
use Rattle.script_lang.specs.declared.words.CommandWord.TheVariants as command_words
use Rattle.script_lang.specs.Readings.{Reading, ◌>>=◌, until_at}
use Rattle.script_lang.specs.Words.{start_of, space_word_of, command_word_of}
use Rattle.script_lang.specs.Lines.{word_at, opening_at, number_at, name_at, part_at, pair_at, row_at, product_at, over_at, bundle_at, sphere_at, space_behind_at, enclosed_at, started_at, space_at, chain_at, field_at, setf_at, betti_at, homology_at, boundary_at, express_at, command_behind_at, command_at}
use Rattle.script_lang.proofs.Runs.{word_shorter}
use Rattle.script_lang.proofs.PlaceWords.{soft}
use Rattle.script_lang.proofs.PlaceEachWord.{placed_start_at, placed_space_word_at, placed_command_word_at}
use Rattle.script_lang.proofs.PlaceForms.{Steady, Second, goes, over, steady_then, steady_map, steady_wide}
use Rattle.script_lang.proofs.PlaceParts.{steady_opening, steady_number, steady_name, steady_end, steady_pairs, steady_rows, steady_chain}

-- a space begins with a blank or an opening parenthesis
abbrev space_firsts : List ℕ
space_firsts = 32 ∷ 40 ∷ []

-- ---- spaces

abbrev behind_firsts : SpaceWord → List ℕ
behind_firsts space_words.Sphere = 32 ∷ []
behind_firsts space_words.Product = space_firsts
behind_firsts space_words.Suspension = space_firsts
behind_firsts space_words.KZ1 = 41 ∷ []
behind_firsts space_words.Loop = space_firsts
behind_firsts space_words.Path = space_firsts
behind_firsts space_words.Bundle = space_firsts
behind_firsts space_words.Table = 41 ∷ []

behind_seam : (v : SpaceWord) (t : List ℕ) → list_all (λ c. soft v (c ∷ t)) (behind_firsts v) ≡ true
behind_seam space_words.Sphere t = refl
behind_seam space_words.Product t = refl
behind_seam space_words.Suspension t = refl
behind_seam space_words.KZ1 t = refl
behind_seam space_words.Loop t = refl
behind_seam space_words.Path t = refl
behind_seam space_words.Bundle t = refl
behind_seam space_words.Table t = refl

steady_sphere : Steady (32 ∷ []) (soft {A = Expr}) sphere_at
unfolding sphere_at
steady_sphere = steady_then soft soft number_at _ (32 ∷ []) (λ n. 41 ∷ []) steady_number (λ n. goes (steady_end (exprs.Sphere n))) (λ v t. refl)

module _ (part : List ℕ → Reading Expr) (one : Steady space_firsts (soft {A = Expr}) part) where
  steady_over : (make : Expr → Expr) → Steady space_firsts (soft {A = Expr}) (over_at part make)
  unfolding over_at
  steady_over make = steady_then soft soft part _ space_firsts (λ a. 41 ∷ []) one (λ a. goes (steady_end (make a))) (λ v t. refl)

  steady_product : Steady space_firsts (soft {A = Expr}) (product_at part)
  unfolding product_at
  steady_product = steady_then soft soft part _ space_firsts (λ a. space_firsts) one
      (λ a. goes (steady_then soft soft part _ space_firsts (λ b. 41 ∷ []) one (λ b. goes (steady_end (exprs.Product a b))) (λ v t. refl)))
      (λ v t. refl)

  steady_bundle : Steady space_firsts (soft {A = Expr}) (bundle_at part)
  unfolding bundle_at
  steady_bundle = steady_then soft soft part _ space_firsts (λ a. 41 ∷ []) one
      (λ a. goes (steady_map soft soft (41 ∷ []) (until_at (part_at pair_at)) (λ values. exprs.Bundle a values) (λ v o c. c) steady_pairs))
      (λ v t. refl)

  steady_behind : (word : SpaceWord) → Steady (behind_firsts word) (soft {A = Expr}) (space_behind_at part word)
  unfolding space_behind_at
  steady_behind space_words.Sphere = steady_sphere
  steady_behind space_words.Product = steady_product
  steady_behind space_words.Suspension = steady_over (λ a. exprs.Suspension a)
  steady_behind space_words.KZ1 = steady_end exprs.KZ1
  steady_behind space_words.Loop = steady_over (λ a. exprs.Loop a)
  steady_behind space_words.Path = steady_over (λ a. exprs.Path a)
  steady_behind space_words.Bundle = steady_bundle
  steady_behind space_words.Table = steady_map soft soft (41 ∷ []) (until_at (part_at row_at)) (λ rows. exprs.Table rows) (λ v o c. c) steady_rows

  steady_enclosed : Steady (32 ∷ []) (soft {A = Expr}) (enclosed_at part)
  unfolding enclosed_at
  steady_enclosed = steady_then soft soft (word_at space_word_of) (λ word. space_behind_at part word.0 word.1) (32 ∷ []) behind_firsts (record { placed = placed_space_word_at; longer = word_shorter space_word_of }) (λ word. goes (steady_behind word)) behind_seam

  second_started : (start : Option (List ℕ)) → Second (soft {A = Option (List ℕ)}) (soft {A = Expr}) (32 ∷ []) start (started_at part start)
  unfolding started_at
  second_started (Some name) = over (exprs.Name name) (λ s. refl) (λ o c. c)
  second_started None = goes steady_enclosed

  steady_either : Steady (40 ∷ []) (soft {A = Expr}) (λ bytes. word_at start_of bytes >>= λ start. started_at part start.0 start.1)
  steady_either = steady_then soft soft (word_at start_of) (λ start. started_at part start.0 start.1) (40 ∷ []) (λ start. 32 ∷ []) (record { placed = placed_start_at; longer = word_shorter start_of }) second_started (λ v t. refl)

steady_space_in : (room : ℕ) → Steady space_firsts (soft {A = Expr}) (space_at room)
unfolding space_at
steady_space_in zero = steady_wide soft (λ bytes. name_at bytes >>= λ name. Ok (exprs.Name name.0, name.1)) (32 ∷ []) space_firsts refl (steady_map soft soft (32 ∷ []) name_at (λ name. exprs.Name name) (λ v o c. c) steady_name)
steady_space_in (suc room) = steady_wide soft (λ bytes. word_at start_of bytes >>= λ start. started_at (space_at room) start.0 start.1) (40 ∷ []) space_firsts refl (steady_either (space_at room) (steady_space_in room))

steady_space : Steady space_firsts (soft {A = Expr}) (space_at 16)
steady_space = steady_space_in 16

-- ---- commands

steady_field : Steady (32 ∷ []) (soft {A = Command}) field_at
unfolding field_at
steady_field = steady_then soft soft number_at _ (32 ∷ []) (λ n. 41 ∷ []) steady_number (λ n. goes (steady_end (commands.Field n))) (λ v t. refl)

steady_setf : Steady (32 ∷ []) (soft {A = Command}) setf_at
unfolding setf_at
steady_setf = steady_then soft soft name_at _ (32 ∷ []) (λ name. space_firsts) steady_name
    (λ name. goes (steady_then soft soft (space_at 16) _ space_firsts (λ a. 41 ∷ []) steady_space (λ a. goes (steady_end (commands.Setf name a))) (λ v t. refl)))
    (λ v t. refl)

steady_betti : Steady space_firsts (soft {A = Command}) betti_at
unfolding betti_at
steady_betti = steady_then soft soft (space_at 16) _ space_firsts (λ a. 32 ∷ []) steady_space
    (λ a. goes (steady_then soft soft number_at _ (32 ∷ []) (λ low. 32 ∷ []) steady_number
    (λ low. goes (steady_then soft soft number_at _ (32 ∷ []) (λ high. 41 ∷ []) steady_number (λ high. goes (steady_end (commands.Betti a low high))) (λ v t. refl)))
    (λ v t. refl)))
    (λ v t. refl)

steady_homology : Steady space_firsts (soft {A = Command}) homology_at
unfolding homology_at
steady_homology = steady_then soft soft (space_at 16) _ space_firsts (λ a. 32 ∷ []) steady_space
    (λ a. goes (steady_then soft soft number_at _ (32 ∷ []) (λ n. 41 ∷ []) steady_number (λ n. goes (steady_end (commands.Homology a n))) (λ v t. refl)))
    (λ v t. refl)

steady_boundary : Steady space_firsts (soft {A = Command}) boundary_at
unfolding boundary_at
steady_boundary = steady_then soft soft (space_at 16) _ space_firsts (λ a. 32 ∷ []) steady_space
    (λ a. goes (steady_then soft soft number_at _ (32 ∷ []) (λ n. 40 ∷ []) steady_number (λ n. goes (steady_map soft soft (40 ∷ []) chain_at (λ c. commands.Boundary a n c) (λ v o c. c) steady_chain)) (λ v t. refl)))
    (λ v t. refl)

steady_express : Steady space_firsts (soft {A = Command}) express_at
unfolding express_at
steady_express = steady_then soft soft (space_at 16) _ space_firsts (λ a. 32 ∷ []) steady_space
    (λ a. goes (steady_then soft soft number_at _ (32 ∷ []) (λ n. 40 ∷ []) steady_number (λ n. goes (steady_map soft soft (40 ∷ []) chain_at (λ c. commands.Express a n c) (λ v o c. c) steady_chain)) (λ v t. refl)))
    (λ v t. refl)

abbrev command_firsts : CommandWord → List ℕ
command_firsts command_words.Field = 32 ∷ []
command_firsts command_words.Setf = 32 ∷ []
command_firsts command_words.Names = 41 ∷ []
command_firsts command_words.Betti = space_firsts
command_firsts command_words.Homology = space_firsts
command_firsts command_words.Boundary = space_firsts
command_firsts command_words.Express = space_firsts

command_seam : (v : CommandWord) (t : List ℕ) → list_all (λ c. soft v (c ∷ t)) (command_firsts v) ≡ true
command_seam command_words.Field t = refl
command_seam command_words.Setf t = refl
command_seam command_words.Names t = refl
command_seam command_words.Betti t = refl
command_seam command_words.Homology t = refl
command_seam command_words.Boundary t = refl
command_seam command_words.Express t = refl

steady_command_behind : (word : CommandWord) → Steady (command_firsts word) (soft {A = Command}) (command_behind_at word)
unfolding command_behind_at
steady_command_behind command_words.Field = steady_field
steady_command_behind command_words.Setf = steady_setf
steady_command_behind command_words.Names = steady_end commands.Names
steady_command_behind command_words.Betti = steady_betti
steady_command_behind command_words.Homology = steady_homology
steady_command_behind command_words.Boundary = steady_boundary
steady_command_behind command_words.Express = steady_express

pub steady_command : Steady (40 ∷ []) (soft {A = Command}) command_at
unfolding command_at
steady_command = steady_then soft soft opening_at _ (40 ∷ []) (λ left. 32 ∷ []) steady_opening
    (λ left. goes (steady_then soft soft (word_at command_word_of) (λ word. command_behind_at word.0 word.1) (32 ∷ []) command_firsts (record { placed = placed_command_word_at; longer = word_shorter command_word_of }) (λ word. goes (steady_command_behind word)) command_seam))
    (λ v t. refl)
