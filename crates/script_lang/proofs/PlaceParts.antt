-- Where values on cells, rows, terms and chains go wrong.
use Rattle.std.proofs.Common.{◌≡◌, ℕ, Bool, true, false, List, [], ◌∷◌, Ok, Some, None, refl}
use Rattle.std.specs.Prelude.{ℤ}
use Rattle.std.specs.List.{list_all}
use Rattle.term_lang.specs.declared.texts.FaceText.{FaceText}
use Rattle.term_lang.specs.declared.texts.RowText.{RowText}
use Rattle.script_lang.specs.declared.exprs.PairText.{PairText}
use Rattle.script_lang.specs.declared.simplices.SimplexText.{SimplexText}
use Rattle.script_lang.specs.declared.simplices.TermText.{TermText}
use Rattle.script_lang.specs.declared.simplices.ChainText.{ChainText}
use Rattle.script_lang.specs.declared.simplices.ChainText.TheVariants as chains
use Rattle.script_lang.specs.Grammar.{opening, closing}
use Rattle.script_lang.specs.Readings.{Reading, ◌>>=◌, until_at}
use Rattle.script_lang.specs.Words.{sign_run, number_of, name_of, integer_of, simplex_of, face_of, part_of, chain_of}
use Rattle.script_lang.specs.Lines.{word_at, opening_at, closing_at, number_at, name_at, some_part_at, part_at, pair_at, row_at, term_at, terms_at, chain_behind_at, chain_at}
use Rattle.script_lang.proofs.Runs.{word_shorter}
use Rattle.script_lang.proofs.PlaceRepeats.{Ends}
use Rattle.script_lang.proofs.PlaceWords.{any_byte, soft, hard, hard_ends}
use Rattle.script_lang.proofs.PlaceEachWord.{loose, face_ends, part_closes, placed_number_at, placed_name_at, placed_integer_at, placed_simplex_at, placed_face_at, placed_opening_at, placed_closing_at, placed_part_at, placed_chain_at}
use Rattle.script_lang.proofs.PlaceForms.{Steady, Second, goes, over, steady_then, steady_map, steady_until}

-- ---- words

pub steady_opening : Steady (40 ∷ []) (soft {A = Unit {0}}) opening_at
steady_opening = record { placed = placed_opening_at; longer = word_shorter (sign_run opening) }

pub steady_closing : Steady (41 ∷ []) (soft {A = Unit {0}}) closing_at
steady_closing = record { placed = placed_closing_at; longer = word_shorter (sign_run closing) }

pub steady_number : Steady (32 ∷ []) (soft {A = ℕ}) number_at
steady_number = record { placed = placed_number_at; longer = word_shorter number_of }

pub steady_name : Steady (32 ∷ []) (soft {A = List ℕ}) name_at
steady_name = record { placed = placed_name_at; longer = word_shorter name_of }

steady_integer : Steady (32 ∷ []) (soft {A = ℤ}) (word_at integer_of)
steady_integer = record { placed = placed_integer_at; longer = word_shorter integer_of }

steady_simplex : Steady (32 ∷ []) (hard {A = SimplexText}) (word_at simplex_of)
steady_simplex = record { placed = placed_simplex_at; longer = word_shorter simplex_of }

steady_face : Steady (41 ∷ []) (loose {A = FaceText}) (word_at face_of)
steady_face = record { placed = placed_face_at; longer = word_shorter face_of }

-- a closing parenthesis behind a value
pub steady_end : {A : Type 0} (v : A) → Steady (41 ∷ []) (soft {A = A}) (λ bytes. closing_at bytes >>= λ end. Ok (v, end.1))
steady_end v = steady_map soft soft (41 ∷ []) closing_at (λ end. v) (λ x o c. c) steady_closing

-- ---- parts in parentheses

faces_end : Ends any_byte (41 ∷ []) (word_at face_of)
faces_end = record { bytes = closing; gives = face_ends; starts = refl; good = refl }

steady_faces : Steady (41 ∷ []) (soft {A = List FaceText}) (until_at (word_at face_of))
steady_faces = steady_until (41 ∷ []) (word_at face_of) steady_face (λ x t. refl) faces_end

module _ {A : Type 0} (cs : List ℕ) (behind : List ℕ → Reading A) (one : Steady cs soft behind) (seam : (v : Bool) (t : List ℕ) → list_all (λ c. soft v (c ∷ t)) cs ≡ true) where
  second_part : (more : Bool) → Second soft (loose {A = A}) cs more (some_part_at behind more)
  unfolding some_part_at
  second_part true = goes (steady_map soft loose cs behind (λ x. Some x) (λ v o c. hard_ends 0 o c) one)
  second_part false = over None (λ s. refl) (λ o c. c)

  steady_part : Steady (41 ∷ []) (loose {A = A}) (part_at behind)
  unfolding part_at
  steady_part = steady_then soft loose (word_at part_of) (λ more. some_part_at behind more.0 more.1) (41 ∷ []) (λ more. cs) (record { placed = placed_part_at; longer = word_shorter part_of }) second_part seam

  part_ends : Ends any_byte (41 ∷ []) (part_at behind)
  unfolding part_at some_part_at
  part_ends = let e = part_closes in record { bytes = closing; gives = rw e refl; starts = refl; good = refl }

  pub steady_parts : Steady (41 ∷ []) (soft {A = List A}) (until_at (part_at behind))
  steady_parts = steady_until (41 ∷ []) (part_at behind) steady_part (λ x t. refl) part_ends

steady_pair : Steady (32 ∷ []) (soft {A = PairText}) pair_at
unfolding pair_at
steady_pair = steady_then soft soft name_at _ (32 ∷ []) (λ cell. 32 ∷ []) steady_name
    (λ cell. goes (steady_then soft soft (word_at integer_of) _ (32 ∷ []) (λ value. 41 ∷ []) steady_integer (λ value. goes (steady_end (record { cell = cell; value = value }))) (λ v t. refl)))
    (λ v t. refl)

pub steady_pairs : Steady (41 ∷ []) (soft {A = List PairText}) (until_at (part_at pair_at))
steady_pairs = steady_parts (32 ∷ []) pair_at steady_pair (λ v t. refl)

steady_row : Steady (32 ∷ []) (soft {A = RowText}) row_at
unfolding row_at
steady_row = steady_then soft soft name_at _ (32 ∷ []) (λ name. 41 ∷ []) steady_name
    (λ name. goes (steady_map soft soft (41 ∷ []) (until_at (word_at face_of)) (λ faces. record { name = name; faces = faces }) (λ v o c. c) steady_faces))
    (λ v t. refl)

pub steady_rows : Steady (41 ∷ []) (soft {A = List RowText}) (until_at (part_at row_at))
steady_rows = steady_parts (32 ∷ []) row_at steady_row (λ v t. refl)

-- ---- terms and chains

steady_term : Steady (32 ∷ []) (soft {A = TermText}) term_at
unfolding term_at
steady_term = steady_then soft soft (word_at integer_of) _ (32 ∷ []) (λ coeff. 32 ∷ []) steady_integer
    (λ coeff. goes (steady_then hard soft (word_at simplex_of) _ (32 ∷ []) (λ x. 41 ∷ []) steady_simplex (λ x. goes (steady_end (record { coeff = coeff; simplex = x }))) (λ v t. refl)))
    (λ v t. refl)

steady_terms : Steady (32 ∷ []) (soft {A = ChainText}) terms_at
unfolding terms_at
steady_terms = steady_then soft soft term_at _ (32 ∷ []) (λ first. 41 ∷ []) steady_term
    (λ first. goes (steady_map soft soft (41 ∷ []) (until_at (part_at term_at)) (λ more. chains.Terms (first ∷ more)) (λ v o c. c) (steady_parts (32 ∷ []) term_at steady_term (λ v t. refl))))
    (λ v t. refl)

abbrev chain_firsts : Bool → List ℕ
chain_firsts true = 32 ∷ []
chain_firsts false = 41 ∷ []

second_chain : (some : Bool) → Second (soft {A = Bool}) (soft {A = ChainText}) (chain_firsts some) some (chain_behind_at some)
unfolding chain_behind_at
second_chain true = goes steady_terms
second_chain false = goes (steady_end chains.Zero)

chain_seam : (v : Bool) (t : List ℕ) → list_all (λ c. soft v (c ∷ t)) (chain_firsts v) ≡ true
chain_seam true t = refl
chain_seam false t = refl

pub steady_chain : Steady (40 ∷ []) (soft {A = ChainText}) chain_at
unfolding chain_at
steady_chain = steady_then soft soft (word_at chain_of) (λ some. chain_behind_at some.0 some.1) (40 ∷ []) chain_firsts (record { placed = placed_chain_at; longer = word_shorter chain_of }) second_chain chain_seam
