-- What reads parts in parentheses: values on cells, rows and terms.
use Rattle.std.proofs.Common.{◌≡◌, ℕ, Bool, true, false, List, [], ◌∷◌, ◌++◌, Ok, Err, Option, Some, None, refl, sym, ap, subst, ◌∙◌, arith, inl, inr, codes, append_assoc}
use Rattle.std.proofs.lemmas.List.{append-nil}
use Rattle.term_lang.specs.declared.texts.FaceText.{FaceText}
use Rattle.term_lang.specs.declared.texts.RowText.{RowText}
use Rattle.script_lang.specs.declared.exprs.PairText.{PairText}
use Rattle.script_lang.specs.declared.simplices.TermText.{TermText}
use Rattle.script_lang.specs.declared.simplices.ChainText.{ChainText}
use Rattle.script_lang.specs.declared.simplices.ChainText.TheVariants as chains
use Rattle.script_lang.specs.declared.faults.Stop.{Stop}
use Rattle.script_lang.specs.declared.faults.Stop.TheVariants as stops
use Rattle.script_lang.specs.Phrases.{Done, Sign, ◌▷◌, Until}
use Rattle.script_lang.specs.Bytes.{IsName, IsNumber, IsInteger}
use Rattle.script_lang.specs.Simplices.{IsFace, IsSimplex}
use Rattle.script_lang.specs.Grammar.{Run, opening, closing, runs_behind, Word, Closing, IsPair, IsRow, IsTerm, IsChain}
use Rattle.script_lang.specs.Readings.{Reading, ◌>>=◌, Fails, until_at}
use Rattle.script_lang.specs.Words.{sign_run, number_of, name_of, integer_of, simplex_of, face_of, part_of, chain_of}
use Rattle.script_lang.specs.Lines.{word_at, opening_at, closing_at, number_at, name_at, some_part_at, part_at, pair_at, row_at, term_at, terms_at, chain_behind_at, chain_at}
use Rattle.script_lang.proofs.Combine.{ok_parts, bind_ok, always, reads_done, reads_on, reads_as}
use Rattle.script_lang.proofs.Loops.{Shorter, Part, reads_until, with_front, from_first}
use Rattle.script_lang.proofs.Runs.{Lines, word_shorter, reads_word, reads_sign}
use Rattle.script_lang.proofs.Judges.{judging_number, judging_name, judging_integer, judging_simplex, judging_sign, Perhaps, judging_face, IsMore, IsSome, judging_part, judging_chain}

pub reads_opening : Lines (Sign opening) opening_at
reads_opening = reads_sign opening (sign_run opening) (judging_sign opening)

pub reads_closing : Lines (Sign closing) closing_at
reads_closing = reads_sign closing (sign_run closing) (judging_sign closing)

pub reads_number : Lines (Word IsNumber) number_at
reads_number = reads_word IsNumber number_of judging_number

pub reads_name : Lines (Word IsName) name_at
reads_name = reads_word IsName name_of judging_name

pub reads_integer : Lines (Word IsInteger) (word_at integer_of)
reads_integer = reads_word IsInteger integer_of judging_integer

pub reads_simplex : Lines (Word IsSimplex) (word_at simplex_of)
reads_simplex = reads_word IsSimplex simplex_of judging_simplex

-- a closing parenthesis behind a value
pub reads_end : {A : Type 0} (v : A) → Lines (Closing v) (λ bytes. closing_at bytes >>= λ end. Ok (v, end.1))
reads_end v = reads_on _ (Sign closing) (λ _. Done v) closing_at (λ end. Ok (v, end.1)) reads_closing (λ _. reads_done _ always v)

-- ---- faces

to_faces : (rs : List Run) (w : Option FaceText) → Word (Perhaps closing IsFace) rs w → Part (closing ∷ []) (Word IsFace) rs w
to_faces rs None t = t.only ∙ ap (λ (r : Run). r ∷ []) t.means
to_faces rs (Some x) t = record { run = t.run; only = t.only; means = t.means }

from_faces : (rs : List Run) (w : Option FaceText) → Part (closing ∷ []) (Word IsFace) rs w → Word (Perhaps closing IsFace) rs w
from_faces rs None e = record { run = closing; only = e; means = refl }
from_faces rs (Some x) t = record { run = t.run; only = t.only; means = t.means }

reads_face : Lines (Part (closing ∷ []) (Word IsFace)) (word_at face_of)
reads_face = reads_as _ always _ _ _ to_faces from_faces (reads_word (Perhaps closing IsFace) face_of judging_face)

pub face_shorter : Shorter (word_at face_of)
face_shorter bytes x rest e = word_shorter face_of bytes (Some x) rest e

-- parts up to their end
reads_parts : {A : Type 0} (part : List ℕ → Reading (Option A)) (end : List Run) (L : List Run → A → Type 0) → Shorter part → Lines (Part end L) part → Lines (Until end L) (until_at part)
reads_parts part end L shorter one = reads_until part shorter (λ bytes. runs_behind 0 bytes) always always end L one (λ xs more c. refl) (λ x xs back more is c. refl) (λ x xs more c. refl)

-- ---- parts in parentheses

module _ {A : Type 0} (Behind : List Run → A → Type 0) (behind : List ℕ → Reading A) (one : Lines Behind behind) where
  abbrev SomePart : Bool → List Run → Option A → Type 0
  SomePart true = Behind ▷ λ x. Done (Some x)
  SomePart false = Done None

  reads_some_part : (more : Bool) → Lines (SomePart more) (some_part_at behind more)
  unfolding some_part_at
  reads_some_part true = reads_on _ Behind (λ x. Done (Some x)) behind _ one (λ x. reads_done _ always (Some x))
  reads_some_part false = reads_done _ always None

  to_part : (more : Bool) (front back rs : List Run) (run : Run) (w : Option A) → rs ≡ front ++ back → front ≡ run ∷ [] → IsMore run more → SomePart more back w → Part (closing ∷ []) (Sign opening ▷ λ _. Behind) rs w
  to_part true front back rs run w e only is t =
      subst (Part (closing ∷ []) (Sign opening ▷ λ _. Behind) rs) t.second.same
      (record { value = tt; front = front; back = t.front; whole = e ∙ ap (λ (x : List Run). front ++ x) (t.whole ∙ (rw t.second.none (append-nil t.front))); first = only ∙ ap (λ (r : Run). r ∷ []) is; second = t.first })
  to_part false front back rs run w e only is t =
      subst (Part (closing ∷ []) (Sign opening ▷ λ _. Behind) rs) t.same (e ∙ (rw t.none (append-nil front)) ∙ only ∙ ap (λ (r : Run). r ∷ []) is)

  from_part : (rs : List Run) (w : Option A) → Part (closing ∷ []) (Sign opening ▷ λ _. Behind) rs w → (Word IsMore ▷ SomePart) rs w
  from_part rs None e = record { value = false; front = rs; back = []; whole = sym (append-nil rs); first = record { run = closing; only = e; means = refl }; second = record { none = refl; same = refl } }
  from_part rs (Some x) t = record { value = true; front = t.front; back = t.back; whole = t.whole; first = record { run = opening; only = t.first; means = refl }; second = record { value = x; front = t.back; back = []; whole = sym (append-nil t.back); first = t.second; second = record { none = refl; same = refl } } }

  reads_part : Lines (Part (closing ∷ []) (Sign opening ▷ λ _. Behind)) (part_at behind)
  unfolding part_at
  reads_part = reads_as _ always _ _ _ (λ rs w t. to_part t.value t.front t.back rs t.first.run w t.whole t.first.only t.first.means t.second) from_part
      (reads_on _ (Word IsMore) SomePart (word_at part_of) (λ more. some_part_at behind more.0 more.1) (reads_word IsMore part_of judging_part) reads_some_part)

  pub part_shorter : Shorter (part_at behind)
  unfolding part_at
  part_shorter bytes x rest e =
      let b = bind_ok (word_at part_of bytes) (λ more. some_part_at behind more.0 more.1) (Some x, rest) e in
      omega (arith, word_shorter part_of bytes b.0.0 b.0.1 b.1, (reads_some_part b.0.0).less b.0.1 (Some x) rest b.2)

  pub reads_until_end : Lines (Until (closing ∷ []) (Sign opening ▷ λ _. Behind)) (until_at (part_at behind))
  reads_until_end = reads_parts (part_at behind) (closing ∷ []) (Sign opening ▷ λ _. Behind) part_shorter reads_part

-- ---- values on cells

abbrev PairBehind : List Run → PairText → Type 0
PairBehind = Word IsName ▷ λ cell. Word IsInteger ▷ λ value. Closing (record { cell = cell; value = value })

reads_pair : Lines PairBehind pair_at
unfolding pair_at
reads_pair = reads_on _ (Word IsName) _ name_at _ reads_name
    (λ cell. reads_on _ (Word IsInteger) _ (word_at integer_of) _ reads_integer (λ value. reads_end (record { cell = cell; value = value })))

pub pair_shorter : Shorter (part_at pair_at)
pair_shorter = part_shorter PairBehind pair_at reads_pair

pub reads_pairs : Lines (Until (closing ∷ []) IsPair) (until_at (part_at pair_at))
reads_pairs = reads_until_end PairBehind pair_at reads_pair

-- ---- rows

abbrev RowBehind : List Run → RowText → Type 0
RowBehind = Word IsName ▷ λ name. Until (closing ∷ []) (Word IsFace) ▷ λ faces. Done (record { name = name; faces = faces })

reads_row : Lines RowBehind row_at
unfolding row_at
reads_row = reads_on _ (Word IsName) _ name_at _ reads_name
    (λ name. reads_on _ (Until (closing ∷ []) (Word IsFace)) _ (until_at (word_at face_of)) _ (reads_parts (word_at face_of) (closing ∷ []) (Word IsFace) face_shorter reads_face)
    (λ faces. reads_done _ always (record { name = name; faces = faces })))

pub row_shorter : Shorter (part_at row_at)
row_shorter = part_shorter RowBehind row_at reads_row

pub reads_rows : Lines (Until (closing ∷ []) IsRow) (until_at (part_at row_at))
reads_rows = reads_until_end RowBehind row_at reads_row

-- ---- terms and chains

abbrev TermBehind : List Run → TermText → Type 0
TermBehind = Word IsInteger ▷ λ coeff. Word IsSimplex ▷ λ simplex. Closing (record { coeff = coeff; simplex = simplex })

reads_term : Lines TermBehind term_at
unfolding term_at
reads_term = reads_on _ (Word IsInteger) _ (word_at integer_of) _ reads_integer
    (λ coeff. reads_on _ (Word IsSimplex) _ (word_at simplex_of) _ reads_simplex (λ simplex. reads_end (record { coeff = coeff; simplex = simplex })))

pub term_shorter : Shorter (part_at term_at)
term_shorter = part_shorter TermBehind term_at reads_term

abbrev TermsBehind : List Run → ChainText → Type 0
TermsBehind = TermBehind ▷ λ first. Until (closing ∷ []) IsTerm ▷ λ more. Done (chains.Terms (first ∷ more))

reads_terms : Lines TermsBehind terms_at
unfolding terms_at
reads_terms = reads_on _ TermBehind _ term_at _ reads_term
    (λ first. reads_on _ (Until (closing ∷ []) IsTerm) _ (until_at (part_at term_at)) _ (reads_until_end TermBehind term_at reads_term) (λ more. reads_done _ always (chains.Terms (first ∷ more))))

abbrev ChainBehind : Bool → List Run → ChainText → Type 0
ChainBehind true = TermsBehind
ChainBehind false = Closing chains.Zero

reads_chain_behind : (some : Bool) → Lines (ChainBehind some) (chain_behind_at some)
unfolding chain_behind_at
reads_chain_behind true = reads_terms
reads_chain_behind false = reads_end chains.Zero

to_chain : (some : Bool) (front back rs : List Run) (run : Run) (c : ChainText) → rs ≡ front ++ back → front ≡ run ∷ [] → IsSome run some → ChainBehind some back c → IsChain rs c
to_chain true front back rs run c e only is t =
    inr (record {
      value = t.value;
      front = front ++ t.front;
      back = t.back;
      whole = e ∙ ap (λ (x : List Run). front ++ x) t.whole ∙ sym (append_assoc front t.front t.back);
      first = record { value = tt; front = front; back = t.front; whole = refl; first = only ∙ ap (λ (r : Run). r ∷ []) is; second = t.first };
      second = t.second;
    })
to_chain false front back rs run c e only is t = inl (record { value = tt; front = front; back = back; whole = e; first = only ∙ ap (λ (r : Run). r ∷ []) is; second = t })

from_chain : (rs : List Run) (c : ChainText) → IsChain rs c → (Word IsSome ▷ ChainBehind) rs c
from_chain rs c (inl t) = record { value = false; front = t.front; back = t.back; whole = t.whole; first = record { run = codes "0"; only = t.first; means = refl }; second = t.second }
from_chain rs c (inr t) =
    let u = t.first in
    record {
      value = true;
      front = u.front;
      back = u.back ++ t.back;
      whole = t.whole ∙ ap (λ (x : List Run). x ++ t.back) u.whole ∙ append_assoc u.front u.back t.back;
      first = record { run = opening; only = u.first; means = refl };
      second = record { value = t.value; front = u.back; back = t.back; whole = refl; first = u.second; second = t.second };
    }

pub reads_chain : Lines IsChain chain_at
unfolding chain_at
reads_chain = reads_as _ always _ _ _ (λ rs c t. to_chain t.value t.front t.back rs t.first.run c t.whole t.first.only t.first.means t.second) from_chain
    (reads_on _ (Word IsSome) ChainBehind (word_at chain_of) (λ some. chain_behind_at some.0 some.1) (reads_word IsSome chain_of judging_chain) reads_chain_behind)

-- ---- the loop over terms

pub as_chain : (r : Reading (List TermText)) (front : List TermText) (x : TermText) (none : List TermText) (terms : List TermText) (rest : List ℕ) → none ≡ [] → front ≡ none ++ x ∷ [] → with_front front r ≡ Ok (terms, rest) → (r >>= λ more. Ok (chains.Terms (x ∷ more.0), more.1)) ≡ Ok (chains.Terms terms, rest)
as_chain (Ok y) front x none terms rest n f e =
    let h = sym (from_first (Ok y) front x none n f) ∙ e in
    let p = ok_parts (x ∷ y.0) terms y.1 rest h in
    rw (p.0, p.1) refl
as_chain (Err left) front x none terms rest n f e = absurd (let h = sym (from_first (Err left) front x none n f) ∙ e in cc)

pub chain_fails : (stop : Stop) (r : Reading (List TermText)) (front : List TermText) (x : TermText) (none : List TermText) → none ≡ [] → front ≡ none ++ x ∷ [] → Fails stop (with_front front r) → Fails stop (r >>= λ more. Ok (chains.Terms (x ∷ more.0), more.1))
chain_fails stops.Memory r front x none n f e = tt
chain_fails (stops.Fault left) (Ok y) front x none n f e = absurd (let h = sym (from_first (Ok y) front x none n f) ∙ e in cc)
chain_fails (stops.Fault left) (Err own) front x none n f e = let h = sym (from_first (Err own) front x none n f) ∙ e in let same : own ≡ left = cc in ap Err same
