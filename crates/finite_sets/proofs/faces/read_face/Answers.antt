use Rattle.std.proofs.Common.{◌≡◌, ◌+◌, ◌-◌, ◌<◌, [], length, sym, ◌∙◌, ap, subst, arith, true≢false}
use Rattle.std.specs.Option.{option_copied}
use Rattle.std.proofs.lemmas.List.{length-map}
use Rattle.spaces.specs.Tables.{Row as TableRow, row_at}
use Rattle.term_lang.specs.declared.texts.FaceText.{FaceText}
use Rattle.term_lang.specs.declared.texts.RowText.{RowText}
use Rattle.finite_sets.specs.Meaning.{place_of, text_at, face_at, row_meant, meaning_of}
use Rattle.finite_sets.specs.Faults.{is_word}
use Rattle.finite_sets.specs.Progress.{place_in}
use Rattle.finite_sets.proofs.Entries.{got, entry-get}
use Rattle.finite_sets.proofs.WordTests.{Decides-is_word}
use Rattle.finite_sets.proofs.FaceFaults.{face_unknown, place_known, bad_face, good_face, row_built}
use Rattle.finite_sets.proofs.faces.read_face.Goals.{After-unwrap-row, After-unwrap-text, After-len-degree, After-as_slice, After-unwrap, then-dim-degree-via-then-dim-degree, then-dim-degree-via-else-dim-degree+then-degree-dim}
use Rattle.finite_sets.proofs.faces.read_face.Goals as goal

row-is : (c : After-unwrap-row) → text_at c.args.texts.now c.args.r ≡ c.unwrap-row.result.now
row-is c = entry-get (record { name = []; faces = [] }) c.args.texts.now c.args.r c.unwrap-row.result.now (got c.get.result c.unwrap-row.result _ c.get.ensures.value c.unwrap-row.ensures)

text-is : (c : After-unwrap-text) → face_at (text_at c.args.texts.now c.args.r) c.args.i ≡ c.unwrap-text.result.now
text-is c =
    ap (λ (row : RowText). face_at row c.args.i) (row-is (goal.at.After-unwrap-text c).After-unwrap-row)
    ∙ entry-get (record { word = []; name = [] }) c.unwrap-row.result.now.faces c.args.i c.unwrap-text.result.now (got c.get-2.result c.unwrap-text.result _ c.get-2.ensures.value c.unwrap-text.ensures)

pub unwrap-text-requires : goal.unwrap-text-requires
unwrap-text-requires c =
    let e = ap (λ (row : RowText). length row.faces) (row-is (goal.at.unwrap-text-requires c).After-unwrap-row) in
    c.get-2.ensures.within.1 (subst (λ n. c.args.i < n) e c.requires.face)

pub overflow_sub-degree : goal.overflow_sub-degree
overflow_sub-degree c =
    let e = ap (λ (row : RowText). length row.faces) (row-is (goal.at.overflow_sub-degree c).After-unwrap-row) in omega (arith, e)

pub returns-in_default-clause-err : goal.returns-in_default-clause-err
returns-in_default-clause-err c =
    let t = text-is (goal.at.returns-in_default-clause-err c).After-unwrap-text in
    face_unknown c.args.texts.now c.args.r c.args.i c.args.built.now c.args.places.now c.requires.built
    (ap (λ (f : FaceText). place_in c.args.places.now f.name) t ∙ sym c.get-3.ensures.value ∙ ap option_copied c.in_default.is)

pub degens_below-requires : goal.degens_below-requires
degens_below-requires c =
    let e = ap (λ (row : RowText). length row.faces) (row-is (goal.at.degens_below-requires c).After-unwrap-row) in omega (arith, e)

known : (c : After-as_slice) → (place_of c.args.texts.now (face_at (text_at c.args.texts.now c.args.r) c.args.i).name < c.args.r) × (place_of c.args.texts.now (face_at (text_at c.args.texts.now c.args.r) c.args.i).name ≡ c.in-Some.place.now)
known c =
    let t = text-is (goal.at.After-as_slice c).After-unwrap-text in
    place_known c.args.texts.now c.args.r c.args.i c.args.built.now c.args.places.now c.requires.built c.in-Some.place.now
    (ap (λ (f : FaceText). place_in c.args.places.now f.name) t ∙ sym c.get-3.ensures.value ∙ ap option_copied c.in-Some.is)

many : (c : After-len-degree) → length (text_at c.args.texts.now c.args.r).faces ≡ c.len-degree.result
many c = ap (λ (row : RowText). length row.faces) (row-is (goal.at.After-len-degree c).After-unwrap-row) ∙ sym c.len-degree.ensures

word-is : (c : After-as_slice)
    → is_word (c.len-degree.result - 2) c.as_slice.result.now
    ≡ is_word (length (text_at c.args.texts.now c.args.r).faces - 2) (face_at (text_at c.args.texts.now c.args.r) c.args.i).word
word-is c =
    let t = text-is (goal.at.After-as_slice c).After-unwrap-text in
    let m = many (goal.at.After-as_slice c).After-len-degree in
    let w : c.as_slice.result.now ≡ (face_at (text_at c.args.texts.now c.args.r) c.args.i).word = c.as_slice.ensures ∙ sym (ap (λ (f : FaceText). f.word) t) in
    λ k. is_word (sym m k - 2) (w k)

dim-is : (c : After-unwrap)
    → (row_at (meaning_of c.args.texts.now) (place_of c.args.texts.now (face_at (text_at c.args.texts.now c.args.r) c.args.i).name)).dim ≡ c.unwrap.result.now.dim
dim-is c =
    let k = known (goal.at.After-unwrap c).After-as_slice in
    let e = row_built c.args.texts.now c.args.r c.args.built.now c.args.places.now c.requires.built c.in-Some.place.now c.unwrap.result.now (subst (λ p. p < c.args.r) k.1 k.0)
    (got c.get-4.result c.unwrap.result _ c.get-4.ensures.value c.unwrap.ensures) in
    ap (λ p. (row_at (meaning_of c.args.texts.now) p).dim) k.1 ∙ ap (λ (row : TableRow). row.dim) e

pub returns-in_default-degens_below-clause-err : goal.returns-in_default-degens_below-clause-err
returns-in_default-degens_below-clause-err c =
    let k = known (goal.at.returns-in_default-degens_below-clause-err c).After-as_slice in
    let e = word-is (goal.at.returns-in_default-degens_below-clause-err c).After-as_slice in
    bad_face c.args.texts.now c.args.r c.args.i k.0
    (λ is. true≢false (sym ((Decides-is_word _ _).1 is.word) ∙ sym e ∙ sym c.in_default-degens_below.ensures.some))

pub returns-then-dim-degree-clause-err : goal.returns-then-dim-degree-clause-err
returns-then-dim-degree-clause-err c =
    let k = known (goal.at.returns-then-dim-degree-clause-err c).After-as_slice in
    let d = dim-is (goal.at.returns-then-dim-degree-clause-err c).After-unwrap in
    let m = many (goal.at.returns-then-dim-degree-clause-err c).After-len-degree in
    let t = ap (λ (f : FaceText). length f.word) (text-is (goal.at.returns-then-dim-degree-clause-err c).After-unwrap-text) in
    bad_face c.args.texts.now c.args.r c.args.i k.0
    (λ is.
    let s : (row_at (meaning_of c.args.texts.now) (place_of c.args.texts.now (face_at (text_at c.args.texts.now c.args.r) c.args.i).name)).dim
    + length (face_at (text_at c.args.texts.now c.args.r) c.args.i).word
    ≡ length (text_at c.args.texts.now c.args.r).faces - 2 = is.degree in
    let n : ⊥ =
    elim c.then-dim-degree.branch [
      | then-dim-degree-via-then-dim-degree w ↦ omega (arith, s, d, m, t)
      | then-dim-degree-via-else-dim-degree+then-degree-dim w ↦ omega (arith, s, d, m, t)
    ] in n)

pub returns-clause-none : goal.returns-clause-none
returns-clause-none c =
    let k = known (goal.at.returns-clause-none c).After-as_slice in
    let e = word-is (goal.at.returns-clause-none c).After-as_slice in
    let d = dim-is (goal.at.returns-clause-none c).After-unwrap in
    let m = many (goal.at.returns-clause-none c).After-len-degree in
    let t = ap (λ (f : FaceText). length f.word) (text-is (goal.at.returns-clause-none c).After-unwrap-text) in
    let l = length-map c.args.texts.now (row_meant c.args.texts.now) in
    good_face c.args.texts.now c.args.r c.args.i k.0 (record {
      row = omega (arith, k, l);
      degree = omega (arith, d, m, t);
      word = (Decides-is_word _ _).0 (sym e ∙ sym c.in-Some-degens_below.ensures.some);
    })

pub returns-clause-ok : goal.returns-clause-ok
returns-clause-ok c =
    let k = known (goal.at.returns-clause-ok c).After-as_slice in
    let t = text-is (goal.at.returns-clause-ok c).After-unwrap-text in
    let w = c.in-Some-degens_below.ensures.word ∙ c.as_slice.ensures ∙ sym (ap (λ (f : FaceText). f.word) t) in
    λ i. (w i, sym k.1 i)
