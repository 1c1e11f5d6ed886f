use Rattle.std.proofs.Common.{◌≡◌, ◌-◌, ◌<◌, ◌≤◌, ◌⊎◌, inl, inr, [], length, is_some, sym, ◌∙◌, ap, arith}
use Rattle.std.proofs.lemmas.Result.{err_from_is_err_and}
use Rattle.term_lang.specs.declared.texts.RowText.{RowText}
use Rattle.finite_sets.specs.Meaning.{place_of, text_at}
use Rattle.finite_sets.specs.Faults.{is_before}
use Rattle.finite_sets.specs.Progress.{place_in}
use Rattle.finite_sets.proofs.Entries.{got, entry-get}
use Rattle.finite_sets.proofs.PlaceOf.{some-place, earlier_told, fresh_told}
use Rattle.finite_sets.proofs.OwnFaults.{not_count, count_from, duplicate, bad_count, own_faces}
use Rattle.finite_sets.proofs.tables.read_row.Goals.{After-contains_key, After-len-count, then-count-eq1-via-then-count-eq1, then-count-eq1-via-else-count-eq1+then-count-gt17}
use Rattle.finite_sets.proofs.tables.read_row.Goals as goal

row-is : (c : After-contains_key) → text_at c.args.texts.now c.args.r ≡ c.unwrap-text.result.now
row-is c =
    entry-get (record { name = []; faces = [] }) c.args.texts.now c.args.r c.unwrap-text.result.now (got c.get.result c.unwrap-text.result _ c.get.ensures.value c.unwrap-text.ensures)

before : (c : After-contains_key) → is_before c.args.texts.now c.args.r (text_at c.args.texts.now c.args.r).name ≡ c.contains_key.result
before c =
    let name = (text_at c.args.texts.now c.args.r).name in
    sym (some-place c.args.texts.now c.args.r name) ∙ ap is_some (sym (c.requires.built.named name))
    ∙ ap (λ (row : RowText). is_some (place_in c.args.places.now row.name)) (row-is c) ∙ sym c.contains_key.ensures

many : (c : After-len-count) → length (text_at c.args.texts.now c.args.r).faces ≡ c.len-count.result
many c = ap (λ (row : RowText). length row.faces) (row-is (goal.at.After-len-count c).After-contains_key) ∙ sym c.len-count.ensures

fresh : (c : After-len-count) → c.args.r ≤ place_of c.args.texts.now (text_at c.args.texts.now c.args.r).name
fresh c =
    fresh_told c.args.texts.now c.args.r (text_at c.args.texts.now c.args.r).name (before (goal.at.After-len-count c).After-contains_key ∙ c.if-contains_key.false)

pub returns-then-contains_key-clause-err : goal.returns-then-contains_key-clause-err
returns-then-contains_key-clause-err c = λ _.
    let b = before (goal.at.returns-then-contains_key-clause-err c).After-contains_key ∙ c.if-contains_key.true in
    duplicate c.args.texts.now c.args.r (earlier_told c.args.texts.now c.args.r (text_at c.args.texts.now c.args.r).name b)

pub returns-then-count-eq1-clause-err : goal.returns-then-count-eq1-clause-err
returns-then-count-eq1-clause-err c = λ _.
    let m = many (goal.at.returns-then-count-eq1-clause-err c).After-len-count in
    let n = length (text_at c.args.texts.now c.args.r).faces in
    let bad : (n ≡ 1) ⊎ (17 < n) =
    elim c.then-count-eq1.branch [
      | then-count-eq1-via-then-count-eq1 w ↦ inl (omega (arith, m))
      | then-count-eq1-via-else-count-eq1+then-count-gt17 w ↦ inr (omega (arith, m))
    ] in
    bad_count c.args.texts.now c.args.r (fresh (goal.at.returns-then-count-eq1-clause-err c).After-len-count) (not_count n bad)

pub read_faces-requires-clause-some : goal.read_faces-requires-clause-some
read_faces-requires-clause-some c = λ e. let m = many (goal.at.read_faces-requires-clause-some c).After-len-count in omega (arith, m, e)

pub read_faces-requires-clause-most : goal.read_faces-requires-clause-most
read_faces-requires-clause-most c = let m = many (goal.at.read_faces-requires-clause-most c).After-len-count in omega (arith, m)

pub returns-in_err-read_faces-clause-err : goal.returns-in_err-read_faces-clause-err
returns-in_err-read_faces-clause-err c =
    let m = many (goal.at.returns-in_err-read_faces-clause-err c).After-len-count in
    let f = fresh (goal.at.returns-in_err-read_faces-clause-err c).After-len-count in
    let n = length (text_at c.args.texts.now c.args.r).faces in
    let p = err_from_is_err_and c.from_residual.result c.from_residual.ensures.1 in
    rw (p.1, p.2)
    (λ other. own_faces c.args.texts.now c.args.r f (count_from n (λ e. omega (arith, m, e)) (omega (arith, m))) ∙ c.in_err-read_faces.ensures.err other)

pub returns-clause-none : goal.returns-clause-none
returns-clause-none c =
    let m = many (goal.at.returns-clause-none c).After-len-count in
    let f = fresh (goal.at.returns-clause-none c).After-len-count in
    let n = length (text_at c.args.texts.now c.args.r).faces in
    own_faces c.args.texts.now c.args.r f (count_from n (λ e. omega (arith, m, e)) (omega (arith, m))) ∙ c.in_ok-read_faces.ensures.none

pub returns-clause-ok : goal.returns-clause-ok
returns-clause-ok c =
    let m = many (goal.at.returns-clause-ok c).After-len-count in
    let e = row-is (goal.at.returns-clause-ok c).After-contains_key in
    let d = c.saturating_sub.ensures ∙ ap (λ n. n - 1) (sym m) in
    λ i. record { name = (sym e i).name; dim = d i; faces = c.in_ok-read_faces.ensures.ok i }
