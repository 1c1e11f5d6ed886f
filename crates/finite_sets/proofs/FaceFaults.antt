-- The fault of a face.
use Rattle.std.proofs.Common.{◌≡◌, ℕ, ◌-◌, ◌<◌, Bool, true, false, cond, List, [], length, Some, None, refl, sym, ◌∙◌, ap}
use Rattle.std.specs.Bool.{Decides}
use Rattle.std.specs.List.{slice_get}
use Rattle.std.proofs.lemmas.Option.{cond_some}
use Rattle.std.proofs.lemmas.Bool.Decides.{Decides-ltb}
use Rattle.simp_ops.proofs.PlacesOf.{is_lt}
use Rattle.spaces.specs.Tables.{RowSimplex, row_at, InTable}
use Rattle.term_lang.specs.declared.tables.Row.{Row}
use Rattle.term_lang.specs.declared.texts.FaceText.{FaceText}
use Rattle.term_lang.specs.declared.texts.RowText.{RowText}
use Rattle.term_lang.specs.Rows.{row_of}
use Rattle.finite_sets.specs.declared.faults.TableFault.TheVariants.{BadDimension, UnknownCell}
use Rattle.finite_sets.specs.Meaning.{place_of, text_at, face_at, face_meant, meaning_of}
use Rattle.finite_sets.specs.Faults.{Fault, unless, is_before, is_in, face_fault}
use Rattle.finite_sets.specs.Progress.{Places, place_in, IsBuilt}
use Rattle.finite_sets.proofs.FirstFault.{or_else-none, or_else-some, or_else-second, unless-none, none_unless, unless-false}
use Rattle.finite_sets.proofs.Entries.{entry-take, row_got}
use Rattle.finite_sets.proofs.WordTests.{Decides-is_in}

pub not_decided : {P : Type 0} (b : Bool) → Decides b P → (P → ⊥) → b ≡ false
not_decided true d n = absurd (n (d.0 refl))
not_decided false d n = refl

none_from : {A : Type 0} (b : Bool) (x : A) → cond b (Some x) None ≡ None → b ≡ false
none_from true x e = cc
none_from false x e = refl

-- a row that stands among those built
pub row_built : (texts : List RowText) (r : ℕ) (built : List Row) (places : Places) → IsBuilt texts r built places → (p : ℕ) (row : Row) → p < r → slice_get built p ≡ Some row
    → row_at (meaning_of texts) p ≡ row_of row
row_built texts r built places is p row h e =
    sym (entry-take (record { name = []; dim = 0; faces = [] }) (meaning_of texts) r p h) ∙ ap (λ u. row_at u p) (sym is.rows)
    ∙ row_got built p row e

module _ (texts : List RowText) (r i : ℕ) where
  abbrev text : FaceText
  text = face_at (text_at texts r) i

  abbrev meant : RowSimplex
  meant = face_meant texts text

  abbrev degree : ℕ
  degree = length (text_at texts r).faces - 2

  abbrev unknown_fault : Fault
  unknown_fault = unless (is_before texts r text.name) (UnknownCell r i)

  abbrev simplex_fault : Fault
  simplex_fault = unless (is_in (meaning_of texts) degree meant) (BadDimension r)

  pub face_unknown : (built : List Row) (places : Places) → IsBuilt texts r built places → place_in places text.name ≡ None → face_fault texts r i ≡ Some (UnknownCell r i)
  unfolding face_fault
  face_unknown built places is e =
      let b : is_before texts r text.name ≡ false = none_from (is_before texts r text.name) (place_of texts text.name) (sym (is.named text.name) ∙ e) in
      or_else-some unknown_fault simplex_fault (UnknownCell r i) (unless-false (is_before texts r text.name) (UnknownCell r i) b)

  pub place_known : (built : List Row) (places : Places) → IsBuilt texts r built places → (p : ℕ) → place_in places text.name ≡ Some p → (place_of texts text.name < r) × (place_of texts text.name ≡ p)
  place_known built places is p e =
      let b = cond_some (is_before texts r text.name) (place_of texts text.name) p (sym (is.named text.name) ∙ e) in
      ((Decides-ltb (place_of texts text.name) r).0 b.0, b.1)

  face_known : place_of texts text.name < r → face_fault texts r i ≡ simplex_fault
  unfolding face_fault
  face_known h =
      or_else-second unknown_fault simplex_fault
      (none_unless (is_before texts r text.name) (UnknownCell r i) (is_lt (place_of texts text.name) r h))

  pub bad_face : place_of texts text.name < r → (InTable (meaning_of texts) degree meant → ⊥) → face_fault texts r i ≡ Some (BadDimension r)
  bad_face h n =
      face_known h
      ∙ unless-false (is_in (meaning_of texts) degree meant) (BadDimension r)
      (not_decided (is_in (meaning_of texts) degree meant) (Decides-is_in (meaning_of texts) degree meant) n)

  pub good_face : place_of texts text.name < r → InTable (meaning_of texts) degree meant → face_fault texts r i ≡ None
  good_face h is =
      face_known h ∙ none_unless (is_in (meaning_of texts) degree meant) (BadDimension r) ((Decides-is_in (meaning_of texts) degree meant).1 is)

  pub face_faultless : face_fault texts r i ≡ None → (place_of texts text.name < r) × InTable (meaning_of texts) degree meant
  unfolding face_fault
  face_faultless e =
      let p = or_else-none unknown_fault simplex_fault e in (
        (Decides-ltb (place_of texts text.name) r).0 (unless-none (is_before texts r text.name) (UnknownCell r i) p.0),
        (Decides-is_in (meaning_of texts) degree meant).0 (unless-none (is_in (meaning_of texts) degree meant) (BadDimension r) p.1),
      )
