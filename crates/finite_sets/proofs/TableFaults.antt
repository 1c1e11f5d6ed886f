-- The rows mean a table exactly where they have no fault.
use Rattle.std.proofs.Common.{◌≡◌, ℕ, zero, suc, ◌-◌, ◌<◌, ◌≤◌, ◌⊎◌, inl, inr, true, ◌||◌, List, [], ◌∷◌, length, Some, None, refl, sym, ◌∙◌, ap, subst, arith, true≢false}
use Rattle.std.specs.List.{list_any}
use Rattle.std.proofs.lemmas.Bool.{cases_lt}
use Rattle.std.proofs.lemmas.List.{length-map}
use Rattle.simp_ops.proofs.PlacesOf.{is_eq}
use Rattle.spaces.specs.Tables.{Table, RowSimplex, row_at, listed_face, row_face, InTable}
use Rattle.spaces.specs.Allowed.{IsTable, face_count}
use Rattle.term_lang.specs.declared.texts.RowText.{RowText}
use Rattle.finite_sets.specs.declared.faults.TableFault.{TableFault}
use Rattle.finite_sets.specs.Meaning.{place_of, text_at, face_at, face_meant, row_meant, meaning_of}
use Rattle.finite_sets.specs.Faults.{is_vertex, first_below, own_fault, law_fault, list_fault, row_fault, fault_of}
use Rattle.finite_sets.proofs.FirstFault.{or_else-none, none_both, or_else-some, or_else-second, first_below-none, none_below, first_below-found}
use Rattle.finite_sets.proofs.ListFault.{list_faultless, no_list_fault}
use Rattle.finite_sets.proofs.PlaceOf.{place-named, place-own}
use Rattle.finite_sets.proofs.FaceFaults.{good_face}
use Rattle.finite_sets.proofs.OwnFaults.{OwnHolds, own_holds, no_own_fault, row-meant, many-meant, dim-meant, listed-meant, counted, low_dim, listed_before, listed_in}
use Rattle.finite_sets.proofs.RowLaws.{law_told, no_law_fault}

some_text : (texts : List RowText) → list_any is_vertex texts ≡ true → 0 < length texts
some_text [] e = absurd (true≢false (sym e))
some_text (row ∷ texts) e = omega arith

pub row_faultless : (texts : List RowText) (r : ℕ) → row_fault texts r ≡ None → (own_fault texts r ≡ None) × (law_fault (meaning_of texts) r ≡ None)
unfolding row_fault
row_faultless texts r e = or_else-none (own_fault texts r) (law_fault (meaning_of texts) r) e

pub no_row_fault : (texts : List RowText) (r : ℕ) → own_fault texts r ≡ None → law_fault (meaning_of texts) r ≡ None → row_fault texts r ≡ None
unfolding row_fault
no_row_fault texts r e l = none_both (own_fault texts r) (law_fault (meaning_of texts) r) e l

pub no_fault : (texts : List RowText) → list_fault texts ≡ None → first_below (length texts) (row_fault texts) ≡ None → fault_of texts ≡ None
unfolding fault_of
no_fault texts e l = none_both (list_fault texts) (first_below (length texts) (row_fault texts)) e l

-- the first fault of the list, and of a row
pub list_first : (texts : List RowText) (x : TableFault) → list_fault texts ≡ Some x → fault_of texts ≡ Some x
unfolding fault_of
list_first texts x e = or_else-some (list_fault texts) (first_below (length texts) (row_fault texts)) x e

row_first : (texts : List RowText) (r : ℕ) (x : TableFault) → list_fault texts ≡ None → r < length texts → first_below r (row_fault texts) ≡ None → row_fault texts r ≡ Some x
    → fault_of texts ≡ Some x
unfolding fault_of
row_first texts r x e h l f =
    or_else-second (list_fault texts) (first_below (length texts) (row_fault texts)) e ∙ first_below-found (length texts) r (row_fault texts) x h l f

pub own_first : (texts : List RowText) (r : ℕ) (x : TableFault) → list_fault texts ≡ None → r < length texts → first_below r (row_fault texts) ≡ None → own_fault texts r ≡ Some x
    → fault_of texts ≡ Some x
unfolding row_fault
own_first texts r x e h l f = row_first texts r x e h l (or_else-some (own_fault texts r) (law_fault (meaning_of texts) r) x f)

pub law_first : (texts : List RowText) (r : ℕ) (x : TableFault) → list_fault texts ≡ None → r < length texts → first_below r (row_fault texts) ≡ None → own_fault texts r ≡ None
    → law_fault (meaning_of texts) r ≡ Some x → fault_of texts ≡ Some x
unfolding row_fault
law_first texts r x e h l f g = row_first texts r x e h l (or_else-second (own_fault texts r) (law_fault (meaning_of texts) r) f ∙ g)

faultless : (texts : List RowText) → fault_of texts ≡ None → (list_fault texts ≡ None) × (first_below (length texts) (row_fault texts) ≡ None)
unfolding fault_of
faultless texts e = or_else-none (list_fault texts) (first_below (length texts) (row_fault texts)) e

module _ (texts : List RowText) where
  abbrev t : Table
  t = meaning_of texts

  long : length (meaning_of texts) ≡ length texts
  long = length-map texts (row_meant texts)

  pub table_from : fault_of texts ≡ None → IsTable (meaning_of texts)
  table_from e =
      let p = faultless texts e in
      let q = list_faultless texts p.0 in
      let some : 0 < length texts = some_text texts q.1 in
      let none = first_below-none (length texts) (row_fault texts) p.1 in
      record {
        some_row = omega (arith, some, long);
        at_most = omega (arith, q.0, long);
        low = λ r h. low_dim texts r (inside r h) (own none r (inside r h));
        names_differ = λ r s h l f. sym (place none r (inside r h)) ∙ ap (place_of texts) (sym (name r (inside r h)) ∙ f ∙ name s (inside s l)) ∙ place none s (inside s l);
        earlier = λ r i h l. listed_before texts r (inside r h) (own none r (inside r h)) i (subst (λ n. i < n) (many-meant texts r (inside r h)) l);
        faces = record {
          counted = λ r h. counted texts r (inside r h) (own none r (inside r h));
          faces_in = λ r n i h d l. listed_in texts r (inside r h) (own none r (inside r h)) n i d l;
          face_law = λ r n i j h d l k.
              let g : suc i - 1 ≡ i = omega arith in
              law_told t r (row_faultless texts r (none r (inside r h))).1 j (suc i) (omega (arith, d)) (omega arith) (omega (arith, d))
              ∙ ap (λ m. row_face t m (row_face t j ([], r))) g;
        };
      }
    where
      inside : (r : ℕ) → r < length (meaning_of texts) → r < length texts
      inside r h = omega (arith, long)

      own : ((r : ℕ) → r < length texts → row_fault texts r ≡ None) → (r : ℕ) → r < length texts → OwnHolds texts r
      own none r h = own_holds texts r (row_faultless texts r (none r h)).0

      place : ((r : ℕ) → r < length texts → row_fault texts r ≡ None) → (r : ℕ) → r < length texts → place_of texts (text_at texts r).name ≡ r
      place none r h = place-own texts r h (own none r h).fresh

      name : (r : ℕ) → r < length texts → (row_at (meaning_of texts) r).name ≡ (text_at texts r).name
      name r h = ap (λ row. row.name) (row-meant texts r h)

  module _ (is : IsTable (meaning_of texts)) where
    own : (r : ℕ) → r < length texts → OwnHolds texts r
    own r h = record {
      fresh = fresh (cases_lt (place_of texts (text_at texts r).name) r);
      count = count (length (text_at texts r).faces) (sym (many-meant texts r h) ∙ is.counted r inside ∙ ap face_count (dim-meant texts r h)) (subst (λ d. d ≤ 16) (dim-meant texts r h) (is.low r inside));
      face = λ i l.
          let e = listed-meant texts r i h l in
          let b : i < length (row_at t r).faces = subst (λ n. i < n) (sym (many-meant texts r h)) l in
          good_face texts r i (subst (λ (x : RowSimplex). x.1 < r) e (is.earlier r i inside b)) (face i l e);
    }
      where
        inside : r < length (meaning_of texts)
        inside = omega (arith, long)

        fresh : (place_of texts (text_at texts r).name < r) ⊎ (r ≤ place_of texts (text_at texts r).name) → r ≤ place_of texts (text_at texts r).name
        fresh (inr l) = l
        fresh (inl l) =
            let s = place_of texts (text_at texts r).name in
            let b : s < length texts = omega arith in
            let e : (row_at t s).name ≡ (row_at t r).name =
            ap (λ row. row.name) (row-meant texts s b) ∙ place-named texts (text_at texts r).name b ∙ sym (ap (λ row. row.name) (row-meant texts r h)) in
            let f : s ≡ r = is.names_differ s r (omega (arith, long)) inside e in omega (arith, f)

        count : (n : ℕ) → n ≡ face_count (n - 1) → n - 1 ≤ 16 → (n ≡ 0) ⊎ ((2 ≤ n) × (n ≤ 17))
        count zero e l = inl refl
        count (suc zero) e l = let f : 1 ≡ 0 = e in absurd (omega (arith, f))
        count (suc (suc k)) e l = inr (omega arith, omega arith)

        face : (i : ℕ) → i < length (text_at texts r).faces → listed_face (meaning_of texts) i r ≡ face_meant texts (face_at (text_at texts r) i)
            → InTable (meaning_of texts) (length (text_at texts r).faces - 2) (face_meant texts (face_at (text_at texts r) i))
        face i l e =
            let n = length (text_at texts r).faces in
            let m = count n (sym (many-meant texts r h) ∙ is.counted r inside ∙ ap face_count (dim-meant texts r h)) (subst (λ d. d ≤ 16) (dim-meant texts r h) (is.low r inside)) in
            let two : 2 ≤ n = elim m [ inl z ↦ absurd (omega (arith, z)) | inr z ↦ z.0 ] in
            let d : (row_at t r).dim ≡ suc (n - 2) = dim-meant texts r h ∙ (omega arith) in
            subst (InTable (meaning_of texts) (n - 2)) e (is.faces_in r (n - 2) i inside d (omega arith))

    law : (r : ℕ) → r < length texts → law_fault (meaning_of texts) r ≡ None
    law r h = no_law_fault t r (λ i j above l k.
        let n = (row_at t r).dim - 2 in
        let d : (row_at t r).dim ≡ suc (suc n) = omega arith in
        let m : suc (j - 1) ≡ j = omega arith in
        subst (λ b. row_face t i (row_face t b ([], r)) ≡ row_face t (j - 1) (row_face t i ([], r))) m
        (is.face_law r n (j - 1) i (omega (arith, long)) d (omega arith) (omega (arith, d))))

    vertex : (rows : List RowText) → 0 < length rows → length (text_at rows 0).faces ≡ 0 → list_any is_vertex rows ≡ true
    vertex [] h e = absurd (omega arith)
    vertex (row ∷ rows) h e = ap (λ b. b || list_any is_vertex rows) (is_eq (length row.faces) 0 e)

    first : 0 < length texts → length (text_at texts 0).faces ≡ 0
    first h = by (cases_lt 0 (length (text_at texts 0).faces))
      where
        by : (0 < length (text_at texts 0).faces) ⊎ (length (text_at texts 0).faces ≤ 0) → length (text_at texts 0).faces ≡ 0
        by (inl l) = let b = is.earlier 0 0 (omega (arith, long)) (subst (λ n. 0 < n) (sym (many-meant texts 0 h)) l) in absurd (omega (arith, b))
        by (inr l) = omega arith

    pub faultless_from : fault_of texts ≡ None
    faultless_from =
        let some : 0 < length texts = omega (arith, is.some_row, long) in
        let few : length texts ≤ 256 = omega (arith, is.at_most, long) in
        no_fault texts (no_list_fault texts few (vertex texts some (first some)))
        (none_below (length texts) (row_fault texts) (λ r h. no_row_fault texts r (no_own_fault texts r (own r h)) (law r h)))
