-- One more row is built.
use Rattle.std.proofs.Common.{◌≡◌, ℕ, suc, ◌+◌, ◌<◌, ◌≤◌, ◌⊎◌, inl, inr, cond, List, [], ◌∷◌, ◌++◌, length, take, Some, None, refl, sym, ◌∙◌, ap, subst, arith}
use Rattle.std.specs.Ordering.{is_eq, nat_cmp}
use Rattle.std.specs.Cmp.Lexicographic.{slice_cmp}
use Rattle.std.specs.Map.{lookup}
use Rattle.std.specs.BTreeMap.{is_at}
use Rattle.std.proofs.lemmas.Bool.{cases_lt}
use Rattle.std.proofs.lemmas.List.{length-map, length-take-le, map_push, take_more, take_all}
use Rattle.simp_ops.proofs.PlacesOf.{not_lt}
use Rattle.spaces.specs.Tables.{Table, Row as TableRow, row_face, InTable}
use Rattle.spaces.specs.Allowed.{IsTable, face_count}
use Rattle.term_lang.specs.declared.tables.Row.{Row}
use Rattle.term_lang.specs.declared.texts.RowText.{RowText}
use Rattle.term_lang.specs.Rows.{rows_of, row_of}
use Rattle.finite_sets.specs.Meaning.{place_of, text_at, row_meant, meaning_of}
use Rattle.finite_sets.specs.Faults.{first_below, own_fault, law_fault, list_fault, row_fault, fault_of}
use Rattle.finite_sets.specs.Progress.{Places, place_in, IsBuilt, HasSimplices}
use Rattle.finite_sets.proofs.Entries.{entry-get_or}
use Rattle.finite_sets.proofs.FirstFault.{first_below-none, none_more}
use Rattle.finite_sets.proofs.ListFault.{list_faultless}
use Rattle.finite_sets.proofs.PlaceOf.{place_before-more}
use Rattle.finite_sets.proofs.OwnFaults.{OwnHolds, own_holds, row-meant, counted, low_dim, listed_up_to, listed_in}
use Rattle.finite_sets.proofs.Prefix.{row-take, face-take, in_take, law_fault-take}
use Rattle.finite_sets.proofs.TableFaults.{row_faultless, no_row_fault, no_fault, table_from}

pub nothing_built : (texts : List RowText) (built : List Row) (places : Places) → list_fault texts ≡ None → built ≡ [] → places.entries ≡ [] → IsBuilt texts 0 built places
nothing_built texts built places e b p = record {
  few = (list_faultless texts e).0;
  within = omega arith;
  faultless = refl;
  rows = ap rows_of b;
  named = λ name.
      ap (lookup (is_at (slice_cmp nat_cmp name))) p ∙ sym (ap (λ c. cond c (Some (place_of texts name)) None) (not_lt (place_of texts name) 0 (omega arith)));
}

module _ (texts : List RowText) (r : ℕ) (built : List Row) (places : Places) (is : IsBuilt texts r built places) (h : r < length texts) (own : own_fault texts r ≡ None) where
  abbrev t : Table
  t = meaning_of texts

  inside : suc r ≤ length (meaning_of texts)
  inside = omega (arith, length-map texts (row_meant texts))

  owns : (s : ℕ) → s < suc r → OwnHolds texts s
  owns s l = by (cases_lt s r)
    where
      by : (s < r) ⊎ (r ≤ s) → OwnHolds texts s
      by (inl g) = own_holds texts s (row_faultless texts s (first_below-none r (row_fault texts) is.faultless s g)).0
      by (inr g) = let e : r ≡ s = omega arith in own_holds texts s (subst (λ k. own_fault texts k ≡ None) e own)

  first_rows : HasSimplices (take (suc r) (meaning_of texts))
  first_rows = record {
    counted = λ s l.
        let g = below s l in
        ap (λ (row : TableRow). length row.faces) (row-take t (suc r) inside s g) ∙ counted texts s (omega arith) (owns s g)
        ∙ ap (λ (row : TableRow). face_count row.dim) (sym (row-take t (suc r) inside s g));
    low = λ s l. let g = below s l in subst (λ (row : TableRow). row.dim ≤ 16) (sym (row-take t (suc r) inside s g)) (low_dim texts s (omega arith) (owns s g));
    faces_in = λ s n i l d k.
        let g = below s l in
        let b = listed_up_to texts s (omega arith) (owns s g) i in
        subst (InTable (take (suc r) t) n) (sym (face-take t (suc r) inside i ([], s) g))
        (in_take t (suc r) inside n (row_face t i ([], s)) (omega (arith, b))
        (listed_in texts s (omega arith) (owns s g) n i (sym (ap (λ (row : TableRow). row.dim) (row-take t (suc r) inside s g)) ∙ d) k));
  }
    where
      below : (s : ℕ) → s < length (take (suc r) (meaning_of texts)) → s < suc r
      below s l = omega (arith, length-take-le (suc r) (meaning_of texts) inside)

  module _ (row : Row) (more : List Row) (meant : row_of row ≡ row_meant texts (text_at texts r)) (pushed : more ≡ built ++ row ∷ []) where
    pub rows-pushed : rows_of more ≡ take (suc r) (meaning_of texts)
    rows-pushed =
        let d : TableRow = record { name = []; dim = 0; faces = [] } in
        let next : r + 1 ≡ suc r = omega arith in
        ap rows_of pushed ∙ map_push row_of built row ∙ (λ i. is.rows i ++ (meant ∙ sym (row-meant texts r h) ∙ sym (entry-get_or d t r)) i ∷ [])
        ∙ sym (take_more t r d (omega (arith, inside))) ∙ ap (λ k. take k t) next

    pub simplices_pushed : HasSimplices (rows_of more)
    simplices_pushed = subst HasSimplices (sym rows-pushed) first_rows

    pub law-pushed : law_fault (rows_of more) r ≡ law_fault (meaning_of texts) r
    law-pushed = ap (λ u. law_fault u r) rows-pushed ∙ law_fault-take t r (omega (arith, inside)) (listed_up_to texts r h (owns r (omega arith)))

    pub one_more : (after : Places) → law_fault (rows_of more) r ≡ None
        → ((name : List ℕ) → place_in after name ≡ cond (is_eq (slice_cmp nat_cmp row.name name)) (Some r) (place_in places name)) → IsBuilt texts (r + 1) more after
    one_more after law up =
        let next : suc r ≡ r + 1 = omega arith in
        let named : row.name ≡ (text_at texts r).name = ap (λ (row : TableRow). row.name) meant in
        subst (λ k. IsBuilt texts k more after) next (record {
          few = is.few;
          within = omega arith;
          faultless = none_more r (row_fault texts) is.faultless (no_row_fault texts r own (sym law-pushed ∙ law));
          rows = rows-pushed;
          named = λ name.
              up name ∙ (λ i. cond (is_eq (slice_cmp nat_cmp (named i) name)) (Some r) (is.named name i))
              ∙ sym (place_before-more texts r h (owns r (omega arith)).fresh name);
        })

-- all rows are built
pub none_built : (texts : List RowText) (r : ℕ) (built : List Row) (places : Places) → IsBuilt texts r built places → list_fault texts ≡ None → length texts ≤ r → fault_of texts ≡ None
none_built texts r built places is e h =
    let end : length texts ≡ r = omega (arith, is.within) in no_fault texts e (ap (λ n. first_below n (row_fault texts)) end ∙ is.faultless)

pub all-built : (texts : List RowText) (r : ℕ) (built : List Row) (places : Places) → IsBuilt texts r built places → length texts ≤ r → rows_of built ≡ meaning_of texts
all-built texts r built places is h = is.rows ∙ take_all r (meaning_of texts) (omega (arith, length-map texts (row_meant texts)))

pub table_built : (texts : List RowText) (r : ℕ) (built : List Row) (places : Places) → IsBuilt texts r built places → list_fault texts ≡ None → length texts ≤ r → IsTable (rows_of built)
table_built texts r built places is e h = subst IsTable (sym (all-built texts r built places is h)) (table_from texts (none_built texts r built places is e h))
