-- A row without a fault of its own: what its name, the number of its faces and its faces are.
use Rattle.std.proofs.Common.{◌≡◌, ℕ, zero, suc, ◌-◌, ◌<◌, ◌≤◌, ◌⊎◌, inl, inr, not, ◌&&◌, ◌==◌, nat_le, List, [], length, Some, None, refl, sym, ◌∙◌, ap, subst, arith}
use Rattle.std.specs.Bool.{Decides}
use Rattle.std.proofs.lemmas.List.{length-map}
use Rattle.std.proofs.lemmas.Bool.{cases_lt}
use Rattle.std.proofs.lemmas.Bool.Decides.{Decides-and, Decides-or, Decides-not, Decides-eqb, Decides-ltb}
use Rattle.spaces.specs.Tables.{RowSimplex, entry, row_at, listed_face, row_face, InTable}
use Rattle.spaces.specs.Allowed.{face_count}
use Rattle.term_lang.specs.declared.texts.RowText.{RowText}
use Rattle.finite_sets.specs.declared.faults.TableFault.TheVariants.{BadDimension, DuplicateCell}
use Rattle.finite_sets.specs.Meaning.{place_of, text_at, face_at, face_meant, row_meant, meaning_of}
use Rattle.finite_sets.specs.Faults.{Fault, or_else, first_below, unless, is_before, is_count, face_fault, own_fault}
use Rattle.finite_sets.proofs.FirstFault.{or_else-none, or_else-some, or_else-second, unless-none, none_unless, unless-false, first_below-none, none_below}
use Rattle.finite_sets.proofs.Entries.{entry-map, entry-past}
use Rattle.finite_sets.proofs.WordTests.{Decides-le}
use Rattle.finite_sets.proofs.FaceFaults.{not_decided, face_faultless}

pub Decides-is_count : (n : ℕ) → Decides (is_count n) ((n ≡ 0) ⊎ ((2 ≤ n) × (n ≤ 17)))
Decides-is_count n = Decides-or (n == 0) (nat_le 2 n && nat_le n 17) (Decides-eqb n 0) (Decides-and (nat_le 2 n) (nat_le n 17) (Decides-le 2 n) (Decides-le n 17))

pub not_count : (n : ℕ) → (n ≡ 1) ⊎ (17 < n) → (n ≡ 0) ⊎ ((2 ≤ n) × (n ≤ 17)) → ⊥
not_count n (inl e) (inl z) = omega (arith, e, z)
not_count n (inl e) (inr z) = omega (arith, e, z)
not_count n (inr l) (inl z) = omega (arith, l, z)
not_count n (inr l) (inr z) = omega (arith, l, z)

pub count_from : (n : ℕ) → (n ≡ 1 → ⊥) → n ≤ 17 → (n ≡ 0) ⊎ ((2 ≤ n) × (n ≤ 17))
count_from zero d l = inl refl
count_from (suc zero) d l = absurd (d refl)
count_from (suc (suc n)) d l = inr (omega arith, l)

pub Decides-is_fresh : (texts : List RowText) (r : ℕ) (name : List ℕ) → Decides (not (is_before texts r name)) (place_of texts name < r → ⊥)
Decides-is_fresh texts r name = Decides-not (is_before texts r name) (Decides-ltb (place_of texts name) r)

pub record OwnHolds (texts : List RowText) (r : ℕ) : Type 0 where
  pub fresh : r ≤ place_of texts (text_at texts r).name
  pub count : (length (text_at texts r).faces ≡ 0) ⊎ ((2 ≤ length (text_at texts r).faces) × (length (text_at texts r).faces ≤ 17))
  pub face : (i : ℕ) → i < length (text_at texts r).faces → face_fault texts r i ≡ None

module _ (texts : List RowText) (r : ℕ) where
  abbrev text : RowText
  text = text_at texts r

  abbrev many : ℕ
  many = length (text_at texts r).faces

  abbrev name_fault : Fault
  name_fault = unless (not (is_before texts r text.name)) (DuplicateCell r)

  abbrev count_fault : Fault
  count_fault = unless (is_count many) (BadDimension r)

  abbrev faces_fault : Fault
  faces_fault = first_below many (face_fault texts r)

  pub duplicate : place_of texts (text_at texts r).name < r → own_fault texts r ≡ Some (DuplicateCell r)
  unfolding own_fault
  duplicate h =
      or_else-some name_fault (or_else count_fault faces_fault) (DuplicateCell r)
      (unless-false (not (is_before texts r text.name)) (DuplicateCell r) (not_decided (not (is_before texts r text.name)) (Decides-is_fresh texts r text.name) (λ n. n h)))

  fresh_name : r ≤ place_of texts (text_at texts r).name → name_fault ≡ None
  fresh_name h = none_unless (not (is_before texts r text.name)) (DuplicateCell r) ((Decides-is_fresh texts r text.name).1 (λ l. omega arith))

  pub bad_count : r ≤ place_of texts (text_at texts r).name → ((length (text_at texts r).faces ≡ 0) ⊎ ((2 ≤ length (text_at texts r).faces) × (length (text_at texts r).faces ≤ 17)) → ⊥)
      → own_fault texts r ≡ Some (BadDimension r)
  unfolding own_fault
  bad_count h n =
      or_else-second name_fault (or_else count_fault faces_fault) (fresh_name h)
      ∙ or_else-some count_fault faces_fault (BadDimension r) (unless-false (is_count many) (BadDimension r) (not_decided (is_count many) (Decides-is_count many) n))

  pub own_faces : r ≤ place_of texts (text_at texts r).name → (length (text_at texts r).faces ≡ 0) ⊎ ((2 ≤ length (text_at texts r).faces) × (length (text_at texts r).faces ≤ 17))
      → own_fault texts r ≡ first_below (length (text_at texts r).faces) (face_fault texts r)
  unfolding own_fault
  own_faces h n =
      or_else-second name_fault (or_else count_fault faces_fault) (fresh_name h)
      ∙ or_else-second count_fault faces_fault (none_unless (is_count many) (BadDimension r) ((Decides-is_count many).1 n))

  pub own_holds : own_fault texts r ≡ None → OwnHolds texts r
  unfolding own_fault
  own_holds e =
      let p = or_else-none name_fault (or_else count_fault faces_fault) e in
      let q = or_else-none count_fault faces_fault p.1 in
      let n : place_of texts text.name < r → ⊥ = (Decides-is_fresh texts r text.name).0 (unless-none (not (is_before texts r text.name)) (DuplicateCell r) p.0) in
      record {
        fresh = omega arith;
        count = (Decides-is_count many).0 (unless-none (is_count many) (BadDimension r) q.0);
        face = first_below-none many (face_fault texts r) q.1;
      }

  pub no_own_fault : OwnHolds texts r → own_fault texts r ≡ None
  no_own_fault own = own_faces own.fresh own.count ∙ none_below many (face_fault texts r) own.face

  -- ---- the row as it is meant

  pub row-meant : r < length texts → row_at (meaning_of texts) r ≡ row_meant texts (text_at texts r)
  row-meant h = entry-map (row_meant texts) (record { name = []; faces = [] }) (record { name = []; dim = 0; faces = [] }) texts r h

  pub many-meant : r < length texts → length (row_at (meaning_of texts) r).faces ≡ length (text_at texts r).faces
  many-meant h = ap (λ row. length row.faces) (row-meant h) ∙ length-map text.faces (face_meant texts)

  pub dim-meant : r < length texts → (row_at (meaning_of texts) r).dim ≡ length (text_at texts r).faces - 1
  dim-meant h = ap (λ row. row.dim) (row-meant h)

  pub listed-meant : (i : ℕ) → r < length texts → i < length (text_at texts r).faces → listed_face (meaning_of texts) i r ≡ face_meant texts (face_at (text_at texts r) i)
  listed-meant i h l = ap (λ row. entry ([], 0) row.faces i) (row-meant h) ∙ entry-map (face_meant texts) (record { word = []; name = [] }) ([], 0) text.faces i l

  module _ (h : r < length texts) (own : OwnHolds texts r) where
    count-dim : (n : ℕ) → (n ≡ 0) ⊎ ((2 ≤ n) × (n ≤ 17)) → n ≡ face_count (n - 1)
    count-dim zero s = refl
    count-dim (suc zero) (inl e) = absurd (omega (arith, e))
    count-dim (suc zero) (inr l) = absurd (omega (arith, l))
    count-dim (suc (suc k)) s = let e : suc k ≡ suc (suc k) - 1 = omega arith in ap face_count e

    pub counted : length (row_at (meaning_of texts) r).faces ≡ face_count (row_at (meaning_of texts) r).dim
    counted = many-meant h ∙ count-dim many own.count ∙ ap face_count (sym (dim-meant h))

    pub low_dim : (row_at (meaning_of texts) r).dim ≤ 16
    low_dim = by own.count
      where
        by : (many ≡ 0) ⊎ ((2 ≤ many) × (many ≤ 17)) → (row_at (meaning_of texts) r).dim ≤ 16
        by (inl e) = omega (arith, dim-meant h, e)
        by (inr l) = omega (arith, dim-meant h, l)

    pub listed_before : (i : ℕ) → i < length (text_at texts r).faces → (listed_face (meaning_of texts) i r).1 < r
    listed_before i l = subst (λ (x : RowSimplex). x.1 < r) (sym (listed-meant i h l)) (face_faultless texts r i (own.face i l)).0

    -- also past the last face
    pub listed_up_to : (i : ℕ) → (listed_face (meaning_of texts) i r).1 < suc r
    listed_up_to i = by (cases_lt i many)
      where
        by : (i < many) ⊎ (many ≤ i) → (listed_face (meaning_of texts) i r).1 < suc r
        by (inl l) = let b = listed_before i l in omega (arith, b)
        by (inr l) =
            let e : listed_face (meaning_of texts) i r ≡ ([], 0) = entry-past ([], 0) (row_at (meaning_of texts) r).faces i (omega (arith, many-meant h)) in
            subst (λ (x : RowSimplex). x.1 < suc r) (sym e) (omega arith)

    pub listed_in : (n i : ℕ) → (row_at (meaning_of texts) r).dim ≡ suc n → i ≤ suc n → InTable (meaning_of texts) n (row_face (meaning_of texts) i ([], r))
    listed_in n i d k =
        let d' = dim-meant h in
        let l : i < many = omega (arith, d, d') in
        let e : many - 2 ≡ n = omega (arith, d, d') in
        let f = (face_faultless texts r i (own.face i l)).1 in
        subst (InTable (meaning_of texts) n) (sym (listed-meant i h l)) (subst (λ m. InTable (meaning_of texts) m (face_meant texts (face_at text i))) e f)
